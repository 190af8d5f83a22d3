use Rattle.std.proofs.Common.{◌^◌, arith, refl}
use Rattle.papaya_bench_measure.proofs.Factors.{brought_back}
use Rattle.papaya_bench_measure.proofs.plan.key_of.Goals as goal

pub returns-clause-back : goal.returns-clause-back
returns-clause-back c = brought_back (2 ^ 64) 3787392781 1847824006677864389 c.args.number refl (omega arith)
