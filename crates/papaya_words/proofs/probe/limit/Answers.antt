use Rattle.std.proofs.Common.{◌*◌, ap, sym, arith}
use Rattle.papaya_words.proofs.Lengths.{log_is}
use Rattle.papaya_words.proofs.probe.limit.Goals as goal

-- the logarithm of a number of 64 bits is below 64
pub returns-clause-value : goal.returns-clause-value
returns-clause-value c = let log = c.ilog2.ensures in let b = log.bound in
    ap (λ y. 5 * y) (sym (log_is 63 c.ilog2.result c.args.len (omega (arith, b)) log.power_le log.next_power_gt))
