use Rattle.std.proofs.Common.{◌*◌, ◌%◌, ap, ◌∙◌, arith, refl}
use Rattle.std.specs.Int.{IsPowerOfTwo}
use Rattle.papaya_bench_measure.proofs.Factors.{brought_back, masked, still_inverse}
use Rattle.papaya_bench_measure.proofs.plan.Plan.number_at.Goals as goal

pub returns-clause-value : goal.returns-clause-value
returns-clause-value c p =
    let keys = c.from.result in
    let power : IsPowerOfTwo keys = (p.0, c.from.ensures ∙ p.1) in
    masked keys (c.args.turn * 2654435761) power (omega arith) ∙ ap (λ x. (c.args.turn * 2654435761) % x) c.from.ensures

pub returns-clause-back : goal.returns-clause-back
returns-clause-back c p below =
    ap (λ x. (x * 14962265741255716689) % c.args.self.keys) (returns-clause-value c p)
    ∙ brought_back c.args.self.keys 2654435761 14962265741255716689 c.args.turn
    (still_inverse c.args.self.keys (2654435761 * 14962265741255716689) p (omega arith) refl) below
