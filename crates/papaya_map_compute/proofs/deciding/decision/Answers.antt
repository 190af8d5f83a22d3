use Rattle.std.proofs.Common.{Ok, sym, ap, ◌∙◌}
use Rattle.papaya_map_compute.specs.Deciding.{answer_of}
use Rattle.papaya_map_compute.proofs.deciding.decision.Goals as goal

pub outcome_by-requires : goal.outcome_by-requires
outcome_by-requires g c = λ k v e. c.requires k v (c.in-Ok.is ∙ ap (λ z. Ok z) e)

pub returns-in-Ok : goal.returns-in-Ok
returns-in-Ok g c = ap (λ z. Ok z) c.outcome_by.ensures ∙ sym (ap (λ z. answer_of z c.args.current c.args.spare) c.in-Ok.is)

pub returns-in-Err : goal.returns-in-Err
returns-in-Err g c = sym (ap (λ z. answer_of z c.args.current c.args.spare) c.in-Err.is)
