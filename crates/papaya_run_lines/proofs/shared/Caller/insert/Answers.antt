use Rattle.std.proofs.Common.{Ok, ◌∙◌, ap, sym}
use Rattle.papaya_seq.specs.Answered.{old_answered}
use Rattle.papaya_run_lines.specs.Replied.{of_insertion}
use Rattle.papaya_run_lines.proofs.SharedLemmas.{plain}
use Rattle.papaya_run_lines.proofs.shared.Caller.insert.Goals as goal

pub returns-in-Ok-Some-clause-done : goal.returns-in-Ok-Some-clause-done
returns-in-Ok-Some-clause-done g c = (
  c.insert.result,
  sym (ap (λ r. of_insertion (old_answered r)) (c.in-Ok-Some.is ∙ ap Ok c.in-Ok-Some.field-0-is)),
  c.insert.ensures.put,
  plain _ _ c.insert.result c.args.self.now.unlimited c.insert.ensures.refused,
  c.insert.ensures.made,
)

pub returns-in-Ok-None-clause-done : goal.returns-in-Ok-None-clause-done
returns-in-Ok-None-clause-done g c = (
  c.insert.result,
  sym (ap (λ r. of_insertion (old_answered r)) (c.in-Ok-None.is ∙ ap Ok c.in-Ok-None.field-0-is)),
  c.insert.ensures.put,
  plain _ _ c.insert.result c.args.self.now.unlimited c.insert.ensures.refused,
  c.insert.ensures.made,
)

pub returns-in-Err-clause-done : goal.returns-in-Err-clause-done
returns-in-Err-clause-done g c = (
  c.insert.result,
  sym (ap (λ r. of_insertion (old_answered r)) c.in-Err.is),
  c.insert.ensures.put,
  plain _ _ c.insert.result c.args.self.now.unlimited c.insert.ensures.refused,
  c.insert.ensures.made,
)
