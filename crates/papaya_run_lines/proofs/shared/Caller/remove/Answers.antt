use Rattle.std.proofs.Common.{Ok, ◌∙◌, ap, sym}
use Rattle.papaya_seq.specs.Answered.{old_answered}
use Rattle.papaya_run_lines.specs.Replied.{of_removal}
use Rattle.papaya_run_lines.proofs.shared.Caller.remove.Goals as goal

pub returns-in-Ok-Some-clause-done : goal.returns-in-Ok-Some-clause-done
returns-in-Ok-Some-clause-done g c = (
  c.remove.result,
  sym (ap (λ r. of_removal (old_answered r)) (c.in-Ok-Some.is ∙ ap Ok c.in-Ok-Some.field-0-is)),
  c.remove.ensures.removed,
  c.remove.ensures.made,
)

pub returns-in-Ok-None-clause-done : goal.returns-in-Ok-None-clause-done
returns-in-Ok-None-clause-done g c = (
  c.remove.result,
  sym (ap (λ r. of_removal (old_answered r)) (c.in-Ok-None.is ∙ ap Ok c.in-Ok-None.field-0-is)),
  c.remove.ensures.removed,
  c.remove.ensures.made,
)

pub returns-in-Err-clause-done : goal.returns-in-Err-clause-done
returns-in-Err-clause-done g c = (
  c.remove.result,
  sym (ap (λ r. of_removal (old_answered r)) c.in-Err.is),
  c.remove.ensures.removed,
  c.remove.ensures.made,
)
