use Rattle.std.proofs.Common.{Ok, ◌∙◌, ap, sym}
use Rattle.papaya_seq.specs.Answered.{old_answered}
use Rattle.papaya_run_lines.specs.Replied.{of_update}
use Rattle.papaya_run_lines.proofs.SharedLemmas.{followed, plain}
use Rattle.papaya_run_lines.proofs.shared.Caller.update.Goals as goal

pub returns-in-Ok-Some-clause-done : goal.returns-in-Ok-Some-clause-done
returns-in-Ok-Some-clause-done g c = (
  c.update.result,
  sym (ap (λ r. of_update (old_answered r)) (c.in-Ok-Some.is ∙ ap Ok c.in-Ok-Some.field-0-is)),
  followed c.args.key _ _ (λ shown next is. is) c.args.self.now.session.history c.update.new.self.history c.update.result c.update.ensures.updated,
  plain _ _ c.update.result c.args.self.now.unlimited c.update.ensures.refused,
  c.update.ensures.made,
)

pub returns-in-Ok-None-clause-done : goal.returns-in-Ok-None-clause-done
returns-in-Ok-None-clause-done g c = (
  c.update.result,
  sym (ap (λ r. of_update (old_answered r)) (c.in-Ok-None.is ∙ ap Ok c.in-Ok-None.field-0-is)),
  followed c.args.key _ _ (λ shown next is. is) c.args.self.now.session.history c.update.new.self.history c.update.result c.update.ensures.updated,
  plain _ _ c.update.result c.args.self.now.unlimited c.update.ensures.refused,
  c.update.ensures.made,
)

pub returns-in-Err-clause-done : goal.returns-in-Err-clause-done
returns-in-Err-clause-done g c = (
  c.update.result,
  sym (ap (λ r. of_update (old_answered r)) c.in-Err.is),
  followed c.args.key _ _ (λ shown next is. is) c.args.self.now.session.history c.update.new.self.history c.update.result c.update.ensures.updated,
  plain _ _ c.update.result c.args.self.now.unlimited c.update.ensures.refused,
  c.update.ensures.made,
)
