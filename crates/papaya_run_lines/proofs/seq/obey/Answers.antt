use Rattle.std.proofs.Common.{Ok, Some, ◌∙◌, ap, sym, refl}
use Rattle.papaya_seq.specs.Answered.{old_answered}
use Rattle.papaya_run_lines.specs.Replied.{of_insertion, of_removal, of_update}
use Rattle.papaya_run_lines.proofs.SeqLemmas.{answered, followed}
use Rattle.papaya_run_lines.proofs.seq.obey.Goals as goal

pub returns-in-Ok-Some-clause-done : goal.returns-in-Ok-Some-clause-done
returns-in-Ok-Some-clause-done g c = rw c.in-Insert.is (
  old_answered c.insert.result,
  sym (ap (λ r. of_insertion (old_answered r)) (c.in-Ok-Some.is ∙ ap Ok c.in-Ok-Some.field-0-is)),
  c.insert.follows.holds-at-none.0,
)

pub returns-in-Ok-None-clause-done : goal.returns-in-Ok-None-clause-done
returns-in-Ok-None-clause-done g c = rw c.in-Insert.is (
  old_answered c.insert.result,
  sym (ap (λ r. of_insertion (old_answered r)) (c.in-Ok-None.is ∙ ap Ok c.in-Ok-None.field-0-is)),
  c.insert.follows.holds-at-none.0,
)

pub returns-in-Err-clause-done : goal.returns-in-Err-clause-done
returns-in-Err-clause-done g c = rw c.in-Insert.is
    (old_answered c.insert.result, sym (ap (λ r. of_insertion (old_answered r)) c.in-Err.is), c.insert.follows.holds-at-none.0)

pub returns-in-Some-clause-done : goal.returns-in-Some-clause-done
returns-in-Some-clause-done g c = rw c.in-Get.is (Some c.in-Some.value.now, refl, c.in-Some.ensures.answer, refl)

pub returns-in-Ok-Some-remove-clause-done : goal.returns-in-Ok-Some-remove-clause-done
returns-in-Ok-Some-remove-clause-done g c = rw c.in-Remove.is (
  old_answered c.remove.result,
  sym (ap (λ r. of_removal (old_answered r)) (c.in-Ok-Some-remove.is ∙ ap Ok c.in-Ok-Some-remove.field-0-is)),
  c.remove.follows.holds-at-none.0,
  λ single. answered c.remove.result (c.remove.ensures.never single),
)

pub returns-in-Ok-None-remove-clause-done : goal.returns-in-Ok-None-remove-clause-done
returns-in-Ok-None-remove-clause-done g c = rw c.in-Remove.is (
  old_answered c.remove.result,
  sym (ap (λ r. of_removal (old_answered r)) (c.in-Ok-None-remove.is ∙ ap Ok c.in-Ok-None-remove.field-0-is)),
  c.remove.follows.holds-at-none.0,
  λ single. answered c.remove.result (c.remove.ensures.never single),
)

pub returns-in-Err-remove-clause-done : goal.returns-in-Err-remove-clause-done
returns-in-Err-remove-clause-done g c = rw c.in-Remove.is (
  old_answered c.remove.result,
  sym (ap (λ r. of_removal (old_answered r)) c.in-Err-remove.is),
  c.remove.follows.holds-at-none.0,
  λ single.
      answered c.remove.result (c.remove.ensures.never single),
)

pub returns-in-Ok-Some-update-clause-done : goal.returns-in-Ok-Some-update-clause-done
returns-in-Ok-Some-update-clause-done g c = rw c.in-Update.is (
  old_answered c.update.result,
  sym (ap (λ r. of_update (old_answered r)) (c.in-Ok-Some-update.is ∙ ap Ok c.in-Ok-Some-update.field-0-is)),
  followed _ _ _ _ (λ shown next is. is) c.args.map.now (old_answered c.update.result) _ c.update.follows.holds-at-none.0,
)

pub returns-in-Ok-None-update-clause-done : goal.returns-in-Ok-None-update-clause-done
returns-in-Ok-None-update-clause-done g c = rw c.in-Update.is (
  old_answered c.update.result,
  sym (ap (λ r. of_update (old_answered r)) (c.in-Ok-None-update.is ∙ ap Ok c.in-Ok-None-update.field-0-is)),
  followed _ _ _ _ (λ shown next is. is) c.args.map.now (old_answered c.update.result) _ c.update.follows.holds-at-none.0,
)

pub returns-in-Err-update-clause-done : goal.returns-in-Err-update-clause-done
returns-in-Err-update-clause-done g c = rw c.in-Update.is (
  old_answered c.update.result,
  sym (ap (λ r. of_update (old_answered r)) (c.in-Err-update.is)),
  followed _ _ _ _ (λ shown next is. is)
      c.args.map.now (old_answered c.update.result) _ c.update.follows.holds-at-none.0,
)
