use Rattle.std.proofs.Common.{◌≡◌, sym}
use Rattle.papaya_map.proofs.map.HashMap.update_or_insert_observed.Goals as goal

pub returns-in-Ok-clause-upserted : goal.returns-in-Ok-clause-upserted
returns-in-Ok-clause-upserted g c = rw c.tell.ensures.answer
    (rw c.tell.ensures.history (rw (sym c.in-Ok.ensures.seen) c.update_or_insert-answer.ensures.upserted))
