use Rattle.std.proofs.Common.{◌≡◌, sym}
use Rattle.papaya_map.proofs.map.HashMapRef.update_or_insert_observed.Goals as goal

pub returns-clause-upserted : goal.returns-clause-upserted
returns-clause-upserted g c = rw c.tell.ensures.answer
    (rw c.tell.ensures.history (rw (sym c.begun_session-session.ensures.seen) c.update_or_insert-answer.ensures.upserted))
