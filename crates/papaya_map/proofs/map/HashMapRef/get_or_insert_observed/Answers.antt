use Rattle.std.proofs.Common.{sym}
use Rattle.papaya_map.proofs.map.HashMapRef.get_or_insert_observed.Goals as goal

pub returns-clause-there : goal.returns-clause-there
returns-clause-there g c = rw c.tell.ensures.answer
    (rw c.tell.ensures.history (rw c.tell.ensures.made (rw (sym c.begun_session-session.ensures.seen)
    (rw (sym c.begun_session-session.ensures.made) c.get_or_insert-answer.ensures.there))))
