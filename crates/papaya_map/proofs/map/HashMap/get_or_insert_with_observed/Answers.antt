use Rattle.std.proofs.Common.{◌≡◌, sym}
use Rattle.papaya_map.proofs.map.HashMap.get_or_insert_with_observed.Goals as goal

pub returns-in-Ok-clause-there : goal.returns-in-Ok-clause-there
returns-in-Ok-clause-there g c = rw c.tell.ensures.answer
    (rw c.tell.ensures.history (rw c.tell.ensures.made (rw (sym c.in-Ok.ensures.seen)
    (rw (sym c.in-Ok.ensures.made) c.get_or_insert_with-answer.ensures.there))))
