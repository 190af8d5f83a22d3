use Rattle.std.proofs.Common.{[], sym}
use Rattle.std.proofs.lemmas.List.{append-nil}
use Rattle.papaya_set.proofs.set.HashSet.observe_refused.Goals as goal

pub returns-clause-seen : goal.returns-clause-seen
returns-clause-seen g c = rw c.tell.ensures.history (rw c.begun-pass.ensures.seen (rw (sym c.self.view_is) ([], append-nil c.self.inside.map.seen)))
