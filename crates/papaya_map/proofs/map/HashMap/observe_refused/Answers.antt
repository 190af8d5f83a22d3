use Rattle.std.proofs.Common.{[]}
use Rattle.std.proofs.lemmas.List.{append-nil}
use Rattle.papaya_map.proofs.map.HashMap.observe_refused.Goals as goal

pub returns-clause-seen : goal.returns-clause-seen
returns-clause-seen g c = rw c.tell.ensures.history (rw c.begun-pass.ensures.seen ([], append-nil _))
