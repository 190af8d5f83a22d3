use Rattle.std.proofs.Common.{◌≡◌}
use Rattle.papaya_map.specs.Collected.{AreClonedBy}
use Rattle.papaya_map.proofs.Yielded.{HasYielded}
use Rattle.papaya_map.proofs.map.HashMap.insert_clones_as.Given as goal

-- the pass is of this map, and put in clones of the entries that the iterator has yielded, and
-- nothing else
abbrev pub invariant-loop-key : goal.invariant-loop-key
invariant-loop-key g l = HasYielded g.K.PartialEq.eq l.fn.pairs l.pairs × (l.pass.book ≡ l.fn.self.book)
    × AreClonedBy g.K.PartialEq.eq g.K.Clone.is_clone g.V.Clone.is_clone l.pairs.given l.fn.pass.history l.pass.history l.fn.pass.made l.pass.made
