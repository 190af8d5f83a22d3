use Rattle.std.proofs.Common.{◌≡◌, map}
use Rattle.papaya_map.specs.Collected.{AreStored}
use Rattle.papaya_set.specs.Sets.{entry_of_key}
use Rattle.papaya_set.proofs.set.HashSet.extend_as.Given as goal

-- The pass is of this set, and the keys so far were stored.
abbrev pub invariant-loop-key : goal.invariant-loop-key
invariant-loop-key g l = (l.pass.book ≡ l.fn.self.book)
    × AreStored g.K.PartialEq.eq (map entry_of_key l.yielded) l.fn.pass.history l.pass.history
