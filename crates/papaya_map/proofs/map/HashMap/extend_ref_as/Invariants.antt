use Rattle.std.proofs.Common.{◌≡◌, map}
use Rattle.papaya_seq.specs.Map.{deref_pair}
use Rattle.papaya_map.specs.Collected.{AreStored}
use Rattle.papaya_map.proofs.map.HashMap.extend_ref_as.Given as goal

-- the pass is of this map, and the entries that came were stored
abbrev pub invariant-loop-key : goal.invariant-loop-key
invariant-loop-key g l = (l.pass.book ≡ l.fn.self.book)
    × AreStored g.K.PartialEq.eq (map deref_pair l.yielded) l.fn.pass.history l.pass.history
