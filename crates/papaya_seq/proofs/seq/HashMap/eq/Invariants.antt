use Rattle.std.proofs.Common.{map}
use Rattle.std.specs.List.{AllByRecursion}
use Rattle.papaya_seq.specs.Map.{deref_pair}
use Rattle.papaya_seq.specs.Clones.{HasEqual}
use Rattle.papaya_seq.proofs.seq.HashMap.eq.Given as goal

-- each pair so far has an equal one in the other map
abbrev pub invariant-loop-key : goal.invariant-loop-key
invariant-loop-key g l = AllByRecursion (HasEqual g.K.PartialEq.eq g.V.PartialEq.eq l.other.store) (map deref_pair l.yielded)
