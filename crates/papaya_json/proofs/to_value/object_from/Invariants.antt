use Rattle.std.proofs.Common.{map}
use Rattle.std.specs.Fn.{FnReturnsAt}
use Rattle.std.specs.Map.Iter.{deref_pair}
use Rattle.papaya_json.proofs.Building.{IsBuilt}
use Rattle.papaya_json.proofs.to_value.object_from.Given as goal

-- the object is that of the entries so far
abbrev pub invariant-loop-k : goal.invariant-loop-k
invariant-loop-k g l = IsBuilt (FnReturnsAt g.T.Fn l.fn.key) (FnReturnsAt g.W.Fn l.fn.value) (map deref_pair l.yielded) l.members.entries l.clash
