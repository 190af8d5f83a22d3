use Rattle.std.proofs.Common.{◌≡◌, map}
use Rattle.std.specs.Fn.{FnReturnsAt}
use Rattle.std.specs.Map.Iter.{deref_pair}
use Rattle.papaya_map.specs.Collected.{AreStored}
use Rattle.papaya_json.specs.Objects.{IsPair}
use Rattle.papaya_json.specs.Shared.{IsEachStored}
use Rattle.papaya_json.proofs.shared.fill.Given as goal

-- The pass is of this map, and the results of reading the members so far were stored.
abbrev pub invariant-loop-name : goal.invariant-loop-name
invariant-loop-name g l = (l.pass.book ≡ l.fn.map.book)
    × IsEachStored (IsPair (FnReturnsAt g.T.Fn l.fn.key) (FnReturnsAt g.W.Fn l.fn.value))
    (λ pairs. AreStored g.K.PartialEq.eq pairs l.fn.pass.history l.pass.history) (map deref_pair l.yielded)
