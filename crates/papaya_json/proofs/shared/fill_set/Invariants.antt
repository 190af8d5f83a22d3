use Rattle.std.proofs.Common.{◌≡◌, map, take}
use Rattle.std.specs.Fn.{FnReturnsAt}
use Rattle.papaya_map.specs.Collected.{AreStored}
use Rattle.papaya_set.specs.Sets.{entry_of_key}
use Rattle.papaya_json.specs.Arrays.{IsKey}
use Rattle.papaya_json.specs.Shared.{IsEachStored}
use Rattle.papaya_json.proofs.shared.fill_set.Given as goal

-- The pass is of this set's map, and a key was read from each of the items so far and stored.
abbrev pub invariant-loop-item : goal.invariant-loop-item
invariant-loop-item g l = (l.pass.book ≡ l.fn.set.book) × IsEachStored (IsKey (FnReturnsAt g.T.Fn l.fn.key))
    (λ keys. AreStored g.K.PartialEq.eq (map entry_of_key keys) l.fn.pass.history l.pass.history) (take l.item-index l.fn.items.items)
