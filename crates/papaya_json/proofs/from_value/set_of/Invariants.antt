use Rattle.std.proofs.Common.{take}
use Rattle.std.specs.Fn.{FnReturnsAt}
use Rattle.papaya_set.specs.Sets.{entry_of_key}
use Rattle.papaya_json.specs.Arrays.{IsKey}
use Rattle.papaya_json.proofs.Filling.{IsFilled}
use Rattle.papaya_json.proofs.from_value.set_of.Given as goal

-- the set has the keys of the items so far
abbrev pub invariant-loop-item : goal.invariant-loop-item
invariant-loop-item g l = IsFilled g.K.PartialEq.eq (IsKey (FnReturnsAt g.T.Fn l.fn.key)) entry_of_key l.fn.hasher (take l.item-index l.fn.items.items) l.set
