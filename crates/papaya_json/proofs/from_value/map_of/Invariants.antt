use Rattle.std.proofs.Common.{map}
use Rattle.std.specs.Fn.{FnReturnsAt}
use Rattle.std.specs.Map.Iter.{deref_pair}
use Rattle.papaya_json.specs.Objects.{IsPair}
use Rattle.papaya_json.proofs.Filling.{IsFilled}
use Rattle.papaya_json.proofs.from_value.map_of.Given as goal

-- the map has the entries of the members so far
abbrev pub invariant-loop-name : goal.invariant-loop-name
invariant-loop-name g l = IsFilled g.K.PartialEq.eq (IsPair (FnReturnsAt g.T.Fn l.fn.key) (FnReturnsAt g.W.Fn l.fn.value)) (λ p. p) l.fn.hasher
    (map deref_pair l.yielded) l.map
