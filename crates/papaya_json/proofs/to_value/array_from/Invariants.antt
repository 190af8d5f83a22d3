use Rattle.std.proofs.Common.{map, Some}
use Rattle.std.specs.Fn.{FnReturnsAt}
use Rattle.std.specs.List.{AllZip}
use Rattle.papaya_json.proofs.to_value.array_from.Given as goal

-- The items are the function's results for the keys so far.
abbrev pub invariant-loop-k : goal.invariant-loop-k
invariant-loop-k g l = AllZip (λ k item. FnReturnsAt g.T.Fn l.fn.key k (Some item)) (map (λ k. k.now) l.yielded) l.items.items
