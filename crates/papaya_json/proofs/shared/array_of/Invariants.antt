use Rattle.std.proofs.Common.{map, Some}
use Rattle.std.specs.Fn.{FnReturnsAt}
use Rattle.std.specs.List.{AllZip}
use Rattle.papaya_map.proofs.Yielded.{HasYielded}
use Rattle.papaya_json.proofs.shared.array_of.Given as goal

-- the items are the function's results for the keys so far
abbrev pub invariant-loop-k : goal.invariant-loop-k
invariant-loop-k g l = HasYielded g.K.PartialEq.eq l.fn.pairs l.pairs
    × AllZip (λ k item. FnReturnsAt g.T.Fn l.fn.key k (Some item)) (map (λ e. e.0) l.pairs.given) l.items.items
