use Rattle.std.proofs.Common.{◌≡◌, ◌+◌, length, replicate}
use Rattle.std.specs.Vec.{vec_capacity}
use Rattle.papaya_words.proofs.fresh.with_more.Given as goal

abbrev pub invariant-loop : goal.invariant-loop
invariant-loop g l = (l.items.items ≡ replicate (length l.fn.ahead.items + l.counter) l.fn.item)
    × (vec_capacity l.items ≡ vec_capacity l.fn.ahead)
