use Rattle.std.proofs.Common.{◌≡◌, ◌+◌, length}
use Rattle.std.specs.Vec.{vec_capacity}
use Rattle.papaya_map_book.specs.Sheets.{AreFresh}
use Rattle.papaya_map_book.proofs.fresh.with_fresh_hints.Given as goal

abbrev pub invariant-loop : goal.invariant-loop
invariant-loop g l = AreFresh l.hints.items × (length l.hints.items ≡ length l.fn.ahead.items + l.counter)
    × (vec_capacity l.hints ≡ vec_capacity l.fn.ahead)
