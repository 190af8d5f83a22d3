use Rattle.std.proofs.Common.{◌≡◌, ◌+◌, length}
use Rattle.std.specs.Vec.{vec_capacity}
use Rattle.papaya_map_arena.proofs.row.write_some.Given as goal

abbrev pub invariant-loop : goal.invariant-loop
invariant-loop g l = (length l.slots.items ≡ length l.initial.slots.items + l.counter)
    × (vec_capacity l.slots ≡ vec_capacity l.initial.slots)
