use Rattle.std.proofs.Common.{◌≡◌, ◌+◌, ◌≤◌, ◌<◌, ◌/◌, ◌%◌, ℕ, length}
use Rattle.std.specs.Prelude.{slice_index_or}
use Rattle.std.specs.Vec.{vec_capacity}
use Rattle.papaya_map_cells.specs.Slots.{Named}
use Rattle.papaya_map_arena.proofs.row.new_row.Given as goal

abbrev pub invariant-loop-place : goal.invariant-loop-place
invariant-loop-place g l = (length l.row.items ≡ l.written) × (l.written ≤ l.len)
    × (l.len ≤ vec_capacity l.row)
    × ((place : ℕ) (d : Named) → place < l.place
    → ((slice_index_or l.row.items place d).counter ≡ slice_index_or l.lanes (place / l.part) 0)
    × ((slice_index_or l.row.items place d).number ≡ l.first + place % l.part))

abbrev pub invariant-loop-place-2 : goal.invariant-loop-place-2
invariant-loop-place-2 g l = (length l.row.items ≡ l.place) × (l.place ≤ l.len)
    × (l.len ≤ vec_capacity l.row)
    × ((place : ℕ) (d : Named) → place < l.place
    → ((slice_index_or l.row.items place d).counter ≡ slice_index_or l.lanes (place / l.part) 0)
    × ((slice_index_or l.row.items place d).number ≡ l.first + place % l.part))
