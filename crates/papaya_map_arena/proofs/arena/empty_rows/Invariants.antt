use Rattle.std.proofs.Common.{[], ◌∷◌, ◌≡◌, ◌≤◌, ◌<◌, ℕ, length}
use Rattle.std.specs.Prelude.{slice_index_or}
use Rattle.boxcar.specs.Slot.{Named}
use Rattle.papaya_map_arena.specs.Rows.{part_len, part_first}
use Rattle.papaya_map_arena.proofs.arena.empty_rows.Given as goal

abbrev pub invariant-loop-row : goal.invariant-loop-row
invariant-loop-row g l = (length l.rows.items ≡ l.row) × (l.row ≤ 38) × (l.first_bits ≡ l.initial.first_bits)
    × ((row : ℕ) (d : Named) → row < l.row
    → (slice_index_or l.rows.items row d).tag ≡ part_len l.first_bits row ∷ part_first l.first_bits row ∷ l.lanes)
