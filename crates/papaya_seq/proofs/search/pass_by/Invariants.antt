use Rattle.std.specs.Prelude.{◌≡◌, ◌≤◌, ℕ, Some, length}
use Rattle.papaya_call.specs.Search.{IsWithin}
use Rattle.papaya_core_store.specs.Tables.{table_of}
use Rattle.papaya_seq.specs.Searches.{left_at, passed_by}
use Rattle.papaya_seq.proofs.search.pass_by.Given as goal

-- the hints from the first place on give the same step as those from this place on
abbrev pub invariant-loop-next : goal.invariant-loop-next
invariant-loop-next g l = ((n : ℕ) → (all : ℕ) × (passed_by l.store l.hash n l.place ≡ passed_by l.store l.hash all l.fn.at))
    × IsWithin l.place × (left_at l.place ≤ left_at l.fn.at)
    × (table_of l.store.words.tables l.place.table ≡ Some l.table) × (length l.table.slots ≡ l.place.len)

-- the answers that are left to the search
abbrev pub decreases-loop-next : goal.decreases-loop-next
decreases-loop-next g l = left_at l.place
