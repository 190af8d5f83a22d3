use Rattle.std.proofs.Common.{◌≡◌, ℕ, ◌*◌, ◌≤◌, ◌<◌, false, length}
use Rattle.std.specs.Prelude.{slice_index_or}
use Rattle.logbook.specs.Pages.{Named}
use Rattle.papaya_map_book.proofs.book.Book.place_hints.Given as goal

-- the numbers before this one are beside their words, and the others are fresh
abbrev pub invariant-loop-group : goal.invariant-loop-group
invariant-loop-group g l = record {
  count : length l.hints.items ≡ length l.fn.hints.items;
  beside : (j : ℕ) (d : Named) → j < l.group
      → slice_index_or l.hints.items j d ≡ slice_index_or l.slots (8 * j) (slice_index_or l.hints.items j d);
  fresh : (j : ℕ) (d : Named) → l.group ≤ j → j < length l.hints.items → (slice_index_or l.hints.items j d).tracked ≡ false;
}
