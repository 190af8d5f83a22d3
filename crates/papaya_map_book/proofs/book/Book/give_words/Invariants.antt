use Rattle.std.proofs.Common.{◌≡◌, ℕ, ◌+◌, ◌-◌, ◌≤◌, ◌<◌, false, length, map, take}
use Rattle.std.specs.Prelude.{slice_index_or}
use Rattle.logbook.specs.Pages.{Named}
use Rattle.papaya_map_book.specs.Makers.{AreFrom}
use Rattle.papaya_map_book.specs.Sheets.{AllOf}
use Rattle.papaya_map_book.proofs.book.Book.give_words.Given as goal

-- the slots up to this place have the next words of the row, and the others are fresh
abbrev pub invariant-loop-place : goal.invariant-loop-place
invariant-loop-place g l = record {
  count : length l.slots.items ≡ length l.fn.slots.items;
  book : l.row.book ≡ l.fn.row.book;
  next : l.row.next ≡ l.fn.row.next + l.place;
  left : l.row.left ≡ l.fn.row.left - l.place;
  words : AllOf l.fn.row.book (take l.place l.slots.items);
  keys : AreFrom (map (λ (w : Named). w.key) (take l.place l.slots.items)) l.fn.row.next;
  fresh : (place : ℕ) (d : Named) → l.place ≤ place → place < length l.slots.items
      → (slice_index_or l.slots.items place d).tracked ≡ false;
}
