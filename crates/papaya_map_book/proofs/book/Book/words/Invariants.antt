use Rattle.std.proofs.Common.{◌≡◌, ◌+◌, ◌-◌, length, map}
use Rattle.logbook.specs.Pages.{Named}
use Rattle.papaya_map_book.specs.Makers.{AreFrom}
use Rattle.papaya_map_book.specs.Sheets.{AllOf}
use Rattle.papaya_map_book.proofs.book.Book.words.Given as goal

-- the words so far are the next ones of the row
abbrev pub invariant-loop : goal.invariant-loop
invariant-loop g l = record {
  count : length l.words.items ≡ l.counter;
  book : l.row.book ≡ l.fn.row.book;
  next : l.row.next ≡ l.fn.row.next + l.counter;
  left : l.row.left ≡ l.fn.row.left - l.counter;
  words : AllOf l.fn.row.book l.words.items;
  keys : AreFrom (map (λ (w : Named). w.key) l.words.items) l.fn.row.next;
}
