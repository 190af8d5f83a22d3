use Rattle.std.proofs.Common.{◌≡◌, Some}
use mathlib.Core.List.{IsPrefix}
use Rattle.papaya_map_book.specs.Logs.{name_in}
use Rattle.papaya_map_book.proofs.book.Book.deal.Given as goal

-- The log that has been observed has the book's name.
abbrev pub invariant-loop : goal.invariant-loop
invariant-loop g l = record {
  book : l.sight.book ≡ l.self.begun.book;
  seen : IsPrefix l.fn.sight.log l.sight.log;
  called : name_in l.sight.log ≡ Some l.self.begun.book;
}
