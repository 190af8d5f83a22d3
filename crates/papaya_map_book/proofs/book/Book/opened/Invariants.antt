use Rattle.std.proofs.Common.{◌≡◌}
use Rattle.papaya_map_book.proofs.book.Book.opened.Given as goal

-- The parts are returned unchanged.
abbrev pub invariant-loop : goal.invariant-loop
invariant-loop g l = l.parts ≡ l.fn.parts
