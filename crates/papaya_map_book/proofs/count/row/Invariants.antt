use Rattle.std.proofs.Common.{◌≡◌, ◌≤◌, length}
use Rattle.papaya_map_book.proofs.count.row.Given as goal

-- This many shards have been made already.
abbrev pub invariant-loop : goal.invariant-loop
invariant-loop l = (length l.shards.items ≡ l.counter) × (l.counter ≤ l.len)
