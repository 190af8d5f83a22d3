use Rattle.std.proofs.Common.{MatchOption}
use Rattle.papaya_map_book.specs.Windows.{IsTable}
use Rattle.papaya_map_scan.proofs.printing.add_all.Given as goal

-- The table that is held has this number.
abbrev pub invariant-loop : goal.invariant-loop
invariant-loop g l = MatchOption l.held (Unit {0}) (λ r. IsTable l.window l.number r.now)
