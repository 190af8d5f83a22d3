use Rattle.papaya_map_book.specs.Windows.{Sees}
use Rattle.papaya_map_scan.proofs.printing.add_table.Given as goal

-- At least as much has been observed.
abbrev pub invariant-loop-place : goal.invariant-loop-place
invariant-loop-place g l = Sees l.fn.window l.window
