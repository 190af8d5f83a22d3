use Rattle.std.proofs.Common.{◌≡◌}
use Rattle.papaya_map_book.specs.Windows.{Sees}
use Rattle.papaya_map_scan.proofs.root.take_root.Given as goal

-- At least as much has been observed.
abbrev pub invariant-loop : goal.invariant-loop
invariant-loop g l = record {
  sees : Sees l.fn.window l.window;
  own : l.window.own ≡ l.fn.window.own;
}
