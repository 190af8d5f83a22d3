use Rattle.std.proofs.Common.{◌≡◌}
use Rattle.papaya_map_book.specs.Windows.{Sees}
use Rattle.papaya_map_book.proofs.window.Window.make_table_after.Given as goal

-- At least as much has been observed, and no number was returned.
abbrev pub invariant-loop : goal.invariant-loop
invariant-loop g l = record {
  sees : Sees l.fn.self l.self;
  own : l.self.own ≡ l.fn.self.own;
  done : l.given.done ≡ l.fn.given.done;
}
