use Rattle.papaya_map_book.specs.Windows.{Sees}
use Rattle.papaya_map_change.specs.ClosureCalls.{Judges}
use Rattle.papaya_map_scan.specs.TableScans.{IsTaken, Scans}
use Rattle.papaya_map_scan.proofs.retain.scan_table.Given as goal

-- The slots that were scanned so far.
abbrev pub invariant-loop-place : goal.invariant-loop-place
invariant-loop-place g l = record {
  sees : Sees l.fn.window l.window;
  callable : goal.F-IsAlwaysCallable g l.stays;
  scans : (began : _) → IsTaken began l.fn.window l.number
      → Scans began (Judges g.F.FnMut) l.fn.window l.fn.stays l.window l.stays l.number 0 l.place (Unit {0});
}
