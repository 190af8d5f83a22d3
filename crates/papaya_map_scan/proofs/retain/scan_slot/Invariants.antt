use Rattle.papaya_map_book.specs.Windows.{IsSlot, Sees}
use Rattle.papaya_map_change.specs.ClosureCalls.{Judges}
use Rattle.papaya_map_scan.specs.TableScans.{IsMet, IsTaken, Scans}
use Rattle.papaya_map_scan.proofs.retain.scan_slot.Given as goal

-- The word that was found last is in the slot, and names an entry that the map had.
abbrev pub invariant-loop : goal.invariant-loop
invariant-loop g l = record {
  sees : Sees l.fn.window l.window;
  callable : goal.F-IsAlwaysCallable g l.stays;
  stands : IsSlot l.fn.window l.window l.number l.place l.word l.pair;
  met : (began : _) → IsTaken began l.fn.window l.number → IsMet began l.window l.word l.pair;
  scans : (began : _) → IsTaken began l.fn.window l.number
      → Scans began (Judges g.F.FnMut) l.fn.window l.fn.stays l.window l.stays l.number l.place l.place (Unit {0});
}
