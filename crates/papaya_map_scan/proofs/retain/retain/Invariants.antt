use Rattle.papaya_map_book.specs.Windows.{Sees}
use Rattle.papaya_map_lookup.specs.Drivers.{own}
use Rattle.papaya_map_change.specs.ClosureCalls.{Judges}
use Rattle.papaya_map_scan.specs.TableScans.{HasCalled}
use Rattle.papaya_map_scan.proofs.retain.retain.Given as goal

-- The calls of the closure so far, and the changes that they caused.
abbrev pub invariant-loop : goal.invariant-loop
invariant-loop g l = record {
  sees : Sees l.fn.window l.window;
  callable : goal.F-IsAlwaysCallable g l.stays;
  shown : (said : _) × HasCalled l.fn.window.sight.log (Judges g.F.FnMut) (own l.fn.window) l.window l.fn.stays l.stays said;
}
