use Rattle.std.proofs.Common.{◌≡◌}
use Rattle.papaya_call.specs.Resizer.{IsValidResizer}
use Rattle.papaya_map_book.specs.Windows.{Observes}
use Rattle.papaya_map_change.specs.Window.Resizing.{CanResize}
use Rattle.papaya_map_change.proofs.resizing.resize.Given as goal

-- The call relies on what has been observed now.
abbrev pub invariant-loop : goal.invariant-loop
invariant-loop g l = record {
  sees : Observes l.fn.window l.window;
  valid : IsValidResizer l.resizing.machine;
  can : CanResize l.window l.resizing;
  resize : l.resizing.machine.resize ≡ l.fn.resize;
  initial : l.resizing.machine.initial ≡ l.fn.means.initial;
}
