use Rattle.std.proofs.Common.{◌≡◌, ◌-◌, List}
use mathlib.Core.List.{IsPrefix}
use Rattle.papaya_call.specs.declared.copy.settle.Settle.TheVariants.{Looking}
use Rattle.papaya_map_book.specs.declared.rule.entry.Event.{Event}
use Rattle.papaya_map_book.specs.Windows.{Observes}
use Rattle.papaya_map_change.specs.Window.Settling.{CanStep, IsPlacedAt, StepsTo, stop_in, stop_seen}
use Rattle.papaya_map_change.specs.Settling.{at_slot}
use Rattle.papaya_map_change.proofs.copier.Copier.copy_slots.Given as goal

-- The answers so far led from the first slot to this one, by what has been observed now.
abbrev pub invariant-loop-halt : goal.invariant-loop-halt
invariant-loop-halt g l = record {
  sees : Observes l.fn.window l.window;
  mode : l.site.mode ≡ l.fn.mode;
  placed : IsPlacedAt l.window l.site;
  seen : List (Event _ _ _);
  since : IsPrefix seen l.window.sight.log;
  leads : StepsTo l.window l.site.mode (stop_in l.fn.window (at_slot l.fn.aim l.fn.chunk Looking) l.fn.self) (stop_seen seen l.site l.self);
  can : CanStep l.window l.site.mode (stop_seen seen l.site l.self);
}

-- the slots that are left
abbrev pub decreases-loop-halt : goal.decreases-loop-halt
decreases-loop-halt g l = l.site.chunk.end - l.site.chunk.at
