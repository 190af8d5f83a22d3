use Rattle.std.proofs.Common.{◌≡◌}
use Rattle.papaya_map_book.specs.Windows.{Observes}
use Rattle.papaya_map_change.specs.Seeking.{left_at}
use Rattle.papaya_map_change.specs.Window.Settling.{CanStepAt, IsAt, IsPlacedAt, StepsTo, looking, stop_at}
use Rattle.papaya_map_change.proofs.copier.Copier.seek.Given as goal

-- The answers so far led from the first place to this one.
abbrev pub invariant-loop-next : goal.invariant-loop-next
invariant-loop-next g l = record {
  sees : Observes l.fn.window l.window;
  placed : IsPlacedAt l.window l.site;
  at : IsAt l.window l.moving;
  can : CanStepAt l.window l.site (looking l.moving) l.self;
  leads : StepsTo l.window l.site.mode (stop_at l.fn.window l.site (looking l.fn.first) l.fn.self)
      (stop_at l.window l.site (looking l.moving) l.self);
}

-- the places that are left
abbrev pub decreases-loop-next : goal.decreases-loop-next
decreases-loop-next g l = left_at l.moving.place
