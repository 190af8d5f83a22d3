use Rattle.std.proofs.Common.{◌≡◌, ◌≢◌, ℕ, ◌<◌, Some, slice_get}
use Rattle.papaya_core_timeline.specs.declared.seat.Seat.{Seat}
use Rattle.papaya_core.proofs.callers.place_of.Given as goal

-- no seat so far is the caller's
abbrev pub invariant-loop-place : goal.invariant-loop-place
invariant-loop-place g l = (i : ℕ) (seat : Seat _ _ _) → i < l.place → slice_get l.seats i ≡ Some seat → seat.caller ≢ l.caller
