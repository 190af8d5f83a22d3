-- Calls that leave the map as it was if they are refused: those on a key, and those that resize the
-- map.
use Rattle.std.proofs.Common.{◌≡◌, ℕ, None, Some, refl, sym, ◌∙◌, ap}
use Rattle.papaya_core_store.specs.declared.store.Mode.{Mode}
use Rattle.papaya_call.specs.declared.call.Call.{Call}
use Rattle.papaya_call.specs.declared.call.Call.TheVariants.{Get, Insert, TryInsert, RemoveIf, Compute, Reserve, CopyAll, Clear, Retain, Walk}
use Rattle.papaya_call.specs.declared.chain.resizer.Resizer.{Resizer}
use Rattle.papaya_core_timeline.specs.declared.seat.Work.{Work}
use Rattle.papaya_core_timeline.specs.declared.seat.Work.TheVariants as works
use Rattle.papaya_core_timeline.specs.Begins.{begun_work}
use Rattle.papaya_core_timeline.specs.Callers.{resizer_in}
use Rattle.papaya_core_timeline.specs.Maps.{Map, Same, key_of}
use Rattle.papaya_core_timeline.specs.Solo.{IsDoneBy, IsLeftBy}

module _ {K V A : Type 0} where
  pub left_same : (call : Call K V A) (k : K) → key_of call ≡ Some k → (m m' : Map K V) → IsLeftBy call m m' → Same m m'
  left_same (Get j) k keyed m m' left = left
  left_same (Insert j v) k keyed m m' left = left
  left_same (TryInsert j v) k keyed m m' left = left
  left_same (RemoveIf j a) k keyed m m' left = left
  left_same (Compute j a) k keyed m m' left = left
  left_same (Reserve more) k keyed m m' left = left
  left_same CopyAll k keyed m m' left = left
  left_same Clear k keyed m m' left = let f : None ≡ Some k = keyed in absurd cc
  left_same (Retain a) k keyed m m' left = let f : None ≡ Some k = keyed in absurd cc
  left_same Walk k keyed m m' left = left

  pub same_left : (call : Call K V A) (k : K) → key_of call ≡ Some k → (m m' : Map K V) → Same m m' → IsLeftBy call m m'
  same_left (Get j) k keyed m m' same = same
  same_left (Insert j v) k keyed m m' same = same
  same_left (TryInsert j v) k keyed m m' same = same
  same_left (RemoveIf j a) k keyed m m' same = same
  same_left (Compute j a) k keyed m m' same = same
  same_left (Reserve more) k keyed m m' same = same
  same_left CopyAll k keyed m m' same = same
  same_left Clear k keyed m m' same = let f : None ≡ Some k = keyed in absurd cc
  same_left (Retain a) k keyed m m' same = let f : None ≡ Some k = keyed in absurd cc
  same_left Walk k keyed m m' same = same

  -- a call that begins a scan begins no resize
  no_resize : (w : Work K V A) (z : Resizer) → resizer_in (Some w) ≡ None → w ≡ works.Resize z → ⊥
  no_resize w z none is = let f : None ≡ Some z = sym none ∙ ap (λ (x : Work K V A). resizer_in (Some x)) is in absurd cc

  pub resized_same : (hash : K → ℕ) (mode : Mode) (initial number : ℕ) (call : Call K V A) (z : Resizer)
      → begun_work hash mode initial number call ≡ works.Resize z → (m m' : Map K V) → (IsLeftBy call m m' → Same m m') × (IsDoneBy call m m' → Same m m')
  resized_same hash mode initial number (Get j) z is m m' = (λ h. h, λ h. h)
  resized_same hash mode initial number (Insert j v) z is m m' = (λ h. h, λ h. h)
  resized_same hash mode initial number (TryInsert j v) z is m m' = (λ h. h, λ h. h)
  resized_same hash mode initial number (RemoveIf j a) z is m m' = (λ h. h, λ h. h)
  resized_same hash mode initial number (Compute j a) z is m m' = (λ h. h, λ h. h)
  resized_same hash mode initial number (Reserve more) z is m m' = (λ h. h, λ h. h)
  resized_same hash mode initial number CopyAll z is m m' = (λ h. h, λ h. h)
  resized_same hash mode initial number Clear z is m m' = absurd (no_resize (begun_work hash mode initial number Clear) z refl is)
  resized_same hash mode initial number (Retain a) z is m m' = absurd (no_resize (begun_work hash mode initial number (Retain a)) z refl is)
  resized_same hash mode initial number Walk z is m m' = (λ h. h, λ h. h)
