-- A call on a map for one caller, as a core makes it that has no other call.
use Rattle.std.specs.Prelude.{◌≡◌, ℕ, Bool, true, None, [], ◌∷◌, Result, Err}
use Rattle.papaya_words.specs.declared.refused.Refused as words
use Rattle.papaya_call.specs.declared.call.Call.{Call}
use Rattle.papaya_call.specs.declared.call.Call.TheVariants.{Compute, CopyAll, RemoveIf, Reserve}
use Rattle.papaya_call.specs.declared.call.Reply.{Reply}
use Rattle.papaya_call.specs.declared.call.Reply.TheVariants.{Refused}
use Rattle.papaya_call.specs.declared.chain.resizer.Resize.{Resize}
use Rattle.papaya_call.specs.declared.chain.resizer.Resize.TheVariants as resizes
use Rattle.papaya_core_timeline.specs.Core.{CoreState}
use Rattle.papaya_core_timeline.specs.Solo.{RunsAlone}
use Rattle.papaya_seq.specs.Map.{MapState, core_of}

-- the map as a core with one caller, whose call has ended
abbrev pub core_after : {K V S A : Type 0} → MapState K V S → CoreState K V S A
core_after s = record {
  store = s.store;
  callers = record { caller = 0; work = None } ∷ [];
  mode = s.mode;
  initial = s.initial;
}

module _ {K V S : Type 0} (eq : K → K → Bool) (hash : S → K → ℕ) where
  -- the core's call, made alone on s, replies `reply` and leaves the map s'
  pub record IsMadeAlone (s : MapState K V S) (call : Call K V (Unit {0})) (reply : Reply)
      (s' : MapState K V S) : Type 0 where
    pub runs : RunsAlone eq hash (core_of s) call reply (core_after s')

  -- The core's call is refused with `refused`, and `because` holds of the map that it leaves. This
  -- serves a result that owns a value and borrows the map: no clause states what the map is after
  -- such a call.
  pub record IsRefusedAlone (s : MapState K V S) (call : Call K V (Unit {0}))
      (refused : words.Refused) (because : MapState K V S → Type 0) : Type 0 where
    pub left : MapState K V S
    pub alone : IsMadeAlone s call (Refused refused) left
    pub cause : because left

  -- The core's call leaves the map s', with its tables, words, arena, numbers and count. If
  -- `answer` is a refusal, the core's call is refused with the same one.
  pub record IsDoneAlone {R : Type 0} (s : MapState K V S) (call : Call K V (Unit {0}))
      (answer : Result R words.Refused) (s' : MapState K V S) : Type 0 where
    pub reply : Reply
    pub alone : IsMadeAlone s call reply s'
    pub refused : (refused : words.Refused) → answer ≡ Err refused → reply ≡ Refused refused

  -- the same for the core's compute
  abbrev pub IsComputedAlone : {R : Type 0} → MapState K V S → K → Result R words.Refused
      → MapState K V S → Type 0
  IsComputedAlone s k answer s' = IsDoneAlone s (Compute k tt) answer s'

  -- the same for a call whose result is a reply
  pub record IsRepliedAlone (s : MapState K V S) (call : Call K V (Unit {0})) (reply : Reply)
      (s' : MapState K V S) : Type 0 where
    pub told : Reply
    pub alone : IsMadeAlone s call told s'
    pub refused : (refused : words.Refused) → reply ≡ Refused refused → told ≡ Refused refused

  -- the same for the core's call that resizes the map in this way
  abbrev pub IsResizedAlone : {R : Type 0} → Resize → MapState K V S → Result R words.Refused
      → MapState K V S → Type 0
  IsResizedAlone (resizes.Reserve more) s answer s' = IsDoneAlone s (Reserve more) answer s'
  IsResizedAlone resizes.CopyAll s answer s' = IsDoneAlone s CopyAll answer s'
  IsResizedAlone resizes.Chunk s answer s' = Unit {0}

  -- For each key of the map's own type that matches, the core's removal of that key gives this
  -- reply and leaves s'. Nothing is stated about what its closure returns.
  abbrev pub IsRemovalMade : (K → Bool) → MapState K V S → Reply → MapState K V S → Type 0
  IsRemovalMade matches s reply s' = (k : K) → matches k ≡ true
      → IsMadeAlone s (RemoveIf k tt) reply s'

  abbrev pub IsRemovalAlone : {R : Type 0} → (K → Bool) → MapState K V S → Result R words.Refused
      → MapState K V S → Type 0
  IsRemovalAlone matches s answer s' = (k : K) → matches k ≡ true
      → IsDoneAlone s (RemoveIf k tt) answer s'
