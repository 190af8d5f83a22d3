-- The fast path of a compute: how it ends, and where the machine starts if the fast path gave up.
use Rattle.std.specs.Prelude.{◌≡◌, ℕ, ◌<◌, ◌^◌, false, true, Option, None, Some, Result, List, []}
use Rattle.std.specs.Prelude.{◌∷◌, ◌⊎◌, Bool, Err}
use mathlib.Core.List.{IsPrefix}
use Rattle.papaya_words.specs.declared.refused.Refused.{Refused}
use Rattle.papaya_words.specs.declared.refused.Refused.TheVariants.{Memory, RemoveNothing}
use Rattle.papaya_call.specs.declared.answers.Operation.{Operation}
use Rattle.papaya_call.specs.declared.answers.Operation.TheVariants as operation
use Rattle.papaya_call.specs.declared.machine.State.{State}
use Rattle.papaya_call.specs.declared.chain.machine.Phase.TheVariants.{Calling}
use Rattle.papaya_call.specs.ChainMachine.{IsValid}
use Rattle.papaya_words_keys.specs.declared.results.Compute.{Compute as Computed}
use Rattle.papaya_map_book.specs.declared.keyed.Keyed as keyed
use Rattle.papaya_map_book.specs.declared.rule.entry.Event.{Event}
use Rattle.papaya_map_book.specs.declared.rule.entry.Named.TheVariants.{Pair}
use Rattle.papaya_map_book.specs.declared.window.Window.{Window}
use Rattle.papaya_map_book.specs.Logs.{Stored}
use Rattle.papaya_map_book.specs.Parts.{begun_of}
use Rattle.papaya_map_book.specs.Sheets.{Sheet}
use Rattle.papaya_map_book.specs.Windows.{Does, IsIn, IsLawful, Sees}
use Rattle.papaya_map_lookup.specs.Drivers.{own, past}
use Rattle.papaya_map_lookup.specs.History.{Makes, history_of, key_of}
use Rattle.papaya_map_lookup.specs.declared.lookup.Met.{Met}
use Rattle.papaya_map_change.specs.Doing.{has_changed}
use Rattle.papaya_map_change.specs.Seeking.{Seeker, leads, met_by}
use Rattle.papaya_map_change.specs.Window.Seeking.{IsSeekingAt}
use Rattle.papaya_map_change.specs.ClosureCalls.{AllArguments, HasReturned, WasHeld}
use Rattle.papaya_map_change.specs.Writing.{HasKeyAt}
use Rattle.papaya_map_change.specs.declared.fast_path.ProbeHit.{ProbeHit}
use Rattle.papaya_map_compute.specs.declared.fast_path.Attempt.{Attempt}
use Rattle.papaya_map_compute.specs.declared.fast_path.Attempt.TheVariants.{Over, On}
use Rattle.papaya_map_compute.specs.declared.fast_path.Start.{Start}
use Rattle.papaya_map_compute.specs.declared.fast_path.Start.TheVariants.{Beginning, Filled, Replaced}
use Rattle.papaya_map_compute.specs.declared.fast_path.Start.TheVariants.{Removing}
use Rattle.papaya_map_compute.specs.declared.slow_path.Computing.{Computing}
use Rattle.papaya_map_compute.specs.Computing as computing
use Rattle.papaya_map_compute.specs.ComputeAnswers.{changes}
use Rattle.papaya_map_compute.specs.Computing.{IsReplied}

-- If the call is over, `P` holds of its result.
abbrev pub IfOver : {C A : Type 0} → Attempt C A → (A → Type 0) → Type 0
IfOver (Over answer) P = P answer
IfOver (On x) P = Unit {0}

-- If the call's machine goes on, `P` holds of where it does.
abbrev pub IfOn : {C A : Type 0} → Attempt C A → (C → Type 0) → Type 0
IfOn (Over answer) P = Unit {0}
IfOn (On x) P = P x

-- The compute has changed nothing yet, is not set aside, and is on a map of this initial capacity.
pub record IsAhead {K V S T H : Type 0} (initial : ℕ) (x : Computing K V S T H) : Type 0 where
  pub valid : IsValid x.writer.call.machine
  pub calling : x.writer.call.machine.phase ≡ Calling
  pub initial_is : x.writer.call.machine.call.initial ≡ initial
  pub unchanged : has_changed x.writer.call.machine ≡ false

-- Why the fast path alone may refuse: memory ran out, or there is nothing to remove.
abbrev pub IsAtOnce : Refused → Type 0
IsAtOnce cause = (cause ≡ Memory) ⊎ (cause ≡ RemoveNothing)

module _ {K V S H : Type 0} {d : keyed.Ghosts S K H} where
  -- How the fast path ends. If the call is over, it has made one change if `changed` says so of its
  -- result, and that result is right. If not, it has made no change, and its machine may start
  -- here.
  pub record ComesTo {A C : Type 0} (changed : Result A Refused → Bool)
      (is_right : Result A Refused → Type 0) (may_start : C → Type 0) (w w' : Window K V S H d)
      (first : Attempt C (Result A Refused)) : Type 0 where
    pub sees : Sees w w'
    pub lawful : IfOver first (λ answer. IsLawful w')
    pub made : IfOver first (λ answer. Makes (changed answer) (own w) (own w') (past w'))
    pub refused : (cause : Refused) → first ≡ Over (Err cause) → IsAtOnce cause
    pub right : IfOver first is_right
    pub idle : IfOn first (λ start. Does false w w')
    pub starts : IfOn first may_start

  -- This outcome leads each call of this key that began at the log `begun` to its next state.
  abbrev pub IsFoundAt : Window K V S H d → K → List (Event K V S) → Sheet → ProbeHit (Met K V) → Type 0
  IsFoundAt w key begun table turn = (who : Seeker) (state : State) → leads who turn ≡ Some state
      → IsSeekingAt who w key begun state (met_by turn) table

  -- The same on a map without a limit on pairs, where `hash` is the hash of the key.
  pub record IsSearchEnd (w : Window K V S H d) (key : K) (hash : ℕ) (begun : List (Event K V S))
      (table : Sheet) (turn : ProbeHit (Met K V)) : Type 0 where
    pub hashed : hash ≡ d.keys.hash w.book.now.parts.hasher key
    pub limit : w.book.now.parts.limit ≡ None
    pub found : IsFoundAt w key begun table turn

  -- The call holds a pair of this key's class, which is stored in the arena; `hash` is the hash of
  -- the key.
  pub record IsMade (w : Window K V S H d) (key : K) (hash : ℕ) (pair : Stored K V) : Type 0 where
    pub lawful : IsLawful w
    pub hashed : hash ≡ d.keys.hash w.book.now.parts.hasher key
    pub placed : IsIn w (Pair pair)
    pub number : pair.index < 2 ^ 48
    pub same : d.keys.eq key (key_of pair) ≡ true

  -- The pair was made to replace the one that was met, whose key it has.
  pub record IsMadeFor (w : Window K V S H d) (met : Met K V) (pair : Stored K V) : Type 0 where
    pub shown : IsIn w (Pair met.stored)
    pub kept : key_of pair ≡ key_of met.stored
    pub there : HasKeyAt w.sight.log met.place.table met.place.probe.i (key_of pair)

  -- The call holds the pair with which the closure was called, which is stored in the arena; `hash`
  -- is the hash of the key.
  pub record IsShown (w : Window K V S H d) (key : K) (hash : ℕ) (pair : Stored K V) : Type 0 where
    pub lawful : IsLawful w
    pub hashed : hash ≡ d.keys.hash w.book.now.parts.hasher key
    pub placed : IsIn w (Pair pair)

module _ {K V S T H : Type 0} {d : keyed.Ghosts S K H} where
  -- A machine of this key whose closure had the calls in `heard` can start from `start`.
  abbrev pub CanStart : Window K V S H d → K → Start K V
      → List (Option (Stored K V) × Operation V T) → Type 0
  CanStart w key (Beginning own) heard = (own ≡ key) × (heard ≡ [])
  CanStart w key (Filled hash pair) heard = IsMade w key hash pair × (key_of pair ≡ key)
      × (heard ≡ ((None, operation.Insert pair.value.value) ∷ []))
  CanStart w key (Replaced own hash met pair) heard = (own ≡ key) × IsMade w key hash pair
      × IsMadeFor w met pair
      × (heard ≡ ((Some met.stored, operation.Insert pair.value.value) ∷ []))
  CanStart w key (Removing own hash shown) heard = (own ≡ key) × IsShown w key hash shown
      × (heard ≡ ((Some shown, operation.Remove) ∷ []))

  -- The same, and whatever the closure was called with, the map had at some point since the log
  -- `begun`.
  abbrev pub CanStartSince : Window K V S H d → K → List (Event K V S) → Start K V
      → List (Option (Stored K V) × Operation V T) → Type 0
  CanStartSince w key begun start heard = CanStart w key start heard × IsPrefix begun w.sight.log
      × AllArguments (WasHeld d.keys.eq (d.keys.eq key) (history_of begun) (past w)) heard

  -- From this start the machine goes on as `x`, for each key, log and calls with which it can
  -- start.
  abbrev pub GoesFrom : (w : Window K V S H d) → Start K V → (w' : Window K V S H d)
      → Computing K V S T H → Type 0
  GoesFrom w start w' x = (key : K) (begun : List (Event K V S))
      (heard : List (Option (Stored K V) × Operation V T)) → CanStartSince w key begun start heard
      → computing.IsUnderWay d.keys.eq d.keys.hash (begun_of w'.book.now.parts)
      w'.book.now.begun.book key begun w'.sight.log x heard

  -- The machine that started here is `x`, which has changed nothing yet.
  pub record StartsAt (initial : ℕ) (w : Window K V S H d) (start : Start K V)
      (w' : Window K V S H d) (x : Computing K V S T H) : Type 0 where
    pub ahead : IsAhead initial x
    pub goes : GoesFrom w start w' x

  -- If the closure was called once, with what the search found, and returned `done`, then this is
  -- the result for each log at which the search may have begun.
  abbrev pub RepliesOnce : (w w' : Window K V S H d) → K → Sheet → ProbeHit (Met K V) → Operation V T
      → Result (Computed K V T) Refused → Type 0
  RepliesOnce w w' key table turn done answer = (begun : List (Event K V S))
      → IsFoundAt w key begun table turn
      → IsReplied d.keys.eq key (history_of begun) (past w') ((met_by turn, done) ∷ []) answer

  -- If the closure was called so and the call is not over, its machine starts from `start`.
  abbrev pub GoesOnce : (w w' : Window K V S H d) → K → Sheet → ProbeHit (Met K V) → Operation V T
      → Start K V → Type 0
  GoesOnce w w' key table turn done start = (begun : List (Event K V S))
      → IsFoundAt w key begun table turn → CanStartSince w' key begun start ((met_by turn, done) ∷ [])

  -- How the fast path ends if the closure was called once, with what the search found, and returned
  -- `done`.
  abbrev pub DoesAtOnce : (w w' : Window K V S H d) → K → Sheet → ProbeHit (Met K V) → Operation V T
      → Attempt (Start K V) (Result (Computed K V T) Refused) → Type 0
  DoesAtOnce w w' key table turn done first = ComesTo changes
      (RepliesOnce w w' key table turn done) (GoesOnce w w' key table turn done) w w' first

  -- A compute of this key that began at the log of `w` starts from `start`. Its closure was `first`
  -- when it began, and is now `left`.
  abbrev pub IsOnItsWay : {F : Type 0} → (w w' : Window K V S H d) → K
      → (F → Option (Stored K V) → Operation V T → F → Type 0) → (first left : F)
      → Start K V → Type 0
  IsOnItsWay w w' key says first left start = (heard : List (Option (Stored K V) × Operation V T))
      × CanStartSince w' key w.sight.log start heard × HasReturned says first heard left
