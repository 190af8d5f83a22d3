-- What the turns of a schedule do, one after the other.
use Rattle.std.specs.Prelude.{◌≡◌, ℕ, zero, suc, ◌<◌, Bool, false, List, [], ◌∷◌, Option, Some, None, slice_get, ◌⊎◌}
use Rattle.papaya_call.specs.declared.call.Call.{Call}
use Rattle.papaya_call.specs.declared.call.Reply.{Reply}
use Rattle.papaya_call.specs.Answers.{Says}
use Rattle.papaya_core_timeline.specs.declared.seat.Work.{Work}
use Rattle.papaya_core_timeline.specs.declared.trace.Turn.{Turn}
use Rattle.papaya_core_timeline.specs.declared.trace.Turn.TheVariants.{Begin, Step, Finish}
use Rattle.papaya_core_timeline.specs.declared.trace.Entry.{Entry}
use Rattle.papaya_core_timeline.specs.declared.trace.Event.{Event}
use Rattle.papaya_core_timeline.specs.declared.trace.Event.TheVariants.{Begun, Replied}
use Rattle.papaya_core_timeline.specs.Core.{CoreState, work_of}
use Rattle.papaya_core_timeline.specs.Begins.{Begins}
use Rattle.papaya_core_timeline.specs.Advances.{Advances}
use Rattle.papaya_core_timeline.specs.Resizes.{Resizes}
use Rattle.papaya_core_timeline.specs.ScanGoes.{Scans}

-- a history is a trace, its newest entry first
abbrev pub History : Type 0
History = List Entry

-- a history with one more entry, of this turn and caller
abbrev pub with_event : (turn caller : ℕ) → Event → History → History
with_event turn caller event before = record { turn = turn; caller = caller; event = event }
    ∷ before

-- a history with the entries of a step: its event, and its reply if it gave one
abbrev pub with_step : (turn caller : ℕ) → Event → Option Reply → History → History
with_step turn caller event None before = with_event turn caller event before
with_step turn caller event (Some reply) before =
    with_event turn caller (Replied reply) (with_event turn caller event before)

module _ {K V S A : Type 0} (eq : K → K → Bool) (says : Says K V A) (hash : S → K → ℕ) where
  -- a turn that is passed over changes nothing and has no entry
  abbrev pub PassesOver : CoreState K V S A → History → CoreState K V S A → History → Type 0
  PassesOver s before s' after = (s' ≡ s) × (after ≡ before)

  -- one step of a caller: of its call on one key, of its call that resizes the map, or of its call
  -- that scans a table
  abbrev pub Steps : Bool → CoreState K V S A → ℕ → CoreState K V S A → Event → Option Reply → Type 0
  Steps refuse s caller s' event reply = Advances eq says hash refuse s caller s' event reply
      ⊎ Resizes eq hash refuse s caller s' event reply
      ⊎ Scans eq says hash refuse s caller s' event reply

  -- a caller that is in no call begins one, and one that is in a call is passed over
  abbrev pub BeginRuns : (turn caller : ℕ) → Call K V A → CoreState K V S A → History
      → CoreState K V S A → History → Type 0
  BeginRuns turn caller call s before s' after =
      ((work_of s caller ≡ None) × Begins (hash s.store.hasher) s caller call s'
      × (after ≡ with_event turn caller Begun before))
      ⊎ ((under_way : Work K V A) × (work_of s caller ≡ Some under_way)
      × PassesOver s before s' after)

  -- a caller that is in a call makes one step, and one that is in none is passed over
  abbrev pub StepRuns : (turn caller : ℕ) → Bool → CoreState K V S A → History → CoreState K V S A
      → History → Type 0
  StepRuns turn caller refuse s before s' after =
      ((event : Event) × (reply : Option Reply) × Steps refuse s caller s' event reply
      × (after ≡ with_step turn caller event reply before))
      ⊎ ((work_of s caller ≡ None) × PassesOver s before s' after)

  -- `steps` steps of one caller, with no memory refused by the schedule
  abbrev pub StepsRun : (turn caller steps : ℕ) → CoreState K V S A → History → CoreState K V S A
      → History → Type 0
  StepsRun turn caller zero s before s' after = PassesOver s before s' after
  StepsRun turn caller (suc steps) s before s' after =
      (middle : CoreState K V S A) × (so_far : History)
      × StepsRun turn caller steps s before middle so_far
      × StepRuns turn caller false middle so_far s' after

  abbrev pub TurnRuns : ℕ → Turn K V A → CoreState K V S A → History → CoreState K V S A → History
      → Type 0
  TurnRuns turn (Begin caller call) = BeginRuns turn caller call
  TurnRuns turn (Step caller refuse) = StepRuns turn caller refuse
  TurnRuns turn (Finish caller steps) = StepsRun turn caller steps

  -- the first n turns of a schedule
  abbrev pub TurnsRun : List (Turn K V A) → ℕ → CoreState K V S A → CoreState K V S A → History
      → Type 0
  TurnsRun schedule zero s s' history = (s' ≡ s) × (history ≡ [])
  TurnsRun schedule (suc turn) s s' history =
      (what : Turn K V A) × (middle : CoreState K V S A) × (so_far : History)
      × (slice_get schedule turn ≡ Some what) × TurnsRun schedule turn s middle so_far
      × TurnRuns turn what middle so_far s' history

  -- a turn that was cut short: some steps of a `Finish` were made, and nothing of any other turn
  abbrev pub IsCutShort : ℕ → Turn K V A → CoreState K V S A → History → CoreState K V S A → Type 0
  IsCutShort turn (Begin caller call) s before s' = s' ≡ s
  IsCutShort turn (Step caller refuse) s before s' = s' ≡ s
  IsCutShort turn (Finish caller steps) s before s' = (made : ℕ) × (made < steps)
      × (after : History) × StepsRun turn caller made s before s' after

  -- the turns before some turn of the schedule were made, and that turn was cut short
  abbrev pub StopsEarly : List (Turn K V A) → CoreState K V S A → CoreState K V S A → Type 0
  StopsEarly schedule s s' =
      (turn : ℕ) × (what : Turn K V A) × (middle : CoreState K V S A) × (so_far : History)
      × (slice_get schedule turn ≡ Some what) × TurnsRun schedule turn s middle so_far
      × IsCutShort turn what middle so_far s'
