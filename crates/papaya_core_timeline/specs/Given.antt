-- What closures returned in a run: each call of a closure returns what the answers of its own call
-- give for its argument.
use Rattle.std.specs.Prelude.{◌≡◌, ◌≢◌, ℕ, Bool, true, false, List, [], ◌∷◌, Option, Some, None, slice_get, ◌⊎◌}
use Rattle.papaya_call.specs.Answers.{Says}
use Rattle.papaya_call.specs.declared.answers.Operation.{Operation}
use Rattle.papaya_call.specs.declared.call.Call.{Call}
use Rattle.papaya_core_timeline.specs.declared.trace.Turn.{Turn}
use Rattle.papaya_core_timeline.specs.declared.trace.Event.{Event}
use Rattle.papaya_core_timeline.specs.declared.trace.Event.TheVariants.{Begun, Asked, Shown}
use Rattle.papaya_core_timeline.specs.Begins.{answers_of_call}
use Rattle.papaya_core_timeline.specs.Runs.{History}
use Rattle.papaya_core_store.specs.Store.{StoreState, Stored, pair_of}
use Rattle.papaya_core_timeline.specs.Timeline.{Answered, begins, begun_by, open_call}

-- whether the event is a call of a closure
abbrev pub asks_closure : Event → Bool
asks_closure (Asked n agrees) = true
asks_closure (Shown shown kind) = true
asks_closure _ = false

-- the answers of the closure of a call that begins
abbrev pub begun_answers : {K V A : Type 0} → Option (Call K V A) → Option A
begun_answers None = None
begun_answers (Some call) = answers_of_call call

module _ {K V S A : Type 0} (says : Says K V A) (store : StoreState K V S) where
  -- `entry` is what a closure is called with: the key and the value of the pair of number n, or
  -- None
  abbrev pub IsEntryOf : Option ℕ → Option (K × V) → Type 0
  IsEntryOf None entry = entry ≡ None
  IsEntryOf (Some n) entry = (p : Stored K V) × (pair_of store n ≡ Some p)
      × (entry ≡ Some (p.key, p.value))

  -- If the event is a call of a closure, the answers a give what it returned, and a' is what is
  -- left of them. Other events leave the answers as they are.
  abbrev pub GivesIn : Event → Option (Operation V ℕ) → A → A → Type 0
  GivesIn (Shown shown kind) answered a a' = (entry : Option (K × V)) × (op : Operation V ℕ)
      × IsEntryOf shown entry × (answered ≡ Some op) × says.op a entry op a'
  GivesIn (Asked n agrees) answered a a' = (p : Stored K V) × (pair_of store n ≡ Some p)
      × says.yes a p.key p.value agrees a'
  GivesIn _ answered a a' = a' ≡ a

  module _ (schedule : List (Turn K V A)) where
    -- The closure of a caller's call has the answers a' left after a history: those with which the
    -- call began, less those that were used since.
    abbrev pub HasLeft : A → ℕ → History → Answered V → Type 0
    HasLeft a' caller [] said = ⊥
    HasLeft a' caller (e ∷ before) [] = ⊥
    HasLeft a' caller (e ∷ before) (answered ∷ said) =
        ((e.caller ≡ caller) × (e.event ≡ Begun)
        × (begun_answers (begun_by (slice_get schedule e.turn)) ≡ Some a'))
        ⊎ ((e.caller ≡ caller) × (begins e.event ≡ false)
        × ((a : A) × HasLeft a caller before said × GivesIn e.event answered a a'))
        ⊎ ((e.caller ≢ caller) × HasLeft a' caller before said)

    -- If a call began in the run, each call of its closure returned what the answers that were left
    -- give. Nothing is said about calls that began before the run.
    abbrev pub AreGiven : History → Answered V → Type 0
    AreGiven [] said = Unit {0}
    AreGiven (e ∷ before) [] = ⊥
    AreGiven (e ∷ before) (answered ∷ said) =
        ((call : Call K V A) → open_call schedule e.caller before ≡ Some call
        → asks_closure e.event ≡ true → (a : A) × (a' : A) × HasLeft a e.caller before said
        × GivesIn e.event answered a a')
        × AreGiven before said
