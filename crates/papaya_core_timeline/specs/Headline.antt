-- The maps of a run.
use Rattle.std.specs.Prelude.{◌≡◌, Bool, List, [], ◌∷◌, None, Some}
use Rattle.papaya_call.specs.Answers.{Says}
use Rattle.papaya_call.specs.declared.call.Call.{Call}
use Rattle.papaya_core_timeline.specs.declared.trace.Turn.{Turn}
use Rattle.papaya_core_timeline.specs.declared.trace.Event.{Event}
use Rattle.papaya_core_timeline.specs.declared.trace.Event.TheVariants.{Changed}
use Rattle.papaya_core_timeline.specs.Given.{AreGiven}
use Rattle.papaya_core_timeline.specs.Core.{CoreState}
use Rattle.papaya_core_timeline.specs.Maps.{Map}
use Rattle.papaya_core_timeline.specs.Runs.{History}
use Rattle.papaya_core_store.specs.Store.{KeepsPairs, StoreState, Stored, pair_of}
use Rattle.papaya_core_timeline.specs.Timeline.{Answered, Timeline, open_call}
use Rattle.papaya_core_timeline.specs.Content.{map_of}

-- each pair of each of these maps is in the arena under its number
abbrev pub AreInArena : {K V S : Type 0} → StoreState K V S → List (Map K V) → Type 0
AreInArena store [] = Unit {0}
AreInArena {K = K} {V = V} store (m ∷ maps) = ((j : K) (p : Stored K V) → m j ≡ Some p
    → pair_of store p.number ≡ Some p) × AreInArena store maps

-- if the event puts a pair into the map, no pair of this arena has its number
abbrev pub ComesNew : {K V S : Type 0} → StoreState K V S → Event → Type 0
ComesNew store (Changed kind old (Some n)) = pair_of store n ≡ None
ComesNew store _ = Unit {0}

-- if a call that began in the run put a pair into the map, no pair of this arena has the pair's
-- number
abbrev pub AreNew : {K V S A : Type 0} → StoreState K V S → List (Turn K V A) → History → Type 0
AreNew store schedule [] = Unit {0}
AreNew {K = K} {V = V} {A = A} store schedule (e ∷ before) =
    ((call : Call K V A) → open_call schedule e.caller before ≡ Some call → ComesNew store e.event)
    × AreNew store schedule before

-- The maps of a run, one for each moment, and what closures returned in it are a legal timeline of
-- the run's history, from the map of s to the map of s'. Each pair of these maps is in the arena of
-- s' under its number. What closures returned is what the answers of their calls give. Each pair
-- that comes has a new number, and each pair in the arena of s stays in that of s'.
pub record HasTimeline {K V S A : Type 0} (eq : K → K → Bool) (says : Says K V A)
    (schedule : List (Turn K V A)) (s : CoreState K V S A) (h : History)
    (s' : CoreState K V S A) : Type 0 where
  pub last : Map K V
  pub maps : List (Map K V)
  pub said : Answered V
  pub timeline : Timeline eq schedule (map_of eq s) h (last ∷ maps) said
  pub is_last : (j : K) → last j ≡ map_of eq s' j
  pub logged : AreInArena s'.store (last ∷ maps)
  pub given : AreGiven says s'.store schedule h said
  pub fresh : AreNew s.store schedule h
  pub keeps : KeepsPairs s.store s'.store
