-- A value that a compute stored is one that its own closure returned: in a run in which a compute
-- stores a pair that an insertion replaces, the stored value is not free.
use Rattle.std.proofs.Common.{◌≡◌, inl, inr, ℕ, Bool, true, Option, Some, None, List, [], ◌∷◌, refl, sym, subst}
use Rattle.papaya_call.specs.declared.answers.Operation.{Operation}
use Rattle.papaya_call.specs.declared.answers.Operation.TheVariants as ops
use Rattle.papaya_call.specs.declared.ask.OpKind.TheVariants as kinds
use Rattle.papaya_call.specs.declared.ask.StepKind.TheVariants.{Claim, Replace}
use Rattle.papaya_call.specs.declared.call.Call.TheVariants.{Insert, Compute}
use Rattle.papaya_call.specs.declared.call.Reply.TheVariants.{Inserted, Replaced}
use Rattle.papaya_core_timeline.specs.declared.trace.Turn.{Turn}
use Rattle.papaya_core_timeline.specs.declared.trace.Turn.TheVariants.{Begin, Finish}
use Rattle.papaya_core_timeline.specs.declared.trace.Entry.{Entry}
use Rattle.papaya_core_timeline.specs.declared.trace.Event.{Event}
use Rattle.papaya_core_timeline.specs.declared.trace.Event.TheVariants.{Begun, Changed, Shown, Replied}
use Rattle.papaya_core_timeline.specs.Runs.{History}
use Rattle.papaya_core_store.specs.Store.{Stored}
use Rattle.papaya_core_timeline.specs.Maps.{Map}
use Rattle.papaya_core_timeline.specs.Timeline.{Answered}
use Rattle.papaya_core_timeline.specs.Given.{AreGiven, GivesIn, HasLeft}
use Rattle.papaya_core_store.specs.Store.{StoreState}
use Rattle.papaya_call.specs.Answers.{Says}

module _ {V A : Type 0} (a : A) (w v : V) where
  abbrev same : Unit {0} → Unit {0} → Bool
  same x y = true

  abbrev none : Map (Unit {0}) V
  none k = None

  abbrev first : Stored (Unit {0}) V
  first = record { number = 0; key = tt; value = v }

  abbrev second : Stored (Unit {0}) V
  second = record { number = 1; key = tt; value = w }

  abbrev one : Map (Unit {0}) V
  one k = Some first

  abbrev two : Map (Unit {0}) V
  two k = Some second

  abbrev schedule : List (Turn (Unit {0}) V A)
  schedule = Begin 0 (Compute tt a) ∷ Finish 0 100 ∷ Begin 1 (Insert tt w) ∷ Finish 1 100 ∷ []

  abbrev entry : ℕ → ℕ → Event → Entry
  entry turn caller event = record { turn = turn; caller = caller; event = event }

  abbrev trace : History
  trace = entry 3 1 (Replied (Replaced 0 1)) ∷ entry 3 1 (Changed Replace (Some 0) (Some 1)) ∷ entry 2 1 Begun
      ∷ entry 1 0 (Replied (Inserted 0)) ∷ entry 1 0 (Changed Claim None (Some 0)) ∷ entry 1 0 (Shown None kinds.Insert) ∷ entry 0 0 Begun ∷ []

  abbrev maps : List (Map (Unit {0}) V)
  maps = two ∷ two ∷ one ∷ one ∷ one ∷ none ∷ none ∷ none ∷ []

  abbrev said : Answered V
  said = None ∷ None ∷ None ∷ None ∷ None ∷ Some (ops.Insert v) ∷ None ∷ []

  module _ {S : Type 0} (says : Says (Unit {0}) V A) (store : StoreState (Unit {0}) V S) where
    -- the answers with which the call began are left for the first call of its closure
    begun_left : (a0 : A) → HasLeft says store schedule a0 0 (entry 0 0 Begun ∷ []) (None ∷ []) → a ≡ a0
    begun_left a0 (inl (own, is, had)) = cc had
    begun_left a0 (inr (inl (own, on, rest))) = absurd cc
    begun_left a0 (inr (inr (other, rest))) = absurd (other refl)

    shown_gives : (a0 a1 : A) → a ≡ a0 → GivesIn says store (Shown None kinds.Insert) (Some (ops.Insert v)) a0 a1 → says.op a None (ops.Insert v) a1
    shown_gives a0 a1 same (key, op, none, is, gives) =
        let op_is : ops.Insert v ≡ op = cc is in
        subst (λ (x : A). says.op x None (ops.Insert v) a1) (sym same)
        (subst (λ (o : Operation V ℕ). says.op a0 None o a1) (sym op_is)
        (subst (λ (k : Option (Unit {0} × V)). says.op a0 k op a1) none gives))

    pub given_value : AreGiven says store schedule trace said → (a' : A) × says.op a None (ops.Insert v) a'
    given_value (g0, (g1, (g2, (g3, (g4, (shown, rest)))))) =
        let (a0, a1, left, gives) = shown (Compute tt a) refl refl in
        (a1, shown_gives a0 a1 (begun_left a0 left) gives)
