-- The results of closures stay the same with a longer arena.
use Rattle.std.proofs.Common.{◌≡◌, inl, inr, ℕ, Option, Some, None, List, [], ◌∷◌}
use Rattle.papaya_call.specs.Answers.{Says}
use Rattle.papaya_call.specs.declared.answers.Operation.{Operation}
use Rattle.papaya_core_timeline.specs.declared.trace.Turn.{Turn}
use Rattle.papaya_core_timeline.specs.declared.trace.Event.{Event}
use Rattle.papaya_core_timeline.specs.declared.trace.Event.TheVariants.{Begun, Changed, Moved, Asked, Shown, Gave, Other, Replied}
use Rattle.papaya_core_timeline.specs.Given.{AreGiven, GivesIn, HasLeft, IsEntryOf}
use Rattle.papaya_core_timeline.specs.Runs.{History}
use Rattle.papaya_core_store.specs.Store.{StoreState, Stored, pair_of}
use Rattle.papaya_core_timeline.specs.Timeline.{Answered}

module _ {K V S A : Type 0} (says : Says K V A) (s s' : StoreState K V S) (stay : (n : ℕ) (p : Stored K V) → pair_of s n ≡ Some p → pair_of s' n ≡ Some p) where
  entry_more : (shown : Option ℕ) (entry : Option (K × V)) → IsEntryOf says s shown entry → IsEntryOf says s' shown entry
  entry_more None entry is = is
  entry_more (Some n) entry (p, there, is) = (p, stay n p there, is)

  gives_more : (e : Event) (answered : Option (Operation V ℕ)) (a a' : A) → GivesIn says s e answered a a' → GivesIn says s' e answered a a'
  gives_more (Shown shown kind) answered a a' (entry, op, of, is, gives) = (entry, op, entry_more shown entry of, is, gives)
  gives_more (Asked n agrees) answered a a' (p, there, gives) = (p, stay n p there, gives)
  gives_more Begun answered a a' same = same
  gives_more (Changed kind old new) answered a a' same = same
  gives_more (Moved kind) answered a a' same = same
  gives_more Other answered a a' same = same
  gives_more (Gave n) answered a a' same = same
  gives_more (Replied reply) answered a a' same = same

  module _ (schedule : List (Turn K V A)) where
    pub left_more : (a' : A) (caller : ℕ) (h : History) (said : Answered V) → HasLeft says s schedule a' caller h said
        → HasLeft says s' schedule a' caller h said
    left_more a' caller [] said x = absurd x
    left_more a' caller (e ∷ before) [] x = absurd x
    left_more a' caller (e ∷ before) (answered ∷ said) (inl begun) = inl begun
    left_more a' caller (e ∷ before) (answered ∷ said) (inr (inl (own, on, (a, x, gives)))) = inr
        (inl (own, on, (a, left_more a caller before said x, gives_more e.event answered a a' gives)))
    left_more a' caller (e ∷ before) (answered ∷ said) (inr (inr (other, x))) = inr (inr (other, left_more a' caller before said x))

    pub given_more : (h : History) (said : Answered V) → AreGiven says s schedule h said → AreGiven says s' schedule h said
    given_more [] said x = tt
    given_more (e ∷ before) [] x = absurd x
    given_more (e ∷ before) (answered ∷ said) (now, x) = (
      λ call opened asks. let (a, a', left, gives) = now call opened asks in
          (a, a', left_more a e.caller before said left, gives_more e.event answered a a' gives),
      given_more before said x,
    )
