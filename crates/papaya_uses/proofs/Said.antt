-- Facts that hold of each result of a closure.
use Rattle.std.proofs.Common.{List, [], ◌∷◌, inl, inr, sym, subst}
use Rattle.papaya.specs.Threads.{AllArguments, HasReturned, Member}

-- a property of all arguments holds of each of them
pub shown_each : {X A : Type 0} (P : X → Type 0) (said : List (X × A)) (x : X) (a : A) → AllArguments P said → Member (x, a) said → P x
shown_each P [] x a all m = absurd m
shown_each P (last ∷ before) x a all (inl is) = let Q : _ × _ → Type 0 = λ z. P z.0 in subst Q (sym is) all.0
shown_each P (last ∷ before) x a all (inr m) = shown_each P before x a all.1 m

module _ {F X A : Type 0} (says : F → X → A → F → Type 0) (holds : F → Type 0) (P : X → A → Type 0)
    (step : (f : F) (x : X) (a : A) (g : F) → holds f → says f x a g → holds g × P x a) (first : F) (at_first : holds first) where
  -- a property that each call of the closure preserves holds after all of them
  holds_then : (said : List (X × A)) (g : F) → HasReturned says first said g → holds g
  holds_then [] g h = subst holds (sym h) at_first
  holds_then (last ∷ before) g h = (step h.0 last.0 last.1 g (holds_then before h.0 h.1) h.2).0

  -- a property of each result that the closure may return from such a state holds of the results
  pub said_each : (said : List (X × A)) (g : F) → HasReturned says first said g → (x : X) (a : A) → Member (x, a) said → P x a
  said_each [] g h x a m = absurd m
  said_each (last ∷ before) g h x a (inl is) = let Q : _ × _ → Type 0 = λ z. P z.0 z.1 in
      subst Q (sym is) (step h.0 last.0 last.1 g (holds_then before h.0 h.1) h.2).1
  said_each (last ∷ before) g h x a (inr m) = said_each before h.0 h.1 x a m
