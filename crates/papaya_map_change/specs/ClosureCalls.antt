-- The calls of a call's closure with their results, and the entries that the map had in some
-- history between two.
use Rattle.std.specs.Prelude.{◌≡◌, Bool, true, MatchOption, Option, None, Some, List, [], ◌∷◌}
use Rattle.std.specs.Fn.{Called, Mut}
use mathlib.Core.List.{IsPrefix}
use denote.Bor.{Bor}
use Rattle.papaya_call.specs.declared.answers.Operation.{Operation}
use Rattle.papaya_map_lookup.specs.History.{Change, key_of, replay}
use Rattle.papaya_map_book.specs.Logs.{Member, Stored}

-- A closure that was `f` was called with these in turn, of which the last comes first in the list.
-- Each call returned the result beside its argument, and the closure is `g` afterwards. `says`
-- states what one call may do.
abbrev pub HasReturned : {F X A : Type 0} → (F → X → A → F → Type 0) → F → List (X × A) → F → Type 0
HasReturned says f [] g = g ≡ f
HasReturned {F = F} says f (last ∷ before) g = (h : F) × HasReturned says f before h
    × says h last.0 last.1 g

-- `P` holds of each argument with which the closure was called.
abbrev pub AllArguments : {X A : Type 0} → (X → Type 0) → List (X × A) → Type 0
AllArguments P [] = Unit {0}
AllArguments P (last ∷ before) = P last.0 × AllArguments P before

-- In some history between the two, `held` was the entry of a key that matches; if it is `None`, no
-- key that matches had an entry there.
pub record WasHeld {K V : Type 0} (eq : K → K → Bool) (matches : K → Bool)
    (old new : List (Change K (Stored K V))) (held : Option (Stored K V)) : Type 0 where
  pub seen : List (Change K (Stored K V))
  pub since : IsPrefix old seen
  pub until : IsPrefix seen new
  pub is : MatchOption held
      ((k : K) → matches k ≡ true → replay eq seen k ≡ None)
      (λ p. (matches (key_of p) ≡ true) × (replay eq seen (key_of p) ≡ Some p))

module _ {K V : Type 0} where
  -- These are references to the key and the value of the entry.
  abbrev pub AreOf : Bor K × Bor V → Stored K V → Type 0
  AreOf entry p = (entry.0.now ≡ key_of p) × (entry.1.now ≡ p.value.value)

  -- Both are the same entry: they have the same number, key and value.
  abbrev pub IsSamePair : Stored K V → Stored K V → Type 0
  IsSamePair p q = (p.index ≡ q.index) × (p.value ≡ q.value)

  -- The closure was called with this very entry, and returned `answer`.
  abbrev pub WasReturned : {A : Type 0} → Stored K V → A → List (Stored K V × A) → Type 0
  WasReturned p answer said = (shown : Stored K V) × IsSamePair shown p × Member (shown, answer) said

-- The closure `f` is called with the key and the value of an entry, returns `agrees`, and is `g`
-- afterwards.
abbrev pub Judges : {F K V : Type 0} → Mut F (Bor K × (Bor V × Unit {0})) Bool → F → Stored K V
    → Bool → F → Type 0
Judges {K = K} {V = V} called f p agrees g = (key : Bor K) × (value : Bor V) × AreOf (key, value) p
    × Called called f (key, (value, tt)) agrees g

-- These are references to the key and the value of the entry, or both are `None`.
abbrev pub AreRefsTo : {K V : Type 0} → Option (Bor K × Bor V) → Option (Stored K V) → Type 0
AreRefsTo None None = Unit {0}
AreRefsTo (Some entry) (Some p) = AreOf entry p
AreRefsTo None (Some p) = ⊥
AreRefsTo (Some entry) None = ⊥

-- The closure `f` is called with an entry or with `None`, returns `operation`, and is `g`
-- afterwards.
abbrev pub Operates : {F K V T : Type 0} → Mut F (Option (Bor K × Bor V) × Unit {0}) (Operation V T)
    → F → Option (Stored K V) → Operation V T → F → Type 0
Operates {K = K} {V = V} called f held operation g = (shown : Option (Bor K × Bor V))
    × AreRefsTo shown held × Called called f (shown, tt) operation g

-- The closure was called with `x` last, and returned `a`.
abbrev pub WasLast : {X A : Type 0} → X → A → List (X × A) → Type 0
WasLast x a [] = ⊥
WasLast x a (last ∷ before) = last ≡ (x, a)

-- The closure was never called with `None`.
abbrev pub HasNoNone : {P A : Type 0} → List (Option P × A) → Type 0
HasNoNone [] = Unit {0}
HasNoNone (last ∷ before) = MatchOption last.0 ⊥ (λ p. HasNoNone before)

-- The closure was called with `None` at most once.
abbrev pub IsNoneOnce : {P A : Type 0} → List (Option P × A) → Type 0
IsNoneOnce [] = Unit {0}
IsNoneOnce (last ∷ before) = MatchOption last.0 (HasNoNone before) (λ p. IsNoneOnce before)
