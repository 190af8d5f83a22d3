-- The results of lookups on the shared map.
use Rattle.std.specs.Prelude.{◌≡◌, Bool, true, MatchOption, Option, None, Some, List}
use mathlib.Core.List.{IsPrefix}
use denote.Bor.{Bor}
use Rattle.papaya_map_lookup.specs.History.{Change, key_of, replay}
use Rattle.papaya_map_book.specs.Logs.{Stored}
use Rattle.papaya_map_lookup.specs.declared.lookup.Hit.{Hit}

-- The answer is right for some history between `old` and `new`, which extends `old` and is a prefix
-- of `new`. It is `None` if no key that matches has an entry there. Otherwise it is some `a`, a key
-- that matches has an entry `p` there, and `is_of a p` holds.
pub record IsFoundBetween {K V A : Type 0} (is_of : A → Stored K V → Type 0) (eq : K → K → Bool)
    (matches : K → Bool) (old new : List (Change K (Stored K V))) (answer : Option A)
    : Type 0 where
  pub seen : List (Change K (Stored K V))
  pub since : IsPrefix old seen
  pub until : IsPrefix seen new
  pub is : MatchOption answer
      ((k : K) → matches k ≡ true → replay eq seen k ≡ None)
      (λ a. (p : Stored K V) × (matches (key_of p) ≡ true) × (replay eq seen (key_of p) ≡ Some p)
      × is_of a p)

-- The result of a lookup of a value: a reference to the value of the entry that was found.
abbrev pub IsAnsweredBetween : {K V : Type 0} → (K → K → Bool) → (K → Bool)
    → (old new : List (Change K (Stored K V))) → Option (Bor V) → Type 0
IsAnsweredBetween = IsFoundBetween (λ value p. value.now ≡ p.value.value)

-- The result of a lookup of an entry: references to its stored key and to its value.
abbrev pub IsPairAnsweredBetween : {K V : Type 0} → (K → K → Bool) → (K → Bool)
    → (old new : List (Change K (Stored K V))) → Option (Bor K × Bor V) → Type 0
IsPairAnsweredBetween = IsFoundBetween
    (λ pair p. (pair.0.now ≡ key_of p) × (pair.1.now ≡ p.value.value))

-- The same for a lookup that also returns where it found the entry.
abbrev pub IsHitAnsweredBetween : {K V S H : Type 0} → (K → K → Bool) → (K → Bool)
    → (old new : List (Change K (Stored K V))) → Option (Hit K V S H) → Type 0
IsHitAnsweredBetween = IsFoundBetween
    (λ hit p. (hit.key.now ≡ key_of p) × (hit.value.now ≡ p.value.value))
