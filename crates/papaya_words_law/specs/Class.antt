-- What every allowed exchange preserves for one class of equal keys, in both modes and without
-- blocking. `On` says which tables are on the chain, n at how many places a search looks, S which
-- slot a place has, and V what a search for a key of the class finds there.
use Rattle.std.specs.Prelude.{◌≡◌, ◌⊎◌, ℕ, ◌<◌, true, Option, None, Some}
use Rattle.papaya_words_law.specs.Exchange.{walk}
use Rattle.papaya_words_law.specs.View.{View, Free, Here, Leaving, Gone, own, active, held, IsPassed, IsFull}

-- a link leads to a table with a greater number, and no link leads on from 0, which is no table
abbrev pub Rises : (ℕ → ℕ) → Type 0
Rises next = (t : ℕ) → (next t ≡ 0) ⊎ ((0 < t) × (t < next t))

-- The table is on the chain: it comes some links after the first one.
abbrev pub IsOn : ℕ → (ℕ → ℕ) → ℕ → Type 0
IsOn first next t = (0 < t) × ((k : ℕ) × (walk next k first ≡ t))

-- x is the slot of a place of t before which no place is empty
pub record IsFilled {P : Type 0} (n : ℕ → ℕ) (S : ℕ → ℕ → ℕ) (V : ℕ → ℕ → View P)
    (t x : ℕ) : Type 0 where
  pub at : ℕ
  pub within : at < n t
  pub is : S t at ≡ x
  pub before : (i : ℕ) → i < at → V t i ≡ Free → ⊥

-- What is preserved in both modes.
pub record IsBase {P : Type 0} (On : ℕ → Type 0) (n : ℕ → ℕ) (S : ℕ → ℕ → ℕ)
    (V : ℕ → ℕ → View P) : Type 0 where
  -- two places with the same slot look the same
  pub same_slot : (t i j : ℕ) → S t i ≡ S t j → V t i ≡ V t j
  -- a table with a word of the key is on the chain
  pub on : (t j : ℕ) → own (V t j) ≡ true → On t
  -- no place before such a word is Empty
  pub filled : (t j : ℕ) → j < n t → own (V t j) ≡ true → IsFilled n S V t (S t j)
  -- at most one slot of a table has, or had, the key's pair
  pub one : (t i j : ℕ) → i < n t → j < n t → active (V t i) ≡ true → active (V t j) ≡ true
      → S t i ≡ S t j

-- each table of the chain between t and u is full for the key
abbrev pub AllFull : {P : Type 0} → (ℕ → Type 0) → (ℕ → ℕ) → (ℕ → ℕ → View P) → ℕ → ℕ → Type 0
AllFull On n V t u = (l : ℕ) → On l → t < l → l < u → IsFull n V l

-- a search goes past each table of the chain before t
abbrev pub IsFront : {P : Type 0} → (ℕ → Type 0) → (ℕ → ℕ) → (ℕ → ℕ → View P) → ℕ → Type 0
IsFront On n V t = (l : ℕ) → On l → l < t → IsPassed n V l

-- the word w in table u is the copy of a pair that leaves table t
pub record IsCopy {P : Type 0} (On : ℕ → Type 0) (n : ℕ → ℕ) (V : ℕ → ℕ → View P) (t u : ℕ)
    (w : View P) : Type 0 where
  pub at : ℕ
  pub pair : P
  pub within : at < n t
  pub leaving : V t at ≡ Leaving pair
  pub copy : w ≡ Here pair
  pub full : AllFull On n V t u

-- a later table, to which the key's pair is copied from t, has a word of the key
pub record IsGoneTo {P : Type 0} (On : ℕ → Type 0) (n : ℕ → ℕ) (V : ℕ → ℕ → View P)
    (t : ℕ) : Type 0 where
  pub table : ℕ
  pub at : ℕ
  pub on : On table
  pub later : t < table
  pub within : at < n table
  pub word : own (V table at) ≡ true
  pub full : AllFull On n V t table

-- a search for the key finds the pair p
pub record IsOwner {P : Type 0} (On : ℕ → Type 0) (n : ℕ → ℕ) (V : ℕ → ℕ → View P)
    (p : P) : Type 0 where
  pub table : ℕ
  pub at : ℕ
  pub on : On table
  pub within : at < n table
  pub has : (V table at ≡ Here p) ⊎ (V table at ≡ Leaving p)
  pub front : IsFront On n V table

-- Without blocking, what the map has for the class: None if no table holds a pair of it.
abbrev pub IsTied : {P : Type 0} → (ℕ → Type 0) → (ℕ → ℕ) → (ℕ → ℕ → View P) → Option P → Type 0
IsTied On n V None = (t j : ℕ) → j < n t → held (V t j) ≡ true → ⊥
IsTied On n V (Some p) = IsOwner On n V p

-- What is preserved without blocking, m being the key's pair.
pub record IsIncrementalClass {P : Type 0} (On : ℕ → Type 0) (n : ℕ → ℕ) (S : ℕ → ℕ → ℕ)
    (V : ℕ → ℕ → View P) (m : Option P) : Type 0 where
  pub base : IsBase On n S V
  -- a word of the key in a table behind t is a copy of what leaves t, or a search goes past t
  pub order : (t u j : ℕ) → On t → t < u → j < n u → own (V u j) ≡ true
      → IsPassed n V t ⊎ IsCopy On n V t u (V u j)
  -- if a pair was copied from t, a later table has a word of its key
  pub gone : (t i : ℕ) (p : P) → i < n t → V t i ≡ Gone p → IsGoneTo On n V t
  pub tied : IsTied On n V m
