-- What every allowed exchange preserves for one class of equal keys with blocking. `On` says which
-- tables are on the chain, r is the root, n says at how many places a search looks, S which slot a
-- place has, and V what a search for a key of the class finds there.
use Rattle.std.specs.Prelude.{◌≡◌, ◌⊎◌, ℕ, ◌<◌, ◌≤◌, Bool, true, false, Option, None, Some}
use Rattle.papaya_words_law.specs.View.{View, Here, Leaving, own, held, HasWord}
use Rattle.papaya_words_law.specs.Class.{IsBase}

-- each table of the chain between t and u is aborted
abbrev pub AllAborted : (ℕ → Type 0) → (ℕ → Bool) → ℕ → ℕ → Type 0
AllAborted On aborted t u = (l : ℕ) → On l → t < l → l < u → aborted l ≡ true

-- the word w in table u is the copy of a pair that leaves the root r
pub record IsRootCopy {P : Type 0} (On : ℕ → Type 0) (aborted : ℕ → Bool) (n : ℕ → ℕ)
    (V : ℕ → ℕ → View P) (r u : ℕ) (w : View P) : Type 0 where
  pub at : ℕ
  pub pair : P
  pub within : at < n r
  pub leaving : V r at ≡ Leaving pair
  pub copy : w ≡ Here pair
  pub between : AllAborted On aborted r u

-- the root has the pair p
pub record IsRootOwner {P : Type 0} (n : ℕ → ℕ) (V : ℕ → ℕ → View P) (r : ℕ) (p : P) : Type 0 where
  pub at : ℕ
  pub within : at < n r
  pub has : (V r at ≡ Here p) ⊎ (V r at ≡ Leaving p)

-- With blocking, what the map has for the class: None if the root holds no pair of it.
abbrev pub IsRootTied : {P : Type 0} → (ℕ → ℕ) → (ℕ → ℕ → View P) → ℕ → Option P → Type 0
IsRootTied n V r None = (j : ℕ) → j < n r → held (V r j) ≡ true → ⊥
IsRootTied n V r (Some p) = IsRootOwner n V r p

-- What is preserved with blocking, m being the key's pair, r the root, and `was` saying which
-- tables were the root.
pub record IsBlockingClass {P : Type 0} (On : ℕ → Type 0) (was aborted : ℕ → Bool) (r : ℕ)
    (n : ℕ → ℕ) (S : ℕ → ℕ → ℕ) (V : ℕ → ℕ → View P) (m : Option P) : Type 0 where
  pub base : IsBase On n S V
  -- a word of the key in a table behind the root is a copy of what leaves the root
  pub ahead : (u j : ℕ) → r < u → j < n u → own (V u j) ≡ true
      → IsRootCopy On aborted n V r u (V u j)
  -- if a pair was marked in an earlier root, the next table that was not aborted has a word of its
  -- key
  pub handed : (t u i : ℕ) (p : P) → was t ≡ true → On u → t < u → u ≤ r → AllAborted On aborted t u
      → aborted u ≡ false → i < n t → V t i ≡ Leaving p → HasWord n V u
  pub tied : IsRootTied n V r m
