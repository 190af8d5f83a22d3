-- Lists of tables: counts, increasing numbers, and the tables that are in them.
use Rattle.std.proofs.Common.{◌≡◌, ℕ, zero, suc, ◌+◌, ◌<◌, ◌≤◌, ◌==◌, cond, List, [], ◌∷◌, length, get_or, refl, subst, arith}
use Rattle.std.specs.List.{Contains, count_by}
use Rattle.std.specs.List.Sorted.{IsStrictlyIncreasing}
use Rattle.std.proofs.lemmas.List.Sums.{sum_by-cons}

-- how often t is in a list
abbrev pub count : ℕ → List ℕ → ℕ
count t ts = count_by (λ u. u == t) ts

-- one more table
pub count-cons : (t u : ℕ) (ts : List ℕ) → count t (u ∷ ts) ≡ cond (u == t) 1 0 + count t ts
count-cons t u ts = sum_by-cons (λ v. cond (v == t) 1 0) u ts

-- the numbers rise, from n on
pub record IsFrom (n : ℕ) (ts : List ℕ) : Type 0 where
  pub up : IsStrictlyIncreasing ts
  pub first : 0 < length ts → n ≤ get_or ts 0 0

pub from_nil : (n : ℕ) → IsFrom n []
from_nil n = record { up = λ k lt. absurd (omega (arith, lt)); first = λ lt. absurd (omega (arith, lt)) }

-- they rise from a lower number on
pub from_lower : (n m : ℕ) (ts : List ℕ) → n ≤ m → IsFrom m ts → IsFrom n ts
from_lower n m ts le h = record { up = h.up; first = λ lt. let f = h.first lt in omega arith }

-- a number comes before greater ones
pub from_cons : (n t : ℕ) (ts : List ℕ) → n ≤ t → IsFrom (t + 1) ts → IsFrom n (t ∷ ts)
from_cons n t ts le h = record { up = rises; first = λ lt. le }
  where
    rises : IsStrictlyIncreasing (t ∷ ts)
    rises zero lt = let f : t + 1 ≤ get_or ts 0 0 = h.first (omega (arith, lt)) in omega arith
    rises (suc k) lt =
        let e : suc (k + 1) ≡ suc k + 1 = omega arith in
        let r : get_or ts k 0 < get_or ts (k + 1) 0 = h.up k (omega (arith, lt)) in
        subst (λ i. get_or ts k 0 < get_or (t ∷ ts) i 0) e r

-- the first one is in its list
pub contains_first : (t : ℕ) (ts : List ℕ) → Contains (t ∷ ts) t
contains_first t ts = (0, omega arith, refl)

-- a member of a list is a member of a longer one
pub contains_more : (t u : ℕ) (ts : List ℕ) → Contains ts u → Contains (t ∷ ts) u
contains_more t u ts (k, lt, e) = (suc k, omega (arith, lt), e)
