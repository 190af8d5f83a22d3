-- How many slots of a table a search may still load.
use Rattle.std.proofs.Common.{◌≡◌, ◌⊎◌, inl, inr, ⊎_elim, ℕ, ◌+◌, ◌<◌, ◌≤◌, ◌==◌, nat_lt, Bool, cond, true, false, refl, ◌∙◌, arith}
use Rattle.std.proofs.lemmas.Bool.{cases_order, cases_Bool, cond-true, cond-false, eqb-true, lt-ltb, ltb-true, eq-eqb, cases_lt}

-- how much one load of table u adds to those of t
abbrev pub once : (t u : ℕ) → ℕ
once t u = cond (u == t) 1 0

-- a property of both of two values holds of the one that is chosen
pub chosen : {A : Type 0} (P : A → Type 0) (b : Bool) (x y : A) → (b ≡ true → P x) → (b ≡ false → P y) → P (cond b x y)
chosen P true x y f g = f refl
chosen P false x y f g = g refl

module _ (limit : ℕ → ℕ) where
  -- the number of slots of t that may still be loaded if a search of table u may load this many
  -- more of u
  abbrev pub left_in : (t u more : ℕ) → ℕ
  left_in t u more = cond (u == t) more (cond (nat_lt u t) (limit t + 1) 0)

  module _ (t u : ℕ) where
    equal : u ≡ t → (u == t) ≡ true
    equal e = eq-eqb u t e

    other : (u < t) ⊎ (t < u) → (u == t) ≡ false
    other lt = ⊎_elim (λ (b : (u == t) ≡ true). absurd (let e = eqb-true u t b in ⊎_elim (λ l. omega arith) (λ l. omega arith) lt)) (λ b. b)
        (cases_Bool (u == t))

    -- a load of u counts for t if they are the same
    one : u ≡ t → once t u ≡ 1
    one e = cond-true (u == t) 1 0 (equal e)

    none : (u < t) ⊎ (t < u) → once t u ≡ 0
    none lt = cond-false (u == t) 1 0 (other lt)

    -- for u itself
    left_same : (x : ℕ) → u ≡ t → left_in t u x ≡ x
    left_same x e = cond-true (u == t) x (cond (nat_lt u t) (limit t + 1) 0) (equal e)

    -- for a table that comes later
    left_before : (x : ℕ) → u < t → left_in t u x ≡ limit t + 1
    left_before x lt = cond-false (u == t) x (cond (nat_lt u t) (limit t + 1) 0) (other (inl lt)) ∙ cond-true (nat_lt u t) (limit t + 1) 0 (lt-ltb u t lt)

    -- for one that was passed
    left_after : (x : ℕ) → t < u → left_in t u x ≡ 0
    left_after x lt =
        cond-false (u == t) x (cond (nat_lt u t) (limit t + 1) 0) (other (inr lt))
        ∙ cond-false (nat_lt u t) (limit t + 1) 0
        (⊎_elim (λ (b : nat_lt u t ≡ true). absurd (let l = ltb-true u t b in omega arith)) (λ b. b) (cases_Bool (nat_lt u t)))

    -- never more than a whole search
    pub left_most : (x : ℕ) → (u ≡ t → x ≤ limit t + 1) → left_in t u x ≤ limit t + 1
    left_most x le =
        ⊎_elim
        (λ (e : u ≡ t). let s = left_same x e in let l = le e in omega arith)
        (⊎_elim (λ (l : u < t). let s = left_before x l in omega arith) (λ (l : t < u). let s = left_after x l in omega arith))
        (cases_order u t)

    -- no more than before
    pub left_less : (x y : ℕ) → (u ≡ t → x ≤ y) → left_in t u x ≤ left_in t u y
    left_less x y le =
        ⊎_elim
        (λ (e : u ≡ t). let a = left_same x e in let b = left_same y e in let l = le e in omega arith)
        (⊎_elim
        (λ (l : u < t). let a = left_before x l in let b = left_before y l in omega arith)
        (λ (l : t < u). let a = left_after x l in omega arith))
        (cases_order u t)

    -- one fewer after a load
    pub left_loaded : (x y : ℕ) → x + 1 ≤ y → once t u + left_in t u x ≤ left_in t u y
    left_loaded x y le =
        ⊎_elim
        (λ (e : u ≡ t). let a = left_same x e in let b = left_same y e in let q = one e in omega arith)
        (⊎_elim
        (λ (l : u < t). let a = left_before x l in let b = left_before y l in let q = none (inl l) in omega arith)
        (λ (l : t < u). let a = left_after x l in let q = none (inr l) in omega arith))
        (cases_order u t)

  -- a later table may be searched whole
  pub left_later : (t u w : ℕ) → u < w → left_in t w (limit t + 1) ≤ left_in t u 0
  left_later t u w up =
      ⊎_elim
      (λ (l : u < t). let a = left_before t u 0 l in let b = left_most t w (limit t + 1) (λ e. omega arith) in omega arith)
      (λ (l : t ≤ u). let a = left_after t w (limit t + 1) (omega arith) in omega arith)
      (cases_lt u t)
