-- The pairs of a table as a list: which they are, and how many.
use Rattle.std.proofs.Common.{◌≡◌, ◌⊎◌, inl, inr, ⊎_elim, ℕ, zero, suc, ◌+◌, ◌<◌, ◌≤◌, ◌++◌, true}
use Rattle.std.proofs.Common.{false, Option, None, Some, List, [], ◌∷◌, length, refl, sym, ap, ◌∙◌}
use Rattle.std.proofs.Common.{subst, arith}
use Rattle.std.proofs.lemmas.List.{append-nil, length-append}
use Rattle.std.proofs.lemmas.Bool.{cases_Bool, cases_lt, cond-true, cond-false}
use Rattle.papaya_words_law.specs.Exchange.{Word, Empty, Closed, Live, Marked, Copied, Buried, Setting}
use Rattle.papaya_words_law.specs.Content.{pairs_of_word, pairs_in, lookup, AreApart}

-- a search that comes to the word finds p
abbrev pub Holds : {P : Type 0} → Word P → P → Type 0
Holds w p = (w ≡ Live p) ⊎ (w ≡ Marked p)

module _ {K P : Type 0} (g : Setting K P) where
  -- a pair that is found in a list is found in a longer one
  pub lookup_first : (a b : List P) (k : K) (p : P) → lookup g.same g.key a k ≡ Some p → lookup g.same g.key (a ++ b) k ≡ Some p
  lookup_first [] b k p e = absurd cc
  lookup_first (q ∷ a) b k p e =
      ⊎_elim
      (λ (y : g.same k (g.key q) ≡ true). cond-true (g.same k (g.key q)) (Some q) (lookup g.same g.key (a ++ b) k) y
      ∙ (sym (cond-true (g.same k (g.key q)) (Some q) (lookup g.same g.key a k) y) ∙ e))
      (λ (n : g.same k (g.key q) ≡ false). cond-false (g.same k (g.key q)) (Some q) (lookup g.same g.key (a ++ b) k) n
      ∙ lookup_first a b k p (sym (cond-false (g.same k (g.key q)) (Some q) (lookup g.same g.key a k) n) ∙ e))
      (cases_Bool (g.same k (g.key q)))

  -- if nothing is found, it is looked up in the rest
  pub lookup_rest : (a b : List P) (k : K) → lookup g.same g.key a k ≡ None → lookup g.same g.key (a ++ b) k ≡ lookup g.same g.key b k
  lookup_rest [] b k e = refl
  lookup_rest (q ∷ a) b k e =
      ⊎_elim
      (λ (y : g.same k (g.key q) ≡ true). absurd (let s = cond-true (g.same k (g.key q)) (Some q) (lookup g.same g.key a k) y in cc (s, e)))
      (λ (n : g.same k (g.key q) ≡ false). cond-false (g.same k (g.key q)) (Some q) (lookup g.same g.key (a ++ b) k) n
      ∙ lookup_rest a b k (sym (cond-false (g.same k (g.key q)) (Some q) (lookup g.same g.key a k) n) ∙ e))
      (cases_Bool (g.same k (g.key q)))

  -- a list of one pair
  one_found : (q : P) (k : K) (p : P) → lookup g.same g.key (q ∷ []) k ≡ Some p → (q ≡ p) × (g.same k (g.key p) ≡ true)
  one_found q k p e =
      ⊎_elim
      (λ (y : g.same k (g.key q) ≡ true). let s = cond-true (g.same k (g.key q)) (Some q) None y in let is : q ≡ p = cc (s, e) in
      (is, subst (λ r. g.same k (g.key r) ≡ true) is y))
      (λ (n : g.same k (g.key q) ≡ false). absurd (let s = cond-false (g.same k (g.key q)) (Some q) None n in cc (s, e)))
      (cases_Bool (g.same k (g.key q)))

  -- and if it isn't the key's
  one_none : (q : P) (k : K) → lookup g.same g.key (q ∷ []) k ≡ None → g.same k (g.key q) ≡ false
  one_none q k e = ⊎_elim (λ (y : g.same k (g.key q) ≡ true). absurd (let s = cond-true (g.same k (g.key q)) (Some q) None y in cc (s, e)))
      (λ (n : g.same k (g.key q) ≡ false). n) (cases_Bool (g.same k (g.key q)))

  -- a pair that is found in a word's list is held by the word
  word_found : (w : Word P) (k : K) (p : P) → lookup g.same g.key (pairs_of_word w) k ≡ Some p → Holds w p × (g.same k (g.key p) ≡ true)
  word_found Empty k p e = absurd cc
  word_found Closed k p e = absurd cc
  word_found (Live q) k p e = let r = one_found q k p e in (inl (ap Live r.0), r.1)
  word_found (Marked q) k p e = let r = one_found q k p e in (inr (ap Marked r.0), r.1)
  word_found (Copied q) k p e = absurd cc
  word_found (Buried q) k p e = absurd cc

  -- if nothing is found, the word's pair has another key
  word_none : (w : Word P) (k : K) (p : P) → lookup g.same g.key (pairs_of_word w) k ≡ None → Holds w p → g.same k (g.key p) ≡ false
  word_none w k p e (inl h) = one_none p k (subst (λ v. lookup g.same g.key (pairs_of_word v) k ≡ None) h e)
  word_none w k p e (inr h) = one_none p k (subst (λ v. lookup g.same g.key (pairs_of_word v) k ≡ None) h e)

  -- a pair that is found in a table is in one of its slots
  pub table_found : (slot : ℕ → Word P) (n : ℕ) (k : K) (p : P) → lookup g.same g.key (pairs_in slot n) k ≡ Some p → (x : ℕ) × (x < n)
      × Holds (slot x) p × (g.same k (g.key p) ≡ true)
  table_found slot zero k p e = absurd cc
  table_found slot (suc n) k p e = by_first (table_found slot n k p) (lookup g.same g.key (pairs_in slot n) k) refl
    where
      by_first : (lookup g.same g.key (pairs_in slot n) k ≡ Some p → (x : ℕ) × (x < n) × Holds (slot x) p × (g.same k (g.key p) ≡ true))
          → (v : Option P) → lookup g.same g.key (pairs_in slot n) k ≡ v → (x : ℕ) × (x < suc n) × Holds (slot x) p × (g.same k (g.key p) ≡ true)
      by_first ih None f = let r = word_found (slot n) k p (sym (lookup_rest (pairs_in slot n) (pairs_of_word (slot n)) k f) ∙ e) in (n, omega arith, r.0, r.1)
      by_first ih (Some q) f =
          let is : q ≡ p = let s = lookup_first (pairs_in slot n) (pairs_of_word (slot n)) k q f in cc (s, e) in
          let r = ih (f ∙ ap Some is) in (r.0, omega (arith, r.1), r.2, r.3)

  -- if nothing is found, no slot has a pair of the key
  pub table_none : (slot : ℕ → Word P) (n : ℕ) (k : K) → lookup g.same g.key (pairs_in slot n) k ≡ None → (x : ℕ) → x < n → (p : P) → Holds (slot x) p
      → g.same k (g.key p) ≡ false
  table_none slot zero k e x lt p h = absurd (omega (arith, lt))
  table_none slot (suc n) k e x lt p h = by_first (λ f c. table_none slot n k f x c p h) (lookup g.same g.key (pairs_in slot n) k) refl
    where
      by_first : (lookup g.same g.key (pairs_in slot n) k ≡ None → x < n → g.same k (g.key p) ≡ false) → (v : Option P)
          → lookup g.same g.key (pairs_in slot n) k ≡ v → g.same k (g.key p) ≡ false
      by_first ih (Some q) f = absurd (let s = lookup_first (pairs_in slot n) (pairs_of_word (slot n)) k q f in cc (s, e))
      by_first ih None f =
          ⊎_elim
          (λ (c : x < n). ih f c)
          (λ (c : n ≤ x). let is : x ≡ n = omega arith in
          word_none (slot n) k p (sym (lookup_rest (pairs_in slot n) (pairs_of_word (slot n)) k f) ∙ e) (subst (λ y. Holds (slot y) p) is h))
          (cases_lt x n)

  -- a table whose slots are Empty has no pair
  pub table_empty : (slot : ℕ → Word P) (n : ℕ) → ((x : ℕ) → slot x ≡ Empty) → pairs_in slot n ≡ []
  table_empty slot zero all = refl
  table_empty slot (suc n) all = ap (λ a. a ++ pairs_of_word (slot n)) (table_empty slot n all) ∙ ap pairs_of_word (all n)

  -- tables with the same words have the same pairs
  pub table_same : (slot slot' : ℕ → Word P) (n : ℕ) → ((x : ℕ) → x < n → slot' x ≡ slot x) → pairs_in slot' n ≡ pairs_in slot n
  table_same slot slot' zero all = refl
  table_same slot slot' (suc n) all =
      let first : pairs_in slot' n ≡ pairs_in slot n = table_same slot slot' n (λ x lt. all x (omega (arith, lt))) in
      ap (λ a. a ++ pairs_of_word (slot' n)) first ∙ ap (λ w. pairs_in slot n ++ pairs_of_word w) (all n (omega arith))

  -- if one slot's word changes, its old pair is taken out, and its new one is put in
  pub table_change : (slot slot' : ℕ → Word P) (x n : ℕ) → ((y : ℕ) → (y ≡ x → ⊥) → slot' y ≡ slot y) → x < n
      → length (pairs_in slot' n) + length (pairs_of_word (slot x)) ≡ length (pairs_in slot n) + length (pairs_of_word (slot' x))
  table_change slot slot' x zero other lt = absurd (omega (arith, lt))
  table_change slot slot' x (suc n) other lt =
      let now : length (pairs_in slot' n ++ pairs_of_word (slot' n)) ≡ length (pairs_in slot' n) + length (pairs_of_word (slot' n)) = length-append
      (pairs_in slot' n) (pairs_of_word (slot' n)) in
      let before : length (pairs_in slot n ++ pairs_of_word (slot n)) ≡ length (pairs_in slot n) + length (pairs_of_word (slot n)) = length-append
      (pairs_in slot n) (pairs_of_word (slot n)) in
      ⊎_elim
      (λ (c : x < n).
      let ih = table_change slot slot' x n other c in
      let last : length (pairs_of_word (slot' n)) ≡ length (pairs_of_word (slot n)) = ap (λ w. length (pairs_of_word w)) (other n (λ e. omega (arith, c, e))) in
      omega (arith, now, before, ih, last))
      (λ (c : n ≤ x).
      let is : x ≡ n = omega (arith, c, lt) in
      let first : length (pairs_in slot' n) ≡ length (pairs_in slot n) = ap length (table_same slot slot' n (λ y l. other y (λ e. omega (arith, e, l, c)))) in
      let old : length (pairs_of_word (slot x)) ≡ length (pairs_of_word (slot n)) = ap (λ y. length (pairs_of_word (slot y))) is in
      let new : length (pairs_of_word (slot' x)) ≡ length (pairs_of_word (slot' n)) = ap (λ y. length (pairs_of_word (slot' y))) is in
      omega (arith, now, before, first, old, new))
      (cases_lt x n)

  -- a pair is added at the end of a list in which its key has none
  end_apart : (back : (k l : K) → g.same k l ≡ true → g.same l k ≡ true) (a : List P) (q : P) → AreApart g.same g.key a
      → lookup g.same g.key a (g.key q) ≡ None → AreApart g.same g.key (a ++ q ∷ [])
  end_apart back [] q h none = (refl, tt)
  end_apart back (p ∷ a) q h none = (
    lookup_rest a (q ∷ []) (g.key p) h.0 ∙ cond-false (g.same (g.key p) (g.key q)) (Some q) None differ,
    end_apart back a q h.1 (sym (cond-false (g.same (g.key q) (g.key p)) (Some p) (lookup g.same g.key a (g.key q)) other) ∙ none),
  )
    where
      other : g.same (g.key q) (g.key p) ≡ false
      other = ⊎_elim (λ (y : g.same (g.key q) (g.key p) ≡ true).
          absurd (let s = cond-true (g.same (g.key q) (g.key p)) (Some p) (lookup g.same g.key a (g.key q)) y in cc (s, none)))
          (λ (n : g.same (g.key q) (g.key p) ≡ false). n) (cases_Bool (g.same (g.key q) (g.key p)))

      differ : g.same (g.key p) (g.key q) ≡ false
      differ = ⊎_elim (λ (y : g.same (g.key p) (g.key q) ≡ true). absurd (let b = back (g.key p) (g.key q) y in let o = other in cc (b, o)))
          (λ (n : g.same (g.key p) (g.key q) ≡ false). n) (cases_Bool (g.same (g.key p) (g.key q)))

  -- no two pairs of a table have equal keys, if no two slots have pairs of one key
  pub table_apart : (back : (k l : K) → g.same k l ≡ true → g.same l k ≡ true) (slot : ℕ → Word P)
      → ((x y : ℕ) (p q : P) → Holds (slot x) p → Holds (slot y) q → g.same (g.key q) (g.key p) ≡ true → x ≡ y) → (n : ℕ)
      → AreApart g.same g.key (pairs_in slot n)
  table_apart back slot one zero = tt
  table_apart back slot one (suc n) = by_word (table_apart back slot one n) (slot n) refl
    where
      with_pair : AreApart g.same g.key (pairs_in slot n) → (q : P) → Holds (slot n) q → AreApart g.same g.key (pairs_in slot n ++ q ∷ [])
      with_pair ih q h = end_apart back (pairs_in slot n) q ih (by_first (lookup g.same g.key (pairs_in slot n) (g.key q)) refl)
        where
          by_first : (v : Option P) → lookup g.same g.key (pairs_in slot n) (g.key q) ≡ v → lookup g.same g.key (pairs_in slot n) (g.key q) ≡ None
          by_first None f = f
          by_first (Some p) f = absurd (let r = table_found slot n (g.key q) p f in let is : r.0 ≡ n = one r.0 n p q r.2 h r.3 in omega (arith, r.1, is))

      without : AreApart g.same g.key (pairs_in slot n) → AreApart g.same g.key (pairs_in slot n ++ [])
      without ih = subst (AreApart g.same g.key) (sym (append-nil (pairs_in slot n))) ih

      by_word : AreApart g.same g.key (pairs_in slot n) → (w : Word P) → slot n ≡ w → AreApart g.same g.key (pairs_in slot n ++ pairs_of_word (slot n))
      by_word ih Empty e = subst (λ w. AreApart g.same g.key (pairs_in slot n ++ pairs_of_word w)) (sym e) (without ih)
      by_word ih Closed e = subst (λ w. AreApart g.same g.key (pairs_in slot n ++ pairs_of_word w)) (sym e) (without ih)
      by_word ih (Live q) e = subst (λ w. AreApart g.same g.key (pairs_in slot n ++ pairs_of_word w)) (sym e) (with_pair ih q (inl e))
      by_word ih (Marked q) e = subst (λ w. AreApart g.same g.key (pairs_in slot n ++ pairs_of_word w)) (sym e) (with_pair ih q (inr e))
      by_word ih (Copied q) e = subst (λ w. AreApart g.same g.key (pairs_in slot n ++ pairs_of_word w)) (sym e) (without ih)
      by_word ih (Buried q) e = subst (λ w. AreApart g.same g.key (pairs_in slot n ++ pairs_of_word w)) (sym e) (without ih)
