-- One slot's word changes: the view of a search for each class of keys there.
use Rattle.std.proofs.Common.{◌≡◌, ◌⊎◌, inl, inr, ⊎_elim, ℕ, true, false, cond, ◌==◌, ◌&&◌, refl, sym, ap, ◌∙◌, eqb-true, eq-eqb}
use Rattle.std.proofs.lemmas.Bool.{and_parts, and_from, cond-true, cond-false, cases_Bool}
use Rattle.papaya_words_law.specs.Exchange.{Word, Empty, Closed, Live, Marked, Copied, Buried, Setting, State, slot_put}
use Rattle.papaya_words_law.specs.View.{Foreign, Here, Leaving, Gone, Grave, view, look}
use Rattle.papaya_words_law.specs.Meaning.{IsLawful}
use Rattle.papaya_words_law.proofs.Class.{IsTurn}
use mathlib.Core.Path.{fun_ext}

-- a slot is the one that changed or another
pub slot_cases : {P : Type 0} → (s : State P) (t x : ℕ) (w : Word P) (u y : ℕ)
    → (((slot_put s t x w).slot u y ≡ s.slot u y) × ((u ≡ t) × (y ≡ x) → ⊥)) ⊎ ((u ≡ t) × (y ≡ x) × ((slot_put s t x w).slot u y ≡ w))
slot_cases s t x w u y =
    ⊎_elim
    (λ (h : ((u == t) && (y == x)) ≡ true).
    let e = and_parts (u == t) (y == x) h in
    inr (eqb-true u t e.0, eqb-true y x e.1, cond-true ((u == t) && (y == x)) w (s.slot u y) h))
    (λ (h : ((u == t) && (y == x)) ≡ false).
    inl (
      cond-false ((u == t) && (y == x)) w (s.slot u y) h,
      λ e.
          let b : ((u == t) && (y == x)) ≡ true = and_from (u == t) (y == x) (eq-eqb u t e.0) (eq-eqb y x e.1) in cc (b, h),
    ))
    (cases_Bool ((u == t) && (y == x)))

-- the slot that a word is put into holds it
pub put_there : {P : Type 0} → (s : State P) (t x : ℕ) (w : Word P) (u y : ℕ) → (t ≡ u) × (x ≡ y) → ((slot_put s t x w).slot u y ≡ w)
    × (s.slot u y ≡ s.slot t x)
put_there s t x w u y e =
    ⊎_elim (λ h. absurd (h.1 (sym e.0, sym e.1))) (λ h. (h.2, ap (λ v. s.slot v y) h.0 ∙ ap (s.slot t) h.1)) (slot_cases s t x w u y)

-- each other slot keeps its word
pub put_elsewhere : {P : Type 0} → (s : State P) (t x : ℕ) (w : Word P) (u y : ℕ) → ((t ≡ u) × (x ≡ y) → ⊥) → (slot_put s t x w).slot u y ≡ s.slot u y
put_elsewhere s t x w u y other = ⊎_elim (λ h. h.0) (λ h. absurd (other (sym h.0, sym h.1))) (slot_cases s t x w u y)

module _ {K P : Type 0} (g : Setting K P) where
  -- a slot's change is a change of view for each key
  pub slot_turn : (s : State P) (k : K) (t x : ℕ) (w w' : Word P) → s.slot t x ≡ w
      → IsTurn (g.place k) (look g s k) (look g (slot_put s t x w') k) t x (view g k w) (view g k w')
  slot_turn s k t x w w' old = record {
    each = λ u j.
        ⊎_elim
        (λ h. inl (ap (view g k) h.0, h.1))
        (λ h. inr (h.0, h.1, ap (view g k) (cc (h.0, h.1, old)), ap (view g k) h.2))
        (slot_cases s t x w' u (g.place k u j));
  }

  -- a Marked word, by a key's view of it
  pub view_leaving : (k : K) (w : Word P) (p : P) → view g k w ≡ Leaving p → (w ≡ Marked p) × (g.same k (g.key p) ≡ true)
  view_leaving k Empty p e = absurd cc
  view_leaving k Closed p e = absurd cc
  view_leaving k (Live q) p e = ⊎_elim (λ h. let c = cond-true (g.same k (g.key q)) (Here q) Foreign h in absurd (cc (c, e)))
      (λ h. let c = cond-false (g.same k (g.key q)) (Here q) Foreign h in absurd (cc (c, e))) (cases_Bool (g.same k (g.key q)))
  view_leaving k (Marked q) p e = ⊎_elim (λ h. let c = cond-true (g.same k (g.key q)) (Leaving q) Foreign h in let same : q ≡ p = cc (c, e) in
      (ap Marked same, ap (λ y. g.same k (g.key y)) (sym same) ∙ h))
      (λ h. let c = cond-false (g.same k (g.key q)) (Leaving q) Foreign h in absurd (cc (c, e))) (cases_Bool (g.same k (g.key q)))
  view_leaving k (Copied q) p e = ⊎_elim (λ h. let c = cond-true (g.same k (g.key q)) (Gone q) Foreign h in absurd (cc (c, e)))
      (λ h. let c = cond-false (g.same k (g.key q)) (Gone q) Foreign h in absurd (cc (c, e))) (cases_Bool (g.same k (g.key q)))
  view_leaving k (Buried q) p e = ⊎_elim (λ h. let c = cond-true (g.same k (g.key q)) (Grave q) Foreign h in absurd (cc (c, e)))
      (λ h. let c = cond-false (g.same k (g.key q)) (Grave q) Foreign h in absurd (cc (c, e))) (cases_Bool (g.same k (g.key q)))

  -- a Copied one
  pub view_gone : (k : K) (w : Word P) (p : P) → view g k w ≡ Gone p → (w ≡ Copied p) × (g.same k (g.key p) ≡ true)
  view_gone k Empty p e = absurd cc
  view_gone k Closed p e = absurd cc
  view_gone k (Live q) p e = ⊎_elim (λ h. let c = cond-true (g.same k (g.key q)) (Here q) Foreign h in absurd (cc (c, e)))
      (λ h. let c = cond-false (g.same k (g.key q)) (Here q) Foreign h in absurd (cc (c, e))) (cases_Bool (g.same k (g.key q)))
  view_gone k (Marked q) p e = ⊎_elim (λ h. let c = cond-true (g.same k (g.key q)) (Leaving q) Foreign h in absurd (cc (c, e)))
      (λ h. let c = cond-false (g.same k (g.key q)) (Leaving q) Foreign h in absurd (cc (c, e))) (cases_Bool (g.same k (g.key q)))
  view_gone k (Copied q) p e = ⊎_elim (λ h. let c = cond-true (g.same k (g.key q)) (Gone q) Foreign h in let same : q ≡ p = cc (c, e) in
      (ap Copied same, ap (λ y. g.same k (g.key y)) (sym same) ∙ h))
      (λ h. let c = cond-false (g.same k (g.key q)) (Gone q) Foreign h in absurd (cc (c, e))) (cases_Bool (g.same k (g.key q)))
  view_gone k (Buried q) p e = ⊎_elim (λ h. let c = cond-true (g.same k (g.key q)) (Grave q) Foreign h in absurd (cc (c, e)))
      (λ h. let c = cond-false (g.same k (g.key q)) (Grave q) Foreign h in absurd (cc (c, e))) (cases_Bool (g.same k (g.key q)))

  -- a Buried one
  pub view_grave : (k : K) (w : Word P) (p : P) → view g k w ≡ Grave p → (w ≡ Buried p) × (g.same k (g.key p) ≡ true)
  view_grave k Empty p e = absurd cc
  view_grave k Closed p e = absurd cc
  view_grave k (Live q) p e = ⊎_elim (λ h. let c = cond-true (g.same k (g.key q)) (Here q) Foreign h in absurd (cc (c, e)))
      (λ h. let c = cond-false (g.same k (g.key q)) (Here q) Foreign h in absurd (cc (c, e))) (cases_Bool (g.same k (g.key q)))
  view_grave k (Marked q) p e = ⊎_elim (λ h. let c = cond-true (g.same k (g.key q)) (Leaving q) Foreign h in absurd (cc (c, e)))
      (λ h. let c = cond-false (g.same k (g.key q)) (Leaving q) Foreign h in absurd (cc (c, e))) (cases_Bool (g.same k (g.key q)))
  view_grave k (Copied q) p e = ⊎_elim (λ h. let c = cond-true (g.same k (g.key q)) (Gone q) Foreign h in absurd (cc (c, e)))
      (λ h. let c = cond-false (g.same k (g.key q)) (Gone q) Foreign h in absurd (cc (c, e))) (cases_Bool (g.same k (g.key q)))
  view_grave k (Buried q) p e = ⊎_elim (λ h. let c = cond-true (g.same k (g.key q)) (Grave q) Foreign h in let same : q ≡ p = cc (c, e) in
      (ap Buried same, ap (λ y. g.same k (g.key y)) (sym same) ∙ h))
      (λ h. let c = cond-false (g.same k (g.key q)) (Grave q) Foreign h in absurd (cc (c, e))) (cases_Bool (g.same k (g.key q)))

  -- a Live one
  pub view_here : (k : K) (w : Word P) (p : P) → view g k w ≡ Here p → w ≡ Live p
  view_here k Empty p e = absurd cc
  view_here k Closed p e = absurd cc
  view_here k (Live q) p e = ⊎_elim (λ h. let c = cond-true (g.same k (g.key q)) (Here q) Foreign h in let same : q ≡ p = cc (c, e) in ap Live same)
      (λ h. let c = cond-false (g.same k (g.key q)) (Here q) Foreign h in absurd (cc (c, e))) (cases_Bool (g.same k (g.key q)))
  view_here k (Marked q) p e = ⊎_elim (λ h. let c = cond-true (g.same k (g.key q)) (Leaving q) Foreign h in absurd (cc (c, e)))
      (λ h. let c = cond-false (g.same k (g.key q)) (Leaving q) Foreign h in absurd (cc (c, e))) (cases_Bool (g.same k (g.key q)))
  view_here k (Copied q) p e = ⊎_elim (λ h. let c = cond-true (g.same k (g.key q)) (Gone q) Foreign h in absurd (cc (c, e)))
      (λ h. let c = cond-false (g.same k (g.key q)) (Gone q) Foreign h in absurd (cc (c, e))) (cases_Bool (g.same k (g.key q)))
  view_here k (Buried q) p e = ⊎_elim (λ h. let c = cond-true (g.same k (g.key q)) (Grave q) Foreign h in absurd (cc (c, e)))
      (λ h. let c = cond-false (g.same k (g.key q)) (Grave q) Foreign h in absurd (cc (c, e))) (cases_Bool (g.same k (g.key q)))

  module _ (law : IsLawful g) where
    -- equal keys are equal to the same keys
    pub same_test : (k l m : K) → g.same k l ≡ true → g.same k m ≡ g.same l m
    same_test k l m h =
        ⊎_elim
        (λ (a : g.same k m ≡ true). a ∙ sym (law.through l k m (law.back k l h) a))
        (λ (a : g.same k m ≡ false).
        ⊎_elim
        (λ (b : g.same l m ≡ true). let c : g.same k m ≡ true = law.through k l m h b in cc)
        (λ (b : g.same l m ≡ false). a ∙ sym b)
        (cases_Bool (g.same l m)))
        (cases_Bool (g.same k m))

    -- equal keys have the same view of a word
    view_same : (k l : K) → g.same k l ≡ true → (w : Word P) → view g k w ≡ view g l w
    view_same k l h Empty = refl
    view_same k l h Closed = refl
    view_same k l h (Live p) = ap (λ b. cond b (Here p) Foreign) (same_test k l (g.key p) h)
    view_same k l h (Marked p) = ap (λ b. cond b (Leaving p) Foreign) (same_test k l (g.key p) h)
    view_same k l h (Copied p) = ap (λ b. cond b (Gone p) Foreign) (same_test k l (g.key p) h)
    view_same k l h (Buried p) = ap (λ b. cond b (Grave p) Foreign) (same_test k l (g.key p) h)

    -- equal keys have the same views
    pub look_same : (s : State P) (k l : K) → g.same k l ≡ true → look g s k ≡ look g s l
    look_same s k l h = fun_ext (λ t. fun_ext (λ j. ap (λ x. view g k (s.slot t x)) (law.places_same k l h t j) ∙ view_same k l h (s.slot t (g.place l t j))))

    -- a key is equal to both of two equal ones or to neither
    pub same_right : (k l m : K) → g.same l m ≡ true → g.same k l ≡ g.same k m
    same_right k l m h =
        ⊎_elim
        (λ (a : g.same k l ≡ true). a ∙ sym (law.through k l m a h))
        (λ (a : g.same k l ≡ false).
        ⊎_elim
        (λ (b : g.same k m ≡ true). let c : g.same k l ≡ true = law.through k m l b (law.back l m h) in cc)
        (λ (b : g.same k m ≡ false). a ∙ sym b)
        (cases_Bool (g.same k m)))
        (cases_Bool (g.same k l))
