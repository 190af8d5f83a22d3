-- The facts about all words that every allowed exchange preserves in both modes.
use Rattle.std.proofs.Common.{◌≡◌, ◌⊎◌, inl, inr, ⊎_elim, ℕ, zero, suc, ◌<◌, ◌≤◌, Bool, true, false}
use Rattle.std.proofs.Common.{◌==◌, ◌&&◌, Some, refl, sym, ap, ◌∙◌, subst, arith, eqb-true, eq-eqb}
use Rattle.std.proofs.lemmas.Bool.{and_parts, cases_Bool, cond-true, cond-false}
use Rattle.papaya_words_law.specs.Exchange.{Word, Setting, State, Open, Link, Advance, Promote, Take, start, after, at_put, done_put, slot_put, walk}
use Rattle.papaya_words_law.specs.View.{View, view, look, IsNextPlace}
use Rattle.papaya_words_law.specs.Copying.{IsLinking}
use Rattle.papaya_words_law.specs.Meaning.{IsLawful}
use Rattle.papaya_words_law.specs.Class.{IsOn}
use Rattle.papaya_words_law.specs.Invariant.{named, shut, IsPlaceOf, IsSound}
use Rattle.papaya_words_law.proofs.Class.{IsTurn}
use Rattle.papaya_words_law.proofs.Chain.{next_zero, link_rises, link_on, link_older}
use Rattle.papaya_words_law.proofs.Slots.{slot_cases, slot_turn, look_same}

-- the change of a slot, by a key's views of its words
recast : {P : Type 0} → (S : ℕ → ℕ → ℕ) (V V' : ℕ → ℕ → View P) (t x : ℕ) (a b c d : View P) → IsTurn S V V' t x a b → a ≡ c → b ≡ d → IsTurn S V V' t x c d
recast S V V' t x a b c d turn e f = subst (λ y. IsTurn S V V' t x y d) e (subst (IsTurn S V V' t x a) f turn)

-- a chunk that is done is the one that was just done, or was done before
pub done_cases : (f : ℕ → ℕ → Bool) (n c u d : ℕ) → done_put f n c u d ≡ true → ((u ≡ n) × (d ≡ c)) ⊎ (f u d ≡ true)
done_cases f n c u d h = ⊎_elim
    (λ (q : ((u == n) && (d == c)) ≡ true). let e = and_parts (u == n) (d == c) q in inl (eqb-true u n e.0, eqb-true d c e.1))
    (λ (q : ((u == n) && (d == c)) ≡ false). inr (sym (cond-false ((u == n) && (d == c)) true (f u d) q) ∙ h))
    (cases_Bool ((u == n) && (d == c)))

-- and stays so
pub done_stays : (f : ℕ → ℕ → Bool) (n c u d : ℕ) → f u d ≡ true → done_put f n c u d ≡ true
done_stays f n c u d h = ⊎_elim
    (λ (q : ((u == n) && (d == c)) ≡ true). cond-true ((u == n) && (d == c)) true (f u d) q)
    (λ (q : ((u == n) && (d == c)) ≡ false). cond-false ((u == n) && (d == c)) true (f u d) q ∙ h)
    (cases_Bool ((u == n) && (d == c)))

module _ {K P : Type 0} (g : Setting K P) (s : State P) where
  -- a slot's change, by a key's views of the old word and the new one
  pub turn_own : (k : K) (t x : ℕ) (w w' : Word P) (a b : View P) → s.slot t x ≡ w → view g k w ≡ a → view g k w' ≡ b
      → IsTurn (g.place k) (look g s k) (look g (slot_put s t x w') k) t x a b
  turn_own k t x w w' a b old e f = recast (g.place k) (look g s k) (look g (slot_put s t x w') k) t x (view g k w) (view g k w') a b
      (slot_turn g s k t x w w' old) e f

  module _ (law : IsLawful g) where
    -- equal keys have the same next place
    pub place_same : (test : View P → Bool) (k l : K) (t x : ℕ) → g.same k l ≡ true → IsNextPlace g s l test t x → IsNextPlace g s k test t x
    place_same test k l t x h r = record {
      at = r.at;
      within = r.within;
      is = law.places_same k l h t r.at ∙ r.is;
      before = subst (λ (V : ℕ → ℕ → View P). (i : ℕ) → i < r.at → test (V t i) ≡ true) (sym (look_same g law s k l h)) r.before;
    }

  -- a next place of p's key is a place of p's
  pub place_of : (test : View P → Bool) (t x : ℕ) (p : P) → IsNextPlace g s (g.key p) test t x → (q : P) → Some p ≡ Some q → IsPlaceOf g t x q
  place_of test t x p r q e = let same : p ≡ q = cc in subst (IsPlaceOf g t x) same (record { at = r.at; within = r.within; is = r.is })

  module _ (sound : IsSound g s) where
    -- a pair of the class is at a place of the key
    pub own_place : (law : IsLawful g) (k : K) (t x : ℕ) (p : P) → g.same k (g.key p) ≡ true → named (s.slot t x) ≡ Some p → (j : ℕ)
        × (j < g.places t) × (g.place k t j ≡ x)
    own_place law k t x p h e =
        let r = sound.placed t x p e in (r.at, r.within, law.places_same k (g.key p) h t r.at ∙ r.is)

    -- the pair stays in its slot
    pub kept_place : (t x : ℕ) (p : P) (w w' : Word P) → s.slot t x ≡ w → named w ≡ Some p → named w' ≡ Some p → (r : P) → named w' ≡ Some r → IsPlaceOf g t x r
    kept_place t x p w w' old e f r h = let same : p ≡ r = cc in subst (IsPlaceOf g t x) same (sound.placed t x p (ap named old ∙ e))

    -- the table of a filled word is in the chain
    pub filled_on : (t x : ℕ) (p : P) (w : Word P) → s.slot t x ≡ w → named w ≡ Some p → IsOn s.first s.next t
    filled_on t x p w old e = sound.slots_on t x (λ f. let q : named (s.slot t x) ≡ Some p = ap named old ∙ e in let r = ap named f in cc (q, r))

    -- if there is no root, there is no chain
    pub no_root : s.root ≡ 0 → (u : ℕ) → IsOn s.first s.next u → ⊥
    no_root e u (h, (k, w)) = let f : s.first ≡ 0 = ⊎_elim (λ r. r.1) (λ on. absurd (omega (arith, on.0))) sound.root in
        let z : walk s.next k s.first ≡ 0 = ap (walk s.next k) f ∙ zeros k in omega arith
      where
        zeros : (k : ℕ) → walk s.next k 0 ≡ 0
        zeros zero = refl
        zeros (suc k) = ap s.next (zeros k) ∙ next_zero s.next sound.rises

    -- a table that is copied to the one to be linked to a table of the chain is on the chain
    pub linking_on : (from t : ℕ) → IsOn s.first s.next t → IsLinking g s from t → IsOn s.first s.next from
    linking_on from t on (inl h) = subst (IsOn s.first s.next) (sym h.0) on
    linking_on from t on (inr h) = (sound.was from h.1).0

    -- a slot's word changes
    pub slot_sound : (t x : ℕ) (w' : Word P) → IsOn s.first s.next t → ((p : P) → named w' ≡ Some p → IsPlaceOf g t x p)
        → (shut w' ≡ true → 0 < s.next t) → IsSound g (slot_put s t x w')
    slot_sound t x w' on new next = record {
      further = λ u y h. ⊎_elim (λ r. sound.further u y (ap shut (sym r.0) ∙ h))
          (λ r. subst (λ a. 0 < s.next a) (sym r.0) (next (ap shut (sym r.2) ∙ h))) (slot_cases s t x w' u y);
      rises = sound.rises;
      linked = sound.linked;
      root = sound.root;
      was = sound.was;
      root_was = sound.root_was;
      done_on = sound.done_on;
      slots_on = λ u y h. ⊎_elim (λ r. sound.slots_on u y (λ e. h (r.0 ∙ e))) (λ r. subst (IsOn s.first s.next) (sym r.0) on) (slot_cases s t x w' u y);
      placed = λ u y p e. ⊎_elim (λ r. sound.placed u y p (ap named (sym r.0) ∙ e))
          (λ r. subst (λ a. IsPlaceOf g a y p) (sym r.0) (subst (λ a. IsPlaceOf g t a p) (sym r.1) (new p (ap named (sym r.2) ∙ e)))) (slot_cases s t x w' u y);
    }

    -- the first root is set
    pub open_sound : (t : ℕ) → s.root ≡ 0 → 0 < t → IsSound g (after s (Open t))
    open_sound t e some = record {
      rises = sound.rises;
      root = inr first_on;
      was = λ u h. ⊎_elim
          (λ (q : (u == t) ≡ true). (subst (IsOn t s.next) (sym (eqb-true u t q)) first_on, let r = eqb-true u t q in omega arith))
          (λ (q : (u == t) ≡ false). absurd (no_root e u (sound.was u (sym (cond-false (u == t) true (s.was_root u) q) ∙ h)).0))
          (cases_Bool (u == t));
      root_was = λ h. cond-true (t == t) true (s.was_root t) (eq-eqb t t refl);
      linked = λ u h. absurd (no_root e u (sound.linked u h));
      done_on = λ u d h. absurd (no_root e u (sound.done_on u d h));
      slots_on = λ u x h. absurd (no_root e u (sound.slots_on u x h));
      placed = sound.placed;
      further = sound.further;
    }
      where
        first_on : IsOn t s.next t
        first_on = (some, (0, refl))

    module _ (t n : ℕ) (none : s.next t ≡ 0) (some : 0 < t) (up : t < n) where
      -- every table of the chain is still on it after a link
      pub link_more : (u : ℕ) → IsOn s.first s.next u → IsOn s.first (at_put s.next t n) u
      link_more = link_on s.next sound.rises t n none some up s.first

      -- a table of the longer chain before a table of the old one was on the old one
      pub link_old : (l u : ℕ) → IsOn s.first (at_put s.next t n) l → IsOn s.first s.next u → l < u → IsOn s.first s.next l
      link_old = link_older s.next sound.rises t n none some up s.first

      -- a link is made
      pub link_sound : IsOn s.first s.next t → IsSound g (after s (Link t n))
      link_sound on-t = record {
        rises = link_rises s.next sound.rises t n none some up;
        root = ⊎_elim (λ r. inl r) (λ on. inr (link_more s.root on)) sound.root;
        was = λ u h. (link_more u (sound.was u h).0, (sound.was u h).1);
        root_was = sound.root_was;
        linked = λ u h. ⊎_elim
            (λ (q : (u == t) ≡ true). link_more u (subst (IsOn s.first s.next) (sym (eqb-true u t q)) on-t))
            (λ (q : (u == t) ≡ false). link_more u (sound.linked u (subst (λ y. 0 < y) (cond-false (u == t) n (s.next u) q) h)))
            (cases_Bool (u == t));
        done_on = λ u d h. link_more u (sound.done_on u d h);
        slots_on = λ u x h. link_more u (sound.slots_on u x h);
        placed = sound.placed;
        further = λ u x h. ⊎_elim
            (λ (q : (u == t) ≡ true). subst (λ y. 0 < y) (sym (cond-true (u == t) n (s.next u) q)) (omega arith))
            (λ (q : (u == t) ≡ false). subst (λ y. 0 < y) (sym (cond-false (u == t) n (s.next u) q)) (sound.further u x h))
            (cases_Bool (u == t));
      }

    -- a table's `done` rises
    pub advance_sound : (n c : ℕ) → IsOn s.first s.next n → IsSound g (after s (Advance n c))
    advance_sound n c on = record {
      rises = sound.rises;
      linked = sound.linked;
      root = sound.root;
      was = sound.was;
      root_was = sound.root_was;
      slots_on = sound.slots_on;
      placed = sound.placed;
      further = sound.further;
      done_on = λ u d h. ⊎_elim (λ r. subst (IsOn s.first s.next) (sym r.0) on) (λ r. sound.done_on u d r) (done_cases s.done n c u d h);
    }

    -- a number is taken
    pub take_sound : (k : ℕ) → IsSound g (after s (Take k))
    take_sound k = record {
      rises = sound.rises;
      root = sound.root;
      was = sound.was;
      root_was = sound.root_was;
      linked = sound.linked;
      done_on = sound.done_on;
      slots_on = sound.slots_on;
      placed = sound.placed;
      further = sound.further;
    }

    -- the root moves on along the chain
    pub promote_sound : (t n : ℕ) → IsOn s.first s.next n → s.root ≤ n → IsSound g (after s (Promote t n))
    promote_sound t n on up = record {
      rises = sound.rises;
      linked = sound.linked;
      done_on = sound.done_on;
      slots_on = sound.slots_on;
      placed = sound.placed;
      further = sound.further;
      root = inr on;
      was = λ u h. ⊎_elim
          (λ (q : (u == n) ≡ true). let e = eqb-true u n q in (subst (IsOn s.first s.next) (sym e) on, omega arith))
          (λ (q : (u == n) ≡ false). let o = sound.was u (sym (cond-false (u == n) true (s.was_root u) q) ∙ h) in (o.0, let l = o.1 in omega arith))
          (cases_Bool (u == n));
      root_was = λ h. cond-true (n == n) true (s.was_root n) (eq-eqb n n refl);
    }

-- before the first exchange
pub start_sound : {K P : Type 0} (g : Setting K P) → IsSound g start
start_sound g = record {
  rises = λ t. inl refl;
  root = inl (refl, refl);
  was = λ t e. absurd cc;
  root_was = λ h. absurd (omega arith);
  linked = λ t h. absurd (omega arith);
  done_on = λ t d h. absurd (cc h);
  slots_on = λ t x h. absurd (h refl);
  placed = λ t x p e. absurd cc;
  further = λ t x e. absurd cc;
}
