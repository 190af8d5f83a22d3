-- The facts about all words and all keys that every allowed exchange preserves without blocking.
use Rattle.std.proofs.Common.{◌≡◌, ◌⊎◌, inl, inr, ⊎_elim, ℕ, zero, suc, ◌<◌, ◌≤◌, true, false, cond, Option, None, Some, refl, sym, ap, ◌∙◌, subst, arith}
use Rattle.std.proofs.lemmas.Bool.{cases_lt, cases_Bool, cond-true, cond-false}
use Rattle.papaya_words_law.specs.Exchange.{Word, Empty, Closed, Live, Marked, Copied, Buried, Setting, State, slot_put, walk}
use Rattle.papaya_words_law.specs.View.{View, Free, Foreign, Here, Gone, Grave, view, look, beyond, IsPassed, IsFull, IsReached, IsNextPlace}
use Rattle.papaya_words_law.specs.Copying.{IsTaker}
use Rattle.papaya_words_law.specs.Allows.{MayClaim}
use Rattle.papaya_words_law.specs.Meaning.{IsLawful}
use Rattle.papaya_words_law.specs.Class.{AllFull, IsFront, IsIncrementalClass, IsOn}
use Rattle.papaya_words_law.specs.Invariant.{named, shut, IsPlaceOf, finished, IsIncrementalState}
use Rattle.papaya_words_law.proofs.Class.{IsTurn}
use Rattle.papaya_words_law.proofs.Incremental.ClassSteps.{fill_kept, claim_kept}
use Rattle.papaya_words_law.proofs.Chain.{walk_on, on_walk, walk_between}
use Rattle.papaya_words_law.proofs.Slots.{slot_cases, look_same}
use Rattle.papaya_words_law.proofs.Base.{place_same, place_of, slot_sound, turn_own}
use mathlib.Core.Path.{fun_ext}

-- another key's word turned into another
pub same_kept : {P : Type 0} → (On : ℕ → Type 0) (n : ℕ → ℕ) (S : ℕ → ℕ → ℕ) (V V' : ℕ → ℕ → View P) (t x : ℕ) (m : Option P)
    → IsIncrementalClass On n S V m → IsTurn S V V' t x Foreign Foreign → IsIncrementalClass On n S V' m
same_kept On n S V V' t x m k turn =
    subst (λ W. IsIncrementalClass On n S W m) (fun_ext (λ u. fun_ext (λ j. ⊎_elim (λ r. sym r.0) (λ r. r.2 ∙ sym r.3) (turn.each u j)))) k

module _ {K P : Type 0} (g : Setting K P) (law : IsLawful g) (inc : g.blocking ≡ false) where
  -- a finished table is passed by each key: one of its words is there for this, or none is
  passed_finished : (s : State P) (k : K) (t : ℕ) → ((x : ℕ) → x < g.size t → finished (s.slot t x) ≡ true) → IsPassed g.places (look g s k) t
  passed_finished s k t all = ⊎_elim (λ f. inl (f.0, f.1, f.2, f.3)) (λ f. inr f) (cursor (g.places t) (λ j lt. all (g.place k t j) (law.within k t j lt)))
    where
      at_word : (w : Word P) → finished w ≡ true → ((p : P) × (view g k w ≡ Gone p)) ⊎ (beyond (view g k w) ≡ true)
      at_word Empty h = absurd cc
      at_word Closed h = inr refl
      at_word (Live p) h = absurd cc
      at_word (Marked p) h = absurd cc
      at_word (Copied p) h = ⊎_elim (λ e. inl (p, cond-true (g.same k (g.key p)) (Gone p) Foreign e))
          (λ e. inr (ap beyond (cond-false (g.same k (g.key p)) (Gone p) Foreign e))) (cases_Bool (g.same k (g.key p)))
      at_word (Buried p) h = ⊎_elim (λ e. inr (ap beyond (cond-true (g.same k (g.key p)) (Grave p) Foreign e)))
          (λ e. inr (ap beyond (cond-false (g.same k (g.key p)) (Grave p) Foreign e))) (cases_Bool (g.same k (g.key p)))

      cursor : (n : ℕ) → ((j : ℕ) → j < n → finished (s.slot t (g.place k t j)) ≡ true) → ((j : ℕ) × (p : P) × (j < n) × (look g s k t j ≡ Gone p))
          ⊎ ((j : ℕ) → j < n → beyond (look g s k t j) ≡ true)
      cursor zero h = inr (λ j lt. absurd (omega arith))
      cursor (suc n) h =
          ⊎_elim
          (λ f. inl (f.0, f.1, omega (arith, f.2), f.3))
          (λ (f : (j : ℕ) → j < n → beyond (look g s k t j) ≡ true).
          ⊎_elim
          (λ e. inl (n, e.0, omega arith, e.1))
          (λ (e : beyond (look g s k t n) ≡ true).
          inr (λ j lt. ⊎_elim (λ l. f j l) (λ (l : n ≤ j). let q : j ≡ n = omega arith in subst (λ y. beyond (look g s k t y) ≡ true) (sym q) e)
          (cases_lt j n)))
          (at_word (s.slot t (g.place k t n)) (h n (omega arith))))
          (cursor n (λ j lt. h j (omega arith)))

  module _ (s : State P) (m : K → Option P) (holds : IsIncrementalState g s m) where
    -- a table that is reached is on the chain, and a search passes all before it
    pub reached_front : (k : K) (t : ℕ) → IsReached g s k t → IsOn s.first s.next t × IsFront (IsOn s.first s.next) g.places (look g s k) t
    reached_front k t r =
        let from = holds.was r.from r.was in
        let up : 0 < walk s.next r.links r.from = subst (λ y. 0 < y) (sym r.is) r.made in (
          subst (IsOn s.first s.next) r.is (walk_on s.next holds.rises s.first r.from r.links from.0 up),
          λ l on lt.
              ⊎_elim
              (λ (c : l < r.from). let low : l < s.root = omega (arith, from.1) in passed_finished s k l (λ x h. holds.settled l x on low h))
              (λ (c : r.from ≤ l).
              let w = on_walk s.next holds.rises s.first r.from l r.links from.0 on c up (subst (λ y. l < y) (sym r.is) lt) in
              subst (IsPassed g.places (look g s k)) w.2 (r.passed w.0 w.1))
              (cases_lt l r.from),
        )

    -- the table for a copy of a key's pair
    pub taker_full : (k : K) (t n : ℕ) → IsOn s.first s.next t → IsTaker g s k t n → IsOn s.first s.next n × (t < n)
        × AllFull (IsOn s.first s.next) g.places (look g s k) t n
    taker_full k t n on r =
        walk_between s.next holds.rises (λ l. IsFull g.places (look g s k) l) s.first t r.links n on r.is r.made
        (λ i lt. ⊎_elim (λ h. let b : g.blocking ≡ true = h.0 in absurd (cc (b, inc))) (λ h. h.1) (r.over i lt))

    -- the same for an equal key
    pub front_same : (k l : K) (t : ℕ) → g.same k l ≡ true → IsReached g s l t → IsOn s.first s.next t × IsFront (IsOn s.first s.next) g.places (look g s k) t
    front_same k l t h r =
        let f = reached_front l t r in
        (f.0, subst (λ V. IsFront (IsOn s.first s.next) g.places V t) (sym (look_same g law s k l h)) f.1)

    -- a slot's word changes, and each class keeps its invariant
    pub slot_incremental : (t x : ℕ) (w w' : Word P) → s.slot t x ≡ w → finished w ≡ false → IsOn s.first s.next t
        → ((p : P) → named w' ≡ Some p → IsPlaceOf g t x p) → (shut w' ≡ true → 0 < s.next t) → (m' : K → Option P)
        → ((k : K) → IsIncrementalClass (IsOn s.first s.next) g.places (g.place k) (look g (slot_put s t x w') k) (m' k))
        → IsIncrementalState g (slot_put s t x w') m'
    slot_incremental t x w w' old open' on new next m' class = record {
      sound = slot_sound g s holds.sound t x w' on new next;
      settled = λ u y on lt h. stays u y (holds.settled u y on lt h);
      done = λ u y on lt h. stays u y (holds.done u y on lt h);
      covered = holds.covered;
      class = class;
    }
      where
        stays : (u y : ℕ) → finished (s.slot u y) ≡ true → finished ((slot_put s t x w').slot u y) ≡ true
        stays u y h = ⊎_elim (λ r. ap finished r.0 ∙ h)
            (λ r. let e : s.slot u y ≡ w = cc (r.0, r.1, old) in absurd (let e' = ap finished e in cc (e', h, open'))) (slot_cases s t x w' u y)

    -- a claim
    pub claim_incremental : (t x : ℕ) (p : P) → MayClaim g s t x p → (m (g.key p) ≡ None)
        × IsIncrementalState g (slot_put s t x (Live p)) (λ k. cond (g.same k (g.key p)) (Some p) (m k))
    claim_incremental t x p may = (
      (of_class (g.key p) (law.itself (g.key p))).0,
      slot_incremental t x Empty (Live p) may.empty refl (reached_front (g.key p) t may.reached).0
          (place_of g s beyond t x p may.place)
          (λ e. absurd cc)
          (λ k. cond (g.same k (g.key p)) (Some p) (m k))
          (λ k. ⊎_elim
          (λ (e : g.same k (g.key p) ≡ true). subst (IsIncrementalClass (IsOn s.first s.next) g.places (g.place k)
          (look g (slot_put s t x (Live p)) k)) (sym (cond-true (g.same k (g.key p)) (Some p) (m k) e)) (of_class k e).1)
          (λ (e : g.same k (g.key p) ≡ false). subst (IsIncrementalClass (IsOn s.first s.next) g.places (g.place k)
          (look g (slot_put s t x (Live p)) k)) (sym (cond-false (g.same k (g.key p)) (Some p) (m k) e)) (other k e))
          (cases_Bool (g.same k (g.key p)))),
    )
      where
        of_class : (k : K) → g.same k (g.key p) ≡ true → (m k ≡ None)
            × IsIncrementalClass (IsOn s.first s.next) g.places (g.place k) (look g (slot_put s t x (Live p)) k) (Some p)
        of_class k e =
            let f = front_same k (g.key p) t e may.reached in
            let r : IsNextPlace g s k beyond t x = place_same g s law beyond k (g.key p) t x e may.place in
            claim_kept (IsOn s.first s.next) g.places (g.place k) (look g s k) (look g (slot_put s t x (Live p)) k) t x (m k) (holds.class k) f.0 f.1
            r.at r.within r.is p
            (turn_own g s k t x Empty (Live p) Free (Here p) may.empty refl (cond-true (g.same k (g.key p)) (Here p) Foreign e))
            r.before

        other : (k : K) → g.same k (g.key p) ≡ false → IsIncrementalClass (IsOn s.first s.next) g.places (g.place k) (look g (slot_put s t x (Live p)) k) (m k)
        other k e =
            fill_kept (IsOn s.first s.next) g.places (g.place k) (look g s k) (look g (slot_put s t x (Live p)) k) t x (m k) (holds.class k)
            (turn_own g s k t x Empty (Live p) Free Foreign may.empty refl (cond-false (g.same k (g.key p)) (Here p) Foreign e))
