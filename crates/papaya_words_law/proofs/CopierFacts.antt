-- The facts on which a copier can rely once it has gathered them: they name tables of the chain,
-- and they last.
use Rattle.std.proofs.Common.{◌≡◌, ◌⊎◌, inl, inr, ⊎_elim, ℕ, suc, ◌<◌, ◌≤◌, true, false, Option, Some, sym, ap, ◌∙◌, subst, arith}
use Rattle.std.proofs.lemmas.Bool.{cases_order, cond-true}
use Rattle.papaya_words_law.specs.Exchange.{Word, Empty, Closed, Live, Marked, Copied, Buried, Setting, State}
use Rattle.papaya_words_law.specs.View.{Foreign, Here, Leaving, Gone, Grave, look, view, own, foreign, IsPassed}
use Rattle.papaya_words_law.specs.Copying.{IsTaker, IsTarget, IsPutting, IsSettled}
use Rattle.papaya_words_law.specs.Class.{IsOn, Rises}
use Rattle.papaya_words_law.specs.Meaning.{IsLawful}
use Rattle.papaya_words_law.specs.Invariant.{IsKeeping, named}
use Rattle.papaya_words_law.specs.Later.{Becomes, IsLater}
use Rattle.papaya_words_law.proofs.Chain.{pos_before, walk_on, has_next}
use Rattle.papaya_words_law.proofs.Later.{Sees, lasts, own_sees, sees_later}
use Rattle.papaya_words_law.proofs.CodeViews.{other_key}
use Rattle.papaya_words_law.proofs.Slots.{view_leaving}
use Rattle.papaya_words_law.proofs.OneMap.{keeping_sound}

module _ {K P : Type 0} (g : Setting K P) (s : State P) (rises : Rises s.next) where
  -- a table with a target has a next one
  pub target_further : (t n : ℕ) → IsTarget g s t n → 0 < s.next t
  target_further t n r = pos_before s.next rises 1 (suc r.links) t (omega arith) (subst (λ y. 0 < y) (sym r.is) r.made)

  -- and so has one whose pair is taken
  pub taker_further : (k : K) (t n : ℕ) → IsTaker g s k t n → 0 < s.next t
  taker_further k t n r = pos_before s.next rises 1 (suc r.links) t (omega arith) (subst (λ y. 0 < y) (sym r.is) r.made)

  -- a target is on the chain
  pub target_on : (t n : ℕ) → IsOn s.first s.next t → IsTarget g s t n → IsOn s.first s.next n
  target_on t n on r = subst (IsOn s.first s.next) r.is (walk_on s.next rises s.first t (suc r.links) on (subst (λ y. 0 < y) (sym r.is) r.made))

  -- and a table that takes a pair
  pub taker_on : (k : K) (t n : ℕ) → IsOn s.first s.next t → IsTaker g s k t n → IsOn s.first s.next n
  taker_on k t n on r = subst (IsOn s.first s.next) r.is (walk_on s.next rises s.first t (suc r.links) on (subst (λ y. 0 < y) (sym r.is) r.made))

-- a table that was the root, and that has no next table, is the root
pub last_root : {K P : Type 0} (g : Setting K P) (s : State P) (m : K → Option P) → IsKeeping g s m → (t : ℕ) → s.was_root t ≡ true → s.next t ≡ 0 → s.root ≡ t
last_root g s m keeps t was last =
    let sound = keeping_sound g s m keeps in
    let w = sound.was t was in
    ⊎_elim
    (λ (e : t ≡ s.root). sym e)
    (⊎_elim
    (λ (c : t < s.root).
    let on : IsOn s.first s.next s.root = ⊎_elim (λ z. let e = z.0 in absurd (omega (arith, e, c))) (λ o. o) sound.root in
    let n : 0 < s.next t = has_next s.next sound.rises s.first t s.root w.0 on c in
    absurd (omega arith))
    (λ (c : s.root < t). let l = w.1 in absurd (omega (arith, l, c))))
    (cases_order t s.root)

-- the facts of a copier about the pair that it moves last
pub putting_lasts : {K P : Type 0} (g : Setting K P) → IsLawful g → (s s' : State P) → s.next 0 ≡ 0 → IsLater g s s' → (t x : ℕ) (p : P) (n j : ℕ)
    → IsPutting g s t x p n j → IsPutting g s' t x p n j
putting_lasts g law s s' zero_next later t x p n j r =
    let all = lasts g law s s' zero_next later in
    record {
      stood = ⊎_elim
          (λ e. subst (λ w. Becomes g w (s'.slot t x)) e (later.words t x))
          (λ e. inr (subst (λ w. Becomes g w (s'.slot t x)) e (later.words t x)))
          r.stood;
      taker = all.taker (g.key p) t n r.taker;
      before = λ i lt. all.foreign_at (g.key p) n i (r.before i lt);
    }

-- slots that are settled stay settled
pub settled_lasts : {K P : Type 0} (g : Setting K P) → IsLawful g → (s s' : State P) → s.next 0 ≡ 0 → IsLater g s s' → (t n a b : ℕ)
    → ((x : ℕ) → a ≤ x → x < b → IsSettled g s n (s.slot t x)) → (x : ℕ) → a ≤ x → x < b → IsSettled g s' n (s'.slot t x)
settled_lasts g law s s' zero_next later t n a b h x lo hi = (lasts g law s s' zero_next later).settled n t x (h x lo hi)

-- without blocking: if the slot is settled in which a call met its key's pair leaving, the search
-- passes the table
pub moved : {K P : Type 0} (g : Setting K P) (s : State P) → g.blocking ≡ false → (k : K) (t j n : ℕ) (p : P) → j < g.places t
    → (look g s k t j ≡ Leaving p) ⊎ (look g s k t j ≡ Gone p) → IsSettled g s n (s.slot t (g.place k t j)) → IsPassed g.places (look g s k) t
moved g s inc k t j n p lt (inr e) settled = inl (j, p, lt, e)
moved g s inc k t j n p lt (inl e) settled =
    let w = view_leaving g k (s.slot t (g.place k t j)) p e in
    let b : IsSettled g s n (Marked p) = subst (IsSettled g s n) w.0 settled in
    let h = b.0 in
    absurd (cc (h, inc))

module _ {K P : Type 0} (g : Setting K P) (law : IsLawful g) (k : K) where
  -- a word that names a pair of the key is the key's
  named_own : (w : Word P) (p : P) → named w ≡ Some p → g.same k (g.key p) ≡ true → own (view g k w) ≡ true
  named_own Empty p e n = absurd cc
  named_own Closed p e n = absurd cc
  named_own (Live q) p e n = let is : q ≡ p = cc e in ap own (cond-true (g.same k (g.key q)) (Here q) Foreign (ap (λ r. g.same k (g.key r)) is ∙ n))
  named_own (Marked q) p e n = let is : q ≡ p = cc e in ap own (cond-true (g.same k (g.key q)) (Leaving q) Foreign (ap (λ r. g.same k (g.key r)) is ∙ n))
  named_own (Copied q) p e n = let is : q ≡ p = cc e in ap own (cond-true (g.same k (g.key q)) (Gone q) Foreign (ap (λ r. g.same k (g.key r)) is ∙ n))
  named_own (Buried q) p e n = let is : q ≡ p = cc e in ap own (cond-true (g.same k (g.key q)) (Grave q) Foreign (ap (λ r. g.same k (g.key r)) is ∙ n))

  -- a word whose pair was compared, whatever came of it since: it is the key's
  pub compared_own : (was w : Word P) (p : P) → Becomes g was w → named was ≡ Some p → g.same k (g.key p) ≡ true → own (view g k w) ≡ true
  compared_own was w p b e same = own_sees (view g k was) (view g k w) (sees_later g law k was w b) (named_own was p e same)

  -- or another's
  pub compared_foreign : (was w : Word P) (p : P) → Becomes g was w → named was ≡ Some p → g.same k (g.key p) ≡ false → foreign (view g k w) ≡ true
  compared_foreign was w p b e other =
      let sees : Sees (view g k was) (view g k w) = sees_later g law k was w b in
      let h : view g k w ≡ Foreign = subst (λ v. Sees v (view g k w)) (other_key g k was p e other) sees in
      ap foreign h
