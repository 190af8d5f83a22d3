-- The exchanges of the root and of the words of a table preserve the invariant, without blocking.
use Rattle.std.proofs.Common.{◌≡◌, ⊎_elim, ℕ, suc, ◌<◌, ◌≤◌, true, false, ◌==◌, Option, None, refl, sym, ap, ◌∙◌, subst, arith, eqb-true}
use Rattle.std.proofs.lemmas.Bool.{cases_order, cases_Bool, cond-true, cond-false}
use Rattle.papaya_words_law.specs.Exchange.{Word, Empty, Closed, Live, Marked, Copied, Buried, Setting}
use Rattle.papaya_words_law.specs.Exchange.{State, Open, Link, Advance, Promote, start, after, at_put}
use Rattle.papaya_words_law.specs.Exchange.{walk}
use Rattle.papaya_words_law.specs.View.{look}
use Rattle.papaya_words_law.specs.Copying.{IsTarget, IsSettled, Covers}
use Rattle.papaya_words_law.specs.Allows.{MayAdvance, MayLink, MayPromote}
use Rattle.papaya_words_law.specs.Class.{IsOn}
use Rattle.papaya_words_law.specs.Invariant.{finished, IsIncrementalState}
use Rattle.papaya_words_law.proofs.Class.{longer_kept}
use Rattle.papaya_words_law.proofs.Chain.{next_on, none_between, has_next, same_before, walk_le}
use Rattle.papaya_words_law.proofs.Base.{start_sound, open_sound, link_sound, advance_sound, promote_sound, link_more, link_old, no_root, done_cases}

module _ {K P : Type 0} (g : Setting K P) (inc : g.blocking ≡ false) where
  -- before the first exchange
  pub start_incremental : IsIncrementalState g start (λ k. None)
  start_incremental = record {
    sound = start_sound g;
    settled = λ t x on lt h. absurd (omega arith);
    done = λ t x on lt h. absurd (cc lt);
    covered = λ t h. absurd (omega arith);
    class = λ k. record {
      base = record { same_slot = λ t i j e. refl; on = λ t j e. absurd cc; filled = λ t j lt e. absurd cc; one = λ t i j a b p q. absurd cc };
      order = λ t u j on lt l e. absurd cc;
      gone = λ t i p lt e. absurd cc;
      tied = λ t j lt e. cc;
    };
  }

  module _ (s : State P) (m : K → Option P) (holds : IsIncrementalState g s m) where
    -- the first root is set
    pub open_incremental : (t : ℕ) → s.root ≡ 0 → 0 < t → IsIncrementalState g (after s (Open t)) m
    open_incremental t e some = record {
      sound = open_sound g s holds.sound t e some;
      settled = λ u x on lt h. absurd (early u on lt);
      done = λ u x on lt h. absurd (no_root g s holds.sound e (s.next u) (holds.done_on (s.next u) (g.chunk_of x) lt));
      covered = holds.covered;
      class = λ k. longer_kept (IsOn s.first s.next) (IsOn t s.next) g.places (g.place k) (look g s k) (m k)
          (λ u on. absurd (no_root g s holds.sound e u on)) (λ l u on onu lt. absurd (no_root g s holds.sound e u onu)) (holds.class k);
    }
      where
        early : (u : ℕ) → IsOn t s.next u → u < t → ⊥
        early u (h, (k, w)) lt = let q : walk s.next 0 t ≤ walk s.next k t = walk_le s.next holds.rises 0 k t (omega arith)
            (subst (λ y. 0 < y) (sym w) h) in omega arith

    -- a link is made
    pub link_incremental : (t n : ℕ) → MayLink g s t n → IsIncrementalState g (after s (Link t n)) m
    link_incremental t n may = record {
      sound = link_sound g s holds.sound t n may.last may.on.0 may.rises may.on;
      settled = λ u x on lt h. holds.settled u x (⊎_elim (λ r. absurd (omega (arith, r.0))) (λ onr. older u s.root on onr lt) holds.root) lt h;
      done = λ u x on lt h. ⊎_elim
          (λ (q : (u == t) ≡ true).
          let b : s.done n (g.chunk_of x) ≡ true = subst (λ y. s.done y (g.chunk_of x) ≡ true) (cond-true (u == t) n (s.next u) q) lt in
          let on-n : IsOn s.first s.next n = holds.done_on n (g.chunk_of x) b in
          let on-t : IsOn s.first s.next t = older t n (subst (IsOn s.first (at_put s.next t n)) (eqb-true u t q) on) on-n may.rises in
          absurd (let c = has_next s.next holds.rises s.first t n on-t on-n may.rises in let z = may.last in omega arith))
          (λ (q : (u == t) ≡ false).
          let b : s.done (s.next u) (g.chunk_of x) ≡ true = subst (λ y. s.done y (g.chunk_of x) ≡ true) (cond-false (u == t) n (s.next u) q) lt in
          let on-n : IsOn s.first s.next (s.next u) = holds.done_on (s.next u) (g.chunk_of x) b in
          let lo : u < s.next u = ⊎_elim (λ z. absurd (omega (arith, on-n.0))) (λ r. r.1) (holds.rises u) in
          holds.done u x (older u (s.next u) on on-n lo) b h)
          (cases_Bool (u == t));
      covered = λ u h. ⊎_elim
          (λ (q : (u == t) ≡ true). subst (Covers g u) (sym (cond-true (u == t) n (s.next u) q)) (subst (λ y. Covers g y n) (sym (eqb-true u t q)) covers))
          (λ (q : (u == t) ≡ false). subst (Covers g u) (sym (cond-false (u == t) n (s.next u) q))
          (holds.covered u (subst (λ y. 0 < y) (cond-false (u == t) n (s.next u) q) h)))
          (cases_Bool (u == t));
      class = λ k. longer_kept (IsOn s.first s.next) (IsOn s.first (at_put s.next t n)) g.places (g.place k) (look g s k) (m k)
          (link_more g s holds.sound t n may.last may.on.0 may.rises) older (holds.class k);
    }
      where
        covers : Covers g t n
        covers = ⊎_elim (λ h. subst (λ y. Covers g y n) h.0 may.covers) (λ h. absurd (let b = h.0 in cc (b, inc))) may.linking

        older : (l u : ℕ) → IsOn s.first (at_put s.next t n) l → IsOn s.first s.next u → l < u → IsOn s.first s.next l
        older = link_old g s holds.sound t n may.last may.on.0 may.rises

    -- without blocking the target is the next table
    pub target_next : (t n : ℕ) → IsTarget g s t n → s.next t ≡ n
    target_next t n r = ⊎_elim (λ (e : r.links ≡ 0). ap (λ y. walk s.next (suc y) t) (sym e) ∙ r.is) (λ b. absurd (cc (b, inc))) r.mode

    -- a settled word is finished
    settled_finished : (n : ℕ) (w : Word P) → IsSettled g s n w → finished w ≡ true
    settled_finished n Empty h = absurd h
    settled_finished n Closed h = refl
    settled_finished n (Live p) h = absurd h
    settled_finished n (Marked p) h = let b : g.blocking ≡ true = h.0 in absurd (cc (b, inc))
    settled_finished n (Copied p) h = refl
    settled_finished n (Buried p) h = refl

    -- a table with a finished word is on the chain
    finished_on : (t x : ℕ) → finished (s.slot t x) ≡ true → IsOn s.first s.next t
    finished_on t x h = holds.slots_on t x (λ e. let f = ap finished e in cc (f, h))

    -- a chunk is done
    pub advance_incremental : (n c : ℕ) → MayAdvance g s n c → IsIncrementalState g (after s (Advance n c)) m
    advance_incremental n c may = record {
      sound = advance_sound g s holds.sound n c on-n;
      settled = holds.settled;
      done = λ u x on lt h. ⊎_elim
          (λ r.
          let same : u ≡ may.from = same_before s.next holds.rises s.first u may.from on from-on (r.0 ∙ sym is) (subst (λ y. 0 < y) (sym is) may.target.made) in
          subst (λ y. finished (s.slot y x) ≡ true) (sym same) (settled_finished n (s.slot may.from x) (may.settled x (subst (λ y. x < g.size y) same h) r.1)))
          (λ old. holds.done u x on old h)
          (done_cases s.done n c (s.next u) (g.chunk_of x) lt);
      covered = holds.covered;
      class = holds.class;
    }
      where
        is : s.next may.from ≡ n
        is = target_next may.from n may.target

        from-on : IsOn s.first s.next may.from
        from-on = finished_on may.from may.slot (settled_finished n (s.slot may.from may.slot) (may.settled may.slot may.within may.in_chunk))

        on-n : IsOn s.first s.next n
        on-n = subst (IsOn s.first s.next) is (next_on s.next holds.rises s.first may.from from-on (subst (λ y. 0 < y) (sym is) may.target.made))

    -- the root is promoted
    pub promote_incremental : (t n : ℕ) → MayPromote g s t n → IsIncrementalState g (after s (Promote t n)) m
    promote_incremental t n may = record {
      sound = promote_sound g s holds.sound t n on-n (let r = may.root in let w = up in omega arith);
      settled = λ u x on lt h. ⊎_elim
          (λ (e : u ≡ t). holds.done u x on (subst (λ y. s.done y (g.chunk_of x) ≡ true) (sym is ∙ ap s.next (sym e))
          (may.whole x (subst (λ y. x < g.size y) e h))) h)
          (⊎_elim
          (λ (c : u < t). holds.settled u x on (subst (λ y. u < y) (sym may.root) c) h)
          (λ (c : t < u). absurd (none_between s.next holds.rises s.first t u on-t on c (subst (λ y. u < y) (sym is) lt))))
          (cases_order u t);
      done = holds.done;
      covered = holds.covered;
      class = holds.class;
    }
      where
        is : s.next t ≡ n
        is = target_next t n may.target

        on-t : IsOn s.first s.next t
        on-t = ⊎_elim (λ r. absurd (let a = may.made in let b = may.root in omega (arith, r.0))) (λ on. subst (IsOn s.first s.next) may.root on) holds.root

        on-n : IsOn s.first s.next n
        on-n = subst (IsOn s.first s.next) is (next_on s.next holds.rises s.first t on-t (subst (λ y. 0 < y) (sym is) may.target.made))

        up : t < n
        up = ⊎_elim (λ z. absurd (let a = may.target.made in let b = is in omega arith)) (λ r. subst (λ y. t < y) is r.1) (holds.rises t)
