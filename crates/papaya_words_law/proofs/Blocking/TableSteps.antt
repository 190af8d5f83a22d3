-- The exchanges of the root and of the words of a table preserve the invariant, with blocking.
use Rattle.std.proofs.Common.{◌≡◌, ◌⊎◌, inl, inr, ⊎_elim, ℕ, suc, ◌<◌, ◌≤◌, Bool, true, false, ◌==◌}
use Rattle.std.proofs.Common.{Option, None, Some, refl, sym, ap, ◌∙◌, subst, arith, eqb-true}
use Rattle.std.proofs.lemmas.Bool.{cases_lt, cases_Bool, cond-true, cond-false}
use Rattle.papaya_words_law.specs.Exchange.{Marked, Setting, State, Open, Link, Advance, Promote, Abort, start, after, at_put, walk}
use Rattle.papaya_words_law.specs.View.{View, Foreign, Here, Leaving, view, look, own, HasWord}
use Rattle.papaya_words_law.specs.Copying.{IsTarget, IsSettled}
use Rattle.papaya_words_law.specs.Allows.{MayAdvance, MayLink, MayPromote, MayAbort}
use Rattle.papaya_words_law.specs.Meaning.{IsLawful}
use Rattle.papaya_words_law.specs.Class.{IsOn}
use Rattle.papaya_words_law.specs.ClassBlocking.{AllAborted, IsBlockingClass, IsRootTied}
use Rattle.papaya_words_law.specs.Invariant.{named, plain, IsGivenUp, IsBlockingState}
use Rattle.papaya_words_law.proofs.Views.{held-active, active-own, foreign_not_own}
use Rattle.papaya_words_law.proofs.Class.{longer_base, held_of}
use Rattle.papaya_words_law.proofs.Blocking.ClassSteps.{promote_kept_blocking, abort_kept_blocking, longer_kept_blocking}
use Rattle.papaya_words_law.proofs.Later.{put_on}
use Rattle.papaya_words_law.proofs.Slots.{look_same, view_leaving, view_here}
use Rattle.papaya_words_law.proofs.Base.{start_sound, open_sound, link_sound, advance_sound, promote_sound, link_more, link_old, no_root, own_place, done_cases}
use Rattle.papaya_words_law.proofs.Chain.{pos_before}
use Rattle.papaya_words_law.proofs.Blocking.Links.{from_root, link_covered, same_target}
use Rattle.papaya_words_law.proofs.Blocking.States.{was_root_of, taker_aborted, target_aborted, settled_not_plain}

-- a flag that is false with n was false without it
put_false : (f : ℕ → Bool) (n u : ℕ) → at_put f n true u ≡ false → f u ≡ false
put_false f n u h = ⊎_elim (λ q. absurd (let e = cond-true (u == n) true (f u) q in cc (e, h))) (λ q. sym (cond-false (u == n) true (f u) q) ∙ h)
    (cases_Bool (u == n))

-- a flag that is true with n is that of n, or was true
put_cases : (f : ℕ → Bool) (n u : ℕ) → at_put f n true u ≡ true → (u ≡ n) ⊎ (f u ≡ true)
put_cases f n u h = ⊎_elim (λ q. inl (eqb-true u n q)) (λ q. inr (sym (cond-false (u == n) true (f u) q) ∙ h)) (cases_Bool (u == n))

-- elsewhere nothing changes
put_same : {Y : Type 0} (f : ℕ → Y) (n : ℕ) (y : Y) (u : ℕ) → (u ≡ n → ⊥) → at_put f n y u ≡ f u
put_same f n y u h = ⊎_elim (λ q. absurd (h (eqb-true u n q))) (λ q. cond-false (u == n) y (f u) q) (cases_Bool (u == n))

-- if no word is of the key, a map that is tied to one root is tied to another
none_tied : {P : Type 0} → (n : ℕ → ℕ) (V : ℕ → ℕ → View P) (r r' : ℕ) → ((u j : ℕ) → own (V u j) ≡ true → ⊥) → (v : Option P) → IsRootTied n V r v
    → IsRootTied n V r' v
none_tied n V r r' none None h = λ j lt e. none r' j (active-own (V r' j) (held-active (V r' j) e))
none_tied n V r r' none (Some p) o = absurd (none r o.at (active-own (V r o.at) (held-active (V r o.at) (held_of (V r o.at) p o.has))))

module _ {K P : Type 0} (g : Setting K P) where
  -- before the first exchange
  pub start_blocking : IsBlockingState g start (λ k. None)
  start_blocking = record {
    sound = start_sound g;
    alive = λ t e. absurd cc;
    frozen = λ t x e. absurd cc;
    fresh = λ t x e. refl;
    copied = λ t x p e. cc;
    given_up = λ t e. absurd cc;
    done_to = λ t c lt h. absurd (cc h);
    linked_by = λ t h. absurd (omega arith);
    covered = λ t n e. absurd cc;
    class = λ k. record {
      base = record { same_slot = λ t i j e. refl; on = λ t j e. absurd cc; filled = λ t j lt e. absurd cc; one = λ t i j a b p q. absurd cc };
      ahead = λ u j lt l e. absurd cc;
      handed = λ t u i p e. absurd cc;
      tied = λ j lt e. cc;
    };
  }

  module _ (s : State P) (m : K → Option P) (holds : IsBlockingState g s m) where
    -- if there is no root, no word is of a key
    pub none_own : s.root ≡ 0 → (k : K) (u j : ℕ) → own (look g s k u j) ≡ true → ⊥
    none_own e k u j h = no_root g s holds.sound e u ((holds.class k).base.on u j h)

    -- if there is no root, all classes are kept
    rootless : (On' : ℕ → Type 0) (Was' ab' : ℕ → Bool) (r' : ℕ) → s.root ≡ 0 → (k : K)
        → IsBlockingClass On' Was' ab' r' g.places (g.place k) (look g s k) (m k)
    rootless On' Was' ab' r' e k = record {
      base = longer_base (IsOn s.first s.next) On' g.places (g.place k) (look g s k) (λ u on. absurd (no_root g s holds.sound e u on)) (holds.class k).base;
      ahead = λ u j lt l h. absurd (none_own e k u j h);
      handed = λ t u i p was on lo hi all free lt h. absurd (none_own e k t i (ap own h));
      tied = none_tied g.places (look g s k) s.root r' (none_own e k) (m k) (holds.class k).tied;
    }

    -- the first root is set
    pub open_blocking : (t : ℕ) → s.root ≡ 0 → 0 < t → IsBlockingState g (after s (Open t)) m
    open_blocking t e some = record {
      sound = open_sound g s holds.sound t e some;
      alive = λ u h. ⊎_elim
          (λ (a : s.aborted u ≡ true). absurd (no_root g s holds.sound e u (holds.given_up u a (up u h)).on))
          (λ (a : s.aborted u ≡ false). a)
          (cases_Bool (s.aborted u));
      frozen = λ u x h lt i. absurd (⊎_elim (λ q. omega arith) (λ w. no_root g s holds.sound e u (holds.was u w).0) (put_cases s.was_root t u h));
      fresh = λ u x h. holds.fresh u x (put_false s.was_root t u h);
      copied = holds.copied;
      given_up = λ u a lt. absurd (no_root g s holds.sound e u (holds.given_up u a (omega arith)).on);
      done_to = λ u c lt h. absurd (no_root g s holds.sound e u (holds.done_on u c h));
      linked_by = λ u h. absurd (no_root g s holds.sound e u (holds.linked u h));
      covered = λ u n h r. absurd (no_root g s holds.sound e u
          (holds.linked u (pos_before s.next holds.rises 1 (suc r.links) u (omega arith) (subst (λ y. 0 < y) (sym r.is) r.made))));
      class = rootless (IsOn t s.next) (at_put s.was_root t true) s.aborted t e;
    }
      where
        up : (u : ℕ) → at_put s.was_root t true u ≡ true → s.root < u
        up u h = ⊎_elim (λ (q : u ≡ t). omega arith) (λ w. absurd (no_root g s holds.sound e u (holds.was u w).0)) (put_cases s.was_root t u h)

    -- a link is made
    pub link_blocking : g.blocking ≡ true → (t n : ℕ) → MayLink g s t n → IsBlockingState g (after s (Link t n)) m
    link_blocking blocks t n may = record {
      sound = link_sound g s holds.sound t n may.last may.on.0 may.rises may.on;
      alive = holds.alive;
      frozen = holds.frozen;
      fresh = holds.fresh;
      copied = holds.copied;
      given_up = λ u a lt. let v = holds.given_up u a lt in
          record { on = more u v.on; between = between u v.on v.between; slot = v.slot; pair = v.pair; marked = v.marked; full = v.full };
      done_to = λ u c lt h. let v = holds.done_to u c lt h in record { between = between u (holds.done_on u c h) v.between; settled = v.settled };
      linked_by = λ u h. ⊎_elim
          (λ (q : (u == t) ≡ true). let e = eqb-true u t q in ⊎_elim (λ l. inl (ap s.was_root e ∙ l.1 blocks)) (λ l. inr (ap s.aborted e ∙ l.3)) may.linking)
          (λ (q : (u == t) ≡ false). holds.linked_by u (subst (λ y. 0 < y) (cond-false (u == t) n (s.next u) q) h))
          (cases_Bool (u == t));
      covered = link_covered g s m holds blocks t n may;
      class = λ k. ⊎_elim
          (λ r. rootless (IsOn s.first (at_put s.next t n)) s.was_root s.aborted s.root r.0 k)
          (λ on. longer_kept_blocking (IsOn s.first s.next) (IsOn s.first (at_put s.next t n)) s.was_root s.aborted s.root g.places (g.place k)
          (look g s k) (m k) more older on (holds.class k))
          holds.root;
    }
      where
        more : (u : ℕ) → IsOn s.first s.next u → IsOn s.first (at_put s.next t n) u
        more = link_more g s holds.sound t n may.last may.on.0 may.rises

        older : (l u : ℕ) → IsOn s.first (at_put s.next t n) l → IsOn s.first s.next u → l < u → IsOn s.first s.next l
        older = link_old g s holds.sound t n may.last may.on.0 may.rises

        between : (u : ℕ) → IsOn s.first s.next u → AllAborted (IsOn s.first s.next) s.aborted s.root u
            → AllAborted (IsOn s.first (at_put s.next t n)) s.aborted s.root u
        between u on all l onl lo hi = all l (older l u onl on hi) lo hi

    -- a chunk is done
    pub advance_blocking : (n c : ℕ) → MayAdvance g s n c → IsBlockingState g (after s (Advance n c)) m
    advance_blocking n c may = record {
      sound = advance_sound g s holds.sound n c target.0;
      alive = holds.alive;
      frozen = holds.frozen;
      fresh = holds.fresh;
      copied = holds.copied;
      given_up = λ u a lt. let v = holds.given_up u a lt in
          record { on = v.on; between = v.between; slot = v.slot; pair = v.pair; marked = v.marked; full = v.full };
      done_to = λ u d lt h. record {
        between = ⊎_elim
            (λ r. subst (AllAborted (IsOn s.first s.next) s.aborted s.root) (sym r.0) (between (subst (λ y. s.root < y) r.0 lt)))
            (λ old. (holds.done_to u d lt old).between)
            (done_cases s.done n c u d h);
        settled = λ x e i. ⊎_elim
            (λ r.
            let same : may.from ≡ s.root = from_root g s m holds may.from n was (subst (λ y. s.root < y) r.0 lt) target.2 in
            subst (λ y. IsSettled g s y (s.slot s.root x)) (sym r.0)
            (subst (λ y. IsSettled g s n (s.slot y x)) same (may.settled x (subst (λ y. x < g.size y) (sym same) i) r.1)))
            (λ old. (holds.done_to u (g.chunk_of x) lt old).settled x old i)
            (done_cases s.done n c u (g.chunk_of x) e);
      };
      linked_by = holds.linked_by;
      covered = λ u l w r. holds.covered u l w (same_target g s (after s (Advance n c)) refl refl u l r);
      class = holds.class;
    }
      where
        was : s.was_root may.from ≡ true
        was = was_root_of g s m holds may.from may.slot (s.slot may.from may.slot) refl
            (settled_not_plain g s n (s.slot may.from may.slot) (may.settled may.slot may.within may.in_chunk))

        target : IsOn s.first s.next n × (may.from < n) × AllAborted (IsOn s.first s.next) s.aborted may.from n
        target = target_aborted g s holds.sound may.from n (holds.was may.from was).0 may.target

        between : s.root < n → AllAborted (IsOn s.first s.next) s.aborted s.root n
        between lt = subst (λ y. AllAborted (IsOn s.first s.next) s.aborted y n) (from_root g s m holds may.from n was lt target.2) target.2

    module _ (law : IsLawful g) where
      -- the root is promoted
      pub promote_blocking : (t n : ℕ) → MayPromote g s t n → IsBlockingState g (after s (Promote t n)) m
      promote_blocking t n may = record {
        sound = promote_sound g s holds.sound t n target.0 (omega (arith, target.1));
        alive = λ u h. ⊎_elim (λ (e : u ≡ n). subst (λ y. s.aborted y ≡ false) (sym e) live) (λ w. holds.alive u w) (put_cases s.was_root n u h);
        frozen = λ u x h lt i. ⊎_elim
            (λ (e : u ≡ n). absurd (omega arith))
            (λ w.
            let low : u ≤ s.root = (holds.was u w).1 in
            ⊎_elim
            (λ (c : u < s.root). holds.frozen u x w c i)
            (λ (c : s.root ≤ u).
            let e : s.root ≡ u = omega arith in
            subst (λ y. plain (s.slot y x) ≡ false) e (settled_not_plain g s n (s.slot s.root x) (settled x (subst (λ y. x < g.size y) (sym e) i))))
            (cases_lt u s.root))
            (put_cases s.was_root n u h);
        fresh = λ u x h. holds.fresh u x (put_false s.was_root n u h);
        copied = holds.copied;
        given_up = λ u a lt. let up : s.root < u = omega (arith, target.1) in
            absurd (let v = (holds.given_up u a up).between n target.0 target.1 lt in cc (v, live));
        done_to = λ u c lt h. let up : s.root < u = omega (arith, target.1) in
            absurd (let v = (holds.done_to u c up h).between n target.0 target.1 lt in cc (v, live));
        linked_by = λ u h. ⊎_elim (λ w. inl (put_on s.was_root n u w)) (λ a. inr a) (holds.linked_by u h);
        covered = λ u l h r.
            let old : IsTarget g s u l = same_target g s (after s (Promote t n)) refl refl u l r in
            let further : 0 < s.next u = pos_before s.next holds.rises 1 (suc r.links) u (omega arith) (subst (λ y. 0 < y) (sym r.is) r.made) in
            ⊎_elim
            (λ (e : u ≡ n). ⊎_elim (λ w. holds.covered u l w old) (λ a. absurd (let f = ap s.aborted e in cc (f, a, live))) (holds.linked_by u further))
            (λ w. holds.covered u l w old)
            (put_cases s.was_root n u h);
        class = λ k.
            promote_kept_blocking (IsOn s.first s.next) s.was_root (at_put s.was_root n true) s.aborted s.root n g.places (g.place k) (look g s k)
            (m k) (holds.class k)
            on-root (holds.alive s.root was) target.0 live target.1 target.2 (λ u w. (holds.was u w).1) (put_cases s.was_root n) (none k) (copies k);
      }
        where
          some : 0 < s.root
          some = subst (λ y. 0 < y) (sym may.root) may.made

          was : s.was_root s.root ≡ true
          was = holds.root_was some

          on-root : IsOn s.first s.next s.root
          on-root = (holds.was s.root was).0

          target : IsOn s.first s.next n × (s.root < n) × AllAborted (IsOn s.first s.next) s.aborted s.root n
          target = target_aborted g s holds.sound s.root n on-root (subst (λ y. IsTarget g s y n) (sym may.root) may.target)

          settled : (x : ℕ) → x < g.size s.root → IsSettled g s n (s.slot s.root x)
          settled x lt =
              let whole : s.done n (g.chunk_of x) ≡ true = may.whole x (subst (λ y. x < g.size y) may.root lt) in
              (holds.done_to n (g.chunk_of x) target.1 whole).settled x whole lt

          copies : (k : K) (i : ℕ) (p : P) → i < g.places s.root → look g s k s.root i ≡ Leaving p → HasWord g.places (look g s k) n
          copies k i p lt e =
              let w = view_leaving g k (s.slot s.root (g.place k s.root i)) p e in
              let q : IsSettled g s n (Marked p) = subst (IsSettled g s n) w.0 (settled (g.place k s.root i) (law.within k s.root i lt)) in
              subst (λ V. HasWord g.places V n) (sym (look_same g law s k (g.key p) w.1)) q.1

          none : (k : K) (i : ℕ) (p : P) → i < g.places s.root → look g s k s.root i ≡ Here p → ⊥
          none k i p lt e = subst (IsSettled g s n) (view_here g k (s.slot s.root (g.place k s.root i)) p e)
              (settled (g.place k s.root i) (law.within k s.root i lt))

          live : s.aborted n ≡ false
          live = ⊎_elim (λ a. absurd (lost a)) (λ a. a) (cases_Bool (s.aborted n))
            where
              lost : s.aborted n ≡ true → ⊥
              lost a =
                  let v = holds.given_up n a target.1 in
                  let o = holds.placed s.root v.slot v.pair (ap named v.marked) in
                  let i : v.slot < g.size s.root = subst (λ y. y < g.size s.root) o.is (law.within (g.key v.pair) s.root o.at o.within) in
                  let q : IsSettled g s n (Marked v.pair) = subst (IsSettled g s n) v.marked (settled v.slot i) in
                  let h = q.1 in
                  foreign_not_own (look g s (g.key v.pair) n h.0) (v.full h.0 h.1) h.2

      -- a table is aborted
      pub abort_blocking : (n : ℕ) → MayAbort g s n → IsBlockingState g (after s (Abort n)) m
      abort_blocking n may = record {
        sound = record {
          rises = holds.rises;
          root = holds.root;
          was = holds.was;
          root_was = holds.root_was;
          done_on = holds.done_on;
          slots_on = holds.slots_on;
          placed = holds.placed;
          further = holds.further;
          linked = holds.linked;
        };
        alive = λ u w. put_same s.aborted n true u (λ (e : u ≡ n). let l = (holds.was u w).1 in omega (arith, behind)) ∙ holds.alive u w;
        frozen = holds.frozen;
        fresh = holds.fresh;
        copied = holds.copied;
        given_up = λ u a lt. ⊎_elim
            (λ (e : u ≡ n). subst (λ y. IsGivenUp g (after s (Abort n)) y) (sym e) (record {
              on = taker.0;
              between = λ l on lo hi. put_on s.aborted n l (subst (λ y. AllAborted (IsOn s.first s.next) s.aborted y n) same taker.2 l on lo hi);
              slot = may.source.slot;
              pair = p;
              marked = subst (λ y. s.slot y may.source.slot ≡ Marked p) same marked;
              full = may.full;
            }))
            (λ b. let v = holds.given_up u b lt in record {
              on = v.on;
              between = λ l on lo hi.
                  put_on s.aborted n l (v.between l on lo hi);
              slot = v.slot;
              pair = v.pair;
              marked = v.marked;
              full = v.full;
            })
            (put_cases s.aborted n u a);
        done_to = λ u c lt h. let v = holds.done_to u c lt h in
            record { between = λ l on lo hi. put_on s.aborted n l (v.between l on lo hi); settled = v.settled };
        linked_by = λ u h. ⊎_elim (λ w. inl w) (λ a. inr (put_on s.aborted n u a)) (holds.linked_by u h);
        covered = λ u l w r. holds.covered u l w (target_kept u l r);
        class = λ k. abort_kept_blocking (IsOn s.first s.next) s.was_root s.aborted (at_put s.aborted n true) s.root g.places (g.place k) (look g s k)
            (m k) (holds.class k) (put_on s.aborted n) (λ l le. put_same s.aborted n true l (λ e. omega (arith, behind)));
      }
        where
          p : P
          p = may.pair

          from : ℕ
          from = may.source.from

          marked : s.slot from may.source.slot ≡ Marked p
          marked = ⊎_elim (λ e. e) (λ e. absurd (holds.copied from may.source.slot p e)) may.source.stood

          was : s.was_root from ≡ true
          was = was_root_of g s m holds from may.source.slot (Marked p) marked refl

          taker : IsOn s.first s.next n × (from < n) × AllAborted (IsOn s.first s.next) s.aborted from n
          taker = taker_aborted g s holds.sound may.mode (g.key p) from n (holds.was from was).0 may.source.taker

          behind : s.root < n
          behind =
              ⊎_elim
              (λ c. c)
              (λ (c : n ≤ s.root).
              let o = own_place g s holds.sound law (g.key p) from may.source.slot p (law.itself (g.key p)) (ap named marked) in
              let leaving : look g s (g.key p) from o.0 ≡ Leaving p = ap (λ y. view g (g.key p) (s.slot from y)) o.2
              ∙ (ap (view g (g.key p)) marked ∙ cond-true (g.same (g.key p) (g.key p)) (Leaving p) Foreign (law.itself (g.key p))) in
              let w = (holds.class (g.key p)).handed from n o.0 p was taker.0 taker.1 c taker.2 may.before o.1 leaving in
              absurd (foreign_not_own (look g s (g.key p) n w.0) (may.full w.0 w.1) w.2))
              (cases_lt s.root n)

          -- a root has the same target: no table comes after the one that is aborted
          target_kept : (u l : ℕ) → IsTarget g (after s (Abort n)) u l → IsTarget g s u l
          target_kept u l r = record {
            links = r.links;
            is = r.is;
            made = r.made;
            mode = r.mode;
            over = λ i lt. ⊎_elim
                (λ (e : walk s.next (suc i) u ≡ n).
                let further : 0 < s.next n = subst (λ y. 0 < s.next y) e
                (pos_before s.next holds.rises (suc (suc i)) (suc r.links) u (omega arith) (subst (λ y. 0 < y) (sym r.is) r.made)) in
                absurd (⊎_elim (λ w. let le = (holds.was n w).1 in let h = behind in omega arith) (λ a. let b = may.before in cc (a, b))
                (holds.linked_by n further)))
                (λ a. a)
                (put_cases s.aborted n (walk s.next (suc i) u) (r.over i lt));
          }

          same : from ≡ s.root
          same = from_root g s m holds from n was behind taker.2
