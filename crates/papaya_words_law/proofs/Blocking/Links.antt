-- A link with blocking: to which tables roots are copied after it, and that these tables have a
-- word for each chunk.
use Rattle.std.proofs.Common.{◌≡◌, ◌⊎◌, inl, inr, ⊎_elim, ℕ, zero, suc, ◌<◌, ◌≤◌, true, false, ◌==◌, Option, refl, sym, ap, ◌∙◌, subst, arith, eqb-true, eq-eqb}
use Rattle.std.proofs.lemmas.Bool.{cases_lt, cases_order, cases_Bool, cond-true, cond-false}
use Rattle.papaya_words_law.specs.Exchange.{Setting, State, Link, after, at_put, walk}
use Rattle.papaya_words_law.specs.Copying.{IsTarget, Covers}
use Rattle.papaya_words_law.specs.Allows.{MayLink}
use Rattle.papaya_words_law.specs.Class.{Rises, IsOn}
use Rattle.papaya_words_law.specs.ClassBlocking.{AllAborted}
use Rattle.papaya_words_law.specs.Invariant.{IsBlockingState}
use Rattle.papaya_words_law.proofs.Chain.{has_next, link_rises, next_on, none_between, pos_before, same_before, walk_le, walk_on}
use Rattle.papaya_words_law.proofs.Base.{link_more}
use Rattle.papaya_words_law.proofs.Blocking.States.{root_alive, root_on, target_aborted}

-- the target of a table's copy depends only on links and on aborted tables
pub same_target : {K P : Type 0} (g : Setting K P) (s s' : State P) → s'.next ≡ s.next → s'.aborted ≡ s.aborted → (t n : ℕ) → IsTarget g s' t n
    → IsTarget g s t n
same_target g s s' e f t n r = record {
  links = r.links;
  is = subst (λ y. walk y (suc r.links) t ≡ n) e r.is;
  made = r.made;
  mode = r.mode;
  over = λ i lt. subst (λ y. s.aborted (walk y (suc i) t) ≡ true) e (subst (λ a. a (walk s'.next (suc i) t) ≡ true) f (r.over i lt));
}

module _ (next : ℕ → ℕ) (rises : Rises next) (t n : ℕ) (none : next t ≡ 0) (some : 0 < t) (up : t < n) where
  -- if the table after some new links is no greater than t, it is the table after as many old links
  walk_before : (k u : ℕ) → 0 < walk (at_put next t n) k u → walk (at_put next t n) k u ≤ t → walk next k u ≡ walk (at_put next t n) k u
  walk_before zero u h le = refl
  walk_before (suc k) u h le =
      let rises' = link_rises next rises t n none some up in
      let back : 0 < walk (at_put next t n) k u = pos_before (at_put next t n) rises' k (suc k) u (omega arith) h in
      let low : walk (at_put next t n) k u < walk (at_put next t n) (suc k) u =
      ⊎_elim (λ z. absurd (omega (arith, h))) (λ r. r.1) (rises' (walk (at_put next t n) k u)) in
      ap next (walk_before k u back (omega arith)) ∙ ⊎_elim
      (λ (q : (walk (at_put next t n) k u == t) ≡ true). absurd (let e = eqb-true (walk (at_put next t n) k u) t q in omega arith))
      (λ (q : (walk (at_put next t n) k u == t) ≡ false). sym (cond-false (walk (at_put next t n) k u == t) n (next (walk (at_put next t n) k u)) q))
      (cases_Bool (walk (at_put next t n) k u == t))

module _ {K P : Type 0} (g : Setting K P) (s : State P) (m : K → Option P) (holds : IsBlockingState g s m) where
  -- a table that was the root, and from which only aborted tables separate a table behind the root,
  -- is the root
  pub from_root : (from n : ℕ) → s.was_root from ≡ true → s.root < n → AllAborted (IsOn s.first s.next) s.aborted from n → from ≡ s.root
  from_root from n was lt all =
      let w = holds.was from was in
      ⊎_elim
      (λ (c : from < s.root). absurd (let a = all s.root (root_on g s m holds from w.0 w.1) c lt in let b = root_alive g s m holds from w.0 w.1 in cc (a, b)))
      (λ (c : s.root ≤ from). let l = w.1 in omega arith)
      (cases_lt from s.root)

  module _ (blocks : g.blocking ≡ true) (t n : ℕ) (may : MayLink g s t n) where
    some : 0 < t
    some = may.on.0

    rises' : Rises (at_put s.next t n)
    rises' = link_rises s.next holds.rises t n may.last some may.rises

    -- no table of the chain comes after t
    last : (u : ℕ) → IsOn s.first s.next u → t < u → ⊥
    last u on lt = let h = has_next s.next holds.rises s.first t u may.on on lt in let z = may.last in omega arith

    -- nothing comes after the new table
    last_new : at_put s.next t n n ≡ 0
    last_new = ⊎_elim
        (λ (q : (n == t) ≡ true). absurd (let e = eqb-true n t q in let l = may.rises in omega arith))
        (λ (q : (n == t) ≡ false). cond-false (n == t) n (s.next n) q ∙
        ⊎_elim (λ (c : 0 < s.next n). absurd (last n (holds.linked n c) may.rises)) (λ (c : s.next n ≤ 0). omega arith) (cases_lt 0 (s.next n)))
        (cases_Bool (n == t))

    -- a table that was the root, and whose target is t, which was aborted, is the root
    root_before : (u : ℕ) → s.was_root u ≡ true → IsTarget g s u t → s.aborted t ≡ true → u ≡ s.root
    root_before u was target gone =
        let w = holds.was u was in
        let on-root : IsOn s.first s.next s.root = root_on g s m holds u w.0 w.1 in
        let live : s.aborted s.root ≡ false = root_alive g s m holds u w.0 w.1 in
        from_root u t was
        (⊎_elim (λ (c : s.root < t). c) (λ rest.
        absurd (⊎_elim (λ (c : t < s.root). last s.root on-root c) (λ (e : s.root ≡ t). let f = ap s.aborted e in cc (f, live, gone)) rest))
        (ordered s.root t))
        (target_aborted g s holds.sound u t w.0 target).2
      where
        ordered : (a b : ℕ) → (a < b) ⊎ ((b < a) ⊎ (a ≡ b))
        ordered a b = ⊎_elim (λ e. inr (inr e)) (⊎_elim (λ c. inl c) (λ c. inr (inl c))) (cases_order a b)

    -- the new table has a word for each chunk of a root that is copied to it
    new_covered : (u : ℕ) → s.was_root u ≡ true → (u ≡ t) ⊎ (IsTarget g s u t × (s.aborted t ≡ true)) → Covers g u n
    new_covered u was (inl e) = ⊎_elim
        (λ h. subst (λ y. Covers g y n) (h.0 ∙ sym e) may.covers)
        (λ h. absurd (let gone : s.aborted t ≡ true = h.3 in let live = holds.alive u was in let f = ap s.aborted e in cc (f, live, gone)))
        may.linking
    new_covered u was (inr (target, gone)) = ⊎_elim
        (λ h. absurd (let live = holds.alive t (h.1 blocks) in cc (live, gone)))
        (λ h. subst (λ y. Covers g y n) (root_before may.from h.1 h.2 gone ∙ sym (root_before u was target gone)) may.covers)
        may.linking

    -- so has each table to which a root is copied then
    pub link_covered : (u l : ℕ) → s.was_root u ≡ true → IsTarget g (after s (Link t n)) u l → Covers g u l
    link_covered u l was r = ⊎_elim old new (cases_lt t l)
      where
        next' : ℕ → ℕ
        next' = at_put s.next t n

        ends : 0 < walk next' (suc r.links) u
        ends = subst (λ y. 0 < y) (sym r.is) r.made

        on' : IsOn s.first next' u
        on' = link_more g s holds.sound t n may.last some may.rises u (holds.was u was).0

        -- as far as t nothing changes
        target_before : (k : ℕ) → walk next' (suc k) u ≤ t → k ≤ r.links → IsTarget g s u (walk next' (suc k) u)
        target_before k le within =
            let made : 0 < walk next' (suc k) u = pos_before next' rises' (suc k) (suc r.links) u (omega arith) ends in
            record {
              links = k;
              is = walk_before s.next holds.rises t n may.last some may.rises (suc k) u made le;
              made = made;
              mode = inr blocks;
              over = λ i lt.
                  let there : walk next' (suc i) u ≤ walk next' (suc k) u = walk_le next' rises' (suc i) (suc k) u (omega arith) made in
                  let some' : 0 < walk next' (suc i) u = pos_before next' rises' (suc i) (suc r.links) u (omega arith) ends in
                  ap s.aborted (walk_before s.next holds.rises t n may.last some may.rises (suc i) u some' (omega arith)) ∙ r.over i (omega arith);
            }

        new : l ≤ t → Covers g u l
        new le = holds.covered u l was (subst (IsTarget g s u) r.is (target_before r.links (subst (λ y. y ≤ t) (sym r.is) le) (omega arith)))

        old : t < l → Covers g u l
        old lt = subst (Covers g u) (sym is-new) (new_covered u was (source r.links refl))
          where
            on-t : IsOn s.first next' t
            on-t = link_more g s holds.sound t n may.last some may.rises t may.on

            here : next' t ≡ n
            here = cond-true (t == t) n (s.next t) (eq-eqb t t refl)

            on-l : IsOn s.first next' l
            on-l = subst (IsOn s.first next') r.is (walk_on next' rises' s.first u (suc r.links) on' ends)

            is-new : l ≡ n
            is-new =
                ⊎_elim
                (λ e. e)
                (⊎_elim
                (λ (c : l < n). absurd (none_between next' rises' s.first t l on-t on-l lt (subst (λ y. l < y) (sym here) c)))
                (λ (c : n < l). absurd (let h = has_next next' rises' s.first n l
                (subst (IsOn s.first next') here (next_on next' rises' s.first t on-t (subst (λ y. 0 < y) (sym here) (omega (arith, may.rises)))))
                on-l c in let z = last_new in omega arith)))
                (cases_order l n)

            source : (k : ℕ) → r.links ≡ k → (u ≡ t) ⊎ (IsTarget g s u t × (s.aborted t ≡ true))
            source k e =
                let before : 0 < walk next' k u = pos_before next' rises' k (suc r.links) u (omega arith) ends in
                let to-n : next' (walk next' k u) ≡ n = subst (λ y. next' (walk next' y u) ≡ l) e r.is ∙ is-new in
                let at-t : walk next' k u ≡ t = same_before next' rises' s.first (walk next' k u) t (walk_on next' rises' s.first u k on' before) on-t
                (to-n ∙ sym here) (subst (λ y. 0 < y) (sym here) (omega (arith, may.rises))) in
                by_links k e at-t
              where
                by_links : (k : ℕ) → r.links ≡ k → walk next' k u ≡ t → (u ≡ t) ⊎ (IsTarget g s u t × (s.aborted t ≡ true))
                by_links zero e at-t = inl at-t
                by_links (suc k) e at-t = inr (
                  subst (IsTarget g s u) at-t (target_before k (omega (arith, at-t)) (omega arith)),
                  ap s.aborted (sym at-t) ∙ r.over k (omega arith),
                )
