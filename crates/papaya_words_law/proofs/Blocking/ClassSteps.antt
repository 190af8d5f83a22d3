-- One class of keys with blocking: the root has the map, and the tables after it have copies of the
-- pairs that leave the root. `On` says which tables are on the chain, r is the root, `Was` says
-- which tables were the root, and `ab` which are aborted.
use Rattle.std.proofs.Common.{◌≡◌, ◌⊎◌, inl, inr, ⊎_elim, ℕ, ◌<◌, ◌≤◌, Bool, true, false, Option, None, Some, refl, sym, ap, ◌∙◌, subst, arith}
use Rattle.std.proofs.lemmas.Bool.{cases_lt}
use Rattle.papaya_words_law.specs.View.{View, Free, Foreign, Here, Leaving, Grave, own, active, held, beyond, foreign, HasWord}
use Rattle.papaya_words_law.specs.Class.{IsFilled}
use Rattle.papaya_words_law.specs.ClassBlocking.{AllAborted, IsRootCopy, IsRootOwner, IsRootTied, IsBlockingClass}
use Rattle.papaya_words_law.proofs.Views.{held-active, active-own}
use Rattle.papaya_words_law.proofs.Class.{IsTurn, held_of, same_active, free_not_active, free_not_own, own_on, base_after, longer_base}
use Rattle.papaya_words_law.proofs.Incremental.ClassSteps.{turned, unturned}
use mathlib.Core.Path.{fun_ext}

module _ {P : Type 0} where
  module _ (On : ℕ → Type 0) (Was ab : ℕ → Bool) (r : ℕ) (n : ℕ → ℕ) (S : ℕ → ℕ → ℕ) (V : ℕ → ℕ → View P) where
    -- a pair that a search finds in the root is the map's
    pub root_found : (m : Option P) → IsBlockingClass On Was ab r n S V m → (j : ℕ) (p : P) → j < n r → (V r j ≡ Here p) ⊎ (V r j ≡ Leaving p) → m ≡ Some p
    root_found None k j p lt h = absurd (k.tied j lt (held_of (V r j) p h))
    root_found (Some q) k j p lt h =
        let o : IsRootOwner n V r q = k.tied in
        let s : V r j ≡ V r o.at = same_active On n S V k.base r j o.at lt o.within (held-active (V r j) (held_of (V r j) p h))
        (held-active (V r o.at) (held_of (V r o.at) q o.has)) in
        ⊎_elim
        (λ (x : V r j ≡ Here p). ⊎_elim (λ (y : V r o.at ≡ Here q). cc) (λ (y : V r o.at ≡ Leaving q). cc) o.has)
        (λ (x : V r j ≡ Leaving p). ⊎_elim (λ (y : V r o.at ≡ Here q). cc) (λ (y : V r o.at ≡ Leaving q). cc) o.has)
        h

    -- if the root holds no pair of the key, the map has none
    pub root_none : (m : Option P) → IsBlockingClass On Was ab r n S V m → ((j : ℕ) → j < n r → held (V r j) ≡ true → ⊥) → m ≡ None
    root_none None k none = refl
    root_none (Some q) k none = let o : IsRootOwner n V r q = k.tied in absurd (none o.at o.within (held_of (V r o.at) q o.has))

    -- at an Empty place that a search comes to, the map has none
    pub root_empty : (m : Option P) → IsBlockingClass On Was ab r n S V m → (j : ℕ) → j < n r → ((i : ℕ) → i < j → beyond (V r i) ≡ true)
        → V r j ≡ Free → m ≡ None
    root_empty m k j lt before free = root_none m k (λ i l h. free_not_active On n S V k.base r j i free before l (held-active (V r i) h))

    module _ (V' : ℕ → ℕ → View P) (t x : ℕ) (m : Option P) (k : IsBlockingClass On Was ab r n S V m) where
      -- each word behind the root is still a copy, if the old word was of no leaving pair and the
      -- new one is not behind the root
      plain_ahead : (a b : View P) → IsTurn S V V' t x a b → ((p : P) → a ≡ Leaving p → ⊥) → (own b ≡ true → r < t → ⊥) → (u j : ℕ) → r < u → j < n u
          → own (V' u j) ≡ true → IsRootCopy On ab n V' r u (V' u j)
      plain_ahead a b turn never here u j lt l h =
          ⊎_elim
          (λ e.
          let c = k.ahead u j lt l (ap own (sym e.0) ∙ h) in
          record {
            at = c.at;
            pair = c.pair;
            within = c.within;
            leaving = unturned S V V' t x a b turn r c.at (λ q. never c.pair (sym q ∙ c.leaving))
                ∙ c.leaving;
            copy = e.0 ∙ c.copy;
            between = c.between;
          })
          (λ e. absurd (here (ap own (sym e.3) ∙ h) (subst (λ y. r < y) e.0 lt)))
          (turn.each u j)

      -- a table keeps its word of the key
      has_on : (a b : View P) → IsTurn S V V' t x a b → (own a ≡ true → own b ≡ true) → (u : ℕ) → HasWord n V u → HasWord n V' u
      has_on a b turn stays u w = (w.0, w.1, own_on On n S V V' t x a b turn stays u w.0 w.2)

      -- a pair that leaves a table that was the root still has a word in the next table that is not
      -- aborted
      plain_handed : (a b : View P) → IsTurn S V V' t x a b → (own a ≡ true → own b ≡ true) → ((p : P) → b ≡ Leaving p → t ≡ r)
          → (l u i : ℕ) (p : P) → Was l ≡ true → On u → l < u → u ≤ r → AllAborted On ab l u → ab u ≡ false → i < n l → V' l i ≡ Leaving p → HasWord n V' u
      plain_handed a b turn stays new l u i p was on lo hi all live lt e =
          ⊎_elim
          (λ h. has_on a b turn stays u (k.handed l u i p was on lo hi all live lt (sym h.0 ∙ e)))
          (λ h. absurd (let q : t ≡ r = new p (sym h.3 ∙ e) in let q' : l ≡ t = h.0 in omega arith))
          (turn.each l i)

      -- the map stays tied to the root if the old word holds no pair, and the new one holds none in
      -- the root
      stays_tied : (a b : View P) → IsTurn S V V' t x a b → (held a ≡ true → ⊥) → (held b ≡ true → t ≡ r → ⊥) → (v : Option P) → IsRootTied n V r v
          → IsRootTied n V' r v
      stays_tied a b turn ha hb None h = λ j lt e. ⊎_elim (λ q. h j lt (ap held (sym q.0) ∙ e)) (λ q. hb (ap held (sym q.3) ∙ e) (sym q.0)) (turn.each r j)
      stays_tied a b turn ha hb (Some p) o =
          let e : V' r o.at ≡ V r o.at = unturned S V V' t x a b turn r o.at (λ q. ha (ap held (sym q) ∙ held_of (V r o.at) p o.has)) in
          record { at = o.at; within = o.within; has = ⊎_elim (λ q. inl (e ∙ q)) (λ q. inr (e ∙ q)) o.has }

      -- another key's pair is put at an Empty place of it, or the place is closed
      pub fill_kept_blocking : IsTurn S V V' t x Free Foreign → IsBlockingClass On Was ab r n S V' m
      fill_kept_blocking turn = record {
        base = base_after On n S V V' t x Free Foreign turn k.base
            (record { fills = λ e. cc; on = λ e. absurd cc; filled = λ e. absurd cc; lone = λ e. absurd cc });
        ahead = plain_ahead Free Foreign turn (λ p e. cc) (λ e. absurd cc);
        handed = plain_handed Free Foreign turn (λ e. absurd cc) (λ p e. absurd cc);
        tied = stays_tied Free Foreign turn (λ e. cc) (λ e. absurd cc) m k.tied;
      }

      module _ (on : On t) (root : t ≡ r) (at : ℕ) (within : at < n t) (is : S t at ≡ x) where
        -- the place is one of the root
        within-r : at < n r
        within-r = subst (λ y. at < n y) root within

        -- a claim
        pub claim_kept_blocking : (p : P) → IsTurn S V V' t x Free (Here p) → ((i : ℕ) → i < at → beyond (V t i) ≡ true) → (m ≡ None)
            × IsBlockingClass On Was ab r n S V' (Some p)
        claim_kept_blocking p turn before =
            let old : V t at ≡ Free = (turned S V V' t x Free (Here p) turn at is).0 in
            let new : V' t at ≡ Here p = (turned S V V' t x Free (Here p) turn at is).1 in
            let lone : (j : ℕ) → j < n t → active (V t j) ≡ true → ⊥ = λ j lt h. free_not_active On n S V k.base t at j old before lt h in
            let fil : IsFilled n S V t x = record { at = at; within = within; is = is; before = λ i lt e. let h = before i lt in cc (h, e) } in (
              root_empty m k at within-r (subst (λ y. (i : ℕ) → i < at → beyond (V y i) ≡ true) root before) (subst (λ y. V y at ≡ Free) root old),
              record {
                base = base_after On n S V V' t x Free (Here p) turn k.base
                    (record { fills = λ e. cc; on = λ e. on; filled = λ e. inr fil; lone = λ e. inr lone });
                ahead = plain_ahead Free (Here p) turn (λ q e. cc) (λ e lt. omega arith);
                handed = plain_handed Free (Here p) turn (λ e. refl) (λ q e. absurd cc);
                tied = record { at = at; within = within-r; has = inl (subst (λ y. V' y at ≡ Here p) root new) };
              },
            )

        -- a replacement
        pub replace_kept_blocking : (p q : P) → IsTurn S V V' t x (Here p) (Here q) → (m ≡ Some p) × IsBlockingClass On Was ab r n S V' (Some q)
        replace_kept_blocking p q turn =
            let old : V t at ≡ Here p = (turned S V V' t x (Here p) (Here q) turn at is).0 in
            let new : V' t at ≡ Here q = (turned S V V' t x (Here p) (Here q) turn at is).1 in (
              root_found m k at p within-r (inl (subst (λ y. V y at ≡ Here p) root old)),
              record {
                base = base_after On n S V V' t x (Here p) (Here q) turn k.base
                    (record { fills = λ e. cc; on = λ e. on; filled = λ e. inl refl; lone = λ e. inl refl });
                ahead = plain_ahead (Here p) (Here q) turn (λ l e. cc) (λ e lt. omega arith);
                handed = plain_handed (Here p) (Here q) turn (λ e. refl) (λ l e. absurd cc);
                tied = record { at = at; within = within-r; has = inl (subst (λ y. V' y at ≡ Here q) root new) };
              },
            )

        -- a mark
        pub mark_kept_blocking : (p : P) → IsTurn S V V' t x (Here p) (Leaving p) → IsBlockingClass On Was ab r n S V' m
        mark_kept_blocking p turn =
            let old : V t at ≡ Here p = (turned S V V' t x (Here p) (Leaving p) turn at is).0 in
            let new : V' t at ≡ Leaving p = (turned S V V' t x (Here p) (Leaving p) turn at is).1 in
            let it : m ≡ Some p = root_found m k at p within-r (inl (subst (λ y. V y at ≡ Here p) root old)) in
            let own' : IsRootOwner n V' r p = record { at = at; within = within-r; has = inr (subst (λ y. V' y at ≡ Leaving p) root new) } in
            record {
              base = base_after On n S V V' t x (Here p) (Leaving p) turn k.base
                  (record { fills = λ e. cc; on = λ e. on; filled = λ e. inl refl; lone = λ e. inl refl });
              ahead = plain_ahead (Here p) (Leaving p) turn (λ l e. cc) (λ e lt. omega arith);
              handed = plain_handed (Here p) (Leaving p) turn (λ e. refl) (λ l e. root);
              tied = subst (IsRootTied n V' r) (sym it) own';
            }

        -- a deletion
        pub bury_kept_blocking : (p : P) → IsTurn S V V' t x (Here p) (Grave p) → (m ≡ Some p) × IsBlockingClass On Was ab r n S V' None
        bury_kept_blocking p turn =
            let old : V t at ≡ Here p = (turned S V V' t x (Here p) (Grave p) turn at is).0 in
            let old-r : V r at ≡ Here p = subst (λ y. V y at ≡ Here p) root old in
            let is-r : S r at ≡ x = subst (λ y. S y at ≡ x) root is in (
              root_found m k at p within-r (inl old-r),
              record {
                base = base_after On n S V V' t x (Here p) (Grave p) turn k.base
                    (record { fills = λ e. cc; on = λ e. on; filled = λ e. inl refl; lone = λ e. absurd cc });
                ahead = plain_ahead (Here p) (Grave p) turn (λ l e. cc) (λ e lt. omega arith);
                handed = plain_handed (Here p) (Grave p) turn (λ e. refl) (λ l e. absurd cc);
                tied = λ j lt e. ⊎_elim
                    (λ h. h.1 (sym root, k.base.one r j at lt within-r (held-active (V r j) (ap held (sym h.0) ∙ e)) (ap active old-r) ∙ is-r))
                    (λ h. let q = h.3 in cc (q, e))
                    (turn.each r j);
              },
            )

      -- a copy of p is placed in t, of a word that leaves table u; the tables between are aborted
      pub place_kept_blocking : (on : On t) (at : ℕ) (within : at < n t) (is : S t at ≡ x) (before : (i : ℕ) → i < at → foreign (V t i) ≡ true)
          → (u i : ℕ) (p : P) → Was u ≡ true → u ≤ r → u < t → i < n u → V u i ≡ Leaving p → AllAborted On ab u t → On r → ab r ≡ false
          → IsTurn S V V' t x Free (Here p) → IsBlockingClass On Was ab r n S V' m
      place_kept_blocking on at within is before u i p was low later within-u leaving all on-r root turn =
          let old : V t at ≡ Free = (turned S V V' t x Free (Here p) turn at is).0 in
          let fil : IsFilled n S V t x = record { at = at; within = within; is = is; before = λ l lt e. let h = before l lt in cc (h, e) } in
          let lone : (j : ℕ) → j < n t → active (V t j) ≡ true → ⊥ = λ j lt h. free_not_own On n S V k.base t at j old before lt (active-own (V t j) h) in
          let not_root : t ≡ r → ⊥ = λ e.
          let w = k.handed u t i p was on later (omega arith) all (subst (λ y. ab y ≡ false) (sym e) root) within-u leaving in
          free_not_own On n S V k.base t at w.0 old before w.1 w.2 in
          record {
            base = base_after On n S V V' t x Free (Here p) turn k.base (record { fills = λ e. cc; on = λ e. on; filled = λ e. inr fil; lone = λ e. inr lone });
            ahead = λ w j lt l h. ⊎_elim
                (λ e.
                let c = k.ahead w j lt l (ap own (sym e.0) ∙ h) in
                record {
                  at = c.at;
                  pair = c.pair;
                  within = c.within;
                  leaving = unturned S V V' t x Free (Here p) turn r c.at
                      (λ q. let f = c.leaving in cc (q, f)) ∙ c.leaving;
                  copy = e.0 ∙ c.copy;
                  between = c.between;
                })
                (λ e.
                let lt' : r < t = subst (λ y. r < y) e.0 lt in
                let same : u ≡ r = source_is_root lt' in
                let leaving' : V r i ≡ Leaving p = subst (λ y. V y i ≡ Leaving p) same leaving in
                record {
                  at = i;
                  pair = p;
                  within = subst (λ y. i < n y) same within-u;
                  leaving = unturned S V V' t x Free (Here p) turn r i (λ q. cc (q, leaving')) ∙ leaving';
                  copy = e.3;
                  between = subst (AllAborted On ab r) (sym e.0) (subst (λ y. AllAborted On ab y t) same all);
                })
                (turn.each w j);
            handed = plain_handed Free (Here p) turn (λ e. refl) (λ q e. absurd cc);
            tied = stays_tied Free (Here p) turn (λ e. cc) (λ e q. not_root q) m k.tied;
          }
        where
          source_is_root : r < t → u ≡ r
          source_is_root lt = ⊎_elim (λ (c : u < r). absurd (let h = all r on-r c lt in cc (h, root))) (λ (c : r ≤ u). omega arith) (cases_lt u r)

  -- the root is promoted: r' is not aborted, each table between r and r' is, and r' has the pairs
  -- that the root holds
  pub promote_kept_blocking : (On : ℕ → Type 0) (Was Was' ab : ℕ → Bool) (r r' : ℕ) (n : ℕ → ℕ) (S : ℕ → ℕ → ℕ) (V : ℕ → ℕ → View P) (m : Option P)
      → IsBlockingClass On Was ab r n S V m
      → On r → ab r ≡ false → On r' → ab r' ≡ false → r < r' → AllAborted On ab r r'
      → ((t : ℕ) → Was t ≡ true → t ≤ r) → ((t : ℕ) → Was' t ≡ true → (t ≡ r') ⊎ (Was t ≡ true))
      → ((i : ℕ) (p : P) → i < n r → V r i ≡ Here p → ⊥) → ((i : ℕ) (p : P) → i < n r → V r i ≡ Leaving p → HasWord n V r')
      → IsBlockingClass On Was' ab r' n S V m
  promote_kept_blocking On Was Was' ab r r' n S V m k on live on' live' up all low more none copied = record {
    base = k.base;
    ahead = λ u j lt l h. absurd (let c = k.ahead u j (omega arith) l h in let a = c.between r' on' up lt in cc (a, live'));
    handed = λ t u i p was onu lo hi between free lt e. ⊎_elim
        (λ (c : t ≡ r'). absurd (omega arith))
        (λ (c : Was t ≡ true). old t u i p c onu lo hi between free lt e)
        (more t was);
    tied = tied' m k.tied;
  }
    where
      old : (t u i : ℕ) (p : P) → Was t ≡ true → On u → t < u → u ≤ r' → AllAborted On ab t u → ab u ≡ false → i < n t → V t i ≡ Leaving p → HasWord n V u
      old t u i p was onu lo hi between free lt e =
          ⊎_elim
          (λ (c : r < u).
          let t-low : t ≤ r = low t was in
          ⊎_elim
          (λ (q : t < r). absurd (let a = between r on q c in cc (a, live)))
          (λ (q : r ≤ t).
          let same : t ≡ r = omega arith in
          ⊎_elim
          (λ (d : u < r'). absurd (let a = all u onu c d in cc (a, free)))
          (λ (d : r' ≤ u).
          let u-is : r' ≡ u = omega arith in
          subst (HasWord n V) u-is (copied i p (subst (λ y. i < n y) same lt) (subst (λ y. V y i ≡ Leaving p) same e)))
          (cases_lt u r'))
          (cases_lt t r))
          (λ (c : u ≤ r). k.handed t u i p was onu lo c between free lt e)
          (cases_lt r u)

      tied' : (v : Option P) → IsRootTied n V r v → IsRootTied n V r' v
      tied' None h = λ j lt e.
          let c = k.ahead r' j up lt (active-own (V r' j) (held-active (V r' j) e)) in
          h c.at c.within (ap held c.leaving)
      tied' (Some p) o =
          let leaving : V r o.at ≡ Leaving p = ⊎_elim (λ e. absurd (none o.at p o.within e)) (λ e. e) o.has in
          let w = copied o.at p o.within leaving in
          let c = k.ahead r' w.0 up w.1 w.2 in
          let s : V r c.at ≡ V r o.at = same_active On n S V k.base r c.at o.at c.within o.within (ap active c.leaving) (ap active leaving) in
          let f : V r c.at ≡ Leaving c.pair = c.leaving in
          let g : V r' w.0 ≡ Here c.pair = c.copy in
          record { at = w.0; within = w.1; has = inl (cc (s, f, g, leaving)) }

  -- a table behind the root is aborted
  pub abort_kept_blocking : (On : ℕ → Type 0) (Was ab ab' : ℕ → Bool) (r : ℕ) (n : ℕ → ℕ) (S : ℕ → ℕ → ℕ) (V : ℕ → ℕ → View P) (m : Option P)
      → IsBlockingClass On Was ab r n S V m
      → ((l : ℕ) → ab l ≡ true → ab' l ≡ true) → ((l : ℕ) → l ≤ r → ab' l ≡ ab l) → IsBlockingClass On Was ab' r n S V m
  abort_kept_blocking On Was ab ab' r n S V m k more same = record {
    base = k.base;
    ahead = λ u j lt l h. let c = k.ahead u j lt l h in
        record { at = c.at; pair = c.pair; within = c.within; leaving = c.leaving; copy = c.copy; between = λ w on lo hi. more w (c.between w on lo hi) };
    handed = λ t u i p was on lo hi between free lt e.
        k.handed t u i p was on lo hi (λ w onw low high. sym (same w (omega arith)) ∙ between w onw low high) (sym (same u hi) ∙ free) lt e;
    tied = k.tied;
  }

  -- the chain grows at its end
  pub longer_kept_blocking : (On On' : ℕ → Type 0) (Was ab : ℕ → Bool) (r : ℕ) (n : ℕ → ℕ) (S : ℕ → ℕ → ℕ) (V : ℕ → ℕ → View P) (m : Option P)
      → ((t : ℕ) → On t → On' t) → ((l u : ℕ) → On' l → On u → l < u → On l) → On r
      → IsBlockingClass On Was ab r n S V m → IsBlockingClass On' Was ab r n S V m
  longer_kept_blocking On On' Was ab r n S V m more older on-r k = record {
    base = longer_base On On' n S V more k.base;
    ahead = λ u j lt l h. let c = k.ahead u j lt l h in
        record {
          at = c.at;
          pair = c.pair;
          within = c.within;
          leaving = c.leaving;
          copy = c.copy;
          between = λ w on lo hi.
              c.between w (older w u on (k.base.on u j h) hi) lo hi;
        };
    handed = λ t u i p was on lo hi between free lt e.
        k.handed t u i p was (⊎_elim (λ (c : u < r). older u r on on-r c) (λ (c : r ≤ u). let q : r ≡ u = omega arith in subst On q on-r)
        (cases_lt u r)) lo hi (λ w onw. between w (more w onw)) free lt e;
    tied = k.tied;
  }

  -- another key's word turned into another
  pub same_kept_blocking : (On : ℕ → Type 0) (Was ab : ℕ → Bool) (r : ℕ) (n : ℕ → ℕ) (S : ℕ → ℕ → ℕ) (V V' : ℕ → ℕ → View P) (t x : ℕ) (m : Option P)
      → IsBlockingClass On Was ab r n S V m → IsTurn S V V' t x Foreign Foreign → IsBlockingClass On Was ab r n S V' m
  same_kept_blocking On Was ab r n S V V' t x m k turn =
      subst (λ W. IsBlockingClass On Was ab r n S W m) (fun_ext (λ u. fun_ext (λ j. ⊎_elim (λ h. sym h.0) (λ h. h.2 ∙ sym h.3) (turn.each u j)))) k
