-- The effect of each kind of exchange of a slot on one class of keys, without blocking.
use Rattle.std.proofs.Common.{◌≡◌, ◌⊎◌, inl, inr, ⊎_elim, ℕ, ◌<◌, true, Option, None, Some, refl, sym, ap, ◌∙◌, subst}
use Rattle.std.proofs.lemmas.Bool.{cases_order}
use Rattle.papaya_words_law.specs.View.{View, Free, Foreign, Here, Leaving, Gone, Grave, own, active, held, beyond, foreign, IsPassed}
use Rattle.papaya_words_law.specs.Class.{AllFull, IsFront, IsCopy, IsGoneTo, IsOwner, IsTied, IsFilled, IsIncrementalClass}
use Rattle.papaya_words_law.proofs.Views.{unfinished, held-active, active-own, foreign-beyond, foreign_not_own}
use Rattle.papaya_words_law.proofs.Class.{IsTurn, IsSafe, same_active, passed_not_held, free_not_active}
use Rattle.papaya_words_law.proofs.Class.{free_not_own, passed_or_copy, found_is, empty_is, front_on}
use Rattle.papaya_words_law.proofs.Class.{passed_on, kept_after}

module _ {P : Type 0} where
  -- at the slot that changes
  pub turned : (S : ℕ → ℕ → ℕ) (V V' : ℕ → ℕ → View P) (t x : ℕ) (a b : View P) → IsTurn S V V' t x a b → (j : ℕ) → S t j ≡ x → (V t j ≡ a) × (V' t j ≡ b)
  turned S V V' t x a b turn j e = ⊎_elim (λ r. absurd (r.1 (refl, e))) (λ r. (r.2, r.3)) (turn.each t j)

  -- a word that isn't the one that changes
  pub unturned : (S : ℕ → ℕ → ℕ) (V V' : ℕ → ℕ → View P) (t x : ℕ) (a b : View P) → IsTurn S V V' t x a b → (u j : ℕ) → (V u j ≡ a → ⊥) → V' u j ≡ V u j
  unturned S V V' t x a b turn u j h = ⊎_elim (λ r. r.0) (λ r. absurd (h r.2)) (turn.each u j)

  -- the owner is still found, if another word changed
  owner_on : (On : ℕ → Type 0) (n : ℕ → ℕ) (S : ℕ → ℕ → ℕ) (V V' : ℕ → ℕ → View P) (t x : ℕ) (a b : View P) → IsTurn S V V' t x a b → unfinished a ≡ true
      → (p : P) → (o : IsOwner On n V p) → (V o.table o.at ≡ a → ⊥) → IsOwner On n V' p
  owner_on On n S V V' t x a b turn unf p o h =
      let e : V' o.table o.at ≡ V o.table o.at = unturned S V V' t x a b turn o.table o.at h in
      record {
        table = o.table;
        at = o.at;
        on = o.on;
        within = o.within;
        has = ⊎_elim (λ q. inl (e ∙ q)) (λ q. inr (e ∙ q)) o.has;
        front = front_on On n S V V' t x a b turn unf o.table o.front;
      }

  module _ (On : ℕ → Type 0) (n : ℕ → ℕ) (S : ℕ → ℕ → ℕ) (V V' : ℕ → ℕ → View P) (t x : ℕ) (m : Option P) (k : IsIncrementalClass On n S V m) where
    -- another key's pair is put at an Empty place, or the place is closed
    fill_tied : IsTurn S V V' t x Free Foreign → (m' : Option P) → IsTied On n V m' → IsTied On n V' m'
    fill_tied turn None h = λ u j lt e. ⊎_elim (λ r. h u j lt (ap held (sym r.0) ∙ e)) (λ r. let q = r.3 in cc (q, e)) (turn.each u j)
    fill_tied turn (Some p) o = owner_on On n S V V' t x Free Foreign turn refl p o (λ e. ⊎_elim (λ q. cc (q, e)) (λ q. cc (q, e)) o.has)

    -- so all is kept
    pub fill_kept : IsTurn S V V' t x Free Foreign → IsIncrementalClass On n S V' m
    fill_kept turn =
        let safe : IsSafe On n S V t x Free Foreign = record {
          base = record { fills = λ e. cc; on = λ e. absurd cc; filled = λ e. absurd cc; lone = λ e. absurd cc };
          changes = refl;
          stays = λ e. absurd cc;
          leaves = λ p e. absurd cc;
          order = λ e. absurd cc;
          gone = λ p e. absurd cc;
        } in
        kept_after On n S V V' t x Free Foreign turn m k safe m (fill_tied turn m k.tied)

    module _ (on : On t) (front : IsFront On n V t) (at : ℕ) (within : at < n t) (is : S t at ≡ x) where
      -- a claim
      pub claim_kept : (p : P) → IsTurn S V V' t x Free (Here p) → ((i : ℕ) → i < at → beyond (V t i) ≡ true) → (m ≡ None)
          × IsIncrementalClass On n S V' (Some p)
      claim_kept p turn before =
          let old : V t at ≡ Free = (turned S V V' t x Free (Here p) turn at is).0 in
          let new : V' t at ≡ Here p = (turned S V V' t x Free (Here p) turn at is).1 in
          let lone : (j : ℕ) → j < n t → active (V t j) ≡ true → ⊥ = λ j lt h. free_not_active On n S V k.base t at j old before lt h in
          let fil : IsFilled n S V t x = record { at = at; within = within; is = is; before = λ i lt e. let h = before i lt in cc (h, e) } in
          let safe : IsSafe On n S V t x Free (Here p) = record {
            base = record { fills = λ e. cc; on = λ e. on; filled = λ e. inr fil; lone = λ e. inr lone };
            changes = refl;
            stays = λ e. refl;
            leaves = λ q e. absurd cc;
            order = λ e l o lt. inl (front l o lt);
            gone = λ q e. absurd cc;
          } in (
            empty_is On n S V m k t at on front within before old,
            kept_after On n S V V' t x Free (Here p) turn m k safe (Some p)
                (record { table = t; at = at; on = on; within = within; has = inl new; front = front_on On n S V V' t x Free (Here p) turn refl t front }),
          )

      -- a replacement
      pub replace_kept : (p q : P) → IsTurn S V V' t x (Here p) (Here q) → (m ≡ Some p) × IsIncrementalClass On n S V' (Some q)
      replace_kept p q turn =
          let old : V t at ≡ Here p = (turned S V V' t x (Here p) (Here q) turn at is).0 in
          let new : V' t at ≡ Here q = (turned S V V' t x (Here p) (Here q) turn at is).1 in
          let safe : IsSafe On n S V t x (Here p) (Here q) = record {
            base = record { fills = λ e. cc; on = λ e. on; filled = λ e. inl refl; lone = λ e. inl refl };
            changes = refl;
            stays = λ e. refl;
            leaves = λ r e. absurd cc;
            order = λ e l o lt. inl (front l o lt);
            gone = λ r e. absurd cc;
          } in (
            found_is On n S V m k t at p on front within (inl old),
            kept_after On n S V V' t x (Here p) (Here q) turn m k safe (Some q)
                (record { table = t; at = at; on = on; within = within; has = inl new; front = front_on On n S V V' t x (Here p) (Here q) turn refl t front }),
          )

      -- a mark
      pub mark_kept : (p : P) → IsTurn S V V' t x (Here p) (Leaving p) → IsIncrementalClass On n S V' m
      mark_kept p turn =
          let old : V t at ≡ Here p = (turned S V V' t x (Here p) (Leaving p) turn at is).0 in
          let new : V' t at ≡ Leaving p = (turned S V V' t x (Here p) (Leaving p) turn at is).1 in
          let safe : IsSafe On n S V t x (Here p) (Leaving p) = record {
            base = record { fills = λ e. cc; on = λ e. on; filled = λ e. inl refl; lone = λ e. inl refl };
            changes = refl;
            stays = λ e. refl;
            leaves = λ r e. absurd cc;
            order = λ e l o lt. inl (front l o lt);
            gone = λ r e. absurd cc;
          } in
          let it : m ≡ Some p = found_is On n S V m k t at p on front within (inl old) in
          let own' : IsOwner On n V' p = record {
            table = t;
            at = at;
            on = on;
            within = within;
            has = inr new;
            front = front_on On n S V V' t x
                (Here p) (Leaving p) turn refl t front;
          } in
          kept_after On n S V V' t x (Here p) (Leaving p) turn m k safe m (subst (IsTied On n V') (sym it) own')

      -- a deletion
      pub bury_kept : (p : P) → IsTurn S V V' t x (Here p) (Grave p) → (m ≡ Some p) × IsIncrementalClass On n S V' None
      bury_kept p turn =
          let old : V t at ≡ Here p = (turned S V V' t x (Here p) (Grave p) turn at is).0 in
          let new : V' t at ≡ Grave p = (turned S V V' t x (Here p) (Grave p) turn at is).1 in
          let safe : IsSafe On n S V t x (Here p) (Grave p) = record {
            base = record { fills = λ e. cc; on = λ e. on; filled = λ e. inl refl; lone = λ e. absurd cc };
            changes = refl;
            stays = λ e. refl;
            leaves = λ r e. absurd cc;
            order = λ e l o lt. inl (front l o lt);
            gone = λ r e. absurd cc;
          } in
          let tied : IsTied On n V' None = λ u j lt h.
          ⊎_elim (λ r. gone_all old u j lt (ap held (sym r.0) ∙ h) r.1) (λ r. let q = r.3 in cc (q, h)) (turn.each u j) in
          (found_is On n S V m k t at p on front within (inl old), kept_after On n S V V' t x (Here p) (Grave p) turn m k safe None tied)
        where
          gone_all : V t at ≡ Here p → (u j : ℕ) → j < n u → held (V u j) ≡ true → ((u ≡ t) × (S u j ≡ x) → ⊥) → ⊥
          gone_all old u j lt h other =
              let mine : own (V u j) ≡ true = active-own (V u j) (held-active (V u j) h) in
              ⊎_elim
              (λ (e : t ≡ u).
              let lt' : j < n t = subst (λ w. j < n w) (sym e) lt in
              let h' : active (V t j) ≡ true = subst (λ w. active (V w j) ≡ true) (sym e) (held-active (V u j) h) in
              other (sym e, subst (λ w. S w j ≡ x) e (k.base.one t j at lt' within h' (ap active old) ∙ is)))
              (⊎_elim
              (λ (l : t < u).
              ⊎_elim
              (λ pass. passed_not_held On n S V k.base t at pass within (ap held old))
              (λ (c : IsCopy On n V t u (V u j)).
              let e : V t c.at ≡ V t at = same_active On n S V k.base t c.at at c.within within (ap active c.leaving) (ap active old) in
              let f : V t c.at ≡ Leaving c.pair = c.leaving in cc (e, f, old))
              (k.order t u j on l lt mine))
              (λ (l : u < t). passed_not_held On n S V k.base u j (front u (k.base.on u j mine) l) lt h))
              (cases_order t u)

    -- a copy of p is placed in t, of a word of table u that is or was marked; the tables between are full for the key
    module _ (on : On t) (at : ℕ) (within : at < n t) (is : S t at ≡ x) (before : (i : ℕ) → i < at → foreign (V t i) ≡ true)
        (u i : ℕ) (p : P) (on-u : On u) (later : u < t) (within-u : i < n u) (full : AllFull On n V u t) where
      -- before the copy is placed no word of the key is behind u
      no_copy : V t at ≡ Free → (w j : ℕ) → On w → u < w → j < n w → own (V w j) ≡ true → AllFull On n V u w → ⊥
      no_copy free w j o l lt h f =
          ⊎_elim
          (λ (e : w ≡ t). free_not_own On n S V k.base t at j free before (subst (λ y. j < n y) e lt) (subst (λ y. own (V y j) ≡ true) e h))
          (⊎_elim
          (λ (r : w < t). foreign_not_own (V w j) (full w o l r j lt) h)
          (λ (r : t < w). let q : foreign (V t at) ≡ true = f t on later r at within in cc (q, free)))
          (cases_order w t)

      -- so the pair isn't Copied yet
      pub not_gone : V t at ≡ Free → V u i ≡ Gone p → ⊥
      not_gone free e = let g = k.gone u i p within-u e in no_copy free g.table g.at g.on g.later g.within g.word g.full

      -- a copy is placed
      pub place_kept : IsTurn S V V' t x Free (Here p) → (V u i ≡ Leaving p) ⊎ (V u i ≡ Gone p) → IsIncrementalClass On n S V' m
      place_kept turn stood =
          let old : V t at ≡ Free = (turned S V V' t x Free (Here p) turn at is).0 in
          let leaving : V u i ≡ Leaving p = ⊎_elim (λ e. e) (λ e. absurd (not_gone old e)) stood in
          let fil : IsFilled n S V t x = record { at = at; within = within; is = is; before = λ l lt e. let h = before l lt in cc (h, e) } in
          let lone : (j : ℕ) → j < n t → active (V t j) ≡ true → ⊥ = λ j lt h. free_not_own On n S V k.base t at j old before lt (active-own (V t j) h) in
          let order : (l : ℕ) → On l → l < t → IsPassed n V l ⊎ IsCopy On n V l t (Here p) = λ l o lt.
          ⊎_elim
          (λ (e : l ≡ u). inr (subst (λ w. IsCopy On n V w t (Here p)) (sym e)
          (record { at = i; pair = p; within = within-u; leaving = leaving; copy = refl; full = full })))
          (⊎_elim
          (λ (r : l < u). inl (passed_or_copy On n S V m k l u i p o r within-u leaving))
          (λ (r : u < l). inl (inr (λ j lj. foreign-beyond (V l j) (full l o r lt j lj)))))
          (cases_order l u) in
          let safe : IsSafe On n S V t x Free (Here p) = record {
            base = record { fills = λ e. cc; on = λ e. on; filled = λ e. inr fil; lone = λ e. inr lone };
            changes = refl;
            stays = λ e. refl;
            leaves = λ q e. absurd cc;
            order = λ e. order;
            gone = λ q e. absurd cc;
          } in
          kept_after On n S V V' t x Free (Here p) turn m k safe m (tied leaving m k.tied)
        where
          tied : V u i ≡ Leaving p → (m' : Option P) → IsTied On n V m' → IsTied On n V' m'
          tied leaving None h = absurd (h u i within-u (ap held leaving))
          tied leaving (Some q) o = owner_on On n S V V' t x Free (Here p) turn refl q o (λ e. ⊎_elim (λ r. cc (r, e)) (λ r. cc (r, e)) o.has)

    -- the marked word of p in t is finished, and there is a word of the key in the table for its
    -- copy
    pub finish_kept : (at : ℕ) (p : P) → On t → at < n t → S t at ≡ x → IsTurn S V V' t x (Leaving p) (Gone p) → IsGoneTo On n V t
        → IsIncrementalClass On n S V' m
    finish_kept at p on within is turn to =
        let old : V t at ≡ Leaving p = (turned S V V' t x (Leaving p) (Gone p) turn at is).0 in
        let new : V' t at ≡ Gone p = (turned S V V' t x (Leaving p) (Gone p) turn at is).1 in
        let front : IsFront On n V t = λ l o lt. passed_or_copy On n S V m k l t at p o lt within old in
        let safe : IsSafe On n S V t x (Leaving p) (Gone p) = record {
          base = record { fills = λ e. cc; on = λ e. on; filled = λ e. inl refl; lone = λ e. inl refl };
          changes = refl;
          stays = λ e. refl;
          leaves = λ q e. cc;
          order = λ e l o lt. inl (front l o lt);
          gone = λ q e. to;
        } in
        kept_after On n S V V' t x (Leaving p) (Gone p) turn m k safe m
        (subst (IsTied On n V') (sym (found_is On n S V m k t at p on front within (inr old))) (owner old new front))
      where
        owner : V t at ≡ Leaving p → V' t at ≡ Gone p → IsFront On n V t → IsOwner On n V' p
        owner old new front =
            let copy : V to.table to.at ≡ Here p =
            ⊎_elim
            (λ pass. absurd (passed_not_held On n S V k.base t at pass within (ap held old)))
            (λ (c : IsCopy On n V t to.table (V to.table to.at)).
            let e : V t c.at ≡ V t at = same_active On n S V k.base t c.at at c.within within (ap active c.leaving) (ap active old) in
            let f : V t c.at ≡ Leaving c.pair = c.leaving in
            let g : V to.table to.at ≡ Here c.pair = c.copy in cc (e, f, g, old))
            (k.order t to.table to.at on to.later to.within to.word) in
            let stays : V' to.table to.at ≡ V to.table to.at = unturned S V V' t x (Leaving p) (Gone p) turn to.table to.at (λ e. cc (e, copy)) in
            let there : IsFront On n V' to.table = λ l o lt.
            ⊎_elim
            (λ (e : l ≡ t). subst (IsPassed n V') (sym e) (inl (at, p, within, new)))
            (⊎_elim
            (λ (r : l < t). passed_on On n S V V' t x (Leaving p) (Gone p) turn refl l (front l o r))
            (λ (r : t < l). passed_on On n S V V' t x (Leaving p) (Gone p) turn refl l (inr (λ j lj. foreign-beyond (V l j) (to.full l o r lt j lj)))))
            (cases_order l t) in
            record { table = to.table; at = to.at; on = to.on; within = to.within; has = inl (stays ∙ copy); front = there }
