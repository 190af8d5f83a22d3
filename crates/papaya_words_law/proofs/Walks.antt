-- The words that an iteration over the slots of a root meets.
use Rattle.std.proofs.Common.{◌≡◌, ◌⊎◌, inl, inr, ⊎_elim, ℕ, ◌<◌, true, false, Option, None, Some, List, ◌∷◌, refl, sym, ap, ◌∙◌, subst, arith}
use Rattle.std.proofs.lemmas.Bool.{cases_order, cases_Bool, cond-true}
use Rattle.papaya_words_law.specs.Exchange.{Word, Empty, Closed, Live, Marked, Copied, Buried, Setting, State, Exchange, Finish, run}
use Rattle.papaya_words_law.specs.View.{View, Free, Foreign, Here, Leaving, Gone, Grave, view, look, own, active, held, IsReached}
use Rattle.papaya_words_law.specs.Allows.{AllAllowed}
use Rattle.papaya_words_law.specs.Meaning.{map_of, IsAtMoment, IsLawful}
use Rattle.papaya_words_law.specs.Class.{IsOwner, IsTied, IsOn}
use Rattle.papaya_words_law.specs.ClassBlocking.{IsRootOwner, IsRootTied}
use Rattle.papaya_words_law.specs.Invariant.{IsIncrementalState, IsBlockingState, IsKeeping}
use Rattle.papaya_words_law.specs.Later.{Becomes}
use Rattle.papaya_words_law.proofs.Views.{held-active, active-own}
use Rattle.papaya_words_law.proofs.Class.{held_of, passed_not_held}
use Rattle.papaya_words_law.proofs.Chain.{has_next, next_zero}
use Rattle.papaya_words_law.proofs.Slots.{view_gone, view_grave}
use Rattle.papaya_words_law.proofs.Incremental.States.{reached_front}
use Rattle.papaya_words_law.proofs.Incremental.Steps.{run_incremental, meaning_incremental}
use Rattle.papaya_words_law.proofs.Later.{own_sees, sees_later, later_run, lasts}
use Rattle.papaya_words_law.proofs.Moments.{run-append, allowed_first, allowed_rest}
use Rattle.papaya_words_law.proofs.Turns.{buried, copied, IsTurnOf, none_since, turn_of, by_finish}

module _ {K P : Type 0} (g : Setting K P) (law : IsLawful g) where
  -- a root without a next table holds each pair of the map
  root_holds_incremental : g.blocking ≡ false → (s : State P) (m : K → Option P) → IsIncrementalState g s m → s.next s.root ≡ 0 → (k : K) (p : P)
      → m k ≡ Some p → (j : ℕ) × (j < g.places s.root) × (held (look g s k s.root j) ≡ true)
  root_holds_incremental inc s m holds last k p e =
      let o : IsOwner (IsOn s.first s.next) g.places (look g s k) p = subst (IsTied (IsOn s.first s.next) g.places (look g s k)) e (holds.class k).tied in
      let there : held (look g s k o.table o.at) ≡ true = held_of (look g s k o.table o.at) p o.has in
      let is : o.table ≡ s.root = ⊎_elim
      (λ q. q)
      (⊎_elim
      (λ (c : o.table < s.root). absurd (before o c there))
      (λ (c : s.root < o.table). absurd (let on = ⊎_elim (λ r. absurd (omega (arith, r.0, o.on.0, none o r.0))) (λ h. h) holds.root in
      let n = has_next s.next holds.rises s.first s.root o.table on o.on c in omega arith)))
      (cases_order o.table s.root) in
      (o.at, subst (λ t. o.at < g.places t) is o.within, subst (λ t. held (look g s k t o.at) ≡ true) is there)
    where
      none : (o : IsOwner (IsOn s.first s.next) g.places (look g s k) p) → s.root ≡ 0 → ⊥
      none o z = let v : m k ≡ None = (meaning_incremental g law inc s m holds k).no_root z in cc (v, e)

      before : (o : IsOwner (IsOn s.first s.next) g.places (look g s k) p) → o.table < s.root → held (look g s k o.table o.at) ≡ true → ⊥
      before o c h =
          let some : 0 < s.root = omega arith in
          let r : IsReached g s k s.root = record {
            from = s.root;
            links = 0;
            was = holds.root_was some;
            is = refl;
            made = some;
            mode = inl refl;
            passed = λ i lt. absurd (omega arith);
          } in
          passed_not_held (IsOn s.first s.next) g.places (g.place k) (look g s k) (holds.class k).base o.table o.at
          ((reached_front g law inc s m holds k s.root r).1 o.table o.on c) o.within h

  -- the same with blocking, of any root
  root_holds_blocking : (s : State P) (m : K → Option P) → IsBlockingState g s m → (k : K) (p : P) → m k ≡ Some p → (j : ℕ) × (j < g.places s.root)
      × (held (look g s k s.root j) ≡ true)
  root_holds_blocking s m holds k p e =
      let o : IsRootOwner g.places (look g s k) s.root p = subst (IsRootTied g.places (look g s k) s.root) e (holds.class k).tied in
      (o.at, o.within, held_of (look g s k s.root o.at) p o.has)

  -- in both modes
  pub root_holds : (s : State P) (m : K → Option P) → IsKeeping g s m → (g.blocking ≡ false → s.next s.root ≡ 0) → (k : K) (p : P) → m k ≡ Some p
      → (j : ℕ) × (j < g.places s.root) × (held (look g s k s.root j) ≡ true)
  root_holds s m (inl h) last k p e = root_holds_incremental h.0 s m h.1 (last h.0) k p e
  root_holds s m (inr h) last k p e = root_holds_blocking s m h.1 k p e

  -- a Copied word was no other Copied one before
  stood_copied : (u : Word P) (p : P) → copied u ≡ true → Becomes g u (Copied p) → u ≡ Copied p
  stood_copied Empty p h b = absurd cc
  stood_copied Closed p h b = absurd cc
  stood_copied (Live q) p h b = absurd cc
  stood_copied (Marked q) p h b = absurd cc
  stood_copied (Copied q) p h b = sym b
  stood_copied (Buried q) p h b = absurd cc

  -- nor a Buried word another Buried word
  stood_buried : (u : Word P) (p : P) → buried u ≡ true → Becomes g u (Buried p) → u ≡ Buried p
  stood_buried Empty p h b = absurd cc
  stood_buried Closed p h b = absurd cc
  stood_buried (Live q) p h b = absurd cc
  stood_buried (Marked q) p h b = absurd cc
  stood_buried (Copied q) p h b = absurd cc
  stood_buried (Buried q) p h b = sym b

  -- Buried, but not before: at some point since the map had none
  pub buried_since : (m : K → Option P) (k : K) (t j : ℕ) (p : P) (fs : List (Exchange P)) (s : State P) → AllAllowed g s fs
      → (look g s k t j ≡ Grave p → ⊥) → look g (run fs s) k t j ≡ Grave p → IsAtMoment g m fs k None
  buried_since m k t j p fs s may old now =
      let x : ℕ = g.place k t j in
      let w = view_grave g k ((run fs s).slot t x) p now in
      let not_yet : buried (s.slot t x) ≡ false =
      ⊎_elim
      (λ h.
      let stood : s.slot t x ≡ Buried p = stood_buried (s.slot t x) p h (subst (Becomes g (s.slot t x)) w.0 ((later_run g law fs s may).words t x)) in
      absurd (old (subst (λ y. view g k y ≡ Grave p) (sym stood) (cond-true (g.same k (g.key p)) (Grave p) Foreign w.1))))
      (λ h. h)
      (cases_Bool (buried (s.slot t x))) in
      none_since g law m k t x fs s may not_yet p w.0 w.1

  -- if a slot had the key's pair, its word is still an active one of the key, or the map had none
  -- at some point since
  pub still_there : (m : K → Option P) (k : K) (t j : ℕ) (fs : List (Exchange P)) (s : State P) → AllAllowed g s fs → held (look g s k t j) ≡ true
      → (active (look g (run fs s) k t j) ≡ true) ⊎ IsAtMoment g m fs k None
  still_there m k t j fs s may h = by_view (look g (run fs s) k t j) refl
      (own_sees (look g s k t j) (look g (run fs s) k t j)
      (sees_later g law k (s.slot t (g.place k t j)) ((run fs s).slot t (g.place k t j)) ((later_run g law fs s may).words t (g.place k t j)))
      (active-own (look g s k t j) (held-active (look g s k t j) h)))
    where
      by_view : (v : View P) → look g (run fs s) k t j ≡ v → own v ≡ true → (active v ≡ true) ⊎ IsAtMoment g m fs k None
      by_view Free e o = absurd cc
      by_view Foreign e o = absurd cc
      by_view (Here p) e o = inl refl
      by_view (Leaving p) e o = inl refl
      by_view (Gone p) e o = inl refl
      by_view (Grave p) e o = inr (buried_since m k t j p fs s may (λ q. cc (q, h)) e)

  -- Copied, but not before: its pair was the map's at some point since
  pub copied_since : g.blocking ≡ false → (s : State P) (m : K → Option P) → IsIncrementalState g s m
      → (k : K) (t j : ℕ) (p : P) (fs : List (Exchange P)) → AllAllowed g s fs → IsReached g s k t → j < g.places t
      → (look g s k t j ≡ Gone p → ⊥) → look g (run fs s) k t j ≡ Gone p → IsAtMoment g m fs k (Some p)
  copied_since inc s m holds k t j p fs may reached lt old now =
      let x : ℕ = g.place k t j in
      let w = view_gone g k ((run fs s).slot t x) p now in
      let not_yet : copied (s.slot t x) ≡ false =
      ⊎_elim
      (λ h.
      let stood : s.slot t x ≡ Copied p = stood_copied (s.slot t x) p h (subst (Becomes g (s.slot t x)) w.0 ((later_run g law fs s may).words t x)) in
      absurd (old (subst (λ y. view g k y ≡ Gone p) (sym stood) (cond-true (g.same k (g.key p)) (Gone p) Foreign w.1))))
      (λ h. h)
      (cases_Bool (copied (s.slot t x))) in
      let r = turn_of g copied t x fs s may not_yet (ap copied w.0) in
      let b = by_finish g (run r.so_far s) t x r.by r.may r.old r.new in
      let may-first : AllAllowed g s r.so_far = allowed_first g r.so_far (r.by ∷ r.rest) s (subst (AllAllowed g s) (sym r.is) may) in
      let holds' = run_incremental g law inc r.so_far s m holds may-first in
      let pair : b.0 ≡ p = same_pair r b.0 b.1 b.2 w.0 in
      let marked : (run r.so_far s).slot t x ≡ Marked p = subst (λ q. (run r.so_far s).slot t x ≡ Marked q) pair b.1 in
      let leaving : look g (run r.so_far s) k t j ≡ Leaving p = subst (λ y. view g k y ≡ Leaving p) (sym marked)
      (cond-true (g.same k (g.key p)) (Leaving p) Foreign w.1) in
      let reached' = (lasts g law s (run r.so_far s) (next_zero s.next holds.rises) (later_run g law r.so_far s may-first)).reached k t reached in
      record {
        so_far = r.so_far;
        rest = r.by ∷ r.rest;
        is = r.is;
        value_is = (meaning_incremental g law inc (run r.so_far s) (map_of g m r.so_far) holds' k).found t j p reached' (λ c. absurd (cc (inc, c))) lt
            (inr leaving);
      }
    where
      same_pair : (r : IsTurnOf g copied s t (g.place k t j) fs) → (q : P) → (run r.so_far s).slot t (g.place k t j) ≡ Marked q
          → r.by ≡ Finish t (g.place k t j) q → (run fs s).slot t (g.place k t j) ≡ Copied p → q ≡ p
      same_pair r q marked by end =
          let may-first : AllAllowed g (run r.so_far s) (r.by ∷ r.rest) = allowed_rest g r.so_far (r.by ∷ r.rest) s (subst (AllAllowed g s) (sym r.is) may) in
          let late = later_run g law (r.by ∷ r.rest) (run r.so_far s) may-first in
          let final : (run (r.by ∷ r.rest) (run r.so_far s)).slot t (g.place k t j) ≡ (run fs s).slot t (g.place k t j) = ap
          (λ z. z.slot t (g.place k t j)) (sym (run-append r.so_far (r.by ∷ r.rest) s)) ∙ ap (λ l. (run l s).slot t (g.place k t j)) r.is in
          let b : ((run (r.by ∷ r.rest) (run r.so_far s)).slot t (g.place k t j) ≡ Marked q)
          ⊎ ((run (r.by ∷ r.rest) (run r.so_far s)).slot t (g.place k t j) ≡ Copied q) =
          subst (λ w. Becomes g w ((run (r.by ∷ r.rest) (run r.so_far s)).slot t (g.place k t j))) marked (late.words t (g.place k t j)) in
          ⊎_elim (λ e. cc (e, final, end)) (λ e. cc (e, final, end)) b
