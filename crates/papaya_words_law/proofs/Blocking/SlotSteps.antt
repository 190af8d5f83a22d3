-- Each kind of exchange of a slot preserves the invariant, with blocking.
use Rattle.std.proofs.Common.{◌≡◌, inl, inr, ⊎_elim, ℕ, ◌<◌, Bool, true, false, cond, Option, None, Some, refl, sym, ap, ◌∙◌, subst}
use Rattle.std.proofs.lemmas.Bool.{cases_Bool, cond-true, cond-false}
use Rattle.papaya_words_law.specs.Exchange.{Word, Empty, Closed, Live, Marked, Buried, Setting, State, slot_put}
use Rattle.papaya_words_law.specs.View.{View, Free, Foreign, Here, Leaving, Grave, view, look, own, foreign, beyond, IsNextPlace}
use Rattle.papaya_words_law.specs.Allows.{MayClaim, MayReplace, MayBury, MayMark, MayClose, MayPlace}
use Rattle.papaya_words_law.specs.Meaning.{IsLawful}
use Rattle.papaya_words_law.specs.Class.{IsOn}
use Rattle.papaya_words_law.specs.ClassBlocking.{AllAborted, IsBlockingClass}
use Rattle.papaya_words_law.specs.Invariant.{named, IsPlaceOf, IsBlockingState}
use Rattle.papaya_words_law.proofs.Blocking.ClassSteps.{fill_kept_blocking, claim_kept_blocking}
use Rattle.papaya_words_law.proofs.Blocking.ClassSteps.{replace_kept_blocking, mark_kept_blocking}
use Rattle.papaya_words_law.proofs.Blocking.ClassSteps.{bury_kept_blocking, place_kept_blocking}
use Rattle.papaya_words_law.proofs.Blocking.ClassSteps.{same_kept_blocking}
use Rattle.papaya_words_law.proofs.Slots.{same_right}
use Rattle.papaya_words_law.proofs.Base.{own_place, place_same, place_of, kept_place, turn_own}
use Rattle.papaya_words_law.proofs.Blocking.States.{mild_empty, mild_live, is_root, was_root_of, root_on, root_alive, slot_blocking, reached_was, taker_aborted}

-- one class is kept
abbrev pub KeptRoot : {K P : Type 0} → Setting K P → State P → K → Option P → Type 0
KeptRoot g s k v = IsBlockingClass (IsOn s.first s.next) s.was_root s.aborted s.root g.places (g.place k) (look g s k) v

module _ {K P : Type 0} (g : Setting K P) (law : IsLawful g) (blocks : g.blocking ≡ true) (s : State P) (m : K → Option P) (holds : IsBlockingState g s m) where
  -- the class that holds pair p, and the others
  by_class : (s' : State P) (p : P) (k : K) (v : Option P) → (g.same k (g.key p) ≡ true → KeptRoot g s' k v)
      → (g.same k (g.key p) ≡ false → KeptRoot g s' k (m k)) → KeptRoot g s' k (cond (g.same k (g.key p)) v (m k))
  by_class s' p k v yes' no' =
      ⊎_elim
      (λ e. subst (KeptRoot g s' k) (sym (cond-true (g.same k (g.key p)) v (m k) e)) (yes' e))
      (λ e. subst (KeptRoot g s' k) (sym (cond-false (g.same k (g.key p)) v (m k) e)) (no' e))
      (cases_Bool (g.same k (g.key p)))

  -- a key's view of a pair's word
  sees : (k : K) (p : P) (v : View P) (b : Bool) → g.same k (g.key p) ≡ b → cond (g.same k (g.key p)) v Foreign ≡ cond b v Foreign
  sees k p v b e = ap (λ c. cond c v Foreign) e

  -- another key's word is replaced with another
  other_kept : (t x : ℕ) (w w' : Word P) (k : K) → s.slot t x ≡ w → view g k w ≡ Foreign → view g k w' ≡ Foreign → KeptRoot g (slot_put s t x w') k (m k)
  other_kept t x w w' k old e f =
      same_kept_blocking (IsOn s.first s.next) s.was_root s.aborted s.root g.places (g.place k) (look g s k) (look g (slot_put s t x w') k) t x (m k)
      (holds.class k) (turn_own g s k t x w w' Foreign Foreign old e f)

  -- the same for an Empty word
  fills_kept : (t x : ℕ) (w' : Word P) (k : K) → s.slot t x ≡ Empty → view g k w' ≡ Foreign → KeptRoot g (slot_put s t x w') k (m k)
  fills_kept t x w' k old f =
      fill_kept_blocking (IsOn s.first s.next) s.was_root s.aborted s.root g.places (g.place k) (look g s k) (look g (slot_put s t x w') k) t x (m k)
      (holds.class k) (turn_own g s k t x Empty w' Free Foreign old refl f)

  -- a claim
  pub claim_blocking : (t x : ℕ) (p : P) → MayClaim g s t x p → (m (g.key p) ≡ None)
      × IsBlockingState g (slot_put s t x (Live p)) (λ k. cond (g.same k (g.key p)) (Some p) (m k))
  claim_blocking t x p may = (
    (of_class (g.key p) (law.itself (g.key p))).0,
    slot_blocking g s m holds t x Empty (Live p) may.empty refl (inl refl) (λ q e. cc) (holds.was t was).0 (place_of g s beyond t x p may.place)
        (λ e. absurd cc) (λ k. mild_empty g s t x (Live p) k may.empty)
        (λ k. cond (g.same k (g.key p)) (Some p) (m k))
        (λ k. by_class (slot_put s t x (Live p)) p k (Some p) (λ e. (of_class k e).1) (λ e. fills_kept t x (Live p) k may.empty (sees k p (Here p) false e))),
  )
    where
      was : s.was_root t ≡ true
      was = reached_was g s blocks (g.key p) t may.reached

      root : t ≡ s.root
      root = is_root g s m holds t x Empty was may.empty refl (subst (λ y. y < g.size t) may.place.is (law.within (g.key p) t may.place.at may.place.within))

      of_class : (k : K) → g.same k (g.key p) ≡ true → (m k ≡ None) × KeptRoot g (slot_put s t x (Live p)) k (Some p)
      of_class k e =
          let r : IsNextPlace g s k beyond t x = place_same g s law beyond k (g.key p) t x e may.place in
          claim_kept_blocking (IsOn s.first s.next) s.was_root s.aborted s.root g.places (g.place k) (look g s k) (look g (slot_put s t x (Live p)) k)
          t x (m k) (holds.class k) (holds.was t was).0 root r.at r.within r.is p
          (turn_own g s k t x Empty (Live p) Free (Here p) may.empty refl (sees k p (Here p) true e)) r.before

  -- a Live word of the key in a table that was the root is in the root
  module _ (t x : ℕ) (p : P) (live : s.slot t x ≡ Live p) (was : s.was_root t ≡ true) where
    -- so the table is the root
    live_root : t ≡ s.root
    live_root = let o = own_place g s holds.sound law (g.key p) t x p (law.itself (g.key p)) (ap named live) in
        is_root g s m holds t x (Live p) was live refl (subst (λ y. y < g.size t) o.2 (law.within (g.key p) t o.0 o.1))

  -- a replacement
  pub replace_blocking : (t x : ℕ) (p q : P) → MayReplace g s t x p q → (m (g.key p) ≡ Some p)
      × IsBlockingState g (slot_put s t x (Live q)) (λ k. cond (g.same k (g.key p)) (Some q) (m k))
  replace_blocking t x p q may = (
    (of_class (g.key p) (law.itself (g.key p))).0,
    slot_blocking g s m holds t x (Live p) (Live q) may.live refl (inl refl) (λ q e. cc) (holds.was t was).0 new (λ e. absurd cc)
        (λ k. mild_live g s t x p (Live q) k may.live (λ e. ap own (sees k q (Here q) true (to_q k true e))) (λ e. sees k q (Here q) false (to_q k false e)))
        (λ k. cond (g.same k (g.key p)) (Some q) (m k))
        (λ k. by_class (slot_put s t x (Live q)) p k (Some q) (λ e. (of_class k e).1)
        (λ e. other_kept t x (Live p) (Live q) k may.live (sees k p (Here p) false e) (sees k q (Here q) false (to_q k false e)))),
  )
    where
      was : s.was_root t ≡ true
      was = reached_was g s blocks (g.key p) t may.reached

      to_q : (k : K) (b : Bool) → g.same k (g.key p) ≡ b → g.same k (g.key q) ≡ b
      to_q k b e = sym (same_right g law k (g.key p) (g.key q) may.same) ∙ e

      of_class : (k : K) → g.same k (g.key p) ≡ true → (m k ≡ Some p) × KeptRoot g (slot_put s t x (Live q)) k (Some q)
      of_class k e =
          let r = own_place g s holds.sound law k t x p e (ap named may.live) in
          replace_kept_blocking (IsOn s.first s.next) s.was_root s.aborted s.root g.places (g.place k) (look g s k)
          (look g (slot_put s t x (Live q)) k) t x (m k) (holds.class k) (holds.was t was).0 (live_root t x p may.live was) r.0 r.1 r.2 p q
          (turn_own g s k t x (Live p) (Live q) (Here p) (Here q) may.live (sees k p (Here p) true e) (sees k q (Here q) true (to_q k true e)))

      new : (r : P) → named (Live q) ≡ Some r → IsPlaceOf g t x r
      new r e =
          let same : q ≡ r = cc in
          let o = own_place g s holds.sound law (g.key q) t x p (law.back (g.key p) (g.key q) may.same) (ap named may.live) in
          subst (IsPlaceOf g t x) same (record { at = o.0; within = o.1; is = o.2 })

  -- a deletion
  pub bury_blocking : (t x : ℕ) (p : P) → MayBury g s t x p → (m (g.key p) ≡ Some p)
      × IsBlockingState g (slot_put s t x (Buried p)) (λ k. cond (g.same k (g.key p)) None (m k))
  bury_blocking t x p may = (
    (of_class (g.key p) (law.itself (g.key p))).0,
    slot_blocking g s m holds t x (Live p) (Buried p) may.live refl (inr was) (λ q e. cc) (holds.was t was).0
        (kept_place g s holds.sound t x p (Live p) (Buried p) may.live refl refl) (λ e. absurd cc)
        (λ k. mild_live g s t x p (Buried p) k may.live (λ e. ap own (sees k p (Grave p) true e)) (λ e. sees k p (Grave p) false e))
        (λ k. cond (g.same k (g.key p)) None (m k))
        (λ k. by_class (slot_put s t x (Buried p)) p k None (λ e. (of_class k e).1)
        (λ e. other_kept t x (Live p) (Buried p) k may.live (sees k p (Here p) false e) (sees k p (Grave p) false e))),
  )
    where
      was : s.was_root t ≡ true
      was = reached_was g s blocks (g.key p) t may.reached

      of_class : (k : K) → g.same k (g.key p) ≡ true → (m k ≡ Some p) × KeptRoot g (slot_put s t x (Buried p)) k None
      of_class k e =
          let r = own_place g s holds.sound law k t x p e (ap named may.live) in
          bury_kept_blocking (IsOn s.first s.next) s.was_root s.aborted s.root g.places (g.place k) (look g s k)
          (look g (slot_put s t x (Buried p)) k) t x (m k) (holds.class k) (holds.was t was).0 (live_root t x p may.live was) r.0 r.1 r.2 p
          (turn_own g s k t x (Live p) (Buried p) (Here p) (Grave p) may.live (sees k p (Here p) true e) (sees k p (Grave p) true e))

  -- a mark
  pub mark_blocking : (t x : ℕ) (p : P) → MayMark g s t x p → IsBlockingState g (slot_put s t x (Marked p)) m
  mark_blocking t x p may =
      slot_blocking g s m holds t x (Live p) (Marked p) may.live refl (inr may.was) (λ q e. cc) (holds.was t may.was).0
      (kept_place g s holds.sound t x p (Live p) (Marked p) may.live refl refl) (λ e. may.further)
      (λ k. mild_live g s t x p (Marked p) k may.live (λ e. ap own (sees k p (Leaving p) true e)) (λ e. sees k p (Leaving p) false e)) m
      (λ k. ⊎_elim (of_class k) (λ e. other_kept t x (Live p) (Marked p) k may.live (sees k p (Here p) false e) (sees k p (Leaving p) false e))
      (cases_Bool (g.same k (g.key p))))
    where
      of_class : (k : K) → g.same k (g.key p) ≡ true → KeptRoot g (slot_put s t x (Marked p)) k (m k)
      of_class k e =
          let r = own_place g s holds.sound law k t x p e (ap named may.live) in
          mark_kept_blocking (IsOn s.first s.next) s.was_root s.aborted s.root g.places (g.place k) (look g s k)
          (look g (slot_put s t x (Marked p)) k) t x (m k) (holds.class k) (holds.was t may.was).0 (live_root t x p may.live may.was) r.0 r.1 r.2 p
          (turn_own g s k t x (Live p) (Marked p) (Here p) (Leaving p) may.live (sees k p (Here p) true e) (sees k p (Leaving p) true e))

  -- a closing
  pub close_blocking : (t x : ℕ) → MayClose g s t x → IsBlockingState g (slot_put s t x Closed) m
  close_blocking t x may =
      slot_blocking g s m holds t x Empty Closed may.empty refl (inr may.was) (λ q e. cc) (holds.was t may.was).0 (λ r e. absurd cc)
      (λ e. may.further) (λ k. mild_empty g s t x Closed k may.empty) m
      (λ k. fills_kept t x Closed k may.empty refl)

  -- a copy is placed
  pub place_blocking : (t x : ℕ) (p : P) → MayPlace g s t x p → IsBlockingState g (slot_put s t x (Live p)) m
  place_blocking t x p may =
      slot_blocking g s m holds t x Empty (Live p) may.empty refl (inl refl) (λ q e. cc) taker.0 (place_of g s foreign t x p may.place)
      (λ e. absurd cc) (λ k. mild_empty g s t x (Live p) k may.empty) m
      (λ k. ⊎_elim (of_class k) (λ e. fills_kept t x (Live p) k may.empty (sees k p (Here p) false e)) (cases_Bool (g.same k (g.key p))))
    where
      from : ℕ
      from = may.source.from

      marked : s.slot from may.source.slot ≡ Marked p
      marked = ⊎_elim (λ e. e) (λ e. absurd (holds.copied from may.source.slot p e)) may.source.stood

      was : s.was_root from ≡ true
      was = was_root_of g s m holds from may.source.slot (Marked p) marked refl

      taker : IsOn s.first s.next t × (from < t) × AllAborted (IsOn s.first s.next) s.aborted from t
      taker = taker_aborted g s holds.sound blocks (g.key p) from t (holds.was from was).0 may.source.taker

      of_class : (k : K) → g.same k (g.key p) ≡ true → KeptRoot g (slot_put s t x (Live p)) k (m k)
      of_class k e =
          let r : IsNextPlace g s k foreign t x = place_same g s law foreign k (g.key p) t x e may.place in
          let o = own_place g s holds.sound law k from may.source.slot p e (ap named marked) in
          let leaving : look g s k from o.0 ≡ Leaving p = ap (λ y. view g k (s.slot from y)) o.2 ∙ (ap (view g k) marked ∙ sees k p (Leaving p) true e) in
          place_kept_blocking (IsOn s.first s.next) s.was_root s.aborted s.root g.places (g.place k) (look g s k) (look g (slot_put s t x (Live p)) k)
          t x (m k) (holds.class k)
          taker.0 r.at r.within r.is r.before from o.0 p was (holds.was from was).1 taker.1 o.1 leaving taker.2
          (root_on g s m holds from (holds.was from was).0 (holds.was from was).1) (root_alive g s m holds from (holds.was from was).0 (holds.was from was).1)
          (turn_own g s k t x Empty (Live p) Free (Here p) may.empty refl (sees k p (Here p) true e))
