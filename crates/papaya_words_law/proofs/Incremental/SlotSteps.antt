-- Each kind of exchange of a slot preserves the invariant, without blocking. Claim is in `States`.
use Rattle.std.proofs.Common.{◌≡◌, ◌⊎◌, inl, inr, ⊎_elim, ℕ, Bool, true, false, cond, Option, None, Some, refl, sym, ap, ◌∙◌, subst, arith}
use Rattle.std.proofs.lemmas.Bool.{cases_Bool, cond-true, cond-false}
use Rattle.papaya_words_law.specs.Exchange.{Word, Empty, Closed, Live, Marked, Copied, Buried, Setting, State, slot_put}
use Rattle.papaya_words_law.specs.View.{View, Free, Foreign, Here, Leaving, Gone, Grave, view, look, foreign, IsReached, IsNextPlace, HasWord}
use Rattle.papaya_words_law.specs.Allows.{MayReplace, MayBury, MayMark, MayClose, MayPlace, MayFinish}
use Rattle.papaya_words_law.specs.Meaning.{IsLawful}
use Rattle.papaya_words_law.specs.Class.{AllFull, IsGoneTo, IsIncrementalClass, IsOn}
use Rattle.papaya_words_law.specs.Invariant.{named, shut, IsPlaceOf, IsIncrementalState}
use Rattle.papaya_words_law.proofs.Incremental.ClassSteps.{fill_kept, replace_kept, mark_kept, bury_kept, place_kept, finish_kept}
use Rattle.papaya_words_law.proofs.Slots.{look_same, same_right}
use Rattle.papaya_words_law.proofs.Base.{own_place, place_same, place_of, kept_place, filled_on, turn_own}
use Rattle.papaya_words_law.proofs.Incremental.States.{same_kept, reached_front, front_same, taker_full, slot_incremental}

-- one class is kept
abbrev pub Kept : {K P : Type 0} → Setting K P → State P → K → Option P → Type 0
Kept g s k v = IsIncrementalClass (IsOn s.first s.next) g.places (g.place k) (look g s k) v

module _ {K P : Type 0} (g : Setting K P) (law : IsLawful g) (inc : g.blocking ≡ false) (s : State P) (m : K → Option P)
    (holds : IsIncrementalState g s m) where
  -- the class that holds pair p, and the others
  by_class : (s' : State P) (p : P) (k : K) (v : Option P) → (g.same k (g.key p) ≡ true → Kept g s' k v)
      → (g.same k (g.key p) ≡ false → Kept g s' k (m k)) → Kept g s' k (cond (g.same k (g.key p)) v (m k))
  by_class s' p k v yes' no' =
      ⊎_elim
      (λ e. subst (Kept g s' k) (sym (cond-true (g.same k (g.key p)) v (m k) e)) (yes' e))
      (λ e. subst (Kept g s' k) (sym (cond-false (g.same k (g.key p)) v (m k) e)) (no' e))
      (cases_Bool (g.same k (g.key p)))

  -- an exchange that leaves the map
  same_class : (s' : State P) (p : P) (k : K) → (g.same k (g.key p) ≡ true → Kept g s' k (m k)) → (g.same k (g.key p) ≡ false → Kept g s' k (m k))
      → Kept g s' k (m k)
  same_class s' p k yes' no' = ⊎_elim yes' no' (cases_Bool (g.same k (g.key p)))

  -- another key's word changes, or is put at an Empty place
  other_kept : (t x : ℕ) (w w' : Word P) (k : K) → s.slot t x ≡ w → view g k w ≡ Foreign → view g k w' ≡ Foreign → Kept g (slot_put s t x w') k (m k)
  other_kept t x w w' k old e f =
      same_kept (IsOn s.first s.next) g.places (g.place k) (look g s k) (look g (slot_put s t x w') k) t x (m k) (holds.class k)
      (turn_own g s k t x w w' Foreign Foreign old e f)

  -- the same for an Empty word
  fills_kept : (t x : ℕ) (w' : Word P) (k : K) → s.slot t x ≡ Empty → view g k w' ≡ Foreign → Kept g (slot_put s t x w') k (m k)
  fills_kept t x w' k old f =
      fill_kept (IsOn s.first s.next) g.places (g.place k) (look g s k) (look g (slot_put s t x w') k) t x (m k) (holds.class k)
      (turn_own g s k t x Empty w' Free Foreign old refl f)

  -- a key's view of a pair's word
  sees : (k : K) (p : P) (v : View P) (b : Bool) → g.same k (g.key p) ≡ b → cond (g.same k (g.key p)) v Foreign ≡ cond b v Foreign
  sees k p v b e = ap (λ c. cond c v Foreign) e

  -- a replacement
  pub replace_incremental : (t x : ℕ) (p q : P) → MayReplace g s t x p q → (m (g.key p) ≡ Some p)
      × IsIncrementalState g (slot_put s t x (Live q)) (λ k. cond (g.same k (g.key p)) (Some q) (m k))
  replace_incremental t x p q may = (
    (of_class (g.key p) (law.itself (g.key p))).0,
    slot_incremental g law inc s m holds t x (Live p) (Live q) may.live refl (reached_front g law inc s m holds (g.key p) t may.reached).0 new (λ e. absurd cc)
        (λ k. cond (g.same k (g.key p)) (Some q) (m k))
        (λ k. by_class (slot_put s t x (Live q)) p k (Some q) (λ e. (of_class k e).1)
        (λ e. other_kept t x (Live p) (Live q) k may.live (sees k p (Here p) false e)
        (sees k q (Here q) false (sym (same_right g law k (g.key p) (g.key q) may.same) ∙ e)))),
  )
    where
      of_class : (k : K) → g.same k (g.key p) ≡ true → (m k ≡ Some p) × Kept g (slot_put s t x (Live q)) k (Some q)
      of_class k e =
          let f = front_same g law inc s m holds k (g.key p) t e may.reached in
          let r = own_place g s holds.sound law k t x p e (ap named may.live) in
          replace_kept (IsOn s.first s.next) g.places (g.place k) (look g s k) (look g (slot_put s t x (Live q)) k) t x (m k) (holds.class k) f.0 f.1
          r.0 r.1 r.2 p q
          (turn_own g s k t x (Live p) (Live q) (Here p) (Here q) may.live (sees k p (Here p) true e)
          (sees k q (Here q) true (sym (same_right g law k (g.key p) (g.key q) may.same) ∙ e)))

      new : (r : P) → named (Live q) ≡ Some r → IsPlaceOf g t x r
      new r e =
          let same : q ≡ r = cc in
          let o = own_place g s holds.sound law (g.key q) t x p (law.back (g.key p) (g.key q) may.same) (ap named may.live) in
          subst (IsPlaceOf g t x) same (record { at = o.0; within = o.1; is = o.2 })

  -- a deletion
  pub bury_incremental : (t x : ℕ) (p : P) → MayBury g s t x p → (m (g.key p) ≡ Some p)
      × IsIncrementalState g (slot_put s t x (Buried p)) (λ k. cond (g.same k (g.key p)) None (m k))
  bury_incremental t x p may = (
    (of_class (g.key p) (law.itself (g.key p))).0,
    slot_incremental g law inc s m holds t x (Live p) (Buried p) may.live refl (reached_front g law inc s m holds (g.key p) t may.reached).0
        (kept_place g s holds.sound t x p (Live p) (Buried p) may.live refl refl) (λ e. absurd cc)
        (λ k. cond (g.same k (g.key p)) None (m k))
        (λ k. by_class (slot_put s t x (Buried p)) p k None (λ e. (of_class k e).1)
        (λ e. other_kept t x (Live p) (Buried p) k may.live (sees k p (Here p) false e) (sees k p (Grave p) false e))),
  )
    where
      of_class : (k : K) → g.same k (g.key p) ≡ true → (m k ≡ Some p) × Kept g (slot_put s t x (Buried p)) k None
      of_class k e =
          let f = front_same g law inc s m holds k (g.key p) t e may.reached in
          let r = own_place g s holds.sound law k t x p e (ap named may.live) in
          bury_kept (IsOn s.first s.next) g.places (g.place k) (look g s k) (look g (slot_put s t x (Buried p)) k) t x (m k) (holds.class k) f.0
          f.1 r.0 r.1 r.2 p
          (turn_own g s k t x (Live p) (Buried p) (Here p) (Grave p) may.live (sees k p (Here p) true e) (sees k p (Grave p) true e))

  -- a table that was the root is reached for each key
  root_reached : (k : K) (t : ℕ) → s.was_root t ≡ true → IsReached g s k t
  root_reached k t was = record {
    from = t;
    links = 0;
    was = was;
    is = refl;
    made = (holds.was t was).0.0;
    mode = inl refl;
    passed = λ i lt.
        absurd (omega arith);
  }

  -- a mark
  pub mark_incremental : (t x : ℕ) (p : P) → MayMark g s t x p → IsIncrementalState g (slot_put s t x (Marked p)) m
  mark_incremental t x p may =
      slot_incremental g law inc s m holds t x (Live p) (Marked p) may.live refl (holds.was t may.was).0
      (kept_place g s holds.sound t x p (Live p) (Marked p) may.live refl refl) (λ e. may.further) m
      (λ k. same_class (slot_put s t x (Marked p)) p k (of_class k)
      (λ e. other_kept t x (Live p) (Marked p) k may.live (sees k p (Here p) false e) (sees k p (Leaving p) false e)))
    where
      of_class : (k : K) → g.same k (g.key p) ≡ true → Kept g (slot_put s t x (Marked p)) k (m k)
      of_class k e =
          let f = reached_front g law inc s m holds k t (root_reached k t may.was) in
          let r = own_place g s holds.sound law k t x p e (ap named may.live) in
          mark_kept (IsOn s.first s.next) g.places (g.place k) (look g s k) (look g (slot_put s t x (Marked p)) k) t x (m k) (holds.class k) f.0 f.1
          r.0 r.1 r.2 p
          (turn_own g s k t x (Live p) (Marked p) (Here p) (Leaving p) may.live (sees k p (Here p) true e) (sees k p (Leaving p) true e))

  -- a closing
  pub close_incremental : (t x : ℕ) → MayClose g s t x → IsIncrementalState g (slot_put s t x Closed) m
  close_incremental t x may =
      slot_incremental g law inc s m holds t x Empty Closed may.empty refl (holds.was t may.was).0 (λ r e. absurd cc) (λ e. may.further) m
      (λ k. fills_kept t x Closed k may.empty refl)

  -- a copy is placed
  pub place_incremental : (t x : ℕ) (p : P) → MayPlace g s t x p → IsIncrementalState g (slot_put s t x (Live p)) m
  place_incremental t x p may =
      slot_incremental g law inc s m holds t x Empty (Live p) may.empty refl
      (taker_full g law inc s m holds (g.key p) may.source.from t from-on may.source.taker).0
      (place_of g s foreign t x p may.place) (λ e. absurd cc) m
      (λ k. same_class (slot_put s t x (Live p)) p k (of_class k) (λ e. fills_kept t x (Live p) k may.empty (sees k p (Here p) false e)))
    where
      from-on : IsOn s.first s.next may.source.from
      from-on =
          ⊎_elim
          (λ e. filled_on g s holds.sound may.source.from may.source.slot p (Marked p) e refl)
          (λ e. filled_on g s holds.sound may.source.from may.source.slot p (Copied p) e refl)
          may.source.stood

      of_class : (k : K) → g.same k (g.key p) ≡ true → Kept g (slot_put s t x (Live p)) k (m k)
      of_class k e =
          let c = taker_full g law inc s m holds (g.key p) may.source.from t from-on may.source.taker in
          let full : AllFull (IsOn s.first s.next) g.places (look g s k) may.source.from
          t = subst (λ V. AllFull (IsOn s.first s.next) g.places V may.source.from t) (sym (look_same g law s k (g.key p) e)) c.2 in
          let r : IsNextPlace g s k foreign t x = place_same g s law foreign k (g.key p) t x e may.place in
          let here : named (s.slot may.source.from may.source.slot) ≡ Some p = ⊎_elim (λ a. ap named a) (λ a. ap named a) may.source.stood in
          let o = own_place g s holds.sound law k may.source.from may.source.slot p e here in
          let stood : (look g s k may.source.from o.0 ≡ Leaving p) ⊎ (look g s k may.source.from o.0 ≡ Gone p) =
          ⊎_elim
          (λ a. inl (ap (λ y. view g k (s.slot may.source.from y)) o.2 ∙ (ap (view g k) a ∙ sees k p (Leaving p) true e)))
          (λ a. inr (ap (λ y. view g k (s.slot may.source.from y)) o.2 ∙ (ap (view g k) a ∙ sees k p (Gone p) true e)))
          may.source.stood in
          place_kept (IsOn s.first s.next) g.places (g.place k) (look g s k) (look g (slot_put s t x (Live p)) k) t x (m k) (holds.class k) c.0 r.at
          r.within r.is r.before
          may.source.from o.0 p from-on c.1 o.1 full
          (turn_own g s k t x Empty (Live p) Free (Here p) may.empty refl (sees k p (Here p) true e))
          stood

  -- a mark is finished
  pub finish_incremental : (t x : ℕ) (p : P) → MayFinish g s t x p → IsIncrementalState g (slot_put s t x (Copied p)) m
  finish_incremental t x p may =
      slot_incremental g law inc s m holds t x (Marked p) (Copied p) may.marked refl on
      (kept_place g s holds.sound t x p (Marked p) (Copied p) may.marked refl refl) (λ e. holds.further t x (ap shut may.marked)) m
      (λ k. same_class (slot_put s t x (Copied p)) p k (of_class k)
      (λ e. other_kept t x (Marked p) (Copied p) k may.marked (sees k p (Leaving p) false e) (sees k p (Gone p) false e)))
    where
      on : IsOn s.first s.next t
      on = filled_on g s holds.sound t x p (Marked p) may.marked refl

      of_class : (k : K) → g.same k (g.key p) ≡ true → Kept g (slot_put s t x (Copied p)) k (m k)
      of_class k e =
          let c = taker_full g law inc s m holds (g.key p) t may.to on may.taker in
          let same : look g s (g.key p) ≡ look g s k = sym (look_same g law s k (g.key p) e) in
          let full : AllFull (IsOn s.first s.next) g.places (look g s k) t may.to = subst (λ V. AllFull (IsOn s.first s.next) g.places V t may.to) same c.2 in
          let has : HasWord g.places (look g s k) may.to = subst (λ V. HasWord g.places V may.to) same may.has in
          let to : IsGoneTo (IsOn s.first s.next) g.places (look g s k)
          t = record { table = may.to; at = has.0; on = c.0; later = c.1; within = has.1; word = has.2; full = full } in
          let r = own_place g s holds.sound law k t x p e (ap named may.marked) in
          finish_kept (IsOn s.first s.next) g.places (g.place k) (look g s k) (look g (slot_put s t x (Copied p)) k) t x (m k) (holds.class k) r.0 p on r.1 r.2
          (turn_own g s k t x (Marked p) (Copied p) (Leaving p) (Gone p) may.marked (sees k p (Leaving p) true e) (sees k p (Gone p) true e))
          to
