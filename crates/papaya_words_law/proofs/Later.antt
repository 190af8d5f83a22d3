-- The facts that no allowed exchange undoes, so that a caller can still use the ones that it has
-- loaded earlier.
use Rattle.std.proofs.Common.{◌≡◌, ◌⊎◌, inl, inr, ⊎_elim, ℕ, zero, suc, ◌<◌, ◌≤◌, Bool, true, false}
use Rattle.std.proofs.Common.{cond, ◌==◌, List, [], ◌∷◌, refl, sym, ap, ◌∙◌, subst, arith, eqb-true}
use Rattle.std.proofs.lemmas.Bool.{cases_lt, cases_Bool, cond-true, cond-false}
use Rattle.papaya_words_law.specs.Exchange.{Word, Empty, Closed, Live, Marked, Copied, Buried, Setting}
use Rattle.papaya_words_law.specs.Exchange.{State, Exchange, Open, Claim, Replace, Bury, Link, Mark}
use Rattle.papaya_words_law.specs.Exchange.{Close, Place, Finish, Advance, Promote, Abort, Take, slot_put}
use Rattle.papaya_words_law.specs.Exchange.{at_put, after, run, walk}
use Rattle.papaya_words_law.specs.View.{View, Free, Foreign, Here, Leaving, Gone, Grave, view, look, own, beyond, foreign, IsPassed, IsFull, HasWord, IsReached}
use Rattle.papaya_words_law.specs.Copying.{IsTaker, IsTarget, IsSettled}
use Rattle.papaya_words_law.specs.Allows.{Allows, AllAllowed}
use Rattle.papaya_words_law.specs.Meaning.{IsLawful}
use Rattle.papaya_words_law.specs.Later.{Becomes, IsLater, IsLasting}
use Rattle.papaya_words_law.proofs.Base.{done_stays}
use Rattle.papaya_words_law.proofs.Slots.{slot_cases, same_right}

-- the next view of a key
abbrev pub Sees : {P : Type 0} → View P → View P → Type 0
Sees Free v = Unit {0}
Sees Foreign v = v ≡ Foreign
Sees (Here p) v = own v ≡ true
Sees (Leaving p) v = (v ≡ Leaving p) ⊎ (v ≡ Gone p)
Sees (Gone p) v = v ≡ Gone p
Sees (Grave p) v = v ≡ Grave p

-- a word that is true stays true
pub put_on : (f : ℕ → Bool) (n u : ℕ) → f u ≡ true → at_put f n true u ≡ true
put_on f n u h = ⊎_elim (λ q. cond-true (u == n) true (f u) q) (λ q. cond-false (u == n) true (f u) q ∙ h) (cases_Bool (u == n))

-- another key's stays another's
foreign_sees : {P : Type 0} → (v w : View P) → Sees v w → foreign v ≡ true → foreign w ≡ true
foreign_sees Free w h f = absurd cc
foreign_sees Foreign w h f = ap foreign h
foreign_sees (Here p) w h f = absurd cc
foreign_sees (Leaving p) w h f = absurd cc
foreign_sees (Gone p) w h f = absurd cc
foreign_sees (Grave p) w h f = absurd cc

-- a word that is passed stays passed
beyond_sees : {P : Type 0} → (v w : View P) → Sees v w → beyond v ≡ true → beyond w ≡ true
beyond_sees Free w h f = absurd cc
beyond_sees Foreign w h f = ap beyond h
beyond_sees (Here p) w h f = absurd cc
beyond_sees (Leaving p) w h f = absurd cc
beyond_sees (Gone p) w h f = absurd cc
beyond_sees (Grave p) w h f = ap beyond h

-- a word of the key stays one
pub own_sees : {P : Type 0} → (v w : View P) → Sees v w → own v ≡ true → own w ≡ true
own_sees Free w h f = absurd cc
own_sees Foreign w h f = absurd cc
own_sees (Here p) w h f = h
own_sees (Leaving p) w h f = ⊎_elim (λ e. ap own e) (λ e. ap own e) h
own_sees (Gone p) w h f = ap own h
own_sees (Grave p) w h f = ap own h

module _ {K P : Type 0} (g : Setting K P) (law : IsLawful g) where
  -- a key that is kept is an equal one
  pub kept_same : (p q : P) → g.key q ≡ g.key p → g.same (g.key p) (g.key q) ≡ true
  kept_same p q e = subst (λ k. g.same (g.key p) k ≡ true) (sym e) (law.itself (g.key p))

  -- a word may stay
  becomes_itself : (w : Word P) → Becomes g w w
  becomes_itself Empty = tt
  becomes_itself Closed = refl
  becomes_itself (Live p) = refl
  becomes_itself (Marked p) = inl refl
  becomes_itself (Copied p) = refl
  becomes_itself (Buried p) = refl

  -- for a pair that was replaced by one of an equal key
  live_through : (p q : P) → g.key q ≡ g.key p → (w : Word P) → Becomes g (Live q) w → Becomes g (Live p) w
  live_through p q h Empty b = b
  live_through p q h Closed b = b
  live_through p q h (Live r) b = b ∙ h
  live_through p q h (Marked r) b = b ∙ h
  live_through p q h (Copied r) b = b ∙ h
  live_through p q h (Buried r) b = b ∙ h

  -- in two steps
  pub becomes_through : (u v w : Word P) → Becomes g u v → Becomes g v w → Becomes g u w
  becomes_through Empty v w a b = tt
  becomes_through Closed v w a b = subst (λ y. Becomes g y w) a b
  becomes_through (Live p) Empty w a b = absurd a
  becomes_through (Live p) Closed w a b = absurd a
  becomes_through (Live p) (Live q) w a b = live_through p q a w b
  becomes_through (Live p) (Marked q) w a b = ⊎_elim (λ e. subst (Becomes g (Live p)) (sym e) a) (λ e. subst (Becomes g (Live p)) (sym e) a) b
  becomes_through (Live p) (Copied q) w a b = subst (Becomes g (Live p)) (sym b) a
  becomes_through (Live p) (Buried q) w a b = subst (Becomes g (Live p)) (sym b) a
  becomes_through (Marked p) v w a b = ⊎_elim (λ e. subst (λ y. Becomes g y w) e b) (λ e. inr (subst (λ y. Becomes g y w) e b)) a
  becomes_through (Copied p) v w a b = subst (λ y. Becomes g y w) a b
  becomes_through (Buried p) v w a b = subst (λ y. Becomes g y w) a b

  -- a state is later than itself
  pub later_itself : (s : State P) → IsLater g s s
  later_itself s = record {
    was = λ t h. h;
    next = λ t h. refl;
    aborted = λ t h. h;
    done = λ t c h. h;
    made = omega arith;
    words = λ t x.
        becomes_itself (s.slot t x);
  }

  -- and `IsLater` is transitive
  pub later_through : (s s' s'' : State P) → IsLater g s s' → IsLater g s' s'' → IsLater g s s''
  later_through s s' s'' a b = record {
    was = λ t h. b.was t (a.was t h);
    next = λ t h. b.next t (subst (λ y. 0 < y) (sym (a.next t h)) h) ∙ a.next t h;
    aborted = λ t h. b.aborted t (a.aborted t h);
    done = λ t c h. b.done t c (a.done t c h);
    made = let x = a.made in let y = b.made in omega arith;
    words = λ t x. becomes_through (s.slot t x) (s'.slot t x) (s''.slot t x) (a.words t x) (b.words t x);
  }

  -- a slot's word changes as it may
  slot_later : (s : State P) (t x : ℕ) (w w' : Word P) → s.slot t x ≡ w → Becomes g w w' → IsLater g s (slot_put s t x w')
  slot_later s t x w w' old b = record {
    was = λ u h. h;
    next = λ u h. refl;
    aborted = λ u h. h;
    done = λ u c h. h;
    made = omega arith;
    words = λ u y. ⊎_elim
        (λ r. subst (Becomes g (s.slot u y)) (sym r.0) (becomes_itself (s.slot u y)))
        (λ r. let e : s.slot u y ≡ w = cc (r.0, r.1, old) in subst (Becomes g (s.slot u y)) (sym r.2) (subst (λ v. Becomes g v w') (sym e) b))
        (slot_cases s t x w' u y);
  }

  -- this does not need the invariant of the words
  pub later_step : (s : State P) (e : Exchange P) → Allows g s e → IsLater g s (after s e)
  later_step s (Open t) may = let l = later_itself s in
      record { was = put_on s.was_root t; next = l.next; aborted = l.aborted; done = l.done; made = l.made; words = l.words }
  later_step s (Claim t x p) may = slot_later s t x Empty (Live p) may.empty tt
  later_step s (Replace t x p q) may = slot_later s t x (Live p) (Live q) may.live may.kept
  later_step s (Bury t x p) may = slot_later s t x (Live p) (Buried p) may.live refl
  later_step s (Link t n) may = let l = later_itself s in record {
    was = l.was;
    aborted = l.aborted;
    done = l.done;
    made = l.made;
    words = l.words;
    next = λ u h. ⊎_elim (λ (q : (u == t) ≡ true). let e = ap s.next (eqb-true u t q) in let z = may.last in absurd (omega arith))
        (λ (q : (u == t) ≡ false). cond-false (u == t) n (s.next u) q) (cases_Bool (u == t));
  }
  later_step s (Mark t x p) may = slot_later s t x (Live p) (Marked p) may.live refl
  later_step s (Close t x) may = slot_later s t x Empty Closed may.empty tt
  later_step s (Place n x p) may = slot_later s n x Empty (Live p) may.empty tt
  later_step s (Finish t x p) may = slot_later s t x (Marked p) (Copied p) may.marked (inr refl)
  later_step s (Advance n c) may = let l = later_itself s in record {
    was = l.was;
    next = l.next;
    aborted = l.aborted;
    made = l.made;
    words = l.words;
    done = λ u d h. done_stays s.done n c u d h;
  }
  later_step s (Promote t n) may = let l = later_itself s in
      record { was = put_on s.was_root n; next = l.next; aborted = l.aborted; done = l.done; made = l.made; words = l.words }
  later_step s (Abort n) may = let l = later_itself s in
      record { was = l.was; next = l.next; aborted = put_on s.aborted n; done = l.done; made = l.made; words = l.words }
  later_step s (Take m) may = let l = later_itself s in
      record { was = l.was; next = l.next; aborted = l.aborted; done = l.done; made = let e = may.0 in omega arith; words = l.words }

  -- the same for a list
  pub later_run : (es : List (Exchange P)) (s : State P) → AllAllowed g s es → IsLater g s (run es s)
  later_run [] s may = later_itself s
  later_run (e ∷ es) s may = later_through s (after s e) (run es (after s e)) (later_step s e may.0) (later_run es (after s e) may.1)

  -- a key's view of a word that becomes another
  live_sees : (k : K) (p q : P) (v : View P) → g.same (g.key p) (g.key q) ≡ true → own v ≡ true → (b : Bool) → g.same k (g.key p) ≡ b
      → Sees (cond b (Here p) Foreign) (cond (g.same k (g.key q)) v Foreign)
  live_sees k p q v h o true e = ap own (cond-true (g.same k (g.key q)) v Foreign (sym (same_right g law k (g.key p) (g.key q) h) ∙ e)) ∙ o
  live_sees k p q v h o false e = cond-false (g.same k (g.key q)) v Foreign (sym (same_right g law k (g.key p) (g.key q) h) ∙ e)

  -- the same by the key's own test
  at_live : (k : K) (p q : P) (v : View P) → g.same (g.key p) (g.key q) ≡ true → own v ≡ true → Sees (view g k (Live p)) (cond (g.same k (g.key q)) v Foreign)
  at_live k p q v h o = live_sees k p q v h o (g.same k (g.key p)) refl

  -- a word that stays has the same view
  sees_itself : (v : View P) → (b : Bool) (w : View P) → w ≡ cond b v Foreign → own v ≡ true → ((u : View P) → u ≡ v → Sees v u) → Sees (cond b v Foreign) w
  sees_itself v true w e o self = self w e
  sees_itself v false w e o self = e

  -- the view of a word changes as the word may
  pub sees_later : (k : K) (u w : Word P) → Becomes g u w → Sees (view g k u) (view g k w)
  sees_later k Empty w b = tt
  sees_later k Closed w b = ap (view g k) b
  sees_later k (Live p) Empty b = absurd b
  sees_later k (Live p) Closed b = absurd b
  sees_later k (Live p) (Live q) b = at_live k p q (Here q) (kept_same p q b) refl
  sees_later k (Live p) (Marked q) b = at_live k p q (Leaving q) (kept_same p q b) refl
  sees_later k (Live p) (Copied q) b = at_live k p q (Gone q) (kept_same p q b) refl
  sees_later k (Live p) (Buried q) b = at_live k p q (Grave q) (kept_same p q b) refl
  sees_later k (Marked p) w b = marked (g.same k (g.key p)) refl
    where
      marked : (c : Bool) → g.same k (g.key p) ≡ c → Sees (cond c (Leaving p) Foreign) (view g k w)
      marked true e = ⊎_elim (λ h. inl (ap (view g k) h ∙ cond-true (g.same k (g.key p)) (Leaving p) Foreign e))
          (λ h. inr (ap (view g k) h ∙ cond-true (g.same k (g.key p)) (Gone p) Foreign e)) b
      marked false e = ⊎_elim (λ h. ap (view g k) h ∙ cond-false (g.same k (g.key p)) (Leaving p) Foreign e)
          (λ h. ap (view g k) h ∙ cond-false (g.same k (g.key p)) (Gone p) Foreign e) b
  sees_later k (Copied p) w b = sees_itself (Gone p) (g.same k (g.key p)) (view g k w) (ap (view g k) b) refl (λ u e. e)
  sees_later k (Buried p) w b = sees_itself (Grave p) (g.same k (g.key p)) (view g k w) (ap (view g k) b) refl (λ u e. e)

  -- a caller's facts stay
  module _ (s s' : State P) (zero' : s.next 0 ≡ 0) (l : IsLater g s s') where
    -- at each place
    look_later : (k : K) (t j : ℕ) → Sees (look g s k t j) (look g s' k t j)
    look_later k t j = sees_later k (s.slot t (g.place k t j)) (s'.slot t (g.place k t j)) (l.words t (g.place k t j))

    -- a passed table stays passed
    passed_later : (k : K) (t : ℕ) → IsPassed g.places (look g s k) t → IsPassed g.places (look g s' k) t
    passed_later k t (inl (j, p, lt, e)) = inl (j, p, lt, subst (λ v. Sees v (look g s' k t j)) e (look_later k t j))
    passed_later k t (inr all) = inr (λ j lt. beyond_sees (look g s k t j) (look g s' k t j) (look_later k t j) (all j lt))

    -- a full one stays full
    full_later : (k : K) (t : ℕ) → IsFull g.places (look g s k) t → IsFull g.places (look g s' k) t
    full_later k t all j lt = foreign_sees (look g s k t j) (look g s' k t j) (look_later k t j) (all j lt)

    -- a word of the key stays
    has_later : (k : K) (t : ℕ) → HasWord g.places (look g s k) t → HasWord g.places (look g s' k) t
    has_later k t h = (h.0, h.1, own_sees (look g s k t h.0) (look g s' k t h.0) (look_later k t h.0) h.2)

    -- the table after some links stays
    walk_later : (n t : ℕ) → 0 < walk s.next n t → walk s'.next n t ≡ walk s.next n t
    walk_later zero t h = refl
    walk_later (suc n) t h =
        let some : 0 < walk s.next n t = ⊎_elim (λ c. c)
        (λ (c : walk s.next n t ≤ 0). let e : walk s.next n t ≡ 0 = omega arith in let z : s.next (walk s.next n t) ≡ 0 = ap s.next e ∙ zero' in
        absurd (omega arith)) (cases_lt 0 (walk s.next n t)) in
        ap s'.next (walk_later n t some) ∙ l.next (walk s.next n t) h

    -- if there is a table after some links, there are tables on the way
    some_before : (i n t : ℕ) → i ≤ n → 0 < walk s.next n t → 0 < walk s.next i t
    some_before i zero t le h = let e : i ≡ 0 = omega arith in subst (λ y. 0 < walk s.next y t) (sym e) h
    some_before i (suc n) t le h =
        let some : 0 < walk s.next n t = ⊎_elim (λ c. c)
        (λ (c : walk s.next n t ≤ 0). let e : walk s.next n t ≡ 0 = omega arith in let z : s.next (walk s.next n t) ≡ 0 = ap s.next e ∙ zero' in
        absurd (omega arith)) (cases_lt 0 (walk s.next n t)) in
        ⊎_elim
        (λ (c : i < suc n). some_before i n t (omega arith) some)
        (λ (c : suc n ≤ i). let e : i ≡ suc n = omega arith in subst (λ y. 0 < walk s.next y t) (sym e) h)
        (cases_lt i (suc n))

    -- a reached table stays reached
    reached_later : (k : K) (t : ℕ) → IsReached g s k t → IsReached g s' k t
    reached_later k t r =
        let some : 0 < walk s.next r.links r.from = subst (λ y. 0 < y) (sym r.is) r.made in
        record {
          from = r.from;
          links = r.links;
          was = l.was r.from r.was;
          is = walk_later r.links r.from some ∙ r.is;
          made = r.made;
          mode = r.mode;
          passed = λ i lt. subst (IsPassed g.places (look g s' k)) (sym (walk_later i r.from (some_before i r.links r.from (omega arith) some)))
              (passed_later k (walk s.next i r.from) (r.passed i lt));
        }

    -- a table that takes a pair takes it still
    taker_later : (k : K) (t n : ℕ) → IsTaker g s k t n → IsTaker g s' k t n
    taker_later k t n r =
        let some : 0 < walk s.next (suc r.links) t = subst (λ y. 0 < y) (sym r.is) r.made in
        record {
          links = r.links;
          is = walk_later (suc r.links) t some ∙ r.is;
          made = r.made;
          over = λ i lt.
              let e : walk s'.next (suc i) t ≡ walk s.next (suc i) t = walk_later (suc i) t (some_before (suc i) (suc r.links) t (omega arith) some) in
              ⊎_elim
              (λ h. inl (h.0, ap s'.aborted e ∙ l.aborted (walk s.next (suc i) t) h.1))
              (λ h. inr (h.0, subst (IsFull g.places (look g s' k)) (sym e) (full_later k (walk s.next (suc i) t) h.1)))
              (r.over i lt);
        }

    -- a target stays or was one
    target_later : (t n : ℕ) → IsTarget g s t n → IsTarget g s' t n
    target_later t n r =
        let some : 0 < walk s.next (suc r.links) t = subst (λ y. 0 < y) (sym r.is) r.made in
        record {
          links = r.links;
          is = walk_later (suc r.links) t some ∙ r.is;
          made = r.made;
          mode = r.mode;
          over = λ i lt.
              let e : walk s'.next (suc i) t ≡ walk s.next (suc i) t = walk_later (suc i) t (some_before (suc i) (suc r.links) t (omega arith) some) in
              ap s'.aborted e ∙ l.aborted (walk s.next (suc i) t) (r.over i lt);
        }

    -- a settled word is settled
    settled_later : (n : ℕ) (w w' : Word P) → Becomes g w w' → IsSettled g s n w → IsSettled g s' n w'
    settled_later n Empty w' b h = absurd h
    settled_later n Closed w' b h = subst (IsSettled g s' n) (sym b) tt
    settled_later n (Live p) w' b h = absurd h
    settled_later n (Marked p) w' b h = ⊎_elim (λ e. subst (IsSettled g s' n) (sym e) (h.0, has_later (g.key p) n h.1))
        (λ e. subst (IsSettled g s' n) (sym e) tt) b
    settled_later n (Copied p) w' b h = subst (IsSettled g s' n) (sym b) tt
    settled_later n (Buried p) w' b h = subst (IsSettled g s' n) (sym b) tt

    -- a word that is Marked or Copied with p stays one of the two
    stood_later : (t x : ℕ) (p : P) → (s.slot t x ≡ Marked p) ⊎ (s.slot t x ≡ Copied p) → (s'.slot t x ≡ Marked p) ⊎ (s'.slot t x ≡ Copied p)
    stood_later t x p (inl e) = subst (λ w. Becomes g w (s'.slot t x)) e (l.words t x)
    stood_later t x p (inr e) = inr (subst (λ w. Becomes g w (s'.slot t x)) e (l.words t x))

    -- all of it
    pub lasts : IsLasting g s s'
    lasts = record {
      passed = passed_later;
      full = full_later;
      has = has_later;
      beyond_at = λ k t j h. beyond_sees (look g s k t j) (look g s' k t j) (look_later k t j) h;
      foreign_at = λ k t j h. foreign_sees (look g s k t j) (look g s' k t j) (look_later k t j) h;
      next_place = λ k t x r. record {
        at = r.at;
        within = r.within;
        is = r.is;
        before = λ i lt.
            beyond_sees (look g s k t i) (look g s' k t i) (look_later k t i) (r.before i lt);
      };
      copy_place = λ k t x r. record {
        at = r.at;
        within = r.within;
        is = r.is;
        before = λ i lt.
            foreign_sees (look g s k t i) (look g s' k t i) (look_later k t i) (r.before i lt);
      };
      reached = reached_later;
      taker = taker_later;
      target = target_later;
      copied = λ n p c. record { from = c.from; slot = c.slot; stood = stood_later c.from c.slot p c.stood; taker = taker_later (g.key p) c.from n c.taker };
      settled = λ n t x h. settled_later n (s.slot t x) (s'.slot t x) (l.words t x) h;
    }
