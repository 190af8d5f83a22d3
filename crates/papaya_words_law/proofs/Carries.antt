-- The invariant, and the result of a search, under one setting are the same under each setting that
-- agrees with it on the tables of the chain.
use Rattle.std.proofs.Common.{true, ◌≡◌, ◌⊎◌, inl, inr, ⊎_elim, ℕ, ◌<◌, Bool, cond, Option, None, Some, refl, sym, ap, ◌∙◌, subst}
use Rattle.papaya_words_law.specs.Exchange.{Word, Empty, Closed, Live, Marked, Copied, Buried, Setting, State}
use Rattle.papaya_words_law.specs.View.{View, Foreign, Here, Leaving, Gone, Grave, own, view, look, IsPassed, IsFull, HasWord}
use Rattle.papaya_words_law.specs.Copying.{IsSettled, IsTarget, Covers}
use Rattle.papaya_words_law.specs.Class.{IsOn, IsBase, AllFull, IsCopy, IsGoneTo, IsTied, IsIncrementalClass}
use Rattle.papaya_words_law.specs.ClassBlocking.{IsRootCopy, IsRootTied, IsBlockingClass}
use Rattle.papaya_words_law.specs.Invariant.{named, IsSound, IsIncrementalState, IsBlockingState, IsKeeping}
use Rattle.papaya_words_law.specs.Grows.{Agrees}
use Rattle.papaya_words_law.proofs.Views.{held-active, active-own}
use Rattle.papaya_words_law.proofs.Class.{held_of}
use Rattle.papaya_words_law.proofs.Base.{no_root}
use Rattle.papaya_words_law.proofs.Chain.{next_on}
use Rattle.papaya_words_law.proofs.Blocking.States.{target_aborted}
use mathlib.Core.Path.{fun_ext}

-- one class of keys, if n' and S' agree with n and S on the chain
module _ {P : Type 0} (On : ℕ → Type 0) (n n' : ℕ → ℕ) (V : ℕ → ℕ → View P) (places : (t : ℕ) → On t → n' t ≡ n t) where
  -- a place of the one is a place of the other
  to : (t j : ℕ) → On t → j < n t → j < n' t
  to t j on lt = subst (λ y. j < y) (sym (places t on)) lt

  -- a place of the other is one of the one
  back : (t j : ℕ) → On t → j < n' t → j < n t
  back t j on lt = subst (λ y. j < y) (places t on) lt

  -- a passed table is passed
  passed_agrees : (t : ℕ) → On t → IsPassed n V t → IsPassed n' V t
  passed_agrees t on (inl (j, p, lt, e)) = inl (j, p, to t j on lt, e)
  passed_agrees t on (inr all) = inr (λ j lt. all j (back t j on lt))

  -- a full one is full
  full_agrees : (t : ℕ) → On t → IsFull n V t → IsFull n' V t
  full_agrees t on all j lt = all j (back t j on lt)

  -- a word of the key is there
  has_agrees : (t : ℕ) → On t → HasWord n V t → HasWord n' V t
  has_agrees t on h = (h.0, to t h.0 on h.1, h.2)

  -- words at places of tables that are off the chain don't matter
  module _ (S S' : ℕ → ℕ → ℕ) (slots : (t j : ℕ) → On t → S' t j ≡ S t j) (same_slot : (t i j : ℕ) → S' t i ≡ S' t j → V t i ≡ V t j) where
    -- in both modes
    base_agrees : IsBase On n S V → IsBase On n' S' V
    base_agrees b = record {
      same_slot = same_slot;
      on = b.on;
      filled = λ t j lt h.
          let on = b.on t j h in
          let f = b.filled t j (back t j on lt) h in
          record { at = f.at; within = to t f.at on f.within; is = slots t f.at on ∙ (f.is ∙ sym (slots t j on)); before = f.before };
      one = λ t i j li lj p q.
          let on = b.on t i (active-own (V t i) p) in
          slots t i on ∙ (b.one t i j (back t i on li) (back t j on lj) p q ∙ sym (slots t j on));
    }

    -- without blocking
    incremental_class_agrees : (m : Option P) → IsIncrementalClass On n S V m → IsIncrementalClass On n' S' V m
    incremental_class_agrees m k = record {
      base = base_agrees k.base;
      order = λ t u j on lt l h. ⊎_elim (λ p. inl (passed_agrees t on p)) (λ (c : IsCopy On n V t u (V u j)). inr (copy t u j on c))
          (k.order t u j on lt (back u j (k.base.on u j h) l) h);
      gone = λ t i p lt e. let on = k.base.on t i (ap own e) in gone_to t (k.gone t i p (back t i on lt) e);
      tied = tied m k.tied;
    }
      where
        all_full : (t u : ℕ) → AllFull On n V t u → AllFull On n' V t u
        all_full t u f l on lo hi = full_agrees l on (f l on lo hi)

        copy : (t u j : ℕ) → On t → IsCopy On n V t u (V u j) → IsCopy On n' V t u (V u j)
        copy t u j on c = record { at = c.at; pair = c.pair; within = to t c.at on c.within; leaving = c.leaving; copy = c.copy; full = all_full t u c.full }

        gone_to : (t : ℕ) → IsGoneTo On n V t → IsGoneTo On n' V t
        gone_to t c = record {
          table = c.table;
          at = c.at;
          on = c.on;
          later = c.later;
          within = to c.table c.at c.on c.within;
          word = c.word;
          full = all_full t c.table c.full;
        }

        tied : (v : Option P) → IsTied On n V v → IsTied On n' V v
        tied None h = λ t j lt e. h t j (back t j (k.base.on t j (active-own (V t j) (held-active (V t j) e))) lt) e
        tied (Some p) o = record {
          table = o.table;
          at = o.at;
          on = o.on;
          within = to o.table o.at o.on o.within;
          has = o.has;
          front = λ l on lt.
              passed_agrees l on (o.front l on lt);
        }

    -- with blocking
    blocking_class_agrees : (was aborted : ℕ → Bool) (r : ℕ) (m : Option P) → IsBlockingClass On was aborted r n S V m
        → IsBlockingClass On was aborted r n' S' V m
    blocking_class_agrees was aborted r m k = record {
      base = base_agrees k.base;
      ahead = λ u j lt l h. copy u j (k.ahead u j lt (back u j (k.base.on u j h) l) h);
      handed = λ t u i p w on lo hi between free lt e. has_agrees u on (k.handed t u i p w on lo hi between free (back t i (k.base.on t i (ap own e)) lt) e);
      tied = tied m k.tied;
    }
      where
        copy : (u j : ℕ) → IsRootCopy On aborted n V r u (V u j) → IsRootCopy On aborted n' V r u (V u j)
        copy u j c = record {
          at = c.at;
          pair = c.pair;
          within = to r c.at (k.base.on r c.at (ap own c.leaving)) c.within;
          leaving = c.leaving;
          copy = c.copy;
          between = c.between;
        }

        tied : (v : Option P) → IsRootTied n V r v → IsRootTied n' V r v
        tied None h = λ j lt e. h j (back r j (k.base.on r j (active-own (V r j) (held-active (V r j) e))) lt) e
        tied (Some p) o = record {
          at = o.at;
          within = to r o.at
              (k.base.on r o.at (active-own (V r o.at) (held-active (V r o.at) (held_of (V r o.at) p o.has)))) o.within;
          has = o.has;
        }

-- Empty, or not
empty_or_not : {P : Type 0} (w : Word P) → (w ≡ Empty) ⊎ (w ≡ Empty → ⊥)
empty_or_not Empty = inl refl
empty_or_not Closed = inr (λ e. cc)
empty_or_not (Live p) = inr (λ e. cc)
empty_or_not (Marked p) = inr (λ e. cc)
empty_or_not (Copied p) = inr (λ e. cc)
empty_or_not (Buried p) = inr (λ e. cc)

module _ {K P : Type 0} (g g' : Setting K P) (s : State P) (sound : IsSound g s) (agrees : Agrees (IsOn s.first s.next) g g') where
  -- a key is a pair's under both or neither
  same_key : (k : K) (p : P) → g'.same k (g'.key p) ≡ g.same k (g.key p)
  same_key k p = agrees.same k (g'.key p) ∙ ap (g.same k) (agrees.key p)

  -- a key has the same view of a word
  pub view_agrees : (k : K) (w : Word P) → view g' k w ≡ view g k w
  view_agrees k Empty = refl
  view_agrees k Closed = refl
  view_agrees k (Live p) = ap (λ b. cond b (Here p) Foreign) (same_key k p)
  view_agrees k (Marked p) = ap (λ b. cond b (Leaving p) Foreign) (same_key k p)
  view_agrees k (Copied p) = ap (λ b. cond b (Gone p) Foreign) (same_key k p)
  view_agrees k (Buried p) = ap (λ b. cond b (Grave p) Foreign) (same_key k p)

  -- each key has the same view at each place, and only Empty words in a table off the chain
  look_at : (k : K) (t j : ℕ) → look g' s k t j ≡ look g s k t j
  look_at k t j =
      view_agrees k (s.slot t (g'.place k t j)) ∙ ⊎_elim
      (λ e. ⊎_elim (λ e'. ap (view g k) (e' ∙ sym e)) (λ some. there (sound.slots_on t (g'.place k t j) some)) (empty_or_not (s.slot t (g'.place k t j))))
      (λ some. there (sound.slots_on t (g.place k t j) some))
      (empty_or_not (s.slot t (g.place k t j)))
    where
      there : IsOn s.first s.next t → view g k (s.slot t (g'.place k t j)) ≡ view g k (s.slot t (g.place k t j))
      there on = ap (λ x. view g k (s.slot t x)) (agrees.place k t j on)

  -- the same for all places
  pub look_agrees : (k : K) → look g' s k ≡ look g s k
  look_agrees k = fun_ext (λ t. fun_ext (λ j. look_at k t j))

  -- the same for a pair's key
  pub look_pair : (p : P) → look g' s (g'.key p) ≡ look g s (g.key p)
  look_pair p = ap (look g' s) (agrees.key p) ∙ look_agrees (g.key p)

  -- the views of a search or a copier in a table of the chain
  module _ (V V' : ℕ → ℕ → View P) (is : V' ≡ V) (t : ℕ) (on : IsOn s.first s.next t) where
    -- a search passes it
    pub passed_carries : IsPassed g.places V t → IsPassed g'.places V' t
    passed_carries h = subst (λ W. IsPassed g'.places W t) (sym is) (passed_agrees (IsOn s.first s.next) g.places g'.places V agrees.places t on h)

    -- no copy fits
    pub full_carries : IsFull g.places V t → IsFull g'.places V' t
    full_carries h = subst (λ W. IsFull g'.places W t) (sym is) (full_agrees (IsOn s.first s.next) g.places g'.places V agrees.places t on h)

    -- a word of the key is there
    pub has_carries : HasWord g.places V t → HasWord g'.places V' t
    has_carries h = subst (λ W. HasWord g'.places W t) (sym is) (has_agrees (IsOn s.first s.next) g.places g'.places V agrees.places t on h)

  -- a word that is settled in one setting is settled in the other
  pub settled_carries : (t : ℕ) → IsOn s.first s.next t → (w : Word P) → IsSettled g s t w → IsSettled g' s t w
  settled_carries t on Empty h = h
  settled_carries t on Closed h = h
  settled_carries t on (Live p) h = h
  settled_carries t on (Marked p) h = (agrees.blocking ∙ h.0, has_carries (look g s (g.key p)) (look g' s (g'.key p)) (look_pair p) t on h.1)
  settled_carries t on (Copied p) h = h
  settled_carries t on (Buried p) h = h

  -- for the words themselves
  sound_carries : IsSound g' s
  sound_carries = record {
    rises = sound.rises;
    root = sound.root;
    was = sound.was;
    root_was = sound.root_was;
    linked = sound.linked;
    done_on = sound.done_on;
    slots_on = sound.slots_on;
    further = sound.further;
    placed = λ t x p e.
        let r = sound.placed t x p e in
        let on = sound.slots_on t x (λ q. let f = ap named q in cc (f, e)) in
        record {
          at = r.at;
          within = subst (λ y. r.at < y) (sym (agrees.places t on)) r.within;
          is = ap (λ k. g'.place k t r.at) (agrees.key p)
              ∙ (agrees.place (g.key p) t r.at on ∙ r.is);
        };
  }

  -- a table has a word for each chunk of another, both of the chain
  pub covers_carries : (t n : ℕ) → IsOn s.first s.next t → IsOn s.first s.next n → Covers g t n → Covers g' t n
  covers_carries t n on on-n covers x lt =
      subst (λ y. y < g'.chunks n) (sym (agrees.chunk_of x))
      (subst (λ y. g.chunk_of x < y) (sym (agrees.chunks n on-n)) (covers x (subst (λ y. x < y) (agrees.size t on) lt)))

  -- a key has one view of a slot
  one_slot : (k : K) (t i j : ℕ) → g'.place k t i ≡ g'.place k t j → look g s k t i ≡ look g s k t j
  one_slot k t i j e = sym (look_at k t i) ∙ (ap (λ x. view g' k (s.slot t x)) e ∙ look_at k t j)

  -- without blocking
  incremental_carries : (m : K → Option P) → IsIncrementalState g s m → IsIncrementalState g' s m
  incremental_carries m holds = record {
    sound = sound_carries;
    settled = λ t x on lt h. holds.settled t x on lt (subst (λ y. x < y) (agrees.size t on) h);
    done = λ t x on lt h. holds.done t x on (subst (λ y. s.done (s.next t) y ≡ true) (agrees.chunk_of x) lt) (subst (λ y. x < y) (agrees.size t on) h);
    covered = λ t h.
        let on = sound.linked t h in
        covers_carries t (s.next t) on (next_on s.next sound.rises s.first t on h) (holds.covered t h);
    class = λ k.
        subst (λ W. IsIncrementalClass (IsOn s.first s.next) g'.places (g'.place k) W (m k)) (sym (look_agrees k))
        (incremental_class_agrees (IsOn s.first s.next) g.places g'.places (look g s k) agrees.places (g.place k) (g'.place k) (agrees.place k)
        (one_slot k) (m k) (holds.class k));
  }

  -- with blocking
  blocking_carries : (m : K → Option P) → IsBlockingState g s m → IsBlockingState g' s m
  blocking_carries m holds = record {
    sound = sound_carries;
    alive = holds.alive;
    frozen = λ t x was lt h. holds.frozen t x was lt (subst (λ y. x < y) (agrees.size t (holds.was t was).0) h);
    fresh = holds.fresh;
    copied = holds.copied;
    given_up = λ t a lt.
        let v = holds.given_up t a lt in
        record {
          on = v.on;
          between = v.between;
          slot = v.slot;
          pair = v.pair;
          marked = v.marked;
          full = full_carries (look g s (g.key v.pair))
              (look g' s (g'.key v.pair)) (look_pair v.pair) t v.on v.full;
        };
    done_to = λ t c lt some.
        let v = holds.done_to t c lt some in
        let on = holds.done_on t c some in
        record {
          between = v.between;
          settled = λ x h i.
              settled_carries t on (s.slot s.root x) (v.settled x (subst (λ y. s.done t y ≡ true) (agrees.chunk_of x) h)
              (subst (λ y. x < y) (agrees.size s.root (root_on t on)) i));
        };
    linked_by = holds.linked_by;
    covered = λ t n was target.
        let on = (sound.was t was).0 in
        let old : IsTarget g s t n = record {
          links = target.links;
          is = target.is;
          made = target.made;
          over = target.over;
          mode =
              ⊎_elim (λ e. inl e) (λ b. inr (sym agrees.blocking ∙ b)) target.mode;
        } in
        covers_carries t n on (target_aborted g s sound t n on old).0 (holds.covered t n was old);
    class = λ k.
        subst (λ W. IsBlockingClass (IsOn s.first s.next) s.was_root s.aborted s.root g'.places (g'.place k) W (m k)) (sym (look_agrees k))
        (blocking_class_agrees (IsOn s.first s.next) g.places g'.places (look g s k) agrees.places (g.place k) (g'.place k) (agrees.place k)
        (one_slot k) s.was_root s.aborted s.root (m k) (holds.class k));
  }
    where
      root_on : (t : ℕ) → IsOn s.first s.next t → IsOn s.first s.next s.root
      root_on t on = ⊎_elim (λ r. absurd (no_root g s sound r.0 t on)) (λ h. h) sound.root

-- The law of tables that come later: the invariant does not depend on them.
pub keeping_carries : {K P : Type 0} (g g' : Setting K P) (s : State P) (m : K → Option P) → Agrees (IsOn s.first s.next) g g' → IsKeeping g s m
    → IsKeeping g' s m
keeping_carries g g' s m agrees (inl h) = inl (agrees.blocking ∙ h.0, incremental_carries g g' s h.1.sound agrees m h.1)
keeping_carries g g' s m agrees (inr h) = inr (agrees.blocking ∙ h.0, blocking_carries g g' s h.1.sound agrees m h.1)
