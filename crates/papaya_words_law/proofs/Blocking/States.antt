-- The facts about all words and all keys that every allowed exchange preserves with blocking.
use Rattle.std.proofs.Common.{◌≡◌, ◌⊎◌, ⊎_elim, ℕ, ◌<◌, ◌≤◌, true, false, Option, Some, refl, sym, ap, ◌∙◌, subst, arith}
use Rattle.std.proofs.lemmas.Bool.{cases_lt, cases_Bool, cond-true, cond-false}
use Rattle.papaya_words_law.specs.Exchange.{Word, Empty, Closed, Live, Marked, Copied, Buried, Setting, State, slot_put, walk}
use Rattle.papaya_words_law.specs.View.{View, Free, Foreign, Here, view, look, own, foreign, IsFull, HasWord, IsReached}
use Rattle.papaya_words_law.specs.Copying.{IsTaker, IsTarget, IsSettled}
use Rattle.papaya_words_law.specs.Class.{IsOn}
use Rattle.papaya_words_law.specs.ClassBlocking.{AllAborted, IsBlockingClass}
use Rattle.papaya_words_law.specs.Invariant.{named, shut, IsPlaceOf, IsSound, plain, IsBlockingState}
use Rattle.papaya_words_law.proofs.Class.{IsTurn}
use Rattle.papaya_words_law.proofs.Chain.{walk_between}
use Rattle.papaya_words_law.proofs.Slots.{slot_cases}
use Rattle.papaya_words_law.proofs.Base.{slot_sound, turn_own}

-- the view of key k changes so: another key's word stays another's, and its own word stays its own
pub record IsMild {K P : Type 0} (g : Setting K P) (s : State P) (t x : ℕ) (w' : Word P) (k : K) : Type 0 where
  pub a : View P
  pub b : View P
  pub turn : IsTurn (g.place k) (look g s k) (look g (slot_put s t x w') k) t x a b
  pub foreign_on : foreign a ≡ true → foreign b ≡ true
  pub own_on : own a ≡ true → own b ≡ true

module _ {K P : Type 0} (g : Setting K P) (s : State P) where
  -- an Empty slot is filled or closed
  pub mild_empty : (t x : ℕ) (w' : Word P) (k : K) → s.slot t x ≡ Empty → IsMild g s t x w' k
  mild_empty t x w' k old = record {
    a = Free;
    b = view g k w';
    turn = turn_own g s k t x Empty w' Free (view g k w') old refl refl;
    foreign_on = λ e.
        absurd cc;
    own_on = λ e. absurd cc;
  }

  -- a Live word is replaced
  pub mild_live : (t x : ℕ) (p : P) (w' : Word P) (k : K) → s.slot t x ≡ Live p → (g.same k (g.key p) ≡ true → own (view g k w') ≡ true)
      → (g.same k (g.key p) ≡ false → view g k w' ≡ Foreign) → IsMild g s t x w' k
  mild_live t x p w' k old mine other =
      ⊎_elim
      (λ e. record {
        a = Here p;
        b = view g k w';
        turn = turn_own g s k t x (Live p) w' (Here p) (view g k w') old (cond-true (g.same k (g.key p)) (Here p) Foreign e) refl;
        foreign_on = λ h. absurd cc;
        own_on = λ h. mine e;
      })
      (λ e. record {
        a = Foreign;
        b = Foreign;
        turn = turn_own g s k t x (Live p) w' Foreign Foreign old (cond-false (g.same k (g.key p)) (Here p) Foreign e) (other e);
        foreign_on = λ h. refl;
        own_on = λ h. absurd cc;
      })
      (cases_Bool (g.same k (g.key p)))

  -- a full table stays full
  mild_full : (t x : ℕ) (w' : Word P) (k : K) → IsMild g s t x w' k → (u : ℕ) → IsFull g.places (look g s k) u
      → IsFull g.places (look g (slot_put s t x w') k) u
  mild_full t x w' k mild u full j lt = ⊎_elim (λ r. ap foreign r.0 ∙ full j lt)
      (λ r. ap foreign r.3 ∙ mild.foreign_on (ap foreign (sym r.2) ∙ full j lt)) (mild.turn.each u j)

  -- a word of the key stays one
  mild_has : (t x : ℕ) (w' : Word P) (k : K) → IsMild g s t x w' k → (u : ℕ) → HasWord g.places (look g s k) u
      → HasWord g.places (look g (slot_put s t x w') k) u
  mild_has t x w' k mild u has = (
    has.0,
    has.1,
    ⊎_elim (λ r. ap own r.0 ∙ has.2) (λ r. ap own r.3 ∙ mild.own_on (ap own (sym r.2) ∙ has.2)) (mild.turn.each u has.0),
  )

  -- a settled word stays settled
  settled_on : (t x : ℕ) (w' : Word P) → ((k : K) → IsMild g s t x w' k) → (u : ℕ) (w : Word P) → IsSettled g s u w → IsSettled g (slot_put s t x w') u w
  settled_on t x w' mild u Empty h = h
  settled_on t x w' mild u Closed h = h
  settled_on t x w' mild u (Live p) h = h
  settled_on t x w' mild u (Marked p) h = (h.0, mild_has t x w' (g.key p) (mild (g.key p)) u h.1)
  settled_on t x w' mild u (Copied p) h = h
  settled_on t x w' mild u (Buried p) h = h

  -- a settled word is neither Empty nor Live
  pub settled_not_plain : (u : ℕ) (w : Word P) → IsSettled g s u w → plain w ≡ false
  settled_not_plain u Empty h = absurd h
  settled_not_plain u Closed h = refl
  settled_not_plain u (Live p) h = absurd h
  settled_not_plain u (Marked p) h = refl
  settled_not_plain u (Copied p) h = refl
  settled_not_plain u (Buried p) h = refl

  module _ (m : K → Option P) (holds : IsBlockingState g s m) where
    -- if a word is Empty or Live in a table that was the root, that table is the root
    pub is_root : (t x : ℕ) (w : Word P) → s.was_root t ≡ true → s.slot t x ≡ w → plain w ≡ true → x < g.size t → t ≡ s.root
    is_root t x w was old p lt =
        ⊎_elim
        (λ (c : t < s.root). absurd (let f = holds.frozen t x was c lt in let e = ap plain old in cc (e, f, p)))
        (λ (c : s.root ≤ t). let l = (holds.was t was).1 in omega arith)
        (cases_lt t s.root)

    -- if a word is neither Empty nor Live, its table was the root
    pub was_root_of : (t x : ℕ) (w : Word P) → s.slot t x ≡ w → plain w ≡ false → s.was_root t ≡ true
    was_root_of t x w old p = ⊎_elim (λ e. e) (λ e. absurd (let f = holds.fresh t x e in let q = ap plain old in cc (f, q, p))) (cases_Bool (s.was_root t))

    -- the root is on the chain
    pub root_on : (t : ℕ) → IsOn s.first s.next t → t ≤ s.root → IsOn s.first s.next s.root
    root_on t on le = ⊎_elim (λ r. absurd (omega (arith, r.0, on.0))) (λ h. h) holds.root

    -- the root isn't aborted
    pub root_alive : (t : ℕ) → IsOn s.first s.next t → t ≤ s.root → s.aborted s.root ≡ false
    root_alive t on le = holds.alive s.root (holds.root_was (let p = on.0 in omega arith))

    -- a slot's word changes, and each class keeps its invariant
    pub slot_blocking : (t x : ℕ) (w w' : Word P) → s.slot t x ≡ w → plain w ≡ true → (plain w' ≡ true) ⊎ (s.was_root t ≡ true)
        → ((p : P) → w' ≡ Copied p → ⊥) → IsOn s.first s.next t
        → ((p : P) → named w' ≡ Some p → IsPlaceOf g t x p) → (shut w' ≡ true → 0 < s.next t) → ((k : K) → IsMild g s t x w' k) → (m' : K → Option P)
        → ((k : K) → IsBlockingClass (IsOn s.first s.next) s.was_root s.aborted s.root g.places (g.place k) (look g (slot_put s t x w') k) (m' k))
        → IsBlockingState g (slot_put s t x w') m'
    slot_blocking t x w w' old p new never on place next mild m' class = record {
      sound = slot_sound g s holds.sound t x w' on place next;
      alive = holds.alive;
      frozen = λ u y was lt h. let f = holds.frozen u y was lt h in ap plain (same u y f) ∙ f;
      fresh = λ u y no'. ⊎_elim
          (λ r. ap plain r.0 ∙ holds.fresh u y no')
          (λ r. ⊎_elim (λ q. ap plain r.2 ∙ q) (λ q. absurd (let e = ap s.was_root r.0 in cc (e, q, no'))) new)
          (slot_cases s t x w' u y);
      copied = λ u y q e. ⊎_elim (λ r. holds.copied u y q (sym r.0 ∙ e)) (λ r. never q (sym r.2 ∙ e)) (slot_cases s t x w' u y);
      given_up = λ u ab lt.
          let v = holds.given_up u ab lt in
          record {
            on = v.on;
            between = v.between;
            slot = v.slot;
            pair = v.pair;
            marked = same s.root v.slot (ap plain v.marked)
                ∙ v.marked;
            full = mild_full t x w' (g.key v.pair) (mild (g.key v.pair)) u v.full;
          };
      done_to = λ u c lt some.
          let v = holds.done_to u c lt some in
          record {
            between = v.between;
            settled = λ y h i.
                let q : IsSettled g s u (s.slot s.root y) = v.settled y h i in
                subst (IsSettled g (slot_put s t x w') u) (sym (same s.root y (settled_not_plain u (s.slot s.root y) q)))
                (settled_on t x w' mild u (s.slot s.root y) q);
          };
      linked_by = holds.linked_by;
      covered = λ u n was target. holds.covered u n was
          (record { links = target.links; is = target.is; made = target.made; mode = target.mode; over = target.over });
      class = class;
    }
      where
        same : (u y : ℕ) → plain (s.slot u y) ≡ false → (slot_put s t x w').slot u y ≡ s.slot u y
        same u y f = ⊎_elim (λ r. r.0) (λ r. absurd (let e : s.slot u y ≡ w = cc (r.0, r.1, old) in let e' = ap plain e in cc (e', f, p)))
            (slot_cases s t x w' u y)

  -- with blocking a table that is reached was the root
  pub reached_was : g.blocking ≡ true → (k : K) (t : ℕ) → IsReached g s k t → s.was_root t ≡ true
  reached_was blocks k t r =
      ⊎_elim
      (λ (e : r.links ≡ 0). subst (λ y. s.was_root y ≡ true) (ap (λ y. walk s.next y r.from) (sym e) ∙ r.is) r.was)
      (λ b. absurd (cc (b, blocks)))
      r.mode

  module _ (sound : IsSound g s) where
    -- the table for a copy of a pair, with aborted tables before it
    pub taker_aborted : g.blocking ≡ true → (k : K) (t n : ℕ) → IsOn s.first s.next t → IsTaker g s k t n → IsOn s.first s.next n × (t < n)
        × AllAborted (IsOn s.first s.next) s.aborted t n
    taker_aborted blocks k t n on r =
        walk_between s.next sound.rises (λ l. s.aborted l ≡ true) s.first t r.links n on r.is r.made
        (λ i lt. ⊎_elim (λ h. h.1) (λ h. absurd (let b = h.0 in cc (b, blocks))) (r.over i lt))

    -- the target of a root's copy, with aborted tables before it
    pub target_aborted : (t n : ℕ) → IsOn s.first s.next t → IsTarget g s t n → IsOn s.first s.next n × (t < n) × AllAborted (IsOn s.first s.next) s.aborted t n
    target_aborted t n on r = walk_between s.next sound.rises (λ l. s.aborted l ≡ true) s.first t r.links n on r.is r.made r.over
