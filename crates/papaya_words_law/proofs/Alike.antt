-- Two settings that treat pairs in the same way allow the same exchanges, whatever types their keys
-- have: an exchange depends only on which pairs have equal keys, and on where their places are.
use Rattle.std.proofs.Common.{MatchOption, true, ◌≡◌, inl, inr, ⊎_elim, ℕ, suc, ◌<◌, Bool, cond, List, [], ◌∷◌, refl, sym, ap, ◌∙◌, subst}
use Rattle.papaya_words_law.specs.Exchange.{Word, Empty, Closed, Live, Marked, Copied, Buried, Setting}
use Rattle.papaya_words_law.specs.Exchange.{State, Exchange, Open, Claim, Replace, Bury, Link, Mark}
use Rattle.papaya_words_law.specs.Exchange.{Close, Place, Finish, Advance, Promote, Abort, Take, after}
use Rattle.papaya_words_law.specs.Exchange.{walk}
use Rattle.papaya_words_law.specs.View.{View, Foreign, Here, Leaving, Gone, Grave, beyond, foreign, view, look, IsPassed, IsFull, HasWord, IsNextPlace, IsReached}
use Rattle.papaya_words_law.specs.Copying.{IsSettled, IsTaker, IsTarget, IsCopied}
use Rattle.papaya_words_law.specs.Allows.{Allows, AllAllowed}
use mathlib.Core.Path.{fun_ext}

-- g' agrees with g on modes, tables and the keys of pairs
pub record AreAlike {K K' P : Type 0} (g : Setting K P) (g' : Setting K' P) : Type 0 where
  pub blocking : g'.blocking ≡ g.blocking
  pub size : (t : ℕ) → g'.size t ≡ g.size t
  pub chunk_of : (x : ℕ) → g'.chunk_of x ≡ g.chunk_of x
  pub most : g'.most ≡ g.most
  pub chunks : (t : ℕ) → g'.chunks t ≡ g.chunks t
  pub places : (t : ℕ) → g'.places t ≡ g.places t
  pub place : (p : P) (t j : ℕ) → g'.place (g'.key p) t j ≡ g.place (g.key p) t j
  pub same : (p q : P) → g'.same (g'.key p) (g'.key q) ≡ g.same (g.key p) (g.key q)
  pub kept : (p q : P) → g.key q ≡ g.key p → g'.key q ≡ g'.key p
  pub kept_back : (p q : P) → g'.key q ≡ g'.key p → g.key q ≡ g.key p

-- so does g of g'
pub alike_back : {K K' P : Type 0} (g : Setting K P) (g' : Setting K' P) → AreAlike g g' → AreAlike g' g
alike_back g g' alike = record {
  blocking = sym alike.blocking;
  size = λ t. sym (alike.size t);
  most = sym alike.most;
  chunk_of = λ x. sym (alike.chunk_of x);
  chunks = λ t. sym (alike.chunks t);
  places = λ t. sym (alike.places t);
  place = λ p t j. sym (alike.place p t j);
  same = λ p q. sym (alike.same p q);
  kept = alike.kept_back;
  kept_back = alike.kept;
}

module _ {K K' P : Type 0} (g : Setting K P) (g' : Setting K' P) (alike : AreAlike g g') where
  -- a pair's key has the same view of a word
  view_alike : (p : P) (w : Word P) → view g' (g'.key p) w ≡ view g (g.key p) w
  view_alike p Empty = refl
  view_alike p Closed = refl
  view_alike p (Live q) = ap (λ b. cond b (Here q) Foreign) (alike.same p q)
  view_alike p (Marked q) = ap (λ b. cond b (Leaving q) Foreign) (alike.same p q)
  view_alike p (Copied q) = ap (λ b. cond b (Gone q) Foreign) (alike.same p q)
  view_alike p (Buried q) = ap (λ b. cond b (Grave q) Foreign) (alike.same p q)

  module _ (s : State P) where
    -- a pair's key has the same view at each place
    look_at_alike : (p : P) (t j : ℕ) → look g' s (g'.key p) t j ≡ look g s (g.key p) t j
    look_at_alike p t j = view_alike p (s.slot t (g'.place (g'.key p) t j)) ∙ ap (λ x. view g (g.key p) (s.slot t x)) (alike.place p t j)

    -- the same for all places
    look_alike : (p : P) → look g' s (g'.key p) ≡ look g s (g.key p)
    look_alike p = fun_ext (λ t. fun_ext (λ j. look_at_alike p t j))

    -- a fact about the places of a table and the views of a pair's key there
    said_alike : (p : P) (Says : (ℕ → ℕ) → (ℕ → ℕ → View P) → Type 0) → Says g.places (look g s (g.key p)) → Says g'.places (look g' s (g'.key p))
    said_alike p Says h = subst (λ n. Says n (look g' s (g'.key p))) (sym (fun_ext alike.places)) (subst (Says g.places) (sym (look_alike p)) h)

    -- a search reaches the same tables
    reached_alike : (p : P) (t : ℕ) → IsReached g s (g.key p) t → IsReached g' s (g'.key p) t
    reached_alike p t r = record {
      from = r.from;
      links = r.links;
      was = r.was;
      is = r.is;
      made = r.made;
      mode = ⊎_elim (λ e. inl e) (λ b. inr (alike.blocking ∙ b)) r.mode;
      passed = λ i lt. said_alike p (λ n V. IsPassed n V (walk s.next i r.from)) (r.passed i lt);
    }

    -- copies are put into the same tables
    taker_alike : (p : P) (t n : ℕ) → IsTaker g s (g.key p) t n → IsTaker g' s (g'.key p) t n
    taker_alike p t n r = record {
      links = r.links;
      is = r.is;
      made = r.made;
      over = λ i lt. ⊎_elim
          (λ h. inl (alike.blocking ∙ h.0, h.1))
          (λ h. inr (alike.blocking ∙ h.0, said_alike p (λ n V. IsFull n V (walk s.next (suc i) t)) h.1))
          (r.over i lt);
    }

    -- the target of a table's copy
    target_alike : (t n : ℕ) → IsTarget g s t n → IsTarget g' s t n
    target_alike t n r = record { links = r.links; is = r.is; made = r.made; over = r.over; mode = ⊎_elim (λ e. inl e) (λ b. inr (alike.blocking ∙ b)) r.mode }

    -- the first place that is left
    next_place_alike : (p : P) (test : View P → Bool) (t x : ℕ) → IsNextPlace g s (g.key p) test t x → IsNextPlace g' s (g'.key p) test t x
    next_place_alike p test t x r = record {
      at = r.at;
      within = subst (λ y. r.at < y) (sym (alike.places t)) r.within;
      is = alike.place p t r.at ∙ r.is;
      before = λ i lt. ap test (look_at_alike p t i) ∙ r.before i lt;
    }

    -- a pair that is to be copied
    copied_alike : (n : ℕ) (p : P) → IsCopied g s n p → IsCopied g' s n p
    copied_alike n p c = record { from = c.from; slot = c.slot; stood = c.stood; taker = taker_alike p c.from n c.taker }

    -- a word that is settled in one setting is settled in the other
    settled_alike : (n : ℕ) (w : Word P) → IsSettled g s n w → IsSettled g' s n w
    settled_alike n Empty h = h
    settled_alike n Closed h = h
    settled_alike n (Live p) h = h
    settled_alike n (Marked p) h = (alike.blocking ∙ h.0, said_alike p (λ k V. HasWord k V n) h.1)
    settled_alike n (Copied p) h = h
    settled_alike n (Buried p) h = h

    -- an exchange that is allowed under the one is allowed under the other
    pub allows_alike : (e : Exchange P) → Allows g s e → Allows g' s e
    allows_alike (Open t) may = may
    allows_alike (Claim t x p) may = record { empty = may.empty; reached = reached_alike p t may.reached; place = next_place_alike p beyond t x may.place }
    allows_alike (Replace t x p q) may = record {
      live = may.live;
      reached = reached_alike p t may.reached;
      same = alike.same p q
          ∙ may.same;
      kept = alike.kept p q may.kept;
    }
    allows_alike (Bury t x p) may = record { live = may.live; reached = reached_alike p t may.reached }
    allows_alike (Link t n) may = record {
      last = may.last;
      on = may.on;
      rises = may.rises;
      from = may.from;
      linking = ⊎_elim
          (λ h. inl (h.0, λ b. h.1 (sym alike.blocking ∙ b)))
          (λ h. inr (alike.blocking ∙ h.0, h.1, target_alike may.from t h.2, h.3))
          may.linking;
      covers = λ x lt. subst (λ y. y < g'.chunks n) (sym (alike.chunk_of x))
          (subst (λ y. g.chunk_of x < y) (sym (alike.chunks n)) (may.covers x (subst (λ y. x < y) (alike.size may.from) lt)));
    }
    allows_alike (Mark t x p) may = record { live = may.live; was = may.was; further = may.further }
    allows_alike (Close t x) may = record { empty = may.empty; was = may.was; further = may.further }
    allows_alike (Place n x p) may = record { empty = may.empty; source = copied_alike n p may.source; place = next_place_alike p foreign n x may.place }
    allows_alike (Finish t x p) may = record {
      marked = may.marked;
      mode = alike.blocking ∙ may.mode;
      to = may.to;
      taker = taker_alike p t may.to may.taker;
      has = said_alike p (λ k V. HasWord k V may.to) may.has;
    }
    allows_alike (Advance n c) may = record {
      done = may.done;
      from = may.from;
      target = target_alike may.from n may.target;
      slot = may.slot;
      within = subst (λ y. may.slot < y) (sym (alike.size may.from)) may.within;
      in_chunk = alike.chunk_of may.slot ∙ may.in_chunk;
      settled = λ x lo hi. settled_alike n (s.slot may.from x) (may.settled x (subst (λ y. x < y) (alike.size may.from) lo) (sym (alike.chunk_of x) ∙ hi));
    }
    allows_alike (Promote t n) may = record {
      root = may.root;
      made = may.made;
      target = target_alike t n may.target;
      whole = λ x lt.
          subst (λ y. s.done n y ≡ true) (sym (alike.chunk_of x)) (may.whole x (subst (λ y. x < y) (alike.size t) lt));
    }
    allows_alike (Abort n) may = record {
      before = may.before;
      mode = alike.blocking ∙ may.mode;
      pair = may.pair;
      source = copied_alike n may.pair may.source;
      full = said_alike may.pair (λ k V. IsFull k V n) may.full;
    }
    allows_alike (Take m) may = (may.0, subst (λ o. MatchOption o (Unit {0}) (λ n. m < n)) (sym alike.most) may.1)

  -- so is a list
  pub all_alike : (es : List (Exchange P)) (s : State P) → AllAllowed g s es → AllAllowed g' s es
  all_alike [] s may = tt
  all_alike (e ∷ es) s may = (allows_alike s e may.0, all_alike es (after s e) may.1)
