-- The facts that a caller has loaded, and the exchanges and lists of them that are allowed, are the
-- same under each setting that agrees with this one on the tables of the chain.
use Rattle.std.proofs.Common.{MatchOption, ◌≡◌, inl, inr, ⊎_elim, ℕ, suc, ◌<◌, ◌≤◌, ◌==◌, Bool}
use Rattle.std.proofs.Common.{true, cond, Option, None, Some, List, [], ◌∷◌, refl, sym, ap, ◌∙◌}
use Rattle.std.proofs.Common.{subst, arith, eqb-true, eq-eqb}
use Rattle.std.proofs.lemmas.Bool.{cond-true}
use Rattle.papaya_words_law.specs.Exchange.{Word, Empty, Closed, Live, Buried, Marked, Copied, Setting}
use Rattle.papaya_words_law.specs.Exchange.{Exchange, Open, Claim, Replace, Bury, Link, Mark, Close}
use Rattle.papaya_words_law.specs.Exchange.{Place, Finish, Advance, Promote, Abort, Take, State, after}
use Rattle.papaya_words_law.specs.Exchange.{at_put, run, walk}
use Rattle.papaya_words_law.specs.View.{View, beyond, foreign, look, IsNextPlace, IsReached}
use Rattle.papaya_words_law.specs.Copying.{IsSettled, IsTaker, IsTarget, IsCopied, IsLinking}
use Rattle.papaya_words_law.specs.Allows.{Allows, AllAllowed}
use Rattle.papaya_words_law.specs.Meaning.{IsLawful, map_after, map_of}
use Rattle.papaya_words_law.specs.Class.{IsOn}
use Rattle.papaya_words_law.specs.Invariant.{IsSound, IsKeeping}
use Rattle.papaya_words_law.specs.Later.{Becomes, IsLater}
use Rattle.papaya_words_law.specs.Grows.{Agrees, brings}
use Rattle.papaya_words_law.proofs.Chain.{link_rises, next_on, pos_before, walk_on}
use Rattle.papaya_words_law.proofs.Base.{filled_on, link_more, linking_on, no_root}
use Rattle.papaya_words_law.proofs.Carries.{look_agrees, look_pair, passed_carries, full_carries, has_carries, settled_carries}
use Rattle.papaya_words_law.proofs.OneMap.{keeping_sound, step_keeps}
use mathlib.Core.Path.{fun_ext}

module _ {K P : Type 0} (g g' : Setting K P) (s : State P) (sound : IsSound g s) (agrees : Agrees (IsOn s.first s.next) g g') where
  -- each table on the way along links from a table of the chain is on the chain
  on_way : (from links n i : ℕ) → IsOn s.first s.next from → walk s.next links from ≡ n → 0 < n → i ≤ links → IsOn s.first s.next (walk s.next i from)
  on_way from links n i on is made le = walk_on s.next sound.rises s.first from i on
      (pos_before s.next sound.rises i links from le (subst (λ y. 0 < y) (sym is) made))

  -- a search reaches the same tables
  pub reached_carries : (k : K) (t : ℕ) → IsReached g s k t → IsReached g' s k t
  reached_carries k t r = record {
    from = r.from;
    links = r.links;
    was = r.was;
    is = r.is;
    made = r.made;
    mode = ⊎_elim (λ e. inl e) (λ b. inr (agrees.blocking ∙ b)) r.mode;
    passed = λ i lt. passed_carries g g' s sound agrees (look g s k) (look g' s k) (look_agrees g g' s sound agrees k) (walk s.next i r.from)
        (on_way r.from r.links t i (sound.was r.from r.was).0 r.is r.made (omega arith)) (r.passed i lt);
  }

  -- the same by a pair's key
  reached_pair : (p : P) (t : ℕ) → IsReached g s (g.key p) t → IsReached g' s (g'.key p) t
  reached_pair p t r = subst (λ k. IsReached g' s k t) (sym (agrees.key p)) (reached_carries (g.key p) t r)

  -- the table for a copy
  pub taker_carries : (p : P) (t n : ℕ) → IsOn s.first s.next t → IsTaker g s (g.key p) t n → IsTaker g' s (g'.key p) t n
  taker_carries p t n on r = record {
    links = r.links;
    is = r.is;
    made = r.made;
    over = λ i lt. ⊎_elim
        (λ h. inl (agrees.blocking ∙ h.0, h.1))
        (λ h. inr (
          agrees.blocking ∙ h.0,
          full_carries g g' s sound agrees (look g s (g.key p)) (look g' s (g'.key p))
              (look_pair g g' s sound agrees p) (walk s.next (suc i) t) (on_way t (suc r.links) n (suc i) on r.is r.made (omega arith)) h.1,
        ))
        (r.over i lt);
  }

  -- the target of a table's copy
  pub target_carries : (t n : ℕ) → IsTarget g s t n → IsTarget g' s t n
  target_carries t n r = record { links = r.links; is = r.is; made = r.made; over = r.over; mode = ⊎_elim (λ e. inl e) (λ b. inr (agrees.blocking ∙ b)) r.mode }

  -- the first place that is left
  pub next_place_carries : (p : P) (test : View P → Bool) (t x : ℕ) → IsOn s.first s.next t → IsNextPlace g s (g.key p) test t x
      → IsNextPlace g' s (g'.key p) test t x
  next_place_carries p test t x on r = record {
    at = r.at;
    within = subst (λ y. r.at < y) (sym (agrees.places t on)) r.within;
    is = ap (λ k. g'.place k t r.at) (agrees.key p) ∙ (agrees.place (g.key p) t r.at on ∙ r.is);
    before = λ i lt. ap (λ V. test (V t i)) (look_pair g g' s sound agrees p) ∙ r.before i lt;
  }

  -- the table that a copy leaves is on the chain
  source_on : (n : ℕ) (p : P) → (c : IsCopied g s n p) → IsOn s.first s.next c.from
  source_on n p c = ⊎_elim (λ e. filled_on g s sound c.from c.slot p (Marked p) e refl) (λ e. filled_on g s sound c.from c.slot p (Copied p) e refl) c.stood

  -- a pair that is to be copied
  pub copied_carries : (n : ℕ) (p : P) → IsCopied g s n p → IsCopied g' s n p
  copied_carries n p c = record { from = c.from; slot = c.slot; stood = c.stood; taker = taker_carries p c.from n (source_on n p c) c.taker }

  -- the table after some links from a table of the chain is on the chain
  end_on : (from links n : ℕ) → IsOn s.first s.next from → walk s.next links from ≡ n → 0 < n → IsOn s.first s.next n
  end_on from links n on is made = subst (IsOn s.first s.next) is (on_way from links n links on is made (omega arith))

  -- a table that takes a pair is on the chain
  taker_on : (k : K) (t n : ℕ) → IsOn s.first s.next t → IsTaker g s k t n → IsOn s.first s.next n
  taker_on k t n on r = end_on t (suc r.links) n on r.is r.made

  -- a table that is copied to the next table
  pub linking_carries : (from t : ℕ) → IsLinking g s from t → IsLinking g' s from t
  linking_carries from t (inl h) = inl (h.0, λ b. h.1 (sym agrees.blocking ∙ b))
  linking_carries from t (inr h) = inr (agrees.blocking ∙ h.0, h.1, target_carries from t h.2, h.3)

  -- an exchange that is allowed under the one is allowed under the other, if both give the table
  -- that it links as many words for chunks
  pub allows_carries : (e : Exchange P) → ((n : ℕ) → brings e n ≡ true → g'.chunks n ≡ g.chunks n) → Allows g s e → Allows g' s e
  allows_carries (Open t) chunks may = may
  allows_carries (Claim t x p) chunks may =
      let r = may.reached in
      record {
        empty = may.empty;
        reached = reached_pair p t r;
        place = next_place_carries p beyond t x
            (end_on r.from r.links t (sound.was r.from r.was).0 r.is r.made) may.place;
      }
  allows_carries (Replace t x p q) chunks may = record {
    live = may.live;
    reached = reached_pair p t may.reached;
    same = agrees.same (g'.key p) (g'.key q) ∙ (ap (λ k. g.same k (g'.key q)) (agrees.key p) ∙ (ap (g.same (g.key p)) (agrees.key q) ∙ may.same));
    kept = agrees.key q ∙ may.kept ∙ sym (agrees.key p);
  }
  allows_carries (Bury t x p) chunks may = record { live = may.live; reached = reached_pair p t may.reached }
  allows_carries (Link t n) chunks may =
      let on = linking_on g s sound may.from t may.on may.linking in
      record {
        last = may.last;
        on = may.on;
        rises = may.rises;
        from = may.from;
        linking = linking_carries may.from t may.linking;
        covers = λ x lt.
            subst (λ y. y < g'.chunks n) (sym (agrees.chunk_of x))
            (subst (λ y. g.chunk_of x < y) (sym (chunks n (eq-eqb n n refl))) (may.covers x (subst (λ y. x < y) (agrees.size may.from on) lt)));
      }
  allows_carries (Mark t x p) chunks may = record { live = may.live; was = may.was; further = may.further }
  allows_carries (Close t x) chunks may = record { empty = may.empty; was = may.was; further = may.further }
  allows_carries (Place n x p) chunks may =
      let c = may.source in
      record {
        empty = may.empty;
        source = copied_carries n p c;
        place = next_place_carries p foreign n x
            (taker_on (g.key p) c.from n (source_on n p c) c.taker) may.place;
      }
  allows_carries (Finish t x p) chunks may =
      let on = filled_on g s sound t x p (Marked p) may.marked refl in
      record {
        marked = may.marked;
        mode = agrees.blocking ∙ may.mode;
        to = may.to;
        taker = taker_carries p t may.to on may.taker;
        has = has_carries g g' s sound agrees (look g s (g.key p)) (look g' s (g'.key p)) (look_pair g g' s sound agrees p) may.to
            (taker_on (g.key p) t may.to on may.taker) may.has;
      }
  allows_carries (Advance n c) chunks may =
      let r = may.target in
      let on = sound.slots_on may.from may.slot (λ e. subst (IsSettled g s n) e (may.settled may.slot may.within may.in_chunk)) in
      record {
        done = may.done;
        from = may.from;
        target = target_carries may.from n r;
        slot = may.slot;
        within = subst (λ y. may.slot < y) (sym (agrees.size may.from on)) may.within;
        in_chunk = agrees.chunk_of may.slot ∙ may.in_chunk;
        settled = λ x lo hi. settled_carries g g' s sound agrees n (end_on may.from (suc r.links) n on r.is r.made) (s.slot may.from x)
            (may.settled x (subst (λ y. x < y) (agrees.size may.from on) lo) (sym (agrees.chunk_of x) ∙ hi));
      }
  allows_carries (Promote t n) chunks may =
      let on = ⊎_elim (λ h. absurd (let e = may.root in let some = may.made in omega (arith, h.0))) (λ h. subst (IsOn s.first s.next) may.root h) sound.root in
      record {
        root = may.root;
        made = may.made;
        target = target_carries t n may.target;
        whole = λ x lt.
            subst (λ y. s.done n y ≡ true) (sym (agrees.chunk_of x)) (may.whole x (subst (λ y. x < y) (agrees.size t on) lt));
      }
  allows_carries (Abort n) chunks may =
      let c = may.source in
      record {
        before = may.before;
        mode = agrees.blocking ∙ may.mode;
        pair = may.pair;
        source = copied_carries n may.pair c;
        full = full_carries g g' s sound agrees (look g s (g.key may.pair)) (look g' s (g'.key may.pair)) (look_pair g g' s sound agrees may.pair) n
            (taker_on (g.key may.pair) c.from n (source_on n may.pair c) c.taker) may.full;
      }
  allows_carries (Take m) chunks may = (may.0, subst (λ o. MatchOption o (Unit {0}) (λ n. m < n)) (sym agrees.most) may.1)

module _ {K P : Type 0} (g g' : Setting K P) (On : ℕ → Type 0) (agrees : Agrees On g g') where
  -- fewer tables
  pub agrees_on_fewer : (On' : ℕ → Type 0) → ((t : ℕ) → On' t → On t) → Agrees On' g g'
  agrees_on_fewer On' on = record {
    blocking = agrees.blocking;
    key = agrees.key;
    same = agrees.same;
    size = λ t h. agrees.size t (on t h);
    chunk_of = agrees.chunk_of;
    most = agrees.most;
    chunks = λ t h. agrees.chunks t (on t h);
    places = λ t h. agrees.places t (on t h);
    place = λ k t j h. agrees.place k t j (on t h);
  }

  -- the relation between the keys of two pairs
  same_pairs : (p q : P) → g.key q ≡ g.key p → g'.key q ≡ g'.key p
  same_pairs p q h = agrees.key q ∙ h ∙ sym (agrees.key p)

  -- a word that a word may become
  pub becomes_carries : (u w : Word P) → Becomes g u w → Becomes g' u w
  becomes_carries Empty w b = b
  becomes_carries Closed w b = b
  becomes_carries (Live p) Empty b = b
  becomes_carries (Live p) Closed b = b
  becomes_carries (Live p) (Live q) b = same_pairs p q b
  becomes_carries (Live p) (Marked q) b = same_pairs p q b
  becomes_carries (Live p) (Copied q) b = same_pairs p q b
  becomes_carries (Live p) (Buried q) b = same_pairs p q b
  becomes_carries (Marked p) w b = b
  becomes_carries (Copied p) w b = b
  becomes_carries (Buried p) w b = b

  -- a later state stays later
  pub later_carries : (s s' : State P) → IsLater g s s' → IsLater g' s s'
  later_carries s s' l = record {
    was = l.was;
    next = l.next;
    aborted = l.aborted;
    done = l.done;
    made = l.made;
    words = λ t x.
        becomes_carries (s.slot t x) (s'.slot t x) (l.words t x);
  }

  -- an exchange does the same to the map
  map_after_at : (m : K → Option P) (e : Exchange P) (k : K) → map_after g' m e k ≡ map_after g m e k
  map_after_at m (Open t) k = refl
  map_after_at m (Claim t x p) k = ap (λ b. cond b (Some p) (m k)) (agrees.same k (g'.key p) ∙ ap (g.same k) (agrees.key p))
  map_after_at m (Replace t x p q) k = ap (λ b. cond b (Some q) (m k)) (agrees.same k (g'.key p) ∙ ap (g.same k) (agrees.key p))
  map_after_at m (Bury t x p) k = ap (λ b. cond b None (m k)) (agrees.same k (g'.key p) ∙ ap (g.same k) (agrees.key p))
  map_after_at m (Link t n) k = refl
  map_after_at m (Mark t x p) k = refl
  map_after_at m (Close t x) k = refl
  map_after_at m (Place n x p) k = refl
  map_after_at m (Finish t x p) k = refl
  map_after_at m (Advance n c) k = refl
  map_after_at m (Promote t n) k = refl
  map_after_at m (Abort n) k = refl
  map_after_at m (Take n) k = refl

  -- so does a list
  pub map_of_carries : (es : List (Exchange P)) (m : K → Option P) → map_of g' m es ≡ map_of g m es
  map_of_carries [] m = refl
  map_of_carries (e ∷ es) m = map_of_carries es (map_after g' m e) ∙ ap (λ f. map_of g f es) (fun_ext (map_after_at m e))

module _ {K P : Type 0} (g : Setting K P) (law : IsLawful g) where
  -- the chain only grows, at one exchange
  on_after : (s : State P) → IsSound g s → (e : Exchange P) → Allows g s e → (t : ℕ) → IsOn s.first s.next t → IsOn (after s e).first (after s e).next t
  on_after s sound (Open u) may t on = absurd (no_root g s sound may.0 t on)
  on_after s sound (Claim u x p) may t on = on
  on_after s sound (Replace u x p q) may t on = on
  on_after s sound (Bury u x p) may t on = on
  on_after s sound (Link u n) may t on = link_more g s sound u n may.last may.on.0 may.rises t on
  on_after s sound (Mark u x p) may t on = on
  on_after s sound (Close u x) may t on = on
  on_after s sound (Place n x p) may t on = on
  on_after s sound (Finish u x p) may t on = on
  on_after s sound (Advance n c) may t on = on
  on_after s sound (Promote u n) may t on = on
  on_after s sound (Abort n) may t on = on
  on_after s sound (Take n) may t on = on

  -- and has the table that the exchange brings
  brought_on : (s : State P) → IsSound g s → (e : Exchange P) → Allows g s e → (t : ℕ) → brings e t ≡ true → IsOn (after s e).first (after s e).next t
  brought_on s sound (Open u) may t b = subst (IsOn u s.next) (eqb-true u t b) (may.1, (0, refl))
  brought_on s sound (Link u n) may t b =
      let here : at_put s.next u n u ≡ n = cond-true (u == u) n (s.next u) (eq-eqb u u refl) in
      let up : 0 < at_put s.next u n u = subst (λ y. 0 < y) (sym here) (omega (arith, may.rises)) in
      subst (IsOn s.first (at_put s.next u n)) (here ∙ eqb-true n t b)
      (next_on (at_put s.next u n) (link_rises s.next sound.rises u n may.last may.on.0 may.rises) s.first u
      (link_more g s sound u n may.last may.on.0 may.rises u may.on) up)
  brought_on s sound (Claim u x p) may t b = absurd cc
  brought_on s sound (Replace u x p q) may t b = absurd cc
  brought_on s sound (Bury u x p) may t b = absurd cc
  brought_on s sound (Mark u x p) may t b = absurd cc
  brought_on s sound (Close u x) may t b = absurd cc
  brought_on s sound (Place n x p) may t b = absurd cc
  brought_on s sound (Finish u x p) may t b = absurd cc
  brought_on s sound (Advance n c) may t b = absurd cc
  brought_on s sound (Promote u n) may t b = absurd cc
  brought_on s sound (Abort n) may t b = absurd cc
  brought_on s sound (Take n) may t b = absurd cc

  -- and at a list of them
  pub on_run : (es : List (Exchange P)) (s : State P) (m : K → Option P) → IsKeeping g s m → AllAllowed g s es → (t : ℕ) → IsOn s.first s.next t
      → IsOn (run es s).first (run es s).next t
  on_run [] s m keeps may t on = on
  on_run (e ∷ es) s m keeps may t on = on_run es (after s e) (map_after g m e) (step_keeps g law s m keeps e may.0).1 may.1 t
      (on_after s (keeping_sound g s m keeps) e may.0 t on)

  -- For a list it is enough that the settings agree on the chain that it leaves.
  pub all_carries : (g' : Setting K P) (es : List (Exchange P)) (s : State P) (m : K → Option P) → IsKeeping g s m → AllAllowed g s es
      → Agrees (IsOn (run es s).first (run es s).next) g g' → AllAllowed g' s es
  all_carries g' [] s m keeps may agrees = tt
  all_carries g' (e ∷ es) s m keeps may agrees = (
    allows_carries g g' s (keeping_sound g s m keeps)
        (agrees_on_fewer g g' (IsOn (run es (after s e)).first (run es (after s e)).next) agrees (IsOn s.first s.next) (on_run (e ∷ es) s m keeps may))
        e (λ n b. agrees.chunks n (on_run es (after s e) (map_after g m e) (step_keeps g law s m keeps e may.0).1 may.1 n
        (brought_on s (keeping_sound g s m keeps) e may.0 n b))) may.0,
    all_carries g' es (after s e) (map_after g m e) (step_keeps g law s m keeps e may.0).1 may.1 agrees,
  )
