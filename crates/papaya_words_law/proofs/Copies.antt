-- How a copier gets the conditions of its exchanges: which table takes a pair, and when its places
-- are done. All of this lasts (`Later`).
use Rattle.std.proofs.Common.{◌≡◌, ◌⊎◌, inl, inr, ⊎_elim, ℕ, suc, ◌<◌, ◌≤◌, true, false, refl, sym, ap, ◌∙◌, subst, arith}
use Rattle.std.proofs.lemmas.Bool.{cases_lt}
use Rattle.papaya_words_law.specs.Exchange.{Empty, Marked, Setting, State, walk}
use Rattle.papaya_words_law.specs.View.{View, Free, Foreign, Here, Leaving, Gone, Grave, look, own, foreign, IsFull, HasWord}
use Rattle.papaya_words_law.specs.Copying.{IsTaker, IsTarget, IsCopied, IsPutting}
use Rattle.papaya_words_law.specs.Allows.{MayPlace, MayFinish, MayAbort}

module _ {K P : Type 0} (g : Setting K P) (s : State P) where
  -- the next table is or was a target
  pub first_target : (t : ℕ) → 0 < s.next t → IsTarget g s t (s.next t)
  first_target t some = record { links = 0; is = refl; made = some; mode = inl refl; over = λ i lt. absurd (omega arith) }

  -- behind an aborted target comes the next one
  pub next_target : g.blocking ≡ true → (t n : ℕ) → IsTarget g s t n → s.aborted n ≡ true → 0 < s.next n → IsTarget g s t (s.next n)
  next_target blocks t n r gone some = record {
    links = suc r.links;
    is = ap s.next r.is;
    made = some;
    mode = inr blocks;
    over = λ i lt. ⊎_elim (λ (c : i < r.links). r.over i c)
        (λ (c : r.links ≤ i). let e : r.links ≡ i = omega arith in subst (λ y. s.aborted (walk s.next (suc y) t) ≡ true) e (ap s.aborted r.is ∙ gone))
        (cases_lt i r.links);
  }

  -- a target takes each pair
  pub target_takes : (k : K) (t n : ℕ) → IsTarget g s t n → IsTaker g s k t n
  target_takes k t n r = record {
    links = r.links;
    is = r.is;
    made = r.made;
    over = λ i lt. ⊎_elim (λ (e : r.links ≡ 0). absurd (omega arith)) (λ b. inl (b, r.over i lt)) r.mode;
  }

  -- without blocking the table behind a full one takes it
  pub next_takes : g.blocking ≡ false → (k : K) (t n : ℕ) → IsTaker g s k t n → IsFull g.places (look g s k) n → 0 < s.next n → IsTaker g s k t (s.next n)
  next_takes inc k t n r full some = record {
    links = suc r.links;
    is = ap s.next r.is;
    made = some;
    over = λ i lt. ⊎_elim (λ (c : i < r.links). r.over i c)
        (λ (c : r.links ≤ i). let e : r.links ≡ i = omega arith in
        subst (λ y. ((g.blocking ≡ true) × (s.aborted (walk s.next (suc y) t) ≡ true))
        ⊎ ((g.blocking ≡ false) × IsFull g.places (look g s k) (walk s.next (suc y) t))) e
        (inr (inc, subst (IsFull g.places (look g s k)) (sym r.is) full))) (cases_lt i r.links);
  }

  -- the pair that is put is one to be copied
  putting_copied : (t x : ℕ) (p : P) (n j : ℕ) → IsPutting g s t x p n j → IsCopied g s n p
  putting_copied t x p n j r = record { from = t; slot = x; stood = r.stood; taker = r.taker }

  -- the next word for a copier: another key's word or Closed, after which it continues; an empty
  -- place; or a word of the key
  pub meets : (t x : ℕ) (p : P) (n j : ℕ) → IsPutting g s t x p n j → IsPutting g s t x p n (suc j) ⊎ (look g s (g.key p) n j ≡ Free)
      ⊎ (own (look g s (g.key p) n j) ≡ true)
  meets t x p n j r = by_view (look g s (g.key p) n j) refl
    where
      by_view : (v : View P) → look g s (g.key p) n j ≡ v → IsPutting g s t x p n (suc j) ⊎ (look g s (g.key p) n j ≡ Free)
          ⊎ (own (look g s (g.key p) n j) ≡ true)
      by_view Free e = inr (inl e)
      by_view Foreign e = inl (record {
        stood = r.stood;
        taker = r.taker;
        before = λ i lt. ⊎_elim (λ (c : i < j). r.before i c)
            (λ (c : j ≤ i). let q : j ≡ i = omega arith in subst (λ y. foreign (look g s (g.key p) n y) ≡ true) q (ap foreign e)) (cases_lt i j);
      })
      by_view (Here q) e = inr (inr (ap own e))
      by_view (Leaving q) e = inr (inr (ap own e))
      by_view (Gone q) e = inr (inr (ap own e))
      by_view (Grave q) e = inr (inr (ap own e))

  -- at an Empty place it may be placed
  pub may_place : (t x : ℕ) (p : P) (n j : ℕ) → IsPutting g s t x p n j → j < g.places n → s.slot n (g.place (g.key p) n j) ≡ Empty
      → MayPlace g s n (g.place (g.key p) n j) p
  may_place t x p n j r lt old = record {
    empty = old;
    source = putting_copied t x p n j r;
    place = record { at = j; within = lt; is = refl; before = r.before };
  }

  -- no place is left
  put_full : (t x : ℕ) (p : P) (n : ℕ) → IsPutting g s t x p n (g.places n) → IsFull g.places (look g s (g.key p)) n
  put_full t x p n r j lt = r.before j lt

  -- if no place is left, with blocking, the table may be aborted
  pub may_abort : (t x : ℕ) (p : P) (n : ℕ) → IsPutting g s t x p n (g.places n) → g.blocking ≡ true → s.aborted n ≡ false → MayAbort g s n
  may_abort t x p n r blocks live = record { before = live; mode = blocks; pair = p; source = putting_copied t x p n (g.places n) r; full = put_full t x p n r }

  -- without blocking the copier continues in the next table
  pub put_next : (t x : ℕ) (p : P) (n : ℕ) → IsPutting g s t x p n (g.places n) → g.blocking ≡ false → 0 < s.next n → IsPutting g s t x p (s.next n) 0
  put_next t x p n r inc some = record {
    stood = r.stood;
    taker = next_takes inc (g.key p) t n r.taker (put_full t x p n r) some;
    before = λ i lt.
        absurd (omega arith);
  }

  -- if there is a word of the key, without blocking, the mark may be finished
  pub may_finish : (t x : ℕ) (p : P) (n j : ℕ) → IsPutting g s t x p n j → HasWord g.places (look g s (g.key p)) n → g.blocking ≡ false
      → s.slot t x ≡ Marked p → MayFinish g s t x p
  may_finish t x p n j r has inc old = record { marked = old; mode = inc; to = n; taker = r.taker; has = has }
