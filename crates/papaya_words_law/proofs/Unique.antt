-- A search always ends, so the words alone determine a key's pair: words represent at most one map.
use Rattle.std.proofs.Common.{◌≡◌, ◌⊎◌, inl, inr, ⊎_elim, ℕ, zero, suc, ◌+◌, ◌<◌, ◌≤◌, ◌==◌, true}
use Rattle.std.proofs.Common.{false, Option, List, [], ◌∷◌, refl, sym, ◌∙◌, subst, arith, eqb-true}
use Rattle.std.proofs.lemmas.Bool.{cases_Bool, cases_lt, cond-false}
use Rattle.papaya_words_law.specs.Exchange.{Setting, State, Exchange, Open, Claim, Replace, Bury, Link}
use Rattle.papaya_words_law.specs.Exchange.{Mark, Close, Place, Finish, Advance, Promote, Abort, Take}
use Rattle.papaya_words_law.specs.Exchange.{after, run, start}
use Rattle.papaya_words_law.specs.View.{View, Free, Foreign, Here, Leaving, Gone, Grave, look, beyond, IsPassed, IsReached}
use Rattle.papaya_words_law.specs.Allows.{AllAllowed}
use Rattle.papaya_words_law.specs.Meaning.{IsLawful, IsMeaning, map_left}
use Rattle.papaya_words_law.specs.Class.{Rises}
use Rattle.papaya_words_law.proofs.Onward.{next_reached}
use Rattle.papaya_words_law.proofs.OneMap.{sound, means_map, root_is_reached}

-- from some number on no table has a link
abbrev pub IsBounded : {P : Type 0} → State P → Type 0
IsBounded s = (b : ℕ) × ((t : ℕ) → b ≤ t → s.next t ≡ 0)

-- an exchange leaves the links bounded
step_bounded : {P : Type 0} → (s : State P) (e : Exchange P) → IsBounded s → IsBounded (after s e)
step_bounded s (Open t) h = h
step_bounded s (Claim t x p) h = h
step_bounded s (Replace t x p q) h = h
step_bounded s (Bury t x p) h = h
step_bounded s (Link t n) h = (
  h.0 + suc t,
  λ u le. let above : suc t ≤ u = omega arith in let b : h.0 ≤ u = omega arith in
      ⊎_elim (λ (q : (u == t) ≡ true). let e = eqb-true u t q in absurd (omega arith))
      (λ (q : (u == t) ≡ false). cond-false (u == t) n (s.next u) q ∙ h.1 u b) (cases_Bool (u == t)),
)
step_bounded s (Mark t x p) h = h
step_bounded s (Close t x) h = h
step_bounded s (Place n x p) h = h
step_bounded s (Finish t x p) h = h
step_bounded s (Advance n c) h = h
step_bounded s (Promote t n) h = h
step_bounded s (Abort n) h = h
step_bounded s (Take n) h = h

-- so does a list
run_bounded : {P : Type 0} → (es : List (Exchange P)) (s : State P) → IsBounded s → IsBounded (run es s)
run_bounded [] s h = h
run_bounded (e ∷ es) s h = run_bounded es (after s e) (step_bounded s e h)

module _ {K P : Type 0} (g : Setting K P) (s : State P) (k : K) (v w : Option P) (mv : IsMeaning g s k v) (mw : IsMeaning g s k w) where
  -- the first place at which a search does not continue, or none
  cursor : (t n : ℕ) → ((j : ℕ) × (j < n) × ((i : ℕ) → i < j → beyond (look g s k t i) ≡ true) × (beyond (look g s k t j) ≡ false))
      ⊎ ((j : ℕ) → j < n → beyond (look g s k t j) ≡ true)
  cursor t zero = inr (λ j lt. absurd (omega arith))
  cursor t (suc n) =
      ⊎_elim
      (λ f. inl (f.0, omega (arith, f.1), f.2, f.3))
      (λ (f : (j : ℕ) → j < n → beyond (look g s k t j) ≡ true).
      ⊎_elim
      (λ (e : beyond (look g s k t n) ≡ true).
      inr (λ j lt. ⊎_elim (λ (c : j < n). f j c) (λ (c : n ≤ j). let q : n ≡ j = omega arith in subst (λ y. beyond (look g s k t y) ≡ true) q e)
      (cases_lt j n)))
      (λ (e : beyond (look g s k t n) ≡ false). inl (n, omega arith, f, e))
      (cases_Bool (beyond (look g s k t n))))
      (cursor t n)

  -- in one table: the values are equal, or it is passed
  in_table : (t : ℕ) → IsReached g s k t → (g.blocking ≡ true → s.root ≡ t) → (v ≡ w) ⊎ IsPassed g.places (look g s k) t
  in_table t r at = ⊎_elim (λ f. by_view f.0 f.1 f.2 f.3 (look g s k t f.0) refl) (λ f. inr (inr f)) (cursor t (g.places t))
    where
      by_view : (j : ℕ) → j < g.places t → ((i : ℕ) → i < j → beyond (look g s k t i) ≡ true) → beyond (look g s k t j) ≡ false → (x : View P)
          → look g s k t j ≡ x → (v ≡ w) ⊎ IsPassed g.places (look g s k) t
      by_view j lt before stop Free e = inl (mv.empty t j r at lt before e ∙ sym (mw.empty t j r at lt before e))
      by_view j lt before stop Foreign e = absurd (cc (stop, e))
      by_view j lt before stop (Here p) e = inl (mv.found t j p r at lt (inl e) ∙ sym (mw.found t j p r at lt (inl e)))
      by_view j lt before stop (Leaving p) e = inl (mv.found t j p r at lt (inr e) ∙ sym (mw.found t j p r at lt (inr e)))
      by_view j lt before stop (Gone p) e = inr (inl (j, p, lt, e))
      by_view j lt before stop (Grave p) e = absurd (cc (stop, e))

  module _ (rises : Rises s.next) (bounded : IsBounded s) where
    -- without blocking, at the end of a passed table
    at_end : (t : ℕ) → IsReached g s k t → IsPassed g.places (look g s k) t → g.blocking ≡ false → s.next t ≡ 0 → v ≡ w
    at_end t r pass b z = mv.over t r pass (inr (b, z)) ∙ sym (mw.over t r pass (inr (b, z)))

    -- in a table and behind it, if the values behind it are equal
    on_from : (t : ℕ) → IsReached g s k t → (g.blocking ≡ true → s.root ≡ t) → ((u : ℕ) → t < u → IsReached g s k u → g.blocking ≡ false → v ≡ w) → v ≡ w
    on_from t r at ih =
        ⊎_elim
        (λ e. e)
        (λ pass.
        ⊎_elim
        (λ b. mv.over t r pass (inl (b, at b)) ∙ sym (mw.over t r pass (inl (b, at b))))
        (λ b.
        ⊎_elim
        (λ z. at_end t r pass b z)
        (λ up.
        let some : 0 < s.next t = omega (arith, up.1) in ih (s.next t) up.1 (next_reached g s b k t r pass some) b)
        (rises t))
        (cases_Bool g.blocking))
        (in_table t r at)

    -- d is at least how many tables may come behind t
    from_table : (d t : ℕ) → bounded.0 ≤ d + t → IsReached g s k t → (g.blocking ≡ true → s.root ≡ t) → v ≡ w
    from_table zero t le r at = ⊎_elim (λ e. e)
        (λ pass. ⊎_elim (λ b. mv.over t r pass (inl (b, at b)) ∙ sym (mw.over t r pass (inl (b, at b))))
        (λ b. at_end t r pass b (let c : bounded.0 ≤ t = omega arith in bounded.1 t c)) (cases_Bool g.blocking)) (in_table t r at)
    from_table (suc d) t le r at = on_from t r at (λ u lt q b. from_table d u (omega arith) q (λ c. absurd (cc (b, c))))

-- two maps that the words mean are one
pub one_value : {K P : Type 0} (g : Setting K P) (law : IsLawful g) (es : List (Exchange P)) → AllAllowed g start es → (k : K) (v : Option P)
    → IsMeaning g (run es start) k v → v ≡ map_left g es k
one_value g law es may k v mv =
    let mw = means_map g law es may k in
    let so = sound g law es may in
    ⊎_elim
    (λ (some : 0 < (run es start).root).
    let bounded : IsBounded (run es start) = run_bounded es start (0, λ t le. refl) in
    from_table g (run es start) k v (map_left g es k) mv mw so.rises bounded bounded.0 (run es start).root (omega arith)
    (root_is_reached g law es may k some) (λ b. refl))
    (λ (none : (run es start).root ≤ 0). let z : (run es start).root ≡ 0 = omega arith in mv.no_root z ∙ sym (mw.no_root z))
    (cases_lt 0 (run es start).root)
