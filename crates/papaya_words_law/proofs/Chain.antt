-- The chain: the tables that are reached by links. Each link is to a table with a greater number.
use Rattle.std.proofs.Common.{◌≡◌, inl, inr, ⊎_elim, ℕ, zero, suc, ◌+◌, ◌-◌, ◌<◌, ◌≤◌, true, false, refl, sym, ap, ◌∙◌, subst, arith, ◌==◌, eqb-true}
use Rattle.std.proofs.lemmas.Bool.{cases_order, cases_lt, cases_Bool, cond-true, cond-false}
use Rattle.papaya_words_law.specs.Exchange.{walk, at_put}
use Rattle.papaya_words_law.specs.Class.{Rises, IsOn}

module _ (next : ℕ → ℕ) (rises : Rises next) where
  -- 0 has no link
  pub next_zero : next 0 ≡ 0
  next_zero = ⊎_elim (λ e. e) (λ h. absurd (omega (arith, h.0))) (rises 0)

  -- if there is a table after n + 1 links, there is one after n links
  pub walk_back : (n t : ℕ) → 0 < walk next (suc n) t → 0 < walk next n t
  walk_back n t h =
      ⊎_elim
      (λ (e : walk next n t ≡ 0). let z : next (walk next n t) ≡ 0 = ap next e ∙ next_zero in absurd (omega arith))
      (⊎_elim (λ (l : walk next n t < 0). absurd (omega arith)) (λ (l : 0 < walk next n t). l))
      (cases_order (walk next n t) 0)

  -- a link is to a greater number
  step_up : (t : ℕ) → 0 < next t → t < next t
  step_up t h = ⊎_elim (λ e. absurd (omega arith)) (λ r. r.1) (rises t)

  -- after more links the number is greater
  walk_up : (d n t : ℕ) → 0 < walk next (d + n) t → walk next n t ≤ walk next (d + n) t
  walk_up zero n t h = let z : zero + n ≡ n = omega arith in let e : walk next (zero + n) t ≡ walk next n t = ap (λ y. walk next y t) z in omega arith
  walk_up (suc d) n t h =
      let e : suc d + n ≡ suc (d + n) = omega arith in
      let h' : 0 < walk next (suc (d + n)) t = subst (λ y. 0 < walk next y t) e h in
      let a : walk next n t ≤ walk next (d + n) t = walk_up d n t (walk_back (d + n) t h') in
      let b : walk next (d + n) t < next (walk next (d + n) t) = step_up (walk next (d + n) t) h' in
      let c : walk next n t ≤ walk next (suc (d + n)) t = omega arith in
      subst (λ y. walk next n t ≤ walk next y t) (sym e) c

  -- the same for two numbers of links
  pub walk_le : (n k t : ℕ) → n ≤ k → 0 < walk next k t → walk next n t ≤ walk next k t
  walk_le n k t l h =
      let e : (k - n) + n ≡ k = omega arith in
      subst (λ y. walk next n t ≤ walk next y t) e (walk_up (k - n) n t (subst (λ y. 0 < walk next y t) (sym e) h))

  -- no table of the chain is between a table and the next
  pub none_between : (first a l : ℕ) → IsOn first next a → IsOn first next l → a < l → l < next a → ⊥
  none_between first a l (pa, (ka, ea)) (pl, (kl, el)) lo hi =
      ⊎_elim
      (λ (c : ka < kl).
      let h : walk next (suc ka) first ≤ walk next kl first = walk_le (suc ka) kl first c (subst (λ y. 0 < y) (sym el) pl) in
      let e : walk next (suc ka) first ≡ next a = ap next ea in
      omega arith)
      (λ (c : kl ≤ ka).
      let h : walk next kl first ≤ walk next ka first = walk_le kl ka first c (subst (λ y. 0 < y) (sym ea) pa) in
      omega arith)
      (cases_lt ka kl)

  -- the last table that a later one comes after has a link
  pub has_next : (first a l : ℕ) → IsOn first next a → IsOn first next l → a < l → 0 < next a
  has_next first a l (pa, (ka, ea)) (pl, (kl, el)) lo =
      ⊎_elim
      (λ (c : ka < kl).
      let h : walk next (suc ka) first ≤ walk next kl first = walk_le (suc ka) kl first c (subst (λ y. 0 < y) (sym el) pl) in
      let e : walk next (suc ka) first ≡ next a = ap next ea in
      ⊎_elim
      (λ (z : next a ≡ 0).
      absurd (stuck kl ka first c (e ∙ z) (subst (λ y. 0 < y) (sym el) pl)))
      (λ r. omega (arith, r.1))
      (rises a))
      (λ (c : kl ≤ ka).
      let h : walk next kl first ≤ walk next ka first = walk_le kl ka first c (subst (λ y. 0 < y) (sym ea) pa) in
      absurd (omega arith))
      (cases_lt ka kl)
    where
      stuck : (kl ka first : ℕ) → ka < kl → walk next (suc ka) first ≡ 0 → 0 < walk next kl first → ⊥
      stuck kl ka first c z h =
          let e : kl ≡ (kl - suc ka) + suc ka = omega arith in
          all_zero (kl - suc ka) (suc ka) z (subst (λ y. 0 < walk next y first) e h)
        where
          all_zero : (d n : ℕ) → walk next n first ≡ 0 → 0 < walk next (d + n) first → ⊥
          all_zero zero n z h = let e : walk next (zero + n) first ≡ walk next n first = ap (λ y. walk next y first) (omega arith) in omega arith
          all_zero (suc d) n z h = let e : suc d + n ≡ suc (d + n) = omega arith in
              all_zero d n z (walk_back (d + n) first (subst (λ y. 0 < walk next y first) e h))

  -- the table after some links from a table of the chain is on the chain
  pub walk_on : (first from n : ℕ) → IsOn first next from → 0 < walk next n from → IsOn first next (walk next n from)
  walk_on first from zero on h = on
  walk_on first from (suc n) on h =
      let prev = walk_on first from n on (walk_back n from h) in
      (h, (suc (prev.1.0), ap next (prev.1.1)))

  -- a table of the chain between two tables, one of which is some links after the other, is on the
  -- way
  pub on_walk : (first from l n : ℕ) → IsOn first next from → IsOn first next l → from ≤ l → 0 < walk next n from → l < walk next n from → (i : ℕ)
      × (i < n) × (walk next i from ≡ l)
  on_walk first from l zero on onl lo h hi = absurd (omega arith)
  on_walk first from l (suc n) on onl lo h hi =
      let back : 0 < walk next n from = walk_back n from h in
      ⊎_elim
      (λ (e : l ≡ walk next n from). (n, omega arith, sym e))
      (⊎_elim
      (λ (c : l < walk next n from). let r = on_walk first from l n on onl lo back c in (r.0, omega (arith, r.1), r.2))
      (λ (c : walk next n from < l). absurd (none_between first (walk next n from) l (walk_on first from n on back) onl c hi)))
      (cases_order l (walk next n from))

  -- if there is a table after some links, there is one after fewer
  pub pos_before : (i k t : ℕ) → i ≤ k → 0 < walk next k t → 0 < walk next i t
  pos_before i zero t l h = let e : i ≡ 0 = omega arith in subst (λ y. 0 < walk next y t) (sym e) h
  pos_before i (suc k) t l h =
      ⊎_elim
      (λ (c : i < suc k). pos_before i k t (omega arith) (walk_back k t h))
      (λ (c : suc k ≤ i). let e : i ≡ suc k = omega arith in subst (λ y. 0 < walk next y t) (sym e) h)
      (cases_lt i (suc k))

  -- two tables of the chain with the same next one are one
  pub same_before : (first a l : ℕ) → IsOn first next a → IsOn first next l → next a ≡ next l → 0 < next l → a ≡ l
  same_before first a l ona onl e h =
      let up : l < next l = step_up l h in
      let up' : a < next a = step_up a (subst (λ y. 0 < y) (sym e) h) in
      ⊎_elim
      (λ q. q)
      (⊎_elim
      (λ (c : a < l). absurd (none_between first a l ona onl c (subst (λ y. l < y) (sym e) up)))
      (λ (c : l < a). absurd (none_between first l a onl ona c (subst (λ y. a < y) e up'))))
      (cases_order a l)

  -- the next of a table of the chain is on it
  pub next_on : (first t : ℕ) → IsOn first next t → 0 < next t → IsOn first next (next t)
  next_on first t on h = (h, (suc (on.1.0), ap next on.1.1))

  -- the table after some links from a table of the chain, with a fact about all tables between
  pub walk_between : (Q : ℕ → Type 0) (first t links n : ℕ) → IsOn first next t → walk next (suc links) t ≡ n → 0 < n
      → ((i : ℕ) → i < links → Q (walk next (suc i) t))
      → IsOn first next n × (t < n) × ((l : ℕ) → IsOn first next l → t < l → l < n → Q l)
  walk_between Q first t links n on is made over =
      let up : 0 < walk next (suc links) t = subst (λ y. 0 < y) (sym is) made in
      let one : walk next 1 t ≤ walk next (suc links) t = walk_le 1 (suc links) t (omega arith) up in
      let some : 0 < walk next 1 t = pos_before 1 (suc links) t (omega arith) up in
      let step : t < next t = step_up t some in (
        subst (IsOn first next) is (walk_on first t (suc links) on up),
        omega (arith, is),
        λ l onl lo hi. let w = on_walk first t l (suc links) on onl (omega arith) up (subst (λ y. l < y) (sym is) hi) in between l lo w.0 w.1 w.2,
      )
    where
      between : (l : ℕ) → t < l → (i : ℕ) → i < suc links → walk next i t ≡ l → Q l
      between l lo zero lt e = absurd (omega arith)
      between l lo (suc i) lt e = subst Q e (over i (omega arith))

-- a link is made from t, the last table of the chain or no table of it
module _ (next : ℕ → ℕ) (rises : Rises next) (t n : ℕ) (none : next t ≡ 0) (some : 0 < t) (up : t < n) where
  -- links are still to greater numbers
  pub link_rises : Rises (at_put next t n)
  link_rises u =
      ⊎_elim
      (λ (h : (u == t) ≡ true). inr (
        subst (λ y. 0 < y) (sym (eqb-true u t h)) some,
        subst (λ y. u < y) (sym (cond-true (u == t) n (next u) h))
            (subst (λ y. y < n) (sym (eqb-true u t h)) up),
      ))
      (λ (h : (u == t) ≡ false). let e : at_put next t n u ≡ next u = cond-false (u == t) n (next u) h in
      ⊎_elim (λ z. inl (e ∙ z)) (λ r. inr (r.0, subst (λ y. u < y) (sym e) r.1)) (rises u))
      (cases_Bool (u == t))

  -- a table after old links stays the table after as many links
  link_walk : (k first : ℕ) → 0 < walk next k first → walk (at_put next t n) k first ≡ walk next k first
  link_walk zero first h = refl
  link_walk (suc k) first h =
      let e : walk (at_put next t n) k first ≡ walk next k first = link_walk k first (walk_back next rises k first h) in
      ap (at_put next t n) e ∙ ⊎_elim
      (λ (q : (walk next k first == t) ≡ true).
      let z : next (walk next k first) ≡ 0 = ap next (eqb-true (walk next k first) t q) ∙ none in absurd (omega arith))
      (λ (q : (walk next k first == t) ≡ false). cond-false (walk next k first == t) n (next (walk next k first)) q)
      (cases_Bool (walk next k first == t))

  -- a table that was on the chain is on it
  pub link_on : (first u : ℕ) → IsOn first next u → IsOn first (at_put next t n) u
  link_on first u (h, (k, e)) = (h, (k, link_walk k first (subst (λ y. 0 < y) (sym e) h) ∙ e))

  -- a table before one that was on the chain was on it too
  pub link_older : (first l u : ℕ) → IsOn first (at_put next t n) l → IsOn first next u → l < u → IsOn first next l
  link_older first l u (pl, (kl, el)) (pu, (ku, eu)) lt =
      let hu : 0 < walk next ku first = subst (λ y. 0 < y) (sym eu) pu in
      ⊎_elim
      (λ (c : kl < ku).
      let h : 0 < walk next kl first = pos_before next rises kl ku first (omega arith) hu in
      (pl, (kl, sym (link_walk kl first h) ∙ el)))
      (λ (c : ku ≤ kl).
      let h : walk (at_put next t n) ku first ≤ walk (at_put next t n) kl first = walk_le (at_put next t n) link_rises ku kl first c
      (subst (λ y. 0 < y) (sym el) pl) in
      let e : walk (at_put next t n) ku first ≡ walk next ku first = link_walk ku first hu in
      absurd (omega arith))
      (cases_lt kl ku)
