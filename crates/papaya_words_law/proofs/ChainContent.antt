-- The pairs of all tables of the chain are the map, as a list in which no two pairs have equal
-- keys.
use Rattle.std.proofs.Common.{◌≡◌, ◌⊎◌, ⊎_elim, ℕ, zero, suc, ◌<◌, ◌≤◌, ◌==◌, true, false, Option}
use Rattle.std.proofs.Common.{None, Some, List, [], refl, sym, ap, ◌∙◌, subst, arith, eqb-true}
use Rattle.std.proofs.Common.{eq-eqb}
use Rattle.std.proofs.lemmas.Bool.{cases_Bool, cases_lt, cond-true, cond-false}
use Rattle.papaya_words_law.specs.Exchange.{Setting, State, walk}
use Rattle.papaya_words_law.specs.View.{Here, Leaving, look, held}
use Rattle.papaya_words_law.specs.Meaning.{IsLawful}
use Rattle.papaya_words_law.specs.Class.{IsOn, IsFront, IsOwner, IsTied}
use Rattle.papaya_words_law.specs.Invariant.{IsKeeping, IsIncrementalState, IsBlockingState}
use Rattle.papaya_words_law.specs.Content.{pairs_in, lookup, AreApart}
use Rattle.papaya_words_law.specs.ChainContent.{joined, chain_from, chain_content}
use Rattle.papaya_words_law.proofs.Views.{held-active, active-own}
use Rattle.papaya_words_law.proofs.Class.{held_of, passed_not_held, found_is}
use Rattle.papaya_words_law.proofs.Chain.{has_next, next_on, none_between}
use Rattle.papaya_words_law.proofs.Lists.{table_found, table_none}
use Rattle.papaya_words_law.proofs.Joined.{joined_first, joined_rest, joined_apart}
use Rattle.papaya_words_law.proofs.Content.{held_word, at_place, apart_in, content_is}
use Rattle.papaya_words_law.proofs.Incremental.States.{reached_front}
use Rattle.papaya_words_law.proofs.OneMap.{keeping_sound, root_reached, means}

-- the table after n + 1 links, by the first of them
pub walk_first : (next : ℕ → ℕ) (n t : ℕ) → walk next (suc n) t ≡ walk next n (next t)
walk_first next zero t = refl
walk_first next (suc n) t = ap next (walk_first next n t)

module _ {K P : Type 0} (g : Setting K P) (law : IsLawful g) (s : State P) where
  -- the pairs of one table
  abbrev pub table : ℕ → List P
  table t = pairs_in (s.slot t) (g.size t)

  -- without a table there is no pair
  pub chain_end : (n t : ℕ) → t ≡ 0 → chain_from g s n t ≡ []
  chain_end zero t e = refl
  chain_end (suc n) t e = cond-true (t == 0) [] (joined g.same g.key (table t) (chain_from g s n (s.next t))) (eq-eqb t 0 e)

  -- else those of the table and of the tables behind it
  pub chain_more : (n t : ℕ) → 0 < t → chain_from g s (suc n) t ≡ joined g.same g.key (table t) (chain_from g s n (s.next t))
  chain_more n t some =
      ⊎_elim
      (λ (y : (t == 0) ≡ true). absurd (let e = eqb-true t 0 y in omega (arith, e, some)))
      (λ (f : (t == 0) ≡ false). cond-false (t == 0) [] (joined g.same g.key (table t) (chain_from g s n (s.next t))) f)
      (cases_Bool (t == 0))

  module _ (m : K → Option P) (keeps : IsKeeping g s m) where
    -- no two pairs have equal keys
    pub chain_apart : (n t : ℕ) → AreApart g.same g.key (chain_from g s n t)
    chain_apart zero t = tt
    chain_apart (suc n) t =
        ⊎_elim
        (λ (some : 0 < t). subst (AreApart g.same g.key) (sym (chain_more n t some))
        (joined_apart g law (table t) (chain_from g s n (s.next t)) (apart_in g law s m keeps t (g.size t)) (chain_apart n (s.next t))))
        (λ (none : t ≤ 0). subst (AreApart g.same g.key) (sym (chain_end (suc n) t (omega (arith, none)))) tt)
        (cases_lt 0 t)

    module _ (k : K) where
      -- a table's pair of the key is at a place of the key
      found_in : (t : ℕ) (p : P) → lookup g.same g.key (table t) k ≡ Some p → (j : ℕ) × (j < g.places t)
          × ((look g s k t j ≡ Here p) ⊎ (look g s k t j ≡ Leaving p))
      found_in t p e =
          let r = table_found g (s.slot t) (g.size t) k p e in
          let a = at_place g law s m keeps t r.0 p r.2 k r.3 in
          (a.0, a.1, a.3)

      -- if a table's list has no pair of the key, no place of the key has one
      none_in : (t : ℕ) → lookup g.same g.key (table t) k ≡ None → (j : ℕ) → j < g.places t → held (look g s k t j) ≡ true → ⊥
      none_in t e j lt h =
          let w = held_word g k (s.slot t (g.place k t j)) (look g s k t j) refl h in
          let other = table_none g (s.slot t) (g.size t) k e (g.place k t j) (law.within k t j lt) w.0 w.1 in
          let same = w.2 in cc (other, same)

      -- if no place of the key has a pair, the table's list has none
      table_without : (t : ℕ) → ((j : ℕ) → j < g.places t → held (look g s k t j) ≡ true → ⊥) → lookup g.same g.key (table t) k ≡ None
      table_without t bare = by_found (lookup g.same g.key (table t) k) refl
        where
          by_found : (v : Option P) → lookup g.same g.key (table t) k ≡ v → lookup g.same g.key (table t) k ≡ None
          by_found None e = e
          by_found (Some p) e = let r = found_in t p e in absurd (bare r.0 r.1 (held_of (look g s k t r.0) p r.2))

      -- if no table from t on has a pair of the key, the chain has none
      chain_none : (n t : ℕ) → ((u : ℕ) → t ≤ u → lookup g.same g.key (table u) k ≡ None) → lookup g.same g.key (chain_from g s n t) k ≡ None
      chain_none zero t bare = refl
      chain_none (suc n) t bare =
          ⊎_elim
          (λ (some : 0 < t).
          ap (λ ps. lookup g.same g.key ps k) (chain_more n t some)
          ∙ (joined_rest g law (table t) (chain_from g s n (s.next t)) k (bare t (omega arith)) ∙ behind (chain_none n (s.next t))))
          (λ (none : t ≤ 0). ap (λ ps. lookup g.same g.key ps k) (chain_end (suc n) t (omega (arith, none))))
          (cases_lt 0 t)
        where
          behind : (((u : ℕ) → s.next t ≤ u → lookup g.same g.key (table u) k ≡ None) → lookup g.same g.key (chain_from g s n (s.next t)) k ≡ None)
              → lookup g.same g.key (chain_from g s n (s.next t)) k ≡ None
          behind ih =
              ⊎_elim
              (λ (e : s.next t ≡ 0). ap (λ ps. lookup g.same g.key ps k) (chain_end n (s.next t) e))
              (λ r. ih (λ u le. bare u (let up = r.1 in omega (arith, up, le))))
              ((keeping_sound g s m keeps).rises t)

      -- if table u of the chain has the key's pair, and no table of the chain before it has one,
      -- the chain has that pair
      chain_some : (p : P) (u : ℕ) → IsOn s.first s.next u → lookup g.same g.key (table u) k ≡ Some p → (n t : ℕ) → IsOn s.first s.next t → t ≤ u
          → walk s.next n t ≡ 0
          → ((l : ℕ) → IsOn s.first s.next l → t ≤ l → l < u → lookup g.same g.key (table l) k ≡ None) → lookup g.same g.key (chain_from g s n t) k ≡ Some p
      chain_some p u onu has zero t on le ends before = absurd (let some = on.0 in omega (arith, some, ends))
      chain_some p u onu has (suc n) t on le ends before =
          ap (λ ps. lookup g.same g.key ps k) (chain_more n t on.0)
          ∙ ⊎_elim
          (λ (lt : t < u). joined_rest g law (table t) (chain_from g s n (s.next t)) k (before t on (omega arith) lt)
          ∙ behind lt (chain_some p u onu has n (s.next t)))
          (λ (ge : u ≤ t). joined_first g law (table t) (chain_from g s n (s.next t)) k p
          (let e : u ≡ t = omega (arith, le, ge) in subst (λ v. lookup g.same g.key (table v) k ≡ Some p) e has))
          (cases_lt t u)
        where
          behind : t < u
              → (IsOn s.first s.next (s.next t) → s.next t ≤ u → walk s.next n (s.next t) ≡ 0
              → ((l : ℕ) → IsOn s.first s.next l → s.next t ≤ l → l < u → lookup g.same g.key (table l) k ≡ None)
              → lookup g.same g.key (chain_from g s n (s.next t)) k ≡ Some p)
              → lookup g.same g.key (chain_from g s n (s.next t)) k ≡ Some p
          behind lt ih =
              let rises = (keeping_sound g s m keeps).rises in
              let some : 0 < s.next t = has_next s.next rises s.first t u on onu lt in
              let up : t < s.next t = ⊎_elim (λ e. absurd (omega (arith, e, some))) (λ r. r.1) (rises t) in
              let low : s.next t ≤ u = ⊎_elim (λ (c : u < s.next t). absurd (none_between s.next rises s.first t u on onu lt c))
              (λ (c : s.next t ≤ u). c) (cases_lt u (s.next t)) in
              ih (next_on s.next rises s.first t on some) low (sym (walk_first s.next n t) ∙ ends)
              (λ l onl le' lt'. before l onl (omega (arith, up, le')) lt')

      module _ (n : ℕ) (ends : walk s.next n s.root ≡ 0) (some : 0 < s.root) where
        -- the root is on the chain
        root_on : IsOn s.first s.next s.root
        root_on = ⊎_elim (λ r. absurd (let e = r.0 in omega (arith, e, some))) (λ on. on) (keeping_sound g s m keeps).root

        -- without blocking: the first table with a pair of the key is the one that a search comes to
        chain_incremental : g.blocking ≡ false → IsIncrementalState g s m → lookup g.same g.key (chain_content g s n) k ≡ m k
        chain_incremental inc holds = by_value (m k) refl
          where
            nothing : IsTied (IsOn s.first s.next) g.places (look g s k) None → lookup g.same g.key (chain_content g s n) k ≡ None
            nothing tied = chain_none n s.root (λ u le. table_without u (tied u))

            first_table : (p : P) → m k ≡ Some p → IsOwner (IsOn s.first s.next) g.places (look g s k) p → lookup g.same g.key (chain_content g s n) k ≡ Some p
            first_table p e o =
                let front : IsFront (IsOn s.first s.next) g.places (look g s k)
                s.root = (reached_front g law inc s m holds k s.root (root_reached g s m keeps k some)).1 in
                let there : held (look g s k o.table o.at) ≡ true = held_of (look g s k o.table o.at) p o.has in
                let low : s.root ≤ o.table =
                ⊎_elim
                (λ (c : o.table < s.root). absurd (passed_not_held (IsOn s.first s.next) g.places (g.place k) (look g s k) (holds.class k).base
                o.table o.at (front o.table o.on c) o.within there))
                (λ (c : s.root ≤ o.table). c)
                (cases_lt o.table s.root) in
                chain_some p o.table o.on (its_pair there (lookup g.same g.key (table o.table) k) refl) n s.root root_on low ends
                (λ l onl le lt. table_without l (λ j h. passed_not_held (IsOn s.first s.next) g.places (g.place k) (look g s k) (holds.class k).base l
                j (o.front l onl lt) h))
              where
                its_pair : held (look g s k o.table o.at) ≡ true → (v : Option P) → lookup g.same g.key (table o.table) k ≡ v
                    → lookup g.same g.key (table o.table) k ≡ Some p
                its_pair there None f = absurd (none_in o.table f o.at o.within there)
                its_pair there (Some q) f =
                    let r = found_in o.table q f in
                    let is : m k ≡ Some q = found_is (IsOn s.first s.next) g.places (g.place k) (look g s k) (m k) (holds.class k) o.table r.0 q o.on
                    o.front r.1 r.2 in
                    f ∙ (sym is ∙ e)

            by_value : (v : Option P) → m k ≡ v → lookup g.same g.key (chain_content g s n) k ≡ m k
            by_value None e = nothing (subst (IsTied (IsOn s.first s.next) g.places (look g s k)) e (holds.class k).tied) ∙ sym e
            by_value (Some p) e = first_table p e (subst (IsTied (IsOn s.first s.next) g.places (look g s k)) e (holds.class k).tied) ∙ sym e

        -- with blocking: the root has each pair, and the tables behind it have only copies
        chain_blocking : g.blocking ≡ true → IsBlockingState g s m → lookup g.same g.key (chain_content g s n) k ≡ m k
        chain_blocking blocks holds = by_value (m k) refl
          where
            in_root : lookup g.same g.key (table s.root) k ≡ m k
            in_root = content_is g law s m keeps (λ inc. absurd (cc (inc, blocks))) k

            behind : lookup g.same g.key (table s.root) k ≡ None → (u : ℕ) → s.root ≤ u → lookup g.same g.key (table u) k ≡ None
            behind none u le =
                ⊎_elim
                (λ (lt : s.root < u). table_without u (λ j h held-there.
                let c = (holds.class k).ahead u j lt h (active-own (look g s k u j) (held-active (look g s k u j) held-there)) in
                none_in s.root none c.at c.within (ap held c.leaving)))
                (λ (ge : u ≤ s.root). let e : s.root ≡ u = omega (arith, le, ge) in subst (λ v. lookup g.same g.key (table v) k ≡ None) e none)
                (cases_lt s.root u)

            by_value : (v : Option P) → m k ≡ v → lookup g.same g.key (chain_content g s n) k ≡ m k
            by_value None e = chain_none n s.root (behind (in_root ∙ e)) ∙ sym e
            by_value (Some p) e =
                chain_some p s.root root_on (in_root ∙ e) n s.root root_on (omega arith) ends (λ l onl le lt. absurd (omega (arith, le, lt))) ∙ sym e

    -- before there is a root there is no pair
    pub no_chain : s.root ≡ 0 → (n : ℕ) → chain_content g s n ≡ []
    no_chain none n = chain_end n s.root none

    -- the pairs of all tables of the chain are the map
    pub chain_is : (n : ℕ) → walk s.next n s.root ≡ 0 → (k : K) → lookup g.same g.key (chain_content g s n) k ≡ m k
    chain_is n ends k =
        ⊎_elim
        (λ (some : 0 < s.root). ⊎_elim (λ h. chain_incremental k n ends some h.0 h.1) (λ h. chain_blocking k n ends some h.0 h.1) keeps)
        (λ (low : s.root ≤ 0). let none : s.root ≡ 0 = omega (arith, low) in
        ap (λ ps. lookup g.same g.key ps k) (no_chain none n) ∙ sym ((means g law s m keeps k).no_root none))
        (cases_lt 0 s.root)
