-- The list of a chain: the number of its tables, its length, when it is that of the root alone, and
-- the lists that it equals.
use Rattle.std.proofs.Common.{◌≡◌, ◌⊎◌, inl, inr, ⊎_elim, ℕ, zero, suc, ◌+◌, ◌*◌, ◌<◌, ◌≤◌, ◌++◌}
use Rattle.std.proofs.Common.{false, Option, None, Some, List, [], ◌∷◌, length, refl, sym, ap, ◌∙◌}
use Rattle.std.proofs.Common.{arith}
use Rattle.std.proofs.lemmas.Bool.{cases_lt}
use Rattle.std.proofs.lemmas.List.{append-nil, length-append}
use mathlib.Core.Path.{fun_ext}
use Rattle.papaya_words_law.specs.Exchange.{Word, Empty, Closed, Live, Marked, Copied, Buried, Setting, State, walk}
use Rattle.papaya_words_law.specs.Meaning.{IsLawful}
use Rattle.papaya_words_law.specs.Class.{Rises, IsOn}
use Rattle.papaya_words_law.specs.Invariant.{IsKeeping}
use Rattle.papaya_words_law.specs.Grows.{Agrees}
use Rattle.papaya_words_law.specs.Content.{pairs_of_word, pairs_in, content, lookup}
use Rattle.papaya_words_law.specs.ChainContent.{unless_found, missing_in, joined, chain_from, chain_content}
use Rattle.papaya_words_law.proofs.Chain.{next_zero, next_on}
use Rattle.papaya_words_law.proofs.FiniteMaps.{one_length}
use Rattle.papaya_words_law.proofs.Content.{apart_in, content_is, no_content}
use Rattle.papaya_words_law.proofs.ChainContent.{walk_first, chain_end, chain_more, chain_apart, chain_is, no_chain}
use Rattle.papaya_words_law.proofs.OneMap.{keeping_sound}

-- the table after n links has a number that is at least n greater
walk_far : (next : ℕ → ℕ) → Rises next → (n t : ℕ) → (walk next n t ≡ 0) ⊎ (t + n ≤ walk next n t)
walk_far next rises zero t = inr (omega arith)
walk_far next rises (suc n) t =
    ⊎_elim
    (λ (z : walk next n t ≡ 0). inl (ap next z ∙ next_zero next rises))
    (λ (far : t + n ≤ walk next n t). ⊎_elim (λ z. inl z) (λ r. let up = r.1 in inr (omega (arith, far, up))) (rises (walk next n t)))
    (walk_far next rises n t)

-- a word has one pair at most
word_few : {P : Type 0} → (w : Word P) → length (pairs_of_word w) ≤ 1
word_few Empty = omega arith
word_few Closed = omega arith
word_few (Live p) = omega arith
word_few (Marked p) = omega arith
word_few (Copied p) = omega arith
word_few (Buried p) = omega arith

-- so a table has no more pairs than slots
table_few : {P : Type 0} → (slot : ℕ → Word P) (n : ℕ) → length (pairs_in slot n) ≤ n
table_few slot zero = omega arith
table_few slot (suc n) =
    let first = table_few slot n in
    let last = word_few (slot n) in
    let all : length (pairs_in slot n ++ pairs_of_word (slot n)) ≡ length (pairs_in slot n) + length (pairs_of_word (slot n)) = length-append
    (pairs_in slot n) (pairs_of_word (slot n)) in
    omega (arith, first, last, all)

-- a list that adds no length is empty
adds_none : {P : Type 0} → (ps zs : List P) → length (ps ++ zs) ≡ length ps → zs ≡ []
adds_none ps [] e = refl
adds_none ps (z ∷ zs) e = let all : length (ps ++ z ∷ zs) ≡ length ps + suc (length zs) = length-append ps (z ∷ zs) in absurd (omega (arith, e, all))

module _ {K P : Type 0} (g : Setting K P) where
  -- at most one pair comes in
  found_few : (v : Option P) (q : P) → length (unless_found v q) ≤ 1
  found_few None q = omega arith
  found_few (Some p) q = omega arith

  -- no more come in than there are
  missing_few : (ps qs : List P) → length (missing_in g.same g.key ps qs) ≤ length qs
  missing_few ps [] = omega arith
  missing_few ps (q ∷ qs) =
      let here = found_few (lookup g.same g.key ps (g.key q)) q in
      let rest = missing_few ps qs in
      let all : length (missing_in g.same g.key ps (q ∷ qs)) ≡ length (unless_found (lookup g.same g.key ps (g.key q)) q) + length
      (missing_in g.same g.key ps qs) = length-append (unless_found (lookup g.same g.key ps (g.key q)) q) (missing_in g.same g.key ps qs) in
      omega (arith, here, rest, all)

  module _ (law : IsLawful g) (s : State P) where
    -- over more tables than there are the list is the same
    pub chain_enough : (n now t : ℕ) → walk s.next n t ≡ 0 → walk s.next now t ≡ 0 → chain_from g s n t ≡ chain_from g s now t
    chain_enough zero now t e f = sym (chain_end g law s now t e)
    chain_enough (suc n) zero t e f = chain_end g law s (suc n) t f
    chain_enough (suc n) (suc now) t e f =
        ⊎_elim
        (λ (some : 0 < t).
        let behind : chain_from g s n (s.next t) ≡ chain_from g s now (s.next t) = chain_enough n now (s.next t) (sym (walk_first s.next n t) ∙ e)
        (sym (walk_first s.next now t) ∙ f) in
        chain_more g law s n t some ∙ (ap (λ qs. joined g.same g.key (pairs_in (s.slot t) (g.size t)) qs) behind ∙ sym (chain_more g law s now t some)))
        (λ (none : t ≤ 0). let z : t ≡ 0 = omega (arith, none) in chain_end g law s (suc n) t z ∙ sym (chain_end g law s (suc now) t z))
        (cases_lt 0 t)

    module _ (m : K → Option P) (keeps : IsKeeping g s m) where
      -- as many tables as have numbers are enough
      pub chain_ends : (n : ℕ) → s.root ≤ n → ((t : ℕ) → s.next t ≤ n) → walk s.next n s.root ≡ 0
      chain_ends zero low all = omega (arith, low)
      chain_ends (suc n) low all =
          ⊎_elim
          (λ e. e)
          (λ (far : s.root + suc n ≤ walk s.next (suc n) s.root).
          let top : walk s.next (suc n) s.root ≤ suc n = all (walk s.next n s.root) in
          let none : s.root ≡ 0 = omega (arith, far, top) in
          from_none none (suc n))
          (walk_far s.next (keeping_sound g s m keeps).rises (suc n) s.root)
        where
          from_none : s.root ≡ 0 → (d : ℕ) → walk s.next d s.root ≡ 0
          from_none none zero = none
          from_none none (suc d) = ap s.next (from_none none d) ∙ next_zero s.next (keeping_sound g s m keeps).rises

      -- with blocking, or if the root has no next table, it is the root's list
      pub chain_alone : (g.blocking ≡ false → s.next s.root ≡ 0) → (n : ℕ) → walk s.next n s.root ≡ 0 → chain_content g s n ≡ content g s
      chain_alone last zero ends = sym (no_content g law s m keeps ends)
      chain_alone last (suc n) ends =
          ⊎_elim
          (λ (some : 0 < s.root). of_root (chain_more g law s n s.root some))
          (λ (low : s.root ≤ 0). let none : s.root ≡ 0 = omega (arith, low) in no_chain g law s m keeps none (suc n) ∙ sym (no_content g law s m keeps none))
          (cases_lt 0 s.root)
        where
          of_root : chain_content g s (suc n) ≡ joined g.same g.key (content g s) (chain_from g s n (s.next s.root)) → chain_content g s (suc n) ≡ content g s
          of_root is =
              let long : length (chain_content g s (suc n)) ≡ length (content g s) =
              one_length g law (chain_content g s (suc n)) (content g s) (chain_apart g law s m keeps (suc n) s.root)
              (apart_in g law s m keeps s.root (g.size s.root))
              (λ k. chain_is g law s m keeps (suc n) ends k ∙ sym (content_is g law s m keeps last k)) in
              let none : missing_in g.same g.key (content g s) (chain_from g s n (s.next s.root)) ≡ [] = adds_none (content g s)
              (missing_in g.same g.key (content g s) (chain_from g s n (s.next s.root))) (ap length (sym is) ∙ long) in
              is ∙ (ap (λ zs. content g s ++ zs) none ∙ append-nil (content g s))

      -- behind a table of the chain is another one, or none
      next_or_end : (t : ℕ) → (t ≡ 0) ⊎ IsOn s.first s.next t → (s.next t ≡ 0) ⊎ IsOn s.first s.next (s.next t)
      next_or_end t (inl e) = inl (ap s.next e ∙ next_zero s.next (keeping_sound g s m keeps).rises)
      next_or_end t (inr on) = ⊎_elim (λ e. inl e)
          (λ r. inr (next_on s.next (keeping_sound g s m keeps).rises s.first t on (let up = r.1 in omega (arith, up)))) ((keeping_sound g s m keeps).rises t)

      -- so is the root
      root_or_none : (s.root ≡ 0) ⊎ IsOn s.first s.next s.root
      root_or_none = ⊎_elim (λ r. inl r.0) (λ on. inr on) (keeping_sound g s m keeps).root

      -- n tables of b slots at most have n times b pairs at most
      pub chain_few : (b : ℕ) → ((t : ℕ) → IsOn s.first s.next t → g.size t ≤ b) → (n t : ℕ) → (t ≡ 0) ⊎ IsOn s.first s.next t
          → length (chain_from g s n t) ≤ n * b
      chain_few b sized zero t h = omega arith
      chain_few b sized (suc n) t (inl e) = let none : length (chain_from g s (suc n) t) ≡ 0 = ap length (chain_end g law s (suc n) t e) in omega (arith, none)
      chain_few b sized (suc n) t (inr on) =
          let rest : length (chain_from g s n (s.next t)) ≤ n * b = chain_few b sized n (s.next t) (next_or_end t (inr on)) in
          let here : length (pairs_in (s.slot t) (g.size t)) ≤ g.size t = table_few (s.slot t) (g.size t) in
          let size : g.size t ≤ b = sized t on in
          let more : length (missing_in g.same g.key (pairs_in (s.slot t) (g.size t)) (chain_from g s n (s.next t))) ≤ length
          (chain_from g s n (s.next t)) = missing_few (pairs_in (s.slot t) (g.size t)) (chain_from g s n (s.next t)) in
          let all : length (chain_from g s (suc n) t) ≡ length (pairs_in (s.slot t) (g.size t)) + length
          (missing_in g.same g.key (pairs_in (s.slot t) (g.size t)) (chain_from g s n (s.next t))) =
          ap length (chain_more g law s n t on.0) ∙ length-append (pairs_in (s.slot t) (g.size t))
          (missing_in g.same g.key (pairs_in (s.slot t) (g.size t)) (chain_from g s n (s.next t))) in
          let times : suc n * b ≡ b + n * b = omega arith in
          omega (arith, rest, here, size, more, all, times)

      -- from the root
      pub content_few : (b : ℕ) → ((t : ℕ) → IsOn s.first s.next t → g.size t ≤ b) → (n : ℕ) → length (chain_content g s n) ≤ n * b
      content_few b sized n = chain_few b sized n s.root root_or_none

      module _ (list : ℕ → ℕ → List P) (none : (t : ℕ) → list 0 t ≡ []) (end : (n : ℕ) → list (suc n) 0 ≡ [])
          (more : (n t : ℕ) → IsOn s.first s.next t → list (suc n) t ≡ joined g.same g.key (pairs_in (s.slot t) (g.size t)) (list n (s.next t))) where
        -- a list that is put together in the same way along the chain is the chain's list
        alike_from : (n t : ℕ) → (t ≡ 0) ⊎ IsOn s.first s.next t → list n t ≡ chain_from g s n t
        alike_from zero t h = none t
        alike_from (suc n) t (inl e) = ap (list (suc n)) e ∙ (end n ∙ sym (chain_end g law s (suc n) t e))
        alike_from (suc n) t (inr on) =
            more n t on
            ∙ (ap (λ qs. joined g.same g.key (pairs_in (s.slot t) (g.size t)) qs) (alike_from n (s.next t) (next_or_end t (inr on)))
            ∙ sym (chain_more g law s n t on.0))

        -- from the root
        pub content_alike : (n : ℕ) → list n s.root ≡ chain_content g s n
        content_alike n = alike_from n s.root root_or_none

      -- tables that come later don't matter
      pub content_later : (g' : Setting K P) → IsLawful g' → Agrees (IsOn s.first s.next) g g' → (n : ℕ) → chain_content g' s n ≡ chain_content g s n
      content_later g' law' agrees n = content_alike (chain_from g' s) (λ t. refl) (λ d. chain_end g' law' s (suc d) 0 refl) each n
        where
          each : (d t : ℕ) → IsOn s.first s.next t
              → chain_from g' s (suc d) t ≡ joined g.same g.key (pairs_in (s.slot t) (g.size t)) (chain_from g' s d (s.next t))
          each d t on =
              let same : g'.same ≡ g.same = fun_ext (λ k. fun_ext (λ l. agrees.same k l)) in
              let key : g'.key ≡ g.key = fun_ext agrees.key in
              chain_more g' law' s d t on.0
              ∙ (ap (λ f. joined f g'.key (pairs_in (s.slot t) (g'.size t)) (chain_from g' s d (s.next t))) same
              ∙ (ap (λ f. joined g.same f (pairs_in (s.slot t) (g'.size t)) (chain_from g' s d (s.next t))) key
              ∙ ap (λ b. joined g.same g.key (pairs_in (s.slot t) b) (chain_from g' s d (s.next t))) (agrees.size t on)))
