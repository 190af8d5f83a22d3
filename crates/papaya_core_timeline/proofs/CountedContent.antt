-- The content of a core as a list: no two of its pairs have equal keys, and it has no more pairs
-- than the arena.
use Rattle.std.proofs.Common.{◌≡◌, ⊎_elim, ℕ, zero, suc, ◌≤◌, ◌==◌, Bool, true, false, List, []}
use Rattle.std.proofs.Common.{◌∷◌, ◌++◌, length, map, Option, Some, None, refl, sym, ◌∙◌, ap, subst}
use Rattle.std.proofs.Common.{arith, eqb-true}
use Rattle.std.proofs.lemmas.List.{length-map}
use Rattle.std.proofs.lemmas.Bool.{cases_Bool, cond-true, cond-false, or_cases, or_left, or_right}
use Rattle.std.proofs.lemmas.Map.Steps.{length-le_from_distinct_below}
use Rattle.std.specs.List.{AllByRecursion, IsDistinct, list_any}
use Rattle.papaya_words.specs.Table.{TableWords}
use Rattle.papaya_words.specs.Word.{kind_of, pair_of as number_of}
use Rattle.papaya_words.specs.declared.limits.TheConstants.{MAX_LOG_LEN}
use Rattle.papaya_words.specs.declared.word.Kind.{Kind}
use Rattle.papaya_words.specs.declared.word.Kind.TheVariants as kinds
use Rattle.papaya_words_law.specs.ChainContent.{missing_in, unless_found}
use Rattle.papaya_words_law.specs.Code.{Coding, IsHashed}
use Rattle.papaya_words_law.specs.Content.{AreApart, lookup}
use Rattle.papaya_words_law.specs.Exchange.{Setting, State, Exchange, run, start}
use Rattle.papaya_words_law.specs.Meaning.{map_left}
use Rattle.papaya_words_law.proofs.ChainContent.{chain_apart}
use Rattle.papaya_words_law.proofs.OneMap.{keeping}
use Rattle.papaya_core_timeline.specs.declared.seat.Seat.{Seat}
use Rattle.papaya_core_timeline.specs.Content.{content, listed, pairs_from, pairs_of_kind, pairs_of_slots}
use Rattle.papaya_core_timeline.specs.Kept.{IsConsistent, IsInArena, CallTrace, setting_of, coding_of, low}
use Rattle.papaya_core_store.specs.Store.{StoreState, Stored, pair_of}
use Rattle.papaya_core_store.specs.Tables.{table_of}
use Rattle.papaya_core_store.proofs.Logs.{pair_below, pair_number}
use Rattle.papaya_core_timeline.proofs.KeptMap.{kept_content}
use Rattle.papaya_core_store.specs.declared.store.Mode.{Mode}

module _ {K V S : Type 0} (store : StoreState K V S) where
  -- each pair of the list is in the arena, under its number
  abbrev AllLogged : List (Stored K V) → Type 0
  AllLogged = AllByRecursion (IsInArena store)

  -- two lists
  append_logged : (ps qs : List (Stored K V)) → AllLogged ps → AllLogged qs → AllLogged (ps ++ qs)
  append_logged [] qs hp hq = hq
  append_logged (p ∷ ps) qs hp hq = (hp.0, append_logged ps qs hp.1 hq)

  -- the pair of a number
  listed_logged : (n : ℕ) (o : Option (Stored K V)) → pair_of store n ≡ o → AllLogged (listed o)
  listed_logged n None e = tt
  listed_logged n (Some p) e = (ap (pair_of store) (pair_number store n p e) ∙ e, tt)

  -- the pair of a word
  kind_logged : (kd : Kind) (n : ℕ) → AllLogged (pairs_of_kind store kd n)
  kind_logged kinds.Live n = listed_logged n (pair_of store n) refl
  kind_logged kinds.Marked n = listed_logged n (pair_of store n) refl
  kind_logged kinds.Empty n = tt
  kind_logged kinds.Copied n = tt
  kind_logged kinds.Buried n = tt
  kind_logged kinds.Closed n = tt

  -- the pairs of a table
  slots_logged : (words : List ℕ) → AllLogged (pairs_of_slots store words)
  slots_logged [] = tt
  slots_logged (word ∷ words) = append_logged (pairs_of_kind store (kind_of word) (number_of word)) (pairs_of_slots store words)
      (kind_logged (kind_of word) (number_of word)) (slots_logged words)

  module _ (eq : K → K → Bool) where
    -- a pair that comes in, if its key has none
    found_logged : (o : Option (Stored K V)) (q : Stored K V) → IsInArena store q → AllLogged (unless_found o q)
    found_logged None q h = (h, tt)
    found_logged (Some p) q h = tt

    -- those that come in
    missing_logged : (ps qs : List (Stored K V)) → AllLogged qs → AllLogged (missing_in eq (λ p. p.key) ps qs)
    missing_logged ps [] h = tt
    missing_logged ps (q ∷ qs) h =
        append_logged (unless_found (lookup eq (λ p. p.key) ps q.key) q) (missing_in eq (λ p. p.key) ps qs)
        (found_logged (lookup eq (λ p. p.key) ps q.key) q h.0)
        (missing_logged ps qs h.1)

    -- the pairs of the tables of a chain
    from_logged : (n : ℕ) (o : Option TableWords) → AllLogged (pairs_from eq store n o)
    from_logged zero o = tt
    from_logged (suc n) None = tt
    from_logged (suc n) (Some t) =
        let behind : List (Stored K V) = pairs_from eq store n (table_of store.words.tables t.next) in
        append_logged (pairs_of_slots store t.slots) (missing_in eq (λ p. p.key) (pairs_of_slots store t.slots) behind) (slots_logged t.slots)
        (missing_logged (pairs_of_slots store t.slots) behind (from_logged n (table_of store.words.tables t.next)))

    module _ (itself : (k : K) → eq k k ≡ true) where
      -- a number of the list is a pair's whose key has a pair there
      number_found : (ps : List (Stored K V)) → AllLogged ps → (n : ℕ) → list_any (λ m. n == m) (map (λ p. p.number) ps) ≡ true → (q : Stored K V)
          × (pair_of store n ≡ Some q) × (lookup eq (λ p. p.key) ps q.key ≡ None → ⊥)
      number_found [] h n e = absurd cc
      number_found (p ∷ ps) h n e =
          ⊎_elim
          (λ (y : (n == p.number) ≡ true). (
            p,
            ap (pair_of store) (eqb-true n p.number y)
                ∙ h.0,
            λ none. let here = cond-true (eq p.key p.key) (Some p) (lookup eq (λ r. r.key) ps p.key) (itself p.key) in
                let f : Some p ≡ None = sym here ∙ none in cc,
          ))
          (λ (more : list_any (λ m. n == m) (map (λ r. r.number) ps) ≡ true). behind (number_found ps h.1 n more))
          (or_cases (n == p.number) (list_any (λ m. n == m) (map (λ r. r.number) ps)) e)
        where
          behind : (q : Stored K V) × (pair_of store n ≡ Some q) × (lookup eq (λ r. r.key) ps q.key ≡ None → ⊥) → (q : Stored K V)
              × (pair_of store n ≡ Some q) × (lookup eq (λ r. r.key) (p ∷ ps) q.key ≡ None → ⊥)
          behind (q, is, some) = (
            q,
            is,
            λ none.
                ⊎_elim
                (λ (y : eq q.key p.key ≡ true). let here = cond-true (eq q.key p.key) (Some p) (lookup eq (λ r. r.key) ps q.key) y in
                let f : Some p ≡ None = sym here ∙ none in cc)
                (λ (n' : eq q.key p.key ≡ false). some (sym (cond-false (eq q.key p.key) (Some p) (lookup eq (λ r. r.key) ps q.key) n') ∙ none))
                (cases_Bool (eq q.key p.key)),
          )

      -- a number that is none of these
      none_equal : (n : ℕ) (ns : List ℕ) → list_any (λ m. n == m) ns ≡ false → AllByRecursion (λ m. (n == m) ≡ false) ns
      none_equal n [] e = tt
      none_equal n (m ∷ ns) e = (
        ⊎_elim (λ (y : (n == m) ≡ true). absurd (let some = or_left (n == m) (list_any (λ x. n == x) ns) y in cc (some, e)))
            (λ (d : (n == m) ≡ false). d) (cases_Bool (n == m)),
        none_equal n ns (⊎_elim (λ (y : list_any (λ x. n == x) ns ≡ true).
            absurd (let some = or_right (n == m) (list_any (λ x. n == x) ns) y in cc (some, e))) (λ (d : list_any (λ x. n == x) ns ≡ false). d)
            (cases_Bool (list_any (λ x. n == x) ns))),
      )

      -- pairs with distinct keys have distinct numbers
      numbers_distinct : (ps : List (Stored K V)) → AllLogged ps → AreApart eq (λ p. p.key) ps → IsDistinct ◌==◌ (map (λ p. p.number) ps)
      unfolding IsDistinct
      numbers_distinct [] h apart = tt
      numbers_distinct (p ∷ ps) h apart = (
        none_equal p.number (map (λ r. r.number) ps)
            (⊎_elim
            (λ (y : list_any (λ m. p.number == m) (map (λ r. r.number) ps) ≡ true).
            absurd (let (q, is, some) = number_found ps h.1 p.number y in let same : p ≡ q = let both : Some p ≡ Some q = sym h.0 ∙ is in cc in
            some (subst (λ (r : Stored K V). lookup eq (λ r'. r'.key) ps r.key ≡ None) same apart.0)))
            (λ (d : list_any (λ m. p.number == m) (map (λ r. r.number) ps) ≡ false). d)
            (cases_Bool (list_any (λ m. p.number == m) (map (λ r. r.number) ps)))),
        numbers_distinct ps h.1 apart.1,
      )

      -- pairs of the arena with distinct keys are no more than the arena has
      logged_few : (ps : List (Stored K V)) → AllLogged ps → AreApart eq (λ p. p.key) ps → length ps ≤ length store.pairs
      logged_few ps h apart =
          let few = length-le_from_distinct_below (map (λ p. p.number) ps) (length store.pairs) (numbers_distinct ps h apart)
          (λ n e. let r = number_found ps h n e in pair_below store n r.0 r.1) in
          let same = length-map ps (λ (p : Stored K V). p.number) in
          omega (arith, few, same)

module _ {K V S : Type 0} (eq : K → K → Bool) (hash : K → ℕ) (mode : Mode) (store : StoreState K V S)
    (hashed : IsHashed (setting_of {V = V} eq (low hash) mode store.words.tables) (coding_of (low hash))) where
  -- the setting and the coding
  abbrev g : Setting K (Stored K V)
  g = setting_of eq (low hash) mode store.words.tables

  abbrev c : Coding K (Stored K V)
  c = coding_of (low hash)

  module _ {A : Type 0} (callers : List (Seat K V A)) (es : List (Exchange (Stored K V))) (call_traces : ℕ → CallTrace K V)
      (kept : IsConsistent eq hash mode store callers es call_traces) where
    -- the words of the law
    abbrev now : State (Stored K V)
    now = run es start

    -- no two pairs of the content have equal keys
    pub content_apart : AreApart eq (λ p. p.key) (content eq store)
    content_apart =
        subst (AreApart eq (λ p. p.key))
        (sym (kept_content eq hash mode store hashed callers es call_traces kept))
        (chain_apart g hashed.lawful now (map_left g es) (keeping g hashed.lawful es kept.allowed) (length store.words.tables) now.root)

    -- the content is never longer than the arena may be
    pub content_few : length (content eq store) ≤ MAX_LOG_LEN
    content_few =
        let few = logged_few store eq hashed.lawful.itself (content eq store)
        (from_logged store eq (length store.words.tables) (table_of store.words.tables store.words.root)) content_apart in
        let most = kept.few in
        omega (arith, few, most)
