-- The pairs that are left to an iteration, from slot to slot and from table to table.
use Rattle.std.proofs.Common.{◌≡◌, ℕ, zero, suc, ◌<◌, ◌≤◌, ◌||◌, Bool, true, false, cond, List, []}
use Rattle.std.proofs.Common.{◌∷◌, ◌++◌, length, drop, slice_index, Option, Some, None, is_some}
use Rattle.std.proofs.Common.{refl, sym, ◌∙◌, ap, arith}
use Rattle.papaya_words.specs.Table.{TableWords}
use Rattle.papaya_words.specs.Word.{kind_of, pair_of as number_of}
use Rattle.papaya_call.specs.declared.ask.At.TheVariants.{Next}
use Rattle.papaya_words_law.specs.ChainContent.{missing_in, unless_found}
use Rattle.papaya_words_law.specs.Content.{lookup}
use Rattle.papaya_core_timeline.specs.Content.{pairs_from, pairs_of_kind, pairs_of_slots}
use Rattle.papaya_core_store.specs.Store.{StoreState, Stored}
use Rattle.papaya_core_store.specs.Tables.{table_of, word_at, word_in}
use Rattle.papaya_seq.specs.Walks.{has_in, left_from, pairs_at, pairs_in_table, rest_of, table_after}

module _ {K V S : Type 0} (store : StoreState K V S) where
  -- the pair of a word
  abbrev pub pairs_of_word : ℕ → List (Stored K V)
  pairs_of_word word = pairs_of_kind store (kind_of word) (number_of word)

  -- the pairs from a slot on are that of the slot, and those behind it
  pub slot_rest : (slots : List ℕ) (i : ℕ) → i < length slots
      → pairs_of_slots store (drop i slots) ≡ pairs_of_word (slice_index slots i) ++ pairs_of_slots store (drop (suc i) slots)
  slot_rest [] i within = absurd (omega (arith, within))
  slot_rest (word ∷ words) zero within = refl
  slot_rest (word ∷ words) (suc i) within = slot_rest words i (omega (arith, within))

  -- behind the last slot there are none
  pub slots_past : (slots : List ℕ) (i : ℕ) → length slots ≤ i → pairs_of_slots store (drop i slots) ≡ []
  slots_past [] zero past = refl
  slots_past [] (suc i) past = refl
  slots_past (word ∷ words) zero past = absurd (omega (arith, past))
  slots_past (word ∷ words) (suc i) past = slots_past words i (omega (arith, past))

  -- a table's next one
  next_there : (t : ℕ) (table : TableWords) → table_of store.words.tables t ≡ Some table → word_at store.words (Next t) ≡ table.next
  next_there t table there = ap (word_in (λ v. v.next)) there

-- a pair, unless it was returned before
abbrev pub given : {K V : Type 0} → Bool → Stored K V → List (Stored K V)
given before p = cond before [] (p ∷ [])

module _ {K V S : Type 0} (eq : K → K → Bool) (store : StoreState K V S) where
  -- the pairs of a list of whose keys a table has none
  abbrev missing : List (Stored K V) → List (Stored K V) → List (Stored K V)
  missing = missing_in eq (λ p. p.key)

  -- a pair in front of others, of whose key a table has a pair or not
  missing_given : (ps rest : List (Stored K V)) (p : Stored K V) (before : Bool) (o : Option (Stored K V)) → lookup eq (λ q. q.key) ps p.key ≡ o
      → missing ps (given before p ++ rest) ≡ given (is_some o || before) p ++ missing ps rest
  missing_given ps rest p true None e = refl
  missing_given ps rest p false None e = ap (λ v. unless_found v p ++ missing ps rest) e
  missing_given ps rest p true (Some q) e = refl
  missing_given ps rest p false (Some q) e = ap (λ v. unless_found v p ++ missing ps rest) e

  -- before the first slot all pairs are left
  pub left_first : (n t : ℕ) → left_from eq store zero zero n t ≡ pairs_from eq store n (table_of store.words.tables t)
  left_first zero t = refl
  left_first (suc n) t = of_table (table_of store.words.tables t)
    where
      of_table : (o : Option TableWords) → rest_of eq store zero n o ≡ pairs_from eq store (suc n) o
      of_table None = refl
      of_table (Some table) = refl

  -- the pairs that are left behind a table
  abbrev behind : ℕ → TableWords → List (Stored K V)
  behind n table = missing (pairs_of_slots store table.slots) (pairs_from eq store n (table_of store.words.tables table.next))

  module _ (i : ℕ) where
    -- a slot without a pair changes nothing
    pub left_bare : (passed n t : ℕ) (table : TableWords) → table_of store.words.tables (table_after store passed t) ≡ Some table
        → i < length table.slots → pairs_of_word store (slice_index table.slots i) ≡ []
        → left_from eq store passed i n t ≡ left_from eq store passed (suc i) n t
    left_bare zero zero t table there within bare = refl
    left_bare zero (suc n) t table there within bare =
        ap (rest_of eq store i n) there
        ∙ ap (λ l. l ++ behind n table) (slot_rest store table.slots i within ∙ ap (λ l. l ++ pairs_of_slots store (drop (suc i) table.slots)) bare)
        ∙ sym (ap (rest_of eq store (suc i) n) there)
    left_bare (suc passed) zero t table there within bare = refl
    left_bare (suc passed) (suc n) t table there within bare = ap (missing (pairs_at store t))
        (left_bare passed n (word_at store.words (Next t)) table there within bare)

    -- a slot's pair is the first one, unless a table that was passed has a pair of its key
    pub left_pair : (passed n t : ℕ) (table : TableWords) (p : Stored K V) → table_of store.words.tables (table_after store passed t) ≡ Some table
        → i < length table.slots → passed < n → pairs_of_word store (slice_index table.slots i) ≡ p ∷ []
        → left_from eq store passed i n t ≡ given (has_in eq store passed t p.key) p ++ left_from eq store passed (suc i) n t
    left_pair zero zero t table p there within low is = absurd (omega (arith, low))
    left_pair zero (suc n) t table p there within low is =
        ap (rest_of eq store i n) there
        ∙ ap (λ l. l ++ behind n table) (slot_rest store table.slots i within ∙ ap (λ l. l ++ pairs_of_slots store (drop (suc i) table.slots)) is)
        ∙ sym (ap (λ l. p ∷ l) (ap (rest_of eq store (suc i) n) there))
    left_pair (suc passed) zero t table p there within low is = absurd (omega (arith, low))
    left_pair (suc passed) (suc n) t table p there within low is =
        let next : ℕ = word_at store.words (Next t) in
        ap (missing (pairs_at store t)) (left_pair passed n next table p there within (omega (arith, low)) is)
        ∙ missing_given (pairs_at store t) (left_from eq store passed (suc i) n next) p (has_in eq store passed next p.key)
        (lookup eq (λ q. q.key) (pairs_at store t) p.key) refl

    -- behind its last slot a table is passed
    pub left_past : (passed n t : ℕ) (table : TableWords) → table_of store.words.tables (table_after store passed t) ≡ Some table
        → length table.slots ≤ i → passed < n
        → left_from eq store passed i n t ≡ left_from eq store (suc passed) zero n t
    left_past zero zero t table there past low = absurd (omega (arith, low))
    left_past zero (suc n) t table there past low =
        ap (rest_of eq store i n) there
        ∙ ap (λ l. l ++ behind n table) (slots_past store table.slots i past)
        ∙ ap (λ ps. missing ps (pairs_from eq store n (table_of store.words.tables table.next))) (sym (ap (pairs_in_table store) there))
        ∙ ap (missing (pairs_at store t)) (ap (λ u. pairs_from eq store n (table_of store.words.tables u)) (sym (next_there store t table there))
        ∙ sym (left_first n (word_at store.words (Next t))))
    left_past (suc passed) zero t table there past low = absurd (omega (arith, low))
    left_past (suc passed) (suc n) t table there past low = ap (missing (pairs_at store t))
        (left_past passed n (word_at store.words (Next t)) table there past (omega (arith, low)))

    -- if there is no table, none are left
    pub left_none : (passed n t : ℕ) → table_of store.words.tables (table_after store passed t) ≡ None → left_from eq store passed i n t ≡ []
    left_none zero zero t none = refl
    left_none zero (suc n) t none = ap (rest_of eq store i n) none
    left_none (suc passed) zero t none = refl
    left_none (suc passed) (suc n) t none = ap (missing (pairs_at store t)) (left_none passed n (word_at store.words (Next t)) none)
