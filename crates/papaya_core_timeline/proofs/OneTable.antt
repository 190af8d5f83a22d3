-- If no table has a next one, the content is that of the root.
use Rattle.std.proofs.Common.{◌≡◌, ℕ, zero, suc, ◌-◌, ◌<◌, Bool, List, [], length, Option, Some, None, refl, ◌∙◌, ap, append-nil, arith}
use Rattle.std.proofs.lemmas.Option.{slice_get_within}
use Rattle.papaya_words.specs.Table.{TableWords}
use Rattle.papaya_call.specs.declared.ask.At.TheVariants.{Next}
use Rattle.papaya_words_law.specs.ChainContent.{joined}
use Rattle.papaya_words_law.specs.Exchange.{Exchange, run, start}
use Rattle.papaya_core_timeline.specs.declared.seat.Seat.{Seat}
use Rattle.papaya_core_timeline.specs.Content.{content, pairs_from, pairs_of_slots}
use Rattle.papaya_core_timeline.specs.Kept.{CallTrace, IsConsistent}
use Rattle.papaya_core_store.specs.Store.{StoreState, Stored}
use Rattle.papaya_core_store.specs.Tables.{table_of, word_in}
use Rattle.papaya_core_timeline.proofs.KeptTables.{table_there}
use Rattle.papaya_core_store.specs.declared.store.Mode.{Mode}

-- the pairs of a table, if it is there
abbrev pub pairs_of_table : {K V S : Type 0} → StoreState K V S → Option TableWords → List (Stored K V)
pairs_of_table store None = []
pairs_of_table store (Some t) = pairs_of_slots store t.slots

module _ {K V S : Type 0} (eq : K → K → Bool) (store : StoreState K V S) where
  -- without a table there is no pair
  pairs_none : (n : ℕ) → pairs_from eq store n None ≡ []
  pairs_none zero = refl
  pairs_none (suc n) = refl

  -- 0 is no table, so from there on there is no pair
  pairs_end : (n t : ℕ) → t ≡ 0 → pairs_from eq store n (table_of store.words.tables t) ≡ []
  pairs_end n t e = ap (λ u. pairs_from eq store n (table_of store.words.tables u)) e ∙ pairs_none n

  module _ (single : (n : ℕ) (t : TableWords) → table_of store.words.tables n ≡ Some t → t.next ≡ 0) where
    -- the pairs from a table on are its own
    from_content : (n u : ℕ) (o : Option TableWords) → table_of store.words.tables u ≡ o → 0 < n → pairs_from eq store n o ≡ pairs_of_table store o
    from_content zero u o e some = absurd (omega (arith, some))
    from_content (suc n) u None e some = refl
    from_content (suc n) u (Some t) e some =
        ap (joined eq (λ p. p.key) (pairs_of_slots store t.slots)) (pairs_end n t.next (single u t e))
        ∙ append-nil (pairs_of_slots store t.slots)

    -- a table that is there is one of the list
    root_there : (n : ℕ) → length store.words.tables ≡ n → (o : Option TableWords) → table_of store.words.tables store.words.root ≡ o
        → pairs_from eq store n o ≡ pairs_of_table store o
    root_there n e None there = pairs_none n
    root_there n e (Some t) there =
        from_content n store.words.root (Some t) there
        (let low = slice_get_within store.words.tables (store.words.root - 1) t (table_there store.words.tables store.words.root t there).1 in
        omega (arith, low, e))

    -- the content is the root table's
    pub root_content : content eq store ≡ pairs_of_table store (table_of store.words.tables store.words.root)
    root_content = root_there (length store.words.tables) refl (table_of store.words.tables store.words.root) refl

    -- no table of the law has a next one
    pub law_single : {A : Type 0} (hash : K → ℕ) (mode : Mode) (callers : List (Seat K V A)) (es : List (Exchange (Stored K V)))
        (call_traces : ℕ → CallTrace K V) → IsConsistent eq hash mode store callers es call_traces → (t : ℕ) → (run es start).next t ≡ 0
    law_single hash mode callers es call_traces kept t = kept.coded (Next t) ∙ next_none (table_of store.words.tables t) refl
      where
        next_none : (o : Option TableWords) → table_of store.words.tables t ≡ o → word_in (λ v. v.next) o ≡ 0
        next_none None e = refl
        next_none (Some v) e = single t v e
