-- The finite map that a core represents.
use Rattle.std.specs.Prelude.{ℕ, zero, suc, ◌++◌, Bool, Option, None, Some, List, [], ◌∷◌, length}
use Rattle.papaya_words.specs.Word.{kind_of, pair_of as number_of}
use Rattle.papaya_words.specs.Table.{TableWords}
use Rattle.papaya_words.specs.declared.word.Kind.{Kind}
use Rattle.papaya_words.specs.declared.word.Kind.TheVariants.{Live, Marked}
use Rattle.papaya_words_law.specs.ChainContent.{joined}
use Rattle.papaya_words_law.specs.Content.{lookup}
use Rattle.papaya_core_store.specs.Tables.{table_of}
use Rattle.papaya_core_store.specs.Store.{StoreState, Stored, pair_of}
use Rattle.papaya_core_timeline.specs.Core.{CoreState}
use Rattle.papaya_core_timeline.specs.Maps.{Map}

-- an optional value as a list
abbrev pub listed : {A : Type 0} → Option A → List A
listed None = []
listed (Some a) = a ∷ []

module _ {K V S : Type 0} (store : StoreState K V S) where
  -- the pair of number n, if a word of this kind holds a pair of the map: it is Live or Marked
  abbrev pub pairs_of_kind : Kind → ℕ → List (Stored K V)
  pairs_of_kind Live n = listed (pair_of store n)
  pairs_of_kind Marked n = listed (pair_of store n)
  pairs_of_kind _ n = []

  -- the pairs of a table's slots, in their order
  abbrev pub pairs_of_slots : List ℕ → List (Stored K V)
  pairs_of_slots [] = []
  pairs_of_slots (word ∷ words) = pairs_of_kind (kind_of word) (number_of word) ++ pairs_of_slots
      words

module _ {K V S : Type 0} (eq : K → K → Bool) (store : StoreState K V S) where
  -- The pairs of the tables from this one on, over at most n tables. If two tables have a pair of
  -- the same key, the map has the one in the earlier table.
  abbrev pub pairs_from : ℕ → Option TableWords → List (Stored K V)
  pairs_from zero from = []
  pairs_from (suc n) None = []
  pairs_from (suc n) (Some t) = joined eq (λ p. p.key) (pairs_of_slots store t.slots)
      (pairs_from n (table_of store.words.tables t.next))

  -- the content: the pairs of the tables from the root on
  abbrev pub content : List (Stored K V)
  content = pairs_from (length store.words.tables)
      (table_of store.words.tables store.words.root)

-- the finite map that a store represents: for each class of equal keys, its pair in the content
abbrev pub map_in : {K V S : Type 0} → (K → K → Bool) → StoreState K V S → Map K V
map_in eq store = lookup eq (λ p. p.key) (content eq store)

-- the finite map that a core represents
abbrev pub map_of : {K V S A : Type 0} → (K → K → Bool) → CoreState K V S A → Map K V
map_of eq s = map_in eq s.store
