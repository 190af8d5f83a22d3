-- An iteration over the map, and the pairs that it has yet to return.
use Rattle.std.specs.Prelude.{◌≡◌, ◌⊎◌, ℕ, zero, suc, ◌+◌, ◌<◌, ◌≤◌, ◌||◌, Bool, false, List, [], ◌∷◌, ◌++◌, Option, Some, None, drop, is_some, length, map}
use denote.Bor.{Bor}
use Rattle.papaya_words.specs.Probe.{place}
use Rattle.papaya_words.specs.Table.{TableWords}
use Rattle.papaya_words.specs.Word.{kind_of, pair_of as number_of}
use Rattle.papaya_words.specs.declared.resize_mode.ResizeMode.TheVariants.{Blocking}
use Rattle.papaya_words.specs.declared.word.Kind.TheVariants.{Empty, Live, Marked}
use Rattle.papaya_call.specs.declared.ask.At.TheVariants.{Next, Slot}
use Rattle.papaya_words_law.specs.ChainContent.{missing_in}
use Rattle.papaya_words_law.specs.Content.{lookup}
use Rattle.papaya_core_timeline.specs.Content.{pairs_from, pairs_of_slots}
use Rattle.papaya_core_store.specs.Store.{StoreState, Stored, pair_of}
use Rattle.papaya_core_store.specs.Tables.{table_of, word_at}
use Rattle.papaya_seq.specs.Map.{MapState, entry_of, slots_in}
use Rattle.papaya_seq.specs.declared.walks.Position.{Position}

module _ {K V S : Type 0} (store : StoreState K V S) where
  -- the pairs of a table, if it is there
  abbrev pub pairs_in_table : Option TableWords → List (Stored K V)
  pairs_in_table None = []
  pairs_in_table (Some t) = pairs_of_slots store t.slots

  abbrev pub pairs_at : ℕ → List (Stored K V)
  pairs_at t = pairs_in_table (table_of store.words.tables t)

  -- the number of the table that comes n links after table t
  abbrev pub table_after : ℕ → ℕ → ℕ
  table_after zero t = t
  table_after (suc n) t = table_after n (word_at store.words (Next t))

  -- some slot of table t is Marked and names the pair of number n
  pub record HasMark (t n : ℕ) : Type 0 where
    pub slot : ℕ
    pub within : slot < slots_in (table_of store.words.tables t)
    pub marked : kind_of (word_at store.words (Slot t slot)) ≡ Marked
    pub names : number_of (word_at store.words (Slot t slot)) ≡ n

  -- No place of this hash before `stop` has such a word, and the search ends at `stop`: there is no
  -- further place, or that place is empty.
  pub record HasNoMarkAt (hash t n : ℕ) (table : TableWords) : Type 0 where
    pub stop : ℕ
    pub none : (j : ℕ) → j < stop
        → kind_of (word_at store.words (Slot t (place hash (length table.slots) j))) ≡ Marked
        → number_of (word_at store.words (Slot t (place hash (length table.slots) j))) ≡ n → ⊥
    pub ends : (table.limit < stop)
        ⊎ (kind_of (word_at store.words (Slot t (place hash (length table.slots) stop))) ≡ Empty)

  abbrev pub HasNoMarkIn : (hash t n : ℕ) → Option TableWords → Type 0
  HasNoMarkIn hash t n None = Unit {0}
  HasNoMarkIn hash t n (Some table) = HasNoMarkAt hash t n table

  abbrev pub HasNoMark : (hash t n : ℕ) → Type 0
  HasNoMark hash t n = HasNoMarkIn hash t n (table_of store.words.tables t)

module _ {K V S : Type 0} (eq : K → K → Bool) (store : StoreState K V S) where
  -- one of `many` tables, from table t on, has a pair of the key
  abbrev pub has_in : (many t : ℕ) → K → Bool
  has_in zero t k = false
  has_in (suc many) t k = is_some (lookup eq (λ p. p.key) (pairs_at store t) k)
      || has_in many (word_at store.words (Next t)) k

  -- The pairs of a table from slot `slot` on, and then the pairs of the tables after it, at most n,
  -- whose keys the table does not have.
  abbrev pub rest_of : (slot n : ℕ) → Option TableWords → List (Stored K V)
  rest_of slot n None = []
  rest_of slot n (Some t) = pairs_of_slots store (drop slot t.slots)
      ++ missing_in eq (λ p. p.key) (pairs_of_slots store t.slots)
      (pairs_from eq store n (table_of store.words.tables t.next))

  -- The same after `passed` tables, from table t on, were passed, over at most n tables. The pairs
  -- whose keys a passed table has are left out.
  abbrev pub left_from : (passed slot n t : ℕ) → List (Stored K V)
  left_from zero slot zero t = []
  left_from zero slot (suc n) t = rest_of slot n (table_of store.words.tables t)
  left_from (suc passed) slot zero t = []
  left_from (suc passed) slot (suc n) t = missing_in eq (λ p. p.key) (pairs_at store t)
      (left_from passed slot n (word_at store.words (Next t)))

  -- the pairs that an iteration at this position has yet to return
  abbrev pub left_to : Position → List (Stored K V)
  left_to at = left_from at.passed at.slot (length store.words.tables) store.words.root

  abbrev pub entries_left : Position → List (K × V)
  entries_left at = map entry_of (left_to at)

  -- A step over a slot returns None if the same pairs are left after it, and otherwise the first
  -- pair that was left.
  abbrev pub IsStepped : Position → Option ℕ → Type 0
  IsStepped at None = left_to at ≡ left_to (record at { slot = at.slot + 1 })
  IsStepped at (Some n) = (p : Stored K V) × (pair_of store n ≡ Some p)
      × (left_to at ≡ p ∷ left_to (record at { slot = at.slot + 1 }))

  -- The position of an iteration after it was asked for the next pair of its table: after that
  -- pair, or, if it returned None, after the last slot of the table.
  abbrev pub IsNextHere : Position → Option ℕ → Position → Type 0
  IsNextHere at None at' = (left_to at ≡ left_to at')
      × (slots_in (table_of store.words.tables at'.table) ≤ at'.slot)
  IsNextHere at (Some n) at' = (p : Stored K V) × (pair_of store n ≡ Some p)
      × (left_to at ≡ p ∷ left_to at')

  -- the same for the next pair of the map; None means that no pair is left
  abbrev pub IsNext : Position → Option ℕ → Position → Type 0
  IsNext at None at' = (left_to at ≡ []) × (left_to at' ≡ [])
  IsNext at (Some n) at' = (p : Stored K V) × (pair_of store n ≡ Some p)
      × (left_to at ≡ p ∷ left_to at')

-- the word at this position is Live or Marked and names the pair of number n
pub record IsWord {K V S : Type 0} (store : StoreState K V S) (at : Position) (n : ℕ) : Type 0 where
  pub within : at.slot < slots_in (table_of store.words.tables at.table)
  pub kind : (kind_of (word_at store.words (Slot at.table at.slot)) ≡ Live)
      ⊎ (kind_of (word_at store.words (Slot at.table at.slot)) ≡ Marked)
  pub names : number_of (word_at store.words (Slot at.table at.slot)) ≡ n

-- the iteration is in the root, to which `root` refers and which has `slots` slots
abbrev pub IsInRoot : {K V S : Type 0} → StoreState K V S → Position → Option (Bor TableWords) → ℕ
    → Type 0
IsInRoot store at None slots = ⊥
IsInRoot store at (Some root) slots = (table_of store.words.tables at.table ≡ Some root.now)
    × (at.passed ≡ 0) × (slots ≡ length root.now.slots)

-- the same, or the iteration has no slots to read
abbrev pub IsHeld : {K V S : Type 0} → StoreState K V S → Position → Option (Bor TableWords) → ℕ
    → Type 0
IsHeld store at root slots = (slots ≡ 0) ⊎ IsInRoot store at root slots

-- an iteration may be at this position: its table comes `passed` links after the root
pub record IsPosition {K V S : Type 0} (s : MapState K V S) (at : Position) : Type 0 where
  pub on : table_after s.store at.passed s.store.words.root ≡ at.table
  -- with blocking the root has all pairs
  pub alone : s.mode.resize ≡ Blocking → at.passed ≡ 0
