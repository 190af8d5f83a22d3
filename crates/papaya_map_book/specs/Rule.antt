-- The rule of the book.
use Rattle.std.specs.Prelude.{◌≡◌, ◌⊎◌, ℕ, ◌+◌, ◌^◌, ◌<◌, ◌≤◌, Bool, true, false, Option, None, Some, List, ◌∷◌, length}
use Rattle.boxcar.specs.Table.{Shows}
use Rattle.logbook.specs.Pages.{Book, Cell, cell}
use Rattle.papaya_call.specs.declared.ask.At.{At}
use Rattle.papaya_call.specs.declared.ask.At.TheVariants.{Root, Next, Aborted, Done, Slot, Made}
use Rattle.papaya_words_law.specs.Exchange.{Empty, State, start}
use Rattle.papaya_words_law.specs.Allows.{AllAllowed}
use Rattle.papaya_words_law.specs.Grows.{AllSized}
use Rattle.papaya_call_law.specs.TrueAnswers.{word_of}
use Rattle.papaya_map_book.specs.declared.rule.entry.Named.{Named}
use Rattle.papaya_map_book.specs.declared.rule.entry.Named.TheVariants as names
use Rattle.papaya_map_book.specs.declared.rule.entry.Begun.{Begun}
use Rattle.papaya_map_book.specs.declared.rule.entry.Step.{Step}
use Rattle.papaya_map_book.specs.declared.rule.entry.Event.{Event}
use Rattle.papaya_map_book.specs.declared.rule.entry.Event.TheVariants.{Begin}
use Rattle.papaya_map_book.specs.Pairs.{IsKeyIn, IsValueIn}
use Rattle.papaya_map_book.specs.Logs.{Entered, coding_of, dealt, entries_of, exchanges_of, in_table}
use Rattle.papaya_map_book.specs.Logs.{key_at, name_in, owner, setting_of, state_of, steps_of, table_in}
use Rattle.papaya_map_book.specs.Rows.{row_len}

-- The words of the table are as they were at the start.
pub record IsBlank {P : Type 0} (s : State P) (t : ℕ) : Type 0 where
  pub next : s.next t ≡ 0
  pub aborted : s.aborted t ≡ false
  pub done : (c : ℕ) → s.done t c ≡ false
  pub slots : (x : ℕ) → s.slot t x ≡ Empty

-- The seal of the table of a place.
abbrev pub seal_at : {K V : Type 0} → List (Step K V) → At → Option ℕ
seal_at es Root = None
seal_at es (Next t) = in_table (λ s. Some s.seal) (table_in es t)
seal_at es (Aborted t) = in_table (λ s. Some s.seal) (table_in es t)
seal_at es (Done t c) = in_table (λ s. Some s.seal) (table_in es t)
seal_at es (Slot t x) = in_table (λ s. Some s.seal) (table_in es t)
seal_at es Made = None

-- The place is a word of the map itself, and in no table.
abbrev pub IsOfMap : At → Type 0
IsOfMap Root = Unit {0}
IsOfMap Made = Unit {0}
IsOfMap _ = ⊥

-- The amount that the book's name adds to the word that only makers use.
abbrev pub flag : Option Book → ℕ
flag None = 0
flag (Some b) = 1

-- The word is the seal, which is no word of the row.
abbrev pub IsSealOf : (k : ℕ) → (seal : Option ℕ) → Type 0
IsSealOf k seal = (seal ≡ Some k) × (3 + row_len ≤ k)

module _ {K V S : Type 0} where
  -- The pair or the table is stored in the arenas that the book was opened with. The words of a
  -- table belong to the book of this name.
  abbrev pub IsPlaced : Begun K V S → Option Book → Named K V → Type 0
  IsPlaced b name names.Nothing = Unit {0}
  IsPlaced b name (names.Pair p) = Shows b.pairs p × IsKeyIn b.pairs p.value.key
      × IsValueIn b.pairs p.value
  IsPlaced b name (names.Table w) = Shows b.tables w × (w.index < 2 ^ 32)
      × (name ≡ Some w.value.book)

  module _ (eq : K → K → Bool) (hash : S → K → ℕ) where
    -- The rule for the log alone, if the book was opened with `b`: its exchanges are allowed, and
    -- what it brought in is stored in the arenas.
    pub record IsLawfulLog (b : Begun K V S) (log : List (Event K V S)) : Type 0 where
      pub rest : List (Event K V S)
      pub is : log ≡ Begin b ∷ rest
      pub allowed : AllAllowed (setting_of eq (hash b.hasher) b.mode b.limit log) start
          (exchanges_of log)
      pub sized : AllSized (entries_of log)
      pub placed : (n : Named K V) → Entered n log → IsPlaced b (name_in log) n
      -- A table that was not brought in is blank, and before there is a root none was brought in.
      pub blank : (t : ℕ) → table_in (steps_of log) t ≡ None → IsBlank (state_of log) t
      pub unopened : (state_of log).root ≡ 0 → (t : ℕ) → table_in (steps_of log) t ≡ None
      -- No two places share a word.
      pub apart : (at at' : At) (k : ℕ) → key_at (steps_of log) at ≡ Some k
          → key_at (steps_of log) at' ≡ Some k → at ≡ at'

    -- The word at a place after a log.
    abbrev pub word_in : Begun K V S → List (Event K V S) → At → ℕ
    word_in b log at = word_of (setting_of eq (hash b.hasher) b.mode b.limit log)
        (coding_of (hash b.hasher)) (state_of log) at

    -- The words in the book are the codes of what the exchanges leave.
    pub record AreCodes (cells : List Cell) (log : List (Event K V S)) : Type 0 where
      pub begun : Begun K V S
      pub lawful : IsLawfulLog begun log
      -- The words of the map and the row are home.
      pub many : 3 + row_len ≤ length cells
      pub homes : (k : ℕ) → k < 3 + row_len → (cell cells k).1 ≡ true
      -- The word that only makers use is the number of words of the row that were dealt, plus 1 if
      -- the book has a name.
      pub maker : cell cells 1 ≡ (flag (name_in log) + dealt log, true)
      pub room : dealt log ≤ row_len
      pub coded : (at : At) (k : ℕ) → key_at (steps_of log) at ≡ Some k
          → cell cells k ≡ (word_in begun log at, true)
      pub counted : (at : At) (k : ℕ) → key_at (steps_of log) at ≡ Some k
          → (k < length cells) × (IsOfMap at ⊎ (3 ≤ k))
      -- A table's words were dealt for its seal, which is no word of the row.
      pub owned : (at : At) (k : ℕ) → key_at (steps_of log) at ≡ Some k
          → IsOfMap at ⊎ (IsSealOf k (seal_at (steps_of log) at)
          ⊎ (owner k log ≡ seal_at (steps_of log) at))
      -- Words that are home hold 0 as long as they are in no table.
      pub fresh : (k : ℕ) → 3 ≤ k → (cell cells k).1 ≡ true
          → ((at : At) → key_at (steps_of log) at ≡ Some k → ⊥) → (cell cells k).0 ≡ 0
