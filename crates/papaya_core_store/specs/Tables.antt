-- The words of all tables.
use Rattle.std.specs.Prelude.{ℕ, ◌-◌, ◌==◌, if◌then◌else◌, List, Option, Some, None, slice_get, slice_index, slice_set, nat_lt, length}
use Rattle.papaya_words.specs.Table.{TableWords, noted}
use Rattle.papaya_call.specs.declared.ask.At.{At}
use Rattle.papaya_call.specs.declared.ask.At.TheVariants.{Root, Next, Aborted, Done, Slot, Made}

-- the tables: the number of the root, or 0; the list of the tables, of which the first has number
-- 1; and how many numbers were taken for pairs
pub record Tables : Type 0 where
  pub root : ℕ
  pub tables : List TableWords
  pub made : ℕ

abbrev pub table_of : List TableWords → ℕ → Option TableWords
table_of tables n = if n == 0 then None else slice_get tables (n - 1)

-- a word of a table, 0 if there is no such table
abbrev pub word_in : (TableWords → ℕ) → Option TableWords → ℕ
word_in word None = 0
word_in word (Some t) = word t

-- the word at `at`
abbrev pub word_at : Tables → At → ℕ
word_at w Root = w.root
word_at w (Next n) = word_in (λ t. t.next) (table_of w.tables n)
word_at w (Aborted n) = word_in (λ t. t.aborted) (table_of w.tables n)
word_at w (Done n chunk) = word_in (λ t. slice_index t.done chunk) (table_of w.tables n)
word_at w (Slot n i) = word_in (λ t. slice_index t.slots i) (table_of w.tables n)
word_at w Made = w.made

-- a table after one of its words was written
abbrev pub written : At → TableWords → ℕ → TableWords
written Root t word = t
written (Next n) t word = record t { next = word }
written (Aborted n) t word = record t { aborted = word }
written (Done n chunk) t word = if nat_lt chunk (length t.done)
    then record t { done = slice_set t.done chunk word } else t
written (Slot n i) t word = if nat_lt i (length t.slots)
    then record t { slots = slice_set t.slots i word } else t
written Made t word = t

-- the list of tables after a word of the table at index k was written
abbrev pub put_in : At → Option TableWords → List TableWords → ℕ → ℕ → List TableWords
put_in at None tables k word = tables
put_in at (Some t) tables k word = slice_set tables k (written at t word)

abbrev pub put_at : At → ℕ → Tables → ℕ → Tables
put_at at n w word = if n == 0 then w else record w
    { tables = put_in at (slice_get w.tables (n - 1)) w.tables (n - 1) word }

-- all words after one of them was written
abbrev pub put : Tables → At → ℕ → Tables
put w Root word = record w { root = word }
put w (Next n) word = put_at (Next n) n w word
put w (Aborted n) word = put_at (Aborted n) n w word
put w (Done n chunk) word = put_at (Done n chunk) n w word
put w (Slot n i) word = put_at (Slot n i) n w word
put w Made word = record w { made = word }

-- the hint of slot i of a table, 0 if there is no such slot
abbrev pub slot_hint : TableWords → ℕ → ℕ
slot_hint t i = if nat_lt i (length t.slots) then slice_index t.hints i else 0

-- the hint of slot i of table n
abbrev pub hint_at : Tables → (n i : ℕ) → ℕ
hint_at w n i = word_in (λ t. slot_hint t i) (table_of w.tables n)

-- a table after a hint was written for slot i: a hint that is already there stays
abbrev pub hinted : TableWords → (i hint : ℕ) → TableWords
hinted t i hint = if nat_lt i (length t.slots) then record t { hints = noted t.hints i hint } else t

-- the list of tables after a hint of the table at index k was written
abbrev pub hint_in : Option TableWords → List TableWords → (k i hint : ℕ) → List TableWords
hint_in None tables k i hint = tables
hint_in (Some t) tables k i hint = slice_set tables k (hinted t i hint)

-- all words after a hint was written
abbrev pub note : Tables → (n i hint : ℕ) → Tables
note w n i hint = if n == 0 then w else record w
    { tables = hint_in (slice_get w.tables (n - 1)) w.tables (n - 1) i hint }
