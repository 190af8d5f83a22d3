-- The words of one table, and the lengths of tables.
use Rattle.std.specs.Prelude.{ℕ, ◌*◌, ◌/◌, ◌-◌, Bool, ◌||◌, ◌==◌, nat_le, if◌then◌else◌, max, List, replicate, slice_index, slice_set}
use Rattle.papaya_words.specs.Probe.{limit_of}

-- the words of a table: its number, its probe limit, its slot words and their hints, the number of
-- the next table or 0, 1 if it was aborted, and a word for each chunk of the table before it, which
-- is 1 once that chunk is copied
pub record TableWords : Type 0 where
  pub number : ℕ
  pub limit : ℕ
  pub slots : List ℕ
  pub hints : List ℕ
  pub next : ℕ
  pub aborted : ℕ
  pub done : List ℕ

-- a new table: each slot is empty, and all other words are 0
abbrev pub new_table : (number len limit chunks : ℕ) → TableWords
new_table number len limit chunks = record {
  number = number;
  limit = limit;
  slots = replicate len 0;
  hints = replicate len 0;
  next = 0;
  aborted = 0;
  done = replicate chunks 0;
}

-- the hints after one was written for slot i: a hint that is already there stays
abbrev pub noted : List ℕ → ℕ → ℕ → List ℕ
noted hints i hint = if slice_index hints i == 0 then slice_set hints i hint else hints

-- The length of the table after one of length `len`, if the map counts `count` pairs: twice that
-- from half full on or if a pair did not fit, half of that up to an eighth, but no less than
-- `initial`, and otherwise the same.
abbrev pub length_after : ℕ → ℕ → ℕ → Bool → ℕ
length_after len count initial did_not_fit =
    if did_not_fit || nat_le (len / 2) count then 2 * len
    else if nat_le count (len / 8) then max initial (len / 2)
    else len

-- the probe limit of the table after one of `before` slots: every slot is probed if a pair did not
-- fit or the new table is no longer
abbrev pub limit_after : (len before : ℕ) → Bool → ℕ
limit_after len before did_not_fit = if did_not_fit || nat_le len before then len - 1
    else limit_of len
