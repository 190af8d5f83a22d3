-- The steps of makers of tables: a seal is added and words are dealt for it, the table is brought
-- in, and the book learns its name.
use Rattle.std.specs.Prelude.{◌≡◌, ◌⊎◌, ℕ, ◌+◌, ◌<◌, ◌≤◌, ◌==◌, Bool, MatchBool, Option, None, Some, List, [], ◌∷◌, length, slice_get}
use mathlib.Core.List.{IsPrefix}
use Rattle.logbook.specs.Pages.{View, Step as Book_step, nib, no_nib, may_make}
use Rattle.papaya_call.specs.declared.ask.At.{At}
use Rattle.papaya_call.specs.declared.ask.At.TheVariants.{Root, Next, Aborted, Done, Slot, Made}
use Rattle.papaya_map_book.specs.Sheets.{Sheet}
use Rattle.boxcar.specs.Table.{Where}
use Rattle.papaya_call.specs.declared.ask.StepKind.{StepKind}
use Rattle.papaya_map_book.specs.declared.rule.entry.Begun.{Begun}
use Rattle.papaya_map_book.specs.declared.rule.entry.Named.{Named}
use Rattle.papaya_map_book.specs.declared.rule.entry.Named.TheVariants as names
use Rattle.papaya_map_book.specs.declared.rule.entry.Event.{Event}
use Rattle.papaya_map_book.specs.declared.rule.entry.Event.TheVariants.{Draw}
use Rattle.papaya_map_book.specs.Logs.{Stored, brought, kind_of, made_of, name_in, name_of, number_of, owner, place_of, steps_of, table_in}
use Rattle.papaya_map_book.specs.Rows.{row_len}
use Rattle.papaya_map_book.specs.Plays.{MayStep, Tried}
use Rattle.papaya_map_book.specs.Rule.{IsLawfulLog, word_in}

module _ {K V S : Type 0} where
  -- The `count` words of the row from `first` on are for the table with this seal, which is no word
  -- of the row.
  pub record AreDealt (first count seal : ℕ) (log : List (Event K V S)) : Type 0 where
    pub past : 3 ≤ first
    pub within : first + count ≤ 3 + row_len
    pub sealed : 3 + row_len ≤ seal
    pub owned : (i : ℕ) → i < count → owner (first + i) log ≡ Some seal

  -- The first of the words that a maker asks for, and how many.
  abbrev pub first_of : Event K V S → ℕ
  first_of (Draw book first count) = first
  first_of _ = 0

  abbrev pub count_of : Event K V S → ℕ
  count_of (Draw book first count) = count
  count_of _ = 0

  -- The words were dealt, and a seal was added, with the pen to make it; or another word was found.
  abbrev pub Deals : Book_step (Event K V S) → View (Event K V S) (Named K V) → ℕ
      → View (Event K V S) (Named K V) → Type 0
  Deals s v found w = MatchBool (found == s.old) ((seal : ℕ) × (w.1.0 ≡ nib may_make seal 0)
      × (w.1.1 ≡ Some names.Nothing) × AreDealt (first_of s.ask) (count_of s.ask) seal w.0)
      (Unit {0})

  -- The book now has this name, unless another word was found.
  abbrev pub Calls : Book_step (Event K V S) → View (Event K V S) (Named K V) → ℕ
      → View (Event K V S) (Named K V) → Type 0
  Calls s v found w = MatchBool (found == s.old) (name_in w.0 ≡ name_of s.ask) (Unit {0})

-- The key of a word of a table.
abbrev pub key_of : Sheet → At → Option ℕ
key_of s Root = None
key_of s (Next t) = Some s.next
key_of s (Aborted t) = Some s.seal
key_of s (Done t c) = slice_get s.done c
key_of s (Slot t x) = slice_get s.slots x
key_of s Made = None

-- The table of a place.
abbrev pub table_of : At → ℕ
table_of Root = 0
table_of (Next t) = t
table_of (Aborted t) = t
table_of (Done t c) = t
table_of (Slot t x) = t
table_of Made = 0

-- The words of the table were dealt for its seal, which is no word of the row, and no two of its
-- places share a word.
pub record IsMade {K V S : Type 0} (sheet : Sheet) (log : List (Event K V S)) : Type 0 where
  pub some_slot : 0 < length sheet.slots
  pub past : (at : At) (k : ℕ) → key_of sheet at ≡ Some k → 3 ≤ k
  pub sealed : 3 + row_len ≤ sheet.seal
  pub owned : (at : At) (k : ℕ) → key_of sheet at ≡ Some k
      → (k ≡ sheet.seal) ⊎ (owner k log ≡ Some sheet.seal)
  pub apart : (at at' : At) (k : ℕ) → table_of at ≡ table_of at' → key_of sheet at ≡ Some k
      → key_of sheet at' ≡ Some k → at ≡ at'

-- The keys are the numbers from `first` on.
abbrev pub AreFrom : List ℕ → (first : ℕ) → Type 0
AreFrom [] first = Unit {0}
AreFrom (k ∷ ks) first = (k ≡ first) × AreFrom ks (first + 1)

-- An exchange that brings in the table `w` may be made at any later point at which the place has
-- the old word, and no other table has that number then.
abbrev pub CanBring : {K V S : Type 0} → (K → K → Bool) → (S → K → ℕ) → Begun K V S → At
    → Option StepKind → (old new : ℕ) → Option (Stored K V) → Where Sheet → List (Event K V S)
    → Type 0
CanBring eq hash b at kind old new made w seen = (log : List (Event _ _ _)) → IsPrefix seen log
    → IsLawfulLog eq hash b log → word_in eq hash b log at ≡ old
    → MayStep eq hash b at kind new made (names.Table w) log
    × (table_in (steps_of log) (number_of w) ≡ None)

-- The exchange brought in a table and used up the pen of its seal; or another word was found, and
-- the pen is as it was.
abbrev pub Brings : {K V S : Type 0} → (K → K → Bool) → (S → K → ℕ) → Book_step (Event K V S)
    → View (Event K V S) (Named K V) → ℕ → View (Event K V S) (Named K V) → Type 0
Brings eq hash s v found w = Tried eq hash (place_of s.ask) (kind_of s.ask) s.old s.new
    (made_of s.ask) (brought s.ask) v.0 found w.0 w.1.1
    × MatchBool (found == s.old) (w.1.0 ≡ no_nib) (w.1.0 ≡ v.1.0)
