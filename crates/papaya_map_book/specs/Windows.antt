-- A map as a call observes it, and what a step adds to that.
use Rattle.std.specs.Prelude.{◌≡◌, ◌+◌, ℕ, Bool, Option, None, Some, ◌++◌}
use mathlib.Core.List.{IsPrefix}
use denote.Bor.{Bor}
use Rattle.boxcar.specs.Table.{Where}
use Rattle.papaya_call.specs.declared.ask.At.{At}
use Rattle.papaya_call.specs.declared.ask.At.TheVariants.{Next, Slot}
use Rattle.papaya_call.specs.declared.ask.StepKind.{StepKind}
use Rattle.papaya_call.specs.declared.ask.StepKind.TheVariants.{Link}
use Rattle.papaya_map_book.specs.declared.keyed.Keyed as keyed
use Rattle.papaya_map_book.specs.declared.rule.entry.Named.{Named}
use Rattle.papaya_map_book.specs.declared.rule.entry.Named.TheVariants as names
use Rattle.papaya_map_book.specs.declared.window.Window.{Window}
use Rattle.papaya_map_book.specs.Books as books
use Rattle.papaya_map_book.specs.Calls as calls
use Rattle.papaya_map_book.specs.Hinted.{IsSlotHint}
use Rattle.papaya_map_book.specs.Logs.{Stored, steps_of}
use Rattle.papaya_map_book.specs.Makers as makers
use Rattle.papaya_map_book.specs.Own.{last_if}
use Rattle.papaya_map_book.specs.Parts.{begun_of}
use Rattle.papaya_map_book.specs.Plays as plays
use Rattle.papaya_map_book.specs.Sheets.{Sheet}

module _ {K V S H : Type 0} {d : keyed.Ghosts S K H} where
  -- The book is the same, and at least as much of its log has been observed.
  pub record Sees (old new : Window K V S H d) : Type 0 where
    pub book : new.book ≡ old.book
    pub log : IsPrefix old.sight.log new.sight.log

  -- The same, and no exchange of a slot was made through this window.
  pub record Observes (old new : Window K V S H d) : Type 0 where
    pub book : new.book ≡ old.book
    pub log : IsPrefix old.sight.log new.sight.log
    pub own : new.own ≡ old.own

  -- If `exchanged`, one more exchange of a slot was made through this window, which is the last
  -- exchange of the observed log; if not, none was made.
  abbrev pub Does : Bool → (old new : Window K V S H d) → Type 0
  Does exchanged old new = new.own.done ≡ old.own.done ++ last_if exchanged (steps_of new.sight.log)

  -- The gate of the book is open: calls may change the map.
  abbrev pub IsOpen : Window K V S H d → Type 0
  IsOpen w = w.book.now.gate.era ≡ None

  -- The rule of the book holds of what has been observed.
  abbrev pub IsLawful : Window K V S H d → Type 0
  IsLawful w = books.IsLawfulLog d.keys w.book.now w.sight.log

  abbrev pub IsIn : Window K V S H d → Named K V → Type 0
  IsIn w = books.IsIn w.book.now

  abbrev pub IsStoredAs : Window K V S H d → K → V → Stored K V → Type 0
  IsStoredAs w = books.IsStoredAs w.book.now

  abbrev pub IsTable : Window K V S H d → ℕ → Sheet → Type 0
  IsTable w = calls.IsTable w.sight.log

  abbrev pub HasCome : Window K V S H d → ℕ → Type 0
  HasCome w = calls.HasCome w.sight.log

  abbrev pub IsMade : Window K V S H d → Sheet → Type 0
  IsMade w sheet = makers.IsMade sheet w.sight.log

  -- An exchange that may carry a stored pair, and brings nothing in.
  abbrev pub CanCopy : Window K V S H d → At → Option StepKind → (kept : Option (Stored K V))
      → (words : ℕ × ℕ) → Type 0
  CanCopy w at kind kept words = plays.CanExchange d.keys.eq d.keys.hash (begun_of w.book.now.parts)
      at kind words.0 words.1 kept names.Nothing w.sight.log

  -- An exchange of a slot that brings nothing in.
  abbrev pub CanTrySlot : Window K V S H d → (t x : ℕ) → Option StepKind → (words : ℕ × ℕ) → Type 0
  CanTrySlot w t x kind words = CanCopy w (Slot t x) kind None words

  -- An exchange of a slot that brings in the pair that the call has made.
  abbrev pub CanPutSlot : Window K V S H d → (t x : ℕ) → Option StepKind → Stored K V
      → (words : ℕ × ℕ) → Type 0
  CanPutSlot w t x kind made words = plays.CanExchange d.keys.eq d.keys.hash
      (begun_of w.book.now.parts) (Slot t x) kind words.0 words.1 (Some made) (names.Pair made)
      w.sight.log

  -- An exchange that makes the table the next one after t, which had none.
  abbrev pub CanLink : Window K V S H d → (t : ℕ) → Where Sheet → Type 0
  CanLink w t table = plays.CanExchange d.keys.eq d.keys.hash (begun_of w.book.now.parts) (Next t)
      (Some Link) 0 (table.index + 1) None (names.Table table) w.sight.log

  module _ (w w' : Window K V S H d) where
    abbrev pub IsRoot : ℕ → Option (Bor Sheet) → Type 0
    IsRoot word = books.IsRoot d.keys w.book.now word w'.sight.log

    abbrev pub IsNext : ℕ → ℕ → Option (Bor Sheet) → Type 0
    IsNext number word = calls.IsNext d.keys.eq d.keys.hash (begun_of w.book.now.parts)
        w.book.now.begun.book number word w'.sight.log

    abbrev pub IsSlot : ℕ → ℕ → ℕ → Option (Stored K V) → Type 0
    IsSlot number place word = calls.IsSlot d.keys.eq d.keys.hash (begun_of w.book.now.parts)
        w.book.now.begun.book number place word w'.sight.log

    abbrev pub IsSlotWord : ℕ → ℕ → ℕ → Option (Named K V) → Type 0
    IsSlotWord number place word state = calls.IsSlotWord d.keys.eq d.keys.hash
        (begun_of w.book.now.parts) w.book.now.begun.book number place word w'.sight.log state

    -- The number may be the hint of the slot.
    abbrev pub IsHint : (number place hint : ℕ) → Type 0
    IsHint number place hint = IsSlotHint d.keys.eq d.keys.hash (begun_of w.book.now.parts) number
        place hint w'.sight.log

    -- The word at a place.
    abbrev pub IsWord : At → ℕ → Type 0
    IsWord at word = calls.IsWord d.keys.eq d.keys.hash (begun_of w.book.now.parts) at word
        w'.sight.log

    abbrev pub Opens : Where Sheet → ℕ → Type 0
    Opens table found = (state : Option (Named K V))
        × books.Opens d.keys w.book.now table w.sight.log found w'.sight.log state

    -- The same exchanges, after they were tried. Those of slots have the pair that the slot named
    -- before.
    abbrev pub CopiesWord : At → Option StepKind → (kept : Option (Stored K V)) → (words : ℕ × ℕ)
        → ℕ → Type 0
    CopiesWord at kind kept words found = (state : Option (Named K V))
        × calls.IsTried d.keys.eq d.keys.hash (begun_of w.book.now.parts) at kind words.0 words.1
        kept names.Nothing w.sight.log found w'.sight.log state

    abbrev pub CopiesSlot : (t x : ℕ) → Option StepKind → (kept : Option (Stored K V))
        → (words : ℕ × ℕ) → ℕ → Option (Stored K V) → Type 0
    CopiesSlot t x kind kept words found = calls.IsSlotTried d.keys.eq d.keys.hash
        (begun_of w.book.now.parts) w.book.now.begun.book t x kind words.0 words.1 kept
        names.Nothing w.sight.log found w'.sight.log

    abbrev pub TriesSlot : (t x : ℕ) → Option StepKind → (words : ℕ × ℕ) → ℕ → Option (Stored K V)
        → Type 0
    TriesSlot t x kind words = CopiesSlot t x kind None words

    abbrev pub PutsSlot : (t x : ℕ) → Option StepKind → Stored K V → (words : ℕ × ℕ) → ℕ
        → Option (Stored K V) → Type 0
    PutsSlot t x kind made words found = calls.IsSlotTried d.keys.eq d.keys.hash
        (begun_of w.book.now.parts) w.book.now.begun.book t x kind words.0 words.1 (Some made)
        (names.Pair made) w.sight.log found w'.sight.log

    abbrev pub Links : (t : ℕ) → Where Sheet → ℕ → Type 0
    Links t table found = (state : Option (Named K V)) × calls.IsTried d.keys.eq d.keys.hash
        (begun_of w.book.now.parts) (Next t) (Some Link) 0 (table.index + 1) None
        (names.Table table) w.sight.log found w'.sight.log state

  -- The hint may be written.
  abbrev pub MayHint : Window K V S H d → (number place hint : ℕ) → Type 0
  MayHint w = IsHint w w
