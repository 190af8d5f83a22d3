-- The calls of a book: what they hold and return, by the keys of the map and the book itself.
use Rattle.std.specs.Prelude.{◌≡◌, ◌+◌, ◌<◌, ◌^◌, ◌==◌, ℕ, cond, false, Option, None, Some, List}
use denote.Bor.{Bor}
use Rattle.logbook.specs.Pages.{nib, may_write}
use Rattle.logbook.specs.declared.tokens.Pen.{Pen}
use Rattle.boxcar.specs.Table.{Where}
use Rattle.papaya_call.specs.declared.ask.At.{At}
use Rattle.papaya_call.specs.declared.ask.At.TheVariants.{Root}
use Rattle.papaya_call.specs.declared.ask.StepKind.TheVariants.{Open}
use Rattle.papaya_map_book.specs.declared.book.Book.{Book}
use Rattle.papaya_map_book.specs.declared.rule.entry.Event.{Event}
use Rattle.papaya_map_book.specs.declared.rule.entry.Named.{Named}
use Rattle.papaya_map_book.specs.declared.rule.entry.Named.TheVariants as names
use Rattle.papaya_map_book.specs.declared.rule.steps.Laying.{Laying}
use Rattle.papaya_map_book.specs.declared.rule.steps.PutWish.{PutWish}
use Rattle.papaya_map_book.specs.declared.rule.steps.Wish.{Wish}
use Rattle.papaya_map_book.specs.Calls as calls
use Rattle.papaya_map_book.specs.Keys.{Keys}
use Rattle.papaya_map_book.specs.Logs.{Stored}
use Rattle.papaya_map_book.specs.Makers as makers
use Rattle.papaya_map_book.specs.Parts.{begun_of}
use Rattle.papaya_map_book.specs.Plays as plays
use Rattle.papaya_map_book.specs.Rule as rule
use Rattle.papaya_map_book.specs.Sheets.{Sheet}

module _ {K V S H : Type 0} (book : Book K V S H) where
  -- The pair or the table is stored in the arenas of the book.
  abbrev pub IsIn : Named K V → Type 0
  IsIn = rule.IsPlaced (begun_of book.parts) (Some book.begun.book)

  -- The pair is stored in the arena with this key and this value, and its number fits in a word.
  pub record IsStoredAs (key : K) (value : V) (q : Stored K V) : Type 0 where
    pub placed : IsIn (names.Pair q)
    pub key_is : q.value.key.value ≡ key
    pub value_is : q.value.value ≡ value
    pub number : q.index < 2 ^ 48

  -- The pen of the table's seal.
  abbrev pub Seals : Pen → Sheet → Type 0
  Seals pen sheet = (pen.book ≡ book.begun.book) × (pen.nib ≡ nib may_write sheet.seal 0)

-- The pen is of the same book, and has the same nib if another word was found.
abbrev pub IsLeft : (old new : Pen) → (found expected : ℕ) → Type 0
IsLeft old new found expected = (new.book ≡ old.book)
    × ((found == expected) ≡ false → new.nib ≡ old.nib)

-- The number of the root after an attempt to open this table, which found the number `found`.
abbrev pub root_then : Where Sheet → ℕ → ℕ
root_then table found = cond (found == 0) (table.index + 1) found

module _ {K V S H : Type 0} (keys : Keys K S) (book : Book K V S H) where
  abbrev pub IsLawfulLog : List (Event K V S) → Type 0
  IsLawfulLog = rule.IsLawfulLog keys.eq keys.hash (begun_of book.parts)

  -- The word at a place, and what it names.
  abbrev pub IsRead : At → ℕ → List (Event K V S) → Option (Named K V) → Type 0
  IsRead = calls.IsRead keys.eq keys.hash (begun_of book.parts)

  abbrev pub IsRoot : ℕ → List (Event K V S) → Option (Bor Sheet) → Type 0
  IsRoot = calls.IsRoot keys.eq keys.hash (begun_of book.parts) book.begun.book

  -- An exchange that brings nothing in.
  abbrev pub CanTry : Wish K V → (old new : ℕ) → List (Event K V S) → Type 0
  CanTry wish old new = plays.CanExchange keys.eq keys.hash (begun_of book.parts) wish.at wish.kind
      old new wish.kept.now names.Nothing

  abbrev pub Tries : Wish K V → (old new : ℕ) → List (Event K V S) → ℕ → List (Event K V S)
      → Option (Named K V) → Type 0
  Tries wish old new = calls.IsTried keys.eq keys.hash (begun_of book.parts) wish.at wish.kind old
      new wish.kept.now names.Nothing

  -- An exchange that brings in the pair that the call has made.
  abbrev pub CanPut : PutWish K V → (old new : ℕ) → List (Event K V S) → Type 0
  CanPut put old new = plays.CanExchange keys.eq keys.hash (begun_of book.parts) put.at put.kind old
      new (Some put.made.now) (names.Pair put.made.now)

  abbrev pub Puts : PutWish K V → (old new : ℕ) → List (Event K V S) → ℕ → List (Event K V S)
      → Option (Named K V) → Type 0
  Puts put old new = calls.IsTried keys.eq keys.hash (begun_of book.parts) put.at put.kind old new
      (Some put.made.now) (names.Pair put.made.now)

  -- An exchange that brings in the table.
  abbrev pub CanBring : Laying K V S H → (old new : ℕ) → List (Event K V S) → Type 0
  CanBring laying old new = makers.CanBring keys.eq keys.hash (begun_of book.parts) laying.at
      laying.kind old new None laying.table.now

  abbrev pub Brings : Laying K V S H → (old new : ℕ) → List (Event K V S) → ℕ → List (Event K V S)
      → Option (Named K V) → Type 0
  Brings laying old new = calls.IsTried keys.eq keys.hash (begun_of book.parts) laying.at
      laying.kind old new None (names.Table laying.table.now)

  -- An exchange that makes the table the root, if there is none.
  abbrev pub Opens : Where Sheet → List (Event K V S) → ℕ → List (Event K V S) → Option (Named K V)
      → Type 0
  Opens table = calls.IsTried keys.eq keys.hash (begun_of book.parts) Root (Some Open) 0
      (table.index + 1) None (names.Table table)
