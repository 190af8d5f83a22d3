-- The contents of the book beside the log: for each event, the resource which shows what it brought
-- in; and the rights to make those words of the row that were not dealt. Also how a client's update
-- changes the log.
use Rattle.std.specs.Prelude.{◌≡◌, ◌⊎◌, ℕ, ◌+◌, ◌-◌, ◌≤◌, Option, None, Some, List, [], ◌∷◌, ◌++◌}
use base.Fml.{Fml, ftrue, fsep}
use Rattle.boxcar.specs.Table.{Where}
use Rattle.logbook.specs.Kept.{pens_own}
use Rattle.logbook.specs.Pages.{Book}
use Rattle.papaya_map_book.specs.Sheets.{Sheet}
use Rattle.papaya_map_book.specs.declared.rule.entry.Named.{Named}
use Rattle.papaya_map_book.specs.declared.rule.entry.Named.TheVariants as names
use Rattle.papaya_map_book.specs.declared.rule.entry.Event.{Event}
use Rattle.papaya_map_book.specs.declared.rule.entry.Event.TheVariants.{Called, Draw}
use Rattle.papaya_map_book.specs.Logs.{Stored, Entered, brought, dealt, name_in}
use Rattle.papaya_map_book.specs.Rows.{row_len}

-- The rights to make the rest of the row, once the book has a name.
abbrev pub rest_of : Option Book → (given : ℕ) → Fml
rest_of None given = ftrue
rest_of (Some book) given = pens_own book.cells_name (3 + given) (row_len - given)

module _ {K V : Type 0} (pair : Stored K V → Fml) (table : Where Sheet → Fml) where
  -- The resource which shows that the pair or the table is stored.
  abbrev pub shown : Named K V → Fml
  shown names.Nothing = ftrue
  shown (names.Pair p) = pair p
  shown (names.Table w) = table w

  abbrev pub kept : {S : Type 0} → List (Event K V S) → Fml
  kept [] = ftrue
  kept (e ∷ es) = fsep (shown (brought e)) (kept es)

  abbrev pub held : {S : Type 0} → List (Event K V S) → Fml
  held log = fsep (kept log) (rest_of (name_in log) (dealt log))

module _ {K V S : Type 0} where
  -- The rights to make the words that an update asked for.
  abbrev pub drawn : List (Event K V S) → Fml
  drawn (Draw book first count ∷ more) = pens_own book.cells_name first count
  drawn _ = ftrue

  -- The log is the same, or one event was added, which brought in what the update asked for.
  abbrev pub Added : Event K V S → List (Event K V S) → List (Event K V S) → Type 0
  Added ask xs ys = (ys ≡ xs) ⊎ ((e : Event K V S) × (brought e ≡ brought ask)
      × (ys ≡ xs ++ e ∷ []))

  -- Some event of the log brought in what is answered.
  abbrev pub Answered : List (Event K V S) → Named K V → Type 0
  Answered ys names.Nothing = Unit {0}
  Answered ys (names.Pair p) = Entered (names.Pair p) ys
  Answered ys (names.Table w) = Entered (names.Table w) ys

  -- The update does not concern the row.
  abbrev pub LeavesRow : Event K V S → Type 0
  LeavesRow (Called book) = ⊥
  LeavesRow (Draw book first count) = ⊥
  LeavesRow _ = Unit {0}

  -- The effect of the update on the row: it gives the row to the book, draws its next words, or
  -- leaves it as it is.
  abbrev pub MovesRow : Event K V S → List (Event K V S) → List (Event K V S) → Type 0
  MovesRow (Called book) xs ys = (name_in ys ≡ Some book) × (dealt ys ≡ 0)
  MovesRow (Draw book first count) xs ys = (name_in xs ≡ Some book) × (first ≡ 3 + dealt xs)
      × (dealt xs + count ≤ row_len) × (name_in ys ≡ Some book) × (dealt ys ≡ dealt xs + count)
  MovesRow _ xs ys = (name_in ys ≡ name_in xs) × (dealt ys ≡ dealt xs)

  abbrev pub Moved : Event K V S → List (Event K V S) → List (Event K V S) → Named K V → Type 0
  Moved ask xs ys a = Added ask xs ys × Answered ys a × MovesRow ask xs ys
