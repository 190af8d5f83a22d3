-- Numbers past the limit that the arena of tables returned, sums of the count that make a table too
-- long, and a limit on pairs that is spent.
use Rattle.std.specs.Prelude.{◌≡◌, ◌⊎◌, ℕ, ◌<◌, ◌≤◌, ◌^◌, Bool, MatchOption, Option, List, [], ◌∷◌, ◌++◌, length}
use Rattle.papaya_words.specs.Table.{length_after}
use Rattle.papaya_words.specs.declared.limits.TheConstants.{MAX_TABLES}
use Rattle.papaya_map_book.specs.Logs.{Member, comes, state_of, steps_of}
use Rattle.papaya_map_book.specs.declared.rule.entry.Event.{Event}
use Rattle.papaya_map_book.specs.declared.rule.entry.Named.{Named}
use Rattle.papaya_map_book.specs.declared.rule.entry.Named.TheVariants as names
use Rattle.papaya_map_book.specs.declared.rule.entry.Step.{Step}
use Rattle.papaya_map_book.specs.declared.rule.own.CapacityCause.{CapacityCause}
use Rattle.papaya_map_book.specs.declared.rule.own.CapacityCause.TheVariants.{Sum, Table}

-- No word can name a table of this number.
abbrev pub IsPastLimit : CapacityCause → Type 0
IsPastLimit (Table n) = MAX_TABLES ≤ n
IsPastLimit (Sum n) = ⊥

-- The arena of tables is full: it returned this number, which is past its limit.
abbrev pub IsFull : List CapacityCause → Type 0
IsFull given = (number : CapacityCause) × (given ≡ number ∷ []) × IsPastLimit number

-- The number of slots of each table that was brought into the book, oldest first.
abbrev pub slots_brought : {K V : Type 0} → Named K V → List ℕ
slots_brought (names.Table table) = length table.value.slots ∷ []
slots_brought _ = []

abbrev pub tables_by : {K V : Type 0} → List (Step K V) → List ℕ
tables_by [] = []
tables_by (e ∷ es) = slots_brought (comes e) ++ tables_by es

abbrev pub tables_of : {K V S : Type 0} → List (Event K V S) → List ℕ
tables_of log = tables_by (steps_of log)

-- One of the tables has at least `least` slots.
abbrev pub HasTableFrom : (least : ℕ) → (tables : List ℕ) → Type 0
HasTableFrom least tables = (len : ℕ) × (least ≤ len) × Member len tables

-- The next table would be longer than a table may be. Its length depends on the table that it would
-- follow, which is one of `tables`, on this sum of the count, and on the map's initial capacity.
pub record IsTooLong (initial : ℕ) (tables : List ℕ) (given : List CapacityCause) : Type 0 where
  pub count : ℕ
  pub given_is : given ≡ Sum count ∷ []
  pub len : ℕ
  pub there : Member len tables
  -- Whether a pair found no place in that table.
  pub unfit : Bool
  pub long : 2 ^ 32 < length_after len count initial unfit

-- There is no room for what a call would make: the arena of tables is full, or a table would be too
-- long.
abbrev pub HasNoRoom : (initial : ℕ) → (tables : List ℕ) → List CapacityCause → Type 0
HasNoRoom initial tables given = IsFull given ⊎ IsTooLong initial tables given

-- The map has a limit on pairs, and exactly that many numbers for pairs were taken.
abbrev pub IsSpent : {K V S : Type 0} → (limit : Option ℕ) → List (Event K V S) → Type 0
IsSpent limit log = MatchOption limit ⊥ (λ n. (state_of log).made ≡ n)
