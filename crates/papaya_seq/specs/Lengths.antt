-- How long the tables of a map are.
use Rattle.std.specs.Prelude.{◌≡◌, ◌⊎◌, ℕ, ◌≤◌, Bool, List, ◌++◌, length, map, max}
use Rattle.std.specs.List.{All, Contains}
use Rattle.papaya_words.specs.Probe.{IsEntriesFor}
use Rattle.papaya_words.specs.Table.{length_after}
use Rattle.papaya_words.specs.declared.limits.TheConstants.{FIRST_TABLE_LEN, LEAST_TABLE_LEN}
use Rattle.papaya_core_store.specs.Tables.{Tables}

-- the lengths of the tables, in the order in which they were made
abbrev pub lengths_of : Tables → List ℕ
lengths_of words = map (λ t. length t.slots) words.tables

-- No table is shorter than `initial`. If there is no root yet, `initial` is no more than the least
-- length of a table.
pub record IsLongEnough (initial : ℕ) (words : Tables) : Type 0 where
  pub tables : All (λ len. initial ≤ len) (lengths_of words)
  pub first : words.root ≡ 0 → initial ≤ LEAST_TABLE_LEN

-- The table that follows one of length `len` has the length `next`, if the map counts `count`
-- pairs, and either one of them did not fit or each did.
abbrev pub IsNextLength : (initial count len next : ℕ) → Type 0
IsNextLength initial count len next = (unfit : Bool)
    × (next ≡ max (length_after len count initial unfit) LEAST_TABLE_LEN)

-- A call on a key makes a table of length `len`: the first one, if there was no root, or one that
-- follows a table whose length is in `lengths`.
abbrev pub IsMadeBeside : (initial count root : ℕ) → List ℕ → (len : ℕ) → Type 0
IsMadeBeside initial count root lengths len = ((root ≡ 0) × (len ≡ FIRST_TABLE_LEN))
    ⊎ ((before : ℕ) × Contains lengths before × IsNextLength initial count before len)

-- a call on a key takes the tables from `words` to `words'`, if the map counts `count` pairs
pub record MakesTables (initial count : ℕ) (words words' : Tables) : Type 0 where
  pub made : List ℕ
  pub more : lengths_of words' ≡ lengths_of words ++ made
  pub each : All (IsMadeBeside initial count words.root (lengths_of words')) made

-- A new map for `pairs` pairs has a first table of `initial` slots; or `pairs` is 0, for which no
-- table is made, and `initial` is no more than the least length of a table.
abbrev pub IsAskedFor : (initial pairs : ℕ) → Type 0
IsAskedFor initial pairs = ((pairs ≡ 0) × (initial ≤ LEAST_TABLE_LEN))
    ⊎ ((pairs ≤ initial) × ((entries : ℕ) → IsEntriesFor pairs entries → entries ≡ initial))
