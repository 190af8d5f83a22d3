-- A new store.
use Rattle.std.specs.Prelude.{◌≡◌, ℕ, zero, suc, max, [], ◌∷◌, pos}
use Rattle.std.specs.Int.{IsNextPowerOfTwo}
use Rattle.papaya_words.specs.Table.{new_table}
use Rattle.papaya_words.specs.Probe.{IsLimit, IsEntriesFor}
use Rattle.papaya_words.specs.declared.limits.TheConstants.{LEAST_TABLE_LEN}
use Rattle.papaya_core_store.specs.Tables.{Tables}
use Rattle.papaya_core_store.specs.Store.{StoreState}

-- the first table is the root, and is as long as was asked for, but no shorter than the least
-- length
abbrev pub IsOpened : ℕ → Tables → Type 0
IsOpened asked words = (limit : ℕ) × IsLimit (max asked LEAST_TABLE_LEN) limit
    × (words ≡ record {
      root = 1;
      tables = new_table 1 (max asked LEAST_TABLE_LEN) limit 0 ∷ [];
      made = 0;
    })

-- the tables of a new store: none for a capacity of 0, and otherwise a first table
abbrev pub HasCapacity : (capacity initial : ℕ) → Tables → Type 0
HasCapacity zero initial words = words ≡ record { root = 0; tables = []; made = 0 }
HasCapacity (suc n) initial words = IsOpened initial words

-- a new store: no pairs, a count of 0 in `shards` shards, rounded up to a power of two, and a table
-- for the capacity
pub record IsNewStore {K V S : Type 0} (capacity shards : ℕ) (hasher : S) (entries : ℕ)
    (s : StoreState K V S) : Type 0 where
  pub initial : IsEntriesFor capacity entries
  pub words : HasCapacity capacity entries s.words
  pub pairs : s.pairs ≡ []
  pub count : IsNextPowerOfTwo shards s.count.shards
  pub sum : s.count.sum ≡ pos 0
  pub hasher_is : s.hasher ≡ hasher
