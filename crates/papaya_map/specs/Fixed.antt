-- The properties of a map that are fixed when it is made.
use Rattle.std.specs.Prelude.{◌≡◌, ℕ, ◌<◌, ◌≤◌, List, Option}
use Rattle.std.specs.Int.{IsNextPowerOfTwo}
use mathlib.Core.List.{IsPrefix}
use Rattle.logbook.specs.Pages.{Book}
use Rattle.papaya_words.specs.Probe.{IsEntriesFor}
use Rattle.papaya_words.specs.declared.resize_mode.ResizeMode.{ResizeMode}
use Rattle.papaya_map_book.specs.Limits.{HasTableFrom}
use Rattle.papaya_map_book.specs.Logs.{Stored}
use Rattle.papaya_map_book.specs.declared.rule.entry.Begun.{Begun}
use Rattle.papaya_map_lookup.specs.History.{Change}

-- The properties that are fixed when a map is made. `book` is its book, and `begun` is what that
-- was opened with: the hasher, the resize mode, the limit, and the arenas of entries and of tables.
-- `initial` is the initial capacity in slots, by which the first table is sized. `shards` is the
-- number of shards of the count, and `collector` the number of the collector whose guards the calls
-- take. `opened` has the number of slots of each table that existed when the map was made, oldest
-- first, and `seen` is the history that had been observed at that point. A map that is made of
-- entries counts as made once it has them.
pub record Fixed (K V S : Type 0) : Type 0 where
  pub book : Book
  pub begun : Begun K V S
  pub initial : ℕ
  pub shards : ℕ
  pub collector : ℕ
  pub opened : List ℕ
  pub seen : List (Change K (Stored K V))

-- A pinned map as contracts see it: its fixed properties, and the history that had been observed
-- when it was pinned.
pub record Pinned (K V S : Type 0) : Type 0 where
  pub map : Fixed K V S
  pub seen : List (Change K (Stored K V))

-- The map has this resize mode, is made for `capacity` entries, counts over the next power of two
-- of `shards`, and has this limit on entries, if any. If `capacity` is not 0, the map had a table
-- for that many entries when it was made.
abbrev pub IsFor : {K V S : Type 0} → ResizeMode → (capacity shards : ℕ) → (limit : Option ℕ)
    → Fixed K V S → Type 0
IsFor mode capacity shards limit map = (map.begun.mode ≡ mode) × IsEntriesFor capacity map.initial
    × IsNextPowerOfTwo shards map.shards × (0 < capacity → HasTableFrom map.initial map.opened)
    × (map.begun.limit ≡ limit)

-- If the initial capacity is over one slot, then `pairs` is not 0 and a table for `pairs` entries
-- has at least `initial` slots.
abbrev pub IsForInitial : (initial pairs : ℕ) → Type 0
IsForInitial initial pairs = 1 < initial → (0 < pairs)
    × ((entries : ℕ) → IsEntriesFor pairs entries → initial ≤ entries)

-- If its initial capacity is over one slot, the map had a table of at least that many slots when it
-- was made.
abbrev pub HasFirstTable : {K V S : Type 0} → Fixed K V S → Type 0
HasFirstTable map = 1 < map.initial → HasTableFrom map.initial map.opened

-- The second map has the resize mode, limit, initial capacity and number of shards of the first,
-- and takes the same guards.
abbrev pub HasSettingsOf : {K V S : Type 0} → (old new : Fixed K V S) → Type 0
HasSettingsOf old new = (new.begun.mode ≡ old.begun.mode) × (new.begun.limit ≡ old.begun.limit)
    × (new.initial ≡ old.initial) × (new.shards ≡ old.shards) × (new.collector ≡ old.collector)

-- The second is the same map with the same fixed properties, except that at least as many tables
-- and at least as much history had been observed when it was made.
pub record HasLearned {K V S : Type 0} (old new : Fixed K V S) : Type 0 where
  pub book : new.book ≡ old.book
  pub begun : new.begun ≡ old.begun
  pub initial : new.initial ≡ old.initial
  pub shards : new.shards ≡ old.shards
  pub collector : new.collector ≡ old.collector
  pub opened : IsPrefix old.opened new.opened
  pub seen : IsPrefix old.seen new.seen
