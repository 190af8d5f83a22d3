-- Calls that reserve room or complete a resize.
use Rattle.std.specs.Prelude.{◌≡◌, ◌⊎◌, ℕ, ◌+◌, ◌≤◌, Bool, length}
use Rattle.papaya_words.specs.Probe.{IsEntriesFor}
use Rattle.papaya_words.specs.declared.limits.TheConstants.{LEAST_TABLE_LEN}
use Rattle.papaya_words.specs.declared.refused.Refused.{Refused}
use Rattle.papaya_words.specs.declared.refused.Refused.TheVariants.{Memory, Capacity}
use Rattle.papaya_call.specs.declared.chain.resizer.Resize.{Resize}
use Rattle.papaya_call.specs.declared.chain.resizer.Resize.TheVariants.{CopyAll, Reserve}
use Rattle.papaya_words_keys.specs.Sizes.{IsTooMuch}
use Rattle.papaya_core_store.specs.Store.{StoreState}
use Rattle.papaya_core_timeline.specs.Content.{content}
use Rattle.papaya_seq.specs.Map.{HasNoTable, IsResizing, MapState, next_of, slots_of}

module _ {K V S : Type 0} (eq : K → K → Bool) where
  -- how many pairs there has to be room for: those of the map, and `more` others
  abbrev pub pairs_with : StoreState K V S → (more : ℕ) → ℕ
  pairs_with s more = length (content eq s) + more

  -- the root of s' has at least as many slots as a table for the pairs of s and `more` others
  abbrev pub HasRoomFor : StoreState K V S → (more : ℕ) → StoreState K V S → Type 0
  HasRoomFor s more s' = (entries : ℕ) × IsEntriesFor (pairs_with s more) entries
      × (entries ≤ slots_of s')

  -- s itself has that room, and its root is no shorter than the least length of a table
  abbrev pub HasRoomAlready : StoreState K V S → (more : ℕ) → Type 0
  HasRoomAlready s more = (LEAST_TABLE_LEN ≤ slots_of s) × HasRoomFor s more s

  -- Why reserving room fails: with `Memory`, or with `Capacity` if no table may have as many slots
  -- or no further table can be made.
  abbrev pub IsReserveCause : MapState K V S → (more : ℕ) → Refused → MapState K V S → Type 0
  IsReserveCause s more refused s' = (refused ≡ Memory)
      ⊎ ((refused ≡ Capacity) × (IsTooMuch (pairs_with s.store more) ⊎ HasNoTable s'))

-- Completing a resize fails only while pairs are being moved: with `Memory`, or with `Capacity` if
-- no further table can be made.
abbrev pub IsCopyCause : {K V S : Type 0} → MapState K V S → Refused → MapState K V S → Type 0
IsCopyCause s refused s' = IsResizing s
    × ((refused ≡ Memory) ⊎ ((refused ≡ Capacity) × HasNoTable s'))

module _ {K V S : Type 0} (eq : K → K → Bool) where
  -- what holds after the map was resized: there is room for `more` pairs, or no pairs are being
  -- moved
  abbrev pub IsResizedTo : Resize → StoreState K V S → StoreState K V S → Type 0
  IsResizedTo (Reserve more) s s' = HasRoomFor eq s more s'
  IsResizedTo CopyAll s s' = next_of s' ≡ 0
  IsResizedTo _ s s' = Unit {0}

  -- why such a call is refused
  abbrev pub IsResizeRefusal : Resize → MapState K V S → Refused → MapState K V S → Type 0
  IsResizeRefusal (Reserve more) s refused s' = IsReserveCause eq s more refused s'
  IsResizeRefusal CopyAll s refused s' = IsCopyCause s refused s'
  IsResizeRefusal _ s refused s' = Unit {0}

  -- the call reserves room that is already there
  abbrev pub IsRoomThere : Resize → StoreState K V S → Type 0
  IsRoomThere (Reserve more) s = HasRoomAlready eq s more
  IsRoomThere _ s = ⊥

  -- the call reserves room for more pairs than a table may have slots for
  abbrev pub IsPastLimit : Resize → StoreState K V S → Type 0
  IsPastLimit (Reserve more) s = IsTooMuch (pairs_with eq s more)
  IsPastLimit _ s = ⊥
