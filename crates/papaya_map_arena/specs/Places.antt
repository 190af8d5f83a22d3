-- The place at which a push stores its value.
use Rattle.std.specs.Prelude.{◌≡◌, ℕ, ◌+◌, ◌<◌, ◌≤◌, ◌^◌, List, [], slice_index_or}
use Rattle.boxcar.specs.Slot.{Named}
use Rattle.boxcar.specs.Table.{id_at}
use Rattle.papaya_map_cells.specs.Slots.{Named as SlotNamed}
use Rattle.papaya_map_arena.specs.Rows.{AreSlots}
use Rattle.papaya_map_arena.specs.declared.arena.Location.{Location}

-- The tag of a row of the arena: the length of its parts, the push that the first slot of a part is
-- for, and the counters of the lanes.
abbrev pub tag_at : List Named → (row : ℕ) → List ℕ
tag_at rows row = (slice_index_or rows row record { id = 0; tag = [] }).tag

-- The row has a slot at this place, for the number that was taken from the lane's counter.
pub record IsPlace (rows : List Named) (place : Location) : Type 0 where
  pub row : place.row < 38
  pub lane : place.lane < 8
  pub slot : place.slot < slice_index_or (tag_at rows place.row) 0 0
  pub fits : slice_index_or (tag_at rows place.row) 0 0 ≤ 2 ^ 38
  pub push : place.push < 2 ^ 63
  pub taken : place.right.number ≡ place.push
  pub number : place.right.number ≡ slice_index_or (tag_at rows place.row) 1 0 + place.slot
  pub counter : place.right.counter ≡ slice_index_or (tag_at rows place.row) (2 + place.lane) 0

-- `of` is the number by which the row is known to be allocated, and these are its slots.
abbrev pub IsRow : (rows : List Named) (row of : ℕ) (slots : List SlotNamed) → Type 0
IsRow rows row of slots = (of ≡ id_at rows row) × AreSlots (tag_at rows row) slots

-- The row has a slot at this place, and is allocated.
abbrev pub IsMade : (rows : List Named) (place : Location) (of : ℕ) (slots : List SlotNamed) → Type 0
IsMade rows place of slots = IsPlace rows place × IsRow rows place.row of slots
