-- How an arena is laid out: the row and the slot of a number, the length of each row, and the
-- pushes that it is for.
use Rattle.std.specs.Prelude.{◌≡◌, ℕ, zero, suc, ◌+◌, ◌*◌, ◌/◌, ◌%◌, ◌^◌, ◌<◌, ◌≤◌, min, List, [], ◌∷◌, length, slice_index_or}
use Rattle.boxcar.specs.Slot.{Named as RowNamed}
use Rattle.papaya_map_cells.specs.Slots.{Named}

abbrev pub row_of : ℕ → ℕ
row_of number = number / 2 ^ 42

abbrev pub slot_of : ℕ → ℕ
slot_of number = number % 2 ^ 42

-- How many slots each of the eight lanes has in a row: 2 ^ bits in the first row, and in each
-- further row as many as in all rows before it, up to 2 ^ 38.
abbrev pub part_len : ℕ → ℕ → ℕ
part_len bits zero = 2 ^ bits
part_len bits (suc row) = 2 ^ min (bits + row) 38

-- The push of a lane that goes into the first slot of its part of a row.
abbrev pub part_first : ℕ → ℕ → ℕ
part_first bits zero = 0
part_first bits (suc row) = part_len bits (suc row)

-- The rows of an arena. Each is tagged with the length of its parts, with the push that the first
-- slot of a part is for, and with the counters of the lanes.
pub record AreRows (bits : ℕ) (counters : List ℕ) (rows : List RowNamed) : Type 0 where
  pub low : 2 ≤ bits
  pub high : bits ≤ 38
  pub many : length rows ≡ 38
  pub tags : (row : ℕ) (d : RowNamed) → row < 38
      → (slice_index_or rows row d).tag ≡ part_len bits row ∷ part_first bits row ∷ counters

-- These are the slots that a row's tag describes: one lane's part after the other, each with
-- consecutive numbers of the lane's counter from the part's first push on.
pub record AreSlots (tag : List ℕ) (slots : List Named) : Type 0 where
  pub many : length slots ≡ 8 * slice_index_or tag 0 0
  pub numbers : (place : ℕ) (d : Named) → place < length slots
      → ((slice_index_or slots place d).counter
      ≡ slice_index_or tag (2 + place / slice_index_or tag 0 0) 0)
      × ((slice_index_or slots place d).number
      ≡ slice_index_or tag 1 0 + place % slice_index_or tag 0 0)

abbrev pub id_at : List Named → ℕ → ℕ
id_at slots place = (slice_index_or slots place record { id = 0; counter = 0; number = 0 }).id

-- The number has a row, and `item` is the name of its slot among the slots of that row.
pub record IsAt (number : ℕ) (slots : List Named) (item : ℕ) : Type 0 where
  pub row : row_of number < 38
  pub slot : slot_of number < length slots
  pub item_is : item ≡ id_at slots (slot_of number)
