-- The size of a table that is made for a number of pairs.
use Rattle.std.specs.Prelude.{ℕ, ◌*◌, ◌/◌, ◌-◌, ◌^◌, nat_le, max, if◌then◌else◌, Option, None, Some}
use Rattle.papaya_words.specs.Probe.{limit_of, log_upto}
use Rattle.papaya_call.specs.Search.{IsSize}
use Rattle.papaya_call.specs.declared.chain.resizer.TableSize.{TableSize}

-- the least power of two that is at least four thirds of `pairs`, rounded down; it is at most 2^64
abbrev pub entries_of : (pairs : ℕ) → ℕ
entries_of pairs = if nat_le (pairs * 8 / 6) 1 then 1
    else 2 * 2 ^ log_upto 63 (pairs * 8 / 6 - 1)

abbrev pub room_of_len : (len : ℕ) → TableSize
room_of_len len = record { len = len; limit = limit_of len }

-- the size of a table for `pairs` pairs, None if no table may be that long
abbrev pub room_of : (pairs : ℕ) → Option TableSize
room_of pairs = if nat_le (entries_of pairs) (2 ^ 32)
    then Some (room_of_len (max (entries_of pairs) 8)) else None

abbrev pub IsValidRoom : Option TableSize → Type 0
IsValidRoom None = Unit {0}
IsValidRoom (Some room) = IsSize room.len room.limit
