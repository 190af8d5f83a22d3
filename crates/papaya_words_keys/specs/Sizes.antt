-- The limits on the sizes of a new map, and why one is refused.
use Rattle.std.specs.Prelude.{◌≡◌, ℕ, ◌*◌, ◌^◌, ◌<◌, ◌≤◌, ◌⊎◌}
use Rattle.papaya_words.specs.Probe.{IsEntriesFor}
use Rattle.papaya_words.specs.declared.limits.TheConstants.{MAX_SHARDS, MAX_TABLE_LEN}
use Rattle.papaya_words.specs.declared.refused.Refused.{Refused}
use Rattle.papaya_words.specs.declared.refused.Refused.TheVariants.{Memory, Capacity, ZeroChunk}
use Rattle.papaya_words.specs.declared.resize_mode.ResizeMode.{ResizeMode}
use Rattle.papaya_words.specs.declared.resize_mode.ResizeMode.TheVariants.{Incremental}
use Rattle.papaya_words.specs.Mode.{IsChunked}

-- a table for `capacity` pairs is within the limits; `IsTooMuch` says that it is not
abbrev pub HasRoom : ℕ → Type 0
HasRoom capacity = (capacity * 8 < 2 ^ 64) × (entries : ℕ) × IsEntriesFor capacity entries
    × (entries ≤ MAX_TABLE_LEN)

abbrev pub IsTooMuch : ℕ → Type 0
IsTooMuch capacity = (2 ^ 64 ≤ capacity * 8) ⊎ ((entries : ℕ) × IsEntriesFor capacity entries
    × (MAX_TABLE_LEN < entries))

-- the chunk length, the capacity and the number of shards are within the limits
abbrev pub IsAllowed : ResizeMode → (capacity shards : ℕ) → Type 0
IsAllowed mode capacity shards = IsChunked mode × HasRoom capacity × (shards ≤ MAX_SHARDS)

-- Why a new map is refused: first, if chunks would have no slots; then, if a size is past its
-- limit; and otherwise, if memory runs out.
abbrev pub IsSizeRefusal : ResizeMode → (capacity shards : ℕ) → Refused → Type 0
IsSizeRefusal mode capacity shards refused =
    ((refused ≡ ZeroChunk) × (mode ≡ Incremental 0))
    ⊎ ((refused ≡ Capacity) × IsChunked mode × (IsTooMuch capacity ⊎ (MAX_SHARDS < shards)))
    ⊎ ((refused ≡ Memory) × IsAllowed mode capacity shards)
