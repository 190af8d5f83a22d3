-- Why a call that stores an entry is refused: memory or room ran out, or the map's limit on entries
-- was reached.
use Rattle.std.specs.Prelude.{◌≡◌, ◌⊎◌, ℕ, IsSome, Option, Some}
use Rattle.papaya_words.specs.declared.refused.Refused.{Refused}
use Rattle.papaya_words.specs.declared.refused.Refused.TheVariants.{Limit}
use Rattle.papaya_map_change.specs.Writing.{IsMemoryOrCapacity}

-- The call was refused because memory or room ran out; or with `Limit`, when as many numbers for
-- entries had been taken as the limit allows.
abbrev pub IsWriteRefusal : (limit : Option ℕ) → (taken : ℕ) → Refused → Type 0
IsWriteRefusal limit taken refused = IsMemoryOrCapacity refused
    ⊎ ((refused ≡ Limit) × (limit ≡ Some taken))

-- The same for a call whose contract does not show `taken`: it is refused with `Limit` only if the
-- map has a limit.
abbrev pub IsPlainRefusal : (limit : Option ℕ) → Refused → Type 0
IsPlainRefusal limit refused = IsMemoryOrCapacity refused ⊎ ((refused ≡ Limit) × IsSome limit)
