-- The counts of words in a map.
use Rattle.std.specs.Prelude.{ℕ, Bool, Option, None, Some}
use Rattle.papaya.specs.Seq.{StoreState, Stored, map_in}

-- The count of an entry; 0 if there is no entry.
abbrev pub count_of : {W : Type 0} → Option (Stored W ℕ) → ℕ
count_of None = 0
count_of (Some p) = p.value

-- The count that a map has for a word; 0 if it has none.
abbrev pub count_in : {W S : Type 0} → (W → W → Bool) → StoreState W ℕ S → W → ℕ
count_in same store w = count_of (map_in same store w)
