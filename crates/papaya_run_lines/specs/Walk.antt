-- The entries of an iteration, as they are printed.
use Rattle.std.specs.Prelude.{ℕ, List, ◌∷◌, ◌++◌}
use Rattle.std.specs.Fmt.{decimal}
use Rattle.std.specs.List.{flat_map}
use Rattle.std.specs.List.Sorted.{IsNonDecreasingBy, IsPermutation}

-- A space, the key, an equals sign and the value.
abbrev pub pair_text : ℕ × ℕ → List ℕ
pair_text pair = 32 ∷ decimal pair.0 ++ 61 ∷ decimal pair.1

-- These entries, one after another.
abbrev pub pairs_text : List (ℕ × ℕ) → List ℕ
pairs_text = flat_map pair_text

-- The second list has the entries of the first, ordered by key.
abbrev pub IsByKey : List (ℕ × ℕ) → List (ℕ × ℕ) → Type 0
IsByKey given pairs = IsPermutation given pairs × IsNonDecreasingBy (λ pair. pair.0) pairs
