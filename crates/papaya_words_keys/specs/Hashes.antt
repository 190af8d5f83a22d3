-- The hash of a key.
use Rattle.std.specs.Prelude.{ℕ, List, fold}

-- the hash of the key k: `build s` makes a hasher, `write` feeds it the key's input, and `finish`
-- returns the hash
abbrev pub hash_of : {K S H : Type 0} → (K → List (List ℕ)) → (S → H) → (H → List ℕ → H) → (H → ℕ)
    → S → K → ℕ
hash_of input build write finish s k = finish (fold write (build s) (input k))
