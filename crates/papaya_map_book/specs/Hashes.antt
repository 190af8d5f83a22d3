-- The hash of a key, cut to 64 bits.
use Rattle.std.specs.Prelude.{ℕ, ◌%◌, ◌^◌, List}
use Rattle.papaya_words_keys.specs.Hashes.{hash_of as whole_hash_of}

abbrev pub hash_of : {K S H : Type 0} → (K → List (List ℕ)) → (S → H) → (H → List ℕ → H) → (H → ℕ)
    → S → K → ℕ
hash_of input build write finish s k = whole_hash_of input build write finish s k % 2 ^ 64
