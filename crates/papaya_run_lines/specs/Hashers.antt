-- The hashes that the program's hashers make of the bytes that are written to them.
use Rattle.std.specs.Prelude.{ℕ, List, [], ◌∷◌}
use Rattle.std.specs.Int.{from_le_bytes, w64}

-- The number whose eight bytes were written, the lowest first; 0 for any other bytes.
abbrev pub number_written : List ℕ → ℕ
number_written (a ∷ b ∷ c ∷ d ∷ e ∷ f ∷ g ∷ h ∷ []) =
    from_le_bytes w64 (a ∷ b ∷ c ∷ d ∷ e ∷ f ∷ g ∷ h ∷ [])
number_written _ = 0
