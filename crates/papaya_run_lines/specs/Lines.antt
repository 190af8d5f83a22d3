-- The lines of a text.
use Rattle.std.specs.Prelude.{◌≡◌, ℕ, ◌==◌, if◌then◌else◌, Bool, true, false, List, [], ◌∷◌, Option, Some, ◌⊎◌}
use Rattle.papaya_run_shell.specs.Failure.{without_memory}
use Rattle.papaya_run_shell.specs.declared.failure.Failure.{Failure}
use Rattle.papaya_run_shell.specs.declared.failure.Failure.TheVariants.{Input}

-- The lines with this byte in front of the first one.
abbrev pub before_first : ℕ → List (List ℕ) → List (List ℕ)
before_first byte [] = (byte ∷ []) ∷ []
before_first byte (line ∷ lines) = (byte ∷ line) ∷ lines

-- The lines of a text, without their line ends. The last one may lack its line end.
abbrev pub lines_of : List ℕ → List (List ℕ)
lines_of [] = []
lines_of (byte ∷ text) =
    if byte == 10 then [] ∷ lines_of text else before_first byte (lines_of text)

-- The text's first line was read, or no line was left.
abbrev pub IsNextLine : List ℕ → Bool → List ℕ → Option (List ℕ) → Type 0
IsNextLine text false line left = lines_of text ≡ []
IsNextLine text true line left = (rest : List ℕ) × (left ≡ Some rest)
    × (lines_of text ≡ line ∷ lines_of rest)

-- The reader failed, or memory for the line ran out.
abbrev pub IsReadFailure : Failure → Type 0
IsReadFailure why = (why ≡ Input) ⊎ (why ≡ without_memory)
