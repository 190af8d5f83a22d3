-- The output of a run for its lines.
use Rattle.std.specs.Prelude.{◌≡◌, ◌≢◌, ℕ, ◌+◌, List, [], ◌∷◌, ◌++◌, length, Result, Ok, Err}
use Rattle.papaya_run_shell.specs.declared.failure.Failure.{Failure}
use Rattle.papaya_run_shell.specs.declared.failure.Failure.TheVariants as failure
use Rattle.papaya_run_lines.specs.Printed.{text_of}
use Rattle.papaya_run_lines.specs.declared.printed.Printed.{Printed}

-- The output of lines that are run one after the other, from the state `s` to the state `s'`: for
-- each line that is not empty, its reply and a line end.
abbrev pub Prints : {S : Type 0} → (S → List ℕ → Printed → S → Type 0) → S → List (List ℕ)
    → List ℕ → S → Type 0
Prints does s [] text s' = (text ≡ []) × (s' ≡ s)
Prints does s ([] ∷ lines) text s' = Prints does s lines text s'
Prints {S = S} does s ((byte ∷ bytes) ∷ lines) text s' = (reply : Printed) × (middle : S)
    × (rest : List ℕ) × does s (byte ∷ bytes) reply middle × Prints does middle lines rest s'
    × (text ≡ text_of reply ++ 10 ∷ rest)

-- The line after `before` has this number, counted from 1. It is not empty, and it is bad.
pub record HasBad (is_bad : List ℕ → Type 0) (lines before : List (List ℕ)) (n : ℕ) : Type 0 where
  pub line : List ℕ
  pub after : List (List ℕ)
  pub parts : lines ≡ before ++ line ∷ after
  pub number : length before + 1 ≡ n
  pub some : line ≢ []
  pub bad : is_bad line

module _ {S : Type 0} (first : S → Type 0) (does : S → List ℕ → Printed → S → Type 0) where
  -- These lines were run from a first state, and what they print was written.
  abbrev pub Wrote : List (List ℕ) → (List ℕ → Type 0) → Type 0
  Wrote lines wrote = (s s' : S) × (text : List ℕ) × first s × Prints does s lines text s'
      × wrote text

  -- The result of a run of these lines. If it succeeds, what all lines print was written; if a line
  -- is bad, what the lines before it print. If memory, the reader or the writer fails, nothing is
  -- stated.
  abbrev pub IsRun : (is_bad : List ℕ → Type 0) → List (List ℕ) → (wrote : List ℕ → Type 0)
      → Result (Unit {0}) Failure → Type 0
  IsRun is_bad lines wrote (Ok done) = Wrote lines wrote
  IsRun is_bad lines wrote (Err (failure.Line n)) = (before : List (List ℕ))
      × HasBad is_bad lines before n × Wrote before wrote
  IsRun is_bad lines wrote (Err failure.Arguments) = ⊥
  IsRun is_bad lines wrote (Err _) = Unit {0}
