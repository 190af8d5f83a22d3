-- The results of the closures of a script's calls.
use Rattle.std.specs.Prelude.{ℕ, ◌+◌, ◌%◌, ◌^◌, Option, Some, None}
use Rattle.papaya_call.specs.declared.answers.Operation.{Operation}
use Rattle.papaya_call.specs.declared.answers.Operation.TheVariants.{Insert, Abort}

-- The number after this one; 0 follows the greatest of 64 bits.
abbrev pub follower : ℕ → ℕ
follower value = (value + 1) % 2 ^ 64

-- The value of an entry is replaced by the number after it; an absent key stays absent.
abbrev pub operation_of : Option (ℕ × ℕ) → Operation ℕ ℕ
operation_of None = Abort 0
operation_of (Some shown) = Insert (follower shown.1)
