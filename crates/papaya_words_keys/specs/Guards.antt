-- The numbers of a guard.
use Rattle.std.specs.Prelude.{ℕ}

-- the numbers of a guard: its collector's number, and its own
pub record GuardNumbers : Type 0 where
  pub collector : ℕ
  pub own : ℕ
