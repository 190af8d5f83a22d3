-- A number is a power of two in at most one way.
use Rattle.std.specs.Prelude.{◌≡◌, ℕ, ◌+◌, ◌<◌, ◌≤◌, ◌^◌}
use Rattle.std.specs.Int.{IsPowerOfTwo}
use Rattle.std.proofs.Common.{arith, sym, ◌∙◌, lt_of_not-le}
use mathlib.Core.HLevel.{Σ_prop_path}
use native.Mathlib.Nat.{ℕ_set}
use lib.Pow.{pow-lt}

-- If one power of two is no greater than another, neither is its exponent.
exponent_le : (k j : ℕ) → 2 ^ k ≤ 2 ^ j → k ≤ j
exponent_le k j le =
    let below : k < j + 1 = lt_of_not-le (λ (above : j + 1 ≤ k). let more : 2 ^ j < 2 ^ k = pow-lt (omega (arith, above)) in omega (arith, more, le)) in
    omega (arith, below)

exponent_is : (k j : ℕ) → 2 ^ k ≡ 2 ^ j → k ≡ j
exponent_is k j same =
    let up : k ≤ j = exponent_le k j (omega (arith, same)) in
    let down : j ≤ k = exponent_le j k (omega (arith, same)) in
    omega (arith, up, down)

pub IsPowerOfTwo-prop : (n : ℕ) → IsProp (IsPowerOfTwo n)
IsPowerOfTwo-prop n a b = Σ_prop_path (λ k. ℕ_set n (2 ^ k)) (exponent_is a.0 b.0 (sym a.1 ∙ b.1))
