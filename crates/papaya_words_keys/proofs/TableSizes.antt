-- The length of the first table.
use Rattle.std.proofs.Common.{◌≡◌, ℕ, ◌≤◌, ◌^◌, max, inl, inr, ◌∙◌, arith}
use Rattle.std.proofs.lemmas.Bool.{cases_lt}
use Rattle.std.proofs.Math.Pow.{pow_mono}
use Rattle.std.specs.Int.{IsPowerOfTwo}
use Rattle.papaya_words.specs.Probe.{IsLimit}
use Rattle.papaya_call.specs.Search.{IsSize}

-- the length for a requested number of slots is one of tables
pub table_size : (initial limit : ℕ) → IsPowerOfTwo initial → initial ≤ 2 ^ 32 → IsLimit (max initial 8) limit → IsSize (max initial 8) limit
table_size initial limit power most (log, low, high, is) = record {
  power = elim (cases_lt initial 8) [
    | inl short ↦ let e : max initial 8 ≡ 8 = omega arith in (3, e)
    | inr long ↦ let e : max initial 8 ≡ initial = omega arith in (power.0, e ∙ power.1)
  ];
  most = omega arith;
  few = elim (cases_lt log 33) [
    | inl small ↦ omega arith
    | inr large ↦ let above : 8589934592 ≤ 2 ^ log = pow_mono large in let below : max initial 8 ≤ 4294967296 = omega arith in absurd (omega arith)
  ];
}
