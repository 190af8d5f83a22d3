-- The numbers of arguments and scripts.
use Rattle.std.specs.Prelude.{◌≡◌, ℕ, ◌<◌, ◌^◌, List}
use Rattle.std.specs.Str.Parse.{IsNumeral, digits_value}

-- The text is one or more decimal digits, perhaps with leading zeros, and denotes `n`, which fits
-- in 64 bits.
abbrev pub WritesNumber : List ℕ → ℕ → Type 0
WritesNumber text n = IsNumeral 10 text × (digits_value 10 text ≡ n) × (n < 2 ^ 64)
