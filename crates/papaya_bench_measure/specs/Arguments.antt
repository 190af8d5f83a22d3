-- The meaning of the program's arguments.
use Rattle.std.specs.Prelude.{◌≡◌, ℕ, ◌<◌, ◌^◌, List, [], ◌∷◌, None, Some, codes}
use Rattle.std.specs.Str.Parse.{IsNumeral, digits_value, without_leading_plus}
use Rattle.papaya_bench_measure.specs.declared.arguments.BenchTask.{BenchTask}
use Rattle.papaya_bench_measure.specs.declared.arguments.BenchTask.TheVariants as task

-- The text consists of decimal digits, perhaps after a plus sign, and denotes `n`, which fits in 32
-- bits.
abbrev pub WritesCount : List ℕ → ℕ → Type 0
WritesCount text n = IsNumeral 10 (without_leading_plus text)
    × (digits_value 10 (without_leading_plus text) ≡ n) × (n < 2 ^ 32)

-- The arguments `words` request this task.
abbrev pub AskFor : List (List ℕ) → BenchTask → Type 0
AskFor words task.Check = words ≡ []
AskFor words task.Time = words ≡ codes "time" ∷ []
AskFor words task.Grow = words ≡ codes "grow" ∷ []
AskFor words task.Reclaim = words ≡ codes "reclaim" ∷ []
AskFor words (task.Soak None) = words ≡ codes "soak" ∷ []
AskFor words (task.Soak (Some n)) = (count : List ℕ) × WritesCount count n
    × (words ≡ codes "soak" ∷ count ∷ [])
