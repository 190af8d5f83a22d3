-- The effect of an addition to a counter, by the histories that a session has observed before and
-- after.
use Rattle.std.specs.Prelude.{◌≡◌, ◌==◌, ◌+◌, ◌%◌, ◌^◌, ℕ, Option, None, Some, List, option_map}
use Rattle.papaya.specs.Threads.{Change, IsChangeOf, Stored, key_of}

-- The history of a map from counters to counts.
abbrev pub Seen : Type 0
Seen = List (Change ℕ (Stored ℕ ℕ))

-- The count of 64 bits after `by` is added. A counter starts at 0.
abbrev pub next_count : ℕ → Option ℕ → ℕ
next_count by None = by % 2 ^ 64
next_count by (Some count) = (count + by) % 2 ^ 64

-- The last observed change put in the counter's new count, which is the result: the sum of `by` and
-- of the count that this change took out, if any.
abbrev pub HasAdded : (counter by : ℕ) → Seen → Seen → ℕ → Type 0
HasAdded counter by old new count = (taken : Option (Stored ℕ ℕ)) × (q : Stored ℕ ℕ)
    × IsChangeOf (λ key. counter == key) old new taken (Some q) × (key_of q ≡ counter)
    × (q.value.value ≡ count) × (count ≡ next_count by (option_map (λ p. p.value.value) taken))
