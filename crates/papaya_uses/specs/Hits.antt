-- The effects and results of the calls on a table of reads. A count is stated by the histories that
-- its session has observed before and after, a lookup by some history of a map.
use Rattle.std.specs.Prelude.{◌≡◌, ◌==◌, ◌+◌, ◌-◌, ◌^◌, ℕ, min, Option, None, Some, List, [], option_map}
use Rattle.std.specs.Borrow.{Bor}
use Rattle.papaya.specs.Threads.{Change, IsAnsweredBetween, IsChangeOf, IsOfHistory, Stored, key_of}

-- The history of a map from pages to counts.
abbrev pub Seen : Type 0
Seen = List (Change ℕ (Stored ℕ ℕ))

-- The count after one more read, which stops at the greatest number of 64 bits. The first count is
-- 1.
abbrev pub one_on : Option ℕ → ℕ
one_on None = 1
one_on (Some count) = min (count + 1) (2 ^ 64 - 1)

-- The last observed change put in this count of the page: one more than the count that this change
-- took out, if any.
abbrev pub HasCounted : (page : ℕ) → Seen → Seen → (count : ℕ) → Type 0
HasCounted page old new count = (taken : Option (Stored ℕ ℕ)) × (q : Stored ℕ ℕ)
    × IsChangeOf (λ key. page == key) old new taken (Some q) × (key_of q ≡ page)
    × (q.value.value ≡ count) × (count ≡ one_on (option_map (λ p. p.value.value) taken))

-- In some legal history the page had this count, or none.
abbrev pub IsCountOf : ℕ → Option ℕ → Type 0
IsCountOf page count = (found : Option (Bor ℕ)) × (option_map (λ v. v.now) found ≡ count)
    × IsOfHistory (λ a b. a == b)
    (λ history. IsAnsweredBetween (λ a b. a == b) (λ key. page == key) [] history found)
