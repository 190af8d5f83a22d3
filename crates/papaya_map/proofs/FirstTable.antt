-- The length of the first table of a new map.
use Rattle.std.proofs.Common.{ℕ, ◌*◌, ◌-◌, ◌<◌, ◌≤◌, List, arith}
use Rattle.std.specs.Prelude.{max, ◌/◌}
use Rattle.papaya_words.specs.Probe.{IsEntriesFor}
use Rattle.papaya_map_book.specs.Limits.{HasTableFrom}
use Rattle.papaya_map.specs.Fixed.{IsForInitial}

-- if no initial capacity was requested, a table may be for any number of entries
pub none_asked : (initial pairs : ℕ) → initial ≤ 1 → IsForInitial initial pairs
none_asked initial pairs few more = absurd (omega (arith, few, more))

-- a table for three quarters of `initial` slots, or for more entries, has `initial` slots
pub long_enough : (initial pairs : ℕ) → IsForInitial initial (max pairs (initial - initial / 4))
long_enough initial pairs more = (
  omega (arith, more),
  λ entries is. let least : max pairs (initial - initial / 4) * 8 / 6 ≤ entries = is.1 in omega (arith, least),
)

-- so the table that was opened is long enough
pub has_first : (initial pairs entries : ℕ) (tables : List ℕ) → IsForInitial initial pairs → IsEntriesFor pairs entries
    → (0 < pairs → HasTableFrom entries tables) → 1 < initial → HasTableFrom initial tables
has_first initial pairs entries tables asked is came more =
    let for_pairs = asked more in let least : initial ≤ entries = for_pairs.1 entries is in
    let there = came for_pairs.0 in let long : entries ≤ there.0 = there.1 in
    (there.0, omega (arith, least, long), there.2)
