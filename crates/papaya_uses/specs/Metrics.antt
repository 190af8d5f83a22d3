-- The effect of an addition to the counter of a name on the map of counters, by what a session has
-- observed before and after.
use Rattle.std.specs.Prelude.{◌≡◌, ◌⊎◌, ℕ, true, None, Some, List, Result, Ok, Err, String, bytes_eq, string_bytes}
use Rattle.std.specs.declared.alloc.Global.{Global}
use Rattle.papaya.specs.Types.{Refused}
use Rattle.papaya.specs.Threads.{Change, IsChangeOf, Makes, Stored}

-- The history of a map from names to counters.
abbrev pub Seen : Type 0 → Type 0
Seen C = List (Change (String Global) (Stored (String Global) C))

-- The call made one change, the last that was observed. It put in a counter for this name, which
-- had none.
abbrev pub BeginsCounter : {C : Type 0} → (name : List ℕ) → (old new made made' : Seen C) → Type 0
BeginsCounter {C = C} name old new made made' = (q : Stored (String Global) C)
    × IsChangeOf (λ key. bytes_eq name (string_bytes key)) old new None (Some q)
    × Makes true made made' new

-- If the addition succeeds, it made no change or put in a counter for this name. If it is refused,
-- it made no change.
abbrev pub BeginsOrFinds : {C : Type 0} → (name : List ℕ) → (old new made made' : Seen C)
    → Result ℕ Refused → Type 0
BeginsOrFinds name old new made made' (Ok before) = (made' ≡ made)
    ⊎ BeginsCounter name old new made made'
BeginsOrFinds name old new made made' (Err refused) = made' ≡ made
