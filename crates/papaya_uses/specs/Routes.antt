-- The effects and results of the calls on a table of routes, by the histories that a session has
-- observed before and after.
use Rattle.std.specs.Prelude.{◌≡◌, ℕ, Option, List, String, option_map, bytes_eq, string_bytes, string_eq}
use Rattle.std.specs.Borrow.{Bor}
use Rattle.std.specs.declared.alloc.Global.{Global}
use Rattle.papaya.specs.Threads.{Change, IsAnsweredBetween, IsPut, Stored}

-- The history of a map from paths to handlers.
abbrev pub Seen : Type 0
Seen = List (Change (String Global) (Stored (String Global) ℕ))

-- In some history between the two, the path of these bytes had this handler, or none.
abbrev pub IsLedBetween : (path : List ℕ) → Seen → Seen → Option ℕ → Type 0
IsLedBetween path old new handler = (found : Option (Bor ℕ))
    × (option_map (λ v. v.now) found ≡ handler)
    × IsAnsweredBetween string_eq (λ key. bytes_eq path (string_bytes key)) old new found

-- The last observed change gave the path this handler. The result is the handler that it had
-- before, if any.
abbrev pub IsLed : (path : String Global) (handler : ℕ) → Seen → Seen → Option ℕ → Type 0
IsLed path handler old new before = (answer : Option (Bor ℕ))
    × (option_map (λ v. v.now) answer ≡ before) × IsPut string_eq path handler old new answer
