-- The result of a call that does something or not.
use Rattle.std.specs.Prelude.{Bool, false, Result, Ok, Err}
use Rattle.papaya.specs.Types.{Refused}

-- Whether the call did it: it was not refused, and returned `true`.
abbrev pub is_yes : Result Bool Refused → Bool
is_yes (Ok answer) = answer
is_yes (Err refused) = false
