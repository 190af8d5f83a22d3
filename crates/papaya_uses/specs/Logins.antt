-- Which logins a sweep leaves, and which it takes out.
use Rattle.std.specs.Prelude.{◌≡◌, ◌==◌, ◌≤◌, ℕ, None, Some, List, ◌++◌}
use Rattle.std.specs.List.{All}
use Rattle.papaya.specs.Threads.{Change, Stored, WasTakenOut, replay}
use Rattle.papaya_uses.specs.declared.logins.Login.{Login}

-- The history of a map from tokens to logins.
abbrev pub Seen : Type 0
Seen = List (Change ℕ (Stored ℕ Login))

-- Each login of the history `old` that had ended by `now` was taken out since.
abbrev pub AreEndedGone : (now : ℕ) → Seen → Seen → Type 0
AreEndedGone now old new = (token : ℕ) (p : Stored ℕ Login)
    → replay (λ a b. a == b) old token ≡ Some p → p.value.value.until ≤ now → WasTakenOut old new p

-- The change takes out a login that had ended by `now`, and puts none in.
abbrev pub TakesEnded : (now : ℕ) → Change ℕ (Stored ℕ Login) → Type 0
TakesEnded now change = (p : Stored ℕ Login) × (change.taken ≡ Some p) × (change.put ≡ None)
    × (p.value.value.until ≤ now)

-- Each of the changes since `made` takes out a login that had ended by `now`, and puts none in.
pub record DropsEnded (now : ℕ) (made made' : Seen) : Type 0 where
  pub changes : Seen
  pub made_is : made' ≡ made ++ changes
  pub each : All (TakesEnded now) changes
