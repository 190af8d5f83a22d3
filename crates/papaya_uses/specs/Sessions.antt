-- The effects and results of the calls on a table of users, by the histories that a session has
-- observed before and after.
use Rattle.std.specs.Prelude.{◌≡◌, ◌≢◌, ◌==◌, ℕ, Bool, MatchBool, Option, None, Some, List, option_map}
use Rattle.std.specs.Borrow.{Bor}
use Rattle.papaya.specs.Threads.{Change, IsAnsweredBetween, IsChangeOf, IsPut, Stored, WasHeld}

-- The history of a map from tokens to users.
abbrev pub Seen : Type 0
Seen = List (Change ℕ (Stored ℕ ℕ))

-- The last observed change gave the token to the user. The result is the user whose session it
-- ended, if any.
abbrev pub IsSignedIn : (token user : ℕ) → Seen → Seen → Option ℕ → Type 0
IsSignedIn token user old new before = (answer : Option (Bor ℕ))
    × (option_map (λ v. v.now) answer ≡ before) × IsPut (λ a b. a == b) token user old new answer

-- In some history between `old` and `new` the token had this user, or none.
abbrev pub IsUserBetween : ℕ → Seen → Seen → Option ℕ → Type 0
IsUserBetween token old new user = (found : Option (Bor ℕ)) × (option_map (λ v. v.now) found ≡ user)
    × IsAnsweredBetween (λ a b. a == b) (λ key. token == key) old new found

-- In some history between the two the token was not this user's: it had no user or another one.
abbrev pub WasOfNone : (token user : ℕ) → Seen → Seen → Type 0
WasOfNone token user old new = (held : Option (Stored ℕ ℕ))
    × WasHeld (λ a b. a == b) (λ key. token == key) old new held
    × (option_map (λ p. p.value.value) held ≢ Some user)

-- If `gone` is true, the last observed change took the token from this very user. If it is false,
-- the token was not this user's in some history between the two.
abbrev pub IsSignedOut : (token user : ℕ) → Seen → Seen → Bool → Type 0
IsSignedOut token user old new gone = MatchBool gone
    ((p : Stored ℕ ℕ) × IsChangeOf (λ key. token == key) old new (Some p) None
    × (p.value.value ≡ user)) (WasOfNone token user old new)
