-- The result of reading back a setting that the same thread wrote.
use Rattle.std.specs.Prelude.{◌≡◌, ◌==◌, ℕ, true, Option, Some, List, option_map}
use Rattle.std.specs.Borrow.{Bor}
use Rattle.papaya.specs.Threads.{Change, IsAnsweredBetween, IsPut, Known, Makes, Stored}

-- The history of a map from settings to values.
abbrev pub Seen : Type 0
Seen = List (Change ℕ (Stored ℕ ℕ))

-- The thread made one change, which gave the setting this value. The result of the read, a value or
-- `None`, is what the map had for the setting at some point after this change. If no change was
-- observed since, it is the value just written.
pub record IsReadBack {S : Type 0} (setting value : ℕ) (old new : Known ℕ ℕ S) (read : Option ℕ)
    : Type 0 where
  pub own : Seen
  pub before : Option (Bor ℕ)
  pub put : IsPut (λ a b. a == b) setting value old.history own before
  pub made : Makes true old.made new.made own
  pub found : Option (Bor ℕ)
  pub answered : IsAnsweredBetween (λ a b. a == b) (λ key. setting == key) own new.history
      found
  pub read_is : option_map (λ v. v.now) found ≡ read
  pub alone : own ≡ new.history → read ≡ Some value
