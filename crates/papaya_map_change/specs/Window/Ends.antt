-- How a call on the shared map ends, by what it has observed of the map then.
use Rattle.std.specs.Prelude.{◌≡◌, ℕ, Bool, List, Some}
use Rattle.papaya_words.specs.declared.refused.Refused.{Refused}
use Rattle.papaya_words.specs.declared.refused.Refused.TheVariants.{Capacity, Limit}
use Rattle.papaya_map_book.specs.declared.keyed.Keyed as keyed
use Rattle.papaya_map_book.specs.declared.rule.own.CapacityCause.{CapacityCause}
use Rattle.papaya_map_book.specs.declared.window.Window.{Window}
use Rattle.papaya_map_book.specs.Logs.{Stored}
use Rattle.papaya_map_book.specs.Limits.{HasNoRoom, IsSpent, tables_of}
use Rattle.papaya_map_book.specs.Windows.{Does, IsLawful, IsStoredAs, Sees}
use Rattle.papaya_map_lookup.specs.Drivers.{own, past}
use Rattle.papaya_map_lookup.specs.History.{Makes}
use Rattle.papaya_map_change.specs.Tries.{is_put, pair_in}
use Rattle.papaya_map_change.specs.declared.fast_path.Tried.{Tried}

module _ {K V S H : Type 0} {d : keyed.Ghosts S K H} where
  -- The call has observed at least as much of the same book, and the rule of the book holds of
  -- that. If `changed`, it has made one change, the last that it has observed; if not, none.
  pub record Ends (changed : Bool) (old new : Window K V S H d) : Type 0 where
    pub sees : Sees old new
    pub lawful : IsLawful new
    pub made : Makes changed (own old) (own new) (past new)

  -- If the call is refused because there is no room, or because the limit on pairs is spent, then
  -- what has been observed shows it.
  pub record HasCause (initial : ℕ) (w : Window K V S H d) (given : List CapacityCause)
      (refuses : Refused → Type 0) : Type 0 where
    pub crowded : refuses Capacity → HasNoRoom initial (tables_of w.sight.log) given
    pub spent : refuses Limit → IsSpent w.book.now.parts.limit w.sight.log

  -- The call has tried to store a pair with this key and this value in the arena, and to put it
  -- into the map.
  pub record HasTried {B : Type 0} (key : K) (value : V) (old new : Window K V S H d)
      (result : Tried K V B) : Type 0 where
    pub sees : Sees old new
    pub lawful : IsLawful new
    pub does : Does (is_put result) old new
    pub made : Makes (is_put result) (own old) (own new) (past new)
    pub logged : (pair : Stored K V) → pair_in result ≡ Some pair → IsStoredAs new key value pair
