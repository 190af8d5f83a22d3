-- A session as contracts see it.
use Rattle.std.specs.Prelude.{ℕ, List}
use Rattle.papaya_map_book.specs.declared.rule.own.CapacityCause.{CapacityCause}
use Rattle.papaya_map_book.specs.Logs.{Stored}
use Rattle.papaya_map_lookup.specs.History.{Change}
use Rattle.papaya_map.specs.Fixed.{Fixed}

-- The fixed properties of the session's map, and the fields of a pass of that map: the history that
-- it has observed, and its own changes in that history. `tables` has the number of slots of each
-- table that it has observed. If its last changing call was refused because there was no room,
-- `given` has the number that an arena returned or the sum that the count returned. `taken` is how
-- many numbers were taken for entries.
pub record Known (K V S : Type 0) : Type 0 where
  pub map : Fixed K V S
  pub history : List (Change K (Stored K V))
  pub made : List (Change K (Stored K V))
  pub tables : List ℕ
  pub given : List CapacityCause
  pub taken : ℕ
