-- A call's search that passes places of a table in one step, where its machine would ask for each.
use Rattle.std.specs.Prelude.{◌≡◌}
use Rattle.papaya_call.specs.declared.search.Place.{Place}
use Rattle.papaya_call.specs.declared.search.Search.TheVariants.{Looking}
use Rattle.papaya_call.specs.declared.machine.State.TheVariants.{Searching}
use Rattle.papaya_call.specs.declared.chain.machine.Machine.{Machine}
use Rattle.papaya_call.specs.declared.chain.machine.Phase.TheVariants.{Calling}
use Rattle.papaya_map_change.specs.declared.driver.Driver.{Driver}

-- The machine of a call that looks at this place next.
abbrev pub probing_at : Machine → Place → Machine
probing_at m at = record m {
  call = record m.call { state = Searching (Looking at) };
  phase = Calling;
}

-- The call was about to look at one place, and is now about to look at another.
pub record HasPassed {K V S H : Type 0} (c c' : Driver K V S H) : Type 0 where
  pub from : Place
  pub to : Place
  pub was : c.machine ≡ probing_at c.machine from
  pub is : c' ≡ record c { machine = probing_at c.machine to }
