-- The slot in which a compute puts the pair that it made to replace another.
use Rattle.std.specs.Prelude.{◌≡◌, ◌<◌, Option, Some}
use Rattle.papaya_words.specs.Word.{pair_of}
use Rattle.papaya_call.specs.declared.compute.Choice.{Choice}
use Rattle.papaya_call.specs.declared.compute.Choice.TheVariants.{Replace as To_replace}
use Rattle.papaya_call.specs.declared.compute.Put.{Put}
use Rattle.papaya_call.specs.declared.machine.Machine.{Machine}
use Rattle.papaya_call.specs.declared.machine.State.{State}
use Rattle.papaya_call.specs.declared.machine.State.TheVariants.{Putting}
use Rattle.papaya_call.specs.Write.{made_of}

-- A pair that is to replace another was made for this very slot, and is remembered.
abbrev pub IsChosen : Option Choice → Put → Type 0
IsChosen choice put = 0 < put.write.old
    → choice ≡ Some (To_replace (pair_of put.write.old) (made_of put.write put.pair))

abbrev pub PutsIn : Option Choice → State → Type 0
PutsIn choice (Putting put) = IsChosen choice put
PutsIn choice _ = Unit {0}

abbrev pub PutsChosen : Machine → Type 0
PutsChosen m = PutsIn m.remembered.choice m.state
