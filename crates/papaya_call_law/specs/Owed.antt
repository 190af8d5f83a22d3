-- What a call that changed the map has yet to add to the count of pairs.
use Rattle.std.specs.Prelude.{ℤ, pos, negsuc, Option, Some}
use Rattle.papaya_call.specs.declared.ask.Ask.{Ask}
use Rattle.papaya_call.specs.declared.ask.Ask.TheVariants.{Exchange, AddToShard}
use Rattle.papaya_call.specs.declared.ask.Answer.{Answer}
use Rattle.papaya_call.specs.declared.ask.Answer.TheVariants.{Exchanged}
use Rattle.papaya_call.specs.declared.ask.StepKind.{StepKind}
use Rattle.papaya_call.specs.declared.ask.StepKind.TheVariants as kinds

-- what a machine with this ask has yet to add to the count: it adds right after its change
abbrev pub owed_by : Ask → ℤ
owed_by (AddToShard by) = by
owed_by _ = pos 0

-- by how many pairs an exchange of this kind lets the map grow: a claim by 1, and a removal by -1
abbrev pub grows_of : Option StepKind → ℤ
grows_of (Some kinds.Claim) = pos 1
grows_of (Some kinds.Bury) = negsuc 0
grows_of _ = pos 0

-- by how many pairs the map grows with this answer to an ask
abbrev pub grows_by : Option StepKind → Ask → Answer → ℤ
grows_by kind (Exchange at old new) Exchanged = grows_of kind
grows_by kind _ _ = pos 0
