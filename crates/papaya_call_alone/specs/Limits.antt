-- A call that takes a number for each pair that it makes, if there is a pair limit.
use Rattle.std.specs.Prelude.{◌≡◌}
use Rattle.papaya_call.specs.declared.ask.Answer.TheVariants.{Exchanged, Made as Made_number}
use Rattle.papaya_call.specs.declared.ask.Ask.{Ask as Call_ask}
use Rattle.papaya_call.specs.declared.ask.Ask.TheVariants.{Exchange, MakeKey, MakeValue, MakePair, MakePairOf}
use Rattle.papaya_call.specs.declared.ask.At.TheVariants.{Made as Made_word}
use Rattle.papaya_call.specs.declared.made.Number.TheVariants.{Taken}
use Rattle.papaya_call.specs.declared.chain.ask.Ask.{Ask}
use Rattle.papaya_call.specs.declared.chain.ask.Ask.TheVariants as asks
use Rattle.papaya_call.specs.declared.chain.ask.Answer.{Answer}
use Rattle.papaya_call.specs.declared.chain.ask.Answer.TheVariants as answers
use Rattle.papaya_call.specs.declared.chain.machine.Machine.{Machine}
use Rattle.papaya_call_law.specs.Says.{MakesPair}

-- the ask makes something for the call's next pair: its key, its value, or the pair
abbrev pub IsPartAsk : Call_ask → Type 0
IsPartAsk MakeKey = Unit {0}
IsPartAsk MakeValue = Unit {0}
IsPartAsk MakePair = Unit {0}
IsPartAsk (MakePairOf n) = Unit {0}
IsPartAsk _ = ⊥

abbrev pub IsMakingPart : Ask → Type 0
IsMakingPart (asks.Call ask) = IsPartAsk ask
IsMakingPart (asks.Copy ask) = ⊥

-- it has taken a number for its next pair
abbrev pub HasNumber : Machine → Type 0
HasNumber m = m.call.made.number ≡ Taken

-- the answer says that a pair was made
abbrev pub IsPairMade : Ask → Answer → Type 0
IsPairMade (asks.Call ask) (answers.Call (Made_number n)) = MakesPair ask
IsPairMade _ _ = ⊥

-- the ask takes a number; `IsNumberTaken` says that the answer is that it was taken
abbrev pub IsTakeAsk : Call_ask → Type 0
IsTakeAsk (Exchange Made_word old new) = Unit {0}
IsTakeAsk _ = ⊥

abbrev pub IsNumberTaken : Ask → Answer → Type 0
IsNumberTaken (asks.Call ask) (answers.Call Exchanged) = IsTakeAsk ask
IsNumberTaken _ _ = ⊥
