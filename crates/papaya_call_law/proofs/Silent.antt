-- The answer to a silent ask has no result of a closure, and makes no pair: after it a machine acts
-- only on results on which it acted before.
use Rattle.std.proofs.Common.{◌≡◌, ⊎_elim, ℕ, Option, None, Some, subst}
use Rattle.papaya_call.specs.declared.ask.Ask.{Ask}
use Rattle.papaya_call.specs.declared.ask.Ask.TheVariants.{Load, Exchange, LoadHint, WriteHint}
use Rattle.papaya_call.specs.declared.ask.Ask.TheVariants.{SameKey, ShowNone, ShowPair, SizeOf}
use Rattle.papaya_call.specs.declared.ask.Ask.TheVariants.{MakeKey, MakeValue, MakePair, MakePairOf}
use Rattle.papaya_call.specs.declared.ask.Ask.TheVariants.{MakeTable, AddToShard, Done}
use Rattle.papaya_call.specs.declared.ask.Answer.{Answer}
use Rattle.papaya_call.specs.declared.call.Reply.{Reply}
use Rattle.papaya_call.specs.declared.machine.Machine.{Machine}
use Rattle.papaya_call.specs.Machine.{IsValid, after, ask_of}
use Rattle.papaya_call_law.specs.Says.{Agrees, Inserts, IsResultBy, Makes, MakesPair, Removes, ClosureResult, NamesPairs, ActsOn, show}
use Rattle.papaya_call_law.proofs.SaysSaid.{machine_said}

-- the answer to this ask has no result of the closure, and no pair is made
abbrev pub IsSilent : Ask → Type 0
IsSilent ShowNone = ⊥
IsSilent (ShowPair n) = ⊥
IsSilent MakePair = ⊥
IsSilent (MakePairOf n) = ⊥
IsSilent (Done reply) = ⊥
IsSilent (Load at) = Unit {0}
IsSilent (Exchange at old new) = Unit {0}
IsSilent (LoadHint t x) = Unit {0}
IsSilent (WriteHint t x hint) = Unit {0}
IsSilent (SameKey n) = Unit {0}
IsSilent (SizeOf t) = Unit {0}
IsSilent MakeKey = Unit {0}
IsSilent MakeValue = Unit {0}
IsSilent (MakeTable slots limit chunks) = Unit {0}
IsSilent (AddToShard by) = Unit {0}

-- it asks for no pair
silent_makes : (ask : Ask) → IsSilent ask → MakesPair ask → ⊥
silent_makes MakePair silent makes = silent
silent_makes (MakePairOf n) silent makes = silent
silent_makes ShowNone silent makes = makes
silent_makes (ShowPair n) silent makes = makes
silent_makes (Done reply) silent makes = makes
silent_makes (Load at) silent makes = makes
silent_makes (Exchange at old new) silent makes = makes
silent_makes (LoadHint t x) silent makes = makes
silent_makes (WriteHint t x hint) silent makes = makes
silent_makes (SameKey n) silent makes = makes
silent_makes (SizeOf t) silent makes = makes
silent_makes MakeKey silent makes = makes
silent_makes MakeValue silent makes = makes
silent_makes (MakeTable slots limit chunks) silent makes = makes
silent_makes (AddToShard by) silent makes = makes

module _ (m : Machine) (answer : Answer) (silent : IsSilent (ask_of m)) where
  pub not_done : (reply : Reply) → ask_of m ≡ Done reply → ⊥
  not_done reply e = subst IsSilent e silent

  pub not_show : (shown : Option ℕ) → ask_of m ≡ show shown → ⊥
  not_show None e = subst IsSilent e silent
  not_show (Some n) e = subst IsSilent e silent

  -- no result was returned
  unsaid_now : (said : ClosureResult) → IsResultBy m answer said → ⊥
  unsaid_now (Agrees n agrees) h = subst IsSilent h.0 silent
  unsaid_now (Inserts shown) h = not_show shown h.0
  unsaid_now (Makes shown n) h = silent_makes (ask_of m) silent h.1
  unsaid_now (Removes n) h = subst IsSilent h.0 silent

  -- the result that the machine relies on is one that it relied on before
  pub stood_before : IsValid m → NamesPairs m → (said : ClosureResult) → ActsOn (after m answer) said → ActsOn m said
  stood_before valid words said stands = ⊎_elim (λ h. h) (λ h. absurd (unsaid_now said h)) (machine_said m answer said valid words stands)
