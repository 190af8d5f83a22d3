-- The pair limit of a core, and the numbers for pairs that it leaves.
use Rattle.std.specs.Prelude.{◌≡◌, ◌≤◌, ℕ, Some, MatchOption}
use Rattle.papaya_call.specs.declared.ask.Ask.{Ask as Call_ask}
use Rattle.papaya_call.specs.declared.ask.Ask.TheVariants.{Load, Exchange}
use Rattle.papaya_call.specs.declared.ask.At.TheVariants.{Made}
use Rattle.papaya_call.specs.declared.chain.ask.Ask.{Ask}
use Rattle.papaya_call.specs.declared.chain.ask.Ask.TheVariants as asks
use Rattle.papaya_call.specs.ChainMachine.{ask_of}
use Rattle.papaya_core_store.specs.declared.pairs.Running.{Running}
use Rattle.papaya_core_timeline.specs.Core.{CoreState, call_of}

-- as many numbers were taken for pairs as the pair limit allows
abbrev pub IsSpent : {K V S A : Type 0} → CoreState K V S A → Type 0
IsSpent s = s.mode.limit ≡ Some s.store.words.made

-- no more numbers were taken for pairs than the pair limit allows, if there is one
abbrev pub IsWithin : {K V S A : Type 0} → CoreState K V S A → Type 0
IsWithin s = MatchOption s.mode.limit (Unit {0}) (λ most. s.store.words.made ≤ most)

-- the ask loads how many numbers were taken for pairs, or takes one more
abbrev pub AsksNumber : Call_ask → Type 0
AsksNumber (Load Made) = Unit {0}
AsksNumber (Exchange Made old new) = Unit {0}
AsksNumber _ = ⊥

abbrev pub AsksForNumber : Ask → Type 0
AsksForNumber (asks.Call ask) = AsksNumber ask
AsksForNumber (asks.Copy ask) = ⊥

-- the call that a caller has under way needs a number for its next pair
abbrev pub NeedsNumber : {K V S A : Type 0} → CoreState K V S A → ℕ → Type 0
NeedsNumber {K = K} {V = V} {A = A} s caller = (r : Running K V A) × (call_of s caller ≡ Some r)
    × AsksForNumber (ask_of r.machine)
