-- The answer to one ask of a caller's machine: of the call itself, or of the copy for which it is
-- set aside.
use Rattle.std.specs.Prelude.{◌≡◌, ℕ, Bool}
use Rattle.papaya_call.specs.Answers.{Says}
use Rattle.papaya_call.specs.declared.chain.ask.Ask.{Ask}
use Rattle.papaya_call.specs.declared.chain.ask.Ask.TheVariants as asks
use Rattle.papaya_call.specs.declared.chain.ask.Answer.{Answer}
use Rattle.papaya_core_store.specs.declared.pairs.Running.{Running}
use Rattle.papaya_core_store.specs.CopyAsks.{IsCallAnswer, PerformsCopy}
use Rattle.papaya_core_store.specs.Performs.{Performs}
use Rattle.papaya_core_store.specs.Store.{StoreState}

-- one ask is answered; an ask of a copy changes nothing of the call
abbrev pub PerformsAsk : {K V S A : Type 0} → (K → K → Bool) → Says K V A → (S → K → ℕ) → Bool
    → Ask → StoreState K V S → Running K V A → Answer → StoreState K V S → Running K V A → Type 0
PerformsAsk eq says hash refuse (asks.Call ask) s r answer s' r' =
    IsCallAnswer answer (λ told. Performs eq says refuse ask s r told s' r')
PerformsAsk eq says hash refuse (asks.Copy ask) s r answer s' r' =
    PerformsCopy eq hash refuse ask s answer s' × (r' ≡ r)
