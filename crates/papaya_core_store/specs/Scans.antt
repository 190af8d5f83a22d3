-- The answer to one ask of a call that scans a table.
use Rattle.std.specs.Prelude.{◌≡◌, ◌⊎◌, ℕ, Bool, Some, None, [], ◌∷◌, ◌++◌}
use Rattle.papaya_words.specs.Counter.{added}
use Rattle.papaya_words.specs.declared.refused.Refused.TheVariants.{Memory}
use Rattle.papaya_call.specs.declared.ask.Answer.{Answer as Call_answer}
use Rattle.papaya_call.specs.declared.ask.Answer.TheVariants.{Yes, Ok, Refused}
use Rattle.papaya_call.specs.Answers.{Says}
use Rattle.papaya_call.specs.declared.chain.ask.Answer.{Answer}
use Rattle.papaya_call.specs.declared.chain.ask.Answer.TheVariants as answers
use Rattle.papaya_core_store.specs.CopyAsks.{IsCallAnswer, PerformsCopy}
use Rattle.papaya_core_store.specs.Store.{StoreState, Stored, pair_of}
use Rattle.papaya_call.specs.declared.chain.ask.ScanAsk.{ScanAsk}
use Rattle.papaya_call.specs.declared.chain.ask.ScanAsk.TheVariants.{Copy, Show, Given, AddToShard}
use Rattle.papaya_core_store.specs.declared.scans.Scanning.{Scanning}

-- the closure is called with pair n, and the answer is whether the pair stays; the answer says
-- nothing if there is no closure or no such pair, but no machine asks then
abbrev pub CallsClosure : {K V S A : Type 0} → Says K V A → ℕ → StoreState K V S → Scanning A
    → Call_answer → Scanning A → Type 0
CallsClosure {K = K} {V = V} {A = A} says n s v answer v' =
    (((v.answers ≡ None) ⊎ (pair_of s n ≡ None)) × (answer ≡ Ok) × (v' ≡ v))
    ⊎ ((a : A) × (p : Stored K V) × (stays : Bool) × (a' : A) × (v.answers ≡ Some a)
    × (pair_of s n ≡ Some p) × says.yes a p.key p.value stays a' × (answer ≡ Yes stays)
    × (v' ≡ record v { answers = Some a' }))

-- the number n is added to the end of the list of an iteration; `Gives` also allows that memory
-- runs out for it
pub record IsGiven {A : Type 0} (n : ℕ) (v v' : Scanning A) : Type 0 where
  pub scanner : v'.scanner ≡ v.scanner
  pub answers : v'.answers ≡ v.answers
  pub given : v'.given ≡ v.given ++ n ∷ []

abbrev pub Gives : {A : Type 0} → ℕ → Scanning A → Call_answer → Scanning A → Type 0
Gives n v answer v' = ((answer ≡ Ok) × IsGiven n v v')
    ⊎ ((answer ≡ Refused Memory) × (v'.scanner ≡ v.scanner) × (v'.answers ≡ v.answers)
    × (v'.given ≡ v.given))

-- Exactly one ask is answered: an ask of the copy of all as a copier's is, and a call of the
-- closure by the closure's answers.
abbrev pub PerformsScan : {K V S A : Type 0} → (K → K → Bool) → Says K V A → (S → K → ℕ) → Bool
    → ScanAsk → StoreState K V S → Scanning A → Answer → StoreState K V S → Scanning A → Type 0
PerformsScan eq says hash refuse (Copy ask) s v answer s' v' =
    PerformsCopy eq hash refuse ask s answer s' × (v' ≡ v)
PerformsScan eq says hash refuse (Show n) s v answer s' v' =
    IsCallAnswer answer (λ told. CallsClosure says n s v told v') × (s' ≡ s)
PerformsScan eq says hash refuse (Given n) s v answer s' v' =
    IsCallAnswer answer (λ told. Gives n v told v') × (s' ≡ s)
PerformsScan eq says hash refuse (AddToShard by) s v answer s' v' = (answer ≡ answers.Call Ok)
    × ((number : ℕ) × (s' ≡ record s { count = added s.count number by })) × (v' ≡ v)
