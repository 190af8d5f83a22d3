-- A step that a call makes for itself, and its answer.
use Rattle.std.proofs.Common.{◌≡◌, inl, inr, ℕ, Bool, false, Option, None, Some, sym, ◌∙◌, subst}
use Rattle.papaya_call.specs.declared.ask.Answer.{Answer as Call_answer}
use Rattle.papaya_call.specs.Answers.{Says}
use Rattle.papaya_call.specs.Machine.{ask_of as call_ask}
use Rattle.papaya_call.specs.declared.chain.ask.Answer.{Answer}
use Rattle.papaya_call.specs.declared.chain.ask.Answer.TheVariants as answers
use Rattle.papaya_call.specs.declared.chain.machine.Machine.{Machine}
use Rattle.papaya_call.specs.declared.chain.machine.Phase.TheVariants.{Calling}
use Rattle.papaya_call.specs.ChainMachine.{ask_of, asks_in}
use Rattle.papaya_call_law.specs.Goes.{Goes, IsOwnStep}
use Rattle.papaya_call_law.specs.ChainRelies.{left_by}
use Rattle.papaya_core_store.specs.Asks.{PerformsAsk}
use Rattle.papaya_core_store.specs.Performs.{Performs}
use Rattle.papaya_core_store.specs.Store.{StoreState}
use Rattle.papaya_core_store.specs.declared.pairs.Running.{Running}

-- a call that is not set aside continues for itself
pub own_step : (m : Machine) (answer : Answer) → Goes m answer → ((t : ℕ) → left_by m.call.state ≡ Some t → ⊥) → IsOwnStep m answer
own_step m answer (inl waits) stands = absurd (stands waits.from waits.left)
own_step m answer (inr (inl own)) stands = own
own_step m answer (inr (inr (inl enters))) stands = absurd (stands enters.from enters.left)
own_step m answer (inr (inr (inr (inl begins)))) stands = absurd (stands begins.from begins.left)
own_step m answer (inr (inr (inr (inr ends)))) stands = absurd (stands ends.from ends.left)

-- one that leaves no table is not
pub leaves_none : (left : Option ℕ) → left ≡ None → (t : ℕ) → left ≡ Some t → ⊥
leaves_none left none t some = let f : None ≡ Some t = sym none ∙ some in cc

-- a call's own ask is answered
pub own_performs : {K V S A : Type 0} (eq : K → K → Bool) (says : Says K V A) (hash : S → K → ℕ) (store : StoreState K V S) (r : Running K V A)
    (answer : Answer) (store' : StoreState K V S) (later : Running K V A) (told : Call_answer)
    → r.machine.phase ≡ Calling → answer ≡ answers.Call told → PerformsAsk eq says hash false (ask_of r.machine) store r answer store' later
    → Performs eq says false (call_ask r.machine.call) store r told store' later
own_performs eq says hash store r answer store' later told calling is performs =
    let (other, also, own) = subst (λ phase. PerformsAsk eq says hash false (asks_in r.machine.call phase) store r answer store' later) calling performs in
    let same : other ≡ told = cc (also, is) in
    subst (λ a. Performs eq says false (call_ask r.machine.call) store r a store' later) same own
