-- A call over a chain calls its closure with None at most once.
use Rattle.std.proofs.Common.{◌≡◌, inl, inr, ℕ, Option, Some, sym, ap, subst}
use Rattle.papaya_call.specs.declared.ask.Answer.TheVariants.{Word as Word_read, Op}
use Rattle.papaya_call.specs.declared.ask.OpKind.{OpKind}
use Rattle.papaya_call.specs.declared.ask.Ask.TheVariants.{ShowNone}
use Rattle.papaya_call.specs.declared.machine.Machine.{Machine as Call_machine}
use Rattle.papaya_call.specs.declared.machine.State.{State as Stage}
use Rattle.papaya_call.specs.declared.machine.State.TheVariants.{AtRoot, Leaving, Growing}
use Rattle.papaya_call.specs.declared.chain.ask.Ask.TheVariants as asked
use Rattle.papaya_call.specs.declared.chain.ask.Answer.{Answer}
use Rattle.papaya_call.specs.declared.chain.ask.Answer.TheVariants as answers
use Rattle.papaya_call.specs.declared.chain.machine.Machine.{Machine}
use Rattle.papaya_call.specs.ChainMachine.{after, after_in, ask_of}
use Rattle.papaya_call_law.specs.Says.{HasCalledNone, IsFilled}
use Rattle.papaya_call_law.proofs.ReliesHeld.{machine_offered}
use Rattle.papaya_call_law.proofs.SaysOnce.{machine_shown}
use Rattle.papaya_call_law.specs.Goes.{IsInOrder}
use Rattle.papaya_call_law.specs.ChainRelies.{left_by}
use Rattle.papaya_call_law.proofs.Goes.{machine_goes}
use Rattle.papaya_call_law.proofs.Names.{call_asks}

-- a call that is set aside has called its closure with None if it remembers what to insert
pub aside_filled : (fill : Option ℕ) (stage : Stage) (t : ℕ) → left_by stage ≡ Some t → HasCalledNone fill stage → IsFilled fill
aside_filled fill (Leaving u) t e h = h
aside_filled fill (Growing need) t e h = h
aside_filled fill stage t e h = absurd cc

-- the call has called its closure with None
abbrev HasCalled : Call_machine → Type 0
HasCalled call = HasCalledNone call.remembered.fill call.state

module _ (m : Machine) (answer : Answer) (order : IsInOrder m answer m.phase) (shown : HasCalledNone m.call.remembered.fill m.call.state) where
  -- the call after the answer has done so
  still_shown : HasCalled (after m answer).call
  still_shown = elim (machine_goes m answer order) [
    | inl waits ↦ subst HasCalled (sym waits.call) shown
    | inr (inl own) ↦ subst HasCalled (sym own.call) (machine_shown m.call own.told shown).1
    | inr (inr (inl enters)) ↦ subst HasCalled (sym enters.call) (aside_filled m.call.remembered.fill m.call.state enters.from enters.left shown)
    | inr (inr (inr (inl begins))) ↦ subst HasCalled (sym begins.call)
        (machine_shown (record m.call { state = AtRoot }) (Word_read begins.root)
        (aside_filled m.call.remembered.fill m.call.state begins.from begins.left shown)).1
    | inr (inr (inr (inr ends))) ↦ subst HasCalled (sym ends.call) tt
  ]

  -- so it does so no more
  pub chain_once : (ask_of m ≡ asked.Call ShowNone → ⊥) × HasCalledNone (after m answer).call.remembered.fill (after m answer).call.state
  chain_once = (λ asks. (machine_shown m.call (Word_read 0) shown).0 (call_asks m ShowNone asks).1, still_shown)

-- after such a call of the closure it has done so
pub chain_offered : (m : Machine) (kind : OpKind) → ask_of m ≡ asked.Call ShowNone
    → HasCalledNone (after m (answers.Call (Op kind))).call.remembered.fill (after m (answers.Call (Op kind))).call.state
chain_offered m kind asks = let own = call_asks m ShowNone asks in
    subst HasCalled (ap (λ phase. (after_in m (answers.Call (Op kind)) phase).call) (sym own.0)) (machine_offered m.call kind own.1)
