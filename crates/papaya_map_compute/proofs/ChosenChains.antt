-- A compute over a chain of tables: the pair that it remembers to have made to replace another, and
-- the place where it puts that pair.
use Rattle.std.proofs.Common.{◌≡◌, ◌⊎◌, inl, inr, ⊎_elim, ℕ, Some, sym, ap, ◌∙◌, subst}
use Rattle.papaya_call.specs.declared.call.Task.TheVariants.{Compute}
use Rattle.papaya_call.specs.declared.compute.Choice.TheVariants.{Replace as To_replace}
use Rattle.papaya_call.specs.declared.made.Of.{Of}
use Rattle.papaya_call.specs.declared.machine.Machine.{Machine as Call_machine}
use Rattle.papaya_call.specs.Machine as calls
use Rattle.papaya_call.specs.declared.chain.ask.Answer.{Answer}
use Rattle.papaya_call.specs.declared.chain.machine.Machine.{Machine}
use Rattle.papaya_call.specs.ChainMachine.{after}
use Rattle.papaya_call_law.specs.Goes.{IsInOrder, IsOwnStep}
use Rattle.papaya_call_law.proofs.Goes.{machine_goes}
use Rattle.papaya_call_law.specs.Says.{MakesPair}
use Rattle.papaya_map_compute.specs.Putting.{PutsChosen}
use Rattle.papaya_map_compute.proofs.ChosenSlots.{machine_choice, machine_puts, puts_anew}

module _ (m : Machine) (answer : Answer) (order : IsInOrder m answer m.phase) where
  -- a pair that it puts in the place of another was made for that slot
  pub chain_puts : m.call.task ≡ Compute → calls.IsValid m.call → PutsChosen m.call → PutsChosen (after m answer).call
  chain_puts is valid puts = elim (machine_goes m answer order) [
    | inl waits ↦ subst PutsChosen (sym waits.call) puts
    | inr (inl own) ↦ subst PutsChosen (sym own.call) (machine_puts m.call own.told is valid puts)
    | inr (inr (inl enters)) ↦ subst PutsChosen (sym enters.call) tt
    | inr (inr (inr (inl begins))) ↦ subst PutsChosen (sym begins.call) (puts_anew m.call begins.root is)
    | inr (inr (inr (inr ends))) ↦ subst PutsChosen (sym ends.call) tt
  ]

  -- it remembered this before, or a pair was made now
  pub chain_choice : (old : ℕ) (new : Of) → (after m answer).call.remembered.choice ≡ Some (To_replace old new)
      → (m.call.remembered.choice ≡ Some (To_replace old new)) ⊎ (IsOwnStep m answer × MakesPair (calls.ask_of m.call))
  chain_choice old new e = elim (machine_goes m answer order) [
    | inl waits ↦ inl (ap (λ (z : Call_machine). z.remembered.choice) (sym waits.call) ∙ e)
    | inr (inl own) ↦ ⊎_elim (λ same. inl same) (λ makes. inr (own, makes.0))
        (machine_choice m.call old new own.told (ap (λ (z : Call_machine). z.remembered.choice) (sym own.call) ∙ e))
    | inr (inr (inl enters)) ↦ inl (ap (λ (z : Call_machine). z.remembered.choice) (sym enters.call) ∙ e)
    | inr (inr (inr (inl begins))) ↦ inl (ap (λ (z : Call_machine). z.remembered.choice) (sym begins.call) ∙ e)
    | inr (inr (inr (inr ends))) ↦ inl (ap (λ (z : Call_machine). z.remembered.choice) (sym ends.call) ∙ e)
  ]
