-- The closure's results on which a machine over a chain relies: after an answer for which its
-- closure was not called, and after one for which it was.
use Rattle.std.proofs.Common.{◌≡◌, ◌⊎◌, inl, inr, Bool, refl, sym, ap, subst}
use Rattle.papaya_call.specs.declared.ask.Answer.{Answer}
use Rattle.papaya_call.specs.declared.ask.Answer.TheVariants.{Yes}
use Rattle.papaya_call.specs.declared.search.Search.TheVariants.{Sizing}
use Rattle.papaya_call.specs.declared.machine.Machine.{Machine as Call_machine}
use Rattle.papaya_call.specs.declared.machine.State.TheVariants.{Searching}
use Rattle.papaya_call.specs.Machine as calls
use Rattle.papaya_call.specs.declared.chain.ask.Answer.TheVariants as answers
use Rattle.papaya_call.specs.declared.chain.machine.Machine.{Machine}
use Rattle.papaya_call.specs.declared.chain.machine.Phase.TheVariants.{Calling}
use Rattle.papaya_call.specs.ChainMachine.{IsValid, after, after_in}
use Rattle.papaya_call_law.proofs.Replies.{chain_shows}
use Rattle.papaya_call_law.specs.Says.{HasValue, IsResultBy, ClosureResult, NamesPairs, ActsOn}
use Rattle.papaya_call_law.proofs.SaysSaid.{machine_said}
use Rattle.papaya_call_law.proofs.SaysValues.{machine_values}
use Rattle.papaya_call_law.proofs.Silent.{IsSilent, stood_before}
use Rattle.papaya_map_change.proofs.Helped.{stands_before, values_left}
use Rattle.papaya_map_change.proofs.StepsOfOwn.{own_order, own_went}

module _ (m : Machine) (calling : m.phase ≡ Calling) where
  -- a machine whose closure was called with pairs that are there calls it with such pairs
  pub own_shows : (answer : Answer) → NamesPairs m.call → NamesPairs (after m (answers.Call answer)).call
  own_shows answer shows = chain_shows m (answers.Call answer) (own_order m calling answer) shows

  -- a machine that has the value of the pair that it remembers still has it
  pub own_values : (answer : Answer) → HasValue m.call → HasValue (after m (answers.Call answer)).call
  own_values answer has = elim (own_went m calling answer) [
    | inl h ↦ subst HasValue (sym h.0) (machine_values m.call answer has)
    | inr (inl h) ↦ subst HasValue (sym h.2) has
    | inr (inr h) ↦ subst HasValue (sym h.5) (values_left m.call h.0 h.2 (Searching (Sizing h.1)) has)
  ]

  -- the result that it relies on is one that it relied on before
  pub own_stood : (answer : Answer) → IsSilent (calls.ask_of m.call) → IsValid m → NamesPairs m.call → (said : ClosureResult)
      → ActsOn (after m (answers.Call answer)).call said → ActsOn m.call said
  own_stood answer silent valid shows said stands = elim (own_went m calling answer) [
    | inl h ↦ stood_before m.call answer silent valid.call shows said (subst (λ (z : Call_machine). ActsOn z said) h.0 stands)
    | inr (inl h) ↦ subst (λ (z : Call_machine). ActsOn z said) h.2 stands
    | inr (inr h) ↦ stands_before m.call (record m.call { state = Searching (Sizing h.1) }) refl refl said
        (subst (λ (z : Call_machine). ActsOn z said) h.5 stands)
  ]

  -- the result that it relies on is the closure's new one, or one that it relied on before
  pub own_said : (agreed : Bool) → IsValid m → NamesPairs m.call → (said : ClosureResult) → ActsOn (after m (answers.Call (Yes agreed))).call said
      → ActsOn m.call said ⊎ IsResultBy m.call (Yes agreed) said
  own_said agreed valid shows said stands =
      let same : (after m (answers.Call (Yes agreed))).call ≡ calls.after m.call (Yes agreed) = ap
      (λ p. (after_in m (answers.Call (Yes agreed)) p).call) calling in
      machine_said m.call (Yes agreed) said valid.call shows (subst (λ (z : Call_machine). ActsOn z said) same stands)
