-- A call over a chain in phase `Calling`: the step that an answer makes its call take, and the
-- reason why it aborts.
use Rattle.std.proofs.Common.{◌≡◌, inl, inr, ℕ, Option, sym, ap, ◌∙◌}
use Rattle.papaya_call.specs.declared.ask.Answer.{Answer}
use Rattle.papaya_call.specs.declared.ask.Answer.TheVariants.{Op}
use Rattle.papaya_call.specs.declared.ask.Ask.TheVariants.{Load, Done}
use Rattle.papaya_call.specs.declared.ask.At.TheVariants.{Next}
use Rattle.papaya_call.specs.declared.ask.OpKind.TheVariants as ops
use Rattle.papaya_call.specs.declared.call.Reply.{Reply}
use Rattle.papaya_call.specs.declared.call.Reply.TheVariants.{Aborted}
use Rattle.papaya_call.specs.declared.machine.Machine.{Machine as Call_machine}
use Rattle.papaya_call.specs.Machine as calls
use Rattle.papaya_call.specs.declared.chain.ask.Answer.TheVariants as answers
use Rattle.papaya_call.specs.declared.chain.ask.Ask.TheVariants.{Call}
use Rattle.papaya_call.specs.declared.chain.machine.Machine.{Machine}
use Rattle.papaya_call.specs.declared.chain.machine.Phase.TheVariants.{Calling}
use Rattle.papaya_call.specs.ChainMachine.{after, ask_of}
use Rattle.papaya_call_law.proofs.Names.{call_asks}
use Rattle.papaya_call_law.proofs.Replies.{aside_asks}
use Rattle.papaya_call_law.specs.Says.{show}
use Rattle.papaya_call_law.proofs.SaysChanges.{machine_aborted}
use Rattle.papaya_map_change.proofs.StepsOfOwn.{aside_asks_none, calling_asks, own_went}

module _ (m : Machine) (calling : m.phase ≡ Calling) (answer : Answer) where
  abbrev m' : Machine
  m' = after m (answers.Call answer)

  -- its call takes a step of its own, unless it loads the number of a next table
  pub own_step : ((t : ℕ) → calls.ask_of m.call ≡ Load (Next t) → ⊥) → m'.call ≡ calls.after m.call answer
  own_step never = elim (own_went m calling answer) [
    | inl h ↦ h.0
    | inr (inl h) ↦ absurd (never h.0 (aside_asks m.call.made m.call.hash m.call.state h.0 h.1))
    | inr (inr h) ↦ absurd (never h.0 (aside_asks m.call.made m.call.hash m.call.state h.0 h.2))
  ]

  -- it aborts only after its closure was called and returned `Abort`
  pub own_aborted : (with : ℕ) → ((reply : Reply) → ask_of m ≡ Call (Done reply) → ⊥) → ask_of m' ≡ Call (Done (Aborted with)) → (shown : Option ℕ)
      × (calls.ask_of m.call ≡ show shown) × (answer ≡ Op (ops.Abort with))
  own_aborted with open_still e =
      let own : calls.ask_of m'.call ≡ Done (Aborted with) = (call_asks m' (Done (Aborted with)) e).1 in
      elim (own_went m calling answer) [
        | inl h ↦ machine_aborted m.call answer with (λ reply done. open_still reply (calling_asks m calling ∙ ap (λ a. Call a) done))
            (ap (λ (z : Call_machine). calls.ask_of z) (sym h.0) ∙ own)
        | inr (inl h) ↦ absurd (aside_asks_none m'.call m'.phase h.3 (Done (Aborted with)) e)
        | inr (inr h) ↦ let f = ap (λ (z : Call_machine). calls.ask_of z) (sym h.5) ∙ own in absurd (cc f)
      ]
