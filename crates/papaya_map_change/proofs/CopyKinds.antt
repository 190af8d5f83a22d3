-- The exchanges of a copy do not change the map.
use Rattle.std.proofs.Common.{◌≡◌, ℕ}
use Rattle.papaya_call.specs.declared.ask.At.TheVariants.{Slot}
use Rattle.papaya_call.specs.declared.copy_ask.CopyAsk.{CopyAsk}
use Rattle.papaya_call.specs.declared.copy.carry.Carry.{Carry}
use Rattle.papaya_call.specs.declared.copy.carry.Carry.TheVariants as carries
use Rattle.papaya_call.specs.declared.copy.copying.Copying.{Copying}
use Rattle.papaya_call.specs.declared.copy.copying.Copying.TheVariants.{Stepping, Lone}
use Rattle.papaya_call.specs.declared.copy.link.Link.{Link}
use Rattle.papaya_call.specs.declared.copy.link.Link.TheVariants as links
use Rattle.papaya_call.specs.declared.copy.settle.Settle.{Settle}
use Rattle.papaya_call.specs.declared.copy.settle.Settle.TheVariants as settles
use Rattle.papaya_call.specs.declared.copy.step.Step.{Step}
use Rattle.papaya_call.specs.declared.copy.step.Step.TheVariants as steps
use Rattle.papaya_call.specs.Carry.{carry_kind}
use Rattle.papaya_call.specs.Copying.{copying_kind}
use Rattle.papaya_call.specs.Link.{link_kind}
use Rattle.papaya_call.specs.Settle.{settle_kind}
use Rattle.papaya_call.specs.Step.{step_kind}
use Rattle.papaya_call.specs.Machine as calls
use Rattle.papaya_call.specs.declared.machine.Machine.{Machine as Call_machine}
use Rattle.papaya_call.specs.declared.chain.ask.Ask.TheVariants as asks
use Rattle.papaya_call.specs.declared.chain.machine.Phase.{Phase}
use Rattle.papaya_call.specs.declared.chain.machine.Phase.TheVariants as phases
use Rattle.papaya_call.specs.declared.chain.resizer.ResizerState.{ResizerState}
use Rattle.papaya_call.specs.declared.chain.resizer.ResizerState.TheVariants as stages
use Rattle.papaya_call.specs.ChainMachine.{asks_in, kind_in}
use Rattle.papaya_call.specs.Resizer as resizers
use Rattle.papaya_map_book.specs.Changes.{ChangesNothing}

module _ (t x : ℕ) where
  link_keeps : (link : Link) → ChangesNothing (Slot t x) (link_kind link)
  link_keeps (links.Linking after table chunks) = tt
  link_keeps other = tt

  carry_keeps : (carry : Carry) → ChangesNothing (Slot t x) (carry_kind carry)
  carry_keeps (carries.Placing hash at) = tt
  carry_keeps (carries.Linking hash link) = link_keeps link
  carry_keeps (carries.Aborting table) = tt
  carry_keeps other = tt

  settle_keeps : (settle : Settle) → ChangesNothing (Slot t x) (settle_kind settle)
  settle_keeps settles.Looking = tt
  settle_keeps settles.Closing = tt
  settle_keeps settles.Shutting = tt
  settle_keeps (settles.Marking word) = tt
  settle_keeps (settles.Carrying word carry) = carry_keeps carry
  settle_keeps (settles.Finishing word) = tt

  step_keeps : (step : Step) → ChangesNothing (Slot t x) (step_kind step)
  step_keeps (steps.Linking from link) = link_keeps link
  step_keeps (steps.Settling chunk settle) = settle_keeps settle
  step_keeps (steps.Advancing cursor) = tt
  step_keeps (steps.Promoting from to) = tt
  step_keeps other = tt

  copying_keeps : (copying : Copying) → ChangesNothing (Slot t x) (copying_kind copying)
  copying_keeps (Stepping aim step) = step_keeps step
  copying_keeps (Lone slot settle) = settle_keeps settle

  -- for a call that is set aside
  pub phase_keeps : (call : Call_machine) (phase : Phase) (ask : CopyAsk) → asks_in call phase ≡ asks.Copy ask
      → ChangesNothing (Slot t x) (kind_in call phase)
  phase_keeps call phases.Calling ask asked = let f : asks.Call (calls.ask_of call) ≡ asks.Copy ask = asked in absurd (cc f)
  phase_keeps call (phases.Linking link) ask asked = link_keeps link
  phase_keeps call (phases.Copying copying) ask asked = copying_keeps copying

  -- for a call that resizes
  pub stage_keeps : (stage : ResizerState) → ChangesNothing (Slot t x) (resizers.kind_in stage)
  stage_keeps (stages.Opening n) = tt
  stage_keeps (stages.Linking link) = link_keeps link
  stage_keeps (stages.Copying from copying) = copying_keeps copying
  stage_keeps other = tt
