-- A machine that is about to make a table asks for exactly that.
use Rattle.std.proofs.Common.{◌≡◌, ℕ, Some, refl, sym, ap, ◌∙◌}
use Rattle.papaya_call.specs.declared.copy_ask.CopyAsk.{CopyAsk}
use Rattle.papaya_call.specs.declared.copy_ask.CopyAsk.TheVariants.{MakeTable}
use Rattle.papaya_call.specs.declared.copy.carry.Carry.{Carry}
use Rattle.papaya_call.specs.declared.copy.carry.Carry.TheVariants as carries
use Rattle.papaya_call.specs.declared.copy.copying.Copying.{Copying}
use Rattle.papaya_call.specs.declared.copy.copying.Copying.TheVariants.{Stepping, Lone}
use Rattle.papaya_call.specs.declared.copy.link.Link.TheVariants as links
use Rattle.papaya_call.specs.declared.copy.settle.Settle.{Settle}
use Rattle.papaya_call.specs.declared.copy.settle.Settle.TheVariants as settles
use Rattle.papaya_call.specs.declared.copy.settle.SlotToCopy.{SlotToCopy}
use Rattle.papaya_call.specs.declared.copy.step.Step.{Step}
use Rattle.papaya_call.specs.declared.copy.step.Step.TheVariants as steps
use Rattle.papaya_call.specs.Carry.{carry_ask}
use Rattle.papaya_call.specs.Copying.{copying_ask}
use Rattle.papaya_call.specs.Settle.{settle_ask}
use Rattle.papaya_call.specs.Step.{slot_of, step_ask}
use Rattle.papaya_call.specs.declared.chain.ask.Ask.TheVariants as asks
use Rattle.papaya_call.specs.declared.chain.machine.Machine.{Machine}
use Rattle.papaya_call.specs.declared.chain.machine.Phase.{Phase}
use Rattle.papaya_call.specs.declared.chain.machine.Phase.TheVariants.{Calling, Linking, Copying as Copying_root}
use Rattle.papaya_call.specs.declared.chain.resizer.ResizerState.{ResizerState as Stage}
use Rattle.papaya_call.specs.declared.chain.resizer.ResizerState.TheVariants as stages
use Rattle.papaya_call.specs.ChainMachine.{ask_of, asks_in}
use Rattle.papaya_call.specs.Resizer as resizers
use Rattle.papaya_call_law.specs.Copier.{link_in_carry, link_in_copying, link_in_settle, link_in_step}
use Rattle.papaya_call_law.specs.Goes.{link_in}
use Rattle.papaya_call_law.specs.Resizers.{link_of}

module _ (behind slots limit chunks : ℕ) where
  carry_asks : (goes : Carry) (marked : ℕ) → link_in_carry goes ≡ Some (links.Making behind slots limit chunks)
      → carry_ask goes marked ≡ MakeTable slots limit chunks
  carry_asks (carries.Linking hash made) marked e = let is : made ≡ links.Making behind slots limit chunks = cc e in rw is refl
  carry_asks other marked e = absurd cc

  settle_asks : (goes : Settle) (slot : SlotToCopy) → link_in_settle goes ≡ Some (links.Making behind slots limit chunks)
      → settle_ask goes slot ≡ MakeTable slots limit chunks
  settle_asks (settles.Carrying marked goes) slot e = carry_asks goes marked e
  settle_asks other slot e = absurd cc

  step_asks : (goes : Step) → link_in_step goes ≡ Some (links.Making behind slots limit chunks) → step_ask goes ≡ MakeTable slots limit chunks
  step_asks (steps.Linking from made) e = let is : made ≡ links.Making behind slots limit chunks = cc e in rw is refl
  step_asks (steps.Settling chunk goes) e = settle_asks goes (slot_of chunk) e
  step_asks other e = absurd cc

  copying_asks : (goes : Copying) → link_in_copying goes ≡ Some (links.Making behind slots limit chunks) → copying_ask goes ≡ MakeTable slots limit chunks
  copying_asks (Stepping aim goes) e = step_asks goes e
  copying_asks (Lone slot goes) e = settle_asks goes slot e

  phase_asks : (m : Machine) (phase : Phase) → link_in phase ≡ Some (links.Making behind slots limit chunks)
      → asks_in m.call phase ≡ asks.Copy (MakeTable slots limit chunks)
  phase_asks m Calling e = absurd cc
  phase_asks m (Linking made) e = let is : made ≡ links.Making behind slots limit chunks = cc e in rw is refl
  phase_asks m (Copying_root goes) e = ap asks.Copy (copying_asks goes e)

-- a machine
pub making_asks : (m : Machine) (behind slots limit chunks : ℕ) → link_in m.phase ≡ Some (links.Making behind slots limit chunks) → (ask : CopyAsk)
    → ask_of m ≡ asks.Copy ask → MakeTable slots limit chunks ≡ ask
making_asks m behind slots limit chunks e ask asked = let same : asks.Copy (MakeTable slots limit chunks) ≡ asks.Copy ask = sym
    (phase_asks behind slots limit chunks m m.phase e) ∙ asked in cc same

-- and a call that resizes
pub stage_making : (stage : Stage) (behind slots limit chunks : ℕ) → link_of stage ≡ Some (links.Making behind slots limit chunks)
    → resizers.asks_in stage ≡ Some (MakeTable slots limit chunks)
stage_making (stages.Linking made) behind slots limit chunks e = let is : made ≡ links.Making behind slots limit chunks = cc e in rw is refl
stage_making (stages.Copying from goes) behind slots limit chunks e = ap (λ (a : CopyAsk). Some a) (copying_asks behind slots limit chunks goes e)
stage_making other behind slots limit chunks e = absurd cc
