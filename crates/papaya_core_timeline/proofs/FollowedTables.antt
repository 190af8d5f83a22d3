-- The table that a new one is to follow is on the chain.
use Rattle.std.proofs.Common.{◌≡◌, ℕ, Option, List, inl, inr}
use Rattle.papaya_call.specs.declared.copy_ask.CopyAsk.TheVariants.{MakeTable}
use Rattle.papaya_call.specs.declared.copy.carry.Carry.{Carry}
use Rattle.papaya_call.specs.declared.copy.carry.Carry.TheVariants as carries
use Rattle.papaya_call.specs.declared.copy.copying.Copying.{Copying}
use Rattle.papaya_call.specs.declared.copy.copying.Copying.TheVariants.{Stepping, Lone}
use Rattle.papaya_call.specs.declared.copy.settle.Settle.{Settle}
use Rattle.papaya_call.specs.declared.copy.settle.Settle.TheVariants as settles
use Rattle.papaya_call.specs.declared.copy.settle.SlotToCopy.{SlotToCopy}
use Rattle.papaya_call.specs.declared.copy.step.Step.{Step}
use Rattle.papaya_call.specs.declared.copy.step.Step.TheVariants as steps
use Rattle.papaya_call.specs.Carry as carry
use Rattle.papaya_call.specs.Copying as copying
use Rattle.papaya_call.specs.Settle as settle
use Rattle.papaya_call.specs.Step as step
use Rattle.papaya_call.specs.declared.chain.ask.Ask.TheVariants as asks
use Rattle.papaya_call.specs.declared.chain.machine.Machine.{Machine}
use Rattle.papaya_call.specs.declared.chain.machine.Phase.{Phase}
use Rattle.papaya_call.specs.declared.chain.machine.Phase.TheVariants.{Calling, Linking, Copying as Copying_root}
use Rattle.papaya_call.specs.ChainMachine as machine
use Rattle.papaya_call_law.specs.ChainRelies.{Relies, ReliesPhase, now}
use Rattle.papaya_call_law.specs.ChainAnswers.{LoadedPairs}
use Rattle.papaya_words_law.specs.Class.{IsOn}
use Rattle.papaya_words_law.specs.Code.{Coding}
use Rattle.papaya_words_law.specs.Exchange.{Setting, State, Exchange}
use Rattle.papaya_call_law.specs.Copier.{ReliesCarry, ReliesCopying, ReliesSettle, ReliesStep}

module _ {K P : Type 0} (g : Setting K P) (c : Coding K P) (s : State P) (last kept : Option P) (slots limit chunks : ℕ) where
  -- the table of this number is on the chain
  abbrev On : ℕ → Type 0
  On t = IsOn s.first s.next t

  carry_follows : (slot : SlotToCopy) (p : P) (goes : Carry) (marked : ℕ) → ReliesCarry g c s last kept slot p goes
      → carry.carry_ask goes marked ≡ MakeTable slots limit chunks → On (carry.carry_follows goes)
  carry_follows slot p (carries.Linking hash made) marked relies e = relies.4.on
  carry_follows slot p other marked relies e = absurd cc

  settle_follows : (slot : SlotToCopy) (goes : Settle) → ReliesSettle g c s last kept slot goes → settle.settle_ask goes slot ≡ MakeTable slots limit chunks
      → On (settle.settle_follows goes)
  settle_follows slot (settles.Carrying marked goes) relies e = carry_follows slot relies.pair goes marked relies.relies e
  settle_follows slot other relies e = absurd cc

  step_follows : (goes : Step) → ReliesStep g c s last kept goes → step.step_ask goes ≡ MakeTable slots limit chunks → On (step.step_follows goes)
  step_follows (steps.Linking from made) relies e = relies.2.on
  step_follows (steps.Settling chunk goes) relies e = settle_follows (step.slot_of chunk) goes relies.1 e
  step_follows other relies e = absurd cc

  pub copying_follows : (goes : Copying) → ReliesCopying g c s last kept goes → copying.copying_ask goes ≡ MakeTable slots limit chunks
      → On (copying.copying_follows goes)
  copying_follows (Stepping aim goes) relies e = step_follows goes relies.1 e
  copying_follows (Lone slot goes) relies e = settle_follows slot goes relies.1 e

module _ {K P : Type 0} (g : Setting K P) (c : Coding K P) (begun since : List (Exchange P)) (k : K) (m : Machine) (loaded : LoadedPairs P) where
  -- the same if a machine asks for a table for a copy
  pub machine_follows : Relies g c begun since k m loaded → (slots limit chunks : ℕ) → machine.ask_of m ≡ asks.Copy (MakeTable slots limit chunks)
      → IsOn (now g c begun since k).first (now g c begun since k).next (machine.follows_of m)
  machine_follows relies slots limit chunks e = by_phase m.phase relies.phase e
    where
      by_phase : (phase : Phase) → ReliesPhase g c begun since k m loaded phase
          → machine.asks_in m.call phase ≡ asks.Copy (MakeTable slots limit chunks)
          → IsOn (now g c begun since k).first (now g c begun since k).next (machine.follows_in phase)
      by_phase Calling h e = absurd cc
      by_phase (Linking made) h e = h.relies.on
      by_phase (Copying_root goes) (inl h) e = copying_follows g c (now g c begun since k) loaded.call.last loaded.kept slots limit chunks goes
          h.relies (let f : copying.copying_ask goes ≡ MakeTable slots limit chunks = cc in f)
      by_phase (Copying_root goes) (inr h) e = copying_follows g c (now g c begun since k) loaded.call.last loaded.kept slots limit chunks goes
          h.relies (let f : copying.copying_ask goes ≡ MakeTable slots limit chunks = cc in f)
