-- The table for which a copying machine makes a next one is on the chain.
use Rattle.std.proofs.Common.{◌≡◌, inl, inr, ℕ, ◌<◌, Option, Some, List, ◌++◌, refl, arith, subst}
use Rattle.papaya_call.specs.Search.{IsSize}
use Rattle.papaya_call.specs.declared.copy_ask.CopyAsk.TheVariants.{MakeTable}
use Rattle.papaya_call.specs.declared.copy.carry.Carry.{Carry}
use Rattle.papaya_call.specs.declared.copy.carry.Carry.TheVariants as carries
use Rattle.papaya_call.specs.declared.copy.copying.Copying.{Copying}
use Rattle.papaya_call.specs.declared.copy.copying.Copying.TheVariants.{Stepping, Lone}
use Rattle.papaya_call.specs.declared.copy.link.Link.TheVariants as links
use Rattle.papaya_call.specs.declared.copy.settle.Settle.{Settle}
use Rattle.papaya_call.specs.declared.copy.settle.Settle.TheVariants as settles
use Rattle.papaya_call.specs.declared.copy.settle.SlotToCopy.{SlotToCopy}
use Rattle.papaya_call.specs.declared.copy.step.Step.{Step}
use Rattle.papaya_call.specs.declared.copy.step.Step.TheVariants as steps
use Rattle.papaya_call.specs.Carry.{carry_ask, carry_follows}
use Rattle.papaya_call.specs.Copying.{copying_ask, copying_follows}
use Rattle.papaya_call.specs.Settle.{settle_ask, settle_follows}
use Rattle.papaya_call.specs.Step.{slot_of, step_ask, step_follows}
use Rattle.papaya_call.specs.declared.chain.ask.Ask.TheVariants as asks
use Rattle.papaya_call.specs.declared.chain.machine.Machine.{Machine}
use Rattle.papaya_call.specs.declared.chain.machine.Phase.{Phase}
use Rattle.papaya_call.specs.declared.chain.machine.Phase.TheVariants.{Calling, Linking, Copying as Copying_root}
use Rattle.papaya_call.specs.ChainMachine.{ask_of, asks_in, follows_in, follows_of}
use Rattle.papaya_call_law.specs.Goes.{link_in}
use Rattle.papaya_call_law.specs.ChainRelies.{Relies, ReliesPhase}
use Rattle.papaya_call_law.specs.ChainAnswers.{LoadedPairs}
use Rattle.papaya_words_law.specs.Class.{IsOn}
use Rattle.papaya_words_law.specs.Code.{Coding}
use Rattle.papaya_words_law.specs.Exchange.{Exchange, Setting, State, run, start}
use Rattle.papaya_call_law.specs.Copier.{ReliesCarry, ReliesCopying, ReliesSettle, ReliesStep}
use Rattle.papaya_call_law.specs.Copier.{Rises_to, link_in_carry, link_in_copying, link_in_settle}
use Rattle.papaya_call_law.specs.Copier.{link_in_step}

module _ {K P : Type 0} (g : Setting K P) (c : Coding K P) (slots limit chunks : ℕ) where
  module _ (s : State P) (last kept : Option P) where
    carry_on : (slot : SlotToCopy) (p : P) (word : ℕ) (carry : Carry) → ReliesCarry g c s last kept slot p carry
        → carry_ask carry word ≡ MakeTable slots limit chunks → IsOn s.first s.next (carry_follows carry)
    carry_on slot p word (carries.Linking hash link) r e = r.4.on
    carry_on slot p word other r e = absurd cc

    settle_on : (slot : SlotToCopy) (settle : Settle) → ReliesSettle g c s last kept slot settle → settle_ask settle slot ≡ MakeTable slots limit chunks
        → IsOn s.first s.next (settle_follows settle)
    settle_on slot (settles.Carrying word carry) r e = carry_on slot r.pair word carry r.relies e
    settle_on slot other r e = absurd cc

    step_on : (step : Step) → ReliesStep g c s last kept step → step_ask step ≡ MakeTable slots limit chunks → IsOn s.first s.next (step_follows step)
    step_on (steps.Linking from link) r e = r.2.on
    step_on (steps.Settling chunk settle) r e = settle_on (slot_of chunk) settle r.1 e
    step_on other r e = absurd cc

    pub copying_on : (copying : Copying) → ReliesCopying g c s last kept copying → copying_ask copying ≡ MakeTable slots limit chunks
        → IsOn s.first s.next (copying_follows copying)
    copying_on (Stepping aim step) r e = step_on step r.1 e
    copying_on (Lone slot settle) r e = settle_on slot settle r.1 e

  module _ (begun since : List (Exchange P)) (k : K) (m : Machine) (loaded : LoadedPairs P) where
    abbrev now : State P
    now = run (begun ++ since) start

    phase_on : (phase : Phase) → ReliesPhase g c begun since k m loaded phase → asks_in m.call phase ≡ asks.Copy (MakeTable slots limit chunks)
        → IsOn now.first now.next (follows_in phase)
    phase_on Calling r e = absurd cc
    phase_on (Linking link) r e = r.relies.on
    phase_on (Copying_root copying) (inl r) e = copying_on now loaded.call.last loaded.kept copying r.relies cc
    phase_on (Copying_root copying) (inr r) e = copying_on now loaded.call.last loaded.kept copying r.relies cc

    pub follows_on : Relies g c begun since k m loaded → ask_of m ≡ asks.Copy (MakeTable slots limit chunks) → IsOn now.first now.next (follows_of m)
    follows_on r e = phase_on m.phase r.phase e

-- The table that it is about to link has a greater number than the one before.
module _ {K P : Type 0} (g : Setting K P) (c : Coding K P) (behind n chunks : ℕ) where
  module _ (s : State P) (last kept : Option P) where
    carry_rises : (slot : SlotToCopy) (p : P) (carry : Carry) → ReliesCarry g c s last kept slot p carry
        → link_in_carry carry ≡ Some (links.Linking behind n chunks) → behind < n
    carry_rises slot p (carries.Linking hash link) r e = let is : link ≡ links.Linking behind n chunks = cc e in subst Rises_to is r.4.rises
    carry_rises slot p other r e = absurd cc

    settle_rises : (slot : SlotToCopy) (settle : Settle) → ReliesSettle g c s last kept slot settle
        → link_in_settle settle ≡ Some (links.Linking behind n chunks) → behind < n
    settle_rises slot (settles.Carrying word carry) r e = carry_rises slot r.pair carry r.relies e
    settle_rises slot other r e = absurd cc

    step_rises : (step : Step) → ReliesStep g c s last kept step → link_in_step step ≡ Some (links.Linking behind n chunks) → behind < n
    step_rises (steps.Linking from link) r e = let is : link ≡ links.Linking behind n chunks = cc e in subst Rises_to is r.2.rises
    step_rises (steps.Settling chunk settle) r e = settle_rises (slot_of chunk) settle r.1 e
    step_rises other r e = absurd cc

    pub copying_rises : (copying : Copying) → ReliesCopying g c s last kept copying → link_in_copying copying ≡ Some (links.Linking behind n chunks)
        → behind < n
    copying_rises (Stepping aim step) r e = step_rises step r.1 e
    copying_rises (Lone slot settle) r e = settle_rises slot settle r.1 e

  module _ (begun since : List (Exchange P)) (k : K) (m : Machine) (loaded : LoadedPairs P) where
    phase_rises : (phase : Phase) → ReliesPhase g c begun since k m loaded phase → link_in phase ≡ Some (links.Linking behind n chunks) → behind < n
    phase_rises Calling r e = absurd cc
    phase_rises (Linking link) r e = let is : link ≡ links.Linking behind n chunks = cc e in subst Rises_to is r.relies.rises
    phase_rises (Copying_root copying) (inl r) e = copying_rises (run (begun ++ since) start) loaded.call.last loaded.kept copying r.relies e
    phase_rises (Copying_root copying) (inr r) e = copying_rises (run (begun ++ since) start) loaded.call.last loaded.kept copying r.relies e

    pub machine_rises : Relies g c begun since k m loaded → link_in m.phase ≡ Some (links.Linking behind n chunks) → behind < n
    machine_rises r e = phase_rises m.phase r.phase e

-- the length of a table that is made and not linked
pub small_size : IsSize 8 15
small_size = record { power = (3, refl); most = omega arith; few = omega arith }
