-- A call in phase `Calling` receives answers to calls, and any other call was set aside.
use Rattle.std.proofs.Common.{inl, inr, ℕ, List}
use Rattle.papaya_call.specs.Link.{follows}
use Rattle.papaya_call.specs.declared.chain.ask.Answer.{Answer}
use Rattle.papaya_call.specs.declared.chain.machine.Machine.{Machine}
use Rattle.papaya_call.specs.declared.chain.machine.Phase.{Phase}
use Rattle.papaya_call.specs.declared.chain.machine.Phase.TheVariants.{Calling, Linking, Copying as Copying_root}
use Rattle.papaya_call.specs.ChainMachine.{ask_of, asks_in, follows_of, kind_in, kind_of_ask}
use Rattle.papaya_words_law.specs.Code.{Coding}
use Rattle.papaya_words_law.specs.Exchange.{Setting, State, Exchange}
use Rattle.papaya_call_law.specs.Goes.{IsInOrder}
use Rattle.papaya_call_law.specs.ChainRelies.{Relies, ReliesPhase}
use Rattle.papaya_call_law.specs.ChainAnswers.{IsTrueOf, LoadedPairs}

module _ {K P : Type 0} (g : Setting K P) (c : Coding K P) (begun since : List (Exchange P)) (k : K) (m : Machine) (loaded : LoadedPairs P)
    (s : State P) (answer : Answer) (es : List (Exchange P)) (loaded' : LoadedPairs P) where
  phase_order : (phase : Phase) → ReliesPhase g c begun since k m loaded phase → (n : ℕ)
      → IsTrueOf g c k s (kind_in m.call phase) n loaded (asks_in m.call phase) answer es loaded' → IsInOrder m answer phase
  phase_order Calling at n h = (h.told, h.is)
  phase_order (Linking link) at n h = (follows link, at.left)
  phase_order (Copying_root copying) (inl at) n h = (at.table, at.left)
  phase_order (Copying_root copying) (inr at) n h = (at.table, at.left)

  pub in_order : Relies g c begun since k m loaded → IsTrueOf g c k s (kind_of_ask m) (follows_of m) loaded (ask_of m) answer es loaded'
      → IsInOrder m answer m.phase
  in_order r h = phase_order m.phase r.phase (follows_of m) h
