-- The words that a copy for a call names, and may exchange.
use Rattle.std.proofs.Common.{◌≡◌, inl, inr, ℕ, Option, List, ◌++◌, refl, subst}
use Rattle.papaya_call.specs.declared.ask.Ask.{Ask as Call_ask}
use Rattle.papaya_call.specs.declared.ask.At.{At}
use Rattle.papaya_call.specs.declared.ask.StepKind.{StepKind}
use Rattle.papaya_call.specs.declared.copy_ask.CopyAsk.{CopyAsk}
use Rattle.papaya_call.specs.declared.copy_ask.CopyAsk.TheVariants.{Exchange as Ask_exchange, WriteHint}
use Rattle.papaya_call.specs.Machine as call_machine
use Rattle.papaya_call.specs.declared.copy.copying.Copying.{Copying}
use Rattle.papaya_call.specs.Copying.{copying_ask}
use Rattle.papaya_call.specs.Link.{link_ask}
use Rattle.papaya_call.specs.declared.chain.ask.Ask.TheVariants as asks
use Rattle.papaya_call.specs.declared.chain.machine.Machine.{Machine}
use Rattle.papaya_call.specs.declared.chain.machine.Phase.{Phase}
use Rattle.papaya_call.specs.declared.chain.machine.Phase.TheVariants.{Calling, Linking, Copying as Copying_root}
use Rattle.papaya_call.specs.ChainMachine.{ask_of, asks_in, kind_in, kind_of_ask}
use Rattle.papaya_words_law.specs.Allows.{AllAllowed, Allows}
use Rattle.papaya_words_law.specs.Code.{Coding, IsHashed}
use Rattle.papaya_words_law.specs.Exchange.{Setting, State, Exchange, after, run, start}
use Rattle.papaya_words_law.specs.Invariant.{IsKeeping}
use Rattle.papaya_words_law.specs.Meaning.{map_left}
use Rattle.papaya_words_law.proofs.OneMap.{keeping}
use Rattle.papaya_call_law.specs.Copier.{AreThere, HasWords, IsCopyAsked, ReliesCopying}
use Rattle.papaya_call_law.specs.TrueAnswers.{IsWritten, word_of}
use Rattle.papaya_call_law.proofs.CopierCopies.{copying_there, link_there, copying_noted}
use Rattle.papaya_call_law.proofs.CopierExchange.{copying_may, link_may}
use Rattle.papaya_call_law.specs.Goes.{link_in}
use Rattle.papaya_call_law.specs.ChainRelies.{Relies, ReliesPhase}
use Rattle.papaya_call_law.specs.ChainAnswers.{LoadedPairs}
use Rattle.papaya_call_law.proofs.CopierCarries.{no_note}
use Rattle.papaya_words_law.specs.Hints.{IsHint}

-- an ask of a machine in its call's form is its call's ask
own_ask : (m : Machine) (phase : Phase) (ask : Call_ask) → asks_in m.call phase ≡ asks.Call ask → (phase ≡ Calling) × (call_machine.ask_of m.call ≡ ask)
own_ask m Calling ask e = (refl, cc e)
own_ask m (Linking link) ask e = absurd cc
own_ask m (Copying_root copying) ask e = absurd cc

pub call_asks : (m : Machine) (ask : Call_ask) → ask_of m ≡ asks.Call ask → (m.phase ≡ Calling) × (call_machine.ask_of m.call ≡ ask)
call_asks m ask e = own_ask m m.phase ask e

module _ {K P : Type 0} (g : Setting K P) (c : Coding K P) (hashed : IsHashed g c) (begun since : List (Exchange P))
    (may : AllAllowed g start (begun ++ since)) (k : K) (m : Machine) (loaded : LoadedPairs P) (r : Relies g c begun since k m loaded) where
  -- the state after all exchanges
  abbrev now : State P
  now = run (begun ++ since) start

  keeps : IsKeeping g now (map_left g (begun ++ since))
  keeps = keeping g hashed.lawful (begun ++ since) may

  -- a copy relies on its facts, in each mode
  copy_relies : (copying : Copying) → ReliesPhase g c begun since k m loaded (Copying_root copying) → ReliesCopying g c now loaded.call.last loaded.kept copying
  copy_relies copying (inl at) = at.relies
  copy_relies copying (inr at) = at.relies

  -- the words that are named are there
  there_in : (phase : Phase) → ReliesPhase g c begun since k m loaded phase → (ask : CopyAsk) → asks_in m.call phase ≡ asks.Copy ask
      → AreThere g c now loaded.call.last loaded.kept ask
  there_in Calling at ask e = absurd cc
  there_in (Linking link) at ask e = let is : link_ask link ≡ ask = cc e in
      subst (AreThere g c now loaded.call.last loaded.kept) is
      (link_there g c hashed now (map_left g (begun ++ since)) keeps loaded.call.last loaded.kept link at.relies)
  there_in (Copying_root copying) at ask e = let is : copying_ask copying ≡ ask = cc e in
      subst (AreThere g c now loaded.call.last loaded.kept) is
      (copying_there g c hashed now (map_left g (begun ++ since)) keeps loaded.call.last loaded.kept copying (copy_relies copying at))

  pub copies_there : (ask : CopyAsk) → ask_of m ≡ asks.Copy ask → AreThere g c now loaded.call.last loaded.kept ask
  copies_there ask e = there_in m.phase r.phase ask e

  -- its exchange is allowed
  abbrev May : Option StepKind → At → (old new : ℕ) → Type 0
  May kind at old new = word_of g c now at ≡ old → (e : Exchange P) × IsCopyAsked c kind at new now loaded.kept e × Allows g now e
      × IsWritten g c now at new (after now e)

  may_in : (phase : Phase) → ReliesPhase g c begun since k m loaded phase → HasWords g (link_in phase) → (at : At) (old new : ℕ)
      → asks_in m.call phase ≡ asks.Copy (Ask_exchange at old new) → May (kind_in m.call phase) at old new
  may_in Calling at words place old new e = absurd cc
  may_in (Linking link) at words place old new e = let is : link_ask link ≡ Ask_exchange place old new = cc e in
      link_may g c hashed now (map_left g (begun ++ since)) keeps loaded.call.last loaded.kept link at.relies words place old new is
  may_in (Copying_root copying) at words place old new e = let is : copying_ask copying ≡ Ask_exchange place old new = cc e in
      copying_may g c hashed now (map_left g (begun ++ since)) keeps loaded.call.last loaded.kept copying (copy_relies copying at) words place old new is

  pub copies_may : HasWords g (link_in m.phase) → (at : At) (old new : ℕ) → ask_of m ≡ asks.Copy (Ask_exchange at old new) → May (kind_of_ask m) at old new
  copies_may words at old new e = may_in m.phase r.phase words at old new e

  -- and a hint that is written may be there
  may_hint_in : (phase : Phase) → ReliesPhase g c begun since k m loaded phase → (t x n : ℕ) → asks_in m.call phase ≡ asks.Copy (WriteHint t x n)
      → IsHint g c now t x n
  may_hint_in Calling at t x n e = absurd cc
  may_hint_in (Linking link) at t x n e = let is : link_ask link ≡ WriteHint t x n = cc e in absurd (no_note link t x n is)
  may_hint_in (Copying_root copying) at t x n e =
      let is : copying_ask copying ≡ WriteHint t x n = cc e in
      (copying_noted g c hashed now (map_left g (begun ++ since)) keeps m.call.mode r.call.mode loaded.call.last loaded.kept copying
      (copy_relies copying at) t x n is).0

  pub copies_guarantee_hint : (t x n : ℕ) → ask_of m ≡ asks.Copy (WriteHint t x n) → IsHint g c now t x n
  copies_guarantee_hint t x n e = may_hint_in m.phase r.phase t x n e
