-- The event of a step describes its ask and the answer, the result of a closure in it, and the
-- value that the call has after it. A copy calls no closure, and leaves the call as it was.
use Rattle.std.proofs.Common.{◌≡◌, ◌⊎◌, inl, inr, ⊎_elim, ℕ, Bool, true, false, Option, List, ◌∷◌, refl, sym, ◌∙◌, ap, subst}
use Rattle.papaya_call.specs.Answers.{Says}
use Rattle.papaya_call.specs.declared.ask.At.{At}
use Rattle.papaya_call.specs.declared.ask.Ask.{Ask as Call_ask}
use Rattle.papaya_call.specs.declared.ask.Ask.TheVariants.{Exchange as Ask_exchange, ShowPair}
use Rattle.papaya_call.specs.declared.ask.Answer.{Answer as Call_answer}
use Rattle.papaya_call.specs.declared.ask.Answer.TheVariants.{Yes, Op, Made as Made_number}
use Rattle.papaya_call.specs.declared.ask.OpKind.{OpKind}
use Rattle.papaya_call.specs.declared.ask.StepKind.{StepKind}
use Rattle.papaya_call.specs.declared.copy_ask.CopyAsk.{CopyAsk}
use Rattle.papaya_call.specs.declared.chain.ask.Ask.{Ask}
use Rattle.papaya_call.specs.declared.chain.ask.Ask.TheVariants as asks
use Rattle.papaya_call.specs.declared.chain.ask.Answer.{Answer}
use Rattle.papaya_call.specs.declared.chain.ask.Answer.TheVariants as answers
use Rattle.papaya_call.specs.declared.chain.machine.Machine.{Machine}
use Rattle.papaya_call.specs.ChainMachine.{ask_of, kind_of_ask}
use Rattle.papaya_words_law.specs.Code.{Coding}
use Rattle.papaya_words_law.specs.Exchange.{Exchange, Setting, State}
use Rattle.papaya_call_law.specs.Says.{MakesPair, show}
use Rattle.papaya_call_law.specs.ChainAnswers.{IsTrueOf, LoadedPairs}
use Rattle.papaya_core_store.specs.declared.pairs.Running.{Running}
use Rattle.papaya_core_store.specs.Asks.{PerformsAsk}
use Rattle.papaya_core_store.specs.Store.{StoreState}
use Rattle.papaya_core_timeline.specs.declared.trace.Event.{Event}
use Rattle.papaya_core_timeline.specs.declared.trace.Event.TheVariants as events
use Rattle.papaya_core_timeline.specs.Advances.{call_event, event_of}
use Rattle.papaya_core_timeline.specs.Given.{asks_closure}
use Rattle.papaya_core_timeline.proofs.StepEvents.{IsCopyKind, copy_cases, copy_kind, copy_moves}
use Rattle.papaya_core_timeline.proofs.TellLemmas as calls
use Rattle.papaya_core_timeline.proofs.TellLemmas.{IsAnswering, silent}
use Rattle.papaya_core_store.specs.Pairs.{value_at}
use Rattle.papaya_core_store.specs.Performs.{own_value}
use Rattle.papaya_core_timeline.proofs.StoreLemmas.{copy_pairs}

-- the description by an event: the call itself asked for a change, or a closure was called and
-- returned; no step begins a call or is a reply
abbrev pub Tells : Event → Ask → Answer → Type 0
Tells (events.Changed kind old new) ask answer = (at : At) × (from : ℕ) × (to : ℕ) × (ask ≡ asks.Call (Ask_exchange at from to))
Tells (events.Asked n agrees) ask answer = (ask ≡ asks.Call (ShowPair n)) × (answer ≡ answers.Call (Yes agrees))
Tells (events.Shown shown kind) ask answer = (ask ≡ asks.Call (show shown)) × (answer ≡ answers.Call (Op kind))
Tells (events.Moved kind) ask answer = Unit {0}
Tells events.Other ask answer = Unit {0}
Tells events.Begun ask answer = ⊥
Tells (events.Gave n) ask answer = ⊥
Tells (events.Replied reply) ask answer = ⊥

-- the description of an ask of the call
of_call : (e : Event) (ask : Call_ask) (told : Call_answer) → calls.Tells e ask told → Tells e (asks.Call ask) (answers.Call told)
of_call (events.Changed kind old new) ask told (at, from, to, is) = (at, from, to, ap asks.Call is)
of_call (events.Asked n agrees) ask told (is, said) = (ap asks.Call is, ap answers.Call said)
of_call (events.Shown shown kind) ask told (is, said) = (ap asks.Call is, ap answers.Call said)
of_call (events.Moved kind) ask told h = tt
of_call events.Other ask told h = tt
of_call events.Begun ask told h = absurd h
of_call (events.Gave n) ask told h = absurd h
of_call (events.Replied reply) ask told h = absurd h

tells : (kind : Option StepKind) (ask : Ask) (answer : Answer) → ((asked : CopyAsk) → ask ≡ asks.Copy asked → IsCopyKind kind)
    → Tells (event_of kind ask answer) ask answer
tells kind (asks.Call ask) (answers.Call told) copies = of_call (call_event kind ask told) ask told (calls.event_tells kind ask told)
tells kind (asks.Call ask) (answers.Hash hash) copies = tt
tells kind (asks.Call ask) (answers.Count count) copies = tt
tells kind (asks.Copy ask) answer copies = copy_moves (λ e. Tells e (asks.Copy ask) answer) tt (λ kind. tt) kind (copies ask refl) ask answer

pub event_tells : (m : Machine) (answer : Answer) → Tells (event_of (kind_of_ask m) (ask_of m) answer) (ask_of m) answer
event_tells m answer = tells (kind_of_ask m) (ask_of m) answer (copy_kind m)

-- a copy calls no closure
unasked : (kind : Option StepKind) (ask : CopyAsk) (answer : Answer) → asks_closure (event_of kind (asks.Copy ask) answer) ≡ false
unasked kind ask answer = copy_cases (λ e. asks_closure e ≡ false) refl (λ kind old new. refl) (λ kind. refl) kind ask answer

module _ {K V S A : Type 0} (eq : K → K → Bool) (says : Says K V A) (hash : S → K → ℕ) (refuse : Bool) where
  -- the result of a closure in a step
  pub answering : (kind : Option StepKind) (s : StoreState K V S) (r : Running K V A) (a : Answer) (s' : StoreState K V S) (r' : Running K V A)
      (ask : Ask) → PerformsAsk eq says hash refuse ask s r a s' r' → IsAnswering says s' r r' (event_of kind ask a)
  answering kind s r a s' r' (asks.Call ask) (told, is, performs) = subst (λ y. IsAnswering says s' r r' (event_of kind (asks.Call ask) y)) (sym is)
      (calls.answering eq says refuse kind s r told s' r' ask performs)
  answering kind s r a s' r' (asks.Copy ask) (performs, as_was) =
      silent eq says refuse kind s r (Yes false) s' r' (event_of kind (asks.Copy ask) a)
      (λ asking. let f : false ≡ true = sym (unasked kind ask a) ∙ asking in absurd cc) (ap (λ (z : Running K V A). z.answers) as_was)

  module _ (s : StoreState K V S) (r : Running K V A) (a : Answer) (s' : StoreState K V S) (r' : Running K V A) where
    -- the value of the call is the one of before, or a closure returned
    abbrev pub AtHand : Ask → Type 0
    AtHand ask = calls.SameValue eq says refuse s r (Yes false) s' r'
        ⊎ ((shown : Option ℕ) × (op : OpKind) × (ask ≡ asks.Call (show shown)) × (a ≡ answers.Call (Op op)))

    pub at_hand : (ask : Ask) → PerformsAsk eq says hash refuse ask s r a s' r' → AtHand ask
    at_hand (asks.Call ask) (told, is, performs) =
        ⊎_elim
        (λ (kept : calls.SameValue eq says refuse s r told s' r'). inl kept)
        (λ (showing : (shown : Option ℕ) × (op : OpKind) × (ask ≡ show shown) × (told ≡ Op op)).
        inr (showing.0, showing.1, ap asks.Call showing.2, is ∙ ap answers.Call showing.3))
        (calls.at_hand eq says refuse s r told s' r' ask performs)
    at_hand (asks.Copy ask) (performs, as_was) =
        let same : own_value s' r' ≡ own_value s r = ap (λ l. value_at l r'.value) (copy_pairs eq hash refuse ask s a s' performs)
        ∙ ap (λ (y : Running K V A). value_at s.pairs y.value) as_was in
        inl (λ v h. same ∙ h, λ valued v h. sym same ∙ h)

module _ {K P : Type 0} (g : Setting K P) (c : Coding K P) (k : K) (s : State P) (kind : Option StepKind) (follows : ℕ) (loaded : LoadedPairs P) where
  -- a pair that was made is the first of those recorded for the machine
  pub told_made : (asked : Call_ask) (ask : Ask) (a : Answer) (es : List (Exchange P)) (loaded' : LoadedPairs P) (n : ℕ) → ask ≡ asks.Call asked
      → MakesPair asked → a ≡ answers.Call (Made_number n) → IsTrueOf g c k s kind follows loaded ask a es loaded' → (q : P) × (c.number q ≡ n)
      × (loaded'.call.made ≡ q ∷ loaded.call.made)
  told_made asked ask a es loaded' n asking makes is told =
      let h = subst (λ y. IsTrueOf g c k s kind follows loaded y a es loaded') asking told in
      let same : h.told ≡ Made_number n = cc (h.is, is) in
      let (q, number, made) = calls.told_made g c k s kind loaded.call asked h.told es h.call n makes same h.tells in
      (q, number, ap (λ (y : LoadedPairs P). y.call.made) h.handed ∙ made)
