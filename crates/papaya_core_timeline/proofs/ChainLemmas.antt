-- Facts about a machine over a chain of tables while it passes on the asks of its call.
use Rattle.std.proofs.Common.{◌≡◌, inl, inr, ℕ, Option, None, Some, sym, ◌∙◌, ap, subst}
use Rattle.papaya_call.specs.declared.ask.At.{At}
use Rattle.papaya_call.specs.declared.ask.Ask.{Ask as Call_ask}
use Rattle.papaya_call.specs.declared.ask.At.TheVariants.{Next}
use Rattle.papaya_call.specs.declared.ask.Ask.TheVariants.{Load, Exchange as Ask_exchange, Done as Ask_done}
use Rattle.papaya_call.specs.declared.ask.Answer.{Answer as Call_answer}
use Rattle.papaya_call.specs.declared.ask.Answer.TheVariants.{Word as Word_read, Op}
use Rattle.papaya_call.specs.declared.ask.StepKind.{StepKind}
use Rattle.papaya_call.specs.declared.ask.OpKind.TheVariants as op_kinds
use Rattle.papaya_call.specs.declared.call.Reply.{Reply}
use Rattle.papaya_call.specs.declared.call.Reply.TheVariants.{Aborted, Refused as Reply_refused}
use Rattle.papaya_call.specs.declared.search.Search.TheVariants.{Sizing}
use Rattle.papaya_call.specs.declared.machine.Machine.{Machine as Call_machine}
use Rattle.papaya_call.specs.declared.machine.State.TheVariants.{AtRoot, Searching, Ended}
use Rattle.papaya_call.specs.Machine.{IsChanger, MayInsert}
use Rattle.papaya_call.specs.Machine as calls
use Rattle.papaya_call.specs.declared.chain.ask.Ask.TheVariants as asks
use Rattle.papaya_call.specs.declared.chain.ask.Answer.{Answer}
use Rattle.papaya_call.specs.declared.chain.ask.Answer.TheVariants as answers
use Rattle.papaya_call.specs.declared.chain.machine.Machine.{Machine}
use Rattle.papaya_call.specs.declared.chain.machine.Phase.TheVariants.{Calling}
use Rattle.papaya_call.specs.ChainMachine.{IsValid, after, ask_of, asks_in, kind_in, kind_of_ask}
use Rattle.papaya_call_law.specs.Relies.{change_in}
use Rattle.papaya_call_law.specs.Says.{IsResultChange, show}
use Rattle.papaya_call_law.proofs.SaysChanges.{machine_aborted, machine_changed}
use Rattle.papaya_call_law.specs.Goes.{Goes, IsOwnStep}
use Rattle.papaya_call_law.specs.ChainRelies.{left_by}
use Rattle.papaya_call_law.proofs.Names.{call_asks}
use Rattle.papaya_call_law.proofs.Replies.{anew, aside_asks}
use Rattle.papaya_core_timeline.specs.declared.trace.Event.TheVariants.{Changed, Other}
use Rattle.papaya_core_timeline.specs.Advances.{call_event, event_of}
use Rattle.papaya_core_timeline.proofs.MachineLemmas as call_laws
use Rattle.papaya_core_timeline.proofs.StepTells.{Tells, event_tells}

-- if a machine asks for its call, the ask and its kind are those of the call
pub own_asks : (m : Machine) (ask : Call_ask) → ask_of m ≡ asks.Call ask → (m.phase ≡ Calling) × (calls.ask_of m.call ≡ ask)
    × (kind_of_ask m ≡ calls.kind_of_ask m.call)
own_asks m ask e = let is = call_asks m ask e in (is.0, is.1, ap (kind_in m.call) is.0)

-- a machine that is not set aside asks for its call
pub asks_own : (m : Machine) → m.phase ≡ Calling → ask_of m ≡ asks.Call (calls.ask_of m.call)
asks_own m calling = ap (λ p. asks_in m.call p) calling

-- an exchange of the call comes before any change
pub chain_once : (m : Machine) (at : At) (old new : ℕ) → ask_of m ≡ asks.Call (Ask_exchange at old new) → change_in m.call.state ≡ None
chain_once m at old new e = call_laws.machine_once m.call at old new (own_asks m (Ask_exchange at old new) e).1

-- an event that changes the map is that of an ask of the call
changes_own : (m : Machine) (kind : StepKind) (old new : Option ℕ) (answer : Answer)
    → event_of (kind_of_ask m) (ask_of m) answer ≡ Changed kind old new → (told : Call_answer)
    × (call_event (calls.kind_of_ask m.call) (calls.ask_of m.call) told ≡ Changed kind old new)
changes_own m kind old new answer e =
    let (at, from, to, asking) = subst (λ y. Tells y (ask_of m) answer) e (event_tells m answer) in
    let calling : m.phase ≡ Calling = (own_asks m (Ask_exchange at from to) asking).0 in
    by_answer answer (sym (ap (λ p. event_of (kind_in m.call p) (asks_in m.call p) answer) calling) ∙ e)
  where
    by_answer : (answer : Answer) → event_of (calls.kind_of_ask m.call) (asks.Call (calls.ask_of m.call)) answer ≡ Changed kind old new
        → (told : Call_answer) × (call_event (calls.kind_of_ask m.call) (calls.ask_of m.call) told ≡ Changed kind old new)
    by_answer (answers.Call told) e = (told, e)
    by_answer (answers.Hash hash) e = let f : Other ≡ Changed kind old new = e in absurd cc
    by_answer (answers.Count count) e = let f : Other ≡ Changed kind old new = e in absurd cc

-- an exchange that changes the map is that of a call that may
pub chain_changer : (m : Machine) → IsValid m → (kind : StepKind) (old new : Option ℕ) (answer : Answer)
    → event_of (kind_of_ask m) (ask_of m) answer ≡ Changed kind old new → IsChanger m.call.task
chain_changer m stands kind old new answer e = let (told, is) = changes_own m kind old new answer e in
    call_laws.machine_changes m.call stands.call kind old new told is

-- if it puts in a pair, it is an exchange of a call that inserts
pub chain_inserts : (m : Machine) → IsValid m → (kind : StepKind) (old : Option ℕ) (n : ℕ) (answer : Answer)
    → event_of (kind_of_ask m) (ask_of m) answer ≡ Changed kind old (Some n) → MayInsert m.call.task
chain_inserts m stands kind old n answer e = let (told, is) = changes_own m kind old (Some n) answer e in
    call_laws.machine_inserts m.call stands.call kind old n told is

-- a call that is set aside loads the number of a table, and asks for nothing else
aside : (m : Machine) (t : ℕ) → left_by m.call.state ≡ Some t → (ask : Call_ask) → calls.ask_of m.call ≡ ask → (ask ≡ Load (Next t))
aside m t left ask e = sym e ∙ aside_asks m.call.made m.call.hash m.call.state t left

-- a call that asks for an exchange is not set aside and continues with the answer
pub own_exchange : (m : Machine) (answer : Answer) → Goes m answer → (at : At) (old new : ℕ) → calls.ask_of m.call ≡ Ask_exchange at old new
    → IsOwnStep m answer
own_exchange m answer (inl waits) at old new e = absurd (cc (aside m waits.from waits.left (Ask_exchange at old new) e))
own_exchange m answer (inr (inl own)) at old new e = own
own_exchange m answer (inr (inr (inl enters))) at old new e = absurd (cc (aside m enters.from enters.left (Ask_exchange at old new) e))
own_exchange m answer (inr (inr (inr (inl begins)))) at old new e = absurd (cc (aside m begins.from begins.left (Ask_exchange at old new) e))
own_exchange m answer (inr (inr (inr (inr ends)))) at old new e = absurd (cc (aside m ends.from ends.left (Ask_exchange at old new) e))

-- a change is the result of the call's closure
pub chain_changed : (m : Machine) (answer : Answer) → Goes m answer → IsValid m → (at : At) (from to : ℕ)
    → ask_of m ≡ asks.Call (Ask_exchange at from to) → (old new : Option ℕ) → change_in (after m answer).call.state ≡ Some (old, new)
    → IsResultChange m.call.task m.call old new
chain_changed m answer goes stands at from to e old new change =
    let own = own_exchange m answer goes at from to (own_asks m (Ask_exchange at from to) e).1 in
    machine_changed m.call own.told old new stands.call (chain_once m at from to e) (sym (ap (λ (d : Call_machine). change_in d.state) own.call) ∙ change)

-- a call that is given a root does not abort
anew_goes_on : (m : Machine) (root with : ℕ)
    → calls.asks m.call.made m.call.hash (calls.at_root m.call.task m.call.remembered.fill root) ≡ Ask_done (Aborted with) → ⊥
anew_goes_on m root with = anew (λ stage. calls.asks m.call.made m.call.hash stage ≡ Ask_done (Aborted with) → ⊥) (λ e. absurd (cc e))
    (λ e. absurd (cc e)) (λ e. absurd (cc e)) (λ t e. absurd (cc e)) m.call.task m.call.remembered.fill root

-- a call aborts if its closure did
pub chain_aborted : (m : Machine) (answer : Answer) → Goes m answer → (with : ℕ) → ((reply : Reply) → ask_of m ≡ asks.Call (Ask_done reply) → ⊥)
    → ask_of (after m answer) ≡ asks.Call (Ask_done (Aborted with)) → (shown : Option ℕ) × (ask_of m ≡ asks.Call (show shown))
    × (answer ≡ answers.Call (Op (op_kinds.Abort with)))
chain_aborted m answer goes with open_still e = by_goes goes
  where
    done : calls.ask_of (after m answer).call ≡ Ask_done (Aborted with)
    done = (own_asks (after m answer) (Ask_done (Aborted with)) e).1

    -- the next ask of the call
    then : (d : Call_machine) → (after m answer).call ≡ d → calls.ask_of d ≡ Ask_done (Aborted with)
    then d is = ap (λ y. calls.ask_of y) (sym is) ∙ done

    by_goes : Goes m answer → (shown : Option ℕ) × (ask_of m ≡ asks.Call (show shown)) × (answer ≡ answers.Call (Op (op_kinds.Abort with)))
    by_goes (inl waits) = absurd (cc (aside m waits.from waits.left (Ask_done (Aborted with)) (then m.call waits.call)))
    by_goes (inr (inl own)) =
        let (shown, asking, told) = machine_aborted m.call own.told with (λ reply is. open_still reply (asks_own m own.phase ∙ ap asks.Call is))
        (then (calls.after m.call own.told) own.call) in
        (shown, asks_own m own.phase ∙ ap asks.Call asking, own.is ∙ ap answers.Call told)
    by_goes (inr (inr (inl enters))) = absurd (cc (then (record m.call { state = Searching (Sizing enters.table) }) enters.call))
    by_goes (inr (inr (inr (inl begins)))) = absurd
        (anew_goes_on m begins.root with (then (calls.after (record m.call { state = AtRoot }) (Word_read begins.root)) begins.call))
    by_goes (inr (inr (inr (inr ends)))) = absurd (cc (then (record m.call { state = Ended (Reply_refused ends.refused) }) ends.call))
