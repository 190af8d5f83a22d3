-- The intent of a call on one key: it determines how the call changes the map, and a step gives the
-- call no other intent than the result of its closure in that step.
use Rattle.std.proofs.Common.{rules, ◌≡◌, ◌⊎◌, inl, inr, ⊎_elim, ℕ, Bool, true, Option, None, Some, refl, sym, ◌∙◌, ap, subst, List}
use Rattle.papaya_words.specs.declared.resize_mode.ResizeMode.{ResizeMode}
use Rattle.papaya_words.specs.declared.resize_mode.ResizeMode.TheVariants.{Incremental, Blocking}
use Rattle.papaya_call.specs.declared.ask.At.{At}
use Rattle.papaya_call.specs.declared.ask.Ask.TheVariants.{Exchange as Ask_exchange, ShowPair}
use Rattle.papaya_call.specs.declared.ask.Answer.{Answer as Call_answer}
use Rattle.papaya_call.specs.declared.ask.Answer.TheVariants.{Exchanged, Made as Made_number, Op}
use Rattle.papaya_call.specs.declared.ask.OpKind.{OpKind}
use Rattle.papaya_call.specs.declared.ask.OpKind.TheVariants as op_kinds
use Rattle.papaya_call.specs.declared.ask.StepKind.{StepKind}
use Rattle.papaya_call.specs.declared.call.Call.{Call}
use Rattle.papaya_call.specs.declared.call.Call.TheVariants.{Get, Insert, TryInsert, RemoveIf, Compute, Reserve, CopyAll, Clear, Retain, Walk}
use Rattle.papaya_call.specs.declared.call.Task.{Task}
use Rattle.papaya_call.specs.declared.call.Task.TheVariants as tasks
use Rattle.papaya_call.specs.Answers.{Says, op_kind}
use Rattle.papaya_call.specs.declared.answers.Operation.{Operation}
use Rattle.papaya_call.specs.declared.answers.Operation.TheVariants as ops
use Rattle.papaya_call.specs.declared.machine.Machine.{Machine as Call_machine}
use Rattle.papaya_call.specs.declared.machine.State.{State as Stage}
use Rattle.papaya_call.specs.declared.made.Made.{Made}
use Rattle.papaya_call.specs.Made.{nothing_made}
use Rattle.papaya_call.specs.Machine.{HasClosure, IsValidState}
use Rattle.papaya_call.specs.Machine as calls
use Rattle.papaya_call.specs.declared.chain.ask.Ask.TheVariants as asks
use Rattle.papaya_call.specs.declared.chain.ask.Answer.{Answer}
use Rattle.papaya_call.specs.declared.chain.ask.Answer.TheVariants as given
use Rattle.papaya_call.specs.declared.chain.machine.Machine.{Machine}
use Rattle.papaya_call.specs.ChainMachine.{IsValid, after, ask_of, kind_of_ask}
use Rattle.papaya_call_law.specs.Goes.{Goes, IsOwnStep}
use Rattle.papaya_words_law.specs.Code.{Coding}
use Rattle.papaya_words_law.specs.Exchange.{Exchange, Setting}
use Rattle.papaya_call_law.specs.Relies.{IsMadePair, Relies, change_in}
use Rattle.papaya_call_law.specs.Says.{Agrees, Inserts, IsAnswered, IsResultBy, IsResultChange, Makes, MakesPair, Removes, ClosureResult, NamesPairs, ActsOn, show}
use Rattle.papaya_call_law.specs.TrueAnswers.{LoadedPairs}
use Rattle.papaya_core_store.specs.declared.pairs.Running.{Running}
use Rattle.papaya_core_store.specs.Asks.{PerformsAsk}
use Rattle.papaya_core_store.specs.Pairs.{value_at, value_in}
use Rattle.papaya_core_store.specs.Performs.{own_value, value_answered}
use Rattle.papaya_core_store.specs.Store.{KeepsPairs, StoreState, Stored, pair_of}
use Rattle.papaya_core_timeline.specs.declared.seat.Work.TheVariants as works
use Rattle.papaya_core_timeline.specs.declared.trace.Event.{Event}
use Rattle.papaya_core_timeline.specs.declared.trace.Event.TheVariants.{Asked, Changed, Shown}
use Rattle.papaya_core_timeline.specs.Advances.{answered_event, event_of}
use Rattle.papaya_core_timeline.specs.Begins.{begun_work}
use Rattle.papaya_call.specs.Scanner.{begun_in}
use Rattle.papaya_core_timeline.specs.Given.{GivesIn, asks_closure}
use Rattle.papaya_core_timeline.specs.Intends.{AnswersNow, HasMade, HasValue, Intends, IntendsAs, IntendsHanded, TakesOut, WouldStore}
use Rattle.papaya_core_timeline.specs.Timeline.{IsAnsweredIn, number_in, operation_for}
use Rattle.papaya_core_timeline.proofs.CallersLemmas.{same_item}
use Rattle.papaya_core_timeline.proofs.ChainLemmas.{asks_own, own_asks, own_exchange}
use Rattle.papaya_core_timeline.proofs.SaidLemmas.{inserting, made_said, one_value, removing}
use Rattle.papaya_core_timeline.proofs.StepEvents.{event_shown}
use Rattle.papaya_core_timeline.proofs.StepTells.{Tells, at_hand, event_tells}
use Rattle.papaya_core_timeline.proofs.TellLemmas.{IsAnswering}
use Rattle.papaya_core_store.specs.declared.store.Mode.{Mode}
use Rattle.papaya_core_timeline.proofs.Begun.{begun_stands}
use Rattle.papaya_core_store.specs.declared.pairs.Part.{Part}
use Rattle.papaya_core_timeline.proofs.MadeBefore.{after_made}
use Rattle.papaya_core_timeline.proofs.MadePairs.{MakesOver}
use Rattle.papaya_core_timeline.proofs.TiedLemmas.{value_back}

-- a pair on which a machine acts is one that its call made
module _ {K P : Type 0} (g : Setting K P) (c : Coding K P) (begun since : List (Exchange P)) (k : K) where
  pub stands_own : (m : Call_machine) (loaded : LoadedPairs P) → Relies g c begun since k m loaded → (shown : Option ℕ) (n : ℕ)
      → ActsOn m (Makes shown n) → IsMadePair g c begun since k loaded n
  stands_own m loaded relies shown n stands = search rules

-- an insertion writes the pair that it made
writes_made : (made : Made) (hash : ℕ) (stage : Stage) (replace : Bool) → IsValidState (tasks.Insert replace) stage → (at : At) (from to : ℕ)
    → calls.asks made hash stage ≡ Ask_exchange at from to → (old : Option ℕ) (n : ℕ) → change_in (calls.at_exchanged made stage) ≡ Some (old, Some n)
    → HasMade made n
writes_made made hash stage replace stands at from to e old n change = search rules

-- if the event has a change, the exchange was made
exchanged : (kind : Option StepKind) (from to : ℕ) (told : Call_answer) (by : StepKind) (old new : Option ℕ)
    → answered_event kind from to told ≡ Changed by old new → told ≡ Exchanged
exchanged kind from to told by old new e = search rules

-- so does one over a chain of tables
pub insertion_made : (m : Machine) (answer : Answer) → Goes m answer → IsValid m → (kind : StepKind) (old : Option ℕ) (n : ℕ)
    → event_of (kind_of_ask m) (ask_of m) answer ≡ Changed kind old (Some n) → change_in (after m answer).call.state ≡ Some (old, Some n)
    → (replace : Bool) → m.call.task ≡ tasks.Insert replace → HasMade m.call.made n
insertion_made m answer goes stands kind old n e change replace is =
    let (at, from, to, asking) = subst (λ y. Tells y (ask_of m) answer) e (event_tells m answer) in
    let asks_so : calls.ask_of m.call ≡ Ask_exchange at from to = (own_asks m (Ask_exchange at from to) asking).1 in
    let own = own_exchange m answer goes at from to asks_so in
    let event_is : answered_event (kind_of_ask m) from to own.told ≡ Changed kind old (Some n) = ap
    (λ y. event_of (kind_of_ask m) (asks.Call (Ask_exchange at from to)) y) (sym own.is) ∙ ap (λ y. event_of (kind_of_ask m) y answer) (sym asking) ∙ e in
    let was : own.told ≡ Exchanged = exchanged (kind_of_ask m) from to own.told kind old (Some n) event_is in
    let then : change_in (calls.at_exchanged m.call.made m.call.state) ≡ Some (old, Some n) = ap (λ y. change_in (calls.after m.call y).state)
    (sym was) ∙ ap (λ (d : Call_machine). change_in d.state) (sym own.call) ∙ change in
    writes_made m.call.made m.call.hash m.call.state replace (subst (λ t. IsValidState t m.call.state) is stands.call.state) at from to asks_so old n then

-- a pair that a call over a chain has made was made before the answer, or is the answer
chain_made : (m : Machine) (answer : Answer) → Goes m answer → (n : ℕ) → HasMade (after m answer).call.made n → HasMade m.call.made n
    ⊎ (MakesOver (ask_of m) × (answer ≡ given.Call (Made_number n)))
chain_made m answer (inl waits) n e = inl (subst (λ (d : Call_machine). HasMade d.made n) waits.call e)
chain_made m answer (inr (inl own)) n e =
    ⊎_elim
    (λ was. inl was)
    (λ (now : MakesPair (calls.ask_of m.call) × (own.told ≡ Made_number n)).
    inr (subst MakesOver (sym (asks_own m own.phase)) now.0, own.is ∙ ap given.Call now.1))
    (after_made m.call own.told n (subst (λ (d : Call_machine). HasMade d.made n) own.call e))
chain_made m answer (inr (inr (inl enters))) n e = inl (subst (λ (d : Call_machine). HasMade d.made n) enters.call e)
chain_made m answer (inr (inr (inr (inl begins)))) n e = inl (subst (λ (d : Call_machine). HasMade d.made n) begins.call e)
chain_made m answer (inr (inr (inr (inr ends)))) n e = inl (subst (λ (d : Call_machine). HasMade d.made n) ends.call e)

-- the value of an insertion that begins
handed : {V : Type 0} (w : V) (made : Type 0) (op : Operation V ℕ) (v : V) → op ≡ ops.Insert v → (Some w ≡ Some v) ⊎ made → (made → ⊥) → (u : V)
    × (op ≡ ops.Insert u) × (Some w ≡ Some u)
handed w made op v is (inl same) none = (v, is, same)
handed w made op v is (inr so) none = absurd (none so)

-- one that begins has made no pair
made_none : (limit : Option ℕ) (n : ℕ) → HasMade (nothing_made limit) n → ⊥
made_none limit n (inl own) = cc
made_none limit n (inr (of, is, number)) = cc

-- A call that begins intends to store the value that was passed in.
module _ {K V S A : Type 0} (store : StoreState K V S) (hash : K → ℕ) (mode : Mode) (initial number : ℕ) where
  pub begun_intends : (call : Call K V A) → IntendsHanded store call (begun_work hash mode initial number call)
  begun_intends (Get k) shown op h = absurd h
  begun_intends (Insert k w) shown (ops.Insert v) h = handed w _ (ops.Insert v) v refl h (λ is. absurd (made_none mode.limit is.0 is.1))
  begun_intends (Insert k w) shown ops.Remove h = absurd h
  begun_intends (Insert k w) shown (ops.Abort t) h = absurd h
  begun_intends (TryInsert k w) shown (ops.Insert v) h = handed w _ (ops.Insert v) v refl h (λ is. absurd (made_none mode.limit is.0 is.1))
  begun_intends (TryInsert k w) shown ops.Remove h = absurd h
  begun_intends (TryInsert k w) shown (ops.Abort t) h = absurd h
  begun_intends (RemoveIf k a) (Some n) ops.Remove h = absurd (begun_stands tasks.RemoveIf (hash k) mode.resize initial mode.limit (Agrees n true) h)
  begun_intends (RemoveIf k a) (Some n) (ops.Insert v) h = absurd h
  begun_intends (RemoveIf k a) (Some n) (ops.Abort t) h = absurd h
  begun_intends (RemoveIf k a) None ops.Remove h = absurd h
  begun_intends (RemoveIf k a) None (ops.Insert v) h = absurd h
  begun_intends (RemoveIf k a) None (ops.Abort t) h = absurd h
  begun_intends (Compute k a) shown (ops.Insert v) (inl h) = absurd (begun_stands tasks.Compute (hash k) mode.resize initial mode.limit (Inserts shown) h.0)
  begun_intends (Compute k a) shown (ops.Insert v) (inr h) = absurd (begun_stands tasks.Compute (hash k) mode.resize initial mode.limit (Makes shown h.0) h.1)
  begun_intends (Compute k a) (Some n) ops.Remove h = absurd (begun_stands tasks.Compute (hash k) mode.resize initial mode.limit (Removes n) h)
  begun_intends (Compute k a) (Some n) (ops.Abort t) h = absurd h
  begun_intends (Compute k a) None ops.Remove h = absurd h
  begun_intends (Compute k a) None (ops.Abort t) h = absurd h
  begun_intends (Reserve more) shown op h = absurd h
  begun_intends CopyAll shown op h = absurd h
  begun_intends Clear (Some n) ops.Remove h = let f = h.0 in absurd cc
  begun_intends Clear (Some n) (ops.Insert v) h = absurd h
  begun_intends Clear (Some n) (ops.Abort t) h = absurd h
  begun_intends Clear None op h = absurd h
  begun_intends Walk (Some n) ops.Remove h = let f = h.0 in absurd cc
  begun_intends Walk (Some n) (ops.Insert v) h = absurd h
  begun_intends Walk (Some n) (ops.Abort t) h = absurd h
  begun_intends Walk None op h = absurd h
  begun_intends (Retain a) (Some n) ops.Remove h = absurd (nothing mode.resize h.1)
    where
      nothing : (mode : ResizeMode) → TakesOut (begun_in mode) n → ⊥
      nothing (Incremental chunk) takes = takes
      nothing Blocking takes = takes
  begun_intends (Retain a) (Some n) (ops.Insert v) h = absurd h
  begun_intends (Retain a) (Some n) (ops.Abort t) h = absurd h
  begun_intends (Retain a) None op h = absurd h

module _ {K V S : Type 0} where
  -- one of two pairs of a number is the other
  same_pair : (store : StoreState K V S) (n : ℕ) (p q : Stored K V) → pair_of store n ≡ Some p → pair_of store n ≡ Some q → p ≡ q
  same_pair store n p q is there = same_item p q (sym is ∙ there)

  -- the value of a pair that was stored in the arena before
  value_before : (store store' : StoreState K V S) → KeepsPairs store store' → (n : ℕ) (v : V) → ((q : Stored K V) × (pair_of store n ≡ Some q))
      → HasValue store' n v → HasValue store n v
  value_before store store' stay n v (q, logged) (p, there, value) = let same : p ≡ q = same_pair store' n p q there (stay n q logged) in
      (q, logged, ap (λ (y : Stored K V). y.value) (sym same) ∙ value)

module _ {K V S A : Type 0} where
  -- a change is what its call intends
  pub change_intended : (store : StoreState K V S) (r : Running K V A) (old : Option ℕ) (came : Option (Stored K V))
      → ((q : Stored K V) → came ≡ Some q → pair_of store q.number ≡ Some q)
      → ((q : Stored K V) → came ≡ Some q → (replace : Bool) → r.machine.call.task ≡ tasks.Insert replace → HasMade r.machine.call.made q.number)
      → (came ≡ None → HasClosure r.machine.call.task) → IsResultChange r.machine.call.task r.machine.call old (number_in came)
      → Intends store (works.Call r) old (operation_for came)
  change_intended store r old came logged made closure said = by_task r.machine.call.task refl old came logged made closure said
    where
      by_task : (task : Task) → r.machine.call.task ≡ task → (old : Option ℕ) (came : Option (Stored K V))
          → ((q : Stored K V) → came ≡ Some q → pair_of store q.number ≡ Some q)
          → ((q : Stored K V) → came ≡ Some q → (replace : Bool) → r.machine.call.task ≡ tasks.Insert replace → HasMade r.machine.call.made q.number)
          → (came ≡ None → HasClosure task) → IsResultChange task r.machine.call old (number_in came) → IntendsAs store task r old (operation_for came)
      by_task tasks.Get is old came logged made closure said = absurd said
      by_task (tasks.Insert replace) is old (Some q) logged made closure said = inr (q.number, made q refl replace is, (q, logged q refl, refl))
      by_task (tasks.Insert replace) is old None logged made closure said = absurd (closure refl)
      by_task tasks.RemoveIf is (Some n) None logged made closure said = said
      by_task tasks.RemoveIf is (Some n) (Some q) logged made closure said = absurd said
      by_task tasks.RemoveIf is None came logged made closure said = absurd said
      by_task tasks.Compute is old (Some q) logged made closure said = inr (q.number, said, (q, logged q refl, refl))
      by_task tasks.Compute is (Some n) None logged made closure said = said
      by_task tasks.Compute is None None logged made closure said = absurd said

  -- The pairs of a call that were stored in the arena before.
  pub record HasLogged (store : StoreState K V S) (r : Running K V A) : Type 0 where
    pub made : (n : ℕ) → HasMade r.machine.call.made n → (q : Stored K V) × (pair_of store n ≡ Some q)
    pub valued : (part : Part V) → r.value ≡ Some part → (v : V) × (value_in store.pairs part ≡ Some v)
    pub stood : (shown : Option ℕ) (n : ℕ) → ActsOn r.machine.call (Makes shown n) → (q : Stored K V) × (pair_of store n ≡ Some q)

  -- if its machine stays as it is, a longer arena gives a call no intent
  pub still_intends : (store store' : StoreState K V S) → KeepsPairs store store'
      → ((at : Part V) (v : V) → value_in store.pairs at ≡ Some v → value_in store'.pairs at ≡ Some v) → (r : Running K V A) → HasLogged store r
      → (shown : Option ℕ) (op : Operation V ℕ) → Intends store' (works.Call r) shown op → Intends store (works.Call r) shown op
  still_intends store store' stay values r logged shown op h = by_task r.machine.call.task shown op h
    where
      by_task : (task : Task) (shown : Option ℕ) (op : Operation V ℕ) → IntendsAs store' task r shown op → IntendsAs store task r shown op
      by_task tasks.Get shown op h = absurd h
      by_task (tasks.Insert replace) shown (ops.Insert v) (inl h) = inl (value_back store.pairs store'.pairs values r.value logged.valued v h)
      by_task (tasks.Insert replace) shown (ops.Insert v) (inr (n, made, value)) = inr (n, made, value_before store store' stay n v (logged.made n made) value)
      by_task (tasks.Insert replace) shown ops.Remove h = absurd h
      by_task (tasks.Insert replace) shown (ops.Abort t) h = absurd h
      by_task tasks.RemoveIf (Some n) ops.Remove h = h
      by_task tasks.RemoveIf (Some n) (ops.Insert v) h = absurd h
      by_task tasks.RemoveIf (Some n) (ops.Abort t) h = absurd h
      by_task tasks.RemoveIf None ops.Remove h = absurd h
      by_task tasks.RemoveIf None (ops.Insert v) h = absurd h
      by_task tasks.RemoveIf None (ops.Abort t) h = absurd h
      by_task tasks.Compute shown (ops.Insert v) (inl h) = inl (h.0, value_back store.pairs store'.pairs values r.value logged.valued v h.1)
      by_task tasks.Compute shown (ops.Insert v) (inr (n, stands, value)) = inr
          (n, stands, value_before store store' stay n v (logged.stood shown n stands) value)
      by_task tasks.Compute (Some n) ops.Remove h = h
      by_task tasks.Compute (Some n) (ops.Abort t) h = absurd h
      by_task tasks.Compute None ops.Remove h = absurd h
      by_task tasks.Compute None (ops.Abort t) h = absurd h

module _ {K V S A : Type 0} (eq : K → K → Bool) (says : Says K V A) (hash : S → K → ℕ) (refuse : Bool) (s : StoreState K V S) (r : Running K V A)
    (a : Answer) (s' : StoreState K V S) (r' : Running K V A) where
  -- A step of the call r, which answers the ask of its machine; a pair that it makes has the value
  -- of the call.
  module _ (performs : PerformsAsk eq says hash refuse (ask_of r.machine) s r a s' r') (stay : KeepsPairs s s')
      (valued : (part : Part V) → r.value ≡ Some part → (v : V) × (value_in s.pairs part ≡ Some v))
      (value_stays : (v : V) → own_value s' r' ≡ Some v → (own_value s r ≡ Some v) ⊎ (r.machine.call.task ≡ tasks.Compute))
      (made : (n : ℕ) → MakesOver (ask_of r.machine) → a ≡ given.Call (Made_number n) → (q : Stored K V) × (pair_of s' n ≡ Some q)
      × (own_value s r ≡ Some q.value))
      (again : (i n : ℕ) → ActsOn r.machine.call (Makes (Some i) n) → IsAnswered r.machine.call.state
      ⊎ ((p : Stored K V) × (pair_of s n ≡ Some p) × (own_value s r ≡ Some p.value))) (shows : NamesPairs r.machine.call)
      (logged : HasLogged s r) (goes : Goes r.machine a) (task_stays : (after r.machine a).call.task ≡ r.machine.call.task)
      (said : (said : ClosureResult) → ActsOn (after r.machine a).call said → ActsOn r.machine.call said
      ⊎ ((own : IsOwnStep r.machine a) × IsResultBy r.machine.call own.told said))
      (event : Event) (is : event ≡ event_of (kind_of_ask r.machine) (ask_of r.machine) a) (answering : IsAnswering says s' r r' event) where
    -- the call after the step
    abbrev later : Running K V A
    later = record r' { machine = after r.machine a }

    abbrev Now : Event → Option ℕ → Operation V ℕ → Type 0
    Now e shown op = AnswersNow says s' e (works.Call r) shown op

    abbrev Before : Task → Option ℕ → Operation V ℕ → Type 0
    Before task shown op = IntendsAs s task r shown op ⊎ Now event shown op

    -- its closure was called in this step, and returned an operation
    answers_now : (shown : Option ℕ) (op : Operation V ℕ) → event ≡ Shown shown (op_kind op) → answering.answered ≡ Some op → Now event shown op
    answers_now shown op event_is now =
        let (a', had') = answering.gave (ap asks_closure event_is) in
        let (b, had, gives) = answering.left a' had' in
        subst (λ e. Now e shown op) (sym event_is)
        (record {
          told = (refl, refl);
          answers = b;
          had = had;
          left = a';
          gives = subst (λ o. GivesIn says s' (Shown shown (op_kind op)) o b a') now
              (subst (λ e. GivesIn says s' e answering.answered b a') event_is gives);
        })

    -- or it was called with a pair, and agreed
    agrees_now : (n : ℕ) → event ≡ Asked n true → Now event (Some n) ops.Remove
    agrees_now n event_is =
        let (a', had') = answering.gave (ap asks_closure event_is) in
        let (b, had, gives) = answering.left a' had' in
        subst (λ e. Now e (Some n) ops.Remove) (sym event_is)
        (record { told = (refl, refl, refl); answers = b; had = had; left = a'; gives = subst (λ e. GivesIn says s' e answering.answered b a') event_is gives })

    -- the result of a compute's closure in this step
    operation : (shown : Option ℕ) (kind : OpKind) (own : IsOwnStep r.machine a) → calls.ask_of r.machine.call ≡ show shown → own.told ≡ Op kind
        → (event ≡ Shown shown kind) × ((op : Operation V ℕ) × (answering.answered ≡ Some op) × (op_kind op ≡ kind))
    operation shown kind own asking told =
        let event_is : event ≡ Shown shown kind = is
        ∙ event_shown shown kind (kind_of_ask r.machine) (ask_of r.machine) a (asks_own r.machine own.phase ∙ ap asks.Call asking)
        (own.is ∙ ap given.Call told) in
        (event_is, subst (λ e. IsAnsweredIn e answering.answered) event_is answering.fits)

    -- the value of a pair that was made in this step
    made_value : (n : ℕ) (v : V) → MakesOver (ask_of r.machine) → a ≡ given.Call (Made_number n) → HasValue s' n v → own_value s r ≡ Some v
    made_value n v asking told (p, there, value) =
        let (q, logs, of) = made n asking told in
        let same : p ≡ q = same_pair s' n p q there logs in
        of ∙ ap (λ (y : Stored K V). Some y.value) (sym same) ∙ ap (λ y. Some y) value

    -- an insertion's value
    inserts : (v : V) (replace : Bool) → r.machine.call.task ≡ tasks.Insert replace → WouldStore s' later v → WouldStore s r v
    inserts v replace task (inl had) = ⊎_elim (λ was. inl was)
        (λ computes. let f : tasks.Insert replace ≡ tasks.Compute = sym task ∙ computes in absurd cc) (value_stays v had)
    inserts v replace task (inr (n, made_then, value)) =
        ⊎_elim
        (λ was. inr (n, was, value_before s s' stay n v (logged.made n was) value))
        (λ (now : MakesOver (ask_of r.machine) × (a ≡ given.Call (Made_number n))). inl (made_value n v now.0 now.1 value))
        (chain_made r.machine a goes n made_then)

    -- a compute's
    computes_at_hand : (shown : Option ℕ) (v : V) → ActsOn later.machine.call (Inserts shown) → own_value s' later ≡ Some v
        → Before tasks.Compute shown (ops.Insert v)
    computes_at_hand shown v stands had = elim (said (Inserts shown) stands) [
      | inl before ↦ inl (inl (before, at_hand_before before))
      | inr by ↦
          let (own, (asking, told)) = by in
          let (event_is, (op, now, kind)) = operation shown op_kinds.Insert own asking told in
          let (w, inserts_w) = inserting op kind in
          let value : Some w ≡ Some v = sym (ap (value_at s'.pairs) (answering.value op now ∙ ap (λ y. value_answered y r.value) inserts_w)) ∙ had in
          let same : op ≡ ops.Insert v = inserts_w ∙ ap (λ y. ops.Insert y) (same_item w v value) in
          inr (subst (λ o. Now event shown o) same (answers_now shown op (event_is ∙ ap (λ y. Shown shown y) (sym kind)) now))
    ]
      where
        at_hand_before : ActsOn r.machine.call (Inserts shown) → own_value s r ≡ Some v
        at_hand_before before = ⊎_elim (λ kept. kept.1 valued v had) (λ showing. absurd (one_value r.machine shown showing.0 before showing.2))
            (at_hand eq says hash refuse s r a s' r' (ask_of r.machine) performs)

    computes_made : (shown : Option ℕ) (v : V) (n : ℕ) → ActsOn later.machine.call (Makes shown n) → HasValue s' n v
        → Before tasks.Compute shown (ops.Insert v)
    computes_made shown v n stands value = elim (said (Makes shown n) stands) [
      | inl before ↦ inl (inr (n, before, value_before s s' stay n v (logged.stood shown n before) value))
      | inr by ↦
          let (own, (was_said, makes, told)) = by in
          let makes_now : MakesOver (ask_of r.machine) = subst MakesOver (sym (asks_own r.machine own.phase)) makes in
          let had : own_value s r ≡ Some v = made_value n v makes_now (own.is ∙ ap given.Call told) value in
          elim (made_said r.machine a own shown n makes told shows stands) [
            | inl inserts_it ↦ inl (inl (inserts_it, had))
            | inr others ↦ elim others [
              | inl stood ↦ inl (inr (n, stood, value_before s s' stay n v (logged.stood shown n stood) value))
              | inr (i, m, is_shown, stood, newest) ↦ elim (again i m stood) [
                | inl waits ↦ absurd (newest waits)
                | inr (p, there, p_value) ↦ inl (inr (
                  m,
                  subst (λ y. ActsOn r.machine.call (Makes y m)) (sym is_shown) stood,
                  (p, there, same_item p.value v (sym p_value ∙ had)),
                ))
              ]
            ]
          ]
    ]

    removes : (n : ℕ) → ActsOn later.machine.call (Removes n) → Before tasks.Compute (Some n) ops.Remove
    removes n stands = elim (said (Removes n) stands) [
      | inl before ↦ inl before
      | inr by ↦
          let (own, (asking, told)) = by in
          let (event_is, (op, now, kind)) = operation (Some n) op_kinds.Remove own asking told in
          inr (subst (λ o. Now event (Some n) o) (removing op kind) (answers_now (Some n) op (event_is ∙ ap (λ y. Shown (Some n) y) (sym kind)) now))
    ]

    -- a removal's closure
    agrees : (n : ℕ) → ActsOn later.machine.call (Agrees n true) → Before tasks.RemoveIf (Some n) ops.Remove
    agrees n stands = elim (said (Agrees n true) stands) [
      | inl before ↦ inl before
      | inr by ↦
          let (own, (asking, told)) = by in
          inr (agrees_now n (is ∙ ap (λ y. event_of (kind_of_ask r.machine) y a) (asks_own r.machine own.phase ∙ ap asks.Call asking)
          ∙ ap (λ y. event_of (kind_of_ask r.machine) (asks.Call (ShowPair n)) y) (own.is ∙ ap given.Call told)))
    ]

    -- so a call intends what it did before, or what its closure returned in this step
    pub call_intends : (shown : Option ℕ) (op : Operation V ℕ) → Intends s' (works.Call later) shown op → Intends s (works.Call r) shown op
        ⊎ AnswersNow says s' event (works.Call r) shown op
    call_intends shown op h = by_task r.machine.call.task refl shown op (subst (λ t. IntendsAs s' t later shown op) task_stays h)
      where
        by_task : (task : Task) → r.machine.call.task ≡ task → (shown : Option ℕ) (op : Operation V ℕ) → IntendsAs s' task later shown op → Before task shown op
        by_task tasks.Get task shown op h = absurd h
        by_task (tasks.Insert replace) task shown (ops.Insert v) h = inl (inserts v replace task h)
        by_task (tasks.Insert replace) task shown ops.Remove h = absurd h
        by_task (tasks.Insert replace) task shown (ops.Abort t) h = absurd h
        by_task tasks.RemoveIf task (Some n) ops.Remove h = agrees n h
        by_task tasks.RemoveIf task (Some n) (ops.Insert v) h = absurd h
        by_task tasks.RemoveIf task (Some n) (ops.Abort t) h = absurd h
        by_task tasks.RemoveIf task None ops.Remove h = absurd h
        by_task tasks.RemoveIf task None (ops.Insert v) h = absurd h
        by_task tasks.RemoveIf task None (ops.Abort t) h = absurd h
        by_task tasks.Compute task shown (ops.Insert v) (inl h) = computes_at_hand shown v h.0 h.1
        by_task tasks.Compute task shown (ops.Insert v) (inr h) = computes_made shown v h.0 h.1 h.2
        by_task tasks.Compute task (Some n) ops.Remove h = removes n h
        by_task tasks.Compute task (Some n) (ops.Abort t) h = absurd h
        by_task tasks.Compute task None ops.Remove h = absurd h
        by_task tasks.Compute task None (ops.Abort t) h = absurd h
