-- The event of a step is that of an ask of the call, or of a copy. A copy calls no closure, and
-- changes no pair of the map.
use Rattle.std.proofs.Common.{◌≡◌, ◌⊎◌, inl, inr, ⊎_elim, ℕ, ◌==◌, Bool, true, false, Option, None, Some, List, [], ◌∷◌, refl, sym, ◌∙◌, ap, eqb-true}
use Rattle.papaya_call.specs.declared.ask.At.{At}
use Rattle.papaya_call.specs.declared.ask.Ask.{Ask as Call_ask}
use Rattle.papaya_call.specs.declared.ask.Ask.TheVariants.{Exchange as Ask_exchange, ShowNone, ShowPair}
use Rattle.papaya_call.specs.declared.ask.Answer.{Answer as Call_answer}
use Rattle.papaya_call.specs.declared.ask.Answer.TheVariants.{Word as Word_read, Exchanged}
use Rattle.papaya_call.specs.declared.ask.Answer.TheVariants.{Found as Found_instead, Yes, Op, Size}
use Rattle.papaya_call.specs.declared.ask.Answer.TheVariants.{Made as Made_number, Ok as Ok_done}
use Rattle.papaya_call.specs.declared.ask.Answer.TheVariants.{Refused as Was_refused}
use Rattle.papaya_call.specs.declared.ask.OpKind.{OpKind}
use Rattle.papaya_call.specs.declared.ask.StepKind.{StepKind}
use Rattle.papaya_call.specs.declared.ask.StepKind.TheVariants as kinds
use Rattle.papaya_call.specs.declared.copy_ask.CopyAsk.{CopyAsk}
use Rattle.papaya_call.specs.declared.copy_ask.CopyAsk.TheVariants.{Load, Exchange as Copy_exchange}
use Rattle.papaya_call.specs.declared.copy_ask.CopyAsk.TheVariants.{SizeOf, HashOf, SamePair, Count}
use Rattle.papaya_call.specs.declared.copy_ask.CopyAsk.TheVariants.{MakeTable, LoadHint, WriteHint}
use Rattle.papaya_call.specs.Answers.{op_kind}
use Rattle.papaya_call.specs.declared.answers.Operation.{Operation}
use Rattle.papaya_call.specs.declared.copy.carry.Carry.{Carry}
use Rattle.papaya_call.specs.declared.copy.carry.Carry.TheVariants as carries
use Rattle.papaya_call.specs.declared.copy.copying.Copying.TheVariants.{Stepping, Lone}
use Rattle.papaya_call.specs.declared.copy.link.Link.{Link}
use Rattle.papaya_call.specs.declared.copy.link.Link.TheVariants as links
use Rattle.papaya_call.specs.declared.copy.settle.Settle.{Settle}
use Rattle.papaya_call.specs.declared.copy.settle.Settle.TheVariants as settles
use Rattle.papaya_call.specs.declared.copy.step.Step.{Step}
use Rattle.papaya_call.specs.declared.copy.step.Step.TheVariants as steps
use Rattle.papaya_call.specs.Carry.{carry_kind}
use Rattle.papaya_call.specs.Link.{link_kind}
use Rattle.papaya_call.specs.Settle.{settle_kind}
use Rattle.papaya_call.specs.Step.{step_kind}
use Rattle.papaya_call.specs.declared.chain.ask.Ask.{Ask}
use Rattle.papaya_call.specs.declared.chain.ask.Ask.TheVariants as asks
use Rattle.papaya_call.specs.declared.chain.ask.Answer.{Answer}
use Rattle.papaya_call.specs.declared.chain.ask.Answer.TheVariants as answers
use Rattle.papaya_call.specs.declared.chain.machine.Machine.{Machine}
use Rattle.papaya_call.specs.declared.chain.resizer.ResizerState.{ResizerState as Stage}
use Rattle.papaya_call.specs.declared.chain.resizer.ResizerState.TheVariants as stages
use Rattle.papaya_call.specs.Resizer.{kind_in as stage_kind}
use Rattle.papaya_call.specs.declared.chain.machine.Phase.{Phase}
use Rattle.papaya_call.specs.declared.chain.machine.Phase.TheVariants.{Calling, Linking, Copying as Copying_root}
use Rattle.papaya_call.specs.ChainMachine.{ask_of, asks_in, kind_in, kind_of_ask}
use Rattle.papaya_words_law.specs.Code.{Coding}
use Rattle.papaya_words_law.specs.Exchange.{Setting, State, Exchange}
use Rattle.papaya_call_law.specs.Copier.{IsCopyAsked}
use Rattle.papaya_call_law.specs.Relies.{Change}
use Rattle.papaya_call_law.specs.Says.{show}
use Rattle.papaya_call_law.specs.TrueAnswers.{word_of}
use Rattle.papaya_call_law.specs.Goes.{change_by as changed_by}
use Rattle.papaya_call_law.specs.ChainAnswers.{IsTrueOfCopy, IsTrueOf, LoadedPairs}
use Rattle.papaya_core_timeline.specs.declared.trace.Event.{Event}
use Rattle.papaya_core_timeline.specs.declared.trace.Event.TheVariants.{Changed, Moved, Shown, Other}
use Rattle.papaya_core_timeline.specs.Advances.{answered_event, call_event, event_of, kind_event}
use Rattle.papaya_core_timeline.specs.Runs.{History}
use Rattle.papaya_core_timeline.specs.Timeline.{Answered, begins, change_by, none_by, open_after, WasAnswered, WasAsked}
use Rattle.papaya_core_timeline.proofs.EventLemmas as calls
use Rattle.papaya_core_timeline.proofs.StoreLemmas.{matched}
use Rattle.papaya_core_timeline.proofs.TimelineLemmas.{entry, answered-own, answered-now, asked-own, asked-now}

-- the kinds of the exchanges of copies
abbrev pub IsCopyKind : Option StepKind → Type 0
IsCopyKind (Some kinds.Open) = ⊥
IsCopyKind (Some kinds.Claim) = ⊥
IsCopyKind (Some kinds.Replace) = ⊥
IsCopyKind (Some kinds.Bury) = ⊥
IsCopyKind (Some kinds.Take) = ⊥
IsCopyKind _ = Unit {0}

-- a copy asks for no other
linking_kind : (link : Link) → IsCopyKind (link_kind link)
linking_kind (links.Sizing after copied unfit) = tt
linking_kind (links.Measuring after copied unfit len) = tt
linking_kind (links.Counting after unfit len copied) = tt
linking_kind (links.Making after len limit chunks) = tt
linking_kind (links.Linking after table chunks) = tt

carrying_kind : (carry : Carry) → IsCopyKind (carry_kind carry)
carrying_kind (carries.Placing hash at) = tt
carrying_kind (carries.Linking hash link) = linking_kind link
carrying_kind (carries.Aborting table) = tt
carrying_kind carry = tt

settling_kind : (settle : Settle) → IsCopyKind (settle_kind settle)
settling_kind settles.Looking = tt
settling_kind settles.Closing = tt
settling_kind settles.Shutting = tt
settling_kind (settles.Marking word) = tt
settling_kind (settles.Carrying word carry) = carrying_kind carry
settling_kind (settles.Finishing word) = tt

stepping_kind : (step : Step) → IsCopyKind (step_kind step)
stepping_kind (steps.Linking from link) = linking_kind link
stepping_kind (steps.Settling chunk settle) = settling_kind settle
stepping_kind (steps.Advancing cursor) = tt
stepping_kind (steps.Promoting from to) = tt
stepping_kind step = tt

copy_kind_in : (m : Machine) (phase : Phase) (ask : CopyAsk) → asks_in m.call phase ≡ asks.Copy ask → IsCopyKind (kind_in m.call phase)
copy_kind_in m Calling ask e = absurd cc
copy_kind_in m (Linking link) ask e = linking_kind link
copy_kind_in m (Copying_root (Stepping aim step)) ask e = stepping_kind step
copy_kind_in m (Copying_root (Lone slot settle)) ask e = settling_kind settle

pub copy_kind : (m : Machine) (ask : CopyAsk) → ask_of m ≡ asks.Copy ask → IsCopyKind (kind_of_ask m)
copy_kind m ask e = copy_kind_in m m.phase ask e

-- an exchange that was asked for a copy changed no pair of the map
moved_cases : (P : Event → Type 0) → P Other → ((kind : StepKind) → P (Moved kind)) → (kind : Option StepKind) → IsCopyKind kind
    → (old new : ℕ) (answer : Call_answer) → P (answered_event kind old new answer)
moved_cases P other moved kind copies old new answer = by_answer answer
  where
    by_kind : (kind : Option StepKind) → IsCopyKind kind → P (kind_event kind old new)
    by_kind None copies = other
    by_kind (Some kinds.Open) copies = absurd copies
    by_kind (Some kinds.Claim) copies = absurd copies
    by_kind (Some kinds.Replace) copies = absurd copies
    by_kind (Some kinds.Bury) copies = absurd copies
    by_kind (Some kinds.Take) copies = absurd copies
    by_kind (Some kinds.Link) copies = moved kinds.Link
    by_kind (Some kinds.Mark) copies = moved kinds.Mark
    by_kind (Some kinds.Close) copies = moved kinds.Close
    by_kind (Some kinds.Place) copies = moved kinds.Place
    by_kind (Some kinds.Finish) copies = moved kinds.Finish
    by_kind (Some kinds.Advance) copies = moved kinds.Advance
    by_kind (Some kinds.Promote) copies = moved kinds.Promote
    by_kind (Some kinds.Abort) copies = moved kinds.Abort

    by_answer : (answer : Call_answer) → P (answered_event kind old new answer)
    by_answer Exchanged = by_kind kind copies
    by_answer (Word_read word) = other
    by_answer (Found_instead word) = other
    by_answer (Yes same) = other
    by_answer (Op op) = other
    by_answer (Size slots limit) = other
    by_answer (Made_number n) = other
    by_answer Ok_done = other
    by_answer (Was_refused refused) = other

-- the event of a copy is that of an exchange, or none
copied_cases : (P : Event → Type 0) → P Other → (kind : Option StepKind)
    → ((old new : ℕ) (answer : Call_answer) → P (answered_event kind old new answer)) → (ask : CopyAsk) (answer : Answer)
    → P (event_of kind (asks.Copy ask) answer)
copied_cases P other kind exchanged (Copy_exchange at old new) (answers.Call told) = exchanged old new told
copied_cases P other kind exchanged (Load at) (answers.Call told) = other
copied_cases P other kind exchanged (LoadHint t x) (answers.Call told) = other
copied_cases P other kind exchanged (WriteHint t x hint) (answers.Call told) = other
copied_cases P other kind exchanged (SizeOf t) (answers.Call told) = other
copied_cases P other kind exchanged (HashOf n) (answers.Call told) = other
copied_cases P other kind exchanged (SamePair m n) (answers.Call told) = other
copied_cases P other kind exchanged Count (answers.Call told) = other
copied_cases P other kind exchanged (MakeTable slots limit chunks) (answers.Call told) = other
copied_cases P other kind exchanged ask (answers.Hash hash) = other
copied_cases P other kind exchanged ask (answers.Count count) = other

-- with a kind for which no copy asks, it would be a change of the map
pub copy_cases : (P : Event → Type 0) → P Other → ((kind : StepKind) (old new : Option ℕ) → P (Changed kind old new))
    → ((kind : StepKind) → P (Moved kind)) → (kind : Option StepKind) (ask : CopyAsk) (answer : Answer) → P (event_of kind (asks.Copy ask) answer)
copy_cases P other changed moved kind ask answer = copied_cases P other kind (calls.exchanged_cases P other changed moved kind) ask answer

-- an ask for a copy leaves the map
pub copy_moves : (P : Event → Type 0) → P Other → ((kind : StepKind) → P (Moved kind)) → (kind : Option StepKind) → IsCopyKind kind
    → (ask : CopyAsk) (answer : Answer) → P (event_of kind (asks.Copy ask) answer)
copy_moves P other moved kind copies ask answer = copied_cases P other kind (moved_cases P other moved kind copies) ask answer

-- and so does an ask of a resizer, also if it opens a table
open_moves : (P : Event → Type 0) → P Other → ((kind : StepKind) → P (Moved kind)) → (old new : ℕ) (answer : Call_answer)
    → P (answered_event (Some kinds.Open) old new answer)
open_moves P other moved old new Exchanged = moved kinds.Open
open_moves P other moved old new (Word_read word) = other
open_moves P other moved old new (Found_instead word) = other
open_moves P other moved old new (Yes same) = other
open_moves P other moved old new (Op op) = other
open_moves P other moved old new (Size slots limit) = other
open_moves P other moved old new (Made_number n) = other
open_moves P other moved old new Ok_done = other
open_moves P other moved old new (Was_refused refused) = other

pub stage_moves : (P : Event → Type 0) → P Other → ((kind : StepKind) → P (Moved kind)) → (stage : Stage) (ask : CopyAsk) (answer : Answer)
    → P (event_of (stage_kind stage) (asks.Copy ask) answer)
stage_moves P other moved (stages.Opening table) ask answer = copied_cases P other (Some kinds.Open) (open_moves P other moved) ask answer
stage_moves P other moved (stages.Linking link) ask answer = copy_moves P other moved (link_kind link) (linking_kind link) ask answer
stage_moves P other moved (stages.Copying from (Stepping aim step)) ask answer = copy_moves P other moved (step_kind step) (stepping_kind step) ask answer
stage_moves P other moved (stages.Copying from (Lone slot settle)) ask answer = copy_moves P other moved (settle_kind settle) (settling_kind settle) ask answer
stage_moves P other moved stage ask answer = copy_moves P other moved None tt ask answer

-- a step begins no call
pub event_begins : (kind : Option StepKind) (ask : Ask) (answer : Answer) → begins (event_of kind ask answer) ≡ false
event_begins kind (asks.Call ask) (answers.Call told) = calls.event_begins kind ask told
event_begins kind (asks.Call ask) (answers.Hash hash) = refl
event_begins kind (asks.Call ask) (answers.Count count) = refl
event_begins kind (asks.Copy ask) answer = copy_cases (λ e. begins e ≡ false) refl (λ kind old new. refl) (λ kind. refl) kind ask answer

-- and the open call stays open
pub event_open : {A : Type 0} (begun before : Option A) (kind : Option StepKind) (ask : Ask) (answer : Answer)
    → open_after (event_of kind ask answer) begun before ≡ before
event_open begun before kind (asks.Call ask) (answers.Call told) = calls.event_open begun before kind ask told
event_open begun before kind (asks.Call ask) (answers.Hash hash) = refl
event_open begun before kind (asks.Call ask) (answers.Count count) = refl
event_open begun before kind (asks.Copy ask) answer = copy_cases (λ e. open_after e begun before ≡ before) refl (λ kind old new. refl) (λ kind. refl)
    kind ask answer

-- if a closure is called, the event is that of the call's ask
of_call : (kind : Option StepKind) (ask : Ask) (answer : Answer) (asked : Call_ask) (told : Call_answer) → ask ≡ asks.Call asked
    → answer ≡ answers.Call told → event_of kind ask answer ≡ call_event kind asked told
of_call kind ask answer asked told showed said = ap (λ y. event_of kind y answer) showed ∙ ap (λ y. event_of kind (asks.Call asked) y) said

-- a result of a removal's closure after a step was returned before it, or is returned in it
pub step_asked : (c turn n : ℕ) (agrees : Bool) (kind : Option StepKind) (ask : Ask) (answer : Answer) (event : Event) (before : History)
    → event ≡ event_of kind ask answer → WasAsked c n agrees before ⊎ ((ask ≡ asks.Call (ShowPair n)) × (answer ≡ answers.Call (Yes agrees)))
    → WasAsked c n agrees (entry turn c event ∷ before)
step_asked c turn n agrees kind ask answer event before is (inl was) = asked-own c c turn n agrees event before
    (ap begins is ∙ event_begins kind ask answer) was
step_asked c turn n agrees kind ask answer event before is (inr (showed, said)) = asked-now c turn n agrees event before
    (is ∙ of_call kind ask answer (ShowPair n) (Yes agrees) showed said)

-- the event of a call of a compute's closure
pub event_shown : (shown : Option ℕ) (op : OpKind) (kind : Option StepKind) (ask : Ask) (answer : Answer) → ask ≡ asks.Call (show shown)
    → answer ≡ answers.Call (Op op) → event_of kind ask answer ≡ Shown shown op
event_shown shown op kind ask answer showed said = of_call kind ask answer (show shown) (Op op) showed said
    ∙ calls.event_shown shown op kind (show shown) (Op op) refl refl

-- a result of a closure after a step was returned before it, or is returned in it
pub step_answered : {V : Type 0} (c turn : ℕ) (shown : Option ℕ) (op : Operation V ℕ) (kind : Option StepKind) (ask : Ask) (answer : Answer)
    (event : Event) (before : History) (o : Option (Operation V ℕ)) (said : Answered V) → event ≡ event_of kind ask answer
    → WasAnswered c shown op before said ⊎ ((ask ≡ asks.Call (show shown)) × (answer ≡ answers.Call (Op (op_kind op))) × (o ≡ Some op))
    → WasAnswered c shown op (entry turn c event ∷ before) (o ∷ said)
step_answered c turn shown op kind ask answer event before o said is (inl was) = answered-own c c turn shown op event before o said
    (ap begins is ∙ event_begins kind ask answer) was
step_answered c turn shown op kind ask answer event before o said is (inr (showed, given, now)) = answered-now c turn shown op event before o said
    (is ∙ event_shown shown (op_kind op) kind ask answer showed given) now

-- a closure has been called with `None` after a step only if it was before, or is in this step
pub event_none : (before : Bool) (kind : Option StepKind) (ask : Ask) (answer : Answer) → none_by (event_of kind ask answer) before ≡ true
    → (before ≡ true) ⊎ ((ask ≡ asks.Call ShowNone) × ((op : OpKind) × (answer ≡ answers.Call (Op op))))
event_none before kind (asks.Call ask) (answers.Call told) e =
    ⊎_elim (λ was. inl was) (λ (now : (ask ≡ ShowNone) × ((op : OpKind) × (told ≡ Op op))).
    inr (ap asks.Call now.0, (now.1.0, ap answers.Call now.1.1))) (calls.event_none before kind ask told e)
event_none before kind (asks.Call ask) (answers.Hash hash) e = inl e
event_none before kind (asks.Call ask) (answers.Count count) e = inl e
event_none before kind (asks.Copy ask) answer e = inl
    (sym (copy_cases (λ y. none_by y before ≡ before) refl (λ kind old new. refl) (λ kind. refl) kind ask answer) ∙ e)

-- a machine's event records the change that it makes
change_in_copy : (before : Change) (kind : Option StepKind) → IsCopyKind kind → (ask : CopyAsk) (answer : Answer)
    → change_by (event_of kind (asks.Copy ask) answer) before ≡ before
change_in_copy before kind copies ask answer = copy_moves (λ e. change_by e before ≡ before) refl (λ kind. refl) kind copies ask answer

pub event_change : (before : Change) (kind : Option StepKind) (ask : Ask) (answer : Answer)
    → ((asked : CopyAsk) → ask ≡ asks.Copy asked → IsCopyKind kind)
    → ((at : At) (old new : ℕ) → ask ≡ asks.Call (Ask_exchange at old new) → before ≡ None)
    → change_by (event_of kind ask answer) before ≡ changed_by kind ask answer before
event_change before kind (asks.Call ask) (answers.Call told) copies once = calls.event_change before kind ask told
    (λ at old new e. once at old new (ap asks.Call e))
event_change before kind (asks.Call ask) (answers.Hash hash) copies once = refl
event_change before kind (asks.Call ask) (answers.Count count) copies once = refl
event_change before kind (asks.Copy ask) (answers.Call told) copies once = change_in_copy before kind (copies ask refl) ask (answers.Call told)
event_change before kind (asks.Copy ask) (answers.Hash hash) copies once = refl
event_change before kind (asks.Copy ask) (answers.Count count) copies once = refl

-- if no change has been made after an answer, none was made before it
pub unchanged_before : (before : Change) (kind : Option StepKind) (ask : Ask) (answer : Answer)
    → ((at : At) (old new : ℕ) → ask ≡ asks.Call (Ask_exchange at old new) → before ≡ None) → changed_by kind ask answer before ≡ None → before ≡ None
unchanged_before before kind (asks.Call ask) (answers.Call told) once e = calls.unchanged_before before kind ask told
    (λ at old new e. once at old new (ap asks.Call e)) e
unchanged_before before kind (asks.Call ask) (answers.Hash hash) once e = e
unchanged_before before kind (asks.Call ask) (answers.Count count) once e = e
unchanged_before before kind (asks.Copy ask) answer once e = e

-- a copy made this exchange
pub record IsCopied {K P : Type 0} (g : Setting K P) (c : Coding K P) (s : State P) (kind : Option StepKind) (kept : Option P) (ask : CopyAsk)
    (es : List (Exchange P)) : Type 0 where
  pub at : At
  pub old : ℕ
  pub new : ℕ
  pub by : Exchange P
  pub ask_is : ask ≡ Copy_exchange at old new
  pub stood : word_of g c s at ≡ old
  pub asked : IsCopyAsked c kind at new s kept by
  pub made : es ≡ by ∷ []

module _ {K P : Type 0} (g : Setting K P) (c : Coding K P) (s : State P) (kind : Option StepKind) (follows : ℕ) (loaded : LoadedPairs P) where
  -- an answer to a copy records one exchange that it made, or none
  pub copy_told : (ask : CopyAsk) (answer : Answer) (es : List (Exchange P)) (loaded' : LoadedPairs P)
      → IsTrueOfCopy g c s kind follows loaded ask answer es loaded' → (es ≡ []) ⊎ IsCopied g c s kind loaded.kept ask es
  copy_told (Load at) answer es loaded' h = inl h.1
  copy_told (Copy_exchange at old new) answer es loaded' h =
      matched ((es ≡ []) ⊎ IsCopied g c s kind loaded.kept (Copy_exchange at old new) es) (word_of g c s at == old) _ _ h
      (λ same h'. let e = h'.1 in inr (record {
        at = at;
        old = old;
        new = new;
        by = e.0;
        ask_is = refl;
        stood = eqb-true (word_of g c s at) old same;
        asked = e.1;
        made = e.2;
      }))
      (λ differ h'. inl h'.1)
  copy_told (LoadHint t x) answer es loaded' h = inl h.1.0
  copy_told (WriteHint t x hint) answer es loaded' h = inl h.1.0
  copy_told (SizeOf t) answer es loaded' h = inl h.1.0
  copy_told (HashOf n) answer es loaded' h = inl h.1
  copy_told (SamePair m n) answer es loaded' h = inl h.1.0
  copy_told Count answer es loaded' h = inl h.1.0
  copy_told (MakeTable slots limit chunks) answer es loaded' h = inl h.1.0

-- so at most one exchange
pub one_exchange : {K P : Type 0} (g : Setting K P) (c : Coding K P) (k : K) (s : State P) (kind : Option StepKind) (follows : ℕ)
    (loaded : LoadedPairs P) (ask : Ask) (answer : Answer) (es : List (Exchange P)) (loaded' : LoadedPairs P)
    → IsTrueOf g c k s kind follows loaded ask answer es loaded' → (es ≡ []) ⊎ ((e : Exchange P) × (es ≡ e ∷ []))
one_exchange g c k s kind follows loaded (asks.Call ask) answer es loaded' h = calls.one_exchange g c k s kind loaded.call ask h.told es h.call h.tells
one_exchange {P = P} g c k s kind follows loaded (asks.Copy ask) answer es loaded' h =
    ⊎_elim (λ none. inl none) (λ (made : IsCopied g c s kind loaded.kept ask es). inr (made.by, made.made))
    (copy_told g c s kind follows loaded ask answer es loaded' h)
