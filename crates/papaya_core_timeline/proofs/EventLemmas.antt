-- The event of an ask of a call: an exchange that succeeded, or nothing.
use Rattle.std.proofs.Common.{◌≡◌, ◌⊎◌, inl, inr, ⊎_elim, ℕ, ◌==◌, Bool, true, false, Option, None, Some, List, [], ◌∷◌, refl, sym, ◌∙◌, ap, eqb-true}
use Rattle.papaya_call.specs.declared.ask.At.{At}
use Rattle.papaya_call.specs.Answers.{op_kind}
use Rattle.papaya_call.specs.declared.answers.Operation.{Operation}
use Rattle.papaya_call.specs.declared.ask.Ask.{Ask}
use Rattle.papaya_call.specs.declared.ask.Ask.TheVariants.{Load, Exchange as Ask_exchange, SameKey}
use Rattle.papaya_call.specs.declared.ask.Ask.TheVariants.{ShowNone, ShowPair, SizeOf, MakeKey}
use Rattle.papaya_call.specs.declared.ask.Ask.TheVariants.{MakeValue, MakePair, MakePairOf}
use Rattle.papaya_call.specs.declared.ask.Ask.TheVariants.{MakeTable, AddToShard, Done as Ask_done}
use Rattle.papaya_call.specs.declared.ask.Ask.TheVariants.{LoadHint, WriteHint}
use Rattle.papaya_call.specs.declared.ask.Answer.{Answer}
use Rattle.papaya_call.specs.declared.ask.Answer.TheVariants.{Word as Word_read, Exchanged}
use Rattle.papaya_call.specs.declared.ask.Answer.TheVariants.{Found as Found_instead, Yes, Op, Size}
use Rattle.papaya_call.specs.declared.ask.Answer.TheVariants.{Made as Made_number, Ok as Ok_done}
use Rattle.papaya_call.specs.declared.ask.Answer.TheVariants.{Refused as Was_refused}
use Rattle.papaya_call.specs.declared.ask.OpKind.{OpKind}
use Rattle.papaya_call.specs.declared.ask.StepKind.{StepKind}
use Rattle.papaya_call.specs.declared.ask.StepKind.TheVariants as kinds
use Rattle.papaya_words_law.specs.Exchange.{Setting, State, Exchange}
use Rattle.papaya_words_law.specs.Code.{Coding}
use Rattle.papaya_call_law.specs.Relies.{Change, change_after, change_of_kind}
use Rattle.papaya_call_law.specs.Says.{show}
use Rattle.papaya_call_law.specs.TrueAnswers.{IsTrueOf, IsAsked, LoadedPairs, word_of}
use Rattle.papaya_core_timeline.specs.declared.trace.Event.{Event}
use Rattle.papaya_core_timeline.specs.declared.trace.Event.TheVariants.{Changed, Moved, Asked, Shown, Other}
use Rattle.papaya_core_timeline.specs.Advances.{call_event, answered_event, kind_event, shown_event}
use Rattle.papaya_core_timeline.specs.Runs.{History}
use Rattle.papaya_core_timeline.specs.Timeline.{Answered, begins, change_by, none_by, open_after, WasAnswered, WasAsked}
use Rattle.papaya_core_timeline.proofs.StoreLemmas.{matched}
use Rattle.papaya_core_timeline.proofs.TimelineLemmas.{entry, answered-own, answered-now, asked-own, asked-now}

-- an exchange of this ask was made
pub record IsExchanged {K P : Type 0} (g : Setting K P) (c : Coding K P) (k : K) (s : State P) (kind : Option StepKind) (loaded : LoadedPairs P)
    (ask : Ask) (answer : Answer) (es : List (Exchange P)) : Type 0 where
  pub at : At
  pub old : ℕ
  pub new : ℕ
  pub by : Exchange P
  pub ask_is : ask ≡ Ask_exchange at old new
  pub answer_is : answer ≡ Exchanged
  pub stood : word_of g c s at ≡ old
  pub asked : IsAsked g c k kind at new s loaded by
  pub made : es ≡ by ∷ []

-- or nothing was exchanged
abbrev pub IsQuiet : {P : Type 0} → Option StepKind → Ask → Answer → List (Exchange P) → Type 0
IsQuiet kind ask answer es = (es ≡ []) × (call_event kind ask answer ≡ Other)

-- or the closure of a removal was called with a pair, and returned
abbrev pub IsShowing : {P : Type 0} → Option StepKind → Ask → Answer → List (Exchange P) → Type 0
IsShowing kind ask answer es = (n : ℕ) × (agrees : Bool) × (ask ≡ ShowPair n) × (answer ≡ Yes agrees) × (es ≡ [])
    × (call_event kind ask answer ≡ Asked n agrees)

-- or the closure of a compute was called with a pair or with `None`, and returned
abbrev pub IsShown : {P : Type 0} → Option StepKind → Ask → Answer → List (Exchange P) → Type 0
IsShown kind ask answer es = (shown : Option ℕ) × (op : OpKind) × (ask ≡ show shown) × (answer ≡ Op op) × (es ≡ [])
    × (call_event kind ask answer ≡ Shown shown op)

module _ {K P : Type 0} (g : Setting K P) (c : Coding K P) (k : K) (s : State P) (kind : Option StepKind) (loaded : LoadedPairs P) where
  abbrev Cases : Ask → Answer → List (Exchange P) → Type 0
  Cases ask answer es = IsQuiet kind ask answer es ⊎ IsExchanged g c k s kind loaded ask answer es ⊎ IsShowing kind ask answer es ⊎ IsShown kind ask answer es

  -- a recorded answer is one of these
  pub told_cases : (ask : Ask) (answer : Answer) (es : List (Exchange P)) (loaded' : LoadedPairs P) → IsTrueOf g c k s kind loaded ask answer es loaded'
      → Cases ask answer es
  told_cases (Load at) answer es loaded' h = inl (h.1, refl)
  told_cases (Ask_exchange at old new) answer es loaded' h =
      matched (Cases (Ask_exchange at old new) answer es) (word_of g c s at == old) _ _ h
      (λ same h'. let e = h'.1 in inr (inl (record {
        at = at;
        old = old;
        new = new;
        by = e.0;
        ask_is = refl;
        answer_is = h'.0;
        stood = eqb-true
            (word_of g c s at) old same;
        asked = e.1;
        made = e.2;
      })))
      (λ differ h'. inl (h'.1, ap (answered_event kind old new) h'.0))
  told_cases (SameKey n) answer es loaded' h = inl (h.1.0, refl)
  told_cases ShowNone answer es loaded' h =
      ⊎_elim
      (λ (yes : (agrees : Bool) × (answer ≡ Yes agrees)). inl (h.1.0, ap (shown_event None) yes.1))
      (λ other. ⊎_elim
      (λ (op : (op : OpKind) × (answer ≡ Op op)). inr (inr (inr (None, op.0, refl, op.1, h.1.0, ap (shown_event None) op.1))))
      (λ (none : answer ≡ Ok_done). inl (h.1.0, ap (shown_event None) none))
      other)
      h.0
  told_cases (ShowPair n) answer es loaded' h =
      ⊎_elim
      (λ (yes : (agrees : Bool) × (answer ≡ Yes agrees)). inr (inr (inl (n, yes.0, refl, yes.1, h.1.0, ap (shown_event (Some n)) yes.1))))
      (λ other. ⊎_elim
      (λ (op : (op : OpKind) × (answer ≡ Op op)). inr (inr (inr (Some n, op.0, refl, op.1, h.1.0, ap (shown_event (Some n)) op.1))))
      (λ (none : answer ≡ Ok_done). inl (h.1.0, ap (shown_event (Some n)) none))
      other)
      h.0
  told_cases (LoadHint t x) answer es loaded' h = inl (h.1.0, refl)
  told_cases (WriteHint t x hint) answer es loaded' h = inl (h.1.0, refl)
  told_cases (SizeOf t) answer es loaded' h = inl (h.1.0, refl)
  told_cases MakeKey answer es loaded' h = inl (h.1.0, refl)
  told_cases MakeValue answer es loaded' h = inl (h.1.0, refl)
  told_cases MakePair answer es loaded' h = ⊎_elim (λ quiet. inl (quiet.1.0, refl)) (λ made. inl (made.2.1, refl)) h
  told_cases (MakePairOf pair) answer es loaded' h = ⊎_elim (λ quiet. inl (quiet.1.0, refl)) (λ made. inl (made.2.1, refl)) h
  told_cases (MakeTable slots limit chunks) answer es loaded' h = inl (h.1.0, refl)
  told_cases (AddToShard by) answer es loaded' h = inl (h.1.0, refl)
  told_cases (Ask_done reply) answer es loaded' h = inl (h.1.0, refl)

  -- so at most one exchange
  pub one_exchange : (ask : Ask) (answer : Answer) (es : List (Exchange P)) (loaded' : LoadedPairs P)
      → IsTrueOf g c k s kind loaded ask answer es loaded' → (es ≡ []) ⊎ ((e : Exchange P) × (es ≡ e ∷ []))
  one_exchange ask answer es loaded' h =
      let none : (es ≡ []) → (es ≡ []) ⊎ ((e : Exchange P) × (es ≡ e ∷ [])) = λ e. inl e in
      ⊎_elim (λ quiet. none quiet.0) (λ x. ⊎_elim (λ y. inr (y.by, y.made)) (λ z. ⊎_elim (λ y. none y.4) (λ y. none y.4) z) x)
      (told_cases ask answer es loaded' h)

-- a fact about events of exchanges and about no event holds if an exchange was asked for
pub exchanged_cases : (P : Event → Type 0) → P Other → ((kind : StepKind) (old new : Option ℕ) → P (Changed kind old new))
    → ((kind : StepKind) → P (Moved kind)) → (kind : Option StepKind) (old new : ℕ) (answer : Answer) → P (answered_event kind old new answer)
exchanged_cases P other changed moved kind old new answer = by_answer answer
  where
    by_kind : (kind : Option StepKind) → P (kind_event kind old new)
    by_kind None = other
    by_kind (Some kinds.Open) = moved kinds.Open
    by_kind (Some kinds.Claim) = changed kinds.Claim _ _
    by_kind (Some kinds.Replace) = changed kinds.Replace _ _
    by_kind (Some kinds.Bury) = changed kinds.Bury _ _
    by_kind (Some kinds.Link) = moved kinds.Link
    by_kind (Some kinds.Mark) = moved kinds.Mark
    by_kind (Some kinds.Close) = moved kinds.Close
    by_kind (Some kinds.Place) = moved kinds.Place
    by_kind (Some kinds.Finish) = moved kinds.Finish
    by_kind (Some kinds.Advance) = moved kinds.Advance
    by_kind (Some kinds.Promote) = moved kinds.Promote
    by_kind (Some kinds.Abort) = moved kinds.Abort
    by_kind (Some kinds.Take) = moved kinds.Take

    by_answer : (answer : Answer) → P (answered_event kind old new answer)
    by_answer Exchanged = by_kind kind
    by_answer (Word_read word) = other
    by_answer (Found_instead word) = other
    by_answer (Yes same) = other
    by_answer (Op op) = other
    by_answer (Size slots limit) = other
    by_answer (Made_number n) = other
    by_answer Ok_done = other
    by_answer (Was_refused refused) = other

-- a fact about results of closures and about no event holds if a closure was called
shown_cases : (P : Event → Type 0) → P Other → ((n : ℕ) (agrees : Bool) → P (Asked n agrees)) → (shown : Option ℕ)
    → ((op : OpKind) → P (Shown shown op)) → (answer : Answer) → P (shown_event shown answer)
shown_cases P other asked None op_given (Yes agrees) = other
shown_cases P other asked (Some n) op_given (Yes agrees) = asked n agrees
shown_cases P other asked shown op_given (Op op) = op_given op
shown_cases P other asked shown op_given Exchanged = other
shown_cases P other asked shown op_given (Word_read word) = other
shown_cases P other asked shown op_given (Found_instead word) = other
shown_cases P other asked shown op_given (Size slots limit) = other
shown_cases P other asked shown op_given (Made_number m) = other
shown_cases P other asked shown op_given Ok_done = other
shown_cases P other asked shown op_given (Was_refused refused) = other

-- a fact about events of exchanges, of closure calls and about no event holds of a step's event
event_cases : (P : Event → Type 0) → P Other → ((kind : StepKind) (old new : Option ℕ) → P (Changed kind old new))
    → ((kind : StepKind) → P (Moved kind)) → ((n : ℕ) (agrees : Bool) → P (Asked n agrees)) → ((n : Option ℕ) (op : OpKind) → P (Shown n op))
    → (kind : Option StepKind) (ask : Ask) (answer : Answer) → P (call_event kind ask answer)
event_cases P other changed moved asked shown kind (Load at) answer = other
event_cases P other changed moved asked shown kind (Ask_exchange at old new) answer = exchanged_cases P other changed moved kind old new answer
event_cases P other changed moved asked shown kind (SameKey n) answer = other
event_cases P other changed moved asked shown kind ShowNone answer = shown_cases P other asked None (shown None) answer
event_cases P other changed moved asked shown kind (ShowPair n) answer = shown_cases P other asked (Some n) (shown (Some n)) answer
event_cases P other changed moved asked shown kind (LoadHint t x) answer = other
event_cases P other changed moved asked shown kind (WriteHint t x hint) answer = other
event_cases P other changed moved asked shown kind (SizeOf n) answer = other
event_cases P other changed moved asked shown kind MakeKey answer = other
event_cases P other changed moved asked shown kind MakeValue answer = other
event_cases P other changed moved asked shown kind MakePair answer = other
event_cases P other changed moved asked shown kind (MakePairOf pair) answer = other
event_cases P other changed moved asked shown kind (MakeTable slots limit chunks) answer = other
event_cases P other changed moved asked shown kind (AddToShard by) answer = other
event_cases P other changed moved asked shown kind (Ask_done reply) answer = other

-- it begins no call
pub event_begins : (kind : Option StepKind) (ask : Ask) (answer : Answer) → begins (call_event kind ask answer) ≡ false
event_begins = event_cases (λ e. begins e ≡ false) refl (λ kind old new. refl) (λ kind. refl) (λ n agrees. refl) (λ n op. refl)

-- a result of a removal's closure after a step was returned before it, or is returned in it
pub step_asked : (c turn n : ℕ) (agrees : Bool) (kind : Option StepKind) (ask : Ask) (answer : Answer) (event : Event) (before : History)
    → event ≡ call_event kind ask answer → WasAsked c n agrees before ⊎ ((ask ≡ ShowPair n) × (answer ≡ Yes agrees))
    → WasAsked c n agrees (entry turn c event ∷ before)
step_asked c turn n agrees kind ask answer event before is (inl was) = asked-own c c turn n agrees event before
    (ap begins is ∙ event_begins kind ask answer) was
step_asked c turn n agrees kind ask answer event before is (inr (showed, said)) = asked-now c turn n agrees event before
    (is ∙ ap (λ y. call_event kind y answer) showed ∙ ap (shown_event (Some n)) said)

-- the event of a call of a compute's closure
pub event_shown : (shown : Option ℕ) (op : OpKind) (kind : Option StepKind) (ask : Ask) (answer : Answer) → ask ≡ show shown → answer ≡ Op op
    → call_event kind ask answer ≡ Shown shown op
event_shown None op kind ask answer showed said = ap (λ y. call_event kind y answer) showed ∙ ap (shown_event None) said
event_shown (Some n) op kind ask answer showed said = ap (λ y. call_event kind y answer) showed ∙ ap (shown_event (Some n)) said

-- a result of a closure after a step was returned before it, or is returned in it
pub step_answered : {V : Type 0} (c turn : ℕ) (shown : Option ℕ) (op : Operation V ℕ) (kind : Option StepKind) (ask : Ask) (answer : Answer)
    (event : Event) (before : History) (o : Option (Operation V ℕ)) (said : Answered V) → event ≡ call_event kind ask answer
    → WasAnswered c shown op before said ⊎ ((ask ≡ show shown) × (answer ≡ Op (op_kind op)) × (o ≡ Some op))
    → WasAnswered c shown op (entry turn c event ∷ before) (o ∷ said)
step_answered c turn shown op kind ask answer event before o said is (inl was) = answered-own c c turn shown op event before o said
    (ap begins is ∙ event_begins kind ask answer) was
step_answered c turn shown op kind ask answer event before o said is (inr (showed, given, now)) = answered-now c turn shown op event before o said
    (is ∙ event_shown shown (op_kind op) kind ask answer showed given) now

-- a closure has been called with `None` after a step only if it was before, or is in this step
pub event_none : (before : Bool) (kind : Option StepKind) (ask : Ask) (answer : Answer) → none_by (call_event kind ask answer) before ≡ true
    → (before ≡ true) ⊎ ((ask ≡ ShowNone) × ((op : OpKind) × (answer ≡ Op op)))
event_none before kind (Load at) answer e = inl e
event_none before kind (Ask_exchange at old new) answer e = inl
    (sym (exchanged_cases (λ y. none_by y before ≡ before) refl (λ kind old new. refl) (λ kind. refl) kind old new answer) ∙ e)
event_none before kind (SameKey n) answer e = inl e
event_none before kind ShowNone answer e = by_answer answer e
  where
    by_answer : (answer : Answer) → none_by (shown_event None answer) before ≡ true → (before ≡ true)
        ⊎ ((ShowNone ≡ ShowNone) × ((op : OpKind) × (answer ≡ Op op)))
    by_answer (Op op) e = inr (refl, (op, refl))
    by_answer (Yes agrees) e = inl e
    by_answer Exchanged e = inl e
    by_answer (Word_read word) e = inl e
    by_answer (Found_instead word) e = inl e
    by_answer (Size slots limit) e = inl e
    by_answer (Made_number m) e = inl e
    by_answer Ok_done e = inl e
    by_answer (Was_refused refused) e = inl e
event_none before kind (ShowPair n) answer e = inl (sym (shown_cases (λ y. none_by y before ≡ before) refl (λ m agrees. refl) (Some n) (λ op. refl) answer) ∙ e)
event_none before kind (LoadHint t x) answer e = inl e
event_none before kind (WriteHint t x hint) answer e = inl e
event_none before kind (SizeOf n) answer e = inl e
event_none before kind MakeKey answer e = inl e
event_none before kind MakeValue answer e = inl e
event_none before kind MakePair answer e = inl e
event_none before kind (MakePairOf pair) answer e = inl e
event_none before kind (MakeTable slots limit chunks) answer e = inl e
event_none before kind (AddToShard by) answer e = inl e
event_none before kind (Ask_done reply) answer e = inl e

-- and the open call stays open
pub event_open : {A : Type 0} (begun before : Option A) (kind : Option StepKind) (ask : Ask) (answer : Answer)
    → open_after (call_event kind ask answer) begun before ≡ before
event_open begun before = event_cases (λ e. open_after e begun before ≡ before) refl (λ kind old new. refl) (λ kind. refl) (λ n agrees. refl) (λ n op. refl)

-- the event records the change that the machine makes
pub event_change : (before : Change) (kind : Option StepKind) (ask : Ask) (answer : Answer)
    → ((at : At) (old new : ℕ) → ask ≡ Ask_exchange at old new → before ≡ None)
    → change_by (call_event kind ask answer) before ≡ change_after kind ask answer before
event_change before kind (Load at) answer once = refl
event_change before kind (Ask_exchange at old new) answer once = by_answer answer
  where
    none : before ≡ None
    none = once at old new refl

    by_kind : (kind : Option StepKind) → change_by (kind_event kind old new) before ≡ change_of_kind kind old new
    by_kind None = none
    by_kind (Some kinds.Open) = none
    by_kind (Some kinds.Claim) = refl
    by_kind (Some kinds.Replace) = refl
    by_kind (Some kinds.Bury) = refl
    by_kind (Some kinds.Link) = none
    by_kind (Some kinds.Mark) = none
    by_kind (Some kinds.Close) = none
    by_kind (Some kinds.Place) = none
    by_kind (Some kinds.Finish) = none
    by_kind (Some kinds.Advance) = none
    by_kind (Some kinds.Promote) = none
    by_kind (Some kinds.Abort) = none
    by_kind (Some kinds.Take) = none

    by_answer : (answer : Answer) → change_by (answered_event kind old new answer) before ≡ change_after kind (Ask_exchange at old new) answer before
    by_answer Exchanged = by_kind kind
    by_answer (Word_read word) = refl
    by_answer (Found_instead word) = refl
    by_answer (Yes same) = refl
    by_answer (Op op) = refl
    by_answer (Size slots limit) = refl
    by_answer (Made_number n) = refl
    by_answer Ok_done = refl
    by_answer (Was_refused refused) = refl
event_change before kind (SameKey n) answer once = refl
event_change before kind ShowNone answer once = shown_cases (λ y. change_by y before ≡ before) refl (λ m agrees. refl) None (λ op. refl) answer
event_change before kind (ShowPair n) answer once = shown_cases (λ y. change_by y before ≡ before) refl (λ m agrees. refl) (Some n) (λ op. refl) answer
event_change before kind (LoadHint t x) answer once = refl
event_change before kind (WriteHint t x hint) answer once = refl
event_change before kind (SizeOf n) answer once = refl
event_change before kind MakeKey answer once = refl
event_change before kind MakeValue answer once = refl
event_change before kind MakePair answer once = refl
event_change before kind (MakePairOf pair) answer once = refl
event_change before kind (MakeTable slots limit chunks) answer once = refl
event_change before kind (AddToShard by) answer once = refl
event_change before kind (Ask_done reply) answer once = refl

-- if no change has been made after an answer, none was made before it
pub unchanged_before : (before : Change) (kind : Option StepKind) (ask : Ask) (answer : Answer)
    → ((at : At) (old new : ℕ) → ask ≡ Ask_exchange at old new → before ≡ None) → change_after kind ask answer before ≡ None → before ≡ None
unchanged_before before kind (Load at) answer once e = e
unchanged_before before kind (Ask_exchange at old new) answer once e = once at old new refl
unchanged_before before kind (SameKey n) answer once e = e
unchanged_before before kind ShowNone answer once e = e
unchanged_before before kind (ShowPair n) answer once e = e
unchanged_before before kind (LoadHint t x) answer once e = e
unchanged_before before kind (WriteHint t x hint) answer once e = e
unchanged_before before kind (SizeOf n) answer once e = e
unchanged_before before kind MakeKey answer once e = e
unchanged_before before kind MakeValue answer once e = e
unchanged_before before kind MakePair answer once e = e
unchanged_before before kind (MakePairOf pair) answer once e = e
unchanged_before before kind (MakeTable slots limit chunks) answer once e = e
unchanged_before before kind (AddToShard by) answer once e = e
unchanged_before before kind (Ask_done reply) answer once e = e
