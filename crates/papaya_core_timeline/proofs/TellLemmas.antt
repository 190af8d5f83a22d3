-- The event of an ask of a call describes the ask and the answer, the result of a closure, and the
-- value that the call has after it.
use Rattle.std.proofs.Common.{◌≡◌, ◌⊎◌, inl, inr, ⊎_elim, ℕ, ◌==◌, Bool, true, false, Option, None, Some, List, ◌∷◌, refl, sym, ◌∙◌, ap, subst}
use Rattle.papaya_call.specs.Answers.{Says, op_kind}
use Rattle.papaya_call.specs.declared.answers.Operation.{Operation}
use Rattle.papaya_call.specs.declared.ask.At.{At}
use Rattle.papaya_call.specs.declared.ask.Ask.{Ask}
use Rattle.papaya_call.specs.declared.ask.Ask.TheVariants.{Load, Exchange as Ask_exchange, SameKey}
use Rattle.papaya_call.specs.declared.ask.Ask.TheVariants.{ShowNone, ShowPair, SizeOf, MakeKey}
use Rattle.papaya_call.specs.declared.ask.Ask.TheVariants.{MakeValue, MakePair, MakePairOf}
use Rattle.papaya_call.specs.declared.ask.Ask.TheVariants.{MakeTable, AddToShard, Done as Ask_done}
use Rattle.papaya_call.specs.declared.ask.Ask.TheVariants.{LoadHint, WriteHint}
use Rattle.papaya_call.specs.declared.ask.Answer.{Answer}
use Rattle.papaya_call.specs.declared.ask.Answer.TheVariants.{Word as Word_read, Exchanged}
use Rattle.papaya_call.specs.declared.ask.Answer.TheVariants.{Found as Found_instead, Yes, Op, Size}
use Rattle.papaya_call.specs.declared.ask.Answer.TheVariants.{Made as Made_number, Ok as Ok_done}
use Rattle.papaya_call.specs.declared.ask.Answer.TheVariants.{Refused as Was_refused}
use Rattle.papaya_call.specs.declared.ask.OpKind.{OpKind}
use Rattle.papaya_call.specs.declared.ask.StepKind.{StepKind}
use Rattle.papaya_call.specs.declared.ask.StepKind.TheVariants as kinds
use Rattle.papaya_call.specs.declared.call.Task.{Task}
use Rattle.papaya_call.specs.declared.call.Task.TheVariants as tasks
use Rattle.papaya_words_law.specs.Code.{Coding}
use Rattle.papaya_words_law.specs.Exchange.{Exchange, Setting, State}
use Rattle.papaya_call_law.specs.Says.{MakesPair, show}
use Rattle.papaya_call_law.specs.TrueAnswers.{IsTrueOf, LoadedPairs}
use Rattle.papaya_core_store.specs.declared.pairs.Running.{Running}
use Rattle.papaya_core_timeline.specs.declared.trace.Event.{Event}
use Rattle.papaya_core_timeline.specs.declared.trace.Event.TheVariants as events
use Rattle.papaya_core_timeline.specs.Advances.{call_event, answered_event, kind_event, shown_event}
use Rattle.papaya_core_timeline.specs.Given.{GivesIn, IsEntryOf, asks_closure}
use Rattle.papaya_core_store.specs.declared.pairs.Part.{Part}
use Rattle.papaya_core_store.specs.Pairs.{value_at, value_in}
use Rattle.papaya_core_store.specs.Performs.{Performs, Decides, ShowsNothing, ShowsPair, Stays, own_value, value_answered}
use Rattle.papaya_core_store.specs.Store.{StoreState, Stored, pair_of}
use Rattle.papaya_core_timeline.specs.Timeline.{IsAnsweredIn}
use Rattle.papaya_core_timeline.proofs.CallersLemmas.{same_item}
use Rattle.papaya_core_timeline.proofs.EventLemmas.{event_shown}
use Rattle.papaya_core_timeline.proofs.StoreLemmas.{LogsOrNot, matched, of_logs, own_logs, part_logs}
use Rattle.papaya_core_store.proofs.Logs.{value_logged}
use Rattle.papaya_core_store.specs.Tables.{word_at}

-- the description by an event: a change was asked for, or a closure was called and returned; no
-- step begins a call or is a reply
abbrev pub Tells : Event → Ask → Answer → Type 0
Tells (events.Changed kind old new) ask answer = (at : At) × (from : ℕ) × (to : ℕ) × (ask ≡ Ask_exchange at from to)
Tells (events.Asked n agrees) ask answer = (ask ≡ ShowPair n) × (answer ≡ Yes agrees)
Tells (events.Shown shown kind) ask answer = (ask ≡ show shown) × (answer ≡ Op kind)
Tells (events.Moved kind) ask answer = Unit {0}
Tells events.Other ask answer = Unit {0}
Tells events.Begun ask answer = ⊥
Tells (events.Gave n) ask answer = ⊥
Tells (events.Replied reply) ask answer = ⊥

pub event_tells : (kind : Option StepKind) (ask : Ask) (answer : Answer) → Tells (call_event kind ask answer) ask answer
event_tells kind (Load at) answer = tt
event_tells kind (Ask_exchange at old new) answer = by_answer answer
  where
    by_kind : (kind : Option StepKind) → Tells (kind_event kind old new) (Ask_exchange at old new) Exchanged
    by_kind None = tt
    by_kind (Some kinds.Open) = tt
    by_kind (Some kinds.Claim) = (at, old, new, refl)
    by_kind (Some kinds.Replace) = (at, old, new, refl)
    by_kind (Some kinds.Bury) = (at, old, new, refl)
    by_kind (Some kinds.Link) = tt
    by_kind (Some kinds.Mark) = tt
    by_kind (Some kinds.Close) = tt
    by_kind (Some kinds.Place) = tt
    by_kind (Some kinds.Finish) = tt
    by_kind (Some kinds.Advance) = tt
    by_kind (Some kinds.Promote) = tt
    by_kind (Some kinds.Abort) = tt
    by_kind (Some kinds.Take) = tt

    by_answer : (answer : Answer) → Tells (answered_event kind old new answer) (Ask_exchange at old new) answer
    by_answer Exchanged = by_kind kind
    by_answer (Word_read word) = tt
    by_answer (Found_instead word) = tt
    by_answer (Yes same) = tt
    by_answer (Op op) = tt
    by_answer (Size slots limit) = tt
    by_answer (Made_number n) = tt
    by_answer Ok_done = tt
    by_answer (Was_refused refused) = tt
event_tells kind (SameKey n) answer = tt
event_tells kind ShowNone answer = by_answer answer
  where
    by_answer : (answer : Answer) → Tells (shown_event None answer) ShowNone answer
    by_answer (Op op) = (refl, refl)
    by_answer (Yes agrees) = tt
    by_answer Exchanged = tt
    by_answer (Word_read word) = tt
    by_answer (Found_instead word) = tt
    by_answer (Size slots limit) = tt
    by_answer (Made_number m) = tt
    by_answer Ok_done = tt
    by_answer (Was_refused refused) = tt
event_tells kind (ShowPair n) answer = by_answer answer
  where
    by_answer : (answer : Answer) → Tells (shown_event (Some n) answer) (ShowPair n) answer
    by_answer (Op op) = (refl, refl)
    by_answer (Yes agrees) = (refl, refl)
    by_answer Exchanged = tt
    by_answer (Word_read word) = tt
    by_answer (Found_instead word) = tt
    by_answer (Size slots limit) = tt
    by_answer (Made_number m) = tt
    by_answer Ok_done = tt
    by_answer (Was_refused refused) = tt
event_tells kind (LoadHint t x) answer = tt
event_tells kind (WriteHint t x hint) answer = tt
event_tells kind (SizeOf n) answer = tt
event_tells kind MakeKey answer = tt
event_tells kind MakeValue answer = tt
event_tells kind MakePair answer = tt
event_tells kind (MakePairOf n) answer = tt
event_tells kind (MakeTable slots limit chunks) answer = tt
event_tells kind (AddToShard by) answer = tt
event_tells kind (Ask_done reply) answer = tt

-- is the ask a call of a closure?
abbrev is_showing : Ask → Bool
is_showing ShowNone = true
is_showing (ShowPair n) = true
is_showing (Load at) = false
is_showing (Ask_exchange at old new) = false
is_showing (SameKey n) = false
is_showing (LoadHint t x) = false
is_showing (WriteHint t x hint) = false
is_showing (SizeOf n) = false
is_showing MakeKey = false
is_showing MakeValue = false
is_showing MakePair = false
is_showing (MakePairOf n) = false
is_showing (MakeTable slots limit chunks) = false
is_showing (AddToShard by) = false
is_showing (Ask_done reply) = false

is_show : (shown : Option ℕ) → is_showing (show shown) ≡ true
is_show None = refl
is_show (Some n) = refl

-- an event that is no call of a closure has no operation
unanswered : (V : Type 0) (e : Event) → ((shown : Option ℕ) (kind : OpKind) → e ≡ events.Shown shown kind → ⊥) → IsAnsweredIn {V = V} e None
unanswered V events.Begun none = refl
unanswered V (events.Changed kind old new) none = refl
unanswered V (events.Moved kind) none = refl
unanswered V (events.Asked n agrees) none = refl
unanswered V (events.Shown shown kind) none = absurd (none shown kind refl)
unanswered V events.Other none = refl
unanswered V (events.Gave n) none = refl
unanswered V (events.Replied reply) none = refl

-- an event of a closure call describes its argument and its result
asked : (e : Event) (ask : Ask) (answer : Answer) → Tells e ask answer → asks_closure e ≡ true → (is_showing ask ≡ true)
    × (((agrees : Bool) × (answer ≡ Yes agrees)) ⊎ ((op : OpKind) × (answer ≡ Op op)))
asked events.Begun ask answer told asks = absurd told
asked (events.Changed kind old new) ask answer told asks = absurd cc
asked (events.Moved kind) ask answer told asks = absurd cc
asked (events.Asked n agrees) ask answer told asks = (ap is_showing told.0, inl (agrees, told.1))
asked (events.Shown shown kind) ask answer told asks = (ap is_showing told.0 ∙ is_show shown, inr (kind, told.1))
asked events.Other ask answer told asks = absurd cc
asked (events.Gave n) ask answer told asks = absurd told
asked (events.Replied reply) ask answer told asks = absurd told

-- the result of a closure in a step, if it was called, and the value and the answers that the call
-- has after it
pub record IsAnswering {K V S A : Type 0} (says : Says K V A) (store : StoreState K V S) (r r' : Running K V A) (event : Event) : Type 0 where
  pub answered : Option (Operation V ℕ)
  pub fits : IsAnsweredIn event answered
  pub value : (op : Operation V ℕ) → answered ≡ Some op → r'.value ≡ value_answered op r.value
  pub left : (a' : A) → r'.answers ≡ Some a' → (a : A) × (r.answers ≡ Some a) × GivesIn says store event answered a a'
  pub gave : asks_closure event ≡ true → (a' : A) × (r'.answers ≡ Some a')

module _ {K V S A : Type 0} (says : Says K V A) (store : StoreState K V S) where
  -- if no closure is called, its answers stay
  unasked : (e : Event) (answered : Option (Operation V ℕ)) (a : A) → (asks_closure e ≡ true → ⊥) → GivesIn says store e answered a a
  unasked events.Begun answered a none = refl
  unasked (events.Changed kind old new) answered a none = refl
  unasked (events.Moved kind) answered a none = refl
  unasked (events.Asked n agrees) answered a none = absurd (none refl)
  unasked (events.Shown shown kind) answered a none = absurd (none refl)
  unasked events.Other answered a none = refl
  unasked (events.Gave n) answered a none = refl
  unasked (events.Replied reply) answered a none = refl

module _ {K V S A : Type 0} (eq : K → K → Bool) (says : Says K V A) (refuse : Bool) where
  module _ (kind : Option StepKind) (s : StoreState K V S) (r : Running K V A) (a : Answer) (s' : StoreState K V S) (r' : Running K V A) where
    -- no closure was called
    pub silent : (event : Event) → (asks_closure event ≡ true → ⊥) → r'.answers ≡ r.answers → IsAnswering says s' r r' event
    silent event none stays = record {
      answered = None;
      fits = unanswered V event (λ shown op is. none (ap asks_closure is));
      value = λ op e. let f : None ≡ Some op = e in absurd cc;
      left = λ a' had. (a', sym stays ∙ had, unasked says s' event None a' none);
      gave = λ asks. absurd (none asks);
    }

    -- the closure of a compute was
    decided : (shown : Option ℕ) (pair : Option (K × V)) → (s' ≡ s → IsEntryOf says s' shown pair) → Decides says pair s r a s' r'
        → IsAnswering says s' r r' (call_event kind (show shown) a)
    decided shown pair entry (x, op, y, has, gives, is, same, later) =
        let event_is : call_event kind (show shown) a ≡ events.Shown shown (op_kind op) = event_shown shown (op_kind op) kind (show shown) a refl is in
        let answers_are : r'.answers ≡ Some y = ap (λ (z : Running K V A). z.answers) later in
        record {
          answered = Some op;
          fits = subst (λ e. IsAnsweredIn e (Some op)) (sym event_is) (op, refl, refl);
          value = λ o e. let f : op ≡ o = cc in ap (λ (y : Running K V A). y.value) later ∙ ap (λ (o : Operation V ℕ). value_answered o r.value) f;
          left = λ a' had. (
            x,
            has,
            subst (λ e. GivesIn says s' e (Some op) x a') (sym event_is)
                (pair, op, entry same, refl, subst (λ (z : A). says.op x pair op z) (same_item y a' (sym answers_are ∙ had)) gives),
          );
          gave = λ asks. (y, answers_are);
        }

    -- the closure of a removal was
    judged : (n : ℕ) (x : A) (p : Stored K V) (agrees : Bool) (y : A) → r.answers ≡ Some x → pair_of s n ≡ Some p → says.yes x p.key p.value agrees y
        → a ≡ Yes agrees → s' ≡ s → r'.answers ≡ Some y → IsAnswering says s' r r' (call_event kind (ShowPair n) a)
    judged n x p agrees y has there gives is same answers_are =
        let event_is : call_event kind (ShowPair n) a ≡ events.Asked n agrees = ap (λ z. shown_event (Some n) z) is in
        record {
          answered = None;
          fits = subst (λ e. IsAnsweredIn {V = V} e None) (sym event_is) refl;
          value = λ op e. let f : None ≡ Some op = e in absurd cc;
          left = λ a' had. (
            x,
            has,
            subst (λ e. GivesIn says s' e None x a') (sym event_is) (
              p,
              ap (λ (z : StoreState K V S). pair_of z n) same
                  ∙ there,
              subst (λ (z : A). says.yes x p.key p.value agrees z) (same_item y a' (sym answers_are ∙ had)) gives,
            ),
          );
          gave = λ asks. (y, answers_are);
        }

    nothing : (ask : Ask) → ShowsNothing a s r s' r' → IsAnswering says s' r r' (call_event kind ask a)
    nothing ask (is, stays) = silent (call_event kind ask a) never (ap (λ (z : Running K V A). z.answers) stays.1)
      where
        never : asks_closure (call_event kind ask a) ≡ true → ⊥
        never asks = ⊎_elim
            (λ (y : (agrees : Bool) × (a ≡ Yes agrees)). let f : Ok_done ≡ Yes y.0 = sym is ∙ y.1 in cc)
            (λ (y : (op : OpKind) × (a ≡ Op op)). let f : Ok_done ≡ Op y.0 = sym is ∙ y.1 in cc)
            (asked (call_event kind ask a) ask a (event_tells kind ask a) asks).1

    not_shown : (ask : Ask) → is_showing ask ≡ false → r'.answers ≡ r.answers → IsAnswering says s' r r' (call_event kind ask a)
    not_shown ask unshown stays = silent (call_event kind ask a)
        (λ asks. let f : false ≡ true = sym unshown ∙ (asked (call_event kind ask a) ask a (event_tells kind ask a) asks).0 in cc) stays

    -- an ask that makes something leaves the answers
    as_was : r' ≡ r → r'.answers ≡ r.answers
    as_was same = ap (λ (z : Running K V A). z.answers) same

    logged_leaves : LogsOrNot s r a s' r' → r'.answers ≡ r.answers
    logged_leaves (inl (unlogged, stays)) = as_was stays.1
    logged_leaves (inr (key, left, (value, has, e, few, same, moved))) = ap (λ (y : Running K V A). y.answers) moved

    table_made : (slots limit chunks : ℕ) → Performs eq says refuse (MakeTable slots limit chunks) s r a s' r' → r'.answers ≡ r.answers
    table_made slots limit chunks h = matched (r'.answers ≡ r.answers) refuse _ _ h (λ _ none. as_was none.1.1) (λ _ makes. as_was makes.1)

    pub answering : (ask : Ask) → Performs eq says refuse ask s r a s' r' → IsAnswering says s' r r' (call_event kind ask a)
    answering ShowNone (inl (none, stays)) = nothing ShowNone stays
    answering ShowNone (inr decides) = decided None None (λ _. refl) decides
    answering (ShowPair n) h = by_task r.machine.call.task h
      where
        by_task : (task : Task) → ShowsPair task says n s r a s' r' → IsAnswering says s' r r' (call_event kind (ShowPair n) a)
        by_task tasks.RemoveIf (inl (none, stays)) = nothing (ShowPair n) stays
        by_task tasks.RemoveIf (inr (x, p, agrees, y, has, there, gives, is, same, later)) = judged n x p agrees y has there gives is same
            (ap (λ (z : Running K V A). z.answers) later)
        by_task tasks.Compute (inl (none, stays)) = nothing (ShowPair n) stays
        by_task tasks.Compute (inr (p, there, decides)) = decided (Some n) (Some (p.key, p.value))
            (λ same. (p, ap (λ (z : StoreState K V S). pair_of z n) same ∙ there, refl)) decides
        by_task tasks.Get stays = nothing (ShowPair n) stays
        by_task (tasks.Insert replace) stays = nothing (ShowPair n) stays
    answering (Load at) h = not_shown (Load at) refl (as_was h.1.1)
    answering (Ask_exchange at old new) h = not_shown (Ask_exchange at old new) refl (as_was h.1)
    answering (SameKey n) h = not_shown (SameKey n) refl (as_was h.1.1)
    answering (LoadHint t x) h = not_shown (LoadHint t x) refl (as_was h.1.1)
    answering (WriteHint t x hint) h = not_shown (WriteHint t x hint) refl (as_was h.2)
    answering (SizeOf n) h = not_shown (SizeOf n) refl (as_was h.1.1)
    answering MakeKey h = not_shown MakeKey refl (logged_leaves (part_logs s r a s' r' refuse h))
    answering MakeValue h = not_shown MakeValue refl (logged_leaves (part_logs s r a s' r' refuse h))
    answering MakePair h = not_shown MakePair refl (logged_leaves (own_logs s r a s' r' refuse h))
    answering (MakePairOf n) h = not_shown (MakePairOf n) refl (logged_leaves (of_logs s r a s' r' refuse n h))
    answering (MakeTable slots limit chunks) h = not_shown (MakeTable slots limit chunks) refl (table_made slots limit chunks h)
    answering (AddToShard by) (e, same, kept) = not_shown (AddToShard by) refl (as_was kept)
    answering (Ask_done reply) h = not_shown (Ask_done reply) refl (as_was h.1.1)

  module _ (s : StoreState K V S) (r : Running K V A) (a : Answer) (s' : StoreState K V S) (r' : Running K V A) where
    -- the value of the call is the one of before, or a closure returned
    abbrev pub SameValue : Type 0
    SameValue = ((v : V) → own_value s r ≡ Some v → own_value s' r' ≡ Some v)
        × (((part : Part V) → r.value ≡ Some part → (w : V) × (value_in s.pairs part ≡ Some w)) → (v : V) → own_value s' r' ≡ Some v → own_value s r ≡ Some v)

    abbrev pub AtHand : Ask → Type 0
    AtHand ask = SameValue ⊎ ((shown : Option ℕ) × (op : OpKind) × (ask ≡ show shown) × (a ≡ Op op))

    -- if the arena is the same, or longer
    kept : (ask : Ask) → s'.pairs ≡ s.pairs → r'.value ≡ r.value → AtHand ask
    kept ask log value = let same : own_value s' r' ≡ own_value s r = ap (λ l. value_at l r'.value) log ∙ ap (value_at s.pairs) value in
        inl (λ v h. same ∙ h, λ valued v h. sym same ∙ h)

    stayed : (ask : Ask) → Stays s r s' r' → AtHand ask
    stayed ask stays = kept ask (ap (λ (y : StoreState K V S). y.pairs) stays.0) (ap (λ (y : Running K V A). y.value) stays.1)

    made : (ask : Ask) → LogsOrNot s r a s' r' → AtHand ask
    made ask (inl (unlogged, stays)) = stayed ask stays
    made ask (inr (key, left, logs)) = inl (
      λ v h. value_logged s r s' r' key left a v h logs,
      λ valued v h.
          let (w, there) = valued logs.0 logs.1 in
          let before : own_value s r ≡ Some w = ap (value_at s.pairs) logs.1 ∙ there in
          before ∙ sym (value_logged s r s' r' key left a w before logs) ∙ h,
    )

    pub at_hand : (ask : Ask) → Performs eq says refuse ask s r a s' r' → AtHand ask
    at_hand (Load at) (e, stays) = stayed (Load at) stays
    at_hand (Ask_exchange at old new) (ex, as_was) =
        matched (AtHand (Ask_exchange at old new)) (word_at s.words at == old) _ _ ex
        (λ _ done. kept (Ask_exchange at old new) (ap (λ (y : StoreState K V S). y.pairs) done.1) (ap (λ (y : Running K V A). y.value) as_was))
        (λ _ lost. stayed (Ask_exchange at old new) (lost.1, as_was))
    at_hand (SameKey n) (e, stays) = stayed (SameKey n) stays
    at_hand ShowNone (inl (none, (e, stays))) = stayed ShowNone stays
    at_hand ShowNone (inr (x, op, y, has, gives, is, same, later)) = inr (None, op_kind op, refl, is)
    at_hand (ShowPair n) h = by_task r.machine.call.task h
      where
        by_task : (task : Task) → ShowsPair task says n s r a s' r' → AtHand (ShowPair n)
        by_task tasks.RemoveIf (inl (none, (e, stays))) = stayed (ShowPair n) stays
        by_task tasks.RemoveIf (inr (x, p, agrees, y, has, there, gives, answer_is, same, later)) = kept (ShowPair n)
            (ap (λ (y : StoreState K V S). y.pairs) same) (ap (λ (y : Running K V A). y.value) later)
        by_task tasks.Compute (inl (none, (e, stays))) = stayed (ShowPair n) stays
        by_task tasks.Compute (inr (p, there, (x, op, y, has, gives, answer_is, same, later))) = inr (Some n, op_kind op, refl, answer_is)
        by_task tasks.Get (e, stays) = stayed (ShowPair n) stays
        by_task (tasks.Insert replace) (e, stays) = stayed (ShowPair n) stays
    at_hand (LoadHint t x) (e, stays) = stayed (LoadHint t x) stays
    at_hand (WriteHint t x hint) (e, same, as_was) = kept (WriteHint t x hint) (ap (λ (y : StoreState K V S). y.pairs) same)
        (ap (λ (y : Running K V A). y.value) as_was)
    at_hand (SizeOf n) (e, stays) = stayed (SizeOf n) stays
    at_hand MakeKey h = made MakeKey (part_logs s r a s' r' refuse h)
    at_hand MakeValue h = made MakeValue (part_logs s r a s' r' refuse h)
    at_hand MakePair h = made MakePair (own_logs s r a s' r' refuse h)
    at_hand (MakePairOf n) h = made (MakePairOf n) (of_logs s r a s' r' refuse n h)
    at_hand (MakeTable slots limit chunks) h =
        matched (AtHand (MakeTable slots limit chunks)) refuse _ _ h
        (λ _ none. stayed (MakeTable slots limit chunks) none.1)
        (λ _ makes. kept (MakeTable slots limit chunks)
        (elim makes.0 [
          | inl refused ↦ ap (λ (y : StoreState K V S). y.pairs) refused.1
          | inr (is, few, same) ↦ ap
              (λ (y : StoreState K V S). y.pairs) same
        ]) (ap (λ (y : Running K V A). y.value) makes.1))
    at_hand (AddToShard by) (e, (number, same), as_was) = kept (AddToShard by) (ap (λ (y : StoreState K V S). y.pairs) same)
        (ap (λ (y : Running K V A). y.value) as_was)
    at_hand (Ask_done reply) (e, stays) = stayed (Ask_done reply) stays

module _ {K P : Type 0} (g : Setting K P) (c : Coding K P) (k : K) (s : State P) (kind : Option StepKind) (loaded : LoadedPairs P) where
  number_made : (q : P) (n : ℕ) → Made_number (c.number q) ≡ Made_number n → c.number q ≡ n
  number_made q n e = cc

  -- a pair that was made is the first of those recorded for the machine
  pub told_made : (ask : Ask) (a : Answer) (es : List (Exchange P)) (loaded' : LoadedPairs P) (n : ℕ) → MakesPair ask → a ≡ Made_number n
      → IsTrueOf g c k s kind loaded ask a es loaded' → (q : P) × (c.number q ≡ n) × (loaded'.made ≡ q ∷ loaded.made)
  told_made MakePair a es loaded' n makes is (inl (inl (why, e), quiet)) = let f = sym is ∙ e in absurd cc
  told_made MakePair a es loaded' n makes is (inl (inr e, quiet)) = let f = sym is ∙ e in absurd cc
  told_made MakePair a es loaded' n makes is (inr (q, own, (e, none, same))) = (q, number_made q n (sym e ∙ is), ap (λ (y : LoadedPairs P). y.made) same)
  told_made (MakePairOf m) a es loaded' n makes is (inl (inl (why, e), quiet)) = let f = sym is ∙ e in absurd cc
  told_made (MakePairOf m) a es loaded' n makes is (inl (inr e, quiet)) = let f = sym is ∙ e in absurd cc
  told_made (MakePairOf m) a es loaded' n makes is (inr (q, of, (e, none, same))) = (q, number_made q n (sym e ∙ is), ap (λ (y : LoadedPairs P). y.made) same)
  told_made ask a es loaded' n makes is told = absurd makes
