-- A result on which a machine acts after a step was returned by its closure during the call: before
-- the step, or in it.
use Rattle.std.proofs.Common.{rules, ◌≡◌, ◌⊎◌, inl, inr, ⊎_elim, ℕ, Bool, true, Option, None, Some, ◌∷◌, refl, sym, ◌∙◌, ap, subst}
use Rattle.papaya_call.specs.Answers.{Says, op_kind}
use Rattle.papaya_call.specs.declared.answers.Operation.{Operation}
use Rattle.papaya_call.specs.declared.answers.Operation.TheVariants as ops
use Rattle.papaya_call.specs.declared.ask.Answer.TheVariants.{Op, Made as Made_number}
use Rattle.papaya_call.specs.declared.ask.OpKind.{OpKind}
use Rattle.papaya_call.specs.declared.ask.OpKind.TheVariants as kinds
use Rattle.papaya_call.specs.declared.call.Call.{Call}
use Rattle.papaya_call.specs.declared.call.Call.TheVariants.{Get, Insert, TryInsert, RemoveIf, Compute, Reserve, CopyAll, Clear, Retain, Walk}
use Rattle.papaya_call.specs.declared.machine.Machine.{Machine as Call_machine}
use Rattle.papaya_call.specs.Machine as calls
use Rattle.papaya_call.specs.declared.chain.ask.Ask.TheVariants as asks
use Rattle.papaya_call.specs.declared.chain.ask.Answer.{Answer}
use Rattle.papaya_call.specs.declared.chain.ask.Answer.TheVariants as given
use Rattle.papaya_call.specs.declared.chain.machine.Machine.{Machine}
use Rattle.papaya_call.specs.ChainMachine.{ask_of, kind_of_ask, after}
use Rattle.papaya_call_law.specs.Says.{Agrees, Inserts, IsAnswered, IsResultBy, IsResultChange, Makes, MakesPair, Removes, ClosureResult, NamesPairs, ActsOn, show}
use Rattle.papaya_call_law.specs.Goes.{IsOwnStep}
use Rattle.papaya_core_store.specs.declared.pairs.Running.{Running}
use Rattle.papaya_core_timeline.specs.declared.trace.Event.{Event}
use Rattle.papaya_core_timeline.specs.Advances.{event_of}
use Rattle.papaya_core_timeline.proofs.Begun.{the_task}
use Rattle.papaya_core_store.specs.Asks.{PerformsAsk}
use Rattle.papaya_core_store.specs.Performs.{own_value, value_answered}
use Rattle.papaya_core_timeline.specs.Runs.{History}
use Rattle.papaya_core_store.specs.Store.{KeepsPairs, StoreState, Stored, pair_of}
use Rattle.papaya_core_timeline.specs.Timeline.{Answered, IsAgreed, IsAnsweredIn, WasAnswered, number_in}
use Rattle.papaya_core_timeline.proofs.ChainLemmas.{asks_own, own_asks}
use Rattle.papaya_core_timeline.proofs.Good.{WasReturned}
use Rattle.papaya_core_timeline.proofs.StepEvents.{event_shown, step_asked, step_answered}
use Rattle.papaya_core_timeline.proofs.StepTells.{at_hand}
use Rattle.papaya_core_timeline.proofs.TellLemmas.{IsAnswering}
use Rattle.papaya_core_timeline.proofs.TimelineLemmas.{entry}
use Rattle.papaya_core_store.specs.Pairs.{value_at}
use Rattle.papaya_core_timeline.proofs.MadePairs.{MakesOver}
use Rattle.papaya_core_timeline.proofs.MadeStands.{made_stands}

-- If a call acts on a pair that it has just made, it acted before the step on a returned value
-- without a pair, on this same pair, or on an earlier pair for the same argument of its closure.
pub made_said : (m : Machine) (answer : Answer) (own : IsOwnStep m answer) (shown : Option ℕ) (n : ℕ) → MakesPair (calls.ask_of m.call)
    → own.told ≡ Made_number n → NamesPairs m.call → ActsOn (after m answer).call (Makes shown n)
    → ActsOn m.call (Inserts shown) ⊎ ActsOn m.call (Makes shown n)
    ⊎ ((i : ℕ) × (before : ℕ) × (shown ≡ Some i) × ActsOn m.call (Makes (Some i) before) × (IsAnswered m.call.state → ⊥))
made_said m answer own shown n makes told shows stands =
    made_stands m.call shown n makes shows (subst (λ y. ActsOn (calls.after m.call y) (Makes shown n)) told
    (subst (λ d. ActsOn d (Makes shown n)) own.call stands))

-- a call that has a returned value to store does not call its closure
stands_once : (m : Call_machine) (shown other : Option ℕ) → ActsOn m (Inserts shown) → calls.ask_of m ≡ show other → ⊥
stands_once m shown other stands e = search rules

pub one_value : (m : Machine) (shown other : Option ℕ) → ActsOn m.call (Inserts shown) → ask_of m ≡ asks.Call (show other) → ⊥
one_value m shown other stands e = stands_once m.call shown other stands (own_asks m (show other) e).1

-- an operation of a kind that has no value
pub removing : {V : Type 0} (op : Operation V ℕ) → op_kind op ≡ kinds.Remove → op ≡ ops.Remove
removing ops.Remove e = refl
removing (ops.Insert v) e = absurd cc
removing (ops.Abort t) e = absurd cc

-- and of the one that has
pub inserting : {V : Type 0} (op : Operation V ℕ) → op_kind op ≡ kinds.Insert → (v : V) × (op ≡ ops.Insert v)
inserting (ops.Insert v) e = (v, refl)
inserting ops.Remove e = absurd cc
inserting (ops.Abort t) e = absurd cc

module _ {K V S A : Type 0} (eq : K → K → Bool) (says : Says K V A) (hash : S → K → ℕ) (refuse : Bool) (s : StoreState K V S) (r : Running K V A)
    (a : Answer) (s' : StoreState K V S) (r' : Running K V A) where
  -- A step of the call r, which answers the ask of its machine; a pair that it makes has the value
  -- of the call.
  module _ (performs : PerformsAsk eq says hash refuse (ask_of r.machine) s r a s' r') (stay : KeepsPairs s s')
      (made : (n : ℕ) → MakesOver (ask_of r.machine) → a ≡ given.Call (Made_number n) → (q : Stored K V) × (pair_of s' n ≡ Some q)
      × (own_value s r ≡ Some q.value))
      (again : (i n : ℕ) → ActsOn r.machine.call (Makes (Some i) n) → IsAnswered r.machine.call.state
      ⊎ ((p : Stored K V) × (pair_of s n ≡ Some p) × (own_value s r ≡ Some p.value))) (shows : NamesPairs r.machine.call) where
    module _ (turn c : ℕ) (event : Event) (is : event ≡ event_of (kind_of_ask r.machine) (ask_of r.machine) a) (h : History) (answers : Answered V)
        (answering : IsAnswering says s' r r' event) where
      abbrev o : Option (Operation V ℕ)
      o = answering.answered

      -- the call after the step
      abbrev later : Running K V A
      later = record r' { machine = after r.machine a }

      -- a result that was returned before stays in the history
      answered_still : (shown : Option ℕ) (op : Operation V ℕ) → WasAnswered c shown op h answers
          → WasAnswered c shown op (entry turn c event ∷ h) (o ∷ answers)
      answered_still shown op was = step_answered c turn shown op (kind_of_ask r.machine) (ask_of r.machine) a event h o answers is (inl was)

      -- the result of the closure in this step
      operation : (shown : Option ℕ) (kind : OpKind) → ask_of r.machine ≡ asks.Call (show shown) → a ≡ given.Call (Op kind) → (op : Operation V ℕ)
          × (o ≡ Some op) × (op_kind op ≡ kind)
      operation shown kind asks said = subst (λ e. IsAnsweredIn e o)
          (is ∙ event_shown shown kind (kind_of_ask r.machine) (ask_of r.machine) a asks said) answering.fits

      answered_now : (shown : Option ℕ) (op : Operation V ℕ) → ask_of r.machine ≡ asks.Call (show shown) → a ≡ given.Call (Op (op_kind op))
          → o ≡ Some op → WasAnswered c shown op (entry turn c event ∷ h) (o ∷ answers)
      answered_now shown op asks said now = step_answered c turn shown op (kind_of_ask r.machine) (ask_of r.machine) a event h o answers is
          (inr (asks, said, now))

      -- a result that was returned before, and on which the call still acts
      still_said : (said : ClosureResult) → ActsOn r.machine.call said → ActsOn (after r.machine a).call said → WasReturned s r c h answers said
          → WasReturned s' later c (entry turn c event ∷ h) (o ∷ answers) said
      still_said (Agrees n agrees) before stands was = step_asked c turn n agrees (kind_of_ask r.machine) (ask_of r.machine) a event h is (inl was)
      still_said (Inserts shown) before stands (v, has, was) = (v, value, answered_still shown (ops.Insert v) was)
        where
          value : own_value s' later ≡ Some v
          value = ⊎_elim (λ kept. kept.0 v has) (λ showing. absurd (one_value r.machine shown showing.0 before showing.2))
              (at_hand eq says hash refuse s r a s' r' (ask_of r.machine) performs)
      still_said (Makes shown n) before stands (q, there, was) = (q, stay n q there, answered_still shown (ops.Insert q.value) was)
      still_said (Removes n) before stands was = answered_still (Some n) ops.Remove was

      -- a result that was returned in this step
      now_said : (said : ClosureResult) (own : IsOwnStep r.machine a) → IsResultBy r.machine.call own.told said → ActsOn (after r.machine a).call said
          → ((said : ClosureResult) → ActsOn r.machine.call said → WasReturned s r c h answers said) → WasReturned s' later c (entry turn c event ∷ h) (o ∷ answers) said
      now_said (Agrees n agrees) own (asking, answer) stands before = step_asked c turn n agrees (kind_of_ask r.machine) (ask_of r.machine) a event h
          is (inr (asks_own r.machine own.phase ∙ ap asks.Call asking, own.is ∙ ap given.Call answer))
      now_said (Inserts shown) own (asking, answer) stands before =
          let asking' : ask_of r.machine ≡ asks.Call (show shown) = asks_own r.machine own.phase ∙ ap asks.Call asking in
          let answer' : a ≡ given.Call (Op kinds.Insert) = own.is ∙ ap given.Call answer in
          let (op, now, kind) = operation shown kinds.Insert asking' answer' in
          let (v, inserts) = inserting op kind in
          let value : own_value s' later ≡ Some v = ap (value_at s'.pairs) (answering.value op now ∙ ap (λ y. value_answered y r.value) inserts) in
          (v, value, answered_now shown (ops.Insert v) asking' answer' (now ∙ ap (λ y. Some y) inserts))
      now_said (Makes shown n) own (was_said, makes, answer) stands before =
          let (q, there, of) = made n (subst MakesOver (sym (asks_own r.machine own.phase)) makes) (own.is ∙ ap given.Call answer) in
          elim (made_said r.machine a own shown n makes answer shows stands) [
            | inl inserts ↦
                let (v, has, was) = before (Inserts shown) inserts in
                let same : v ≡ q.value = cc in
                (q, there, answered_still shown (ops.Insert q.value) (subst (λ y. WasAnswered c shown (ops.Insert y) h answers) same was))
            | inr others ↦ elim others [
              | inl stood ↦ still_said (Makes shown n) stood stands (before (Makes shown n) stood)
              | inr (i, m, is_shown, stood, newest) ↦
                  let (p, logged, was) = before (Makes (Some i) m) stood in
                  elim (again i m stood) [
                    | inl waits ↦ absurd (newest waits)
                    | inr (p', logged', value) ↦
                        let same : p.value ≡ q.value = cc (logged, logged', value, of) in (
                          q,
                          there,
                          answered_still shown (ops.Insert q.value)
                              (subst (λ y. WasAnswered c y (ops.Insert q.value) h answers) (sym is_shown)
                              (subst (λ y. WasAnswered c (Some i) (ops.Insert y) h answers) same was)),
                        )
                  ]
            ]
          ]
      now_said (Removes n) own (asking, answer) stands before =
          let asking' : ask_of r.machine ≡ asks.Call (show (Some n)) = asks_own r.machine own.phase ∙ ap asks.Call asking in
          let answer' : a ≡ given.Call (Op kinds.Remove) = own.is ∙ ap given.Call answer in
          let (op, now, kind) = operation (Some n) kinds.Remove asking' answer' in
          answered_now (Some n) ops.Remove asking' answer' (now ∙ ap (λ y. Some y) (removing op kind))

      -- either case: the machine acts on a result on which it acted before, or on one that was
      -- returned in this step
      pub said_after : ((said : ClosureResult) → ActsOn (after r.machine a).call said → ActsOn r.machine.call said
          ⊎ ((own : IsOwnStep r.machine a) × IsResultBy r.machine.call own.told said))
          → ((said : ClosureResult) → ActsOn r.machine.call said → WasReturned s r c h answers said) → (said : ClosureResult) → ActsOn (after r.machine a).call said
          → WasReturned s' later c (entry turn c event ∷ h) (o ∷ answers) said
      said_after goes before said stands =
          ⊎_elim
          (λ was. still_said said was stands (before said was))
          (λ (by : (own : IsOwnStep r.machine a) × IsResultBy r.machine.call own.told said). now_said said by.0 by.1 stands before)
          (goes said stands)

module _ {K V S A : Type 0} where
  -- A change is one to which the closure of the call has agreed, if the call has one.
  pub change_agreed : (call : Call K V A) (s : StoreState K V S) (r : Running K V A) (c : ℕ) (h : History) (answers : Answered V)
      → ((said : ClosureResult) → ActsOn r.machine.call said → WasReturned s r c h answers said) → (old : Option ℕ) (came : Option (Stored K V))
      → ((q : Stored K V) → came ≡ Some q → pair_of s q.number ≡ Some q) → IsResultChange (the_task call) r.machine.call old (number_in came)
      → IsAgreed (Some call) c old came h answers
  change_agreed (Get j) s r c h answers before old came logged said = tt
  change_agreed (Insert j v) s r c h answers before old came logged said = tt
  change_agreed (TryInsert j v) s r c h answers before old came logged said = tt
  change_agreed (RemoveIf j x) s r c h answers before (Some n) None logged said = before (Agrees n true) said
  change_agreed (RemoveIf j x) s r c h answers before (Some n) (Some q) logged said = absurd said
  change_agreed (RemoveIf j x) s r c h answers before None came logged said = absurd said
  change_agreed (Compute j x) s r c h answers before old (Some q) logged said =
      let (made, there, was) = before (Makes old q.number) said in
      let same : made ≡ q = (let f : Some made ≡ Some q = sym there ∙ logged q refl in cc) in
      subst (λ (y : Stored K V). WasAnswered c old (ops.Insert y.value) h answers) same was
  change_agreed (Compute j x) s r c h answers before (Some n) None logged said = before (Removes n) said
  change_agreed (Compute j x) s r c h answers before None None logged said = absurd said
  change_agreed (Reserve more) s r c h answers before old came logged said = tt
  change_agreed CopyAll s r c h answers before old came logged said = tt
  change_agreed Clear s r c h answers before old came logged said = tt
  change_agreed (Retain a) s r c h answers before None came logged said = absurd said
  change_agreed (Retain a) s r c h answers before (Some n) came logged said = absurd said
  change_agreed Walk s r c h answers before old came logged said = tt
