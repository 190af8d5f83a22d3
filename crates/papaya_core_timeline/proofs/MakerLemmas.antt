-- A call has the value that it is to make pairs of.
use Rattle.std.proofs.Common.{rules, ◌≡◌, ◌⊎◌, inl, inr, ℕ, Bool, Option, None, Some, refl, sym, ◌∙◌, ap, subst}
use Rattle.papaya_call.specs.declared.ask.Ask.{Ask as Call_ask}
use Rattle.papaya_call.specs.declared.ask.Ask.TheVariants.{Load, Exchange, LoadHint, WriteHint}
use Rattle.papaya_call.specs.declared.ask.Ask.TheVariants.{SameKey, ShowNone, ShowPair, SizeOf}
use Rattle.papaya_call.specs.declared.ask.Ask.TheVariants.{MakeKey, MakeValue, MakePair, MakePairOf}
use Rattle.papaya_call.specs.declared.ask.Ask.TheVariants.{MakeTable, AddToShard, Done as Ask_done}
use Rattle.papaya_call.specs.declared.ask.Answer.{Answer as Call_answer}
use Rattle.papaya_call.specs.declared.ask.Answer.TheVariants.{Op}
use Rattle.papaya_call.specs.declared.ask.OpKind.TheVariants as op_kinds
use Rattle.papaya_call.specs.declared.call.Task.{Task}
use Rattle.papaya_call.specs.declared.call.Task.TheVariants as tasks
use Rattle.papaya_call.specs.Answers.{Says, op_kind}
use Rattle.papaya_call.specs.declared.answers.Operation.{Operation}
use Rattle.papaya_call.specs.declared.answers.Operation.TheVariants as operations
use Rattle.papaya_call.specs.declared.machine.Machine.{Machine as Call_machine}
use Rattle.papaya_call.specs.Machine.{HasClosure, IsValidState, IsWriter}
use Rattle.papaya_call.specs.Machine as calls
use Rattle.papaya_call_law.specs.Says.{MakesPair}
use Rattle.papaya_core_store.specs.declared.pairs.Part.{Part}
use Rattle.papaya_core_store.specs.declared.pairs.Part.TheVariants.{Own}
use Rattle.papaya_core_store.specs.declared.pairs.Running.{Running}
use Rattle.papaya_core_store.specs.Performs.{Decides, Performs, ShowsPair, value_answered}
use Rattle.papaya_core_store.specs.Store.{StoreState}
use Rattle.papaya_core_timeline.specs.Ends.{IsThere, IsToPair}
use Rattle.papaya_core_timeline.proofs.StoreLemmas.{LogsOrNot, matched, of_logs, own_logs, part_logs}

-- one that makes a pair is an insertion, or is to make it
pub makes_for : (m : Call_machine) → IsValidState m.task m.state → MakesPair (calls.ask_of m) → IsWriter m.task ⊎ IsToPair m
makes_for m stands makes = search rules

-- only a call with a closure calls one, and only a compute calls it with `None`
pub shows_closure : (m : Call_machine) → IsValidState m.task m.state → (n : ℕ) → calls.ask_of m ≡ ShowPair n → HasClosure m.task
shows_closure m stands n e = search rules

pub shows_none : (m : Call_machine) → IsValidState m.task m.state → calls.ask_of m ≡ ShowNone → HasClosure m.task
shows_none m stands e = search rules

-- an operation that is an insertion
insertion : {V : Type 0} (op : Operation V ℕ) → op_kind op ≡ op_kinds.Insert → (before : Option (Part V)) → IsThere (value_answered op before)
insertion (operations.Insert v) e before = (Own v, refl)
insertion operations.Remove e before = absurd cc
insertion (operations.Abort t) e before = absurd cc

-- and any other leaves the value
answered_stays : {V : Type 0} (op : Operation V ℕ) (before : Option (Part V)) → IsThere before → IsThere (value_answered op before)
answered_stays (operations.Insert v) before there = (Own v, refl)
answered_stays operations.Remove before there = there
answered_stays (operations.Abort t) before there = there

module _ {K V S A : Type 0} (eq : K → K → Bool) (says : Says K V A) (refuse : Bool) (s : StoreState K V S) (r : Running K V A) (told : Call_answer)
    (s' : StoreState K V S) (r' : Running K V A) where
  same_value : r'.value ≡ r.value → IsThere r.value → IsThere r'.value
  same_value same there = subst IsThere (sym same) there

  same_call : r' ≡ r → IsThere r.value → IsThere r'.value
  same_call same there = same_value (ap (λ (y : Running K V A). y.value) same) there

  made_value : LogsOrNot s r told s' r' → IsThere r.value → IsThere r'.value
  made_value (inl (unlogged, stays)) there = same_call stays.1 there
  made_value (inr (key, left, (value, has, e, few, same, moved))) there = (_, ap (λ (y : Running K V A). y.value) moved)

  decided_value : (shown : Option (K × V)) → Decides says shown s r told s' r' → IsThere r.value → IsThere r'.value
  decided_value shown (a, op, a', has, gives, is, same, later) there = subst IsThere (sym (ap (λ (y : Running K V A). y.value) later))
      (answered_stays op r.value there)

  -- the value of a call stays there
  pub value_there : (ask : Call_ask) → Performs eq says refuse ask s r told s' r' → IsThere r.value → IsThere r'.value
  value_there (Load at) (e, stays) there = same_call stays.1 there
  value_there (Exchange at old new) (ex, as_was) there = same_call as_was there
  value_there (LoadHint t x) (e, stays) there = same_call stays.1 there
  value_there (WriteHint t x hint) (e, same, as_was) there = same_call as_was there
  value_there (SameKey n) (e, stays) there = same_call stays.1 there
  value_there ShowNone (inl (none, (e, stays))) there = same_call stays.1 there
  value_there ShowNone (inr decides) there = decided_value None decides there
  value_there (ShowPair n) h there = by_task r.machine.call.task h
    where
      by_task : (task : Task) → ShowsPair task says n s r told s' r' → IsThere r'.value
      by_task tasks.Get (e, stays) = same_call stays.1 there
      by_task (tasks.Insert replace) (e, stays) = same_call stays.1 there
      by_task tasks.RemoveIf (inl (none, (e, stays))) = same_call stays.1 there
      by_task tasks.RemoveIf (inr (x, p, agrees, y, has, is_there, gives, is, same, later)) = same_value (ap (λ (z : Running K V A). z.value) later) there
      by_task tasks.Compute (inl (none, (e, stays))) = same_call stays.1 there
      by_task tasks.Compute (inr (p, is_there, decides)) = decided_value (Some (p.key, p.value)) decides there
  value_there (SizeOf n) (e, stays) there = same_call stays.1 there
  value_there MakeKey h there = made_value (part_logs s r told s' r' refuse h) there
  value_there MakeValue h there = made_value (part_logs s r told s' r' refuse h) there
  value_there MakePair h there = made_value (own_logs s r told s' r' refuse h) there
  value_there (MakePairOf n) h there = made_value (of_logs s r told s' r' refuse n h) there
  value_there (MakeTable slots limit chunks) h there = matched (IsThere r'.value) refuse _ _ h (λ _ none. same_call none.1.1 there)
      (λ _ makes. same_call makes.1 there)
  value_there (AddToShard by) (e, same, as_was) there = same_call as_was there
  value_there (Ask_done reply) (e, stays) there = same_call stays.1 there

  by_decision : (shown : Option (K × V)) → Decides says shown s r told s' r' → told ≡ Op op_kinds.Insert → IsThere r'.value
  by_decision shown (a, op, a', has, gives, is, same, later) e =
      let kind : op_kind op ≡ op_kinds.Insert = (let f : Op (op_kind op) ≡ Op op_kinds.Insert = sym is ∙ e in cc) in
      subst IsThere (sym (ap (λ (y : Running K V A). y.value) later)) (insertion op kind r.value)

  -- and if a closure returns a value, it is there
  pub answered_there : (ask : Call_ask) → Performs eq says refuse ask s r told s' r' → told ≡ Op op_kinds.Insert → (ask ≡ ShowNone)
      ⊎ ((n : ℕ) × (ask ≡ ShowPair n) × (r.machine.call.task ≡ tasks.Compute)) → IsThere r'.value
  answered_there ask h e (inl none) = of_none (subst (λ y. Performs eq says refuse y s r told s' r') none h)
    where
      of_none : Performs eq says refuse ShowNone s r told s' r' → IsThere r'.value
      of_none (inl (none, (is, stays))) = let f = sym is ∙ e in absurd cc
      of_none (inr decides) = by_decision None decides e
  answered_there ask h e (inr (n, pair, computes)) = of_pair
      (subst (λ task. ShowsPair task says n s r told s' r') computes (subst (λ y. Performs eq says refuse y s r told s' r') pair h))
    where
      of_pair : ShowsPair tasks.Compute says n s r told s' r' → IsThere r'.value
      of_pair (inl (none, (is, stays))) = let f = sym is ∙ e in absurd cc
      of_pair (inr (p, there, decides)) = by_decision (Some (p.key, p.value)) decides e
