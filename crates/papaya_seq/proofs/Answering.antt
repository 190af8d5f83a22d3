-- The store's answers do not depend on the answers of closures: a call is made with answers of one
-- type, and proved with answers of another.
use Rattle.std.proofs.Common.{◌≡◌, ℕ, Bool, true, false, Option, None, Some, inl, inr, refl, sym, ◌∙◌, ap}
use Rattle.papaya_call.specs.Answers.{Says}
use Rattle.papaya_call.specs.declared.ask.Ask.{Ask as Call_ask}
use Rattle.papaya_call.specs.declared.ask.Ask.TheVariants.{Load, Exchange, LoadHint, WriteHint}
use Rattle.papaya_call.specs.declared.ask.Ask.TheVariants.{SameKey, ShowNone, ShowPair, SizeOf}
use Rattle.papaya_call.specs.declared.ask.Ask.TheVariants.{MakeKey, MakeValue, MakePair, MakePairOf}
use Rattle.papaya_call.specs.declared.ask.Ask.TheVariants.{MakeTable, AddToShard, Done as Ask_done}
use Rattle.papaya_call.specs.declared.ask.Answer.{Answer as Call_answer}
use Rattle.papaya_call.specs.declared.call.Task.{Task}
use Rattle.papaya_call.specs.declared.call.Task.TheVariants.{Get, Insert, RemoveIf, Compute}
use Rattle.papaya_call.specs.declared.chain.ask.Ask.{Ask}
use Rattle.papaya_call.specs.declared.chain.ask.Ask.TheVariants as asks
use Rattle.papaya_call.specs.declared.chain.ask.Answer.{Answer}
use Rattle.papaya_core_store.specs.Asks.{PerformsAsk}
use Rattle.papaya_core_store.specs.Performs.{Performs, ShowsPair}
use Rattle.papaya_core_store.specs.Store.{StoreState}
use Rattle.papaya_core_store.specs.declared.pairs.Running.{Running}
use Rattle.papaya_core_timeline.specs.Solo.{whatever}

-- the same call, with these answers of a closure
abbrev pub answering : {K V A B : Type 0} → Option B → Running K V A → Running K V B
answering o r = record { machine = r.machine; key = r.key; value = r.value; answers = o }

-- the ask calls a closure
abbrev pub IsShowing : Call_ask → Type 0
IsShowing ShowNone = Unit {0}
IsShowing (ShowPair n) = Unit {0}
IsShowing _ = ⊥

module _ {K V S A : Type 0} (eq : K → K → Bool) (says : Says K V A) (o : Option (Unit {0})) where
  -- if no closure is called, a closure's answers make no difference
  pub answering_call : (refuse : Bool) (ask : Call_ask) (store : StoreState K V S) (r : Running K V A) (answer : Call_answer)
      (store' : StoreState K V S) (later : Running K V A) → (IsShowing ask → ⊥) → Performs eq says refuse ask store r answer store' later
      → Performs eq whatever refuse ask store (answering o r) answer store' (answering o later) × (later.answers ≡ r.answers)
  answering_call refuse (Load at) store r answer store' later unshown (e, (same, stays)) = ((e, (same, ap (answering o) stays)), ap (λ q. q.answers) stays)
  answering_call refuse (Exchange at old new) store r answer store' later unshown (made, stays) = ((made, ap (answering o) stays), ap (λ q. q.answers) stays)
  answering_call refuse (WriteHint t x hint) store r answer store' later unshown
      (e, same, stays) = ((e, same, ap (answering o) stays), ap (λ q. q.answers) stays)
  answering_call refuse (SameKey n) store r answer store' later unshown (e, (same, stays)) = ((e, (same, ap (answering o) stays)), ap (λ q. q.answers) stays)
  answering_call refuse (LoadHint t x) store r answer store' later unshown (e, (same, stays)) = ((e, (same, ap (answering o) stays)), ap (λ q. q.answers) stays)
  answering_call refuse ShowNone store r answer store' later unshown performs = absurd (unshown tt)
  answering_call refuse (ShowPair n) store r answer store' later unshown performs = absurd (unshown tt)
  answering_call refuse (SizeOf n) store r answer store' later unshown (e, (same, stays)) = ((e, (same, ap (answering o) stays)), ap (λ q. q.answers) stays)
  answering_call true MakeKey store r answer store' later unshown (e, (same, stays)) = ((e, (same, ap (answering o) stays)), ap (λ q. q.answers) stays)
  answering_call true MakeValue store r answer store' later unshown (e, (same, stays)) = ((e, (same, ap (answering o) stays)), ap (λ q. q.answers) stays)
  answering_call true MakePair store r answer store' later unshown (e, (same, stays)) = ((e, (same, ap (answering o) stays)), ap (λ q. q.answers) stays)
  answering_call true (MakePairOf n) store r answer store' later unshown (e, (same, stays)) = ((e, (same, ap (answering o) stays)), ap (λ q. q.answers) stays)
  answering_call true (MakeTable slots limit chunks) store r answer store' later unshown
      (e, (same, stays)) = ((e, (same, ap (answering o) stays)), ap (λ q. q.answers) stays)
  answering_call false MakeKey store r answer store' later unshown (e, (same, stays)) = ((e, (same, ap (answering o) stays)), ap (λ q. q.answers) stays)
  answering_call false MakeValue store r answer store' later unshown (e, (same, stays)) = ((e, (same, ap (answering o) stays)), ap (λ q. q.answers) stays)
  answering_call false MakePair store r answer store' later unshown
      (inl (refused, (same, stays))) = (inl (refused, (same, ap (answering o) stays)), ap (λ q. q.answers) stays)
  answering_call false MakePair store r answer store' later unshown
      (inr (inl (has, (same, stays)))) = (inr (inl (has, (same, ap (answering o) stays))), ap (λ q. q.answers) stays)
  answering_call false MakePair store r answer store' later unshown
      (inr (inr (value, has, e, few, same, goes))) = (inr (inr (value, has, e, few, same, ap (answering o) goes)), ap (λ q. q.answers) goes)
  answering_call false (MakePairOf n) store r answer store' later unshown
      (inl (refused, (same, stays))) = (inl (refused, (same, ap (answering o) stays)), ap (λ q. q.answers) stays)
  answering_call false (MakePairOf n) store r answer store' later unshown
      (inr (inl (has, (same, stays)))) = (inr (inl (has, (same, ap (answering o) stays))), ap (λ q. q.answers) stays)
  answering_call false (MakePairOf n) store r answer store' later unshown
      (inr (inr (first, from, (value, has, e, few, same, goes)))) =
      (inr (inr (first, from, (value, has, e, few, same, ap (answering o) goes))), ap (λ q. q.answers) goes)
  answering_call false (MakeTable slots limit chunks) store r answer store' later unshown
      (made, stays) = ((made, ap (answering o) stays), ap (λ q. q.answers) stays)
  answering_call refuse (AddToShard by) store r answer store' later unshown (e, same, stays) = ((e, same, ap (answering o) stays), ap (λ q. q.answers) stays)
  answering_call refuse (Ask_done reply) store r answer store' later unshown
      (e, (same, stays)) = ((e, (same, ap (answering o) stays)), ap (λ q. q.answers) stays)

  -- for each ask
  pub answering_performs : (hash : S → K → ℕ) (refuse : Bool) (ask : Ask) (store : StoreState K V S) (r : Running K V A) (answer : Answer)
      (store' : StoreState K V S) (later : Running K V A) → ((own : Call_ask) → ask ≡ asks.Call own → IsShowing own → ⊥)
      → PerformsAsk eq says hash refuse ask store r answer store' later
      → PerformsAsk eq whatever hash refuse ask store (answering o r) answer store' (answering o later) × (later.answers ≡ r.answers)
  answering_performs hash refuse (asks.Call ask) store r answer store' later unshown (told, is, performs) = let same = answering_call refuse ask store
      r told store' later (unshown ask refl) performs in ((told, is, same.0), same.1)
  answering_performs hash refuse (asks.Copy ask) store r answer store' later unshown
      (performs, stays) = ((performs, ap (answering o) stays), ap (λ q. q.answers) stays)

module _ {K V S A : Type 0} (eq : K → K → Bool) (says : Says K V A) where
  -- without answers of a closure, an insertion calls no closure
  pub silent_call : (refuse replace : Bool) (ask : Call_ask) (store : StoreState K V S) (r : Running K V A) (answer : Call_answer)
      (store' : StoreState K V S) (later : Running K V A) → r.answers ≡ None → r.machine.call.task ≡ Insert replace
      → Performs eq says refuse ask store r answer store' later
      → Performs eq whatever refuse ask store (answering {B = Unit {0}} None r) answer store' (answering None later) × (later.answers ≡ r.answers)
  silent_call refuse replace ShowNone store r answer store' later silence task
      (inl (none, (e, (same, stays)))) = (inl (refl, (e, (same, ap (answering None) stays))), ap (λ q. q.answers) stays)
  silent_call refuse replace ShowNone store r answer store' later silence task (inr (a, op, a', has, said, e, same, goes)) = let f : None ≡ Some
      a = sym silence ∙ has in absurd cc
  silent_call refuse replace (ShowPair n) store r answer store' later silence task performs = shown r.machine.call.task task performs
    where
      shown : (t : Task) → t ≡ Insert replace → ShowsPair t says n store r answer store' later
          → ShowsPair t whatever n store (answering {B = Unit {0}} None r) answer store' (answering None later) × (later.answers ≡ r.answers)
      shown (Insert b) is (e, (same, stays)) = ((e, (same, ap (answering None) stays)), ap (λ q. q.answers) stays)
      shown Get is performs = absurd cc
      shown RemoveIf is performs = absurd cc
      shown Compute is performs = absurd cc
  silent_call refuse replace (Load at) store r answer store' later silence task performs = answering_call eq says None refuse (Load at) store r answer
      store' later (λ f. f) performs
  silent_call refuse replace (Exchange at old new) store r answer store' later silence task performs = answering_call eq says None refuse
      (Exchange at old new) store r answer store' later (λ f. f) performs
  silent_call refuse replace (SameKey n) store r answer store' later silence task performs = answering_call eq says None refuse (SameKey n) store r
      answer store' later (λ f. f) performs
  silent_call refuse replace (LoadHint t x) store r answer store' later silence task performs = answering_call eq says None refuse (LoadHint t x)
      store r answer store' later (λ f. f) performs
  silent_call refuse replace (WriteHint t x hint) store r answer store' later silence task performs = answering_call eq says None refuse
      (WriteHint t x hint) store r answer store' later (λ f. f) performs
  silent_call refuse replace (SizeOf n) store r answer store' later silence task performs = answering_call eq says None refuse (SizeOf n) store r
      answer store' later (λ f. f) performs
  silent_call refuse replace MakeKey store r answer store' later silence task performs = answering_call eq says None refuse MakeKey store r answer
      store' later (λ f. f) performs
  silent_call refuse replace MakeValue store r answer store' later silence task performs = answering_call eq says None refuse MakeValue store r answer
      store' later (λ f. f) performs
  silent_call refuse replace MakePair store r answer store' later silence task performs = answering_call eq says None refuse MakePair store r answer
      store' later (λ f. f) performs
  silent_call refuse replace (MakePairOf n) store r answer store' later silence task performs = answering_call eq says None refuse (MakePairOf n)
      store r answer store' later (λ f. f) performs
  silent_call refuse replace (MakeTable slots limit chunks) store r answer store' later silence task performs = answering_call eq says None refuse
      (MakeTable slots limit chunks) store r answer store' later (λ f. f) performs
  silent_call refuse replace (AddToShard by) store r answer store' later silence task performs = answering_call eq says None refuse (AddToShard by)
      store r answer store' later (λ f. f) performs
  silent_call refuse replace (Ask_done reply) store r answer store' later silence task performs = answering_call eq says None refuse (Ask_done reply)
      store r answer store' later (λ f. f) performs

  pub silent_performs : (hash : S → K → ℕ) (refuse replace : Bool) (ask : Ask) (store : StoreState K V S) (r : Running K V A) (answer : Answer)
      (store' : StoreState K V S) (later : Running K V A) → r.answers ≡ None → r.machine.call.task ≡ Insert replace
      → PerformsAsk eq says hash refuse ask store r answer store' later
      → PerformsAsk eq whatever hash refuse ask store (answering {B = Unit {0}} None r) answer store' (answering None later) × (later.answers ≡ r.answers)
  silent_performs hash refuse replace (asks.Call ask) store r answer store' later silence task (told, is, performs) = let same = silent_call refuse
      replace ask store r told store' later silence task performs in ((told, is, same.0), same.1)
  silent_performs hash refuse replace (asks.Copy ask) store r answer store' later silence task
      (performs, stays) = ((performs, ap (answering None) stays), ap (λ q. q.answers) stays)
