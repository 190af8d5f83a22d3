-- A call with a closure has its answers as long as it is under way.
use Rattle.std.proofs.Common.{◌≡◌, ℕ, Bool, true, false, Option, None, Some, inl, inr, refl, sym, ◌∙◌, ap, subst}
use Rattle.papaya_call.specs.Answers.{Says}
use Rattle.papaya_call.specs.declared.ask.Ask.{Ask as Call_ask}
use Rattle.papaya_call.specs.declared.ask.Ask.TheVariants.{Load, Exchange, SameKey, ShowNone}
use Rattle.papaya_call.specs.declared.ask.Ask.TheVariants.{ShowPair, SizeOf, MakeKey, MakeValue}
use Rattle.papaya_call.specs.declared.ask.Ask.TheVariants.{MakePair, MakePairOf, MakeTable}
use Rattle.papaya_call.specs.declared.ask.Ask.TheVariants.{AddToShard, Done as Ask_done, LoadHint}
use Rattle.papaya_call.specs.declared.ask.Ask.TheVariants.{WriteHint}
use Rattle.papaya_call.specs.declared.ask.Answer.{Answer as Call_answer}
use Rattle.papaya_call.specs.declared.call.Call.{Call}
use Rattle.papaya_call.specs.declared.call.Call.TheVariants.{Get, Insert, TryInsert, RemoveIf, Compute, Reserve, CopyAll, Clear, Retain, Walk}
use Rattle.papaya_call.specs.declared.call.Task.{Task}
use Rattle.papaya_call.specs.declared.call.Task.TheVariants as tasks
use Rattle.papaya_core_timeline.proofs.CallersLemmas.{same_item}
use Rattle.papaya_call.specs.Machine.{HasClosure}
use Rattle.papaya_call.specs.declared.chain.ask.Ask.{Ask}
use Rattle.papaya_call.specs.declared.chain.ask.Ask.TheVariants as asks
use Rattle.papaya_call.specs.declared.chain.ask.Answer.{Answer}
use Rattle.papaya_core_store.specs.declared.pairs.Running.{Running}
use Rattle.papaya_core_timeline.specs.Begins.{answers_of_call, task_of_call}
use Rattle.papaya_core_store.specs.Asks.{PerformsAsk}
use Rattle.papaya_core_store.specs.Performs.{Performs}
use Rattle.papaya_core_store.specs.Store.{StoreState}
use Rattle.papaya_core_timeline.proofs.ShowLemmas.{IsShowing, none_shown, pair_shown}
use Rattle.papaya_core_timeline.proofs.StoreLemmas.{LogsOrNot, matched, of_logs, own_logs, part_logs}

-- the answers of the closure are there
abbrev pub HasAnswers : {A : Type 0} → Option A → Type 0
HasAnswers {A = A} answers = (a : A) × (answers ≡ Some a)

module _ {K V A : Type 0} where
  -- it begins with them
  pub begun_answers : (call : Call K V A) (task : Task) → task_of_call call ≡ Some task → HasClosure task → HasAnswers (answers_of_call call)
  begun_answers (Get k) task is asks = absurd (subst HasClosure (sym (same_item tasks.Get task is)) asks)
  begun_answers (Insert k v) task is asks = absurd (subst HasClosure (sym (same_item (tasks.Insert true) task is)) asks)
  begun_answers (TryInsert k v) task is asks = absurd (subst HasClosure (sym (same_item (tasks.Insert false) task is)) asks)
  begun_answers (RemoveIf k a) task is asks = (a, refl)
  begun_answers (Compute k a) task is asks = (a, refl)
  begun_answers (Reserve more) task is asks = let f : None ≡ Some task = is in absurd cc
  begun_answers CopyAll task is asks = let f : None ≡ Some task = is in absurd cc
  begun_answers Clear task is asks = let f : None ≡ Some task = is in absurd cc
  begun_answers (Retain a) task is asks = let f : None ≡ Some task = is in absurd cc
  begun_answers Walk task is asks = let f : None ≡ Some task = is in absurd cc

  -- a call that stays keeps them
  same_call : (r r' : Running K V A) → HasAnswers r.answers → r' ≡ r → HasAnswers r'.answers
  same_call r r' has e = (has.0, ap (λ (y : Running K V A). y.answers) e ∙ has.1)

module _ {K V S A : Type 0} where
  -- a closure that was called has answers left
  shown_answers : {Computes : Type 0} (s : StoreState K V S) (r : Running K V A) (a : Call_answer) (s' : StoreState K V S) (r' : Running K V A)
      → IsShowing Computes s r a s' r' → HasAnswers r.answers → HasAnswers r'.answers
  shown_answers s r a s' r' shown has = elim shown.call
      [ inl same ↦ same_call r r' has same | inr (v, x, later, of) ↦ (x, ap (λ (y : Running K V A). y.answers) later) ]

  -- a call for which a pair was stored in the arena keeps them
  logged_keeps : (s : StoreState K V S) (r : Running K V A) (a : Call_answer) (s' : StoreState K V S) (r' : Running K V A) → HasAnswers r.answers
      → LogsOrNot s r a s' r' → HasAnswers r'.answers
  logged_keeps s r a s' r' has (inl (unlogged, stays)) = same_call r r' has stays.1
  logged_keeps s r a s' r' has (inr (key, left, (value, was, is, few, grown, moved))) = (has.0, ap (λ (y : Running K V A). y.answers) moved ∙ has.1)

module _ {K V S A : Type 0} (eq : K → K → Bool) (says : Says K V A) where
  -- for each ask of the call itself
  pub answers_performed : (refuse : Bool) (ask : Call_ask) (s : StoreState K V S) (r : Running K V A) (a : Call_answer) (s' : StoreState K V S)
      (r' : Running K V A) → Performs eq says refuse ask s r a s' r' → HasAnswers r.answers → HasAnswers r'.answers
  answers_performed refuse (Load at) s r a s' r' h has = same_call r r' has h.1.1
  answers_performed refuse (Exchange at old new) s r a s' r' h has = same_call r r' has h.1
  answers_performed refuse (SameKey n) s r a s' r' h has = same_call r r' has h.1.1
  answers_performed refuse ShowNone s r a s' r' h has = shown_answers s r a s' r' (none_shown says s r a s' r' h) has
  answers_performed refuse (ShowPair n) s r a s' r' h has = shown_answers s r a s' r' (pair_shown says r.machine.call.task n s r a s' r' h) has
  answers_performed refuse (LoadHint t x) s r a s' r' h has = same_call r r' has h.1.1
  answers_performed refuse (WriteHint t x hint) s r a s' r' h has = same_call r r' has h.2
  answers_performed refuse (SizeOf n) s r a s' r' h has = same_call r r' has h.1.1
  answers_performed refuse MakeKey s r a s' r' h has = logged_keeps s r a s' r' has (part_logs s r a s' r' refuse h)
  answers_performed refuse MakeValue s r a s' r' h has = logged_keeps s r a s' r' has (part_logs s r a s' r' refuse h)
  answers_performed refuse MakePair s r a s' r' h has = logged_keeps s r a s' r' has (own_logs s r a s' r' refuse h)
  answers_performed refuse (MakePairOf n) s r a s' r' h has = logged_keeps s r a s' r' has (of_logs s r a s' r' refuse n h)
  answers_performed refuse (MakeTable slots limit chunks) s r a s' r' h has = matched (HasAnswers r'.answers) refuse _ _ h
      (λ _ none. same_call r r' has none.1.1) (λ _ makes. same_call r r' has makes.1)
  answers_performed refuse (AddToShard by) s r a s' r' h has = same_call r r' has h.2
  answers_performed refuse (Ask_done reply) s r a s' r' h has = same_call r r' has h.1.1

module _ {K V S A : Type 0} (eq : K → K → Bool) (says : Says K V A) (hash : S → K → ℕ) where
  -- and for each ask of its copy
  pub answers_asked : (refuse : Bool) (ask : Ask) (s : StoreState K V S) (r : Running K V A) (a : Answer) (s' : StoreState K V S) (r' : Running K V A)
      → PerformsAsk eq says hash refuse ask s r a s' r' → HasAnswers r.answers → HasAnswers r'.answers
  answers_asked refuse (asks.Call ask) s r a s' r' (told, is, h) has = answers_performed eq says refuse ask s r told s' r' h has
  answers_asked refuse (asks.Copy ask) s r a s' r' (h, same) has = same_call r r' has same
