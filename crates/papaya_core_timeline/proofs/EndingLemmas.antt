-- Calls that their closure ends: by an abort, or by a removal when it was called with None.
use Rattle.std.proofs.Common.{◌≡◌, inl, inr, ⊎_elim, ℕ, ◌==◌, Bool, Option, None, Some, List, ◌∷◌, sym, ◌∙◌, ap}
use Rattle.papaya_words.specs.Table.{TableWords}
use Rattle.papaya_words.specs.declared.refused.Refused.TheVariants.{Capacity, Limit, RemoveNothing}
use Rattle.papaya_call.specs.Answers.{Says}
use Rattle.papaya_call.specs.declared.ask.Ask.{Ask as Call_ask}
use Rattle.papaya_call.specs.declared.ask.Ask.TheVariants.{Load, Exchange as Ask_exchange, SameKey}
use Rattle.papaya_call.specs.declared.ask.Ask.TheVariants.{ShowNone, ShowPair, SizeOf, MakeKey}
use Rattle.papaya_call.specs.declared.ask.Ask.TheVariants.{MakeValue, MakePair, MakePairOf}
use Rattle.papaya_call.specs.declared.ask.Ask.TheVariants.{MakeTable, AddToShard, Done as Ask_done}
use Rattle.papaya_call.specs.declared.ask.Ask.TheVariants.{LoadHint, WriteHint}
use Rattle.papaya_call.specs.declared.ask.Answer.{Answer as Call_answer}
use Rattle.papaya_call.specs.declared.ask.Answer.TheVariants.{Op, Refused as Was_refused}
use Rattle.papaya_call.specs.declared.ask.OpKind.{OpKind}
use Rattle.papaya_call.specs.declared.ask.OpKind.TheVariants as op_kinds
use Rattle.papaya_call.specs.declared.call.Call.{Call}
use Rattle.papaya_call.specs.declared.call.Reply.{Reply}
use Rattle.papaya_call.specs.declared.call.Reply.TheVariants.{Refused}
use Rattle.papaya_call.specs.declared.call.Task.{Task}
use Rattle.papaya_call.specs.declared.call.Task.TheVariants as tasks
use Rattle.papaya_call.specs.declared.copy_ask.CopyAsk.{CopyAsk}
use Rattle.papaya_call.specs.declared.copy_ask.CopyAsk.TheVariants as copies
use Rattle.papaya_call.specs.Machine as calls
use Rattle.papaya_call.specs.declared.chain.ask.Ask.{Ask}
use Rattle.papaya_call.specs.declared.chain.ask.Ask.TheVariants as asks
use Rattle.papaya_call.specs.declared.chain.ask.Answer.{Answer}
use Rattle.papaya_call.specs.declared.chain.ask.Answer.TheVariants as answers
use Rattle.papaya_call.specs.declared.chain.machine.Machine.{Machine}
use Rattle.papaya_call.specs.ChainMachine.{ask_of, kind_of_ask, after}
use Rattle.papaya_call_law.specs.Goes.{Goes, IsCause, IsToMake, WasNotMade, WouldBeTooLong}
use Rattle.papaya_call_law.specs.Relies.{IsAtLimit}
use Rattle.papaya_call_law.specs.Says.{show}
use Rattle.papaya_core_store.specs.declared.pairs.Running.{Running}
use Rattle.papaya_core_timeline.specs.declared.trace.Event.{Event}
use Rattle.papaya_core_timeline.specs.Advances.{event_of}
use Rattle.papaya_core_timeline.specs.Maps.{Map, at_key, key_of}
use Rattle.papaya_core_store.specs.Asks.{PerformsAsk}
use Rattle.papaya_core_store.specs.CopyAsks.{PerformsCopy, hash_in}
use Rattle.papaya_core_store.specs.Performs.{Performs, Refuses, ShowsPair, size_of}
use Rattle.papaya_core_timeline.specs.Runs.{History}
use Rattle.papaya_core_store.specs.Store.{StoreState, Stored, pair_of}
use Rattle.papaya_core_store.specs.Tables.{table_of, word_at}
use Rattle.papaya_core_timeline.specs.Timeline.{begins, last_shown, number_in, shown_by, AtSomeMoment}
use Rattle.papaya_core_timeline.proofs.ChainLemmas.{chain_aborted}
use Rattle.papaya_core_timeline.proofs.StepEvents.{event_begins, event_shown}
use Rattle.papaya_core_timeline.proofs.StoreLemmas.{LogsOrNot, matched, of_logs, own_logs, part_logs}
use Rattle.papaya_core_timeline.proofs.TiedLemmas.{IsEnding, WasShownLast}
use Rattle.papaya_core_timeline.proofs.TimelineLemmas.{entry, last_shown-own, not_begin-own}

-- an answer that refuses a growth does not refuse a removal
growth_unrefused : (most count : ℕ) (a : Call_answer) → Refuses most count a → a ≡ Was_refused RemoveNothing → ⊥
growth_unrefused most count a (inl e) is = cc
growth_unrefused most count a (inr (e, full)) is = cc

size_unrefused : (table : Option TableWords) → size_of table ≡ Was_refused RemoveNothing → ⊥
size_unrefused None e = cc
size_unrefused (Some t) e = cc

module _ {K V S A : Type 0} (eq : K → K → Bool) (says : Says K V A) (refuse : Bool) (s : StoreState K V S) (r : Running K V A) (a : Call_answer)
    (s' : StoreState K V S) (r' : Running K V A) where
  -- an answer to a store into the arena does not refuse a removal
  made_unrefused : LogsOrNot s r a s' r' → a ≡ Was_refused RemoveNothing → ⊥
  made_unrefused (inl (inl e, stays)) is = cc
  made_unrefused (inl (inr (inl e), stays)) is = cc
  made_unrefused (inl (inr (inr (inl e)), stays)) is = cc
  made_unrefused (inl (inr (inr (inr e)), stays)) is = cc
  made_unrefused (inr (key, left, (value, has, e, few, same, moved))) is = cc

  -- no answer to an ask of the call refuses the removal of nothing
  call_unrefused : (ask : Call_ask) → Performs eq says refuse ask s r a s' r' → a ≡ Was_refused RemoveNothing → ⊥
  call_unrefused (Load at) (e, stays) is = cc
  call_unrefused (Ask_exchange at old new) (ex, as_was) is =
      matched ⊥ (word_at s.words at == old) _ _ ex
      (λ _ done. let e = done.0 in cc)
      (λ _ lost. let e = lost.0 in cc)
  call_unrefused (SameKey n) (e, stays) is = cc
  call_unrefused ShowNone (inl (none, (e, stays))) is = cc
  call_unrefused ShowNone (inr (x, op, y, has, gives, e, same, later)) is = cc
  call_unrefused (ShowPair n) h is = by_task r.machine.call.task h
    where
      by_task : (task : Task) → ShowsPair task says n s r a s' r' → ⊥
      by_task tasks.RemoveIf (inl (none, (e, stays))) = cc
      by_task tasks.RemoveIf (inr (x, p, agrees, y, has, there, gives, e, same, later)) = cc
      by_task tasks.Compute (inl (none, (e, stays))) = cc
      by_task tasks.Compute (inr (p, there, (x, op, y, has, gives, e, same, later))) = cc
      by_task tasks.Get (e, stays) = cc
      by_task (tasks.Insert replace) (e, stays) = cc
  call_unrefused (LoadHint t x) (e, stays) is = cc
  call_unrefused (WriteHint t x hint) (e, same, as_was) is = cc
  call_unrefused (SizeOf n) (e, stays) is = size_unrefused (table_of s.words.tables n) (sym e ∙ is)
  call_unrefused MakeKey h is = made_unrefused (part_logs s r a s' r' refuse h) is
  call_unrefused MakeValue h is = made_unrefused (part_logs s r a s' r' refuse h) is
  call_unrefused MakePair h is = made_unrefused (own_logs s r a s' r' refuse h) is
  call_unrefused (MakePairOf n) h is = made_unrefused (of_logs s r a s' r' refuse n h) is
  call_unrefused (MakeTable slots limit chunks) h is =
      matched ⊥ refuse _ _ h
      (λ _ none. let e = none.0 in cc)
      (λ _ makes. ⊎_elim
      (λ refuses. growth_unrefused _ _ a refuses.0 is)
      (λ table. let e = table.0 in cc)
      makes.0)
  call_unrefused (AddToShard by) (e, same, as_was) is = cc
  call_unrefused (Ask_done reply) (e, stays) is = cc

module _ {K V S : Type 0} (eq : K → K → Bool) (hash : S → K → ℕ) (refuse : Bool) (s : StoreState K V S) (a : Answer) (s' : StoreState K V S) where
  -- nor does one to an ask of a copy
  pub copy_unrefused : (ask : CopyAsk) → PerformsCopy eq hash refuse ask s a s' → a ≡ answers.Call (Was_refused RemoveNothing) → ⊥
  copy_unrefused (copies.Load at) (e, same) is = cc
  copy_unrefused (copies.Exchange at old new) (told, e, ex) is =
      matched ⊥ (word_at s.words at == old) _ _ ex
      (λ _ done. let f = done.0 in cc)
      (λ _ lost. let f = lost.0 in cc)
  copy_unrefused (copies.LoadHint t x) (e, same) is = cc
  copy_unrefused (copies.WriteHint t x hint) (e, same) is = cc
  copy_unrefused (copies.SizeOf t) (e, same) is = size_unrefused (table_of s.words.tables t)
      (let f : answers.Call (size_of (table_of s.words.tables t)) ≡ answers.Call (Was_refused RemoveNothing) = sym e ∙ is in cc)
  copy_unrefused (copies.HashOf n) (e, hashes, same) is = hash_unrefused (pair_of s n) (sym e ∙ is)
    where
      hash_unrefused : (p : Option (Stored K V)) → hash_in (hash s.hasher) p ≡ answers.Call (Was_refused RemoveNothing) → ⊥
      hash_unrefused None e = cc
      hash_unrefused (Some p) e = cc
  copy_unrefused (copies.SamePair m n) (e, same) is = cc
  copy_unrefused copies.Count (e, same) is = cc
  copy_unrefused (copies.MakeTable slots limit chunks) (told, e, makes) is =
      let refused : told ≡ Was_refused RemoveNothing = cc in
      matched ⊥ refuse _ _ makes
      (λ _ none. let f = none.0 in cc)
      (λ _ made. ⊎_elim
      (λ refuses. growth_unrefused _ _ told refuses.0 refused)
      (λ table. let f = table.0 in cc)
      made)

module _ {K V S A : Type 0} (eq : K → K → Bool) (says : Says K V A) (hash : S → K → ℕ) (refuse : Bool) (s : StoreState K V S) (r : Running K V A)
    (a : Answer) (s' : StoreState K V S) (r' : Running K V A) where
  -- no answer refuses the removal of nothing
  pub unrefused : (ask : Ask) → PerformsAsk eq says hash refuse ask s r a s' r' → a ≡ answers.Call (Was_refused RemoveNothing) → ⊥
  unrefused (asks.Call ask) (told, e, performs) is = let refused : told ≡ Was_refused RemoveNothing = cc (e, is) in
      call_unrefused eq says refuse s r told s' r' ask performs refused
  unrefused (asks.Copy ask) (performs, as_was) is = copy_unrefused eq hash refuse s a s' ask performs is

-- a call is refused the removal of nothing because its closure was just called with `None`
pub removes_nothing : (m : Machine) (a : Answer) → (a ≡ answers.Call (Was_refused RemoveNothing) → ⊥) → IsCause m a RemoveNothing
    → (ask_of m ≡ asks.Call ShowNone) × (a ≡ answers.Call (Op op_kinds.Remove))
removes_nothing m a never (inl by) =
    ⊎_elim
    (λ (refuses : IsToMake (calls.ask_of m.call) × (by.own.told ≡ Was_refused RemoveNothing)). absurd (never (by.own.is ∙ ap answers.Call refuses.1)))
    (λ others. ⊎_elim
    (λ (full : (RemoveNothing ≡ Limit) × IsAtLimit m.call by.own.told). let f : RemoveNothing ≡ Limit = full.0 in absurd cc)
    (λ (shown : (RemoveNothing ≡ RemoveNothing) × (ask_of m ≡ asks.Call ShowNone) × (by.own.told ≡ Op op_kinds.Remove)).
    (shown.1, by.own.is ∙ ap answers.Call shown.2))
    others)
    by.why
removes_nothing m a never (inr by) =
    ⊎_elim
    (λ (made : WasNotMade m a RemoveNothing). absurd (never made.is))
    (λ (long : WouldBeTooLong m a RemoveNothing). let f : RemoveNothing ≡ Capacity = long.capacity in absurd cc)
    by.why

module _ {K V A : Type 0} (call : Call K V A) (m : Machine) (a : Answer) (c turn : ℕ) (event : Event) (h : History) (now : Map K V)
    (maps : List (Map K V)) (event_is : event ≡ event_of (kind_of_ask m) (ask_of m) a) where
  -- the argument of the closure in a step is the last one after it
  shown_last : (shown : Option ℕ) (op : OpKind) → ask_of m ≡ asks.Call (show shown) → a ≡ answers.Call (Op op)
      → AtSomeMoment (λ m. number_in (at_key m (key_of call)) ≡ shown) c h maps → WasShownLast call shown op c (entry turn c event ∷ h) (now ∷ maps)
  shown_last shown op asking is at = (
    last_shown-own c turn event h ∙ ap (λ e. shown_by e (last_shown c h)) (event_is ∙ event_shown shown op (kind_of_ask m) (ask_of m) a asking is),
    inr (not_begin-own c c turn event (ap begins event_is ∙ event_begins (kind_of_ask m) (ask_of m) a), at),
  )

  -- if a step ends the call, its closure was called in that step with the pair that the key had at
  -- some point of the call
  pub step_ending : Goes m a → ((after m a).call.task ≡ m.call.task) → ((reply : Reply) → ask_of m ≡ asks.Call (Ask_done reply) → ⊥)
      → (ask_of m ≡ asks.Call ShowNone → m.call.task ≡ tasks.Compute)
      → ((shown : Option ℕ) → ask_of m ≡ asks.Call (show shown) → AtSomeMoment (λ m. number_in (at_key m (key_of call)) ≡ shown) c h maps)
      → (reply : Reply) → (reply ≡ Refused RemoveNothing → (ask_of m ≡ asks.Call ShowNone) × (a ≡ answers.Call (Op op_kinds.Remove)))
      → ask_of (after m a) ≡ asks.Call (Ask_done reply) → IsEnding (after m a).call.task call reply c (entry turn c event ∷ h) (now ∷ maps)
  step_ending goes task open_still offers showing reply removes done = record {
    aborts = λ t is. let (shown, asking, told) = chain_aborted m a goes t open_still (done ∙ ap (λ y. asks.Call (Ask_done y)) is) in
        (shown, shown_last shown (op_kinds.Abort t) asking told (showing shown asking));
    nothing = λ is. let (asking, told) = removes is in (task ∙ offers asking, shown_last None op_kinds.Remove asking told (showing None asking));
  }
