-- How calls under way relate to a history that grows by an entry.
use Rattle.std.proofs.Common.{◌≡◌, ◌≢◌, ◌⊎◌, inl, inr, ⊎_elim, ℕ, ◌==◌, Bool, true, false, cond}
use Rattle.std.proofs.Common.{Option, None, Some, List, [], ◌∷◌, ◌++◌, slice_get, refl, sym, ◌∙◌}
use Rattle.std.proofs.Common.{ap, subst}
use Rattle.papaya_call.specs.declared.ask.Ask.{Ask as Call_ask}
use Rattle.papaya_call.specs.declared.ask.Ask.TheVariants.{Load, Exchange as Ask_exchange, SameKey}
use Rattle.papaya_call.specs.declared.ask.Ask.TheVariants.{ShowNone, ShowPair, SizeOf, MakeKey}
use Rattle.papaya_call.specs.declared.ask.Ask.TheVariants.{MakeValue, MakePair, MakePairOf}
use Rattle.papaya_call.specs.declared.ask.Ask.TheVariants.{MakeTable, AddToShard, Done as Ask_done}
use Rattle.papaya_call.specs.declared.ask.Ask.TheVariants.{LoadHint, WriteHint}
use Rattle.papaya_call.specs.declared.ask.Answer.{Answer as Call_answer}
use Rattle.papaya_call.specs.declared.call.Call.{Call}
use Rattle.papaya_call.specs.declared.call.Call.TheVariants.{Get, Insert, TryInsert, RemoveIf, Compute, Reserve, CopyAll, Clear, Retain, Walk}
use Rattle.papaya_call.specs.declared.call.Reply.{Reply}
use Rattle.papaya_call.specs.declared.call.Reply.TheVariants.{Absent, Found, Inserted, Replaced, Occupied, Removed, Kept, Aborted, Done, Refused}
use Rattle.papaya_call.specs.declared.call.Task.{Task}
use Rattle.papaya_call.specs.declared.call.Task.TheVariants as tasks
use Rattle.papaya_call.specs.declared.answers.Operation.{Operation}
use Rattle.papaya_call.specs.declared.answers.Operation.TheVariants as ops
use Rattle.papaya_call.specs.declared.ask.OpKind.{OpKind}
use Rattle.papaya_call.specs.declared.ask.OpKind.TheVariants as op_kinds
use Rattle.papaya_call.specs.Answers.{Says}
use Rattle.papaya_words_law.specs.Exchange.{Exchange}
use Rattle.papaya_call.specs.declared.copy_ask.CopyAsk.{CopyAsk}
use Rattle.papaya_call.specs.declared.chain.ask.Ask.{Ask}
use Rattle.papaya_call.specs.declared.chain.ask.Ask.TheVariants as asks
use Rattle.papaya_call.specs.declared.chain.ask.Answer.{Answer}
use Rattle.papaya_call.specs.ChainMachine.{ask_of}
use Rattle.papaya_call_law.specs.ChainRelies.{Relies}
use Rattle.papaya_call_law.specs.ChainAnswers.{LoadedPairs}
use Rattle.papaya_call_law.specs.Relies.{IsReply, change_of_reply, WasAtMoment}
use Rattle.papaya_call_law.specs.Says.{ClosureResult, Agrees, Inserts, Makes, Removes, result_in_reply}
use Rattle.papaya_call_law.specs.TrueAnswers.{IsOneOf}
use Rattle.papaya_words.specs.Table.{TableWords}
use Rattle.papaya_words.specs.declared.refused.Refused.{Refused as Refusal}
use Rattle.papaya_words.specs.declared.refused.Refused.TheVariants.{RemoveNothing}
use Rattle.papaya_core_store.specs.declared.pairs.Pair.{Pair}
use Rattle.papaya_core_store.specs.declared.pairs.Part.{Part}
use Rattle.papaya_core_store.specs.declared.pairs.Running.{Running}
use Rattle.papaya_core_timeline.specs.declared.trace.Entry.{Entry}
use Rattle.papaya_core_timeline.specs.declared.trace.Event.{Event}
use Rattle.papaya_core_timeline.proofs.Begun.{the_task}
use Rattle.papaya_core_timeline.specs.Kept.{CallTrace, told_call_traces, setting_of, coding_of}
use Rattle.papaya_core_timeline.specs.Maps.{Map, Does, at_key, key_of}
use Rattle.papaya_core_store.specs.Asks.{PerformsAsk}
use Rattle.papaya_core_store.specs.CopyAsks.{PerformsCopy}
use Rattle.papaya_core_store.specs.Pairs.{key_in, pair_with, value_at, value_in}
use Rattle.papaya_core_store.specs.Performs.{Performs, own_key, own_value, Decides, ShowsPair}
use Rattle.papaya_core_store.specs.Store.{KeepsPairs, StoreState, Stored, pair_of, stored_in}
use Rattle.papaya_core_store.specs.Tables.{word_at}
use Rattle.papaya_core_timeline.specs.Runs.{History}
use Rattle.papaya_core_timeline.specs.Timeline.{Answered, is_begin, change_of, last_shown, number_in, was_shown_none, AtSomeMoment, Fits, FitsShown}
use Rattle.papaya_core_timeline.proofs.CallersLemmas.{differs}
use Rattle.papaya_core_timeline.proofs.ChainLemmas.{own_asks}
use Rattle.papaya_core_timeline.proofs.Good.{IsTied, WasReturned, replay, replayed}
use Rattle.papaya_core_store.proofs.Logs.{key-more, pair-more, value-more, value_logged}
use Rattle.papaya_core_timeline.proofs.MachineLemmas.{machine_replies, machine_says}
use Rattle.papaya_core_timeline.proofs.ReplayLemmas.{beginning-cases, map_replayed, replay-three}
use Rattle.papaya_core_timeline.proofs.StoreLemmas.{LogsOrNot, copy_hasher, copy_pairs, matched, of_logs, own_logs, part_logs}
use Rattle.papaya_core_timeline.proofs.TimelineLemmas.{entry, answered-other, answered_shown}
use Rattle.papaya_core_timeline.proofs.TimelineLemmas.{asked-other, at_weaker, change_of-other}
use Rattle.papaya_core_timeline.proofs.TimelineLemmas.{not_begin-other, was_shown_none-other}
use Rattle.papaya_core_store.specs.declared.store.Mode.{Mode}

-- the value of a call, if the arena is as long or longer
pub value_forth : {K V : Type 0} (log log' : List (Pair K V)) → ((at : Part V) (v : V) → value_in log at ≡ Some v → value_in log' at ≡ Some v)
    → (value : Option (Part V)) (v : V) → value_at log value ≡ Some v → value_at log' value ≡ Some v
value_forth log log' stay None v e = let f : None ≡ Some v = e in absurd cc
value_forth log log' stay (Some part) v e = stay part v e

pub value_back : {K V : Type 0} (log log' : List (Pair K V)) → ((at : Part V) (v : V) → value_in log at ≡ Some v → value_in log' at ≡ Some v)
    → (value : Option (Part V)) → ((part : Part V) → value ≡ Some part → (v : V) × (value_in log part ≡ Some v)) → (v : V)
    → value_at log' value ≡ Some v → value_at log value ≡ Some v
value_back log log' stay None valued v e = let f : None ≡ Some v = e in cc
value_back log log' stay (Some part) valued v e = let (w, there) = valued part refl in there ∙ sym (stay part w there) ∙ e

module _ {K V S : Type 0} where
  -- Every key and every value stays in the arena.
  pub record KeepsParts (s s' : StoreState K V S) : Type 0 where
    pub keys : (at : Part K) (k : K) → key_in s.pairs at ≡ Some k → key_in s'.pairs at ≡ Some k
    pub values : (at : Part V) (v : V) → value_in s.pairs at ≡ Some v → value_in s'.pairs at ≡ Some v

  -- the arena is the same
  pub same_parts : (s s' : StoreState K V S) → s'.pairs ≡ s.pairs → KeepsParts s s'
  same_parts s s' same = record { keys = λ at k e. ap (λ l. key_in l at) same ∙ e; values = λ at v e. ap (λ l. value_in l at) same ∙ e }

module _ {K V S A : Type 0} where
  -- the value that a call is to store is there
  abbrev pub IsValued : StoreState K V S → Running K V A → Type 0
  IsValued s r = (part : Part V) → r.value ≡ Some part → (v : V) × (value_in s.pairs part ≡ Some v)

  -- The effect of a step on the arena: every pair stays, and a new value comes only from a
  -- compute's closure.
  pub record HasMoreLogs (s : StoreState K V S) (r : Running K V A) (s' : StoreState K V S) (r' : Running K V A) : Type 0 where
    pub hasher_is : s'.hasher ≡ s.hasher
    pub keys_stay : (at : Part K) (k : K) → key_in s.pairs at ≡ Some k → key_in s'.pairs at ≡ Some k
    pub values_stay : (at : Part V) (v : V) → value_in s.pairs at ≡ Some v → value_in s'.pairs at ≡ Some v
    pub pairs_stay : KeepsPairs s s'
    pub value_stays : IsValued s r → (v : V) → own_value s' r' ≡ Some v → (own_value s r ≡ Some v) ⊎ (r.machine.call.task ≡ tasks.Compute)

  -- the arena is as it was
  unlogged : (s : StoreState K V S) (r : Running K V A) (s' : StoreState K V S) (r' : Running K V A) → s'.hasher ≡ s.hasher → s'.pairs ≡ s.pairs
      → ((v : V) → own_value s' r' ≡ Some v → (own_value s r ≡ Some v) ⊎ (r.machine.call.task ≡ tasks.Compute)) → HasMoreLogs s r s' r'
  unlogged s r s' r' hasher pairs value = record {
    hasher_is = hasher;
    keys_stay = λ at k e. ap (λ l. key_in l at) pairs ∙ e;
    values_stay = λ at v e. ap (λ l. value_in l at) pairs ∙ e;
    pairs_stay = λ n q e. ap (λ l. stored_in l n (slice_get l n)) pairs ∙ e;
    value_stays = λ valued v e. value v e;
  }

  -- only words were written
  words_changed : (s : StoreState K V S) (r : Running K V A) (s' : StoreState K V S) (r' : Running K V A) → s'.hasher ≡ s.hasher → s'.pairs ≡ s.pairs
      → r'.value ≡ r.value → HasMoreLogs s r s' r'
  words_changed s r s' r' hasher pairs value = unlogged s r s' r' hasher pairs
      (λ v e. inl (sym (ap (value_at s.pairs) value) ∙ sym (ap (λ l. value_at l r'.value) pairs) ∙ e))

  still : (s : StoreState K V S) (r : Running K V A) (s' : StoreState K V S) (r' : Running K V A) → s' ≡ s → r' ≡ r → HasMoreLogs s r s' r'
  still s r s' r' same as_was = words_changed s r s' r' (ap (λ (y : StoreState K V S). y.hasher) same) (ap (λ (y : StoreState K V S). y.pairs) same)
      (ap (λ (y : Running K V A). y.value) as_was)

  -- an ask for a key, a value or a pair
  made : (s : StoreState K V S) (r : Running K V A) (a : Call_answer) (s' : StoreState K V S) (r' : Running K V A) → LogsOrNot s r a s' r'
      → HasMoreLogs s r s' r'
  made s r a s' r' (inl (none, stays)) = still s r s' r' stays.0 stays.1
  made s r a s' r' (inr (key, left, logs)) =
      let (value, has, e, few, same, moved) = logs in
      let more : List (Pair K V) = pair_with key value ∷ [] in
      record {
        hasher_is = ap (λ (y : StoreState K V S). y.hasher) same;
        keys_stay = λ at k there. ap (λ (y : StoreState K V S). key_in y.pairs at) same ∙ key-more s.pairs more at k there;
        values_stay = λ at v there. ap (λ (y : StoreState K V S). value_in y.pairs at) same ∙ value-more s.pairs more at v there;
        pairs_stay = λ i q there. ap (λ (y : StoreState K V S). pair_of y i) same ∙ pair-more s more i q there;
        value_stays = λ valued v later.
            let (w, there) = valued value has in
            let before : own_value s r ≡ Some w = ap (value_at s.pairs) has ∙ there in
            inl (before ∙ sym (value_logged s r s' r' key left a w before logs) ∙ later);
      }

  -- a compute's closure returned
  decided : (says : Says K V A) (shown : Option (K × V)) (s : StoreState K V S) (r : Running K V A) (a : Call_answer) (s' : StoreState K V S)
      (r' : Running K V A) → r.machine.call.task ≡ tasks.Compute → Decides says shown s r a s' r' → HasMoreLogs s r s' r'
  decided says shown s r a s' r' computes (answers, op, rest, has, given, e, same, is) = unlogged s r s' r'
      (ap (λ (y : StoreState K V S). y.hasher) same) (ap (λ (y : StoreState K V S). y.pairs) same) (λ v e'. inr computes)

  -- a closure was called with a pair
  showed : (says : Says K V A) (n : ℕ) (s : StoreState K V S) (r : Running K V A) (a : Call_answer) (s' : StoreState K V S) (r' : Running K V A)
      (task : Task) → r.machine.call.task ≡ task → ShowsPair task says n s r a s' r' → HasMoreLogs s r s' r'
  showed says n s r a s' r' tasks.Get is (e, stays) = still s r s' r' stays.0 stays.1
  showed says n s r a s' r' (tasks.Insert replace) is (e, stays) = still s r s' r' stays.0 stays.1
  showed says n s r a s' r' tasks.RemoveIf is (inl (none, (e, stays))) = still s r s' r' stays.0 stays.1
  showed says n s r a s' r' tasks.RemoveIf is (inr (answers, p, agrees, rest, has, there, given, e, same, later)) = words_changed s r s' r'
      (ap (λ (y : StoreState K V S). y.hasher) same) (ap (λ (y : StoreState K V S). y.pairs) same) (ap (λ (y : Running K V A). y.value) later)
  showed says n s r a s' r' tasks.Compute is (inl (none, (e, stays))) = still s r s' r' stays.0 stays.1
  showed says n s r a s' r' tasks.Compute is (inr (p, there, decides)) = decided says (Some (p.key, p.value)) s r a s' r' is decides

  -- for an ask of the call: only a compute calls its closure for an absent key
  call_grown : (eq : K → K → Bool) (says : Says K V A) (refuse : Bool) (ask : Call_ask) (s : StoreState K V S) (r : Running K V A) (a : Call_answer)
      (s' : StoreState K V S) (r' : Running K V A) → Performs eq says refuse ask s r a s' r' → (ask ≡ ShowNone → r.machine.call.task ≡ tasks.Compute)
      → HasMoreLogs s r s' r'
  call_grown eq says refuse (Load at) s r a s' r' (e, stays) offers = still s r s' r' stays.0 stays.1
  call_grown eq says refuse (Ask_exchange at old new) s r a s' r' (ex, as_was) offers =
      matched (HasMoreLogs s r s' r') (word_at s.words at == old) _ _ ex
      (λ _ done. words_changed s r s' r' (ap (λ (y : StoreState K V S). y.hasher) done.1) (ap (λ (y : StoreState K V S). y.pairs) done.1)
      (ap (λ (y : Running K V A). y.value) as_was))
      (λ _ lost. still s r s' r' lost.1 as_was)
  call_grown eq says refuse (SameKey n) s r a s' r' (e, stays) offers = still s r s' r' stays.0 stays.1
  call_grown eq says refuse ShowNone s r a s' r' (inl (none, (e, stays))) offers = still s r s' r' stays.0 stays.1
  call_grown eq says refuse ShowNone s r a s' r' (inr decides) offers = decided says None s r a s' r' (offers refl) decides
  call_grown eq says refuse (ShowPair n) s r a s' r' h offers = showed says n s r a s' r' r.machine.call.task refl h
  call_grown eq says refuse (LoadHint t x) s r a s' r' (e, stays) offers = still s r s' r' stays.0 stays.1
  call_grown eq says refuse (WriteHint t x hint) s r a s' r' (e, same, as_was) offers = words_changed s r s' r'
      (ap (λ (y : StoreState K V S). y.hasher) same) (ap (λ (y : StoreState K V S). y.pairs) same) (ap (λ (y : Running K V A). y.value) as_was)
  call_grown eq says refuse (SizeOf n) s r a s' r' (e, stays) offers = still s r s' r' stays.0 stays.1
  call_grown eq says refuse MakeKey s r a s' r' h offers = made s r a s' r' (part_logs s r a s' r' refuse h)
  call_grown eq says refuse MakeValue s r a s' r' h offers = made s r a s' r' (part_logs s r a s' r' refuse h)
  call_grown eq says refuse MakePair s r a s' r' h offers = made s r a s' r' (own_logs s r a s' r' refuse h)
  call_grown eq says refuse (MakePairOf n) s r a s' r' h offers = made s r a s' r' (of_logs s r a s' r' refuse n h)
  call_grown eq says refuse (MakeTable slots limit chunks) s r a s' r' h offers =
      matched (HasMoreLogs s r s' r') refuse _ _ h
      (λ _ none. still s r s' r' none.1.0 none.1.1)
      (λ _ makes. ⊎_elim
      (λ refused. still s r s' r' refused.1 makes.1)
      (λ table. words_changed s r s' r' (ap (λ (y : StoreState K V S). y.hasher) table.2) (ap (λ (y : StoreState K V S). y.pairs) table.2)
      (ap (λ (y : Running K V A). y.value) makes.1))
      makes.0)
  call_grown eq says refuse (AddToShard by) s r a s' r' (e, (number, same), as_was) offers = words_changed s r s' r'
      (ap (λ (y : StoreState K V S). y.hasher) same) (ap (λ (y : StoreState K V S). y.pairs) same) (ap (λ (y : Running K V A). y.value) as_was)
  call_grown eq says refuse (Ask_done reply) s r a s' r' (e, stays) offers = still s r s' r' stays.0 stays.1

  -- a copy leaves the arena, and the call
  copy_grown : (eq : K → K → Bool) (hash : S → K → ℕ) (refuse : Bool) (ask : CopyAsk) (s : StoreState K V S) (r : Running K V A) (a : Answer)
      (s' : StoreState K V S) (r' : Running K V A) → PerformsCopy eq hash refuse ask s a s' → r' ≡ r → HasMoreLogs s r s' r'
  copy_grown eq hash refuse ask s r a s' r' performs as_was = words_changed s r s' r' (copy_hasher eq hash refuse ask s a s' performs)
      (copy_pairs eq hash refuse ask s a s' performs) (ap (λ (y : Running K V A). y.value) as_was)

  -- the effect of a step; only a compute calls its closure for an absent key
  pub grown : (eq : K → K → Bool) (says : Says K V A) (hash : S → K → ℕ) (refuse : Bool) (ask : Ask) (s : StoreState K V S) (r : Running K V A)
      (a : Answer) (s' : StoreState K V S) (r' : Running K V A) → PerformsAsk eq says hash refuse ask s r a s' r'
      → (ask ≡ asks.Call ShowNone → r.machine.call.task ≡ tasks.Compute) → HasMoreLogs s r s' r'
  grown eq says hash refuse (asks.Call ask) s r a s' r' (told, is, performs) offers = call_grown eq says refuse ask s r told s' r' performs
      (λ e. offers (ap asks.Call e))
  grown eq says hash refuse (asks.Copy ask) s r a s' r' (performs, as_was) offers = copy_grown eq hash refuse ask s r a s' r' performs as_was

module _ {K V : Type 0} (eq : K → K → Bool) where
  -- the key has this at points of the call, also after an entry that begins no call of the
  -- caller's, and after at most one more exchange
  pub moments_more : (k : Option K) (caller : ℕ) (e : Entry) (h : History) (maps : List (Map K V)) (begun since made : List (Exchange (Stored K V)))
      → (made ≡ []) ⊎ ((x : Exchange (Stored K V)) × (made ≡ x ∷ [])) → is_begin caller e ≡ false
      → ((so_far rest : List (Exchange (Stored K V))) → so_far ++ rest ≡ since
      → AtSomeMoment (λ m. at_key m k ≡ at_key (replayed eq (replay eq begun) so_far) k) caller h maps)
      → (so_far rest : List (Exchange (Stored K V))) → so_far ++ rest ≡ since ++ made
      → AtSomeMoment (λ m. at_key m k ≡ at_key (replayed eq (replay eq begun) so_far) k) caller (e ∷ h) (replay eq ((begun ++ since) ++ made) ∷ maps)
  moments_more k caller e h maps begun since made one no_begin moments so_far rest is =
      ⊎_elim
      (λ part. inr (no_begin, moments so_far part.0 part.1))
      (λ (whole : so_far ≡ since ++ made). inl
      (ap (λ m. at_key m k) (replay-three eq begun since made) ∙ ap (λ l. at_key (replayed eq (replay eq begun) l) k) (sym whole)))
      (beginning-cases so_far rest since made one is)

module _ {K V S A : Type 0} where
  -- the result on which a reply depends was returned by the closure in the call
  abbrev pub SaidForReply : StoreState K V S → Running K V A → Task → Reply → ℕ → History → Answered V → Type 0
  SaidForReply s r task reply caller h answers = (said : ClosureResult) → result_in_reply task reply ≡ Some said → WasReturned s r caller h answers said

  -- a result of a closure stays in the history, whatever another caller does
  pub said-other : (s s' : StoreState K V S) (r : Running K V A) (c d turn : ℕ) (event : Event) (h : History) (o : Option (Operation V ℕ))
      (answers : Answered V) → KeepsParts s s' → KeepsPairs s s' → c ≢ d → (said : ClosureResult) → WasReturned s r d h answers said
      → WasReturned s' r d (entry turn c event ∷ h) (o ∷ answers) said
  said-other s s' r c d turn event h o answers parts stay differ (Agrees n agrees) was = asked-other c d turn n agrees event h differ was
  said-other s s' r c d turn event h o answers parts stay differ (Inserts shown)
      (v, has, was) = (v, value_forth s.pairs s'.pairs parts.values r.value v has, answered-other c d turn shown (ops.Insert v) event h o answers differ was)
  said-other s s' r c d turn event h o answers parts stay differ (Makes shown n)
      (q, there, was) = (q, stay n q there, answered-other c d turn shown (ops.Insert q.value) event h o answers differ was)
  said-other s s' r c d turn event h o answers parts stay differ (Removes n) was = answered-other c d turn (Some n) ops.Remove event h o answers differ was

module _ {K V A : Type 0} where
  -- the key had the last argument of a compute's closure at some point of the call
  abbrev pub WasShownLast : Call K V A → Option ℕ → OpKind → ℕ → History → List (Map K V) → Type 0
  WasShownLast call shown kind caller h maps = (last_shown caller h ≡ Some (shown, kind))
      × AtSomeMoment (λ m. number_in (at_key m (key_of call)) ≡ shown) caller h maps

  -- A closure may end its call: by an abort, or by a removal if it was called with `None`.
  pub record IsEnding (task : Task) (call : Call K V A) (reply : Reply) (caller : ℕ) (h : History) (maps : List (Map K V)) : Type 0 where
    pub aborts : (t : ℕ) → reply ≡ Aborted t → (shown : Option ℕ) × WasShownLast call shown (op_kinds.Abort t) caller h maps
    pub nothing : reply ≡ Refused RemoveNothing → (task ≡ tasks.Compute) × WasShownLast call None op_kinds.Remove caller h maps

  -- an abort leaves what there is
  abort_does : (k : K) (a : A) (t : ℕ) (v : Option (Stored K V)) → Does (Compute k a) v (Aborted t) v
  abort_does k a t None = refl
  abort_does k a t (Some p) = refl

  -- and a removal of nothing leaves nothing
  nothing_does : (k : K) (a : A) (v : Option (Stored K V)) → number_in v ≡ None → Does (Compute k a) v (Refused RemoveNothing) v
  nothing_does k a None e = refl
  nothing_does k a (Some p) e = let f : Some p.number ≡ None = e in absurd cc

module _ {K V A : Type 0} (eq : K → K → Bool) where
  -- the key of a call had this since its begin, so it had it at some point of the call
  abbrev pub Moments : Call K V A → ℕ → CallTrace K V → History → List (Map K V) → Type 0
  Moments call caller call_trace h maps = (so_far rest : List (Exchange (Stored K V))) → so_far ++ rest ≡ call_trace.since
      → AtSomeMoment (λ m. at_key m (key_of call) ≡ at_key (replayed eq (replay eq call_trace.begun) so_far) (key_of call)) caller h maps

  module _ (call : Call K V A) (caller : ℕ) (call_trace : CallTrace K V) (h : History) (maps : List (Map K V)) (hash : K → ℕ) (mode : Mode)
      (tables : List TableWords) (k : K) (own : Some k ≡ key_of call) (moments : Moments call caller call_trace h maps) where
    -- so a fact about a point on which a machine relies held at some point of the run
    pub at_moment : (v : Option (Stored K V)) → WasAtMoment (setting_of eq hash mode tables) (coding_of hash) call_trace.begun call_trace.since k v
        → AtSomeMoment (λ m. at_key m (key_of call) ≡ v) caller h maps
    at_moment v was =
        let value : at_key (replayed eq (replay eq call_trace.begun) was.so_far) (key_of call) ≡ v =
        ap (at_key (replayed eq (replay eq call_trace.begun) was.so_far)) (sym own)
        ∙ ap (λ m. replayed eq m was.so_far k) (sym (map_replayed eq hash mode tables call_trace.begun (λ j. None)))
        ∙ ap (λ m. m k) (sym (map_replayed eq hash mode tables was.so_far _))
        ∙ was.value_is in
        at_weaker (λ m. at_key m (key_of call) ≡ at_key (replayed eq (replay eq call_trace.begun) was.so_far) (key_of call))
        (λ m. at_key m (key_of call) ≡ v) caller h maps (λ m e. e ∙ value) (moments was.so_far was.rest was.is)

    -- a reply that leaves what its key had then
    pub at_answer : (v : Option (Stored K V)) (reply : Reply) → Does call v reply v
        → WasAtMoment (setting_of eq hash mode tables) (coding_of hash) call_trace.begun call_trace.since k v
        → AtSomeMoment (λ m. Does call (at_key m (key_of call)) reply (at_key m (key_of call))) caller h maps
    at_answer v reply does was =
        at_weaker (λ m. at_key m (key_of call) ≡ v) (λ m. Does call (at_key m (key_of call)) reply (at_key m (key_of call))) caller h maps
        (λ m e. subst (λ y. Does call y reply y) (sym e) does) (at_moment v was)

    -- and the argument of a closure for it
    at_number : (v : Option (Stored K V)) (shown : Option ℕ) → number_in v ≡ shown
        → WasAtMoment (setting_of eq hash mode tables) (coding_of hash) call_trace.begun call_trace.since k v
        → AtSomeMoment (λ m. number_in (at_key m (key_of call)) ≡ shown) caller h maps
    at_number v shown number was =
        at_weaker (λ m. at_key m (key_of call) ≡ v) (λ m. number_in (at_key m (key_of call)) ≡ shown) caller h maps
        (λ m e. ap (λ (o : Option (Stored K V)). number_in o) e ∙ number) (at_moment v was)

    pub at_showing : (p : Stored K V) (n : ℕ) → p.number ≡ n
        → WasAtMoment (setting_of eq hash mode tables) (coding_of hash) call_trace.begun call_trace.since k (Some p)
        → FitsShown eq (Some call) (Some n) caller h maps
    at_showing p n number was = (at_number (Some p) (Some n) (ap Some number) was, tt)

    -- the closure is called with `None` once
    pub at_showing_none : was_shown_none caller h ≡ false
        → WasAtMoment (setting_of eq hash mode tables) (coding_of hash) call_trace.begun call_trace.since k None → FitsShown eq (Some call) None caller h maps
    at_showing_none once was = (at_number None None refl was, once)

  module _ {S : Type 0} where
    -- another caller's step leaves how a call is related to its history
    pub tied_other : (s s' : StoreState K V S) (r : Running K V A) (call : Call K V A) (c d turn : ℕ) (event : Event)
        (call_traces : ℕ → CallTrace K V) (made : List (Exchange (Stored K V))) (loaded : LoadedPairs (Stored K V)) (h : History)
        (es : List (Exchange (Stored K V))) (maps : List (Map K V)) (o : Option (Operation V ℕ)) (answers : Answered V)
        → KeepsParts s s' → IsValued s r → KeepsPairs s s' → (made ≡ []) ⊎ ((x : Exchange (Stored K V)) × (made ≡ x ∷ [])) → c ≢ d
        → (call_traces d).begun ++ (call_traces d).since ≡ es
        → IsTied eq s r call d (call_traces d) h maps answers
        → IsTied eq s' r call d (told_call_traces call_traces c made loaded d) (entry turn c event ∷ h) (replay eq (es ++ made) ∷ maps) (o ∷ answers)
    tied_other s s' r call c d turn event call_traces made loaded h es maps o answers parts valued pairs one differ split tied = record {
      own = tied.own;
      key = parts.keys r.key tied.own tied.key;
      key_is = tied.key_is;
      task = tied.task;
      value = λ v e. tied.value v (value_back s.pairs s'.pairs parts.values r.value valued v e);
      made = λ q one. tied.made q (subst (λ (y : LoadedPairs (Stored K V)). IsOneOf y.call.made q)
          (ap (λ b. cond b loaded (call_traces d).loaded) (differs d c (λ z. differ (sym z)))) one);
      change = change_of-other c d turn event h differ ∙ tied.change;
      said = λ said stands. said-other s s' r c d turn event h o answers parts pairs differ said (tied.said said stands);
      shows = tied.shows;
      once = λ e. tied.once (sym (was_shown_none-other c d turn event h differ) ∙ e);
      moments = subst (λ (l : List (Exchange (Stored K V))). (so_far rest : List (Exchange (Stored K V)))
          → so_far ++ rest ≡ (call_traces d).since ++ made
          → AtSomeMoment (λ m. at_key m (key_of call) ≡ at_key (replayed eq (replay eq (call_traces d).begun) so_far) (key_of call)) d
          (entry turn c event ∷ h) (replay eq (l ++ made) ∷ maps)) split
          (moments_more eq (key_of call) d (entry turn c event) h maps (call_traces d).begun (call_traces d).since made one
          (not_begin-other c d turn event differ) tied.moments);
    }

    -- and so does an entry of another with a map of its own
    pub tied_entry : (s s' : StoreState K V S) (r : Running K V A) (call : Call K V A) (c d turn : ℕ) (event : Event) (call_trace : CallTrace K V)
        (h : History) (m : Map K V) (maps : List (Map K V)) (o : Option (Operation V ℕ)) (answers : Answered V) → s' ≡ s → c ≢ d
        → IsTied eq s r call d call_trace h maps answers → IsTied eq s' r call d call_trace (entry turn c event ∷ h) (m ∷ maps) (o ∷ answers)
    tied_entry s s' r call c d turn event call_trace h m maps o answers same differ tied = record {
      own = tied.own;
      key = ap (λ (y : StoreState K V S). own_key y r) same ∙ tied.key;
      key_is = tied.key_is;
      task = tied.task;
      value = λ v e. tied.value v (sym (ap (λ (y : StoreState K V S). own_value y r) same) ∙ e);
      made = tied.made;
      change = change_of-other c d turn event h differ ∙ tied.change;
      said = λ said stands. said-other s s' r c d turn event h o answers (same_parts s s' (ap (λ (y : StoreState K V S). y.pairs) same))
          (λ n q e. ap (λ (y : StoreState K V S). pair_of y n) same ∙ e) differ said (tied.said said stands);
      shows = tied.shows;
      once = λ e. tied.once (sym (was_shown_none-other c d turn event h differ) ∙ e);
      moments = λ so_far rest is. inr (not_begin-other c d turn event differ, tied.moments so_far rest is);
    }

    -- if the machine has replied, its reply fits
    pub tied_fits : (s : StoreState K V S) (r : Running K V A) (call : Call K V A) (caller : ℕ) (call_trace : CallTrace K V) (h : History)
        (maps : List (Map K V)) (answers : Answered V) (hash : K → ℕ) (mode : Mode) (tables : List TableWords) (k : K) → Some k ≡ key_of call
        → IsTied eq s r call caller call_trace h maps answers
        → Relies (setting_of eq hash mode tables) (coding_of hash) call_trace.begun call_trace.since k r.machine call_trace.loaded → (reply : Reply)
        → ask_of r.machine ≡ asks.Call (Ask_done reply) → IsEnding r.machine.call.task call reply caller h maps → Fits eq call reply caller h maps
    tied_fits s r call caller call_trace h maps answers hash mode tables k own tied relies reply done ending =
        let replied = (own_asks r.machine (Ask_done reply) done).1 in
        let ends = machine_replies (setting_of eq hash mode tables) (coding_of hash) call_trace.begun call_trace.since k r.machine.call
        call_trace.loaded.call relies.call reply replied in
        by_reply call reply own (subst (λ y. IsReply (setting_of eq hash mode tables) (coding_of hash) call_trace.begun call_trace.since k
        call_trace.loaded.call y reply) tied.task ends.0) (tied.change ∙ ends.1)
        (λ said e. tied.said said (inl (machine_says r.machine.call reply replied ∙ ap (λ t. result_in_reply t reply) tied.task ∙ e)))
        (subst (λ t. IsEnding t call reply caller h maps) tied.task ending) tied.moments
      where
        answer : (call : Call K V A) (v : Option (Stored K V)) (reply : Reply) → Some k ≡ key_of call → Moments call caller call_trace h maps
            → Does call v reply v → WasAtMoment (setting_of eq hash mode tables) (coding_of hash) call_trace.begun call_trace.since k v
            → AtSomeMoment (λ m. Does call (at_key m (key_of call)) reply (at_key m (key_of call))) caller h maps
        answer call v reply own moments = at_answer call caller call_trace h maps hash mode tables k own moments v reply

        -- only a compute may remove nothing
        no_compute : (task : Task) (call : Call K V A) (refused : Refusal) (X : Type 0) → (task ≡ tasks.Compute → ⊥)
            → IsEnding task call (Refused refused) caller h maps → refused ≡ RemoveNothing → X
        no_compute task call refused X other ending is = absurd (other (ending.nothing (ap Refused is)).0)

        by_reply : (call : Call K V A) (reply : Reply) → Some k ≡ key_of call
            → IsReply (setting_of eq hash mode tables) (coding_of hash) call_trace.begun call_trace.since k call_trace.loaded.call (the_task call) reply
            → change_of caller h ≡ change_of_reply reply → SaidForReply s r (the_task call) reply caller h answers
            → IsEnding (the_task call) call reply caller h maps → Moments call caller call_trace h maps → Fits eq call reply caller h maps
        by_reply (Get j) Done own is change said ending moments = absurd is
        by_reply (Get j) Absent own is change said ending moments = (change, answer (Get j) None Absent own moments refl is)
        by_reply (Get j) (Found n) own (p, number, was) change said ending moments = (change, answer (Get j) (Some p) (Found n) own moments (number, refl) was)
        by_reply (Get j) (Inserted n) own is change said ending moments = absurd is
        by_reply (Get j) (Replaced o n) own is change said ending moments = absurd is
        by_reply (Get j) (Occupied n) own is change said ending moments = absurd is
        by_reply (Get j) (Removed n) own is change said ending moments = absurd is
        by_reply (Get j) (Kept n) own is change said ending moments = absurd is
        by_reply (Get j) (Aborted t) own is change said ending moments = absurd is
        by_reply (Get j) (Refused refused) own is change said ending moments = absurd is
        by_reply (Insert j v) Done own is change said ending moments = absurd is
        by_reply (Insert j v) Absent own is change said ending moments = absurd is
        by_reply (Insert j v) (Found n) own is change said ending moments = absurd is
        by_reply (Insert j v) (Inserted n) own is change said ending moments = change
        by_reply (Insert j v) (Replaced o n) own is change said ending moments = change
        by_reply (Insert j v) (Occupied n) own is change said ending moments = absurd is
        by_reply (Insert j v) (Removed n) own is change said ending moments = absurd is
        by_reply (Insert j v) (Kept n) own is change said ending moments = absurd is
        by_reply (Insert j v) (Aborted t) own is change said ending moments = absurd is
        by_reply (Insert j v) (Refused refused) own is change said ending
            moments = (
              change,
              no_compute (tasks.Insert true) (Insert j v) refused _
                  (λ same. let f : tasks.Insert true ≡ tasks.Compute = same in absurd cc) ending,
            )
        by_reply (TryInsert j v) Done own is change said ending moments = absurd is
        by_reply (TryInsert j v) Absent own is change said ending moments = absurd is
        by_reply (TryInsert j v) (Found n) own is change said ending moments = absurd is
        by_reply (TryInsert j v) (Inserted n) own is change said ending moments = change
        by_reply (TryInsert j v) (Replaced o n) own is change said ending moments = absurd is
        by_reply (TryInsert j v) (Occupied n) own (p, number, was) change said ending
            moments = (change, answer (TryInsert j v) (Some p) (Occupied n) own moments (number, refl) was)
        by_reply (TryInsert j v) (Removed n) own is change said ending moments = absurd is
        by_reply (TryInsert j v) (Kept n) own is change said ending moments = absurd is
        by_reply (TryInsert j v) (Aborted t) own is change said ending moments = absurd is
        by_reply (TryInsert j v) (Refused refused) own is change said ending
            moments = (
              change,
              no_compute (tasks.Insert false) (TryInsert j v) refused _
                  (λ same. let f : tasks.Insert false ≡ tasks.Compute = same in absurd cc) ending,
            )
        by_reply (RemoveIf j a) Done own is change said ending moments = absurd is
        by_reply (RemoveIf j a) Absent own is change said ending moments = (change, answer (RemoveIf j a) None Absent own moments refl is)
        by_reply (RemoveIf j a) (Found n) own is change said ending moments = absurd is
        by_reply (RemoveIf j a) (Inserted n) own is change said ending moments = absurd is
        by_reply (RemoveIf j a) (Replaced o n) own is change said ending moments = absurd is
        by_reply (RemoveIf j a) (Occupied n) own is change said ending moments = absurd is
        by_reply (RemoveIf j a) (Removed n) own is change said ending moments = (change, said (Agrees n true) refl)
        by_reply (RemoveIf j a) (Kept n) own (p, number, was) change said ending
            moments = ((change, answer (RemoveIf j a) (Some p) (Kept n) own moments (number, refl) was), said (Agrees n false) refl)
        by_reply (RemoveIf j a) (Aborted t) own is change said ending moments = absurd is
        by_reply (RemoveIf j a) (Refused refused) own is change said ending
            moments = (change, no_compute tasks.RemoveIf (RemoveIf j a) refused _ (λ same. let f : tasks.RemoveIf ≡ tasks.Compute = same in absurd cc) ending)
        by_reply (Compute j a) Done own is change said ending moments = absurd is
        by_reply (Compute j a) Absent own is change said ending moments = absurd is
        by_reply (Compute j a) (Found n) own is change said ending moments = absurd is
        by_reply (Compute j a) (Inserted n) own is change said ending moments = change
        by_reply (Compute j a) (Replaced o n) own is change said ending moments = change
        by_reply (Compute j a) (Occupied n) own is change said ending moments = absurd is
        by_reply (Compute j a) (Removed n) own is change said ending
            moments = (change, answered_shown caller (Some n) ops.Remove h answers (said (Removes n) refl))
        by_reply (Compute j a) (Kept n) own is change said ending moments = absurd is
        by_reply (Compute j a) (Aborted t) own is change said ending moments =
            let (shown, (last, at)) = ending.aborts t refl in (
              change,
              (
                shown,
                (
                  last,
                  at_weaker (λ m. number_in (m j) ≡ shown)
                      (λ m. (number_in (m j) ≡ shown) × Does (Compute j a) (m j) (Aborted t) (m j)) caller h maps (λ m e. (e, abort_does j a t (m j))) at,
                ),
              ),
            )
        by_reply (Compute j a) (Refused refused) own is change said ending moments = (
          change,
          λ nothing.
              let (computes, (last, at)) = ending.nothing (ap Refused nothing) in (
                last,
                at_weaker (λ m. number_in (m j) ≡ None) (λ m. (number_in (m j) ≡ None) × Does (Compute j a) (m j) (Refused RemoveNothing) (m j))
                    caller h maps (λ m e. (e, nothing_does j a (m j) e)) at,
              ),
        )
        by_reply (Reserve more) reply own is change said ending moments = let f : Some k ≡ None = own in absurd cc
        by_reply CopyAll reply own is change said ending moments = let f : Some k ≡ None = own in absurd cc
        by_reply Clear reply own is change said ending moments = let f : Some k ≡ None = own in absurd cc
        by_reply (Retain a) reply own is change said ending moments = let f : Some k ≡ None = own in absurd cc
        by_reply Walk reply own is change said ending moments = let f : Some k ≡ None = own in absurd cc
