-- After a step a call over a chain still has the value of the pair that it is to make, and whatever
-- it asks for is made or refused.
use Rattle.std.proofs.Common.{◌≡◌, ◌⊎◌, inl, inr, ℕ, ◌+◌, Bool, None, Some, length, refl, sym, ◌∙◌, ap, subst}
use Rattle.papaya_words.specs.declared.limits.TheConstants.{MAX_LOG_LEN, MAX_TABLES}
use Rattle.papaya_words.specs.declared.refused.Refused.TheVariants.{Memory}
use Rattle.papaya_call.specs.declared.ask.Ask.{Ask as Call_ask}
use Rattle.papaya_call.specs.declared.ask.Ask.TheVariants.{Load, Exchange, LoadHint, WriteHint}
use Rattle.papaya_call.specs.declared.ask.Ask.TheVariants.{SameKey, ShowNone, ShowPair, SizeOf}
use Rattle.papaya_call.specs.declared.ask.Ask.TheVariants.{MakeKey, MakeValue, MakePair, MakePairOf}
use Rattle.papaya_call.specs.declared.ask.Ask.TheVariants.{MakeTable, AddToShard, Done as Ask_done}
use Rattle.papaya_call.specs.declared.ask.Answer.{Answer as Call_answer}
use Rattle.papaya_call.specs.declared.ask.Answer.TheVariants.{Word as Word_read}
use Rattle.papaya_call.specs.declared.ask.At.TheVariants.{Next}
use Rattle.papaya_call.specs.declared.call.Reply.{Reply}
use Rattle.papaya_call.specs.declared.call.Reply.TheVariants.{Refused as Reply_refused}
use Rattle.papaya_call.specs.declared.call.Task.{Task}
use Rattle.papaya_call.specs.declared.call.Task.TheVariants as tasks
use Rattle.papaya_call.specs.declared.search.Search.TheVariants.{Sizing}
use Rattle.papaya_call.specs.Answers.{Says, op_kind}
use Rattle.papaya_call.specs.declared.machine.Machine.{Machine as Call_machine}
use Rattle.papaya_call.specs.declared.machine.State.{State as Stage}
use Rattle.papaya_call.specs.declared.machine.State.TheVariants.{AtRoot, Searching, Pairing, Ended}
use Rattle.papaya_call.specs.declared.compute.Purpose.{Purpose}
use Rattle.papaya_call.specs.Machine.{HasClosure, IsValidState, IsWriter}
use Rattle.papaya_call.specs.Machine as call_machine
use Rattle.papaya_call.specs.declared.chain.ask.Ask.{Ask}
use Rattle.papaya_call.specs.declared.chain.ask.Ask.TheVariants as asks
use Rattle.papaya_call.specs.declared.chain.ask.Answer.{Answer}
use Rattle.papaya_call.specs.declared.chain.ask.Answer.TheVariants as answers
use Rattle.papaya_call.specs.declared.chain.machine.Phase.{Phase}
use Rattle.papaya_call.specs.declared.chain.machine.Phase.TheVariants.{Calling, Linking, Copying as Copying_root}
use Rattle.papaya_call.specs.ChainMachine.{after, ask_of, asks_in}
use Rattle.papaya_call_law.specs.Goes.{IsInOrder}
use Rattle.papaya_call_law.specs.ChainRelies.{left_by}
use Rattle.papaya_call_law.proofs.Goes.{machine_goes}
use Rattle.papaya_call_law.proofs.Replies.{aside_asks, chain_task}
use Rattle.papaya_call_law.specs.Alone as alone
use Rattle.papaya_call_alone.specs.Prompt.{IsServed, IsServedAsk}
use Rattle.papaya_core_store.specs.declared.pairs.Running.{Running}
use Rattle.papaya_core_store.specs.Asks.{PerformsAsk}
use Rattle.papaya_core_store.specs.Performs.{HasNoPair, HasNoPairOf, IsPutOff, PushesOf, PushesOwn, MakesOr, MakesTable, Performs, Refuses, ShowsPair, Stays}
use Rattle.papaya_core_store.proofs.Logs.{pair_entry}
use Rattle.papaya_call_law.specs.Says.{MakesPair}
use Rattle.papaya_core_store.specs.Store.{StoreState, Stored, pair_of}
use Rattle.papaya_core_timeline.specs.Ends.{HasValue, IsMaker, IsThere, IsToPair}
use Rattle.papaya_core_timeline.proofs.KeptMade.{refusal}
use Rattle.papaya_core_timeline.proofs.MakerLemmas.{answered_there, makes_for, shows_closure, shows_none, value_there}
use Rattle.papaya_core_timeline.proofs.PairsBefore.{pairs_before}
use Rattle.papaya_core_timeline.proofs.StoreLemmas.{matched}

module _ {K V S A : Type 0} (eq : K → K → Bool) (says : Says K V A) (hash : S → K → ℕ) (refuse : Bool) (s : StoreState K V S) (r : Running K V A)
    (answer : Answer) (s' : StoreState K V S) (r' : Running K V A) (performs : PerformsAsk eq says hash refuse (ask_of r.machine) s r answer s' r')
    (valid : IsValidState r.machine.call.task r.machine.call.state) (maker : IsMaker r) where
  -- the call, without its chain
  abbrev call : Call_machine
  call = r.machine.call

  -- a call that is set aside stays
  aside_same : (t : ℕ) → left_by call.state ≡ Some t → r' ≡ r
  aside_same t left = in_phase r.machine.phase performs
    where
      in_phase : (phase : Phase) → PerformsAsk eq says hash refuse (asks_in call phase) s r answer s' r' → r' ≡ r
      in_phase Calling (told, is, h) = let loads : Performs eq says refuse (Load (Next t)) s r told s'
          r' = subst (λ ask. Performs eq says refuse ask s r told s' r') (aside_asks call.made call.hash call.state t left) h in loads.1.1
      in_phase (Linking link) (h, same) = same
      in_phase (Copying_root copying) (h, same) = same

  -- its value stays there
  stays_there : IsThere r.value → IsThere r'.value
  stays_there = by_ask (ask_of r.machine) performs
    where
      by_ask : (ask : Ask) → PerformsAsk eq says hash refuse ask s r answer s' r' → IsThere r.value → IsThere r'.value
      by_ask (asks.Call ask) (told, is, h) there = value_there eq says refuse s r told s' r' ask h there
      by_ask (asks.Copy ask) (h, same) there = subst IsThere (sym (ap (λ (y : Running K V A). y.value) same)) there

  -- an insertion has its own
  kept_value : (task : Task) → HasValue task r.value → HasValue task r'.value
  kept_value tasks.Get v = tt
  kept_value (tasks.Insert replace) there = stays_there there
  kept_value tasks.RemoveIf v = tt
  kept_value tasks.Compute v = tt

  -- if only the stage differs, and makes no pair
  pairs_still : (stage : Stage) → ((purpose : Purpose) → stage ≡ Pairing purpose → ⊥) → IsToPair (record call { state = stage }) → IsThere r'.value
  pairs_still stage unpaired (inl (purpose, e)) = absurd (unpaired purpose e)
  pairs_still stage unpaired (inr choice) = stays_there (maker.answered (inr choice))

  -- if it continues for itself
  pairs_own : (told : Call_answer) → r.machine.phase ≡ Calling → answer ≡ answers.Call told → IsToPair (call_machine.after call told) → IsThere r'.value
  pairs_own told calling is pairs =
      let (other, also, h) = subst (λ phase. PerformsAsk eq says hash refuse (asks_in call phase) s r answer s' r') calling performs in
      let f : answers.Call other ≡ answers.Call told = sym also ∙ is in
      let same : other ≡ told = cc in
      elim (pairs_before call told pairs) [
        | inl before ↦ stays_there (maker.answered before)
        | inr (said, shown) ↦ answered_there eq says refuse s r other s' r' (call_machine.ask_of call) h (same ∙ said) shown
      ]

  -- the same after each step
  pub next_maker : IsInOrder r.machine answer r.machine.phase → IsMaker (record r' { machine = after r.machine answer })
  next_maker order = record {
    value = subst (λ task. HasValue task r'.value) (sym (chain_task r.machine answer order).0) (kept_value call.task maker.value);
    answered = λ pairs. elim (machine_goes r.machine answer order) [
      | inl waits ↦ stays_there (maker.answered (subst IsToPair waits.call pairs))
      | inr (inl own) ↦ pairs_own own.told own.phase own.is (subst IsToPair own.call pairs)
      | inr (inr (inl enters)) ↦ pairs_still (Searching (Sizing enters.table)) (λ purpose e. absurd cc) (subst IsToPair enters.call pairs)
      | inr (inr (inr (inl begins))) ↦ elim (pairs_before (record call { state = AtRoot }) (Word_read begins.root) (subst IsToPair begins.call pairs)) [
        | inl before ↦ pairs_still AtRoot (λ purpose e. absurd cc) before
        | inr (said, shown) ↦ absurd (cc said)
      ]
      | inr (inr (inr (inr ends))) ↦ pairs_still (Ended (Reply_refused ends.refused)) (λ purpose e. absurd cc) (subst IsToPair ends.call pairs)
    ];
  }

  module _ (has : HasClosure call.task → IsThere r.answers)
      (shows : (n : ℕ) → ask_of r.machine ≡ asks.Call (ShowPair n) → (p : Stored K V) × (pair_of s n ≡ Some p))
      (as_loaded : (n : ℕ) → ask_of r.machine ≡ asks.Call (MakePairOf n) → (p : Stored K V) × (pair_of s n ≡ Some p))
      (going : (reply : Reply) → ask_of r.machine ≡ asks.Call (Ask_done reply) → ⊥) where
    -- a key and a value are put off, or refused
    part_served : (told : Call_answer) → MakesOr refuse told s r s' r' (IsPutOff told s r s' r') → alone.IsMaking told
    part_served told h = matched (alone.IsMaking told) refuse _ _ h (λ _ none. inr (Memory, none.0)) (λ _ off. inl (0, off.0))

    -- a call that makes a pair has its value
    writer_value : (task : Task) → IsWriter task → HasValue task r.value → IsThere r.value
    writer_value (tasks.Insert replace) writes v = v
    writer_value task writes v = absurd writes

    has_value : MakesPair (call_machine.ask_of call) → IsThere r.value
    has_value makes = elim (makes_for call valid makes) [ inl writes ↦ writer_value call.task writes maker.value | inr pairs ↦ maker.answered pairs ]

    -- a pair is made, or refused
    own_served : (told : Call_answer) → IsThere r.value → Performs eq says refuse MakePair s r told s' r' → alone.IsMaking told
    own_served told value h = matched (alone.IsMaking told) refuse _ _ h (λ _ none. inr (Memory, none.0)) (λ _ makes. by_cases makes)
      where
        by_cases : (Refuses MAX_LOG_LEN (length s.pairs) told × Stays s r s' r') ⊎ (HasNoPair told r × Stays s r s' r') ⊎ PushesOwn told s r s' r'
            → alone.IsMaking told
        by_cases (inl (none, stays)) = inr (refusal _ _ told none)
        by_cases (inr (inl ((is, none), stays))) = let f : None ≡ Some value.0 = sym none ∙ value.1 in absurd cc
        by_cases (inr (inr (part, has, is, few, grown, later))) = inl (length s.pairs, is)

    of_served : (told : Call_answer) (n : ℕ) (p : Stored K V) → pair_of s n ≡ Some p → IsThere r.value
        → Performs eq says refuse (MakePairOf n) s r told s' r' → alone.IsMaking told
    of_served told n p there value h = matched (alone.IsMaking told) refuse _ _ h (λ _ none. inr (Memory, none.0)) (λ _ makes. by_cases makes)
      where
        by_cases : (Refuses MAX_LOG_LEN (length s.pairs) told × Stays s r s' r') ⊎ (HasNoPairOf n told s r × Stays s r s' r')
            ⊎ PushesOf n told s r s' r' → alone.IsMaking told
        by_cases (inl (none, stays)) = inr (refusal _ _ told none)
        by_cases (inr (inl ((is, inl none), stays))) = let f : None ≡ Some value.0 = sym none ∙ value.1 in absurd cc
        by_cases (inr (inl ((is, inr none), stays))) = let e = pair_entry s n p there in let f : None ≡ Some e.entry = sym none ∙ e.there in absurd cc
        by_cases (inr (inr (first, from, (part, has, is, few, grown, later)))) = inl (length s.pairs, is)

    -- and a table
    table_served : (told : Call_answer) (slots limit chunks : ℕ) → Performs eq says refuse (MakeTable slots limit chunks) s r told s' r' → alone.IsMaking told
    table_served told slots limit chunks h = matched (alone.IsMaking told) refuse _ _ h (λ _ none. inr (Memory, none.0)) (λ _ makes. by_cases makes.0)
      where
        by_cases : (Refuses MAX_TABLES (length s.words.tables) told × (s' ≡ s)) ⊎ MakesTable told slots limit chunks s s' → alone.IsMaking told
        by_cases (inl (none, same)) = inr (refusal _ _ told none)
        by_cases (inr (is, few, grown)) = inl (length s.words.tables + 1, is)

    -- a closure has answers
    no_answers : HasClosure call.task → r.answers ≡ None → ⊥
    no_answers closure none = let a = has closure in let f : None ≡ Some a.0 = sym none ∙ a.1 in cc

    -- the answer to a call of the closure with a pair is one that its task allows
    pair_said : (told : Call_answer) (n : ℕ) → ((p : Stored K V) × (pair_of s n ≡ Some p)) → (task : Task) → call.task ≡ task → HasClosure task
        → ShowsPair task says n s r told s' r' → alone.IsClosureAnswer task told
    pair_said told n there tasks.Get e closure h = absurd closure
    pair_said told n there (tasks.Insert replace) e closure h = absurd closure
    pair_said told n there tasks.RemoveIf e closure (inl (inl none, h)) = absurd (no_answers (subst HasClosure (sym e) tt) none)
    pair_said told n there tasks.RemoveIf e closure (inl (inr none, h)) = let f : None ≡ Some there.0 = sym none ∙ there.1 in absurd cc
    pair_said told n there tasks.RemoveIf e closure (inr (a, p, agrees, a', has, is_there, gives, is, same, later)) = (agrees, is)
    pair_said told n there tasks.Compute e closure (inl (inl none, h)) = absurd (no_answers (subst HasClosure (sym e) tt) none)
    pair_said told n there tasks.Compute e closure (inl (inr none, h)) = let f : None ≡ Some there.0 = sym none ∙ there.1 in absurd cc
    pair_said told n there tasks.Compute e closure (inr (p, is_there, (a, op, a', has, gives, is, same, later))) = (op_kind op, is)

    -- for each ask
    served : (ask : Call_ask) (told : Call_answer) → call_machine.ask_of call ≡ ask → asks.Call ask ≡ ask_of r.machine
        → Performs eq says refuse ask s r told s' r' → IsServed call.task ask told
    served (Load at) told own e h = tt
    served (Exchange at old new) told own e h = tt
    served (LoadHint t x) told own e h = tt
    served (WriteHint t x hint) told own e h = tt
    served (SameKey n) told own e h = tt
    served ShowNone told own e (inl (none, h)) = absurd (no_answers (shows_none call valid own) none)
    served ShowNone told own e (inr (a, op, a', has, gives, is, same, later)) = (op_kind op, is)
    served (ShowPair n) told own e h = pair_said told n (shows n (sym e)) call.task refl (shows_closure call valid n own) h
    served (SizeOf n) told own e h = tt
    served MakeKey told own e h = part_served told h
    served MakeValue told own e h = part_served told h
    served MakePair told own e h = own_served told (has_value (subst MakesPair (sym own) tt)) h
    served (MakePairOf n) told own e h = let (p, there) = as_loaded n (sym e) in of_served told n p there (has_value (subst MakesPair (sym own) tt)) h
    served (MakeTable slots limit chunks) told own e h = table_served told slots limit chunks h
    served (AddToShard by) told own e h = tt
    served (Ask_done reply) told own e h = absurd (going reply (sym e))

    -- and in each phase
    pub ask_served : IsServedAsk call.task (ask_of r.machine) answer
    ask_served = in_phase r.machine.phase refl performs
      where
        in_phase : (phase : Phase) → r.machine.phase ≡ phase → PerformsAsk eq says hash refuse (asks_in call phase) s r answer s' r'
            → IsServedAsk call.task (asks_in call phase) answer
        in_phase Calling e (told, is, h) =
            subst (IsServedAsk call.task (asks.Call (call_machine.ask_of call))) (sym is)
            (served (call_machine.ask_of call) told refl (sym (ap (asks_in call) e)) h)
        in_phase (Linking link) e h = tt
        in_phase (Copying_root copying) e h = tt
