-- A compute after an attempt to make a pair from its closure's result.
use Rattle.std.proofs.Common.{◌≡◌, ◌⊎◌, inl, inr, ⊎_elim, ℕ, Bool, true, Option, None, Some, List, ◌∷◌, refl, sym, ap, ◌∙◌, subst}
use Rattle.std.specs.Cmp.{IsEquivalence}
use Rattle.logbook.specs.Pages.{Book}
use Rattle.papaya_words.specs.Word.{pair_of}
use Rattle.papaya_words.specs.declared.refused.Refused.{Refused as Cause}
use Rattle.papaya_words.specs.declared.refused.Refused.TheVariants.{Capacity, Limit}
use Rattle.papaya_words_law.proofs.Codes.{code_pair}
use Rattle.papaya_words_law.specs.Code.{Coding}
use Rattle.papaya_words_law.specs.Exchange.{Setting}
use Rattle.papaya_call.specs.declared.answers.Operation.{Operation}
use Rattle.papaya_call.specs.declared.answers.Operation.TheVariants as operation
use Rattle.papaya_call.specs.declared.ask.Ask.{Ask}
use Rattle.papaya_call.specs.declared.ask.Ask.TheVariants.{MakePair, MakePairOf, ShowNone, Done}
use Rattle.papaya_call.specs.declared.ask.Answer.{Answer}
use Rattle.papaya_call.specs.declared.ask.Answer.TheVariants.{Made as Made_number, Refused as Was_refused}
use Rattle.papaya_call.specs.declared.call.Reply.{Reply}
use Rattle.papaya_call.specs.declared.call.Reply.TheVariants.{Aborted, Refused as Reply_refused}
use Rattle.papaya_call.specs.declared.compute.Choice.TheVariants.{Replace as To_replace}
use Rattle.papaya_call.specs.declared.compute.Purpose.TheVariants.{Replace, Again}
use Rattle.papaya_call.specs.declared.machine.Machine.{Machine as Call_machine}
use Rattle.papaya_call.specs.declared.machine.State.{State as Stage}
use Rattle.papaya_call.specs.declared.machine.State.TheVariants.{Pairing}
use Rattle.papaya_call.specs.declared.made.Of.{Of}
use Rattle.papaya_call.specs.declared.write.Write.{Write}
use Rattle.papaya_call.specs.Machine as calls
use Rattle.papaya_call.specs.Write.{made_of}
use Rattle.papaya_call.specs.declared.chain.ask.Answer.TheVariants as answers
use Rattle.papaya_call.specs.declared.chain.ask.Ask.TheVariants.{Call}
use Rattle.papaya_call.specs.declared.chain.machine.Machine.{Machine}
use Rattle.papaya_call.specs.declared.chain.machine.Phase.TheVariants.{Calling}
use Rattle.papaya_call.specs.ChainMachine.{IsValid, after, ask_of}
use Rattle.papaya_call_law.specs.Goes.{IsInOrder}
use Rattle.papaya_call_law.proofs.Names.{call_asks}
use Rattle.papaya_call_law.proofs.Once.{chain_once}
use Rattle.papaya_call_law.proofs.Replies.{chain_shows, chain_task}
use Rattle.papaya_call_law.specs.Relies.{IsAtLimit, IsNumberAsk, MayRemove, ReliesStage}
use Rattle.papaya_call_law.specs.Says.{Agrees, HasCalledNone, Inserts, IsAnswered, IsResultBy}
use Rattle.papaya_call_law.specs.Says.{KeepsFill, Makes, MakesPair, Removes, ClosureResult, NamesPairs}
use Rattle.papaya_call_law.specs.Says.{ActsOn, show}
use Rattle.papaya_call_law.specs.TrueAnswers.{LoadedPairs}
use Rattle.papaya_call_law.proofs.SaysSaid.{machine_said}
use Rattle.papaya_map_compute.specs.declared.slow_path.Computing.{Computing}
use Rattle.papaya_map_book.specs.declared.rule.entry.Begun.{Begun}
use Rattle.papaya_map_book.specs.declared.rule.entry.Event.{Event}
use Rattle.papaya_map_book.specs.Hashes.{hash_of}
use Rattle.papaya_map_book.specs.Limits.{HasNoRoom, IsSpent, tables_of}
use Rattle.papaya_map_book.specs.Logs.{Member, Stored, exchanges_of, pair_named}
use Rattle.papaya_map_book.specs.Rule.{IsPlaced}
use Rattle.papaya_map_lookup.specs.History.{key_of}
use Rattle.papaya_map_lookup.specs.Lookups.{coding_for, setting_for}
use Rattle.papaya_map_lookup.proofs.KeptKeys.{met_key}
use Rattle.papaya_map_lookup.proofs.Readings.{hashed_with}
use Rattle.papaya_map_change.specs.declared.writer.Writer.{Writer}
use Rattle.papaya_map_change.specs.ClosureCalls.{HasNoNone}
use Rattle.papaya_map_book.specs.PairParts.{key_in}
use Rattle.papaya_map_book.specs.declared.book.pairs.KeyPart.{KeyPart}
use Rattle.papaya_map_change.specs.Writing.{HasKey, HasKeyAt, IsMemoryCapacityOrLimit, IsNotStored, IsWithoutResult, IsWritingOn, held_value}
use Rattle.papaya_map_change.proofs.StepsOfOwn.{own_order}
use Rattle.papaya_map_change.proofs.Refusals.{refused_for, unsaid_cause, unsaid_room}
use Rattle.papaya_map_change.proofs.Spent.{unsaid_limit}
use Rattle.papaya_map_change.proofs.Written.{own_query}
use Rattle.papaya_map_compute.specs.Computing.{Holds, IsComputing, IsComputingOn, IsMadeOf, IsNewest}
use Rattle.papaya_map_compute.specs.Putting.{PutsChosen}
use Rattle.papaya_map_compute.proofs.AnsweredValues.{answered_ok, answered_refused}
use Rattle.papaya_map_compute.proofs.ChosenChains.{chain_puts}
use Rattle.papaya_map_compute.proofs.ChosenSlots.{machine_choice}
use Rattle.papaya_map_compute.proofs.ComputeOwn.{own_aborted, own_step}
use Rattle.papaya_map_compute.proofs.PairsMade.{IsFilling, IsReplacing, machine_filling, machine_replacing}

-- a pair that was made stays so, when another is made
made_still : {K V T : Type 0} (key : K) (made : List (Stored K V)) (said : List (Option (Stored K V) × Operation V T)) (q : Stored K V)
    (held : Option (Stored K V)) (n : ℕ) (p : Stored K V) → IsMadeOf key made said held n p → IsMadeOf key (q ∷ made) said held n p
made_still key made said q held n p h = record { number = h.number; made_is = inr h.made_is; key_is = h.key_is; said_is = h.said_is }

-- an ask to make a pair does not ask how many numbers were taken
pair_no_number : (ask : Ask) → MakesPair ask → IsNumberAsk ask → ⊥
pair_no_number MakePair makes number = number
pair_no_number (MakePairOf n) makes number = number
pair_no_number ask makes number = absurd makes

-- an answer with which no pair was stored in the arena is no number
unlogged_no_number : (answer : Answer) → IsNotStored answer → (n : ℕ) → answer ≡ Made_number n → ⊥
unlogged_no_number answer unlogged n e =
    ⊎_elim (λ k. ⊎_elim (λ i. let g = sym i ∙ e in cc g) (λ i. let g = sym i ∙ e in cc g) k) (λ i. let g = sym i ∙ e in cc g) unlogged

module _ (m : Machine) (answer : Answer) (ask : Ask) (asks : ask_of m ≡ Call ask) (makes : MakesPair ask) where
  abbrev pub own : (m.phase ≡ Calling) × (calls.ask_of m.call ≡ ask)
  own = call_asks m ask asks

  pub makes_own : MakesPair (calls.ask_of m.call)
  makes_own = subst MakesPair (sym own.1) makes

  pub order : IsInOrder m (answers.Call answer) m.phase
  order = own_order m own.0 answer

  -- its call takes a step of its own
  pub steps : (after m (answers.Call answer)).call ≡ calls.after m.call answer
  steps = own_step m own.0 answer (λ t e. subst MakesPair e makes_own)

  pub not_show : (shown : Option ℕ) → calls.ask_of m.call ≡ show shown → ⊥
  not_show None e = subst MakesPair e makes_own
  not_show (Some n) e = subst MakesPair e makes_own

  not_done : (reply : Reply) → ask_of m ≡ Call (Done reply) → ⊥
  not_done reply e = subst MakesPair (call_asks m (Done reply) e).1 makes_own

  never : ask_of m ≡ Call ShowNone → ⊥
  never e = subst MakesPair (call_asks m ShowNone e).1 makes_own

  -- no call aborts here
  pub no_abort : (with : ℕ) → ask_of (after m (answers.Call answer)) ≡ Call (Done (Aborted with)) → ⊥
  no_abort with e = let s = own_aborted m own.0 answer with not_done e in not_show s.0 s.1

  -- and each fails with the cause in the answer
  pub refused : (holds : Cause → Type 0) → ((cause : Cause) → answer ≡ Was_refused cause → holds cause) → (cause : Cause)
      → ask_of (after m (answers.Call answer)) ≡ Call (Done (Reply_refused cause)) → holds cause
  refused holds told = refused_for m own.0 answer holds never not_done told
      (λ (over : IsAtLimit m.call answer). absurd (pair_no_number (calls.ask_of m.call) makes_own over.4))

module _ {K V S T H : Type 0} (eq : K → K → Bool) (hash : S → K → ℕ) (b : Begun K V S) (name : Book) (key : K) (begun log : List (Event K V S))
    (x : Computing K V S T H) (heard : List (Option (Stored K V) × Operation V T)) (r : IsComputing eq hash b name key begun log x heard)
    (valid : IsValid x.writer.call.machine) where
  abbrev chain : Machine
  chain = x.writer.call.machine

  abbrev m : Call_machine
  m = x.writer.call.machine.call

  abbrev On : Computing K V S T H → Answer → Type 0
  On y answer = IsComputingOn eq hash b name key begun log y heard (Some answer)

  -- the compute with these tokens, after its machine received an answer
  abbrev with_pairs : Writer K V S H → (chosen fill made : Option (Stored K V)) → Computing K V S T H
  with_pairs w chosen fill made = record x { writer = w; chosen = chosen; fill = fill; made = made }

  -- a pair that was made has the key that is in this slot
  abbrev KeepsSlot : Option (Stored K V) → Of → Type 0
  KeepsSlot made new = (q : Stored K V) × (made ≡ Some q) × HasKeyAt log new.table new.index (key_of q)

  module _ (ask : Ask) (asks : ask_of chain ≡ Call ask) (makes : MakesPair ask) where
    goes_on : (made' : List (Stored K V)) (w : Writer K V S H) (chosen fill made : Option (Stored K V)) (answer : Answer) → w.call.machine ≡ chain
        → IsWithoutResult w.call.copier.given.done answer → IsWritingOn eq hash b name key made' begun log w answer → IsPlaced b (Some name) (pair_named chosen)
        → IsPlaced b (Some name) (pair_named fill)
        → ((stands : ClosureResult) → ActsOn (calls.after m answer) stands → Holds key made' heard (with_pairs w chosen fill made) stands)
        → ((i n : ℕ) → ActsOn (calls.after m answer) (Makes (Some i) n) → IsAnswered (calls.after m answer).state
        ⊎ IsNewest (with_pairs w chosen fill made))
        → ((old : ℕ) (new : Of) → (calls.after m answer).remembered.choice ≡ Some (To_replace old new) → KeepsSlot made new)
        → On (with_pairs w chosen fill made) answer
    goes_on made' w chosen fill made answer same unsaid on placed fills stood newest of_slot =
        let given = w.call.copier.given.done in
        let then : after w.call.machine (answers.Call answer) ≡ after chain (answers.Call answer) = ap (λ (z : Machine). after z (answers.Call answer)) same in
        let led = order chain answer ask asks makes in
        let call_is : (after w.call.machine (answers.Call answer)).call ≡ calls.after m answer = ap (λ (z : Machine). z.call) then
        ∙ steps chain answer ask asks makes in (
          record {
            made = made';
            writing = on.0;
            task_is = ap (λ (z : Machine). z.call.task) then ∙ ((chain_task chain (answers.Call answer) led).0 ∙ r.task_is);
            words = subst (λ (z : Machine). NamesPairs z.call) (sym then) (chain_shows chain (answers.Call answer) led r.words);
            puts = subst (λ (z : Machine). PutsChosen z.call) (sym then) (chain_puts chain (answers.Call answer) led r.task_is valid.call r.puts);
            shown_placed = r.shown_placed;
            fill_placed = fills;
            chosen_placed = placed;
            held = r.held;
            none_once = r.none_once;
            none_shown = subst (λ (z : Machine). HasNoNone heard ⊎ HasCalledNone z.call.remembered.fill z.call.state) (sym then)
                (⊎_elim (λ none. inl none) (λ shown. inr (chain_once chain (answers.Call answer) led shown).1) r.none_shown);
            stood = λ stands h. stood stands (subst (λ (z : Call_machine). ActsOn z stands) call_is h);
            newest = λ i n h. ⊎_elim (λ waits. inl (subst (λ (z : Call_machine). IsAnswered z.state) (sym call_is) waits))
                (λ (new : IsNewest (with_pairs w chosen fill made)). inr (record { shown = new.shown; made = new.made }))
                (newest i n (subst (λ (z : Call_machine). ActsOn z (Makes (Some i) n)) call_is h));
            of_slot = λ old new e. of_slot old new (ap (λ (z : Call_machine). z.remembered.choice) (sym call_is) ∙ e);
            aborts = λ with e. absurd (no_abort chain answer ask asks makes with (ap ask_of (sym then) ∙ e));
            refuses = λ cause e. inl (refused chain answer ask asks makes IsMemoryCapacityOrLimit (λ c h. inl (unsaid_cause given answer unsaid c h))
                cause (ap ask_of (sym then) ∙ e));
            crowded = λ e. let initial = (after w.call.machine (answers.Call answer)).call.initial in
                refused chain answer ask asks makes (λ cause. cause ≡ Capacity → HasNoRoom initial (tables_of log) given)
                (unsaid_room initial (tables_of log) given answer unsaid) Capacity (ap ask_of (sym then) ∙ e) refl;
            spent = λ e. refused chain answer ask asks makes (λ cause. cause ≡ Limit → IsSpent b.limit log)
                (unsaid_limit (IsSpent b.limit log) given answer unsaid) Limit (ap ask_of (sym then) ∙ e) refl;
          },
          on.1,
        )

    -- the pairs at hand stay, if the value does
    still : (w : Writer K V S H) → held_value w.value ≡ held_value x.writer.value → (stands : ClosureResult) → Holds key r.made heard x stands
        → Holds key r.made heard (with_pairs w x.chosen x.fill x.made) stands
    still w same (Agrees n agrees) h = h
    still w same (Inserts None) h = (h.0, (h.1.0, same ∙ h.1.1, h.1.2))
    still w same (Inserts (Some n)) h = (h.0, h.1, h.2, (h.3.0, same ∙ h.3.1, h.3.2))
    still w same (Makes None n) h = h
    still w same (Makes (Some i) n) h = h
    still w same (Removes n) h = h

    -- no pair was made
    pub unmade : (w : Writer K V S H) (answer : Answer) → w.call.machine ≡ chain → IsNotStored answer → IsWithoutResult w.call.copier.given.done answer
        → held_value w.value ≡ held_value x.writer.value → IsWritingOn eq hash b name key r.made begun log w answer
        → On (with_pairs w x.chosen x.fill x.made) answer
    unmade w answer same unlogged unsaid kept on = goes_on r.made w x.chosen x.fill x.made answer same unsaid on r.chosen_placed r.fill_placed stood
        newest of_slot
      where
        unsaid_now : (stands : ClosureResult) → IsResultBy m answer stands → ⊥
        unsaid_now (Agrees n agrees) h = not_show chain answer ask asks makes (Some n) h.0
        unsaid_now (Inserts shown) h = not_show chain answer ask asks makes shown h.0
        unsaid_now (Makes shown n) h = unlogged_no_number answer unlogged n h.2
        unsaid_now (Removes n) h = not_show chain answer ask asks makes (Some n) h.0

        before : (stands : ClosureResult) → ActsOn (calls.after m answer) stands → ActsOn m stands
        before stands h = ⊎_elim (λ k. k) (λ k. absurd (unsaid_now stands k)) (machine_said m answer stands valid.call r.words h)

        stood : (stands : ClosureResult) → ActsOn (calls.after m answer) stands → Holds key r.made heard (with_pairs w x.chosen x.fill x.made) stands
        stood stands h = still w kept stands (r.stood stands (before stands h))

        waits_on : IsAnswered m.state → IsAnswered (calls.after m answer).state
        waits_on waits = ⊎_elim
            (λ k. ⊎_elim (λ i. subst (λ (a : Answer). IsAnswered (calls.after m a).state) (sym i) (answered_refused m _ waits))
            (λ i. subst (λ (a : Answer). IsAnswered (calls.after m a).state) (sym i) (answered_refused m _ waits)) k)
            (λ i. subst (λ (a : Answer). IsAnswered (calls.after m a).state) (sym i) (answered_ok m waits))
            unlogged

        newest : (i n : ℕ) → ActsOn (calls.after m answer) (Makes (Some i) n) → IsAnswered (calls.after m answer).state
            ⊎ IsNewest (with_pairs w x.chosen x.fill x.made)
        newest i n h = ⊎_elim (λ waits. inl (waits_on waits))
            (λ (new : IsNewest x). inr (record { shown = new.shown; made = (new.made.0, new.made.1, kept ∙ new.made.2) }))
            (r.newest i n (before (Makes (Some i) n) h))

        of_slot : (old : ℕ) (new : Of) → (calls.after m answer).remembered.choice ≡ Some (To_replace old new) → KeepsSlot x.made new
        of_slot old new e = ⊎_elim (λ choice. r.of_slot old new choice) (λ now. absurd (unlogged_no_number answer unlogged now.1.0 now.1.1))
            (machine_choice m old new answer e)

  -- a pair that has the key which its writer held has the call's
  pub own_key : (q : Stored K V) → ((part : KeyPart K V) → x.writer.key ≡ Some part → key_of q ≡ key_in part) → key_of q ≡ key
  own_key q key_is = by_key x.writer.key refl r.writing.keyed
    where
      by_key : (o : Option (KeyPart K V)) → x.writer.key ≡ o → HasKey b name key o → key_of q ≡ key
      by_key None is has = absurd has
      by_key (Some part) is has = key_is part is ∙ has.0

  module _ (w : Writer K V S H) (same : w.call.machine ≡ chain) (q : Stored K V) (had : held_value x.writer.value ≡ Some q.value.value)
      (left : held_value w.value ≡ held_value x.writer.value) (on : IsWritingOn eq hash b name key (q ∷ r.made) begun log w (Made_number q.index)) where
    -- the closure's result is the pair's value
    value_is : (v : V) (held : Option (Stored K V)) → held_value x.writer.value ≡ Some v → Member (held, operation.Insert v) heard
        → Member (held, operation.Insert q.value.value) heard
    value_is v held e member = let is : v ≡ q.value.value = cc (e, had) in subst (λ (z : V). Member (held, operation.Insert z) heard) is member

    -- the pair was made for an absent key
    pub filled : ask_of chain ≡ Call MakePair → key_of q ≡ key → On (with_pairs w x.chosen (Some q) x.made) (Made_number q.index)
    filled asks key_is = goes_on MakePair asks tt (q ∷ r.made) w x.chosen (Some q) x.made (Made_number q.index) same (λ cause e. absurd (cc e)) on
        r.chosen_placed (on.0.calling.made_placed q (inl refl)) stood newest of_slot
      where
        fills : IsFilling m q.index
        fills = machine_filling m q.index r.task_is valid.call r.words (call_asks chain MakePair asks).1

        stood : (stands : ClosureResult) → ActsOn (calls.after m (Made_number q.index)) stands
            → Holds key (q ∷ r.made) heard (with_pairs w x.chosen (Some q) x.made) stands
        stood stands h =
            let s = r.stood (Inserts None) fills.said in
            subst (λ (z : ClosureResult). Holds key (q ∷ r.made) heard (with_pairs w x.chosen (Some q) x.made) z) (sym (fills.then stands h))
            (q, refl, record { number = refl; made_is = inl refl; key_is = key_is; said_is = value_is s.1.0 None s.1.1 s.1.2 })

        newest : (i n : ℕ) → ActsOn (calls.after m (Made_number q.index)) (Makes (Some i) n)
            → IsAnswered (calls.after m (Made_number q.index)).state ⊎ IsNewest (with_pairs w x.chosen (Some q) x.made)
        newest i n h = let e = fills.then (Makes (Some i) n) h in absurd (cc e)

        of_slot : (old : ℕ) (new : Of) → (calls.after m (Made_number q.index)).remembered.choice ≡ Some (To_replace old new) → KeepsSlot x.made new
        of_slot old new e = let none = sym fills.choice ∙ e in absurd (cc none)

  module _ (i : ℕ) (asks : ask_of chain ≡ Call (MakePairOf i)) where
    abbrev g : Setting (Option K) (Stored K V)
    g = setting_for eq hash b (eq key) (hash b.hasher key) log

    abbrev c : Coding (Option K) (Stored K V)
    c = coding_for hash b.hasher (hash b.hasher key)

    abbrev loaded : LoadedPairs (Stored K V)
    loaded = record { last = x.writer.call.copier.last; made = r.made }

    pub replaces : (n : ℕ) → IsReplacing m i n
    replaces n = machine_replacing m n i r.task_is valid.call r.words (call_asks chain (MakePairOf i) asks).1

    -- it met the pair that the new one is to replace
    abbrev Meets : Write → Type 0
    Meets write = MayRemove g c (exchanges_of begun) r.writing.calling.since (Some key) loaded (record { place = write.place; word = write.old })

    abbrev Stands : Stage → Type 0
    Stands stage = ReliesStage g c (exchanges_of begun) r.writing.calling.since (Some key) loaded m.task stage

    met_new : (write : Write) → m.state ≡ Pairing (Replace write) → Meets write
    met_new write e = let there : Stands (Pairing (Replace write)) = subst Stands e r.writing.calling.relies.call.stage in there.1

    met_again : (write : Write) → m.state ≡ Pairing (Again write) → Meets write
    met_again write e = let there : Stands (Pairing (Again write)) = subst Stands e r.writing.calling.relies.call.stage in there.1

    pub met : (n : ℕ) → Meets (replaces n).write
    met n = ⊎_elim (λ e. met_new (replaces n).write e) (λ e. met_again (replaces n).write e) (replaces n).purpose

    -- the pair for which its closure returned the value that is stored in the arena: the one that
    -- it was called with last
    pub was_shown : (n : ℕ) → (p : Stored K V) × (x.shown ≡ Some p) × (p.index ≡ i)
        × ((v : V) × (held_value x.writer.value ≡ Some v) × Member (Some p, operation.Insert v) heard)
    was_shown n = elim (replaces n).said [
      | inl inserts ↦ r.stood (Inserts (Some i)) inserts
      | inr (j, stood, done) ↦ elim (r.newest i j stood) [
        | inl waits ↦ absurd (done waits)
        | inr new ↦
            let s = r.stood (Makes (Some i) j) stood in
            let one : new.made.0 ≡ s.1 = cc (new.made.1, s.4) in
            (s.0, new.shown ∙ s.2, s.3, (s.1.value.value, new.made.2 ∙ ap (λ (z : Stored K V). Some z.value.value) one, s.5.said_is))
      ]
    ]

    pub some_shown : x.shown ≡ None → ⊥
    some_shown none = let s = was_shown 0 in let e = sym s.1 ∙ none in cc e

    pub some_last : x.writer.call.copier.last ≡ None → ⊥
    some_last none = let e = sym (met 0).last ∙ none in cc e

    -- a pair was made in its place
    module _ (w : Writer K V S H) (same : w.call.machine ≡ chain) (q : Stored K V) (had : held_value x.writer.value ≡ Some q.value.value)
        (left : held_value w.value ≡ held_value x.writer.value) (on : IsWritingOn eq hash b name key (q ∷ r.made) begun log w (Made_number q.index)) where
      -- the compute with them
      abbrev now_with : Stored K V → Computing K V S T H
      now_with p = with_pairs w (Some p) x.fill (Some q)

      pub replaced : (p last : Stored K V) → x.shown ≡ Some p → x.writer.call.copier.last ≡ Some last → p.value ≡ last.value → key_of q ≡ key_of last
          → On (with_pairs w (Some p) x.fill (Some q)) (Made_number q.index)
      replaced p last shown last_is one key_is = goes_on (MakePairOf i) asks tt (q ∷ r.made) w (Some p) x.fill (Some q) (Made_number q.index) same
          (λ cause e. absurd (cc e)) on (subst (λ (o : Option (Stored K V)). IsPlaced b (Some name) (pair_named o)) shown r.shown_placed) r.fill_placed
          stood newest of_slot
        where
          by : IsReplacing m i q.index
          by = replaces q.index

          -- a pair of its key, and of the value that was returned for it
          made_now : IsMadeOf key (q ∷ r.made) heard (Some p) q.index q
          made_now =
              let s = was_shown q.index in
              let this : s.0 ≡ p = cc (s.1, shown) in
              let value : s.3.0 ≡ q.value.value = cc (s.3.1, had) in
              record {
                number = refl;
                made_is = inl refl;
                key_is = key_is ∙ ap (λ z. z.key.value) (sym one);
                said_is = subst (λ (z : Stored K V). Member (Some z, operation.Insert q.value.value) heard) this
                    (subst (λ (z : V). Member (Some s.0, operation.Insert z) heard) value s.3.2);
              }

          number : p.index ≡ i
          number = let s = was_shown q.index in let this : s.0 ≡ p = cc (s.1, shown) in ap (λ (z : Stored K V). z.index) (sym this) ∙ s.2

          fill_still : (j : ℕ) → Holds key r.made heard x (Makes None j) → Holds key (q ∷ r.made) heard (now_with p) (Makes None j)
          fill_still j h = (h.0, h.1, made_still key r.made heard q None j h.0 h.2)

          stood : (stands : ClosureResult) → ActsOn (calls.after m (Made_number q.index)) stands → Holds key (q ∷ r.made) heard (now_with p) stands
          stood stands h = ⊎_elim
              (λ e. subst (λ (z : ClosureResult). Holds key (q ∷ r.made) heard (now_with p) z) (sym e) (p, q, refl, number, refl, made_now))
              (λ (a : KeepsFill m stands). subst (λ (z : ClosureResult). Holds key (q ∷ r.made) heard (now_with p) z) (sym a.1)
              (fill_still a.0 (r.stood (Makes None a.0) (subst (λ (z : ClosureResult). ActsOn m z) a.1 a.2))))
              (by.then stands h)

          newest : (j n : ℕ) → ActsOn (calls.after m (Made_number q.index)) (Makes (Some j) n)
              → IsAnswered (calls.after m (Made_number q.index)).state ⊎ IsNewest (now_with p)
          newest j n h = inr (record { shown = shown; made = (q, refl, left ∙ had) })

          -- the slot for which it was made has this key
          kept_there : HasKeyAt log by.write.place.table by.write.place.probe.i (key_of q)
          kept_there =
              let there = met q.index in
              let this : there.pair ≡ last = cc (there.last, last_is) in
              subst (HasKeyAt log by.write.place.table by.write.place.probe.i) (ap (λ (z : Stored K V). key_of z) this ∙ sym key_is)
              (met_key eq hash b (eq key) (hash b.hasher key) (exchanges_of begun) r.writing.calling.since (Some key) log r.writing.calling.is
              by.write.place by.write.old there.pair there.met)

          of_slot : (old : ℕ) (new : Of) → (calls.after m (Made_number q.index)).remembered.choice ≡ Some (To_replace old new) → KeepsSlot (Some q) new
          of_slot old new e =
              let both : Some (To_replace i (made_of by.write q.index)) ≡ Some (To_replace old new) = sym by.choice ∙ e in
              let this : made_of by.write q.index ≡ new = cc both in
              (q, refl, subst (λ (z : Of). HasKeyAt log z.table z.index (key_of q)) this kept_there)

module _ {K V S T H : Type 0} (eq : K → K → Bool) (input : K → List (List ℕ)) (build : S → H) (write : H → List ℕ → H) (finish : H → ℕ)
    (classes : IsEquivalence eq) (respects : (x y : K) → eq x y ≡ true → input x ≡ input y)
    (b : Begun K V S) (name : Book) (key : K) (begun log : List (Event K V S)) (x : Computing K V S T H)
    (heard : List (Option (Stored K V) × Operation V T)) (r : IsComputing eq (hash_of input build write finish) b name key begun log x heard)
    (valid : IsValid x.writer.call.machine) where
  -- the pair that the closure was called with last and the one that was loaded last have one number
  pub one_number : (i : ℕ) → ask_of x.writer.call.machine ≡ Call (MakePairOf i) → (p last : Stored K V) → x.shown ≡ Some p
      → x.writer.call.copier.last ≡ Some last → p.index ≡ last.index
  one_number i asks p last shown last_is =
      let hash = hash_of input build write finish in
      let hashed = hashed_with eq input build write finish classes respects b (eq key) (input key)
      (own_query eq input build write finish classes respects b name key) log r.writing.calling.lawful in
      let s = was_shown eq hash b name key begun log x heard r valid i asks 0 in
      let by = replaces eq hash b name key begun log x heard r valid i asks 0 in
      let there = met eq hash b name key begun log x heard r valid i asks 0 in
      let this : s.0 ≡ p = cc (s.1, shown) in
      let that : there.pair ≡ last = cc (there.last, last_is) in
      let number : i ≡ there.pair.index = sym by.number
      ∙ (ap pair_of there.met.as_loaded ∙ code_pair _ _ hashed.coding there.met.was there.pair there.met.names) in
      ap (λ (z : Stored K V). z.index) (sym this) ∙ (s.2 ∙ (number ∙ ap (λ (z : Stored K V). z.index) that))
