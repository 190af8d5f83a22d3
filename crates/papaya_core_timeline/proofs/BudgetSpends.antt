-- An answered ask spends as much of the budget as the law of a lone call requires.
use Rattle.std.proofs.Common.{◌≡◌, ◌⊎◌, inl, inr, ℕ, ◌+◌, ◌-◌, ◌^◌, ◌==◌, ◌<◌, ◌≤◌, Bool, true}
use Rattle.std.proofs.Common.{Option, Some, None, List, [], ◌∷◌, ◌++◌, length, refl, sym, ◌∙◌, ap}
use Rattle.std.proofs.Common.{subst, arith, eqb-true, length-append}
use Rattle.std.proofs.Math.Nat.{div-le_self}
use Rattle.papaya_words.specs.Chunks.{chunk_len}
use Rattle.papaya_words.specs.Table.{TableWords, new_table}
use Rattle.papaya_words.specs.declared.limits.TheConstants.{MAX_TABLES}
use Rattle.papaya_call.specs.Answers.{Says}
use Rattle.papaya_call.specs.declared.ask.At.{At}
use Rattle.papaya_call.specs.declared.ask.At.TheVariants.{Root}
use Rattle.papaya_call.specs.declared.ask.Ask.{Ask as Call_ask}
use Rattle.papaya_call.specs.declared.ask.Ask.TheVariants.{Load, Exchange as Ask_exchange, SameKey}
use Rattle.papaya_call.specs.declared.ask.Ask.TheVariants.{ShowNone, ShowPair, SizeOf, MakeKey}
use Rattle.papaya_call.specs.declared.ask.Ask.TheVariants.{MakeValue, MakePair, MakePairOf}
use Rattle.papaya_call.specs.declared.ask.Ask.TheVariants.{MakeTable, AddToShard, Done as Ask_done}
use Rattle.papaya_call.specs.declared.ask.Ask.TheVariants.{LoadHint, WriteHint}
use Rattle.papaya_call.specs.declared.ask.Answer.{Answer as Call_answer}
use Rattle.papaya_call.specs.declared.ask.Answer.TheVariants.{Made as Made_number, Refused as Was_refused}
use Rattle.papaya_call.specs.declared.ask.StepKind.{StepKind}
use Rattle.papaya_call.specs.declared.ask.StepKind.TheVariants as kinds
use Rattle.papaya_call.specs.declared.copy_ask.CopyAsk.{CopyAsk}
use Rattle.papaya_call.specs.declared.copy_ask.CopyAsk.TheVariants as copies
use Rattle.papaya_call.specs.Search.{IsSize}
use Rattle.papaya_words_law.specs.Allows.{AllAllowed, Allows}
use Rattle.papaya_words_law.specs.Class.{IsOn}
use Rattle.papaya_words_law.specs.Code.{Coding, IsHashed}
use Rattle.papaya_words_law.specs.Exchange.{Setting, State, Exchange, after as state_after, run, start}
use Rattle.papaya_words_law.specs.Invariant.{IsSound}
use Rattle.papaya_words_law.specs.Meaning.{map_left}
use Rattle.papaya_words_law.proofs.Logs.{on_comes}
use Rattle.papaya_words_law.proofs.OneMap.{keeping, keeping_sound}
use Rattle.papaya_call_law.specs.TrueAnswers.{IsAsked, IsWritten, word_of}
use Rattle.papaya_call_law.specs.Copier.{IsCopyAsked}
use Rattle.papaya_call.specs.declared.chain.ask.Ask.{Ask}
use Rattle.papaya_call.specs.declared.chain.ask.Ask.TheVariants as asks
use Rattle.papaya_call.specs.declared.chain.ask.Answer.{Answer}
use Rattle.papaya_call.specs.declared.chain.ask.Answer.TheVariants as answers
use Rattle.papaya_call.specs.ChainMachine.{ask_of, kind_of_ask}
use Rattle.papaya_call_alone.specs.Budget.{Spends, SpendsCall, SpendsCopy, SpendsExchange}
use Rattle.papaya_call_alone.specs.Prompt.{IsBounded}
use Rattle.papaya_core_store.specs.declared.pairs.Running.{Running}
use Rattle.papaya_core_store.specs.Asks.{PerformsAsk}
use Rattle.papaya_core_store.specs.CopyAsks.{PerformsCopy}
use Rattle.papaya_core_store.specs.Performs.{Exchanges, MakesTable, Performs, Refuses}
use Rattle.papaya_core_store.specs.Store.{StoreState, Stored}
use Rattle.papaya_core_store.specs.Tables.{Tables, note, put, table_of, word_at}
use Rattle.papaya_core_timeline.specs.declared.seat.Seat.{Seat}
use Rattle.papaya_core_timeline.specs.Callers.{running}
use Rattle.papaya_core_timeline.specs.Core.{IsCore}
use Rattle.papaya_core_timeline.specs.Ends.{budget_in, budget_of, exchanges_in}
use Rattle.papaya_core_timeline.specs.Kept.{CallTrace, IsCall, IsConsistent, IsMade, coding_of, low, places_in, setting_of, slots_in}
use Rattle.papaya_core_timeline.proofs.BudgetLaw.{IsFewer, call_chunk, call_fewer, copy_chunk, copy_fewer}
use Rattle.papaya_core_timeline.proofs.BudgetTables.{IsChunkOf, changes_at, exchanges_few, noted-budget, placed-changes}
use Rattle.papaya_core_timeline.proofs.KeptExchange.{changes, root_empty}
use Rattle.papaya_core_timeline.proofs.KeptMade.{refusal}
use Rattle.papaya_core_timeline.proofs.KeptSettings.{IsLawfulKeys, tables_hashed}
use Rattle.papaya_core_timeline.proofs.KeptTables.{IsPlaced, placed-many, table_low}
use Rattle.papaya_core_timeline.proofs.KeptWritten.{asked_call, asked_copy, placed_call, placed_copy}
use Rattle.papaya_core_timeline.proofs.ShowLemmas.{none_shown, pair_shown}
use Rattle.papaya_core_timeline.proofs.StoreLemmas.{LogsOrNot, matched, of_logs, own_logs, part_logs}
use Rattle.papaya_core_store.specs.declared.store.Mode.{Mode}

module _ (w : Tables) (at : At) (new : ℕ) (placed : IsPlaced w.tables at) (chunk_is : IsChunkOf at) where
  -- a write spends no table
  write_tables : (budget_in (put w at new)).tables ≡ (budget_in w).tables
  write_tables = ap (λ n. 2 ^ 32 - n) (placed-many w at new placed)

  -- it spends an exchange if its word may change less often after it
  pub write_spends : changes_at (length w.tables) at new < changes_at (length w.tables) at (word_at w at)
      → ((budget_in (put w at new)).tables ≡ (budget_in w).tables) × ((budget_in (put w at new)).exchanges < (budget_in w).exchanges)
  write_spends less = (write_tables, let change = placed-changes w at new placed chunk_is in omega (arith, change, less))

  -- and leaves the budget if it may change as often
  write_leaves : changes_at (length w.tables) at new ≡ changes_at (length w.tables) at (word_at w at) → budget_in (put w at new) ≡ budget_in w
  write_leaves same =
      let many = write_tables in
      let as_many : exchanges_in (put w at new) ≡ exchanges_in w = let change = placed-changes w at new placed chunk_is in omega (arith, change, same) in
      ap (λ n. record { tables = n; exchanges = exchanges_in (put w at new) }) many
      ∙ ap (λ n. record { tables = 2 ^ 32 - length w.tables; exchanges = n }) as_many

  -- by its kind
  write_spends_kind : (kind : Option StepKind) → IsFewer kind (changes_at (length w.tables) at new) (changes_at (length w.tables) at (word_at w at))
      → SpendsExchange kind (budget_in w) (budget_in (put w at new))
  write_spends_kind (Some kinds.Replace) h = write_leaves h
  write_spends_kind (Some kinds.Take) h = write_leaves h
  write_spends_kind kind h = write_spends h

-- a table that is made is spent
made_spends : (w : Tables) (n slots limit chunks : ℕ) → length w.tables < MAX_TABLES
    → (budget_in (record w { tables = w.tables ++ new_table n slots limit chunks ∷ [] })).tables < (budget_in w).tables
made_spends w n slots limit chunks few = let more : length (w.tables ++ new_table n slots limit chunks ∷ []) ≡ length w.tables + 1 = length-append
    w.tables (new_table n slots limit chunks ∷ []) in omega (arith, more, few)

module _ {K V S A : Type 0} (eq : K → K → Bool) (hash : K → ℕ) (law : IsLawfulKeys eq hash) (mode : Mode) (store : StoreState K V S)
    (callers : List (Seat K V A)) (core : IsCore store callers mode)
    (es : List (Exchange (Stored K V))) (call_traces : ℕ → CallTrace K V) (kept : IsConsistent eq hash mode store callers es call_traces) where
  -- the setting, the coding and the state
  abbrev g : Setting K (Stored K V)
  g = setting_of eq (low hash) mode store.words.tables

  abbrev c : Coding K (Stored K V)
  c = coding_of (low hash)

  abbrev now : State (Stored K V)
  now = run es start

  hashed : IsHashed g c
  hashed = tables_hashed eq hash law mode store.words.tables core.sizes

  sound : IsSound g now
  sound = keeping_sound g now (map_left g es) (keeping g hashed.lawful es kept.allowed)

  -- a table that was made has a number no greater than how many there are
  pub made_low : (t : ℕ) → IsMade store t → t ≤ length store.words.tables
  made_low t (words, there) = table_low store.words.tables t words there

  -- and so has a table of the chain
  on_made : (t : ℕ) → IsOn now.first now.next t → IsMade store t
  on_made t on = kept.made t on.0 (on_comes now t on)

  -- each table has a size of tables
  slots_most : (t : ℕ) → g.size t ≤ 2 ^ 32
  slots_most t = by_table (table_of store.words.tables t) refl
    where
      by_table : (o : Option TableWords) → table_of store.words.tables t ≡ o → slots_in o ≤ 2 ^ 32
      by_table None e = omega arith
      by_table (Some words) e = (core.sizes t words e).most

  -- a slot's chunk has no greater number than the slot
  cut_low : (x : ℕ) → g.chunk_of x ≤ x
  cut_low x = div-le_self x (chunk_len mode.resize)

  -- the words are within bounds
  pub kept_bounded : IsBounded g now
  kept_bounded = record {
    number = λ t on. let less = made_low t (on_made t on) in let few = kept.tables_few in omega (arith, less, few);
    size = λ t limit on places.
        let made = on_made t on in
        let within : limit + 1 ≡ made.0.limit + 1 = places ∙ ap places_in made.1 in
        let same : made.0.limit ≡ limit = omega (arith, within) in
        subst (λ n. IsSize n limit) (sym (ap slots_in made.1)) (subst (IsSize (length made.0.slots)) same (core.sizes t made.0 made.1));
  }

  -- after any answer the exchanges in the budget are within a bound
  pub budget_bounded : (budget_of store).exchanges < 2 ^ 128
  budget_bounded = exchanges_few store.words kept.tables_few (λ n t there. (core.sizes n t there).most)

  module _ (store' : StoreState K V S) where
    -- the budget after an answer that leaves the words as they are
    pub same_words : store' ≡ store → budget_of store' ≡ budget_of store
    same_words same = ap (λ (y : StoreState K V S). budget_of y) same

    -- and after one that writes a hint
    pub noted_words : (t x hint : ℕ) → store' ≡ record store { words = note store.words t x hint } → budget_of store' ≡ budget_of store
    noted_words t x hint same = ap (λ (y : StoreState K V S). budget_of y) same ∙ noted-budget store.words t x hint

    -- a table, made or refused
    pub made_or : (told : Call_answer) (slots limit chunks : ℕ) (R : Call_answer → Type 0)
        → ((n : ℕ) → (budget_of store').tables < (budget_of store).tables → R (Made_number n))
        → ((refused : _) → budget_of store' ≡ budget_of store → R (Was_refused refused))
        → (Refuses MAX_TABLES (length store.words.tables) told × (store' ≡ store)) ⊎ MakesTable told slots limit chunks store store' → R told
    made_or told slots limit chunks R made none (inl (refuses, same)) = let no = refusal _ _ told refuses in subst R (sym no.1) (none no.0 (same_words same))
    made_or told slots limit chunks R made none (inr (is, few, grown)) =
        subst R (sym is) (made (length store.words.tables + 1)
        (subst (λ (y : StoreState K V S). (budget_of y).tables < (budget_of store).tables) (sym grown)
        (made_spends store.words (length store.words.tables + 1) slots limit chunks few)))

    -- asks of a copy, if each exchange that is made spends one
    module _ (hashes : S → K → ℕ) (refuse : Bool) where
      -- an exchange that was made spends one
      abbrev pub IsSpentAt : At → ℕ → Type 0
      IsSpentAt at new = ((budget_in (put store.words at new)).tables ≡ (budget_of store).tables)
          × ((budget_in (put store.words at new)).exchanges < (budget_of store).exchanges)

      pub copied_spends : (ask : CopyAsk) → ((at : At) (old new : ℕ) → ask ≡ copies.Exchange at old new → (word_at store.words at == old) ≡ true
          → IsSpentAt at new) → (answer : Answer) → PerformsCopy eq hashes refuse ask store answer store'
          → SpendsCopy ask answer (budget_of store) (budget_of store')
      copied_spends (copies.Load at) spent answer (is, same) = same_words same
      copied_spends (copies.Exchange at old new) spent answer (told, is, h) =
          subst (λ y. SpendsCopy (copies.Exchange at old new) y (budget_of store) (budget_of store')) (sym is)
          (matched (SpendsCopy (copies.Exchange at old new) (answers.Call told) (budget_of store) (budget_of store')) (word_at store.words at == old) _ _ h
          (λ hit done. subst (λ y. SpendsCopy (copies.Exchange at old new) (answers.Call y) (budget_of store) (budget_of store')) (sym done.0)
          (subst (λ (y : StoreState K V S). ((budget_of y).tables ≡ (budget_of store).tables)
          × ((budget_of y).exchanges < (budget_of store).exchanges)) (sym done.1) (spent at old new refl hit)))
          (λ miss lost. subst (λ y. SpendsCopy (copies.Exchange at old new) (answers.Call y) (budget_of store) (budget_of store')) (sym lost.0)
          (same_words lost.1)))
      copied_spends (copies.LoadHint t x) spent answer (is, same) = same_words same
      copied_spends (copies.WriteHint t x hint) spent answer (is, same) = noted_words t x hint same
      copied_spends (copies.SizeOf n) spent answer (is, same) = same_words same
      copied_spends (copies.HashOf n) spent answer (is, fits, same) = same_words same
      copied_spends (copies.SamePair m n) spent answer (is, same) = same_words same
      copied_spends copies.Count spent answer (is, same) = same_words same
      copied_spends (copies.MakeTable slots limit chunks) spent answer (told, is, h) =
          subst (λ y. SpendsCopy (copies.MakeTable slots limit chunks) y (budget_of store) (budget_of store')) (sym is)
          (matched (SpendsCopy (copies.MakeTable slots limit chunks) (answers.Call told) (budget_of store) (budget_of store')) refuse _ _ h
          (λ _ none. subst (λ y. SpendsCopy (copies.MakeTable slots limit chunks) (answers.Call y) (budget_of store) (budget_of store')) (sym none.0)
          (same_words none.1))
          (λ _ makes. made_or told slots limit chunks
          (λ y. SpendsCopy (copies.MakeTable slots limit chunks) (answers.Call y) (budget_of store) (budget_of store')) (λ n less. less)
          (λ refused same. same) makes))

  -- an exchange that was made for a copy, whichever machine asked for it
  pub copy_spent : (at : At) (new : ℕ) (kind : _) (kept_pair : Option (Stored K V)) (e : Exchange (Stored K V))
      → IsCopyAsked c kind at new now kept_pair e → Allows g now e → IsWritten g c now at new (state_after now e) → IsPlaced store.words.tables at
      → ((budget_in (put store.words at new)).tables ≡ (budget_of store).tables) × ((budget_in (put store.words at new)).exchanges < (budget_of store).exchanges)
  copy_spent at new kind kept_pair e is allows written placed =
      write_spends store.words at new placed (copy_chunk g c now (length store.words.tables) sound slots_most cut_low
      (λ t on. made_low t (on_made t on)) kind at new kept_pair e is allows)
      (subst (λ y. changes_at (length store.words.tables) at new < changes_at (length store.words.tables) at y) (kept.coded at)
      (copy_fewer g c now (length store.words.tables) sound slots_most cut_low (λ t on. made_low t (on_made t on)) kind at new kept_pair e is allows
      (sym written.here)))

  module _ (caller : ℕ) (r : Running K V A) (was : running callers caller ≡ Some r) where
    -- the call's own facts
    abbrev call : IsCall eq hash mode store r es (call_traces caller)
    call = kept.calls caller r was

    abbrev call_trace : CallTrace K V
    call_trace = call_traces caller

    may : AllAllowed g start (call_trace.begun ++ call_trace.since)
    may = subst (AllAllowed g start) (sym call.split) kept.allowed

    -- an exchange of the call was made
    call_exchanges : (at : At) (old new : ℕ) → ask_of r.machine ≡ asks.Call (Ask_exchange at old new) → (word_at store.words at == old) ≡ true
        → SpendsExchange (kind_of_ask r.machine) (budget_of store) (budget_in (put store.words at new))
    call_exchanges at old new e hit =
        let stood : word_at store.words at ≡ old = eqb-true (word_at store.words at) old hit in
        let stands : word_of g c now at ≡ old = kept.coded at ∙ stood in
        let x = asked_call g c store r es call_trace (Some call.key) hashed call.key call.split may call.relies kept.coded kept.made call.opens
        call.links call.own (λ t. refl) (λ t. refl) at old new e stands in
        let placed = placed_call g c store r es call_trace (Some call.key) hashed call.key call.split may call.relies kept.coded kept.made call.opens
        call.links call.own (λ t. refl) (λ t. refl) at old new e
        (changes now call_trace.loaded.call new g c call.key (kind_of_ask r.machine) at x.0 x.1).place in
        let opened : at ≡ Root → new ≤ length store.words.tables = λ root.
        let none : now.root ≡ 0 = root_empty g c call.key now call_trace.loaded.call new (kind_of_ask r.machine) x.0
        (subst (λ y. IsAsked g c call.key (kind_of_ask r.machine) y new now call_trace.loaded.call x.0) root x.1) x.2 in
        let zero : old ≡ 0 = sym stands ∙ ap (word_of g c now) root ∙ none in
        made_low new (call.opens new (e ∙ ap (λ y. asks.Call (Ask_exchange y old new)) root ∙ ap (λ y. asks.Call (Ask_exchange Root y new)) zero))
        in
        write_spends_kind store.words at new placed
        (call_chunk g c now (length store.words.tables) (kind_of_ask r.machine) at new call_trace.loaded.call call.key x.0 x.1) (kind_of_ask r.machine)
        (subst (λ y. IsFewer (kind_of_ask r.machine) (changes_at (length store.words.tables) at new) (changes_at (length store.words.tables) at y))
        (kept.coded at)
        (call_fewer g c now (length store.words.tables) (kind_of_ask r.machine) at new call_trace.loaded.call call.key x.0 x.1 x.2 (sym x.3.here) opened))

    -- and one of its copy
    copy_exchanges : (at : At) (old new : ℕ) → ask_of r.machine ≡ asks.Copy (copies.Exchange at old new) → (word_at store.words at == old) ≡ true
        → ((budget_in (put store.words at new)).tables ≡ (budget_of store).tables)
        × ((budget_in (put store.words at new)).exchanges < (budget_of store).exchanges)
    copy_exchanges at old new e hit =
        let stands : word_of g c now at ≡ old = kept.coded at ∙ eqb-true (word_at store.words at) old hit in
        let x = asked_copy g c store r es call_trace (Some call.key) hashed call.key call.split may call.relies kept.coded kept.made call.opens
        call.links call.own (λ t. refl) (λ t. refl) at old new e stands in
        let placed = placed_copy g c store r es call_trace (Some call.key) hashed call.key call.split may call.relies kept.coded kept.made call.opens
        call.links call.own (λ t. refl) (λ t. refl) at old new e in
        copy_spent at new (kind_of_ask r.machine) call_trace.loaded.kept x.0 x.1 x.2 x.3 placed

    module _ (says : Says K V A) (refuse : Bool) (store' : StoreState K V S) (later : Running K V A) where
      -- an exchange, made or lost
      spends_exchange : (at : At) (old new : ℕ) → ask_of r.machine ≡ asks.Call (Ask_exchange at old new) → (told : Call_answer)
          → Exchanges (word_at store.words at) old (put store.words at new) told store store'
          → SpendsCall (kind_of_ask r.machine) (Ask_exchange at old new) told (budget_of store) (budget_of store')
      spends_exchange at old new e told h =
          matched (SpendsCall (kind_of_ask r.machine) (Ask_exchange at old new) told (budget_of store) (budget_of store')) (word_at store.words at == old) _ _ h
          (λ hit done. subst (λ y. SpendsCall (kind_of_ask r.machine) (Ask_exchange at old new) y (budget_of store) (budget_of store')) (sym done.0)
          (subst (λ (y : StoreState K V S). SpendsExchange (kind_of_ask r.machine) (budget_of store) (budget_of y)) (sym done.1)
          (call_exchanges at old new e hit)))
          (λ miss lost. subst (λ y. SpendsCall (kind_of_ask r.machine) (Ask_exchange at old new) y (budget_of store) (budget_of store')) (sym lost.0)
          (same_words store' lost.1))

      -- making a key, a value or a pair spends nothing
      logged_spends : (told : Call_answer) → LogsOrNot store r told store' later → budget_of store' ≡ budget_of store
      logged_spends told (inl (unlogged, stays)) = same_words store' stays.0
      logged_spends told (inr (key, left, (value, has, is, few, grown, moved))) = ap (λ (y : StoreState K V S). budget_of y) grown

      -- each ask of the call itself
      spends_call : (ask : Call_ask) → ask_of r.machine ≡ asks.Call ask → (told : Call_answer) → Performs eq says refuse ask store r told store' later
          → SpendsCall (kind_of_ask r.machine) ask told (budget_of store) (budget_of store')
      spends_call (Load at) e told (is, stays) = same_words store' stays.0
      spends_call (Ask_exchange at old new) e told (h, as_was) = spends_exchange at old new e told h
      spends_call (SameKey n) e told (is, stays) = same_words store' stays.0
      spends_call ShowNone e told h = same_words store' (none_shown says store r told store' later h).store
      spends_call (ShowPair n) e told h = same_words store' (pair_shown says r.machine.call.task n store r told store' later h).store
      spends_call (LoadHint t x) e told (is, stays) = same_words store' stays.0
      spends_call (WriteHint t x hint) e told (is, same, as_was) = noted_words store' t x hint same
      spends_call (SizeOf n) e told (is, stays) = same_words store' stays.0
      spends_call MakeKey e told h = logged_spends told (part_logs store r told store' later refuse h)
      spends_call MakeValue e told h = logged_spends told (part_logs store r told store' later refuse h)
      spends_call MakePair e told h = logged_spends told (own_logs store r told store' later refuse h)
      spends_call (MakePairOf n) e told h = logged_spends told (of_logs store r told store' later refuse n h)
      spends_call (MakeTable slots limit chunks) e told h =
          matched (SpendsCall (kind_of_ask r.machine) (MakeTable slots limit chunks) told (budget_of store) (budget_of store')) refuse _ _ h
          (λ _ none. subst (λ y. SpendsCall (kind_of_ask r.machine) (MakeTable slots limit chunks) y (budget_of store) (budget_of store'))
          (sym none.0) (same_words store' none.1.0))
          (λ _ makes. made_or store' told slots limit chunks
          (λ y. SpendsCall (kind_of_ask r.machine) (MakeTable slots limit chunks) y (budget_of store) (budget_of store')) (λ n less. less)
          (λ refused same. same) makes.0)
      spends_call (AddToShard by) e told (is, (number, grown), as_was) = ap (λ (y : StoreState K V S). budget_of y) grown
      spends_call (Ask_done reply) e told (is, stays) = same_words store' stays.0

      -- each ask of its copy
      module _ (hashes : S → K → ℕ) where
        spends_for_copy : (ask : CopyAsk) → ask_of r.machine ≡ asks.Copy ask → (answer : Answer)
            → PerformsCopy eq hashes refuse ask store answer store' → SpendsCopy ask answer (budget_of store) (budget_of store')
        spends_for_copy ask e answer h = copied_spends store' hashes refuse ask
            (λ at old new is hit. copy_exchanges at old new (e ∙ ap asks.Copy is) hit) answer h

        -- each ask
        pub performs_spends : (ask : Ask) → ask_of r.machine ≡ ask → (answer : Answer)
            → PerformsAsk eq says hashes refuse ask store r answer store' later → Spends (kind_of_ask r.machine) ask answer (budget_of store) (budget_of store')
        performs_spends (asks.Call ask) e answer
            (told, is, h) = subst (λ y. Spends (kind_of_ask r.machine) (asks.Call ask) y (budget_of store) (budget_of store')) (sym is) (spends_call ask e told h)
        performs_spends (asks.Copy ask) e answer (h, same) = spends_for_copy ask e answer h
