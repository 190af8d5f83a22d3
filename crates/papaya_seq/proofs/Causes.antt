-- Why a call of a map for one caller is refused: the arena was full, no further table can be made,
-- memory ran out, or its closure would remove an absent entry.
use Rattle.std.proofs.Common.{◌≡◌, ◌⊎◌, inl, inr, ℕ, ◌^◌, ◌<◌, ◌≤◌, ◌==◌, Bool, false, Option, None, Some, length, refl, sym, ◌∙◌, ap, subst, arith}
use Rattle.papaya_words.specs.Counter.{count_of}
use Rattle.papaya_words.specs.Table.{TableWords, length_after}
use Rattle.papaya_words.specs.declared.limits.TheConstants.{FIRST_TABLE_LEN, FIRST_TABLE_LIMIT, MAX_LOG_LEN, MAX_TABLES}
use Rattle.papaya_words.specs.declared.refused.Refused.{Refused}
use Rattle.papaya_words.specs.declared.refused.Refused.TheVariants.{Memory, Capacity, Limit, RemoveNothing}
use Rattle.papaya_call.specs.declared.ask.Answer.{Answer as Call_answer}
use Rattle.papaya_call.specs.declared.ask.Answer.TheVariants.{Word as Word_read, Exchanged}
use Rattle.papaya_call.specs.declared.ask.Answer.TheVariants.{Found as Found_instead, Op, Size}
use Rattle.papaya_call.specs.declared.ask.Answer.TheVariants.{Made as Made_number}
use Rattle.papaya_call.specs.declared.ask.Answer.TheVariants.{Refused as Was_refused}
use Rattle.papaya_call.specs.declared.ask.Ask.{Ask as Call_ask}
use Rattle.papaya_call.specs.declared.ask.Ask.TheVariants.{Load, Exchange, ShowNone, MakeKey, MakeValue, MakePair, MakePairOf}
use Rattle.papaya_call.specs.declared.ask.At.TheVariants.{Next, Made as Made_word}
use Rattle.papaya_call.specs.declared.ask.OpKind.TheVariants.{Remove}
use Rattle.papaya_call.specs.declared.call.Reply.TheVariants.{Refused as Reply_refused}
use Rattle.papaya_call.specs.declared.search.Search.TheVariants.{Sizing as Sizing_table, Looking, Reading, Comparing}
use Rattle.papaya_call.specs.declared.machine.Machine.{Machine as Call_machine}
use Rattle.papaya_call.specs.declared.machine.State.{State as Stage}
use Rattle.papaya_call.specs.declared.machine.State.TheVariants.{AtRoot, Making, Opening, Searching}
use Rattle.papaya_call.specs.declared.machine.State.TheVariants.{Writing, Offering, Showing}
use Rattle.papaya_call.specs.declared.machine.State.TheVariants.{Pairing, Putting, Burying}
use Rattle.papaya_call.specs.declared.machine.State.TheVariants.{Counting as Counting_pair, Noting}
use Rattle.papaya_call.specs.declared.machine.State.TheVariants.{Uncounting, Leaving, Growing}
use Rattle.papaya_call.specs.declared.machine.State.TheVariants.{Ended}
use Rattle.papaya_call.specs.declared.made.Made.{Made}
use Rattle.papaya_call.specs.declared.made.Number.{Number}
use Rattle.papaya_call.specs.declared.made.Number.TheVariants.{Wanted, Free, Taken}
use Rattle.papaya_call.specs.Compute.{in_place_of}
use Rattle.papaya_call.specs.Made.{make_ask, number_ask}
use Rattle.papaya_call.specs.Write.{served_ask, serves}
use Rattle.papaya_call.specs.Machine.{IsComputer, IsValidState, IsWriter, asks as call_asks}
use Rattle.papaya_call.specs.Machine as call_machine
use Rattle.papaya_call.specs.declared.copy.link.Link.TheVariants as links
use Rattle.papaya_call.specs.declared.chain.ask.Ask.TheVariants as asks
use Rattle.papaya_call.specs.declared.chain.ask.Answer.{Answer}
use Rattle.papaya_call.specs.declared.chain.ask.Answer.TheVariants as answers
use Rattle.papaya_call.specs.declared.chain.machine.Machine.{Machine}
use Rattle.papaya_call.specs.declared.chain.machine.Phase.{Phase}
use Rattle.papaya_call.specs.declared.chain.machine.Phase.TheVariants.{Calling, Linking, Copying as Copying_root}
use Rattle.papaya_call.specs.ChainMachine.{after, ask_of, asks_in}
use Rattle.papaya_call.proofs.Settings.{settings_stable}
use Rattle.papaya_call_law.specs.Goes.{IsOwnRefusal, IsOwnStep, IsTableRefusal, IsToMake, WasNotMade, WouldBeTooLong, link_in}
use Rattle.papaya_call_law.specs.ChainRelies.{left_by}
use Rattle.papaya_call_law.proofs.LinkStates.{In}
use Rattle.papaya_call_law.proofs.Replies.{aside_asks}
use Rattle.papaya_call_alone.specs.Limits.{IsNumberTaken, IsPairMade}
use Rattle.papaya_call_law.specs.Relies.{IsAtLimit, IsNumberAsk}
use Rattle.papaya_call_law.proofs.Makings.{HoldsOfPairAsks, IsMakeAsk, IsPairAsk, make_asks, pair_holds}
use Rattle.papaya_call_law.proofs.Tasks.{same_task}
use Rattle.papaya_call.specs.Answers.{Says}
use Rattle.papaya_core_store.specs.Asks.{PerformsAsk}
use Rattle.papaya_core_store.specs.Performs.{MakesTable, Performs, Refuses, size_of}
use Rattle.papaya_core_store.specs.Store.{StoreState}
use Rattle.papaya_core_store.specs.Tables.{table_of}
use Rattle.papaya_core_store.specs.declared.pairs.Running.{Running}
use Rattle.papaya_core_timeline.specs.Advances.{reply_in}
use Rattle.papaya_core_timeline.specs.Core.{CoreState}
use Rattle.papaya_core_timeline.specs.Kept.{IsLawfulCore}
use Rattle.papaya_core_timeline.specs.Solo.{whatever}
use Rattle.papaya_core_timeline.proofs.KeptLemmas.{IsLawfulKeys}
use Rattle.papaya_core_timeline.proofs.KeptStep as kept_steps
use Rattle.papaya_core_timeline.proofs.KeptTables.{HasMoreTables}
use Rattle.papaya_core_timeline.proofs.StoreLemmas.{matched}
use Rattle.papaya_seq.specs.Map.{HasNoTable, IsArenaFull, IsSpent, IsWriteCause, MapState}
use Rattle.papaya_seq.proofs.KeyCalls.{KeyCall, first_of}
use Rattle.papaya_seq.proofs.Logs.{IsFirst, IsNumberless, after_made, first_before, number_taken, numberless_before, paired_first}
use Rattle.papaya_seq.proofs.Limits.{made_most}
use Rattle.papaya_seq.proofs.Numbered.{IsLogStep}
use Rattle.papaya_seq.proofs.StepsOfOwn.{own_performs}
use Rattle.papaya_seq.proofs.Sizes.{IsSizedLink, is_sized, link_asked, machine_sized, sized_as, sized_beside}
use Rattle.papaya_seq.proofs.Steps.{HasCome, made_caused, made_goes, made_logs, seated, stepped}

-- a call asks for a table: it is set aside, or makes its first one
abbrev pub IsTableAsk : Machine → Type 0
IsTableAsk m = m.phase ≡ Calling → m.call.state ≡ Making

-- a call makes its key or its pair
abbrev pub IsLogStage : Stage → Type 0
IsLogStage (Writing write) = Unit {0}
IsLogStage (Pairing purpose) = Unit {0}
IsLogStage stage = ⊥

abbrev pub IsPartAsk : Machine → Type 0
IsPartAsk m = (m.phase ≡ Calling) × IsLogStage m.call.state

-- the arena is full, memory ran out, or no number was left
abbrev pub IsLogRefusal : {K V S : Type 0} → MapState K V S → Refused → Type 0
IsLogRefusal s refused = (refused ≡ Memory) ⊎ ((refused ≡ Capacity) × IsArenaFull s.store) ⊎ ((refused ≡ Limit) × IsSpent s)

-- there is no next table, or memory ran out
abbrev pub IsNoTableRefusal : {K V S : Type 0} → MapState K V S → Refused → Type 0
IsNoTableRefusal s' refused = (refused ≡ Memory) ⊎ ((refused ≡ Capacity) × HasNoTable s')

-- a closure that was called with `None` would remove a pair
abbrev pub IsRemoveNothing : Machine → Answer → Refused → Type 0
IsRemoveNothing m answer refused = (refused ≡ RemoveNothing) × (ask_of m ≡ asks.Call ShowNone) × (answer ≡ answers.Call (Op Remove))

-- either is a cause of a call that stores
pub write_cause : {K V S : Type 0} (s : MapState K V S) (refused : Refused) (m : Machine) (s' : MapState K V S) → IsLogRefusal s refused
    ⊎ (IsTableAsk m × IsNoTableRefusal s' refused) → IsWriteCause s refused s'
write_cause s refused m s' (inl (inl memory)) = inl memory
write_cause s refused m s' (inl (inr (inl (capacity, full)))) = inr (inl (capacity, inl full))
write_cause s refused m s' (inl (inr (inr spent))) = inr (inr spent)
write_cause s refused m s' (inr (table, inl memory)) = inl memory
write_cause s refused m s' (inr (table, inr (capacity, none))) = inr (inl (capacity, inr none))

-- a table is there, with `slots` slots
abbrev pub HasSlots : {K V S : Type 0} → StoreState K V S → ℕ → ℕ → Type 0
HasSlots store behind slots = (t : TableWords) × (table_of store.words.tables behind ≡ Some t) × (length t.slots ≡ slots)

-- a call is to make a pair
abbrev pub IsPairStage : Made → Stage → Type 0
IsPairStage made (Writing write) = serves made write ≡ None
IsPairStage made (Pairing purpose) = Unit {0}
IsPairStage made stage = ⊥

-- one that is has made none before
abbrev pub PairsFirst : Call_machine → Type 0
PairsFirst m = IsPairStage m.made m.state → IsFirst m.task m.made m.remembered

pair_stage : (made : Made) (stage : Stage) → IsPairStage made stage → IsLogStage stage
pair_stage made (Writing write) h = tt
pair_stage made (Pairing purpose) h = tt
pair_stage made stage h = absurd h

-- a call that asks for the count of numbers is to make a pair, and has no number
number_unless : (ask : Call_ask) → IsMakeAsk ask → IsNumberAsk ask → ⊥
number_unless MakeKey makes asks_number = asks_number
number_unless MakeValue makes asks_number = asks_number
number_unless MakePair makes asks_number = asks_number
number_unless (MakePairOf n) makes asks_number = asks_number
number_unless (Load at) makes asks_number = makes
number_unless (Exchange at old new) makes asks_number = makes
number_unless ask makes asks_number = absurd asks_number

numberless_ask : (number : Number) (made : Made) (old : ℕ) → IsNumberAsk (number_ask number made old) → number ≡ Taken → ⊥
numberless_ask Wanted made old asks_number e = absurd cc
numberless_ask (Free n) made old asks_number e = absurd cc
numberless_ask Taken made old asks_number e = number_unless (make_ask made old) (make_asks made old) asks_number

-- an ask for a pair is one of a call that is to make it
pub pair_stage_of : (made : Made) (hash : ℕ) (stage : Stage) → IsPairAsk (call_asks made hash stage) → IsPairStage made stage
pair_stage_of made hash (Writing write) asks_pair = by_served (serves made write) asks_pair
  where
    by_served : (served : Option ℕ) → IsPairAsk (served_ask served write made) → served ≡ None
    by_served None asks_pair = refl
    by_served (Some i) asks_pair = absurd asks_pair
pair_stage_of made hash (Pairing purpose) asks_pair = tt
pair_stage_of made hash (Searching (Sizing_table t)) asks_pair = absurd asks_pair
pair_stage_of made hash (Searching (Looking at)) asks_pair = absurd asks_pair
pair_stage_of made hash (Searching (Reading at)) asks_pair = absurd asks_pair
pair_stage_of made hash (Searching (Comparing at word)) asks_pair = absurd asks_pair
pair_stage_of made hash AtRoot asks_pair = absurd asks_pair
pair_stage_of made hash Making asks_pair = absurd asks_pair
pair_stage_of made hash (Opening t) asks_pair = absurd asks_pair
pair_stage_of made hash (Offering gap) asks_pair = absurd asks_pair
pair_stage_of made hash (Showing removal) asks_pair = absurd asks_pair
pair_stage_of made hash (Putting put) asks_pair = absurd asks_pair
pair_stage_of made hash (Burying removal) asks_pair = absurd asks_pair
pair_stage_of made hash (Counting_pair claimed) asks_pair = absurd asks_pair
pair_stage_of made hash (Noting claimed) asks_pair = absurd asks_pair
pair_stage_of made hash (Uncounting n) asks_pair = absurd asks_pair
pair_stage_of made hash (Leaving t) asks_pair = absurd asks_pair
pair_stage_of made hash (Growing need) asks_pair = absurd asks_pair
pair_stage_of made hash (Ended reply) asks_pair = absurd asks_pair

number_pair : (ask : Call_ask) → IsNumberAsk ask → IsPairAsk ask
number_pair (Load Made_word) asks_number = tt
number_pair (Exchange Made_word old new) asks_number = tt
number_pair ask asks_number = absurd asks_number

number_stage : (made : Made) (hash : ℕ) (stage : Stage) → IsPairStage made stage → IsNumberAsk (call_asks made hash stage) → IsNumberless made
number_stage made hash (Writing write) none asks_number = numberless_ask made.number made write.old
    (subst (λ served. IsNumberAsk (served_ask served write made)) none asks_number)
number_stage made hash (Pairing purpose) pairing asks_number = numberless_ask made.number made (in_place_of purpose) asks_number
number_stage made hash stage pairing asks_number = absurd pairing

-- the answer is then how many were taken
told_count : {K V S A : Type 0} (eq : K → K → Bool) (says : Says K V A) (ask : Call_ask) (store store' : StoreState K V S) (r r' : Running K V A)
    (told : Call_answer) (count : ℕ) → IsNumberAsk ask → Performs eq says false ask store r told store' r' → (told ≡ Word_read count)
    ⊎ (told ≡ Found_instead count) → count ≡ store.words.made
told_count eq says (Load Made_word) store store' r r' told count asks_number (e, stays) (inl is) = let f : Word_read count ≡ Word_read
    store.words.made = sym is ∙ e in cc f
told_count eq says (Load Made_word) store store' r r' told count asks_number (e, stays) (inr is) = let f : Found_instead count ≡ Word_read
    store.words.made = sym is ∙ e in absurd cc
told_count eq says (Exchange Made_word old new) store store' r r' told count asks_number (h, moved) is =
    matched (count ≡ store.words.made) (store.words.made == old) _ _ h (λ _ done. done_not done.0 is) (λ _ lost. lost_is lost.0 is)
  where
    done_not : told ≡ Exchanged → (told ≡ Word_read count) ⊎ (told ≡ Found_instead count) → count ≡ store.words.made
    done_not e (inl is) = let f : Word_read count ≡ Exchanged = sym is ∙ e in absurd cc
    done_not e (inr is) = let f : Found_instead count ≡ Exchanged = sym is ∙ e in absurd cc

    lost_is : told ≡ Found_instead store.words.made → (told ≡ Word_read count) ⊎ (told ≡ Found_instead count) → count ≡ store.words.made
    lost_is e (inl is) = let f : Word_read count ≡ Found_instead store.words.made = sym is ∙ e in absurd cc
    lost_is e (inr is) = let f : Found_instead count ≡ Found_instead store.words.made = sym is ∙ e in cc f
told_count eq says ask store store' r r' told count asks_number h is = absurd asks_number

-- a refusal at a limit, or because memory ran out
pub by_limit : (refused : Refused) (most count : ℕ) (told : Call_answer) → told ≡ Was_refused refused → Refuses most count told → (refused ≡ Memory)
    ⊎ ((refused ≡ Capacity) × (most ≤ count))
by_limit refused most count told is (inl memory) = let f : Was_refused refused ≡ Was_refused Memory = sym is ∙ memory in
    let g : refused ≡ Memory = cc f in inl g
by_limit refused most count told is (inr (capacity, full)) = let f : Was_refused refused ≡ Was_refused Capacity = sym is ∙ capacity in
    let g : refused ≡ Capacity = cc f in inr (g, full)

module _ {K V S : Type 0} (s : MapState K V S) (store store' : StoreState K V S) (refused : Refused) where
  -- a table was refused
  tables_full : (told : Call_answer) → told ≡ Was_refused refused → Refuses MAX_TABLES (length store.words.tables) told → store' ≡ store
      → IsNoTableRefusal (record s { store = store' }) refused
  tables_full told is none stays = elim (by_limit refused MAX_TABLES (length store.words.tables) told is none) [
    | inl memory ↦ inl memory
    | inr (capacity, full) ↦ inr (capacity, inl (subst (λ (y : StoreState K V S). MAX_TABLES ≤ length y.words.tables) (sym stays) full))
  ]

  pub table_refused : (slots limit chunks : ℕ) (told : Call_answer) → told ≡ Was_refused refused
      → (Refuses MAX_TABLES (length store.words.tables) told × (store' ≡ store)) ⊎ MakesTable told slots limit chunks store store'
      → IsNoTableRefusal (record s { store = store' }) refused
  table_refused slots limit chunks told is (inl (none, stays)) = tables_full told is none stays
  table_refused slots limit chunks told is (inr (made, few, more)) = absurd (cc (made, is))

  -- or would be too long, by the count, after one that is there
  pub table_long : refused ≡ Capacity → (behind slots : ℕ) (unfit : Bool) → HasSlots store behind slots
      → 2 ^ 32 < length_after slots (count_of store.count.sum) s.initial unfit → store' ≡ store → IsNoTableRefusal (record s { store = store' }) refused
  table_long capacity behind slots unfit (table, there, is) long stays =
      let at_slots : 2 ^ 32 < length_after (length table.slots) (count_of store.count.sum) s.initial
      unfit = subst (λ n. 2 ^ 32 < length_after n (count_of store.count.sum) s.initial unfit) (sym is) long in
      subst (λ (y : StoreState K V S). IsNoTableRefusal (record s { store = y }) refused) (sym stays)
      (inr (capacity, inr (record { behind = behind; table = table; there = there; unfit = unfit; long = at_slots })))

module _ {K V S : Type 0} (eq : K → K → Bool) (hash : S → K → ℕ) (s : MapState K V S) (call : KeyCall K V) where
  -- The pairs that a call under way has stored so far, its mode and initial capacity, and the table
  -- whose next one it makes.
  pub record IsNotStored (store : StoreState K V S) (r : Running K V (Unit {0})) : Type 0 where
    -- until its pair is made the arena is as long as it was
    pub pairs : IsFirst r.machine.call.task r.machine.call.made r.machine.call.remembered → length store.pairs ≡ length s.store.pairs
    -- and until it has a number for it as many were taken
    pub numbers : IsFirst r.machine.call.task r.machine.call.made r.machine.call.remembered → IsNumberless r.machine.call.made
        → store.words.made ≡ s.store.words.made
    pub limit : r.machine.call.made.limit ≡ s.mode.limit
    pub mode : r.machine.call.mode ≡ s.mode.resize
    pub initial : r.machine.call.initial ≡ s.initial
    -- the length of a next table is computed from the slots of the one before
    pub sized : In (IsSizedLink (HasSlots store)) (link_in r.machine.phase)

  -- a call that begins
  pub unlogged_none : (number : ℕ) → IsNotStored s.store (first_of (hash s.store.hasher) s.mode s.initial number call)
  unlogged_none number = record {
    pairs = λ e. refl;
    numbers = λ e none. refl;
    limit = refl;
    mode = refl;
    initial = refl;
    sized = tt;
  }

  module _ (store : StoreState K V S) (r : Running K V (Unit {0})) (answer : Answer) (store' : StoreState K V S) (later : Running K V (Unit {0}))
      (going : reply_in (ask_of r.machine) ≡ None) (performs : PerformsAsk eq whatever hash false (ask_of r.machine) store r answer store' later)
      (same : later.machine ≡ r.machine) (keys : IsLawfulKeys eq (hash s.store.hasher)) (came : HasCome eq hash s call store r) (un : IsNotStored store r) where
    -- the call of the machine
    abbrev own : Call_machine
    own = r.machine.call

    -- the core with the call under way
    abbrev now : CoreState K V S (Unit {0})
    now = seated store (Some r) s.mode s.initial

    now_lawful : IsLawfulCore eq (hash s.store.hasher) store now.callers s.mode
    now_lawful = subst (λ h. IsLawfulCore eq (hash h) store now.callers s.mode) came.hasher (came.lone going).lawful

    -- each table is still there, with its slots
    grown : HasMoreTables store.words.tables store'.words.tables
    grown =
        let (es, (call_traces, kept)) = now_lawful.law in
        (kept_steps.left eq (hash s.store.hasher) keys whatever hash false now 0 (seated store' (Some r) s.mode s.initial) r answer later refl
        performs (ap hash came.hasher) refl es call_traces now_lawful.core kept).grown

    still_there : (behind slots : ℕ) → HasSlots store behind slots → HasSlots store' behind slots
    still_there behind slots (t, there, is) = let more = grown behind t there in (more.0, more.1, more.2 ∙ is)

    -- the size of a table in an answer
    told_size : (slots limit : ℕ) → answer ≡ answers.Call (Size slots limit) → (behind copied : ℕ) (unfit : Bool)
        → link_in r.machine.phase ≡ Some (links.Sizing behind copied unfit) → HasSlots store' behind slots
    told_size slots limit is behind copied unfit e =
        let h = subst (λ ask. PerformsAsk eq whatever hash false ask store r answer store' later)
        (link_asked r.machine (links.Sizing behind copied unfit) e) performs in
        let f : answers.Call (size_of (table_of store.words.tables behind)) ≡ answers.Call (Size slots limit) = sym h.0.0 ∙ is in
        let told : size_of (table_of store.words.tables behind) ≡ Size slots limit = cc f in
        still_there behind slots (sized_as (table_of store.words.tables behind) slots limit told)

    next_sized : In (IsSizedLink (HasSlots store')) (link_in (after r.machine answer).phase)
    next_sized = machine_sized (HasSlots store') r.machine answer told_size
        (sized_beside (HasSlots store) (HasSlots store') still_there (link_in r.machine.phase) un.sized)

    -- the call after the step, in this state
    unlogged_then : (then : Call_machine) → (after r.machine answer).call ≡ then → then.mode ≡ own.mode → then.initial ≡ own.initial
        → then.made.limit ≡ own.made.limit → (IsFirst then.task then.made then.remembered → IsFirst own.task own.made own.remembered
        × (length store'.pairs ≡ length store.pairs))
        → (IsFirst then.task then.made then.remembered → IsNumberless then.made → IsNumberless own.made × (store'.words.made ≡ store.words.made))
        → IsNotStored store' (stepped later r.machine answer)
    unlogged_then then is mode initial limit no_pair no_number = record {
      pairs = λ first. let h = no_pair (subst (λ (y : Call_machine). IsFirst y.task y.made y.remembered) is first) in h.1 ∙ un.pairs h.0;
      numbers = λ first none.
          let own_first = subst (λ (y : Call_machine). IsFirst y.task y.made y.remembered) is first in
          let h = no_number own_first (subst (λ (y : Call_machine). IsNumberless y.made) is none) in
          h.1 ∙ un.numbers (no_pair own_first).0 h.0;
      limit = ap (λ (y : Call_machine). y.made.limit) is ∙ limit ∙ un.limit;
      mode = ap (λ (y : Call_machine). y.mode) is ∙ mode ∙ un.mode;
      initial = ap (λ (y : Call_machine). y.initial) is ∙ initial ∙ un.initial;
      sized = next_sized;
    }

    -- the effect of the answered ask on the arena
    log : IsLogStep store store' (ask_of r.machine) answer
    log = made_logs eq hash s call store r answer store' later going performs same keys came

    -- a call that is set aside stores nothing in the arena
    aside_asked : (t : ℕ) → left_by own.state ≡ Some t → (phase : Phase) → (IsPairMade (asks_in own phase) answer → ⊥)
        × (IsNumberTaken (asks_in own phase) answer → ⊥)
    aside_asked t left Calling = by_ask (call_machine.ask_of own) (aside_asks own.made own.hash own.state t left)
      where
        by_ask : (ask : Call_ask) → ask ≡ Load (Next t) → (IsPairMade (asks.Call ask) answer → ⊥) × (IsNumberTaken (asks.Call ask) answer → ⊥)
        by_ask ask e = subst (λ y. (IsPairMade (asks.Call y) answer → ⊥) × (IsNumberTaken (asks.Call y) answer → ⊥)) (sym e) (unpaired answer, untaken answer)
          where
            unpaired : (a : Answer) → IsPairMade (asks.Call (Load (Next t))) a → ⊥
            unpaired (answers.Call (Made_number n)) h = h
            unpaired a h = absurd h

            untaken : (a : Answer) → IsNumberTaken (asks.Call (Load (Next t))) a → ⊥
            untaken (answers.Call Exchanged) h = h
            untaken a h = absurd h
    aside_asked t left (Linking link) = (λ h. h, λ h. h)
    aside_asked t left (Copying_root copying) = (λ h. h, λ h. h)

    aside_logs : (t : ℕ) → left_by own.state ≡ Some t → (length store'.pairs ≡ length store.pairs) × (store'.words.made ≡ store.words.made)
    aside_logs t left =
        let (unpaired, untaken) = aside_asked t left r.machine.phase in
        (elim log.pairs [ inl same ↦ same | inr (logged, more) ↦ absurd (unpaired logged) ], log.still untaken)

    unlogged_aside : (t : ℕ) → left_by own.state ≡ Some t → (stage : Stage) → (after r.machine answer).call ≡ record own { state = stage }
        → IsNotStored store' (stepped later r.machine answer)
    unlogged_aside t left stage is = let logs = aside_logs t left in
        unlogged_then (record own { state = stage }) is refl refl refl (λ first. (first, logs.0)) (λ first none. (none, logs.1))

    -- its own ask is answered
    told_performs : (told : Call_answer) → r.machine.phase ≡ Calling → answer ≡ answers.Call told
        → Performs eq whatever false (call_machine.ask_of own) store r told store' later
    told_performs told calling is = own_performs eq whatever hash store r answer store' later told calling is performs

    valid : IsValidState own.task own.state
    valid = (now_lawful.core.valid 0 r refl).call.state

    unlogged_own : IsOwnStep r.machine answer → IsNotStored store' (stepped later r.machine answer)
    unlogged_own step =
        let stays = settings_stable own step.told in
        unlogged_then (call_machine.after own step.told) step.call stays.0 stays.1 (after_made own step.told).0
        (λ first. (first_before own step.told (own_first first), unlogged first))
        (λ first none. (numberless_before own step.told valid (own_first first) none, log.still (untaken none)))
      where
        then : Call_machine
        then = call_machine.after own step.told

        own_first : IsFirst then.task then.made then.remembered → IsFirst own.task then.made then.remembered
        own_first first = subst (λ task. IsFirst task then.made then.remembered) (same_task own step.told).0 first

        asked : ask_of r.machine ≡ asks.Call (call_machine.ask_of own)
        asked = ap (asks_in own) step.phase

        -- a pair that was stored in the arena is remembered, or is the insertion's
        pair_kept : (told : Call_answer) → IsPairMade (asks.Call (call_machine.ask_of own)) (answers.Call told)
            → IsFirst own.task (call_machine.after own told).made (call_machine.after own told).remembered → ⊥
        pair_kept (Made_number n) makes first = paired_first own valid makes n first
        pair_kept told makes first = absurd makes

        unlogged : IsFirst then.task then.made then.remembered → length store'.pairs ≡ length store.pairs
        unlogged first = elim log.pairs [
          | inl same ↦ same
          | inr (logged, more) ↦ absurd (pair_kept step.told
              (subst (λ a. IsPairMade (asks.Call (call_machine.ask_of own)) a) step.is (subst (λ y. IsPairMade y answer) asked logged)) (own_first first))
        ]

        -- a number that was taken is the call's
        untaken : IsNumberless then.made → IsNumberTaken (ask_of r.machine) answer → ⊥
        untaken none took = number_taken own step.told
            (subst (λ a. IsNumberTaken (asks.Call (call_machine.ask_of own)) a) step.is (subst (λ y. IsNumberTaken y answer) asked took)) none

    -- after one more answer
    pub unlogged_more : IsNotStored store' (stepped later r.machine answer)
    unlogged_more = elim (made_goes eq hash s call store r answer store' later going performs same keys came) [
      | inl waits ↦ unlogged_aside waits.from waits.left own.state waits.call
      | inr (inl step) ↦ unlogged_own step
      | inr (inr (inl enters)) ↦ unlogged_aside enters.from enters.left (Searching (Sizing_table enters.table)) enters.call
      | inr (inr (inr (inl begins))) ↦ unlogged_aside begins.from begins.left (call_machine.at_root own.task own.remembered.fill begins.root) begins.call
      | inr (inr (inr (inr ends))) ↦ unlogged_aside ends.from ends.left (Ended (Reply_refused ends.refused)) ends.call
    ]

    module _ (first : PairsFirst own) (refused : Refused) where
      -- the map after the step
      abbrev then : MapState K V S
      then = record { store = store'; mode = s.mode; initial = s.initial }

      -- the ask for the pair was refused
      abbrev WasRefused : Call_ask → Type 0
      WasRefused ask = (told : Call_answer) → told ≡ Was_refused refused → IsToMake ask → Performs eq whatever false ask store r told store' later
          → IsLogRefusal s refused

      pair_refused : IsFirst own.task own.made own.remembered → (told : Call_answer) → told ≡ Was_refused refused
          → Refuses MAX_LOG_LEN (length store.pairs) told → IsLogRefusal s refused
      pair_refused unpaired told is none = elim (by_limit refused MAX_LOG_LEN (length store.pairs) told is none) [
        | inl memory ↦ inl memory
        | inr (capacity, full) ↦ inr (inl (capacity, subst (λ n. MAX_LOG_LEN ≤ n) (un.pairs unpaired) full))
      ]

      log_refused : IsFirst own.task own.made own.remembered → HoldsOfPairAsks WasRefused
      log_refused unpaired = record {
        loads = λ told is makes h. absurd makes;
        takes = λ count told is makes h. absurd makes;
        key = λ told is makes h. absurd (cc (h.0, is));
        value = λ told is makes h. absurd (cc (h.0, is));
        pair = λ told is makes h. elim h [
          | inl none ↦ pair_refused unpaired told is none.0
          | inr (inl has) ↦ absurd (cc (has.0.0, is))
          | inr (inr (value, there, made, few, more, moved)) ↦ absurd (cc (made, is))
        ];
        pair_of = λ n told is makes h. elim h [
          | inl none ↦ pair_refused unpaired told is none.0
          | inr (inl has) ↦ absurd (cc (has.0.0, is))
          | inr (inr (first_pair, from, (value, there, made, few, more, moved))) ↦ absurd (cc (made, is))
        ];
      }

      -- a part of the pair, or a table, was refused
      abbrev Why : Type 0
      Why = (IsPartAsk r.machine × IsLogRefusal s refused) ⊎ (IsTableAsk r.machine × IsNoTableRefusal then refused)

      make_refused : (made : Made) (stage : Stage) → own.made ≡ made → own.state ≡ stage → r.machine.phase ≡ Calling → (told : Call_answer)
          → told ≡ Was_refused refused → IsToMake (call_asks made own.hash stage)
          → Performs eq whatever false (call_asks made own.hash stage) store r told store' later → Why
      make_refused made Making m e calling told is makes h = inr (λ _. e, table_refused s store store' refused FIRST_TABLE_LEN FIRST_TABLE_LIMIT 0 told is h.0)
      make_refused made (Writing write) m e calling told is makes h = inl ((calling, subst IsLogStage (sym e) tt), by_served (serves made write) refl makes h)
        where
          by_served : (served : Option ℕ) → serves made write ≡ served → IsToMake (served_ask served write made)
              → Performs eq whatever false (served_ask served write made) store r told store' later → IsLogRefusal s refused
          by_served None none makes h =
              let unpaired : IsFirst own.task own.made own.remembered = first (subst (IsPairStage own.made) (sym e) (ap (λ y. serves y write) m ∙ none)) in
              pair_holds WasRefused (log_refused unpaired) made write.old told is makes h
          by_served (Some i) there makes h = absurd makes
      make_refused made (Pairing purpose) m e calling told is makes h =
          let unpaired : IsFirst own.task own.made own.remembered = first (subst (IsPairStage own.made) (sym e) tt) in
          inl ((calling, subst IsLogStage (sym e) tt), pair_holds WasRefused (log_refused unpaired) made (in_place_of purpose) told is makes h)
      make_refused made AtRoot m e calling told is makes h = absurd makes
      make_refused made (Opening t) m e calling told is makes h = absurd makes
      make_refused made (Searching (Sizing_table t)) m e calling told is makes h = absurd makes
      make_refused made (Searching (Looking at)) m e calling told is makes h = absurd makes
      make_refused made (Searching (Reading at)) m e calling told is makes h = absurd makes
      make_refused made (Searching (Comparing at word)) m e calling told is makes h = absurd makes
      make_refused made (Offering gap) m e calling told is makes h = absurd makes
      make_refused made (Showing removal) m e calling told is makes h = absurd makes
      make_refused made (Putting put) m e calling told is makes h = absurd makes
      make_refused made (Burying removal) m e calling told is makes h = absurd makes
      make_refused made (Counting_pair n) m e calling told is makes h = absurd makes
      make_refused made (Noting n) m e calling told is makes h = absurd makes
      make_refused made (Uncounting n) m e calling told is makes h = absurd makes
      make_refused made (Leaving t) m e calling told is makes h = absurd makes
      make_refused made (Growing need) m e calling told is makes h = absurd makes
      make_refused made (Ended reply) m e calling told is makes h = absurd makes

      -- no number was left
      number_refused : (own_step : IsOwnStep r.machine answer) → refused ≡ Limit → IsAtLimit own own_step.told → Why
      number_refused own_step is (most, count, limit, full, asks_number, told) =
          let pairing : IsPairStage own.made own.state = pair_stage_of own.made own.hash own.state (number_pair (call_machine.ask_of own) asks_number) in
          let numberless : IsNumberless own.made = number_stage own.made own.hash own.state pairing asks_number in
          let counted : count ≡ store.words.made = told_count eq whatever (call_machine.ask_of own) store store' r later own_step.told count
          asks_number (told_performs own_step.told own_step.phase own_step.is) told in
          let own_limit : s.mode.limit ≡ Some most = sym un.limit ∙ limit in
          let few : store.words.made ≤ most = made_most eq (hash s.store.hasher) now.callers s.mode store now_lawful most own_limit in
          let as_before : store.words.made ≡ s.store.words.made = un.numbers (first pairing) numberless in
          let all : most ≡ s.store.words.made = omega (arith, counted, full, few, as_before) in
          inl ((own_step.phase, pair_stage own.made own.state pairing), inr (inr (is, own_limit ∙ ap Some all)))

      -- the call's own refusal
      own_refused : IsOwnRefusal r.machine answer refused → Why ⊎ IsRemoveNothing r.machine answer refused
      own_refused because = elim because.why [
        | inl (makes, is) ↦ inl (make_refused own.made own.state refl refl because.own.phase because.own.told is makes
            (told_performs because.own.told because.own.phase because.own.is))
        | inr (inl (is, spent)) ↦ inl (number_refused because.own is spent)
        | inr (inr (nothing_there, shows, removes)) ↦ inr (nothing_there, shows, because.own.is ∙ ap answers.Call removes)
      ]

      -- a call that copies is not asking for itself
      copies_only : (ask : _) → ask_of r.machine ≡ asks.Copy ask → IsTableAsk r.machine
      copies_only ask e calling = let f : asks.Call (call_machine.ask_of own) ≡ asks.Copy ask = sym (ap (asks_in own) calling) ∙ e in absurd (cc f)

      -- a next table was not made
      next_refused : WasNotMade r.machine answer refused → IsNoTableRefusal then refused
      next_refused because =
          let ((told, is, h), stays) = subst (λ ask. PerformsAsk eq whatever hash false ask store r answer store' later) because.asks performs in
          let f : answers.Call told ≡ answers.Call (Was_refused refused) = sym is ∙ because.is in
          let as_told : told ≡ Was_refused refused = cc f in
          table_refused s store store' refused because.slots because.limit because.chunks told as_told h

      -- or would be too long
      next_long : WouldBeTooLong r.machine answer refused → IsNoTableRefusal then refused
      next_long because =
          let ((is, stays), unmoved) = subst (λ ask. PerformsAsk eq whatever hash false ask store r answer store' later) because.asks performs in
          let f : answers.Count because.count ≡ answers.Count (count_of store.count.sum) = sym because.is ∙ is in
          let counted : because.count ≡ count_of store.count.sum = cc f in
          let at_count : 2 ^ 32 < length_after because.slots (count_of store.count.sum) own.initial
          because.unfit = subst (λ n. 2 ^ 32 < length_after because.slots n own.initial because.unfit) counted because.long in
          let at_initial : 2 ^ 32 < length_after because.slots (count_of store.count.sum) s.initial
          because.unfit = subst (λ n. 2 ^ 32 < length_after because.slots (count_of store.count.sum) n because.unfit) un.initial at_count in
          table_long s store store' refused because.capacity because.behind because.slots because.unfit
          (is_sized (HasSlots store) (link_in r.machine.phase) un.sized because.behind because.slots because.copied because.unfit because.link)
          at_initial stays

      next_table : IsTableRefusal r.machine answer refused → IsTableAsk r.machine × IsNoTableRefusal then refused
      next_table because = elim because.why [
        | inl unmade ↦ (copies_only _ unmade.asks, next_refused unmade)
        | inr long ↦ (copies_only _ long.asks, next_long long)
      ]

      -- The cause for which the step ends the call refused, with its ask: the arena, a table, or a
      -- closure that would remove an absent entry.
      pub refused_as : reply_in (ask_of (after r.machine answer)) ≡ Some (Reply_refused refused) → (IsPartAsk r.machine × IsLogRefusal s refused)
          ⊎ (IsTableAsk r.machine × IsNoTableRefusal then refused) ⊎ IsRemoveNothing r.machine answer refused
      refused_as e = elim (made_caused eq hash s call store r answer store' later going performs same keys came refused e) [
        | inl because ↦ elim (own_refused because) [
          | inl (inl log) ↦ inl log
          | inl (inr table) ↦ inr (inl table)
          | inr removes ↦ inr (inr removes)
        ]
        | inr because ↦ inr (inl (next_table because))
      ]

      -- the same without the ask for a pair
      pub refused_so : reply_in (ask_of (after r.machine answer)) ≡ Some (Reply_refused refused) → IsLogRefusal s refused
          ⊎ (IsTableAsk r.machine × IsNoTableRefusal then refused) ⊎ IsRemoveNothing r.machine answer refused
      refused_so e = elim (refused_as e) [ inl log ↦ inl log.1 | inr others ↦ inr others ]
