-- The call of a map for one caller as the steps of a core with one seat.
use Rattle.std.proofs.Common.{◌≡◌, ◌⊎◌, ℕ, suc, ◌^◌, ◌<◌, Bool, false, Option, None, Some, List, [], ◌∷◌, ◌++◌, inl, refl, sym, ◌∙◌, ap, subst, arith}
use Rattle.papaya_words.specs.declared.refused.Refused.{Refused}
use Rattle.papaya_core_store.specs.declared.store.Mode.{Mode}
use Rattle.papaya_call.specs.declared.call.Reply.{Reply}
use Rattle.papaya_call.specs.declared.call.Reply.TheVariants.{Refused as Reply_refused}
use Rattle.papaya_call_law.specs.Relies.{change_in}
use Rattle.papaya_call_law.specs.Says.{IsResultBy, ClosureResult, NamesPairs, ActsOn}
use Rattle.papaya_call.specs.declared.ask.At.TheVariants.{Made}
use Rattle.papaya_call.specs.declared.copy_ask.CopyAsk.TheVariants.{Exchange}
use Rattle.papaya_call.specs.declared.chain.ask.Answer.{Answer}
use Rattle.papaya_call.specs.declared.chain.ask.Ask.TheVariants as asks
use Rattle.papaya_call.specs.declared.chain.machine.Machine.{Machine}
use Rattle.papaya_call.specs.ChainMachine.{after, ask_of, kind_of_ask}
use Rattle.papaya_call_law.specs.Goes.{Goes, IsCause, IsInOrder, IsOwnStep}
use Rattle.papaya_call_law.proofs.Goes.{machine_goes}
use Rattle.papaya_call_law.proofs.Names.{copies_there}
use Rattle.papaya_call_law.proofs.Order.{in_order}
use Rattle.papaya_call_law.proofs.Refusals.{chain_refused}
use Rattle.papaya_call_law.proofs.Replies.{chain_said, chain_shows, chain_task}
use Rattle.papaya_words_law.specs.Allows.{AllAllowed}
use Rattle.papaya_words_law.specs.Exchange.{run, start as first_state}
use Rattle.papaya_core_store.specs.Asks.{PerformsAsk}
use Rattle.papaya_core_store.specs.Performs.{own_key}
use Rattle.papaya_core_store.specs.Store.{KeepsPairs, StoreState}
use Rattle.papaya_core_store.specs.declared.pairs.Running.{Running}
use Rattle.papaya_core_timeline.specs.declared.trace.Entry.{Entry}
use Rattle.papaya_core_timeline.specs.declared.trace.Event.{Event}
use Rattle.papaya_core_timeline.specs.declared.trace.Event.TheVariants.{Begun, Replied}
use Rattle.papaya_core_timeline.specs.declared.seat.Seat.{Seat}
use Rattle.papaya_core_timeline.specs.Advances.{Advances, event_of, goes_on, reply_in}
use Rattle.papaya_core_timeline.specs.Callers.{as_work, call_in, running}
use Rattle.papaya_core_timeline.specs.Core.{CoreState}
use Rattle.papaya_core_timeline.specs.Ends.{IsLone, IsNearer, lone_measure}
use Rattle.papaya_core_timeline.specs.Kept.{IsLawfulCore, coding_of, low, setting_of, told_call_traces}
use Rattle.papaya_core_timeline.specs.Resized.{IsLoneWork}
use Rattle.papaya_core_timeline.specs.Runs.{History, StepsRun, with_event, with_step}
use Rattle.papaya_core_timeline.specs.Solo.{whatever}
use Rattle.papaya_core_timeline.proofs.Abandoned.{IsLeft, call_left}
use Rattle.papaya_core_timeline.proofs.CallersLemmas.{same_item}
use Rattle.papaya_core_timeline.proofs.CoreLemmas.{reply_asked}
use Rattle.papaya_core_timeline.proofs.HeadlineLemmas.{advance-core}
use Rattle.papaya_core_timeline.proofs.KeptCore.{performs-hasher}
use Rattle.papaya_core_timeline.proofs.KeptLemmas.{IsLawfulKeys, IsStep, kept_step}
use Rattle.papaya_core_timeline.proofs.KeptSettings.{tables_hashed}
use Rattle.papaya_core_timeline.proofs.KeptStep as kept_steps
use Rattle.papaya_core_timeline.proofs.SoloEnds.{lone_begin, lone_step}
use Rattle.papaya_seq.specs.Map.{Grows, IsLawfulMap, MapState, Unchanged, core_of}
use Rattle.papaya_seq.proofs.CallLengths.{IsLong, long_begun, long_left, long_more, performed_so}
use Rattle.papaya_seq.proofs.Ending.{left_of, left_to}
use Rattle.papaya_seq.proofs.KeyCalls.{KeyCall, first_of, key_fits}
use Rattle.papaya_seq.proofs.Numbered.{IsLogStep, IsNumbered, log_step, numbered_begun, numbered_more}
use Rattle.papaya_seq.proofs.RootStays.{root_stays}
use Rattle.papaya_seq.proofs.Turns.{IsOver, begins_so, last_entry, made_over, seated_work, start, turns_made}

-- a core whose one seat has this call on a key
abbrev pub seated : {K V S A : Type 0} → StoreState K V S → Option (Running K V A) → Mode → ℕ → CoreState K V S A
seated store call mode initial = seated_work store (as_work call) mode initial

-- a call is under way until it has replied
abbrev pub still : {K V A : Type 0} → Running K V A → Option (Running K V A)
still r = goes_on (reply_in (ask_of r.machine)) r

-- the same call after an answer
abbrev pub stepped : {K V A : Type 0} → Running K V A → Machine → Answer → Running K V A
stepped later m answer = record later { machine = after m answer }

module _ {K V S : Type 0} (eq : K → K → Bool) (hash : S → K → ℕ) (s : MapState K V S) (call : KeyCall K V) where
  -- The call came to this by steps of the core, which is in order; if it has replied, the last of
  -- them gave the reply.
  pub record HasCome (store : StoreState K V S) (r : Running K V (Unit {0})) : Type 0 where
    pub number : ℕ
    pub steps : ℕ
    pub history : History
    pub runs : StepsRun eq whatever hash 1 0 steps (start eq hash s call.call number) (with_event 0 0 Begun [])
        (seated store (still r) s.mode s.initial) history
    pub replied : (reply : Reply) → reply_in (ask_of r.machine) ≡ Some reply → (last : Entry) × (before : History) × (history ≡ last ∷ before)
        × (last.event ≡ Replied reply)
    pub lawful : IsLawfulCore eq (hash s.store.hasher) store (record { caller = 0; work = as_work (still r) } ∷ []) s.mode
    -- until then it is alone, and a word that it has read is unchanged
    pub lone : reply_in (ask_of r.machine) ≡ None → IsLone eq hash (seated store (Some r) s.mode s.initial) r
    -- its key is the call's, in the arena or not
    pub own : own_key store r ≡ Some call.key
    pub task : r.machine.call.task ≡ call.task
    pub hash_is : r.machine.call.hash ≡ hash s.store.hasher call.key
    pub shows : NamesPairs r.machine.call
    pub hasher : store.hasher ≡ s.store.hasher
    -- if there is a limit, a number was taken for each pair
    pub numbered : IsNumbered s.mode.limit store r.machine
    -- no table is shorter than the initial capacity, and each that it makes follows another
    pub long : IsLong s store r.machine

  -- this holds if the map before the call is in order
  abbrev pub IsMade : StoreState K V S → Running K V (Unit {0}) → Type 0
  IsMade store r = IsLawfulKeys eq (hash s.store.hasher) → IsLawfulMap eq (hash s.store.hasher) s.store s.mode s.initial
      → hash s.store.hasher call.key < 2 ^ 64 → HasCome store r

  -- a call that begins, with any number
  pub made_none : (number : ℕ) → IsMade s.store (first_of (hash s.store.hasher) s.mode s.initial number call)
  made_none number keys lawful fits =
      let first = first_of (hash s.store.hasher) s.mode s.initial number call in
      let lone : IsLone eq hash (seated s.store (Some first) s.mode s.initial) first =
      subst (λ w. IsLoneWork eq hash (seated_work {A = Unit {0}} s.store (Some w) s.mode s.initial) w)
      (call.begins (hash s.store.hasher) s.mode s.initial number)
      (lone_begin eq hash (core_of s) keys call.call (start eq hash s call.call number) refl lawful.lawful
      (begins_so eq hash s call.call number (key_fits (hash s.store.hasher) call fits) lawful.power)) in
      record {
        number = number;
        steps = 0;
        history = with_event 0 0 Begun [];
        runs = (ap (λ w. seated_work s.store (Some w) s.mode s.initial) (sym (call.begins (hash s.store.hasher) s.mode s.initial number)), refl);
        replied = λ reply e. let f : None ≡ Some reply = e in absurd cc;
        lawful = lone.lawful;
        lone = λ going. lone;
        own = refl;
        task = refl;
        hash_is = refl;
        shows = tt;
        hasher = refl;
        numbered = numbered_begun s.store call.task (hash s.store.hasher call.key) s.mode.resize s.initial number s.mode.limit lawful.numbered;
        long = long_begun s lawful.long first.machine refl refl;
      }

  module _ (store : StoreState K V S) (r : Running K V (Unit {0})) (answer : Answer) (store' : StoreState K V S) (later : Running K V (Unit {0}))
      (going : reply_in (ask_of r.machine) ≡ None) (performs : PerformsAsk eq whatever hash false (ask_of r.machine) store r answer store' later)
      (same : later.machine ≡ r.machine) (keys : IsLawfulKeys eq (hash s.store.hasher)) (came : HasCome store r) where
    -- the core with the call under way
    abbrev now : CoreState K V S (Unit {0})
    now = seated store (Some r) s.mode s.initial

    under_way : still r ≡ Some r
    under_way = ap (λ o. goes_on o r) going

    now_lawful : IsLawfulCore eq (hash s.store.hasher) store (record { caller = 0; work = as_work (Some r) } ∷ []) s.mode
    now_lawful = subst (λ o. IsLawfulCore eq (hash s.store.hasher) store (record { caller = 0; work = as_work o } ∷ []) s.mode) under_way came.lawful

    -- the call after the answer
    abbrev next : Running K V (Unit {0})
    next = stepped later r.machine answer

    abbrev reply : Option Reply
    reply = reply_in (ask_of (after r.machine answer))

    abbrev event : Event
    event = event_of (kind_of_ask r.machine) (ask_of r.machine) answer

    -- a refusal has a cause
    pub made_caused : (refused : Refused) → reply ≡ Some (Reply_refused refused) → IsCause r.machine answer refused
    made_caused refused e =
        let (es, (call_traces, kept)) = now_lawful.law in
        let left = kept_steps.left eq (hash s.store.hasher) keys whatever hash false now 0 (seated store' (Some r) s.mode s.initial) r answer later
        refl performs (ap hash came.hasher) refl es call_traces now_lawful.core kept in
        let call_kept = kept.calls 0 r refl in
        let g = setting_of eq (low (hash s.store.hasher)) s.mode store.words.tables in
        let c = coding_of (low (hash s.store.hasher)) in
        chain_refused g c call_kept.key (run es first_state) r.machine answer refused (call_traces 0).loaded left.made left.loaded left.told
        (in_order g c (call_traces 0).begun (call_traces 0).since call_kept.key r.machine (call_traces 0).loaded (run es first_state) answer left.made
        left.loaded call_kept.relies left.told)
        (now_lawful.core.going 0 r refl) (reply_asked (ask_of (after r.machine answer)) (Reply_refused refused) e)

    -- it is a step of the core
    made_step : Advances eq whatever hash false now 0 (seated store' (goes_on reply next) s.mode s.initial) event reply
    made_step = record {
      before = r;
      was = refl;
      answer = answer;
      later = later;
      performs = performs;
      machine = same;
      event_is = refl;
      reply_is = refl;
      callers = refl;
      mode = refl;
      initial = refl;
      cause = made_caused;
    }

    -- the effect of the step, in terms of the law
    step : IsStep eq (hash s.store.hasher) keys false now 0 (seated store' (goes_on reply next) s.mode s.initial) event reply made_step
        now_lawful.law.0 now_lawful.law.1.0
    step = let (es, (call_traces, kept)) = now_lawful.law in
        kept_step eq (hash s.store.hasher) keys false now 0 (seated store' (goes_on reply next) s.mode s.initial) event reply made_step
        (ap hash came.hasher) es call_traces now_lawful.core kept

    -- the answer is one to its ask
    pub made_ordered : IsInOrder r.machine answer r.machine.phase
    unfolding made_step
    made_ordered =
        let (es, (call_traces, kept)) = now_lawful.law in
        let call_kept = step.call in
        in_order (setting_of eq (low (hash s.store.hasher)) s.mode store.words.tables) (coding_of (low (hash s.store.hasher))) (call_traces 0).begun
        (call_traces 0).since call_kept.key r.machine (call_traces 0).loaded (run es first_state) answer step.made step.loaded call_kept.relies step.told

    -- the call steps for itself, or was set aside
    pub made_goes : Goes r.machine answer
    made_goes = machine_goes r.machine answer made_ordered

    -- it has the map's limit
    limit_is : r.machine.call.made.limit ≡ s.mode.limit
    limit_is = let (es, (call_traces, kept)) = now_lawful.law in (kept.calls 0 r refl).relies.call.made.limit

    -- and takes no number while it copies
    takes_none : (old new : ℕ) → ask_of r.machine ≡ asks.Copy (Exchange Made old new) → ⊥
    takes_none old new e =
        let (es, (call_traces, kept)) = now_lawful.law in
        let call_kept = kept.calls 0 r refl in
        let g = setting_of eq (low (hash s.store.hasher)) s.mode store.words.tables in
        copies_there g (coding_of (low (hash s.store.hasher))) (tables_hashed eq (hash s.store.hasher) keys s.mode store.words.tables now_lawful.core.sizes)
        (call_traces 0).begun (call_traces 0).since (subst (AllAllowed g first_state) (sym call_kept.split) kept.allowed) call_kept.key r.machine
        (call_traces 0).loaded call_kept.relies (Exchange Made old new) e

    -- the effect on the arena of pairs, and on how many numbers were taken
    pub made_logs : IsLogStep store store' (ask_of r.machine) answer
    made_logs = log_step eq whatever hash false r.machine store store' r later (came.lone going).current.number takes_none answer performs

    -- it acted on the same result before, or its closure returned the result with this answer
    pub made_says : (said : ClosureResult) → ActsOn (after r.machine answer).call said → ActsOn r.machine.call said
        ⊎ ((own : IsOwnStep r.machine answer) × IsResultBy r.machine.call own.told said)
    made_says said stands = chain_said r.machine answer made_ordered (now_lawful.core.valid 0 r refl).call came.shows said stands

    -- it comes nearer its end
    lone_step_to : (o : Option Reply) → reply ≡ o → o ≡ None → IsNearer eq hash now r (seated store' (Some next) s.mode s.initial)
    lone_step_to o e none =
        let advances : Advances eq whatever hash false now 0 (seated store' (Some next) s.mode s.initial) event None =
        subst (λ p. Advances eq whatever hash false now 0 (seated store' (goes_on p next) s.mode s.initial) event p) (e ∙ none) made_step in
        lone_step eq hash now (subst (λ h. IsLawfulKeys eq (hash h)) (sym came.hasher) keys) whatever false r
        (seated store' (Some next) s.mode s.initial) event (came.lone going) advances

    -- the call that is alone after the step is this one
    nearer_is : (nearer : IsNearer eq hash now r (seated store' (Some next) s.mode s.initial)) → nearer.later ≡ next
    nearer_is nearer = same_item nearer.later next (sym (ap (λ (l : List (Seat K V (Unit {0}))). running l 0) nearer.lone.callers))

    next_lone : reply ≡ None → IsLone eq hash (seated store' (Some next) s.mode s.initial) next
    next_lone none = let nearer = lone_step_to reply refl none in
        subst (IsLone eq hash (seated store' (Some next) s.mode s.initial)) (nearer_is nearer) nearer.lone

    -- how far it was, and is
    far_is : left_of store r.machine ≡ suc (lone_measure now r)
    far_is = ap (λ o. left_to o (lone_measure now r)) going

    pub came_nears : left_of store' (after r.machine answer) < left_of store r.machine
    came_nears = by_reply reply refl
      where
        by_reply : (o : Option Reply) → reply ≡ o → left_of store' (after r.machine answer) < left_of store r.machine
        by_reply None e =
            let nearer = lone_step_to reply refl e in
            let less : lone_measure (seated store' (Some next) s.mode s.initial) next < lone_measure now
            r = subst (λ (q : Running K V (Unit {0})). lone_measure (seated store' (Some next) s.mode s.initial) q < lone_measure now r)
            (nearer_is nearer) nearer.less in
            let near_is : left_of store' (after r.machine answer) ≡ suc (lone_measure (seated store' (Some next) s.mode s.initial) next) = ap
            (λ o. left_to o (lone_measure (seated store' (Some next) s.mode s.initial) next)) e in
            let far = far_is in
            omega (arith, less, near_is, far)
        by_reply (Some told) e =
            let near_is : left_of store' (after r.machine answer) ≡ 0 = ap
            (λ o. left_to o (lone_measure (seated store' (Some next) s.mode s.initial) next)) e in
            let far = far_is in
            omega (arith, near_is, far)

    -- the call came there
    pub came_more : HasCome store' next
    unfolding made_step
    came_more =
        let (es, (call_traces, kept)) = now_lawful.law in
        let core = advance-core eq whatever hash false now 0 (seated store' (goes_on reply next) s.mode s.initial) event reply made_step now_lawful.core in
        let told = chain_task r.machine answer made_ordered in
        record {
          number = came.number;
          steps = suc came.steps;
          history = with_step 1 0 event reply came.history;
          runs = (
            now,
            came.history,
            subst (λ o. StepsRun eq whatever hash 1 0 came.steps (start eq hash s call.call came.number)
                (with_event 0 0 Begun []) (seated store o s.mode s.initial) came.history) under_way came.runs,
            inl (event, reply, inl made_step, refl),
          );
          replied = λ x e. last_entry event reply came.history x e;
          lawful = record { core = core; law = (es ++ step.made, (told_call_traces call_traces 0 step.made step.loaded, step.kept)) };
          lone = next_lone;
          own = step.own.own ∙ ap Some step.own_key ∙ sym step.call.own ∙ came.own;
          task = told.0 ∙ came.task;
          hash_is = told.1 ∙ came.hash_is;
          shows = chain_shows r.machine answer made_ordered came.shows;
          hasher = performs-hasher eq whatever hash false (ask_of r.machine) store r answer store' later performs ∙ came.hasher;
          numbered = numbered_more eq whatever hash false r.machine store store' r later (came.lone going).current.number takes_none answer performs
              s.mode.limit limit_is came.numbered;
          long = long_more s eq hash store store' r.machine answer going
              (performed_so eq hash store store' r.machine answer r later refl performs (came.lone going).current
              (root_stays eq (hash s.store.hasher) keys s.mode store store' now.callers (seated store' (goes_on reply next) s.mode s.initial).callers
              es step.made call_traces (told_call_traces call_traces 0 step.made step.loaded) kept core step.kept)) came.long;
        }

  -- after one more answer
  pub made_more : (store : StoreState K V S) (r : Running K V (Unit {0})) (answer : Answer) (store' : StoreState K V S)
      (later : Running K V (Unit {0})) → reply_in (ask_of r.machine) ≡ None
      → PerformsAsk eq whatever hash false (ask_of r.machine) store r answer store' later → later.machine ≡ r.machine → IsMade store r
      → IsMade store' (stepped later r.machine answer)
  made_more store r answer store' later going performs same made keys lawful fits = came_more store r answer store' later going performs same keys
      (made keys lawful fits)

  -- and the call comes nearer its end
  pub made_nears : (store : StoreState K V S) (r : Running K V (Unit {0})) (answer : Answer) (store' : StoreState K V S)
      (later : Running K V (Unit {0})) → reply_in (ask_of r.machine) ≡ None
      → PerformsAsk eq whatever hash false (ask_of r.machine) store r answer store' later → later.machine ≡ r.machine → IsMade store r
      → IsLawfulKeys eq (hash s.store.hasher) → IsLawfulMap eq (hash s.store.hasher) s.store s.mode s.initial → hash s.store.hasher call.key < 2 ^ 64
      → left_of store' (after r.machine answer) < left_of store r.machine
  made_nears store r answer store' later going performs same made keys lawful fits = came_nears store r answer store' later going performs same keys
      (made keys lawful fits)

  -- a call under way that has changed nothing has left the map as it was
  pub made_unchanged : IsLawfulKeys eq (hash s.store.hasher) → IsLawfulMap eq (hash s.store.hasher) s.store s.mode s.initial
      → hash s.store.hasher call.key < 2 ^ 64 → (store : StoreState K V S) (r : Running K V (Unit {0})) → reply_in (ask_of r.machine) ≡ None
      → change_in r.machine.call.state ≡ None → HasCome store r → Unchanged eq s.store store × KeepsPairs s.store store
  made_unchanged keys lawful fits store r going none came =
      let left : IsLeft eq hash (core_of s) (seated store (still r) s.mode s.initial) r =
      call_left eq hash (core_of s) keys whatever (seated store (still r) s.mode s.initial) came.history r
      (ap (λ o. call_in (as_work (goes_on o r))) going) call.call came.steps lawful.lawful refl
      (turns_made eq hash s call.call came.number (key_fits (hash s.store.hasher) call fits) lawful.power came.steps
      (seated store (still r) s.mode s.initial) came.history came.runs) none in
      (left.map, left.keeps)

  -- the tables that a call on a key has made
  pub made_tables : IsLawfulKeys eq (hash s.store.hasher) → IsLawfulMap eq (hash s.store.hasher) s.store s.mode s.initial
      → hash s.store.hasher call.key < 2 ^ 64 → (store : StoreState K V S) (r : Running K V (Unit {0})) → IsMade store r → Grows s (record s { store = store })
  made_tables keys lawful fits store r made = (made keys lawful fits).long.made

  -- a call that has replied was made alone
  pub made_alone : IsLawfulKeys eq (hash s.store.hasher) → IsLawfulMap eq (hash s.store.hasher) s.store s.mode s.initial
      → hash s.store.hasher call.key < 2 ^ 64 → (store : StoreState K V S) (r : Running K V (Unit {0})) (reply : Reply)
      → reply_in (ask_of r.machine) ≡ Some reply → IsMade store r → IsOver eq hash s call.call store reply
  made_alone keys lawful fits store r reply told made =
      let came = made keys lawful fits in
      let ends = came.replied reply told in
      made_over eq hash s call.call came.number (key_fits (hash s.store.hasher) call fits) lawful.power came.steps store came.history
      (subst (λ (o : Option Reply). StepsRun eq whatever hash 1 0 came.steps (start eq hash s call.call came.number) (with_event 0 0 Begun [])
      (seated store (goes_on o r) s.mode s.initial) came.history) told came.runs)
      reply ends.0 ends.1 ends.2 ends.3 (long_left s store r.machine came.long) (λ most e. (came.numbered most e).0)
