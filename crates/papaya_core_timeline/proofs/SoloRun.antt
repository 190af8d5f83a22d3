-- The run of one call that is made alone: its effect on the core, and its history.
use Rattle.std.proofs.Common.{◌≡◌, ◌⊎◌, inl, inr, ℕ, zero, suc, ◌≤◌, ◌<◌, ◌+ℤ◌, Bool, true, false}
use Rattle.std.proofs.Common.{Option, None, Some, List, [], ◌∷◌, ◌++◌, length, refl, sym, ◌∙◌, ap}
use Rattle.std.proofs.Common.{subst, arith}
use Rattle.std.specs.Int.{w64, int_wrap}
use Rattle.papaya_call.specs.Answers.{Says}
use Rattle.papaya_call.specs.declared.ask.Ask.TheVariants.{Done as Ask_done}
use Rattle.papaya_call.specs.declared.call.Call.{Call}
use Rattle.papaya_call.specs.declared.call.Reply.{Reply}
use Rattle.papaya_call.specs.declared.call.Reply.TheVariants.{Absent, Found, Inserted, Replaced, Occupied, Removed, Kept, Aborted, Done, Refused}
use Rattle.papaya_call.specs.declared.call.Task.{Task}
use Rattle.papaya_call.specs.declared.call.Task.TheVariants.{Insert, Compute}
use Rattle.papaya_words_law.specs.Exchange.{Exchange, Setting}
use Rattle.papaya_call.specs.declared.chain.ask.Ask.TheVariants as asks
use Rattle.papaya_call.specs.ChainMachine.{after, ask_of, kind_of_ask}
use Rattle.papaya_call_law.specs.Relies.{IsMadePair, IsReply, change_in}
use Rattle.papaya_call_law.specs.TrueAnswers.{IsOneOf, LoadedPairs}
use Rattle.papaya_core_timeline.specs.declared.seat.Seat.{Seat}
use Rattle.papaya_core_store.specs.declared.pairs.Pair.{Pair}
use Rattle.papaya_core_timeline.specs.declared.trace.Entry.{Entry}
use Rattle.papaya_core_timeline.specs.declared.trace.Event.{Event}
use Rattle.papaya_core_timeline.specs.declared.trace.Event.TheVariants.{Begun, Changed, Moved, Asked, Shown, Gave, Other, Replied}
use Rattle.papaya_core_timeline.specs.declared.trace.Turn.TheVariants.{Begin, Finish}
use Rattle.papaya_core_timeline.specs.Advances.{Advances, event_of}
use Rattle.papaya_core_timeline.specs.Begins.{Begins, begun_work}
use Rattle.papaya_core_timeline.specs.Callers.{resizing, running, scanning, with_call, with_seat, with_work, working}
use Rattle.papaya_core_timeline.specs.declared.seat.Work.{Work}
use Rattle.papaya_core_timeline.specs.declared.seat.Work.TheVariants as works
use Rattle.papaya_core_timeline.specs.Resizes.{Resizes}
use Rattle.papaya_call.specs.Resizer.{after as after_resize}
use Rattle.papaya_core_timeline.proofs.CopyAnswers.{left_logged}
use Rattle.papaya_core_timeline.proofs.CountedResized.{counted_resize}
use Rattle.papaya_core_timeline.proofs.GoodResized.{resize_same, resizer_replies}
use Rattle.papaya_core_timeline.proofs.KeptResized.{left as resize_left, resize_kept}
use Rattle.papaya_core_timeline.specs.Content.{map_in, map_of}
use Rattle.papaya_core_timeline.specs.Core.{CoreState, IsCore}
use Rattle.papaya_core_timeline.specs.Counted.{IsCounted, owed_in}
use Rattle.papaya_core_timeline.specs.Kept.{CallTrace, IsConsistent, IsLawfulCore, begun_call_traces, coding_of, low, setting_of, told_call_traces}
use Rattle.papaya_core_timeline.specs.Runs.{BeginRuns, History, StepRuns, StepsRun, TurnRuns, TurnsRun, with_event, with_step}
use Rattle.papaya_core_timeline.specs.Solo.{IsNewIn, RunsAlone, whatever}
use Rattle.papaya_core_store.specs.Store.{KeepsPairs, StoreState, Stored, pair_of}
use Rattle.papaya_core_timeline.specs.Timeline.{begins, open_after}
use Rattle.papaya_core_timeline.specs.Maps.{Same}
use Rattle.papaya_core_timeline.proofs.AdvanceLemmas.{unmoved}
use Rattle.papaya_core_timeline.proofs.CallersLemmas.{call-under_way, resizer-under_way, same_item}
use Rattle.papaya_core_timeline.proofs.ChainLemmas.{own_asks}
use Rattle.papaya_core_timeline.proofs.CoreLemmas.{reply_asked}
use Rattle.papaya_core_timeline.proofs.CountedLemmas.{counted_begin, counted_step}
use Rattle.papaya_core_timeline.proofs.StepEvents.{event_begins, event_open, stage_moves}
use Rattle.papaya_core_timeline.proofs.HeadlineLemmas.{advance-core, begin-core, resize-core}
use Rattle.papaya_core_timeline.proofs.KeptCore.{performs-hasher}
use Rattle.papaya_core_timeline.proofs.KeptLemmas.{IsLawfulKeys, IsStep, kept_begin, kept_step}
use Rattle.papaya_core_store.proofs.Logs.{pair_below, pair_number}
use Rattle.papaya_core_timeline.proofs.MachineLemmas.{machine_replies}
use Rattle.papaya_core_timeline.proofs.SoloTimeline.{AreOfSteps, IsOfStep, open_history}
use Rattle.papaya_words.specs.declared.refused.Refused.{Refused as Refusal}
use Rattle.papaya_call_law.specs.ChainAnswers as chain_told
use Rattle.papaya_core_timeline.specs.ScanGoes.{Scans, reply_or, list_refusal}
use Rattle.papaya_core_timeline.proofs.CountedScanned.{counted_scan}
use Rattle.papaya_core_timeline.proofs.KeptScanned.{scanned-core, step_after as scan_after}
use Rattle.papaya_core_timeline.proofs.SoloScans.{scan_of_step}
use Rattle.papaya_call.specs.declared.chain.scanner.ScannerState.{ScannerState as Scan_state}
use Rattle.papaya_call.specs.declared.chain.scanner.ScannerState.TheVariants as scan_states
use Rattle.papaya_call.specs.Scanner.{after as after_scan, kind_of_ask as kind_of_scan, reply_in as scan_reply_in}

-- an event that begins no call and ends none is of a step
of_step : (event : Event) → begins event ≡ false → open_after {A = ℕ} event None (Some 0) ≡ Some 0 → IsOfStep event
of_step Begun no_begin stays = cc
of_step (Changed kind old new) no_begin stays = tt
of_step (Moved kind) no_begin stays = tt
of_step (Asked n agrees) no_begin stays = tt
of_step (Shown n kind) no_begin stays = tt
of_step (Gave n) no_begin stays = tt
of_step Other no_begin stays = tt
of_step (Replied reply) no_begin stays = cc

module _ {K V S : Type 0} where
  -- no pair has a number past the end of the arena
  past_log : (store : StoreState K V S) (n : ℕ) → length store.pairs ≤ n → pair_of store n ≡ None
  past_log store n past = by_pair (pair_of store n) refl
    where
      by_pair : (o : Option (Stored K V)) → pair_of store n ≡ o → pair_of store n ≡ None
      by_pair None e = e
      by_pair (Some p) e = let lt : n < length store.pairs = pair_below store n p e in absurd (omega arith)

-- the one seat, with this work
abbrev pub one_seat : {K V A : Type 0} → Option (Work K V A) → List (Seat K V A)
one_seat work = record { caller = 0; work = work } ∷ []

module _ {K V S A : Type 0} (eq : K → K → Bool) (hash : S → K → ℕ) (s : CoreState K V S A) (law : IsLawfulKeys eq (hash s.store.hasher))
    (says : Says K V A) where
  -- A core that was reached from the core s by the steps of one call: it is in order, and its arena
  -- has grown.
  pub record Follows (s' : CoreState K V S A) : Type 0 where
    pub es : List (Exchange (Stored K V))
    pub call_traces : ℕ → CallTrace K V
    pub core : IsCore s'.store s'.callers s'.mode
    pub kept : IsConsistent eq (hash s.store.hasher) s'.mode s'.store s'.callers es call_traces
    pub counted : IsCounted eq s.store s.callers → IsCounted eq s'.store s'.callers
    pub hasher_is : s'.store.hasher ≡ s.store.hasher
    pub mode_is : s'.mode ≡ s.mode
    pub initial_is : s'.initial ≡ s.initial
    pub keeps : KeepsPairs s.store s'.store
    pub longer : length s.store.pairs ≤ length s'.store.pairs
    -- the pairs that the call made were not in the arena at the begin
    pub new : (q : Stored K V) → IsOneOf (call_traces 0).loaded.call.made q → length s.store.pairs ≤ q.number

  -- after the begin
  pub follows_begin : (call : Call K V A) (s' : CoreState K V S A) → s.callers ≡ [] → IsCore s.store s.callers s.mode
      → (es : List (Exchange (Stored K V))) (call_traces : ℕ → CallTrace K V) → IsConsistent eq (hash s.store.hasher) s.mode s.store s.callers es call_traces
      → Begins (hash s.store.hasher) s 0 call s' → Follows s'
  follows_begin call s' idle core es call_traces kept x = record {
    es = es;
    call_traces = begun_call_traces call_traces 0 es;
    core = begin-core (hash s.store.hasher) s 0 call s' x core;
    kept = kept_begin eq (hash s.store.hasher) law s 0 call s' x es call_traces kept;
    counted = counted_begin eq (hash s.store.hasher) s 0 call s' x (ap (λ (l : List (Seat K V A)). working l 0) idle);
    hasher_is = ap (λ (y : StoreState K V S). y.hasher) x.store;
    mode_is = x.mode;
    initial_is = x.initial;
    keeps = λ n p e. ap (λ (y : StoreState K V S). pair_of y n) x.store ∙ e;
    longer = let same : length s'.store.pairs ≡ length s.store.pairs = ap (λ (y : StoreState K V S). length y.pairs) x.store in omega arith;
    new = λ q one. elim one [ ];
  }

  -- a step from such a core, with the traces after it
  abbrev step_of : (now s' : CoreState K V S A) (event : Event) (reply : Option Reply) (f : Follows now)
      (x : Advances eq says hash false now 0 s' event reply) → IsStep eq (hash s.store.hasher) law false now 0 s' event reply x f.es f.call_traces
  step_of now s' event reply f x = kept_step eq (hash s.store.hasher) law false now 0 s' event reply x (ap hash f.hasher_is) f.es f.call_traces f.core f.kept

  -- a pair that the call has made after a step
  new_after : (now s' : CoreState K V S A) (event : Event) (reply : Option Reply) (f : Follows now)
      (x : Advances eq says hash false now 0 s' event reply) → (q : Stored K V) → IsOneOf (step_of now s' event reply f x).loaded.call.made q
      → length s.store.pairs ≤ q.number
  new_after now s' event reply f x q made = elim ((step_of now s' event reply f x).new q made) [
    | inl old ↦ f.new q old
    | inr (number, value, there) ↦ let more = f.longer in omega arith
  ]

  -- after a step
  follows_step : (now s' : CoreState K V S A) (event : Event) (reply : Option Reply) → Follows now → Advances eq says hash false now 0 s' event reply
      → Follows s'
  follows_step now s' event reply f x =
      let step = step_of now s' event reply f x in
      let core' = advance-core eq says hash false now 0 s' event reply x f.core in
      record {
        es = f.es ++ step.made;
        call_traces = told_call_traces f.call_traces 0 step.made step.loaded;
        core = core';
        kept = step.kept;
        counted = λ was. counted_step eq (hash s.store.hasher) law false now 0 s' event reply x (ap hash f.hasher_is) f.es f.call_traces f.core core'
            f.kept (f.counted was);
        hasher_is = performs-hasher eq says hash false (ask_of x.before.machine) now.store x.before x.answer s'.store x.later x.performs ∙ f.hasher_is;
        mode_is = x.mode ∙ f.mode_is;
        initial_is = x.initial ∙ f.initial_is;
        keeps = λ n p e. let there = f.keeps n p e in
            let number = pair_number now.store n p there in
            subst (λ m. pair_of s'.store m ≡ Some p) number (step.logged p (subst (λ m. pair_of now.store m ≡ Some p) (sym number) there));
        longer = let more = f.longer in let further = step.longer in omega arith;
        new = new_after now s' event reply f x;
      }

  -- the same for a step of a resizer
  follows_resize : (now s' : CoreState K V S A) (event : Event) (reply : Option Reply) → Follows now → Resizes eq hash false now 0 s' event reply → Follows s'
  follows_resize now s' event reply f x =
      let left = resize_left eq (hash s.store.hasher) law false now 0 s' event reply x (ap hash f.hasher_is) f.es f.call_traces f.core f.kept in
      let core' = resize-core eq hash false now 0 s' event reply x f.core in
      record {
        es = f.es ++ left.made;
        call_traces = told_call_traces f.call_traces 0 left.made left.loaded';
        core = core';
        kept = resize_kept eq (hash s.store.hasher) law false now 0 s' event reply x (ap hash f.hasher_is) f.es f.call_traces f.core f.kept;
        counted = λ was. counted_resize eq (hash s.store.hasher) law false now 0 s' event reply x (ap hash f.hasher_is) f.es f.call_traces f.core
            core' f.kept (f.counted was);
        hasher_is = left.hasher_is ∙ f.hasher_is;
        mode_is = x.mode ∙ f.mode_is;
        initial_is = x.initial ∙ f.initial_is;
        keeps = λ n p e. left_logged (setting_of eq (low (hash s.store.hasher)) now.mode now.store.words.tables)
            (coding_of (low (hash s.store.hasher))) now.store f.es (f.call_traces 0).loaded left n p (f.keeps n p e);
        longer = let more = f.longer in let same = ap (λ (l : List (Pair K V)). length l) left.pairs_are in omega (arith, more, same);
        new = λ q made. f.new q (subst (λ l. IsOneOf l q) left.same_made made);
      }

  -- and for one of a scanner, which makes no pair
  follows_scan : (now s' : CoreState K V S A) (event : Event) (reply : Option Reply) → Follows now → Scans eq says hash false now 0 s' event reply → Follows s'
  follows_scan now s' event reply f x =
      let then = scan_after eq (hash s.store.hasher) law says hash false now 0 s' event reply x (ap hash f.hasher_is) f.es f.call_traces f.core f.kept in
      let core' = scanned-core eq (hash s.store.hasher) law says hash false now 0 s' event reply x f.core in
      record {
        es = then.es_then;
        call_traces = then.call_traces_then;
        core = core';
        kept = then.kept_after;
        counted = λ was. counted_scan eq (hash s.store.hasher) law says hash false now 0 s' event reply x (ap hash f.hasher_is) f.es f.call_traces
            f.core f.kept (f.counted was);
        hasher_is = then.hasher_is ∙ f.hasher_is;
        mode_is = x.mode ∙ f.mode_is;
        initial_is = x.initial ∙ f.initial_is;
        keeps = λ n p e. then.keeps n p (f.keeps n p e);
        longer = let more = f.longer in let same = ap (λ (l : List (Pair K V)). length l) then.pairs_are in omega (arith, more, same);
        new = λ q made. f.new q (subst (λ (l : chain_told.LoadedPairs (Stored K V)). IsOneOf l.call.made q) then.own_made made);
      }

  -- a pair that the call made, according to its reply, was not in the arena at the begin
  owned : (g : Setting K (Stored K V)) (first since : List (Exchange (Stored K V))) (k : K) (loaded : LoadedPairs (Stored K V)) (n : ℕ)
      → ((q : Stored K V) → IsOneOf loaded.made q → length s.store.pairs ≤ q.number)
      → IsMadePair g (coding_of (low (hash s.store.hasher))) first since k loaded n → pair_of s.store n ≡ None
  owned g first since k loaded n new (q, made, number) = past_log s.store n (let most = new q made in let same : q.number ≡ n = number in omega arith)

  -- for each reply
  unlogged_by : (g : Setting K (Stored K V)) (first since : List (Exchange (Stored K V))) (k : K) (loaded : LoadedPairs (Stored K V)) (task : Task)
      (reply : Reply) → ((q : Stored K V) → IsOneOf loaded.made q → length s.store.pairs ≤ q.number)
      → IsReply g (coding_of (low (hash s.store.hasher))) first since k loaded task reply → IsNewIn s.store reply
  unlogged_by g first since k loaded (Insert replace) (Inserted n) new (q, made, number, key) = owned g first since k loaded n new (q, made, number)
  unlogged_by g first since k loaded (Insert true) (Replaced o n) new own = owned g first since k loaded n new own
  unlogged_by g first since k loaded Compute (Inserted n) new (q, made, number, key) = owned g first since k loaded n new (q, made, number)
  unlogged_by g first since k loaded Compute (Replaced o n) new own = owned g first since k loaded n new own
  unlogged_by g first since k loaded task Absent new own = tt
  unlogged_by g first since k loaded task (Found n) new own = tt
  unlogged_by g first since k loaded task (Occupied n) new own = tt
  unlogged_by g first since k loaded task (Removed n) new own = tt
  unlogged_by g first since k loaded task (Kept n) new own = tt
  unlogged_by g first since k loaded task (Aborted t) new own = tt
  unlogged_by g first since k loaded task Done new own = tt
  unlogged_by g first since k loaded task (Refused refused) new own = tt
  unlogged_by g first since k loaded _ _ new own = absurd own

  -- the same after the step that replies
  unlogged_after : (now s' : CoreState K V S A) (event : Event) (reply : Reply) (f : Follows now)
      → Advances eq says hash false now 0 s' event (Some reply) → IsNewIn s.store reply
  unlogged_after now s' event reply f x =
      let step = step_of now s' event (Some reply) f x in
      let m = after x.before.machine x.answer in
      let g = setting_of eq (low (hash s.store.hasher)) s'.mode s'.store.words.tables in
      let call_trace = told_call_traces f.call_traces 0 step.made step.loaded 0 in
      let done : ask_of m ≡ asks.Call (Ask_done reply) = reply_asked (ask_of m) reply (sym x.reply_is) in
      unlogged_by g call_trace.begun call_trace.since step.own.key call_trace.loaded.call m.call.task reply (new_after now s' event (Some reply) f x)
      (machine_replies g (coding_of (low (hash s.store.hasher))) call_trace.begun call_trace.since step.own.key m.call call_trace.loaded.call
      step.own.relies.call reply (own_asks m (Ask_done reply) done).1).0

  -- while a call has changed nothing, the map is as it was at the begin, and one that resizes it changes nothing
  abbrev pub IsUnmoved : CoreState K V S A → Work K V A → Type 0
  IsUnmoved s' (works.Call r) = change_in r.machine.call.state ≡ None → Same (map_of eq s) (map_of eq s')
  IsUnmoved s' (works.Resize z) = Same (map_of eq s) (map_of eq s')
  IsUnmoved s' (works.Scan v) = Unit {0}

  unmoved_where : (s' : CoreState K V S A) (work : Work K V A) → Same (map_of eq s) (map_of eq s') → IsUnmoved s' work
  unmoved_where s' (works.Call r) same = λ none. same
  unmoved_where s' (works.Resize z) same = same
  unmoved_where s' (works.Scan v) same = tt

  -- the call is open, and no other caller has a seat
  pub record IsSole (s' : CoreState K V S A) (h : History) : Type 0 where
    pub follows : Follows s'
    pub work : Work K V A
    pub callers : s'.callers ≡ one_seat (Some work)
    pub events : List Event
    pub of_steps : AreOfSteps events
    pub history : h ≡ open_history events
    pub unmoved : IsUnmoved s' work

  -- the call has replied
  pub record IsOver (s' : CoreState K V S A) (h : History) (reply : Reply) : Type 0 where
    pub follows : Follows s'
    pub callers : s'.callers ≡ one_seat None
    pub events : List Event
    pub of_steps : AreOfSteps events
    pub history : h ≡ with_event 1 0 (Replied reply) (open_history events)
    pub unlogged : IsNewIn s.store reply

  -- the event of a step
  event_of_step : (now s' : CoreState K V S A) (event : Event) (reply : Option Reply) → Advances eq says hash false now 0 s' event reply → IsOfStep event
  event_of_step now s' event reply x =
      let kind = kind_of_ask x.before.machine in
      let ask = ask_of x.before.machine in
      subst IsOfStep (sym x.event_is) (of_step (event_of kind ask x.answer) (event_begins kind ask x.answer) (event_open None (Some 0) kind ask x.answer))

  -- after the begin the call is open
  begin_runs : (call : Call K V A) (s' : CoreState K V S A) (h : History) → s.callers ≡ [] → IsCore s.store s.callers s.mode
      → (es : List (Exchange (Stored K V))) (call_traces : ℕ → CallTrace K V) → IsConsistent eq (hash s.store.hasher) s.mode s.store s.callers es call_traces
      → BeginRuns eq says hash 0 0 call s [] s' h → IsSole s' h
  begin_runs call s' h idle core es call_traces kept (inl (none, x, told)) = record {
    follows = follows_begin call s' idle core es call_traces kept x;
    work = begun_work (hash s.store.hasher) s.mode s.initial x.number call;
    callers = x.callers ∙ ap (λ (l : List (Seat K V A)).
        with_work (with_seat l 0) 0 (Some (begun_work (hash s.store.hasher) s.mode s.initial x.number call))) idle;
    events = [];
    of_steps = tt;
    history = told;
    unmoved = unmoved_where s' (begun_work (hash s.store.hasher) s.mode s.initial x.number call) (λ j. ap (λ (y : StoreState K V S). map_in eq y j) x.store);
  }
  begin_runs call s' h idle core es call_traces kept (inr (r, busy, passed)) = let f : None ≡ Some r = sym
      (ap (λ (l : List (Seat K V A)). working l 0) idle) ∙ busy in absurd cc

  -- the call is open, or it has replied
  abbrev pub Goes : CoreState K V S A → History → Type 0
  Goes s' h = IsSole s' h ⊎ ((reply : Reply) × IsOver s' h reply)

  -- a step after which the call has changed nothing leaves the map as it was at the begin
  step_unmoved : (now s' : CoreState K V S A) (h : History) (event : Event) (reply : Option Reply) → IsSole now h
      → (x : Advances eq says hash false now 0 s' event reply) → change_in (after x.before.machine x.answer).call.state ≡ None → Same (map_of eq s) (map_of eq s')
  step_unmoved now s' h event reply sole x none =
      let f = sole.follows in
      let (before, same) = unmoved eq (hash s.store.hasher) law false now s' 0 event reply x f.core
      (advance-core eq says hash false now 0 s' event reply x f.core) f.es f.call_traces f.kept (step_of now s' event reply f x) none in
      let is : sole.work ≡ works.Call x.before = same_item sole.work (works.Call x.before)
      (sym (ap (λ (l : List (Seat K V A)). working l 0) sole.callers) ∙ call-under_way (working now.callers 0) x.before x.was) in
      let first : Same (map_of eq s) (map_of eq now) = subst (IsUnmoved now) is sole.unmoved before in
      λ j. same j ∙ first j

  -- a step of the open call
  sole_steps : (now s' : CoreState K V S A) (h h' : History) (event : Event) (reply : Option Reply) → IsSole now h
      → Advances eq says hash false now 0 s' event reply → h' ≡ with_step 1 0 event reply h → Goes s' h'
  sole_steps now s' h h' event None sole x told = inl (record {
    follows = follows_step now s' event None sole.follows x;
    work = works.Call (record x.later { machine = after x.before.machine x.answer });
    callers = x.callers ∙ ap (λ (l : List (Seat K V A)). with_call l 0 (Some (record x.later { machine = after x.before.machine x.answer }))) sole.callers;
    events = event ∷ sole.events;
    of_steps = (event_of_step now s' event None x, sole.of_steps);
    history = told ∙ ap (with_event 1 0 event) sole.history;
    unmoved = λ none. step_unmoved now s' h event None sole x none;
  })
  sole_steps now s' h h' event (Some reply) sole x told = inr (
    reply,
    record {
      follows = follows_step now s' event (Some reply) sole.follows x;
      callers = x.callers ∙ ap (λ (l : List (Seat K V A)). with_call l 0 None) sole.callers;
      events = event ∷ sole.events;
      of_steps = (event_of_step now s' event (Some reply) x, sole.of_steps);
      history = told ∙ ap (λ l. with_event 1 0 (Replied reply) (with_event 1 0 event l)) sole.history;
      unlogged = unlogged_after now s' event reply sole.follows x;
    },
  )

  -- a step of the open call that resizes the map
  sole_resizes : (now s' : CoreState K V S A) (h h' : History) (event : Event) (reply : Option Reply) → IsSole now h
      → Resizes eq hash false now 0 s' event reply → h' ≡ with_step 1 0 event reply h → Goes s' h'
  sole_resizes now s' h h' event None sole x told = inl (record {
    follows = follows_resize now s' event None sole.follows x;
    work = works.Resize (after_resize x.before x.answer);
    callers = x.callers ∙ ap (λ (l : List (Seat K V A)). with_work l 0 (Some (works.Resize (after_resize x.before x.answer)))) sole.callers;
    events = event ∷ sole.events;
    of_steps = (subst IsOfStep (sym x.event_is) (stage_moves IsOfStep tt (λ kind. tt) x.before.state x.ask x.answer), sole.of_steps);
    history = told ∙ ap (with_event 1 0 event) sole.history;
    unmoved = λ j. moves j ∙ first j;
  })
    where
      first : Same (map_of eq s) (map_of eq now)
      first = subst (IsUnmoved now) (same_item sole.work (works.Resize x.before)
          (sym (ap (λ (l : List (Seat K V A)). working l 0) sole.callers) ∙ resizer-under_way (working now.callers 0) x.before x.was)) sole.unmoved

      moves : Same (map_of eq now) (map_of eq s')
      moves = resize_same eq (hash s.store.hasher) law false now s' 0 event None x (ap hash sole.follows.hasher_is) sole.follows.core
          (resize-core eq hash false now 0 s' event None x sole.follows.core) sole.follows.es sole.follows.call_traces sole.follows.kept
  sole_resizes now s' h h' event (Some reply) sole x told = inr (
    reply,
    record {
      follows = follows_resize now s' event (Some reply) sole.follows x;
      callers = x.callers ∙ ap (λ (l : List (Seat K V A)). with_work l 0 None) sole.callers;
      events = event ∷ sole.events;
      of_steps = (subst IsOfStep (sym x.event_is) (stage_moves IsOfStep tt (λ kind. tt) x.before.state x.ask x.answer), sole.of_steps);
      history = told ∙ ap (λ l. with_event 1 0 (Replied reply) (with_event 1 0 event l)) sole.history;
      unlogged = elim (resizer_replies (after_resize x.before x.answer).state reply (sym x.reply_is)) [
        | inl done ↦ subst (IsNewIn s.store) (sym done) tt
        | inr (refused, is) ↦ subst (IsNewIn s.store) (sym is) tt
      ];
    },
  )

  -- a step of the open call that scans a table
  sole_scans : (now s' : CoreState K V S A) (h h' : History) (event : Event) (reply : Option Reply) → IsSole now h
      → Scans eq says hash false now 0 s' event reply → h' ≡ with_step 1 0 event reply h → Goes s' h'
  sole_scans now s' h h' event None sole x told = inl (record {
    follows = follows_scan now s' event None sole.follows x;
    work = works.Scan (record x.later { scanner = after_scan x.before.scanner x.answer });
    callers = x.callers ∙ ap (λ (l : List (Seat K V A)).
        with_work l 0 (Some (works.Scan (record x.later { scanner = after_scan x.before.scanner x.answer })))) sole.callers;
    events = event ∷ sole.events;
    of_steps = (subst IsOfStep (sym x.event_is) (scan_of_step (kind_of_scan x.before.scanner) x.ask x.answer), sole.of_steps);
    history = told ∙ ap (with_event 1 0 event) sole.history;
    unmoved = tt;
  })
  sole_scans now s' h h' event (Some reply) sole x told = inr (
    reply,
    record {
      follows = follows_scan now s' event (Some reply) sole.follows x;
      callers = x.callers ∙ ap (λ (l : List (Seat K V A)). with_work l 0 None) sole.callers;
      events = event ∷ sole.events;
      of_steps = (subst IsOfStep (sym x.event_is) (scan_of_step (kind_of_scan x.before.scanner) x.ask x.answer), sole.of_steps);
      history = told ∙ ap (λ l. with_event 1 0 (Replied reply) (with_event 1 0 event l)) sole.history;
      unlogged = scan_unlogged (list_refusal x.ask x.answer) (after_scan x.before.scanner x.answer).state reply (sym x.reply_is);
    },
  )
    where
      scan_unlogged : (o : Option Refusal) (state : Scan_state) (reply : Reply) → reply_or o (scan_reply_in state) ≡ Some reply → IsNewIn s.store reply
      scan_unlogged None scan_states.Done reply e = subst (IsNewIn s.store) (same_item Done reply e) tt
      scan_unlogged None (scan_states.Refused refused) reply e = subst (IsNewIn s.store) (same_item (Refused refused) reply e) tt
      scan_unlogged None state reply e = let f : None ≡ Some reply = e in absurd cc
      scan_unlogged (Some refused) state reply e = subst (IsNewIn s.store) (same_item (Refused refused) reply e) tt

  -- a step, or one that is passed over
  step_runs : (now s' : CoreState K V S A) (h h' : History) → Goes now h → StepRuns eq says hash 1 0 false now h s' h' → Goes s' h'
  step_runs now s' h h' (inl sole) (inl (event, reply, inl x, told)) = sole_steps now s' h h' event reply sole x told
  step_runs now s' h h' (inl sole) (inl (event, reply, inr (inl x), told)) = sole_resizes now s' h h' event reply sole x told
  step_runs now s' h h' (inl sole) (inl (event, reply, inr (inr x), told)) = sole_scans now s' h h' event reply sole x told
  step_runs now s' h h' (inr (r, over)) (inl (event, reply, inl x, told)) =
      let f : None ≡ Some x.before = sym (ap (λ (l : List (Seat K V A)). running l 0) over.callers) ∙ x.was in absurd cc
  step_runs now s' h h' (inr (r, over)) (inl (event, reply, inr (inl x), told)) =
      let f : None ≡ Some x.before = sym (ap (λ (l : List (Seat K V A)). resizing l 0) over.callers) ∙ x.was in absurd cc
  step_runs now s' h h' (inr (r, over)) (inl (event, reply, inr (inr x), told)) =
      let f : None ≡ Some x.before = sym (ap (λ (l : List (Seat K V A)). scanning l 0) over.callers) ∙ x.was in absurd cc
  step_runs now s' h h' goes (inr (idle, (same, as_before))) = subst (λ y. Goes y h') (sym same) (subst (Goes now) (sym as_before) goes)

  -- `steps` steps
  steps_run : (steps : ℕ) (now s' : CoreState K V S A) (h h' : History) → Goes now h → StepsRun eq says hash 1 0 steps now h s' h' → Goes s' h'
  steps_run zero now s' h h' goes (same, as_before) = subst (λ y. Goes y h') (sym same) (subst (Goes now) (sym as_before) goes)
  steps_run (suc steps) now s' h h' goes (middle, so_far, runs, last) = step_runs middle s' so_far h' (steps_run steps now middle h so_far goes runs) last

-- the newest event of the history of an open call is no reply
open_newest : (events : List Event) → AreOfSteps events → (last : Entry) (before : History) → last ∷ before ≡ open_history events → (reply : Reply)
    → last.event ≡ Replied reply → ⊥
open_newest [] are last before e reply replied =
    let same : last ≡ record { turn = 0; caller = 0; event = Begun } = cc in
    let f : Replied reply ≡ Begun = sym replied ∙ ap (λ (y : Entry). y.event) same in cc
open_newest (event ∷ events) are last before e reply replied =
    let same : last ≡ record { turn = 1; caller = 0; event = event } = cc in
    subst IsOfStep (ap (λ (y : Entry). y.event) (sym same) ∙ replied) are.0

module _ {K V S A : Type 0} (eq : K → K → Bool) (hash : S → K → ℕ) (s : CoreState K V S A) (law : IsLawfulKeys eq (hash s.store.hasher)) where
  -- a history that ends with this reply
  over_with : {says : Says K V A} (s' : CoreState K V S A) (last : Entry) (before : History) (reply : Reply) → last.event ≡ Replied reply
      → Goes eq hash s law says s' (last ∷ before) → IsOver eq hash s law says s' (last ∷ before) reply
  over_with {says} s' last before reply replied (inl sole) = absurd (open_newest sole.events sole.of_steps last before sole.history reply replied)
  over_with {says} s' last before reply replied (inr (r, over)) =
      let same : last ≡ record { turn = 1; caller = 0; event = Replied r } = newest last before over.events r over.history in
      let is : Replied r ≡ Replied reply = ap (λ (y : Entry). y.event) (sym same) ∙ replied in
      let is_reply : r ≡ reply = cc in
      subst (IsOver eq hash s law says s' (last ∷ before)) is_reply over
    where
      newest : (last : Entry) (before : History) (events : List Event) (r : Reply) → last ∷ before ≡ with_event 1 0 (Replied r) (open_history events)
          → last ≡ record { turn = 1; caller = 0; event = Replied r }
      newest last before events r e = cc

  -- a call that is made alone is open, or it has replied
  pub runs_to : (says : Says K V A) (call : Call K V A) (steps : ℕ) (s' : CoreState K V S A) (h : History)
      → IsLawfulCore eq (hash s.store.hasher) s.store s.callers s.mode → s.callers ≡ []
      → TurnsRun eq says hash (Begin 0 call ∷ Finish 0 steps ∷ []) 2 s s' h → Goes eq hash s law says s' h
  runs_to says call steps s' h lawful idle (what, middle, so_far, there, (what0, start, none, there0, (same, empty), first), second) =
      let (es, (call_traces, kept)) = lawful.law in
      let begins : BeginRuns eq says hash 0 0 call s [] middle so_far =
      subst (λ y. BeginRuns eq says hash 0 0 call y [] middle so_far) same
      (subst (λ y. BeginRuns eq says hash 0 0 call start y middle so_far) empty
      (subst (λ y. TurnRuns eq says hash 0 y start none middle so_far) (sym (same_item (Begin 0 call) what0 there0)) first)) in
      let made : StepsRun eq says hash 1 0 steps middle so_far s' h = subst (λ y. TurnRuns eq says hash 1 y middle so_far s' h)
      (sym (same_item (Finish 0 steps) what there)) second in
      steps_run eq hash s law says steps middle s' so_far h
      (inl (begin_runs eq hash s law says call middle so_far idle lawful.core es call_traces kept begins)) made

  -- the call that was made alone is over, and this is its reply
  pub runs_over : (call : Call K V A) (reply : Reply) (s' : CoreState K V S A) → IsLawfulCore eq (hash s.store.hasher) s.store s.callers s.mode
      → (x : RunsAlone eq hash s call reply s') → IsOver eq hash s law whatever s' (x.last ∷ x.before) reply
  runs_over call reply s' lawful x = over_with s' x.last x.before reply x.replied (runs_to whatever call x.steps s' (x.last ∷ x.before) lawful x.idle x.runs)

  -- the seat may be forgotten: the core is in order without it
  pub without_seat : (s' : CoreState K V S A) {says : Says K V A} → Follows eq hash s law says s'
      → IsLawfulCore {A = A} eq (hash s'.store.hasher) s'.store [] s'.mode
  without_seat s' f =
      record {
        core = record {
          chunked = f.core.chunked;
          limit = f.core.limit;
          sizes = f.core.sizes;
          valid = λ caller r e. let n : None ≡ Some r = e in
              absurd cc;
          going = λ caller r e. let n : None ≡ Some r = e in absurd cc;
          resizers = λ caller z e. let n : None ≡ Some z = e in
              absurd cc;
          scanners = λ caller v e. let n : None ≡ Some v = e in absurd cc;
        };
        law = subst (λ y. (es : _) × ((call_traces : _) × IsConsistent {A = A} eq (hash y) s'.mode s'.store [] es call_traces)) (sym f.hasher_is) (
          f.es,
          (
            f.call_traces,
            record {
              allowed = f.kept.allowed;
              coded = f.kept.coded;
              hints = f.kept.hints;
              made = f.kept.made;
              logged = f.kept.logged;
              few = f.kept.few;
              tables_few = f.kept.tables_few;
              calls = λ caller r e. let n : None ≡ Some r = e in absurd cc;
              resizers = λ caller z e. let n : None ≡ Some z = e in absurd cc;
              scanners = λ caller v e. let n : None ≡ Some v = e in absurd cc;
              apart = λ c d r q e. let n : None ≡ Some r = e in absurd cc;
            },
          ),
        );
      }

  pub over_core : (s' : CoreState K V S A) (h : History) (reply : Reply) {says : Says K V A} → IsOver eq hash s law says s' h reply
      → IsLawfulCore {A = A} eq (hash s'.store.hasher) s'.store [] s'.mode
  over_core s' h reply over = without_seat s' over.follows

  -- and its count is right without it
  pub over_counted : (s' : CoreState K V S A) (h : History) (reply : Reply) {says : Says K V A} → IsOver eq hash s law says s' h reply
      → IsCounted eq s.store s.callers → IsCounted {A = A} eq s'.store []
  over_counted s' h reply over counted = sym (ap (λ (l : List (Seat K V A)). int_wrap w64 (s'.store.count.sum +ℤ owed_in l)) over.callers)
      ∙ over.follows.counted counted
