-- Begins and steps keep a good history.
use Rattle.std.proofs.Common.{arith, ◌≡◌, ◌≢◌, ◌⊎◌, inl, inr, ⊎_elim, ℕ, ◌<◌, Bool, true, false}
use Rattle.std.proofs.Common.{cond, Option, None, Some, List, [], ◌∷◌, ◌++◌, length, slice_get}
use Rattle.std.proofs.Common.{refl, sym, ◌∙◌, ap, subst, eq-eqb, append_assoc}
use Rattle.std.proofs.lemmas.Bool.{cases_Bool}
use Rattle.papaya_words.specs.declared.refused.Refused.TheVariants.{RemoveNothing}
use Rattle.papaya_call.specs.declared.ask.Ask.TheVariants.{ShowNone, Done as Ask_done}
use Rattle.papaya_call.specs.declared.ask.Answer.TheVariants.{Op, Made as Made_number}
use Rattle.papaya_call.specs.declared.ask.OpKind.{OpKind}
use Rattle.papaya_call.specs.declared.ask.StepKind.{StepKind}
use Rattle.papaya_call.specs.declared.call.Call.{Call}
use Rattle.papaya_call.specs.declared.call.Call.TheVariants.{Get, Insert, TryInsert, RemoveIf, Compute, Reserve, CopyAll, Clear, Retain, Walk}
use Rattle.papaya_call.specs.declared.call.Reply.{Reply}
use Rattle.papaya_call.specs.declared.call.Task.TheVariants as tasks
use Rattle.papaya_call.specs.Answers.{Says}
use Rattle.papaya_words_law.specs.Exchange.{Exchange, Replace, run, start as first_state}
use Rattle.papaya_words_law.specs.Invariant.{named}
use Rattle.papaya_call.specs.Machine.{HasClosure}
use Rattle.papaya_call.specs.declared.chain.ask.Ask.TheVariants as asks
use Rattle.papaya_call.specs.declared.chain.ask.Answer.TheVariants as told_to
use Rattle.papaya_call.specs.ChainMachine.{ask_of, follows_of, kind_of_ask, after}
use Rattle.papaya_call_law.specs.Goes.{Goes, IsInOrder, change_by as changed_by}
use Rattle.papaya_call_law.specs.ChainAnswers.{LoadedPairs, nothing_loaded}
use Rattle.papaya_call.specs.declared.chain.scanner.Scan.{Scan}
use Rattle.papaya_call.specs.declared.chain.scanner.Scan.TheVariants as scan_kinds
use Rattle.papaya_call_law.specs.ScanAnswers as scans
use Rattle.papaya_core_store.specs.declared.scans.Scanning.{Scanning}
use Rattle.papaya_call_law.proofs.Goes.{machine_goes}
use Rattle.papaya_call_law.proofs.Once.{chain_offered, chain_once as shows_once}
use Rattle.papaya_call_law.proofs.Replies.{chain_said, chain_shows, chain_task}
use Rattle.papaya_call_law.specs.Relies.{change_in, change_of_reply}
use Rattle.papaya_call_law.specs.Says.{HasCalledNone, IsResultChange, show}
use Rattle.papaya_call_law.specs.TrueAnswers.{IsOneOf}
use Rattle.papaya_words_law.specs.Code.{IsHashed}
use Rattle.papaya_core_store.specs.declared.pairs.Running.{Running}
use Rattle.papaya_core_timeline.specs.declared.seat.Seat.{Seat}
use Rattle.papaya_core_timeline.specs.declared.trace.Turn.{Turn}
use Rattle.papaya_core_timeline.specs.declared.trace.Turn.TheVariants.{Begin}
use Rattle.papaya_core_timeline.specs.declared.trace.Event.{Event}
use Rattle.papaya_core_timeline.specs.declared.trace.Event.TheVariants.{Begun, Changed, Moved, Asked, Shown, Gave, Other, Replied}
use Rattle.papaya_core_timeline.specs.Advances.{Advances, goes_on}
use Rattle.papaya_core_timeline.specs.Begins.{Begins, answers_of_call, begun, begun_work, handed, scanner_begun, value_of_call}
use Rattle.papaya_core_store.specs.Pairs.{value_at}
use Rattle.papaya_core_timeline.proofs.Begun.{IsBegun, begun_stands, call_begun, task_is_own, the_task}
use Rattle.papaya_core_timeline.specs.declared.seat.Work.{Work}
use Rattle.papaya_core_timeline.specs.declared.seat.Work.TheVariants as works
use Rattle.papaya_core_timeline.specs.Callers.{as_work, resizer_in, resizing, running, scanner_in, scanning, with_call, with_seat, with_work}
use Rattle.papaya_call.specs.declared.chain.resizer.Resizer.{Resizer}
use Rattle.papaya_core_timeline.specs.Content.{map_of}
use Rattle.papaya_core_timeline.specs.Core.{CoreState, IsCore}
use Rattle.papaya_core_timeline.specs.Given.{AreGiven, GivesIn, HasLeft, begun_answers}
use Rattle.papaya_core_timeline.specs.Headline.{AreInArena, AreNew, ComesNew, HasTimeline}
use Rattle.papaya_core_timeline.specs.Kept.{IsConsistent, CallTrace, setting_of, coding_of, low, told_call_traces, begun_call_traces, scan_trace}
use Rattle.papaya_core_timeline.specs.Maps.{Map, Does, at_key, key_of}
use Rattle.papaya_core_timeline.specs.Runs.{History, with_step}
use Rattle.papaya_core_store.specs.Store.{KeepsPairs, StoreState, Stored, pair_of}
use Rattle.papaya_core_timeline.specs.Timeline.{Answered, Timeline, IsLegal, MayChange, FitsOpen}
use Rattle.papaya_core_timeline.specs.Timeline.{FitsShown, IsAgreed, IsUnused, change_of, change_by}
use Rattle.papaya_core_timeline.specs.Timeline.{none_by, number_in, open_call, open_after, begun_by}
use Rattle.papaya_core_timeline.specs.Timeline.{begins, is_begin, was_shown_none, AtSomeMoment}
use Rattle.papaya_core_timeline.proofs.CallersLemmas.{no-resizer, no-scanner, resizing-elsewhere}
use Rattle.papaya_core_timeline.proofs.CallersLemmas.{resizing-here, resizing-with_seat}
use Rattle.papaya_core_timeline.proofs.CallersLemmas.{scanning-elsewhere, scanning-here}
use Rattle.papaya_core_timeline.proofs.CallersLemmas.{scanning-with_seat, running-same, running-other}
use Rattle.papaya_core_timeline.proofs.CallersLemmas.{running-elsewhere, running-here, running-with_seat}
use Rattle.papaya_core_timeline.proofs.CallersLemmas.{same_item, differs}
use Rattle.papaya_core_timeline.proofs.ChainLemmas.{chain_changed, chain_once, own_asks}
use Rattle.papaya_core_timeline.proofs.CoreLemmas.{cases_same, reply_asked}
use Rattle.papaya_core_timeline.proofs.EndingLemmas.{removes_nothing, step_ending, unrefused}
use Rattle.papaya_core_timeline.proofs.GivenLemmas.{given_more, left_more}
use Rattle.papaya_core_timeline.proofs.EntersOnce.{timeline_steady}
use Rattle.papaya_core_timeline.proofs.Good.{IsGood, IsKeyed, IsResize, IsScanOf, IsScanTied, IsTied, IsValueOf, replay, replayed}
use Rattle.papaya_core_timeline.proofs.GoodScans.{replay_keyed, scan_begins, scan_entry, scan_other}
use Rattle.papaya_core_timeline.proofs.KeptLemmas.{IsLawfulKeys, IsStep, kept_step, kept_begin, map_kept, hashed_setting}
use Rattle.papaya_core_store.proofs.Logs.{pair_below}
use Rattle.papaya_core_timeline.proofs.AdvanceLemmas.{advance_legal, changed as advance_changed, moved as advance_moved, order as advance_order}
use Rattle.papaya_core_timeline.proofs.LegalLemmas.{IsMoved, MayPut, MayReplace, MayTell, Moves, fits_asked, insertion_does, own_change, removal_does, replaces_own}
use Rattle.papaya_core_timeline.proofs.MachineLemmas.{machine_offers, machine_shows, machine_shows_none}
use Rattle.papaya_core_timeline.proofs.ReplayLemmas.{map_replayed, held_in_slot}
use Rattle.papaya_core_timeline.proofs.SaidLemmas.{change_agreed, said_after}
use Rattle.papaya_core_timeline.proofs.StepEvents.{copy_kind, one_exchange, event_begins, event_none, event_open, event_change, unchanged_before}
use Rattle.papaya_core_timeline.proofs.StepTells.{Tells, answering as answered_by, event_tells}
use Rattle.papaya_core_timeline.proofs.TellLemmas.{IsAnswering}
use Rattle.papaya_core_timeline.proofs.TiedLemmas.{IsEnding, HasMoreLogs, grown, tied_other, tied_entry, tied_fits, at_showing, at_showing_none, moments_more}
use Rattle.papaya_core_timeline.proofs.TimelineLemmas.{entry, open_call-own, open_call-other}
use Rattle.papaya_core_timeline.proofs.TimelineLemmas.{change_of-other, change_of-own, not_begin-own}
use Rattle.papaya_core_timeline.proofs.TimelineLemmas.{logged_more, logged_unused, was_shown_none-own}
use Rattle.papaya_core_store.specs.declared.store.Mode.{Mode}
use Rattle.papaya_core_store.specs.Performs.{own_value}
use Rattle.papaya_core_timeline.proofs.MadePairs.{MakesOver}

-- a call that continues is the one after its step
goes : {A : Type 0} (reply : Option Reply) (r' r : A) → goes_on reply r' ≡ Some r → (reply ≡ None) × (r' ≡ r)
goes None r' r e = (refl, same_item r' r e)
goes (Some reply) r' r e = let f : None ≡ Some r = e in cc

-- no pair has a number past the end of an arena that has its pairs and more
past_log : {K V S : Type 0} (first s : StoreState K V S) → KeepsPairs first s → (o : Option (Stored K V)) → pair_of first (length s.pairs) ≡ o → o ≡ None
past_log first s keeps None there = refl
past_log first s keeps (Some p) there =
    let below : length s.pairs < length s.pairs = pair_below s (length s.pairs) p (keeps (length s.pairs) p there) in
    absurd (omega (arith, below))

-- a pair of a compute may have any value
computed : {K V A : Type 0} (call : Call K V A) → the_task call ≡ tasks.Compute → (v : V) → IsValueOf call v
computed (Get k) is v = absurd cc
computed (Insert k w) is v = absurd cc
computed (TryInsert k w) is v = absurd cc
computed (RemoveIf k a) is v = absurd cc
computed (Compute k a) is v = tt
computed (Reserve more) is v = absurd cc
computed CopyAll is v = absurd cc
computed Clear is v = absurd cc
computed (Retain a) is v = absurd cc
computed Walk is v = absurd cc

module _ {K V A : Type 0} (hash : K → ℕ) (mode : Mode) (initial number : ℕ) where
  -- a resizer begins for a call that resizes the map
  resize_begun : (call : Call K V A) (z : Resizer) → begun_work hash mode initial number call ≡ works.Resize z → IsResize call
  resize_begun (Reserve more) z e = tt
  resize_begun CopyAll z e = tt
  resize_begun (Get k) z e = let f : None ≡ Some z = ap (λ (w : Work K V A). resizer_in (Some w)) e in absurd cc
  resize_begun (Insert k v) z e = let f : None ≡ Some z = ap (λ (w : Work K V A). resizer_in (Some w)) e in absurd cc
  resize_begun (TryInsert k v) z e = let f : None ≡ Some z = ap (λ (w : Work K V A). resizer_in (Some w)) e in absurd cc
  resize_begun (RemoveIf k a) z e = let f : None ≡ Some z = ap (λ (w : Work K V A). resizer_in (Some w)) e in absurd cc
  resize_begun (Compute k a) z e = let f : None ≡ Some z = ap (λ (w : Work K V A). resizer_in (Some w)) e in absurd cc
  resize_begun Clear z e = let f : None ≡ Some z = ap (λ (w : Work K V A). resizer_in (Some w)) e in absurd cc
  resize_begun (Retain a) z e = let f : None ≡ Some z = ap (λ (w : Work K V A). resizer_in (Some w)) e in absurd cc
  resize_begun Walk z e = let f : None ≡ Some z = ap (λ (w : Work K V A). resizer_in (Some w)) e in absurd cc

  -- a scanner begins for a call that scans a table, with the answers of its closure
  scan_is : (call : Call K V A) (scan : Scan) (answers : Option A) (v : Scanning A) → IsScanOf call scan → works.Scan (scanner_begun mode.resize initial number scan answers) ≡ begun_work hash mode initial number call → answers ≡ answers_of_call call → begun_work hash mode initial number call ≡ works.Scan v → IsScanOf call v.scanner.scan × (v.answers ≡ answers_of_call call)
  scan_is call scan answers v of begins are e =
      let same : scanner_begun mode.resize initial number scan answers ≡ v = same_item (scanner_begun mode.resize initial number scan answers) v (ap (λ (w : Work K V A). scanner_in (Some w)) (begins ∙ e)) in
      (subst (λ (u : Scanning A). IsScanOf call u.scanner.scan) same of, ap (λ (u : Scanning A). u.answers) (sym same) ∙ are)

  scan_begun : (call : Call K V A) (v : Scanning A) → begun_work hash mode initial number call ≡ works.Scan v → IsScanOf call v.scanner.scan × (v.answers ≡ answers_of_call call)
  scan_begun Clear v e = scan_is Clear scan_kinds.Clear None v tt refl refl e
  scan_begun (Retain a) v e = scan_is (Retain a) scan_kinds.Retain (Some a) v tt refl refl e
  scan_begun Walk v e = scan_is Walk scan_kinds.Walk None v tt refl refl e
  scan_begun (Get k) v e = let f : None ≡ Some v = ap (λ (w : Work K V A). scanner_in (Some w)) e in absurd cc
  scan_begun (Insert k w) v e = let f : None ≡ Some v = ap (λ (w : Work K V A). scanner_in (Some w)) e in absurd cc
  scan_begun (TryInsert k w) v e = let f : None ≡ Some v = ap (λ (w : Work K V A). scanner_in (Some w)) e in absurd cc
  scan_begun (RemoveIf k a) v e = let f : None ≡ Some v = ap (λ (w : Work K V A). scanner_in (Some w)) e in absurd cc
  scan_begun (Compute k a) v e = let f : None ≡ Some v = ap (λ (w : Work K V A). scanner_in (Some w)) e in absurd cc
  scan_begun (Reserve more) v e = let f : None ≡ Some v = ap (λ (w : Work K V A). scanner_in (Some w)) e in absurd cc
  scan_begun CopyAll v e = let f : None ≡ Some v = ap (λ (w : Work K V A). scanner_in (Some w)) e in absurd cc

module _ {K V S A : Type 0} (eq : K → K → Bool) (hash : K → ℕ) (law : IsLawfulKeys eq hash) where
  -- One step of a call, in a run whose history is good.
  module _ {says : Says K V A} {hashes : S → K → ℕ} (refuse : Bool) (schedule : List (Turn K V A)) (first : StoreState K V S) (start : Map K V) (s s' : CoreState K V S A) (h : History) (turn c : ℕ) (event : Event) (reply : Option Reply) (x : Advances eq says hashes refuse s c s' event reply) (as_hashed : hashes s.store.hasher ≡ hash) (core' : IsCore s'.store s'.callers s'.mode) (good : IsGood eq says hash schedule first start s h) where
    step : IsStep eq hash law refuse s c s' event reply x good.es good.call_traces
    step = kept_step eq hash law refuse s c s' event reply x as_hashed good.es good.call_traces good.core good.kept

    -- the exchanges and the traces after it
    abbrev es : List (Exchange (Stored K V))
    es = good.es ++ step.made

    abbrev call_traces : ℕ → CallTrace K V
    call_traces = told_call_traces good.call_traces c step.made step.loaded

    -- the call after it
    abbrev r' : Running K V A
    r' = record x.later { machine = after x.before.machine x.answer }

    abbrev later_history : History
    later_history = entry turn c event ∷ h

    abbrev later_maps : List (Map K V)
    later_maps = replay eq es ∷ replay eq good.es ∷ good.maps

    -- the result of a closure in it
    answering : IsAnswering says s'.store x.before x.later event
    answering = subst (λ y. IsAnswering says s'.store x.before x.later y) (sym x.event_is) (answered_by eq says hashes refuse (kind_of_ask x.before.machine) s.store x.before x.answer s'.store x.later (ask_of x.before.machine) x.performs)

    hashed : IsHashed (setting_of {V = V} eq (low hash) s.mode s.store.words.tables) (coding_of (low hash))
    hashed = hashed_setting eq hash law s good.core

    abbrev later_answers : Answered V
    later_answers = answering.answered ∷ good.answers

    -- only a compute calls its closure with `None`
    offers : ask_of x.before.machine ≡ asks.Call ShowNone → x.before.machine.call.task ≡ tasks.Compute
    offers asking = machine_offers (setting_of eq (low hash) s.mode s.store.words.tables) (coding_of (low hash)) (good.call_traces c).begun (good.call_traces c).since step.call.key x.before.machine.call (good.call_traces c).loaded.call step.call.relies.call (own_asks x.before.machine ShowNone asking).1

    grows : HasMoreLogs s.store x.before s'.store x.later
    grows = grown eq says hashes refuse (ask_of x.before.machine) s.store x.before x.answer s'.store x.later x.performs offers

    one : (step.made ≡ []) ⊎ ((e : Exchange (Stored K V)) × (step.made ≡ e ∷ []))
    one = one_exchange (setting_of eq (low hash) s.mode s.store.words.tables) (coding_of (low hash)) step.call.key (run good.es first_state) (kind_of_ask x.before.machine) (follows_of x.before.machine) (good.call_traces c).loaded (ask_of x.before.machine) x.answer step.made step.loaded step.told

    -- the answer was for the call itself, or the call was set aside
    order : IsInOrder x.before.machine x.answer x.before.machine.phase
    order = advance_order eq hash law refuse s s' c event reply x good.core core' good.es good.call_traces good.kept step

    goes_by : Goes x.before.machine x.answer
    goes_by = machine_goes x.before.machine x.answer order

    -- the machine's change after the answer follows from its ask, the answer and its change before
    changed : change_in (after x.before.machine x.answer).call.state ≡ changed_by (kind_of_ask x.before.machine) (ask_of x.before.machine) x.answer (change_in x.before.machine.call.state)
    changed = advance_changed eq hash law refuse s s' c event reply x good.core core' good.es good.call_traces good.kept step

    -- the key of an open call
    own_is : (call : Call K V A) → open_call schedule c h ≡ Some call → Some step.call.key ≡ key_of call
    own_is call e = let tied = good.tied c x.before call x.was e in sym step.call.own ∙ tied.key ∙ sym tied.key_is

    -- how the event describes the ask and the answer of the step
    told : (e : Event) → event ≡ e → Tells e (ask_of x.before.machine) x.answer
    told e is = subst (λ y. Tells y (ask_of x.before.machine) x.answer) (sym x.event_is ∙ is) (event_tells x.before.machine x.answer)

    -- no change was made before one
    unchanged : (kind : StepKind) (old new : Option ℕ) → event ≡ Changed kind old new → change_in x.before.machine.call.state ≡ None
    unchanged kind old new is = let (at, from, to, asking) = told (Changed kind old new) is in chain_once x.before.machine at from to asking

    -- an open call changes its key's class as its machine does
    does : (call : Call K V A) → open_call schedule c h ≡ Some call → (went came : Option (Stored K V)) → MayPut step.call.key x.before.machine.call.task (good.call_traces c).loaded.call.made went came → (reply : Reply) × Does call went reply came × (change_of_reply reply ≡ Some (number_in went, number_in came))
    does call e went (Some q) (made, own, replaces) =
        let tied = good.tied c x.before call x.was e in
        insertion_does call step.call.key went q (sym (own_is call e)) own (tied.made q made) (subst (MayReplace went) tied.task replaces)
    does call e (Some p) None closure = removal_does call p (subst HasClosure (good.tied c x.before call x.was e).task closure)
    does call e None None may = absurd may

    -- and its closure has agreed
    agreed : (call : Call K V A) → open_call schedule c h ≡ Some call → (kind : StepKind) (old new : Option ℕ) → event ≡ Changed kind old new → (went came : Option (Stored K V)) → number_in came ≡ new → MayPut step.call.key x.before.machine.call.task (good.call_traces c).loaded.call.made went came → IsAgreed (Some call) c old came h good.answers
    agreed call e kind old new is went came came_is may =
        let m = x.before.machine in
        let tied = good.tied c x.before call x.was e in
        let (at, from, to, asking) = told (Changed kind old new) is in
        let change : change_in (after m x.answer).call.state ≡ Some (old, new) = changed ∙ sym (event_change (change_in m.call.state) (kind_of_ask m) (ask_of m) x.answer (copy_kind m) (chain_once m)) ∙ ap (λ y. change_by y (change_in m.call.state)) (sym x.event_is ∙ is) in
        let said : IsResultChange (the_task call) m.call old (number_in came) =
        subst (λ n. IsResultChange (the_task call) m.call old n) (sym came_is) (subst (λ t. IsResultChange t m.call old new) tied.task (chain_changed m x.answer goes_by (good.core.valid c x.before x.was) at from to asking old new change)) in
        change_agreed call s.store x.before c h good.answers tied.said old came (logged went came may) said
      where
        logged : (went came : Option (Stored K V)) → MayPut step.call.key x.before.machine.call.task (good.call_traces c).loaded.call.made went came → (q : Stored K V) → came ≡ Some q → pair_of s.store q.number ≡ Some q
        logged went None may q is = let f : None ≡ Some q = is in absurd cc
        logged went (Some p) (made, own, replaces) q is = let same : p ≡ q = cc in subst (λ (y : Stored K V). pair_of s.store y.number ≡ Some y) same (step.call.made p made)

    -- so it may make the change
    may_move : (o : Option (Call K V A)) → open_call schedule c h ≡ o → (kind : StepKind) (old new : Option ℕ) → event ≡ Changed kind old new → (went came : Option (Stored K V)) → number_in went ≡ old → number_in came ≡ new → MayPut step.call.key x.before.machine.call.task (good.call_traces c).loaded.call.made went came
        → MayChange eq o (change_of c h) step.call.key went came × IsAgreed o c old came h good.answers
    may_move None e kind old new is went came went_is came_is may = (tt, tt)
    may_move (Some call) e kind old new is went came went_is came_is may =
        let tied = good.tied c x.before call x.was e in
        (own_change eq call (change_of c h) step.call.key went came (sym (own_is call e), tied.change ∙ unchanged kind old new is, does call e went came may), agreed call e kind old new is went came came_is may)

    -- its closure was not called with `None` before
    not_shown : (call : Call K V A) → open_call schedule c h ≡ Some call → ask_of x.before.machine ≡ asks.Call ShowNone → was_shown_none c h ≡ false
    not_shown call e asking = elim (cases_Bool (was_shown_none c h)) [
      | inl was ↦ absurd ((shows_once x.before.machine x.answer order ((good.tied c x.before call x.was e).once was)).0 asking)
      | inr never ↦ never
    ]

    -- its closure is called with the pair that its key had at some point of the call
    may_show : (o : Option (Call K V A)) → open_call schedule c h ≡ o → (shown : Option ℕ) → ask_of x.before.machine ≡ asks.Call (show shown) → FitsShown eq o shown c h (replay eq good.es ∷ good.maps)
    may_show None e shown asking = tt
    may_show (Some call) e (Some n) asking =
        let (p, last, number, same, was) =
        machine_shows (setting_of eq (low hash) s.mode s.store.words.tables) (coding_of (low hash)) (good.call_traces c).begun (good.call_traces c).since step.call.key hashed x.before.machine.call (good.call_traces c).loaded.call step.call.relies.call n (own_asks x.before.machine (show (Some n)) asking).1 in
        at_showing eq call c (good.call_traces c) h (replay eq good.es ∷ good.maps) (low hash) s.mode s.store.words.tables step.call.key (own_is call e) (good.tied c x.before call x.was e).moments p n number was
    may_show (Some call) e None asking =
        at_showing_none eq call c (good.call_traces c) h (replay eq good.es ∷ good.maps) (low hash) s.mode s.store.words.tables step.call.key (own_is call e) (good.tied c x.before call x.was e).moments (not_shown call e asking)
        (machine_shows_none (setting_of eq (low hash) s.mode s.store.words.tables) (coding_of (low hash)) (good.call_traces c).begun (good.call_traces c).since step.call.key x.before.machine.call (good.call_traces c).loaded.call step.call.relies.call (own_asks x.before.machine (show None) asking).1)

    -- so its event is one that may occur
    may_tell : (e : Event) → event ≡ e → MayTell eq step.call.key x.before.machine.call.task (good.call_traces c).loaded.call.made (replay eq good.es) schedule c h good.maps good.answers e
    may_tell Begun is = tt
    may_tell (Changed kind old new) is = (λ q made. good.unused c x.before x.was q made (unchanged kind old new is), may_move (open_call schedule c h) refl kind old new is)
    may_tell (Moved kind) is = tt
    may_tell (Asked n agrees) is = fits_asked eq (open_call schedule c h) n c h (replay eq good.es ∷ good.maps) (may_show (open_call schedule c h) refl (Some n) (told (Asked n agrees) is).0)
    may_tell (Shown shown kind) is = may_show (open_call schedule c h) refl shown (told (Shown shown kind) is).0
    may_tell Other is = tt
    may_tell (Gave n) is = told (Gave n) is
    may_tell (Replied rep) is = told (Replied rep) is

    legal : IsLegal eq event schedule c h (replay eq good.es) good.maps (replay eq es) good.answers
    legal = advance_legal eq hash law refuse s s' c event reply x good.core core' good.es good.call_traces good.kept step schedule h good.maps good.answers (may_tell event refl)

    timeline : Timeline eq schedule start later_history later_maps later_answers
    timeline = (legal, answering.fits, good.timeline)

    -- the pairs of the map after it are in slots
    valid : (j : K) (p : Stored K V) → replay eq es j ≡ Some p → (t : ℕ) × (i : ℕ) × (named ((run es first_state).slot t i) ≡ Some p)
    valid = held_in_slot eq (low hash) s'.mode s'.store.words.tables (hashed_setting eq hash law s' core').lawful es step.kept.allowed

    -- so they are in the arena
    in_log : (j : K) (p : Stored K V) → replay eq es j ≡ Some p → pair_of s'.store p.number ≡ Some p
    in_log j p e = let (t, i, there) = valid j p e in step.kept.logged t i p there

    logged : AreInArena s'.store later_maps
    logged = (in_log, logged_more s.store s'.store (replay eq good.es ∷ good.maps) grows.pairs_stay good.logged)

    -- the pairs that the call has loaded
    own_loaded : (call_traces c).loaded ≡ step.loaded
    own_loaded = ap (λ b. cond b step.loaded (good.call_traces c).loaded) (eq-eqb c c refl)

    -- a pair that it made and has not written was in no map before
    own_unused : (q : Stored K V) → IsOneOf step.loaded.call.made q → change_in (after x.before.machine x.answer).call.state ≡ None → IsUnused q.number (replay eq good.es ∷ good.maps)
    own_unused q made none =
        let none_before = unchanged_before (change_in x.before.machine.call.state) (kind_of_ask x.before.machine) (ask_of x.before.machine) x.answer (chain_once x.before.machine) (sym changed ∙ none) in
        ⊎_elim
        (λ was. good.unused c x.before x.was q was none_before)
        (λ (new : (q.number ≡ length s.store.pairs) × (own_value s.store x.before ≡ Some q.value) × (pair_of s'.store q.number ≡ Some q)). subst (λ n. IsUnused n (replay eq good.es ∷ good.maps)) (sym new.0) (logged_unused s.store (replay eq good.es ∷ good.maps) good.logged))
        (step.new q made)

    -- each caller's call, before it and after it
    run_other : (d : ℕ) (r : Running K V A) → d ≢ c → running s'.callers d ≡ Some r → running s.callers d ≡ Some r
    run_other d r differ now = sym (running-other s.callers c d (goes_on reply r') differ) ∙ sym (ap (λ (y : List (Seat K V A)). running y d) x.callers) ∙ now

    run_same : (d : ℕ) (r : Running K V A) → d ≡ c → running s'.callers d ≡ Some r → (reply ≡ None) × (r' ≡ r)
    run_same d r same now =
        goes reply r' r (running-same s.callers c (goes_on reply r') r (sym (ap (λ (y : List (Seat K V A)). running y c) x.callers) ∙ ap (running s'.callers) (sym same) ∙ now))

    loaded_other : (d : ℕ) → d ≢ c → (call_traces d).loaded ≡ (good.call_traces d).loaded
    loaded_other d differ = ap (λ b. cond b step.loaded (good.call_traces d).loaded) (differs d c differ)

    unused : (d : ℕ) (r : Running K V A) → running s'.callers d ≡ Some r → (q : Stored K V) → IsOneOf (call_traces d).loaded.call.made q → change_in r.machine.call.state ≡ None → IsUnused q.number later_maps
    unused d r now q made none = (
      λ j p e. let (t, i, there) = valid j p e in (step.kept.calls d r now).unwritten q made none t i p there,
      elim (cases_same d c) [
        | inl same ↦
            let is = run_same d r same now in
            own_unused q (subst (λ (y : LoadedPairs (Stored K V)). IsOneOf y.call.made q) own_loaded (subst (λ y. IsOneOf (call_traces y).loaded.call.made q) same made)) (ap (λ (y : Running K V A). change_in y.machine.call.state) is.1 ∙ none)
        | inr differ ↦ good.unused d r (run_other d r differ now) q (subst (λ (y : LoadedPairs (Stored K V)). IsOneOf y.call.made q) (loaded_other d differ) made) none
      ],
    )

    -- the open call stays open until it replies
    opened : open_call schedule c later_history ≡ open_call schedule c h
    opened = open_call-own schedule c turn event h ∙ ap (λ y. open_after y (begun_by (slice_get schedule turn)) (open_call schedule c h)) x.event_is ∙ event_open (begun_by (slice_get schedule turn)) (open_call schedule c h) (kind_of_ask x.before.machine) (ask_of x.before.machine) x.answer

    -- a step begins no call
    no_begin : is_begin c (entry turn c event) ≡ false
    no_begin = not_begin-own c c turn event (ap begins x.event_is ∙ event_begins (kind_of_ask x.before.machine) (ask_of x.before.machine) x.answer)

    -- a pair that is made in the step is stored in the arena, with the value of the call
    made_now : (n : ℕ) → MakesOver (ask_of x.before.machine) → x.answer ≡ told_to.Call (Made_number n) → (q : Stored K V) × (pair_of s'.store n ≡ Some q) × (own_value s.store x.before ≡ Some q.value)
    made_now n makes is = let m = step.made_now n makes is in (m.pair, m.there, m.before)

    -- the step's own call is related to the history, whether it replied or not
    tied_own : (call : Call K V A) → open_call schedule c h ≡ Some call → IsTied eq s'.store r' call c (call_traces c) later_history later_maps later_answers
    tied_own call e =
        let m = x.before.machine in
        let tied = good.tied c x.before call x.was e in
        record {
          own = step.own.key;
          key = step.own.own;
          key_is = sym (own_is call e) ∙ ap (λ k. Some k) (sym step.own_key);
          task = (chain_task m x.answer order).0 ∙ tied.task;
          value = λ v had. ⊎_elim (λ was. tied.value v was) (λ computes. computed call (sym tied.task ∙ computes) v) (grows.value_stays step.call.valued v had);
          made = λ q made. ⊎_elim
              (λ was. tied.made q was)
              (λ (new : (q.number ≡ length s.store.pairs) × (own_value s.store x.before ≡ Some q.value) × (pair_of s'.store q.number ≡ Some q)). tied.value q.value new.1)
              (step.new q (subst (λ (y : LoadedPairs (Stored K V)). IsOneOf y.call.made q) own_loaded made));
          change = change_of-own c turn event h ∙ ap (change_by event) tied.change ∙ ap (λ y. change_by y (change_in m.call.state)) x.event_is
              ∙ event_change (change_in m.call.state) (kind_of_ask m) (ask_of m) x.answer (copy_kind m) (chain_once m) ∙ sym changed;
          said = said_after eq says hashes refuse s.store x.before x.answer s'.store x.later x.performs grows.pairs_stay made_now step.call.again tied.shows turn c event x.event_is h good.answers answering (chain_said m x.answer order (good.core.valid c x.before x.was).call tied.shows) tied.said;
          shows = chain_shows m x.answer order tied.shows;
          once = λ shown. ⊎_elim
              (λ was. (shows_once m x.answer order (tied.once was)).1)
              (λ (now : (ask_of m ≡ asks.Call ShowNone) × ((op : OpKind) × (x.answer ≡ told_to.Call (Op op)))). subst (λ y. HasCalledNone (after m y).call.remembered.fill (after m y).call.state) (sym now.1.1) (chain_offered m now.1.0 now.0))
              (event_none (was_shown_none c h) (kind_of_ask m) (ask_of m) x.answer (ap (λ y. none_by y (was_shown_none c h)) (sym x.event_is) ∙ sym (was_shown_none-own c turn event h) ∙ shown));
          moments = subst (λ (l : List (Exchange (Stored K V))). (so_far rest : List (Exchange (Stored K V))) → so_far ++ rest ≡ (good.call_traces c).since ++ step.made → AtSomeMoment (λ m. at_key m (key_of call) ≡ at_key (replayed eq (replay eq (good.call_traces c).begun) so_far) (key_of call)) c later_history (replay eq (l ++ step.made) ∷ replay eq good.es ∷ good.maps)) step.call.split
              (moments_more eq (key_of call) c (entry turn c event) h (replay eq good.es ∷ good.maps) (good.call_traces c).begun (good.call_traces c).since step.made one
              no_begin tied.moments);
        }

    -- and so does each other call
    tied_others : (d : ℕ) (r : Running K V A) (call : Call K V A) → d ≢ c → running s'.callers d ≡ Some r → open_call schedule d h ≡ Some call → IsTied eq s'.store r call d (call_traces d) later_history later_maps later_answers
    tied_others d r call differ now e =
        let before = run_other d r differ now in
        tied_other eq s.store s'.store r call c d turn event good.call_traces step.made step.loaded h good.es (replay eq good.es ∷ good.maps) answering.answered good.answers (record { keys = grows.keys_stay; values = grows.values_stay }) (good.kept.calls d r before).valued grows.pairs_stay one (λ z. differ (sym z)) (good.kept.calls d r before).split (good.tied d r call before e)

    -- a closure that ended the call did so in the step
    ending : (call : Call K V A) → open_call schedule c h ≡ Some call → (rep : Reply) → reply ≡ Some rep → ask_of (after x.before.machine x.answer) ≡ asks.Call (Ask_done rep) → IsEnding r'.machine.call.task call rep c later_history later_maps
    ending call e rep some done =
        step_ending call x.before.machine x.answer c turn event h (replay eq es) (replay eq good.es ∷ good.maps) x.event_is goes_by (chain_task x.before.machine x.answer order).0 (good.core.going c x.before x.was)
        offers (λ shown asking. (may_show (Some call) e shown asking).0) rep (λ is. removes_nothing x.before.machine x.answer (unrefused eq says hashes refuse s.store x.before x.answer s'.store x.later (ask_of x.before.machine) x.performs) (x.cause RemoveNothing (some ∙ ap (λ y. Some y) is))) done

    -- a reply fits
    fits : (o : Option (Call K V A)) → open_call schedule c later_history ≡ o → (rep : Reply) → reply ≡ Some rep → FitsOpen eq o rep c later_history later_maps
    fits None e rep some = tt
    fits (Some call) e rep some =
        let was = sym opened ∙ e in
        let done : ask_of (after x.before.machine x.answer) ≡ asks.Call (Ask_done rep) = reply_asked (ask_of (after x.before.machine x.answer)) rep (sym x.reply_is ∙ some) in
        tied_fits eq s'.store r' call c (call_traces c) later_history later_maps later_answers (low hash) s'.mode s'.store.words.tables step.own.key (ap (λ k. Some k) step.own_key ∙ own_is call was) (tied_own call was) step.own.relies rep done (ending call was rep some done)

    -- a call of another that is open now was open before
    open_other : (d : ℕ) (call : Call K V A) → d ≢ c → open_call schedule d later_history ≡ Some call → open_call schedule d h ≡ Some call
    open_other d call differ e = sym (open_call-other schedule c d turn event h (λ z. differ (sym z))) ∙ e

    tied : (d : ℕ) (r : Running K V A) (call : Call K V A) → running s'.callers d ≡ Some r → open_call schedule d later_history ≡ Some call → IsTied eq s'.store r call d (call_traces d) later_history later_maps later_answers
    tied d r call now e = elim (cases_same d c) [
      | inl same ↦
          let is = (run_same d r same now).1 in
          subst (λ y. IsTied eq s'.store r call y (call_traces y) later_history later_maps later_answers) (sym same)
          (subst (λ y. IsTied eq s'.store y call c (call_traces c) later_history later_maps later_answers) is
          (tied_own call (sym opened ∙ ap (λ y. open_call schedule y later_history) (sym same) ∙ e)))
      | inr differ ↦ tied_others d r call differ now (open_other d call differ e)
    ]

    -- every pair stays in the arena
    still_left : (a : A) (d : ℕ) → HasLeft says s.store schedule a d h good.answers → HasLeft says s'.store schedule a d h good.answers
    still_left a d x = left_more says s.store s'.store grows.pairs_stay schedule a d h good.answers x

    -- the answers that its closure had left give the recorded result, if the closure was called
    own_given : (call : Call K V A) → open_call schedule c h ≡ Some call → (a' : A) → x.later.answers ≡ Some a' → (a : A) × HasLeft says s'.store schedule a c h good.answers × GivesIn says s'.store event answering.answered a a'
    own_given call e a' had = let (a, was, gives) = answering.left a' had in (a, still_left a c (good.left c x.before call x.was e a was), gives)

    given : AreGiven says s'.store schedule later_history later_answers
    given = (
      λ call e asks. let (a', had) = answering.gave asks in let (a, left, gives) = own_given call e a' had in (a, a', left, gives),
      given_more says s.store s'.store grows.pairs_stay schedule h good.answers good.given,
    )

    -- the answers that the others have left after it
    left_others : (d : ℕ) (r : Running K V A) (call : Call K V A) → d ≢ c → running s'.callers d ≡ Some r → open_call schedule d h ≡ Some call → (a : A) → r.answers ≡ Some a → HasLeft says s'.store schedule a d later_history later_answers
    left_others d r call differ now e a had = inr (inr (λ z. differ (sym z), still_left a d (good.left d r call (run_other d r differ now) e a had)))

    left : (d : ℕ) (r : Running K V A) (call : Call K V A) → running s'.callers d ≡ Some r → open_call schedule d later_history ≡ Some call → (a : A) → r.answers ≡ Some a → HasLeft says s'.store schedule a d later_history later_answers
    left d r call now e a had = elim (cases_same d c) [
      | inl same ↦
          let is = (run_same d r same now).1 in
          let opened_before = sym opened ∙ ap (λ y. open_call schedule y later_history) (sym same) ∙ e in
          let (a0, left_before, gives) = own_given call opened_before a (ap (λ (y : Running K V A). y.answers) is ∙ had) in
          subst (λ y. HasLeft says s'.store schedule a y later_history later_answers) (sym same)
          (inr (inl (refl, ap begins x.event_is ∙ event_begins (kind_of_ask x.before.machine) (ask_of x.before.machine) x.answer, (a0, left_before, gives))))
      | inr differ ↦ left_others d r call differ now (open_other d call differ e) a had
    ]

    -- a number past the end of the arena is new to the arena as the run began
    past_new : pair_of first (length s.store.pairs) ≡ None
    past_new = past_log first s.store good.kept_pairs (pair_of first (length s.store.pairs)) refl

    -- a pair that is put in is one that the call made
    comes_new : (call : Call K V A) → open_call schedule c h ≡ Some call → (e : Event) → event ≡ e → ComesNew first e
    comes_new call began (Changed kind old (Some n)) is = by_came moved.came moved.came_is moved.may
      where
        moved : IsMoved eq step.call.key x.before.machine.call.task (good.call_traces c).loaded.call.made (replay eq good.es) (replay eq es) old (Some n)
        moved = subst (Moves eq step.call.key x.before.machine.call.task (good.call_traces c).loaded.call.made (replay eq good.es) (replay eq es)) is (advance_moved eq hash law refuse s s' c event reply x good.core core' good.es good.call_traces good.kept step)

        by_came : (came : Option (Stored K V)) → number_in came ≡ Some n → MayPut step.call.key x.before.machine.call.task (good.call_traces c).loaded.call.made moved.went came → pair_of first n ≡ None
        by_came None none may = let f : None ≡ Some n = none in absurd cc
        by_came (Some q) number (made, own, replaces) = subst (λ i. pair_of first i ≡ None) (same_item q.number n number) (good.made_new c x.before call x.was began q made)
    comes_new call began (Changed kind old None) is = tt
    comes_new call began Begun is = tt
    comes_new call began (Moved kind) is = tt
    comes_new call began (Asked n agrees) is = tt
    comes_new call began (Shown shown kind) is = tt
    comes_new call began Other is = tt
    comes_new call began (Gave n) is = tt
    comes_new call began (Replied rep) is = tt

    fresh : AreNew first schedule later_history
    fresh = (λ call began. comes_new call began event refl, good.fresh)

    -- and so are the pairs that calls of the run made
    made_others : (d : ℕ) (r : Running K V A) (call : Call K V A) → d ≢ c → running s'.callers d ≡ Some r → open_call schedule d h ≡ Some call → (q : Stored K V) → IsOneOf (call_traces d).loaded.call.made q → pair_of first q.number ≡ None
    made_others d r call differ now e q made = good.made_new d r call (run_other d r differ now) e q (subst (λ (y : LoadedPairs (Stored K V)). IsOneOf y.call.made q) (loaded_other d differ) made)

    made_new : (d : ℕ) (r : Running K V A) (call : Call K V A) → running s'.callers d ≡ Some r → open_call schedule d later_history ≡ Some call → (q : Stored K V) → IsOneOf (call_traces d).loaded.call.made q → pair_of first q.number ≡ None
    made_new d r call now e q made = elim (cases_same d c) [
      | inl same ↦
          let opened_before = sym opened ∙ ap (λ y. open_call schedule y later_history) (sym same) ∙ e in
          ⊎_elim
          (λ was. good.made_new c x.before call x.was opened_before q was)
          (λ (new : (q.number ≡ length s.store.pairs) × (own_value s.store x.before ≡ Some q.value) × (pair_of s'.store q.number ≡ Some q)). subst (λ n. pair_of first n ≡ None) (sym new.0) past_new)
          (step.new q (subst (λ (y : LoadedPairs (Stored K V)). IsOneOf y.call.made q) own_loaded (subst (λ y. IsOneOf (call_traces y).loaded.call.made q) same made)))
      | inr differ ↦ made_others d r call differ now (open_other d call differ e) q made
    ]

    -- a resizer is another caller's, and stays as it was
    resizes_other : (d : ℕ) (z : Resizer) → resizing s'.callers d ≡ Some z → (d ≢ c) × (resizing s.callers d ≡ Some z)
    resizes_other d z now =
        let before : resizing (with_call s.callers c (goes_on reply r')) d ≡ Some z = sym (ap (λ (y : List (Seat K V A)). resizing y d) x.callers) ∙ now in
        elim (cases_same d c) [
          | inl same ↦ absurd (no-resizer (goes_on reply r') z (resizing-here s.callers c (as_work (goes_on reply r')) z (ap (resizing (with_call s.callers c (goes_on reply r'))) (sym same) ∙ before)))
          | inr differ ↦ (differ, sym (resizing-elsewhere s.callers c d (as_work (goes_on reply r')) differ) ∙ before)
        ]

    resized : (d : ℕ) (z : Resizer) (call : Call K V A) → resizing s'.callers d ≡ Some z → open_call schedule d later_history ≡ Some call → IsResize call × (change_of d later_history ≡ None)
    resized d z call now e =
        let (differ, before) = resizes_other d z now in
        let was = good.resized d z call before (open_other d call differ e) in
        (was.0, change_of-other c d turn event h (λ y. differ (sym y)) ∙ was.1)

    -- and so does a scanner
    scans_other : (d : ℕ) (v : Scanning A) → scanning s'.callers d ≡ Some v → (d ≢ c) × (scanning s.callers d ≡ Some v)
    scans_other d v now =
        let before : scanning (with_call s.callers c (goes_on reply r')) d ≡ Some v = sym (ap (λ (y : List (Seat K V A)). scanning y d) x.callers) ∙ now in
        elim (cases_same d c) [
          | inl same ↦ absurd (no-scanner (goes_on reply r') v (scanning-here s.callers c (as_work (goes_on reply r')) v (ap (scanning (with_call s.callers c (goes_on reply r'))) (sym same) ∙ before)))
          | inr differ ↦ (differ, sym (scanning-elsewhere s.callers c d (as_work (goes_on reply r')) differ) ∙ before)
        ]

    keyed : IsKeyed eq (replay eq es)
    keyed = replay_keyed eq (low hash) s'.mode s'.store.words.tables (hashed_setting eq hash law s' core').lawful es step.kept.allowed

    -- a pair that takes the place of another was in no map before
    put_new : (t y : ℕ) (p q : Stored K V) → step.made ≡ Replace t y p q ∷ [] → IsUnused q.number (replay eq good.es ∷ good.maps)
    put_new t y p q is =
        let (at, old, new, asking, own) = replaces_own eq (setting_of eq (low hash) s.mode s.store.words.tables) (coding_of (low hash)) step.call.key (run good.es first_state) (kind_of_ask x.before.machine) (follows_of x.before.machine) (good.call_traces c).loaded (ask_of x.before.machine) x.answer step.made step.loaded t y p q (law.classes.refl p.key) is step.told in
        good.unused c x.before x.was q own (chain_once x.before.machine at old new asking)

    scanned : (d : ℕ) (v : Scanning A) (call : Call K V A) → scanning s'.callers d ≡ Some v → open_call schedule d later_history ≡ Some call → IsScanTied eq says s'.store schedule v call d (scan_trace (call_traces d)) later_history later_maps later_answers
    scanned d v call now e =
        let (differ, before) = scans_other d v now in
        let split = (good.kept.scanners d v before).split in
        scan_other eq says schedule s.store s'.store v call c d turn event (scan_trace (good.call_traces d)) ((good.call_traces d).since ++ step.made) step.made h (replay eq good.es) (replay eq es) good.maps answering.answered good.answers (λ z. differ (sym z)) grows.pairs_stay one refl
        (ap (λ l. replay eq l) (sym split)) (ap (λ l. replay eq l) (ap (λ l. l ++ step.made) (sym split) ∙ append_assoc (good.call_traces d).begun (good.call_traces d).since step.made)) keyed
        (timeline_steady eq schedule start later_history later_maps later_answers timeline).0 put_new
        (good.scanned d v call before (open_other d call differ e))

    -- the call continues
    goes_on_good : IsGood eq says hash schedule first start s' later_history
    goes_on_good = record { es = es; call_traces = call_traces; maps = replay eq good.es ∷ good.maps; answers = later_answers; core = core'; kept = step.kept; timeline = timeline; logged = logged; given = given; left = left; resized = resized; scanned = scanned; kept_pairs = λ n p there. grows.pairs_stay n p (good.kept_pairs n p there); fresh = fresh; made_new = made_new; unused = unused; tied = tied }

    -- or it replies
    replies_good : (rep : Reply) → reply ≡ Some rep → IsGood eq says hash schedule first start s' (entry turn c (Replied rep) ∷ later_history)
    replies_good rep some = record {
      es = es;
      call_traces = call_traces;
      maps = later_maps;
      answers = None ∷ later_answers;
      core = core';
      kept = step.kept;
      timeline = ((λ j. refl, fits (open_call schedule c later_history) refl rep some), refl, timeline);
      logged = (in_log, logged);
      given = (λ call e asks. let f : false ≡ true = asks in absurd cc, given);
      left = λ d r call now e a had. elim (cases_same d c) [
        | inl same ↦ let f : Some rep ≡ None = sym some ∙ (run_same d r same now).0 in absurd cc
        | inr differ ↦
            let ne : c ≢ d = λ z. differ (sym z) in
            inr (inr (ne, left_others d r call differ now (open_other d call differ (sym (open_call-other schedule c d turn (Replied rep) later_history ne) ∙ e)) a had))
      ];
      resized = λ d z call now e.
          let ne : c ≢ d = λ y. (resizes_other d z now).0 (sym y) in
          let was = resized d z call now (sym (open_call-other schedule c d turn (Replied rep) later_history ne) ∙ e) in
          (was.0, change_of-other c d turn (Replied rep) later_history ne ∙ was.1);
      scanned = λ d v call now e.
          let ne : c ≢ d = λ y. (scans_other d v now).0 (sym y) in
          scan_entry eq says schedule s'.store s'.store v call c d turn (Replied rep) (scan_trace (call_traces d)) later_history (replay eq es) (replay eq good.es ∷ good.maps) None later_answers ne (λ n p there. there)
          (ap (λ l. replay eq l) (sym (step.kept.scanners d v now).split)) keyed
          (scanned d v call now (sym (open_call-other schedule c d turn (Replied rep) later_history ne) ∙ e));
      kept_pairs = λ n p there. grows.pairs_stay n p (good.kept_pairs n p there);
      fresh = (λ call began. tt, fresh);
      made_new = λ d r call now e q made. elim (cases_same d c) [
        | inl same ↦ let f : Some rep ≡ None = sym some ∙ (run_same d r same now).0 in absurd cc
        | inr differ ↦ made_others d r call differ now (open_other d call differ (sym (open_call-other schedule c d turn (Replied rep) later_history (λ z. differ (sym z))) ∙ e)) q made
      ];
      unused = λ d r now q made none. let u = unused d r now q made none in (u.0, u);
      tied = λ d r call now e. elim (cases_same d c) [
        | inl same ↦ let f : Some rep ≡ None = sym some ∙ (run_same d r same now).0 in cc
        | inr differ ↦
            let ne : c ≢ d = λ z. differ (sym z) in
            tied_entry eq s'.store s'.store r call c d turn (Replied rep) (call_traces d) later_history (replay eq es) later_maps None later_answers refl ne
            (tied_others d r call differ now (open_other d call differ (sym (open_call-other schedule c d turn (Replied rep) later_history ne) ∙ e)))
      ];
    }

  -- a step keeps a good history
  pub good_step : {says : Says K V A} {hashes : S → K → ℕ} (refuse : Bool) (schedule : List (Turn K V A)) (first : StoreState K V S) (start : Map K V) (s s' : CoreState K V S A) (h : History) (turn c : ℕ) (event : Event) (reply : Option Reply) → Advances eq says hashes refuse s c s' event reply → hashes s.store.hasher ≡ hash → IsCore s'.store s'.callers s'.mode → IsGood eq says hash schedule first start s h → IsGood eq says hash schedule first start s' (with_step turn c event reply h)
  good_step refuse schedule first start s s' h turn c event None x as_hashed core' good = goes_on_good refuse schedule first start s s' h turn c event None x as_hashed core' good
  good_step refuse schedule first start s s' h turn c event (Some rep) x as_hashed core' good = replies_good refuse schedule first start s s' h turn c event (Some rep) x as_hashed core' good rep refl

  -- a begin adds a call that relies on the exchanges as they are
  pub good_begin : (says : Says K V A) (schedule : List (Turn K V A)) (first : StoreState K V S) (start : Map K V) (s s' : CoreState K V S A) (h : History) (turn c : ℕ) (call : Call K V A) → slice_get schedule turn ≡ Some (Begin c call) → Begins hash s c call s' → IsCore s'.store s'.callers s'.mode → IsGood eq says hash schedule first start s h → IsGood eq says hash schedule first start s' (entry turn c Begun ∷ h)
  good_begin says schedule first start s s' h turn c call at x core' good = record {
    es = good.es;
    call_traces = call_traces;
    maps = replay eq good.es ∷ good.maps;
    answers = None ∷ good.answers;
    core = core';
    kept = kept_begin eq hash law s c call s' x good.es good.call_traces good.kept;
    timeline = (λ j. refl, refl, good.timeline);
    logged = (logged.0, logged);
    given = (
      λ other e asks. let f : false ≡ true = asks in absurd cc,
      subst (λ (y : StoreState K V S). AreGiven says y schedule h good.answers) (sym x.store) good.given,
    );
    left = λ d r other now e a had. elim (cases_same d c) [
      | inl same ↦
          let is = run_same d r same now in
          inl (sym same, refl, ap (λ o. begun_answers (begun_by o)) at ∙ ap (λ (y : Running K V A). y.answers) (sym is.is) ∙ had)
      | inr differ ↦
          let ne : c ≢ d = λ z. differ (sym z) in
          inr (inr (
            ne,
            subst (λ (y : StoreState K V S). HasLeft says y schedule a d h good.answers) (sym x.store)
                (good.left d r other (run_other d r differ now) (sym (open_call-other schedule c d turn Begun h ne) ∙ e) a had),
          ))
    ];
    resized = λ d z other now e.
        let begun_callers = with_work (with_seat s.callers c) c (Some (begun_work hash s.mode s.initial x.number call)) in
        let before : resizing begun_callers d ≡ Some z = sym (ap (λ (y : List (Seat K V A)). resizing y d) x.callers) ∙ now in
        elim (cases_same d c) [
          | inl same ↦
              let is = resize_begun hash s.mode s.initial x.number call z (same_item (begun_work hash s.mode s.initial x.number call) (works.Resize z) (resizing-here (with_seat s.callers c) c (Some (begun_work hash s.mode s.initial x.number call)) z (ap (resizing begun_callers) (sym same) ∙ before))) in
              let is_call : call ≡ other = same_item call other (sym (open_call-own schedule c turn Begun h ∙ ap begun_by at) ∙ sym (ap (λ y. open_call schedule y (entry turn c Begun ∷ h)) same) ∙ e) in
              (subst IsResize is_call is, subst (λ y. change_of y (entry turn c Begun ∷ h) ≡ None) (sym same) (change_of-own c turn Begun h))
          | inr differ ↦
              let ne : c ≢ d = λ y. differ (sym y) in
              let was = good.resized d z other (sym (resizing-with_seat s.callers c d) ∙ sym (resizing-elsewhere (with_seat s.callers c) c d (Some (begun_work hash s.mode s.initial x.number call)) differ) ∙ before) (sym (open_call-other schedule c d turn Begun h ne) ∙ e) in
              (was.0, change_of-other c d turn Begun h ne ∙ was.1)
        ];
    scanned = scanned;
    kept_pairs = subst (λ (y : StoreState K V S). KeepsPairs first y) (sym x.store) good.kept_pairs;
    fresh = (λ call began. tt, good.fresh);
    made_new = λ d r other now e q made. elim (cases_same d c) [
      | inl same ↦ absurd (subst (λ (y : CallTrace K V). IsOneOf y.loaded.call.made q) (ap call_traces same ∙ call_trace_same) made)
      | inr differ ↦
          good.made_new d r other (run_other d r differ now) (sym (open_call-other schedule c d turn Begun h (λ z. differ (sym z))) ∙ e) q
          (subst (λ (y : CallTrace K V). IsOneOf y.loaded.call.made q) (call_trace_other d differ) made)
    ];
    unused = unused;
    tied = tied;
  }
    where
      call_traces : ℕ → CallTrace K V
      call_traces = begun_call_traces good.call_traces c good.es

      logged : AreInArena s'.store (replay eq good.es ∷ good.maps)
      logged = subst (λ (y : StoreState K V S). AreInArena y (replay eq good.es ∷ good.maps)) (sym x.store) good.logged

      run_other : (d : ℕ) (r : Running K V A) → d ≢ c → running s'.callers d ≡ Some r → running s.callers d ≡ Some r
      run_other d r differ now =
          sym (running-with_seat s.callers c d) ∙ sym (running-elsewhere (with_seat s.callers c) c d (Some (begun_work hash s.mode s.initial x.number call)) differ) ∙ sym (ap (λ (y : List (Seat K V A)). running y d) x.callers) ∙ now

      run_same : (d : ℕ) (r : Running K V A) → d ≡ c → running s'.callers d ≡ Some r → IsBegun hash s.mode s.initial x.number call r
      run_same d r same now =
          call_begun hash s.mode s.initial x.number call r (same_item (begun_work hash s.mode s.initial x.number call) (works.Call r) (running-here (with_seat s.callers c) c (Some (begun_work hash s.mode s.initial x.number call)) r (sym (ap (λ (y : List (Seat K V A)). running y c) x.callers) ∙ ap (running s'.callers) (sym same) ∙ now)))

      call_trace_other : (d : ℕ) → d ≢ c → call_traces d ≡ good.call_traces d
      call_trace_other d differ = ap (λ b. cond b (record { begun = good.es; since = []; loaded = nothing_loaded; scan = scans.nothing_loaded }) (good.call_traces d)) (differs d c differ)

      call_trace_same : call_traces c ≡ record { begun = good.es; since = []; loaded = nothing_loaded; scan = scans.nothing_loaded }
      call_trace_same = ap (λ b. cond b (record { begun = good.es; since = []; loaded = nothing_loaded; scan = scans.nothing_loaded }) (good.call_traces c)) (eq-eqb c c refl)

      -- another caller's scanner stays as it was, and a scanner that begins is related to the
      -- history
      keyed : IsKeyed eq (replay eq good.es)
      keyed = replay_keyed eq (low hash) s.mode s.store.words.tables (hashed_setting eq hash law s good.core).lawful good.es good.kept.allowed

      stays : KeepsPairs s.store s'.store
      stays n p there = ap (λ (y : StoreState K V S). pair_of y n) x.store ∙ there

      scans_other : (d : ℕ) (v : Scanning A) → d ≢ c → scanning s'.callers d ≡ Some v → scanning s.callers d ≡ Some v
      scans_other d v differ now =
          sym (scanning-with_seat s.callers c d) ∙ sym (scanning-elsewhere (with_seat s.callers c) c d (Some (begun_work hash s.mode s.initial x.number call)) differ) ∙ sym (ap (λ (y : List (Seat K V A)). scanning y d) x.callers) ∙ now

      scans_same : (d : ℕ) (v : Scanning A) → d ≡ c → scanning s'.callers d ≡ Some v → begun_work hash s.mode s.initial x.number call ≡ works.Scan v
      scans_same d v same now =
          same_item (begun_work hash s.mode s.initial x.number call) (works.Scan v) (scanning-here (with_seat s.callers c) c (Some (begun_work hash s.mode s.initial x.number call)) v (sym (ap (λ (y : List (Seat K V A)). scanning y c) x.callers) ∙ ap (scanning s'.callers) (sym same) ∙ now))

      scanned : (d : ℕ) (v : Scanning A) (other : Call K V A) → scanning s'.callers d ≡ Some v → open_call schedule d (entry turn c Begun ∷ h) ≡ Some other → IsScanTied eq says s'.store schedule v other d (scan_trace (call_traces d)) (entry turn c Begun ∷ h) (replay eq good.es ∷ replay eq good.es ∷ good.maps) (None ∷ good.answers)
      scanned d v other now e = elim (cases_same d c) [
        | inl same ↦
            let begins = scan_begun hash s.mode s.initial x.number call v (scans_same d v same now) in
            let is_call : call ≡ other = same_item call other (sym (open_call-own schedule c turn Begun h ∙ ap begun_by at) ∙ sym (ap (λ y. open_call schedule y (entry turn c Begun ∷ h)) same) ∙ e) in
            subst (λ y. IsScanTied eq says s'.store schedule v other y (scan_trace (call_traces y)) (entry turn c Begun ∷ h) (replay eq good.es ∷ replay eq good.es ∷ good.maps) (None ∷ good.answers)) (sym same)
            (subst (λ y. IsScanTied eq says s'.store schedule v y c (scan_trace (call_traces c)) (entry turn c Begun ∷ h) (replay eq good.es ∷ replay eq good.es ∷ good.maps) (None ∷ good.answers)) is_call
            (subst (λ (y : CallTrace K V). IsScanTied eq says s'.store schedule v call c (scan_trace y) (entry turn c Begun ∷ h) (replay eq good.es ∷ replay eq good.es ∷ good.maps) (None ∷ good.answers)) (sym call_trace_same)
            (scan_begins eq says schedule s'.store v call c turn good.es h (replay eq good.es ∷ good.maps) None good.answers begins.0 keyed (λ a had. ap (λ o. begun_answers (begun_by o)) at ∙ sym begins.1 ∙ had))))
        | inr differ ↦
            let ne : c ≢ d = λ z. differ (sym z) in
            let before = scans_other d v differ now in
            subst (λ (y : CallTrace K V). IsScanTied eq says s'.store schedule v other d (scan_trace y) (entry turn c Begun ∷ h) (replay eq good.es ∷ replay eq good.es ∷ good.maps) (None ∷ good.answers)) (sym (call_trace_other d differ))
            (scan_entry eq says schedule s.store s'.store v other c d turn Begun (scan_trace (good.call_traces d)) h (replay eq good.es) good.maps None good.answers ne stays
            (ap (λ l. replay eq l) (sym (good.kept.scanners d v before).split)) keyed
            (good.scanned d v other before (sym (open_call-other schedule c d turn Begun h ne) ∙ e)))
      ]

      unused : (d : ℕ) (r : Running K V A) → running s'.callers d ≡ Some r → (q : Stored K V) → IsOneOf (call_traces d).loaded.call.made q → change_in r.machine.call.state ≡ None → IsUnused q.number (replay eq good.es ∷ replay eq good.es ∷ good.maps)
      unused d r now q made none = elim (cases_same d c) [
        | inl same ↦ absurd (subst (λ (y : CallTrace K V). IsOneOf y.loaded.call.made q) (ap call_traces same ∙ call_trace_same) made)
        | inr differ ↦
            let u = good.unused d r (run_other d r differ now) q (subst (λ (y : CallTrace K V). IsOneOf y.loaded.call.made q) (call_trace_other d differ) made) none in
            (u.0, u)
      ]

      tied : (d : ℕ) (r : Running K V A) (other : Call K V A) → running s'.callers d ≡ Some r → open_call schedule d (entry turn c Begun ∷ h) ≡ Some other → IsTied eq s'.store r other d (call_traces d) (entry turn c Begun ∷ h) (replay eq good.es ∷ replay eq good.es ∷ good.maps) (None ∷ good.answers)
      tied d r other now e = elim (cases_same d c) [
        | inl same ↦
            let is = run_same d r same now in
            let is_call : call ≡ other = same_item call other (sym (open_call-own schedule c turn Begun h ∙ ap begun_by at) ∙ sym (ap (λ y. open_call schedule y (entry turn c Begun ∷ h)) same) ∙ e) in
            subst (λ y. IsTied eq s'.store r other y (call_traces y) (entry turn c Begun ∷ h) (replay eq good.es ∷ replay eq good.es ∷ good.maps) (None ∷ good.answers)) (sym same)
            (subst (λ y. IsTied eq s'.store r y c (call_traces c) (entry turn c Begun ∷ h) (replay eq good.es ∷ replay eq good.es ∷ good.maps) (None ∷ good.answers)) is_call
            (subst (λ y. IsTied eq s'.store y call c (call_traces c) (entry turn c Begun ∷ h) (replay eq good.es ∷ replay eq good.es ∷ good.maps) (None ∷ good.answers)) (sym is.is)
            (subst (λ y. IsTied eq s'.store (begun hash s.mode s.initial x.number is.task is.key (value_of_call call) (answers_of_call call)) call c y (entry turn c Begun ∷ h) (replay eq good.es ∷ replay eq good.es ∷ good.maps) (None ∷ good.answers)) (sym call_trace_same) (tied_begun r is))))
        | inr differ ↦
            let ne : c ≢ d = λ z. differ (sym z) in
            subst (λ y. IsTied eq s'.store r other d y (entry turn c Begun ∷ h) (replay eq good.es ∷ replay eq good.es ∷ good.maps) (None ∷ good.answers)) (sym (call_trace_other d differ))
            (tied_entry eq s.store s'.store r other c d turn Begun (good.call_traces d) h (replay eq good.es) (replay eq good.es ∷ good.maps) None good.answers x.store ne
            (good.tied d r other (run_other d r differ now) (sym (open_call-other schedule c d turn Begun h ne) ∙ e)))
      ]
        where
          nothing_before : (so_far rest : List (Exchange (Stored K V))) → so_far ++ rest ≡ [] → so_far ≡ []
          nothing_before [] rest none = refl
          nothing_before (y ∷ so_far) rest none = cc

          tied_begun : (r : Running K V A) (is : IsBegun hash s.mode s.initial x.number call r) → IsTied eq s'.store (begun hash s.mode s.initial x.number is.task is.key (value_of_call call) (answers_of_call call)) call c (record { begun = good.es; since = []; loaded = nothing_loaded; scan = scans.nothing_loaded }) (entry turn c Begun ∷ h) (replay eq good.es ∷ replay eq good.es ∷ good.maps) (None ∷ good.answers)
          tied_begun r is = record {
            own = is.key;
            key = refl;
            key_is = is.key_is;
            task = task_is_own call is.task is.task_is;
            value = begun_value call;
            made = λ q made. absurd made;
            change = change_of-own c turn Begun h;
            said = λ said stands. absurd (begun_stands is.task (hash is.key) s.mode.resize s.initial s.mode.limit said stands);
            shows = tt;
            once = λ shown. let f : false ≡ true = sym (was_shown_none-own c turn Begun h) ∙ shown in absurd cc;
            moments = λ so_far rest none. inl (ap (λ l. at_key (replayed eq (replay eq good.es) l) (key_of call)) (sym (nothing_before so_far rest none)));
          }
            where
              -- the value of the call is the one that was passed in
              handed_value : (o : Option V) (v : V) → value_at s'.store.pairs (handed o) ≡ Some v → o ≡ Some v
              handed_value None v had = had
              handed_value (Some w) v had = had

              value_is : (call : Call K V A) (v : V) → value_of_call call ≡ Some v → IsValueOf call v
              value_is (Get k) v had = let f : None ≡ Some v = had in absurd cc
              value_is (Insert k w) v had = same_item w v had
              value_is (TryInsert k w) v had = same_item w v had
              value_is (RemoveIf k a) v had = let f : None ≡ Some v = had in absurd cc
              value_is (Compute k a) v had = tt
              value_is (Reserve more) v had = let f : None ≡ Some v = had in absurd cc
              value_is CopyAll v had = let f : None ≡ Some v = had in absurd cc
              value_is Clear v had = let f : None ≡ Some v = had in absurd cc
              value_is (Retain a) v had = let f : None ≡ Some v = had in absurd cc
              value_is Walk v had = let f : None ≡ Some v = had in absurd cc

              begun_value : (call : Call K V A) (v : V) → value_at s'.store.pairs (handed (value_of_call call)) ≡ Some v → IsValueOf call v
              begun_value call v had = value_is call v (handed_value (value_of_call call) v had)

  -- a run begins with no entry and the core's map
  pub good_start : (says : Says K V A) (schedule : List (Turn K V A)) (s : CoreState K V S A) (es : List (Exchange (Stored K V))) (call_traces : ℕ → CallTrace K V) → IsCore s.store s.callers s.mode → IsConsistent eq hash s.mode s.store s.callers es call_traces → IsGood eq says hash schedule s.store (map_of eq s) s []
  good_start says schedule s es call_traces core kept = record {
    es = es;
    call_traces = call_traces;
    maps = [];
    answers = [];
    core = core;
    kept = kept;
    timeline = λ j. sym (is_map j);
    logged = (λ j p e. let (t, i, there) = valid j p e in kept.logged t i p there, tt);
    given = tt;
    left = λ d r call now e a had. let f : None ≡ Some call = e in absurd cc;
    resized = λ d z call now e. let f : None ≡ Some call = e in absurd cc;
    scanned = λ d v call now e. let f : None ≡ Some call = e in absurd cc;
    kept_pairs = λ n p there. there;
    fresh = tt;
    made_new = λ d r call now e q made. let f : None ≡ Some call = e in absurd cc;
    unused = λ d r now q made none. (λ j p e. let (t, i, there) = valid j p e in (kept.calls d r now).unwritten q made none t i p there, tt);
    tied = λ d r call now e. let f : None ≡ Some call = e in cc;
  }
    where
      is_map : (j : K) → map_of eq s j ≡ replay eq es j
      is_map j = map_kept eq hash law s es call_traces core kept j ∙ ap (λ m. m j) (map_replayed eq (low hash) s.mode s.store.words.tables es (λ k. None))

      valid : (j : K) (p : Stored K V) → replay eq es j ≡ Some p → (t : ℕ) × (i : ℕ) × (named ((run es first_state).slot t i) ≡ Some p)
      valid = held_in_slot eq (low hash) s.mode s.store.words.tables (hashed_setting eq hash law s core).lawful es kept.allowed

  -- at the end of a run its maps are a timeline from the first core's map to the last core's map
  pub good_end : (says : Says K V A) (schedule : List (Turn K V A)) (s s' : CoreState K V S A) (h : History) → IsGood eq says hash schedule s.store (map_of eq s) s' h → HasTimeline eq says schedule s h s'
  good_end says schedule s s' h good = record {
    last = replay eq good.es;
    maps = good.maps;
    said = good.answers;
    timeline = good.timeline;
    logged = good.logged;
    given = good.given;
    fresh = good.fresh;
    keeps = good.kept_pairs;
    is_last = λ j. sym (map_kept eq hash law s' good.es good.call_traces good.core good.kept j ∙ ap (λ m. m j) (map_replayed eq (low hash) s'.mode s'.store.words.tables good.es (λ k. None)));
  }
