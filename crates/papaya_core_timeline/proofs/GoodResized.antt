-- A step of a call that resizes the map keeps a good history.
use Rattle.std.proofs.Common.{◌≡◌, ◌≢◌, ◌⊎◌, ◌==◌, inl, inr, ⊎_elim, ℕ, Bool, true, false, cond}
use Rattle.std.proofs.Common.{Option, None, Some, List, [], ◌∷◌, ◌++◌, slice_get, refl, sym, ◌∙◌}
use Rattle.std.proofs.Common.{ap, subst, append-nil, append_assoc}
use Rattle.papaya_words.specs.declared.refused.Refused.{Refused as Refusal}
use Rattle.papaya_words.specs.declared.refused.Refused.TheVariants.{RemoveNothing, Capacity}
use Rattle.papaya_call.specs.declared.ask.StepKind.{StepKind}
use Rattle.papaya_call.specs.declared.call.Call.{Call}
use Rattle.papaya_call.specs.declared.call.Call.TheVariants.{Get, Insert, TryInsert, RemoveIf, Compute, Reserve, CopyAll, Clear, Retain, Walk}
use Rattle.papaya_call.specs.declared.call.Reply.{Reply}
use Rattle.papaya_call.specs.declared.call.Reply.TheVariants.{Done, Refused}
use Rattle.papaya_call.specs.declared.copy_ask.CopyAsk.{CopyAsk}
use Rattle.papaya_call.specs.Answers.{Says}
use Rattle.papaya_call.specs.declared.chain.ask.Answer.{Answer}
use Rattle.papaya_call.specs.declared.chain.ask.Answer.TheVariants as answers
use Rattle.papaya_call.specs.declared.ask.Answer.TheVariants.{Exchanged, Found as Found_instead}
use Rattle.papaya_call.specs.declared.chain.resizer.Resizer.{Resizer}
use Rattle.papaya_call.specs.declared.chain.resizer.ResizerState.{ResizerState as Stage}
use Rattle.papaya_call.specs.declared.chain.resizer.ResizerState.TheVariants as stages
use Rattle.papaya_call.specs.Resizer.{after, follows_in, kind_in, reply_in}
use Rattle.papaya_call_law.specs.Resizers.{IsResizeCause, IsTrueOfStage}
use Rattle.papaya_call_law.specs.ChainAnswers.{IsTrueOfCopy, LoadedPairs}
use Rattle.papaya_words_law.specs.Code.{Coding}
use Rattle.papaya_words_law.specs.Exchange.{Exchange, Open, Replace, Setting, State, run, start as first_state}
use Rattle.papaya_words_law.specs.Invariant.{named}
use Rattle.papaya_call_law.specs.Relies.{Change, change_in}
use Rattle.papaya_call_law.specs.TrueAnswers.{IsOneOf}
use Rattle.papaya_core_store.specs.declared.pairs.Running.{Running}
use Rattle.papaya_core_store.specs.Store.{KeepsPairs, StoreState, Stored, pair_of}
use Rattle.papaya_core_timeline.specs.declared.seat.Seat.{Seat}
use Rattle.papaya_core_timeline.specs.declared.seat.Work.{Work}
use Rattle.papaya_core_timeline.specs.declared.seat.Work.TheVariants as works
use Rattle.papaya_core_timeline.specs.declared.trace.Turn.{Turn}
use Rattle.papaya_core_timeline.specs.declared.trace.Event.{Event}
use Rattle.papaya_core_timeline.specs.declared.trace.Event.TheVariants.{Begun, Changed, Moved, Asked, Shown, Gave, Other, Replied}
use Rattle.papaya_core_timeline.specs.Advances.{goes_on}
use Rattle.papaya_core_timeline.specs.Callers.{resizer_in, resizing, running, scanning, with_work}
use Rattle.papaya_core_timeline.specs.Core.{CoreState, IsCore}
use Rattle.papaya_core_timeline.specs.Given.{asks_closure}
use Rattle.papaya_core_timeline.specs.Headline.{AreInArena, ComesNew}
use Rattle.papaya_core_timeline.specs.Kept.{IsConsistent, CallTrace, setting_of, coding_of, low, scan_trace}
use Rattle.papaya_core_timeline.specs.Maps.{Map, Same}
use Rattle.papaya_core_timeline.specs.Content.{map_of}
use Rattle.papaya_core_timeline.specs.Moves.{MovesMap}
use Rattle.papaya_core_timeline.specs.Resizes.{Resizes}
use Rattle.papaya_core_timeline.specs.Runs.{History, with_step}
use Rattle.papaya_core_timeline.specs.Timeline.{Fits, FitsDone, FitsOpen, IsAnsweredIn, IsUnchanged}
use Rattle.papaya_core_timeline.specs.Timeline.{IsLegal, IsUnused, Timeline, begun_by, change_by}
use Rattle.papaya_core_timeline.specs.Timeline.{change_of, open_after, open_call}
use Rattle.papaya_core_timeline.proofs.CallersLemmas.{differs, resizing-elsewhere, resizing-here, running-elsewhere, running-here, scanning-elsewhere, scanning-here}
use Rattle.papaya_core_timeline.proofs.CopyAnswers.{left_logged}
use Rattle.papaya_core_timeline.proofs.CoreLemmas.{cases_same}
use Rattle.papaya_core_timeline.proofs.EndingLemmas.{copy_unrefused}
use Rattle.papaya_core_timeline.proofs.GivenLemmas.{given_more, left_more}
use Rattle.papaya_core_timeline.proofs.EntersOnce.{timeline_steady}
use Rattle.papaya_core_timeline.proofs.Good.{IsGood, IsKeyed, IsResize, IsScanTied, IsTied, replay}
use Rattle.papaya_core_timeline.proofs.GoodScans.{replay_keyed, scan_entry, scan_other}
use Rattle.papaya_core_timeline.proofs.KeptLemmas.{IsLawfulKeys, hashed_setting, map_kept}
use Rattle.papaya_core_timeline.proofs.KeptResized as resized
use Rattle.papaya_core_timeline.proofs.LegalLemmas.{copy_same}
use Rattle.papaya_core_timeline.proofs.ReplayLemmas.{held_in_slot, map_replayed, replay-append}
use Rattle.papaya_core_timeline.proofs.StepEvents.{IsCopied, copy_told, stage_moves}
use Rattle.papaya_core_timeline.proofs.StoreLemmas.{matched}
use Rattle.papaya_core_timeline.proofs.TiedLemmas.{KeepsParts, same_parts, tied_entry, tied_other}
use Rattle.papaya_core_store.specs.declared.scans.Scanning.{Scanning}
use Rattle.papaya_core_timeline.proofs.TimelineLemmas.{change_of-other, change_of-own, entry, logged_more, open_call-other, open_call-own}

-- an event that changes no pair of the map, and calls no closure
abbrev pub IsQuiet : Event → Type 0
IsQuiet (Moved kind) = Unit {0}
IsQuiet Other = Unit {0}
IsQuiet _ = ⊥

-- a fact about each such event
pub quiet_cases : (P : Event → Type 0) → P Other → ((kind : StepKind) → P (Moved kind)) → (e : Event) → IsQuiet e → P e
quiet_cases P other moved (Moved kind) q = moved kind
quiet_cases P other moved Other q = other
quiet_cases P other moved Begun q = absurd q
quiet_cases P other moved (Changed kind old new) q = absurd q
quiet_cases P other moved (Asked n agrees) q = absurd q
quiet_cases P other moved (Shown shown kind) q = absurd q
quiet_cases P other moved (Gave n) q = absurd q
quiet_cases P other moved (Replied reply) q = absurd q

-- a resizer is done, or refused
pub resizer_replies : (stage : Stage) (reply : Reply) → reply_in stage ≡ Some reply → (reply ≡ Done) ⊎ ((refused : Refusal) × (reply ≡ Refused refused))
resizer_replies stages.Done reply e = inl (let f : Some Done ≡ Some reply = e in cc)
resizer_replies (stages.Refused refused) reply e = inr (refused, let f : Some (Refused refused) ≡ Some reply = e in cc)
resizer_replies stage reply e = let f : None ≡ Some reply = e in absurd cc

-- a call that resizes the map is done, or refused, without a change
pub resize_done : {K V A : Type 0} (eq : K → K → Bool) (call : Call K V A) (c : ℕ) (h : History) (maps : List (Map K V)) → IsResize call
    → change_of c h ≡ None → FitsDone eq call c h maps
resize_done eq (Reserve more) c h maps is none = (refl, none)
resize_done eq CopyAll c h maps is none = (refl, none)
resize_done eq (Get k) c h maps is none = absurd is
resize_done eq (Insert k v) c h maps is none = absurd is
resize_done eq (TryInsert k v) c h maps is none = absurd is
resize_done eq (RemoveIf k a) c h maps is none = absurd is
resize_done eq (Compute k a) c h maps is none = absurd is
resize_done eq Clear c h maps is none = absurd is
resize_done eq (Retain a) c h maps is none = absurd is
resize_done eq Walk c h maps is none = absurd is

-- a call that made no change left the map as it was
pub left_all : {K V A : Type 0} (eq : K → K → Bool) (call : Call K V A) (made : Change) → made ≡ None → IsUnchanged eq call made
left_all eq (Reserve more) made none = none
left_all eq CopyAll made none = none
left_all eq (Get k) made none = none
left_all eq (Insert k v) made none = none
left_all eq (TryInsert k v) made none = none
left_all eq (RemoveIf k a) made none = none
left_all eq (Compute k a) made none = none
left_all eq Clear made none = tt
left_all eq (Retain a) made none = tt
left_all eq Walk made none = none

module _ {K V : Type 0} (eq : K → K → Bool) (g : Setting K (Stored K V)) (c : Coding K (Stored K V)) (s : State (Stored K V))
    (loaded : LoadedPairs (Stored K V)) (a : Answer) (made : List (Exchange (Stored K V))) (loaded' : LoadedPairs (Stored K V)) where
  -- one exchange at most was made, and the map is as it was
  abbrev pub IsOne : Type 0
  IsOne = ((made ≡ []) ⊎ ((e : Exchange (Stored K V)) × (made ≡ e ∷ []))) × ((es : List (Exchange (Stored K V))) → Same (replay eq es) (replay eq (es ++ made)))

  pub copied_one : (kind : _) (follows : ℕ) (ask : CopyAsk) → IsTrueOfCopy g c s kind follows loaded ask a made loaded' → IsOne
  copied_one kind follows ask told = (
    ⊎_elim (λ none. inl none) (λ (x : IsCopied g c s kind loaded.kept ask made). inr (x.by, x.made))
        (copy_told g c s kind follows loaded ask a made loaded' told),
    copy_same eq g c s kind follows loaded ask a made loaded' told,
  )

  pub none_one : made ≡ [] → IsOne
  none_one none = (inl none, λ es j. ap (λ fs. replay eq (es ++ fs) j) none ∙ ap (λ fs. replay eq fs j) (append-nil es))

  open_one : (table : ℕ) → made ≡ Open table ∷ [] → IsOne
  open_one table is = (inr (Open table, is), λ es j. ap (λ fs. replay eq (es ++ fs) j) is ∙ ap (λ m. m j) (replay-append eq es (Open table ∷ [])))

  pub stage_one : (stage : Stage) → IsTrueOfStage g c s stage loaded a made loaded' → IsOne
  stage_one (stages.Opening table) told = matched IsOne (s.root == 0) ((a ≡ answers.Call Exchanged) × (made ≡ Open table ∷ []) × (loaded' ≡ loaded))
      ((a ≡ answers.Call (Found_instead s.root)) × ((made ≡ []) × (loaded' ≡ loaded))) told (λ _ opened. open_one table opened.1) (λ _ lost. none_one lost.1.0)
  stage_one stage (ask, asked, told) = copied_one (kind_in stage) (follows_in stage) ask told

module _ {K V S A : Type 0} (eq : K → K → Bool) (hash : K → ℕ) (law : IsLawfulKeys eq hash) where
  module _ {says : Says K V A} {hashes : S → K → ℕ} (refuse : Bool) (schedule : List (Turn K V A)) (first : StoreState K V S) (start : Map K V)
      (s s' : CoreState K V S A) (h : History) (turn c : ℕ) (event : Event) (reply : Option Reply) (x : Resizes eq hashes refuse s c s' event reply)
      (as_hashed : hashes s.store.hasher ≡ hash) (core' : IsCore s'.store s'.callers s'.mode) (good : IsGood eq says hash schedule first start s h) where
    -- the exchanges of the step, and the record for the resizer
    abbrev made : List (Exchange (Stored K V))
    made = (resized.left eq hash law refuse s c s' event reply x as_hashed good.es good.call_traces good.core good.kept).made

    abbrev loaded : LoadedPairs (Stored K V)
    loaded = (resized.left eq hash law refuse s c s' event reply x as_hashed good.es good.call_traces good.core good.kept).loaded'

    -- the exchanges and the traces after it
    abbrev es : List (Exchange (Stored K V))
    es = good.es ++ made

    abbrev call_traces : ℕ → CallTrace K V
    call_traces = resized.call_traces' eq hash law refuse s c s' event reply x as_hashed good.es good.call_traces good.core good.kept

    kept : IsConsistent eq hash s'.mode s'.store s'.callers es call_traces
    kept = resized.resize_kept eq hash law refuse s c s' event reply x as_hashed good.es good.call_traces good.core good.kept

    abbrev later_history : History
    later_history = entry turn c event ∷ h

    abbrev later_maps : List (Map K V)
    later_maps = replay eq es ∷ replay eq good.es ∷ good.maps

    one : IsOne eq (setting_of eq (low hash) s.mode s.store.words.tables) (coding_of (low hash)) (run good.es first_state) (good.call_traces c).loaded
        x.answer made loaded
    one = stage_one eq (setting_of eq (low hash) s.mode s.store.words.tables) (coding_of (low hash)) (run good.es first_state)
        (good.call_traces c).loaded x.answer made loaded x.before.state
        (resized.left eq hash law refuse s c s' event reply x as_hashed good.es good.call_traces good.core good.kept).told

    -- its event has no change, and calls no closure
    quiet : IsQuiet event
    quiet = subst IsQuiet (sym x.event_is) (stage_moves IsQuiet tt (λ kind. tt) x.before.state x.ask x.answer)

    -- arenas only grow
    pairs_stay : KeepsPairs s.store s'.store
    pairs_stay n p there = left_logged (setting_of eq (low hash) s.mode s.store.words.tables) (coding_of (low hash)) s.store good.es
        (good.call_traces c).loaded (resized.left eq hash law refuse s c s' event reply x as_hashed good.es good.call_traces good.core good.kept) n p there

    parts_stay : KeepsParts s.store s'.store
    parts_stay = same_parts s.store s'.store
        (resized.left eq hash law refuse s c s' event reply x as_hashed good.es good.call_traces good.core good.kept).pairs_are

    -- a call on one key is another caller's
    runs_other : (d : ℕ) (r : Running K V A) → running s'.callers d ≡ Some r → (d ≢ c) × (running s.callers d ≡ Some r)
    runs_other d r now =
        let work : Option (Work K V A) = goes_on reply (works.Resize (after x.before x.answer)) in
        let before : running (with_work s.callers c work) d ≡ Some r = sym (ap (λ (y : List (Seat K V A)). running y d) x.callers) ∙ now in
        elim (cases_same d c) [
          | inl same ↦ absurd (resized.goes_on-call reply (after x.before x.answer) r _ refl
              (running-here s.callers c work r (ap (running (with_work s.callers c work)) (sym same) ∙ before)))
          | inr differ ↦ (differ, sym (running-elsewhere s.callers c d work differ) ∙ before)
        ]

    -- the work that continues
    abbrev resumed : Resizer → Answer → Work K V A
    resumed z a = works.Resize (after z a)

    -- each resizer is this one, which continues, or is another caller's
    resizes_was : (d : ℕ) (z : Resizer) → resizing s'.callers d ≡ Some z → ((d ≡ c) × (reply ≡ None)) ⊎ ((d ≢ c) × (resizing s.callers d ≡ Some z))
    resizes_was d z now =
        let work : Option (Work K V A) = goes_on reply (works.Resize (after x.before x.answer)) in
        let before : resizing (with_work s.callers c work) d ≡ Some z = sym (ap (λ (y : List (Seat K V A)). resizing y d) x.callers) ∙ now in
        elim (cases_same d c) [
          | inl same ↦ inl (same, going reply (resizing-here s.callers c work z (ap (resizing (with_work s.callers c work)) (sym same) ∙ before)))
          | inr differ ↦ inr (differ, sym (resizing-elsewhere s.callers c d work differ) ∙ before)
        ]
      where
        going : (reply : Option Reply) → goes_on reply (resumed x.before x.answer) ≡ Some (works.Resize z) → reply ≡ None
        going None e = refl
        going (Some rep) e = let f : None ≡ Some z = ap resizer_in e in absurd cc

    loaded_other : (d : ℕ) → d ≢ c → (call_traces d).loaded ≡ (good.call_traces d).loaded
    loaded_other d differ = ap (λ b. cond b loaded (good.call_traces d).loaded) (differs d c differ)

    -- a call that is open was open before, and its change is the same
    opened : open_call schedule c later_history ≡ open_call schedule c h
    opened = open_call-own schedule c turn event h
        ∙ quiet_cases (λ e. open_after e (begun_by (slice_get schedule turn)) (open_call schedule c h) ≡ open_call schedule c h) refl (λ kind. refl) event quiet

    unchanged : change_of c later_history ≡ change_of c h
    unchanged = change_of-own c turn event h ∙ quiet_cases (λ e. change_by e (change_of c h) ≡ change_of c h) refl (λ kind. refl) event quiet

    open_other : (d : ℕ) (call : Call K V A) → d ≢ c → open_call schedule d later_history ≡ Some call → open_call schedule d h ≡ Some call
    open_other d call differ e = sym (open_call-other schedule c d turn event h (λ z. differ (sym z))) ∙ e

    -- the pairs of the map after it are stored in the arena
    valid : (j : K) (p : Stored K V) → replay eq es j ≡ Some p → (t : ℕ) × (i : ℕ) × (named ((run es first_state).slot t i) ≡ Some p)
    valid = held_in_slot eq (low hash) s'.mode s'.store.words.tables (hashed_setting eq hash law s' core').lawful es kept.allowed

    in_log : (j : K) (p : Stored K V) → replay eq es j ≡ Some p → pair_of s'.store p.number ≡ Some p
    in_log j p e = let (t, i, there) = valid j p e in kept.logged t i p there

    logged : AreInArena s'.store (replay eq good.es ∷ good.maps)
    logged = logged_more s.store s'.store (replay eq good.es ∷ good.maps) pairs_stay good.logged

    legal : IsLegal eq event schedule c h (replay eq good.es) good.maps (replay eq es) good.answers
    legal = quiet_cases (λ e. IsLegal eq e schedule c h (replay eq good.es) good.maps (replay eq es) good.answers) (one.1 good.es)
        (λ kind. one.1 good.es) event quiet

    unused : (d : ℕ) (r : Running K V A) → running s'.callers d ≡ Some r → (q : Stored K V) → IsOneOf (call_traces d).loaded.call.made q
        → change_in r.machine.call.state ≡ None → IsUnused q.number later_maps
    unused d r now q of_it none =
        let (differ, before) = runs_other d r now in (
          λ j p e. let (t, i, there) = valid j p e in (kept.calls d r now).unwritten q of_it none t i p there,
          good.unused d r before q (subst (λ (y : LoadedPairs (Stored K V)). IsOneOf y.call.made q) (loaded_other d differ) of_it) none,
        )

    tied : (d : ℕ) (r : Running K V A) (call : Call K V A) → running s'.callers d ≡ Some r → open_call schedule d later_history ≡ Some call
        → IsTied eq s'.store r call d (call_traces d) later_history later_maps (None ∷ good.answers)
    tied d r call now e =
        let (differ, before) = runs_other d r now in
        tied_other eq s.store s'.store r call c d turn event good.call_traces made loaded h good.es (replay eq good.es ∷ good.maps) None good.answers
        parts_stay (good.kept.calls d r before).valued pairs_stay one.0 (λ z. differ (sym z)) (good.kept.calls d r before).split
        (good.tied d r call before (open_other d call differ e))

    -- the resizer's call has no key, and changed nothing
    own_resized : (call : Call K V A) → open_call schedule c h ≡ Some call → IsResize call × (change_of c later_history ≡ None)
    own_resized call e = let was = good.resized c x.before call x.was e in (was.0, unchanged ∙ was.1)

    still_resized : (d : ℕ) (z : Resizer) (call : Call K V A) → resizing s'.callers d ≡ Some z → open_call schedule d later_history ≡ Some call
        → IsResize call × (change_of d later_history ≡ None)
    still_resized d z call now e = elim (resizes_was d z now) [
      | inl (same, goes) ↦ subst (λ y. IsResize call × (change_of y later_history ≡ None)) (sym same)
          (own_resized call (sym opened ∙ ap (λ y. open_call schedule y later_history) (sym same) ∙ e))
      | inr (differ, before) ↦ (let was = good.resized d z call before (open_other d call differ e) in
          (was.0, change_of-other c d turn event h (λ y. differ (sym y)) ∙ was.1))
    ]

    -- a scanner is another caller's
    scans_other : (d : ℕ) (v : Scanning A) → scanning s'.callers d ≡ Some v → (d ≢ c) × (scanning s.callers d ≡ Some v)
    scans_other d v now =
        let work : Option (Work K V A) = goes_on reply (works.Resize (after x.before x.answer)) in
        let before : scanning (with_work s.callers c work) d ≡ Some v = sym (ap (λ (y : List (Seat K V A)). scanning y d) x.callers) ∙ now in
        elim (cases_same d c) [
          | inl same ↦ absurd (resized.goes_on-scanner reply (after x.before x.answer) v _ refl
              (scanning-here s.callers c work v (ap (scanning (with_work s.callers c work)) (sym same) ∙ before)))
          | inr differ ↦ (differ, sym (scanning-elsewhere s.callers c d work differ) ∙ before)
        ]

    keyed : IsKeyed eq (replay eq es)
    keyed = replay_keyed eq (low hash) s'.mode s'.store.words.tables (hashed_setting eq hash law s' core').lawful es kept.allowed

    -- no pair takes the place of another
    no_replace : (t y : ℕ) (p q : Stored K V) → made ≡ Replace t y p q ∷ [] → ⊥
    no_replace t y p q is =
        let f : None ≡ Some q = sym (one.1 [] p.key) ∙ ap (λ l. replay eq l p.key) is ∙ ap (λ b. cond b (Some q) None) (law.classes.refl p.key) in
        absurd cc

    timeline : Timeline eq schedule start later_history later_maps (None ∷ good.answers)
    timeline = (legal, quiet_cases (λ e. IsAnsweredIn {V = V} e None) refl (λ kind. refl) event quiet, good.timeline)

    scanned : (d : ℕ) (v : Scanning A) (call : Call K V A) → scanning s'.callers d ≡ Some v → open_call schedule d later_history ≡ Some call
        → IsScanTied eq says s'.store schedule v call d (scan_trace (call_traces d)) later_history later_maps (None ∷ good.answers)
    scanned d v call now e =
        let (differ, before) = scans_other d v now in
        let split = (good.kept.scanners d v before).split in
        scan_other eq says schedule s.store s'.store v call c d turn event (scan_trace (good.call_traces d)) ((good.call_traces d).since ++ made) made
        h (replay eq good.es) (replay eq es) good.maps None good.answers (λ z. differ (sym z)) pairs_stay one.0 refl
        (ap (λ l. replay eq l) (sym split)) (ap (λ l. replay eq l)
        (ap (λ l. l ++ made) (sym split) ∙ append_assoc (good.call_traces d).begun (good.call_traces d).since made)) keyed
        (timeline_steady eq schedule start later_history later_maps (None ∷ good.answers) timeline).0 (λ t y p q is. absurd (no_replace t y p q is))
        (good.scanned d v call before (open_other d call differ e))

    -- the resizer continues
    abbrev goes_on_good : IsGood eq says hash schedule first start s' later_history
    goes_on_good = record {
      es = es;
      call_traces = call_traces;
      maps = replay eq good.es ∷ good.maps;
      answers = None ∷ good.answers;
      core = core';
      kept = kept;
      timeline = timeline;
      logged = (in_log, logged);
      given = (
        λ call e asks. let f : false ≡ true = sym (quiet_cases (λ e. asks_closure e ≡ false) refl (λ kind. refl) event quiet) ∙ asks in absurd cc,
        given_more says s.store s'.store pairs_stay schedule h good.answers good.given,
      );
      left = λ d r call now e a had.
          let (differ, before) = runs_other d r now in
          inr (inr (
            λ z. differ (sym z),
            left_more says s.store s'.store pairs_stay schedule a d h good.answers
                (good.left d r call before (open_other d call differ e) a had),
          ));
      resized = still_resized;
      scanned = scanned;
      kept_pairs = λ n p there. pairs_stay n p (good.kept_pairs n p there);
      fresh = (λ call began. quiet_cases (ComesNew first) tt (λ kind. tt) event quiet, good.fresh);
      made_new = λ d r call now e q of_it.
          let (differ, before) = runs_other d r now in
          good.made_new d r call before (open_other d call differ e) q
          (subst (λ (y : LoadedPairs (Stored K V)). IsOneOf y.call.made q) (loaded_other d differ) of_it);
      unused = unused;
      tied = tied;
    }

    -- a refusal isn't for a removal of nothing
    refused_otherwise : (refused : Refusal) → reply ≡ Some (Refused refused) → refused ≡ RemoveNothing → ⊥
    refused_otherwise refused some is = elim (subst (IsResizeCause x.before x.answer) is (x.cause refused some)) [
      | inl made ↦ copy_unrefused eq hashes refuse s.store x.answer s'.store x.ask x.performs made.is
      | inr (inl long) ↦ (let f : RemoveNothing ≡ Capacity = long.capacity in absurd cc)
      | inr (inr room) ↦ (let f : RemoveNothing ≡ Capacity = room.capacity in absurd cc)
    ]

    -- its reply fits
    fits : (o : Option (Call K V A)) → open_call schedule c later_history ≡ o → (rep : Reply) → reply ≡ Some rep → FitsOpen eq o rep c later_history later_maps
    fits None e rep some = tt
    fits (Some call) e rep some =
        let own = own_resized call (sym opened ∙ e) in
        elim (resizer_replies (after x.before x.answer).state rep (sym x.reply_is ∙ some)) [
          | inl done ↦ subst (λ y. Fits eq call y c later_history later_maps) (sym done) (resize_done eq call c later_history later_maps own.0 own.1)
          | inr (refused, is) ↦ subst (λ y. Fits eq call y c later_history later_maps) (sym is)
              (left_all eq call (change_of c later_history) own.1, λ nothing. absurd (refused_otherwise refused (some ∙ ap (λ y. Some y) is) nothing))
        ]

    -- or it replies
    replies_good : (rep : Reply) → reply ≡ Some rep → IsGood eq says hash schedule first start s' (entry turn c (Replied rep) ∷ later_history)
    replies_good rep some =
        let on = goes_on_good in
        let ne : (d : ℕ) (r : Running K V A) → running s'.callers d ≡ Some r → c ≢ d = λ d r now z. (runs_other d r now).0 (sym z) in
        record {
          es = es;
          call_traces = call_traces;
          maps = later_maps;
          answers = None ∷ None ∷ good.answers;
          core = core';
          kept = kept;
          timeline = ((λ j. refl, fits (open_call schedule c later_history) refl rep some), refl, on.timeline);
          logged = (in_log, on.logged);
          given = (λ call e asks. let f : false ≡ true = asks in absurd cc, on.given);
          left = λ d r call now e a had. inr (inr (
            ne d r now,
            on.left d r call now
                (sym (open_call-other schedule c d turn (Replied rep) later_history (ne d r now)) ∙ e) a had,
          ));
          resized = λ d z call now e. elim (resizes_was d z now) [
            | inl (same, goes) ↦ (let f : Some rep ≡ None = sym some ∙ goes in absurd cc)
            | inr (differ, before) ↦
                (let apart : c ≢ d = λ y. differ (sym y) in
                let was = still_resized d z call now (sym (open_call-other schedule c d turn (Replied rep) later_history apart) ∙ e) in
                (was.0, change_of-other c d turn (Replied rep) later_history apart ∙ was.1))
          ];
          scanned = λ d v call now e.
              let apart : c ≢ d = λ y. (scans_other d v now).0 (sym y) in
              scan_entry eq says schedule s'.store s'.store v call c d turn (Replied rep) (scan_trace (call_traces d)) later_history (replay eq es)
              (replay eq good.es ∷ good.maps) None (None ∷ good.answers) apart (λ n p there. there)
              (ap (λ l. replay eq l) (sym (kept.scanners d v now).split)) keyed
              (scanned d v call now (sym (open_call-other schedule c d turn (Replied rep) later_history apart) ∙ e));
          kept_pairs = on.kept_pairs;
          fresh = (λ call began. tt, on.fresh);
          made_new = λ d r call now e q of_it. on.made_new d r call now
              (sym (open_call-other schedule c d turn (Replied rep) later_history (ne d r now)) ∙ e) q of_it;
          unused = λ d r now q of_it none. let u = unused d r now q of_it none in (u.0, u);
          tied = λ d r call now e.
              tied_entry eq s'.store s'.store r call c d turn (Replied rep) (call_traces d) later_history (replay eq es) later_maps None
              (None ∷ good.answers) refl (ne d r now)
              (tied d r call now (sym (open_call-other schedule c d turn (Replied rep) later_history (ne d r now)) ∙ e));
        }

  -- a step of a resizer keeps a good history
  pub good_resize : {says : Says K V A} {hashes : S → K → ℕ} (refuse : Bool) (schedule : List (Turn K V A)) (first : StoreState K V S)
      (start : Map K V) (s s' : CoreState K V S A) (h : History) (turn c : ℕ) (event : Event) (reply : Option Reply)
      → Resizes eq hashes refuse s c s' event reply → hashes s.store.hasher ≡ hash → IsCore s'.store s'.callers s'.mode
      → IsGood eq says hash schedule first start s h → IsGood eq says hash schedule first start s' (with_step turn c event reply h)
  good_resize refuse schedule first start s s' h turn c event None x as_hashed core' good = goes_on_good refuse schedule first start s s' h turn c
      event None x as_hashed core' good
  good_resize refuse schedule first start s s' h turn c event (Some rep) x as_hashed core' good = replies_good refuse schedule first start s s' h turn
      c event (Some rep) x as_hashed core' good rep refl

  -- and leaves the map
  pub resize_same : {hashes : S → K → ℕ} (refuse : Bool) (s s' : CoreState K V S A) (c : ℕ) (event : Event) (reply : Option Reply)
      (x : Resizes eq hashes refuse s c s' event reply) → hashes s.store.hasher ≡ hash → IsCore s.store s.callers s.mode
      → IsCore s'.store s'.callers s'.mode → (es : List (Exchange (Stored K V))) (call_traces : ℕ → CallTrace K V)
      → IsConsistent eq hash s.mode s.store s.callers es call_traces → Same (map_of eq s) (map_of eq s')
  resize_same refuse s s' c event reply x as_hashed core core' es call_traces kept j =
      let left = resized.left eq hash law refuse s c s' event reply x as_hashed es call_traces core kept in
      let one = stage_one eq (setting_of eq (low hash) s.mode s.store.words.tables) (coding_of (low hash)) (run es first_state) (call_traces c).loaded
      x.answer left.made left.loaded' x.before.state left.told in
      map_kept eq hash law s' (es ++ left.made) (resized.call_traces' eq hash law refuse s c s' event reply x as_hashed es call_traces core kept)
      core' (resized.resize_kept eq hash law refuse s c s' event reply x as_hashed es call_traces core kept) j
      ∙ ap (λ m. m j) (map_replayed eq (low hash) s'.mode s'.store.words.tables (es ++ left.made) (λ k. None))
      ∙ one.1 es j
      ∙ sym (ap (λ m. m j) (map_replayed eq (low hash) s.mode s.store.words.tables es (λ k. None)))
      ∙ sym (map_kept eq hash law s es call_traces core kept j)

  pub resize_moves : {hashes : S → K → ℕ} (refuse : Bool) (s s' : CoreState K V S A) (c : ℕ) (event : Event) (reply : Option Reply)
      (x : Resizes eq hashes refuse s c s' event reply) → hashes s.store.hasher ≡ hash → IsCore s.store s.callers s.mode
      → IsCore s'.store s'.callers s'.mode → (es : List (Exchange (Stored K V))) (call_traces : ℕ → CallTrace K V)
      → IsConsistent eq hash s.mode s.store s.callers es call_traces → MovesMap eq s c s' event
  resize_moves refuse s s' c event reply x as_hashed core core' es call_traces kept =
      let same = resize_same refuse s s' c event reply x as_hashed core core' es call_traces kept in
      quiet_cases (MovesMap eq s c s') same (λ kind. same) event
      (subst IsQuiet (sym x.event_is) (stage_moves IsQuiet tt (λ kind. tt) x.before.state x.ask x.answer))
