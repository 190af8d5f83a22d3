-- A step of a call that scans a table keeps a good history.
use Rattle.std.proofs.Common.{◌≡◌, ◌≢◌, ◌⊎◌, ◌==◌, inl, inr, ⊎_elim, ℕ, Bool, true, false, cond}
use Rattle.std.proofs.Common.{Option, None, Some, List, [], ◌∷◌, ◌++◌, slice_get, refl, sym, ◌∙◌}
use Rattle.std.proofs.Common.{ap, subst, append-nil, append_assoc, eq-eqb}
use Rattle.papaya_words.specs.Word.{pair_of as number_of}
use Rattle.papaya_words.specs.declared.refused.Refused.{Refused as Refusal}
use Rattle.papaya_words.specs.declared.refused.Refused.TheVariants.{RemoveNothing, Capacity, Memory}
use Rattle.papaya_call.specs.declared.ask.Answer.TheVariants.{Refused as Was_refused}
use Rattle.papaya_call.specs.declared.ask.StepKind.{StepKind}
use Rattle.papaya_call.specs.declared.ask.StepKind.TheVariants as kinds
use Rattle.papaya_call.specs.declared.call.Call.{Call}
use Rattle.papaya_call.specs.declared.call.Reply.{Reply}
use Rattle.papaya_call.specs.declared.call.Reply.TheVariants.{Done, Refused}
use Rattle.papaya_call.specs.Answers.{Says}
use Rattle.papaya_call.specs.declared.chain.ask.Answer.TheVariants as answers
use Rattle.papaya_call.specs.declared.chain.resizer.Resizer.{Resizer}
use Rattle.papaya_words_law.specs.Allows.{AllAllowed}
use Rattle.papaya_words_law.specs.Code.{Coding, IsHashed}
use Rattle.papaya_words_law.specs.Exchange.{Exchange, Bury, Replace, Setting, run, start as first_state}
use Rattle.papaya_words_law.specs.Invariant.{IsKeeping, named}
use Rattle.papaya_words_law.specs.Meaning.{IsLawful, map_left}
use Rattle.papaya_words_law.proofs.Moments.{allowed_first, allowed_rest}
use Rattle.papaya_words_law.proofs.OneMap.{keeping}
use Rattle.papaya_call_law.specs.Relies.{change_in}
use Rattle.papaya_call_law.specs.TrueAnswers.{IsOneOf}
use Rattle.papaya_core_store.specs.declared.pairs.Running.{Running}
use Rattle.papaya_core_store.specs.Store.{KeepsPairs, StoreState, Stored, pair_of}
use Rattle.papaya_core_timeline.specs.declared.seat.Seat.{Seat}
use Rattle.papaya_core_timeline.specs.declared.seat.Work.{Work}
use Rattle.papaya_core_timeline.specs.declared.seat.Work.TheVariants as works
use Rattle.papaya_core_timeline.specs.declared.trace.Turn.{Turn}
use Rattle.papaya_core_timeline.specs.declared.trace.Event.{Event}
use Rattle.papaya_core_timeline.specs.declared.trace.Event.TheVariants.{Changed, Moved, Asked, Gave, Other, Replied}
use Rattle.papaya_core_timeline.specs.Advances.{goes_on}
use Rattle.papaya_core_timeline.specs.Callers.{resizing, running, scanning, with_work}
use Rattle.papaya_core_timeline.specs.Core.{CoreState, IsCore}
use Rattle.papaya_core_timeline.specs.Given.{HasLeft, asks_closure}
use Rattle.papaya_core_timeline.specs.Headline.{AreInArena, ComesNew}
use Rattle.papaya_core_timeline.specs.Kept.{CallTrace, IsConsistent, IsScanning, ScanTrace, coding_of, low}
use Rattle.papaya_core_timeline.specs.Kept.{numbers_of, scan_trace, scanned_call_traces, setting_of}
use Rattle.papaya_core_timeline.specs.Kept.{told_call_traces}
use Rattle.papaya_core_timeline.specs.Maps.{IsUpdate, Map, Same}
use Rattle.papaya_core_timeline.specs.Runs.{History, with_step}
use Rattle.papaya_core_timeline.specs.Timeline.{Fits, FitsAsked, FitsDone, FitsGiven, FitsOpen}
use Rattle.papaya_core_timeline.specs.Timeline.{HasNumber, IsAgreed, IsAnsweredIn, IsLegal, IsUnused}
use Rattle.papaya_core_timeline.specs.Timeline.{MayChange, OfSome, Timeline, asked_then, begins}
use Rattle.papaya_core_timeline.specs.Timeline.{begun_by, change_by, change_of, given_by, given_then}
use Rattle.papaya_core_timeline.specs.Timeline.{last_asked, open_after, open_call}
use Rattle.papaya_core_timeline.specs.ScanGoes.{Scans, event_of_scan, list_refusal}
use Rattle.papaya_core_timeline.proofs.CallersLemmas.{differs, resizing-elsewhere, resizing-here}
use Rattle.papaya_core_timeline.proofs.CallersLemmas.{running-elsewhere, running-here, same_item}
use Rattle.papaya_core_timeline.proofs.CallersLemmas.{scanning-elsewhere, scanning-here}
use Rattle.papaya_core_timeline.proofs.CoreLemmas.{cases_same}
use Rattle.papaya_core_timeline.proofs.EntersOnce.{timeline_steady}
use Rattle.papaya_core_timeline.proofs.GivenLemmas.{given_more, left_more}
use Rattle.papaya_core_timeline.proofs.Good.{IsGood, IsKeyed, IsScanOf, IsScanTied, IsTied, answer_about, replay}
use Rattle.papaya_core_timeline.proofs.GoodResized.{IsQuiet, quiet_cases}
use Rattle.papaya_core_timeline.proofs.GoodScans.{given_by-own, last_asked-own, replay_keyed, scan_entry, scan_other, scan_tied}
use Rattle.papaya_core_timeline.proofs.GoodScanEnds as ends
use Rattle.papaya_core_timeline.proofs.GoodScanFits.{none_given, retain_shows, scan_pairs, scan_refused}
use Rattle.papaya_core_timeline.proofs.GoodScanFits.{scan_replies, scan_takes, scan_unrefused, tied_scan}
use Rattle.papaya_core_timeline.proofs.GoodScanFits.{unheard_is, walk_gives}
use Rattle.papaya_core_timeline.proofs.KeptLemmas.{IsLawfulKeys, hashed_setting}
use Rattle.papaya_core_timeline.proofs.KeptScanned as kept_scan
use Rattle.papaya_core_timeline.proofs.ReplayLemmas.{held_in_slot, next_legal, replay-append}
use Rattle.papaya_core_timeline.proofs.StepScans.{IsBurial, IsGift, IsScanAnswering, IsScanStep, IsShowing, IsWithout, scan_answering, scan_step}
use Rattle.papaya_core_timeline.proofs.TiedLemmas.{KeepsParts, same_parts, tied_entry, tied_other}
use Rattle.papaya_core_timeline.proofs.TimelineLemmas.{change_of-other, change_of-own, entry, logged_more, not_begin-own, open_call-other, open_call-own}
use Rattle.papaya_core_timeline.proofs.ScanOver.{scan_over}
use Rattle.papaya_call.specs.declared.chain.ask.ScanAsk.TheVariants.{Show, Given}
use Rattle.papaya_call.specs.declared.chain.scanner.ScannerState.{ScannerState}
use Rattle.papaya_call.specs.declared.chain.scanner.ScannerState.TheVariants as states
use Rattle.papaya_call.specs.declared.chain.scanner.Scan.{Scan}
use Rattle.papaya_call.specs.declared.chain.scanner.Scan.TheVariants as scans
use Rattle.papaya_call.specs.Scanner.{after, asks_in, kind_of_ask, reply_in}
use Rattle.papaya_call_law.specs.ScanAnswers.{LoadedPairs}
use Rattle.papaya_call_law.specs.Scans.{HadPair, MayTake, ReliesState}
use Rattle.papaya_call_law.proofs.ScanAsks.{state_named}
use Rattle.papaya_core_store.specs.declared.scans.Scanning.{Scanning}

module _ {K V S A : Type 0} (eq : K → K → Bool) (hash : K → ℕ) (law : IsLawfulKeys eq hash) where
  module _ {says : Says K V A} {hashes : S → K → ℕ} (refuse : Bool) (schedule : List (Turn K V A)) (first : StoreState K V S) (start : Map K V) (s s' : CoreState K V S A) (h : History) (turn c : ℕ) (event : Event) (reply : Option Reply) (x : Scans eq says hashes refuse s c s' event reply) (as_hashed : hashes s.store.hasher ≡ hash) (core' : IsCore s'.store s'.callers s'.mode) (good : IsGood eq says hash schedule first start s h) where
    -- the scanner after the step, and its trace before it
    abbrev own : Scanning A
    own = record x.later { scanner = after x.before.scanner x.answer }

    abbrev call_trace : ScanTrace K V
    call_trace = scan_trace (good.call_traces c)

    abbrev g : Setting K (Stored K V)
    g = setting_of eq (low hash) s.mode s.store.words.tables

    abbrev coding : Coding K (Stored K V)
    coding = coding_of (low hash)

    hashed : IsHashed g coding
    hashed = hashed_setting eq hash law s good.core

    before_scanning : IsScanning eq hash s.mode s.store x.before good.es call_trace
    before_scanning = good.kept.scanners c x.before x.was

    -- the exchanges were allowed
    may_all : AllAllowed g first_state (call_trace.begun ++ call_trace.since)
    may_all = subst (AllAllowed g first_state) (sym before_scanning.split) good.kept.allowed

    keeps_first : IsKeeping g (run call_trace.begun first_state) (map_left g call_trace.begun)
    keeps_first = keeping g hashed.lawful call_trace.begun (allowed_first g call_trace.begun call_trace.since first_state may_all)

    may_since : AllAllowed g (run call_trace.begun first_state) call_trace.since
    may_since = allowed_rest g call_trace.begun call_trace.since first_state may_all

    -- a pair with which the closure is called, or that is returned, was in the map
    shown_pair : (n : ℕ) → x.ask ≡ Show n → HadPair g coding (run call_trace.begun first_state) (map_left g call_trace.begun) call_trace.since call_trace.loaded n
    shown_pair n is = state_named g coding hashed (run call_trace.begun first_state) (map_left g call_trace.begun) keeps_first call_trace.since may_since x.before.scanner.scan call_trace.loaded x.before.scanner.state before_scanning.relies.state (Show n) (x.asked ∙ ap (λ y. Some y) is)

    given_pair : (n : ℕ) → x.ask ≡ Given n → HadPair g coding (run call_trace.begun first_state) (map_left g call_trace.begun) call_trace.since call_trace.loaded n
    given_pair n is = state_named g coding hashed (run call_trace.begun first_state) (map_left g call_trace.begun) keeps_first call_trace.since may_since x.before.scanner.scan call_trace.loaded x.before.scanner.state before_scanning.relies.state (Given n) (x.asked ∙ ap (λ y. Some y) is)

    parts_stay : KeepsParts s.store s'.store
    parts_stay = same_parts s.store s'.store (scan_pairs eq hashes refuse says x.ask s.store x.before x.answer s'.store x.later x.performs)

    abbrev work : Option (Work K V A)
    work = goes_on reply (works.Scan own)

    -- a call on one key is another caller's
    runs_other : (d : ℕ) (r : Running K V A) → running s'.callers d ≡ Some r → (d ≢ c) × (running s.callers d ≡ Some r)
    runs_other d r now =
        let before : running (with_work s.callers c work) d ≡ Some r = sym (ap (λ (y : List (Seat K V A)). running y d) x.callers) ∙ now in
        elim (cases_same d c) [
          | inl same ↦ absurd (kept_scan.scan_no-call reply own r _ refl (running-here s.callers c work r (ap (running (with_work s.callers c work)) (sym same) ∙ before)))
          | inr differ ↦ (differ, sym (running-elsewhere s.callers c d work differ) ∙ before)
        ]

    -- and so is a resizer
    resizes_other : (d : ℕ) (z : Resizer) → resizing s'.callers d ≡ Some z → (d ≢ c) × (resizing s.callers d ≡ Some z)
    resizes_other d z now =
        let before : resizing (with_work s.callers c work) d ≡ Some z = sym (ap (λ (y : List (Seat K V A)). resizing y d) x.callers) ∙ now in
        elim (cases_same d c) [
          | inl same ↦ absurd (kept_scan.scan_no-resizer reply own z _ refl (resizing-here s.callers c work z (ap (resizing (with_work s.callers c work)) (sym same) ∙ before)))
          | inr differ ↦ (differ, sym (resizing-elsewhere s.callers c d work differ) ∙ before)
        ]

    -- each scanner is this one, which continues, or is another caller's
    scans_was : (d : ℕ) (v : Scanning A) → scanning s'.callers d ≡ Some v → ((d ≡ c) × (reply ≡ None) × (own ≡ v)) ⊎ ((d ≢ c) × (scanning s.callers d ≡ Some v))
    scans_was d v now =
        let before : scanning (with_work s.callers c work) d ≡ Some v = sym (ap (λ (y : List (Seat K V A)). scanning y d) x.callers) ∙ now in
        elim (cases_same d c) [
          | inl same ↦ (let (goes, is) = kept_scan.goes_on-scan reply own v _ refl (scanning-here s.callers c work v (ap (scanning (with_work s.callers c work)) (sym same) ∙ before)) in inl (same, goes, is))
          | inr differ ↦ inr (differ, sym (scanning-elsewhere s.callers c d work differ) ∙ before)
        ]

    open_other : (d : ℕ) (call : Call K V A) (e : Event) → d ≢ c → open_call schedule d (entry turn c e ∷ h) ≡ Some call → open_call schedule d h ≡ Some call
    open_other d call e differ is = sym (open_call-other schedule c d turn e h (λ z. differ (sym z))) ∙ is

    -- the result of its closure
    answering : IsScanAnswering says s'.store x.before x.later event
    answering = subst (IsScanAnswering says s'.store x.before x.later) (sym x.event_is) (scan_answering eq says hashes refuse s.store x.before x.answer s'.store x.later (kind_of_ask x.before.scanner) x.ask x.performs)

    -- a refusal isn't for a removal of nothing
    refused_otherwise : (refused : Refusal) → reply ≡ Some (Refused refused) → refused ≡ RemoveNothing → ⊥
    refused_otherwise refused some is = elim (x.cause refused some) [
      | inl list ↦ scan_unrefused eq hashes refuse says x.ask s.store x.before x.answer s'.store x.later x.performs (unheard_is x.ask x.answer refused list ∙ ap (λ y. answers.Call (Was_refused y)) is)
      | inr cause ↦ elim cause.why [
        | inl made ↦ scan_unrefused eq hashes refuse says x.ask s.store x.before x.answer s'.store x.later x.performs (made.is ∙ ap (λ y. answers.Call (Was_refused y)) is)
        | inr long ↦ (let f : RemoveNothing ≡ Capacity = sym is ∙ long.capacity in absurd cc)
      ]
    ]

    -- If the answer reached the scanner.
    module _ (heard : kept_scan.Heard eq hash law says hashes refuse s c s' event reply x as_hashed good.es good.call_traces good.core good.kept) where
      abbrev made : List (Exchange (Stored K V))
      made = heard.made

      abbrev es : List (Exchange (Stored K V))
      es = good.es ++ made

      abbrev call_traces : ℕ → CallTrace K V
      call_traces = scanned_call_traces good.call_traces c made heard.loaded

      kept : IsConsistent eq hash s'.mode s'.store s'.callers es call_traces
      kept = kept_scan.scan_kept eq hash law says hashes refuse s c s' event reply x as_hashed good.es good.call_traces good.core good.kept heard

      abbrev later_history : History
      later_history = entry turn c event ∷ h

      abbrev later_maps : List (Map K V)
      later_maps = replay eq es ∷ replay eq good.es ∷ good.maps

      abbrev Step : Event → Type 0
      Step e = IsScanStep eq g coding hashed (run good.es first_state) call_trace.since x.before.scanner.state call_trace.loaded e made heard.loaded

      step : Step event
      step = subst Step (sym x.event_is) (scan_step eq g coding hashed (λ p. refl) (run good.es first_state) call_trace.since call_trace.loaded x.answer made heard.loaded x.before.scanner.state x.ask x.asked heard.told)

      -- a fact about each event that a scanner's step may have
      event_cases : (P : Event → Type 0) → P Other → ((kind : StepKind) → P (Moved kind)) → ((n : ℕ) → P (Gave n)) → ((n : ℕ) (stays : Bool) → P (Asked n stays)) → ((n : ℕ) → P (Changed kinds.Bury (Some n) None)) → P event
      event_cases P other moved gave asked buried = elim step [
        | inl still ↦ quiet_cases P other moved event still.quiet
        | inr (inl gift) ↦ subst P (sym gift.event_is) (gave (number_of gift.word))
        | inr (inr (inl showing)) ↦ subst P (sym showing.event_is) (asked (number_of showing.word) showing.stays)
        | inr (inr (inr burial)) ↦ subst P (sym burial.event_is) (buried burial.pair.number)
      ]

      one : (made ≡ []) ⊎ ((e : Exchange (Stored K V)) × (made ≡ e ∷ []))
      one = elim step [
        | inl still ↦ still.one.0
        | inr (inl gift) ↦ inl gift.none
        | inr (inr (inl showing)) ↦ inl showing.none
        | inr (inr (inr burial)) ↦ inr (_, burial.one)
      ]

      -- no pair takes the place of another
      no_replace : (t y : ℕ) (p q : Stored K V) → made ≡ Replace t y p q ∷ [] → ⊥
      no_replace t y p q is = elim step [
        | inl still ↦
            let f : None ≡ Some q = sym (still.one.1 [] p.key) ∙ ap (λ l. replay eq l p.key) is ∙ ap (λ b. cond b (Some q) None) (law.classes.refl p.key) in
            absurd cc
        | inr (inl gift) ↦ let f : [] ≡ Replace t y p q ∷ [] = sym gift.none ∙ is in absurd cc
        | inr (inr (inl showing)) ↦ let f : [] ≡ Replace t y p q ∷ [] = sym showing.none ∙ is in absurd cc
        | inr (inr (inr burial)) ↦ let f : Bury _ _ burial.pair ∷ [] ≡ Replace t y p q ∷ [] = sym burial.one ∙ is in absurd cc
      ]

      no_begin : begins event ≡ false
      no_begin = event_cases (λ e. begins e ≡ false) refl (λ kind. refl) (λ n. refl) (λ n stays. refl) (λ n. refl)

      opened : open_call schedule c later_history ≡ open_call schedule c h
      opened = open_call-own schedule c turn event h ∙ event_cases (λ e. open_after e (begun_by (slice_get schedule turn)) (open_call schedule c h) ≡ open_call schedule c h) refl (λ kind. refl) (λ n. refl) (λ n stays. refl) (λ n. refl)

      -- how the scanner was related to the history
      tied_before : (call : Call K V A) → open_call schedule c h ≡ Some call → IsScanTied eq says s.store schedule x.before call c call_trace h (replay eq good.es ∷ good.maps) good.answers
      tied_before call e = good.scanned c x.before call x.was e

      -- the pairs that are returned, passed to the closure and deleted
      gift_pair : (gift : IsGift eq g coding hashed (run good.es first_state) call_trace.since x.before.scanner.state call_trace.loaded event made heard.loaded) → HadPair g coding (run call_trace.begun first_state) (map_left g call_trace.begun) call_trace.since call_trace.loaded (number_of gift.word)
      gift_pair gift = given_pair (number_of gift.word) (same_item x.ask (Given (number_of gift.word)) (sym x.asked ∙ ap asks_in gift.giving))

      gift_number : (gift : IsGift eq g coding hashed (run good.es first_state) call_trace.since x.before.scanner.state call_trace.loaded event made heard.loaded) → number_of gift.word ≡ gift.pair.number
      gift_number gift = let had = gift_pair gift in sym had.number ∙ ap (λ (p : Stored K V). p.number) (same_item had.pair gift.pair (sym had.told ∙ gift.last))

      showing_pair : (showing : IsShowing eq g coding hashed (run good.es first_state) call_trace.since x.before.scanner.state call_trace.loaded event made heard.loaded) → HadPair g coding (run call_trace.begun first_state) (map_left g call_trace.begun) call_trace.since call_trace.loaded (number_of showing.word)
      showing_pair showing = shown_pair (number_of showing.word) (same_item x.ask (Show (number_of showing.word)) (sym x.asked ∙ ap asks_in showing.showing))

      showing_number : (showing : IsShowing eq g coding hashed (run good.es first_state) call_trace.since x.before.scanner.state call_trace.loaded event made heard.loaded) → number_of showing.word ≡ showing.pair.number
      showing_number showing = let had = showing_pair showing in sym had.number ∙ ap (λ (p : Stored K V). p.number) (same_item had.pair showing.pair (sym had.told ∙ showing.last))

      relies_in : (state : ScannerState) → x.before.scanner.state ≡ state → ReliesState g coding (run call_trace.begun first_state) (map_left g call_trace.begun) call_trace.since x.before.scanner.scan call_trace.loaded state
      relies_in state is = subst (ReliesState g coding (run call_trace.begun first_state) (map_left g call_trace.begun) call_trace.since x.before.scanner.scan call_trace.loaded) is before_scanning.relies.state

      no_exchange : made ≡ [] → Same (replay eq good.es) (replay eq es)
      no_exchange none j = ap (λ l. replay eq (good.es ++ l) j) none ∙ ap (λ l. replay eq l j) (append-nil good.es)

      -- a deletion takes a pair out of the map
      buried : (burial : IsBurial eq g coding hashed (run good.es first_state) call_trace.since x.before.scanner.state call_trace.loaded event made heard.loaded) → IsUpdate eq burial.pair.key (Some burial.pair) None (replay eq good.es) (replay eq es)
      buried burial =
          let p = burial.pair in
          let is : replay eq es ≡ (λ j. cond (eq j p.key) None (replay eq good.es j)) = ap (λ l. replay eq (good.es ++ l)) burial.one ∙ replay-append eq good.es (Bury burial.spot.table burial.spot.slot p ∷ []) in
          record {
            before = next_legal eq (low hash) s.mode s.store.words.tables hashed.lawful good.es (Bury burial.spot.table burial.spot.slot p) (subst (λ l. AllAllowed g first_state (good.es ++ l)) burial.one heard.allowed);
            class = λ j same. ap (λ f. f j) is ∙ ap (λ b. cond b None (replay eq good.es j)) same;
            others = λ j other. ap (λ f. f j) is ∙ ap (λ b. cond b None (replay eq good.es j)) other;
          }

      -- a retain deletes a pair for which its closure returned that it does not stay
      dropped : (call : Call K V A) → open_call schedule c h ≡ Some call → (burial : IsBurial eq g coding hashed (run good.es first_state) call_trace.since x.before.scanner.state call_trace.loaded event made heard.loaded) → (scan : Scan) → MayTake g coding (run call_trace.begun first_state) (map_left g call_trace.begun) call_trace.since scan call_trace.loaded burial.word → scan ≡ scans.Retain → last_asked c burial.pair.number h ≡ Some false
      dropped call e burial scans.Walk takes is = absurd cc
      dropped call e burial scans.Clear takes is = absurd cc
      dropped call e burial scans.Retain (q, number, said) is =
          (tied_before call e).asked burial.pair.number
          ∙ ap (answer_about call_trace.loaded.shown) (sym (number ∙ burial.stood))
          ∙ ends.last_is s.store call_trace.loaded.shown q false before_scanning.shown (before_scanning.shown q (ends.answered_shown call_trace.loaded.shown q false said)) said

      no_walk : (scan : Scan) (loaded : LoadedPairs (Stored K V)) (word : ℕ) → MayTake g coding (run call_trace.begun first_state) (map_left g call_trace.begun) call_trace.since scan loaded word → scan ≡ scans.Walk → ⊥
      no_walk scans.Walk loaded word takes is = takes
      no_walk scans.Clear loaded word takes is = cc
      no_walk scans.Retain loaded word takes is = cc

      may_bury : (o : Option (Call K V A)) → open_call schedule c h ≡ o → (burial : IsBurial eq g coding hashed (run good.es first_state) call_trace.since x.before.scanner.state call_trace.loaded event made heard.loaded) → MayChange eq o (change_of c h) burial.pair.key (Some burial.pair) None × IsAgreed o c (Some burial.pair.number) None h good.answers
      may_bury None e burial = (tt, tt)
      may_bury (Some call) e burial =
          let takes = (relies_in (states.Burying burial.spot burial.word) burial.burying).2 in
          scan_takes eq call x.before.scanner.scan (change_of c h) burial.pair c h good.answers (tied_before call e).scan (no_walk x.before.scanner.scan call_trace.loaded burial.word takes) (dropped call e burial x.before.scanner.scan takes)

      may_give : (o : Option (Call K V A)) → open_call schedule c h ≡ o → (gift : IsGift eq g coding hashed (run good.es first_state) call_trace.since x.before.scanner.state call_trace.loaded event made heard.loaded) → FitsGiven eq o (number_of gift.word) c h (replay eq good.es ∷ good.maps)
      may_give None e gift = tt
      may_give (Some call) e gift =
          let tied = tied_before call e in
          walk_gives eq call (number_of gift.word) c h (replay eq good.es ∷ good.maps) (subst (IsScanOf call) (relies_in (states.Giving gift.spot gift.word) gift.giving).1 tied.scan)
          (ends.in_call eq (low hash) s.mode s.store.words.tables says s.store schedule x.before call c call_trace h (replay eq good.es ∷ good.maps) good.answers tied (run call_trace.begun first_state) (number_of gift.word) (gift_pair gift))

      may_show : (o : Option (Call K V A)) → open_call schedule c h ≡ o → (showing : IsShowing eq g coding hashed (run good.es first_state) call_trace.since x.before.scanner.state call_trace.loaded event made heard.loaded) → FitsAsked eq o (number_of showing.word) c h (replay eq good.es ∷ good.maps)
      may_show None e showing = tt
      may_show (Some call) e showing =
          let tied = tied_before call e in
          retain_shows eq call (number_of showing.word) c h (replay eq good.es ∷ good.maps) (subst (IsScanOf call) (relies_in (states.Showing showing.spot showing.word) showing.showing).1 tied.scan)
          (ends.in_call eq (low hash) s.mode s.store.words.tables says s.store schedule x.before call c call_trace h (replay eq good.es ∷ good.maps) good.answers tied (run call_trace.begun first_state) (number_of showing.word) (showing_pair showing))

      legal : IsLegal eq event schedule c h (replay eq good.es) good.maps (replay eq es) good.answers
      legal = elim step [
        | inl still ↦ quiet_cases (λ e. IsLegal eq e schedule c h (replay eq good.es) good.maps (replay eq es) good.answers) (still.one.1 good.es) (λ kind. still.one.1 good.es) event still.quiet
        | inr (inl gift) ↦ subst (λ e. IsLegal eq e schedule c h (replay eq good.es) good.maps (replay eq es) good.answers) (sym gift.event_is) (no_exchange gift.none, may_give (open_call schedule c h) refl gift)
        | inr (inr (inl showing)) ↦ subst (λ e. IsLegal eq e schedule c h (replay eq good.es) good.maps (replay eq es) good.answers) (sym showing.event_is) (no_exchange showing.none, may_show (open_call schedule c h) refl showing)
        | inr (inr (inr burial)) ↦
            let may = may_bury (open_call schedule c h) refl burial in
            subst (λ e. IsLegal eq e schedule c h (replay eq good.es) good.maps (replay eq es) good.answers) (sym burial.event_is) (record {
              key = burial.pair.key;
              went = Some burial.pair;
              came = None;
              update = buried burial;
              went_is = refl;
              came_is = refl;
              fresh = tt;
              may = may.0;
              agreed = may.1;
            })
      ]

      timeline : Timeline eq schedule start later_history later_maps (None ∷ good.answers)
      timeline = (legal, event_cases (λ e. IsAnsweredIn {V = V} e None) refl (λ kind. refl) (λ n. refl) (λ n stays. refl) (λ n. refl), good.timeline)

      steady : (j : K) (p : Stored K V) → replay eq es j ≡ Some p → (replay eq good.es j ≡ Some p) ⊎ IsUnused p.number (replay eq good.es ∷ good.maps)
      steady = (timeline_steady eq schedule start later_history later_maps (None ∷ good.answers) timeline).0

      -- the pairs of the map after it are stored in the arena, each with a key of its class
      valid : (j : K) (p : Stored K V) → replay eq es j ≡ Some p → (t : ℕ) × (i : ℕ) × (named ((run es first_state).slot t i) ≡ Some p)
      valid = held_in_slot eq (low hash) s'.mode s'.store.words.tables (hashed_setting eq hash law s' core').lawful es kept.allowed

      in_log : (j : K) (p : Stored K V) → replay eq es j ≡ Some p → pair_of s'.store p.number ≡ Some p
      in_log j p e = let (t, i, there) = valid j p e in kept.logged t i p there

      logged : AreInArena s'.store (replay eq good.es ∷ good.maps)
      logged = logged_more s.store s'.store (replay eq good.es ∷ good.maps) heard.keeps good.logged

      keyed : IsKeyed eq (replay eq es)
      keyed = replay_keyed eq (low hash) s'.mode s'.store.words.tables (hashed_setting eq hash law s' core').lawful es kept.allowed

      -- if its own trace continues
      own_loaded : heard.loaded ≡ (call_traces c).scan
      own_loaded = sym (ap (λ b. cond b heard.loaded (good.call_traces c).scan) (eq-eqb c c refl))

      m_was : replay eq good.es ≡ replay eq (call_trace.begun ++ call_trace.since)
      m_was = ap (λ l. replay eq l) (sym before_scanning.split)

      m_is : replay eq es ≡ replay eq (call_trace.begun ++ (call_trace.since ++ made))
      m_is = ap (λ l. replay eq l) (ap (λ l. l ++ made) (sym before_scanning.split) ∙ append_assoc call_trace.begun call_trace.since made)

      own_unchanged : (call : Call K V A) → open_call schedule c h ≡ Some call → x.before.scanner.scan ≡ scans.Walk → change_of c later_history ≡ None
      own_unchanged call e walks = change_of-own c turn event h ∙ elim step [
        | inl still ↦ quiet_cases (λ y. change_by y (change_of c h) ≡ change_of c h) refl (λ kind. refl) event still.quiet ∙ was
        | inr (inl gift) ↦ ap (λ y. change_by y (change_of c h)) gift.event_is ∙ was
        | inr (inr (inl showing)) ↦ ap (λ y. change_by y (change_of c h)) showing.event_is ∙ was
        | inr (inr (inr burial)) ↦ absurd (no_walk x.before.scanner.scan call_trace.loaded burial.word (relies_in (states.Burying burial.spot burial.word) burial.burying).2 walks)
      ]
        where
          was : change_of c h ≡ None
          was = (tied_before call e).unchanged walks

      own_given : (call : Call K V A) → open_call schedule c h ≡ Some call → given_by c later_history ≡ numbers_of heard.loaded.given
      own_given call e = given_by-own c turn event h ∙ elim step [
        | inl still ↦ quiet_cases (λ y. given_then y (given_by c h) ≡ given_by c h) refl (λ kind. refl) event still.quiet ∙ was ∙ ap (λ l. numbers_of l) (sym still.given)
        | inr (inl gift) ↦
            ap (λ y. given_then y (given_by c h)) gift.event_is ∙ ap (λ l. l ++ number_of gift.word ∷ []) was ∙ ap (λ n. numbers_of call_trace.loaded.given ++ n ∷ []) (gift_number gift) ∙ ap (λ (y : LoadedPairs (Stored K V)). numbers_of y.given) (sym gift.handed)
        | inr (inr (inl showing)) ↦ ap (λ y. given_then y (given_by c h)) showing.event_is ∙ was ∙ ap (λ (y : LoadedPairs (Stored K V)). numbers_of y.given) (sym showing.handed)
        | inr (inr (inr burial)) ↦ ap (λ y. given_then y (given_by c h)) burial.event_is ∙ was ∙ ap (λ (y : LoadedPairs (Stored K V)). numbers_of y.given) (sym burial.handed)
      ]
        where
          was : given_by c h ≡ numbers_of call_trace.loaded.given
          was = (tied_before call e).given

      own_asked : (call : Call K V A) → open_call schedule c h ≡ Some call → (n : ℕ) → last_asked c n later_history ≡ answer_about heard.loaded.shown n
      own_asked call e n = last_asked-own c turn n event h ∙ elim step [
        | inl still ↦ quiet_cases (λ y. asked_then n y (last_asked c n h) ≡ last_asked c n h) refl (λ kind. refl) event still.quiet ∙ was ∙ ap (λ l. answer_about l n) (sym still.shown)
        | inr (inl gift) ↦ ap (λ y. asked_then n y (last_asked c n h)) gift.event_is ∙ was ∙ ap (λ (y : LoadedPairs (Stored K V)). answer_about y.shown n) (sym gift.handed)
        | inr (inr (inl showing)) ↦
            ap (λ y. asked_then n y (last_asked c n h)) showing.event_is ∙ ap (λ i. cond (i == n) (Some showing.stays) (last_asked c n h)) (showing_number showing) ∙ ap (λ o. cond (showing.pair.number == n) (Some showing.stays) o) was
            ∙ ap (λ (y : LoadedPairs (Stored K V)). answer_about y.shown n) (sym showing.handed)
        | inr (inr (inr burial)) ↦ ap (λ y. asked_then n y (last_asked c n h)) burial.event_is ∙ was ∙ ap (λ (y : LoadedPairs (Stored K V)). answer_about y.shown n) (sym burial.handed)
      ]
        where
          was : last_asked c n h ≡ answer_about call_trace.loaded.shown n
          was = (tied_before call e).asked n

      -- the maps since it took its table are kept, or begin again
      own_making : (call : Call K V A) (e : open_call schedule c h ≡ Some call)
          → ((heard.loaded.before ≡ call_trace.loaded.before) × ((n : ℕ) → c ≡ c → event ≡ Gave n → OfSome (HasNumber n) (tied_before call e).making.since)) ⊎ ((heard.loaded.before ≡ call_trace.since ++ made) × (heard.loaded.given ≡ []) × ((n : ℕ) → event ≡ Gave n → ⊥))
      own_making call e = elim step [
        | inl still ↦
            ⊎_elim
            (λ same. inl (same, λ n own gave. absurd (subst IsQuiet gave still.quiet)))
            (λ (reset : (heard.loaded.before ≡ call_trace.since ++ made) × IsWithout x.before.scanner.state).
            inr (reset.0, still.given ∙ none_given g coding (run call_trace.begun first_state) (map_left g call_trace.begun) call_trace.since x.before.scanner.scan call_trace.loaded x.before.scanner.state reset.1 before_scanning.relies.state, λ n gave. subst IsQuiet gave still.quiet))
            still.before
        | inr (inl gift) ↦ inl (
          ap (λ (y : LoadedPairs (Stored K V)). y.before) gift.handed,
          λ n own gave.
              let is : Gave (number_of gift.word) ≡ Gave n = sym gift.event_is ∙ gave in
              let same : number_of gift.word ≡ n = cc in
              subst (λ i. OfSome (HasNumber i) (tied_before call e).making.since) same
              (ends.since_making eq (low hash) s.mode s.store.words.tables says s.store schedule x.before call c call_trace h (replay eq good.es ∷ good.maps) good.answers (tied_before call e) (run call_trace.begun first_state) (number_of gift.word) (gift_pair gift)),
        )
        | inr (inr (inl showing)) ↦ inl (ap (λ (y : LoadedPairs (Stored K V)). y.before) showing.handed, λ n own gave. let f : Asked (number_of showing.word) showing.stays ≡ Gave n = sym showing.event_is ∙ gave in absurd cc)
        | inr (inr (inr burial)) ↦ inl (ap (λ (y : LoadedPairs (Stored K V)). y.before) burial.handed, λ n own gave. let f : Changed kinds.Bury (Some burial.pair.number) None ≡ Gave n = sym burial.event_is ∙ gave in absurd cc)
      ]

      own_left : (call : Call K V A) → open_call schedule c h ≡ Some call → (a' : A) → own.answers ≡ Some a' → HasLeft says s'.store schedule a' c later_history (None ∷ good.answers)
      own_left call e a' had =
          let (a, was, gives) = answering.left a' had in
          inr (inl (refl, no_begin, (a, left_more says s.store s'.store heard.keeps schedule a c h good.answers ((tied_before call e).left a was), gives)))

      -- the scanner is related to the longer history, whether it replied or not
      own_tied : (call : Call K V A) → open_call schedule c h ≡ Some call → IsScanTied eq says s'.store schedule own call c (scan_trace (call_traces c)) later_history later_maps (None ∷ good.answers)
      own_tied call e =
          subst (λ (y : LoadedPairs (Stored K V)). IsScanTied eq says s'.store schedule own call c (record { begun = call_trace.begun; since = call_trace.since ++ made; loaded = y }) later_history later_maps (None ∷ good.answers)) own_loaded
          (scan_tied eq says schedule s.store s'.store x.before own call c call_trace (call_trace.since ++ made) made heard.loaded (entry turn c event) h (replay eq good.es) (replay eq es) good.maps None good.answers
          (not_begin-own c c turn event no_begin) one refl m_was m_is keyed steady (λ t y p q is. absurd (no_replace t y p q is)) (tied_before call e)
          (tied_before call e).scan (own_unchanged call e) (own_given call e) (own_asked call e) (own_making call e) (own_left call e))

      scanned : (d : ℕ) (v : Scanning A) (call : Call K V A) → scanning s'.callers d ≡ Some v → open_call schedule d later_history ≡ Some call → IsScanTied eq says s'.store schedule v call d (scan_trace (call_traces d)) later_history later_maps (None ∷ good.answers)
      scanned d v call now e = elim (scans_was d v now) [
        | inl (same, goes, is) ↦
            subst (λ y. IsScanTied eq says s'.store schedule v call y (scan_trace (call_traces y)) later_history later_maps (None ∷ good.answers)) (sym same)
            (subst (λ y. IsScanTied eq says s'.store schedule y call c (scan_trace (call_traces c)) later_history later_maps (None ∷ good.answers)) is
            (own_tied call (sym opened ∙ ap (λ y. open_call schedule y later_history) (sym same) ∙ e)))
        | inr (differ, before) ↦
            let split = (good.kept.scanners d v before).split in
            let loaded : (good.call_traces d).scan ≡ (call_traces d).scan = sym (ap (λ b. cond b heard.loaded (good.call_traces d).scan) (differs d c differ)) in
            subst (λ (y : LoadedPairs (Stored K V)). IsScanTied eq says s'.store schedule v call d (record { begun = (good.call_traces d).begun; since = (good.call_traces d).since ++ made; loaded = y }) later_history later_maps (None ∷ good.answers)) loaded
            (scan_other eq says schedule s.store s'.store v call c d turn event (scan_trace (good.call_traces d)) ((good.call_traces d).since ++ made) made h (replay eq good.es) (replay eq es) good.maps None good.answers (λ z. differ (sym z)) heard.keeps one refl
            (ap (λ l. replay eq l) (sym split)) (ap (λ l. replay eq l) (ap (λ l. l ++ made) (sym split) ∙ append_assoc (good.call_traces d).begun (good.call_traces d).since made)) keyed steady (λ t y p q is. absurd (no_replace t y p q is))
            (good.scanned d v call before (open_other d call event differ e)))
      ]

      loaded_other : (d : ℕ) → d ≢ c → (call_traces d).loaded ≡ (good.call_traces d).loaded
      loaded_other d differ = ap (λ b. cond b (good.call_traces c).loaded (good.call_traces d).loaded) (differs d c differ)

      unused : (d : ℕ) (r : Running K V A) → running s'.callers d ≡ Some r → (q : Stored K V) → IsOneOf (call_traces d).loaded.call.made q → change_in r.machine.call.state ≡ None → IsUnused q.number later_maps
      unused d r now q of_it none =
          let (differ, before) = runs_other d r now in (
            λ j p e. let (t, i, there) = valid j p e in (kept.calls d r now).unwritten q of_it none t i p there,
            good.unused d r before q (subst (λ y. IsOneOf y.call.made q) (loaded_other d differ) of_it) none,
          )

      tied : (d : ℕ) (r : Running K V A) (call : Call K V A) → running s'.callers d ≡ Some r → open_call schedule d later_history ≡ Some call → IsTied eq s'.store r call d (call_traces d) later_history later_maps (None ∷ good.answers)
      tied d r call now e =
          let (differ, before) = runs_other d r now in
          tied_scan eq s'.store r call d (told_call_traces good.call_traces c made (good.call_traces c).loaded d) (call_traces d).scan later_history later_maps (None ∷ good.answers)
          (tied_other eq s.store s'.store r call c d turn event good.call_traces made (good.call_traces c).loaded h good.es (replay eq good.es ∷ good.maps) None good.answers parts_stay (good.kept.calls d r before).valued heard.keeps one (λ z. differ (sym z)) (good.kept.calls d r before).split (good.tied d r call before (open_other d call event differ e)))

      -- the scanner continues
      abbrev goes_on_good : IsGood eq says hash schedule first start s' later_history
      goes_on_good = record {
        es = es;
        call_traces = call_traces;
        maps = replay eq good.es ∷ good.maps;
        answers = None ∷ good.answers;
        core = core';
        kept = kept;
        timeline = timeline;
        logged = (in_log, logged);
        given = (
          λ call e asks.
              let (a', had) = answering.gave asks in
              let (a, was, gives) = answering.left a' had in
              (a, a', left_more says s.store s'.store heard.keeps schedule a c h good.answers ((tied_before call e).left a was), gives),
          given_more says s.store s'.store heard.keeps schedule h good.answers good.given,
        );
        left = λ d r call now e a had.
            let (differ, before) = runs_other d r now in
            inr (inr (λ z. differ (sym z), left_more says s.store s'.store heard.keeps schedule a d h good.answers (good.left d r call before (open_other d call event differ e) a had)));
        resized = λ d z call now e.
            let (differ, before) = resizes_other d z now in
            let was = good.resized d z call before (open_other d call event differ e) in
            (was.0, change_of-other c d turn event h (λ y. differ (sym y)) ∙ was.1);
        scanned = scanned;
        kept_pairs = λ n p there. heard.keeps n p (good.kept_pairs n p there);
        fresh = (λ call began. event_cases (ComesNew first) tt (λ kind. tt) (λ n. tt) (λ n stays. tt) (λ n. tt), good.fresh);
        made_new = λ d r call now e q of_it.
            let (differ, before) = runs_other d r now in
            good.made_new d r call before (open_other d call event differ e) q (subst (λ y. IsOneOf y.call.made q) (loaded_other d differ) of_it);
        unused = unused;
        tied = tied;
      }

      -- a reply fits
      lawful' : IsLawful (setting_of {V = V} eq (low hash) s.mode s'.store.words.tables)
      lawful' = subst (λ y. IsLawful (setting_of {V = V} eq (low hash) y s'.store.words.tables)) x.mode (hashed_setting eq hash law s' core').lawful

      own_scanning : IsScanning eq hash s.mode s'.store own es (scan_trace (call_traces c))
      own_scanning = kept_scan.own_scanning eq hash law says hashes refuse s c s' event reply x as_hashed good.es good.call_traces good.core good.kept heard

      done : (call : Call K V A) → open_call schedule c h ≡ Some call → reply_in own.scanner.state ≡ Some Done → FitsDone eq call c later_history later_maps
      done call e over =
          let g' = setting_of eq (low hash) s.mode s'.store.words.tables in
          ends.scan_done eq (low hash) s.mode s'.store.words.tables says s'.store schedule own call c (scan_trace (call_traces c)) later_history later_maps (None ∷ good.answers) (own_tied call e) (run call_trace.begun first_state) lawful' (in_log, logged)
          (λ k p has. (ap (λ f. f k) (sym m_is) ∙ has, in_log k p has)) call x.before.scanner.scan (tied_before call e).scan (own_unchanged call e) own_scanning.shown
          (scan_over g' coding (run call_trace.begun first_state) (map_left g' call_trace.begun) (call_trace.since ++ made) x.before.scanner.scan (call_traces c).scan own.scanner.state own_scanning.relies.state over)

      fits : (o : Option (Call K V A)) → open_call schedule c later_history ≡ o → (rep : Reply) → reply ≡ Some rep → FitsOpen eq o rep c later_history later_maps
      fits None e rep some = tt
      fits (Some call) e rep some =
          let was = sym opened ∙ e in
          elim (scan_replies own.scanner.state (list_refusal x.ask x.answer) rep (sym x.reply_is ∙ some)) [
            | inl (is, over) ↦ subst (λ y. Fits eq call y c later_history later_maps) (sym is) (done call was over)
            | inr (refused, is) ↦
                subst (λ y. Fits eq call y c later_history later_maps) (sym is)
                (scan_refused eq call x.before.scanner.scan (change_of c later_history) (tied_before call was).scan (own_unchanged call was), λ nothing. absurd (refused_otherwise refused (some ∙ ap (λ y. Some y) is) nothing))
          ]

      -- or it replies
      replies_good : (rep : Reply) → reply ≡ Some rep → IsGood eq says hash schedule first start s' (entry turn c (Replied rep) ∷ later_history)
      replies_good rep some =
          let on = goes_on_good in
          let ne : (d : ℕ) (r : Running K V A) → running s'.callers d ≡ Some r → c ≢ d = λ d r now z. (runs_other d r now).0 (sym z) in
          record {
            es = es;
            call_traces = call_traces;
            maps = later_maps;
            answers = None ∷ None ∷ good.answers;
            core = core';
            kept = kept;
            timeline = ((λ j. refl, fits (open_call schedule c later_history) refl rep some), refl, timeline);
            logged = (in_log, on.logged);
            given = (λ call e asks. let f : false ≡ true = asks in absurd cc, on.given);
            left = λ d r call now e a had. inr (inr (ne d r now, on.left d r call now (sym (open_call-other schedule c d turn (Replied rep) later_history (ne d r now)) ∙ e) a had));
            resized = λ d z call now e.
                let apart : c ≢ d = λ y. (resizes_other d z now).0 (sym y) in
                let was = on.resized d z call now (sym (open_call-other schedule c d turn (Replied rep) later_history apart) ∙ e) in
                (was.0, change_of-other c d turn (Replied rep) later_history apart ∙ was.1);
            scanned = λ d v call now e. elim (scans_was d v now) [
              | inl (same, goes, is) ↦ (let f : Some rep ≡ None = sym some ∙ goes in absurd cc)
              | inr (differ, before) ↦
                  (let apart : c ≢ d = λ y. differ (sym y) in
                  scan_entry eq says schedule s'.store s'.store v call c d turn (Replied rep) (scan_trace (call_traces d)) later_history (replay eq es) (replay eq good.es ∷ good.maps) None (None ∷ good.answers) apart (λ n p there. there)
                  (ap (λ l. replay eq l) (sym (kept.scanners d v now).split)) keyed
                  (scanned d v call now (sym (open_call-other schedule c d turn (Replied rep) later_history apart) ∙ e)))
            ];
            kept_pairs = on.kept_pairs;
            fresh = (λ call began. tt, on.fresh);
            made_new = λ d r call now e q of_it. on.made_new d r call now (sym (open_call-other schedule c d turn (Replied rep) later_history (ne d r now)) ∙ e) q of_it;
            unused = λ d r now q of_it none. let u = unused d r now q of_it none in (u.0, u);
            tied = λ d r call now e.
                tied_entry eq s'.store s'.store r call c d turn (Replied rep) (call_traces d) later_history (replay eq es) later_maps None (None ∷ good.answers) refl (ne d r now)
                (tied d r call now (sym (open_call-other schedule c d turn (Replied rep) later_history (ne d r now)) ∙ e));
          }

    -- If its list could not grow, the answer did not reach it, and its call is over.
    module _ (deaf : kept_scan.Unheard eq hash law says hashes refuse s c s' event reply x as_hashed good.es good.call_traces good.core good.kept) where
      kept_deaf : IsConsistent eq hash s'.mode s'.store s'.callers good.es good.call_traces
      kept_deaf = kept_scan.unheard_kept eq hash law says hashes refuse s c s' event reply x as_hashed good.es good.call_traces good.core good.kept deaf

      abbrev deaf_history : History
      deaf_history = entry turn c event ∷ h

      abbrev newest : Map K V
      newest = replay eq good.es

      asked_give : x.ask ≡ Given (number_of deaf.giving.1)
      asked_give = same_item x.ask (Given (number_of deaf.giving.1)) (sym x.asked ∙ ap asks_in deaf.giving.2)

      is_other : event ≡ Other
      is_other = x.event_is ∙ ap (λ y. event_of_scan (kind_of_ask x.before.scanner) y x.answer) asked_give ∙ ap (event_of_scan (kind_of_ask x.before.scanner) (Given (number_of deaf.giving.1))) deaf.refused

      deaf_stay : KeepsPairs s.store s'.store
      deaf_stay n p there = ap (λ (y : StoreState K V S). pair_of y n) deaf.same ∙ there

      deaf_opened : open_call schedule c deaf_history ≡ open_call schedule c h
      deaf_opened = open_call-own schedule c turn event h ∙ ap (λ e. open_after e (begun_by (slice_get schedule turn)) (open_call schedule c h)) is_other

      deaf_keyed : IsKeyed eq newest
      deaf_keyed = replay_keyed eq (low hash) s.mode s.store.words.tables hashed.lawful good.es good.kept.allowed

      deaf_logged : AreInArena s'.store (newest ∷ good.maps)
      deaf_logged = logged_more s.store s'.store (newest ∷ good.maps) deaf_stay good.logged

      -- all others stay as they were
      tied_deaf : (d : ℕ) (r : Running K V A) (call : Call K V A) → running s'.callers d ≡ Some r → open_call schedule d deaf_history ≡ Some call → IsTied eq s'.store r call d (good.call_traces d) deaf_history (newest ∷ newest ∷ good.maps) (None ∷ good.answers)
      tied_deaf d r call now e =
          let (differ, before) = runs_other d r now in
          tied_entry eq s.store s'.store r call c d turn event (good.call_traces d) h newest (newest ∷ good.maps) None good.answers deaf.same (λ z. differ (sym z)) (good.tied d r call before (open_other d call event differ e))

      gone_on : (d : ℕ) (v : Scanning A) (rep : Reply) → reply ≡ Some rep → scanning s'.callers d ≡ Some v → (d ≢ c) × (scanning s.callers d ≡ Some v)
      gone_on d v rep some now = elim (scans_was d v now) [
        | inl (same, goes, is) ↦ (let f : Some rep ≡ None = sym some ∙ goes in absurd cc)
        | inr other ↦ other
      ]

      scanned_deaf : (d : ℕ) (v : Scanning A) (call : Call K V A) → (d ≢ c) × (scanning s.callers d ≡ Some v) → open_call schedule d deaf_history ≡ Some call → IsScanTied eq says s'.store schedule v call d (scan_trace (good.call_traces d)) deaf_history (newest ∷ newest ∷ good.maps) (None ∷ good.answers)
      scanned_deaf d v call (differ, before) e =
          scan_entry eq says schedule s.store s'.store v call c d turn event (scan_trace (good.call_traces d)) h newest good.maps None good.answers (λ z. differ (sym z)) deaf_stay
          (ap (λ l. replay eq l) (sym (good.kept.scanners d v before).split)) deaf_keyed (good.scanned d v call before (open_other d call event differ e))

      deaf_fits : (o : Option (Call K V A)) → open_call schedule c deaf_history ≡ o → (rep : Reply) → reply ≡ Some rep → FitsOpen eq o rep c deaf_history (newest ∷ newest ∷ good.maps)
      deaf_fits None e rep some = tt
      deaf_fits (Some call) e rep some =
          let was = sym deaf_opened ∙ e in
          let tied = good.scanned c x.before call x.was was in
          let replied : reply ≡ Some (Refused Memory) = kept_scan.unheard_reply eq hash law says hashes refuse s c s' event reply x as_hashed good.es good.call_traces good.core good.kept deaf in
          subst (λ y. Fits eq call y c deaf_history (newest ∷ newest ∷ good.maps)) (same_item (Refused Memory) rep (sym replied ∙ some))
          (scan_refused eq call x.before.scanner.scan (change_of c deaf_history) tied.scan (λ walks. change_of-own c turn event h ∙ ap (λ y. change_by y (change_of c h)) is_other ∙ tied.unchanged walks), λ nothing. absurd cc)

      deaf_good : (rep : Reply) → reply ≡ Some rep → IsGood eq says hash schedule first start s' (entry turn c (Replied rep) ∷ deaf_history)
      deaf_good rep some =
          let further : (d : ℕ) (call : Call K V A) → c ≢ d → open_call schedule d (entry turn c (Replied rep) ∷ deaf_history) ≡ Some call → open_call schedule d deaf_history ≡ Some call = λ d call ne e. sym (open_call-other schedule c d turn (Replied rep) deaf_history ne) ∙ e in
          let ne : (d : ℕ) (r : Running K V A) → running s'.callers d ≡ Some r → c ≢ d = λ d r now z. (runs_other d r now).0 (sym z) in
          record {
            es = good.es;
            call_traces = good.call_traces;
            maps = newest ∷ newest ∷ good.maps;
            answers = None ∷ None ∷ good.answers;
            core = core';
            kept = kept_deaf;
            timeline = ((λ j. refl, deaf_fits (open_call schedule c deaf_history) refl rep some), refl, (subst (λ e. IsLegal eq e schedule c h newest good.maps newest good.answers) (sym is_other) (λ j. refl), subst (λ e. IsAnsweredIn {V = V} e None) (sym is_other) refl, good.timeline));
            logged = (deaf_logged.0, (deaf_logged.0, deaf_logged));
            given = (
              λ call e asks. let f : false ≡ true = asks in absurd cc,
              (
                λ call e asks. let f : false ≡ true = ap asks_closure (sym is_other) ∙ asks in absurd cc,
                given_more says s.store s'.store deaf_stay schedule h good.answers good.given,
              ),
            );
            left = λ d r call now e a had.
                let (differ, before) = runs_other d r now in
                inr (inr (ne d r now, inr (inr (ne d r now, left_more says s.store s'.store deaf_stay schedule a d h good.answers (good.left d r call before (open_other d call event differ (further d call (ne d r now) e)) a had)))));
            resized = λ d z call now e.
                let (differ, before) = resizes_other d z now in
                let apart : c ≢ d = λ y. differ (sym y) in
                let was = good.resized d z call before (open_other d call event differ (further d call apart e)) in
                (was.0, change_of-other c d turn (Replied rep) deaf_history apart ∙ change_of-other c d turn event h apart ∙ was.1);
            scanned = λ d v call now e.
                let other = gone_on d v rep some now in
                let apart : c ≢ d = λ y. other.0 (sym y) in
                scan_entry eq says schedule s'.store s'.store v call c d turn (Replied rep) (scan_trace (good.call_traces d)) deaf_history newest (newest ∷ good.maps) None (None ∷ good.answers) apart (λ n p there. there)
                (ap (λ l. replay eq l) (sym (good.kept.scanners d v other.1).split)) deaf_keyed (scanned_deaf d v call other (further d call apart e));
            kept_pairs = λ n p there. deaf_stay n p (good.kept_pairs n p there);
            fresh = (λ call began. tt, (λ call began. subst (ComesNew first) (sym is_other) tt, good.fresh));
            made_new = λ d r call now e q of_it.
                let (differ, before) = runs_other d r now in
                good.made_new d r call before (open_other d call event differ (further d call (ne d r now) e)) q of_it;
            unused = λ d r now q of_it none. let u = good.unused d r (runs_other d r now).1 q of_it none in (u.0, (u.0, u));
            tied = λ d r call now e.
                tied_entry eq s'.store s'.store r call c d turn (Replied rep) (good.call_traces d) deaf_history newest (newest ∷ newest ∷ good.maps) None (None ∷ good.answers) refl (ne d r now)
                (tied_deaf d r call now (further d call (ne d r now) e));
          }

    -- both cases: the answer reached the scanner, or its list could not grow
    stepped : (o : Option Reply) → reply ≡ o → IsGood eq says hash schedule first start s' (with_step turn c event o h)
    stepped None is = elim (kept_scan.heard_so eq hash law says hashes refuse s c s' event reply x as_hashed good.es good.call_traces good.core good.kept) [
      | inl deaf ↦ (let f : None ≡ Some (Refused Memory) = sym is ∙ kept_scan.unheard_reply eq hash law says hashes refuse s c s' event reply x as_hashed good.es good.call_traces good.core good.kept deaf in absurd cc)
      | inr heard ↦ goes_on_good heard
    ]
    stepped (Some rep) is = elim (kept_scan.heard_so eq hash law says hashes refuse s c s' event reply x as_hashed good.es good.call_traces good.core good.kept) [
      | inl deaf ↦ deaf_good deaf rep is
      | inr heard ↦ replies_good heard rep is
    ]

  -- a step of a scanner keeps a good history
  pub good_scan : {says : Says K V A} {hashes : S → K → ℕ} (refuse : Bool) (schedule : List (Turn K V A)) (first : StoreState K V S) (start : Map K V) (s s' : CoreState K V S A) (h : History) (turn c : ℕ) (event : Event) (reply : Option Reply) → Scans eq says hashes refuse s c s' event reply → hashes s.store.hasher ≡ hash → IsCore s'.store s'.callers s'.mode → IsGood eq says hash schedule first start s h → IsGood eq says hash schedule first start s' (with_step turn c event reply h)
  good_scan refuse schedule first start s s' h turn c event reply x as_hashed core' good = stepped refuse schedule first start s s' h turn c event reply x as_hashed core' good reply refl
