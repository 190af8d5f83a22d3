-- The count stays right after a step of a call that scans a table.
use Rattle.std.proofs.Common.{◌≡◌, inl, inr, ℕ, pos, ◌+ℤ◌, Bool, List, Option, Some, None, refl, sym, ◌∙◌, ap, subst, arith}
use Rattle.std.proofs.lemmas.Int.{ints}
use Rattle.std.specs.Int.{w64, int_wrap}
use Rattle.papaya_words.specs.Word.{pair_of}
use Rattle.papaya_call.specs.declared.call.Reply.{Reply}
use Rattle.papaya_call.specs.declared.copy_ask.CopyAsk.{CopyAsk}
use Rattle.papaya_call.specs.Answers.{Says}
use Rattle.papaya_call.specs.declared.chain.ask.Answer.{Answer}
use Rattle.papaya_call.specs.Resizer as resizers
use Rattle.papaya_words_law.specs.Code.{Coding}
use Rattle.papaya_words_law.specs.Exchange.{Setting, State as Words, Exchange, run, start}
use Rattle.papaya_core_store.specs.Store.{StoreState, Stored}
use Rattle.papaya_core_timeline.specs.declared.seat.Seat.{Seat}
use Rattle.papaya_core_timeline.specs.declared.seat.Work.TheVariants as works
use Rattle.papaya_core_timeline.specs.declared.trace.Event.{Event}
use Rattle.papaya_core_timeline.specs.declared.trace.Event.TheVariants.{Begun, Changed, Moved, Asked, Shown, Gave, Other, Replied}
use Rattle.papaya_core_timeline.specs.Advances.{goes_on}
use Rattle.papaya_core_timeline.specs.Callers.{working}
use Rattle.papaya_core_timeline.specs.Content.{map_in}
use Rattle.papaya_core_timeline.specs.Core.{CoreState, IsCore}
use Rattle.papaya_core_timeline.specs.Counted.{IsCounted, owed_in, owed_scan, owed_work}
use Rattle.papaya_core_timeline.specs.Kept.{CallTrace, IsConsistent, coding_of, low, scan_trace, setting_of}
use Rattle.papaya_core_timeline.specs.Moves.{MovesMap}
use Rattle.papaya_core_timeline.specs.ScanGoes.{Scans, event_of_scan, reply_or, list_refusal}
use Rattle.papaya_core_timeline.specs.Scans.{IsCountedBeside, MovesByScan}
use Rattle.papaya_core_timeline.proofs.CallersLemmas.{same_item, scanner-under_way}
use Rattle.papaya_core_timeline.proofs.CountedSeats.{owed-with_work}
use Rattle.papaya_core_timeline.proofs.IntentScans.{takes_told}
use Rattle.papaya_core_timeline.proofs.KeptSettings.{IsLawfulKeys}
use Rattle.papaya_core_timeline.proofs.KeptScanned as scanned
use Rattle.papaya_core_timeline.proofs.ScanLaw.{counted, tells}
use Rattle.papaya_core_timeline.proofs.ScanStands.{scan_core}
use Rattle.papaya_call.specs.declared.chain.ask.ScanAsk.{ScanAsk}
use Rattle.papaya_call.specs.declared.chain.ask.ScanAsk.TheVariants.{Copy, Given}
use Rattle.papaya_call.specs.declared.chain.scanner.ScannerState.{ScannerState}
use Rattle.papaya_call.specs.declared.chain.scanner.ScannerState.TheVariants.{Copying, AtRoot, Sizing, Looking, Giving, Showing, Burying, Uncounting, Done, Refused}
use Rattle.papaya_call.specs.Scanner.{asks_in, copy_asks, kind_of_ask, reply_in, reply_of}
use Rattle.papaya_call_law.specs.ScanAnswers as told_by
use Rattle.papaya_call_law.specs.ScanAnswers.{IsTrueOfScan}
use Rattle.papaya_core_store.specs.declared.scans.Scanning.{Scanning}

-- a scanner that has ended owes nothing
ended_owes : (state : ScannerState) (reply : Reply) → reply_in state ≡ Some reply → owed_scan state ≡ pos 0
ended_owes Done reply e = refl
ended_owes (Refused refused) reply e = refl
ended_owes (Copying stage) reply e = let f : None ≡ Some reply = e in absurd cc
ended_owes AtRoot reply e = let f : None ≡ Some reply = e in absurd cc
ended_owes (Sizing table) reply e = let f : None ≡ Some reply = e in absurd cc
ended_owes (Looking spot) reply e = let f : None ≡ Some reply = e in absurd cc
ended_owes (Giving spot word) reply e = let f : None ≡ Some reply = e in absurd cc
ended_owes (Showing spot word) reply e = let f : None ≡ Some reply = e in absurd cc
ended_owes (Burying spot word) reply e = let f : None ≡ Some reply = e in absurd cc
ended_owes (Uncounting spot) reply e = let f : None ≡ Some reply = e in absurd cc

-- a scan that continues owes what its scanner owes
goes_owes : (K V : Type 0) {A : Type 0} (reply : Option Reply) (v : Scanning A) → reply ≡ reply_of v.scanner
    → owed_work {K = K} {V = V} (goes_on reply (works.Scan v)) ≡ owed_scan v.scanner.state
goes_owes K V None v is = refl
goes_owes K V (Some reply) v is = sym (ended_owes v.scanner.state reply (sym is))

-- an answer to an ask of the copy is no refusal of a list
copy_heard : (o : Option CopyAsk) (ask : ScanAsk) (a : Answer) → copy_asks o ≡ Some ask → list_refusal ask a ≡ None
copy_heard None ask a e = let f : None ≡ Some ask = e in absurd cc
copy_heard (Some is) ask a e = ap (λ y. list_refusal y a) (sym (same_item (Copy is) ask e))

module _ {K V : Type 0} (g : Setting K (Stored K V)) (c : Coding K (Stored K V)) (w : Words (Stored K V)) (since : List (Exchange (Stored K V)))
    (loaded : told_by.LoadedPairs (Stored K V)) (a : Answer) (made : List (Exchange (Stored K V))) (loaded' : told_by.LoadedPairs (Stored K V))
    (ask : ScanAsk) where
  pub was_heard : (state : ScannerState) → IsTrueOfScan g c w since state loaded a made loaded' → asks_in state ≡ Some ask → list_refusal ask a ≡ None
  was_heard (Copying stage) h e = copy_heard (resizers.asks_in stage) ask a e
  was_heard AtRoot h e = ap (λ y. list_refusal y a) (sym (same_item _ ask e))
  was_heard (Sizing table) h e = ap (λ y. list_refusal y a) (sym (same_item _ ask e))
  was_heard (Looking spot) h e = ap (λ y. list_refusal y a) (sym (same_item _ ask e))
  was_heard (Giving spot word) h e = ap (λ y. list_refusal y a) (sym (same_item (Given (pair_of word)) ask e)) ∙ ap (list_refusal (Given (pair_of word))) h.is
  was_heard (Showing spot word) h e = ap (λ y. list_refusal y a) (sym (same_item _ ask e))
  was_heard (Burying spot word) h e = ap (λ y. list_refusal y a) (sym (same_item _ ask e))
  was_heard (Uncounting spot) h e = ap (λ y. list_refusal y a) (sym (same_item _ ask e))
  was_heard Done h e = let f : None ≡ Some ask = e in absurd cc
  was_heard (Refused refused) h e = let f : None ≡ Some ask = e in absurd cc

module _ {K V S A : Type 0} (eq : K → K → Bool) (hash : K → ℕ) (law : IsLawfulKeys eq hash) (says : Says K V A) (hashes : S → K → ℕ) (refuse : Bool)
    (s : CoreState K V S A) (caller : ℕ) (s' : CoreState K V S A) (event : Event) (reply : Option Reply)
    (x : Scans eq says hashes refuse s caller s' event reply) (hasher : hashes s.store.hasher ≡ hash)
    (es : List (Exchange (Stored K V))) (call_traces : ℕ → CallTrace K V) (core : IsCore s.store s.callers s.mode)
    (kept : IsConsistent eq hash s.mode s.store s.callers es call_traces) where
  abbrev bare : CoreState K V S A
  bare = scanned.bare eq hash law says hashes refuse s caller s' event reply x

  abbrev own : Scanning A
  own = scanned.own eq hash law says hashes refuse s caller s' event reply x

  abbrev pub Heard : Type 0
  Heard = scanned.Heard eq hash law says hashes refuse s caller s' event reply x hasher es call_traces core kept

  abbrev pub Unheard : Type 0
  Unheard = scanned.Unheard eq hash law says hashes refuse s caller s' event reply x hasher es call_traces core kept

  -- the work that was under way
  was_working : working s.callers caller ≡ Some (works.Scan x.before)
  was_working = scanner-under_way (working s.callers caller) x.before x.was

  -- the core with the call taken out stays in order
  bare_core' : IsCore s'.store bare.callers bare.mode
  bare_core' =
      let bare_core = scanned.bare_core eq hash law says hashes refuse s caller s' event reply x hasher es call_traces core kept in
      (scan_core eq says hashes refuse s.store bare.callers s.mode bare_core x.before (core.scanners caller x.before x.was).0 x.answer s'.store
      x.later x.ask x.asked x.performs).0

  -- the amount owed by the others, and by this call
  owed_before : owed_in bare.callers +ℤ owed_scan x.before.scanner.state ≡ owed_in s.callers
  owed_before =
      let was = owed-with_work s.callers caller (works.Scan x.before) was_working None in
      omega (arith, ints, was)

  owed_after : owed_in s'.callers ≡ owed_in bare.callers +ℤ owed_work {K = K} {V = V} (goes_on reply (works.Scan own))
  owed_after =
      let was = owed-with_work s.callers caller (works.Scan x.before) was_working (goes_on reply (works.Scan own)) in
      let before = owed_before in
      ap (λ (l : List (Seat K V A)). owed_in l) x.callers ∙ omega (arith, ints, was, before)

  pub heard_reply : Heard → reply ≡ reply_of own.scanner
  heard_reply h =
      x.reply_is ∙ ap (λ o. reply_or o (reply_of own.scanner))
      (was_heard (setting_of eq (low hash) s.mode s.store.words.tables) (coding_of (low hash)) (run es start) (call_traces caller).since
      (call_traces caller).scan x.answer h.made h.loaded x.ask x.before.scanner.state h.told x.asked)

  counted_heard : Heard → IsCounted eq s.store s.callers → IsCounted eq s'.store s'.callers
  counted_heard h was =
      let goes = goes_owes K V reply own (heard_reply h) in
      let bare_core = scanned.bare_core eq hash law says hashes refuse s caller s' event reply x hasher es call_traces core kept in
      let bare_kept = scanned.bare_kept eq hash law says hashes refuse s caller s' event reply x hasher es call_traces core kept in
      let scanning = scanned.before_scanning eq hash law says hashes refuse s caller s' event reply x hasher es call_traces core kept in
      let beside : IsCountedBeside eq s.store bare.callers x.before.scanner.state = ap (λ z. int_wrap w64 (s.store.count.sum +ℤ z)) owed_before ∙ was in
      ap (λ z. int_wrap w64 (s'.store.count.sum +ℤ z)) (owed_after ∙ ap (λ z. owed_in bare.callers +ℤ z) goes)
      ∙ counted eq hash bare law bare_core call_traces x.before (scan_trace (call_traces caller)) caller x.answer s'.store x.later bare_core' es
      bare_kept scanning h beside

  -- if its list could not grow, the count stays right
  counted_unheard : Unheard → IsCounted eq s.store s.callers → IsCounted eq s'.store s'.callers
  counted_unheard u was =
      let over = scanned.unheard_reply eq hash law says hashes refuse s caller s' event reply x hasher es call_traces core kept u in
      let gone : owed_work {K = K} {V = V} (goes_on reply (works.Scan own)) ≡ pos 0 = ap (λ o. owed_work {K = K} {V = V} (goes_on o (works.Scan own))) over in
      let giving : owed_scan x.before.scanner.state ≡ pos 0 = ap owed_scan u.giving.2 in
      let after_it = owed_after in
      let before = owed_before in
      let same : owed_in s'.callers ≡ owed_in s.callers = omega (arith, ints, gone, giving, after_it, before) in
      subst (λ (y : StoreState K V S). IsCounted eq y s'.callers) (sym u.same)
      (ap (λ z. int_wrap w64 (s.store.count.sum +ℤ z)) same ∙ was)

  pub counted_scan : IsCounted eq s.store s.callers → IsCounted eq s'.store s'.callers
  counted_scan was = elim (scanned.heard_so eq hash law says hashes refuse s caller s' event reply x hasher es call_traces core kept)
      [ inl u ↦ counted_unheard u was | inr h ↦ counted_heard h was ]

  -- how the event of the step describes the change of the map
  pub heard_moves : Heard → MovesByScan eq s.store s'.store x.before.scanner.scan (call_traces caller).scan.shown event
  heard_moves h =
      let bare_core = scanned.bare_core eq hash law says hashes refuse s caller s' event reply x hasher es call_traces core kept in
      let bare_kept = scanned.bare_kept eq hash law says hashes refuse s caller s' event reply x hasher es call_traces core kept in
      let scanning = scanned.before_scanning eq hash law says hashes refuse s caller s' event reply x hasher es call_traces core kept in
      subst (MovesByScan eq s.store s'.store x.before.scanner.scan (call_traces caller).scan.shown) (sym x.event_is)
      (tells eq hash bare law bare_core call_traces x.before (scan_trace (call_traces caller)) caller x.answer s'.store x.later bare_core' es
      bare_kept scanning h x.ask x.asked)

  -- if its list could not grow, the event of the step is `Other`
  pub unheard_event : Unheard → event ≡ Other
  unheard_event u =
      let gave = Given (pair_of u.giving.1) in
      x.event_is ∙ ap (λ y. event_of_scan (kind_of_ask x.before.scanner) y x.answer) (sym (same_item gave x.ask (ap asks_in (sym u.giving.2) ∙ x.asked)))
      ∙ ap (event_of_scan (kind_of_ask x.before.scanner) gave) u.refused

  by_event : (e : Event) → event ≡ e → MovesByScan eq s.store s'.store x.before.scanner.scan (call_traces caller).scan.shown e → MovesMap eq s caller s' e
  by_event (Changed kind old new) is (p, update, no_walk, agreed, went, came) = inr (record {
    scanner = x.before;
    is_scanning = x.was;
    no_walk = no_walk;
    pair = p;
    update = update;
    went_is = went;
    came_is = came;
    intended = λ retains. (
      retains,
      takes_told x.before.scanner.state x.ask x.asked x.answer kind p.number new
          (sym x.event_is ∙ is ∙ ap (λ o. Changed kind o new) went),
    );
  })
  by_event Begun is same = same
  by_event (Moved kind) is same = same
  by_event (Asked n stays) is same = same
  by_event (Shown shown kind) is same = same
  by_event (Gave n) is same = same
  by_event Other is same = same
  by_event (Replied reply) is same = same

  pub scan_moves : MovesMap eq s caller s' event
  scan_moves = elim (scanned.heard_so eq hash law says hashes refuse s caller s' event reply x hasher es call_traces core kept) [
    | inl u ↦ subst (MovesMap eq s caller s') (sym (unheard_event u)) (λ j. ap (λ (y : StoreState K V S). map_in eq y j) u.same)
    | inr h ↦ by_event event refl (heard_moves h)
  ]
