-- After a step of a call that scans a table the words of a core obey the law of exchanges.
use Rattle.std.proofs.Common.{◌≡◌, ◌≢◌, inl, inr, ◌⊎◌, ℕ, ◌==◌, Bool, cond, List, ◌++◌, Option, Some, None, refl, sym, ◌∙◌, ap, subst, eq-eqb}
use Rattle.papaya_words.specs.declared.refused.Refused.TheVariants.{Memory}
use Rattle.papaya_call.specs.declared.ask.Answer.TheVariants.{Refused as Was_refused}
use Rattle.papaya_call.specs.declared.call.Reply.{Reply}
use Rattle.papaya_call.specs.declared.call.Reply.TheVariants.{Refused as Reply_refused}
use Rattle.papaya_call.specs.Answers.{Says}
use Rattle.papaya_call.specs.declared.chain.ask.Answer.{Answer}
use Rattle.papaya_call.specs.declared.chain.ask.Answer.TheVariants as answers
use Rattle.papaya_call.specs.declared.chain.resizer.Resizer.{Resizer}
use Rattle.papaya_words_law.specs.Exchange.{Exchange}
use Rattle.papaya_core_store.specs.declared.pairs.Running.{Running}
use Rattle.papaya_core_store.specs.Store.{KeepsPairs, StoreState, Stored}
use Rattle.papaya_core_timeline.specs.declared.seat.Seat.{Seat}
use Rattle.papaya_core_timeline.specs.declared.seat.Work.{Work}
use Rattle.papaya_core_timeline.specs.declared.seat.Work.TheVariants as works
use Rattle.papaya_core_timeline.specs.declared.trace.Event.{Event}
use Rattle.papaya_core_timeline.specs.Advances.{goes_on}
use Rattle.papaya_core_timeline.specs.Callers.{call_in, resizer_in, resizing, running, scanner_in, scanning, with_work, working}
use Rattle.papaya_core_timeline.specs.Core.{CoreState, IsCore}
use Rattle.papaya_core_timeline.specs.Kept.{CallTrace, IsCall, IsConsistent, IsResizing, IsScanning, ScanTrace}
use Rattle.papaya_core_timeline.specs.Kept.{scan_trace, scanned_call_traces, told_call_traces, told_more}
use Rattle.papaya_core_timeline.specs.ScanGoes.{Scans, reply_or, list_refusal}
use Rattle.papaya_core_timeline.specs.Scans.{IsScanAnswered, IsListRefused}
use Rattle.papaya_core_timeline.proofs.CallersLemmas.{call-under_way, differs, either_way, idle-here}
use Rattle.papaya_core_timeline.proofs.CallersLemmas.{left-working, resizer-under_way}
use Rattle.papaya_core_timeline.proofs.CallersLemmas.{resizing-elsewhere, resizing-here}
use Rattle.papaya_core_timeline.proofs.CallersLemmas.{running-elsewhere, running-here, same_item}
use Rattle.papaya_core_timeline.proofs.CallersLemmas.{scanner-under_way, scanning-elsewhere}
use Rattle.papaya_core_timeline.proofs.CallersLemmas.{scanning-here}
use Rattle.papaya_core_timeline.proofs.CoreLemmas.{cases_same, with_work-core, without-core}
use Rattle.papaya_core_timeline.proofs.KeptSettings.{IsLawfulKeys}
use Rattle.papaya_core_timeline.proofs.ScanKept.{scan_heard}
use Rattle.papaya_core_timeline.proofs.ScanStands.{scan_core}
use Rattle.papaya_call.specs.declared.chain.ask.ScanAsk.{ScanAsk}
use Rattle.papaya_call.specs.declared.chain.ask.ScanAsk.TheVariants.{Given}
use Rattle.papaya_call.specs.Scanner.{IsValidScanner, after, ask_of, asks_in, reply_of}
use Rattle.papaya_words.specs.Word.{pair_of}
use Rattle.papaya_call_law.specs.ScanAnswers as scans
use Rattle.papaya_core_store.specs.declared.scans.Scanning.{Scanning}

-- a scanner that continues is the one that was put back, and nothing else
pub goes_on-scan : {K V A : Type 0} (reply : Option Reply) (u v : Scanning A) (w : Work K V A) → w ≡ works.Scan u
    → goes_on reply w ≡ Some (works.Scan v) → (reply ≡ None) × (u ≡ v)
goes_on-scan None u v w is e = (refl, same_item u v (ap (λ (y : Work _ _ _). scanner_in (Some y)) (sym is) ∙ ap scanner_in e))
goes_on-scan (Some reply) u v w is e = let f : None ≡ Some v = ap scanner_in e in absurd cc

pub scan_no-call : {K V A : Type 0} (reply : Option Reply) (u : Scanning A) (r : Running K V A) (w : Work K V A) → w ≡ works.Scan u
    → goes_on reply w ≡ Some (works.Call r) → ⊥
scan_no-call None u r w is e = let f : None ≡ Some r = ap (λ (y : Work _ _ _). call_in (Some y)) (sym is) ∙ ap call_in e in absurd cc
scan_no-call (Some reply) u r w is e = let f : None ≡ Some r = ap call_in e in absurd cc

pub scan_no-resizer : {K V A : Type 0} (reply : Option Reply) (u : Scanning A) (z : Resizer) (w : Work K V A) → w ≡ works.Scan u
    → goes_on reply w ≡ Some (works.Resize z) → ⊥
scan_no-resizer None u z w is e = let f : None ≡ Some z = ap (λ (y : Work _ _ _). resizer_in (Some y)) (sym is) ∙ ap resizer_in e in absurd cc
scan_no-resizer (Some reply) u z w is e = let f : None ≡ Some z = ap resizer_in e in absurd cc

-- if the answer did not reach the scanner, the call has replied
module _ {K V S A : Type 0} (store store' : StoreState K V S) (v : Scanning A) (answer : Answer) (ask : ScanAsk) (asked : ask_of v.scanner ≡ Some ask)
    (u : IsListRefused store v answer store') where
  gave : Some (Given (pair_of u.giving.1)) ≡ Some ask
  gave = ap asks_in (sym u.giving.2) ∙ asked

  pub was_unheard : list_refusal ask answer ≡ Some Memory
  was_unheard = ap (λ a. list_refusal ask a) u.refused
      ∙ ap (λ a. list_refusal a (answers.Call (Was_refused Memory))) (sym (same_item (Given (pair_of u.giving.1)) ask gave))

-- all others rely on the same facts after a caller's call is taken out
module _ {K V S A : Type 0} (eq : K → K → Bool) (hash : K → ℕ) (s : CoreState K V S A) (caller : ℕ) (es : List (Exchange (Stored K V)))
    (call_traces : ℕ → CallTrace K V) (kept : IsConsistent eq hash s.mode s.store s.callers es call_traces) where
  abbrev fewer : List (Seat K V A)
  fewer = with_work s.callers caller None

  -- the work that a caller has under way then, it had before
  left_call : (d : ℕ) (r : Running K V A) → running fewer d ≡ Some r → running s.callers d ≡ Some r
  left_call d r e = ap call_in (left-working s.callers caller d (works.Call r) (call-under_way (working fewer d) r e)).1

  left_resizer : (d : ℕ) (z : Resizer) → resizing fewer d ≡ Some z → resizing s.callers d ≡ Some z
  left_resizer d z e = ap resizer_in (left-working s.callers caller d (works.Resize z) (resizer-under_way (working fewer d) z e)).1

  left_scanner : (d : ℕ) (v : Scanning A) → scanning fewer d ≡ Some v → scanning s.callers d ≡ Some v
  left_scanner d v e = ap scanner_in (left-working s.callers caller d (works.Scan v) (scanner-under_way (working fewer d) v e)).1

  pub without_kept : IsConsistent eq hash s.mode s.store fewer es call_traces
  without_kept = record {
    allowed = kept.allowed;
    coded = kept.coded;
    hints = kept.hints;
    made = kept.made;
    logged = kept.logged;
    few = kept.few;
    tables_few = kept.tables_few;
    calls = λ d r e. kept.calls d r (left_call d r e);
    resizers = λ d z e. kept.resizers d z (left_resizer d z e);
    scanners = λ d v e. kept.scanners d v (left_scanner d v e);
    apart = λ d e r q runs_d runs_e. kept.apart d e r q (left_call d r runs_d) (left_call e q runs_e);
  }

module _ {K V S A : Type 0} (eq : K → K → Bool) (hash : K → ℕ) (law : IsLawfulKeys eq hash) (says : Says K V A) (hashes : S → K → ℕ) (refuse : Bool)
    (s : CoreState K V S A) (caller : ℕ) (s' : CoreState K V S A) (event : Event) (reply : Option Reply)
    (x : Scans eq says hashes refuse s caller s' event reply) where
  -- the core with the caller's call taken out
  abbrev pub bare : CoreState K V S A
  bare = record s { callers = with_work s.callers caller None }

  -- the scanner that continues
  abbrev pub own : Scanning A
  own = record x.later { scanner = after x.before.scanner x.answer }

  -- the work that continues
  abbrev work : Option (Work K V A)
  work = goes_on reply (works.Scan own)

  -- the core after the step
  pub scanned-core : IsCore s.store s.callers s.mode → IsCore s'.store s'.callers s'.mode
  scanned-core core =
      let was = core.scanners caller x.before x.was in
      let then = scan_core eq says hashes refuse s.store s.callers s.mode core x.before was.0 x.answer s'.store x.later x.ask x.asked x.performs in
      subst (λ y. IsCore s'.store s'.callers y) (sym x.mode)
      (subst (λ (y : List (Seat K V A)). IsCore s'.store y s.mode) (sym x.callers)
      (with_work-core s'.store s.callers s.mode caller work then.0
      (λ r e. absurd (scan_no-call reply own r _ refl e))
      (λ z e. absurd (scan_no-resizer reply own z _ refl e))
      (λ v e. let is = goes_on-scan reply own v _ refl e in
      subst (λ (y : Scanning A). IsValidScanner y.scanner × (reply_of y.scanner ≡ None)) is.1
      (then.2, no_reply (list_refusal x.ask x.answer) (reply_of own.scanner) (sym x.reply_is ∙ is.0)))))
    where
      no_reply : (o : Option _) (r : Option Reply) → reply_or o r ≡ None → r ≡ None
      no_reply None r e = e
      no_reply (Some refused) r e = let f : Some (Reply_refused refused) ≡ None = e in absurd cc

  module _ (hasher : hashes s.store.hasher ≡ hash) (es : List (Exchange (Stored K V))) (call_traces : ℕ → CallTrace K V)
      (core : IsCore s.store s.callers s.mode) (kept : IsConsistent eq hash s.mode s.store s.callers es call_traces) where
    pub bare_core : IsCore bare.store bare.callers bare.mode
    bare_core = without-core s.store s.callers s.mode caller core

    pub bare_kept : IsConsistent eq hash bare.mode bare.store bare.callers es call_traces
    bare_kept = without_kept eq hash s caller es call_traces kept

    -- the facts on which it relies
    abbrev pub call_trace : ScanTrace K V
    call_trace = scan_trace (call_traces caller)

    pub before_scanning : IsScanning eq hash s.mode s.store x.before es call_trace
    before_scanning = kept.scanners caller x.before x.was

    -- its list could not grow
    abbrev pub Unheard : Type 0
    Unheard = IsListRefused s.store x.before x.answer s'.store

    abbrev pub Heard : Type 0
    Heard = IsScanAnswered eq hash bare caller es call_traces x.before call_trace x.answer s'.store x.later

    pub heard_so : Unheard ⊎ Heard
    heard_so =
        subst (λ l. IsConsistent eq hash bare.mode bare.store bare.callers l call_traces → IsScanning eq hash s.mode s.store x.before l call_trace → Unheard
        ⊎ IsScanAnswered eq hash bare caller l call_traces x.before call_trace x.answer s'.store x.later) before_scanning.split
        (λ k w. scan_heard eq hash law says hashes refuse bare bare_core hasher caller (idle-here s.callers caller) call_trace call_traces k x.before
        w x.ask x.asked x.answer s'.store x.later x.performs)
        bare_kept before_scanning

    -- if its list could not grow, its call is over, and all others rely on the same facts
    pub unheard_reply : Unheard → reply ≡ Some (Reply_refused Memory)
    unheard_reply u = x.reply_is ∙ ap (λ o. reply_or o (reply_of own.scanner)) (was_unheard s.store s'.store x.before x.answer x.ask x.asked u)

    pub unheard_kept : Unheard → IsConsistent eq hash s'.mode s'.store s'.callers es call_traces
    unheard_kept u =
        let over : s'.callers ≡ bare.callers = x.callers ∙ ap (λ o. with_work s.callers caller (goes_on o (works.Scan own))) (unheard_reply u) in
        subst (λ y. IsConsistent eq hash y s'.store s'.callers es call_traces) (sym x.mode)
        (subst (λ (y : List (Seat K V A)). IsConsistent eq hash s.mode s'.store y es call_traces) (sym over)
        (subst (λ (y : StoreState K V S). IsConsistent eq hash s.mode y bare.callers es call_traces) (sym u.same) bare_kept))

    module _ (h : Heard) where
      -- the exchanges and the traces after it
      abbrev pub es' : List (Exchange (Stored K V))
      es' = es ++ h.made

      abbrev pub told : ℕ → CallTrace K V
      told = told_call_traces call_traces caller h.made (call_traces caller).loaded

      abbrev pub call_traces' : ℕ → CallTrace K V
      call_traces' = scanned_call_traces call_traces caller h.made h.loaded

      -- the trace of a scan does not matter to a call on one key
      same_call : (r : Running K V A) (t : CallTrace K V) (loaded : scans.LoadedPairs (Stored K V)) → IsCall eq hash s.mode s'.store r es' t
          → IsCall eq hash s.mode s'.store r es' (record t { scan = loaded })
      same_call r t loaded o = record {
        key = o.key;
        own = o.own;
        answers = o.answers;
        split = o.split;
        relies = o.relies;
        last = o.last;
        carried = o.carried;
        made = o.made;
        opens = o.opens;
        links = o.links;
        unwritten = o.unwritten;
        shows = o.shows;
        valued = o.valued;
        again = o.again;
      }

      same_resizer : (z : Resizer) (t : CallTrace K V) (loaded : scans.LoadedPairs (Stored K V)) → IsResizing eq hash s.mode s'.store z es' t
          → IsResizing eq hash s.mode s'.store z es' (record t { scan = loaded })
      same_resizer z t loaded o = record { relies = o.relies; last = o.last; carried = o.carried; opens = o.opens; links = o.links }

      -- the callers at that point
      abbrev callers' : List (Seat K V A)
      callers' = with_work s.callers caller work

      other_runs : (d : ℕ) (r : Running K V A) → d ≢ caller → running callers' d ≡ Some r → running bare.callers d ≡ Some r
      other_runs d r differ e = running-elsewhere s.callers caller d None differ ∙ sym (running-elsewhere s.callers caller d work differ) ∙ e

      runs : (d : ℕ) (r : Running K V A) → running callers' d ≡ Some r → running bare.callers d ≡ Some r
      runs d r e = elim (cases_same d caller) [
        | inl same ↦ absurd (scan_no-call reply own r _ refl (running-here s.callers caller work r (ap (running callers') (sym same) ∙ e)))
        | inr differ ↦ other_runs d r differ e
      ]

      resizes : (d : ℕ) (z : Resizer) → resizing callers' d ≡ Some z → resizing bare.callers d ≡ Some z
      resizes d z e = elim (cases_same d caller) [
        | inl same ↦ absurd (scan_no-resizer reply own z _ refl (resizing-here s.callers caller work z (ap (resizing callers') (sym same) ∙ e)))
        | inr differ ↦ resizing-elsewhere s.callers caller d None differ ∙ sym (resizing-elsewhere s.callers caller d work differ) ∙ e
      ]

      -- the scanner's own trace
      own_loaded : (d : ℕ) → d ≡ caller → h.loaded ≡ (call_traces' d).scan
      own_loaded d same = sym (ap (λ b. cond b h.loaded (call_traces d).scan) (eq-eqb d caller same))

      other_loaded : (d : ℕ) → d ≢ caller → (call_traces d).scan ≡ (call_traces' d).scan
      other_loaded d differ = sym (ap (λ b. cond b h.loaded (call_traces d).scan) (differs d caller differ))

      pub own_scanning : IsScanning eq hash s.mode s'.store own es' (scan_trace (call_traces' caller))
      own_scanning = subst (λ y. IsScanning eq hash s.mode s'.store own es' (told_more call_trace h.made y)) (own_loaded caller refl) h.scanning

      scanners : (d : ℕ) (v : Scanning A) → scanning callers' d ≡ Some v → IsScanning eq hash s.mode s'.store v es' (scan_trace (call_traces' d))
      scanners d v e = elim (cases_same d caller) [
        | inl same ↦
            let is = goes_on-scan reply own v _ refl (scanning-here s.callers caller work v (ap (scanning callers') (sym same) ∙ e)) in
            subst (λ y. IsScanning eq hash s.mode s'.store v es' (scan_trace (call_traces' y))) (sym same)
            (subst (λ (y : Scanning A). IsScanning eq hash s.mode s'.store y es' (scan_trace (call_traces' caller))) is.1 own_scanning)
        | inr differ ↦
            subst (λ y. IsScanning eq hash s.mode s'.store v es' (told_more (scan_trace (call_traces d)) h.made y)) (other_loaded d differ)
            (h.kept.scanners d v (scanning-elsewhere s.callers caller d None differ ∙ sym (scanning-elsewhere s.callers caller d work differ) ∙ e))
      ]

      kept_then : IsConsistent eq hash s.mode s'.store callers' es' call_traces'
      kept_then = record {
        allowed = h.kept.allowed;
        coded = h.kept.coded;
        hints = h.kept.hints;
        made = h.kept.made;
        logged = h.kept.logged;
        few = h.kept.few;
        tables_few = h.kept.tables_few;
        calls = λ d r e. same_call r (told d) (call_traces' d).scan (h.kept.calls d r (runs d r e));
        resizers = λ d z e. same_resizer z (told d) (call_traces' d).scan (h.kept.resizers d z (resizes d z e));
        scanners = scanners;
        apart = λ d e r q runs_d runs_e. h.kept.apart d e r q (runs d r runs_d) (runs e q runs_e);
      }

      -- the core after the step
      pub scan_kept : IsConsistent eq hash s'.mode s'.store s'.callers es' call_traces'
      scan_kept =
          subst (λ y. IsConsistent eq hash y s'.store s'.callers es' call_traces') (sym x.mode)
          (subst (λ (y : List (Seat K V A)). IsConsistent eq hash s.mode s'.store y es' call_traces') (sym x.callers) kept_then)

    -- the effect of the step on the facts on which all rely
    pub record IsAfter : Type 0 where
      pub es_then : List (Exchange (Stored K V))
      pub call_traces_then : ℕ → CallTrace K V
      pub kept_after : IsConsistent eq hash s'.mode s'.store s'.callers es_then call_traces_then
      pub keeps : KeepsPairs s.store s'.store
      pub hasher_is : s'.store.hasher ≡ s.store.hasher
      pub pairs_are : s'.store.pairs ≡ s.store.pairs
      -- a call that scans a table makes no pair
      pub own_made : (call_traces_then caller).loaded ≡ (call_traces caller).loaded

    pub step_after : IsAfter
    step_after = elim heard_so [
      | inl u ↦ record {
        es_then = es;
        call_traces_then = call_traces;
        kept_after = unheard_kept u;
        keeps = subst (λ (y : StoreState K V S). KeepsPairs s.store y) (sym u.same) (λ n p e. e);
        hasher_is = ap (λ (y : StoreState K V S). y.hasher)
            u.same;
        pairs_are = ap (λ (y : StoreState K V S). y.pairs) u.same;
        own_made = refl;
      }
      | inr h ↦ record {
        es_then = es' h;
        call_traces_then = call_traces' h;
        kept_after = scan_kept h;
        keeps = h.keeps;
        hasher_is = h.hasher;
        pairs_are = h.pairs;
        own_made = either_way (caller == caller) (call_traces caller).loaded;
      }
    ]
