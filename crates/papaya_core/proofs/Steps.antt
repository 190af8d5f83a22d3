-- One step of the work under way leaves a core lawful and counted, and is a step of a caller.
use Rattle.std.proofs.Common.{◌≡◌, inl, inr, Bool, ℕ, false, true, List, Option, None, Some, refl, sym, ◌∙◌, ap, subst}
use Rattle.std.specs.Cmp.{IsEquivalence}
use Rattle.papaya_call.specs.declared.call.Reply.{Reply}
use Rattle.papaya_call.specs.Answers.{Says}
use Rattle.papaya_call.specs.declared.chain.resizer.Resizer.{Resizer}
use Rattle.papaya_call.specs.declared.chain.resizer.ResizerState.{ResizerState as Stage}
use Rattle.papaya_call.specs.declared.chain.resizer.ResizerState.TheVariants as stages
use Rattle.papaya_call.specs.ChainMachine.{ask_of}
use Rattle.papaya_call.specs.Resizer as resizer
use Rattle.papaya_words_law.specs.Exchange.{run, start}
use Rattle.papaya_core_store.specs.declared.pairs.Running.{Running}
use Rattle.papaya_core_store.specs.Store.{KeepsPairs}
use Rattle.papaya_words_keys.specs.Hashes.{hash_of}
use Rattle.papaya_core_timeline.specs.declared.seat.Work.{Work}
use Rattle.papaya_core_timeline.specs.declared.seat.Work.TheVariants as works
use Rattle.papaya_core_timeline.specs.declared.trace.Event.{Event}
use Rattle.papaya_core_timeline.specs.Advances.{AddsToShard, Advances}
use Rattle.papaya_core_timeline.specs.Callers.{call_in, resizer_in, running, scanner_in, scanning, with_work, working}
use Rattle.papaya_core_timeline.specs.Core.{CoreState}
use Rattle.papaya_core_timeline.specs.Counted.{IsCounted}
use Rattle.papaya_core_timeline.specs.Kept.{IsConsistent, IsLawfulCore, coding_of, low, setting_of}
use Rattle.papaya_core_timeline.specs.Intends.{KeepsIntents}
use Rattle.papaya_core_timeline.specs.Moves.{MovesMap}
use Rattle.papaya_core_timeline.specs.Resizes.{Resizes}
use Rattle.papaya_core_timeline.specs.Runs.{Steps}
use Rattle.papaya_core_timeline.proofs.CallersLemmas.{same_item}
use Rattle.papaya_core_timeline.proofs.CountedLemmas.{counted_step}
use Rattle.papaya_core_timeline.proofs.CountedResized.{counted_resize}
use Rattle.papaya_core_timeline.proofs.HeadlineLemmas.{advance-core, lawful_keeps, lawful_moves, lawful_resizes, resize-core}
use Rattle.papaya_core_timeline.proofs.IntentSteps.{call_kept, resizer_kept, scanner_kept}
use Rattle.papaya_core_timeline.proofs.KeptCore.{keys_lawful, lawful_caused, step_lawful}
use Rattle.papaya_core_timeline.proofs.KeptResized.{left, resize_kept, stage_left}
use Rattle.papaya_core_timeline.proofs.ResizerLaws.{resizer_refused}
use Rattle.papaya_core_timeline.specs.ScanGoes.{Scans}
use Rattle.papaya_core_timeline.proofs.LawfulScans.{lawful_asks, lawful_scan_caused, scan_counted, scan_keeps, scan_lawful, scan_moved}
use Rattle.papaya_call.specs.declared.chain.ask.ScanAsk.TheVariants as scan_asks
use Rattle.papaya_call.specs.Scanner as scanner
use Rattle.papaya_core_store.specs.declared.scans.Scanning.{Scanning}
use Rattle.papaya_core.specs.Goes.{CallGoes, IsValidWork, ResizerGoes, ScanGoes, WorkGoes}

-- a resizer that has not ended has an ask
pub unended_asks : (stage : Stage) → resizer.reply_in stage ≡ None → resizer.asks_in stage ≡ None → ⊥
unended_asks stages.Done going none = absurd cc
unended_asks (stages.Refused refused) going none = absurd cc
unended_asks stage going none = absurd cc

-- the work that a caller has under way is valid, and has not ended
pub work_stands : {K V S A H : Type 0} (eq : K → K → Bool) (input : K → List (List ℕ)) (build : S → H) (write : H → List ℕ → H) (finish : H → ℕ)
    (classes : IsEquivalence eq) (respects : (x y : K) → eq x y ≡ true → input x ≡ input y) (says : Says K V A) (s : CoreState K V S A)
    → IsLawfulCore eq (hash_of input build write finish s.store.hasher) s.store s.callers s.mode → (caller : ℕ) (work : Work K V A)
    → working s.callers caller ≡ Some work → IsValidWork work
work_stands eq input build write finish classes respects says s lawful caller (works.Call r) was = lawful.core.valid caller r (ap call_in was)
work_stands eq input build write finish classes respects says s lawful caller (works.Resize z) was = lawful.core.resizers caller z (ap resizer_in was)
work_stands eq input build write finish classes respects says s lawful caller (works.Scan v) was = (
  (lawful.core.scanners caller v (ap scanner_in was)).0,
  lawful_asks eq input build write finish classes respects says false s lawful caller v (ap scanner_in was),
)

module _ {K V S A H : Type 0} (eq : K → K → Bool) (input : K → List (List ℕ)) (build : S → H) (write : H → List ℕ → H) (finish : H → ℕ)
    (classes : IsEquivalence eq) (respects : (x y : K) → eq x y ≡ true → input x ≡ input y) (says : Says K V A) (refuse : Bool)
    (s : CoreState K V S A) (caller : ℕ) (s' : CoreState K V S A) (event : Event) (reply : Option Reply) where
  -- keys are hashed with the hasher
  abbrev hashes : S → K → ℕ
  hashes = hash_of input build write finish

  -- the facts about the core after the step
  pub record IsSound : Type 0 where
    pub steps : Steps eq says hashes refuse s caller s' event reply
    pub lawful : IsLawfulCore eq (hashes s'.store.hasher) s'.store s'.callers s'.mode
    pub counted : IsCounted eq s'.store s'.callers
    pub moves : MovesMap eq s caller s' event
    pub intents : KeepsIntents says s caller s' event
    pub keeps : KeepsPairs s.store s'.store
    pub shard : AddsToShard s caller s'

  module _ (lawful : IsLawfulCore eq (hashes s.store.hasher) s.store s.callers s.mode) (counted : IsCounted eq s.store s.callers)
      (rest : Option (Work K V A)) (callers : s'.callers ≡ with_work s.callers caller rest) (mode : s'.mode ≡ s.mode) (initial : s'.initial ≡ s.initial) where
    -- for a call on one key
    call_sound : (before : Running K V A) → working s.callers caller ≡ Some (works.Call before)
        → CallGoes eq says hashes refuse s.store caller s'.store event reply rest before → IsSound
    call_sound before was goes =
        let (es, (call_traces, kept)) = lawful.law in
        let law = keys_lawful eq input build write finish classes respects s.store.hasher in
        let runs : running s.callers caller ≡ Some before = ap call_in was in
        let x : Advances eq says hashes refuse s caller s' event reply = record {
          before = before;
          was = runs;
          answer = goes.answer;
          later = goes.later;
          performs = goes.performs;
          machine = goes.machine;
          event_is = goes.event_is;
          reply_is = goes.reply_is;
          callers = callers ∙ ap (with_work s.callers caller) goes.work_is;
          mode = mode;
          initial = initial;
          cause = λ refused e. lawful_caused eq input build write finish classes respects says refuse s lawful caller before runs goes.answer s'.store
              goes.later goes.performs refused (sym goes.reply_is ∙ e);
        } in
        let core' = advance-core eq says hashes refuse s caller s' event reply x lawful.core in
        record {
          steps = inl x;
          lawful = step_lawful eq input build write finish classes respects refuse s caller s' event reply x core' lawful;
          counted = counted_step eq (hashes s.store.hasher) law refuse s caller s' event reply x refl es call_traces lawful.core core' kept counted;
          moves = lawful_moves eq input build write finish classes respects says refuse s s' caller event reply lawful x;
          intents = call_kept eq input build write finish classes respects says refuse s lawful caller s' event reply x;
          keeps = lawful_keeps eq input build write finish classes respects says refuse s s' caller event reply lawful x;
          shard = record {
            call = λ r by is asks. goes.shard by (ap (λ (o : Running K V A). ask_of o.machine) (same_item before r (sym runs ∙ is)) ∙ asks);
            scan = λ v by is asks. let f : None ≡ Some v = sym (ap scanner_in was) ∙ is in absurd cc;
          };
        }

    -- for a call that resizes the map
    resizer_sound : (before : Resizer) → working s.callers caller ≡ Some (works.Resize before)
        → ResizerGoes eq hashes refuse s.store s'.store event reply rest before → IsSound
    resizer_sound before was goes =
        let (es, (call_traces, kept)) = lawful.law in
        let law = keys_lawful eq input build write finish classes respects s.store.hasher in
        let now = kept.resizers caller before (ap resizer_in was) in
        let told = stage_left eq (hashes s.store.hasher) law hashes refuse s es (call_traces caller) lawful.core before refl kept.allowed kept.coded
        kept.made kept.hints now before.state refl goes.ask goes.asked goes.answer s'.store goes.performs in
        let x : Resizes eq hashes refuse s caller s' event reply = record {
          before = before;
          was = ap resizer_in was;
          ask = goes.ask;
          asked = goes.asked;
          answer = goes.answer;
          performs = goes.performs;
          event_is = goes.event_is;
          reply_is = goes.reply_is;
          callers = callers ∙ ap (with_work s.callers caller) goes.work_is;
          mode = mode;
          initial = initial;
          cause = λ refused e. resizer_refused (setting_of eq (low (hashes s.store.hasher)) s.mode s.store.words.tables)
              (coding_of (low (hashes s.store.hasher))) (run es start) before (call_traces caller).loaded now.relies goes.answer told.made told.loaded'
              told.told refused (sym goes.reply_is ∙ e);
        } in
        let core' = resize-core eq hashes refuse s caller s' event reply x lawful.core in
        let moved = lawful_resizes eq input build write finish classes respects refuse s s' caller event reply lawful x in
        record {
          steps = inr (inl x);
          lawful = record {
            core = core';
            law = subst (λ y. (es : _) × ((call_traces : _) × IsConsistent eq (hashes y) s'.mode s'.store s'.callers es call_traces))
                (sym (left eq (hashes s.store.hasher) law refuse s caller s' event reply x refl es call_traces lawful.core kept).hasher_is)
                (_, (_, resize_kept eq (hashes s.store.hasher) law refuse s caller s' event reply x refl es call_traces lawful.core kept));
          };
          counted = counted_resize eq (hashes s.store.hasher) law refuse s caller s' event reply x refl es call_traces lawful.core core' kept counted;
          moves = moved.0;
          intents = resizer_kept eq input build write finish classes respects says refuse s lawful caller s' event reply x;
          keeps = moved.1;
          shard = record {
            call = λ r by is asks. let f : None ≡ Some r = sym (ap call_in was) ∙ is in absurd cc;
            scan = λ v by is asks. let f : None ≡ Some v = sym (ap scanner_in was) ∙ is in absurd cc;
          };
        }

    -- for a call that scans a table
    scanner_sound : (before : Scanning A) → working s.callers caller ≡ Some (works.Scan before)
        → ScanGoes eq says hashes refuse s.store caller s'.store event reply rest before → IsSound
    scanner_sound before was goes =
        let scans : scanning s.callers caller ≡ Some before = ap scanner_in was in
        let x : Scans eq says hashes refuse s caller s' event reply = record {
          before = before;
          was = scans;
          ask = goes.ask;
          asked = goes.asked;
          answer = goes.answer;
          later = goes.later;
          performs = goes.performs;
          event_is = goes.event_is;
          reply_is = goes.reply_is;
          callers = callers ∙ ap (with_work s.callers caller) goes.work_is;
          mode = mode;
          initial = initial;
          cause = λ refused e. lawful_scan_caused eq input build write finish classes respects says refuse s lawful caller before scans goes.ask
              goes.asked goes.answer s'.store goes.later goes.performs refused (sym goes.reply_is ∙ e);
        } in
        record {
          steps = inr (inr x);
          lawful = scan_lawful eq input build write finish classes respects says refuse s lawful caller s' event reply x;
          counted = scan_counted eq input build write finish classes respects says refuse s lawful caller s' event reply x counted;
          moves = scan_moved eq input build write finish classes respects says refuse s lawful caller s' event reply x;
          intents = scanner_kept eq input build write finish classes respects says refuse s lawful caller s' event reply x;
          keeps = scan_keeps eq input build write finish classes respects says refuse s lawful caller s' event reply x;
          shard = record {
            call = λ r by is asks. let f : None ≡ Some r = sym (ap call_in was) ∙ is in absurd cc;
            scan = λ v by is asks. goes.shard by (same_item goes.ask (scan_asks.AddToShard by)
                (sym goes.asked ∙ ap (λ (o : Scanning A). scanner.ask_of o.scanner) (same_item before v (sym scans ∙ is)) ∙ asks));
          };
        }

    -- for any work under way
    pub work_sound : (work : Work K V A) → working s.callers caller ≡ Some work
        → WorkGoes eq says hashes refuse s.store caller s'.store event reply rest work → IsSound
    work_sound (works.Call before) was goes = call_sound before was goes
    work_sound (works.Resize before) was goes = resizer_sound before was goes
    work_sound (works.Scan before) was goes = scanner_sound before was goes
