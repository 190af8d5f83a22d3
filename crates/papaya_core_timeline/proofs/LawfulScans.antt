-- A step of a call that scans a table, of a core whose invariant holds.
use Rattle.std.proofs.Common.{◌≡◌, inl, inr, ◌⊎◌, ℕ, Bool, true, IsSome, List, Option, None, Some, refl, sym, ◌∙◌, ap, subst}
use Rattle.std.specs.Cmp.{IsEquivalence}
use Rattle.papaya_words.specs.declared.refused.Refused.{Refused}
use Rattle.papaya_words.specs.declared.refused.Refused.TheVariants.{Memory}
use Rattle.papaya_call.specs.declared.call.Reply.{Reply}
use Rattle.papaya_call.specs.declared.call.Reply.TheVariants.{Refused as Reply_refused}
use Rattle.papaya_call.specs.Answers.{Says}
use Rattle.papaya_call.specs.declared.chain.ask.Answer.{Answer}
use Rattle.papaya_words_keys.specs.Hashes.{hash_of}
use Rattle.papaya_words_law.specs.Exchange.{Exchange, run, start}
use Rattle.papaya_words_law.specs.Meaning.{map_left}
use Rattle.papaya_words_law.proofs.Moments.{run-append}
use Rattle.papaya_core_store.specs.Store.{KeepsPairs, StoreState, Stored}
use Rattle.papaya_core_timeline.specs.declared.trace.Event.{Event}
use Rattle.papaya_core_timeline.specs.Callers.{scanning, with_work}
use Rattle.papaya_core_timeline.specs.Core.{CoreState}
use Rattle.papaya_core_timeline.specs.Counted.{IsCounted}
use Rattle.papaya_core_timeline.specs.Kept.{IsConsistent, IsLawfulCore, IsScanning, ScanTrace, coding_of, low, scan_trace, setting_of}
use Rattle.papaya_core_timeline.specs.Moves.{MovesMap}
use Rattle.papaya_core_timeline.specs.ScanGoes.{Scans, reply_or, list_refusal}
use Rattle.papaya_core_timeline.proofs.CallersLemmas.{idle-here}
use Rattle.papaya_core_timeline.proofs.CoreLemmas.{without-core}
use Rattle.papaya_core_timeline.proofs.CountedScanned.{counted_scan, scan_moves}
use Rattle.papaya_core_timeline.proofs.KeptCore.{keys_lawful}
use Rattle.papaya_core_timeline.proofs.KeptSettings.{IsLawfulKeys}
use Rattle.papaya_core_timeline.proofs.KeptScanned.{scanned-core, step_after, was_unheard, without_kept}
use Rattle.papaya_core_timeline.proofs.ScanLaw.{asks_so, heard}
use Rattle.papaya_call.specs.declared.chain.ask.ScanAsk.{ScanAsk}
use Rattle.papaya_call.specs.Scanner.{after, ask_of, reply_of}
use Rattle.papaya_call_law.specs.ScanOutcomes.{IsScanCause}
use Rattle.papaya_call_law.specs.ScanAnswers.{IsTrueOfScan, LoadedPairs}
use Rattle.papaya_call_law.proofs.ScanOutcomes.{state_why}
use Rattle.papaya_core_store.specs.declared.scans.Scanning.{Scanning}
use Rattle.papaya_core_store.specs.Scans.{PerformsScan}

-- the facts on which it relies give the cause of its refusal
module _ {K V S A : Type 0} (eq : K → K → Bool) (hash : K → ℕ) (s : CoreState K V S A) (v : Scanning A) (call_trace : ScanTrace K V) (a : Answer)
    (made : List (Exchange (Stored K V))) (loaded : LoadedPairs (Stored K V)) where
  cause_told : (es : List (Exchange (Stored K V))) → IsScanning eq hash s.mode s.store v es call_trace
      → IsTrueOfScan (setting_of eq (low hash) s.mode s.store.words.tables) (coding_of (low hash)) (run es start) call_trace.since v.scanner.state
      call_trace.loaded a made loaded → (refused : Refused) → reply_of (after v.scanner a) ≡ Some (Reply_refused refused) → IsScanCause v.scanner a refused
  cause_told es scanning told refused over =
      let g = setting_of eq (low hash) s.mode s.store.words.tables in
      let c = coding_of (low hash) in
      let same : run es start ≡ run call_trace.since (run call_trace.begun start) = ap (λ l. run l start) (sym scanning.split)
      ∙ run-append call_trace.begun call_trace.since start in
      state_why g c (run call_trace.begun start) (map_left g call_trace.begun) call_trace.since v.scanner call_trace.loaded a made loaded refused
      v.scanner.state
      (subst (λ w. IsTrueOfScan g c w call_trace.since v.scanner.state call_trace.loaded a made loaded) same told) refl over

module _ {K V S A H : Type 0} (eq : K → K → Bool) (input : K → List (List ℕ)) (build : S → H) (write : H → List ℕ → H) (finish : H → ℕ)
    (classes : IsEquivalence eq) (respects : (x y : K) → eq x y ≡ true → input x ≡ input y) (says : Says K V A) (refuse : Bool)
    (s : CoreState K V S A) (lawful : IsLawfulCore eq (hash_of input build write finish s.store.hasher) s.store s.callers s.mode) (caller : ℕ) where
  -- keys are hashed with the hasher, and the law holds for them
  abbrev hashes : S → K → ℕ
  hashes = hash_of input build write finish

  law : IsLawfulKeys eq (hashes s.store.hasher)
  law = keys_lawful eq input build write finish classes respects s.store.hasher

  -- a caller's scanner has an ask
  pub lawful_asks : (v : Scanning A) → scanning s.callers caller ≡ Some v → IsSome (ask_of v.scanner)
  lawful_asks v was =
      let (es, (call_traces, kept)) = lawful.law in
      asks_so eq (hashes s.store.hasher) s.mode s.store v es (scan_trace (call_traces caller)) (kept.scanners caller v was)
      (lawful.core.scanners caller v was).1

  -- why it ends refused
  pub lawful_scan_caused : (v : Scanning A) → scanning s.callers caller ≡ Some v → (ask : ScanAsk) → ask_of v.scanner ≡ Some ask
      → (a : Answer) (store' : StoreState K V S) (v' : Scanning A) → PerformsScan eq says hashes refuse ask s.store v a store' v' → (refused : Refused)
      → reply_or (list_refusal ask a) (reply_of (after v.scanner a)) ≡ Some (Reply_refused refused) → (list_refusal ask a ≡ Some refused)
      ⊎ IsScanCause v.scanner a refused
  lawful_scan_caused v was ask asks a store' v' performs refused e =
      let (es, (call_traces, kept)) = lawful.law in
      let told = kept.scanners caller v was in
      by_list (list_refusal ask a) refl e
      (elim (heard eq hashes says refuse (record s { callers = with_work s.callers caller None }) law
      (without-core s.store s.callers s.mode caller lawful.core) call_traces v (scan_trace (call_traces caller)) caller (idle-here s.callers caller) es
      (without_kept eq (hashes s.store.hasher) s caller es call_traces kept) told ask asks a store' v' performs) [
        | inl u ↦ (λ none over. let f : None ≡ Some Memory = sym none ∙ was_unheard s.store store' v a ask asks u in absurd cc)
        | inr h ↦ (λ none over. cause_told eq (hashes s.store.hasher) s v (scan_trace (call_traces caller)) a h.made h.loaded es told h.told refused over)
      ])
    where
      by_list : (o : Option Refused) → list_refusal ask a ≡ o → reply_or o (reply_of (after v.scanner a)) ≡ Some (Reply_refused refused)
          → (list_refusal ask a ≡ None → reply_of (after v.scanner a) ≡ Some (Reply_refused refused) → IsScanCause v.scanner a refused)
          → (list_refusal ask a ≡ Some refused) ⊎ IsScanCause v.scanner a refused
      by_list None none over why = inr (why none over)
      by_list (Some is) some over why = inl (some ∙ let same : is ≡ refused = cc in ap (λ y. Some y) same)

  module _ (s' : CoreState K V S A) (event : Event) (reply : Option Reply) (x : Scans eq says hashes refuse s caller s' event reply) where
    -- the core stays in order
    pub scan_lawful : IsLawfulCore eq (hashes s'.store.hasher) s'.store s'.callers s'.mode
    scan_lawful =
        let (es, (call_traces, kept)) = lawful.law in
        let then = step_after eq (hashes s.store.hasher) law says hashes refuse s caller s' event reply x refl es call_traces lawful.core kept in
        record {
          core = scanned-core eq (hashes s.store.hasher) law says hashes refuse s caller s' event reply x lawful.core;
          law = subst (λ y. (es : _) × ((call_traces : _) × IsConsistent eq (hashes y) s'.mode s'.store s'.callers es call_traces)) (sym then.hasher_is)
              (then.es_then, (then.call_traces_then, then.kept_after));
        }

    -- the count stays right, the map changes as the event describes, and every pair stays in the
    -- arena
    pub scan_counted : IsCounted eq s.store s.callers → IsCounted eq s'.store s'.callers
    scan_counted was =
        let (es, (call_traces, kept)) = lawful.law in
        counted_scan eq (hashes s.store.hasher) law says hashes refuse s caller s' event reply x refl es call_traces lawful.core kept was

    pub scan_moved : MovesMap eq s caller s' event
    scan_moved =
        let (es, (call_traces, kept)) = lawful.law in
        scan_moves eq (hashes s.store.hasher) law says hashes refuse s caller s' event reply x refl es call_traces lawful.core kept

    pub scan_keeps : KeepsPairs s.store s'.store
    scan_keeps =
        let (es, (call_traces, kept)) = lawful.law in
        (step_after eq (hashes s.store.hasher) law says hashes refuse s caller s' event reply x refl es call_traces lawful.core kept).keeps
