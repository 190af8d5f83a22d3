-- A call that scans a table and is made alone comes nearer its end with each step.
use Rattle.std.proofs.Common.{◌≡◌, inl, inr, ℕ, ◌<◌, Bool, true, None, Some, List, refl, sym, ◌∙◌, ap, subst}
use Rattle.std.specs.Cmp.{IsEquivalence}
use Rattle.papaya_words.specs.declared.refused.Refused.TheVariants.{Memory}
use Rattle.papaya_call.specs.declared.call.Reply.TheVariants.{Refused as Reply_refused}
use Rattle.papaya_call.specs.Answers.{Says}
use Rattle.papaya_words_keys.specs.Hashes.{hash_of}
use Rattle.papaya_core_store.specs.Tables.{word_at}
use Rattle.papaya_core_timeline.specs.declared.seat.Seat.{Seat}
use Rattle.papaya_core_timeline.specs.declared.seat.Work.TheVariants as works
use Rattle.papaya_core_timeline.specs.declared.trace.Event.{Event}
use Rattle.papaya_core_timeline.specs.Callers.{scanning, with_work}
use Rattle.papaya_core_timeline.specs.Core.{CoreState}
use Rattle.papaya_core_timeline.specs.Ends.{budget_of}
use Rattle.papaya_core_timeline.specs.Kept.{IsLawfulCore, scan_trace}
use Rattle.papaya_core_timeline.specs.Resized.{IsLoneScanner, IsNearerScanned, lone_scanner_measure}
use Rattle.papaya_core_timeline.specs.ScanGoes.{Scans}
use Rattle.papaya_core_timeline.proofs.CallersLemmas.{same_item}
use Rattle.papaya_core_timeline.proofs.KeptCore.{keys_lawful}
use Rattle.papaya_core_timeline.proofs.KeptSettings.{IsLawfulKeys}
use Rattle.papaya_core_timeline.proofs.KeptScanned as step
use Rattle.papaya_core_timeline.proofs.LawfulScans.{scan_lawful}
use Rattle.papaya_core_timeline.proofs.ScanLaw.{nears}
use Rattle.papaya_call.specs.Scanner.{after}
use Rattle.papaya_call_alone.specs.Scanners.{IsScannerRead, scanner_measure}
use Rattle.papaya_core_store.specs.declared.scans.Scanning.{Scanning}

module _ {K V S A H : Type 0} (eq : K → K → Bool) (input : K → List (List ℕ)) (build : S → H) (write : H → List ℕ → H) (finish : H → ℕ)
    (classes : IsEquivalence eq) (respects : (x y : K) → eq x y ≡ true → input x ≡ input y) (says : Says K V A) (refuse : Bool)
    (s s' : CoreState K V S A) (event : Event) where
  -- keys are hashed with the hasher, and the law holds for them
  abbrev hashes : S → K → ℕ
  hashes = hash_of input build write finish

  law : IsLawfulKeys eq (hashes s.store.hasher)
  law = keys_lawful eq input build write finish classes respects s.store.hasher

  -- the scanner that is alone is the one that steps
  is_before : (v : Scanning A) → IsLoneScanner eq hashes s v → (x : Scans eq says hashes refuse s 0 s' event None) → v ≡ x.before
  is_before v lone x = same_item v x.before (sym (ap (λ (l : List (Seat K V A)). scanning l 0) lone.callers) ∙ x.was)

  module _ (x : Scans eq says hashes refuse s 0 s' event None) (lawful : IsLawfulCore eq (hashes s.store.hasher) s.store s.callers s.mode)
      (read : IsScannerRead (word_at s.store.words) x.before.scanner) where
    -- A word that it has read is unchanged, and the measure has fallen. It relies on its record in
    -- the core without its own call. If its list could not grow, it has replied.
    nearer : IsScannerRead (word_at s'.store.words) (after x.before.scanner x.answer)
        × (scanner_measure (budget_of s'.store) (word_at s'.store.words) (after x.before.scanner x.answer) < scanner_measure (budget_of s.store)
        (word_at s.store.words) x.before.scanner)
    nearer =
        let (es, (call_traces, kept)) = lawful.law in
        elim (step.heard_so eq (hashes s.store.hasher) law says hashes refuse s 0 s' event None x refl es call_traces lawful.core kept) [
          | inl u ↦ let none : None ≡ Some (Reply_refused Memory) = step.unheard_reply eq (hashes s.store.hasher) law says hashes refuse s 0 s' event
              None x refl es call_traces lawful.core kept u in absurd cc
          | inr h ↦
              nears eq hashes says refuse (step.bare eq (hashes s.store.hasher) law says hashes refuse s 0 s' event None x) law
              (step.bare_core eq (hashes s.store.hasher) law says hashes refuse s 0 s' event None x refl es call_traces lawful.core kept)
              call_traces x.before (scan_trace (call_traces 0)) (lawful.core.scanners 0 x.before x.was).0 read x.ask x.asked x.answer s'.store x.later
              x.performs 0 es
              (step.bare_kept eq (hashes s.store.hasher) law says hashes refuse s 0 s' event None x refl es call_traces lawful.core kept)
              (step.before_scanning eq (hashes s.store.hasher) law says hashes refuse s 0 s' event None x refl es call_traces lawful.core kept) h
        ]

  -- a step brings it nearer its end
  pub scanner_nears : (v : Scanning A) → IsLoneScanner eq hashes s v → Scans eq says hashes refuse s 0 s' event None → IsNearerScanned eq hashes s v s'
  scanner_nears v lone x =
      let is = is_before v lone x in
      let later : Scanning A = record x.later { scanner = after x.before.scanner x.answer } in
      let out = nearer x lone.lawful (subst (λ (y : Scanning A). IsScannerRead (word_at s.store.words) y.scanner) is lone.read) in
      record {
        later = later;
        lone = record {
          callers = x.callers ∙ ap (λ (l : List (Seat K V A)). with_work l 0 (Some (works.Scan later))) lone.callers;
          lawful = scan_lawful eq input build write finish classes respects says refuse s lone.lawful 0 s' event None x;
          read = out.0;
        };
        less = subst (λ y. lone_scanner_measure s' later < lone_scanner_measure s y) (sym is) out.1;
      }
