-- A scan begins with the facts on which it relies, and keeps them after each step of another
-- caller.
use Rattle.std.proofs.Common.{◌≡◌, inl, inr, ⊎_elim, ℕ, Bool, Option, None, Some, List, [], ◌++◌, append-nil, sym, subst}
use Rattle.papaya_call.specs.declared.call.Reply.{Reply}
use Rattle.papaya_call.specs.Answers.{Says}
use Rattle.papaya_call.specs.ChainMachine.{after}
use Rattle.papaya_words_law.specs.Exchange.{Exchange}
use Rattle.papaya_core_store.specs.Store.{Stored}
use Rattle.papaya_core_timeline.specs.declared.trace.Event.{Event}
use Rattle.papaya_core_timeline.specs.Advances.{Advances, goes_on}
use Rattle.papaya_core_timeline.specs.Core.{CoreState, IsCore}
use Rattle.papaya_core_timeline.specs.Kept.{CallTrace, IsConsistent, IsScanning, ScanTrace, told_more}
use Rattle.papaya_core_timeline.specs.Resizes.{Resizes}
use Rattle.papaya_core_timeline.specs.Runs.{Steps}
use Rattle.papaya_core_timeline.specs.ScanGoes.{Scans}
use Rattle.papaya_core_timeline.proofs.KeptOthers as others
use Rattle.papaya_core_timeline.proofs.KeptResized as resized
use Rattle.papaya_core_timeline.proofs.KeptSettings.{IsLawfulKeys}
use Rattle.papaya_core_timeline.proofs.KeptStep as stepped
use Rattle.papaya_core_timeline.proofs.KeptScanned as scanned
use Rattle.papaya_core_store.specs.declared.scans.Scanning.{Scanning}
use Rattle.papaya_core_timeline.specs.Scans.{StaysBeside}

-- a call that continues is the one that was put back
gone_on : {R : Type 0} (reply : Option Reply) (r q : R) → goes_on reply r ≡ Some q → r ≡ q
gone_on None r q e = cc
gone_on (Some reply) r q e = let f : None ≡ Some q = e in cc

module _ {K V S A : Type 0} (eq : K → K → Bool) (hash : K → ℕ) (law : IsLawfulKeys eq hash) (says : Says K V A) (hashes : S → K → ℕ) (refuse : Bool)
    (s : CoreState K V S A) (caller : ℕ) (s' : CoreState K V S A) (event : Event) (reply : Option Reply) (hasher : hashes s.store.hasher ≡ hash)
    (core : IsCore s.store s.callers s.mode)
    (call_trace : ScanTrace K V) (call_traces : ℕ → CallTrace K V)
    (kept : IsConsistent eq hash s.mode s.store s.callers (call_trace.begun ++ call_trace.since) call_traces) (v : Scanning A)
    (scanning : IsScanning eq hash s.mode s.store v (call_trace.begun ++ call_trace.since) call_trace) where
  abbrev all : List (Exchange (Stored K V))
  all = call_trace.begun ++ call_trace.since

  -- a step of a call on one key
  call_beside : Advances eq says hashes refuse s caller s' event reply → StaysBeside eq hash s' all v call_trace
  call_beside a =
      let left = stepped.left eq hash law says hashes refuse s caller s' a.before a.answer a.later a.was a.performs hasher a.mode all call_traces core kept in
      let leaving = stepped.leaving eq hash law says hashes refuse s caller s' a.before a.answer a.later a.was a.performs hasher a.mode all
      call_traces core kept in
      record {
        made = left.made;
        call_traces = _;
        kept = stepped.step_kept eq hash law says hashes refuse s caller s' a.before a.answer a.later a.was a.performs hasher a.mode all call_traces
            core kept (goes_on reply (record a.later { machine = after a.before.machine a.answer })) a.callers
            (λ q e. gone_on reply (record a.later { machine = after a.before.machine a.answer }) q e);
        scanning = others.other_scanner eq hash law s caller s' a.mode all call_traces core kept left.made left.loaded leaving v call_trace scanning;
      }

  -- and of one that resizes the map
  resizer_beside : Resizes eq hashes refuse s caller s' event reply → StaysBeside eq hash s' all v call_trace
  resizer_beside x =
      let left = resized.left eq hash law refuse s caller s' event reply x hasher all call_traces core kept in
      record {
        made = left.made;
        call_traces = _;
        kept = resized.resize_kept eq hash law refuse s caller s' event reply x hasher all call_traces core kept;
        scanning = others.other_scanner eq hash law s caller s' x.mode all call_traces core kept left.made left.loaded'
            (resized.leaving eq hash law refuse s caller s' event reply x hasher all call_traces core kept) v call_trace scanning;
      }

  -- and of one that scans a table
  scan_beside : Scans eq says hashes refuse s caller s' event reply → StaysBeside eq hash s' all v call_trace
  scan_beside x =
      ⊎_elim
      (λ (u : scanned.Unheard eq hash law says hashes refuse s caller s' event reply x hasher all call_traces core kept).
      record {
        made = [];
        call_traces = call_traces;
        kept = subst (λ l. IsConsistent eq hash s'.mode s'.store s'.callers l call_traces) (sym (append-nil all))
            (scanned.unheard_kept eq hash law says hashes refuse s caller s' event reply x hasher all call_traces core kept u);
        scanning = told_nothing (subst (λ y. IsScanning eq hash y s'.store v all call_trace) (sym x.mode)
            (subst (λ y. IsScanning eq hash s.mode y v all call_trace) (sym u.same) scanning));
      })
      (λ (h : scanned.Heard eq hash law says hashes refuse s caller s' event reply x hasher all call_traces core kept).
      record {
        made = h.made;
        call_traces = _;
        kept = scanned.scan_kept eq hash law says hashes refuse s caller s' event reply x hasher all call_traces core kept h;
        scanning = subst (λ y. IsScanning eq hash y s'.store v (all ++ h.made) (told_more call_trace h.made call_trace.loaded)) (sym x.mode)
            (h.others v call_trace scanning);
      })
      (scanned.heard_so eq hash law says hashes refuse s caller s' event reply x hasher all call_traces core kept)
    where
      told_nothing : IsScanning eq hash s'.mode s'.store v all call_trace
          → IsScanning eq hash s'.mode s'.store v (all ++ []) (told_more call_trace [] call_trace.loaded)
      told_nothing h =
          subst (λ l. IsScanning eq hash s'.mode s'.store v l (told_more call_trace [] call_trace.loaded)) (sym (append-nil all))
          (subst (λ l. IsScanning eq hash s'.mode s'.store v all (record { begun = call_trace.begun; since = l; loaded = call_trace.loaded }))
          (sym (append-nil call_trace.since)) h)

  pub step_beside : Steps eq says hashes refuse s caller s' event reply → StaysBeside eq hash s' all v call_trace
  step_beside (inl a) = call_beside a
  step_beside (inr (inl x)) = resizer_beside x
  step_beside (inr (inr x)) = scan_beside x
