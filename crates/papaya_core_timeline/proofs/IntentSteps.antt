-- A step gives the work under way no other intent than the result of a closure in that step.
use Rattle.std.proofs.Common.{◌≡◌, ◌⊎◌, inl, inr, ⊎_elim, ℕ, Bool, true, Option, None, Some, List, refl, sym, ◌∙◌, ap, subst}
use Rattle.std.specs.Cmp.{IsEquivalence}
use Rattle.papaya_call.specs.declared.ask.Ask.TheVariants.{ShowNone}
use Rattle.papaya_call.specs.declared.ask.Answer.TheVariants.{Made as Made_number}
use Rattle.papaya_call.specs.declared.call.Reply.{Reply}
use Rattle.papaya_call.specs.declared.call.Task.TheVariants.{Compute}
use Rattle.papaya_call.specs.Answers.{Says}
use Rattle.papaya_call.specs.declared.answers.Operation.{Operation}
use Rattle.papaya_call.specs.declared.answers.Operation.TheVariants as ops
use Rattle.papaya_call.specs.declared.chain.ask.Ask.TheVariants as asks
use Rattle.papaya_call.specs.declared.chain.ask.Answer.TheVariants as told_to
use Rattle.papaya_call.specs.ChainMachine.{after, ask_of, kind_of_ask}
use Rattle.papaya_call.specs.Resizer as resizer
use Rattle.papaya_call.specs.Scanner as scanner
use Rattle.papaya_call.specs.declared.chain.machine.Machine.{Machine}
use Rattle.papaya_call_law.specs.Goes.{IsInOrder}
use Rattle.papaya_call_law.proofs.Goes.{machine_goes}
use Rattle.papaya_call_law.proofs.Replies.{chain_said, chain_task}
use Rattle.papaya_words_law.specs.Exchange.{Exchange}
use Rattle.papaya_call_law.specs.Relies.{ReliesFill, ReliesOf}
use Rattle.papaya_call_law.specs.TrueAnswers.{IsOneOf}
use Rattle.papaya_core_store.specs.declared.pairs.Running.{Running}
use Rattle.papaya_core_store.specs.declared.scans.Scanning.{Scanning}
use Rattle.papaya_core_store.specs.Store.{KeepsPairs, StoreState, Stored, pair_of}
use Rattle.papaya_core_timeline.specs.declared.seat.Seat.{Seat}
use Rattle.papaya_core_timeline.specs.declared.seat.Work.{Work}
use Rattle.papaya_core_timeline.specs.declared.seat.Work.TheVariants as works
use Rattle.papaya_core_timeline.specs.declared.trace.Event.{Event}
use Rattle.papaya_core_timeline.specs.Advances.{Advances, goes_on}
use Rattle.papaya_core_timeline.specs.Callers.{as_work, call_in, running, with_work, working}
use Rattle.papaya_core_timeline.specs.Core.{CoreState, IsCore}
use Rattle.papaya_core_timeline.specs.Intends.{AnswersNow, Intends, KeepsIntents}
use Rattle.papaya_core_timeline.specs.Kept.{CallTrace, IsConsistent, IsLawfulCore, coding_of, low, setting_of}
use Rattle.papaya_core_timeline.specs.Resizes.{Resizes}
use Rattle.papaya_core_timeline.specs.ScanGoes.{Scans}
use Rattle.papaya_core_timeline.proofs.AdvanceLemmas as advance
use Rattle.papaya_core_timeline.proofs.CallersLemmas.{call-under_way, resizer-under_way, same_item, scanner-under_way, working-other, working-same}
use Rattle.papaya_core_timeline.proofs.ChainLemmas.{own_asks}
use Rattle.papaya_core_timeline.proofs.CoreLemmas.{cases_same}
use Rattle.papaya_core_timeline.proofs.Intents.{HasLogged, call_intends, stands_own, still_intends}
use Rattle.papaya_core_timeline.proofs.IntentScans.{scan_intends}
use Rattle.papaya_core_timeline.proofs.HeadlineLemmas.{advance-core, lawful_resizes}
use Rattle.papaya_core_timeline.proofs.KeptCore.{keys_lawful}
use Rattle.papaya_core_timeline.proofs.KeptLemmas.{IsLawfulKeys, IsStep, kept_step}
use Rattle.papaya_core_timeline.proofs.LawfulScans.{scan_keeps}
use Rattle.papaya_words_keys.specs.Hashes.{hash_of}
use Rattle.papaya_core_timeline.proofs.MachineLemmas.{machine_offers}
use Rattle.papaya_core_timeline.proofs.StepTells.{answering as answered_by}
use Rattle.papaya_core_timeline.proofs.TellLemmas.{IsAnswering}
use Rattle.papaya_core_timeline.proofs.TiedLemmas.{HasMoreLogs, KeepsParts, grown, same_parts}
use Rattle.papaya_core_store.specs.Performs.{own_value}
use Rattle.papaya_core_timeline.proofs.MadePairs.{MakesOver}
use Rattle.papaya_core_timeline.proofs.GoodScanFits.{scan_pairs}
use Rattle.papaya_core_timeline.proofs.StoreLemmas.{copy_pairs}

module _ {K V S A : Type 0} (eq : K → K → Bool) (hash : K → ℕ) (s : CoreState K V S A) (es : List (Exchange (Stored K V)))
    (call_traces : ℕ → CallTrace K V) (kept : IsConsistent eq hash s.mode s.store s.callers es call_traces) where
  -- the pairs of a call are stored in the arena
  call_logged : (d : ℕ) (r : Running K V A) → running s.callers d ≡ Some r → HasLogged s.store r
  call_logged d r runs =
      let call = kept.calls d r runs in
      let loaded = (call_traces d).loaded.call in
      let g = setting_of eq (low hash) s.mode s.store.words.tables in
      let c = coding_of (low hash) in
      let logged : (n : ℕ) → ((q : Stored K V) × IsOneOf loaded.made q × (q.number ≡ n)) → (q : Stored K V) × (pair_of s.store n ≡ Some q) =
      λ n own. (own.0, subst (λ i. pair_of s.store i ≡ Some own.0) own.2 (call.made own.0 own.1)) in
      record {
        made = λ n is. elim is [
          | inl own ↦ (let (q, one, number, key) = subst (ReliesFill g c (call_traces d).begun (call_traces d).since call.key loaded) own
              call.relies.call.made.own_is in logged n (q, one, number))
          | inr (of, is_of, same) ↦ (let (q, one, number, key) = subst (ReliesOf g c (call_traces d).begun (call_traces d).since call.key loaded)
              is_of call.relies.call.made.of_is in logged n (q, one, number ∙ same))
        ];
        valued = call.valued;
        stood = λ shown n stands. logged n (stands_own g c (call_traces d).begun (call_traces d).since call.key r.machine.call loaded call.relies.call
            shown n stands);
      }

  -- a longer arena gives no intent to the work under way
  work_still : (store' : StoreState K V S) → KeepsPairs s.store store' → KeepsParts s.store store' → (d : ℕ) (work : Work K V A)
      → working s.callers d ≡ Some work → (shown : Option ℕ) (op : Operation V ℕ) → Intends store' work shown op → Intends s.store work shown op
  work_still store' stay parts d (works.Call r) was shown op h = still_intends s.store store' stay parts.values r (call_logged d r (ap call_in was)) shown op h
  work_still store' stay parts d (works.Resize z) was shown op h = absurd h
  work_still store' stay parts d (works.Scan v) was (Some n) op h = by_operation op h
    where
      by_operation : (op : Operation V ℕ) → Intends store' (works.Scan v) (Some n) op → Intends s.store (works.Scan v) (Some n) op
      by_operation ops.Remove h = h
      by_operation (ops.Insert w) h = absurd h
      by_operation (ops.Abort t) h = absurd h
  work_still store' stay parts d (works.Scan v) was None op h = absurd h

  -- so it suffices to consider the caller that makes the step
  keeps : {says : Says K V A} (caller : ℕ) (s' : CoreState K V S A) (event : Event) (work : Work K V A) (rest : Option (Work K V A))
      → working s.callers caller ≡ Some work → s'.callers ≡ with_work s.callers caller rest → KeepsPairs s.store s'.store → KeepsParts s.store s'.store
      → ((later : Work K V A) → rest ≡ Some later → (shown : Option ℕ) (op : Operation V ℕ) → Intends s'.store later shown op
      → Intends s.store work shown op ⊎ AnswersNow says s'.store event work shown op) → KeepsIntents says s caller s' event
  keeps caller s' event work rest was callers stay parts own d later now = elim (cases_same d caller) [
    | inl same ↦
        let put : rest ≡ Some later = working-same s.callers caller rest later
        (ap (λ (y : List (Seat K V A)). working y caller) (sym callers) ∙ ap (working s'.callers) (sym same) ∙ now) in
        (work, ap (working s.callers) same ∙ was, λ shown op h. ⊎_elim (λ before. inl before) (λ answers. inr (same, answers)) (own later put shown op h))
    | inr differ ↦
        let before : working s.callers d ≡ Some later = sym (working-other s.callers caller d rest differ)
        ∙ ap (λ (y : List (Seat K V A)). working y d) (sym callers) ∙ now in
        (later, before, λ shown op h. inl (work_still s'.store stay parts d later before shown op h))
  ]

module _ {K V S A : Type 0} (eq : K → K → Bool) (hash : K → ℕ) (law : IsLawfulKeys eq hash) where
  -- for a call on one key
  pub advance_intents : {says : Says K V A} {hashes : S → K → ℕ} (refuse : Bool) (s s' : CoreState K V S A) (c : ℕ) (event : Event)
      (reply : Option Reply) (x : Advances eq says hashes refuse s c s' event reply) (core : IsCore s.store s.callers s.mode)
      (core' : IsCore s'.store s'.callers s'.mode)
      (es : List (Exchange (Stored K V))) (call_traces : ℕ → CallTrace K V) (kept : IsConsistent eq hash s.mode s.store s.callers es call_traces)
      (step : IsStep eq hash law refuse s c s' event reply x es call_traces) → KeepsIntents says s c s' event
  advance_intents {says = says} {hashes = hashes} refuse s s' c event reply x core core' es call_traces kept step =
      keeps eq hash s es call_traces kept c s' event (works.Call x.before) (as_work (goes_on reply r'))
      (call-under_way (working s.callers c) x.before x.was) x.callers grows.pairs_stay (record { keys = grows.keys_stay; values = grows.values_stay })
      (λ later put shown op h. call_intends eq says hashes refuse s.store x.before x.answer s'.store x.later x.performs grows.pairs_stay
      step.call.valued (grows.value_stays step.call.valued) made_now step.call.again step.call.shows
      (call_logged eq hash s es call_traces kept c x.before x.was) (machine_goes m x.answer order) (chain_task m x.answer order).0
      (chain_said m x.answer order (core.valid c x.before x.was).call step.call.shows) event x.event_is answering shown op
      (subst (λ w. Intends s'.store w shown op) (goes reply later put) h))
    where
      m : Machine
      m = x.before.machine

      r' : Running K V A
      r' = record x.later { machine = after x.before.machine x.answer }

      goes : (reply : Option Reply) (later : Work K V A) → as_work (goes_on reply r') ≡ Some later → later ≡ works.Call r'
      goes None later put = sym (same_item (works.Call r') later put)
      goes (Some rep) later put = let f : None ≡ Some later = put in absurd cc

      order : IsInOrder m x.answer m.phase
      order = advance.order eq hash law refuse s s' c event reply x core core' es call_traces kept step

      -- only a compute calls its closure with `None`
      offers : ask_of x.before.machine ≡ asks.Call ShowNone → x.before.machine.call.task ≡ Compute
      offers asking = machine_offers (setting_of eq (low hash) s.mode s.store.words.tables) (coding_of (low hash)) (call_traces c).begun
          (call_traces c).since step.call.key x.before.machine.call (call_traces c).loaded.call step.call.relies.call
          (own_asks x.before.machine ShowNone asking).1

      grows : HasMoreLogs s.store x.before s'.store x.later
      grows = grown eq says hashes refuse (ask_of x.before.machine) s.store x.before x.answer s'.store x.later x.performs offers

      answering : IsAnswering says s'.store x.before x.later event
      answering = subst (λ y. IsAnswering says s'.store x.before x.later y) (sym x.event_is)
          (answered_by eq says hashes refuse (kind_of_ask x.before.machine) s.store x.before x.answer s'.store x.later (ask_of x.before.machine) x.performs)

      -- a pair that is made in the step has the value of the call
      made_now : (n : ℕ) → MakesOver (ask_of x.before.machine) → x.answer ≡ told_to.Call (Made_number n) → (q : Stored K V)
          × (pair_of s'.store n ≡ Some q) × (own_value s.store x.before ≡ Some q.value)
      made_now n makes is = let made = step.made_now n makes is in (made.pair, made.there, made.before)

-- The same for a core whose invariant holds, with keys that are hashed with its hasher.
module _ {K V S A H : Type 0} (eq : K → K → Bool) (input : K → List (List ℕ)) (build : S → H) (write : H → List ℕ → H) (finish : H → ℕ)
    (classes : IsEquivalence eq) (respects : (x y : K) → eq x y ≡ true → input x ≡ input y) (says : Says K V A) (refuse : Bool)
    (s : CoreState K V S A) (lawful : IsLawfulCore eq (hash_of input build write finish s.store.hasher) s.store s.callers s.mode) (caller : ℕ)
    (s' : CoreState K V S A) (event : Event) (reply : Option Reply) where
  -- keys are hashed with the hasher
  abbrev hashes : S → K → ℕ
  hashes = hash_of input build write finish

  -- for a call on one key
  pub call_kept : Advances eq says hashes refuse s caller s' event reply → KeepsIntents says s caller s' event
  call_kept x =
      let (es, (call_traces, kept)) = lawful.law in
      let law : IsLawfulKeys eq (hashes s.store.hasher) = keys_lawful eq input build write finish classes respects s.store.hasher in
      advance_intents eq (hashes s.store.hasher) law refuse s s' caller event reply x lawful.core
      (advance-core eq says hashes refuse s caller s' event reply x lawful.core) es call_traces kept
      (kept_step eq (hashes s.store.hasher) law refuse s caller s' event reply x refl es call_traces lawful.core kept)

  -- a call that resizes the map intends nothing
  pub resizer_kept : Resizes eq hashes refuse s caller s' event reply → KeepsIntents says s caller s' event
  resizer_kept x =
      let (es, (call_traces, kept)) = lawful.law in
      keeps eq (hashes s.store.hasher) s es call_traces kept caller s' event (works.Resize x.before)
      (goes_on reply (works.Resize (resizer.after x.before x.answer))) (resizer-under_way (working s.callers caller) x.before x.was) x.callers
      (lawful_resizes eq input build write finish classes respects refuse s s' caller event reply lawful x).1
      (same_parts s.store s'.store (copy_pairs eq hashes refuse x.ask s.store x.answer s'.store x.performs))
      (λ later put shown op h. absurd (subst (λ w. Intends s'.store w shown op) (goes reply later put) h))
    where
      goes : (reply : Option Reply) (later : Work K V A) → goes_on reply (works.Resize (resizer.after x.before x.answer)) ≡ Some later
          → later ≡ works.Resize (resizer.after x.before x.answer)
      goes None later put = sym (same_item (works.Resize (resizer.after x.before x.answer)) later put)
      goes (Some rep) later put = let f : None ≡ Some later = put in absurd cc

  -- for a call that scans a table
  pub scanner_kept : Scans eq says hashes refuse s caller s' event reply → KeepsIntents says s caller s' event
  scanner_kept x =
      let (es, (call_traces, kept)) = lawful.law in
      keeps eq (hashes s.store.hasher) s es call_traces kept caller s' event (works.Scan x.before) (goes_on reply (works.Scan own))
      (scanner-under_way (working s.callers caller) x.before x.was) x.callers
      (scan_keeps eq input build write finish classes respects says refuse s lawful caller s' event reply x)
      (same_parts s.store s'.store (scan_pairs eq hashes refuse says x.ask s.store x.before x.answer s'.store x.later x.performs))
      (λ later put shown op h. scan_intends eq says hashes refuse s.store x.before x.ask x.asked x.answer s'.store x.later x.performs event x.event_is
      shown op (subst (λ w. Intends s'.store w shown op) (goes reply later put) h))
    where
      own : Scanning A
      own = record x.later { scanner = scanner.after x.before.scanner x.answer }

      goes : (reply : Option Reply) (later : Work K V A) → goes_on reply (works.Scan own) ≡ Some later → later ≡ works.Scan own
      goes None later put = sym (same_item (works.Scan own) later put)
      goes (Some rep) later put = let f : None ≡ Some later = put in absurd cc
