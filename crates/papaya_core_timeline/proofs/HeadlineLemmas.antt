-- The turns of a schedule keep a good history, and so a run has a timeline.
use Rattle.std.proofs.Common.{◌≡◌, inl, inr, ℕ, zero, suc, Bool, true, false, Option, None, Some, List, [], slice_get, refl, sym, ◌∙◌, ap, subst}
use Rattle.std.specs.Cmp.{IsEquivalence}
use Rattle.papaya_call.specs.declared.ask.Ask.TheVariants.{ShowNone}
use Rattle.papaya_call.specs.declared.call.Call.{Call}
use Rattle.papaya_call.specs.declared.call.Reply.{Reply}
use Rattle.papaya_call.specs.declared.call.Task.TheVariants.{Compute}
use Rattle.papaya_call.specs.Answers.{Says}
use Rattle.papaya_words_law.specs.Exchange.{Exchange}
use Rattle.papaya_call.specs.declared.chain.ask.Ask.TheVariants as asks
use Rattle.papaya_call.specs.ChainMachine.{IsValid, ask_of, after}
use Rattle.papaya_call_law.proofs.ChainStanding.{chain_ask_fits, chain_stands}
use Rattle.papaya_core_store.specs.declared.pairs.Running.{Running}
use Rattle.papaya_core_timeline.specs.declared.seat.Seat.{Seat}
use Rattle.papaya_core_timeline.specs.declared.trace.Turn.{Turn}
use Rattle.papaya_core_timeline.specs.declared.trace.Turn.TheVariants.{Begin, Step, Finish}
use Rattle.papaya_core_timeline.specs.declared.trace.Event.{Event}
use Rattle.papaya_core_timeline.specs.Advances.{Advances, goes_on}
use Rattle.papaya_core_timeline.specs.Begins.{Begins, begun_work}
use Rattle.papaya_core_timeline.specs.Callers.{as_work, resizer_in, with_seat, with_work}
use Rattle.papaya_core_timeline.specs.Content.{map_of}
use Rattle.papaya_core_timeline.specs.Core.{IsGoing, CoreState, IsCore}
use Rattle.papaya_core_timeline.specs.Headline.{HasTimeline}
use Rattle.papaya_core_timeline.specs.Kept.{IsConsistent, IsLawfulCore, CallTrace, setting_of, coding_of, low}
use Rattle.papaya_core_timeline.specs.Maps.{Map}
use Rattle.papaya_core_timeline.specs.Moves.{MovesMap}
use Rattle.papaya_core_timeline.specs.Resizes.{Resizes}
use Rattle.papaya_core_timeline.specs.declared.seat.Work.{Work}
use Rattle.papaya_core_timeline.specs.declared.seat.Work.TheVariants as works
use Rattle.papaya_call.specs.declared.chain.ask.Answer.{Answer}
use Rattle.papaya_call.specs.declared.chain.resizer.Resizer.{Resizer}
use Rattle.papaya_call.specs.Resizer.{IsValidResizer, after as after_resize, reply_of}
use Rattle.papaya_core_timeline.proofs.CopyAnswers.{left_logged}
use Rattle.papaya_core_timeline.proofs.GoodResized.{good_resize, resize_moves}
use Rattle.papaya_core_timeline.proofs.GoodScanned.{good_scan}
use Rattle.papaya_core_timeline.proofs.KeptScanned.{scanned-core, step_after as scan_after}
use Rattle.papaya_core_timeline.proofs.KeptResized.{goes_on-call, goes_on-resizer, goes_on-scanner, left as resize_left}
use Rattle.papaya_core_timeline.proofs.ResizerStands.{resizer_fits, resizer_stands}
use Rattle.papaya_core_timeline.specs.Runs.{History, StepRuns, BeginRuns, StepsRun, TurnRuns, TurnsRun, IsCutShort, StopsEarly}
use Rattle.papaya_core_store.specs.Store.{KeepsPairs, StoreState, Stored}
use Rattle.papaya_words_keys.specs.Hashes.{hash_of}
use Rattle.papaya_core_timeline.proofs.CallersLemmas.{call-put, no-resizer, no-scanner, same_item}
use Rattle.papaya_core_timeline.proofs.ChainLemmas.{own_asks}
use Rattle.papaya_core_timeline.proofs.CoreLemmas.{begun-core, begun-scanner, copied-core, performed-core, still_going, with_seat-core, with_work-core}
use Rattle.papaya_core_timeline.proofs.Good.{IsGood}
use Rattle.papaya_core_timeline.proofs.GoodLemmas.{good_start, good_begin, good_step, good_end}
use Rattle.papaya_core_timeline.proofs.AdvanceLemmas.{advance_moves}
use Rattle.papaya_core_timeline.proofs.KeptCore.{keys_lawful}
use Rattle.papaya_core_timeline.proofs.KeptLemmas.{IsLawfulKeys, kept_step}
use Rattle.papaya_core_timeline.proofs.MachineLemmas.{machine_offers}
use Rattle.papaya_core_timeline.proofs.StoreLemmas.{performed_ask, performed_copy, unnumbered}
use Rattle.papaya_core_timeline.proofs.TiedLemmas.{grown}

module _ {K V S A : Type 0} where
  -- the invariant of a core holds after a step
  pub advance-core : (eq : K → K → Bool) (says : Says K V A) (hash : S → K → ℕ) (refuse : Bool) (s : CoreState K V S A) (caller : ℕ)
      (s' : CoreState K V S A) (event : Event) (reply : Option Reply) → Advances eq says hash refuse s caller s' event reply
      → IsCore s.store s.callers s.mode → IsCore s'.store s'.callers s'.mode
  advance-core eq says hash refuse s caller s' event reply x core =
      let m = x.before.machine in
      let valid = core.valid caller x.before x.was in
      let fit = chain_ask_fits m valid in
      let stands = chain_stands m valid x.answer
      (performed_ask eq hash says refuse (ask_of m) s.store x.before x.answer s'.store x.later (unnumbered s.store.words.tables core.sizes) fit
      x.performs).fit in
      let kept : IsCore s'.store s.callers s.mode = performed-core eq says hash refuse s.store s.callers s.mode x.before x.answer s'.store x.later
      core fit x.performs in
      let r : Running K V A = record x.later { machine = after m x.answer } in
      subst (λ y. IsCore s'.store s'.callers y) (sym x.mode)
      (subst (λ (y : List (Seat K V A)). IsCore s'.store y s.mode) (sym x.callers)
      (with_work-core s'.store s.callers s.mode caller (as_work (goes_on reply r)) kept
      (λ q e. still reply r stands (λ none. still_going (after m x.answer) (sym x.reply_is ∙ none)) q (call-put (goes_on reply r) q e))
      (λ z e. absurd (no-resizer (goes_on reply r) z e)) (λ v e. absurd (no-scanner (goes_on reply r) v e))))
    where
      still : (reply : Option Reply) (r : Running K V A) → IsValid r.machine → (reply ≡ None → IsGoing r.machine) → (q : Running K V A)
          → goes_on reply r ≡ Some q → IsValid q.machine × IsGoing q.machine
      still None r stands goes q e = subst (λ (y : Running K V A). IsValid y.machine × IsGoing y.machine) (same_item r q e) (stands, goes refl)
      still (Some rep) r stands goes q e = let f : None ≡ Some q = e in cc

  -- the same for a step of a resizer
  pub resize-core : (eq : K → K → Bool) (hash : S → K → ℕ) (refuse : Bool) (s : CoreState K V S A) (caller : ℕ) (s' : CoreState K V S A)
      (event : Event) (reply : Option Reply) → Resizes eq hash refuse s caller s' event reply → IsCore s.store s.callers s.mode
      → IsCore s'.store s'.callers s'.mode
  resize-core eq hash refuse s caller s' event reply x core =
      let valid = (core.resizers caller x.before x.was).0 in
      let fit = resizer_fits x.before valid x.ask x.asked in
      let stands = resizer_stands x.before x.answer valid
      (performed_copy eq hash refuse x.ask s.store x.answer s'.store (unnumbered s.store.words.tables core.sizes) fit x.performs).fit in
      let kept : IsCore s'.store s.callers s.mode = copied-core eq hash refuse x.ask s.store s.callers s.mode x.answer s'.store core fit x.performs in
      subst (λ y. IsCore s'.store s'.callers y) (sym x.mode)
      (subst (λ (y : List (Seat K V A)). IsCore s'.store y s.mode) (sym x.callers)
      (with_work-core s'.store s.callers s.mode caller (goes_on reply (works.Resize (after_resize x.before x.answer))) kept
      (λ r e. absurd (goes_on-call reply (after_resize x.before x.answer) r _ refl e))
      (λ z e. subst (λ y. IsValidResizer y × (reply_of y ≡ None)) (goes_on-resizer reply (after_resize x.before x.answer) z _ refl e)
      (stands, sym x.reply_is ∙ going reply z (resumed x.before x.answer) e))
      (λ v e. absurd (goes_on-scanner reply (after_resize x.before x.answer) v _ refl e))))
    where
      resumed : Resizer → Answer → Work K V A
      resumed z a = works.Resize (after_resize z a)

      going : (reply : Option Reply) (z : Resizer) (w : Work K V A) → goes_on reply w ≡ Some (works.Resize z) → reply ≡ None
      going None z w e = refl
      going (Some rep) z w e = let f : None ≡ Some z = ap resizer_in e in absurd cc

  -- and for a begin
  pub begin-core : (hash : K → ℕ) (s : CoreState K V S A) (caller : ℕ) (call : Call K V A) (s' : CoreState K V S A) → Begins hash s caller call s'
      → IsCore s.store s.callers s.mode → IsCore s'.store s'.callers s'.mode
  begin-core hash s caller call s' x core =
      let w : Work K V A = begun_work hash s.mode s.initial x.number call in
      let begins = begun-core hash s.mode s.initial x.number call core.chunked core.limit x.power in
      subst (λ y. IsCore s'.store s'.callers y) (sym x.mode)
      (subst (λ (y : List (Seat K V A)). IsCore s'.store y s.mode) (sym x.callers)
      (subst (λ (y : StoreState K V S). IsCore y (with_work (with_seat s.callers caller) caller (Some w)) s.mode) (sym x.store)
      (with_work-core s.store (with_seat s.callers caller) s.mode caller (Some w) (with_seat-core s.store s.callers s.mode caller core)
      (λ r e. begins.0 r (same_item w (works.Call r) e)) (λ z e. begins.1 z (same_item w (works.Resize z) e))
      (λ v e. begun-scanner hash s.mode s.initial x.number call core.chunked x.power v (same_item w (works.Scan v) e)))))

module _ {K V S A : Type 0} (eq : K → K → Bool) (says : Says K V A) (hash : S → K → ℕ) (hasher : S) (law : IsLawfulKeys eq (hash hasher))
    (schedule : List (Turn K V A)) (first : StoreState K V S) (start : Map K V) where
  -- a good history of a core with this hasher
  abbrev Good : CoreState K V S A → History → Type 0
  Good s h = (s.store.hasher ≡ hasher) × IsGood eq says (hash hasher) schedule first start s h

  -- a turn that is passed over
  passes : (s s' : CoreState K V S A) (before after : History) → s' ≡ s → after ≡ before → Good s before → Good s' after
  passes s s' before after same as_before good = subst (λ y. Good y after) (sym same) (subst (λ y. Good s y) (sym as_before) good)

  step_runs : (turn caller : ℕ) (refuse : Bool) (s s' : CoreState K V S A) (before after : History)
      → StepRuns eq says hash turn caller refuse s before s' after → Good s before → Good s' after
  step_runs turn caller refuse s s' before after (inl (event, reply, inl x, is)) (same, good) = (
    ap (λ (y : S). y) (grown eq says hash refuse (ask_of x.before.machine) s.store x.before x.answer s'.store x.later x.performs offers).hasher_is ∙ same,
    subst (λ y. IsGood eq says (hash hasher) schedule first start s' y) (sym is)
        (good_step eq (hash hasher) law refuse schedule first start s s' before turn caller event reply x (ap hash same)
        (advance-core eq says hash refuse s caller s' event reply x good.core) good),
  )
    where
      -- only a compute calls its closure with `None`
      offers : ask_of x.before.machine ≡ asks.Call ShowNone → x.before.machine.call.task ≡ Compute
      offers asking =
          let call = good.kept.calls caller x.before x.was in
          let call_trace = good.call_traces caller in
          machine_offers (setting_of eq (low (hash hasher)) s.mode s.store.words.tables) (coding_of (low (hash hasher))) call_trace.begun
          call_trace.since call.key x.before.machine.call call_trace.loaded.call call.relies.call (own_asks x.before.machine ShowNone asking).1
  step_runs turn caller refuse s s' before after (inl (event, reply, inr (inl x), is)) (same, good) = (
    (resize_left eq (hash hasher) law refuse s caller s' event reply x (ap hash same) good.es good.call_traces good.core good.kept).hasher_is ∙ same,
    subst (λ y. IsGood eq says (hash hasher) schedule first start s' y) (sym is)
        (good_resize eq (hash hasher) law refuse schedule first start s s' before turn caller event reply x (ap hash same)
        (resize-core eq hash refuse s caller s' event reply x good.core) good),
  )
  step_runs turn caller refuse s s' before after (inl (event, reply, inr (inr x), is)) (same, good) = (
    (scan_after eq (hash hasher) law says hash refuse s caller s' event reply x (ap hash same) good.es good.call_traces good.core good.kept).hasher_is ∙ same,
    subst (λ y. IsGood eq says (hash hasher) schedule first start s' y) (sym is)
        (good_scan eq (hash hasher) law refuse schedule first start s s' before turn caller event reply x (ap hash same)
        (scanned-core eq (hash hasher) law says hash refuse s caller s' event reply x good.core) good),
  )
  step_runs turn caller refuse s s' before after (inr (idle, passed)) good = passes s s' before after passed.0 passed.1 good

  begin_runs : (turn caller : ℕ) (call : Call K V A) (s s' : CoreState K V S A) (before after : History)
      → slice_get schedule turn ≡ Some (Begin caller call) → BeginRuns eq says hash turn caller call s before s' after → Good s before → Good s' after
  begin_runs turn caller call s s' before after there (inl (idle, begins, is)) (same, good) =
      let x : Begins (hash hasher) s caller call s' = subst (λ (y : S). Begins (hash y) s caller call s') same begins in (
        ap (λ (y : StoreState K V S). y.hasher) x.store ∙ same,
        subst (λ y. IsGood eq says (hash hasher) schedule first start s' y) (sym is)
            (good_begin eq (hash hasher) law says schedule first start s s' before turn caller call there x
            (begin-core (hash hasher) s caller call s' x good.core) good),
      )
  begin_runs turn caller call s s' before after there (inr (r, busy, passed)) good = passes s s' before after passed.0 passed.1 good

  steps_run : (turn caller steps : ℕ) (s s' : CoreState K V S A) (before after : History) → StepsRun eq says hash turn caller steps s before s' after
      → Good s before → Good s' after
  steps_run turn caller zero s s' before after passed good = passes s s' before after passed.0 passed.1 good
  steps_run turn caller (suc steps) s s' before after (middle, so_far, runs, last) good =
      step_runs turn caller false middle s' so_far after last (steps_run turn caller steps s middle before so_far runs good)

  turn_runs : (turn : ℕ) (what : Turn K V A) (s s' : CoreState K V S A) (before after : History) → slice_get schedule turn ≡ Some what
      → TurnRuns eq says hash turn what s before s' after → Good s before → Good s' after
  turn_runs turn (Begin caller call) s s' before after there runs good = begin_runs turn caller call s s' before after there runs good
  turn_runs turn (Step caller refuse) s s' before after there runs good = step_runs turn caller refuse s s' before after runs good
  turn_runs turn (Finish caller steps) s s' before after there runs good = steps_run turn caller steps s s' before after runs good

  turns_run : (turns : ℕ) (s s' : CoreState K V S A) (h : History) → TurnsRun eq says hash schedule turns s s' h → Good s [] → Good s' h
  turns_run zero s s' h (same, none) good = passes s s' [] h same none good
  turns_run (suc turn) s s' h (what, middle, so_far, there, runs, last) good =
      turn_runs turn what middle s' so_far h there last (turns_run turn s middle so_far runs good)

  -- a turn that was cut short leaves the pairs of the first arena there
  cut_short : (turn : ℕ) (what : Turn K V A) (s s' : CoreState K V S A) (before : History) → IsCutShort eq says hash turn what s before s'
      → Good s before → KeepsPairs first s'.store
  cut_short turn (Begin caller call) s s' before same good = subst (λ (y : CoreState K V S A). KeepsPairs first y.store) (sym same) good.1.kept_pairs
  cut_short turn (Step caller refuse) s s' before same good = subst (λ (y : CoreState K V S A). KeepsPairs first y.store) (sym same) good.1.kept_pairs
  cut_short turn (Finish caller steps) s s' before (made, few, after, runs) good = (steps_run turn caller made s s' before after runs good).1.kept_pairs

-- The maps of a run are a legal timeline with its history.
pub run_timeline : {K V S A : Type 0} (eq : K → K → Bool) (says : Says K V A) (hash : S → K → ℕ) (schedule : List (Turn K V A)) (turns : ℕ)
    (s s' : CoreState K V S A) (h : History) → IsLawfulKeys eq (hash s.store.hasher) → IsCore s.store s.callers s.mode
    → (es : List (Exchange (Stored K V))) (call_traces : ℕ → CallTrace K V) → IsConsistent eq (hash s.store.hasher) s.mode s.store s.callers es call_traces
    → TurnsRun eq says hash schedule turns s s' h → HasTimeline eq says schedule s h s'
run_timeline eq says hash schedule turns s s' h law core es call_traces kept runs =
    good_end eq (hash s.store.hasher) law says schedule s s' h
    (turns_run eq says hash s.store.hasher law schedule s.store (map_of eq s) turns s s' h runs
    (refl, good_start eq (hash s.store.hasher) law says schedule s es call_traces core kept)).1

-- The same for a core whose invariant holds, with keys that are hashed with its hasher.
module _ {K V S A H : Type 0} (eq : K → K → Bool) (input : K → List (List ℕ)) (build : S → H) (write : H → List ℕ → H) (finish : H → ℕ)
    (classes : IsEquivalence eq) (respects : (x y : K) → eq x y ≡ true → input x ≡ input y) where
  -- the invariant of a core
  abbrev pub Always : CoreState K V S A → Type 0
  Always s = IsLawfulCore eq (hash_of input build write finish s.store.hasher) s.store s.callers s.mode

  -- a run has a timeline
  pub lawful_timeline : (says : Says K V A) (schedule : List (Turn K V A)) (turns : ℕ) (s s' : CoreState K V S A) (h : History) → Always s
      → TurnsRun eq says (hash_of input build write finish) schedule turns s s' h → HasTimeline eq says schedule s h s'
  lawful_timeline says schedule turns s s' h always runs =
      let (es, (call_traces, kept)) = always.law in
      run_timeline eq says (hash_of input build write finish) schedule turns s s' h
      (keys_lawful eq input build write finish classes respects s.store.hasher) always.core es call_traces kept runs

  -- every pair stays in the arena after a run, also after a run that stopped
  pub lawful_logs : (says : Says K V A) (schedule : List (Turn K V A)) (turns : ℕ) (s s' : CoreState K V S A) (h : History) → Always s
      → TurnsRun eq says (hash_of input build write finish) schedule turns s s' h → KeepsPairs s.store s'.store
  lawful_logs says schedule turns s s' h always runs =
      let (es, (call_traces, kept)) = always.law in
      let law = keys_lawful eq input build write finish classes respects s.store.hasher in
      (turns_run eq says (hash_of input build write finish) s.store.hasher law schedule s.store (map_of eq s) turns s s' h runs
      (refl, good_start eq (hash_of input build write finish s.store.hasher) law says schedule s es call_traces always.core kept)).1.kept_pairs

  pub lawful_stops : (says : Says K V A) (schedule : List (Turn K V A)) (s s' : CoreState K V S A) → Always s
      → StopsEarly eq says (hash_of input build write finish) schedule s s' → KeepsPairs s.store s'.store
  lawful_stops says schedule s s' always (turn, what, middle, so_far, there, runs, cut) =
      let (es, (call_traces, kept)) = always.law in
      let law = keys_lawful eq input build write finish classes respects s.store.hasher in
      cut_short eq says (hash_of input build write finish) s.store.hasher law schedule s.store (map_of eq s) turn what middle s' so_far cut
      (turns_run eq says (hash_of input build write finish) s.store.hasher law schedule s.store (map_of eq s) turn s middle so_far runs
      (refl, good_start eq (hash_of input build write finish s.store.hasher) law says schedule s es call_traces always.core kept))

  -- a step changes the map only in the class of its call's key
  pub lawful_moves : (says : Says K V A) (refuse : Bool) (s s' : CoreState K V S A) (caller : ℕ) (event : Event) (reply : Option Reply) → Always s
      → Advances eq says (hash_of input build write finish) refuse s caller s' event reply → MovesMap eq s caller s' event
  lawful_moves says refuse s s' caller event reply always x =
      let (es, (call_traces, kept)) = always.law in
      let hash : K → ℕ = hash_of input build write finish s.store.hasher in
      let law : IsLawfulKeys eq hash = keys_lawful eq input build write finish classes respects s.store.hasher in
      advance_moves eq hash law refuse s s' caller event reply x always.core
      (advance-core eq says (hash_of input build write finish) refuse s caller s' event reply x always.core) es call_traces kept
      (kept_step eq hash law refuse s caller s' event reply x refl es call_traces always.core kept)

  -- and every pair stays in the arena
  pub lawful_keeps : (says : Says K V A) (refuse : Bool) (s s' : CoreState K V S A) (caller : ℕ) (event : Event) (reply : Option Reply) → Always s
      → Advances eq says (hash_of input build write finish) refuse s caller s' event reply → KeepsPairs s.store s'.store
  lawful_keeps says refuse s s' caller event reply always
      x = (grown eq says (hash_of input build write finish) refuse (ask_of x.before.machine) s.store x.before x.answer s'.store x.later x.performs
      offers).pairs_stay
    where
      offers : ask_of x.before.machine ≡ asks.Call ShowNone → x.before.machine.call.task ≡ Compute
      offers asking =
          let (es, (call_traces, kept)) = always.law in
          let call = kept.calls caller x.before x.was in
          let hash : K → ℕ = hash_of input build write finish s.store.hasher in
          machine_offers (setting_of eq (low hash) s.mode s.store.words.tables) (coding_of (low hash)) (call_traces caller).begun
          (call_traces caller).since call.key x.before.machine.call (call_traces caller).loaded.call call.relies.call
          (own_asks x.before.machine ShowNone asking).1

  -- a step of a resizer leaves the map, and the arena of pairs
  pub lawful_resizes : (refuse : Bool) (s s' : CoreState K V S A) (caller : ℕ) (event : Event) (reply : Option Reply) → Always s
      → Resizes eq (hash_of input build write finish) refuse s caller s' event reply → MovesMap eq s caller s' event × KeepsPairs s.store s'.store
  lawful_resizes refuse s s' caller event reply always x =
      let (es, (call_traces, kept)) = always.law in
      let hash : K → ℕ = hash_of input build write finish s.store.hasher in
      let law : IsLawfulKeys eq hash = keys_lawful eq input build write finish classes respects s.store.hasher in
      let core' = resize-core eq (hash_of input build write finish) refuse s caller s' event reply x always.core in (
        resize_moves eq hash law refuse s s' caller event reply x refl always.core core' es call_traces kept,
        λ n p there. left_logged (setting_of eq (low hash) s.mode s.store.words.tables) (coding_of (low hash)) s.store es (call_traces caller).loaded
            (resize_left eq hash law refuse s caller s' event reply x refl es call_traces always.core kept) n p there,
      )
