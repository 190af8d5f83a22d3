-- A scan whose words nobody else changes comes nearer its end with each step.
use Rattle.std.proofs.Common.{◌≡◌, ℕ, ◌%◌, ◌^◌, ◌==◌, ◌<◌, Bool, true, Option, None, Some, List, ◌++◌, length, refl, sym, ap, ◌∙◌, subst, eqb-true}
use mathlib.Core.Path.{fun_ext}
use Rattle.papaya_call.specs.declared.ask.At.{At}
use Rattle.papaya_call.specs.declared.ask.At.TheVariants as words_at
use Rattle.papaya_call.specs.declared.ask.StepKind.TheVariants as kinds
use Rattle.papaya_call.specs.declared.copy_ask.CopyAsk.TheVariants as copies
use Rattle.papaya_call.specs.Answers.{Says}
use Rattle.papaya_call.specs.declared.chain.ask.Answer.{Answer}
use Rattle.papaya_call.specs.declared.chain.resizer.ResizerState.TheVariants as stages
use Rattle.papaya_call.specs.Resizer as resizers
use Rattle.papaya_words_law.specs.Allows.{AllAllowed, Allows}
use Rattle.papaya_words_law.specs.Code.{Coding, IsHashed}
use Rattle.papaya_words_law.specs.Exchange.{Live, Setting, State as Words, Exchange, Bury, after as state_after, run, start}
use Rattle.papaya_words_law.specs.Invariant.{IsKeeping}
use Rattle.papaya_words_law.specs.Meaning.{map_left}
use Rattle.papaya_words_law.proofs.Moments.{allowed_first, allowed_rest, run-append}
use Rattle.papaya_words_law.proofs.OneMap.{keeping}
use Rattle.papaya_call_law.specs.Copier.{AreThere, HasWords, IsCopyAsked}
use Rattle.papaya_call_law.specs.TrueAnswers.{IsWritten, word_of}
use Rattle.papaya_call_alone.specs.Prompt.{IsBounded}
use Rattle.papaya_call_alone.proofs.Measures.{measure_less}
use Rattle.papaya_core_store.specs.Store.{StoreState, Stored}
use Rattle.papaya_core_store.specs.Tables.{word_at}
use Rattle.papaya_core_timeline.specs.Core.{CoreState, IsCore}
use Rattle.papaya_core_timeline.specs.Ends.{budget_of}
use Rattle.papaya_core_timeline.specs.Kept.{CallTrace, IsConsistent, IsScanning, ScanTrace, coding_of, low, setting_of, told_call_traces}
use Rattle.papaya_core_timeline.proofs.BudgetLaw.{call_fewer}
use Rattle.papaya_core_timeline.proofs.BudgetSpends.{IsSpentAt, budget_bounded, copied_spends, copy_spent, kept_bounded, write_spends}
use Rattle.papaya_core_timeline.proofs.BudgetTables.{IsChunkOf, changes_at}
use Rattle.papaya_core_timeline.proofs.CopyAnswers.{Suits, placed}
use Rattle.papaya_core_timeline.proofs.KeptSettings.{IsLawfulKeys, tables_hashed}
use Rattle.papaya_core_timeline.proofs.KeptTables.{IsPlaced}
use Rattle.papaya_call.specs.declared.chain.ask.ScanAsk.{ScanAsk}
use Rattle.papaya_call.specs.declared.chain.ask.ScanAsk.TheVariants.{Copy, Show, Given, AddToShard}
use Rattle.papaya_call.specs.declared.chain.scanner.Spot.{Spot}
use Rattle.papaya_call.specs.declared.chain.scanner.ScannerState.{ScannerState}
use Rattle.papaya_call.specs.declared.chain.scanner.ScannerState.TheVariants.{Copying, AtRoot, Sizing, Looking, Giving, Showing, Burying, Uncounting, Done, Refused}
use Rattle.papaya_call.specs.Scanner.{IsValidScanner, after, ask_of, asks_in}
use Rattle.papaya_call_law.specs.ScanAnswers.{IsTrueOfScan}
use Rattle.papaya_call_law.specs.Scans.{IsScanAsked, ReliesState, link_in_scan}
use Rattle.papaya_core_timeline.proofs.LinkWords.{scan_words}
use Rattle.papaya_call_law.proofs.ScanAsks.{state_may, state_named}
use Rattle.papaya_call_alone.specs.Scanners.{IsScannerRead, SpendsScan, left_of_scan, scanner_measure}
use Rattle.papaya_call_alone.proofs.ScanLefts.{scan_small}
use Rattle.papaya_call_alone.proofs.ScanLaw.{state_nearer}
use Rattle.papaya_core_store.specs.declared.scans.Scanning.{Scanning}
use Rattle.papaya_core_store.specs.Scans.{PerformsScan}
use Rattle.papaya_core_timeline.specs.Scans.{IsScanAnswered}

module _ {K V S A : Type 0} (eq : K → K → Bool) (hash : K → ℕ) (law : IsLawfulKeys eq hash) (says : Says K V A) (hashes : S → K → ℕ) (refuse : Bool)
    (s : CoreState K V S A) (core : IsCore s.store s.callers s.mode) (hasher : hashes s.store.hasher ≡ hash) (caller : ℕ)
    (call_trace : ScanTrace K V) (call_traces : ℕ → CallTrace K V)
    (kept : IsConsistent eq hash s.mode s.store s.callers (call_trace.begun ++ call_trace.since) call_traces) (v : Scanning A)
    (scanning : IsScanning eq hash s.mode s.store v (call_trace.begun ++ call_trace.since) call_trace)
    (ask : ScanAsk) (asks : ask_of v.scanner ≡ Some ask) (a : Answer) (store' : StoreState K V S) (v' : Scanning A)
    (performs : PerformsScan eq says hashes refuse ask s.store v a store' v')
    (heard : IsScanAnswered eq hash s caller (call_trace.begun ++ call_trace.since) call_traces v call_trace a store' v') where
  -- the exchanges, the setting, the coding and the words
  abbrev es : List (Exchange (Stored K V))
  es = call_trace.begun ++ call_trace.since

  abbrev g : Setting K (Stored K V)
  g = setting_of eq (low hash) s.mode s.store.words.tables

  abbrev c : Coding K (Stored K V)
  c = coding_of (low hash)

  abbrev first : Words (Stored K V)
  first = run call_trace.begun start

  abbrev now : Words (Stored K V)
  now = run es start

  abbrev m : K → Option (Stored K V)
  m = map_left g call_trace.begun

  hashed : IsHashed g c
  hashed = tables_hashed eq hash law s.mode s.store.words.tables core.sizes

  keeps_first : IsKeeping g first m
  keeps_first = keeping g hashed.lawful call_trace.begun (allowed_first g call_trace.begun call_trace.since start kept.allowed)

  may_since : AllAllowed g first call_trace.since
  may_since = allowed_rest g call_trace.begun call_trace.since start kept.allowed

  same : run call_trace.since first ≡ now
  same = sym (run-append call_trace.begun call_trace.since start)

  suits : Suits eq hashes g c s.store
  suits = record {
    sizes = λ t. refl;
    places = λ t. refl;
    chunks = λ t. refl;
    numbers = λ p. refl;
    hashes_of = λ p.
        ap (λ (f : K → ℕ). f p.key % 2 ^ 64) (sym hasher);
    sames = λ p q. refl;
  }

  -- an exchange that is made spends one
  abbrev IsSpent : At → ℕ → Type 0
  IsSpent at new = IsSpentAt eq hash law s.mode s.store s.callers core es call_traces kept store' hashes refuse at new

  -- which exchange is made
  abbrev Asked : ScannerState → At → (new : ℕ) → Exchange (Stored K V) → Type 0
  Asked state at new e = IsScanAsked g c first m call_trace.since v.scanner.scan state at new call_trace.loaded e

  there_placed : (state : ScannerState) → ReliesState g c first m call_trace.since v.scanner.scan call_trace.loaded state → (at : At) (old new : ℕ)
      → asks_in state ≡ Some (Copy (copies.Exchange at old new)) → IsPlaced s.store.words.tables at
  there_placed state r at old new e =
      placed g c s.store es call_trace.loaded.copy kept.coded kept.made eq hashes scanning.last scanning.carried suits None 0 at
      (subst (λ w. AreThere g c w call_trace.loaded.copy.call.last call_trace.loaded.copy.kept (copies.Exchange at old new)) same
      (state_named g c hashed first m keeps_first call_trace.since may_since v.scanner.scan call_trace.loaded state r (Copy (copies.Exchange at old new)) e))

  bury_spends : (spot : Spot) (at : At) (new : ℕ) (e : Exchange (Stored K V)) → at ≡ words_at.Slot spot.table spot.slot → (p : Stored K V)
      → now.slot spot.table spot.slot ≡ Live p → e ≡ Bury spot.table spot.slot p → Allows g now e → IsWritten g c now at new (state_after now e)
      → IsPlaced s.store.words.tables at → IsSpent at new
  bury_spends spot at new e is p live buries may written here = write_spends s.store.words at new here (subst IsChunkOf (sym is) tt)
      (less spot at new e is p live buries may written)
    where
      less : (spot : Spot) (at : At) (new : ℕ) (e : Exchange (Stored K V)) → at ≡ words_at.Slot spot.table spot.slot → (p : Stored K V)
          → now.slot spot.table spot.slot ≡ Live p → e ≡ Bury spot.table spot.slot p → Allows g now e → IsWritten g c now at new (state_after now e)
          → changes_at (length s.store.words.tables) at new < changes_at (length s.store.words.tables) at (word_at s.store.words at)
      less spot at new e is p live buries may written =
          subst (λ y. changes_at (length s.store.words.tables) at new < changes_at (length s.store.words.tables) at y) (kept.coded at)
          (subst (λ y. IsWritten g c now y new (state_after now e)
          → changes_at (length s.store.words.tables) y new < changes_at (length s.store.words.tables) y (word_of g c now y)) (sym is)
          (λ w. call_fewer g c now (length s.store.words.tables) (Some kinds.Bury) (words_at.Slot spot.table spot.slot) new
          call_trace.loaded.copy.call p.key e (p, live, buries) may (sym w.here) (λ root. absurd (cc root))) written)

  -- the table that it is about to link has its words
  words : (state : ScannerState) → v.scanner.state ≡ state → HasWords g (link_in_scan state)
  words state is = subst (λ y. HasWords g (link_in_scan y)) is (scan_words g s.store (λ t. refl) v.scanner.state scanning.links)

  spent_in : (state : ScannerState) → v.scanner.state ≡ state → ReliesState g c first m call_trace.since v.scanner.scan call_trace.loaded state
      → (at : At) (old new : ℕ) → asks_in state ≡ Some (Copy (copies.Exchange at old new)) → (word_at s.store.words at == old) ≡ true → IsSpent at new
  spent_in state is r at old new e hit =
      let stands : word_of g c (run call_trace.since first) at ≡ old = ap (λ w. word_of g c w at) same ∙ kept.coded at
      ∙ eqb-true (word_at s.store.words at) old hit in
      let x = state_may g c hashed first m keeps_first call_trace.since may_since v.scanner.scan call_trace.loaded state r (words state is) at old new
      e stands in
      by_state state r e x.0 x.1 (subst (λ w. Allows g w x.0) same x.2) (subst (λ w. IsWritten g c w at new (state_after w x.0)) same x.3)
      (there_placed state r at old new e)
    where
      by_state : (state : ScannerState) → ReliesState g c first m call_trace.since v.scanner.scan call_trace.loaded state
          → asks_in state ≡ Some (Copy (copies.Exchange at old new)) → (e : Exchange (Stored K V)) → Asked state at new e → Allows g now e
          → IsWritten g c now at new (state_after now e) → IsPlaced s.store.words.tables at → IsSpent at new
      by_state (Copying (stages.Copying from copying)) r asks e asked may written here =
          copy_spent eq hash law s.mode s.store s.callers core es call_traces kept at new (resizers.kind_in (stages.Copying from copying))
          call_trace.loaded.copy.kept e (subst (λ w.
          IsCopyAsked c (resizers.kind_in (stages.Copying from copying)) at new w call_trace.loaded.copy.kept e) same asked) may written here
      by_state (Copying stages.AtRoot) r asks e asked may written here = absurd cc
      by_state (Copying (stages.Looking root len room)) r asks e asked may written here = absurd cc
      by_state (Copying (stages.Making room)) r asks e asked may written here = absurd r.1
      by_state (Copying (stages.Opening table)) r asks e asked may written here = absurd r.1
      by_state (Copying (stages.Sizing root)) r asks e asked may written here = absurd r.1
      by_state (Copying (stages.Counting root len)) r asks e asked may written here = absurd r.1
      by_state (Copying (stages.Linking link)) r asks e asked may written here = absurd r.1
      by_state (Copying stages.Done) r asks e asked may written here = absurd r.1
      by_state (Copying (stages.Refused refused)) r asks e asked may written here = absurd r.1
      by_state (Burying spot word) r asks e (takes, (p, live, number, is)) may written here =
          let at_slot : words_at.Slot spot.table spot.slot ≡ at = cc asks in
          bury_spends spot at new e (sym at_slot) p (subst (λ (w : Words (Stored K V)). w.slot spot.table spot.slot ≡ Live p) same live) is may written here
      by_state AtRoot r asks e asked may written here = absurd asked
      by_state (Sizing table) r asks e asked may written here = absurd asked
      by_state (Looking spot) r asks e asked may written here = absurd asked
      by_state (Giving spot word) r asks e asked may written here = absurd asked
      by_state (Showing spot word) r asks e asked may written here = absurd asked
      by_state (Uncounting spot) r asks e asked may written here = absurd asked
      by_state Done r asks e asked may written here = absurd asked
      by_state (Refused refused) r asks e asked may written here = absurd asked

  -- how much of the budget the step spends
  spends_so : (ask : ScanAsk) → ask_of v.scanner ≡ Some ask → PerformsScan eq says hashes refuse ask s.store v a store' v'
      → SpendsScan ask a (budget_of s.store) (budget_of store')
  spends_so (Copy ask) asks (performs, stays) =
      copied_spends eq hash law s.mode s.store s.callers core es call_traces kept store' hashes refuse ask
      (λ at old new is hit. spent_in v.scanner.state refl scanning.relies.state at old new (asks ∙ ap (λ y. Some (Copy y)) is) hit) a performs
  spends_so (Show n) asks (shows, stays) = ap (λ (y : StoreState K V S). budget_of y) stays
  spends_so (Given n) asks (gives, stays) = ap (λ (y : StoreState K V S). budget_of y) stays
  spends_so (AddToShard by) asks (is, counted, stays) = ap (λ (y : StoreState K V S). budget_of y) counted.1

  -- the words before the step and after it
  words_are : word_of g c (run call_trace.since first) ≡ word_at s.store.words
  words_are = fun_ext (λ at. ap (λ w. word_of g c w at) same ∙ kept.coded at)

  same_then : run (call_trace.since ++ heard.made) first ≡ run (es ++ heard.made) start
  same_then = run-append call_trace.since heard.made first ∙ ap (run heard.made) same ∙ sym (run-append es heard.made start)

  words_then : word_of g c (run (call_trace.since ++ heard.made) first) ≡ word_at store'.words
  words_then = fun_ext (λ at. ap (λ w. word_of g c w at) same_then ∙ heard.coded at)

  bounded : IsBounded g (run call_trace.since first)
  bounded = subst (IsBounded g) (sym same) (kept_bounded eq hash law s.mode s.store s.callers core es call_traces kept)

  told : IsTrueOfScan g c (run call_trace.since first) call_trace.since v.scanner.state call_trace.loaded a heard.made heard.loaded
  told = subst (λ w. IsTrueOfScan g c w call_trace.since v.scanner.state call_trace.loaded a heard.made heard.loaded) (sym same) heard.told

  module _ (read : IsScannerRead (word_at s.store.words) v.scanner) where
    read_now : IsScannerRead (word_of g c (run call_trace.since first)) v.scanner
    read_now = subst (λ words. IsScannerRead words v.scanner) (sym words_are) read

    -- a word that it has read is unchanged
    pub stays_read : IsScannerRead (word_at store'.words) (after v.scanner a)
    stays_read = subst (λ words. IsScannerRead words (after v.scanner a)) words_then
        (state_nearer g c hashed first m keeps_first call_trace.since may_since bounded v.scanner scanning.relies.mode scanning.relies.cut
        call_trace.loaded a heard.made heard.loaded v.scanner.state scanning.relies.state (words v.scanner.state refl) read_now told).read

    -- and it is nearer its end
    pub falls : IsCore store' s.callers s.mode → IsValidScanner (after v.scanner a)
        → scanner_measure (budget_of store') (word_at store'.words) (after v.scanner a) < scanner_measure (budget_of s.store) (word_at s.store.words) v.scanner
    falls core' stands =
        let out = state_nearer g c hashed first m keeps_first call_trace.since may_since bounded v.scanner scanning.relies.mode scanning.relies.cut
        call_trace.loaded a heard.made heard.loaded v.scanner.state scanning.relies.state (words v.scanner.state refl) read_now told in
        let read_then = out.read in
        let few = budget_bounded eq hash law s.mode store' s.callers core' (es ++ heard.made)
        (told_call_traces call_traces caller heard.made (call_traces caller).loaded) heard.kept in
        subst (λ words. scanner_measure (budget_of store') words (after v.scanner a) < scanner_measure (budget_of s.store) (word_at s.store.words)
        v.scanner) words_then
        (subst (λ words. scanner_measure (budget_of store') (word_of g c (run (call_trace.since ++ heard.made) first)) (after v.scanner a) <
        scanner_measure (budget_of s.store) words v.scanner) words_are
        (measure_less (budget_of s.store) (budget_of store') (left_of_scan (word_of g c (run call_trace.since first)) v.scanner.state)
        (left_of_scan (word_of g c (run (call_trace.since ++ heard.made) first)) (after v.scanner a).state) few
        (scan_small (word_of g c (run (call_trace.since ++ heard.made) first)) v.scanner.mode (after v.scanner a).state stands.state read_then)
        (out.less ask asks (budget_of s.store) (budget_of store') (spends_so ask asks performs))))
