-- The effect of a scanner's step on the map, and on the count of its pairs.
use Rattle.std.proofs.Common.{◌≡◌, inl, inr, ⊎_elim, ℕ, ℤ, pos, negsuc, ◌+ℤ◌, ◌==◌, ◌≤◌, ◌^◌, Bool}
use Rattle.std.proofs.Common.{true, false, Option, None, Some, List, [], ◌∷◌, ◌++◌, length, refl}
use Rattle.std.proofs.Common.{sym, ap, ◌∙◌, subst, arith, eqb-true}
use Rattle.std.proofs.lemmas.Bool.{cond-false, cond-true}
use Rattle.std.proofs.lemmas.Int.{ints, int_wrap-add_same}
use Rattle.std.specs.Int.{w64, int_wrap}
use Rattle.papaya_words.specs.Word.{pair_of as number_in}
use Rattle.papaya_call.specs.declared.ask.At.TheVariants as words_at
use Rattle.papaya_call.specs.declared.copy_ask.CopyAsk.TheVariants.{Load, SizeOf}
use Rattle.papaya_call.specs.declared.chain.ask.Answer.{Answer}
use Rattle.papaya_call.specs.declared.chain.resizer.Resize.TheVariants.{CopyAll}
use Rattle.papaya_call.specs.Resizer as resizers
use Rattle.papaya_words_law.specs.Allows.{AllAllowed}
use Rattle.papaya_words_law.specs.Code.{Coding, IsHashed, code}
use Rattle.papaya_words_law.specs.Content.{AreApart}
use Rattle.papaya_words_law.specs.Exchange.{Live, Setting, State as Words, Exchange, Bury, run, start}
use Rattle.papaya_words_law.specs.Invariant.{named}
use Rattle.papaya_words_law.specs.Meaning.{IsLegal, map_left, map_of}
use Rattle.papaya_words_law.proofs.Codes.{code_pair}
use Rattle.papaya_words_law.proofs.FiniteMaps.{length_after, one_length}
use Rattle.papaya_words_law.proofs.Moments.{allowed_rest, map_of-append, run-append}
use Rattle.papaya_words_law.proofs.OneMap.{keeping, step_keeps}
use Rattle.papaya_call_law.proofs.ReliesLearn.{by_test}
use Rattle.papaya_core_store.specs.Store.{StoreState, Stored, pair_of}
use Rattle.papaya_core_timeline.specs.Content.{content, map_in}
use Rattle.papaya_core_timeline.specs.Core.{CoreState, IsCore}
use Rattle.papaya_core_timeline.specs.Counted.{owed_in, owed_scan}
use Rattle.papaya_core_timeline.specs.Kept.{CallTrace, IsConsistent, IsInArena, IsScanning, ScanTrace, WasShown, coding_of, low, setting_of, told_call_traces}
use Rattle.papaya_core_timeline.specs.Maps.{IsUpdate, Same}
use Rattle.papaya_core_timeline.proofs.CountedContent.{content_apart, content_few}
use Rattle.papaya_core_timeline.proofs.CountedLemmas.{length_fits}
use Rattle.papaya_core_timeline.proofs.KeptMap.{kept_map}
use Rattle.papaya_core_timeline.proofs.KeptSettings.{IsLawfulKeys, tables_hashed}
use Rattle.papaya_call.specs.declared.chain.scanner.Spot.{Spot}
use Rattle.papaya_call.specs.declared.chain.scanner.ScannerState.{ScannerState}
use Rattle.papaya_call.specs.declared.chain.scanner.ScannerState.TheVariants.{Copying, AtRoot, Sizing, Looking, Giving, Showing, Burying, Uncounting, Done, Refused}
use Rattle.papaya_call.specs.declared.chain.scanner.Scan.{Scan}
use Rattle.papaya_call.specs.declared.chain.scanner.Scan.TheVariants.{Clear, Retain, Walk}
use Rattle.papaya_call.specs.Scanner.{after, after_in, ask_of, asks_in, copy_asks, buries, kind_in, kind_of_ask}
use Rattle.papaya_call_law.specs.ScanOutcomes.{HasDone, LeavesMap, owes_in}
use Rattle.papaya_call_law.specs.ScanAnswers.{IsBuried, IsFoundThere, IsLastAnswer, IsTrueOfScan}
use Rattle.papaya_call_law.specs.Scans.{MayTake, ReliesState}
use Rattle.papaya_call_law.proofs.ScanOutcomes.{asked, copied_owes, state_done}
use Rattle.papaya_core_store.specs.declared.scans.Scanning.{Scanning}
use Rattle.papaya_core_timeline.specs.Scans.{IsCountedBeside, IsScanAnswered, MovesByScan, MovesScan}
use Rattle.papaya_call.specs.declared.ask.Answer.{Answer as Call_answer}
use Rattle.papaya_call.specs.declared.ask.StepKind.{StepKind}
use Rattle.papaya_call.specs.declared.ask.StepKind.TheVariants.{Bury as Kind_bury}
use Rattle.papaya_call.specs.declared.copy_ask.CopyAsk.{CopyAsk}
use Rattle.papaya_call.specs.declared.chain.ask.Answer.TheVariants as answers
use Rattle.papaya_call.specs.declared.chain.ask.Ask.TheVariants as asks
use Rattle.papaya_call.specs.declared.chain.resizer.ResizerState.{ResizerState as Stage}
use Rattle.papaya_core_timeline.specs.declared.trace.Event.{Event}
use Rattle.papaya_core_timeline.specs.declared.trace.Event.TheVariants.{Moved, Other}
use Rattle.papaya_core_timeline.specs.Advances.{copy_event, event_of}
use Rattle.papaya_core_timeline.specs.ScanGoes.{event_of_scan}
use Rattle.papaya_core_timeline.proofs.CallersLemmas.{same_item}
use Rattle.papaya_core_timeline.proofs.StepEvents.{stage_moves}
use Rattle.papaya_call.specs.declared.chain.ask.ScanAsk.{ScanAsk}
use Rattle.papaya_call.specs.declared.chain.ask.ScanAsk.TheVariants.{AddToShard, Copy, Given, Show}

-- if a result for a pair is known, the closure was called with that pair
answered_shown : {P : Type 0} (l : List (P × Bool)) (p : P) (stays : Bool) → IsLastAnswer l p stays → WasShown l p
answered_shown [] p stays h = h
answered_shown (one ∷ older) p stays (inl (is, said)) = inl is
answered_shown (one ∷ older) p stays (inr (other, h)) = inr (answered_shown older p stays h)

-- a load, or an ask for a size, is no change
pub quiet : (P : Event → Type 0) → P Other → (kind : Option StepKind) (ask : CopyAsk) → ((answer : Call_answer) → copy_event kind ask answer ≡ Other)
    → (a : Answer) → P (event_of_scan kind (Copy ask) a)
quiet P other kind ask none (answers.Call answer) = subst P (sym (none answer)) other
quiet P other kind ask none (answers.Hash hash) = other
quiet P other kind ask none (answers.Count count) = other

-- nor is an ask for the copy of all tables
copied_event : (kind : Option StepKind) (ask : CopyAsk) (a : Answer) → event_of kind (asks.Copy ask) a ≡ event_of_scan kind (Copy ask) a
copied_event kind ask (answers.Call answer) = refl
copied_event kind ask (answers.Hash hash) = refl
copied_event kind ask (answers.Count count) = refl

pub stage_quiet : (P : Event → Type 0) → P Other → ((kind : StepKind) → P (Moved kind)) → (stage : Stage) (o : Option CopyAsk) (ask : ScanAsk)
    → copy_asks o ≡ Some ask → (a : Answer) → P (event_of_scan (resizers.kind_in stage) ask a)
stage_quiet P other moved stage None ask e a = let f : None ≡ Some ask = e in absurd cc
stage_quiet P other moved stage (Some is) ask e a =
    subst (λ y. P (event_of_scan (resizers.kind_in stage) y a)) (same_item (Copy is) ask e)
    (subst P (copied_event (resizers.kind_in stage) is a) (stage_moves P other moved stage is a))

-- the call owes 1 exactly if a pair was deleted
owed_by : (state : ScannerState) (owes : Bool) → owes_in state ≡ owes → owed_scan state ≡ (elim owes as (λ b. ℤ) [ true ↦ negsuc 0 | false ↦ pos 0 ])
owed_by (Uncounting spot) true e = refl
owed_by (Uncounting spot) false e = absurd cc
owed_by (Copying stage) true e = absurd cc
owed_by (Copying stage) false e = refl
owed_by AtRoot true e = absurd cc
owed_by AtRoot false e = refl
owed_by (Sizing table) true e = absurd cc
owed_by (Sizing table) false e = refl
owed_by (Looking spot) true e = absurd cc
owed_by (Looking spot) false e = refl
owed_by (Giving spot word) true e = absurd cc
owed_by (Giving spot word) false e = refl
owed_by (Showing spot word) true e = absurd cc
owed_by (Showing spot word) false e = refl
owed_by (Burying spot word) true e = absurd cc
owed_by (Burying spot word) false e = refl
owed_by Done true e = absurd cc
owed_by Done false e = refl
owed_by (Refused refused) true e = absurd cc
owed_by (Refused refused) false e = refl

module _ {K V S A : Type 0} (eq : K → K → Bool) (hash : K → ℕ) (law : IsLawfulKeys eq hash) (s : CoreState K V S A)
    (core : IsCore s.store s.callers s.mode) (caller : ℕ)
    (call_trace : ScanTrace K V) (call_traces : ℕ → CallTrace K V)
    (kept : IsConsistent eq hash s.mode s.store s.callers (call_trace.begun ++ call_trace.since) call_traces) (v : Scanning A)
    (scanning : IsScanning eq hash s.mode s.store v (call_trace.begun ++ call_trace.since) call_trace)
    (a : Answer) (store' : StoreState K V S) (v' : Scanning A)
    (heard : IsScanAnswered eq hash s caller (call_trace.begun ++ call_trace.since) call_traces v call_trace a store' v')
    (core' : IsCore store' s.callers s.mode) where
  -- the exchanges, the setting before and after, the coding and the words
  abbrev es : List (Exchange (Stored K V))
  es = call_trace.begun ++ call_trace.since

  abbrev g : Setting K (Stored K V)
  g = setting_of eq (low hash) s.mode s.store.words.tables

  abbrev c : Coding K (Stored K V)
  c = coding_of (low hash)

  abbrev first : Words (Stored K V)
  first = run call_trace.begun start

  abbrev now : Words (Stored K V)
  now = run es start

  abbrev m : K → Option (Stored K V)
  m = map_left g call_trace.begun

  abbrev old_map : K → Option (Stored K V)
  old_map = map_left g es

  hashed : IsHashed g c
  hashed = tables_hashed eq hash law s.mode s.store.words.tables core.sizes

  hashed_then : IsHashed (setting_of {V = V} eq (low hash) s.mode store'.words.tables) c
  hashed_then = tables_hashed eq hash law s.mode store'.words.tables core'.sizes

  same : run call_trace.since first ≡ now
  same = sym (run-append call_trace.begun call_trace.since start)

  told : IsTrueOfScan g c (run call_trace.since first) call_trace.since v.scanner.state call_trace.loaded a heard.made heard.loaded
  told = subst (λ w. IsTrueOfScan g c w call_trace.since v.scanner.state call_trace.loaded a heard.made heard.loaded) (sym same) heard.told

  done : HasDone g v.scanner a heard.made
  done = state_done g c first m call_trace.since v.scanner call_trace.loaded a heard.made heard.loaded v.scanner.state scanning.relies.state told

  -- the map before the step, and after it
  was : (k : K) → map_in eq s.store k ≡ old_map k
  was k = kept_map eq hash s.mode s.store hashed s.callers es call_traces kept k

  is_then : (k : K) → map_in eq store' k ≡ map_of g old_map heard.made k
  is_then k = kept_map eq hash s.mode store' hashed_then s.callers (es ++ heard.made)
      (told_call_traces call_traces caller heard.made (call_traces caller).loaded) heard.kept k ∙ heard.map_same k
      ∙ ap (λ f. f k) (map_of-append g es heard.made (λ j. None))

  none_moved : heard.made ≡ [] → Same (map_in eq s.store) (map_in eq store')
  none_moved none k = is_then k ∙ ap (λ l. map_of g old_map l k) none ∙ sym (was k)

  left_moved : (e : Exchange (Stored K V)) → heard.made ≡ e ∷ [] → LeavesMap g e → Same (map_in eq s.store) (map_in eq store')
  left_moved e one leaves k = is_then k ∙ ap (λ l. map_of g old_map l k) one ∙ leaves old_map k ∙ sym (was k)

  -- a pair that is deleted was the map's
  legal : (e : Exchange (Stored K V)) → heard.made ≡ e ∷ [] → IsLegal g old_map e
  legal e one = (step_keeps g hashed.lawful now old_map (keeping g hashed.lawful es kept.allowed) e
      (subst (AllAllowed g now) one (allowed_rest g es heard.made start heard.allowed)).0).0

  buried : (t x : ℕ) (p : Stored K V) → heard.made ≡ Bury t x p ∷ [] → IsUpdate eq p.key (Some p) None (map_in eq s.store) (map_in eq store')
  buried t x p one = record {
    before = was p.key ∙ legal (Bury t x p) one;
    class = λ j same_key. is_then j ∙ ap (λ l. map_of g old_map l j) one ∙ cond-true (eq j p.key) None (old_map j) same_key;
    others = λ j other. is_then j ∙ ap (λ l. map_of g old_map l j) one ∙ cond-false (eq j p.key) None (old_map j) other ∙ sym (was j);
  }

  -- two pairs of the arena with one number are one pair
  one_pair : (p q : Stored K V) → IsInArena s.store p → IsInArena s.store q → p.number ≡ q.number → p ≡ q
  one_pair p q is_p is_q number = let both : Some p ≡ Some q = sym is_p ∙ ap (pair_of s.store) number ∙ is_q in cc

  -- a retain deletes a pair for which its closure returned that it does not stay
  dropped : (spot : Spot) (word : ℕ) (p : Stored K V) → now.slot spot.table spot.slot ≡ Live p → code g c (now.slot spot.table spot.slot) ≡ word
      → (scan : Scan) → MayTake g c first m call_trace.since scan call_trace.loaded word → scan ≡ Retain → IsLastAnswer call_trace.loaded.shown p false
  dropped spot word p live stands Walk takes is = absurd cc
  dropped spot word p live stands Clear takes is = absurd cc
  dropped spot word p live stands Retain (q, number, said) is =
      let of_word : number_in word ≡ p.number = ap number_in (sym stands ∙ ap (code g c) live) ∙ (code_pair g c hashed.coding (Live p) p refl) in
      let one : q ≡ p = one_pair q p (scanning.shown q (answered_shown call_trace.loaded.shown q false said))
      (kept.logged spot.table spot.slot p (ap named live)) (number ∙ of_word) in
      subst (λ r. IsLastAnswer call_trace.loaded.shown r false) one said

  -- it deletes in only one state
  abbrev Goes : ScannerState → ScannerState
  Goes = after_in v.scanner.scan v.scanner.mode v.scanner.initial v.scanner.number a

  said_no : (t x : ℕ) (p : Stored K V) → heard.made ≡ Bury t x p ∷ [] → (state : ScannerState)
      → ReliesState g c first m call_trace.since v.scanner.scan call_trace.loaded state
      → IsTrueOfScan g c (run call_trace.since first) call_trace.since state call_trace.loaded a heard.made heard.loaded → owes_in (Goes state) ≡ true
      → v.scanner.scan ≡ Retain → IsLastAnswer call_trace.loaded.shown p false
  said_no t x p one (Copying stage) r h owes is = let no : false ≡ true = sym
      (copied_owes stage (resizers.after_in CopyAll v.scanner.mode v.scanner.initial v.scanner.number a stage)) ∙ owes in absurd cc
  said_no t x p one AtRoot r h owes is =
      let none = (asked g c first m call_trace.since v.scanner call_trace.loaded a heard.made heard.loaded AtRoot (call_trace.since ++ heard.made)
      (Load words_at.Root) refl h).1 in
      let no : [] ≡ Bury t x p ∷ [] = sym none ∙ one in absurd cc
  said_no t x p one (Sizing table) r h owes is =
      let none = (asked g c first m call_trace.since v.scanner call_trace.loaded a heard.made heard.loaded (Sizing table) call_trace.loaded.before
      (SizeOf table) refl h).1.0 in
      let no : [] ≡ Bury t x p ∷ [] = sym none ∙ one in absurd cc
  said_no t x p one (Looking spot) r h owes is =
      let none = (asked g c first m call_trace.since v.scanner call_trace.loaded a heard.made heard.loaded (Looking spot) call_trace.loaded.before
      (Load (words_at.Slot spot.table spot.slot)) refl h).1 in
      let no : [] ≡ Bury t x p ∷ [] = sym none ∙ one in absurd cc
  said_no t x p one (Giving spot word) r h owes is = let no : [] ≡ Bury t x p ∷ [] = sym h.none ∙ one in absurd cc
  said_no t x p one (Showing spot word) r h owes is = let no : [] ≡ Bury t x p ∷ [] = sym h.none ∙ one in absurd cc
  said_no t x p one (Burying spot word) r h owes is =
      let there = (run call_trace.since first).slot spot.table spot.slot in
      by_test (code g c there == word) (IsBuried g c (run call_trace.since first) call_trace.since spot call_trace.loaded a heard.made heard.loaded)
      (IsFoundThere g c (run call_trace.since first) call_trace.since spot call_trace.loaded a heard.made heard.loaded)
      (IsLastAnswer call_trace.loaded.shown p false) h
      (λ hit t'.
      let both : Bury spot.table spot.slot t'.pair ∷ [] ≡ Bury t x p ∷ [] = sym t'.one ∙ one in
      let is_it : t'.pair ≡ p = cc in
      subst (λ r. IsLastAnswer call_trace.loaded.shown r false) is_it
      (dropped spot word t'.pair (subst (λ (w : Words (Stored K V)). w.slot spot.table spot.slot ≡ Live t'.pair) same t'.live)
      (subst (λ (w : Words (Stored K V)). code g c (w.slot spot.table spot.slot) ≡ word) same (eqb-true (code g c there) word hit)) v.scanner.scan r.2 is))
      (λ miss t'. let no : [] ≡ Bury t x p ∷ [] = sym t'.none ∙ one in absurd cc)
  said_no t x p one (Uncounting spot) r h owes is = let no : [] ≡ Bury t x p ∷ [] = sym h.1 ∙ one in absurd cc
  said_no t x p one Done r h owes is = let no = h.asks in absurd (cc no)
  said_no t x p one (Refused refused) r h owes is = let no = h.asks in absurd (cc no)

  -- so the map stays, or loses one pair
  pub moves : MovesScan eq s.store store' v.scanner.scan call_trace.loaded.shown
  moves =
      ⊎_elim (λ none. inl (none_moved none.0))
      (⊎_elim (λ (kept_map : _). let (e, one, leaves, owes) = kept_map in inl (left_moved e one leaves))
      (λ (lost : _). let (t, x, p, one, no_walk, owes) = lost in
      inr (p, buried t x p one, no_walk, said_no t x p one v.scanner.state scanning.relies.state told owes)))
      done

  -- how the event of the step describes the map
  abbrev ByEvent : Event → Type 0
  ByEvent = MovesByScan eq s.store store' v.scanner.scan call_trace.loaded.shown

  -- an iteration deletes nothing
  no_walk : (word : ℕ) (scan : Scan) → MayTake g c first m call_trace.since scan call_trace.loaded word → scan ≡ Walk → ⊥
  no_walk word Walk takes is = takes
  no_walk word Clear takes is = absurd cc
  no_walk word Retain takes is = absurd cc

  -- the copy of all tables leaves the map
  copied_stays : (stage : Stage) → v.scanner.state ≡ Copying stage → Same (map_in eq s.store) (map_in eq store')
  copied_stays stage is =
      ⊎_elim (λ none. none_moved none.0)
      (⊎_elim (λ (kept_map : _). let (e, one, leaves, owes) = kept_map in left_moved e one leaves)
      (λ (lost : _). let (t, x, p, one, no_walk, owes) = lost in
      let no : false ≡ true = sym (copied_owes stage (resizers.after_in CopyAll v.scanner.mode v.scanner.initial v.scanner.number a stage))
      ∙ ap (λ y. owes_in (Goes y)) (sym is) ∙ owes in absurd cc))
      done

  state_moves : (state : ScannerState) → v.scanner.state ≡ state → ReliesState g c first m call_trace.since v.scanner.scan call_trace.loaded state
      → IsTrueOfScan g c (run call_trace.since first) call_trace.since state call_trace.loaded a heard.made heard.loaded → (ask : ScanAsk)
      → asks_in state ≡ Some ask → ByEvent (event_of_scan (kind_in state) ask a)
  state_moves (Copying stage) is r h ask e =
      let stays = copied_stays stage is in
      stage_quiet ByEvent stays (λ kind. stays) stage (resizers.asks_in stage) ask e a
  state_moves AtRoot is r h ask e =
      let stays = none_moved (asked g c first m call_trace.since v.scanner call_trace.loaded a heard.made heard.loaded AtRoot
      (call_trace.since ++ heard.made) (Load words_at.Root) refl h).1 in
      subst (λ y. ByEvent (event_of_scan None y a)) (same_item (Copy (Load words_at.Root)) ask e) (quiet ByEvent stays None (Load words_at.Root) (λ y. refl) a)
  state_moves (Sizing table) is r h ask e =
      let stays = none_moved (asked g c first m call_trace.since v.scanner call_trace.loaded a heard.made heard.loaded (Sizing table)
      call_trace.loaded.before (SizeOf table) refl h).1.0 in
      subst (λ y. ByEvent (event_of_scan None y a)) (same_item (Copy (SizeOf table)) ask e) (quiet ByEvent stays None (SizeOf table) (λ y. refl) a)
  state_moves (Looking spot) is r h ask e =
      let at = words_at.Slot spot.table spot.slot in
      let stays = none_moved (asked g c first m call_trace.since v.scanner call_trace.loaded a heard.made heard.loaded (Looking spot)
      call_trace.loaded.before (Load at) refl h).1 in
      subst (λ y. ByEvent (event_of_scan None y a)) (same_item (Copy (Load at)) ask e) (quiet ByEvent stays None (Load at) (λ y. refl) a)
  state_moves (Giving spot word) is r h ask e =
      subst (λ y. ByEvent (event_of_scan None y a)) (same_item (Given (number_in word)) ask e)
      (subst (λ y. ByEvent (event_of_scan None (Given (number_in word)) y)) (sym h.is) (none_moved h.none))
  state_moves (Showing spot word) is r h ask e =
      subst (λ y. ByEvent (event_of_scan None y a)) (same_item (Show (number_in word)) ask e)
      (subst (λ y. ByEvent (event_of_scan None (Show (number_in word)) y)) (sym h.is) (none_moved h.none))
  state_moves (Burying spot word) is r h ask e =
      let there = (run call_trace.since first).slot spot.table spot.slot in
      subst (λ y. ByEvent (event_of_scan (Some Kind_bury) y a)) (same_item (Copy (buries spot word)) ask e)
      (by_test (code g c there == word) (IsBuried g c (run call_trace.since first) call_trace.since spot call_trace.loaded a heard.made heard.loaded)
      (IsFoundThere g c (run call_trace.since first) call_trace.since spot call_trace.loaded a heard.made heard.loaded)
      (ByEvent (event_of_scan (Some Kind_bury) (Copy (buries spot word)) a)) h
      (λ hit t.
      let live = subst (λ (w : Words (Stored K V)). w.slot spot.table spot.slot ≡ Live t.pair) same t.live in
      let stands : code g c (now.slot spot.table spot.slot) ≡ word = subst (λ (w : Words (Stored K V)). code g c (w.slot spot.table spot.slot) ≡ word)
      same (eqb-true (code g c there) word hit) in
      let of_word : number_in word ≡ t.pair.number = ap number_in (sym stands ∙ ap (code g c) live) ∙ (code_pair g c hashed.coding (Live t.pair) t.pair refl) in
      subst (λ y. ByEvent (event_of_scan (Some Kind_bury) (Copy (buries spot word)) y)) (sym t.is) (
        t.pair,
        buried spot.table spot.slot t.pair t.one,
        no_walk word v.scanner.scan r.2,
        dropped spot word t.pair live stands v.scanner.scan r.2,
        ap (λ n. Some n) of_word,
        refl,
      ))
      (λ miss t. subst (λ y. ByEvent (event_of_scan (Some Kind_bury) (Copy (buries spot word)) y)) (sym t.is) (none_moved t.none)))
  state_moves (Uncounting spot) is r h ask e =
      subst (λ y. ByEvent (event_of_scan None y a)) (same_item (AddToShard (negsuc 0)) ask e)
      (subst (λ y. ByEvent (event_of_scan None (AddToShard (negsuc 0)) y)) (sym h.0) (none_moved h.1))
  state_moves Done is r h ask e = let f : None ≡ Some ask = e in absurd cc
  state_moves (Refused refused) is r h ask e = let f : None ≡ Some ask = e in absurd cc

  pub moves_as : (ask : ScanAsk) → ask_of v.scanner ≡ Some ask
      → MovesByScan eq s.store store' v.scanner.scan call_trace.loaded.shown (event_of_scan (kind_of_ask v.scanner) ask a)
  moves_as ask e = state_moves v.scanner.state refl scanning.relies.state told ask e

  -- the pairs before and after the step
  abbrev old : List (Stored K V)
  old = content eq s.store

  abbrev new : List (Stored K V)
  new = content eq store'

  old_apart : AreApart eq (λ p. p.key) old
  old_apart = content_apart eq hash s.mode s.store hashed s.callers es call_traces kept

  new_apart : AreApart eq (λ p. p.key) new
  new_apart = content_apart eq hash s.mode store' hashed_then s.callers (es ++ heard.made)
      (told_call_traces call_traces caller heard.made (call_traces caller).loaded) heard.kept

  old_few : length old ≤ 2 ^ 48
  old_few = content_few eq hash s.mode s.store hashed s.callers es call_traces kept

  new_few : length new ≤ 2 ^ 48
  new_few = content_few eq hash s.mode store' hashed_then s.callers (es ++ heard.made)
      (told_call_traces call_traces caller heard.made (call_traces caller).loaded) heard.kept

  -- the map grows by the amount that is owed after the step
  as_many : Same (map_in eq s.store) (map_in eq store') → owes_in (Goes v.scanner.state) ≡ false
      → pos (length new) ≡ pos (length old) +ℤ owed_scan (Goes v.scanner.state)
  as_many stays owes =
      let many : length new ≡ length old = one_length g hashed.lawful new old new_apart old_apart stays in
      let none : owed_scan (Goes v.scanner.state) ≡ pos 0 = owed_by (Goes v.scanner.state) false owes in
      omega (arith, ints, many, none)

  fewer : (t x : ℕ) (p : Stored K V) → heard.made ≡ Bury t x p ∷ [] → owes_in (Goes v.scanner.state) ≡ true
      → pos (length new) ≡ pos (length old) +ℤ owed_scan (Goes v.scanner.state)
  fewer t x p one owes =
      let count = length_after g hashed.lawful old_map old new old_apart new_apart was (Bury t x p) (legal (Bury t x p) one)
      (λ k. is_then k ∙ ap (λ l. map_of g old_map l k) one) in
      let less : owed_scan (Goes v.scanner.state) ≡ negsuc 0 = owed_by (Goes v.scanner.state) true owes in
      omega (arith, ints, count, less)

  grown : pos (length new) ≡ pos (length old) +ℤ owed_scan (Goes v.scanner.state)
  grown =
      ⊎_elim (λ none. as_many (none_moved none.0) none.1)
      (⊎_elim (λ (kept_map : _). let (e, one, leaves, owes) = kept_map in as_many (left_moved e one leaves) owes)
      (λ (lost : _). let (t, x, p, one, no_walk, owes) = lost in fewer t x p one owes))
      done

  -- so the count stays the number of pairs
  pub counted : IsCountedBeside eq s.store s.callers v.scanner.state → IsCountedBeside eq store' s.callers (after v.scanner a).state
  counted before =
      let o : ℤ = owed_scan v.scanner.state in
      let by : ℤ = owed_scan (Goes v.scanner.state) in
      let to : (s.store.count.sum +ℤ o) +ℤ (owed_in s.callers +ℤ by) ≡ (s.store.count.sum +ℤ (owed_in s.callers +ℤ o)) +ℤ by = omega (arith, ints) in
      int_wrap-add_same w64 store'.count.sum (s.store.count.sum +ℤ o) (owed_in s.callers +ℤ by) heard.sum
      ∙ ap (int_wrap w64) to
      ∙ int_wrap-add_same w64 (s.store.count.sum +ℤ (owed_in s.callers +ℤ o)) (pos (length old)) by (before ∙ sym (length_fits (length old) old_few))
      ∙ ap (int_wrap w64) (sym grown)
      ∙ length_fits (length new) new_few
