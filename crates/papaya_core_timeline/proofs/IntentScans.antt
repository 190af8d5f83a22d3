-- The intent of a retain: the pair that it removes is one for which its closure has just returned
-- that it does not stay.
use Rattle.std.proofs.Common.{◌≡◌, negsuc, ◌⊎◌, inl, inr, ⊎_elim, ℕ, ◌+◌, ◌==◌, nat_lt, Bool, true, false, Option, None, Some, refl, sym, ◌∙◌, ap, subst}
use Rattle.std.proofs.lemmas.Bool.{cond_both}
use Rattle.papaya_words.specs.Word.{kind_of, pair_of as pair_in}
use Rattle.papaya_words.specs.declared.resize_mode.ResizeMode.{ResizeMode}
use Rattle.papaya_words.specs.declared.word.Kind.{Kind}
use Rattle.papaya_words.specs.declared.word.Kind.TheVariants as kinds
use Rattle.papaya_call.specs.declared.ask.Answer.{Answer as Call_answer}
use Rattle.papaya_call.specs.declared.ask.Answer.TheVariants.{Word as Word_read, Exchanged}
use Rattle.papaya_call.specs.declared.ask.Answer.TheVariants.{Found as Found_instead, Yes, Op, Size}
use Rattle.papaya_call.specs.declared.ask.Answer.TheVariants.{Made as Made_number, Ok as Ok_done}
use Rattle.papaya_call.specs.declared.ask.Answer.TheVariants.{Refused as Was_refused}
use Rattle.papaya_call.specs.declared.ask.At.TheVariants as words_at
use Rattle.papaya_call.specs.declared.ask.StepKind.{StepKind}
use Rattle.papaya_call.specs.declared.ask.StepKind.TheVariants.{Bury as Kind_bury}
use Rattle.papaya_call.specs.declared.copy_ask.CopyAsk.TheVariants.{Load, SizeOf}
use Rattle.papaya_call.specs.Answers.{Says}
use Rattle.papaya_call.specs.declared.answers.Operation.{Operation}
use Rattle.papaya_call.specs.declared.answers.Operation.TheVariants as ops
use Rattle.papaya_call.specs.declared.chain.ask.Answer.{Answer}
use Rattle.papaya_call.specs.declared.chain.ask.Answer.TheVariants as answers
use Rattle.papaya_call.specs.declared.chain.resizer.Resize.TheVariants.{CopyAll}
use Rattle.papaya_call.specs.declared.chain.resizer.ResizerState.{ResizerState as Stage}
use Rattle.papaya_call.specs.declared.chain.resizer.ResizerState.TheVariants as stages
use Rattle.papaya_call.specs.Resizer as resizers
use Rattle.papaya_call.specs.declared.chain.ask.ScanAsk.{ScanAsk}
use Rattle.papaya_call.specs.declared.chain.ask.ScanAsk.TheVariants.{AddToShard, Copy, Given, Show}
use Rattle.papaya_call.specs.declared.chain.scanner.Spot.{Spot}
use Rattle.papaya_call.specs.declared.chain.scanner.ScannerState.{ScannerState}
use Rattle.papaya_call.specs.declared.chain.scanner.ScannerState.TheVariants.{Copying, AtRoot, Sizing, Looking, Giving, Showing, Burying, Uncounting, Done, Refused}
use Rattle.papaya_call.specs.declared.chain.scanner.Scan.TheVariants.{Retain}
use Rattle.papaya_call.specs.Scanner.{after, after_in, ask_of, asks_in, at_root, copied, buries, found_by, kind_in, kind_of_ask, looks, meets, next}
use Rattle.papaya_core_store.specs.declared.scans.Scanning.{Scanning}
use Rattle.papaya_core_store.specs.Store.{StoreState, pair_of}
use Rattle.papaya_core_store.specs.Scans.{PerformsScan, CallsClosure}
use Rattle.papaya_core_timeline.specs.declared.seat.Work.TheVariants as works
use Rattle.papaya_core_timeline.specs.declared.trace.Event.{Event}
use Rattle.papaya_core_timeline.specs.declared.trace.Event.TheVariants.{Asked, Changed}
use Rattle.papaya_core_timeline.specs.Intends.{AnswersNow, Intends, TakesOut}
use Rattle.papaya_core_timeline.specs.ScanGoes.{event_of_scan}
use Rattle.papaya_core_timeline.proofs.CallersLemmas.{same_item}
use Rattle.papaya_core_timeline.proofs.ScanMoves.{quiet, stage_quiet}

-- an event has no such change
abbrev IsNone : StepKind → (old new : Option ℕ) → Event → Type 0
IsNone kind old new e = e ≡ Changed kind old new → ⊥

-- a scan that changes the map takes out the pair that it was about to
pub takes_told : (state : ScannerState) (ask : ScanAsk) → asks_in state ≡ Some ask → (a : Answer) (kind : StepKind) (n : ℕ) (new : Option ℕ)
    → event_of_scan (kind_in state) ask a ≡ Changed kind (Some n) new → TakesOut state n
takes_told (Copying stage) ask asks a kind n new e = absurd
    (stage_quiet (IsNone kind (Some n) new) (λ f. absurd cc) (λ k f. absurd cc) stage (resizers.asks_in stage) ask asks a e)
takes_told AtRoot ask asks a kind n new e = absurd
    (quiet (IsNone kind (Some n) new) (λ f. absurd cc) None (Load words_at.Root) (λ y. refl) a
    (ap (λ y. event_of_scan None y a) (same_item (Copy (Load words_at.Root)) ask asks) ∙ e))
takes_told (Sizing table) ask asks a kind n new e = absurd
    (quiet (IsNone kind (Some n) new) (λ f. absurd cc) None (SizeOf table) (λ y. refl) a
    (ap (λ y. event_of_scan None y a) (same_item (Copy (SizeOf table)) ask asks) ∙ e))
takes_told (Looking spot) ask asks a kind n new e =
    let load = Load (words_at.Slot spot.table spot.slot) in
    absurd (quiet (IsNone kind (Some n) new) (λ f. absurd cc) None load (λ y. refl) a (ap (λ y. event_of_scan None y a) (same_item (Copy load) ask asks) ∙ e))
takes_told (Giving spot word) ask asks a kind n new e = absurd (gives a (ap (λ y. event_of_scan None y a) (same_item (Given (pair_in word)) ask asks) ∙ e))
  where
    gives : (a : Answer) → IsNone kind (Some n) new (event_of_scan None (Given (pair_in word)) a)
    gives (answers.Call Ok_done) f = absurd cc
    gives (answers.Call (Word_read w)) f = absurd cc
    gives (answers.Call Exchanged) f = absurd cc
    gives (answers.Call (Found_instead w)) f = absurd cc
    gives (answers.Call (Yes stays)) f = absurd cc
    gives (answers.Call (Op op)) f = absurd cc
    gives (answers.Call (Size slots limit)) f = absurd cc
    gives (answers.Call (Made_number m)) f = absurd cc
    gives (answers.Call (Was_refused refused)) f = absurd cc
    gives (answers.Hash hash) f = absurd cc
    gives (answers.Count count) f = absurd cc
takes_told (Showing spot word) ask asks a kind n new e = absurd (shows a (ap (λ y. event_of_scan None y a) (same_item (Show (pair_in word)) ask asks) ∙ e))
  where
    shows : (a : Answer) → IsNone kind (Some n) new (event_of_scan None (Show (pair_in word)) a)
    shows (answers.Call Ok_done) f = absurd cc
    shows (answers.Call (Word_read w)) f = absurd cc
    shows (answers.Call Exchanged) f = absurd cc
    shows (answers.Call (Found_instead w)) f = absurd cc
    shows (answers.Call (Yes stays)) f = absurd cc
    shows (answers.Call (Op op)) f = absurd cc
    shows (answers.Call (Size slots limit)) f = absurd cc
    shows (answers.Call (Made_number m)) f = absurd cc
    shows (answers.Call (Was_refused refused)) f = absurd cc
    shows (answers.Hash hash) f = absurd cc
    shows (answers.Count count) f = absurd cc
takes_told (Burying spot word) ask asks a kind n new e = takes a
    (ap (λ y. event_of_scan (Some Kind_bury) y a) (same_item (Copy (buries spot word)) ask asks) ∙ e)
  where
    takes : (a : Answer) → event_of_scan (Some Kind_bury) (Copy (buries spot word)) a ≡ Changed kind (Some n) new → pair_in word ≡ n
    takes (answers.Call Exchanged) f = cc f
    takes (answers.Call Ok_done) f = absurd cc
    takes (answers.Call (Word_read w)) f = absurd cc
    takes (answers.Call (Found_instead w)) f = absurd cc
    takes (answers.Call (Yes stays)) f = absurd cc
    takes (answers.Call (Op op)) f = absurd cc
    takes (answers.Call (Size slots limit)) f = absurd cc
    takes (answers.Call (Made_number m)) f = absurd cc
    takes (answers.Call (Was_refused refused)) f = absurd cc
    takes (answers.Hash hash) f = absurd cc
    takes (answers.Count count) f = absurd cc
takes_told (Uncounting spot) ask asks a kind n new e = absurd (counts a (ap (λ y. event_of_scan None y a) (sym (same_item ask _ (sym asks))) ∙ e))
  where
    counts : (a : Answer) → IsNone kind (Some n) new (event_of_scan None (AddToShard (negsuc 0)) a)
    counts (answers.Call told) f = absurd cc
    counts (answers.Hash hash) f = absurd cc
    counts (answers.Count count) f = absurd cc
takes_told Done ask asks a kind n new e = let f : None ≡ Some ask = asks in absurd cc
takes_told (Refused refused) ask asks a kind n new e = let f : None ≡ Some ask = asks in absurd cc

-- nothing is about to be taken out
abbrev TakesNone : ScannerState → Type 0
TakesNone state = (n : ℕ) → TakesOut state n → ⊥

looks_none : (spot : Spot) → TakesNone (looks spot)
looks_none spot = cond_both (nat_lt spot.slot spot.len) (Looking spot) Done TakesNone (λ _ n h. h) (λ _ n h. h)

next_none : (spot : Spot) → TakesNone (next spot)
next_none spot = looks_none (record spot { slot = spot.slot + 1 })

root_none : (root : ℕ) → TakesNone (at_root root)
root_none root = cond_both (root == 0) Done (Sizing root) TakesNone (λ _ n h. h) (λ _ n h. h)

-- a retain calls its closure with the pair that it meets
meets_none : (spot : Spot) (word : ℕ) (kind : Kind) → TakesNone (meets Retain spot word kind)
meets_none spot word kinds.Live = λ n h. h
meets_none spot word kinds.Marked = λ n h. h
meets_none spot word kinds.Copied = λ n h. h
meets_none spot word kinds.Empty = next_none spot
meets_none spot word kinds.Buried = next_none spot
meets_none spot word kinds.Closed = next_none spot

copied_none : (from then : Stage) → TakesNone (copied from then)
copied_none from stages.Done = root_none (found_by from)
copied_none from (stages.Refused refused) = λ n h. h
copied_none from stages.AtRoot = λ n h. h
copied_none from (stages.Opening table) = λ n h. h
copied_none from (stages.Looking root len room) = λ n h. h
copied_none from (stages.Linking link) = λ n h. h
copied_none from (stages.Copying root copying) = λ n h. h
copied_none from stage = λ n h. h

-- its closure returned that the pair does not stay
abbrev SaysNo : ScannerState → Answer → ℕ → Type 0
SaysNo state a n = (spot : Spot) × (word : ℕ) × (state ≡ Showing spot word) × (pair_in word ≡ n) × (a ≡ answers.Call (Yes false))

-- A retain is about to take out a pair if it was before, or if its closure returns so.
retain_takes : (mode : ResizeMode) (initial number : ℕ) (a : Answer) (state : ScannerState) (n : ℕ)
    → TakesOut (after_in Retain mode initial number a state) n → TakesOut state n ⊎ SaysNo state a n
retain_takes mode initial number a (Copying stage) n h = absurd (copied_none stage (resizers.after_in CopyAll mode initial number a stage) n h)
retain_takes mode initial number (answers.Call (Word_read root)) AtRoot n h = absurd (root_none root n h)
retain_takes mode initial number a AtRoot n h = absurd h
retain_takes mode initial number (answers.Call (Size slots limit)) (Sizing table) n h = absurd
    (looks_none (record { table = table; len = slots; slot = 0 }) n h)
retain_takes mode initial number a (Sizing table) n h = absurd h
retain_takes mode initial number (answers.Call (Word_read word)) (Looking spot) n h = absurd (meets_none spot word (kind_of word) n h)
retain_takes mode initial number a (Looking spot) n h = absurd h
retain_takes mode initial number (answers.Call Ok_done) (Giving spot word) n h = absurd (next_none spot n h)
retain_takes mode initial number a (Giving spot word) n h = absurd h
retain_takes mode initial number (answers.Call (Yes true)) (Showing spot word) n h = absurd (next_none spot n h)
retain_takes mode initial number (answers.Call (Yes false)) (Showing spot word) n h = inr (spot, word, refl, h, refl)
retain_takes mode initial number a (Showing spot word) n h = absurd h
retain_takes mode initial number (answers.Call Exchanged) (Burying spot word) n h = absurd h
retain_takes mode initial number (answers.Call (Found_instead other)) (Burying spot word) n h = absurd (meets_none spot other (kind_of other) n h)
retain_takes mode initial number a (Burying spot word) n h = inl h
retain_takes mode initial number (answers.Call Ok_done) (Uncounting spot) n h = absurd (next_none spot n h)
retain_takes mode initial number a (Uncounting spot) n h = absurd h
retain_takes mode initial number (answers.Call said) Done n h = absurd h
retain_takes mode initial number (answers.Hash hash) Done n h = absurd h
retain_takes mode initial number (answers.Count count) Done n h = absurd h
retain_takes mode initial number (answers.Call said) (Refused refused) n h = absurd h
retain_takes mode initial number (answers.Hash hash) (Refused refused) n h = absurd h
retain_takes mode initial number (answers.Count count) (Refused refused) n h = absurd h

module _ {K V S A : Type 0} (eq : K → K → Bool) (says : Says K V A) (hash : S → K → ℕ) (refuse : Bool) (s : StoreState K V S) (v : Scanning A)
    (ask : ScanAsk) (asked : ask_of v.scanner ≡ Some ask) (a : Answer) (s' : StoreState K V S) (v' : Scanning A)
    (performs : PerformsScan eq says hash refuse ask s v a s' v') (event : Event) (is : event ≡ event_of_scan (kind_of_ask v.scanner) ask a) where
  -- the closure returns so in this step
  says_no : (n : ℕ) → SaysNo v.scanner.state a n → AnswersNow says s' event (works.Scan v) (Some n) ops.Remove
  says_no n (spot, word, state, number, told) =
      let ask_is : Show n ≡ ask = same_item (Show n) ask (ap (λ m. Some (Show m)) (sym number) ∙ ap asks_in (sym state) ∙ asked) in
      let event_is : event ≡ Asked n false = is ∙ ap (λ y. event_of_scan (kind_of_ask v.scanner) y a) (sym ask_is)
      ∙ ap (event_of_scan (kind_of_ask v.scanner) (Show n)) told in
      let ((said, was, shows), same) = subst (λ y. PerformsScan eq says hash refuse y s v a s' v') (sym ask_is) performs in
      let answer : said ≡ Yes false = cc (was, told) in
      subst (λ e. AnswersNow says s' e (works.Scan v) (Some n) ops.Remove) (sym event_is) (by_shows said answer same shows)
    where
      by_shows : (said : Call_answer) → said ≡ Yes false → s' ≡ s → CallsClosure says n s v said v'
          → AnswersNow says s' (Asked n false) (works.Scan v) (Some n) ops.Remove
      by_shows said answer same (inl (none, ok, stays)) = let f : Yes false ≡ Ok_done = sym answer ∙ ok in absurd cc
      by_shows said answer same (inr (left, p, stays, left', had, there, gives, answers_so, then)) =
          let is_no : stays ≡ false = (let f : Yes stays ≡ Yes false = sym answers_so ∙ answer in cc) in
          record {
            told = (refl, refl, refl);
            answers = left;
            had = had;
            left = left';
            gives = (p, ap (λ (y : StoreState K V S). pair_of y n) same ∙ there, subst (λ y. says.yes left p.key p.value y left') is_no gives);
          }

  -- the scanner after the step
  abbrev later : Scanning A
  later = record v' { scanner = after v.scanner a }

  pub scan_intends : (shown : Option ℕ) (op : Operation V ℕ) → Intends s' (works.Scan later) shown op → Intends s (works.Scan v) shown op
      ⊎ AnswersNow says s' event (works.Scan v) shown op
  scan_intends (Some n) ops.Remove (retains, takes) =
      ⊎_elim
      (λ was. inl (retains, was))
      (λ now. inr (says_no n now))
      (retain_takes v.scanner.mode v.scanner.initial v.scanner.number a v.scanner.state n
      (subst (λ y. TakesOut (after_in y v.scanner.mode v.scanner.initial v.scanner.number a v.scanner.state) n) retains takes))
  scan_intends (Some n) (ops.Insert w) h = absurd h
  scan_intends (Some n) (ops.Abort t) h = absurd h
  scan_intends None op h = absurd h
