-- While the root has no next table a scan copies nothing.
use Rattle.std.proofs.Common.{◌≡◌, ℕ, ◌+◌, ◌==◌, nat_lt, Bool, true, false, Option, None, Some, List, [], ◌∷◌, ◌++◌, append-nil, refl, sym, ap, ◌∙◌, subst}
use Rattle.std.proofs.lemmas.Bool.{cond_both}
use Rattle.papaya_words.specs.Word.{kind_of}
use Rattle.papaya_words.specs.declared.refused.Refused.{Refused as Cause}
use Rattle.papaya_words.specs.declared.resize_mode.ResizeMode.{ResizeMode}
use Rattle.papaya_words.specs.declared.resize_mode.ResizeMode.TheVariants.{Incremental, Blocking}
use Rattle.papaya_call.specs.declared.ask.Answer.TheVariants.{Word as Word_read, Found, Yes, Size, Ok}
use Rattle.papaya_call.specs.declared.ask.At.TheVariants.{Root, Next, Slot}
use Rattle.papaya_call.specs.declared.call.Reply.TheVariants.{Refused as Reply_refused}
use Rattle.papaya_call.specs.declared.copy_ask.CopyAsk.TheVariants.{Load, SizeOf}
use Rattle.papaya_call.specs.declared.chain.ask.Answer.{Answer}
use Rattle.papaya_call.specs.declared.chain.ask.Answer.TheVariants as answers
use Rattle.papaya_call.specs.declared.chain.resizer.ResizerState.{ResizerState as Stage}
use Rattle.papaya_call.specs.declared.chain.resizer.ResizerState.TheVariants as stages
use Rattle.papaya_words_law.specs.Code.{Coding, code, kind}
use Rattle.papaya_words_law.specs.Exchange.{Word, Empty, Closed, Live, Marked, Copied as Copied_word, Buried, Setting, State as Words, Exchange, Bury, run}
use Rattle.papaya_words_law.proofs.Codes.{code_kind}
use Rattle.papaya_words_law.proofs.Moments.{run-append}
use Rattle.papaya_call_law.proofs.ReliesLearn.{by_test}
use Rattle.papaya_call_law.proofs.ResizerRelies.{told_of_ask}
use Rattle.papaya_call.specs.declared.chain.scanner.Spot.{Spot}
use Rattle.papaya_call.specs.declared.chain.scanner.ScannerState.{ScannerState}
use Rattle.papaya_call.specs.declared.chain.scanner.ScannerState.TheVariants.{Copying, AtRoot, Sizing, Looking, Giving, Showing, Burying, Uncounting, Done, Refused}
use Rattle.papaya_call.specs.declared.chain.scanner.Scan.{Scan}
use Rattle.papaya_call.specs.declared.chain.scanner.Scan.TheVariants.{Clear, Retain, Walk}
use Rattle.papaya_call.specs.declared.chain.scanner.Scanner.{Scanner}
use Rattle.papaya_call.specs.Scanner.{after_in, at_root, begun_in, copied, first_in, looks, meets, next, reply_in, shown}
use Rattle.papaya_call_law.specs.ScanAnswers.{IsCopyAnswer, IsBuried, IsFoundThere, IsTrueOfScan, LoadedPairs}
use Rattle.papaya_call_law.specs.Scans.{ReliesState}
use Rattle.papaya_call_law.specs.ScanOutcomes.{IsAtRoot}
use Rattle.papaya_call_law.proofs.ScanOutcomes.{asked}

-- one that begins
pub begun_at : {P : Type 0} → (s : Words P) (mode : ResizeMode) → IsAtRoot s (begun_in mode)
begun_at s (Incremental chunk) = tt
begun_at s Blocking = tt

-- it does not fail
pub root_unrefused : {P : Type 0} → (s : Words P) (state : ScannerState) (refused : Cause) → IsAtRoot s state → reply_in state ≡ Some (Reply_refused refused) → ⊥
root_unrefused s (Refused cause) refused at e = at
root_unrefused s (Copying stage) refused at e = cc e
root_unrefused s AtRoot refused at e = cc e
root_unrefused s (Sizing table) refused at e = cc e
root_unrefused s (Looking spot) refused at e = cc e
root_unrefused s (Giving spot word) refused at e = cc e
root_unrefused s (Showing spot word) refused at e = cc e
root_unrefused s (Burying spot word) refused at e = cc e
root_unrefused s (Uncounting spot) refused at e = cc e
root_unrefused s Done refused at e = cc e

module _ {P : Type 0} (s : Words P) where
  -- a slot of the root, and the root
  looks_at : (spot : Spot) → s.root ≡ spot.table → IsAtRoot s (looks spot)
  looks_at spot at = cond_both (nat_lt spot.slot spot.len) (Looking spot) Done (IsAtRoot s) (λ _. at) (λ _. tt)

  next_at : (spot : Spot) → s.root ≡ spot.table → IsAtRoot s (next spot)
  next_at spot at = looks_at (record spot { slot = spot.slot + 1 }) at

  root_at : (root : ℕ) → s.root ≡ root → IsAtRoot s (at_root root)
  root_at root at = cond_both (root == 0) Done (Sizing root) (IsAtRoot s) (λ _. tt) (λ _. at)

  shown_at : (spot : Spot) (word : ℕ) (stays : Bool) → s.root ≡ spot.table → IsAtRoot s (shown spot word stays)
  shown_at spot word true at = next_at spot at
  shown_at spot word false at = at

  -- a word that a copier has changed sends it to the root
  meets_at : (scan : Scan) (spot : Spot) (word : ℕ) → s.root ≡ spot.table → (w : Word P) → IsAtRoot s (meets scan spot word (kind w))
  meets_at Clear spot word at (Live p) = at
  meets_at Retain spot word at (Live p) = at
  meets_at Walk spot word at (Live p) = at
  meets_at Walk spot word at (Marked p) = at
  meets_at Walk spot word at (Copied_word p) = at
  meets_at Clear spot word at (Marked p) = tt
  meets_at Clear spot word at (Copied_word p) = tt
  meets_at Retain spot word at (Marked p) = tt
  meets_at Retain spot word at (Copied_word p) = tt
  meets_at Clear spot word at Empty = next_at spot at
  meets_at Clear spot word at Closed = next_at spot at
  meets_at Clear spot word at (Buried p) = next_at spot at
  meets_at Retain spot word at Empty = next_at spot at
  meets_at Retain spot word at Closed = next_at spot at
  meets_at Retain spot word at (Buried p) = next_at spot at
  meets_at Walk spot word at Empty = next_at spot at
  meets_at Walk spot word at Closed = next_at spot at
  meets_at Walk spot word at (Buried p) = next_at spot at

module _ {K P : Type 0} (g : Setting K P) (c : Coding K P) (s : Words P) (m : K → Option P) (since : List (Exchange P)) (scanner : Scanner)
    (loaded : LoadedPairs P) (answer : Answer) (es : List (Exchange P)) (loaded' : LoadedPairs P) where
  -- the words after all exchanges
  abbrev now : Words P
  now = run since s

  -- the next state, after an answer
  abbrev Goes : Answer → ScannerState → ScannerState
  Goes = after_in scanner.scan scanner.mode scanner.initial scanner.number

  module _ (calm : now.next now.root ≡ 0) where
    -- it is at a root without a next table
    abbrev Stands : Words P → Answer → ScannerState → Type 0
    Stands w a state = (w.next w.root ≡ 0) × IsAtRoot w (Goes a state)

    -- if nothing was exchanged
    quiet : (state : ScannerState) (answer' : Answer) → answer ≡ answer' → es ≡ [] → IsAtRoot now (Goes answer' state) → Stands (run (since ++ es) s) answer state
    quiet state answer' is none r =
        let same : run (since ++ es) s ≡ now = ap (λ l. run (since ++ l) s) none ∙ ap (λ l. run l s) (append-nil since) in
        subst (λ w. Stands w answer state) (sym same) (calm, subst (λ a. IsAtRoot now (Goes a state)) (sym is) r)

    -- the words that may be in a slot of the root
    word_at : (spot : Spot) → now.root ≡ spot.table
        → IsAtRoot now (meets scanner.scan spot (code g c (now.slot spot.table spot.slot)) (kind_of (code g c (now.slot spot.table spot.slot))))
    word_at spot at =
        subst (λ a. IsAtRoot now (meets scanner.scan spot (code g c (now.slot spot.table spot.slot)) a))
        (sym (code_kind g c (now.slot spot.table spot.slot)))
        (meets_at now scanner.scan spot (code g c (now.slot spot.table spot.slot)) at (now.slot spot.table spot.slot))

    -- the copy of all finds the root, and no next table
    copy_at : (stage : Stage) → ReliesState g c s m since scanner.scan loaded (Copying stage) → IsAtRoot now (Copying stage)
        → IsCopyAnswer g c now since stage loaded answer es loaded' → Stands (run (since ++ es) s) answer (Copying stage)
    copy_at stages.AtRoot r at t =
        let h = told_of_ask g c now loaded.copy stages.AtRoot (Load Root) refl answer es t.copy t.told in
        quiet (Copying stages.AtRoot) (answers.Call (Word_read now.root)) h.0 h.1
        (cond_both (now.root == 0) stages.Done (stages.Looking now.root 0 None) (λ y. IsAtRoot now (copied stages.AtRoot y)) (λ _. tt) (λ _. refl))
    copy_at (stages.Looking root len None) r at t =
        let h = told_of_ask g c now loaded.copy (stages.Looking root len None) (Load (Next root)) refl answer es t.copy t.told in
        let none : now.next root ≡ 0 = ap now.next (sym at) ∙ calm in
        quiet (Copying (stages.Looking root len None)) (answers.Call (Word_read 0)) (h.0 ∙ ap (λ n. answers.Call (Word_read n)) none) h.1 (root_at now root at)
    copy_at (stages.Looking root len (Some room)) r at t = let no = r.1.1 in absurd (cc no)
    copy_at (stages.Copying from copying) r at t = absurd at
    copy_at (stages.Making room) r at t = absurd at
    copy_at (stages.Opening table) r at t = absurd at
    copy_at (stages.Sizing root) r at t = absurd at
    copy_at (stages.Counting root len) r at t = absurd at
    copy_at (stages.Linking link) r at t = absurd at
    copy_at stages.Done r at t = absurd at
    copy_at (stages.Refused refused) r at t = absurd at

    -- in each state
    pub state_stands : (state : ScannerState) → ReliesState g c s m since scanner.scan loaded state → IsAtRoot now state
        → IsTrueOfScan g c now since state loaded answer es loaded' → Stands (run (since ++ es) s) answer state
    state_stands (Copying stage) r at told = copy_at stage r at told
    state_stands AtRoot r at told =
        let h = asked g c s m since scanner loaded answer es loaded' AtRoot (since ++ es) (Load Root) refl told in
        quiet AtRoot (answers.Call (Word_read now.root)) h.0 h.1 (root_at now now.root refl)
    state_stands (Sizing table) r at told =
        let h = asked g c s m since scanner loaded answer es loaded' (Sizing table) loaded.before (SizeOf table) refl told in
        quiet (Sizing table) (answers.Call (Size (g.size table) h.0.0)) h.0.2 h.1.0 (looks_at now (first_in table (g.size table)) at)
    state_stands (Looking spot) r at told =
        let h = asked g c s m since scanner loaded answer es loaded' (Looking spot) loaded.before (Load (Slot spot.table spot.slot)) refl told in
        quiet (Looking spot) (answers.Call (Word_read (code g c (now.slot spot.table spot.slot)))) h.0 h.1 (word_at spot at)
    state_stands (Giving spot word) r at told = quiet (Giving spot word) (answers.Call Ok) told.is told.none (next_at now spot at)
    state_stands (Showing spot word) r at told = quiet (Showing spot word) (answers.Call (Yes told.stays)) told.is told.none
        (shown_at now spot word told.stays at)
    state_stands (Burying spot word) r at told =
        by_test (code g c (now.slot spot.table spot.slot) == word) (IsBuried g c now since spot loaded answer es loaded')
        (IsFoundThere g c now since spot loaded answer es loaded') (Stands (run (since ++ es) s) answer (Burying spot word)) told
        (λ _ t.
        let e : Exchange P = Bury spot.table spot.slot t.pair in
        let same : run (since ++ es) s ≡ run (e ∷ []) now = ap (λ l. run (since ++ l) s) t.one ∙ run-append since (e ∷ []) s in
        subst (λ w. Stands w answer (Burying spot word)) (sym same)
        (calm, subst (λ a. IsAtRoot (run (e ∷ []) now) (Goes a (Burying spot word))) (sym t.is) at))
        (λ _ t. quiet (Burying spot word) (answers.Call (Found (code g c (now.slot spot.table spot.slot)))) t.is t.none (word_at spot at))
    state_stands (Uncounting spot) r at told = quiet (Uncounting spot) (answers.Call Ok) told.0 told.1 (next_at now spot at)
    state_stands Done r at told = let no = told.asks in absurd (cc no)
    state_stands (Refused refused) r at told = absurd at
