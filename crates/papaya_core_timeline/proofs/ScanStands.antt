-- A scan is within its table after each answer, and asks only for tables of sizes that tables may
-- have.
use Rattle.std.proofs.Common.{◌≡◌, ⊎_elim, ℕ, ◌+◌, ◌==◌, nat_lt, Bool, true, false, Option, None, Some, List, refl, sym, ap, ◌∙◌, subst, leb-true}
use Rattle.std.proofs.lemmas.Bool.{cond_both}
use Rattle.papaya_words.specs.Word.{kind_of}
use Rattle.papaya_words.specs.declared.word.Kind.{Kind}
use Rattle.papaya_words.specs.declared.word.Kind.TheVariants as kinds
use Rattle.papaya_call.specs.declared.ask.Answer.{Answer as Call_answer}
use Rattle.papaya_call.specs.declared.ask.Answer.TheVariants.{Word, Exchanged, Found, Yes, Size, Ok}
use Rattle.papaya_call.specs.declared.ask.At.TheVariants as words_at
use Rattle.papaya_call.specs.declared.copy_ask.CopyAsk.{CopyAsk}
use Rattle.papaya_call.specs.declared.copy_ask.CopyAsk.TheVariants.{Load, SizeOf}
use Rattle.papaya_call.specs.Answers.{Says}
use Rattle.papaya_call.specs.Link.{IsFitCopyAsk}
use Rattle.papaya_call.specs.declared.chain.ask.Answer.{Answer}
use Rattle.papaya_call.specs.declared.chain.ask.Answer.TheVariants as answers
use Rattle.papaya_call.specs.declared.chain.resizer.Resize.TheVariants.{CopyAll}
use Rattle.papaya_call.specs.declared.chain.resizer.ResizerState.{ResizerState as Stage}
use Rattle.papaya_call.specs.declared.chain.resizer.ResizerState.TheVariants as stages
use Rattle.papaya_call.specs.ChainMachine.{IsFit}
use Rattle.papaya_call.specs.Resizer as resizers
use Rattle.papaya_core_store.specs.Store.{StoreState}
use Rattle.papaya_core_timeline.specs.declared.seat.Seat.{Seat}
use Rattle.papaya_core_timeline.specs.Core.{IsCore}
use Rattle.papaya_core_timeline.proofs.ResizerStands.{resizer_fits, resizer_stands}
use Rattle.papaya_core_timeline.proofs.StoreLemmas.{AllSized, IsKeptAsked, numbered, performed_copy, unnumbered}
use Rattle.papaya_call.specs.declared.chain.ask.ScanAsk.{ScanAsk}
use Rattle.papaya_call.specs.declared.chain.ask.ScanAsk.TheVariants.{Copy, Show, Given, AddToShard}
use Rattle.papaya_call.specs.declared.chain.scanner.Spot.{Spot}
use Rattle.papaya_call.specs.declared.chain.scanner.ScannerState.{ScannerState}
use Rattle.papaya_call.specs.declared.chain.scanner.ScannerState.TheVariants.{Copying, AtRoot, Sizing, Looking, Giving, Showing, Burying, Uncounting, Done, Refused}
use Rattle.papaya_call.specs.declared.chain.scanner.Scan.{Scan}
use Rattle.papaya_call.specs.declared.chain.scanner.Scan.TheVariants.{Clear, Retain, Walk}
use Rattle.papaya_call.specs.declared.chain.scanner.Scanner.{Scanner}
use Rattle.papaya_call.specs.Scanner.{IsValidIn, IsValidScanner, IsValidSpot, after}
use Rattle.papaya_call.specs.Scanner.{after_in, ask_of, asks_in, at_root, copied, copy_asks}
use Rattle.papaya_call.specs.Scanner.{buries, found_by, looks, meets, next, resizer_of, scanned}
use Rattle.papaya_call.specs.Scanner.{shown, told}
use Rattle.papaya_core_store.specs.declared.scans.Scanning.{Scanning}
use Rattle.papaya_core_store.specs.Scans.{PerformsScan}
use Rattle.papaya_core_store.specs.declared.store.Mode.{Mode}

-- a slot that the scan reads is one of its table
looks_stands : (spot : Spot) → IsValidIn (looks spot)
looks_stands spot = cond_both (nat_lt spot.slot spot.len) (Looking spot) Done IsValidIn (λ within. leb-true _ _ within) (λ _. tt)

next_stands : (spot : Spot) → IsValidIn (next spot)
next_stands spot = looks_stands (record spot { slot = spot.slot + 1 })

root_stands : (root : ℕ) → IsValidIn (at_root root)
root_stands root = cond_both (root == 0) Done (Sizing root) IsValidIn (λ _. tt) (λ _. tt)

shown_stands : (spot : Spot) (word : ℕ) (stays : Bool) → IsValidSpot spot → IsValidIn (shown spot word stays)
shown_stands spot word true stands = next_stands spot
shown_stands spot word false stands = stands

meets_stands : (scan : Scan) (spot : Spot) (word : ℕ) (kind : Kind) → IsValidSpot spot → IsValidIn (meets scan spot word kind)
meets_stands Clear spot word kinds.Live stands = stands
meets_stands Retain spot word kinds.Live stands = stands
meets_stands Walk spot word kinds.Live stands = stands
meets_stands Walk spot word kinds.Marked stands = stands
meets_stands Walk spot word kinds.Copied stands = stands
meets_stands Clear spot word kinds.Marked stands = tt
meets_stands Clear spot word kinds.Copied stands = tt
meets_stands Retain spot word kinds.Marked stands = tt
meets_stands Retain spot word kinds.Copied stands = tt
meets_stands scan spot word kind stands = next_stands spot

-- after each answer while nothing is copied
told_stands : (scan : Scan) (state : ScannerState) (answer : Call_answer) → IsValidIn state → IsValidIn (told scan state answer)
told_stands scan AtRoot (Word root) stands = root_stands root
told_stands scan (Sizing table) (Size slots limit) stands = looks_stands (record { table = table; len = slots; slot = 0 })
told_stands scan (Looking spot) (Word word) stands = meets_stands scan spot word (kind_of word) stands
told_stands scan (Giving spot word) Ok stands = next_stands spot
told_stands scan (Showing spot word) (Yes stays) stands = shown_stands spot word stays stands
told_stands scan (Burying spot word) Exchanged stands = stands
told_stands scan (Burying spot word) (Found other) stands = meets_stands scan spot other (kind_of other) stands
told_stands scan (Uncounting spot) Ok stands = next_stands spot
told_stands scan state answer stands = stands

scanned_stands : (scan : Scan) (state : ScannerState) (answer : Answer) → IsValidIn state → IsValidIn (scanned scan state answer)
scanned_stands scan state (answers.Call answer) stands = told_stands scan state answer stands
scanned_stands scan state (answers.Hash hash) stands = stands
scanned_stands scan state (answers.Count count) stands = stands

-- and after the copy of all tables
copied_stands : (from to : Stage) → resizers.IsValidIn to → IsValidIn (copied from to)
copied_stands from stages.Done stands = root_stands (found_by from)
copied_stands from (stages.Refused refused) stands = tt
copied_stands from stages.AtRoot stands = stands
copied_stands from (stages.Making room) stands = stands
copied_stands from (stages.Opening table) stands = stands
copied_stands from (stages.Sizing root) stands = stands
copied_stands from (stages.Counting root len) stands = stands
copied_stands from (stages.Looking root len room) stands = stands
copied_stands from (stages.Linking link) stands = stands
copied_stands from (stages.Copying root copying) stands = stands

module _ (scanner : Scanner) (stands : IsValidScanner scanner) (answer : Answer) (fit : IsFit answer) where
  state_stands : (state : ScannerState) → IsValidIn state → IsValidIn (after_in scanner.scan scanner.mode scanner.initial scanner.number answer state)
  state_stands (Copying stage) h = copied_stands stage (resizers.after_in CopyAll scanner.mode scanner.initial scanner.number answer stage)
      (resizer_stands (resizer_of scanner stage) answer (record { chunked = stands.chunked; initial = stands.initial; state = h }) fit).state
  state_stands AtRoot h = scanned_stands scanner.scan AtRoot answer h
  state_stands (Sizing table) h = scanned_stands scanner.scan (Sizing table) answer h
  state_stands (Looking spot) h = scanned_stands scanner.scan (Looking spot) answer h
  state_stands (Giving spot word) h = scanned_stands scanner.scan (Giving spot word) answer h
  state_stands (Showing spot word) h = scanned_stands scanner.scan (Showing spot word) answer h
  state_stands (Burying spot word) h = scanned_stands scanner.scan (Burying spot word) answer h
  state_stands (Uncounting spot) h = scanned_stands scanner.scan (Uncounting spot) answer h
  state_stands Done h = scanned_stands scanner.scan Done answer h
  state_stands (Refused refused) h = scanned_stands scanner.scan (Refused refused) answer h

  -- it is valid after an answer
  pub scanner_stands : IsValidScanner (after scanner answer)
  scanner_stands = record { chunked = stands.chunked; initial = stands.initial; state = state_stands scanner.state stands.state }

module _ (scanner : Scanner) (stands : IsValidScanner scanner) where
  copy_fits : (stage : Stage) → resizers.IsValidIn stage → (o : Option CopyAsk) → resizers.asks_in stage ≡ o → (ask : CopyAsk)
      → copy_asks o ≡ Some (Copy ask) → IsFitCopyAsk ask
  copy_fits stage h None is ask e = absurd cc
  copy_fits stage h (Some a) is ask e =
      let one : a ≡ ask = cc e in
      subst IsFitCopyAsk one (resizer_fits (resizer_of scanner stage) (record { chunked = stands.chunked; initial = stands.initial; state = h }) a is)

  fits_in : (state : ScannerState) → IsValidIn state → (ask : CopyAsk) → asks_in state ≡ Some (Copy ask) → IsFitCopyAsk ask
  fits_in (Copying stage) h ask e = copy_fits stage h (resizers.asks_in stage) refl ask e
  fits_in AtRoot h ask e = let one : Load words_at.Root ≡ ask = cc e in subst IsFitCopyAsk one tt
  fits_in (Sizing table) h ask e = let one : SizeOf table ≡ ask = cc e in subst IsFitCopyAsk one tt
  fits_in (Looking spot) h ask e = let one : Load (words_at.Slot spot.table spot.slot) ≡ ask = cc e in subst IsFitCopyAsk one tt
  fits_in (Burying spot word) h ask e = let one : buries spot word ≡ ask = cc e in subst IsFitCopyAsk one tt
  fits_in (Giving spot word) h ask e = absurd cc
  fits_in (Showing spot word) h ask e = absurd cc
  fits_in (Uncounting spot) h ask e = absurd cc
  fits_in Done h ask e = absurd cc
  fits_in (Refused refused) h ask e = absurd cc

  -- it asks for no other tables
  pub scanner_fits : (ask : CopyAsk) → ask_of scanner ≡ Some (Copy ask) → IsFitCopyAsk ask
  scanner_fits ask e = fits_in scanner.state stands.state ask e

module _ {K V S A : Type 0} (eq : K → K → Bool) (says : Says K V A) (hash : S → K → ℕ) (refuse : Bool) (store : StoreState K V S)
    (callers : List (Seat K V A)) (mode : Mode) (core : IsCore store callers mode) (v : Scanning A) (stands : IsValidScanner v.scanner)
    (a : Answer) (store' : StoreState K V S) (v' : Scanning A) where
  all_sized : AllSized store.words.tables
  all_sized = unnumbered store.words.tables core.sizes

  -- if the words stay
  same_words : store'.words ≡ store.words → IsFit a → IsKeptAsked a store'
  same_words same fit = record { fit = fit; sized = subst (λ w. AllSized w.tables) (sym same) all_sized }

  -- the answer to each ask fits, and keeps the sizes of tables
  kept_asked : (ask : ScanAsk) → ask_of v.scanner ≡ Some ask → PerformsScan eq says hash refuse ask store v a store' v' → IsKeptAsked a store'
  kept_asked (Copy ask) asks (performs, same) = performed_copy eq hash refuse ask store a store' all_sized (scanner_fits v.scanner stands ask asks) performs
  kept_asked (Show n) asks ((told, is, how), same) =
      same_words (ap (λ (y : StoreState K V S). y.words) same)
      (⊎_elim (λ nothing. subst IsFit (sym (is ∙ ap answers.Call nothing.1)) tt)
      (λ (shown : _). let (x, p, stays, x', had, there, said, yes_so, left) = shown in subst IsFit (sym (is ∙ ap answers.Call yes_so)) tt) how)
  kept_asked (Given n) asks ((told, is, how), same) =
      same_words (ap (λ (y : StoreState K V S). y.words) same)
      (⊎_elim (λ given. subst IsFit (sym (is ∙ ap answers.Call given.0)) tt) (λ lost. subst IsFit (sym (is ∙ ap answers.Call lost.0)) tt) how)
  kept_asked (AddToShard by) asks (is, counted, same) = same_words (ap (λ (y : StoreState K V S). y.words) counted.1) (subst IsFit (sym is) tt)

  -- so the core stays in order, and the scanner within its table
  pub scan_core : (ask : ScanAsk) → ask_of v.scanner ≡ Some ask → PerformsScan eq says hash refuse ask store v a store' v'
      → IsCore store' callers mode × IsFit a × IsValidScanner (after v.scanner a)
  scan_core ask asks performs =
      let kept = kept_asked ask asks performs in (
        record {
          chunked = core.chunked;
          limit = core.limit;
          sizes = numbered store'.words.tables kept.sized;
          valid = core.valid;
          going = core.going;
          resizers = core.resizers;
          scanners = core.scanners;
        },
        kept.fit,
        scanner_stands v.scanner stands a kept.fit,
      )
