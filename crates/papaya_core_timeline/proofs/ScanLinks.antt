-- A table that a scan is about to link was made; a scan makes tables only for the copy of all
-- tables.
use Rattle.std.proofs.Common.{◌≡◌, Some, ℕ, ◌+◌, ◌==◌, nat_lt, Bool, true, false, refl}
use Rattle.std.proofs.lemmas.Bool.{cond_both}
use Rattle.papaya_words.specs.declared.resize_mode.ResizeMode.{ResizeMode}
use Rattle.papaya_words.specs.declared.word.Kind.{Kind}
use Rattle.papaya_words.specs.declared.word.Kind.TheVariants as kinds
use Rattle.papaya_words.specs.Word.{kind_of}
use Rattle.papaya_call.specs.declared.ask.Answer.{Answer as Call_answer}
use Rattle.papaya_call.specs.declared.ask.Answer.TheVariants.{Word, Exchanged, Found, Yes, Size, Made as Made_number, Ok}
use Rattle.papaya_call.specs.declared.copy_ask.CopyAsk.TheVariants.{MakeTable}
use Rattle.papaya_call.specs.declared.copy.link.Link.{Link}
use Rattle.papaya_call.specs.declared.copy.link.Link.TheVariants as links
use Rattle.papaya_call.specs.declared.chain.ask.Answer.{Answer}
use Rattle.papaya_call.specs.declared.chain.ask.Answer.TheVariants as answers
use Rattle.papaya_call.specs.declared.chain.resizer.Resize.TheVariants.{CopyAll}
use Rattle.papaya_call.specs.declared.chain.resizer.ResizerState.{ResizerState as Stage}
use Rattle.papaya_call.specs.declared.chain.resizer.ResizerState.TheVariants as stages
use Rattle.papaya_call.specs.Resizer as resizers
use Rattle.papaya_call_law.specs.Resizers.{HasLink}
use Rattle.papaya_core_timeline.proofs.ResizerTables.{stage_is, stage_links, stage_made}
use Rattle.papaya_core_timeline.specs.Kept.{IsScanLink}
use Rattle.papaya_call.specs.declared.chain.scanner.Spot.{Spot}
use Rattle.papaya_call.specs.declared.chain.scanner.ScannerState.{ScannerState}
use Rattle.papaya_call.specs.declared.chain.scanner.ScannerState.TheVariants.{Copying, AtRoot, Sizing, Looking, Giving, Showing, Burying, Uncounting, Done, Refused}
use Rattle.papaya_call.specs.declared.chain.scanner.Scan.{Scan}
use Rattle.papaya_call.specs.declared.chain.scanner.Scan.TheVariants.{Clear, Retain, Walk}
use Rattle.papaya_call.specs.Scanner.{after_in, at_root, copied, found_by, looks, meets, next, scanned, shown, told}

-- no table is about to be linked
abbrev LinksNone : ScannerState → Type 0
LinksNone state = (link : Link) → IsScanLink state link → ⊥

looks_none : (spot : Spot) → LinksNone (looks spot)
looks_none spot = cond_both (nat_lt spot.slot spot.len) (Looking spot) Done LinksNone (λ _ link h. h) (λ _ link h. h)

next_none : (spot : Spot) → LinksNone (next spot)
next_none spot = looks_none (record spot { slot = spot.slot + 1 })

root_none : (root : ℕ) → LinksNone (at_root root)
root_none root = cond_both (root == 0) Done (Sizing root) LinksNone (λ _ link h. h) (λ _ link h. h)

shown_none : (spot : Spot) (word : ℕ) (stays : Bool) → LinksNone (shown spot word stays)
shown_none spot word true = next_none spot
shown_none spot word false = λ link h. h

meets_none : (scan : Scan) (spot : Spot) (word : ℕ) (kind : Kind) → LinksNone (meets scan spot word kind)
meets_none Clear spot word kinds.Live = λ link h. h
meets_none Retain spot word kinds.Live = λ link h. h
meets_none Walk spot word kinds.Live = λ link h. h
meets_none Walk spot word kinds.Marked = λ link h. h
meets_none Walk spot word kinds.Copied = λ link h. h
meets_none Clear spot word kinds.Marked = λ link h. h
meets_none Clear spot word kinds.Copied = λ link h. h
meets_none Retain spot word kinds.Marked = λ link h. h
meets_none Retain spot word kinds.Copied = λ link h. h
meets_none scan spot word kind = next_none spot

-- after each answer while nothing is copied
told_none : (scan : Scan) (state : ScannerState) (answer : Call_answer) → LinksNone state → LinksNone (told scan state answer)
told_none scan AtRoot (Word root) none = root_none root
told_none scan (Sizing table) (Size slots limit) none = looks_none (record { table = table; len = slots; slot = 0 })
told_none scan (Looking spot) (Word word) none = meets_none scan spot word (kind_of word)
told_none scan (Giving spot word) Ok none = next_none spot
told_none scan (Showing spot word) (Yes stays) none = shown_none spot word stays
told_none scan (Burying spot word) Exchanged none = λ link h. h
told_none scan (Burying spot word) (Found other) none = meets_none scan spot other (kind_of other)
told_none scan (Uncounting spot) Ok none = next_none spot
told_none scan state answer none = none

scanned_none : (scan : Scan) (state : ScannerState) (answer : Answer) → LinksNone state → LinksNone (scanned scan state answer)
scanned_none scan state (answers.Call answer) none = told_none scan state answer none
scanned_none scan state (answers.Hash hash) none = none
scanned_none scan state (answers.Count count) none = none

-- the copy of all tables has a link of its own
copied_link : (from to : Stage) (link : Link) → IsScanLink (copied from to) link → HasLink to link
copied_link from stages.Done link h = absurd (root_none (found_by from) link h)
copied_link from (stages.Refused refused) link h = h
copied_link from stages.AtRoot link h = h
copied_link from (stages.Making room) link h = h
copied_link from (stages.Opening table) link h = h
copied_link from (stages.Sizing root) link h = h
copied_link from (stages.Counting root len) link h = h
copied_link from (stages.Looking root len room) link h = h
copied_link from (stages.Linking other) link h = h
copied_link from (stages.Copying root copying) link h = h

module _ (Made : (table chunks : ℕ) → Type 0) (scan : Scan) (mode : ResizeMode) (initial number : ℕ) (answer : Answer) where
  -- the table that it is about to link was made
  abbrev pub LinksMade : ScannerState → Type 0
  LinksMade state = (behind t chunks : ℕ) → IsScanLink state (links.Linking behind t chunks) → Made t chunks

  no_links : (state : ScannerState) → LinksNone state → LinksMade state
  no_links state none behind t chunks h = absurd (none (links.Linking behind t chunks) h)

  copied_made : (stage : Stage) → ((n slots limit chunks : ℕ) → answer ≡ answers.Call (Made_number n)
      → resizers.asks_in stage ≡ Some (MakeTable slots limit chunks) → Made n chunks) → ((t : ℕ) → stage ≡ stages.Opening t → Made t 0)
      → LinksMade (Copying stage) → LinksMade (after_in scan mode initial number answer (Copying stage))
  copied_made stage new opens links_are behind t chunks h =
      let to : Stage = resizers.after_in CopyAll mode initial number answer stage in
      stage_links Made to (stage_made Made CopyAll mode initial number answer stage new (stage_is Made stage opens links_are)) behind t chunks
      (copied_link stage to (links.Linking behind t chunks) h)

  pub links_made : (state : ScannerState) → ((stage : Stage) → state ≡ Copying stage → (n slots limit chunks : ℕ) → answer ≡ answers.Call (Made_number n)
      → resizers.asks_in stage ≡ Some (MakeTable slots limit chunks) → Made n chunks)
      → ((stage : Stage) → state ≡ Copying stage → (t : ℕ) → stage ≡ stages.Opening t → Made t 0) → LinksMade state
      → LinksMade (after_in scan mode initial number answer state)
  links_made (Copying stage) new opens links_are = copied_made stage (new stage refl) (opens stage refl) links_are
  links_made AtRoot new opens links_are = no_links (scanned scan AtRoot answer) (scanned_none scan AtRoot answer (λ link h. h))
  links_made (Sizing table) new opens links_are = no_links (scanned scan (Sizing table) answer) (scanned_none scan (Sizing table) answer (λ link h. h))
  links_made (Looking spot) new opens links_are = no_links (scanned scan (Looking spot) answer) (scanned_none scan (Looking spot) answer (λ link h. h))
  links_made (Giving spot word) new opens links_are = no_links (scanned scan (Giving spot word) answer)
      (scanned_none scan (Giving spot word) answer (λ link h. h))
  links_made (Showing spot word) new opens links_are = no_links (scanned scan (Showing spot word) answer)
      (scanned_none scan (Showing spot word) answer (λ link h. h))
  links_made (Burying spot word) new opens links_are = no_links (scanned scan (Burying spot word) answer)
      (scanned_none scan (Burying spot word) answer (λ link h. h))
  links_made (Uncounting spot) new opens links_are = no_links (scanned scan (Uncounting spot) answer) (scanned_none scan (Uncounting spot) answer (λ link h. h))
  links_made Done new opens links_are = no_links (scanned scan Done answer) (scanned_none scan Done answer (λ link h. h))
  links_made (Refused refused) new opens links_are = no_links (scanned scan (Refused refused) answer) (scanned_none scan (Refused refused) answer (λ link h. h))
