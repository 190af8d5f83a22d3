-- The changes of the map by an answer, and the cause with which it ended a scan.
use Rattle.std.proofs.Common.{◌≡◌, ◌⊎◌, inl, inr, ⊎_elim, ℕ, ◌+◌, ◌==◌, nat_lt, Bool, true, false}
use Rattle.std.proofs.Common.{Option, None, Some, List, [], ◌∷◌, ◌++◌, refl, sym, ap, ◌∙◌, subst}
use Rattle.std.proofs.lemmas.Bool.{cond_both}
use Rattle.papaya_words.specs.Word.{kind_of}
use Rattle.papaya_words.specs.declared.refused.Refused.{Refused}
use Rattle.papaya_words.specs.declared.word.Kind.{Kind}
use Rattle.papaya_words.specs.declared.word.Kind.TheVariants as kinds
use Rattle.papaya_call.specs.declared.ask.Answer.TheVariants.{Word as Word_read, Exchanged, Found, Yes, Size, Ok}
use Rattle.papaya_call.specs.declared.ask.At.{At}
use Rattle.papaya_call.specs.declared.ask.At.TheVariants.{Root, Next, Aborted, Done as Done_word, Slot}
use Rattle.papaya_call.specs.declared.ask.StepKind.{StepKind}
use Rattle.papaya_call.specs.declared.ask.StepKind.TheVariants as steps
use Rattle.papaya_call.specs.declared.call.Reply.TheVariants.{Refused as Reply_refused}
use Rattle.papaya_call.specs.declared.copy_ask.CopyAsk.{CopyAsk}
use Rattle.papaya_call.specs.declared.copy_ask.CopyAsk.TheVariants.{Load, Exchange as Ask_exchange}
use Rattle.papaya_call.specs.declared.copy_ask.CopyAsk.TheVariants.{SizeOf, HashOf, SamePair, Count}
use Rattle.papaya_call.specs.declared.copy_ask.CopyAsk.TheVariants.{MakeTable, LoadHint, WriteHint}
use Rattle.papaya_call.specs.declared.chain.ask.Answer.{Answer}
use Rattle.papaya_call.specs.declared.chain.ask.Answer.TheVariants as answers
use Rattle.papaya_call.specs.declared.chain.resizer.Resize.TheVariants.{CopyAll}
use Rattle.papaya_call.specs.declared.chain.resizer.ResizerState.{ResizerState as Stage}
use Rattle.papaya_call.specs.declared.chain.resizer.ResizerState.TheVariants as stages
use Rattle.papaya_call.specs.Resizer as resizers
use Rattle.papaya_words_law.specs.Code.{Coding, code}
use Rattle.papaya_words_law.specs.Exchange.{Setting, State as Words, Exchange, Bury, run}
use Rattle.papaya_call_law.specs.Copier.{IsCopyAsked}
use Rattle.papaya_call_law.specs.TrueAnswers.{word_of}
use Rattle.papaya_call_law.proofs.ReliesLearn.{by_test}
use Rattle.papaya_call_law.specs.Resizers.{IsTooMuchRoom}
use Rattle.papaya_call_law.specs.ChainAnswers.{IsTrueOfCopy}
use Rattle.papaya_call_law.specs.ChainAnswers as copies
use Rattle.papaya_call_law.proofs.ResizerRefusals.{resizer_why}
use Rattle.papaya_call.specs.declared.chain.ask.ScanAsk.TheVariants.{Copy}
use Rattle.papaya_call.specs.declared.chain.scanner.Spot.{Spot}
use Rattle.papaya_call.specs.declared.chain.scanner.ScannerState.{ScannerState}
use Rattle.papaya_call.specs.declared.chain.scanner.ScannerState.TheVariants.{Copying, AtRoot, Sizing, Looking}
use Rattle.papaya_call.specs.declared.chain.scanner.ScannerState.TheVariants.{Giving, Showing, Burying}
use Rattle.papaya_call.specs.declared.chain.scanner.ScannerState.TheVariants.{Uncounting, Done}
use Rattle.papaya_call.specs.declared.chain.scanner.ScannerState.TheVariants.{Refused as Ended_refused}
use Rattle.papaya_call.specs.declared.chain.scanner.Scan.{Scan}
use Rattle.papaya_call.specs.declared.chain.scanner.Scan.TheVariants.{Clear, Retain, Walk}
use Rattle.papaya_call.specs.declared.chain.scanner.Scanner.{Scanner}
use Rattle.papaya_call.specs.Scanner.{after_in, asks_in, at_root, copied, first_in, found_by, looks, meets, next, reply_in, resizer_of, shown}
use Rattle.papaya_call_law.specs.ScanAnswers.{IsCopyAnswer, IsBuried, IsFoundThere, IsTrueOfScan, IsWordAnswer, LoadedPairs}
use Rattle.papaya_call_law.specs.Scans.{IsOfAll, MayTake, ReliesState}
use Rattle.papaya_call_law.specs.ScanOutcomes.{IsScanCause, LeavesMap, owes_in}

-- It continues, or is done: it has not failed, and owes nothing.
pub record Continues (state : ScannerState) : Type 0 where
  pub unrefused : (refused : Refused) → reply_in state ≡ Some (Reply_refused refused) → ⊥
  pub owes : owes_in state ≡ false

looks_on : (spot : Spot) → Continues (looks spot)
looks_on spot = cond_both (nat_lt spot.slot spot.len) (Looking spot) Done Continues (λ _. record { unrefused = λ refused e. absurd cc; owes = refl })
    (λ _. record { unrefused = λ refused e. absurd cc; owes = refl })

next_on : (spot : Spot) → Continues (next spot)
next_on spot = looks_on (record spot { slot = spot.slot + 1 })

root_on : (root : ℕ) → Continues (at_root root)
root_on root = cond_both (root == 0) Done (Sizing root) Continues (λ _. record { unrefused = λ refused e. absurd cc; owes = refl })
    (λ _. record { unrefused = λ refused e. absurd cc; owes = refl })

copy_on : (stage : Stage) → Continues (Copying stage)
copy_on stage = record { unrefused = λ refused e. absurd cc; owes = refl }

meets_on : (scan : Scan) (spot : Spot) (word : ℕ) (kind : Kind) → Continues (meets scan spot word kind)
meets_on Clear spot word kinds.Live = record { unrefused = λ refused e. absurd cc; owes = refl }
meets_on Retain spot word kinds.Live = record { unrefused = λ refused e. absurd cc; owes = refl }
meets_on Walk spot word kinds.Live = record { unrefused = λ refused e. absurd cc; owes = refl }
meets_on Walk spot word kinds.Marked = record { unrefused = λ refused e. absurd cc; owes = refl }
meets_on Walk spot word kinds.Copied = record { unrefused = λ refused e. absurd cc; owes = refl }
meets_on Clear spot word kinds.Marked = copy_on stages.AtRoot
meets_on Clear spot word kinds.Copied = copy_on stages.AtRoot
meets_on Retain spot word kinds.Marked = copy_on stages.AtRoot
meets_on Retain spot word kinds.Copied = copy_on stages.AtRoot
meets_on Clear spot word kinds.Empty = next_on spot
meets_on Clear spot word kinds.Buried = next_on spot
meets_on Clear spot word kinds.Closed = next_on spot
meets_on Retain spot word kinds.Empty = next_on spot
meets_on Retain spot word kinds.Buried = next_on spot
meets_on Retain spot word kinds.Closed = next_on spot
meets_on Walk spot word kinds.Empty = next_on spot
meets_on Walk spot word kinds.Buried = next_on spot
meets_on Walk spot word kinds.Closed = next_on spot

shown_on : (spot : Spot) (word : ℕ) (stays : Bool) → Continues (shown spot word stays)
shown_on spot word true = next_on spot
shown_on spot word false = record { unrefused = λ refused e. absurd cc; owes = refl }

-- the copy of all ends the scan only if it fails itself
copied_ends : (from to : Stage) (refused : Refused) → reply_in (copied from to) ≡ Some (Reply_refused refused)
    → resizers.reply_in to ≡ Some (Reply_refused refused)
copied_ends from stages.Done refused e = absurd ((root_on (found_by from)).unrefused refused e)
copied_ends from (stages.Refused other) refused e = e
copied_ends from stages.AtRoot refused e = absurd cc
copied_ends from (stages.Making room) refused e = absurd cc
copied_ends from (stages.Opening table) refused e = absurd cc
copied_ends from (stages.Sizing root) refused e = absurd cc
copied_ends from (stages.Counting root len) refused e = absurd cc
copied_ends from (stages.Looking root len room) refused e = absurd cc
copied_ends from (stages.Linking link) refused e = absurd cc
copied_ends from (stages.Copying from' copying) refused e = absurd cc

-- and it owes nothing
pub copied_owes : (from to : Stage) → owes_in (copied from to) ≡ false
copied_owes from stages.Done = (root_on (found_by from)).owes
copied_owes from (stages.Refused other) = refl
copied_owes from stages.AtRoot = refl
copied_owes from (stages.Making room) = refl
copied_owes from (stages.Opening table) = refl
copied_owes from (stages.Sizing root) = refl
copied_owes from (stages.Counting root len) = refl
copied_owes from (stages.Looking root len room) = refl
copied_owes from (stages.Linking link) = refl
copied_owes from (stages.Copying from' copying) = refl

module _ {K P : Type 0} (g : Setting K P) (c : Coding K P) where
  -- an exchange of a copy leaves the map
  copy_leaves : (kind : Option StepKind) (at : At) (new : ℕ) (s : Words P) (kept : Option P) (e : Exchange P) → IsCopyAsked c kind at new s kept e
      → LeavesMap g e
  copy_leaves (Some steps.Link) (Next t) new s kept e is = subst (LeavesMap g) (sym is) (λ m k. refl)
  copy_leaves (Some steps.Mark) (Slot t x) new s kept e (p, there, is) = subst (LeavesMap g) (sym is) (λ m k. refl)
  copy_leaves (Some steps.Close) (Slot t x) new s kept e is = subst (LeavesMap g) (sym is) (λ m k. refl)
  copy_leaves (Some steps.Place) (Slot t x) new s kept e (p, carried, number, is) = subst (LeavesMap g) (sym is) (λ m k. refl)
  copy_leaves (Some steps.Finish) (Slot t x) new s kept e (p, there, is) = subst (LeavesMap g) (sym is) (λ m k. refl)
  copy_leaves (Some steps.Advance) (Done_word n chunk) new s kept e is = subst (LeavesMap g) (sym is) (λ m k. refl)
  copy_leaves (Some steps.Promote) Root new s kept e is = subst (LeavesMap g) (sym is) (λ m k. refl)
  copy_leaves (Some steps.Abort) (Aborted n) new s kept e is = subst (LeavesMap g) (sym is) (λ m k. refl)
  copy_leaves kind at new s kept e is = absurd is

  -- so does an answer to a copy
  abbrev Left : List (Exchange P) → Type 0
  Left es = (es ≡ []) ⊎ ((e : Exchange P) × (es ≡ e ∷ []) × LeavesMap g e)

  copy_told : (s : Words P) (kind : Option StepKind) (follows : ℕ) (loaded : copies.LoadedPairs P) (ask : CopyAsk) (answer : Answer)
      (es : List (Exchange P)) (loaded' : copies.LoadedPairs P) → IsTrueOfCopy g c s kind follows loaded ask answer es loaded' → Left es
  copy_told s kind follows loaded (Load at) answer es loaded' h = inl h.1
  copy_told s kind follows loaded (Ask_exchange at old new) answer es loaded' h = by_test (word_of g c s at == old) _ _ (Left es) h
      (λ _ made. let (e, asked, one, handed) = made.1 in inr (e, one, copy_leaves kind at new s loaded.kept e asked))
      (λ _ lost. inl lost.1)
  copy_told s kind follows loaded (LoadHint t x) answer es loaded' h = inl h.1.0
  copy_told s kind follows loaded (WriteHint t x hint) answer es loaded' h = inl h.1.0
  copy_told s kind follows loaded (SizeOf t) answer es loaded' h = inl h.1.0
  copy_told s kind follows loaded (HashOf n) answer es loaded' h = inl h.1
  copy_told s kind follows loaded (SamePair i n) answer es loaded' h = inl h.1.0
  copy_told s kind follows loaded Count answer es loaded' h = inl h.1.0
  copy_told s kind follows loaded (MakeTable slots limit chunks) answer es loaded' h = inl h.1.0

module _ {K P : Type 0} (g : Setting K P) (c : Coding K P) (s : Words P) (m : K → Option P) (since : List (Exchange P)) (scanner : Scanner)
    (loaded : LoadedPairs P) (answer : Answer) (es : List (Exchange P)) (loaded' : LoadedPairs P) where
  -- the words after all exchanges
  abbrev now : Words P
  now = run since s

  -- the next state, after an answer
  abbrev Goes : Answer → ScannerState → ScannerState
  Goes = after_in scanner.scan scanner.mode scanner.initial scanner.number

  -- the scan continues after this answer, since it does after an equal one
  goes_as : (state : ScannerState) (answer' : Answer) → answer ≡ answer' → Continues (Goes answer' state) → Continues (Goes answer state)
  goes_as state answer' is r = subst (λ a. Continues (Goes a state)) (sym is) r

  -- a word or a size was received
  pub asked : (state : ScannerState) (before : List (Exchange P)) (is : CopyAsk) → asks_in state ≡ Some (Copy is)
      → (t : IsWordAnswer g c now since state before loaded answer es loaded') → IsTrueOfCopy g c now None 0 loaded.copy is answer es t.copy
  asked state before is asks t =
      let first = t.asks in
      let same : t.ask ≡ is = cc (asks, first) in
      subst (λ a. IsTrueOfCopy g c now None 0 loaded.copy a answer es t.copy) same t.told

  -- the effect of an answer in a state that exchanges nothing
  pub record IsQuiet (state : ScannerState) : Type 0 where
    pub none : es ≡ []
    pub on : Continues (Goes answer state)

  -- each state except the copy and a deletion that was made
  root_quiet : IsWordAnswer g c now since AtRoot (since ++ es) loaded answer es loaded' → IsQuiet AtRoot
  root_quiet t = let h = asked AtRoot (since ++ es) (Load Root) refl t in
      record { none = h.1; on = goes_as AtRoot (answers.Call (Word_read now.root)) h.0 (root_on now.root) }

  size_quiet : (table : ℕ) → IsWordAnswer g c now since (Sizing table) loaded.before loaded answer es loaded' → IsQuiet (Sizing table)
  size_quiet table t = let h = asked (Sizing table) loaded.before (SizeOf table) refl t in
      record { none = h.1.0; on = goes_as (Sizing table) (answers.Call (Size (g.size table) h.0.0)) h.0.2 (looks_on (first_in table (g.size table))) }

  look_quiet : (spot : Spot) → IsWordAnswer g c now since (Looking spot) loaded.before loaded answer es loaded' → IsQuiet (Looking spot)
  look_quiet spot t =
      let h = asked (Looking spot) loaded.before (Load (Slot spot.table spot.slot)) refl t in
      let word : ℕ = code g c (now.slot spot.table spot.slot) in
      record { none = h.1; on = goes_as (Looking spot) (answers.Call (Word_read word)) h.0 (meets_on scanner.scan spot word (kind_of word)) }

  found_quiet : (spot : Spot) (word : ℕ) → IsFoundThere g c now since spot loaded answer es loaded' → IsQuiet (Burying spot word)
  found_quiet spot word t =
      let other : ℕ = code g c (now.slot spot.table spot.slot) in
      record { none = t.none; on = goes_as (Burying spot word) (answers.Call (Found other)) t.is (meets_on scanner.scan spot other (kind_of other)) }

  module _ (refused : Refused) where
    -- the cause with which it fails in a state
    abbrev Why : ScannerState → Type 0
    Why state = scanner.state ≡ state → reply_in (Goes answer state) ≡ Some (Reply_refused refused) → IsScanCause scanner answer refused

    never : (state : ScannerState) → IsQuiet state → Why state
    never state r at e = absurd (r.on.unrefused refused e)

    copy_why : (stage : Stage) → IsCopyAnswer g c now since stage loaded answer es loaded' → Why (Copying stage)
    copy_why stage t at e =
        let why = resizer_why g c now (resizer_of scanner stage) loaded.copy answer es t.copy t.told refused
        (copied_ends stage (resizers.after_in CopyAll scanner.mode scanner.initial scanner.number answer stage) refused e) in
        record {
          stage = stage;
          copying = at;
          why = ⊎_elim (λ a. inl a) (⊎_elim (λ b. inr b)
              (λ (r : IsTooMuchRoom (resizer_of scanner stage) answer refused). let no = r.resize in absurd (cc no))) why;
        }

    pub state_why : (state : ScannerState) → IsTrueOfScan g c now since state loaded answer es loaded' → Why state
    state_why (Copying stage) told at e = copy_why stage told at e
    state_why AtRoot told at e = never AtRoot (root_quiet told) at e
    state_why (Sizing table) told at e = never (Sizing table) (size_quiet table told) at e
    state_why (Looking spot) told at e = never (Looking spot) (look_quiet spot told) at e
    state_why (Giving spot word) told at e = never (Giving spot word)
        (record { none = told.none; on = goes_as (Giving spot word) (answers.Call Ok) told.is (next_on spot) }) at e
    state_why (Showing spot word) told at e = never (Showing spot word)
        (record { none = told.none; on = goes_as (Showing spot word) (answers.Call (Yes told.stays)) told.is (shown_on spot word told.stays) }) at e
    state_why (Burying spot word) told at e =
        by_test (code g c (now.slot spot.table spot.slot) == word) (IsBuried g c now since spot loaded answer es loaded')
        (IsFoundThere g c now since spot loaded answer es loaded') (IsScanCause scanner answer refused) told
        (λ _ t. let to : reply_in (Goes (answers.Call Exchanged) (Burying spot word)) ≡ Some (Reply_refused refused) = ap
        (λ a. reply_in (Goes a (Burying spot word))) (sym t.is) ∙ e in absurd (cc to))
        (λ _ t. never (Burying spot word) (found_quiet spot word t) at e)
    state_why (Uncounting spot) told at e = never (Uncounting spot)
        (record { none = told.1; on = goes_as (Uncounting spot) (answers.Call Ok) told.0 (next_on spot) }) at e
    state_why Done told at e = let no = told.asks in absurd (cc no)
    state_why (Ended_refused other) told at e = let no = told.asks in absurd (cc no)

  -- the answer did nothing, made an exchange that leaves the map, or deleted a pair, which is then
  -- owed
  abbrev DoneIn : ScannerState → Type 0
  DoneIn state = ((es ≡ []) × (owes_in (Goes answer state) ≡ false))
      ⊎ ((e : Exchange P) × (es ≡ e ∷ []) × LeavesMap g e × (owes_in (Goes answer state) ≡ false))
      ⊎ ((t : ℕ) × (x : ℕ) × (p : P) × (es ≡ Bury t x p ∷ []) × (scanner.scan ≡ Walk → ⊥) × (owes_in (Goes answer state) ≡ true))

  quiet_done : (state : ScannerState) → IsQuiet state → DoneIn state
  quiet_done state r = inl (r.none, r.on.owes)

  -- a scan that takes pairs out is no iteration
  takes_none : (word : ℕ) → (scan : Scan) → MayTake g c s m since scan loaded word → scan ≡ Walk → ⊥
  takes_none word Walk takes is = takes
  takes_none word Clear takes is = cc is
  takes_none word Retain takes is = cc is

  copy_done : (stage : Stage) → IsOfAll g c s m since stage → IsCopyAnswer g c now since stage loaded answer es loaded' → DoneIn (Copying stage)
  copy_done stage all t =
      ⊎_elim
      (λ none. inl (none, copied_owes stage (resizers.after_in CopyAll scanner.mode scanner.initial scanner.number answer stage)))
      (λ h. let (e, one, leaves) = h in inr (inl
      (e, one, leaves, copied_owes stage (resizers.after_in CopyAll scanner.mode scanner.initial scanner.number answer stage))))
      (left stage all t)
    where
      left : (stage : Stage) → IsOfAll g c s m since stage → IsCopyAnswer g c now since stage loaded answer es loaded' → Left g c es
      left stages.AtRoot all t = let (ask, asks, told) = t.told in
          copy_told g c now (resizers.kind_in stages.AtRoot) (resizers.follows_in stages.AtRoot) loaded.copy ask answer es t.copy told
      left (stages.Looking root len room) all t = let (ask, asks, told) = t.told in
          copy_told g c now (resizers.kind_in (stages.Looking root len room)) (resizers.follows_in (stages.Looking root len room)) loaded.copy ask
          answer es t.copy told
      left (stages.Copying from copying) all t = let (ask, asks, told) = t.told in
          copy_told g c now (resizers.kind_in (stages.Copying from copying)) (resizers.follows_in (stages.Copying from copying)) loaded.copy ask answer
          es t.copy told
      left (stages.Making room) all t = absurd all
      left (stages.Opening table) all t = absurd all
      left (stages.Sizing root) all t = absurd all
      left (stages.Counting root len) all t = absurd all
      left (stages.Linking link) all t = absurd all
      left stages.Done all t = absurd all
      left (stages.Refused other) all t = absurd all

  pub state_done : (state : ScannerState) → ReliesState g c s m since scanner.scan loaded state → IsTrueOfScan g c now since state loaded answer es loaded'
      → DoneIn state
  state_done (Copying stage) r told = copy_done stage r.1 told
  state_done AtRoot r told = quiet_done AtRoot (root_quiet told)
  state_done (Sizing table) r told = quiet_done (Sizing table) (size_quiet table told)
  state_done (Looking spot) r told = quiet_done (Looking spot) (look_quiet spot told)
  state_done (Giving spot word) r told = quiet_done (Giving spot word)
      (record { none = told.none; on = goes_as (Giving spot word) (answers.Call Ok) told.is (next_on spot) })
  state_done (Showing spot word) r told = quiet_done (Showing spot word)
      (record { none = told.none; on = goes_as (Showing spot word) (answers.Call (Yes told.stays)) told.is (shown_on spot word told.stays) })
  state_done (Burying spot word) r told =
      by_test (code g c (now.slot spot.table spot.slot) == word) (IsBuried g c now since spot loaded answer es loaded')
      (IsFoundThere g c now since spot loaded answer es loaded') (DoneIn (Burying spot word)) told
      (λ _ t. inr (inr (spot.table, spot.slot, t.pair, t.one, takes_none word scanner.scan r.2, ap (λ a. owes_in (Goes a (Burying spot word))) t.is)))
      (λ _ t. quiet_done (Burying spot word) (found_quiet spot word t))
  state_done (Uncounting spot) r told = quiet_done (Uncounting spot)
      (record { none = told.1; on = goes_as (Uncounting spot) (answers.Call Ok) told.0 (next_on spot) })
  state_done Done r told = let no = told.asks in absurd (cc no)
  state_done (Ended_refused other) r told = let no = told.asks in absurd (cc no)
