-- A scan, with no other caller beside it, comes to an end.
use Rattle.std.proofs.Common.{◌≡◌, ◌⊎◌, inl, inr, ⊎_elim, ℕ, ◌+◌, ◌<◌, ◌==◌, nat_lt, Bool, true}
use Rattle.std.proofs.Common.{false, Option, None, Some, List, [], ◌∷◌, ◌++◌, append-nil, refl, sym}
use Rattle.std.proofs.Common.{ap, ◌∙◌, subst, arith, eqb-true, eq-eqb}
use Rattle.std.proofs.lemmas.Bool.{cond_both}
use Rattle.papaya_words.specs.Word.{kind_of}
use Rattle.papaya_words.specs.declared.resize_mode.ResizeMode.{ResizeMode}
use Rattle.papaya_call.specs.declared.ask.Answer.TheVariants.{Word as Word_read, Yes, Size, Ok}
use Rattle.papaya_call.specs.declared.ask.At.{At}
use Rattle.papaya_call.specs.declared.ask.At.TheVariants as words_at
use Rattle.papaya_call.specs.declared.copy_ask.CopyAsk.{CopyAsk}
use Rattle.papaya_call.specs.declared.copy_ask.CopyAsk.TheVariants.{Load, SizeOf}
use Rattle.papaya_call.specs.declared.copy.copying.Copied.{Copied}
use Rattle.papaya_call.specs.declared.copy.copying.Copied.TheVariants as copied_to
use Rattle.papaya_call.specs.declared.chain.ask.Answer.{Answer}
use Rattle.papaya_call.specs.declared.chain.ask.Answer.TheVariants as answers
use Rattle.papaya_call.specs.declared.chain.resizer.Resize.TheVariants.{CopyAll}
use Rattle.papaya_call.specs.declared.chain.resizer.ResizerState.{ResizerState as Stage}
use Rattle.papaya_call.specs.declared.chain.resizer.ResizerState.TheVariants as stages
use Rattle.papaya_call.specs.ChainMachine.{copying_after}
use Rattle.papaya_call.specs.Resizer as resizers
use Rattle.papaya_words_law.specs.Allows.{AllAllowed}
use Rattle.papaya_words_law.specs.Class.{IsOn}
use Rattle.papaya_words_law.specs.Code.{Coding, IsHashed, code, kind}
use Rattle.papaya_words_law.specs.Exchange.{Word, Empty, Closed, Live, Marked, Copied as Copied_word, Buried, Setting, State as Words, Exchange, Bury, run}
use Rattle.papaya_words_law.specs.Invariant.{IsKeeping, shut}
use Rattle.papaya_words_law.specs.Meaning.{map_of}
use Rattle.papaya_words_law.proofs.Codes.{code_kind}
use Rattle.papaya_words_law.proofs.Moments.{run-append}
use Rattle.papaya_words_law.proofs.OneMap.{keeping_sound}
use Rattle.papaya_call_law.specs.Copier.{HasWords}
use Rattle.papaya_call_law.specs.Relies.{IsCutAs, IsModeOf}
use Rattle.papaya_call_law.specs.TrueAnswers.{word_of}
use Rattle.papaya_call_law.proofs.ReliesLearn.{by_test, more_than_none}
use Rattle.papaya_call_law.specs.Resizers.{link_of}
use Rattle.papaya_call_law.proofs.ResizerRelies.{told_of_ask}
use Rattle.papaya_call_alone.specs.Budget.{Budget, IsSpent}
use Rattle.papaya_call_alone.specs.Prompt.{IsBounded}
use Rattle.papaya_call_alone.specs.Resizers.{left_of_stage}
use Rattle.papaya_call_alone.proofs.ResizerLaw.{stage_current, stage_nears}
use Rattle.papaya_call.specs.declared.chain.ask.ScanAsk.{ScanAsk}
use Rattle.papaya_call.specs.declared.chain.ask.ScanAsk.TheVariants.{Copy}
use Rattle.papaya_call.specs.declared.chain.scanner.Spot.{Spot}
use Rattle.papaya_call.specs.declared.chain.scanner.ScannerState.{ScannerState}
use Rattle.papaya_call.specs.declared.chain.scanner.ScannerState.TheVariants.{Copying, AtRoot, Sizing, Looking, Giving, Showing, Burying, Uncounting, Done, Refused}
use Rattle.papaya_call.specs.declared.chain.scanner.Scan.{Scan}
use Rattle.papaya_call.specs.declared.chain.scanner.Scan.TheVariants.{Clear, Retain, Walk}
use Rattle.papaya_call.specs.declared.chain.scanner.Scanner.{Scanner}
use Rattle.papaya_call.specs.Scanner.{after_in, asks_in, copied, copy_asks, buries, first_in, meets, next, shown}
use Rattle.papaya_call_law.specs.ScanAnswers.{IsCopyAnswer, IsBuried, IsFoundThere, IsTrueOfScan, LoadedPairs}
use Rattle.papaya_call_law.specs.Scans.{IsOfAll, ReliesState, link_in_scan}
use Rattle.papaya_call_law.proofs.ScanAsks.{keeps_since}
use Rattle.papaya_call_law.proofs.ScanOutcomes.{asked}
use Rattle.papaya_call_alone.specs.Scanners.{IsScanRead, IsSpotRead, SpendsScan, left_of_scan, left_of_spot}
use Rattle.papaya_call_alone.proofs.ScanLefts.{IsLastFound, again_less, copied_less, copied_read, first_less, here_less, next_less, root_less}

-- an ask for the copy of all is an ask of a copier
copy_asked : (o : Option CopyAsk) (ask : ScanAsk) → copy_asks o ≡ Some ask → (a : CopyAsk) × (o ≡ Some a) × (ask ≡ Copy a)
copy_asked None ask e = absurd cc
copy_asked (Some a) ask e = let is : Copy a ≡ ask = cc e in (a, refl, sym is)

-- a copy of all doesn't end a scan
copy_goes_on : (words : At → ℕ) (root from : ℕ) (copying : _) (end : Copied)
    → IsLastFound words (stages.Copying root copying) (resizers.copied CopyAll from end)
copy_goes_on words root from copying (copied_to.On other) = tt
copy_goes_on words root from copying (copied_to.Search table) = tt
copy_goes_on words root from copying (copied_to.Root table) = tt
copy_goes_on words root from copying copied_to.Chunk = tt
copy_goes_on words root from copying (copied_to.Refused refused) = tt

module _ (mode : ResizeMode) (words : At → ℕ) where
  -- less is left in a state than here, and the words that were read are unchanged
  abbrev Leads : (left : ℕ) → ScannerState → Type 0
  Leads left state = IsScanRead mode words state × (left_of_scan words state < left)

  next_leads : (spot : Spot) (here : ℕ) → 0 < here → IsSpotRead words spot → Leads (left_of_spot words spot here) (next spot)
  next_leads spot here some read = (
    cond_both (nat_lt (spot.slot + 1) spot.len) (Looking (record spot { slot = spot.slot + 1 })) Done (IsScanRead mode words)
        (λ _. record { root = read.root; most = read.most }) (λ _. tt),
    next_less words spot here some,
  )

  shown_leads : (spot : Spot) (word : ℕ) → IsSpotRead words spot → words (words_at.Slot spot.table spot.slot) ≡ word → (stays : Bool)
      → Leads (left_of_spot words spot 3) (shown spot word stays)
  shown_leads spot word read stands true = next_leads spot 3 (omega arith) read
  shown_leads spot word read stands false = ((read, stands), here_less words spot 2 3 (omega arith))

  -- for each word that may be in the slot
  module _ {P : Type 0} (spot : Spot) (word : ℕ) (read : IsSpotRead words spot) (stands : words (words_at.Slot spot.table spot.slot) ≡ word) where
    met : (w : Word P) → (shut w ≡ true → 0 < words (words_at.Next spot.table)) → (scan : Scan)
        → Leads (left_of_spot words spot 4) (meets scan spot word (kind w))
    met (Live p) more Clear = ((read, stands), here_less words spot 2 4 (omega arith))
    met (Live p) more Retain = ((read, stands), here_less words spot 3 4 (omega arith))
    met (Live p) more Walk = (read, here_less words spot 3 4 (omega arith))
    met (Marked p) more Clear = (tt, again_less words spot 4 (more refl))
    met (Marked p) more Retain = (tt, again_less words spot 4 (more refl))
    met (Marked p) more Walk = (read, here_less words spot 3 4 (omega arith))
    met (Copied_word p) more Clear = (tt, again_less words spot 4 (more refl))
    met (Copied_word p) more Retain = (tt, again_less words spot 4 (more refl))
    met (Copied_word p) more Walk = (read, here_less words spot 3 4 (omega arith))
    met Empty more Clear = next_leads spot 4 (omega arith) read
    met Empty more Retain = next_leads spot 4 (omega arith) read
    met Empty more Walk = next_leads spot 4 (omega arith) read
    met Closed more Clear = next_leads spot 4 (omega arith) read
    met Closed more Retain = next_leads spot 4 (omega arith) read
    met Closed more Walk = next_leads spot 4 (omega arith) read
    met (Buried p) more Clear = next_leads spot 4 (omega arith) read
    met (Buried p) more Retain = next_leads spot 4 (omega arith) read
    met (Buried p) more Walk = next_leads spot 4 (omega arith) read

module _ {K P : Type 0} (g : Setting K P) (c : Coding K P) (hashed : IsHashed g c) (s : Words P) (m : K → Option P) (keeps : IsKeeping g s m)
    (since : List (Exchange P)) (may : AllAllowed g s since) (bounded : IsBounded g (run since s))
    (scanner : Scanner) (moded : IsModeOf scanner.mode g.blocking) (cut : IsCutAs scanner.mode g.chunk_of) (loaded : LoadedPairs P) (answer : Answer)
    (es : List (Exchange P)) (loaded' : LoadedPairs P) where
  -- the words after all exchanges, before the answer and after it
  abbrev now : Words P
  now = run since s

  abbrev words : At → ℕ
  words = word_of g c now

  abbrev words_after : At → ℕ
  words_after = word_of g c (run (since ++ es) s)

  -- the next state, after an answer
  abbrev Goes : Answer → ScannerState → ScannerState
  Goes = after_in scanner.scan scanner.mode scanner.initial scanner.number

  keeps_now : IsKeeping g now (map_of g m since)
  keeps_now = keeps_since g c hashed s m keeps since may

  -- a state is nearer the end after the answer, and the words that it read are unchanged
  pub record IsNearer (state : ScannerState) : Type 0 where
    pub read : IsScanRead scanner.mode words_after (Goes answer state)
    pub less : (ask : ScanAsk) → asks_in state ≡ Some ask → (before later : Budget) → SpendsScan ask answer before later
        → IsSpent before later ⊎ ((later ≡ before) × (left_of_scan words_after (Goes answer state) < left_of_scan words state))

  -- if nothing was exchanged
  quiet : (state : ScannerState) (answer' : Answer) → answer ≡ answer' → es ≡ [] → (ask' : ScanAsk) → asks_in state ≡ Some ask'
      → ((before later : Budget) → SpendsScan ask' answer' before later → later ≡ before)
      → Leads scanner.mode words (left_of_scan words state) (Goes answer' state) → IsNearer state
  quiet state answer' is none ask' asks' keeps_it leads =
      let same : now ≡ run (since ++ es) s = sym (ap (λ l. run (since ++ l) s) none ∙ ap (λ l. run l s) (append-nil since)) in
      let to : Leads scanner.mode words_after (left_of_scan words state) (Goes answer state) =
      subst (λ w. Leads scanner.mode (word_of g c w) (left_of_scan words state) (Goes answer state)) same
      (subst (λ a. Leads scanner.mode words (left_of_scan words state) (Goes a state)) (sym is) leads) in
      record {
        read = to.0;
        less = λ ask asks before later spends.
            let one : ask ≡ ask' = cc (asks, asks') in
            inr (keeps_it before later (subst (λ a. SpendsScan ask' a before later) is (subst (λ q. SpendsScan q answer before later) one spends)), to.1);
      }

  -- the words that may be in a slot of the root
  word_leads : (spot : Spot) → IsSpotRead words spot
      → Leads scanner.mode words (left_of_spot words spot 4)
      (meets scanner.scan spot (code g c (now.slot spot.table spot.slot)) (kind_of (code g c (now.slot spot.table spot.slot))))
  word_leads spot read =
      let word : ℕ = code g c (now.slot spot.table spot.slot) in
      subst (λ k. Leads scanner.mode words (left_of_spot words spot 4) (meets scanner.scan spot word k)) (sym (code_kind g c (now.slot spot.table spot.slot)))
      (met scanner.mode words spot word read refl (now.slot spot.table spot.slot)
      ((keeping_sound g now (map_of g m since) keeps_now).further spot.table spot.slot) scanner.scan)

  -- the root is on the chain
  root_on : (root : ℕ) → now.root ≡ root → 0 < root → IsOn now.first now.next root
  root_on root is some =
      ⊎_elim (λ (none : (now.root ≡ 0) × (now.first ≡ 0)). let no = none.0 in absurd (omega (arith, no, is, some)))
      (λ (on : IsOn now.first now.next now.root). subst (IsOn now.first now.next) is on)
      (keeping_sound g now (map_of g m since) keeps_now).root

  -- the copy of all finds a root without a next table, at its end
  copy_found : (stage : Stage) → IsOfAll g c s m since stage → IsScanRead scanner.mode words (Copying stage)
      → (t : IsCopyAnswer g c now since stage loaded answer es loaded')
      → IsLastFound (word_of g c (run es now)) stage (resizers.after_in CopyAll scanner.mode scanner.initial scanner.number answer stage)
  copy_found stages.AtRoot all read t =
      let h = told_of_ask g c now loaded.copy stages.AtRoot (Load words_at.Root) refl answer es t.copy t.told in
      subst (λ a. IsLastFound (word_of g c (run es now)) stages.AtRoot
      (resizers.after_in CopyAll scanner.mode scanner.initial scanner.number a stages.AtRoot)) (sym h.0)
      (cond_both (now.root == 0) stages.Done (stages.Looking now.root 0 None) (IsLastFound (word_of g c (run es now)) stages.AtRoot) (λ _. inl refl) (λ _. tt))
  copy_found (stages.Looking root len None) all read t =
      let from : Stage = stages.Looking root len None in
      let h = told_of_ask g c now loaded.copy from (Load (words_at.Next root)) refl answer es t.copy t.told in
      subst (λ a. IsLastFound (word_of g c (run es now)) from (resizers.after_in CopyAll scanner.mode scanner.initial scanner.number a from)) (sym h.0)
      (subst (λ l. IsLastFound (word_of g c (run l now)) from (resizers.at_next scanner.mode root len None (now.next root))) (sym h.1)
      (cond_both (now.next root == 0) stages.Done (resizers.copies root) (IsLastFound words from)
      (λ none. inr (read.0, eqb-true (now.next root) 0 none)) (λ _. tt)))
  copy_found (stages.Looking root len (Some room)) all read t = let no = all.1 in absurd (cc no)
  copy_found (stages.Copying from copying) all read t = copy_goes_on (word_of g c (run es now)) from from copying
      (copying_after copying scanner.mode scanner.initial scanner.number answer)
  copy_found (stages.Making room) all read t = absurd all
  copy_found (stages.Opening table) all read t = absurd all
  copy_found (stages.Sizing root) all read t = absurd all
  copy_found (stages.Counting root len) all read t = absurd all
  copy_found (stages.Linking link) all read t = absurd all
  copy_found stages.Done all read t = absurd all
  copy_found (stages.Refused refused) all read t = absurd all

  copy_nearer : (stage : Stage) → ReliesState g c s m since scanner.scan loaded (Copying stage) → HasWords g (link_of stage)
      → IsScanRead scanner.mode words (Copying stage) → IsCopyAnswer g c now since stage loaded answer es loaded' → IsNearer (Copying stage)
  copy_nearer stage r made read t =
      let to : Stage = resizers.after_in CopyAll scanner.mode scanner.initial scanner.number answer stage in
      let found = copy_found stage r.1 read t in
      let same : run es now ≡ run (since ++ es) s = sym (run-append since es s) in
      record {
        read = subst (λ w. IsScanRead scanner.mode (word_of g c w) (copied stage to)) same
            (copied_read (word_of g c (run es now)) scanner.mode stage to found
            (stage_current g c hashed now (map_of g m since) keeps_now bounded CopyAll scanner.mode scanner.initial scanner.number loaded.copy moded
            cut stage r.2 made read answer es t.copy t.told));
        less = λ ask asks before later spends.
            let (a, is, one) = copy_asked (resizers.asks_in stage) ask asks in
            ⊎_elim (λ (spent : IsSpent before later). inl spent)
            (λ (kept : (later ≡ before) × (left_of_stage (run es now).root to < left_of_stage now.root stage)).
            inr (
              kept.0,
              subst (λ w. left_of_scan (word_of g c w) (copied stage to) < left_of_scan words (Copying stage)) same
                  (copied_less (word_of g c (run es now)) stage to (left_of_stage now.root stage) found kept.1),
            ))
            (stage_nears g c hashed now (map_of g m since) keeps_now bounded CopyAll scanner.mode scanner.initial scanner.number loaded.copy moded cut
            before later stage r.2 made read answer es t.copy t.told a is
            (subst (λ q. SpendsScan q answer before later) one spends));
      }

  -- the pair in the slot is deleted
  bury_nearer : (spot : Spot) (word : ℕ) → IsSpotRead words spot → IsBuried g c now since spot loaded answer es loaded' → IsNearer (Burying spot word)
  bury_nearer spot word read t =
      let e : Exchange P = Bury spot.table spot.slot t.pair in
      let same : run (e ∷ []) now ≡ run (since ++ es) s = sym (ap (λ l. run (since ++ l) s) t.one ∙ run-append since (e ∷ []) s) in
      record {
        read = subst (λ w. IsScanRead scanner.mode (word_of g c w) (Goes answer (Burying spot word))) same
            (subst (λ a. IsScanRead scanner.mode (word_of g c (run (e ∷ []) now)) (Goes a (Burying spot word))) (sym t.is)
            (record { root = read.root; most = read.most }));
        less = λ ask asks before later spends.
            let one : ask ≡ Copy (buries spot word) = cc asks in
            inl (inr (subst (λ a. SpendsScan (Copy (buries spot word)) a before later) t.is (subst (λ q. SpendsScan q answer before later) one spends)));
      }

  -- in each state
  pub state_nearer : (state : ScannerState) → ReliesState g c s m since scanner.scan loaded state → HasWords g (link_in_scan state)
      → IsScanRead scanner.mode words state → IsTrueOfScan g c now since state loaded answer es loaded' → IsNearer state
  state_nearer (Copying stage) r made read told = copy_nearer stage r made read told
  state_nearer AtRoot r made read told =
      let h = asked g c s m since scanner loaded answer es loaded' AtRoot (since ++ es) (Load words_at.Root) refl told in
      quiet AtRoot (answers.Call (Word_read now.root)) h.0 h.1 (Copy (Load words_at.Root)) refl (λ before later e. e) (
        cond_both (now.root == 0) Done (Sizing now.root) (IsScanRead scanner.mode words) (λ _. tt) (λ some. (refl, more_than_none now.root some)),
        root_less words now.root,
      )
  state_nearer (Sizing table) r made read told =
      let h = asked g c s m since scanner loaded answer es loaded' (Sizing table) loaded.before (SizeOf table) refl told in
      let size = bounded.size table h.0.0 (root_on table read.0 read.1) h.0.1 in
      quiet (Sizing table) (answers.Call (Size (g.size table) h.0.0)) h.0.2 h.1.0 (Copy (SizeOf table)) refl (λ before later e. e) (
        cond_both (nat_lt 0 (g.size table)) (Looking (first_in table (g.size table))) Done (IsScanRead scanner.mode words)
            (λ _. record { root = read; most = size.most }) (λ _. tt),
        first_less words (first_in table (g.size table)) size.most,
      )
  state_nearer (Looking spot) r made read told =
      let h = asked g c s m since scanner loaded answer es loaded' (Looking spot) loaded.before (Load (words_at.Slot spot.table spot.slot)) refl told in
      quiet (Looking spot) (answers.Call (Word_read (code g c (now.slot spot.table spot.slot)))) h.0 h.1
      (Copy (Load (words_at.Slot spot.table spot.slot))) refl (λ before later e. e) (word_leads spot read)
  state_nearer (Giving spot word) r made read told = quiet (Giving spot word) (answers.Call Ok) told.is told.none _ refl (λ before later e. e)
      (next_leads scanner.mode words spot 3 (omega arith) read)
  state_nearer (Showing spot word) r made read told = quiet (Showing spot word) (answers.Call (Yes told.stays)) told.is told.none _ refl
      (λ before later e. e) (shown_leads scanner.mode words spot word read.0 read.1 told.stays)
  state_nearer (Burying spot word) r made read told =
      by_test (code g c (now.slot spot.table spot.slot) == word) (IsBuried g c now since spot loaded answer es loaded')
      (IsFoundThere g c now since spot loaded answer es loaded') (IsNearer (Burying spot word)) told
      (λ _ t. bury_nearer spot word read.0 t)
      (λ other t. absurd (let same = eq-eqb (code g c (now.slot spot.table spot.slot)) word read.1 in cc (other, same)))
  state_nearer (Uncounting spot) r made read told = quiet (Uncounting spot) (answers.Call Ok) told.0 told.1 _ refl (λ before later e. e)
      (next_leads scanner.mode words spot 1 (omega arith) read)
  state_nearer Done r made read told = let no = told.asks in absurd (cc no)
  state_nearer (Refused refused) r made read told = let no = told.asks in absurd (cc no)
