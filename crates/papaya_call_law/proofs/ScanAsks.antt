-- Each word that a scan names is there, and its exchanges are allowed.
use Rattle.std.proofs.Common.{◌≡◌, ℕ, ◌<◌, true, Option, None, Some, List, ◌++◌, append_assoc, refl, sym, ap, ◌∙◌, subst}
use Rattle.papaya_words.specs.Word.{kind_of, pair_of, buried_word}
use Rattle.papaya_words.specs.declared.word.Kind.TheVariants as kinds
use Rattle.papaya_call.specs.declared.ask.At.{At}
use Rattle.papaya_call.specs.declared.ask.At.TheVariants.{Root, Next, Aborted, Done as Done_word, Slot, Made as Made_word}
use Rattle.papaya_call.specs.declared.copy_ask.CopyAsk.{CopyAsk}
use Rattle.papaya_call.specs.declared.copy_ask.CopyAsk.TheVariants.{Load, Exchange as Ask_exchange, SizeOf, WriteHint}
use Rattle.papaya_call.specs.Remove.{grave_word}
use Rattle.papaya_call.specs.declared.chain.resizer.ResizerState.{ResizerState as Stage}
use Rattle.papaya_call.specs.Resizer as resizers
use Rattle.papaya_words_law.specs.Allows.{AllAllowed, Allows}
use Rattle.papaya_words_law.specs.Class.{IsOn}
use Rattle.papaya_words_law.specs.Code.{Coding, IsHashed, IsOfKind, code}
use Rattle.papaya_words_law.specs.Exchange.{Word, Live, Buried, Setting, State as Words, Exchange, Bury, after as state_after, run, slot_put}
use Rattle.papaya_words_law.specs.Invariant.{IsKeeping}
use Rattle.papaya_words_law.specs.Meaning.{IsAtMoment, map_of}
use Rattle.papaya_words_law.specs.View.{IsReached}
use Rattle.papaya_words_law.proofs.Codes.{code_pair}
use Rattle.papaya_words_law.proofs.CodeViews.{word_of_kind}
use Rattle.papaya_words_law.proofs.Moments.{allowed_first, allowed_rest, map_of-append, run-append}
use Rattle.papaya_words_law.proofs.OneMap.{keeping_sound, run_keeps}
use Rattle.papaya_words_law.proofs.Slots.{put_elsewhere, put_there}
use Rattle.papaya_call_law.specs.TrueAnswers.{IsWritten, word_of}
use Rattle.papaya_call_law.specs.Resizers.{ReliesStage, link_of}
use Rattle.papaya_call_law.proofs.ResizerRelies.{stage_may, stage_there, stage_may_hint}
use Rattle.papaya_call.specs.declared.chain.ask.ScanAsk.{ScanAsk}
use Rattle.papaya_call.specs.declared.chain.ask.ScanAsk.TheVariants.{Copy, Show, Given, AddToShard}
use Rattle.papaya_call.specs.declared.chain.scanner.Spot.{Spot}
use Rattle.papaya_call.specs.declared.chain.scanner.ScannerState.{ScannerState}
use Rattle.papaya_call.specs.declared.chain.scanner.ScannerState.TheVariants.{Copying, AtRoot, Sizing, Looking, Giving, Showing, Burying, Uncounting, Done, Refused}
use Rattle.papaya_call.specs.declared.chain.scanner.Scan.{Scan}
use Rattle.papaya_call.specs.Scanner.{asks_in, copy_asks, buries}
use Rattle.papaya_call_law.specs.ScanAnswers.{LoadedPairs}
use Rattle.papaya_call_law.specs.Scans.{HadPair, IsMeeting, IsNamed, IsScanAsked, IsSpot, IsTaking, ReliesState, link_in_scan}
use Rattle.papaya_call_law.proofs.ScanSlots.{reached_now, was_now}
use Rattle.papaya_call_law.specs.Copier.{HasWords}
use Rattle.papaya_call_law.specs.Relies.{IsModeOf}
use Rattle.papaya_words.specs.declared.resize_mode.ResizeMode.{ResizeMode}
use Rattle.papaya_words_law.specs.Hints.{IsHint}

-- a word that is put into a slot is the only one that changes
slot_written : {K P : Type 0} → (g : Setting K P) (c : Coding K P) (s : Words P) (t x : ℕ) (w : Word P)
    → IsWritten g c s (Slot t x) (code g c w) (slot_put s t x w)
slot_written g c s t x w = record { here = ap (code g c) (put_there s t x w t x (refl, refl)).0; others = others }
  where
    others : (other : At) → (other ≡ Slot t x → ⊥) → word_of g c (slot_put s t x w) other ≡ word_of g c s other
    others Root different = refl
    others (Next u) different = refl
    others (Aborted u) different = refl
    others (Done_word u chunk) different = refl
    others (Slot u y) different = ap (code g c) (put_elsewhere s t x w u y (λ e. different (ap (λ a. Slot a y) (sym e.0) ∙ ap (Slot t) (sym e.1))))
    others Made_word different = refl

module _ {K P : Type 0} (g : Setting K P) (c : Coding K P) (hashed : IsHashed g c) (s : Words P) (m : K → Option P) (keeps : IsKeeping g s m)
    (since : List (Exchange P)) (may : AllAllowed g s since) where
  -- the words after all exchanges
  abbrev now : Words P
  now = run since s

  -- they preserve the map
  pub keeps_since : IsKeeping g now (map_of g m since)
  keeps_since = run_keeps g hashed.lawful since s m keeps may

  -- since a table was taken
  module _ (table : ℕ) (loaded : LoadedPairs P) (es fs : List (Exchange P)) (taken : IsTaking g c s m since table loaded es fs) where
    may_both : AllAllowed g s (es ++ fs)
    may_both = subst (AllAllowed g s) (sym taken.is) may

    pub may_before : AllAllowed g s es
    may_before = allowed_first g es fs s may_both

    pub may_then : AllAllowed g (run es s) fs
    may_then = allowed_rest g es fs s may_both

    pub keeps_then : IsKeeping g (run es s) (map_of g m es)
    keeps_then = run_keeps g hashed.lawful es s m keeps may_before

    pub now_is : run fs (run es s) ≡ now
    now_is = sym (run-append es fs s) ∙ ap (λ l. run l s) taken.is

    -- the table was the root, so it is on the chain, and each key's search comes to it
    pub table_on : IsOn now.first now.next table
    table_on =
        let was : now.was_root table ≡ true = subst (λ w. w.was_root table ≡ true) now_is
        (was_now g hashed.lawful (run es s) (map_of g m es) keeps_then table taken.root taken.some taken.last fs may_then) in
        ((keeping_sound g now (map_of g m since) keeps_since).was table was).0

    pub table_reached : (k : K) → IsReached g now k table
    table_reached k = subst (λ w. IsReached g w k table) now_is
        (reached_now g hashed.lawful (run es s) (map_of g m es) keeps_then table taken.root taken.some taken.last fs may_then k)

    -- a value that the map had at some point since then, it had at some point of the call
    moment_of : (k : K) (v : Option P) → IsAtMoment g (map_of g m es) fs k v → IsAtMoment g m since k v
    moment_of k v r = record {
      so_far = es ++ r.so_far;
      rest = r.rest;
      is = append_assoc es r.so_far r.rest ∙ (ap (λ l. es ++ l) r.is ∙ taken.is);
      value_is = ap (λ f. f k) (map_of-append g es r.so_far m) ∙ r.value_is;
    }

  -- a pair that was met was the map's
  had_met : (scan : Scan) (loaded : LoadedPairs P) (spot : Spot) (word : ℕ) → IsMeeting g c s m since scan loaded spot word
      → HadPair g c s m since loaded (pair_of word)
  had_met scan loaded spot word r = record {
    pair = r.pair;
    told = r.told;
    number = r.number;
    fs = r.fs;
    is = ap (λ l. l ++ r.fs) r.taken.moment ∙ r.taken.is;
    had = subst (λ l. IsAtMoment g (map_of g m l) r.fs (g.key r.pair) (Some r.pair)) (sym r.taken.moment) r.had;
    in_call = moment_of spot.table loaded r.es r.fs r.taken (g.key r.pair) (Some r.pair) r.had;
  }

  module _ (scan : Scan) (loaded : LoadedPairs P) where
    -- the words that are named are there
    abbrev Named : ScanAsk → Type 0
    Named = IsNamed g c s m since loaded

    -- the words that the copy names
    copy_named : (stage : Stage) → ReliesStage g c now loaded.copy stage → (o : Option CopyAsk) → resizers.asks_in stage ≡ o → (ask : ScanAsk)
        → copy_asks o ≡ Some ask → Named ask
    copy_named stage r None is ask e = absurd cc
    copy_named stage r (Some a) is ask e = let same : Copy a ≡ ask = cc e in
        subst Named same (stage_there g c hashed now (map_of g m since) keeps_since loaded.copy stage r a is)

    -- a slot of the table
    spot_there : (spot : Spot) → IsSpot g c s m since spot → IsOn now.first now.next spot.table → IsOn now.first now.next spot.table
        × (spot.slot < g.size spot.table)
    spot_there spot r on = (on, subst (λ n. spot.slot < n) r.0 r.1)

    pub state_named : (state : ScannerState) → ReliesState g c s m since scan loaded state → (ask : ScanAsk) → asks_in state ≡ Some ask → Named ask
    state_named (Copying stage) r ask e = copy_named stage r.2 (resizers.asks_in stage) refl ask e
    state_named AtRoot r ask e = let is : Copy (Load Root) ≡ ask = cc e in subst Named is tt
    state_named (Sizing table) r ask e = let v = r.1 in let is : Copy (SizeOf table) ≡ ask = cc e in subst Named is (table_on table loaded v.es v.fs v.taken)
    state_named (Looking spot) r ask e = let v = r.1 in let is : Copy (Load (Slot spot.table spot.slot)) ≡ ask = cc e in
        subst Named is (spot_there spot r.0 (table_on spot.table loaded v.es v.fs v.taken))
    state_named (Giving spot word) r ask e = let is : Given (pair_of word) ≡ ask = cc e in subst Named is (had_met scan loaded spot word r.2)
    state_named (Showing spot word) r ask e = let is : Show (pair_of word) ≡ ask = cc e in subst Named is (had_met scan loaded spot word r.3)
    state_named (Burying spot word) r ask e = let v = r.3 in let is : Copy (buries spot word) ≡ ask = cc e in
        subst Named is (spot_there spot r.0 (table_on spot.table loaded v.es v.fs v.taken))
    state_named (Uncounting spot) r (AddToShard by) e = tt
    state_named (Uncounting spot) r (Copy ask) e = absurd cc
    state_named (Uncounting spot) r (Show n) e = absurd cc
    state_named (Uncounting spot) r (Given n) e = absurd cc
    state_named Done r ask e = absurd cc
    state_named (Refused refused) r ask e = absurd cc

    -- an exchange whose old word is there
    abbrev May : ScannerState → At → (old new : ℕ) → Type 0
    May state at old new = word_of g c now at ≡ old → (e : Exchange P) × IsScanAsked g c s m since scan state at new loaded e × Allows g now e
        × IsWritten g c now at new (state_after now e)

    -- a deleted pair's word is that of its kind, Buried
    grave_code : (p : P) (word : ℕ) → code g c (Live p) ≡ word → code g c (Buried p) ≡ grave_word word
    grave_code p word e = ap buried_word (sym (code_pair g c hashed.coding (Live p) p refl)) ∙ ap grave_word e

    -- the pair in the slot is deleted
    pub bury_may : (spot : Spot) (word : ℕ) → ReliesState g c s m since scan loaded (Burying spot word) → (p : P)
        → now.slot spot.table spot.slot ≡ Live p → Allows g now (Bury spot.table spot.slot p)
    bury_may spot word r p live = let v = r.3 in record { live = live; reached = table_reached spot.table loaded v.es v.fs v.taken (g.key p) }

    buries_pair : (spot : Spot) (word : ℕ) → ReliesState g c s m since scan loaded (Burying spot word)
        → May (Burying spot word) (Slot spot.table spot.slot) word (grave_word word)
    buries_pair spot word r stands =
        let t : ℕ = spot.table in
        let x : ℕ = spot.slot in
        let live : IsOfKind kinds.Live (now.slot t x) = subst (λ y. IsOfKind y (now.slot t x)) (ap kind_of stands ∙ r.1) (word_of_kind g c (now.slot t x)) in
        let p : P = live.0 in
        let is : code g c (Live p) ≡ word = ap (code g c) (sym live.1) ∙ stands in
        let number : c.number p ≡ pair_of word = sym (code_pair g c hashed.coding (Live p) p refl) ∙ ap pair_of is in (
          Bury t x p,
          (r.2, (p, live.1, number, refl)),
          bury_may spot word r p live.1,
          subst (λ y. IsWritten g c now (Slot t x) y (slot_put now t x (Buried p))) (grave_code p word is) (slot_written g c now t x (Buried p)),
        )

    -- the copy exchanges a word
    copy_may : (stage : Stage) → ReliesState g c s m since scan loaded (Copying stage) → HasWords g (link_of stage) → (o : Option CopyAsk)
        → resizers.asks_in stage ≡ o → (at : At) (old new : ℕ) → copy_asks o ≡ Some (Copy (Ask_exchange at old new)) → May (Copying stage) at old new
    copy_may stage r words None is at old new e = absurd cc
    copy_may stage r words (Some ask) is at old new e =
        let same : ask ≡ Ask_exchange at old new = cc e in
        stage_may g c hashed now (map_of g m since) keeps_since loaded.copy stage r.2 words at old new (is ∙ ap Some same)

    pub state_may : (state : ScannerState) → ReliesState g c s m since scan loaded state → HasWords g (link_in_scan state) → (at : At) (old new : ℕ)
        → asks_in state ≡ Some (Copy (Ask_exchange at old new)) → May state at old new
    state_may (Copying stage) r words at old new e = copy_may stage r words (resizers.asks_in stage) refl at old new e
    state_may (Burying spot word) r words at old new e =
        let same_at : Slot spot.table spot.slot ≡ at = cc e in
        let same_old : word ≡ old = cc e in
        let same_new : grave_word word ≡ new = cc e in
        subst (λ y. May (Burying spot word) y old new) same_at
        (subst (λ y. May (Burying spot word) (Slot spot.table spot.slot) y new) same_old
        (subst (May (Burying spot word) (Slot spot.table spot.slot) word) same_new (buries_pair spot word r)))
    state_may AtRoot r words at old new e = absurd cc
    state_may (Sizing table) r words at old new e = absurd cc
    state_may (Looking spot) r words at old new e = absurd cc
    state_may (Giving spot word) r words at old new e = absurd cc
    state_may (Showing spot word) r words at old new e = absurd cc
    state_may (Uncounting spot) r words at old new e = absurd cc
    state_may Done r words at old new e = absurd cc
    state_may (Refused refused) r words at old new e = absurd cc

    -- a hint that the copy writes may be there
    copy_hint : (stage : Stage) → ReliesState g c s m since scan loaded (Copying stage) → (mode : ResizeMode) → IsModeOf mode g.blocking
        → (o : Option CopyAsk) → resizers.asks_in stage ≡ o → (t x n : ℕ) → copy_asks o ≡ Some (Copy (WriteHint t x n)) → IsHint g c now t x n
    copy_hint stage r mode moded None is t x n e = absurd cc
    copy_hint stage r mode moded (Some ask) is t x n e =
        let same : ask ≡ WriteHint t x n = cc e in
        stage_may_hint g c hashed now (map_of g m since) keeps_since loaded.copy mode moded stage r.2 t x n (is ∙ ap Some same)

    pub state_may_hint : (mode : ResizeMode) → IsModeOf mode g.blocking → (state : ScannerState) → ReliesState g c s m since scan loaded state → (t x n : ℕ)
        → asks_in state ≡ Some (Copy (WriteHint t x n)) → IsHint g c now t x n
    state_may_hint mode moded (Copying stage) r t x n e = copy_hint stage r mode moded (resizers.asks_in stage) refl t x n e
    state_may_hint mode moded (Burying spot word) r t x n e = absurd cc
    state_may_hint mode moded AtRoot r t x n e = absurd cc
    state_may_hint mode moded (Sizing table) r t x n e = absurd cc
    state_may_hint mode moded (Looking spot) r t x n e = absurd cc
    state_may_hint mode moded (Giving spot word) r t x n e = absurd cc
    state_may_hint mode moded (Showing spot word) r t x n e = absurd cc
    state_may_hint mode moded (Uncounting spot) r t x n e = absurd cc
    state_may_hint mode moded Done r t x n e = absurd cc
    state_may_hint mode moded (Refused refused) r t x n e = absurd cc
