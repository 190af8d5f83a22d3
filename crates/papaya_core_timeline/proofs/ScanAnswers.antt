-- The effect of an answered ask of a call that scans a table on the words and the arena.
use Rattle.std.proofs.Common.{◌≡◌, ◌⊎◌, inl, inr, ⊎_elim, ℕ, ℤ, pos, ◌+ℤ◌, ◌%◌, ◌^◌, ◌==◌, ◌<◌}
use Rattle.std.proofs.Common.{◌&&◌, Bool, true, false, cond, Option, None, Some, List, [], ◌∷◌}
use Rattle.std.proofs.Common.{◌++◌, negsuc, MatchBool, refl, sym, ap, ◌∙◌, subst, eqb-true}
use Rattle.std.proofs.Math.IntN.{+ℤ_idr}
use Rattle.std.proofs.lemmas.Int.{int_wrap_fits, SFits-int_wrap}
use Rattle.std.specs.Int.{w64, int_wrap}
use Rattle.papaya_words.specs.Word.{pair_of as number_in}
use Rattle.papaya_call.specs.declared.ask.Answer.TheVariants.{Exchanged, Found as Found_instead, Made as Made_number, Ok, Yes}
use Rattle.papaya_call.specs.declared.ask.At.{At}
use Rattle.papaya_call.specs.declared.ask.At.TheVariants.{Root, Slot}
use Rattle.papaya_call.specs.declared.copy_ask.CopyAsk.{CopyAsk}
use Rattle.papaya_call.specs.declared.copy_ask.CopyAsk.TheVariants.{Load, SizeOf}
use Rattle.papaya_call.specs.Answers.{Says}
use Rattle.papaya_call.specs.Remove.{grave_word}
use Rattle.papaya_call.specs.declared.copy.link.Link.TheVariants as links
use Rattle.papaya_call.specs.declared.chain.ask.Answer.{Answer}
use Rattle.papaya_call.specs.declared.chain.ask.Answer.TheVariants as answers
use Rattle.papaya_call.specs.declared.chain.resizer.ResizerState.{ResizerState as Stage}
use Rattle.papaya_call.specs.Resizer as resizers
use Rattle.papaya_call_law.specs.Resizers.{ReliesStage}
use Rattle.papaya_call_law.specs.ChainAnswers.{IsTrueOfCopy, told_of}
use Rattle.papaya_call_law.specs.ChainAnswers as copies
use Rattle.papaya_words_law.specs.Allows.{AllAllowed}
use Rattle.papaya_words_law.specs.Code.{Coding, IsHashed}
use Rattle.papaya_words_law.specs.Exchange.{Live, Buried, Setting, State as Words, Exchange, Bury, after as state_after, run, start}
use Rattle.papaya_words_law.specs.Grows.{Comes}
use Rattle.papaya_words_law.specs.Invariant.{IsKeeping, named}
use Rattle.papaya_words_law.specs.Meaning.{map_left}
use Rattle.papaya_words_law.proofs.Moments.{allowed_first, allowed_rest, run-append}
use Rattle.papaya_words_law.proofs.OneMap.{keeping}
use Rattle.papaya_call_law.specs.Copier.{AreThere, told_last}
use Rattle.papaya_call_law.specs.TrueAnswers.{IsWritten, or_last, word_of}
use Rattle.papaya_core_store.specs.CopyAsks.{PerformsCopy}
use Rattle.papaya_core_store.specs.Store.{StoreState, Stored, pair_of}
use Rattle.papaya_core_store.specs.Tables.{hint_at, put, word_at}
use Rattle.papaya_core_timeline.specs.Counted.{owed_scan}
use Rattle.papaya_core_timeline.specs.Core.{CoreState, IsCore}
use Rattle.papaya_core_timeline.specs.Kept.{CallTrace, HasAnswers, IsInArena, IsMade, IsMadeFor}
use Rattle.papaya_core_timeline.specs.Kept.{IsResizing, IsScanLink, WasShown, coding_of, low, numbers_of}
use Rattle.papaya_core_timeline.specs.Kept.{setting_of}
use Rattle.papaya_core_timeline.proofs.CopyAnswers.{IsLeft, Suits, copied_left, exchanged_left, quiet_left, placed}
use Rattle.papaya_core_timeline.proofs.KeptAnswer.{Stands}
use Rattle.papaya_core_timeline.proofs.KeptResized.{stage_left}
use Rattle.papaya_core_timeline.proofs.KeptSettings.{IsLawfulKeys, tables_hashed}
use Rattle.papaya_core_timeline.proofs.StoreLemmas.{matched}
use Rattle.papaya_call.specs.declared.chain.ask.ScanAsk.{ScanAsk}
use Rattle.papaya_call.specs.declared.chain.ask.ScanAsk.TheVariants.{Copy, Show, Given, AddToShard}
use Rattle.papaya_call.specs.declared.chain.scanner.Spot.{Spot}
use Rattle.papaya_call.specs.declared.chain.scanner.ScannerState.{ScannerState}
use Rattle.papaya_call.specs.declared.chain.scanner.ScannerState.TheVariants.{Copying, AtRoot, Sizing, Looking, Giving, Showing, Burying, Uncounting, Done, Refused}
use Rattle.papaya_call.specs.declared.chain.scanner.Scan.TheVariants.{Retain}
use Rattle.papaya_call.specs.Scanner.{asks_in, copy_asks, buries, resizer_of}
use Rattle.papaya_call_law.specs.ScanAnswers.{IsBuried, IsFoundThere, IsTrueOfScan, LoadedPairs, last_of}
use Rattle.papaya_call_law.specs.Scans.{HadPair, IsOfAll, ReliesScanner, ReliesState}
use Rattle.papaya_call_law.proofs.ScanAsks.{state_may, state_named}
use Rattle.papaya_core_store.specs.declared.scans.Scanning.{Scanning}
use Rattle.papaya_core_store.specs.Scans.{PerformsScan}
use Rattle.papaya_core_timeline.specs.Scans.{IsListRefused}
use Rattle.papaya_words_law.specs.Hints.{IsHint}

-- another record, if all else is the same
retold : {Q K V S : Type 0} (g : Setting Q (Stored K V)) (c : Coding Q (Stored K V)) (store : StoreState K V S) (es : List (Exchange (Stored K V)))
    (loaded : copies.LoadedPairs (Stored K V)) (T T' : List (Exchange (Stored K V)) → copies.LoadedPairs (Stored K V) → Type 0) (a : Answer)
    (store' : StoreState K V S) (left : IsLeft g c store es loaded T a store') → T' left.made left.loaded' → IsLeft g c store es loaded T' a store'
retold g c store es loaded T T' a store' left told = record {
  made = left.made;
  loaded' = left.loaded';
  told = told;
  hasher_is = left.hasher_is;
  pairs_are = left.pairs_are;
  sum_is = left.sum_is;
  tables_few = left.tables_few;
  grown = left.grown;
  coded = left.coded;
  hints = left.hints;
  there = left.there;
  slots = left.slots;
  last = left.last;
  carried = left.carried;
  same_made = left.same_made;
  opens = left.opens;
}

-- after a pair is deleted in its slot, each pair that a slot names was in a slot before
buried_stood : {P : Type 0} (s : Words P) (t x : ℕ) (p : P) → s.slot t x ≡ Live p → (u y : ℕ) (q : P) (b : Bool)
    → named (cond b (Buried p) (s.slot u y)) ≡ Some q → Stands s q
buried_stood s t x p live u y q true e = (t, x, ap named live ∙ e)
buried_stood s t x p live u y q false e = (u, y, e)

-- the pair last loaded was in the slot that was loaded, or had been loaded before
told_stood : {P : Type 0} (s : Words P) (t x : ℕ) (last : Option P) (q : P) (o : Option P) → named (s.slot t x) ≡ o → or_last o last ≡ Some q
    → (last ≡ Some q) ⊎ Stands s q
told_stood s t x last q None names e = inl e
told_stood s t x last q (Some p) names e = inr (t, x, names ∙ e)

-- an ask for the copy of all tables is the ask of a copier
pub copy_asked : (o : Option CopyAsk) (ask : ScanAsk) → copy_asks o ≡ Some ask → (a : CopyAsk) × (o ≡ Some a) × (ask ≡ Copy a)
copy_asked None ask e = absurd cc
copy_asked (Some a) ask e = let is : Copy a ≡ ask = cc e in (a, refl, sym is)

module _ {K V S A : Type 0} (eq : K → K → Bool) (hash : K → ℕ) (law : IsLawfulKeys eq hash) (says : Says K V A) (hashes : S → K → ℕ) (refuse : Bool)
    (s : CoreState K V S A) (core : IsCore s.store s.callers s.mode) (hasher : hashes s.store.hasher ≡ hash) (begun since : List (Exchange (Stored K V)))
    (may : AllAllowed (setting_of {V = V} eq (low hash) s.mode s.store.words.tables) start (begun ++ since))
    (coded : (at : At) → word_of (setting_of eq (low hash) s.mode s.store.words.tables) (coding_of (low hash)) (run (begun ++ since) start) at
    ≡ word_at s.store.words at)
    (there : (t : ℕ) → 0 < t → Comes (run (begun ++ since) start) t → IsMade s.store t)
    (hints : (t x : ℕ) → IsHint (setting_of {V = V} eq (low hash) s.mode s.store.words.tables) (coding_of (low hash)) (run (begun ++ since) start) t x
    (hint_at s.store.words t x))
    (v : Scanning A) (loaded : LoadedPairs (Stored K V))
    (relies : ReliesScanner (setting_of eq (low hash) s.mode s.store.words.tables) (coding_of (low hash)) (run begun start)
    (map_left (setting_of eq (low hash) s.mode s.store.words.tables) begun) since v.scanner loaded)
    (has_answers : HasAnswers v.scanner.scan v.answers)
    (last : (p : Stored K V) → loaded.copy.call.last ≡ Some p → IsInArena s.store p)
    (carried : (p : Stored K V) → loaded.copy.kept ≡ Some p → IsInArena s.store p)
    (given_is : v.given ≡ numbers_of loaded.given)
    (linked : (behind t chunks : ℕ) → IsScanLink v.scanner.state (links.Linking behind t chunks) → IsMadeFor s.store t chunks) where
  -- the setting, the coding and the words
  abbrev g : Setting K (Stored K V)
  g = setting_of eq (low hash) s.mode s.store.words.tables

  abbrev c : Coding K (Stored K V)
  c = coding_of (low hash)

  abbrev first : Words (Stored K V)
  first = run begun start

  abbrev now : Words (Stored K V)
  now = run (begun ++ since) start

  abbrev m : K → Option (Stored K V)
  m = map_left g begun

  hashed : IsHashed g c
  hashed = tables_hashed eq hash law s.mode s.store.words.tables core.sizes

  keeps_first : IsKeeping g first m
  keeps_first = keeping g hashed.lawful begun (allowed_first g begun since start may)

  may_since : AllAllowed g first since
  may_since = allowed_rest g begun since start may

  same : run since first ≡ now
  same = sym (run-append begun since start)

  suits : Suits eq hashes g c s.store
  suits = record {
    sizes = λ t. refl;
    places = λ t. refl;
    chunks = λ t. refl;
    numbers = λ p. refl;
    hashes_of = λ p.
        ap (λ (f : K → ℕ). f p.key % 2 ^ 64) (sym hasher);
    sames = λ p q. refl;
  }

  -- The effect of an answer: it changes the words and the arena as a copier's answer does; the
  -- count may differ.
  pub record IsScanLeft (state : ScannerState) (a : Answer) (store' : StoreState K V S) (v' : Scanning A) : Type 0 where
    pub words : StoreState K V S
    pub loaded' : LoadedPairs (Stored K V)
    pub left : IsLeft g c s.store (begun ++ since) loaded.copy
        (λ made copy. IsTrueOfScan g c now since state loaded a made loaded' × (loaded'.copy ≡ copy)) a words
    pub store_is : store' ≡ record words { count = store'.count }
    pub given : v'.given ≡ numbers_of loaded'.given
    pub answers : HasAnswers v.scanner.scan v'.answers
    pub sum : int_wrap w64 store'.count.sum ≡ int_wrap w64 (s.store.count.sum +ℤ owed_scan state)
    pub shown : (p : Stored K V) → WasShown loaded'.shown p → WasShown loaded.shown p ⊎ (loaded.copy.call.last ≡ Some p)

  -- if the count stays
  same_sum : (state : ScannerState) → owed_scan state ≡ pos 0 → (store' : StoreState K V S) → store'.count.sum ≡ s.store.count.sum
      → int_wrap w64 store'.count.sum ≡ int_wrap w64 (s.store.count.sum +ℤ owed_scan state)
  same_sum state owes store' is = ap (int_wrap w64) (is ∙ sym (+ℤ_idr s.store.count.sum) ∙ ap (λ z. s.store.count.sum +ℤ z) (sym owes))

  -- if only the machine continues
  same_given : (v' : Scanning A) → v' ≡ v → v'.given ≡ numbers_of loaded.given
  same_given v' is = ap (λ (y : Scanning A). y.given) is ∙ given_is

  same_answers : (v' : Scanning A) → v' ≡ v → HasAnswers v.scanner.scan v'.answers
  same_answers v' is = subst (λ (y : Scanning A). HasAnswers v.scanner.scan y.answers) (sym is) has_answers

  abbrev Relies : ScannerState → Type 0
  Relies state = ReliesState g c first m since v.scanner.scan loaded state

  -- the copy of all, as a call that resizes the map
  copying : (stage : Stage) → v.scanner.state ≡ Copying stage → Relies (Copying stage)
      → IsResizing eq hash s.mode s.store (resizer_of v.scanner stage) (begun ++ since)
      (record { begun = begun; since = since; loaded = loaded.copy; scan = loaded })
  copying stage is r = record {
    relies = record { mode = relies.mode; cut = relies.cut; stage = subst (λ w. ReliesStage g c w loaded.copy stage) same r.2 };
    last = last;
    carried = carried;
    opens = λ t e. absurd (subst (IsOfAll g c first m since) e r.1);
    links = λ behind t chunks e. linked behind t chunks (subst (λ y. IsScanLink y (links.Linking behind t chunks)) (sym is) e);
  }

  copy_left : (stage : Stage) → v.scanner.state ≡ Copying stage → Relies (Copying stage) → (ask : CopyAsk) → resizers.asks_in stage ≡ Some ask
      → (a : Answer) (store' : StoreState K V S) → PerformsCopy eq hashes refuse ask s.store a store' → (v' : Scanning A) → v' ≡ v
      → IsScanLeft (Copying stage) a store' v'
  copy_left stage is r ask e a store' performs v' same_v =
      let call_trace : CallTrace K V = record { begun = begun; since = since; loaded = loaded.copy; scan = loaded } in
      let left = stage_left eq hash law hashes refuse s (begun ++ since) call_trace core (resizer_of v.scanner stage) hasher may coded there hints
      (copying stage is r) stage refl ask e a store' performs in
      record {
        words = store';
        loaded' = record loaded { copy = left.loaded'; before = since ++ left.made };
        left = retold g c s.store (begun ++ since) loaded.copy _ _ a store' left (record { copy = left.loaded'; told = left.told; handed = refl }, refl);
        store_is = refl;
        given = same_given v' same_v;
        answers = same_answers v' same_v;
        sum = same_sum (Copying stage) refl store' left.sum_is;
        shown = λ p h. inl h;
      }

  -- a word is loaded, or a size
  abbrev Named : CopyAsk → Type 0
  Named ask = AreThere g c now loaded.copy.call.last loaded.copy.kept ask

  word_named : (state : ScannerState) → Relies state → (ask : CopyAsk) → asks_in state ≡ Some (Copy ask) → Named ask
  word_named state r ask e = subst (λ w. AreThere g c w loaded.copy.call.last loaded.copy.kept ask) same
      (state_named g c hashed first m keeps_first since may_since v.scanner.scan loaded state r (Copy ask) e)

  abbrev Hears : CopyAsk → Answer → StoreState K V S → Type 0
  Hears ask a store' = IsLeft g c s.store (begun ++ since) loaded.copy (λ made copy. IsTrueOfCopy g c now None 0 loaded.copy ask a made copy) a store'

  loads : (at : At) → Named (Load at) → (a : Answer) (store' : StoreState K V S) → PerformsCopy eq hashes refuse (Load at) s.store a store'
      → Hears (Load at) a store'
  loads at named a store' performs =
      copied_left g c s.store (begun ++ since) loaded.copy coded there eq hashes last carried suits None 0 refuse (Load at)
      (record {
        names = named;
        may = λ at old new e stands. absurd cc;
        low = λ slots limit chunks e. absurd cc;
        links = λ behind old t e.
            absurd cc;
        reads = λ t x e. absurd cc;
        writes = λ t x n e. absurd cc;
      }) a store' performs

  sizes : (t : ℕ) → Named (SizeOf t) → (a : Answer) (store' : StoreState K V S) → PerformsCopy eq hashes refuse (SizeOf t) s.store a store'
      → Hears (SizeOf t) a store'
  sizes t named a store' performs =
      copied_left g c s.store (begun ++ since) loaded.copy coded there eq hashes last carried suits None 0 refuse (SizeOf t)
      (record {
        names = named;
        may = λ at old new e stands. absurd cc;
        low = λ slots limit chunks e. absurd cc;
        links = λ behind old t e.
            absurd cc;
        reads = λ t x e. absurd cc;
        writes = λ t x n e. absurd cc;
      }) a store' performs

  -- so the record has the word, or the size
  word_left : (state : ScannerState) (before : List (Exchange (Stored K V)) → List (Exchange (Stored K V))) → (ask : CopyAsk)
      → asks_in state ≡ Some (Copy ask) → (a : Answer) (store' : StoreState K V S) → (left : Hears ask a store')
      → ((loaded' : LoadedPairs (Stored K V)) → loaded' ≡ record loaded { copy = left.loaded'; before = before left.made }
      → IsTrueOfScan g c now since state loaded a left.made loaded') → owed_scan state ≡ pos 0 → (v' : Scanning A) → v' ≡ v → IsScanLeft state a store' v'
  word_left state before ask e a store' left tells owes v' same_v =
      let loaded' : LoadedPairs (Stored K V) = record loaded { copy = left.loaded'; before = before left.made } in
      record {
        words = store';
        loaded' = loaded';
        left = retold g c s.store (begun ++ since) loaded.copy _ _ a store' left (tells loaded' refl, refl);
        store_is = refl;
        given = same_given v' same_v;
        answers = same_answers v' same_v;
        sum = same_sum state owes store' left.sum_is;
        shown = λ p h. inl h;
      }

  -- an answer that leaves the store, and gives no word
  still : (state : ScannerState) (a : Answer) (store' : StoreState K V S) (loaded' : LoadedPairs (Stored K V)) → loaded'.copy ≡ loaded.copy
      → store' ≡ record s.store { count = store'.count } → ((t : ℕ) → a ≡ answers.Call (Made_number t) → ⊥)
      → IsTrueOfScan g c now since state loaded a [] loaded' → (v' : Scanning A) → v'.given ≡ numbers_of loaded'.given
      → HasAnswers v.scanner.scan v'.answers →
      ((p : Stored K V) → WasShown loaded'.shown p → WasShown loaded.shown p ⊎ (loaded.copy.call.last ≡ Some p))
      → int_wrap w64 store'.count.sum ≡ int_wrap w64 (s.store.count.sum +ℤ owed_scan state) → IsScanLeft state a store' v'
  still state a store' loaded' copy is never told v' given answered shown sum = record {
    words = s.store;
    loaded' = loaded';
    left = quiet_left g c s.store (begun ++ since) loaded.copy coded there
        (λ made copy. IsTrueOfScan g c now since state loaded a made loaded' × (loaded'.copy ≡ copy)) a s.store loaded.copy refl (told, copy)
        (λ p h. inl h) (λ p h. inl h) refl never;
    store_is = is;
    given = given;
    answers = answered;
    shown = shown;
    sum = sum;
  }

  -- the pair that it meets is in the arena
  met : (n : ℕ) → (had : HadPair g c first m since loaded n) → pair_of s.store n ≡ Some had.pair
  met n had = subst (λ i. pair_of s.store i ≡ Some had.pair) had.number (last had.pair had.told)

  -- a pair is returned, or there was no memory for its number
  abbrev Left : ScannerState → Answer → StoreState K V S → Scanning A → Type 0
  Left state a store' v' = IsListRefused s.store v a store' ⊎ IsScanLeft state a store' v'

  give_left : (spot : Spot) (word : ℕ) → v.scanner.state ≡ Giving spot word → Relies (Giving spot word)
      → (a : Answer) (store' : StoreState K V S) (v' : Scanning A) → PerformsScan eq says hashes refuse (Given (number_in word)) s.store v a store' v'
      → Left (Giving spot word) a store' v'
  give_left spot word is r a store' v' (gives, stays) =
      let (told, answered, how) = gives in
      let had : HadPair g c first m since loaded (number_in word) = state_named g c hashed first m keeps_first since may_since v.scanner.scan loaded
      (Giving spot word) r (Given (number_in word)) refl in
      ⊎_elim
      (λ (given : _). let ok : a ≡ answers.Call Ok = answered ∙ ap answers.Call given.0 in
      inr (still (Giving spot word) a store' (record loaded { given = had.pair ∷ loaded.given }) refl
      (subst (λ (y : StoreState K V S). y ≡ record s.store { count = y.count }) (sym stays) refl) (λ t e. let f = sym ok ∙ e in absurd cc)
      (record { pair = had.pair; last = had.told; is = ok; none = refl; handed = refl })
      v' (given.1.given ∙ ap (λ l. l ++ number_in word ∷ []) given_is ∙ ap (λ n. numbers_of loaded.given ++ n ∷ []) (sym had.number))
      (subst (HasAnswers v.scanner.scan) (sym given.1.answers) has_answers) (λ p h. inl h)
      (same_sum (Giving spot word) refl store' (ap (λ (y : StoreState K V S). y.count.sum) stays))))
      (λ (lost : _). inl (record { giving = (spot, word, is); refused = answered ∙ ap answers.Call lost.0; same = stays }))
      how

  -- the closure is called with a pair
  show_left : (spot : Spot) (word : ℕ) → Relies (Showing spot word) → (a : Answer) (store' : StoreState K V S) (v' : Scanning A)
      → PerformsScan eq says hashes refuse (Show (number_in word)) s.store v a store' v' → IsScanLeft (Showing spot word) a store' v'
  show_left spot word r a store' v' (shows, stays) =
      let (told, answered, how) = shows in
      let had : HadPair g c first m since loaded (number_in word) = state_named g c hashed first m keeps_first since may_since v.scanner.scan loaded
      (Showing spot word) r (Show (number_in word)) refl in
      let left : HasAnswers Retain v.answers = subst (λ w. HasAnswers w v.answers) r.1 has_answers in
      ⊎_elim
      (λ (nothing : ((v.answers ≡ None) ⊎ (pair_of s.store (number_in word) ≡ None)) × (told ≡ Ok) × (v' ≡ v)).
      absurd (⊎_elim (λ (none : v.answers ≡ None). let f : None ≡ Some left.0 = sym none ∙ left.1 in cc)
      (λ (none : pair_of s.store (number_in word) ≡ None). let f : None ≡ Some had.pair = sym none ∙ met (number_in word) had in cc) nothing.0))
      (λ (shown : _). let (x, p, agrees, x', had_answers, there_is, says_so, told_so, left_answers) = shown in
      let is : a ≡ answers.Call (Yes agrees) = answered ∙ ap answers.Call told_so in
      still (Showing spot word) a store' (record loaded { shown = (had.pair, agrees) ∷ loaded.shown }) refl
      (subst (λ (y : StoreState K V S). y ≡ record s.store { count = y.count }) (sym stays) refl) (λ t e. let f = sym is ∙ e in absurd cc)
      (record { pair = had.pair; last = had.told; stays = agrees; is = is; none = refl; handed = refl })
      v' (ap (λ (y : Scanning A). y.given) left_answers ∙ given_is)
      (subst (λ w. HasAnswers w v'.answers) (sym r.1) (x', ap (λ (y : Scanning A). y.answers) left_answers))
      (λ q h. ⊎_elim (λ (is_it : had.pair ≡ q). inr (had.told ∙ ap Some is_it)) (λ (older : WasShown loaded.shown q). inl older) h)
      (same_sum (Showing spot word) refl store' (ap (λ (y : StoreState K V S). y.count.sum) stays)))
      how

  -- 1 is taken from the count
  uncount_left : (spot : Spot) → (a : Answer) (store' : StoreState K V S) (v' : Scanning A)
      → PerformsScan eq says hashes refuse (AddToShard (negsuc 0)) s.store v a store' v' → IsScanLeft (Uncounting spot) a store' v'
  uncount_left spot a store' v' (is, counted, kept) =
      still (Uncounting spot) a store' loaded refl (subst (λ (y : StoreState K V S). y ≡ record s.store { count = y.count }) (sym counted.1) refl)
      (λ t e. let f = sym is ∙ e in absurd cc) (is, refl, refl) v' (same_given v' kept) (same_answers v' kept) (λ p h. inl h)
      (let sum : ℤ = s.store.count.sum +ℤ negsuc 0 in
      ap (λ (y : StoreState K V S). int_wrap w64 y.count.sum) counted.1 ∙ int_wrap_fits w64 (int_wrap w64 sum) (SFits-int_wrap w64 sum))

  -- the pair in the slot is deleted, or another word was found there
  bury_left : (spot : Spot) (word : ℕ) → Relies (Burying spot word) → (a : Answer) (store' : StoreState K V S)
      → PerformsCopy eq hashes refuse (buries spot word) s.store a store' → (v' : Scanning A) → v' ≡ v → IsScanLeft (Burying spot word) a store' v'
  bury_left spot word r a store' performs v' same_v =
      let at : At = Slot spot.table spot.slot in
      let (told, answered, how) = performs in
      matched (IsScanLeft (Burying spot word) a store' v') (word_at s.store.words at == word) _ _ how
      (λ hit done.
      let here : word_of g c (run since first) at ≡ word = ap (λ w. word_of g c w at) same ∙ coded at ∙ eqb-true (word_at s.store.words at) word hit in
      let x = state_may g c hashed first m keeps_first since may_since v.scanner.scan loaded (Burying spot word) r tt at word (grave_word word) refl here in
      bury_made spot word r a store' x.0 x.1.1 (subst (λ w. IsWritten g c w at (grave_word word) (state_after w x.0)) same x.3) hit
      (answered ∙ ap answers.Call done.0) done.1 v' same_v)
      (λ miss lost. bury_lost spot word a store' miss (answered ∙ ap answers.Call lost.0) lost.1 v' same_v)
    where
      bury_made : (spot : Spot) (word : ℕ) → Relies (Burying spot word) → (a : Answer) (store' : StoreState K V S) (e : Exchange (Stored K V))
          → ((p : Stored K V) × ((run since first).slot spot.table spot.slot ≡ Live p) × (c.number p ≡ number_in word) × (e ≡ Bury spot.table spot.slot p))
          → IsWritten g c now (Slot spot.table spot.slot) (grave_word word) (state_after now e)
          → (word_at s.store.words (Slot spot.table spot.slot) == word) ≡ true → a ≡ answers.Call Exchanged
          → store' ≡ record s.store { words = put s.store.words (Slot spot.table spot.slot) (grave_word word) } → (v' : Scanning A) → v' ≡ v
          → IsScanLeft (Burying spot word) a store' v'
      bury_made spot word r a store' e (p, stood, number, is_bury) written hit is stored v' same_v =
          let at : At = Slot spot.table spot.slot in
          let by : Exchange (Stored K V) = Bury spot.table spot.slot p in
          let live : now.slot spot.table spot.slot ≡ Live p = subst (λ (w : Words (Stored K V)). w.slot spot.table spot.slot ≡ Live p) same stood in
          let named_there : Named (buries spot word) = word_named (Burying spot word) r (buries spot word) refl in
          let told : IsTrueOfScan g c now since (Burying spot word) loaded (answers.Call Exchanged) (by ∷ []) loaded =
          subst (λ b. MatchBool b (IsBuried g c now since spot loaded (answers.Call Exchanged) (by ∷ []) loaded)
          (IsFoundThere g c now since spot loaded (answers.Call Exchanged) (by ∷ []) loaded))
          (sym (ap (λ y. y == word) (coded at) ∙ hit)) (record { pair = p; live = live; is = refl; one = refl; handed = refl }) in
          let left = exchanged_left g c s.store (begun ++ since) loaded.copy coded there
          (λ made copy. IsTrueOfScan g c now since (Burying spot word) loaded (answers.Call Exchanged) made loaded × (loaded.copy ≡ copy)) at
          (grave_word word) by loaded.copy (told, refl)
          (placed g c s.store (begun ++ since) loaded.copy coded there eq hashes last carried suits None 0 at named_there)
          (subst (λ y. IsWritten g c now at (grave_word word) (state_after now y)) is_bury written)
          (λ t some comes. there t some comes)
          (λ t x q e. buried_stood now spot.table spot.slot p live t x q ((t == spot.table) && (x == spot.slot)) e)
          (λ q e. inl e) refl refl in
          subst (λ y. IsScanLeft (Burying spot word) y store' v') (sym is)
          (subst (λ y. IsScanLeft (Burying spot word) (answers.Call Exchanged) y v') (sym stored)
          (record {
            words = record s.store { words = put s.store.words at (grave_word word) };
            loaded' = loaded;
            left = left;
            store_is = refl;
            given = same_given v' same_v;
            answers = same_answers v' same_v;
            sum = same_sum (Burying spot word) refl
                (record s.store { words = put s.store.words at (grave_word word) }) refl;
            shown = λ q h. inl h;
          }))

      bury_lost : (spot : Spot) (word : ℕ) → (a : Answer) (store' : StoreState K V S)
          → (word_at s.store.words (Slot spot.table spot.slot) == word) ≡ false
          → a ≡ answers.Call (Found_instead (word_at s.store.words (Slot spot.table spot.slot))) → store' ≡ s.store → (v' : Scanning A) → v' ≡ v
          → IsScanLeft (Burying spot word) a store' v'
      bury_lost spot word a store' miss is stored v' same_v =
          let at : At = Slot spot.table spot.slot in
          let nothing : List (Exchange (Stored K V)) = [] in
          let loaded' : LoadedPairs (Stored K V) = record loaded { copy = told_of (told_last now at (last_of loaded)) loaded.copy } in
          let told : IsTrueOfScan g c now since (Burying spot word) loaded a nothing loaded' =
          subst (λ b. MatchBool b (IsBuried g c now since spot loaded a nothing loaded') (IsFoundThere g c now since spot loaded a nothing loaded'))
          (sym (ap (λ y. y == word) (coded at) ∙ miss))
          (record { is = is ∙ ap (λ y. answers.Call (Found_instead y)) (sym (coded at)); none = refl; handed = refl }) in
          record {
            words = store';
            loaded' = loaded';
            left = quiet_left g c s.store (begun ++ since) loaded.copy coded there
                (λ made copy. IsTrueOfScan g c now since (Burying spot word) loaded a made loaded' × (loaded'.copy ≡ copy)) a store' loaded'.copy stored
                (told, refl)
                (λ q e. told_stood now spot.table spot.slot loaded.copy.call.last q (named (now.slot spot.table spot.slot)) refl e) (λ p h. inl h)
                refl (λ t e. let f = sym is ∙ e in absurd cc);
            store_is = refl;
            given = same_given v' same_v;
            answers = same_answers v' same_v;
            sum = same_sum (Burying spot word) refl store' (ap (λ (y : StoreState K V S). y.count.sum) stored);
            shown = λ q h. inl h;
          }

  -- each ask
  pub scan_left : (state : ScannerState) → v.scanner.state ≡ state → Relies state → (ask : ScanAsk) → asks_in state ≡ Some ask
      → (a : Answer) (store' : StoreState K V S) (v' : Scanning A) → PerformsScan eq says hashes refuse ask s.store v a store' v' → Left state a store' v'
  scan_left (Copying stage) is r ask e a store' v' performs =
      let (asked, at, one) = copy_asked (resizers.asks_in stage) ask e in
      let h = subst (λ q. PerformsScan eq says hashes refuse q s.store v a store' v') one performs in
      inr (copy_left stage is r asked at a store' h.0 v' h.1)
  scan_left AtRoot is r ask e a store' v' performs =
      let one : Copy (Load Root) ≡ ask = cc e in
      let h = subst (λ q. PerformsScan eq says hashes refuse q s.store v a store' v') (sym one) performs in
      let left = loads Root tt a store' h.0 in
      inr (word_left AtRoot (λ made. since ++ made) (Load Root) refl a store' left
      (λ loaded' handed. record { ask = Load Root; asks = refl; copy = left.loaded'; told = left.told; handed = handed }) refl v' h.1)
  scan_left (Sizing table) is r ask e a store' v' performs =
      let one : Copy (SizeOf table) ≡ ask = cc e in
      let h = subst (λ q. PerformsScan eq says hashes refuse q s.store v a store' v') (sym one) performs in
      let left = sizes table (word_named (Sizing table) r (SizeOf table) refl) a store' h.0 in
      inr (word_left (Sizing table) (λ made. loaded.before) (SizeOf table) refl a store' left
      (λ loaded' handed. record { ask = SizeOf table; asks = refl; copy = left.loaded'; told = left.told; handed = handed }) refl v' h.1)
  scan_left (Looking spot) is r ask e a store' v' performs =
      let at : At = Slot spot.table spot.slot in
      let one : Copy (Load at) ≡ ask = cc e in
      let h = subst (λ q. PerformsScan eq says hashes refuse q s.store v a store' v') (sym one) performs in
      let left = loads at (word_named (Looking spot) r (Load at) refl) a store' h.0 in
      inr (word_left (Looking spot) (λ made. loaded.before) (Load at) refl a store' left
      (λ loaded' handed. record { ask = Load at; asks = refl; copy = left.loaded'; told = left.told; handed = handed }) refl v' h.1)
  scan_left (Giving spot word) is r ask e a store' v' performs =
      let one : Given (number_in word) ≡ ask = cc e in
      give_left spot word is r a store' v' (subst (λ q. PerformsScan eq says hashes refuse q s.store v a store' v') (sym one) performs)
  scan_left (Showing spot word) is r ask e a store' v' performs =
      let one : Show (number_in word) ≡ ask = cc e in
      inr (show_left spot word r a store' v' (subst (λ q. PerformsScan eq says hashes refuse q s.store v a store' v') (sym one) performs))
  scan_left (Burying spot word) is r ask e a store' v' performs =
      let one : Copy (buries spot word) ≡ ask = cc e in
      let h = subst (λ q. PerformsScan eq says hashes refuse q s.store v a store' v') (sym one) performs in
      inr (bury_left spot word r a store' h.0 v' h.1)
  scan_left (Uncounting spot) is r ask e a store' v' performs =
      let one : AddToShard (negsuc 0) ≡ ask = cc e in
      inr (uncount_left spot a store' v' (subst (λ q. PerformsScan eq says hashes refuse q s.store v a store' v') (sym one) performs))
  scan_left Done is r ask e a store' v' performs = absurd cc
  scan_left (Refused refused) is r ask e a store' v' performs = absurd cc
