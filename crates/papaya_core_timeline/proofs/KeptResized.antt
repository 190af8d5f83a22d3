-- After a step of a call that resizes the map the words of a core obey the law of exchanges.
use Rattle.std.proofs.Common.{◌≡◌, ℕ, ◌%◌, ◌^◌, ◌==◌, ◌≤◌, ◌<◌, Bool, List, [], ◌∷◌, ◌++◌, length}
use Rattle.std.proofs.Common.{Option, Some, None, inl, inr, ◌⊎◌, refl, sym, ◌∙◌, ap, subst, arith}
use Rattle.std.proofs.Common.{MatchBool, eqb-true}
use Rattle.papaya_call.specs.declared.ask.At.{At}
use Rattle.papaya_call.specs.declared.ask.At.TheVariants.{Root, Next}
use Rattle.papaya_call.specs.declared.ask.Answer.{Answer as Call_answer}
use Rattle.papaya_call.specs.declared.ask.Answer.TheVariants.{Exchanged, Found as Found_instead, Made as Made_number}
use Rattle.papaya_call.specs.declared.call.Reply.{Reply}
use Rattle.papaya_call.specs.declared.copy_ask.CopyAsk.{CopyAsk}
use Rattle.papaya_call.specs.declared.copy_ask.CopyAsk.TheVariants.{Exchange as Copy_exchange, MakeTable}
use Rattle.papaya_call.specs.declared.copy.link.Link.TheVariants as links
use Rattle.papaya_call.specs.declared.chain.ask.Answer.{Answer}
use Rattle.papaya_call.specs.declared.chain.ask.Answer.TheVariants as answers
use Rattle.papaya_call.specs.declared.chain.resizer.Resizer.{Resizer}
use Rattle.papaya_call.specs.declared.chain.resizer.ResizerState.{ResizerState as Stage}
use Rattle.papaya_call.specs.declared.chain.resizer.ResizerState.TheVariants as stages
use Rattle.papaya_call.specs.Resizer.{after, asks_in, follows_in, kind_in}
use Rattle.papaya_call_law.specs.Resizers.{HasLink, link_of, IsStageAsked, IsTrueOfStage, ReliesResizer, ReliesStage}
use Rattle.papaya_call_law.specs.ChainAnswers.{IsTrueOfCopy, LoadedPairs}
use Rattle.papaya_words_law.specs.Allows.{AllAllowed, Allows}
use Rattle.papaya_words_law.specs.Class.{IsOn}
use Rattle.papaya_words_law.specs.Code.{Coding, IsHashed}
use Rattle.papaya_words_law.specs.Exchange.{Setting, State, Exchange, Open, after as state_after, run, start}
use Rattle.papaya_words_law.specs.Grows.{Comes}
use Rattle.papaya_words_law.specs.Invariant.{IsKeeping}
use Rattle.papaya_words_law.specs.Meaning.{map_left}
use Rattle.papaya_words_law.proofs.Logs.{on_comes}
use Rattle.papaya_words_law.proofs.Moments.{allowed_append, run-append}
use Rattle.papaya_words_law.proofs.OneMap.{keeping}
use Rattle.papaya_call_law.specs.TrueAnswers.{IsWritten, word_of}
use Rattle.papaya_core_store.specs.CopyAsks.{PerformsCopy}
use Rattle.papaya_core_store.specs.Pairs.{key_in, value_in}
use Rattle.papaya_core_store.specs.Performs.{Exchanges}
use Rattle.papaya_core_store.specs.Store.{StoreState, Stored, pair_of}
use Rattle.papaya_core_store.specs.Tables.{hint_at, put, word_at}
use Rattle.papaya_core_store.specs.declared.pairs.Pair.{Pair}
use Rattle.papaya_core_store.specs.declared.pairs.Running.{Running}
use Rattle.papaya_words.specs.declared.limits.TheConstants.{MAX_LOG_LEN}
use Rattle.papaya_core_timeline.specs.declared.seat.Work.{Work}
use Rattle.papaya_core_timeline.specs.declared.seat.Work.TheVariants as works
use Rattle.papaya_core_timeline.specs.declared.trace.Event.{Event}
use Rattle.papaya_core_timeline.specs.Advances.{goes_on}
use Rattle.papaya_core_timeline.specs.Callers.{call_in, resizer_in, scanner_in}
use Rattle.papaya_core_timeline.specs.Core.{CoreState, IsCore}
use Rattle.papaya_core_timeline.specs.Kept.{IsConsistent, IsMade, IsMadeFor, IsResizing, CallTrace, setting_of, coding_of, low, told_call_traces}
use Rattle.papaya_core_timeline.specs.Resizes.{Resizes}
use Rattle.papaya_core_store.specs.declared.scans.Scanning.{Scanning}
use Rattle.papaya_core_timeline.proofs.CallersLemmas.{same_item}
use Rattle.papaya_core_timeline.proofs.CopyAnswers.{IsAsker, IsLeft, Suits, copied_left, exchanged_left, left_logged, quiet_left}
use Rattle.papaya_core_timeline.proofs.FollowedTables.{copying_follows}
use Rattle.papaya_core_timeline.proofs.KeptAnswer.{Stands}
use Rattle.papaya_core_timeline.proofs.KeptOthers as others
use Rattle.papaya_core_timeline.proofs.KeptSettings.{IsLawfulKeys, tables_hashed}
use Rattle.papaya_core_timeline.proofs.KeptTables.{table_low}
use Rattle.papaya_core_timeline.proofs.LinkWords.{stage_words}
use Rattle.papaya_core_timeline.proofs.MadeTables.{copier_made}
use Rattle.papaya_call_law.specs.Copier.{HasWords}
use Rattle.papaya_call_law.proofs.LinkMade.{copying_asks, link_asks}
use Rattle.papaya_core_timeline.proofs.ResizerLaws.{resizer_learns, resizer_may, resizer_may_hint, resizer_names}
use Rattle.papaya_core_timeline.proofs.ResizerTables.{stage_is, stage_links, stage_made, stage_opens}
use Rattle.papaya_core_timeline.proofs.StoreLemmas.{matched}
use Rattle.papaya_words_law.specs.Hints.{IsHint}

-- a longer record implies a shorter one
left_weaker : {Q K V S : Type 0} (g : Setting Q (Stored K V)) (c : Coding Q (Stored K V)) (store : StoreState K V S)
    (es : List (Exchange (Stored K V))) (loaded : LoadedPairs (Stored K V)) (T T' : List (Exchange (Stored K V)) → LoadedPairs (Stored K V) → Type 0)
    (a : Answer) (store' : StoreState K V S)
    → ((made : List (Exchange (Stored K V))) (loaded' : LoadedPairs (Stored K V)) → T made loaded' → T' made loaded')
    → IsLeft g c store es loaded T a store' → IsLeft g c store es loaded T' a store'
left_weaker g c store es loaded T T' a store' f left = record {
  made = left.made;
  loaded' = left.loaded';
  told = f left.made left.loaded' left.told;
  hasher_is = left.hasher_is;
  pairs_are = left.pairs_are;
  sum_is = left.sum_is;
  tables_few = left.tables_few;
  grown = left.grown;
  coded = left.coded;
  hints = left.hints;
  there = left.there;
  slots = left.slots;
  last = left.last;
  carried = left.carried;
  same_made = left.same_made;
  opens = left.opens;
}

-- work that continues is no call on one key, and is the resizer
pub goes_on-resizer : {K V A : Type 0} (reply : Option Reply) (y z : Resizer) (w : Work K V A) → w ≡ works.Resize y
    → goes_on reply w ≡ Some (works.Resize z) → y ≡ z
goes_on-resizer None y z w is e = same_item y z (ap (λ (v : Work _ _ _). resizer_in (Some v)) (sym is) ∙ ap resizer_in e)
goes_on-resizer (Some reply) y z w is e = let f : None ≡ Some z = ap resizer_in e in cc

pub goes_on-scanner : {K V A : Type 0} (reply : Option Reply) (y : Resizer) (v : Scanning A) (w : Work K V A) → w ≡ works.Resize y
    → goes_on reply w ≡ Some (works.Scan v) → ⊥
goes_on-scanner None y v w is e = let f : None ≡ Some v = ap (λ (u : Work _ _ _). scanner_in (Some u)) (sym is) ∙ ap scanner_in e in absurd cc
goes_on-scanner (Some reply) y v w is e = let f : None ≡ Some v = ap scanner_in e in absurd cc

pub goes_on-call : {K V A : Type 0} (reply : Option Reply) (y : Resizer) (r : Running K V A) (w : Work K V A) → w ≡ works.Resize y
    → goes_on reply w ≡ Some (works.Call r) → ⊥
goes_on-call None y r w is e = let f : None ≡ Some r = ap (λ (v : Work _ _ _). call_in (Some v)) (sym is) ∙ ap call_in e in absurd cc
goes_on-call (Some reply) y r w is e = let f : None ≡ Some r = ap call_in e in absurd cc

module _ {K V S A : Type 0} (eq : K → K → Bool) (hash : K → ℕ) (law : IsLawfulKeys eq hash) (hashes : S → K → ℕ) (refuse : Bool)
    (s : CoreState K V S A) (es : List (Exchange (Stored K V))) (call_trace : CallTrace K V) (core : IsCore s.store s.callers s.mode) (z : Resizer)
    (hasher : hashes s.store.hasher ≡ hash)
    (may : AllAllowed (setting_of {V = V} eq (low hash) s.mode s.store.words.tables) start es)
    (coded : (at : At) → word_of (setting_of eq (low hash) s.mode s.store.words.tables) (coding_of (low hash)) (run es start) at ≡ word_at s.store.words at)
    (there : (t : ℕ) → 0 < t → Comes (run es start) t → IsMade s.store t)
    (hints : (t x : ℕ) → IsHint (setting_of {V = V} eq (low hash) s.mode s.store.words.tables) (coding_of (low hash)) (run es start) t x
    (hint_at s.store.words t x))
    (resizing : IsResizing eq hash s.mode s.store z es call_trace) where
  -- the setting, the coding and the words
  abbrev g : Setting K (Stored K V)
  g = setting_of eq (low hash) s.mode s.store.words.tables

  abbrev c : Coding K (Stored K V)
  c = coding_of (low hash)

  abbrev now : State (Stored K V)
  now = run es start

  hashed : IsHashed g c
  hashed = tables_hashed eq hash law s.mode s.store.words.tables core.sizes

  keeps : IsKeeping g now (map_left g es)
  keeps = keeping g hashed.lawful es may

  suits : Suits eq hashes g c s.store
  suits = record {
    sizes = λ t. refl;
    places = λ t. refl;
    chunks = λ t. refl;
    numbers = λ p. refl;
    hashes_of = λ p.
        ap (λ (f : K → ℕ). f p.key % 2 ^ 64) (sym hasher);
    sames = λ p q. refl;
  }

  -- the table that it is about to link has its words
  words : HasWords g (link_of z.state)
  words = stage_words g s.store (λ t. refl) z.state resizing.links

  -- a table of the chain has a number no greater than how many there are
  on_low : (t : ℕ) → IsOn now.first now.next t → t ≤ length s.store.words.tables
  on_low t on = let words = there t on.0 (on_comes now t on) in table_low s.store.words.tables t words.0 words.1

  -- the effect of an answer
  abbrev pub IsStageLeft : Stage → Answer → StoreState K V S → Type 0
  IsStageLeft stage a store' = IsLeft g c s.store es call_trace.loaded (λ made loaded'. IsTrueOfStage g c now stage call_trace.loaded a made loaded') a store'

  -- a first table is opened
  opened : (table : ℕ) → z.state ≡ stages.Opening table → (a : Call_answer) (store' : StoreState K V S)
      → Exchanges (word_at s.store.words Root) 0 (put s.store.words Root table) a s.store store' → IsStageLeft (stages.Opening table) (answers.Call a) store'
  opened table is a store' h =
      matched (IsStageLeft (stages.Opening table) (answers.Call a) store') (word_at s.store.words Root == 0) _ _ h
      (λ hit done.
      let stands : now.root ≡ 0 = coded Root ∙ eqb-true (word_at s.store.words Root) 0 hit in
      let x = resizer_may g c hashed now (map_left g es) keeps z call_trace.loaded resizing.relies words Root 0 table (ap asks_in is) stands in
      let same : x.0 ≡ Open table = subst (λ stage. IsStageAsked g c now stage Root table call_trace.loaded x.0) is x.1 in
      let one : List (Exchange (Stored K V)) = Open table ∷ [] in
      let nothing : List (Exchange (Stored K V)) = [] in
      let written = subst (λ e. IsWritten g c now Root table (state_after now e)) same x.3 in
      subst (λ y. IsStageLeft (stages.Opening table) (answers.Call y) store') (sym done.0)
      (subst (IsStageLeft (stages.Opening table) (answers.Call Exchanged)) (sym done.1)
      (exchanged_left g c s.store es call_trace.loaded coded there
      (λ made loaded'. IsTrueOfStage g c now (stages.Opening table) call_trace.loaded (answers.Call Exchanged) made loaded') Root table (Open table)
      call_trace.loaded
      (subst (λ b. MatchBool b
      ((answers.Call Exchanged ≡ answers.Call Exchanged) × (one ≡ one) × (call_trace.loaded ≡ call_trace.loaded))
      ((answers.Call Exchanged ≡ answers.Call (Found_instead now.root)) × ((one ≡ nothing) × (call_trace.loaded ≡ call_trace.loaded))))
      (sym (ap (λ y. y == 0) (coded Root) ∙ hit)) (refl, refl, refl))
      tt written
      (λ t some comes. opened_made t some comes)
      (λ t x p e. (t, x, e)) (λ p e. inl e) refl refl)))
      (λ miss lost.
      let one : List (Exchange (Stored K V)) = Open table ∷ [] in
      let nothing : List (Exchange (Stored K V)) = [] in
      quiet_left g c s.store es call_trace.loaded coded there
      (λ made loaded'. IsTrueOfStage g c now (stages.Opening table) call_trace.loaded (answers.Call a) made loaded') (answers.Call a) store'
      call_trace.loaded lost.1
      (subst (λ b. MatchBool b
      ((answers.Call a ≡ answers.Call Exchanged) × (nothing ≡ one) × (call_trace.loaded ≡ call_trace.loaded))
      ((answers.Call a ≡ answers.Call (Found_instead now.root)) × ((nothing ≡ nothing) × (call_trace.loaded ≡ call_trace.loaded))))
      (sym (ap (λ y. y == 0) (coded Root) ∙ miss)) (ap answers.Call (lost.0 ∙ ap Found_instead (sym (coded Root))), (refl, refl)))
      (λ p e. inl e) (λ p e. inl e) refl (λ t made. let f = sym (ap answers.Call lost.0) ∙ made in absurd cc))
    where
      opened_made : (t : ℕ) → 0 < t → Comes (state_after now (Open table)) t → IsMade s.store t
      opened_made t some (inl first) = resizing.opens t (is ∙ ap stages.Opening first)
      opened_made t some (inr linked) = there t some (inr linked)

  -- it asks as a copy may
  follows_low : (stage : Stage) → z.state ≡ stage → (slots limit chunks : ℕ) → asks_in stage ≡ Some (MakeTable slots limit chunks)
      → follows_in stage ≤ length s.store.words.tables
  follows_low (stages.Linking link) is slots limit chunks e = on_low _ (subst (λ y. ReliesStage g c now call_trace.loaded y) is resizing.relies.stage).on
  follows_low (stages.Copying from copying) is slots limit chunks e = on_low _
      (copying_follows g c now call_trace.loaded.call.last call_trace.loaded.kept slots limit chunks copying
      (subst (λ y. ReliesStage g c now call_trace.loaded y) is resizing.relies.stage).1 (same_item _ _ e))
  follows_low stages.AtRoot is slots limit chunks e = omega arith
  follows_low (stages.Making room) is slots limit chunks e = omega arith
  follows_low (stages.Opening table) is slots limit chunks e = omega arith
  follows_low (stages.Sizing root) is slots limit chunks e = omega arith
  follows_low (stages.Counting root len) is slots limit chunks e = omega arith
  follows_low (stages.Looking root len room) is slots limit chunks e = omega arith
  follows_low stages.Done is slots limit chunks e = omega arith
  follows_low (stages.Refused refused) is slots limit chunks e = omega arith

  linked_made : (stage : Stage) → z.state ≡ stage → (behind old t : ℕ) → asks_in stage ≡ Some (Copy_exchange (Next behind) old t) → IsMade s.store t
  linked_made (stages.Linking link) is behind old t e =
      let linking = link_asks link behind old t (same_item _ _ e) in
      let made = resizing.links behind t linking.0 (subst (λ y. HasLink y (links.Linking behind t linking.0)) (sym is) (same_item _ _ linking.1)) in
      (made.0, made.1)
  linked_made (stages.Copying from copying) is behind old t e =
      let linking = copying_asks copying behind old t (same_item _ _ e) in
      let made = resizing.links behind t linking.0 (subst (λ y. HasLink y (links.Linking behind t linking.0)) (sym is) linking.1) in
      (made.0, made.1)
  linked_made stages.AtRoot is behind old t e = absurd cc
  linked_made (stages.Making room) is behind old t e = absurd cc
  linked_made (stages.Opening table) is behind old t e = absurd cc
  linked_made (stages.Sizing root) is behind old t e = absurd cc
  linked_made (stages.Counting root len) is behind old t e = absurd cc
  linked_made (stages.Looking root len room) is behind old t e = absurd cc
  linked_made stages.Done is behind old t e = absurd cc
  linked_made (stages.Refused refused) is behind old t e = absurd cc

  -- a copy's exchange
  abbrev Asks : Stage → Type 0
  Asks stage = (at : At) (old new : ℕ) → asks_in stage ≡ Some (Copy_exchange at old new) → word_of g c now at ≡ old → (e : Exchange (Stored K V))
      × IsStageAsked g c now stage at new call_trace.loaded e × Allows g now e × IsWritten g c now at new (state_after now e)

  stage_asks : (stage : Stage) → z.state ≡ stage → Asks stage
  stage_asks stage is = subst Asks is (λ at old new e stands.
      resizer_may g c hashed now (map_left g es) keeps z call_trace.loaded resizing.relies words at old new e stands)

  copied : (stage : Stage) → z.state ≡ stage
      → ((e : CopyAsk) → asks_in stage ≡ Some e → IsAsker g c s.store es call_trace.loaded coded there (kind_in stage) (follows_in stage) e)
      → (ask : CopyAsk) → asks_in stage ≡ Some ask → (a : Answer) (store' : StoreState K V S) → PerformsCopy eq hashes refuse ask s.store a store'
      → IsLeft g c s.store es call_trace.loaded
      (λ made loaded'. (ask : CopyAsk) × (asks_in stage ≡ Some ask)
      × IsTrueOfCopy g c now (kind_in stage) (follows_in stage) call_trace.loaded ask a made loaded') a store'
  copied stage is asker ask e a store' performs =
      left_weaker g c s.store es call_trace.loaded _ _ a store' (λ made loaded' told. (ask, e, told))
      (copied_left g c s.store es call_trace.loaded coded there eq hashes resizing.last resizing.carried suits (kind_in stage) (follows_in stage)
      refuse ask (asker ask e) a store' performs)

  pub stage_left : (stage : Stage) → z.state ≡ stage → (ask : CopyAsk) → asks_in stage ≡ Some ask → (a : Answer) (store' : StoreState K V S)
      → PerformsCopy eq hashes refuse ask s.store a store' → IsStageLeft stage a store'
  stage_left (stages.Opening table) is ask e a store' performs =
      let (told, a_is, h) = subst (λ y. PerformsCopy eq hashes refuse y s.store a store') (sym (same_item _ _ e)) performs in
      subst (λ y. IsStageLeft (stages.Opening table) y store') (sym a_is) (opened table is told store' h)
  stage_left stage is ask e a store' performs = copied stage is
      (λ ask e. record {
        names = resizer_names g c hashed now (map_left g es) keeps z call_trace.loaded resizing.relies ask (ap asks_in is ∙ e);
        may = λ at old new same stands. stage_asks stage is at old new (e ∙ ap (λ y. Some y) same) stands;
        low = λ slots limit chunks same. follows_low stage is slots limit chunks (e ∙ ap (λ y. Some y) same);
        links = λ behind old t same. linked_made stage is behind old t (e ∙ ap (λ y. Some y) same);
        reads = λ t x same. hints t x;
        writes = λ t x n same. resizer_may_hint g c hashed now (map_left g es) keeps z call_trace.loaded resizing.relies t x n
            (ap asks_in is ∙ e ∙ ap (λ y. Some y) same);
      })
      ask e a store' performs

module _ {K V S A : Type 0} (eq : K → K → Bool) (hash : K → ℕ) (law : IsLawfulKeys eq hash) {hashes : S → K → ℕ} (refuse : Bool)
    (s : CoreState K V S A) (caller : ℕ) (s' : CoreState K V S A) (event : Event) (reply : Option Reply)
    (x : Resizes eq hashes refuse s caller s' event reply) (hasher : hashes s.store.hasher ≡ hash)
    (es : List (Exchange (Stored K V))) (call_traces : ℕ → CallTrace K V) (core : IsCore s.store s.callers s.mode)
    (kept : IsConsistent eq hash s.mode s.store s.callers es call_traces) where
  -- the resizer's own facts
  abbrev pub resizing : IsResizing eq hash s.mode s.store x.before es (call_traces caller)
  resizing = kept.resizers caller x.before x.was

  -- the effect of its answer
  pub left : IsStageLeft eq hash law hashes refuse s es (call_traces caller) core x.before hasher kept.allowed kept.coded kept.made kept.hints
      resizing x.before.state x.answer s'.store
  left = stage_left eq hash law hashes refuse s es (call_traces caller) core x.before hasher kept.allowed kept.coded kept.made kept.hints resizing
      x.before.state refl x.ask x.asked x.answer s'.store x.performs

  -- the setting and the coding
  abbrev g_now : Setting K (Stored K V)
  g_now = setting_of eq (low hash) s.mode s.store.words.tables

  abbrev c_now : Coding K (Stored K V)
  c_now = coding_of (low hash)

  hashed_now : IsHashed g_now c_now
  hashed_now = tables_hashed eq hash law s.mode s.store.words.tables core.sizes

  -- it relies on its new record, and the exchanges were allowed
  learnt : AllAllowed g_now (run es start) left.made × ReliesResizer g_now c_now (run left.made (run es start)) (after x.before x.answer) left.loaded'
  learnt = resizer_learns g_now c_now hashed_now (run es start) (map_left g_now es) (keeping g_now hashed_now.lawful es kept.allowed) x.before
      (call_traces caller).loaded resizing.relies (stage_words g_now s.store (λ t. refl) x.before.state resizing.links) x.answer left.made left.loaded' left.told

  -- the exchanges after it
  abbrev pub es' : List (Exchange (Stored K V))
  es' = es ++ left.made

  abbrev pub call_traces' : ℕ → CallTrace K V
  call_traces' = told_call_traces call_traces caller left.made left.loaded'

  -- the effect of the step on the core: it makes no pair
  pub leaving : others.IsLeaving eq hash law s caller s' x.mode es call_traces core kept left.made left.loaded' (λ p. ⊥)
  leaving = record {
    allowed = allowed_append g_now es left.made start kept.allowed learnt.0;
    keys = λ at k h. ap (λ l. key_in l at) left.pairs_are ∙ h;
    values = λ at v h. ap (λ l. value_in l at) left.pairs_are ∙ h;
    logged = λ n p h. left_logged g_now c_now s.store es (call_traces caller).loaded left n p h;
    few = λ h. subst (λ (l : List (Pair K V)). length l ≤ MAX_LOG_LEN) (sym left.pairs_are) h;
    tables_few = left.tables_few;
    grown = left.grown;
    coded = left.coded;
    hints = left.hints;
    there = left.there;
    slots = λ t y p h. inl (left.slots t y p h);
    mine_logged = λ p f. absurd f;
    mine_apart = λ d r runs differ p p' f. absurd f;
  }

  own_loaded : left.loaded' ≡ (call_traces' caller).loaded
  own_loaded = others.own_loaded eq hash law s caller s' x.mode es call_traces core kept left.made left.loaded' leaving caller refl

  -- the last pair that it loaded is in the arena
  own_last : (p : Stored K V) → (((call_traces caller).loaded.call.last ≡ Some p) ⊎ Stands (run es start) p) → pair_of s'.store p.number ≡ Some p
  own_last p (inl old) = leaving.logged p.number p (resizing.last p old)
  own_last p (inr stood) = others.stood_logged eq hash law s caller s' x.mode es call_traces core kept left.made left.loaded' leaving p stood

  own_carried : (p : Stored K V) → (((call_traces caller).loaded.kept ≡ Some p) ⊎ ((call_traces caller).loaded.call.last ≡ Some p))
      → pair_of s'.store p.number ≡ Some p
  own_carried p (inl old) = leaving.logged p.number p (resizing.carried p old)
  own_carried p (inr told) = leaving.logged p.number p (resizing.last p told)

  -- a table that was made is still there
  still_there : (t : ℕ) → IsMade s.store t → IsMade s'.store t
  still_there = others.still_there eq hash law s caller s' x.mode es call_traces core kept left.made left.loaded' leaving

  -- and has as many words for chunks
  still_made : (t chunks : ℕ) → IsMadeFor s.store t chunks → IsMadeFor s'.store t chunks
  still_made = others.still_made eq hash law s caller s' x.mode es call_traces core kept left.made left.loaded' leaving

  -- a table that its answer names was made as it asked
  newly_made : (n slots limit chunks : ℕ) → x.answer ≡ answers.Call (Made_number n) → asks_in x.before.state ≡ Some (MakeTable slots limit chunks)
      → IsMadeFor s'.store n chunks
  newly_made n slots limit chunks is making =
      copier_made eq hashes refuse s.store x.answer s'.store slots limit chunks
      (subst (λ y. PerformsCopy eq hashes refuse y s.store x.answer s'.store) (same_item _ _ (sym x.asked ∙ making)) x.performs) n is

  -- so it relies on its trace after the step
  pub own_resizing : IsResizing eq hash s'.mode s'.store (after x.before x.answer) es' (call_traces' caller)
  own_resizing =
      let stage = stage_made (IsMadeFor s'.store) x.before.resize x.before.mode x.before.initial x.before.number x.answer x.before.state newly_made
      (stage_is (IsMadeFor s'.store) x.before.state (λ t e. let there = still_there t (resizing.opens t e) in (there.0, there.1, omega arith))
      (λ behind t chunks e. still_made t chunks (resizing.links behind t chunks e))) in
      record {
        relies = others.grown_resizer eq hash law s caller s' x.mode es call_traces core kept left.made left.loaded' leaving (after x.before x.answer)
            (call_traces' caller).loaded
            (subst (ReliesResizer g_now c_now (run es' start) (after x.before x.answer)) own_loaded
            (subst (λ w. ReliesResizer g_now c_now w (after x.before x.answer) left.loaded') (sym (run-append es left.made start)) learnt.1));
        last = λ p l. own_last p (left.last p (ap (λ (y : LoadedPairs (Stored K V)). y.call.last) own_loaded ∙ l));
        carried = λ p l. own_carried p (left.carried p (ap (λ (y : LoadedPairs (Stored K V)). y.kept) own_loaded ∙ l));
        opens = λ t e. let there = stage_opens (IsMadeFor s'.store) (after x.before x.answer).state stage t e in (there.0, there.1);
        links = stage_links (IsMadeFor s'.store) (after x.before x.answer).state stage;
      }

  -- the core after the step
  pub resize_kept : IsConsistent eq hash s'.mode s'.store s'.callers es' call_traces'
  resize_kept = others.leaves_kept eq hash law s caller s' x.mode es call_traces core kept left.made left.loaded' leaving
      (goes_on reply (works.Resize (after x.before x.answer))) x.callers
      (λ r e. absurd (goes_on-call reply (after x.before x.answer) r _ refl e))
      (λ z e. subst (λ y. IsResizing eq hash s'.mode s'.store y es' (call_traces' caller))
      (goes_on-resizer reply (after x.before x.answer) z _ refl e) own_resizing)
      (λ v e. absurd (goes_on-scanner reply (after x.before x.answer) v _ refl e))
      (λ r e. absurd (goes_on-call reply (after x.before x.answer) r _ refl e))

  -- the map is the same in the grown setting
  pub same_map : (k : K) → map_left (setting_of eq (low hash) s'.mode s'.store.words.tables) es k ≡ map_left g_now es k
  same_map = others.same_map eq hash law s caller s' x.mode es call_traces core kept left.made left.loaded' leaving
