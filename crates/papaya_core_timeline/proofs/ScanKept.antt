-- After a step of a call that scans a table the words of a core obey the law of exchanges.
use Rattle.std.proofs.Common.{◌≡◌, ◌⊎◌, inl, inr, ⊎_elim, ℕ, ◌≤◌, ◌==◌, Bool, true, false, Option}
use Rattle.std.proofs.Common.{None, Some, List, [], ◌∷◌, ◌++◌, cond, length, refl, sym, ap, ◌∙◌}
use Rattle.std.proofs.Common.{subst, append_assoc}
use Rattle.papaya_words.specs.declared.limits.TheConstants.{MAX_LOG_LEN, MAX_TABLES}
use Rattle.papaya_call.specs.declared.ask.At.{At}
use Rattle.papaya_call.specs.Answers.{Says}
use Rattle.papaya_call.specs.declared.chain.ask.Answer.{Answer}
use Rattle.papaya_call.specs.declared.chain.ask.Answer.TheVariants as answers
use Rattle.papaya_call.specs.declared.chain.resizer.ResizerState.{ResizerState as Stage}
use Rattle.papaya_call.specs.declared.chain.resizer.ResizerState.TheVariants as stages
use Rattle.papaya_call_law.specs.ChainAnswers as copies
use Rattle.papaya_words_law.specs.Allows.{AllAllowed}
use Rattle.papaya_words_law.specs.Class.{IsOn}
use Rattle.papaya_words_law.specs.Code.{Coding, IsHashed}
use Rattle.papaya_words_law.specs.Exchange.{Setting, State as Words, Exchange, run, start}
use Rattle.papaya_words_law.specs.Grows.{Agrees}
use Rattle.papaya_words_law.specs.Invariant.{IsKeeping}
use Rattle.papaya_words_law.specs.Meaning.{map_left}
use Rattle.papaya_words_law.proofs.Grows.{map_of_carries}
use Rattle.papaya_words_law.proofs.Moments.{allowed_append, allowed_first, allowed_rest, run-append}
use Rattle.papaya_words_law.proofs.OneMap.{keeping}
use Rattle.papaya_call_law.specs.TrueAnswers.{word_of}
use Rattle.papaya_core_store.specs.Pairs.{key_in, value_in}
use Rattle.papaya_core_store.specs.Store.{KeepsPairs, StoreState, Stored, pair_of}
use Rattle.papaya_core_store.specs.Tables.{word_at}
use Rattle.papaya_core_store.specs.declared.pairs.Pair.{Pair}
use Rattle.papaya_core_timeline.specs.declared.seat.Seat.{Seat}
use Rattle.papaya_core_timeline.specs.Callers.{with_work, working}
use Rattle.papaya_core_timeline.specs.Core.{CoreState, IsCore, work_of}
use Rattle.papaya_core_timeline.specs.Kept.{CallTrace, IsConsistent, IsInArena, IsMade, IsMadeFor, IsScanning, ScanTrace, WasShown, coding_of, low, setting_of, told_more}
use Rattle.papaya_core_timeline.proofs.CopyAnswers.{left_logged}
use Rattle.papaya_core_timeline.proofs.KeptAnswer.{Stands}
use Rattle.papaya_core_timeline.proofs.KeptOthers as others
use Rattle.papaya_core_timeline.proofs.KeptSettings.{IsLawfulKeys, cut_carries, tables_hashed}
use Rattle.papaya_core_timeline.proofs.KeptTables.{HasMoreTables}
use Rattle.papaya_call.specs.declared.chain.ask.ScanAsk.{ScanAsk}
use Rattle.papaya_call.specs.declared.chain.scanner.ScannerState.TheVariants.{Copying}
use Rattle.papaya_call.specs.Resizer as resizers
use Rattle.papaya_call.specs.Scanner.{after, ask_of, asks_in}
use Rattle.papaya_call_law.specs.Copier.{HasWords}
use Rattle.papaya_core_store.specs.CopyAsks.{PerformsCopy}
use Rattle.papaya_call.specs.declared.ask.Answer.TheVariants.{Made as Made_number}
use Rattle.papaya_call.specs.declared.copy_ask.CopyAsk.TheVariants.{MakeTable}
use Rattle.papaya_call_law.specs.ScanAnswers.{IsTrueOfScan}
use Rattle.papaya_call_law.specs.Scans.{IsOfAll, ReliesScanner, ReliesState, link_in_scan}
use Rattle.papaya_call_law.proofs.ScanLearns.{state_gives, state_learns}
use Rattle.papaya_call_law.proofs.ScanTables.{gives_carries, state_carries}
use Rattle.papaya_core_store.specs.declared.scans.Scanning.{Scanning}
use Rattle.papaya_core_store.specs.Scans.{PerformsScan}
use Rattle.papaya_core_timeline.specs.Scans.{IsScanAnswered, IsListRefused}
use Rattle.papaya_core_timeline.proofs.CallersLemmas.{same_item}
use Rattle.papaya_core_timeline.proofs.LinkWords.{scan_words}
use Rattle.papaya_core_timeline.proofs.MadeTables.{copier_made}
use Rattle.papaya_core_timeline.proofs.ScanAnswers as left_by
use Rattle.papaya_core_timeline.proofs.ScanLinks.{links_made}
use Rattle.papaya_core_timeline.proofs.KeptHints.{KeepsHints}

-- a caller that has no work has none put into its seat
module _ {K V A : Type 0} (seat : Seat K V A) (seats : List (Seat K V A)) (caller : ℕ) where
  seat_still : (mine : Bool) → cond mine seat.work (working seats caller) ≡ None → (working seats caller ≡ None → with_work seats caller None ≡ seats)
      → cond mine (record seat { work = None } ∷ seats) (seat ∷ with_work seats caller None) ≡ seat ∷ seats
  seat_still true idle rest = ap (λ w. record seat { work = w } ∷ seats) (sym idle)
  seat_still false idle rest = ap (λ l. seat ∷ l) (rest idle)

no_work : {K V A : Type 0} (seats : List (Seat K V A)) (caller : ℕ) → working seats caller ≡ None → with_work seats caller None ≡ seats
no_work [] caller idle = refl
no_work (seat ∷ seats) caller idle = seat_still seat seats caller (seat.caller == caller) idle (λ none. no_work seats caller none)

module _ {K V S A : Type 0} (eq : K → K → Bool) (hash : K → ℕ) (law : IsLawfulKeys eq hash) (says : Says K V A) (hashes : S → K → ℕ) (refuse : Bool)
    (s : CoreState K V S A) (core : IsCore s.store s.callers s.mode) (hasher : hashes s.store.hasher ≡ hash) (caller : ℕ) (idle : work_of s caller ≡ None)
    (call_trace : ScanTrace K V) (call_traces : ℕ → CallTrace K V)
    (kept : IsConsistent eq hash s.mode s.store s.callers (call_trace.begun ++ call_trace.since) call_traces) (v : Scanning A)
    (scanning : IsScanning eq hash s.mode s.store v (call_trace.begun ++ call_trace.since) call_trace)
    (ask : ScanAsk) (asks : ask_of v.scanner ≡ Some ask) (a : Answer) (store' : StoreState K V S) (v' : Scanning A)
    (performs : PerformsScan eq says hashes refuse ask s.store v a store' v') where
  -- the exchanges, the setting, the coding and the words
  abbrev es : List (Exchange (Stored K V))
  es = call_trace.begun ++ call_trace.since

  abbrev g : Setting K (Stored K V)
  g = setting_of eq (low hash) s.mode s.store.words.tables

  abbrev g' : Setting K (Stored K V)
  g' = setting_of eq (low hash) s.mode store'.words.tables

  abbrev c : Coding K (Stored K V)
  c = coding_of (low hash)

  abbrev first : Words (Stored K V)
  first = run call_trace.begun start

  abbrev m : K → Option (Stored K V)
  m = map_left g call_trace.begun

  hashed : IsHashed g c
  hashed = tables_hashed eq hash law s.mode s.store.words.tables core.sizes

  keeps_first : IsKeeping g first m
  keeps_first = keeping g hashed.lawful call_trace.begun (allowed_first g call_trace.begun call_trace.since start kept.allowed)

  may_since : AllAllowed g first call_trace.since
  may_since = allowed_rest g call_trace.begun call_trace.since start kept.allowed

  same : run call_trace.since first ≡ run es start
  same = sym (run-append call_trace.begun call_trace.since start)

  -- the core after the step
  abbrev s' : CoreState K V S A
  s' = record s { store = store' }

  abbrev HasLeft : Type 0
  HasLeft = left_by.IsScanLeft eq hash law says hashes refuse s core hasher call_trace.begun call_trace.since kept.allowed kept.coded kept.made
      kept.hints v call_trace.loaded scanning.relies scanning.answers scanning.last scanning.carried scanning.given scanning.links v.scanner.state a store' v'

  -- the effect of the answer
  left_so : IsListRefused s.store v a store' ⊎ HasLeft
  left_so = left_by.scan_left eq hash law says hashes refuse s core hasher call_trace.begun call_trace.since kept.allowed kept.coded kept.made
      kept.hints v call_trace.loaded scanning.relies scanning.answers scanning.last scanning.carried scanning.given scanning.links v.scanner.state refl
      scanning.relies.state ask asks a store' v' performs

  module _ (l : HasLeft) where
    abbrev made : List (Exchange (Stored K V))
    made = l.left.made

    -- a fact about the store that does not depend on the count
    of_store : (P : StoreState K V S → Type 0) → P (record l.words { count = store'.count }) → P store'
    of_store P h = subst P (sym l.store_is) h

    told_first : IsTrueOfScan g c (run call_trace.since first) call_trace.since v.scanner.state call_trace.loaded a made l.loaded'
    told_first = subst (λ w. IsTrueOfScan g c w call_trace.since v.scanner.state call_trace.loaded a made l.loaded') (sym same) l.left.told.0

    -- the table that it is about to link has its words
    words : HasWords g (link_in_scan v.scanner.state)
    words = scan_words g s.store (λ t. refl) v.scanner.state scanning.links

    learnt : AllAllowed g first (call_trace.since ++ made)
        × ReliesState g c first m (call_trace.since ++ made) v.scanner.scan l.loaded' (after v.scanner a).state
    learnt = state_learns g c hashed first m keeps_first call_trace.since may_since v.scanner.scan v.scanner.mode scanning.relies.mode
        scanning.relies.cut v.scanner.initial v.scanner.number call_trace.loaded a made l.loaded' scanning.relies.gives v.scanner.state
        scanning.relies.state (λ _. words) told_first

    -- so it relies on its record
    relies_then : ReliesScanner g c first m (call_trace.since ++ made) (after v.scanner a) l.loaded'
    relies_then = record {
      mode = scanning.relies.mode;
      cut = scanning.relies.cut;
      gives = state_gives g c hashed first m keeps_first call_trace.since may_since v.scanner.scan v.scanner.mode scanning.relies.mode
          scanning.relies.cut v.scanner.initial v.scanner.number call_trace.loaded a made l.loaded' scanning.relies.gives v.scanner.state
          scanning.relies.state told_first;
      state = learnt.1;
    }

    logged : KeepsPairs s.store store'
    logged n p h = of_store (λ y. pair_of y n ≡ Some p) (left_logged g c s.store es call_trace.loaded.copy l.left n p h)

    -- the effect of the step on the core: it makes no pair
    leaving : others.IsLeaving eq hash law s caller s' refl es call_traces core kept made (call_traces caller).loaded (λ p. ⊥)
    leaving = record {
      allowed = allowed_append g es made start kept.allowed (subst (λ w. AllAllowed g w made) same (allowed_rest g call_trace.since made first learnt.0));
      keys = λ at k h. of_store (λ y. key_in y.pairs at ≡ Some k) (ap (λ list. key_in list at) l.left.pairs_are ∙ h);
      values = λ at w h. of_store (λ y. value_in y.pairs at ≡ Some w) (ap (λ list. value_in list at) l.left.pairs_are ∙ h);
      logged = logged;
      few = λ h. of_store (λ y. length y.pairs ≤ MAX_LOG_LEN) (subst (λ (list : List (Pair K V)). length list ≤ MAX_LOG_LEN) (sym l.left.pairs_are) h);
      tables_few = λ h. of_store (λ y. length y.words.tables ≤ MAX_TABLES) (l.left.tables_few h);
      grown = of_store (λ y. HasMoreTables s.store.words.tables y.words.tables) l.left.grown;
      coded = of_store (λ y. (at : At) → word_of g c (run (es ++ made) start) at ≡ word_at y.words at) l.left.coded;
      hints = of_store (λ y. KeepsHints g c (run es start) s.store.words y.words) l.left.hints;
      there = l.left.there;
      slots = λ t x p h. inl (l.left.slots t x p h);
      mine_logged = λ p f. absurd f;
      mine_apart = λ d r runs differ p p' f. absurd f;
    }

    -- a table that was made is still there
    still_there : (t : ℕ) → IsMade s.store t → IsMade store' t
    still_there = others.still_there eq hash law s caller s' refl es call_traces core kept made (call_traces caller).loaded leaving

    -- and has as many words for chunks
    still_made : (t chunks : ℕ) → IsMadeFor s.store t chunks → IsMadeFor store' t chunks
    still_made = others.still_made eq hash law s caller s' refl es call_traces core kept made (call_traces caller).loaded leaving

    -- a table that its answer names was made as it asked
    newly_made : (stage : Stage) → v.scanner.state ≡ Copying stage → (n slots limit chunks : ℕ) → a ≡ answers.Call (Made_number n)
        → resizers.asks_in stage ≡ Some (MakeTable slots limit chunks) → IsMadeFor store' n chunks
    newly_made stage is n slots limit chunks told making =
        let (asked, at, one) = left_by.copy_asked (resizers.asks_in stage) ask (ap asks_in (sym is) ∙ asks) in
        let h = subst (λ q. PerformsScan eq says hashes refuse q s.store v a store' v') one performs in
        copier_made eq hashes refuse s.store a store' slots limit chunks
        (subst (λ y. PerformsCopy eq hashes refuse y s.store a store') (same_item _ _ (sym at ∙ making)) h.0) n told

    -- the calls of all callers rely on their traces
    kept_then : IsConsistent eq hash s.mode store' s.callers (es ++ made)
        (others.call_traces' eq hash law s caller s' refl es call_traces core kept made (call_traces caller).loaded)
    kept_then = others.leaves_kept eq hash law s caller s' refl es call_traces core kept made (call_traces caller).loaded leaving None
        (sym (no_work s.callers caller idle)) (λ r e. absurd cc) (λ z e. absurd cc) (λ v e. absurd cc) (λ r e. absurd cc)

    -- the setting has grown, and agrees with the old one on the tables that have come
    same_then : run (call_trace.since ++ made) first ≡ run (es ++ made) start
    same_then = run-append call_trace.since made first ∙ ap (run made) same ∙ sym (run-append es made start)

    agrees : Agrees (IsOn (run (call_trace.since ++ made) first).first (run (call_trace.since ++ made) first).next) g g'
    agrees = subst (λ (w : Words (Stored K V)). Agrees (IsOn w.first w.next) g g') (sym same_then)
        (others.agrees eq hash law s caller s' refl es call_traces core kept made (call_traces caller).loaded leaving)

    map_same : m ≡ map_left g' call_trace.begun
    map_same = sym (map_of_carries g g' (IsOn (run (call_trace.since ++ made) first).first (run (call_trace.since ++ made) first).next) agrees
        call_trace.begun (λ k. None))

    map_then : (k : K) → map_left g' (es ++ made) k ≡ map_left g (es ++ made) k
    map_then k = ap (λ f. f k) (map_of_carries g g' (IsOn (run (call_trace.since ++ made) first).first (run (call_trace.since ++ made) first).next)
        agrees (es ++ made) (λ y. None))

    relies_grown : ReliesScanner g' c first (map_left g' call_trace.begun) (call_trace.since ++ made) (after v.scanner a) l.loaded'
    relies_grown = subst (λ f. ReliesScanner g' c first f (call_trace.since ++ made) (after v.scanner a) l.loaded') map_same (record {
      mode = relies_then.mode;
      cut = cut_carries agrees v.scanner.mode relies_then.cut;
      gives = gives_carries g g' c hashed first m keeps_first (call_trace.since ++ made) learnt.0 agrees v.scanner.scan l.loaded' relies_then.gives;
      state = state_carries g g' c hashed first m keeps_first (call_trace.since ++ made) learnt.0 agrees v.scanner.scan l.loaded'
          (after v.scanner a).state relies_then.state;
    })

    -- the last pair that it loaded is in the arena
    last_logged : (p : Stored K V) → (call_trace.loaded.copy.call.last ≡ Some p) ⊎ Stands (run es start) p → IsInArena store' p
    last_logged p (inl old) = logged p.number p (scanning.last p old)
    last_logged p (inr (t, x, names)) = logged p.number p (kept.logged t x p names)

    carried_logged : (p : Stored K V) → (call_trace.loaded.copy.kept ≡ Some p) ⊎ (call_trace.loaded.copy.call.last ≡ Some p) → IsInArena store' p
    carried_logged p (inl old) = logged p.number p (scanning.carried p old)
    carried_logged p (inr told) = logged p.number p (scanning.last p told)

    shown_logged : (p : Stored K V) → WasShown call_trace.loaded.shown p ⊎ (call_trace.loaded.copy.call.last ≡ Some p) → IsInArena store' p
    shown_logged p (inl old) = logged p.number p (scanning.shown p old)
    shown_logged p (inr told) = logged p.number p (scanning.last p told)

    own : IsScanning eq hash s.mode store' (record v' { scanner = after v.scanner a }) (es ++ made) (told_more call_trace made l.loaded')
    own = record {
      split = sym (append_assoc call_trace.begun call_trace.since made);
      relies = relies_grown;
      answers = l.answers;
      given = l.given;
      last = λ p e. last_logged p (l.left.last p (ap (λ (y : copies.LoadedPairs (Stored K V)). y.call.last) (sym l.left.told.1) ∙ e));
      carried = λ p e. carried_logged p (l.left.carried p (ap (λ (y : copies.LoadedPairs (Stored K V)). y.kept) (sym l.left.told.1) ∙ e));
      shown = λ p h. shown_logged p (l.shown p h);
      links = links_made (IsMadeFor store') v.scanner.scan v.scanner.mode v.scanner.initial v.scanner.number a v.scanner.state newly_made opens
          (λ behind t chunks e. still_made t chunks (scanning.links behind t chunks e));
    }
      where
        opens : (stage : Stage) → v.scanner.state ≡ Copying stage → (t : ℕ) → stage ≡ stages.Opening t → IsMadeFor store' t 0
        opens stage is t e =
            let r = subst (ReliesState g c first m call_trace.since v.scanner.scan call_trace.loaded) is scanning.relies.state in
            absurd (subst (IsOfAll g c first m call_trace.since) e r.1)

    others_stay : (u : Scanning A) (other : ScanTrace K V) → IsScanning eq hash s.mode s.store u es other
        → IsScanning eq hash s.mode store' u (es ++ made) (told_more other made other.loaded)
    others_stay u other scans = others.other_scanner eq hash law s caller s' refl es call_traces core kept made (call_traces caller).loaded leaving u
        other scans

    heard : IsScanAnswered eq hash s caller es call_traces v call_trace a store' v'
    heard = record {
      made = made;
      loaded = l.loaded';
      told = l.left.told.0;
      kept = kept_then;
      scanning = own;
      others = others_stay;
      keeps = logged;
      hasher = of_store (λ y. y.hasher ≡ s.store.hasher) l.left.hasher_is;
      pairs = of_store (λ y. y.pairs ≡ s.store.pairs) l.left.pairs_are;
      allowed = leaving.allowed;
      map_same = map_then;
      coded = leaving.coded;
      sum = l.sum;
    }

  -- its list could not grow, or it relies on its record, as all others do
  pub scan_heard : IsListRefused s.store v a store' ⊎ IsScanAnswered eq hash s caller es call_traces v call_trace a store' v'
  scan_heard = ⊎_elim (λ (u : IsListRefused s.store v a store'). inl u) (λ (l : HasLeft). inr (heard l)) left_so
