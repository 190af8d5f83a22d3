-- The event of a scanner's step: a pair was returned, passed to the closure or removed, or no pair
-- of the map changed.
use Rattle.std.proofs.Common.{◌≡◌, ◌⊎◌, inl, inr, ℕ, negsuc, ◌==◌, Bool, true, false, Option, None}
use Rattle.std.proofs.Common.{Some, List, [], ◌∷◌, ◌++◌, refl, sym, ◌∙◌, ap, subst, eqb-true}
use Rattle.papaya_words.specs.Word.{pair_of as number_of}
use Rattle.papaya_call.specs.declared.ask.Answer.TheVariants.{Ok}
use Rattle.papaya_call.specs.declared.ask.StepKind.{StepKind}
use Rattle.papaya_call.specs.declared.ask.StepKind.TheVariants as kinds
use Rattle.papaya_call.specs.declared.copy_ask.CopyAsk.{CopyAsk}
use Rattle.papaya_call.specs.Answers.{Says}
use Rattle.papaya_call.specs.declared.chain.ask.Ask.TheVariants as asks
use Rattle.papaya_call.specs.declared.chain.ask.Answer.{Answer}
use Rattle.papaya_call.specs.declared.chain.ask.Answer.TheVariants as answers
use Rattle.papaya_call.specs.declared.chain.resizer.ResizerState.{ResizerState as Stage}
use Rattle.papaya_call.specs.Resizer as resizers
use Rattle.papaya_words_law.specs.Code.{Coding, IsHashed, code}
use Rattle.papaya_words_law.specs.Exchange.{Live, Setting, State as Words, Exchange, Bury}
use Rattle.papaya_words_law.proofs.Codes.{code_pair}
use Rattle.papaya_core_store.specs.Store.{StoreState, Stored, pair_of}
use Rattle.papaya_core_timeline.specs.declared.trace.Event.{Event}
use Rattle.papaya_core_timeline.specs.declared.trace.Event.TheVariants.{Changed, Asked, Gave, Other}
use Rattle.papaya_core_timeline.specs.Advances.{event_of}
use Rattle.papaya_core_timeline.specs.Given.{GivesIn, asks_closure}
use Rattle.papaya_core_timeline.specs.ScanGoes.{event_of_scan}
use Rattle.papaya_core_timeline.proofs.CallersLemmas.{same_item}
use Rattle.papaya_core_timeline.proofs.GoodResized.{IsOne, IsQuiet, copied_one, none_one, stage_one}
use Rattle.papaya_core_timeline.proofs.StepEvents.{copy_cases, copy_moves, stage_moves}
use Rattle.papaya_core_timeline.proofs.StoreLemmas.{matched}
use Rattle.papaya_call.specs.declared.chain.ask.ScanAsk.{ScanAsk}
use Rattle.papaya_call.specs.declared.chain.ask.ScanAsk.TheVariants.{Copy, Show, Given, AddToShard}
use Rattle.papaya_call.specs.declared.chain.scanner.Spot.{Spot}
use Rattle.papaya_call.specs.declared.chain.scanner.ScannerState.{ScannerState}
use Rattle.papaya_call.specs.declared.chain.scanner.ScannerState.TheVariants.{Copying, AtRoot, Sizing, Looking, Giving, Showing, Burying, Uncounting, Done, Refused}
use Rattle.papaya_call.specs.Scanner.{asks_in, copy_asks, buries, kind_in}
use Rattle.papaya_call_law.specs.ScanAnswers.{IsBuried, IsFoundThere, IsTrueOfScan, IsWordAnswer, LoadedPairs, last_of}
use Rattle.papaya_core_store.specs.declared.scans.Scanning.{Scanning}
use Rattle.papaya_core_store.specs.Scans.{PerformsScan}

-- an ask for a copy has the event of a copy's ask
copied_event : (kind : Option StepKind) (ask : CopyAsk) (answer : Answer) → event_of_scan kind (Copy ask) answer ≡ event_of kind (asks.Copy ask) answer
copied_event kind ask (answers.Call answer) = refl
copied_event kind ask (answers.Hash hash) = refl
copied_event kind ask (answers.Count count) = refl

-- in these states it has no table yet
abbrev pub IsWithout : ScannerState → Type 0
IsWithout (Copying stage) = Unit {0}
IsWithout AtRoot = Unit {0}
IsWithout state = ⊥

module _ {K V : Type 0} (eq : K → K → Bool) (g : Setting K (Stored K V)) (c : Coding K (Stored K V)) (hashed : IsHashed g c) (s : Words (Stored K V))
    (since : List (Exchange (Stored K V))) (state : ScannerState) (loaded : LoadedPairs (Stored K V)) (event : Event) (es : List (Exchange (Stored K V)))
    (loaded' : LoadedPairs (Stored K V)) where
  -- the map stays, no pair is returned, and no closure is called
  pub record IsStill : Type 0 where
    pub quiet : IsQuiet event
    pub one : IsOne eq g c s loaded.copy (answers.Call Ok) es loaded.copy
    pub given : loaded'.given ≡ loaded.given
    pub shown : loaded'.shown ≡ loaded.shown
    pub before : (loaded'.before ≡ loaded.before) ⊎ ((loaded'.before ≡ since ++ es) × IsWithout state)

  -- a pair is returned
  pub record IsGift : Type 0 where
    pub spot : Spot
    pub word : ℕ
    pub giving : state ≡ Giving spot word
    pub event_is : event ≡ Gave (number_of word)
    pub pair : Stored K V
    pub last : last_of loaded ≡ Some pair
    pub none : es ≡ []
    pub handed : loaded' ≡ record loaded { given = pair ∷ loaded.given }

  -- the closure is called with a pair
  pub record IsShowing : Type 0 where
    pub spot : Spot
    pub word : ℕ
    pub showing : state ≡ Showing spot word
    pub stays : Bool
    pub event_is : event ≡ Asked (number_of word) stays
    pub pair : Stored K V
    pub last : last_of loaded ≡ Some pair
    pub none : es ≡ []
    pub handed : loaded' ≡ record loaded { shown = (pair, stays) ∷ loaded.shown }

  -- a pair is deleted
  pub record IsBurial : Type 0 where
    pub spot : Spot
    pub word : ℕ
    pub burying : state ≡ Burying spot word
    pub pair : Stored K V
    pub live : s.slot spot.table spot.slot ≡ Live pair
    pub stood : number_of word ≡ pair.number
    pub event_is : event ≡ Changed kinds.Bury (Some pair.number) None
    pub one : es ≡ Bury spot.table spot.slot pair ∷ []
    pub handed : loaded' ≡ loaded

  abbrev pub IsScanStep : Type 0
  IsScanStep = IsStill ⊎ IsGift ⊎ IsShowing ⊎ IsBurial

module _ {K V : Type 0} (eq : K → K → Bool) (g : Setting K (Stored K V)) (c : Coding K (Stored K V)) (hashed : IsHashed g c)
    (number_is : (p : Stored K V) → c.number p ≡ p.number) (s : Words (Stored K V)) (since : List (Exchange (Stored K V)))
    (loaded : LoadedPairs (Stored K V)) (answer : Answer) (es : List (Exchange (Stored K V))) (loaded' : LoadedPairs (Stored K V)) where
  abbrev Step : ScannerState → ScanAsk → Type 0
  Step state ask = IsScanStep eq g c hashed s since state loaded (event_of_scan (kind_in state) ask answer) es loaded'

  copy_stills : (stage : Stage) → (o : Option CopyAsk) → resizers.asks_in stage ≡ o → (ask : ScanAsk) → copy_asks o ≡ Some ask
      → IsTrueOfScan g c s since (Copying stage) loaded answer es loaded' → Step (Copying stage) ask
  copy_stills stage None is ask e told = absurd cc
  copy_stills stage (Some asked) is ask e told = subst (Step (Copying stage)) (same_item (Copy asked) ask e) (inl (record {
    quiet = subst IsQuiet (sym (copied_event (resizers.kind_in stage) asked answer)) (stage_moves IsQuiet tt (λ kind. tt) stage asked answer);
    one = stage_one eq g c s loaded.copy answer es told.copy stage told.told;
    given = ap (λ (h : LoadedPairs (Stored K V)). h.given) told.handed;
    shown = ap (λ (h : LoadedPairs (Stored K V)). h.shown) told.handed;
    before = inr (ap (λ (h : LoadedPairs (Stored K V)). h.before) told.handed, tt);
  }))

  -- a word was loaded, or a size asked for
  word_event : (ask : CopyAsk) → IsQuiet (event_of_scan None (Copy ask) answer)
  word_event ask = subst IsQuiet (sym (copied_event None ask answer)) (copy_moves IsQuiet tt (λ kind. tt) None tt ask answer)

  module _ (state : ScannerState) (told : IsWordAnswer g c s since state loaded.before loaded answer es loaded') where
    word_stills : kind_in state ≡ None → (ask : ScanAsk) → asks_in state ≡ Some ask → Step state ask
    word_stills kind ask e =
        let same : Copy told.ask ≡ ask = same_item (Copy told.ask) ask (sym told.asks ∙ e) in
        inl (record {
          quiet = subst (λ k. IsQuiet (event_of_scan k ask answer)) (sym kind) (subst (λ a. IsQuiet (event_of_scan None a answer)) same (word_event told.ask));
          one = copied_one eq g c s loaded.copy answer es told.copy None 0 told.ask told.told;
          given = ap (λ (h : LoadedPairs (Stored K V)). h.given) told.handed;
          shown = ap (λ (h : LoadedPairs (Stored K V)). h.shown) told.handed;
          before = inl (ap (λ (h : LoadedPairs (Stored K V)). h.before) told.handed);
        })

  -- the kinds of steps of a scanner
  pub scan_step : (state : ScannerState) (ask : ScanAsk) → asks_in state ≡ Some ask → IsTrueOfScan g c s since state loaded answer es loaded' → Step state ask
  scan_step (Copying stage) ask e told = copy_stills stage (resizers.asks_in stage) refl ask e told
  scan_step AtRoot ask e told =
      let same : Copy told.ask ≡ ask = same_item (Copy told.ask) ask (sym told.asks ∙ e) in
      inl (record {
        quiet = subst (λ a. IsQuiet (event_of_scan None a answer)) same (word_event told.ask);
        one = copied_one eq g c s loaded.copy answer es told.copy None 0 told.ask told.told;
        given = ap (λ (h : LoadedPairs (Stored K V)). h.given) told.handed;
        shown = ap (λ (h : LoadedPairs (Stored K V)). h.shown) told.handed;
        before = inr (ap (λ (h : LoadedPairs (Stored K V)). h.before) told.handed, tt);
      })
  scan_step (Sizing table) ask e told = word_stills (Sizing table) told refl ask e
  scan_step (Looking spot) ask e told = word_stills (Looking spot) told refl ask e
  scan_step Done ask e told = word_stills Done told refl ask e
  scan_step (Refused refused) ask e told = word_stills (Refused refused) told refl ask e
  scan_step (Giving spot word) ask e told = inr (inl (record {
    spot = spot;
    word = word;
    giving = refl;
    event_is = ap (λ a. event_of_scan None a answer) (sym (same_item (Given (number_of word)) ask e)) ∙ ap (event_of_scan None (Given (number_of word))) told.is;
    pair = told.pair;
    last = told.last;
    none = told.none;
    handed = told.handed;
  }))
  scan_step (Showing spot word) ask e told = inr (inr (inl (record {
    spot = spot;
    word = word;
    showing = refl;
    stays = told.stays;
    event_is = ap (λ a. event_of_scan None a answer) (sym (same_item (Show (number_of word)) ask e)) ∙ ap (event_of_scan None (Show (number_of word))) told.is;
    pair = told.pair;
    last = told.last;
    none = told.none;
    handed = told.handed;
  })))
  scan_step (Burying spot word) ask e told =
      subst (Step (Burying spot word)) (same_item (Copy (buries spot word)) ask e)
      (matched (Step (Burying spot word) (Copy (buries spot word))) (code g c (s.slot spot.table spot.slot) == word)
      (IsBuried g c s since spot loaded answer es loaded') (IsFoundThere g c s since spot loaded answer es loaded') told
      (λ hit t.
      let number : number_of word ≡ t.pair.number = ap number_of
      (sym (eqb-true (code g c (s.slot spot.table spot.slot)) word hit) ∙ ap (code g c) t.live)
      ∙ (code_pair g c hashed.coding (Live t.pair) t.pair refl) ∙ number_is t.pair in
      inr (inr (inr (record {
        spot = spot;
        word = word;
        burying = refl;
        pair = t.pair;
        live = t.live;
        stood = number;
        event_is = ap (event_of_scan (Some kinds.Bury) (Copy (buries spot word))) t.is ∙ ap (λ n. Changed kinds.Bury (Some n) None) number;
        one = t.one;
        handed = t.handed;
      }))))
      (λ miss t. inl (record {
        quiet = subst IsQuiet (ap (event_of_scan (Some kinds.Bury) (Copy (buries spot word))) (sym t.is)) tt;
        one = none_one eq g c s loaded.copy answer es loaded.copy t.none;
        given = ap (λ (h : LoadedPairs (Stored K V)). h.given) t.handed;
        shown = ap (λ (h : LoadedPairs (Stored K V)). h.shown) t.handed;
        before = inl (ap (λ (h : LoadedPairs (Stored K V)). h.before) t.handed);
      })))
  scan_step (Uncounting spot) ask e told = inl (record {
    quiet = subst IsQuiet (ap (event_of_scan None (AddToShard (negsuc 0))) (sym told.0)
        ∙ ap (λ a. event_of_scan None a answer) (same_item (AddToShard (negsuc 0)) ask e)) tt;
    one = none_one eq g c s loaded.copy answer es loaded.copy told.1;
    given = ap (λ (h : LoadedPairs (Stored K V)). h.given) told.2;
    shown = ap (λ (h : LoadedPairs (Stored K V)). h.shown) told.2;
    before = inl (ap (λ (h : LoadedPairs (Stored K V)). h.before) told.2);
  })

module _ {K V S A : Type 0} (says : Says K V A) (s : StoreState K V S) (v v' : Scanning A) (event : Event) where
  -- the result of a closure is the one that its answers give
  pub record IsScanAnswering : Type 0 where
    pub left : (a' : A) → v'.answers ≡ Some a' → (a : A) × (v.answers ≡ Some a) × GivesIn says s event None a a'
    pub gave : asks_closure event ≡ true → (a' : A) × (v'.answers ≡ Some a')

module _ {K V S A : Type 0} (eq : K → K → Bool) (says : Says K V A) (hash : S → K → ℕ) (refuse : Bool) (s : StoreState K V S) (v : Scanning A)
    (answer : Answer) (s' : StoreState K V S) (v' : Scanning A) (kind : Option StepKind) where
  -- an event that calls no closure leaves the answers as they are
  unasked : (event : Event) → v'.answers ≡ v.answers → ((a : A) → GivesIn says s' event None a a) → asks_closure event ≡ false
      → IsScanAnswering says s' v v' event
  unasked event same gives none = record {
    left = λ a had. (a, sym same ∙ had, gives a);
    gave = λ asks. let f : false ≡ true = sym none ∙ asks in absurd cc;
  }

  pub scan_answering : (ask : ScanAsk) → PerformsScan eq says hash refuse ask s v answer s' v' → IsScanAnswering says s' v v' (event_of_scan kind ask answer)
  scan_answering (Copy ask) (performs, same) =
      subst (IsScanAnswering says s' v v') (sym (copied_event kind ask answer))
      (unasked (event_of kind (asks.Copy ask) answer) (ap (λ (y : Scanning A). y.answers) same)
      (λ a. copy_cases (λ e. GivesIn says s' e None a a) refl (λ kind old new. refl) (λ kind. refl) kind ask answer)
      (copy_cases (λ e. asks_closure e ≡ false) refl (λ kind old new. refl) (λ kind. refl) kind ask answer))
  scan_answering (Show n) ((told, is, inl (nothing, ok, as_was)), same) =
      subst (IsScanAnswering says s' v v') (ap (event_of_scan kind (Show n)) (sym (is ∙ ap answers.Call ok)))
      (unasked Other (ap (λ (y : Scanning A). y.answers) as_was) (λ a. refl) refl)
  scan_answering (Show n) ((told, is, inr (a, p, stays, a', had, there, said, told_so, later)), same) =
      subst (IsScanAnswering says s' v v') (ap (event_of_scan kind (Show n)) (sym (is ∙ ap answers.Call told_so))) (record {
        left = λ b has.
            let one : a' ≡ b = same_item a' b (sym (ap (λ (y : Scanning A). y.answers) later) ∙ has) in
            (a, had, (p, ap (λ (y : StoreState K V S). pair_of y n) same ∙ there, subst (λ b. says.yes a p.key p.value stays b) one said));
        gave = λ asks. (a', ap (λ (y : Scanning A). y.answers) later);
      })
  scan_answering (Given n) ((told, is, inl (ok, given)), same) =
      subst (IsScanAnswering says s' v v') (ap (event_of_scan kind (Given n)) (sym (is ∙ ap answers.Call ok))) (unasked (Gave n) given.answers (λ a. refl) refl)
  scan_answering (Given n) ((told, is, inr (refused, as_was, left, given)), same) =
      subst (IsScanAnswering says s' v v') (ap (event_of_scan kind (Given n)) (sym (is ∙ ap answers.Call refused))) (unasked Other left (λ a. refl) refl)
  scan_answering (AddToShard by) (is, counted, same) =
      subst (IsScanAnswering says s' v v') (ap (event_of_scan kind (AddToShard by)) (sym is))
      (unasked Other (ap (λ (y : Scanning A). y.answers) same) (λ a. refl) refl)
