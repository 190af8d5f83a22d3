-- What an answer tells a scanner about the words, and about the pairs that it returned or called
-- its closure with.
use Rattle.std.specs.Prelude.{◌≡◌, ◌⊎◌, ℕ, suc, ◌==◌, cond, Bool, Option, None, Some, List, [], ◌∷◌, ◌++◌, MatchBool}
use Rattle.papaya_call.specs.declared.ask.Answer.TheVariants.{Exchanged, Found, Yes, Ok}
use Rattle.papaya_call.specs.declared.ask.At.TheVariants.{Slot}
use Rattle.papaya_call.specs.declared.copy_ask.CopyAsk.{CopyAsk}
use Rattle.papaya_call.specs.declared.chain.ask.Answer.{Answer}
use Rattle.papaya_call.specs.declared.chain.ask.Answer.TheVariants as answers
use Rattle.papaya_call.specs.declared.chain.resizer.ResizerState.{ResizerState as Stage}
use Rattle.papaya_words_law.specs.Code.{Coding, code}
use Rattle.papaya_words_law.specs.Exchange.{Live, Setting, State as Words, Exchange, Bury}
use Rattle.papaya_call_law.specs.Copier.{told_last}
use Rattle.papaya_call_law.specs.Resizers.{IsTrueOfStage}
use Rattle.papaya_call_law.specs.ChainAnswers.{IsTrueOfCopy, told_of}
use Rattle.papaya_call_law.specs.ChainAnswers as copies
use Rattle.papaya_call.specs.declared.chain.ask.ScanAsk.TheVariants.{Copy}
use Rattle.papaya_call.specs.declared.chain.scanner.Spot.{Spot}
use Rattle.papaya_call.specs.declared.chain.scanner.ScannerState.{ScannerState}
use Rattle.papaya_call.specs.declared.chain.scanner.ScannerState.TheVariants.{Copying, AtRoot, Giving, Showing, Burying, Uncounting}
use Rattle.papaya_call.specs.Scanner.{asks_in}

-- how many of these pairs have the key
abbrev pub count_of : {K P : Type 0} → Setting K P → List P → K → ℕ
count_of g [] k = 0
count_of g (p ∷ older) k =
    cond (g.same k (g.key p)) (suc (count_of g older k)) (count_of g older k)

-- what the closure returned when it was last called with the pair p; the list has the newest call
-- first
abbrev pub IsLastAnswer : {P : Type 0} → List (P × Bool) → P → Bool → Type 0
IsLastAnswer [] p stays = ⊥
IsLastAnswer (one ∷ older) p stays = ((one.0 ≡ p) × (one.1 ≡ stays))
    ⊎ ((one.0 ≡ p → ⊥) × IsLastAnswer older p stays)

-- The pairs that a scanner has learned of, as a copier has; the exchanges from the begin of the
-- call until it took its table, or until now if it has none; the pairs that it returned; and those
-- with which it called its closure, with what that returned. The newest are first.
pub record LoadedPairs (P : Type 0) : Type 0 where
  pub copy : copies.LoadedPairs P
  pub before : List (Exchange P)
  pub given : List P
  pub shown : List (P × Bool)

abbrev pub nothing_loaded : {P : Type 0} → LoadedPairs P
nothing_loaded = record { copy = copies.nothing_loaded; before = []; given = []; shown = [] }

-- the pair that the word loaded last names
abbrev pub last_of : {P : Type 0} → LoadedPairs P → Option P
last_of loaded = loaded.copy.call.last

-- The words are s, and the exchanges since the call began `since`.
module _ {K P : Type 0} (g : Setting K P) (c : Coding K P) (s : Words P)
    (since : List (Exchange P)) where
  -- the answer is to an ask of the copy of all
  pub record IsCopyAnswer (stage : Stage) (loaded : LoadedPairs P) (answer : Answer)
      (es : List (Exchange P)) (loaded' : LoadedPairs P) : Type 0 where
    pub copy : copies.LoadedPairs P
    pub told : IsTrueOfStage g c s stage loaded.copy answer es copy
    pub handed : loaded' ≡ record loaded { copy = copy; before = since ++ es }

  -- the answer is to a load or to an ask for a size
  pub record IsWordAnswer (state : ScannerState) (before : List (Exchange P)) (loaded : LoadedPairs P)
      (answer : Answer) (es : List (Exchange P)) (loaded' : LoadedPairs P) : Type 0 where
    pub ask : CopyAsk
    pub asks : asks_in state ≡ Some (Copy ask)
    pub copy : copies.LoadedPairs P
    pub told : IsTrueOfCopy g c s None 0 loaded.copy ask answer es copy
    pub handed : loaded' ≡ record loaded { copy = copy; before = before }

  -- the pair learned of last was returned
  pub record IsGiven (loaded : LoadedPairs P) (answer : Answer) (es : List (Exchange P))
      (loaded' : LoadedPairs P) : Type 0 where
    pub pair : P
    pub last : last_of loaded ≡ Some pair
    pub is : answer ≡ answers.Call Ok
    pub none : es ≡ []
    pub handed : loaded' ≡ record loaded { given = pair ∷ loaded.given }

  -- the closure was called with the pair learned of last, and returned whether it stays
  pub record IsShown (loaded : LoadedPairs P) (answer : Answer) (es : List (Exchange P))
      (loaded' : LoadedPairs P) : Type 0 where
    pub pair : P
    pub last : last_of loaded ≡ Some pair
    pub stays : Bool
    pub is : answer ≡ answers.Call (Yes stays)
    pub none : es ≡ []
    pub handed : loaded' ≡ record loaded { shown = (pair, stays) ∷ loaded.shown }

  -- the pair in the slot was removed
  pub record IsBuried (spot : Spot) (loaded : LoadedPairs P) (answer : Answer)
      (es : List (Exchange P))
      (loaded' : LoadedPairs P) : Type 0 where
    pub pair : P
    pub live : s.slot spot.table spot.slot ≡ Live pair
    pub is : answer ≡ answers.Call Exchanged
    pub one : es ≡ Bury spot.table spot.slot pair ∷ []
    pub handed : loaded' ≡ loaded

  -- another word was found in the slot
  pub record IsFoundThere (spot : Spot) (loaded : LoadedPairs P) (answer : Answer)
      (es : List (Exchange P)) (loaded' : LoadedPairs P) : Type 0 where
    pub is : answer ≡ answers.Call (Found (code g c (s.slot spot.table spot.slot)))
    pub none : es ≡ []
    pub handed : loaded'
        ≡ record loaded {
          copy = told_of (told_last s (Slot spot.table spot.slot) (last_of loaded)) loaded.copy;
        }

  -- The answer to a scanner's ask is true of the words in s, and `es` has the exchange, if one was
  -- made.
  abbrev pub IsTrueOfScan : ScannerState → LoadedPairs P → Answer → List (Exchange P) → LoadedPairs P
      → Type 0
  IsTrueOfScan (Copying stage) loaded answer es loaded' = IsCopyAnswer stage loaded answer es loaded'
  IsTrueOfScan (Giving spot word) loaded answer es loaded' = IsGiven loaded answer es loaded'
  IsTrueOfScan (Showing spot word) loaded answer es loaded' = IsShown loaded answer es loaded'
  IsTrueOfScan (Burying spot word) loaded answer es loaded' =
      MatchBool (code g c (s.slot spot.table spot.slot) == word)
      (IsBuried spot loaded answer es loaded') (IsFoundThere spot loaded answer es loaded')
  IsTrueOfScan (Uncounting spot) loaded answer es loaded' = (answer ≡ answers.Call Ok) × (es ≡ [])
      × (loaded' ≡ loaded)
  IsTrueOfScan AtRoot loaded answer es loaded' =
      IsWordAnswer AtRoot (since ++ es) loaded answer es loaded'
  IsTrueOfScan state loaded answer es loaded' =
      IsWordAnswer state loaded.before loaded answer es loaded'
