-- What an answer says about the words.
use Rattle.std.specs.Prelude.{◌≡◌, ◌⊎◌, ℕ, ◌+◌, ◌<◌, ◌==◌, cond, Bool, Option, None, Some, List, [], ◌∷◌, MatchBool}
use Rattle.papaya_words.specs.Word.{pair_of}
use Rattle.papaya_words.specs.declared.refused.Refused.{Refused}
use Rattle.papaya_call.specs.declared.ask.At.{At}
use Rattle.papaya_call.specs.declared.ask.At.TheVariants.{Root, Next, Aborted, Done, Slot, Made as Made_word}
use Rattle.papaya_call.specs.declared.ask.Ask.{Ask}
use Rattle.papaya_call.specs.declared.ask.Ask.TheVariants.{Load, Exchange as Ask_exchange, LoadHint}
use Rattle.papaya_call.specs.declared.ask.Ask.TheVariants.{WriteHint, SameKey, ShowNone, ShowPair}
use Rattle.papaya_call.specs.declared.ask.Ask.TheVariants.{SizeOf, MakeKey, MakeValue, MakePair}
use Rattle.papaya_call.specs.declared.ask.Ask.TheVariants.{MakePairOf, MakeTable, AddToShard}
use Rattle.papaya_call.specs.declared.ask.Ask.TheVariants.{Done as Ask_done}
use Rattle.papaya_call.specs.declared.ask.Answer.{Answer}
use Rattle.papaya_call.specs.declared.ask.Answer.TheVariants.{Word as Word_read, Exchanged}
use Rattle.papaya_call.specs.declared.ask.Answer.TheVariants.{Found as Found_instead, Yes, Op, Size}
use Rattle.papaya_call.specs.declared.ask.Answer.TheVariants.{Made as Made_number, Ok as Ok_done}
use Rattle.papaya_call.specs.declared.ask.Answer.TheVariants.{Refused as Was_refused}
use Rattle.papaya_call.specs.declared.ask.OpKind.{OpKind}
use Rattle.papaya_call.specs.declared.ask.StepKind.{StepKind}
use Rattle.papaya_call.specs.declared.ask.StepKind.TheVariants as kinds
use Rattle.papaya_words_law.specs.Exchange.{Live, Setting, State, Exchange, Open, Claim, Replace, Bury, Take}
use Rattle.papaya_words_law.specs.Invariant.{named}
use Rattle.papaya_words_law.specs.Code.{Coding, code}
use Rattle.papaya_words_law.specs.Hints.{IsHint}

-- The pairs that a machine has learned of: the one that the word loaded last names, and those that
-- it made, the newest first.
pub record LoadedPairs (P : Type 0) : Type 0 where
  pub last : Option P
  pub made : List P

abbrev pub nothing_loaded : {P : Type 0} → LoadedPairs P
nothing_loaded = record { last = None; made = [] }

-- p is in the list
abbrev pub IsOneOf : {P : Type 0} → List P → P → Type 0
IsOneOf [] p = ⊥
IsOneOf (q ∷ rest) p = (p ≡ q) ⊎ IsOneOf rest p

-- the pair that a word names, if it names one, and otherwise the one from before
abbrev pub or_last : {P : Type 0} → Option P → Option P → Option P
or_last (Some p) last = Some p
or_last None last = last

module _ {K P : Type 0} (g : Setting K P) (c : Coding K P) where
  -- the word at a place, as a number
  abbrev pub word_of : State P → At → ℕ
  word_of s Root = s.root
  word_of s (Next t) = s.next t
  word_of s (Aborted t) = cond (s.aborted t) 1 0
  word_of s (Done t chunk) = cond (s.done t chunk) 1 0
  word_of s (Slot t x) = code g c (s.slot t x)
  word_of s Made_word = s.made

  -- the word at `at` becomes `new`, and all other words stay the same
  pub record IsWritten (s : State P) (at : At) (new : ℕ) (s' : State P) : Type 0 where
    pub here : word_of s' at ≡ new
    pub others : (other : At) → (other ≡ at → ⊥) → word_of s' other ≡ word_of s other

-- the pairs that a machine has learned of once it has loaded the word at a place
abbrev pub told_of : {P : Type 0} → State P → At → LoadedPairs P → LoadedPairs P
told_of s (Slot t x) loaded = record loaded { last = or_last (named (s.slot t x)) loaded.last }
told_of s _ loaded = loaded

-- the new word names the pair q, which the call made
pub record IsOwnWord {K P : Type 0} (c : Coding K P) (loaded : LoadedPairs P) (new : ℕ)
    (q : P) : Type 0 where
  pub made : IsOneOf loaded.made q
  pub named : c.number q ≡ pair_of new

module _ {K P : Type 0} (g : Setting K P) (c : Coding K P) (k : K) where
  -- The exchange of the law for which a machine asks, by its kind. A pair that comes is one that
  -- the machine made: with the call's key if it is claimed, and with the key of the pair that goes
  -- if it replaces one. The pair that goes is the one in the slot.
  abbrev pub IsAsked : Option StepKind → At → ℕ → State P → LoadedPairs P → Exchange P → Type 0
  IsAsked (Some kinds.Open) Root new s loaded e = e ≡ Open new
  IsAsked (Some kinds.Claim) (Slot t x) new s loaded e = (q : P) × IsOwnWord c loaded new q
      × (g.key q ≡ k) × (e ≡ Claim t x q)
  IsAsked (Some kinds.Replace) (Slot t x) new s loaded e = (p : P) × (q : P)
      × (s.slot t x ≡ Live p) × IsOwnWord c loaded new q × (g.key q ≡ g.key p)
      × (e ≡ Replace t x p q)
  IsAsked (Some kinds.Bury) (Slot t x) new s loaded e = (p : P) × (s.slot t x ≡ Live p)
      × (e ≡ Bury t x p)
  IsAsked (Some kinds.Take) Made_word new s loaded e = e ≡ Take s.made
  IsAsked _ _ new s loaded e = ⊥

  -- nothing was exchanged, and no pair was learned of
  abbrev pub Quiet : LoadedPairs P → List (Exchange P) → LoadedPairs P → Type 0
  Quiet loaded es loaded' = (es ≡ []) × (loaded' ≡ loaded)

  -- nothing was made: it was refused, or there was nothing to make
  abbrev pub IsUnmade : Answer → Type 0
  IsUnmade answer = ((refused : Refused) × (answer ≡ Was_refused refused)) ⊎ (answer ≡ Ok_done)

  -- the pair q was made
  abbrev pub IsNew : P → LoadedPairs P → Answer → List (Exchange P) → LoadedPairs P → Type 0
  IsNew q loaded answer es loaded' = (answer ≡ Made_number (c.number q)) × (es ≡ [])
      × (loaded' ≡ record loaded { made = q ∷ loaded.made })

  -- q has the key of pair n, if that is the pair learned of last
  abbrev pub IsOfLast : LoadedPairs P → ℕ → P → Type 0
  IsOfLast loaded n q = (p : P) → loaded.last ≡ Some p → c.number p ≡ n → g.key q ≡ g.key p

  -- the answer is any result of a closure, or says nothing if there is no closure
  abbrev pub IsClosureAnswer : Answer → Type 0
  IsClosureAnswer answer = ((agrees : Bool) × (answer ≡ Yes agrees))
      ⊎ ((kind : OpKind) × (answer ≡ Op kind)) ⊎ (answer ≡ Ok_done)

  -- The answer to an ask is true of the words in s, for a call with the key k: a load or an
  -- exchange is answered by the word that is there, and the load of a hint by one that may be
  -- there. `es` has the exchange, if one was made.
  abbrev pub IsTrueOf : State P → Option StepKind → LoadedPairs P → Ask → Answer → List (Exchange P)
      → LoadedPairs P → Type 0
  IsTrueOf s kind loaded (Load at) answer es loaded' = (answer ≡ Word_read (word_of g c s at))
      × (es ≡ []) × (loaded' ≡ told_of s at loaded)
  IsTrueOf s kind loaded (Ask_exchange at old new) answer es loaded' =
      MatchBool (word_of g c s at == old)
      ((answer ≡ Exchanged) × ((e : Exchange P) × IsAsked kind at new s loaded e × (es ≡ e ∷ []))
      × (loaded' ≡ loaded))
      ((answer ≡ Found_instead (word_of g c s at)) × (es ≡ []) × (loaded' ≡ told_of s at loaded))
  IsTrueOf s kind loaded (LoadHint t x) answer es loaded' =
      ((n : ℕ) × IsHint g c s t x n × (answer ≡ Word_read n)) × Quiet loaded es loaded'
  IsTrueOf s kind loaded (WriteHint t x n) answer es loaded' = (answer ≡ Ok_done)
      × Quiet loaded es loaded'
  IsTrueOf s kind loaded (SameKey n) answer es loaded' =
      ((p : P) → loaded.last ≡ Some p → c.number p ≡ n → answer ≡ Yes (g.same k (g.key p)))
      × Quiet loaded es loaded'
  IsTrueOf s kind loaded ShowNone answer es loaded' = IsClosureAnswer answer × Quiet loaded es loaded'
  IsTrueOf s kind loaded (ShowPair n) answer es loaded' = IsClosureAnswer answer × Quiet loaded es loaded'
  IsTrueOf s kind loaded (SizeOf t) answer es loaded' =
      ((limit : ℕ) × (limit + 1 ≡ g.places t) × (answer ≡ Size (g.size t) limit))
      × Quiet loaded es loaded'
  IsTrueOf s kind loaded MakeKey answer es loaded' =
      (IsUnmade answer ⊎ ((n : ℕ) × (answer ≡ Made_number n))) × Quiet loaded es loaded'
  IsTrueOf s kind loaded MakeValue answer es loaded' =
      (IsUnmade answer ⊎ ((n : ℕ) × (answer ≡ Made_number n))) × Quiet loaded es loaded'
  IsTrueOf s kind loaded MakePair answer es loaded' =
      (IsUnmade answer × Quiet loaded es loaded')
      ⊎ ((q : P) × (g.key q ≡ k) × IsNew q loaded answer es loaded')
  IsTrueOf s kind loaded (MakePairOf n) answer es loaded' =
      (IsUnmade answer × Quiet loaded es loaded')
      ⊎ ((q : P) × IsOfLast loaded n q × IsNew q loaded answer es loaded')
  IsTrueOf s kind loaded (MakeTable slots limit chunks) answer es loaded' =
      (IsUnmade answer ⊎ ((n : ℕ) × (0 < n) × (answer ≡ Made_number n))) × Quiet loaded es loaded'
  IsTrueOf s kind loaded (AddToShard by) answer es loaded' = (answer ≡ Ok_done)
      × Quiet loaded es loaded'
  IsTrueOf s kind loaded (Ask_done reply) answer es loaded' = (answer ≡ Ok_done)
      × Quiet loaded es loaded'
