-- What an answer says about the words to a call over a chain of tables.
use Rattle.std.specs.Prelude.{◌≡◌, ◌⊎◌, ℕ, ◌+◌, ◌<◌, ◌==◌, Option, None, Some, List, [], ◌∷◌, MatchBool}
use Rattle.papaya_words.specs.declared.refused.Refused.{Refused}
use Rattle.papaya_call.specs.declared.ask.Ask.{Ask as Call_ask}
use Rattle.papaya_call.specs.declared.ask.Answer.{Answer as Call_answer}
use Rattle.papaya_call.specs.declared.ask.Answer.TheVariants.{Word as Word_read, Exchanged}
use Rattle.papaya_call.specs.declared.ask.Answer.TheVariants.{Found as Found_instead, Yes, Size}
use Rattle.papaya_call.specs.declared.ask.Answer.TheVariants.{Made as Made_number, Ok as Ok_done}
use Rattle.papaya_call.specs.declared.ask.Answer.TheVariants.{Refused as Was_refused}
use Rattle.papaya_call.specs.declared.ask.StepKind.{StepKind}
use Rattle.papaya_call.specs.declared.copy_ask.CopyAsk.{CopyAsk}
use Rattle.papaya_call.specs.declared.copy_ask.CopyAsk.TheVariants.{Load, Exchange as Ask_exchange}
use Rattle.papaya_call.specs.declared.copy_ask.CopyAsk.TheVariants.{LoadHint, WriteHint, SizeOf}
use Rattle.papaya_call.specs.declared.copy_ask.CopyAsk.TheVariants.{HashOf, SamePair, Count}
use Rattle.papaya_call.specs.declared.copy_ask.CopyAsk.TheVariants.{MakeTable}
use Rattle.papaya_call.specs.declared.chain.ask.Ask.{Ask}
use Rattle.papaya_call.specs.declared.chain.ask.Ask.TheVariants as asks
use Rattle.papaya_call.specs.declared.chain.ask.Answer.{Answer}
use Rattle.papaya_call.specs.declared.chain.ask.Answer.TheVariants as answers
use Rattle.papaya_words_law.specs.Code.{Coding}
use Rattle.papaya_words_law.specs.Exchange.{Setting, State, Exchange}
use Rattle.papaya_words_law.specs.Hints.{IsHint}
use Rattle.papaya_call_law.specs.Copier.{IsCopyAsked, last_after, told_last}
use Rattle.papaya_call_law.specs.TrueAnswers.{word_of}
use Rattle.papaya_call_law.specs.TrueAnswers as calls

-- The pairs that a call has learned of, and the one that it carries to another table.
pub record LoadedPairs (P : Type 0) : Type 0 where
  pub call : calls.LoadedPairs P
  pub kept : Option P

abbrev pub nothing_loaded : {P : Type 0} → LoadedPairs P
nothing_loaded = record { call = calls.nothing_loaded; kept = None }

-- the same with `last` as the pair learned of last
abbrev pub told_of : {P : Type 0} → Option P → LoadedPairs P → LoadedPairs P
told_of last loaded = record loaded { call = record loaded.call { last = last } }

module _ {K P : Type 0} (g : Setting K P) (c : Coding K P) where
  -- nothing was exchanged, and no pair was learned of
  abbrev pub Quiet : LoadedPairs P → List (Exchange P) → LoadedPairs P → Type 0
  Quiet loaded es loaded' = (es ≡ []) × (loaded' ≡ loaded)

  -- The answer to an ask of a copy is true of the words in s: a load or an exchange is answered by
  -- the word that is there, and the load of a hint by one that may be there. A table that is made
  -- has a greater number than the one that it is to follow. `es` has the exchange, if one was made.
  abbrev pub IsTrueOfCopy : State P → Option StepKind → (follows : ℕ) → LoadedPairs P → CopyAsk
      → Answer → List (Exchange P) → LoadedPairs P → Type 0
  IsTrueOfCopy s kind follows loaded (Load at) answer es loaded' =
      (answer ≡ answers.Call (Word_read (word_of g c s at)))
      × (es ≡ []) × (loaded' ≡ told_of (told_last s at loaded.call.last) loaded)
  IsTrueOfCopy s kind follows loaded (Ask_exchange at old new) answer es loaded' =
      MatchBool (word_of g c s at == old)
      ((answer ≡ answers.Call Exchanged)
      × ((e : Exchange P) × IsCopyAsked c kind at new s loaded.kept e × (es ≡ e ∷ [])
      × (loaded' ≡ told_of (last_after e loaded.call.last) loaded)))
      ((answer ≡ answers.Call (Found_instead (word_of g c s at)))
      × (es ≡ []) × (loaded' ≡ told_of (told_last s at loaded.call.last) loaded))
  IsTrueOfCopy s kind follows loaded (LoadHint t x) answer es loaded' =
      ((n : ℕ) × IsHint g c s t x n × (answer ≡ answers.Call (Word_read n)))
      × Quiet loaded es loaded'
  IsTrueOfCopy s kind follows loaded (WriteHint t x n) answer es loaded' =
      (answer ≡ answers.Call Ok_done) × Quiet loaded es loaded'
  IsTrueOfCopy s kind follows loaded (SizeOf t) answer es loaded' =
      ((limit : ℕ) × (limit + 1 ≡ g.places t) × (answer ≡ answers.Call (Size (g.size t) limit)))
      × Quiet loaded es loaded'
  IsTrueOfCopy s kind follows loaded (HashOf n) answer es loaded' =
      ((p : P) → loaded.call.last ≡ Some p → c.number p ≡ n
      → answer ≡ answers.Hash (c.hash (g.key p)))
      × (es ≡ []) × (loaded' ≡ record loaded { kept = loaded.call.last })
  IsTrueOfCopy s kind follows loaded (SamePair m n) answer es loaded' =
      ((p q : P) → loaded.kept ≡ Some p → c.number p ≡ m → loaded.call.last ≡ Some q
      → c.number q ≡ n
      → answer ≡ answers.Call (Yes (g.same (g.key p) (g.key q))))
      × Quiet loaded es loaded'
  IsTrueOfCopy s kind follows loaded Count answer es loaded' =
      ((count : ℕ) × (answer ≡ answers.Count count)) × Quiet loaded es loaded'
  IsTrueOfCopy s kind follows loaded (MakeTable slots limit chunks) answer es loaded' =
      (((refused : Refused) × (answer ≡ answers.Call (Was_refused refused)))
      ⊎ ((n : ℕ) × (follows < n) × (answer ≡ answers.Call (Made_number n))))
      × Quiet loaded es loaded'

  -- a call with the key k is answered as it would be without a chain
  pub record IsTrueOfCall (k : K) (s : State P) (kind : Option StepKind) (loaded : LoadedPairs P)
      (ask : Call_ask) (answer : Answer) (es : List (Exchange P)) (loaded' : LoadedPairs P) : Type 0
    where
      pub told : Call_answer
      pub is : answer ≡ answers.Call told
      pub call : calls.LoadedPairs P
      pub tells : calls.IsTrueOf g c k s kind loaded.call ask told es call
      pub handed : loaded' ≡ record loaded { call = call }

  -- the answer to an ask of a call with the key k, its own or a copy's, is true of the words in s
  abbrev pub IsTrueOf : K → State P → Option StepKind → (follows : ℕ) → LoadedPairs P → Ask → Answer
      → List (Exchange P) → LoadedPairs P → Type 0
  IsTrueOf k s kind follows loaded (asks.Call ask) answer es loaded' =
      IsTrueOfCall k s kind loaded ask answer es loaded'
  IsTrueOf k s kind follows loaded (asks.Copy ask) answer es loaded' =
      IsTrueOfCopy s kind follows loaded ask answer es loaded'
