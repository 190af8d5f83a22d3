-- What an answer to an ask of a copy says, if nobody else changes the words.
use Rattle.std.specs.Prelude.{◌≡◌, ◌⊎◌, ℕ, ◌+◌, ◌<◌, ◌≤◌, ◌^◌, ◌==◌, Bool, MatchBool}
use Rattle.papaya_words.specs.declared.refused.Refused.{Refused}
use Rattle.papaya_call.specs.declared.ask.At.{At}
use Rattle.papaya_call.specs.declared.ask.At.TheVariants.{Next}
use Rattle.papaya_call.specs.declared.ask.Answer.TheVariants.{Word as Word_read, Exchanged}
use Rattle.papaya_call.specs.declared.ask.Answer.TheVariants.{Found as Found_instead, Yes, Size}
use Rattle.papaya_call.specs.declared.ask.Answer.TheVariants.{Made as Made_number}
use Rattle.papaya_call.specs.declared.ask.Answer.TheVariants.{Refused as Was_refused, Ok as Ok_done}
use Rattle.papaya_call.specs.declared.copy_ask.CopyAsk.{CopyAsk}
use Rattle.papaya_call.specs.declared.copy_ask.CopyAsk.TheVariants.{Load, Exchange, LoadHint, WriteHint, SizeOf, HashOf, SamePair, Count, MakeTable}
use Rattle.papaya_call.specs.Search.{IsSize}
use Rattle.papaya_call.specs.declared.ask.Ask.{Ask as Call_ask}
use Rattle.papaya_call.specs.declared.ask.Ask.TheVariants as call_asks
use Rattle.papaya_call.specs.declared.ask.Answer.{Answer as Call_answer}
use Rattle.papaya_call.specs.declared.call.Task.{Task}
use Rattle.papaya_call.specs.declared.call.Task.TheVariants.{Compute}
use Rattle.papaya_call.specs.declared.chain.ask.Ask.{Ask}
use Rattle.papaya_call.specs.declared.chain.ask.Ask.TheVariants as asks
use Rattle.papaya_call.specs.declared.chain.ask.Answer.{Answer}
use Rattle.papaya_call.specs.declared.chain.ask.Answer.TheVariants as answers
use Rattle.papaya_words_law.specs.Class.{IsOn}
use Rattle.papaya_words_law.specs.Exchange.{Setting, State}
use Rattle.papaya_call_law.specs.Alone.{IsPut, IsSame, IsClosureAnswer}
use Rattle.papaya_call_law.specs.Alone as calls

-- the tables that were opened or linked have numbers up to 2^32, and sizes that tables may have
pub record IsBounded {K P : Type 0} (g : Setting K P) (s : State P) : Type 0 where
  pub number : (t : ℕ) → IsOn s.first s.next t → t ≤ 2 ^ 32
  pub size : (t limit : ℕ) → IsOn s.first s.next t → limit + 1 ≡ g.places t
      → IsSize (g.size t) limit

-- if the number of a next table is loaded, it is 0, or greater than that of its table and at most
-- 2^32
abbrev pub IsNumber : (At → ℕ) → At → Type 0
IsNumber words (Next t) = (words (Next t) ≡ 0)
    ⊎ ((t < words (Next t)) × (words (Next t) ≤ 2 ^ 32))
IsNumber words _ = Unit {0}

-- what was to be made was made, or refused
abbrev pub IsMaking : Answer → Type 0
IsMaking answer = ((n : ℕ) × (answer ≡ answers.Call (Made_number n)))
    ⊎ ((refused : Refused) × (answer ≡ answers.Call (Was_refused refused)))

-- An ask of a copy is answered by the words, and only its own exchange changes them.
abbrev pub IsCopyPrompt : (At → ℕ) → CopyAsk → Answer → (At → ℕ) → Type 0
IsCopyPrompt words (Load at) answer words' =
    ((answer ≡ answers.Call (Word_read (words at))) × IsNumber words at) × IsSame words words'
IsCopyPrompt words (Exchange at old new) answer words' =
    MatchBool (words at == old) ((answer ≡ answers.Call Exchanged) × IsPut words at new words')
    ((answer ≡ answers.Call (Found_instead (words at))) × IsSame words words')
IsCopyPrompt words (LoadHint t x) answer words' =
    ((hint : ℕ) × (answer ≡ answers.Call (Word_read hint))) × IsSame words words'
IsCopyPrompt words (WriteHint t x hint) answer words' = (answer ≡ answers.Call Ok_done)
    × IsSame words words'
IsCopyPrompt words (SizeOf t) answer words' =
    ((slots : ℕ) × (limit : ℕ) × IsSize slots limit × (answer ≡ answers.Call (Size slots limit)))
    × IsSame words words'
IsCopyPrompt words (HashOf n) answer words' = ((hash : ℕ) × (answer ≡ answers.Hash hash))
    × IsSame words words'
IsCopyPrompt words (SamePair m n) answer words' =
    ((same : Bool) × (answer ≡ answers.Call (Yes same))) × IsSame words words'
IsCopyPrompt words Count answer words' = ((count : ℕ) × (answer ≡ answers.Count count))
    × IsSame words words'
IsCopyPrompt words (MakeTable slots limit chunks) answer words' = IsMaking answer × IsSame words words'

-- What a call asks to be made is made or refused, its closure returns a result of the kind that its
-- task needs, and a call that has replied asks nothing more.
abbrev pub IsServed : Task → Call_ask → Call_answer → Type 0
IsServed task call_asks.ShowNone answer = IsClosureAnswer Compute answer
IsServed task (call_asks.ShowPair n) answer = IsClosureAnswer task answer
IsServed task call_asks.MakeKey answer = calls.IsMaking answer
IsServed task call_asks.MakeValue answer = calls.IsMaking answer
IsServed task call_asks.MakePair answer = calls.IsMaking answer
IsServed task (call_asks.MakePairOf n) answer = calls.IsMaking answer
IsServed task (call_asks.MakeTable slots limit chunks) answer = calls.IsMaking answer
IsServed task (call_asks.Done reply) answer = ⊥
IsServed task ask answer = Unit {0}

abbrev pub IsServedAsk : Task → Ask → Answer → Type 0
IsServedAsk task (asks.Call ask) (answers.Call told) = IsServed task ask told
IsServedAsk task ask answer = Unit {0}
