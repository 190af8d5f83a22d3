-- The asks of a copy, when they may be answered, and what each answer states.
use Rattle.std.specs.Prelude.{◌≡◌, ◌≢◌, ◌⊎◌, ℕ, ◌+◌, ◌<◌, ◌==◌, Bool, MatchBool, if◌then◌else◌, Option, None, Some, List, [], ◌∷◌, length}
use Rattle.boxcar.specs.Table.{Where}
use Rattle.logbook.specs.Pages.{Book}
use Rattle.logbook.specs.declared.tokens.Pen.{Pen}
use Rattle.papaya_words.specs.declared.refused.Refused.{Refused}
use Rattle.papaya_words.specs.declared.refused.Refused.TheVariants.{Capacity, Memory}
use Rattle.papaya_call.specs.Search.{IsSize}
use Rattle.papaya_call.specs.declared.ask.At.{At}
use Rattle.papaya_call.specs.declared.ask.At.TheVariants.{Root, Next, Aborted, Done, Slot, Made as Made_word}
use Rattle.papaya_call.specs.declared.ask.Answer.TheVariants.{Exchanged, Found, Made, Ok, Refused as Was_refused, Size, Word, Yes}
use Rattle.papaya_call.specs.declared.ask.StepKind.{StepKind}
use Rattle.papaya_call.specs.declared.ask.StepKind.TheVariants as kinds
use Rattle.papaya_call.specs.declared.copy_ask.CopyAsk.{CopyAsk}
use Rattle.papaya_call.specs.declared.copy_ask.CopyAsk.TheVariants.{Count, Exchange, HashOf, Load, LoadHint, MakeTable, SamePair, SizeOf, WriteHint}
use Rattle.papaya_call.specs.declared.chain.ask.Answer.{Answer}
use Rattle.papaya_call.specs.declared.chain.ask.Answer.TheVariants as answers
use Rattle.papaya_call_law.specs.TrueAnswers.{or_last}
use Rattle.papaya_map_book.specs.declared.rule.entry.Begun.{Begun}
use Rattle.papaya_map_book.specs.declared.rule.entry.Event.{Event}
use Rattle.papaya_map_book.specs.declared.rule.entry.Named.TheVariants as names
use Rattle.papaya_map_book.specs.declared.rule.own.CapacityCause.TheVariants.{Sum}
use Rattle.papaya_map_book.specs.Calls.{HasCome, IsTable}
use Rattle.papaya_map_book.specs.Changes.{ChangesNothing}
use Rattle.papaya_map_book.specs.Hinted.{IsSlotHint}
use Rattle.papaya_map_book.specs.Limits.{IsFull}
use Rattle.papaya_map_book.specs.Logs.{Stored, pair_named, steps_of, table_in}
use Rattle.papaya_map_book.specs.Plays.{CanExchange}
use Rattle.papaya_map_book.specs.Rule.{IsLawfulLog, IsPlaced}
use Rattle.papaya_map_book.specs.Sheets.{Sheet}
use Rattle.papaya_map_change.specs.declared.copier.CopyRequest.{CopyRequest}
use Rattle.papaya_map_change.specs.declared.copier.Copier.{Copier}
use Rattle.papaya_map_change.specs.Changing.{HasChunks, IsFresh}
use Rattle.papaya_map_change.specs.Helping.{IsLoadedFor, IsTriedFor}

-- The pair loaded last after an exchange of this kind: `pair` if the exchange marked it, else
-- `last`.
abbrev pub marked_or : {P : Type 0} → Option StepKind → (pair last : Option P) → Option P
marked_or (Some kinds.Mark) pair last = pair
marked_or kind pair last = last

-- The answer to an exchange that expected the word `old` and found `found`.
abbrev pub tried_answer : (found old : ℕ) → Answer
tried_answer found old = if found == old then answers.Call Exchanged else answers.Call (Found found)

-- The place is the root's word, or its table is in the log and has the slot or the chunk's word.
abbrev pub IsReached : {K V S : Type 0} → List (Event K V S) → At → Type 0
IsReached log Root = Unit {0}
IsReached log (Next t) = HasCome log t
IsReached log (Aborted t) = HasCome log t
IsReached log (Done t chunk) = (w : Where Sheet) × (table_in (steps_of log) t ≡ Some w)
    × (chunk < length w.value.done)
IsReached log (Slot t x) = (w : Where Sheet) × (table_in (steps_of log) t ≡ Some w)
    × (x < length w.value.slots)
IsReached log Made_word = ⊥

-- A pair is held, and is stored in the arena.
pub record IsHeld {K V S : Type 0} (b : Begun K V S) (name : Book) (held : Option (Stored K V))
    : Type 0 where
  pub some : (p : Stored K V) × (held ≡ Some p)
  pub placed : IsPlaced b (Some name) (pair_named held)

-- Only an exchange that links a table may change which table is held.
abbrev pub IsHandLeft : {A : Type 0} → At → (fresh fresh' : Option A) → Type 0
IsHandLeft (Next t) fresh fresh' = Unit {0}
IsHandLeft at fresh fresh' = fresh' ≡ fresh

module _ {K V S : Type 0} (eq : K → K → Bool) (hash : S → K → ℕ) (b : Begun K V S)
    (name : Book) where
  -- This exchange may be tried with the pair that the copier carries, and with no table. It does
  -- not change the map.
  abbrev pub CanTryFor : At → Option StepKind → (words : ℕ × ℕ) → (kept : Option (Stored K V))
      → List (Event K V S) → Type 0
  CanTryFor at kind words kept log = CanExchange eq hash b at kind words.0 words.1 kept names.Nothing
      log × ChangesNothing at kind

  -- An exchange was tried, and found the word `found`.
  pub record HasTried (at : At) (kind : Option StepKind) (words : ℕ × ℕ)
      (kept : Option (Stored K V)) (fresh : Option (Where Sheet × Pen))
      (seen : List (Event K V S)) (last : Option (Stored K V)) (found : ℕ)
      (log : List (Event K V S)) (last' : Option (Stored K V)) : Type 0 where
    pub pair : Option (Stored K V)
    pub tried : IsTriedFor eq hash b name at kind words.0 words.1 kept fresh seen found log pair
    pub last_is : MatchBool (found == words.0) (last' ≡ marked_or kind pair last)
        (last' ≡ or_last pair last)

  -- `size` has the number of slots and the probe limit of the table `t`.
  pub record IsSizeOf (t : ℕ) (log : List (Event K V S)) (size : ℕ × ℕ) : Type 0 where
    pub lawful : IsLawfulLog eq hash b log
    pub sheet : Sheet
    pub table : IsTable log t sheet
    pub len : size.0 ≡ length sheet.slots
    pub limit : size.1 ≡ sheet.limit

module _ {K V S H : Type 0} (eq : K → K → Bool) (hash : S → K → ℕ) (b : Begun K V S)
    (name : Book) where
  -- The copier holds the table `new`, which may be linked as the next table of `t`.
  pub record CanJoin (t new : ℕ) (log : List (Event K V S)) (h : Copier K V S H) : Type 0 where
    pub come : HasCome log t
    pub fresh : IsFresh b name log new h.fresh
    pub can : (w : Where Sheet) (seal : Pen) → h.fresh ≡ Some (w, seal) → CanExchange eq hash b
        (Next t) (Some kinds.Link) 0 (w.index + 1) None (names.Table w) log

  -- The copier holds the table `number`, which was made with a greater number than `follows`, and
  -- with `chunks` words for chunks.
  pub record HasMade (number follows chunks : ℕ) (log : List (Event K V S)) (h : Copier K V S H)
      : Type 0 where
    pub past : follows < number
    pub fresh : IsFresh b name log number h.fresh
    pub words : HasChunks h.fresh chunks

  -- The copier carries the pair that it loaded last, and `word` is the hash of that pair's key.
  pub record Carries (h h' : Copier K V S H) (word : ℕ) : Type 0 where
    pub kept : h'.kept ≡ h.last
    pub hash_is : (p : Stored K V) → h.last ≡ Some p → word ≡ hash b.hasher p.value.key.value

  -- This exchange may be tried.
  abbrev pub CanExchangeFor : At → Option StepKind → (old new : ℕ) → List (Event K V S)
      → Copier K V S H → Type 0
  CanExchangeFor (Next t) kind old new log h = CanJoin t new log h × (kind ≡ Some kinds.Link)
      × (old ≡ 0)
  CanExchangeFor at kind old new log h = IsReached log at
      × CanTryFor eq hash b name at kind (old, new) h.kept log

  -- This ask may be answered.
  abbrev pub CanAnswerTo : CopyAsk → Option StepKind → (follows : ℕ) → List (Event K V S)
      → Copier K V S H → Type 0
  CanAnswerTo (Load at) kind follows log h = IsReached log at
  CanAnswerTo (Exchange at old new) kind follows log h = CanExchangeFor at kind old new log h
  CanAnswerTo (LoadHint t x) kind follows log h = IsReached log (Slot t x)
  CanAnswerTo (WriteHint t x hint) kind follows log h = IsReached log (Slot t x)
      × IsSlotHint eq hash b t x hint log
  CanAnswerTo (SizeOf t) kind follows log h = HasCome log t
  CanAnswerTo (HashOf n) kind follows log h = IsHeld b name h.last
  CanAnswerTo (SamePair m n) kind follows log h = IsHeld b name h.kept × IsHeld b name h.last
  CanAnswerTo Count kind follows log h = Unit {0}
  CanAnswerTo (MakeTable slots limit chunks) kind follows log h = (follows ≢ 0 → HasCome log follows)
      × IsSize slots limit

  abbrev pub CanAnswer : CopyRequest → List (Event K V S) → Copier K V S H → Type 0
  CanAnswer asked log h = CanAnswerTo asked.ask asked.kind asked.follows log h

  -- The answer is the word that was loaded from a place.
  pub record AnswersLoad (at : At) (log : List (Event K V S)) (h : Copier K V S H)
      (log' : List (Event K V S)) (h' : Copier K V S H) (answer : Answer) : Type 0 where
    pub word : ℕ
    pub is : answer ≡ answers.Call (Word word)
    pub as_loaded : IsLoadedFor eq hash b name at word log' h.last h'.last
    pub rest : h' ≡ record h { last = h'.last }

  -- The answer is the result of an exchange.
  pub record AnswersExchange (at : At) (kind : Option StepKind) (old new : ℕ)
      (log : List (Event K V S)) (h : Copier K V S H) (log' : List (Event K V S))
      (h' : Copier K V S H) (answer : Answer) : Type 0 where
    pub found : ℕ
    pub is : answer ≡ tried_answer found old
    pub tried : HasTried eq hash b name at kind (old, new) h.kept h.fresh log h.last found log'
        h'.last
    pub hand : IsHandLeft at h.fresh h'.fresh
    pub rest : h' ≡ record h { last = h'.last; fresh = h'.fresh }

  -- The answer is the hint of a slot.
  pub record AnswersHint (t x : ℕ) (h : Copier K V S H) (log' : List (Event K V S))
      (h' : Copier K V S H) (answer : Answer) : Type 0 where
    pub hint : ℕ
    pub is : answer ≡ answers.Call (Word hint)
    pub hinted : IsSlotHint eq hash b t x hint log'
    pub rest : h' ≡ h

  -- The answer is that a hint was written.
  pub record AnswersNote (h : Copier K V S H) (log' : List (Event K V S)) (h' : Copier K V S H)
      (answer : Answer) : Type 0 where
    pub is : answer ≡ answers.Call Ok
    pub lawful : IsLawfulLog eq hash b log'
    pub rest : h' ≡ h

  -- The answer is the size of a table.
  pub record AnswersSize (t : ℕ) (h : Copier K V S H) (log' : List (Event K V S))
      (h' : Copier K V S H) (answer : Answer) : Type 0 where
    pub size : ℕ × ℕ
    pub is : answer ≡ answers.Call (Size size.0 size.1)
    pub size_of : IsSizeOf eq hash b name t log' size
    pub rest : h' ≡ h

  -- The answer is the hash of the key of the pair that the copier now carries.
  pub record AnswersHash (log : List (Event K V S)) (h : Copier K V S H)
      (log' : List (Event K V S)) (h' : Copier K V S H) (answer : Answer) : Type 0 where
    pub word : ℕ
    pub is : answer ≡ answers.Hash word
    pub carries : Carries h h' word
    pub still : log' ≡ log
    pub rest : h' ≡ record h { kept = h'.kept }

  -- The answer is whether two pairs have equal keys.
  pub record AnswersSame (log : List (Event K V S)) (h : Copier K V S H)
      (log' : List (Event K V S)) (h' : Copier K V S H) (answer : Answer) : Type 0 where
    pub same : Bool
    pub is : answer ≡ answers.Call (Yes same)
    pub same_is : (p q : Stored K V) → h.kept ≡ Some p → h.last ≡ Some q
        → same ≡ eq p.value.key.value q.value.key.value
    pub still : log' ≡ log
    pub rest : h' ≡ h

  -- The answer is the sum of the count.
  pub record AnswersCount (log : List (Event K V S)) (h : Copier K V S H)
      (log' : List (Event K V S)) (h' : Copier K V S H) (answer : Answer) : Type 0 where
    pub sum : ℕ
    pub is : answer ≡ answers.Count sum
    pub given_is : h'.given.done ≡ Sum sum ∷ []
    pub still : log' ≡ log
    pub rest : h' ≡ record h { given = h'.given }

  -- The answer is the number of a table that was made, or the refusal of one.
  abbrev pub MakesTable : (follows chunks : ℕ) → (h : Copier K V S H) → (log' : List (Event K V S))
      → (h' : Copier K V S H) → Answer → Type 0
  MakesTable follows chunks h log' h' answer = ((number : ℕ)
      × (answer ≡ answers.Call (Made number)) × HasMade number follows chunks log' h')
      ⊎ ((refused : Refused) × (answer ≡ answers.Call (Was_refused refused))
      × ((refused ≡ Memory) ⊎ ((refused ≡ Capacity) × IsFull h'.given.done))
      × (h'.fresh ≡ h.fresh))

  pub record AnswersTable (follows chunks : ℕ) (h : Copier K V S H) (log' : List (Event K V S))
      (h' : Copier K V S H) (answer : Answer) : Type 0 where
    pub lawful : IsLawfulLog eq hash b log'
    pub makes : MakesTable follows chunks h log' h' answer
    pub rest : h' ≡ record h { fresh = h'.fresh; given = h'.given }

  -- The answer is one to this ask, as the definitions above state for each kind of ask.
  abbrev pub AnswersTo : CopyAsk → Option StepKind → (follows : ℕ) → List (Event K V S)
      → Copier K V S H → List (Event K V S) → Copier K V S H → Answer → Type 0
  AnswersTo (Load at) kind follows log h log' h' answer = AnswersLoad at log h log' h' answer
  AnswersTo (Exchange at old new) kind follows log h log' h' answer =
      AnswersExchange at kind old new log h log' h' answer
  AnswersTo (LoadHint t x) kind follows log h log' h' answer = AnswersHint t x h log' h' answer
  AnswersTo (WriteHint t x hint) kind follows log h log' h' answer = AnswersNote h log' h' answer
  AnswersTo (SizeOf t) kind follows log h log' h' answer = AnswersSize t h log' h' answer
  AnswersTo (HashOf n) kind follows log h log' h' answer = AnswersHash log h log' h' answer
  AnswersTo (SamePair m n) kind follows log h log' h' answer = AnswersSame log h log' h' answer
  AnswersTo Count kind follows log h log' h' answer = AnswersCount log h log' h' answer
  AnswersTo (MakeTable slots limit chunks) kind follows log h log' h' answer =
      AnswersTable follows chunks h log' h' answer

  abbrev pub Answers : CopyRequest → List (Event K V S) → Copier K V S H → List (Event K V S)
      → Copier K V S H → Answer → Type 0
  Answers asked log h log' h' answer = AnswersTo asked.ask asked.kind asked.follows log h log' h'
      answer
