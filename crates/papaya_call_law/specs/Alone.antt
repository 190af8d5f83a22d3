-- One caller alone: nobody else changes the words, so the words that a machine has read are
-- unchanged, and its call comes to an end.
use Rattle.std.specs.Prelude.{◌≡◌, ◌⊎◌, ℕ, ◌+◌, ◌*◌, ◌-◌, ◌^◌, ◌==◌, Bool, true, false, MatchBool, if◌then◌else◌, Option, None, Some}
use Rattle.papaya_words.specs.Word.{kind_of}
use Rattle.papaya_words.specs.declared.refused.Refused.{Refused}
use Rattle.papaya_words.specs.declared.word.Kind.TheVariants.{Empty as Is_empty}
use Rattle.papaya_call.specs.declared.ask.At.{At}
use Rattle.papaya_call.specs.declared.ask.At.TheVariants.{Root, Slot, Made as Made_word}
use Rattle.papaya_call.specs.declared.ask.Ask.{Ask}
use Rattle.papaya_call.specs.declared.ask.Ask.TheVariants.{Load, Exchange, LoadHint, WriteHint}
use Rattle.papaya_call.specs.declared.ask.Ask.TheVariants.{SameKey, ShowNone, ShowPair, SizeOf}
use Rattle.papaya_call.specs.declared.ask.Ask.TheVariants.{MakeKey, MakeValue, MakePair, MakePairOf}
use Rattle.papaya_call.specs.declared.ask.Ask.TheVariants.{MakeTable, AddToShard, Done}
use Rattle.papaya_call.specs.declared.ask.Answer.{Answer}
use Rattle.papaya_call.specs.declared.ask.Answer.TheVariants.{Word as Word_read, Exchanged}
use Rattle.papaya_call.specs.declared.ask.Answer.TheVariants.{Found as Found_instead, Yes, Op, Size}
use Rattle.papaya_call.specs.declared.ask.Answer.TheVariants.{Made as Made_number, Ok as Ok_done}
use Rattle.papaya_call.specs.declared.ask.Answer.TheVariants.{Refused as Was_refused}
use Rattle.papaya_call.specs.declared.ask.OpKind.{OpKind}
use Rattle.papaya_call.specs.declared.call.Reply.TheVariants.{Absent}
use Rattle.papaya_call.specs.declared.call.Task.{Task}
use Rattle.papaya_call.specs.declared.call.Task.TheVariants.{Get, Insert, RemoveIf, Compute}
use Rattle.papaya_call.specs.declared.compute.Gap.{Gap}
use Rattle.papaya_call.specs.declared.compute.Gap.TheVariants.{NoRoot, At as At_place, After}
use Rattle.papaya_call.specs.declared.compute.Purpose.{Purpose}
use Rattle.papaya_call.specs.declared.compute.Purpose.TheVariants.{Fill, Replace, Again}
use Rattle.papaya_call.specs.declared.machine.Machine.{Machine}
use Rattle.papaya_call.specs.declared.machine.State.{State}
use Rattle.papaya_call.specs.declared.machine.State.TheVariants.{AtRoot, Making, Opening, Searching}
use Rattle.papaya_call.specs.declared.machine.State.TheVariants.{Writing, Offering, Showing}
use Rattle.papaya_call.specs.declared.machine.State.TheVariants.{Pairing, Putting, Burying}
use Rattle.papaya_call.specs.declared.machine.State.TheVariants.{Counting, Leaving, Ended}
use Rattle.papaya_call.specs.declared.search.Place.{Place}
use Rattle.papaya_call.specs.declared.search.Search.{Search}
use Rattle.papaya_call.specs.declared.search.Search.TheVariants.{Sizing, Looking, Reading, Comparing}
use Rattle.papaya_call.specs.declared.made.Made.{Made}
use Rattle.papaya_call.specs.declared.made.Number.{Number}
use Rattle.papaya_call.specs.declared.made.Number.TheVariants.{Wanted, Free, Taken}
use Rattle.papaya_call.specs.declared.write.Write.{Write}
use Rattle.papaya_call.specs.Compute.{in_place_of}
use Rattle.papaya_call.specs.Write.{serves}
use Rattle.papaya_call.specs.Search.{IsSize}

-- the words are the same
abbrev pub IsSame : (At → ℕ) → (At → ℕ) → Type 0
IsSame words words' = (at : At) → words' at ≡ words at

-- the word at `at` becomes `new`, and all other words stay the same
pub record IsPut (words : At → ℕ) (at : At) (new : ℕ) (words' : At → ℕ) : Type 0 where
  pub here : words' at ≡ new
  pub others : (other : At) → (other ≡ at → ⊥) → words' other ≡ words other

-- what was to be made was made, or refused
abbrev pub IsMaking : Answer → Type 0
IsMaking answer = ((n : ℕ) × (answer ≡ Made_number n))
    ⊎ ((refused : Refused) × (answer ≡ Was_refused refused))

-- the closure of a removal returns whether the pair is to be removed, and that of a compute an
-- operation
abbrev pub IsClosureAnswer : Task → Answer → Type 0
IsClosureAnswer Get answer = ⊥
IsClosureAnswer (Insert replace) answer = ⊥
IsClosureAnswer RemoveIf answer = (agrees : Bool) × (answer ≡ Yes agrees)
IsClosureAnswer Compute answer = (kind : OpKind) × (answer ≡ Op kind)

-- An ask of such a task is answered by the words, and only its own exchange changes them.
abbrev pub IsPrompt : Task → (At → ℕ) → Ask → Answer → (At → ℕ) → Type 0
IsPrompt task words (Load at) answer words' = (answer ≡ Word_read (words at)) × IsSame words words'
IsPrompt task words (Exchange at old new) answer words' =
    MatchBool (words at == old) ((answer ≡ Exchanged) × IsPut words at new words')
    ((answer ≡ Found_instead (words at)) × IsSame words words')
IsPrompt task words (LoadHint t x) answer words' = ((hint : ℕ) × (answer ≡ Word_read hint))
    × IsSame words words'
IsPrompt task words (WriteHint t x hint) answer words' = (answer ≡ Ok_done) × IsSame words words'
IsPrompt task words (SameKey n) answer words' = ((same : Bool) × (answer ≡ Yes same))
    × IsSame words words'
IsPrompt task words ShowNone answer words' = IsClosureAnswer Compute answer × IsSame words words'
IsPrompt task words (ShowPair n) answer words' = IsClosureAnswer task answer × IsSame words words'
IsPrompt task words (SizeOf t) answer words' =
    ((slots : ℕ) × (limit : ℕ) × IsSize slots limit × (answer ≡ Size slots limit))
    × IsSame words words'
IsPrompt task words MakeKey answer words' = IsMaking answer × IsSame words words'
IsPrompt task words MakeValue answer words' = IsMaking answer × IsSame words words'
IsPrompt task words MakePair answer words' = IsMaking answer × IsSame words words'
IsPrompt task words (MakePairOf n) answer words' = IsMaking answer × IsSame words words'
IsPrompt task words (MakeTable slots limit chunks) answer words' = IsMaking answer
    × IsSame words words'
IsPrompt task words (AddToShard by) answer words' = (answer ≡ Ok_done) × IsSame words words'
IsPrompt task words (Done reply) answer words' = ⊥

-- the word at a place of a table
abbrev pub word_of_place : (At → ℕ) → Place → ℕ
word_of_place words at = words (Slot at.table at.probe.i)

-- the words that a search has read are unchanged
abbrev pub IsSearchRead : (At → ℕ) → Search → Type 0
IsSearchRead words (Sizing t) = Unit {0}
IsSearchRead words (Looking at) = Unit {0}
IsSearchRead words (Reading at) = Unit {0}
IsSearchRead words (Comparing at word) = word_of_place words at ≡ word

-- the words that were read where a key is absent are unchanged
abbrev pub IsGapRead : (At → ℕ) → Gap → Type 0
IsGapRead words NoRoot = words Root ≡ 0
IsGapRead words (At_place at) = word_of_place words at ≡ 0
IsGapRead words (After t) = Unit {0}

abbrev pub IsPurposeRead : (At → ℕ) → Purpose → Type 0
IsPurposeRead words (Fill gap) = IsGapRead words gap
IsPurposeRead words (Replace write) = word_of_place words write.place ≡ write.old
IsPurposeRead words (Again write) = word_of_place words write.place ≡ write.old

-- the words that a machine has read are unchanged
abbrev pub IsRead : (At → ℕ) → State → Type 0
IsRead words Making = words Root ≡ 0
IsRead words (Opening t) = words Root ≡ 0
IsRead words (Searching search) = IsSearchRead words search
IsRead words (Writing write) = word_of_place words write.place ≡ write.old
IsRead words (Offering gap) = IsGapRead words gap
IsRead words (Showing removal) = word_of_place words removal.place ≡ removal.word
IsRead words (Pairing purpose) = IsPurposeRead words purpose
IsRead words (Putting put) = word_of_place words put.write.place ≡ put.write.old
IsRead words (Burying removal) = word_of_place words removal.place ≡ removal.word
IsRead words _ = Unit {0}

-- the word of an empty slot is 0, so a write finds the word there that it expects
abbrev pub IsBare : (At → ℕ) → Type 0
IsBare words = (t i : ℕ) → kind_of (words (Slot t i)) ≡ Is_empty → words (Slot t i) ≡ 0

-- as many numbers are taken for pairs as the machine has read
abbrev pub IsNumberRead : (At → ℕ) → Number → Type 0
IsNumberRead words (Free count) = words Made_word ≡ count
IsNumberRead words _ = Unit {0}

-- the words that a machine has read are unchanged, and an empty slot's word is 0
pub record IsCurrent (words : At → ℕ) (m : Machine) : Type 0 where
  pub bare : IsBare words
  pub number : IsNumberRead words m.made.number
  pub read : IsRead words m.state

-- how many steps are left to make a pair for the place of this word: its number, the key, the
-- value, and the pair itself
abbrev pub left_to_number : Number → ℕ
left_to_number Wanted = 2
left_to_number (Free count) = 1
left_to_number Taken = 0

abbrev pub left_to_push : Bool → ℕ
left_to_push true = 0
left_to_push false = 1

abbrev pub left_to_pair : Made → (old : ℕ) → ℕ
left_to_pair made old = left_to_number made.number + left_to_push made.valued
    + (if old == 0 then left_to_push made.keyed else 0) + 1

-- how many steps are left to a write: its pair, the exchange, the count and the hint
abbrev pub left_to_serve_with : Option ℕ → Made → (old : ℕ) → ℕ
left_to_serve_with None made old = 3 + left_to_pair made old
left_to_serve_with (Some n) made old = 3

abbrev pub left_to_write : Made → Write → ℕ
left_to_write made write = left_to_serve_with (serves made write) made write.old

-- how many steps are left to a search of one table and to what follows it, at most
abbrev pub left_to_search : Search → ℕ
left_to_search (Sizing t) = 2 ^ 40
left_to_search (Looking at) = 13 + 3 * (at.limit - at.probe.len)
left_to_search (Reading at) = 12 + 3 * (at.limit - at.probe.len)
left_to_search (Comparing at word) = 11 + 3 * (at.limit - at.probe.len)

-- how many steps are left to a compute once its pair is made
abbrev pub left_to_fill : Gap → ℕ
left_to_fill NoRoot = 2 ^ 40 + 2
left_to_fill (At_place at) = 3
left_to_fill (After t) = 1

abbrev pub left_to_serve : Purpose → ℕ
left_to_serve (Fill gap) = left_to_fill gap
left_to_serve (Replace write) = 3
left_to_serve (Again write) = 3

-- How many steps are left to a call, at most, while no table has a next one.
abbrev pub left_in : Made → State → ℕ
left_in made AtRoot = 2 ^ 40 + 9
left_in made Making = 2 ^ 40 + 2
left_in made (Opening t) = 2 ^ 40 + 1
left_in made (Searching search) = left_to_search search
left_in made (Writing write) = left_to_write made write
left_in made (Offering gap) = 6 + left_to_fill gap
left_in made (Showing removal) = 10
left_in made (Pairing purpose) = left_to_pair made (in_place_of purpose) + left_to_serve purpose
left_in made (Putting put) = 3
left_in made (Burying removal) = 2
left_in made (Counting claimed) = 2
left_in made (Leaving t) = 8
left_in made (Ended reply) = 0
left_in made _ = 1

abbrev pub left : Machine → ℕ
left m = left_in m.made m.state

-- the task is a lookup or a removal
abbrev pub IsSeeker : Task → Type 0
IsSeeker Get = Unit {0}
IsSeeker (Insert replace) = ⊥
IsSeeker RemoveIf = Unit {0}
IsSeeker Compute = ⊥

-- a lookup or a removal has met no pair with its key
abbrev pub HasMetNone : State → Type 0
HasMetNone AtRoot = Unit {0}
HasMetNone (Searching search) = Unit {0}
HasMetNone (Leaving t) = Unit {0}
HasMetNone (Ended reply) = reply ≡ Absent
HasMetNone _ = ⊥

-- the answer does not say that a key matches
abbrev pub IsUnmatched : Ask → Answer → Type 0
IsUnmatched (SameKey n) answer = answer ≡ Yes false
IsUnmatched (Load at) answer = (word : ℕ) × (answer ≡ Word_read word)
IsUnmatched (LoadHint t x) answer = (hint : ℕ) × (answer ≡ Word_read hint)
IsUnmatched (SizeOf t) answer = (slots : ℕ) × (limit : ℕ) × (answer ≡ Size slots limit)
IsUnmatched _ answer = Unit {0}
