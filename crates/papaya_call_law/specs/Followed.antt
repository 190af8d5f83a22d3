-- What a backend may rely on that keeps only what a machine has learned last.
use Rattle.std.specs.Prelude.{◌≡◌, ◌⊎◌, ℕ, ◌+◌, ◌==◌, if◌then◌else◌, Option, None, Some}
use Rattle.papaya_call.specs.declared.ask.At.TheVariants.{Root, Next, Aborted, Done as Done_word, Slot, Made as Made_word}
use Rattle.papaya_call.specs.declared.ask.Ask.{Ask}
use Rattle.papaya_call.specs.declared.ask.Ask.TheVariants.{Load, Exchange, LoadHint, WriteHint}
use Rattle.papaya_call.specs.declared.ask.Ask.TheVariants.{SameKey, ShowNone, ShowPair, SizeOf}
use Rattle.papaya_call.specs.declared.ask.Ask.TheVariants.{MakeKey, MakeValue, MakePair, MakePairOf}
use Rattle.papaya_call.specs.declared.ask.Ask.TheVariants.{MakeTable, AddToShard, Done}
use Rattle.papaya_call.specs.declared.ask.Answer.{Answer}
use Rattle.papaya_call.specs.declared.ask.Answer.TheVariants.{Word as Word_read, Exchanged, Found as Found_instead}
use Rattle.papaya_call.specs.declared.ask.StepKind.{StepKind}
use Rattle.papaya_call.specs.declared.ask.StepKind.TheVariants as kinds
use Rattle.papaya_call.specs.declared.call.Task.{Task}
use Rattle.papaya_call.specs.declared.compute.Gap.{Gap}
use Rattle.papaya_call.specs.declared.compute.Gap.TheVariants.{NoRoot, At, After}
use Rattle.papaya_call.specs.declared.compute.Purpose.{Purpose}
use Rattle.papaya_call.specs.declared.compute.Purpose.TheVariants.{Fill, Replace, Again}
use Rattle.papaya_call.specs.declared.search.Search.{Search}
use Rattle.papaya_call.specs.declared.search.Search.TheVariants.{Sizing, Looking, Reading, Comparing}
use Rattle.papaya_call.specs.declared.machine.State.{State}
use Rattle.papaya_call.specs.declared.machine.State.TheVariants.{Searching, Writing, Offering}
use Rattle.papaya_call.specs.declared.machine.State.TheVariants.{Showing, Pairing, Putting}
use Rattle.papaya_call.specs.declared.machine.State.TheVariants.{Burying, Counting, Noting}
use Rattle.papaya_call.specs.declared.machine.State.TheVariants.{Leaving, Growing}
use Rattle.papaya_call.specs.Machine.{HasClosure, IsChanger, IsComputer, MayInsert, needed}

-- the table that a search is in
abbrev pub table_of : Search → ℕ
table_of (Sizing t) = t
table_of (Looking at) = at.table
table_of (Reading at) = at.table
table_of (Comparing at word) = at.table

-- a gap is in table n; `IsPurposeAt` is the same for what a pair is made for
abbrev pub IsGapAt : ℕ → Gap → Type 0
IsGapAt n NoRoot = Unit {0}
IsGapAt n (At place) = place.table ≡ n
IsGapAt n (After t) = t ≡ n

abbrev pub IsPurposeAt : ℕ → Purpose → Type 0
IsPurposeAt n (Fill gap) = IsGapAt n gap
IsPurposeAt n (Replace write) = write.place.table ≡ n
IsPurposeAt n (Again write) = write.place.table ≡ n

-- a machine in this state names no table but n
abbrev pub IsAtTable : ℕ → State → Type 0
IsAtTable n (Searching search) = table_of search ≡ n
IsAtTable n (Writing write) = write.place.table ≡ n
IsAtTable n (Offering gap) = IsGapAt n gap
IsAtTable n (Showing removal) = removal.place.table ≡ n
IsAtTable n (Pairing purpose) = IsPurposeAt n purpose
IsAtTable n (Putting put) = put.write.place.table ≡ n
IsAtTable n (Burying removal) = removal.place.table ≡ n
IsAtTable n (Counting claimed) = claimed.place.table ≡ n
IsAtTable n (Noting claimed) = claimed.place.table ≡ n
IsAtTable n (Leaving t) = t ≡ n
IsAtTable n (Growing need) = needed need ≡ n
IsAtTable n _ = Unit {0}

-- the number of the table that was loaded, or n if there is none
abbrev pub loaded_or : Answer → ℕ → ℕ
loaded_or (Word_read word) n = if word == 0 then n else word
loaded_or _ n = n

-- the number of the first root after a machine tried to open `table`, or n if the answer does not
-- say
abbrev pub opened_or : Answer → (table n : ℕ) → ℕ
opened_or Exchanged table n = table
opened_or (Found_instead word) table n = word
opened_or _ table n = n

-- the number of the table that a machine has learned of last, if that was n before this ask and its
-- answer
abbrev pub told_table : Ask → Answer → ℕ → ℕ
told_table (Load Root) answer n = loaded_or answer n
told_table (Load (Next t)) answer n = loaded_or answer n
told_table (Exchange Root old new) answer n = opened_or answer new n
told_table _ answer n = n

-- the table that an ask names
abbrev pub table_asked : Ask → Option ℕ
table_asked (SizeOf t) = Some t
table_asked (Load (Next t)) = Some t
table_asked (Load (Slot t x)) = Some t
table_asked (Exchange (Slot t x) old new) = Some t
table_asked (LoadHint t x) = Some t
table_asked (WriteHint t x hint) = Some t
table_asked _ = None

-- What the machine of a task may ask. It loads the root, numbers of next tables, hints, slots and
-- the count of taken numbers. It exchanges the root once it has made a table, the count of numbers
-- before it makes a pair, and otherwise slots.
abbrev pub MayAsk : Task → Option StepKind → Ask → Type 0
MayAsk task kind (Load Root) = Unit {0}
MayAsk task kind (Load (Next t)) = Unit {0}
MayAsk task kind (Load (Slot t x)) = Unit {0}
MayAsk task kind (Load (Aborted t)) = ⊥
MayAsk task kind (Load (Done_word t chunk)) = ⊥
MayAsk task kind (Load Made_word) = MayInsert task
MayAsk task kind (Exchange Root old new) = MayInsert task × (kind ≡ Some kinds.Open) × (old ≡ 0)
MayAsk task kind (Exchange (Slot t x) old new) =
    (MayInsert task × ((kind ≡ Some kinds.Claim) ⊎ (kind ≡ Some kinds.Replace)))
    ⊎ (HasClosure task × (kind ≡ Some kinds.Bury))
MayAsk task kind (Exchange (Next t) old new) = ⊥
MayAsk task kind (Exchange (Aborted t) old new) = ⊥
MayAsk task kind (Exchange (Done_word t chunk) old new) = ⊥
MayAsk task kind (Exchange Made_word old new) = MayInsert task × (kind ≡ Some kinds.Take)
    × (new ≡ old + 1)
MayAsk task kind (LoadHint t x) = Unit {0}
MayAsk task kind (WriteHint t x hint) = MayInsert task
MayAsk task kind (SameKey n) = Unit {0}
MayAsk task kind ShowNone = IsComputer task
MayAsk task kind (ShowPair n) = HasClosure task
MayAsk task kind (SizeOf t) = Unit {0}
MayAsk task kind MakeKey = MayInsert task
MayAsk task kind MakeValue = MayInsert task
MayAsk task kind MakePair = MayInsert task
MayAsk task kind (MakePairOf n) = MayInsert task
MayAsk task kind (MakeTable slots limit chunks) = MayInsert task
MayAsk task kind (AddToShard by) = IsChanger task
MayAsk task kind (Done reply) = Unit {0}

-- nothing is left to do but to count, and to write a hint
abbrev pub IsCounting : Ask → Type 0
IsCounting (AddToShard by) = Unit {0}
IsCounting (WriteHint t x hint) = Unit {0}
IsCounting (Done reply) = Unit {0}
IsCounting _ = ⊥
