-- The answer to one ask of a caller's machine.
use Rattle.std.specs.Prelude.{◌≡◌, ℕ, ◌+◌, ◌<◌, ◌≤◌, ◌==◌, Bool, false, List, [], ◌∷◌, ◌++◌, length, Option, Some, None, slice_get, MatchBool, ◌⊎◌}
use Rattle.papaya_words.specs.Counter.{added}
use Rattle.papaya_words.specs.Table.{TableWords, new_table}
use Rattle.papaya_words.specs.declared.limits.TheConstants.{MAX_TABLES, MAX_LOG_LEN}
use Rattle.papaya_words.specs.declared.refused.Refused.TheVariants.{Memory, Capacity}
use Rattle.papaya_call.specs.declared.ask.Ask.{Ask}
use Rattle.papaya_call.specs.declared.ask.Ask.TheVariants.{Load, Exchange, LoadHint, WriteHint}
use Rattle.papaya_call.specs.declared.ask.Ask.TheVariants.{SameKey, ShowNone, ShowPair, SizeOf}
use Rattle.papaya_call.specs.declared.ask.Ask.TheVariants.{MakeKey, MakeValue, MakePair, MakePairOf}
use Rattle.papaya_call.specs.declared.ask.Ask.TheVariants.{MakeTable, AddToShard, Done as Ask_done}
use Rattle.papaya_call.specs.declared.ask.Answer.{Answer}
use Rattle.papaya_call.specs.declared.ask.Answer.TheVariants.{Word as Word_read, Exchanged}
use Rattle.papaya_call.specs.declared.ask.Answer.TheVariants.{Found as Found_instead, Yes, Op, Size}
use Rattle.papaya_call.specs.declared.ask.Answer.TheVariants.{Made as Made_number, Ok as Ok_done}
use Rattle.papaya_call.specs.declared.ask.Answer.TheVariants.{Refused as Was_refused}
use Rattle.papaya_call.specs.Answers.{Says, op_kind}
use Rattle.papaya_call.specs.declared.answers.Operation.{Operation}
use Rattle.papaya_call.specs.declared.answers.Operation.TheVariants as ops
use Rattle.papaya_call.specs.declared.call.Task.{Task}
use Rattle.papaya_call.specs.declared.call.Task.TheVariants as tasks
use Rattle.papaya_core_store.specs.declared.pairs.Part.{Part}
use Rattle.papaya_core_store.specs.declared.pairs.Part.TheVariants.{Own, Logged}
use Rattle.papaya_core_store.specs.declared.pairs.Running.{Running}
use Rattle.papaya_core_store.specs.Pairs.{brought_by, key_from, key_in, pair_with, value_at}
use Rattle.papaya_core_store.specs.Tables.{Tables, hint_at, note, table_of, word_at, put}
use Rattle.papaya_core_store.specs.Store.{StoreState, Stored, pair_of}

-- the key of a call under way; `own_value` is its value, if it has one
abbrev pub own_key : {K V S A : Type 0} → StoreState K V S → Running K V A → Option K
own_key s r = key_in s.pairs r.key

abbrev pub own_value : {K V S A : Type 0} → StoreState K V S → Running K V A → Option V
own_value s r = value_at s.pairs r.value

-- whether there is a pair whose key compares as equal to the call's; `same` is the same for a key
-- that may be missing
abbrev pub same_stored : {K V : Type 0} → (K → K → Bool) → K → Option (Stored K V) → Bool
same_stored eq k None = false
same_stored eq k (Some p) = eq k p.key

abbrev pub same : {K V : Type 0} → (K → K → Bool) → Option K → Option (Stored K V) → Bool
same eq None found = false
same eq (Some k) found = same_stored eq k found

-- the answer with the size of a table; it says nothing if there is no table
abbrev pub size_of : Option TableWords → Answer
size_of None = Ok_done
size_of (Some t) = Size (length t.slots) t.limit

-- making something fails with `Memory`, or with `Capacity` if there are as many as there may be
abbrev pub Refuses : (most count : ℕ) → Answer → Type 0
Refuses most count answer = (answer ≡ Was_refused Memory)
    ⊎ ((answer ≡ Was_refused Capacity) × (most ≤ count))

-- nothing is made, as the call has no value, or, for `HasNoPairOf`, there is no pair n whose key is
-- wanted; no machine asks for a pair then
abbrev pub HasNoPair : {K V A : Type 0} → Answer → Running K V A → Type 0
HasNoPair answer r = (answer ≡ Ok_done) × (r.value ≡ None)

abbrev pub HasNoPairOf : {K V S A : Type 0} → ℕ → Answer → StoreState K V S → Running K V A
    → Type 0
HasNoPairOf n answer s r = (answer ≡ Ok_done)
    × ((r.value ≡ None) ⊎ (slice_get s.pairs n ≡ None))

module _ {K V S : Type 0} where
  -- an exchange writes the new word if the old one is there, and otherwise changes nothing
  abbrev pub Exchanges : (found old : ℕ) → Tables → Answer → StoreState K V S → StoreState K V S
      → Type 0
  Exchanges found old after answer s s' =
      MatchBool (found == old)
      ((answer ≡ Exchanged) × (s' ≡ record s { words = after }))
      ((answer ≡ Found_instead found) × (s' ≡ s))

  -- a pair with this key and this value was added to the end of the arena, and n is its number
  abbrev pub IsPushed : ℕ → Part K → Part V → StoreState K V S → StoreState K V S → Type 0
  IsPushed n key value s s' = (n ≡ length s.pairs) × (length s.pairs < MAX_LOG_LEN)
      × (s' ≡ record s { pairs = s.pairs ++ pair_with key value ∷ [] })

  -- a table of this size is added to the end of the tables, and the answer is its number
  abbrev pub MakesTable : Answer → (slots limit chunks : ℕ) → StoreState K V S → StoreState K V S
      → Type 0
  MakesTable answer slots limit chunks s s' =
      let n = length s.words.tables + 1 in
      (answer ≡ Made_number n) × (length s.words.tables < MAX_TABLES)
      × (s' ≡ record s {
        words = record s.words
            { tables = s.words.tables ++ new_table n slots limit chunks ∷ [] };
      })

-- the value of a call after its closure returned an operation: that of an insertion, or the one
-- from before
abbrev pub value_answered : {V : Type 0} → Operation V ℕ → Option (Part V) → Option (Part V)
value_answered (ops.Insert v) before = Some (Own v)
value_answered ops.Remove before = before
value_answered (ops.Abort t) before = before

module _ {K V S A : Type 0} where
  -- nothing changes but the machine's state
  abbrev pub Stays : StoreState K V S → Running K V A → StoreState K V S → Running K V A → Type 0
  Stays s r s' r' = (s' ≡ s) × (r' ≡ r)

  -- Nothing is made for a key or a value by itself. It goes into the arena with the first pair that
  -- has it, and has no number before that.
  abbrev pub IsPutOff : Answer → StoreState K V S → Running K V A → StoreState K V S → Running K V A
      → Type 0
  IsPutOff answer s r s' r' = (answer ≡ Made_number 0) × Stays s r s' r'

  -- a pair with this key and the call's value is added to the end of the arena; after that the call
  -- names both by the numbers of the pairs that own them
  abbrev pub PushesPair : (key later : Part K) → Answer → StoreState K V S → Running K V A
      → StoreState K V S → Running K V A → Type 0
  PushesPair key later answer s r s' r' =
      (value : Part V) × (r.value ≡ Some value)
      × (answer ≡ Made_number (length s.pairs)) × (length s.pairs < MAX_LOG_LEN)
      × (s' ≡ record s { pairs = s.pairs ++ pair_with key value ∷ [] })
      × (r' ≡ record r {
        key = later;
        value = Some (Logged (brought_by (length s.pairs) value));
      })

  -- the same with the call's own key
  abbrev pub PushesOwn : Answer → StoreState K V S → Running K V A → StoreState K V S → Running K V A
      → Type 0
  PushesOwn answer s r s' r' =
      PushesPair r.key (Logged (brought_by (length s.pairs) r.key)) answer s r s' r'

  -- the same with the key of pair n, by the number of the pair that owns it
  abbrev pub PushesOf : ℕ → Answer → StoreState K V S → Running K V A → StoreState K V S
      → Running K V A → Type 0
  PushesOf n answer s r s' r' = (first : ℕ) × (key_from n (slice_get s.pairs n) ≡ Some first)
      × PushesPair (Logged first) r.key answer s r s' r'

  -- the answer says nothing, as there is no closure or no such pair; no machine asks then
  abbrev pub ShowsNothing : Answer → StoreState K V S → Running K V A → StoreState K V S
      → Running K V A → Type 0
  ShowsNothing answer s r s' r' = (answer ≡ Ok_done) × Stays s r s' r'

  -- the closure of a removal is called with pair n, and the answer is what it returned
  abbrev pub Judges : Says K V A → ℕ → StoreState K V S → Running K V A → Answer → StoreState K V S
      → Running K V A → Type 0
  Judges says n s r answer s' r' =
      (((r.answers ≡ None) ⊎ (pair_of s n ≡ None)) × ShowsNothing answer s r s' r')
      ⊎ ((a : A) × (p : Stored K V) × (agrees : Bool) × (a' : A) × (r.answers ≡ Some a)
      × (pair_of s n ≡ Some p) × says.yes a p.key p.value agrees a'
      × (answer ≡ Yes agrees) × (s' ≡ s) × (r' ≡ record r { answers = Some a' }))

  -- the closure of a compute is called with the key and the value of a pair, or with None, and the
  -- value of an insertion that it returned is kept
  abbrev pub Decides : Says K V A → Option (K × V) → StoreState K V S → Running K V A → Answer
      → StoreState K V S → Running K V A → Type 0
  Decides says shown s r answer s' r' =
      (a : A) × (op : Operation V ℕ) × (a' : A) × (r.answers ≡ Some a) × says.op a shown op a'
      × (answer ≡ Op (op_kind op)) × (s' ≡ s)
      × (r' ≡ record r { value = value_answered op r.value; answers = Some a' })

  abbrev pub DecidesNone : Says K V A → StoreState K V S → Running K V A → Answer → StoreState K V S
      → Running K V A → Type 0
  DecidesNone says s r answer s' r' = ((r.answers ≡ None) × ShowsNothing answer s r s' r')
      ⊎ Decides says None s r answer s' r'

  abbrev pub DecidesPair : Says K V A → ℕ → StoreState K V S → Running K V A → Answer
      → StoreState K V S → Running K V A → Type 0
  DecidesPair says n s r answer s' r' =
      (((r.answers ≡ None) ⊎ (pair_of s n ≡ None)) × ShowsNothing answer s r s' r')
      ⊎ ((p : Stored K V) × (pair_of s n ≡ Some p)
      × Decides says (Some (p.key, p.value)) s r answer s' r')

  -- which closure is called depends on the task of the call
  abbrev pub ShowsPair : Task → Says K V A → ℕ → StoreState K V S → Running K V A → Answer
      → StoreState K V S → Running K V A → Type 0
  ShowsPair tasks.RemoveIf says n s r answer s' r' = Judges says n s r answer s' r'
  ShowsPair tasks.Compute says n s r answer s' r' = DecidesPair says n s r answer s' r'
  ShowsPair tasks.Get says n s r answer s' r' = ShowsNothing answer s r s' r'
  ShowsPair (tasks.Insert replace) says n s r answer s' r' = ShowsNothing answer s r s' r'

  -- if the schedule refuses memory to this step, nothing is made; otherwise `Makes` holds
  abbrev pub MakesOr : Bool → Answer → StoreState K V S → Running K V A → StoreState K V S
      → Running K V A → Type 0 → Type 0
  MakesOr refuse answer s r s' r' Makes = MatchBool refuse
      ((answer ≡ Was_refused Memory) × Stays s r s' r') Makes

  -- exactly one ask is answered: a load or an exchange by the word or the hint that is there, a
  -- size by the table, and a call of a closure by the closure's answers
  abbrev pub Performs : (K → K → Bool) → Says K V A → Bool → Ask → StoreState K V S → Running K V A
      → Answer → StoreState K V S → Running K V A → Type 0
  Performs eq says refuse (Load at) s r answer s' r' = (answer ≡ Word_read (word_at s.words at))
      × Stays s r s' r'
  Performs eq says refuse (Exchange at old new) s r answer s' r' =
      Exchanges (word_at s.words at) old (put s.words at new) answer s s' × (r' ≡ r)
  Performs eq says refuse (LoadHint n i) s r answer s' r' =
      (answer ≡ Word_read (hint_at s.words n i)) × Stays s r s' r'
  Performs eq says refuse (WriteHint n i hint) s r answer s' r' =
      (answer ≡ Ok_done) × (s' ≡ record s { words = note s.words n i hint }) × (r' ≡ r)
  Performs eq says refuse (SameKey n) s r answer s' r' =
      (answer ≡ Yes (same eq (own_key s r) (pair_of s n))) × Stays s r s' r'
  Performs eq says refuse ShowNone s r answer s' r' = DecidesNone says s r answer s' r'
  Performs eq says refuse (ShowPair n) s r answer s' r' =
      ShowsPair r.machine.call.task says n s r answer s' r'
  Performs eq says refuse (SizeOf n) s r answer s' r' =
      (answer ≡ size_of (table_of s.words.tables n)) × Stays s r s' r'
  Performs eq says refuse MakeKey s r answer s' r' =
      MakesOr refuse answer s r s' r' (IsPutOff answer s r s' r')
  Performs eq says refuse MakeValue s r answer s' r' =
      MakesOr refuse answer s r s' r' (IsPutOff answer s r s' r')
  Performs eq says refuse MakePair s r answer s' r' =
      MakesOr refuse answer s r s' r'
      ((Refuses MAX_LOG_LEN (length s.pairs) answer × Stays s r s' r')
      ⊎ (HasNoPair answer r × Stays s r s' r') ⊎ PushesOwn answer s r s' r')
  Performs eq says refuse (MakePairOf n) s r answer s' r' =
      MakesOr refuse answer s r s' r'
      ((Refuses MAX_LOG_LEN (length s.pairs) answer × Stays s r s' r')
      ⊎ (HasNoPairOf n answer s r × Stays s r s' r') ⊎ PushesOf n answer s r s' r')
  Performs eq says refuse (MakeTable slots limit chunks) s r answer s' r' =
      MakesOr refuse answer s r s' r'
      (((Refuses MAX_TABLES (length s.words.tables) answer × (s' ≡ s))
      ⊎ MakesTable answer slots limit chunks s s') × (r' ≡ r))
  Performs eq says refuse (AddToShard by) s r answer s' r' = (answer ≡ Ok_done)
      × ((number : ℕ) × (s' ≡ record s { count = added s.count number by })) × (r' ≡ r)
  Performs eq says refuse (Ask_done reply) s r answer s' r' = (answer ≡ Ok_done) × Stays s r s' r'

-- an ask for something to be made
abbrev pub IsMake : Ask → Type 0
IsMake MakeKey = Unit {0}
IsMake MakeValue = Unit {0}
IsMake MakePair = Unit {0}
IsMake (MakePairOf n) = Unit {0}
IsMake (MakeTable slots limit chunks) = Unit {0}
IsMake _ = ⊥
