-- The machine of a call: its asks, and the state after each answer.
use Rattle.std.specs.Prelude.{ℕ, ◌<◌, ◌^◌, ◌==◌, Bool, true, false, if◌then◌else◌, Option, Some, None}
use Rattle.std.specs.Prelude.{pos, negsuc}
use Rattle.papaya_words.specs.Word.{kind_of, pair_of}
use Rattle.papaya_words.specs.declared.limits.TheConstants.{FIRST_TABLE_LEN, FIRST_TABLE_LIMIT}
use Rattle.papaya_words.specs.declared.refused.Refused.{Refused}
use Rattle.papaya_words.specs.declared.refused.Refused.TheVariants.{Capacity, Limit}
use Rattle.papaya_words.specs.declared.resize_mode.ResizeMode.{ResizeMode}
use Rattle.papaya_words.specs.declared.resize_mode.ResizeMode.TheVariants.{Incremental, Blocking}
use Rattle.papaya_words.specs.declared.word.Kind.{Kind}
use Rattle.papaya_words.specs.declared.word.Kind.TheVariants.{Live, Buried}
use Rattle.papaya_call.specs.declared.ask.At.TheVariants.{Root, Next}
use Rattle.papaya_call.specs.declared.ask.Ask.{Ask}
use Rattle.papaya_call.specs.declared.ask.Ask.TheVariants.{Load, Exchange, LoadHint, SameKey, ShowNone, SizeOf, MakeTable, AddToShard, Done}
use Rattle.papaya_call.specs.declared.ask.Answer.{Answer}
use Rattle.papaya_call.specs.declared.ask.Answer.TheVariants.{Word as Word_read, Exchanged}
use Rattle.papaya_call.specs.declared.ask.Answer.TheVariants.{Found as Found_instead, Yes, Op, Size}
use Rattle.papaya_call.specs.declared.ask.Answer.TheVariants.{Made as Made_number, Ok as Ok_done}
use Rattle.papaya_call.specs.declared.ask.Answer.TheVariants.{Refused as Was_refused}
use Rattle.papaya_call.specs.declared.ask.OpKind.{OpKind}
use Rattle.papaya_call.specs.declared.ask.StepKind.{StepKind}
use Rattle.papaya_call.specs.declared.ask.StepKind.TheVariants.{Open, Bury}
use Rattle.papaya_call.specs.declared.call.Reply.TheVariants.{Absent, Found, Inserted, Replaced, Occupied, Removed, Kept, Refused as Reply_refused}
use Rattle.papaya_call.specs.declared.call.Task.{Task}
use Rattle.papaya_call.specs.declared.call.Task.TheVariants.{Get, Insert, RemoveIf, Compute}
use Rattle.papaya_call.specs.declared.compute.Gap.{Gap}
use Rattle.papaya_call.specs.declared.compute.Gap.TheVariants.{NoRoot, At, After}
use Rattle.papaya_call.specs.declared.compute.Purpose.{Purpose}
use Rattle.papaya_call.specs.declared.compute.Remembered.{Remembered}
use Rattle.papaya_call.specs.declared.need.Need.{Need}
use Rattle.papaya_call.specs.declared.need.Need.TheVariants.{Room, Pair as Pair_at}
use Rattle.papaya_call.specs.declared.remove.Removal.{Removal}
use Rattle.papaya_call.specs.declared.search.Place.{Place}
use Rattle.papaya_call.specs.declared.search.Search.TheVariants.{Sizing}
use Rattle.papaya_call.specs.declared.search.ProbeStep.{ProbeStep}
use Rattle.papaya_call.specs.declared.search.ProbeStep.TheVariants.{On, Empty, Here, Over}
use Rattle.papaya_call.specs.declared.made.Grown.{Grown}
use Rattle.papaya_call.specs.declared.made.Grown.TheVariants.{On as More, Pair}
use Rattle.papaya_call.specs.declared.made.Made.{Made}
use Rattle.papaya_call.specs.declared.write.Write.{Write}
use Rattle.papaya_call.specs.declared.machine.State.{State}
use Rattle.papaya_call.specs.declared.machine.State.TheVariants.{AtRoot, Making, Opening, Searching}
use Rattle.papaya_call.specs.declared.machine.State.TheVariants.{Writing, Offering, Showing}
use Rattle.papaya_call.specs.declared.machine.State.TheVariants.{Pairing, Putting, Burying}
use Rattle.papaya_call.specs.declared.machine.State.TheVariants.{Counting, Noting, Uncounting}
use Rattle.papaya_call.specs.declared.machine.State.TheVariants.{Leaving, Growing, Ended}
use Rattle.papaya_call.specs.declared.machine.Machine.{Machine}
use Rattle.papaya_call.specs.Search.{IsSize, IsWithin, IsSearching, look}
use Rattle.papaya_call.specs.Search.{ask_of as search_ask, at_size as search_sized, at_word as search_loaded, at_yes as search_compared}
use Rattle.papaya_call.specs.Compute.{IsGap, IsPurpose, IsPut, IsRemembered, chosen, in_place_of}
use Rattle.papaya_call.specs.Compute.{lacks, meets, nothing, offered, provides, with_choice}
use Rattle.papaya_call.specs.Compute.{with_pair}
use Rattle.papaya_call.specs.Remove.{removal_ask, show_ask}
use Rattle.papaya_call.specs.Made.{IsMade, answered, grown, nothing_made, number_kind, pair_ask, taken, told}
use Rattle.papaya_call.specs.Write.{claimed_by, note_ask, put_ask, serves, write_ask, write_grown, write_kind}

-- the machine of a call that begins
abbrev pub started : Task → (hash : ℕ) → ResizeMode → (initial : ℕ) → (limit : Option ℕ)
    → Machine
started task hash mode initial limit = record {
  task = task;
  hash = hash;
  mode = mode;
  initial = initial;
  made = nothing_made limit;
  remembered = nothing;
  state = AtRoot;
}

-- the table whose next one is needed
abbrev pub needed : Need → ℕ
needed (Room table) = table
needed (Pair_at table x) = table

-- the ask of a machine
abbrev pub asks : Made → ℕ → State → Ask
asks made hash AtRoot = Load Root
asks made hash Making = MakeTable FIRST_TABLE_LEN FIRST_TABLE_LIMIT 0
asks made hash (Opening table) = Exchange Root 0 table
asks made hash (Searching search) = search_ask search
asks made hash (Writing write) = write_ask write made
asks made hash (Offering gap) = ShowNone
asks made hash (Showing removal) = show_ask removal
asks made hash (Pairing purpose) = pair_ask made (in_place_of purpose)
asks made hash (Putting put) = put_ask put.write put.pair
asks made hash (Burying removal) = removal_ask removal
asks made hash (Counting claimed) = AddToShard (pos 1)
asks made hash (Noting claimed) = note_ask claimed hash
asks made hash (Uncounting pair) = AddToShard (negsuc 0)
asks made hash (Leaving table) = Load (Next table)
asks made hash (Growing need) = Load (Next (needed need))
asks made hash (Ended reply) = Done reply

abbrev pub ask_of : Machine → Ask
ask_of m = asks m.made m.hash m.state

-- the kind of the exchange that it asks for, if it asks for one
abbrev pub served_kind : Option ℕ → Made → Write → Option StepKind
served_kind None made write = number_kind made.number
served_kind (Some n) made write = Some (write_kind write)

abbrev pub kind_asked : Made → State → Option StepKind
kind_asked made (Opening table) = Some Open
kind_asked made (Writing write) = served_kind (serves made write) made write
kind_asked made (Pairing purpose) = number_kind made.number
kind_asked made (Putting put) = Some (write_kind put.write)
kind_asked made (Burying removal) = Some Bury
kind_asked made _ = None

abbrev pub kind_of_ask : Machine → Option StepKind
kind_of_ask m = kind_asked m.made m.state

-- the state if the key is absent, and a pair of it would go to `gap`
abbrev pub absent : Task → Option ℕ → Gap → State
absent Compute fill gap = lacks fill gap
absent _ fill gap = Ended Absent

-- the state after the root was loaded, which is 0 if there is none
abbrev pub at_root : Task → Option ℕ → ℕ → State
at_root Get fill word = if word == 0 then absent Get fill NoRoot else Searching (Sizing word)
at_root RemoveIf fill word = if word == 0 then absent RemoveIf fill NoRoot
    else Searching (Sizing word)
at_root Compute fill word = if word == 0 then absent Compute fill NoRoot
    else Searching (Sizing word)
at_root (Insert replace) fill word = if word == 0 then Making else Searching (Sizing word)

-- the state after the number of the next table was loaded, which is 0 if there is none
abbrev pub left : Task → Option ℕ → (table word : ℕ) → State
left task fill table word = if word == 0 then absent task fill (After table)
    else Searching (Sizing word)

-- the state if the search for the key goes past a table
abbrev pub passes : Task → ResizeMode → Option ℕ → ℕ → State
passes task (Incremental chunk) fill table = Leaving table
passes task Blocking fill table = absent task fill (After table)

-- the state at a pair with a matching key that is not Live: it can't be changed here, so it is
-- copied, and is needed in the next table
abbrev pub copied_from : Place → State
copied_from at = Growing (Pair_at at.table at.probe.i)

-- the state of a replacing insertion at a pair with a matching key: a Live word is replaced
abbrev pub replaces : Kind → Place → ℕ → State
replaces Live at word = Writing (record { place = at; old = word })
replaces _ at word = copied_from at

-- the state of an insertion that replaces nothing at such a pair: it ends there
abbrev pub occupies : Kind → Place → ℕ → State
occupies Live at word = Ended (Occupied (pair_of word))
occupies _ at word = copied_from at

-- the state of a removal at such a pair: its closure is called with it
abbrev pub removes : Kind → Place → ℕ → State
removes Live at word = Showing (record { place = at; word = word })
removes _ at word = copied_from at

-- the state of a compute at such a pair: its closure is called with it, or a remembered result is
-- used
abbrev pub computes : Kind → Remembered → Place → ℕ → State
computes Live held at word = meets held.choice at word
computes _ held at word = copied_from at

abbrev pub found : Task → Remembered → Place → ℕ → State
found Get held at word = Ended (Found (pair_of word))
found (Insert false) held at word = occupies (kind_of word) at word
found (Insert true) held at word = replaces (kind_of word) at word
found RemoveIf held at word = removes (kind_of word) at word
found Compute held at word = computes (kind_of word) held at word

-- the state after a step of the search
abbrev pub goes_as : Task → ResizeMode → Remembered → ProbeStep → State
goes_as task mode held (On search) = Searching search
goes_as task mode held (Here at word) = found task held at word
goes_as Get mode held (Empty at) = absent Get held.fill (At at)
goes_as Get mode held (Over table) = passes Get mode held.fill table
goes_as RemoveIf mode held (Empty at) = absent RemoveIf held.fill (At at)
goes_as RemoveIf mode held (Over table) = passes RemoveIf mode held.fill table
goes_as Compute mode held (Empty at) = absent Compute held.fill (At at)
goes_as Compute mode held (Over table) = passes Compute mode held.fill table
goes_as (Insert replace) mode held (Empty at) = Writing (record { place = at; old = 0 })
goes_as (Insert replace) mode held (Over table) = Growing (Room table)

abbrev pub goes : Machine → ProbeStep → State
goes m seen = goes_as m.task m.mode m.remembered seen

-- the state after pair n was written: it was claimed, or replaced another pair
abbrev pub written : Write → ℕ → State
written write n = if write.old == 0 then Counting (claimed_by write n)
    else Ended (Replaced (pair_of write.old) n)

abbrev pub exchanged : Option ℕ → Write → State
exchanged None write = Writing write
exchanged (Some n) write = written write n

-- the state after the count of taken numbers was loaded: the call is refused if no number is left
abbrev pub numbered : Option Made → State → State
numbered None state = Ended (Reply_refused Limit)
numbered (Some made) state = state

abbrev pub number_told : Option Made → Made → Made
number_told None made = made
number_told (Some told) made = told

abbrev pub state_told : Machine → (count : ℕ) → Machine
state_told m count = record m {
  made = number_told (told m.made count) m.made;
  state = numbered (told m.made count) m.state;
}

-- the state of an insertion after the same load, if it has no pair for its place yet
abbrev pub write_told : Option ℕ → Made → Write → ℕ → State
write_told None made write count = numbered (told made count) (Writing write)
write_told (Some n) made write count = Writing write

abbrev pub write_made : Option ℕ → Made → ℕ → Made
write_made None made count = number_told (told made count) made
write_made (Some n) made count = made

-- what an insertion has made after an exchange: it has taken a number if it had no pair for its
-- place
abbrev pub write_taken : Option ℕ → Made → Made
write_taken None made = taken made
write_taken (Some n) made = made

-- the state after the exchange of a removal found this word in place of its own; for `RemoveIf` the
-- key is absent if another call has removed the pair
abbrev pub beaten_by : Kind → Machine → Place → ℕ → State
beaten_by Buried m at word = Ended Absent
beaten_by _ m at word = goes m (look at word)

abbrev pub beaten_as : Task → Machine → Place → ℕ → State
beaten_as Compute m at word = goes m (look at word)
beaten_as _ m at word = beaten_by (kind_of word) m at word

abbrev pub beaten : Machine → Removal → ℕ → State
beaten m removal word = beaten_as m.task m removal.place word

-- the state after the closure of a removal returned whether the pair is to be removed
abbrev pub agreed : Removal → Bool → State
agreed removal true = Burying removal
agreed removal false = Ended (Kept (pair_of removal.word))

abbrev pub judged : Task → Removal → Bool → State
judged RemoveIf removal agrees = agreed removal agrees
judged _ removal agrees = Showing removal

-- the state after the closure of a compute was called with a pair and returned an operation of this
-- kind
abbrev pub decided : Task → Removal → OpKind → State
decided Compute removal kind = chosen removal kind
decided _ removal kind = Showing removal

abbrev pub decided_held : Task → Remembered → Removal → OpKind → Remembered
decided_held Compute held removal kind = with_choice held removal kind
decided_held _ held removal kind = held

-- the state after an answer; an answer that was not asked for changes nothing
abbrev pub at_word : Machine → ℕ → State → State
at_word m word AtRoot = at_root m.task m.remembered.fill word
at_word m word (Searching search) = goes m (search_loaded search m.hash word)
at_word m word (Leaving table) = left m.task m.remembered.fill table word
at_word m word (Growing need) = Ended (Reply_refused Capacity)
at_word m word (Writing write) = write_told (serves m.made write) m.made write word
at_word m word (Pairing purpose) = numbered (told m.made word) (Pairing purpose)
at_word m word state = state

abbrev pub at_exchanged : Made → State → State
at_exchanged made (Opening table) = Searching (Sizing table)
at_exchanged made (Writing write) = exchanged (serves made write) write
at_exchanged made (Putting put) = written put.write put.pair
at_exchanged made (Burying removal) = Uncounting (pair_of removal.word)
at_exchanged made state = state

-- the state of a write whose exchange failed: that of a slot goes on with the word that it found,
-- and that of the count of numbers with the count that it found
abbrev pub write_lost : Option ℕ → Machine → Write → ℕ → State
write_lost None m write word = numbered (told m.made word) (Writing write)
write_lost (Some n) m write word = goes m (look write.place word)

abbrev pub at_found : Machine → ℕ → State → State
at_found m word (Opening table) = Searching (Sizing word)
at_found m word (Writing write) = write_lost (serves m.made write) m write word
at_found m word (Pairing purpose) = numbered (told m.made word) (Pairing purpose)
at_found m word (Putting put) = goes m (look put.write.place word)
at_found m word (Burying removal) = beaten m removal word
at_found m word state = state

abbrev pub at_yes : Machine → Bool → State → State
at_yes m same (Searching search) = goes m (search_compared search same)
at_yes m same (Showing removal) = judged m.task removal same
at_yes m same state = state

abbrev pub at_size : ℕ → (slots limit : ℕ) → State → State
at_size hash slots limit (Searching search) = Searching (search_sized search hash slots limit)
at_size hash slots limit state = state

abbrev pub at_ok : State → State
at_ok (Counting claimed) = Noting claimed
at_ok (Noting claimed) = Ended (Inserted claimed.pair)
at_ok (Uncounting pair) = Ended (Removed pair)
at_ok state = state

-- the state of a write that is refused: this is possible only while its pair is being made
abbrev pub refuses : Option ℕ → Refused → Write → State
refuses None refused write = Ended (Reply_refused refused)
refuses (Some n) refused write = Writing write

abbrev pub at_refused : Made → Refused → State → State
at_refused made refused Making = Ended (Reply_refused refused)
at_refused made refused (Writing write) = refuses (serves made write) refused write
at_refused made refused (Pairing purpose) = Ended (Reply_refused refused)
at_refused made refused state = state

-- what a call has made after an answer about the count of numbers
abbrev pub made_at_word : Made → ℕ → State → Made
made_at_word made count (Writing write) = write_made (serves made write) made count
made_at_word made count (Pairing purpose) = number_told (told made count) made
made_at_word made count _ = made

abbrev pub made_at_exchanged : Made → State → Made
made_at_exchanged made (Writing write) = write_taken (serves made write) made
made_at_exchanged made (Pairing purpose) = taken made
made_at_exchanged made _ = made

-- what a compute has made after one more thing was made
abbrev pub made_to_pair : Grown → Made
made_to_pair (More made) = made
made_to_pair (Pair made) = made

abbrev pub made_in : Made → ℕ → State → Made
made_in made n (Writing write) = write_grown (serves made write) made write n
made_in made n (Pairing purpose) = made_to_pair (grown made (in_place_of purpose))
made_in made n _ = made

-- the state of a compute after one more thing was made; the pair goes to its place, and is
-- remembered
abbrev pub paired : Grown → Purpose → ℕ → State
paired (More made) purpose n = Pairing purpose
paired (Pair made) purpose n = provides purpose n

abbrev pub paired_held : Grown → Remembered → Purpose → ℕ → Remembered
paired_held (More made) held purpose n = held
paired_held (Pair made) held purpose n = with_pair held purpose n

abbrev pub state_in : Made → ℕ → State → State
state_in made n Making = Opening n
state_in made n (Pairing purpose) = paired (grown made (in_place_of purpose)) purpose n
state_in made n state = state

-- what is remembered after a pair was made
abbrev pub held_in : Made → Remembered → ℕ → State → Remembered
held_in made held n (Pairing purpose) =
    paired_held (grown made (in_place_of purpose)) held purpose n
held_in made held n _ = held

abbrev pub state_made : Machine → ℕ → Machine
state_made m n = record m {
  made = made_in m.made n m.state;
  remembered = held_in m.made m.remembered n m.state;
  state = state_in m.made n m.state;
}

-- the state after a closure returned an operation; `held_at_op` is what is remembered then
abbrev pub at_op : Task → OpKind → State → State
at_op task kind (Offering gap) = offered gap kind
at_op task kind (Showing removal) = decided task removal kind
at_op task kind state = state

abbrev pub held_at_op : Task → Remembered → OpKind → State → Remembered
held_at_op task held kind (Showing removal) = decided_held task held removal kind
held_at_op task held kind _ = held

abbrev pub made_decided : Task → OpKind → Made → Made
made_decided Compute kind made = answered kind made
made_decided _ kind made = made

abbrev pub made_at_op : Task → OpKind → Made → State → Made
made_at_op task kind made (Offering gap) = answered kind made
made_at_op task kind made (Showing removal) = made_decided task kind made
made_at_op task kind made _ = made

abbrev pub state_op : Machine → OpKind → Machine
state_op m kind = record m {
  made = made_at_op m.task kind m.made m.state;
  remembered = held_at_op m.task m.remembered kind m.state;
  state = at_op m.task kind m.state;
}

-- the machine after an answer
abbrev pub after : Machine → Answer → Machine
after m (Word_read word) = record m {
  made = made_at_word m.made word m.state;
  state = at_word m word m.state;
}
after m Exchanged = record m {
  made = made_at_exchanged m.made m.state;
  state = at_exchanged m.made m.state;
}
after m (Found_instead word) = record m {
  made = made_at_word m.made word m.state;
  state = at_found m word m.state;
}
after m (Yes same) = record m { state = at_yes m same m.state }
after m (Op kind) = state_op m kind
after m (Size slots limit) = record m { state = at_size m.hash slots limit m.state }
after m (Made_number n) = state_made m n
after m Ok_done = record m { state = at_ok m.state }
after m (Was_refused refused) = record m { state = at_refused m.made refused m.state }

-- the task is an insertion
abbrev pub IsWriter : Task → Type 0
IsWriter (Insert replace) = Unit {0}
IsWriter _ = ⊥

-- the task is a removal
abbrev pub IsRemover : Task → Type 0
IsRemover RemoveIf = Unit {0}
IsRemover _ = ⊥

-- the task is a compute
abbrev pub IsComputer : Task → Type 0
IsComputer Compute = Unit {0}
IsComputer _ = ⊥

-- the task may insert
abbrev pub MayInsert : Task → Type 0
MayInsert Get = ⊥
MayInsert (Insert replace) = Unit {0}
MayInsert RemoveIf = ⊥
MayInsert Compute = Unit {0}

-- the task has a closure, which may have a pair removed
abbrev pub HasClosure : Task → Type 0
HasClosure Get = ⊥
HasClosure (Insert replace) = ⊥
HasClosure RemoveIf = Unit {0}
HasClosure Compute = Unit {0}

-- the task may change the map
abbrev pub IsChanger : Task → Type 0
IsChanger Get = ⊥
IsChanger _ = Unit {0}

-- the search of the machine is within its table, and each state is one to which the task can come
abbrev pub IsValidState : Task → State → Type 0
IsValidState task Making = MayInsert task
IsValidState task (Opening table) = MayInsert task
IsValidState task (Searching search) = IsSearching search
IsValidState task (Writing write) = IsWriter task × IsWithin write.place
IsValidState task (Offering gap) = IsComputer task × IsGap gap
IsValidState task (Showing removal) = HasClosure task × IsWithin removal.place
IsValidState task (Pairing purpose) = IsComputer task × IsPurpose purpose
IsValidState task (Putting put) = IsComputer task × IsPut put
IsValidState task (Burying removal) = HasClosure task × IsWithin removal.place
IsValidState task (Counting claimed) = MayInsert task
IsValidState task (Noting claimed) = MayInsert task
IsValidState task (Uncounting pair) = HasClosure task
IsValidState task (Growing need) = IsChanger task
IsValidState task _ = Unit {0}

pub record IsValid (m : Machine) : Type 0 where
  pub made : IsMade m.made
  pub remembered : IsRemembered m.remembered
  pub state : IsValidState m.task m.state

-- an answer within the limits of tables and numbers
abbrev pub IsFit : Answer → Type 0
IsFit (Size slots limit) = IsSize slots limit
IsFit (Made_number n) = n < 2 ^ 48
IsFit _ = Unit {0}

-- if the ask is to make a table, it has a size that tables may have
abbrev pub IsFitAsk : Ask → Type 0
IsFitAsk (MakeTable slots limit chunks) = IsSize slots limit
IsFitAsk _ = Unit {0}

-- an ask of a lookup: it changes nothing and makes nothing
abbrev pub IsLookup : Ask → Type 0
IsLookup (Load at) = Unit {0}
IsLookup (LoadHint table x) = Unit {0}
IsLookup (SameKey n) = Unit {0}
IsLookup (SizeOf n) = Unit {0}
IsLookup (Done reply) = Unit {0}
IsLookup _ = ⊥
