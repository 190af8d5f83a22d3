-- A call over a chain of tables: its asks, and the state after each answer.
use Rattle.std.specs.Prelude.{ℕ, ◌==◌, Bool, true, false, if◌then◌else◌, Option}
use Rattle.std.specs.Int.{IsPowerOfTwo}
use Rattle.papaya_words.specs.Mode.{IsChunked}
use Rattle.papaya_words.specs.declared.refused.Refused.{Refused}
use Rattle.papaya_words.specs.declared.resize_mode.ResizeMode.{ResizeMode}
use Rattle.papaya_words.specs.declared.resize_mode.ResizeMode.TheVariants.{Incremental, Blocking}
use Rattle.papaya_call.specs.declared.ask.Answer.{Answer as Call_answer}
use Rattle.papaya_call.specs.declared.ask.Answer.TheVariants.{Word as Word_read, Exchanged}
use Rattle.papaya_call.specs.declared.ask.Answer.TheVariants.{Found as Found_instead, Yes, Size}
use Rattle.papaya_call.specs.declared.ask.Answer.TheVariants.{Made as Made_number, Ok as Ok_done}
use Rattle.papaya_call.specs.declared.ask.Answer.TheVariants.{Refused as Was_refused}
use Rattle.papaya_call.specs.declared.ask.StepKind.{StepKind}
use Rattle.papaya_call.specs.declared.call.Reply.TheVariants.{Refused as Reply_refused}
use Rattle.papaya_call.specs.declared.call.Task.{Task}
use Rattle.papaya_call.specs.declared.call.Task.TheVariants.{Get}
use Rattle.papaya_call.specs.declared.search.Search.TheVariants.{Sizing}
use Rattle.papaya_call.specs.declared.copy.copying.Aim.{Aim}
use Rattle.papaya_call.specs.declared.copy.copying.Aim.TheVariants as aims
use Rattle.papaya_call.specs.declared.copy.copying.Copied.{Copied}
use Rattle.papaya_call.specs.declared.copy.copying.Copied.TheVariants as copied_to
use Rattle.papaya_call.specs.declared.copy.copying.Copying.{Copying}
use Rattle.papaya_call.specs.declared.copy.copying.Copying.TheVariants.{Stepping, Lone}
use Rattle.papaya_call.specs.declared.copy.link.Link.{Link}
use Rattle.papaya_call.specs.declared.copy.link.Link.TheVariants as links
use Rattle.papaya_call.specs.declared.copy.link.Linked.{Linked}
use Rattle.papaya_call.specs.declared.copy.link.Linked.TheVariants as linked_to
use Rattle.papaya_call.specs.declared.copy.settle.Settle.TheVariants.{Looking}
use Rattle.papaya_call.specs.declared.copy.step.Step.TheVariants.{AtRoot}
use Rattle.papaya_call.specs.Copying as copyings
use Rattle.papaya_call.specs.Copying.{IsValidCopying, copying_ask, copying_follows, copying_kind}
use Rattle.papaya_call.specs.Link as making
use Rattle.papaya_call.specs.Link.{IsFitCopyAsk, IsValidLink, follows, link_ask, link_kind}
use Rattle.papaya_call.specs.declared.machine.Machine.{Machine as Call_machine}
use Rattle.papaya_call.specs.declared.machine.State.{State}
use Rattle.papaya_call.specs.declared.machine.State.TheVariants.{AtRoot as At_root, Searching, Leaving, Growing, Ended}
use Rattle.papaya_call.specs.declared.need.Need.{Need}
use Rattle.papaya_call.specs.declared.need.Need.TheVariants.{Pair as Pair_at}
use Rattle.papaya_call.specs.Machine as calls
use Rattle.papaya_call.specs.Machine.{needed}
use Rattle.papaya_call.specs.declared.chain.ask.Ask.{Ask}
use Rattle.papaya_call.specs.declared.chain.ask.Ask.TheVariants as asks
use Rattle.papaya_call.specs.declared.chain.ask.Answer.{Answer}
use Rattle.papaya_call.specs.declared.chain.ask.Answer.TheVariants as answers
use Rattle.papaya_call.specs.declared.chain.machine.Machine.{Machine}
use Rattle.papaya_call.specs.declared.chain.machine.Phase.{Phase}
use Rattle.papaya_call.specs.declared.chain.machine.Phase.TheVariants.{Calling, Linking, Copying as Copying_root}

-- the machine of a call that begins
abbrev pub started : Task → (hash : ℕ) → ResizeMode → (initial number : ℕ) → (limit : Option ℕ)
    → Machine
started task hash mode initial number limit = record {
  call = calls.started task hash mode initial limit;
  number = number;
  helped = false;
  phase = Calling;
}

-- its ask
abbrev pub asks_in : Call_machine → Phase → Ask
asks_in call Calling = asks.Call (calls.ask_of call)
asks_in call (Linking link) = asks.Copy (link_ask link)
asks_in call (Copying_root copying) = asks.Copy (copying_ask copying)

abbrev pub ask_of : Machine → Ask
ask_of m = asks_in m.call m.phase

-- the kind of the exchange that it asks for, if it asks for one
abbrev pub kind_in : Call_machine → Phase → Option StepKind
kind_in call Calling = calls.kind_of_ask call
kind_in call (Linking link) = link_kind link
kind_in call (Copying_root copying) = copying_kind copying

abbrev pub kind_of_ask : Machine → Option StepKind
kind_of_ask m = kind_in m.call m.phase

-- the table after which a table is being made, 0 for a first table or if none is
abbrev pub follows_in : Phase → ℕ
follows_in Calling = 0
follows_in (Linking link) = follows link
follows_in (Copying_root copying) = copying_follows copying

abbrev pub follows_of : Machine → ℕ
follows_of m = follows_in m.phase

-- the machine after an answer to its call
abbrev pub stepped : Machine → Call_answer → Machine
stepped m answer = record m { call = calls.after m.call answer }

-- the machine whose call begins to search this table
abbrev pub enters : Machine → (table : ℕ) → Machine
enters m table = record m {
  call = record m.call { state = Searching (Sizing table) };
  phase = Calling;
}

-- the machine whose call begins again, with this root
abbrev pub restarted : Machine → (root : ℕ) → Machine
restarted m root = record m {
  call = calls.after (record m.call { state = At_root }) (Word_read root);
  phase = Calling;
}

-- the machine whose call ends, refused because a table could not be made
abbrev pub refuses : Machine → Refused → Machine
refuses m refused = record m {
  call = record m.call { state = Ended (Reply_refused refused) };
  phase = Calling;
}

-- what a call in this state copies for before it goes on in the next table: the slot in which it
-- met its key's pair, or no slot of its own
abbrev pub aim_for : State → (next : ℕ) → Aim
aim_for (Growing (Pair_at t x)) next = aims.Settle (record { from = t; index = x; to = next })
aim_for _ next = aims.Search next

-- the machine of a call that goes on: it copies one chunk first, and then each slot in which it met
-- its key's pair
abbrev pub goes_on : Machine → (helped : Bool) → Aim → (next : ℕ) → Machine
goes_on m false aim next = record m {
  helped = true;
  phase = Copying_root (Stepping aim AtRoot);
}
goes_on m true (aims.Settle slot) next = record m { phase = Copying_root (Lone slot Looking) }
goes_on m true _ next = enters m next

abbrev pub onward : Machine → (next : ℕ) → Machine
onward m next = goes_on m m.helped (aim_for m.call.state next) next

-- the machine if the table `next` after its table is needed: without blocking that table is made if
-- there is none; with blocking all of this table is copied first, to whichever table takes it
abbrev pub grows_as : Machine → ResizeMode → Need → (next : ℕ) → Machine
grows_as m Blocking need next = record m {
  phase = Copying_root (Stepping (aims.All (needed need)) AtRoot);
}
grows_as m (Incremental chunk) need next = if next == 0
    then record m { phase = Linking (links.Sizing (needed need) (needed need) false) }
    else onward m next

abbrev pub grows : Machine → Need → (next : ℕ) → Machine
grows m need next = grows_as m m.call.mode need next

-- the machine of a call that leaves a table: a lookup goes on in the next one, and a call that may
-- change the map helps with the copy first
abbrev pub leaves : Machine → Task → (next : ℕ) → Machine
leaves m Get next = stepped m (Word_read next)
leaves m _ next = if next == 0 then stepped m (Word_read next) else onward m next

abbrev pub told_next : Machine → State → (next : ℕ) → Machine
told_next m (Leaving t) next = leaves m m.call.task next
told_next m (Growing need) next = grows m need next
told_next m _ next = stepped m (Word_read next)

-- the machine after an answer to its call, if it is not set aside
abbrev pub called : Machine → Call_answer → Machine
called m (Word_read word) = told_next m m.call.state word
called m answer = stepped m answer

-- the making of a table after an answer
abbrev pub link_called : Link → Call_answer → Linked
link_called link (Size slots limit) = linked_to.On (making.at_size link slots)
link_called link (Made_number n) = linked_to.On (making.at_made link n)
link_called link (Was_refused refused) = making.at_refused link refused
link_called link Exchanged = making.at_exchanged link
link_called link (Found_instead word) = making.at_found link word
link_called link _ = linked_to.On link

abbrev pub link_after : Link → ResizeMode → (initial : ℕ) → Answer → Linked
link_after link mode initial (answers.Call answer) = link_called link answer
link_after link mode initial (answers.Hash hash) = linked_to.On link
link_after link mode initial (answers.Count count) = making.at_count link mode count initial

-- the copy of the root after an answer
abbrev pub copying_called : Copying → ResizeMode → (number : ℕ) → Call_answer → Copied
copying_called copying mode number (Word_read word) = copyings.at_word copying mode word
copying_called copying mode number Exchanged = copyings.at_exchanged copying mode
copying_called copying mode number (Found_instead word) = copyings.at_found copying mode word
copying_called copying mode number (Yes same) = copyings.at_yes copying mode same
copying_called copying mode number (Size slots limit) =
    copied_to.On (copyings.at_size copying mode number slots limit)
copying_called copying mode number (Made_number n) = copied_to.On (copyings.at_made copying n)
copying_called copying mode number (Was_refused refused) = copyings.at_refused copying mode refused
copying_called copying mode number Ok_done = copyings.at_ok copying mode
copying_called copying mode number _ = copied_to.On copying

abbrev pub copying_after : Copying → ResizeMode → (initial number : ℕ) → Answer → Copied
copying_after copying mode initial number (answers.Call answer) =
    copying_called copying mode number answer
copying_after copying mode initial number (answers.Hash hash) =
    copied_to.On (copyings.at_hash copying hash)
copying_after copying mode initial number (answers.Count count) =
    copyings.at_count copying mode count initial

-- the machine after a step of the making of the next table
abbrev pub after_linked : Machine → Linked → Machine
after_linked m (linked_to.On link) = record m { phase = Linking link }
after_linked m (linked_to.Table table) = onward m table
after_linked m (linked_to.Refused refused) = refuses m refused

-- the machine after a step of the copy of the root
abbrev pub after_copied : Machine → Copied → Machine
after_copied m (copied_to.On copying) = record m { phase = Copying_root copying }
after_copied m (copied_to.Search table) = enters m table
after_copied m (copied_to.Root root) = restarted m root
after_copied m copied_to.Chunk = record m { phase = Calling }
after_copied m (copied_to.Refused refused) = refuses m refused

-- the machine after an answer
abbrev pub answered : Machine → Answer → Machine
answered m (answers.Call answer) = called m answer
answered m (answers.Hash hash) = m
answered m (answers.Count count) = m

abbrev pub after_in : Machine → Answer → Phase → Machine
after_in m answer Calling = answered m answer
after_in m answer (Linking link) =
    after_linked m (link_after link m.call.mode m.call.initial answer)
after_in m answer (Copying_root copying) =
    after_copied m (copying_after copying m.call.mode m.call.initial m.number answer)

abbrev pub after : Machine → Answer → Machine
after m answer = after_in m answer m.phase

-- what is made or copied is within its tables
abbrev pub IsValidPhase : Phase → Type 0
IsValidPhase Calling = Unit {0}
IsValidPhase (Linking link) = IsValidLink link
IsValidPhase (Copying_root copying) = IsValidCopying copying

pub record IsValid (m : Machine) : Type 0 where
  pub call : calls.IsValid m.call
  pub chunked : IsChunked m.call.mode
  pub initial : IsPowerOfTwo m.call.initial
  pub phase : IsValidPhase m.phase

-- an answer within the limits of tables and numbers
abbrev pub IsFit : Answer → Type 0
IsFit (answers.Call answer) = calls.IsFit answer
IsFit _ = Unit {0}

-- if the ask is to make a table, it has a size that tables may have
abbrev pub IsFitAsk : Ask → Type 0
IsFitAsk (asks.Call ask) = calls.IsFitAsk ask
IsFitAsk (asks.Copy ask) = IsFitCopyAsk ask
