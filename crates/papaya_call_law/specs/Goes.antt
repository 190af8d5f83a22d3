-- What an answer does to the call of a machine over a chain, what the call has changed, and why it
-- is refused.
use Rattle.std.specs.Prelude.{◌≡◌, ◌⊎◌, ℕ, ℤ, pos, ◌<◌, ◌^◌, Bool, Option, None, Some}
use Rattle.papaya_words.specs.Table.{length_after}
use Rattle.papaya_words.specs.declared.refused.Refused.{Refused}
use Rattle.papaya_words.specs.declared.refused.Refused.TheVariants.{Capacity, Limit, RemoveNothing}
use Rattle.papaya_call.specs.declared.ask.Answer.{Answer as Call_answer}
use Rattle.papaya_call.specs.declared.ask.Answer.TheVariants.{Word as Word_read, Op, Refused as Was_refused}
use Rattle.papaya_call.specs.declared.ask.Ask.{Ask as Call_ask}
use Rattle.papaya_call.specs.declared.ask.Ask.TheVariants.{ShowNone, MakeKey, MakeValue, MakePair, MakePairOf, MakeTable as Make_table}
use Rattle.papaya_call.specs.declared.ask.OpKind.TheVariants.{Remove}
use Rattle.papaya_call.specs.declared.ask.StepKind.{StepKind}
use Rattle.papaya_call.specs.declared.call.Reply.TheVariants.{Refused as Reply_refused}
use Rattle.papaya_call.specs.declared.copy_ask.CopyAsk.TheVariants.{Count, MakeTable}
use Rattle.papaya_call.specs.declared.search.Search.TheVariants.{Sizing}
use Rattle.papaya_call.specs.declared.copy.link.Link.{Link}
use Rattle.papaya_call.specs.declared.copy.link.Link.TheVariants.{Counting}
use Rattle.papaya_call.specs.declared.machine.State.TheVariants.{AtRoot, Searching, Ended}
use Rattle.papaya_call.specs.Machine as call_machine
use Rattle.papaya_call.specs.declared.chain.ask.Ask.{Ask}
use Rattle.papaya_call.specs.declared.chain.ask.Ask.TheVariants as asks
use Rattle.papaya_call.specs.declared.chain.ask.Answer.{Answer}
use Rattle.papaya_call.specs.declared.chain.ask.Answer.TheVariants as answers
use Rattle.papaya_call.specs.declared.chain.machine.Machine.{Machine}
use Rattle.papaya_call.specs.declared.chain.machine.Phase.{Phase}
use Rattle.papaya_call.specs.declared.chain.machine.Phase.TheVariants.{Calling, Linking, Copying as Copying_root}
use Rattle.papaya_call.specs.ChainMachine.{after, ask_of}
use Rattle.papaya_call_law.specs.Copier.{link_in_copying}
use Rattle.papaya_call_law.specs.Owed.{grows_by, owed_by}
use Rattle.papaya_call_law.specs.Relies.{Change, IsAtLimit, change_after}
use Rattle.papaya_call_law.specs.ChainRelies.{left_by}

-- the answer is one for calls, if the machine is not copying or making a table; otherwise its call
-- was set aside
abbrev pub IsInOrder : Machine → Answer → Phase → Type 0
IsInOrder m answer Calling = (told : Call_answer) × (answer ≡ answers.Call told)
IsInOrder m answer (Linking link) = (t : ℕ) × (left_by m.call.state ≡ Some t)
IsInOrder m answer (Copying_root copying) = (t : ℕ) × (left_by m.call.state ≡ Some t)

-- the call is set aside, and stays so
pub record IsWaiting (m : Machine) (answer : Answer) : Type 0 where
  pub from : ℕ
  pub left : left_by m.call.state ≡ Some from
  pub call : (after m answer).call ≡ m.call

-- the answer is the call's own, and the call goes on with it
pub record IsOwnStep (m : Machine) (answer : Answer) : Type 0 where
  pub told : Call_answer
  pub phase : m.phase ≡ Calling
  pub is : answer ≡ answers.Call told
  pub call : (after m answer).call ≡ call_machine.after m.call told
  pub goes_on : (after m answer).phase ≡ Calling

-- the call was set aside, and now searches a next table for its key
pub record HasEntered (m : Machine) (answer : Answer) : Type 0 where
  pub from : ℕ
  pub left : left_by m.call.state ≡ Some from
  pub table : ℕ
  pub call : (after m answer).call ≡ record m.call { state = Searching (Sizing table) }

-- the call was set aside, and now begins again, with this root
pub record HasRestarted (m : Machine) (answer : Answer) : Type 0 where
  pub from : ℕ
  pub left : left_by m.call.state ≡ Some from
  pub root : ℕ
  pub call : (after m answer).call
      ≡ call_machine.after (record m.call { state = AtRoot }) (Word_read root)

-- the call was set aside, and ends because a table could not be made
pub record WasRefused (m : Machine) (answer : Answer) : Type 0 where
  pub from : ℕ
  pub left : left_by m.call.state ≡ Some from
  pub refused : Refused
  pub call : (after m answer).call ≡ record m.call { state = Ended (Reply_refused refused) }

-- an answer is the call's own; or the call is set aside, and waits, goes on or ends
abbrev pub Goes : Machine → Answer → Type 0
Goes m answer = IsWaiting m answer ⊎ IsOwnStep m answer ⊎ HasEntered m answer
    ⊎ HasRestarted m answer ⊎ WasRefused m answer

-- the change that a call has made after an answer to one of its asks, if `before` was its change
-- until then; no copy changes the map
abbrev pub change_by : Option StepKind → Ask → Answer → Change → Change
change_by kind (asks.Call ask) (answers.Call answer) before = change_after kind ask answer before
change_by kind _ _ before = before

-- what a machine with this ask has yet to add to the count; a copy adds nothing
abbrev pub owed_in : Ask → ℤ
owed_in (asks.Call ask) = owed_by ask
owed_in (asks.Copy ask) = pos 0

-- by how many pairs the map grows with this answer to an ask
abbrev pub grown_by : Option StepKind → Ask → Answer → ℤ
grown_by kind (asks.Call ask) (answers.Call answer) = grows_by kind ask answer
grown_by kind _ _ = pos 0

-- the making of a table that is under way in a copy, or for the call itself, if there is one
abbrev pub link_in : Phase → Option Link
link_in Calling = None
link_in (Linking link) = Some link
link_in (Copying_root copying) = link_in_copying copying

-- the ask is for a key, a value, a pair or a table to be made
abbrev pub IsToMake : Call_ask → Type 0
IsToMake MakeKey = Unit {0}
IsToMake MakeValue = Unit {0}
IsToMake MakePair = Unit {0}
IsToMake (MakePairOf n) = Unit {0}
IsToMake (Make_table slots limit chunks) = Unit {0}
IsToMake _ = ⊥

-- the call is refused by its own step: something that it asked to be made was refused, no number
-- was left for a pair, or its closure would remove an absent entry
pub record IsOwnRefusal (m : Machine) (answer : Answer) (refused : Refused) : Type 0 where
  pub own : IsOwnStep m answer
  pub why : (IsToMake (call_machine.ask_of m.call) × (own.told ≡ Was_refused refused))
      ⊎ ((refused ≡ Limit) × IsAtLimit m.call own.told)
      ⊎ ((refused ≡ RemoveNothing) × (ask_of m ≡ asks.Call ShowNone) × (own.told ≡ Op Remove))

-- a next table of these sizes was to be made, and was refused
pub record WasNotMade (m : Machine) (answer : Answer) (refused : Refused) : Type 0 where
  pub slots : ℕ
  pub limit : ℕ
  pub chunks : ℕ
  pub asks : ask_of m ≡ asks.Copy (MakeTable slots limit chunks)
  pub is : answer ≡ answers.Call (Was_refused refused)

-- the table after one of `slots` slots would be longer than a table may be, by the count in the
-- answer
pub record WouldBeTooLong (m : Machine) (answer : Answer) (refused : Refused) : Type 0 where
  pub capacity : refused ≡ Capacity
  pub behind : ℕ
  pub unfit : Bool
  pub slots : ℕ
  pub copied : ℕ
  pub link : link_in m.phase ≡ Some (Counting behind unfit slots copied)
  pub asks : ask_of m ≡ asks.Copy Count
  pub count : ℕ
  pub is : answer ≡ answers.Count count
  pub long : 2 ^ 32 < length_after slots count m.call.initial unfit

-- the call was set aside, and the next table that it needs could not be made
pub record IsTableRefusal (m : Machine) (answer : Answer) (refused : Refused) : Type 0 where
  pub from : ℕ
  pub left : left_by m.call.state ≡ Some from
  pub why : WasNotMade m answer refused ⊎ WouldBeTooLong m answer refused

-- why an answer ends a call with a refusal
abbrev pub IsCause : Machine → Answer → Refused → Type 0
IsCause m answer refused = IsOwnRefusal m answer refused ⊎ IsTableRefusal m answer refused
