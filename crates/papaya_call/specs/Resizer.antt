-- A call that resizes the map: its asks, and the state after each answer.
use Rattle.std.specs.Prelude.{ℕ, ◌+◌, ◌==◌, nat_le, if◌then◌else◌, Option, None, Some}
use Rattle.std.specs.Int.{IsPowerOfTwo}
use Rattle.papaya_words.specs.Chunks.{chunk_count, chunk_len}
use Rattle.papaya_words.specs.Mode.{IsChunked}
use Rattle.papaya_words.specs.declared.refused.Refused.TheVariants.{Capacity}
use Rattle.papaya_words.specs.declared.resize_mode.ResizeMode.{ResizeMode}
use Rattle.papaya_call.specs.Search.{IsSize}
use Rattle.papaya_call.specs.declared.ask.Answer.{Answer as Call_answer}
use Rattle.papaya_call.specs.declared.ask.Answer.TheVariants.{Word, Exchanged, Found, Size, Made, Refused as Was_refused}
use Rattle.papaya_call.specs.declared.ask.At.TheVariants.{Root, Next}
use Rattle.papaya_call.specs.declared.ask.StepKind.{StepKind}
use Rattle.papaya_call.specs.declared.ask.StepKind.TheVariants.{Open}
use Rattle.papaya_call.specs.declared.call.Reply.{Reply}
use Rattle.papaya_call.specs.declared.call.Reply.TheVariants as replies
use Rattle.papaya_call.specs.declared.copy_ask.CopyAsk.{CopyAsk}
use Rattle.papaya_call.specs.declared.copy_ask.CopyAsk.TheVariants.{Load, Exchange, SizeOf, Count, MakeTable}
use Rattle.papaya_call.specs.declared.copy.copying.Aim.TheVariants as aims
use Rattle.papaya_call.specs.declared.copy.copying.Copied.{Copied}
use Rattle.papaya_call.specs.declared.copy.copying.Copied.TheVariants as copied_to
use Rattle.papaya_call.specs.declared.copy.copying.Copying.TheVariants.{Stepping}
use Rattle.papaya_call.specs.declared.copy.link.Link.TheVariants as links
use Rattle.papaya_call.specs.declared.copy.link.Linked.{Linked}
use Rattle.papaya_call.specs.declared.copy.link.Linked.TheVariants as linked_to
use Rattle.papaya_call.specs.declared.copy.step.Step.TheVariants as steps
use Rattle.papaya_call.specs.Copying.{IsValidCopying, copying_ask, copying_follows, copying_kind}
use Rattle.papaya_call.specs.Link.{IsValidLink, follows, link_ask, link_kind}
use Rattle.papaya_call.specs.declared.chain.ask.Answer.{Answer}
use Rattle.papaya_call.specs.declared.chain.ask.Answer.TheVariants as answers
use Rattle.papaya_call.specs.declared.chain.resizer.Resize.{Resize}
use Rattle.papaya_call.specs.declared.chain.resizer.Resize.TheVariants.{Chunk, Reserve}
use Rattle.papaya_call.specs.declared.chain.resizer.Resizer.{Resizer}
use Rattle.papaya_call.specs.declared.chain.resizer.TableSize.{TableSize}
use Rattle.papaya_call.specs.declared.chain.resizer.ResizerState.{ResizerState}
use Rattle.papaya_call.specs.declared.chain.resizer.ResizerState.TheVariants.{AtRoot, Making, Opening, Sizing, Counting, Looking, Linking, Copying, Done, Refused}
use Rattle.papaya_call.specs.ChainMachine.{copying_after, link_after}
use Rattle.papaya_call.specs.TableSize.{IsValidRoom, room_of}

-- the state of a resizer that begins: a copy of a chunk begins at once, and all else by loading the
-- root
abbrev pub begun_in : Resize → ResizerState
begun_in Chunk = Copying 0 (Stepping aims.Chunk steps.AtRoot)
begun_in _ = AtRoot

abbrev pub begun : Resize → ResizeMode → (initial number : ℕ) → Resizer
begun resize mode initial number = record {
  mode = mode;
  initial = initial;
  resize = resize;
  number = number;
  state = begun_in resize;
}

-- its ask, None once it has ended
abbrev pub asks_in : ResizerState → Option CopyAsk
asks_in AtRoot = Some (Load Root)
asks_in (Making room) = Some (MakeTable room.len room.limit 0)
asks_in (Opening table) = Some (Exchange Root 0 table)
asks_in (Sizing root) = Some (SizeOf root)
asks_in (Counting root len) = Some Count
asks_in (Looking root len room) = Some (Load (Next root))
asks_in (Linking link) = Some (link_ask link)
asks_in (Copying from copying) = Some (copying_ask copying)
asks_in _ = None

abbrev pub ask_of : Resizer → Option CopyAsk
ask_of resizer = asks_in resizer.state

-- its reply, None until it has ended
abbrev pub reply_in : ResizerState → Option Reply
reply_in Done = Some replies.Done
reply_in (Refused refused) = Some (replies.Refused refused)
reply_in _ = None

abbrev pub reply_of : Resizer → Option Reply
reply_of resizer = reply_in resizer.state

-- the kind of the exchange that it asks for, if it asks for one
abbrev pub kind_in : ResizerState → Option StepKind
kind_in (Opening table) = Some Open
kind_in (Linking link) = link_kind link
kind_in (Copying from copying) = copying_kind copying
kind_in _ = None

abbrev pub kind_of_ask : Resizer → Option StepKind
kind_of_ask resizer = kind_in resizer.state

-- the table after which a table is being made, 0 if none is
abbrev pub follows_in : ResizerState → ℕ
follows_in (Linking link) = follows link
follows_in (Copying from copying) = copying_follows copying
follows_in _ = 0

abbrev pub follows_of : Resizer → ℕ
follows_of resizer = follows_in resizer.state

-- the state that makes a first table of this size, or refuses if no table may have such a size
abbrev pub makes : Option TableSize → ResizerState
makes None = Refused Capacity
makes (Some room) = Making room

-- the state that copies all of this root
abbrev pub copies : (root : ℕ) → ResizerState
copies root = Copying root (Stepping (aims.All root) steps.AtRoot)

-- the state after the root was loaded, which is 0 if there is none
abbrev pub at_root : Resize → (root : ℕ) → ResizerState
at_root (Reserve more) root = if root == 0 then makes (room_of more) else Sizing root
at_root _ root = if root == 0 then Done else Looking root 0 None

-- the state if the root has `len` slots and a table of this size is needed
abbrev pub judges : (root len : ℕ) → Option TableSize → ResizerState
judges root len None = Refused Capacity
judges root len (Some room) = if nat_le room.len len then Done
    else Looking root len (Some room)

abbrev pub at_count : Resize → (root len count : ℕ) → ResizerState
at_count (Reserve more) root len count = judges root len (room_of (count + more))
at_count _ root len count = Done

-- the state if the root has `len` slots and no next table: one of this size is made, if one is
-- needed
abbrev pub at_last : ResizeMode → (root len : ℕ) → Option TableSize → ResizerState
at_last mode root len None = Done
at_last mode root len (Some room) =
    Linking (links.Making root room.len room.limit (chunk_count len (chunk_len mode)))

abbrev pub at_next : ResizeMode → (root len : ℕ) → Option TableSize → (next : ℕ) → ResizerState
at_next mode root len room next = if next == 0 then at_last mode root len room else copies root

-- the state after an answer, while nothing is linked or copied
abbrev pub told_root : Resize → ResizeMode → ResizerState → Call_answer → ResizerState
told_root resize mode AtRoot (Word root) = at_root resize root
told_root resize mode (Making room) (Made table) = Opening table
told_root resize mode (Making room) (Was_refused refused) = Refused refused
told_root resize mode (Opening table) Exchanged = AtRoot
told_root resize mode (Opening table) (Found word) = AtRoot
told_root resize mode (Sizing root) (Size slots limit) = Counting root slots
told_root resize mode (Looking root len room) (Word next) = at_next mode root len room next
told_root resize mode state answer = state

abbrev pub counted : Resize → ResizerState → (count : ℕ) → ResizerState
counted resize (Counting root len) count = at_count resize root len count
counted resize state count = state

abbrev pub called : Resize → ResizeMode → ResizerState → Answer → ResizerState
called resize mode state (answers.Call answer) = told_root resize mode state answer
called resize mode state (answers.Count count) = counted resize state count
called resize mode state (answers.Hash hash) = state

-- the state after a step of the making of the table after this root
abbrev pub linked : (root : ℕ) → Linked → ResizerState
linked root (linked_to.On link) = Linking link
linked root (linked_to.Table table) = copies root
linked root (linked_to.Refused refused) = Refused refused

-- the state once a copy is over
abbrev pub over : Resize → ResizerState
over Chunk = Done
over _ = AtRoot

-- the state after a step of the copy
abbrev pub copied : Resize → (from : ℕ) → Copied → ResizerState
copied resize from (copied_to.On copying) = Copying from copying
copied resize from (copied_to.Refused refused) = Refused refused
copied resize from _ = over resize

abbrev pub after_in : Resize → ResizeMode → (initial number : ℕ) → Answer → ResizerState → ResizerState
after_in resize mode initial number answer (Linking link) =
    linked (follows link) (link_after link mode initial answer)
after_in resize mode initial number answer (Copying from copying) =
    copied resize from (copying_after copying mode initial number answer)
after_in resize mode initial number answer state = called resize mode state answer

-- the resizer after an answer
abbrev pub after : Resizer → Answer → Resizer
after resizer answer = record resizer {
  state = after_in resizer.resize resizer.mode resizer.initial resizer.number answer
      resizer.state;
}

-- the resizer is within its tables
abbrev pub IsValidIn : ResizerState → Type 0
IsValidIn (Making room) = IsSize room.len room.limit
IsValidIn (Looking root len room) = IsValidRoom room
IsValidIn (Linking link) = IsValidLink link
IsValidIn (Copying from copying) = IsValidCopying copying
IsValidIn _ = Unit {0}

pub record IsValidResizer (resizer : Resizer) : Type 0 where
  pub chunked : IsChunked resizer.mode
  pub initial : IsPowerOfTwo resizer.initial
  pub state : IsValidIn resizer.state
