-- The copy of one chunk of the root: its asks, and the state after each answer.
use Rattle.std.specs.Prelude.{ℕ, ◌+◌, ◌-◌, ◌*◌, ◌%◌, ◌<◌, ◌≤◌, ◌^◌, ◌==◌, ◌&&◌, nat_lt, nat_le, not, Bool, true, false, if◌then◌else◌, Option, Some, None}
use Rattle.papaya_words.specs.Chunks.{chunk_count, chunk_len}
use Rattle.papaya_words.specs.declared.refused.Refused.{Refused}
use Rattle.papaya_words.specs.declared.resize_mode.ResizeMode.{ResizeMode}
use Rattle.papaya_words.specs.declared.resize_mode.ResizeMode.TheVariants.{Incremental, Blocking}
use Rattle.papaya_call.specs.declared.ask.At.TheVariants.{Root, Next, Aborted, Done}
use Rattle.papaya_call.specs.declared.ask.StepKind.{StepKind}
use Rattle.papaya_call.specs.declared.ask.StepKind.TheVariants as kinds
use Rattle.papaya_call.specs.declared.copy_ask.CopyAsk.{CopyAsk}
use Rattle.papaya_call.specs.declared.copy_ask.CopyAsk.TheVariants.{Load, Exchange, SizeOf}
use Rattle.papaya_call.specs.declared.copy.link.Link.TheVariants.{Sizing as Link_sizing}
use Rattle.papaya_call.specs.declared.copy.link.Linked.{Linked}
use Rattle.papaya_call.specs.declared.copy.link.Linked.TheVariants.{On as Link_on, Table, Refused as Link_refused}
use Rattle.papaya_call.specs.declared.copy.settle.Settle.TheVariants.{Looking}
use Rattle.papaya_call.specs.declared.copy.settle.Settled.{Settled}
use Rattle.papaya_call.specs.declared.copy.settle.Settled.TheVariants.{On as Settle_on, Settled as Was_settled, Unfit, Refused as Settle_refused}
use Rattle.papaya_call.specs.declared.copy.settle.SlotToCopy.{SlotToCopy}
use Rattle.papaya_call.specs.declared.copy.step.Chunk.{Chunk}
use Rattle.papaya_call.specs.declared.copy.step.Cursor.{Cursor}
use Rattle.papaya_call.specs.declared.copy.step.Step.{Step}
use Rattle.papaya_call.specs.declared.copy.step.Step.TheVariants.{AtRoot, Aiming, Linking, Judging, Sizing, AtChunk, Settling, Advancing, Promoting}
use Rattle.papaya_call.specs.declared.copy.step.Stepped.{Stepped}
use Rattle.papaya_call.specs.declared.copy.step.Stepped.TheVariants.{On, Root as At_root, Last, Further, Over, Refused as Was_refused}
use Rattle.papaya_call.specs.Link as links
use Rattle.papaya_call.specs.Link.{IsValidLink, follows, link_ask, link_kind}
use Rattle.papaya_call.specs.Settle as settles
use Rattle.papaya_call.specs.Settle.{IsValidSettle, settle_ask, settle_follows, settle_kind}

-- the chunk whose word is loaded has at least one slot
pub record IsValidCursor (cursor : Cursor) : Type 0 where
  pub some : 1 ≤ cursor.slots
  pub start : cursor.start ≤ cursor.len
  pub at : cursor.at ≤ cursor.begun
  pub begun : cursor.begun < cursor.len
  pub most : cursor.len ≤ 2 ^ 32

-- the slot that is copied is in the chunk
pub record IsValidChunk (chunk : Chunk) : Type 0 where
  pub cursor : IsValidCursor chunk.cursor
  pub at : chunk.at < chunk.end
  pub within : chunk.end ≤ chunk.cursor.len

-- the copy is within its chunk
abbrev pub IsValidStep : Step → Type 0
IsValidStep (Linking from link) = IsValidLink link
IsValidStep (AtChunk cursor) = IsValidCursor cursor
IsValidStep (Settling chunk settle) = IsValidChunk chunk × IsValidSettle settle
IsValidStep (Advancing cursor) = IsValidCursor cursor
IsValidStep _ = Unit {0}

abbrev pub IsValidStepped : Stepped → Type 0
IsValidStepped (On step) = IsValidStep step
IsValidStepped (Further chunk) = IsValidChunk chunk
IsValidStepped _ = Unit {0}

-- the slot that is copied now
abbrev pub slot_of : Chunk → SlotToCopy
slot_of chunk = record { from = chunk.cursor.from; index = chunk.at; to = chunk.cursor.to }

-- its ask
abbrev pub step_ask : Step → CopyAsk
step_ask AtRoot = Load Root
step_ask (Aiming from behind) = Load (Next behind)
step_ask (Linking from link) = link_ask link
step_ask (Judging from to) = Load (Aborted to)
step_ask (Sizing from to) = SizeOf from
step_ask (AtChunk cursor) = Load (Done cursor.to cursor.at)
step_ask (Settling chunk settle) = settle_ask settle (slot_of chunk)
step_ask (Advancing cursor) = Exchange (Done cursor.to cursor.at) 0 1
step_ask (Promoting from to) = Exchange Root from to

-- the kind of the exchange that it asks for, if it asks for one
abbrev pub step_kind : Step → Option StepKind
step_kind (Linking from link) = link_kind link
step_kind (Settling chunk settle) = settle_kind settle
step_kind (Advancing cursor) = Some kinds.Advance
step_kind (Promoting from to) = Some kinds.Promote
step_kind _ = None

-- the table after which a table is being made, 0 if none is
abbrev pub step_follows : Step → ℕ
step_follows (Linking from link) = follows link
step_follows (Settling chunk settle) = settle_follows settle
step_follows _ = 0

-- The state after the number of the table behind `behind` was loaded. Without blocking copies go to
-- that table. With blocking they go to it unless it was aborted, and it is made if there is none.
abbrev pub aimed : (from behind : ℕ) → ResizeMode → (next : ℕ) → Stepped
aimed from behind (Incremental chunk) next = if next == 0 then Last from else On (Sizing from next)
aimed from behind Blocking next = if next == 0
    then On (Linking from (Link_sizing behind from (not (behind == from))))
    else On (Judging from next)

-- the state after the word that says whether table `to` was aborted
abbrev pub judged : (from to word : ℕ) → Step
judged from to word = if word == 0 then Sizing from to else Aiming from to

-- a cursor that begins at chunk `start`
abbrev pub cursor_from : (from to len slots start : ℕ) → Cursor
cursor_from from to len slots start = record {
  from = from;
  to = to;
  len = len;
  slots = slots;
  start = start;
  at = start;
  begun = start * slots;
  wrapped = false;
  copied = false;
}

-- a cursor that begins at the chunk that `number` picks
abbrev pub first_cursor : (from to len : ℕ) → ResizeMode → (number : ℕ) → Cursor
first_cursor from to len mode number =
    cursor_from from to len (chunk_len mode) (number % chunk_count len (chunk_len mode))

-- the cursor at the next chunk; `first_chunk` is the cursor after it wrapped around to the first
abbrev pub next_chunk : Cursor → Cursor
next_chunk cursor = record cursor { at = cursor.at + 1; begun = cursor.begun + cursor.slots }

abbrev pub first_chunk : Cursor → Cursor
first_chunk cursor = record cursor { at = 0; begun = 0; wrapped = true }

-- whether there is a chunk after this one whose word was not loaded
abbrev pub is_further : Cursor → Bool
is_further cursor = nat_lt cursor.slots (cursor.len - cursor.begun)
    && not (cursor.wrapped && nat_le cursor.start (cursor.at + 1))

-- the state if this chunk is copied: the next word is loaded, or, if all were, the next table is
-- promoted
abbrev pub next_cursor : Cursor → Step
next_cursor cursor = if is_further cursor then AtChunk (next_chunk cursor)
    else if not cursor.wrapped && nat_lt 0 cursor.start then AtChunk (first_chunk cursor)
    else Promoting cursor.from cursor.to

-- the slot after the last one of the chunk
abbrev pub end_of : Cursor → ℕ
end_of cursor = if nat_lt cursor.slots (cursor.len - cursor.begun) then cursor.begun + cursor.slots
    else cursor.len

abbrev pub chunk_at : Cursor → Chunk
chunk_at cursor = record { cursor = cursor; at = cursor.begun; end = end_of cursor }

-- the state after the word of the chunk, which is 0 if the chunk is not copied
abbrev pub chunk_read : Cursor → (done : ℕ) → Stepped
chunk_read cursor done = if not (done == 0) then On (next_cursor cursor)
    else if cursor.copied then Further (chunk_at cursor)
    else On (Settling (chunk_at cursor) Looking)

-- the state after this caller has copied the chunk
abbrev pub advanced : Cursor → Stepped
advanced cursor = On (next_cursor (record cursor { copied = true }))

-- the chunk at its next slot; `next_in` is the state there, or after the last slot of the chunk
abbrev pub next_slot : Chunk → Chunk
next_slot chunk = record chunk { at = chunk.at + 1 }

abbrev pub next_in : Chunk → Stepped
next_in chunk = if nat_lt chunk.at chunk.end then On (Settling chunk Looking)
    else On (Advancing chunk.cursor)

-- the state after a step of the copy of a slot
abbrev pub settled_to : Chunk → Settled → Stepped
settled_to chunk (Settle_on settle) = On (Settling chunk settle)
settled_to chunk Was_settled = next_in (next_slot chunk)
settled_to chunk (Unfit table) = On (Aiming chunk.cursor.from table)
settled_to chunk (Settle_refused refused) = Was_refused refused

-- the state after a step of the making of a table
abbrev pub linked_to : (from : ℕ) → Linked → Stepped
linked_to from (Link_on link) = On (Linking from link)
linked_to from (Table table) = On (Judging from table)
linked_to from (Link_refused refused) = Was_refused refused

-- the state after an answer; an answer that was not asked for changes nothing
abbrev pub at_hash : Step → ℕ → Step
at_hash (Settling chunk settle) hash = Settling chunk (settles.at_hash settle hash)
at_hash step hash = step

abbrev pub at_size : Step → ResizeMode → (number slots limit : ℕ) → Step
at_size (Linking from link) mode number slots limit = Linking from (links.at_size link slots)
at_size (Sizing from to) mode number slots limit = AtChunk (first_cursor from to slots mode number)
at_size (Settling chunk settle) mode number slots limit =
    Settling chunk (settles.at_size settle slots limit)
at_size step mode number slots limit = step

abbrev pub at_word : Step → ResizeMode → ℕ → Stepped
at_word AtRoot mode word = At_root word
at_word (Aiming from behind) mode word = aimed from behind mode word
at_word (Judging from to) mode word = On (judged from to word)
at_word (AtChunk cursor) mode word = chunk_read cursor word
at_word (Settling chunk settle) mode word = settled_to chunk
    (settles.at_word settle (slot_of chunk) mode word)
at_word step mode word = On step

abbrev pub at_yes : Step → ResizeMode → Bool → Stepped
at_yes (Settling chunk settle) mode same = settled_to chunk (settles.at_yes settle mode same)
at_yes step mode same = On step

abbrev pub at_exchanged : Step → ResizeMode → Stepped
at_exchanged (Linking from link) mode = linked_to from (links.at_exchanged link)
at_exchanged (Settling chunk settle) mode = settled_to chunk
    (settles.at_exchanged settle (slot_of chunk) mode)
at_exchanged (Advancing cursor) mode = advanced cursor
at_exchanged (Promoting from to) mode = Over
at_exchanged step mode = On step

abbrev pub at_ok : Step → ResizeMode → Stepped
at_ok (Settling chunk settle) mode = settled_to chunk (settles.at_ok settle mode)
at_ok step mode = On step

abbrev pub at_found : Step → ResizeMode → ℕ → Stepped
at_found (Linking from link) mode word = linked_to from (links.at_found link word)
at_found (Settling chunk settle) mode word = settled_to chunk
    (settles.at_found settle (slot_of chunk) mode word)
at_found (Advancing cursor) mode word = advanced cursor
at_found (Promoting from to) mode word = Over
at_found step mode word = On step

abbrev pub at_count : Step → ResizeMode → (count initial : ℕ) → Stepped
at_count (Linking from link) mode count initial = linked_to from
    (links.at_count link mode count initial)
at_count (Settling chunk settle) mode count initial =
    settled_to chunk (settles.at_count settle mode count initial)
at_count step mode count initial = On step

abbrev pub at_made : Step → ℕ → Step
at_made (Linking from link) number = Linking from (links.at_made link number)
at_made (Settling chunk settle) number = Settling chunk (settles.at_made settle number)
at_made step number = step

abbrev pub at_refused : Step → ResizeMode → Refused → Stepped
at_refused (Linking from link) mode refused = linked_to from (links.at_refused link refused)
at_refused (Settling chunk settle) mode refused =
    settled_to chunk (settles.at_refused settle mode refused)
at_refused step mode refused = On step
