-- The making of the table after another one: its asks, and the state after each answer.
use Rattle.std.specs.Prelude.{ℕ, ◌≤◌, ◌^◌, ◌==◌, Bool, nat_le, max, if◌then◌else◌, Option, Some, None}
use Rattle.std.specs.Int.{IsPowerOfTwo}
use Rattle.papaya_words.specs.Chunks.{chunk_count, chunk_len}
use Rattle.papaya_words.specs.Table.{length_after, limit_after}
use Rattle.papaya_words.specs.declared.refused.Refused.{Refused}
use Rattle.papaya_words.specs.declared.refused.Refused.TheVariants.{Capacity}
use Rattle.papaya_words.specs.declared.resize_mode.ResizeMode.{ResizeMode}
use Rattle.papaya_call.specs.declared.ask.At.TheVariants.{Next}
use Rattle.papaya_call.specs.declared.ask.StepKind.{StepKind}
use Rattle.papaya_call.specs.declared.ask.StepKind.TheVariants as kinds
use Rattle.papaya_call.specs.declared.copy_ask.CopyAsk.{CopyAsk}
use Rattle.papaya_call.specs.declared.copy_ask.CopyAsk.TheVariants.{Exchange, SizeOf, Count, MakeTable}
use Rattle.papaya_call.specs.declared.copy.link.Link.{Link}
use Rattle.papaya_call.specs.declared.copy.link.Link.TheVariants.{Sizing, Measuring, Counting, Making, Linking}
use Rattle.papaya_call.specs.declared.copy.link.Linked.{Linked}
use Rattle.papaya_call.specs.declared.copy.link.Linked.TheVariants.{On, Table, Refused as Was_refused}
use Rattle.papaya_call.specs.Search.{IsSize}

-- if the ask is to make a table, it has a size that tables may have
abbrev pub IsFitCopyAsk : CopyAsk → Type 0
IsFitCopyAsk (MakeTable slots limit chunks) = IsSize slots limit
IsFitCopyAsk _ = Unit {0}

-- the lengths in this state are lengths that tables may have
abbrev pub IsValidLink : Link → Type 0
IsValidLink (Measuring after copied unfit len) = IsPowerOfTwo len × (len ≤ 2 ^ 32)
IsValidLink (Counting after unfit len copied) = IsPowerOfTwo len × (len ≤ 2 ^ 32)
IsValidLink (Making after len limit chunks) = IsSize len limit
IsValidLink _ = Unit {0}

abbrev pub IsValidLinked : Linked → Type 0
IsValidLinked (On link) = IsValidLink link
IsValidLinked _ = Unit {0}

-- its ask
abbrev pub link_ask : Link → CopyAsk
link_ask (Sizing after copied unfit) = SizeOf after
link_ask (Measuring after copied unfit len) = SizeOf copied
link_ask (Counting after unfit len copied) = Count
link_ask (Making after len limit chunks) = MakeTable len limit chunks
link_ask (Linking after table chunks) = Exchange (Next after) 0 table

-- the kind of the exchange that it asks for, if it asks for one
abbrev pub link_kind : Link → Option StepKind
link_kind (Linking after table chunks) = Some kinds.Link
link_kind _ = None

-- the table that is to get a next one
abbrev pub follows : Link → ℕ
follows (Sizing after copied unfit) = after
follows (Measuring after copied unfit len) = after
follows (Counting after unfit len copied) = after
follows (Making after len limit chunks) = after
follows (Linking after table chunks) = after

-- the state after an answer; an answer that was not asked for changes nothing
abbrev pub at_size : Link → (slots : ℕ) → Link
at_size (Sizing after copied unfit) slots = if copied == after
    then Counting after unfit slots slots else Measuring after copied unfit slots
at_size (Measuring after copied unfit len) slots = Counting after unfit len slots
at_size link slots = link

-- the state that makes a table of `asked` slots, or the least length, after one of `before` slots;
-- it has words for `chunks` chunks of the table that is copied to it
abbrev pub making : (after before : ℕ) (unfit : Bool) (chunks asked : ℕ) → Link
making after before unfit chunks asked = Making after (max asked 8)
    (limit_after (max asked 8) before unfit) chunks

abbrev pub counted : (after before : ℕ) (unfit : Bool) (chunks asked : ℕ) → Linked
counted after before unfit chunks asked = if nat_le asked (2 ^ 32)
    then On (making after before unfit chunks asked) else Was_refused Capacity

abbrev pub at_count : Link → ResizeMode → (count initial : ℕ) → Linked
at_count (Counting after unfit len copied) mode count initial = counted after len unfit
    (chunk_count copied (chunk_len mode)) (length_after len count initial unfit)
at_count link mode count initial = On link

abbrev pub at_made : Link → ℕ → Link
at_made (Making after len limit chunks) number = Linking after number chunks
at_made link number = link

abbrev pub at_refused : Link → Refused → Linked
at_refused (Making after len limit chunks) refused = Was_refused refused
at_refused link refused = On link

abbrev pub at_exchanged : Link → Linked
at_exchanged (Linking after table chunks) = Table table
at_exchanged link = On link

-- the state after another caller has linked a table first
abbrev pub at_found : Link → ℕ → Linked
at_found (Linking after table chunks) word = Table word
at_found link word = On link
