-- The copy of one slot: its asks, and the state after each answer.
use Rattle.std.specs.Prelude.{ℕ, Bool, Option, Some, None}
use Rattle.papaya_words.specs.Word.{kind_of, pair_of, marked_word, copied_word, shut_hint}
use Rattle.papaya_words.specs.declared.refused.Refused.{Refused}
use Rattle.papaya_words.specs.declared.resize_mode.ResizeMode.{ResizeMode}
use Rattle.papaya_words.specs.declared.resize_mode.ResizeMode.TheVariants.{Incremental, Blocking}
use Rattle.papaya_words.specs.declared.word.Kind.{Kind}
use Rattle.papaya_words.specs.declared.word.Kind.TheVariants as word_kinds
use Rattle.papaya_call.specs.declared.ask.At.TheVariants as words
use Rattle.papaya_call.specs.declared.ask.StepKind.{StepKind}
use Rattle.papaya_call.specs.declared.ask.StepKind.TheVariants as kinds
use Rattle.papaya_call.specs.declared.copy.carry.Carried.{Carried}
use Rattle.papaya_call.specs.declared.copy.carry.Carried.TheVariants.{On as Carry_on, Carried as Was_carried, Unfit as Carry_unfit, Refused as Carry_refused}
use Rattle.papaya_call.specs.declared.copy.carry.Carry.TheVariants.{Hashing}
use Rattle.papaya_call.specs.declared.copy_ask.CopyAsk.{CopyAsk}
use Rattle.papaya_call.specs.declared.copy_ask.CopyAsk.TheVariants.{Load, Exchange, WriteHint}
use Rattle.papaya_call.specs.declared.copy.settle.Settle.{Settle}
use Rattle.papaya_call.specs.declared.copy.settle.Settle.TheVariants.{Looking, Closing, Shutting, Marking, Carrying, Finishing}
use Rattle.papaya_call.specs.declared.copy.settle.Settled.{Settled}
use Rattle.papaya_call.specs.declared.copy.settle.Settled.TheVariants.{On, Settled as Was_settled, Unfit, Refused as Was_refused}
use Rattle.papaya_call.specs.declared.copy.settle.SlotToCopy.{SlotToCopy}
use Rattle.papaya_call.specs.Carry as carries
use Rattle.papaya_call.specs.Carry.{IsValidCarry, carry_ask, carry_follows, carry_kind}

-- the carry in it is within its table
abbrev pub IsValidSettle : Settle → Type 0
IsValidSettle (Carrying word carry) = IsValidCarry carry
IsValidSettle _ = Unit {0}

abbrev pub IsValidSettled : Settled → Type 0
IsValidSettled (On settle) = IsValidSettle settle
IsValidSettled _ = Unit {0}

-- the word once its pair is marked; `copied_as` is the word once its pair is copied
abbrev pub marked_as : ℕ → ℕ
marked_as word = marked_word (pair_of word)

abbrev pub copied_as : ℕ → ℕ
copied_as word = copied_word (pair_of word)

-- its ask
abbrev pub settle_ask : Settle → SlotToCopy → CopyAsk
settle_ask Looking slot = Load (words.Slot slot.from slot.index)
settle_ask Closing slot = Exchange (words.Slot slot.from slot.index) 0 5
settle_ask Shutting slot = WriteHint slot.from slot.index shut_hint
settle_ask (Marking word) slot = Exchange (words.Slot slot.from slot.index) word (marked_as word)
settle_ask (Carrying word carry) slot = carry_ask carry word
settle_ask (Finishing word) slot = Exchange (words.Slot slot.from slot.index) word (copied_as word)

-- the kind of the exchange that it asks for, if it asks for one
abbrev pub settle_kind : Settle → Option StepKind
settle_kind Looking = None
settle_kind Closing = Some kinds.Close
settle_kind Shutting = None
settle_kind (Marking word) = Some kinds.Mark
settle_kind (Carrying word carry) = carry_kind carry
settle_kind (Finishing word) = Some kinds.Finish

-- the table after which a table is being made, 0 if none is
abbrev pub settle_follows : Settle → ℕ
settle_follows (Carrying word carry) = carry_follows carry
settle_follows _ = 0

-- the state after a word of this kind was found in the slot
abbrev pub look_at : Kind → SlotToCopy → ℕ → Settled
look_at word_kinds.Empty slot word = On Closing
look_at word_kinds.Live slot word = On (Marking word)
look_at word_kinds.Marked slot word = On (Carrying word (Hashing slot.to))
look_at _ slot word = Was_settled

abbrev pub look : SlotToCopy → ℕ → Settled
look slot word = look_at (kind_of word) slot word

-- the state once the pair is in a table that takes it: without blocking its word has yet to become
-- Copied
abbrev pub finishes : (marked : ℕ) → ResizeMode → Settled
finishes marked (Incremental chunk) = On (Finishing marked)
finishes marked Blocking = Was_settled

-- the state after a step of the carry
abbrev pub settled_by : (marked : ℕ) → ResizeMode → Carried → Settled
settled_by marked mode (Carry_on carry) = On (Carrying marked carry)
settled_by marked mode Was_carried = finishes marked mode
settled_by marked mode (Carry_unfit table) = Unfit table
settled_by marked mode (Carry_refused refused) = Was_refused refused

-- the state after an answer; an answer that was not asked for changes nothing
abbrev pub at_hash : Settle → ℕ → Settle
at_hash (Carrying word carry) hash = Carrying word (carries.at_hash carry hash)
at_hash settle hash = settle

abbrev pub at_size : Settle → (slots limit : ℕ) → Settle
at_size (Carrying word carry) slots limit = Carrying word (carries.at_size carry slots limit)
at_size settle slots limit = settle

abbrev pub at_word : Settle → SlotToCopy → ResizeMode → ℕ → Settled
at_word Looking slot mode word = look slot word
at_word (Carrying marked carry) slot mode word =
    settled_by marked mode (carries.at_word carry mode word)
at_word settle slot mode word = On settle

abbrev pub at_yes : Settle → ResizeMode → Bool → Settled
at_yes (Carrying marked carry) mode same = settled_by marked mode (carries.at_yes carry mode same)
at_yes settle mode same = On settle

abbrev pub at_exchanged : Settle → SlotToCopy → ResizeMode → Settled
at_exchanged Looking slot mode = On Looking
at_exchanged Closing slot mode = On Shutting
at_exchanged Shutting slot mode = On Shutting
at_exchanged (Marking word) slot mode = On (Carrying (marked_as word) (Hashing slot.to))
at_exchanged (Carrying marked carry) slot mode = settled_by marked mode (carries.at_exchanged carry)
at_exchanged (Finishing word) slot mode = Was_settled

abbrev pub at_ok : Settle → ResizeMode → Settled
at_ok Shutting mode = Was_settled
at_ok (Carrying marked carry) mode = settled_by marked mode (carries.at_ok carry)
at_ok settle mode = On settle

abbrev pub at_found : Settle → SlotToCopy → ResizeMode → ℕ → Settled
at_found Looking slot mode word = On Looking
at_found Closing slot mode word = look slot word
at_found Shutting slot mode word = On Shutting
at_found (Marking old) slot mode word = look slot word
at_found (Carrying marked carry) slot mode word =
    settled_by marked mode (carries.at_found carry mode word)
at_found (Finishing old) slot mode word = Was_settled

abbrev pub at_count : Settle → ResizeMode → (count initial : ℕ) → Settled
at_count (Carrying marked carry) mode count initial =
    settled_by marked mode (carries.at_count carry mode count initial)
at_count settle mode count initial = On settle

abbrev pub at_made : Settle → ℕ → Settle
at_made (Carrying marked carry) number = Carrying marked (carries.at_made carry number)
at_made settle number = settle

abbrev pub at_refused : Settle → ResizeMode → Refused → Settled
at_refused (Carrying marked carry) mode refused =
    settled_by marked mode (carries.at_refused carry refused)
at_refused settle mode refused = On settle
