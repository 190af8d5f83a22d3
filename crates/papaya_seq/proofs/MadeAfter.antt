-- The pairs that a call has made, after an answer: a fact that holds after each kind of change to
-- them holds after every answer.
use Rattle.std.proofs.Common.{ℕ, Option, None, Some}
use Rattle.papaya_call.specs.declared.ask.Answer.{Answer as Call_answer}
use Rattle.papaya_call.specs.declared.ask.Answer.TheVariants.{Word as Word_read, Exchanged}
use Rattle.papaya_call.specs.declared.ask.Answer.TheVariants.{Found as Found_instead, Yes, Op, Size}
use Rattle.papaya_call.specs.declared.ask.Answer.TheVariants.{Made as Made_number, Ok as Ok_done}
use Rattle.papaya_call.specs.declared.ask.Answer.TheVariants.{Refused as Was_refused}
use Rattle.papaya_call.specs.declared.ask.OpKind.{OpKind}
use Rattle.papaya_call.specs.declared.call.Task.{Task}
use Rattle.papaya_call.specs.declared.call.Task.TheVariants as tasks
use Rattle.papaya_call.specs.declared.machine.Machine.{Machine as Call_machine}
use Rattle.papaya_call.specs.declared.machine.State.{State as Stage}
use Rattle.papaya_call.specs.declared.machine.State.TheVariants.{AtRoot, Making, Opening, Searching}
use Rattle.papaya_call.specs.declared.machine.State.TheVariants.{Writing, Offering, Showing}
use Rattle.papaya_call.specs.declared.machine.State.TheVariants.{Pairing, Putting, Burying}
use Rattle.papaya_call.specs.declared.machine.State.TheVariants.{Counting, Noting, Uncounting}
use Rattle.papaya_call.specs.declared.machine.State.TheVariants.{Leaving, Growing, Ended}
use Rattle.papaya_call.specs.declared.made.Made.{Made}
use Rattle.papaya_call.specs.Made.{answered, taken, told}
use Rattle.papaya_call.specs.Machine.{after, made_at_exchanged, made_at_op, made_at_word, made_decided, made_in, number_told, write_made, write_taken}
use Rattle.papaya_call.specs.Write.{serves}

module _ (m : Call_machine) (Holds : Call_answer → Made → Type 0) where
  -- the record stays, the count of numbers that was read is kept, a number is taken, or a value is
  -- returned
  pub record HoldsOfMade : Type 0 where
    pub same : (a : Call_answer) → Holds a m.made
    pub told : (a : Call_answer) (count : ℕ) → Holds a (number_told (told m.made count) m.made)
    pub taken : (a : Call_answer) → Holds a (taken m.made)
    pub answered : (a : Call_answer) (kind : OpKind) → Holds a (answered kind m.made)

  module _ (h : HoldsOfMade) (a : Call_answer) where
    write_read : (served : Option ℕ) (count : ℕ) → Holds a (write_made served m.made count)
    write_read None count = h.told a count
    write_read (Some n) count = h.same a

    word_read : (s : Stage) (count : ℕ) → Holds a (made_at_word m.made count s)
    word_read (Writing write) count = write_read (serves m.made write) count
    word_read (Pairing purpose) count = h.told a count
    word_read AtRoot count = h.same a
    word_read Making count = h.same a
    word_read (Opening t) count = h.same a
    word_read (Searching search) count = h.same a
    word_read (Offering gap) count = h.same a
    word_read (Showing removal) count = h.same a
    word_read (Putting put) count = h.same a
    word_read (Burying removal) count = h.same a
    word_read (Counting claimed) count = h.same a
    word_read (Noting claimed) count = h.same a
    word_read (Uncounting n) count = h.same a
    word_read (Leaving t) count = h.same a
    word_read (Growing need) count = h.same a
    word_read (Ended reply) count = h.same a

    write_exchanged : (served : Option ℕ) → Holds a (write_taken served m.made)
    write_exchanged None = h.taken a
    write_exchanged (Some n) = h.same a

    exchanged : (s : Stage) → Holds a (made_at_exchanged m.made s)
    exchanged (Writing write) = write_exchanged (serves m.made write)
    exchanged (Pairing purpose) = h.taken a
    exchanged AtRoot = h.same a
    exchanged Making = h.same a
    exchanged (Opening t) = h.same a
    exchanged (Searching search) = h.same a
    exchanged (Offering gap) = h.same a
    exchanged (Showing removal) = h.same a
    exchanged (Putting put) = h.same a
    exchanged (Burying removal) = h.same a
    exchanged (Counting claimed) = h.same a
    exchanged (Noting claimed) = h.same a
    exchanged (Uncounting n) = h.same a
    exchanged (Leaving t) = h.same a
    exchanged (Growing need) = h.same a
    exchanged (Ended reply) = h.same a

    decided : (task : Task) (kind : OpKind) → Holds a (made_decided task kind m.made)
    decided tasks.Compute kind = h.answered a kind
    decided tasks.Get kind = h.same a
    decided (tasks.Insert replace) kind = h.same a
    decided tasks.RemoveIf kind = h.same a

    op_answered : (kind : OpKind) (s : Stage) → Holds a (made_at_op m.task kind m.made s)
    op_answered kind (Offering gap) = h.answered a kind
    op_answered kind (Showing removal) = decided m.task kind
    op_answered kind AtRoot = h.same a
    op_answered kind Making = h.same a
    op_answered kind (Opening t) = h.same a
    op_answered kind (Searching search) = h.same a
    op_answered kind (Writing write) = h.same a
    op_answered kind (Pairing purpose) = h.same a
    op_answered kind (Putting put) = h.same a
    op_answered kind (Burying removal) = h.same a
    op_answered kind (Counting claimed) = h.same a
    op_answered kind (Noting claimed) = h.same a
    op_answered kind (Uncounting n) = h.same a
    op_answered kind (Leaving t) = h.same a
    op_answered kind (Growing need) = h.same a
    op_answered kind (Ended reply) = h.same a

  -- so after each answer, if it holds of a stored part
  pub made_after : HoldsOfMade → ((n : ℕ) → Holds (Made_number n) (made_in m.made n m.state)) → (a : Call_answer) → Holds a (after m a).made
  made_after h logged (Word_read word) = word_read h (Word_read word) m.state word
  made_after h logged Exchanged = exchanged h Exchanged m.state
  made_after h logged (Found_instead word) = word_read h (Found_instead word) m.state word
  made_after h logged (Yes same) = h.same (Yes same)
  made_after h logged (Op kind) = op_answered h (Op kind) kind m.state
  made_after h logged (Size slots limit) = h.same (Size slots limit)
  made_after h logged (Made_number n) = logged n
  made_after h logged Ok_done = h.same Ok_done
  made_after h logged (Was_refused refused) = h.same (Was_refused refused)
