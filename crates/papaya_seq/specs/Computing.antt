-- How a compute is made: what is kept of its closure's result, and what the call returns for its
-- machine's reply.
use Rattle.std.specs.Prelude.{◌≡◌, ℕ, Option, Some, Result, Ok, Err}
use Rattle.papaya_words.specs.declared.refused.Refused.{Refused}
use Rattle.papaya_call.specs.declared.answers.Operation.{Operation}
use Rattle.papaya_call.specs.declared.answers.Operation.TheVariants.{Insert, Remove, Abort}
use Rattle.papaya_call.specs.declared.ask.Answer.{Answer}
use Rattle.papaya_call.specs.declared.ask.Answer.TheVariants.{Op}
use Rattle.papaya_call.specs.declared.ask.OpKind.TheVariants as kinds
use Rattle.papaya_call.specs.declared.call.Reply.{Reply}
use Rattle.papaya_call.specs.declared.call.Reply.TheVariants as replies
use Rattle.papaya_core_store.specs.declared.pairs.Part.{Part}
use Rattle.papaya_core_store.specs.declared.pairs.Part.TheVariants.{Own}
use Rattle.papaya_words_keys.specs.declared.results.Computed.{Computed}
use Rattle.papaya_words_keys.specs.declared.results.Computed.TheVariants.{Inserted, Updated, Removed, Aborted}

-- the machine is given only the kind of the operation that the closure returned; the value to
-- insert, or the value to abort with, is kept by the call
abbrev pub IsKept : {V T : Type 0} → Operation V T → Answer → Option (Part V) → Option (Part V)
    → Option T → Option T → Type 0
IsKept (Insert v) answer value value' aborted aborted' = (answer ≡ Op kinds.Insert)
    × (value' ≡ Some (Own v)) × (aborted' ≡ aborted)
IsKept Remove answer value value' aborted aborted' = (answer ≡ Op kinds.Remove) × (value' ≡ value)
    × (aborted' ≡ aborted)
IsKept (Abort t) answer value value' aborted aborted' = (answer ≡ Op (kinds.Abort 0))
    × (value' ≡ value) × (aborted' ≡ Some t)

-- this is a reply of a compute; if the closure aborted the compute, the value that it aborted with
-- was kept
abbrev pub Replies : {T : Type 0} → Reply → Option T → Type 0
Replies (replies.Inserted n) aborted = Unit {0}
Replies (replies.Replaced m n) aborted = Unit {0}
Replies (replies.Removed n) aborted = Unit {0}
Replies {T = T} (replies.Aborted u) aborted = (t : T) × (aborted ≡ Some t)
Replies (replies.Refused refused) aborted = Unit {0}
Replies replies.Absent aborted = ⊥
Replies (replies.Found n) aborted = ⊥
Replies (replies.Occupied n) aborted = ⊥
Replies (replies.Kept n) aborted = ⊥
Replies replies.Done aborted = ⊥

-- `answer` is what the compute returns for this reply
abbrev pub IsComputed : {T : Type 0} → Reply → Option T → Result (Computed ℕ T) Refused → Type 0
IsComputed (replies.Inserted n) aborted answer = answer ≡ Ok (Inserted n)
IsComputed (replies.Replaced m n) aborted answer = answer ≡ Ok (Updated m n)
IsComputed (replies.Removed n) aborted answer = answer ≡ Ok (Removed n)
IsComputed {T = T} (replies.Aborted u) aborted answer = (t : T) × (aborted ≡ Some t)
    × (answer ≡ Ok (Aborted t))
IsComputed (replies.Refused refused) aborted answer = answer ≡ Err refused
IsComputed replies.Absent aborted answer = ⊥
IsComputed (replies.Found n) aborted answer = ⊥
IsComputed (replies.Occupied n) aborted answer = ⊥
IsComputed (replies.Kept n) aborted answer = ⊥
IsComputed replies.Done aborted answer = ⊥

-- the reply that corresponds to the result of a compute
abbrev pub reply_of : Result (Computed ℕ ℕ) Refused → Reply
reply_of (Ok (Inserted n)) = replies.Inserted n
reply_of (Ok (Updated m n)) = replies.Replaced m n
reply_of (Ok (Removed n)) = replies.Removed n
reply_of (Ok (Aborted t)) = replies.Aborted t
reply_of (Err refused) = replies.Refused refused
