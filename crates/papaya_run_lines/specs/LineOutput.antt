-- The output of the lines of a script, by the trace of its run.
use Rattle.std.specs.Prelude.{◌≡◌, ◌≢◌, ℕ, ◌+◌, ◌==◌, nat_lt, Bool, true, false, ◌||◌, not}
use Rattle.std.specs.Prelude.{if◌then◌else◌, List, [], ◌∷◌, ◌++◌, filter_map, replicate, reverse}
use Rattle.std.specs.Prelude.{set, get_or, Option, Some, None, option_map, ◌⊎◌, codes}
use Rattle.std.specs.Fmt.{decimal}
use Rattle.papaya_call.specs.declared.call.Reply.{Reply}
use Rattle.papaya_call.specs.declared.call.Reply.TheVariants.{Done}
use Rattle.papaya_core_store.specs.Store.{StoreState, pair_of}
use Rattle.papaya_core_timeline.specs.declared.trace.Entry.{Entry}
use Rattle.papaya_core_timeline.specs.declared.trace.Event.{Event}
use Rattle.papaya_core_timeline.specs.declared.trace.Event.TheVariants.{Begun, Gave, Replied}
use Rattle.papaya_run_shell.specs.Failure.{without_memory}
use Rattle.papaya_run_shell.specs.declared.failure.Failure.{Failure}
use Rattle.papaya_run_shell.specs.declared.failure.Failure.TheVariants.{Output}
use Rattle.papaya_run_lines.specs.Printed.{text_of}
use Rattle.papaya_run_lines.specs.Replies.{printed_of}
use Rattle.papaya_run_lines.specs.Walk.{IsByKey}
use Rattle.papaya_run_lines.specs.declared.printed.Printed.{Printed}
use Rattle.papaya_run_lines.specs.declared.printed.Printed.TheVariants as printed
use Rattle.papaya_run_lines.specs.declared.script.Line.{Line}
use Rattle.papaya_run_lines.specs.declared.script.LinePart.{LinePart}
use Rattle.papaya_run_lines.specs.declared.script.LinePart.TheVariants as part

-- The entries of this turn at the front of the trace.
abbrev pub own_of : ℕ → List Entry → List Entry
own_of turn [] = []
own_of turn (entry ∷ entries) = if entry.turn == turn then entry ∷ own_of turn entries else []

-- The entries after those of this turn at the front.
abbrev pub behind : ℕ → List Entry → List Entry
behind turn [] = []
behind turn (entry ∷ entries) = if entry.turn == turn then behind turn entries else entry ∷ entries

-- The reply that the event is, or `other` if it is none.
abbrev pub reply_or : Option Reply → Event → Option Reply
reply_or other (Replied reply) = Some reply
reply_or other _ = other

-- The first reply among these entries.
abbrev pub reply_among : List Entry → Option Reply
reply_among [] = None
reply_among (entry ∷ entries) = reply_or (reply_among entries) entry.event

-- The pairs that a call returned, of which there are none when it begins: this event's, if it
-- returns one, in front of those before.
abbrev pub gave_by : List ℕ → Event → List ℕ
gave_by before Begun = []
gave_by before (Gave n) = n ∷ before
gave_by before _ = before

-- The pairs that the caller's last call returned up to this turn, by these entries, the newest
-- first.
abbrev pub gave_to : (caller turn : ℕ) → List Entry → List ℕ
gave_to caller turn [] = []
gave_to caller turn (entry ∷ before) =
    if nat_lt turn entry.turn || not (entry.caller == caller) then gave_to caller turn before
    else gave_by (gave_to caller turn before) entry.event

-- Whether a line of this part begins a call.
abbrev pub begins_call : LinePart → Bool
begins_call part.Update = true
begins_call part.Walk = true
begins_call part.Call = true
begins_call part.Step = false
begins_call part.Finish = false

-- The kind of each caller's last call, after this line.
abbrev pub with_call : List LinePart → Line → List LinePart
with_call calls line =
    if begins_call line.part then set calls line.caller line.part else calls

-- The kind of the last call of this line's caller.
abbrev pub call_of : List LinePart → Line → LinePart
call_of calls line = get_or (with_call calls line) line.caller line.part

-- The same before the first line, when no caller has begun a call.
abbrev pub no_calls : List LinePart
no_calls = replicate 64 part.Call

-- The writer failed, or memory for the entries of an iteration ran out.
abbrev pub IsPrintFailure : Failure → Type 0
IsPrintFailure why = (why ≡ Output) ⊎ (why ≡ without_memory)

-- A line that is printed for a caller.
abbrev pub told_text : ℕ → List ℕ → List ℕ
told_text caller text = decimal caller ++ codes ": " ++ text ++ 10 ∷ []

abbrev pub reply_text : ℕ → Option Printed → List ℕ
reply_text caller None = []
reply_text caller (Some p) = told_text caller (text_of p)

-- The output if the turn gave no reply: for `finish`, that its call is still running.
abbrev pub unended_text : ℕ → LinePart → List ℕ
unended_text caller part.Finish = told_text caller (codes "running")
unended_text caller _ = []

module _ {S : Type 0} (store : StoreState ℕ ℕ S) where
  -- The keys and the values of the pairs with these numbers.
  abbrev pub pairs_in : List ℕ → List (ℕ × ℕ)
  pairs_in = filter_map (λ n. option_map (λ p. (p.key, p.value)) (pair_of store n))

  -- The printed form of the reply of a call of this kind: for an iteration that is done, all pairs
  -- that it returned, ordered by key.
  abbrev pub Replies : LinePart → (given : List ℕ) → Reply → Option Printed → Type 0
  Replies part.Walk given Done text = (pairs : List (ℕ × ℕ)) × IsByKey (pairs_in given) pairs
      × (text ≡ Some (printed.Walk pairs))
  Replies part.Update given reply text = text ≡ printed_of store true reply
  Replies _ given reply text = text ≡ printed_of store false reply

  -- The output of a line, by the reply of its turn.
  abbrev pub IsLineOutput : LinePart → Line → (given : List ℕ) → Option Reply → List ℕ → Type 0
  IsLineOutput kind line given None text = text ≡ unended_text line.caller line.part
  IsLineOutput kind line given (Some reply) text = (p : Option Printed)
      × Replies kind given reply p × (text ≡ reply_text line.caller p)

  -- The output of these lines, one after the other. The first of them has this turn, and `entries`
  -- are the rest of the trace from there. If a turn has no entry, it was passed over: its line and
  -- all later lines print nothing.
  abbrev pub PrintsLines : (trace : List Entry) → List LinePart → List Line → (turn : ℕ) → List Entry
      → List ℕ → (passed_over : Option ℕ) → Type 0
  PrintsLines trace calls [] turn entries text passed = (text ≡ []) × (passed ≡ None)
  PrintsLines trace calls (line ∷ lines) turn entries text passed =
      ((own_of turn entries ≡ []) × (text ≡ []) × (passed ≡ Some line.number))
      ⊎ ((own_of turn entries ≢ []) × (first : List ℕ) × (rest : List ℕ)
      × IsLineOutput (call_of calls line) line (gave_to line.caller turn (reverse trace))
      (reply_among (own_of turn entries)) first
      × PrintsLines trace (with_call calls line) lines (turn + 1) (behind turn entries) rest passed
      × (text ≡ first ++ rest))
