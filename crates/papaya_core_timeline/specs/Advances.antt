-- One step of one caller.
use Rattle.std.specs.Prelude.{◌≡◌, ℕ, ℤ, Bool, Option, Some, None}
use Rattle.papaya_words.specs.Counter.{added}
use Rattle.papaya_words.specs.Word.{pair_of}
use Rattle.papaya_words.specs.declared.refused.Refused.{Refused}
use Rattle.papaya_call.specs.declared.ask.Ask.{Ask as Call_ask}
use Rattle.papaya_call.specs.declared.ask.Ask.TheVariants.{AddToShard, Exchange, ShowNone, ShowPair, Done as Ask_done}
use Rattle.papaya_call.specs.declared.ask.Answer.{Answer as Call_answer}
use Rattle.papaya_call.specs.declared.ask.Answer.TheVariants.{Exchanged, Yes, Op}
use Rattle.papaya_call.specs.declared.ask.StepKind.{StepKind}
use Rattle.papaya_call.specs.declared.ask.StepKind.TheVariants.{Open, Claim, Replace, Bury, Link, Mark, Close, Place, Finish, Advance, Promote, Abort, Take}
use Rattle.papaya_call.specs.declared.call.Reply.{Reply}
use Rattle.papaya_call.specs.declared.call.Reply.TheVariants.{Refused as Reply_refused}
use Rattle.papaya_call.specs.declared.copy_ask.CopyAsk.{CopyAsk}
use Rattle.papaya_call.specs.declared.copy_ask.CopyAsk.TheVariants.{Exchange as Copy_exchange}
use Rattle.papaya_call.specs.Answers.{Says}
use Rattle.papaya_call.specs.declared.chain.ask.Ask.{Ask}
use Rattle.papaya_call.specs.declared.chain.ask.Ask.TheVariants as asks
use Rattle.papaya_call.specs.declared.chain.ask.Answer.{Answer}
use Rattle.papaya_call.specs.declared.chain.ask.Answer.TheVariants as answers
use Rattle.papaya_call.specs.ChainMachine.{ask_of, kind_of_ask, after}
use Rattle.papaya_call_law.specs.Goes.{IsCause}
use Rattle.papaya_core_store.specs.declared.pairs.Running.{Running}
use Rattle.papaya_core_store.specs.Asks.{PerformsAsk}
use Rattle.papaya_core_timeline.specs.declared.trace.Event.{Event}
use Rattle.papaya_core_timeline.specs.declared.trace.Event.TheVariants.{Changed, Moved, Asked, Shown, Other}
use Rattle.papaya_core_timeline.specs.Callers.{scanning, with_call}
use Rattle.papaya_core_timeline.specs.Core.{CoreState, call_of}
use Rattle.papaya_call.specs.declared.chain.ask.ScanAsk.TheVariants as scan_asks
use Rattle.papaya_call.specs.Scanner as scanner
use Rattle.papaya_core_store.specs.declared.scans.Scanning.{Scanning}

-- the event of an exchange of this kind that succeeded: for a change of the map it names the pair
-- that went and the pair that came
abbrev pub exchange_event : StepKind → (old new : ℕ) → Event
exchange_event Claim old new = Changed Claim None (Some (pair_of new))
exchange_event Replace old new = Changed Replace (Some (pair_of old)) (Some (pair_of new))
exchange_event Bury old new = Changed Bury (Some (pair_of old)) None
exchange_event Open old new = Moved Open
exchange_event Link old new = Moved Link
exchange_event Mark old new = Moved Mark
exchange_event Close old new = Moved Close
exchange_event Place old new = Moved Place
exchange_event Finish old new = Moved Finish
exchange_event Advance old new = Moved Advance
exchange_event Promote old new = Moved Promote
exchange_event Abort old new = Moved Abort
exchange_event Take old new = Moved Take

-- the same if the exchange has a kind; no machine asks for an exchange without one
abbrev pub kind_event : Option StepKind → (old new : ℕ) → Event
kind_event None old new = Other
kind_event (Some kind) old new = exchange_event kind old new

abbrev pub answered_event : Option StepKind → (old new : ℕ) → Call_answer → Event
answered_event kind old new Exchanged = kind_event kind old new
answered_event kind old new _ = Other

-- the event of a closure that returned whether a pair is to be removed, or is to stay; such a
-- closure is called only with a pair
abbrev pub asked_event : Option ℕ → Bool → Event
asked_event None agrees = Other
asked_event (Some n) agrees = Asked n agrees

-- the event of a call of a closure: what it was called with, and what it returned
abbrev pub shown_event : Option ℕ → Call_answer → Event
shown_event shown (Op kind) = Shown shown kind
shown_event shown (Yes agrees) = asked_event shown agrees
shown_event shown _ = Other

-- the event of an ask of the call itself and its answer
abbrev pub call_event : Option StepKind → Call_ask → Call_answer → Event
call_event kind (Exchange at old new) answer = answered_event kind old new answer
call_event kind ShowNone answer = shown_event None answer
call_event kind (ShowPair n) answer = shown_event (Some n) answer
call_event kind _ answer = Other

-- the event of an ask of a copy and its answer; a copy calls no closure
abbrev pub copy_event : Option StepKind → CopyAsk → Call_answer → Event
copy_event kind (Copy_exchange at old new) answer = answered_event kind old new answer
copy_event kind _ answer = Other

-- the event of an ask and its answer
abbrev pub event_of : Option StepKind → Ask → Answer → Event
event_of kind (asks.Call ask) (answers.Call answer) = call_event kind ask answer
event_of kind (asks.Copy ask) (answers.Call answer) = copy_event kind ask answer
event_of kind _ _ = Other

-- the reply of a machine that has replied
abbrev pub reply_in : Ask → Option Reply
reply_in (asks.Call (Ask_done reply)) = Some reply
reply_in _ = None

-- what goes on unless the call has replied
abbrev pub goes_on : {A : Type 0} → Option Reply → A → Option A
goes_on None r = Some r
goes_on (Some reply) r = None

-- What a step adds to the count goes to the shard that the caller's number picks: `call` is for a
-- call on one key, and `scan` for a call that scans a table.
pub record AddsToShard {K V S A : Type 0} (s : CoreState K V S A) (caller : ℕ)
    (s' : CoreState K V S A) : Type 0 where
  pub call : (r : Running K V A) (by : ℤ) → call_of s caller ≡ Some r
      → ask_of r.machine ≡ asks.Call (AddToShard by)
      → s'.store.count ≡ added s.store.count caller by
  pub scan : (v : Scanning A) (by : ℤ) → scanning s.callers caller ≡ Some v
      → scanner.ask_of v.scanner ≡ Some (scan_asks.AddToShard by)
      → s'.store.count ≡ added s.store.count caller by

-- Exactly one ask of the caller's machine is answered, a load or an exchange by the word that is
-- there. A reply is the one in the machine's `Done`. No other caller's call changes. A call is
-- refused if something that it asked to be made was refused, if no number was left for its pair, if
-- its closure would remove an absent entry, or if the next table was refused or would be longer
-- than a table may be.
pub record Advances {K V S A : Type 0} (eq : K → K → Bool) (says : Says K V A) (hash : S → K → ℕ)
    (refuse : Bool) (s : CoreState K V S A) (caller : ℕ) (s' : CoreState K V S A) (event : Event)
    (reply : Option Reply) : Type 0 where
  pub before : Running K V A
  pub was : call_of s caller ≡ Some before
  pub answer : Answer
  pub later : Running K V A
  pub performs : PerformsAsk eq says hash refuse (ask_of before.machine) s.store before answer
      s'.store later
  pub machine : later.machine ≡ before.machine
  pub event_is : event ≡ event_of (kind_of_ask before.machine) (ask_of before.machine) answer
  pub reply_is : reply ≡ reply_in (ask_of (after before.machine answer))
  pub callers : s'.callers ≡ with_call s.callers caller
      (goes_on reply (record later { machine = after before.machine answer }))
  pub mode : s'.mode ≡ s.mode
  pub initial : s'.initial ≡ s.initial
  pub cause : (refused : Refused) → reply ≡ Some (Reply_refused refused)
      → IsCause before.machine answer refused
