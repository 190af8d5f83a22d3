-- One step of a call that scans a table.
use Rattle.std.specs.Prelude.{◌≡◌, ◌⊎◌, ℕ, Bool, Option, Some, None}
use Rattle.papaya_words.specs.declared.refused.Refused.{Refused}
use Rattle.papaya_call.specs.declared.ask.Answer.{Answer as Call_answer}
use Rattle.papaya_call.specs.declared.ask.Answer.TheVariants.{Ok, Refused as Was_refused}
use Rattle.papaya_call.specs.declared.ask.StepKind.{StepKind}
use Rattle.papaya_call.specs.declared.call.Reply.{Reply}
use Rattle.papaya_call.specs.declared.call.Reply.TheVariants.{Refused as Reply_refused}
use Rattle.papaya_call.specs.Answers.{Says}
use Rattle.papaya_call.specs.declared.chain.ask.Answer.{Answer}
use Rattle.papaya_call.specs.declared.chain.ask.Answer.TheVariants as answers
use Rattle.papaya_core_timeline.specs.declared.seat.Work.TheVariants as works
use Rattle.papaya_core_timeline.specs.declared.trace.Event.{Event}
use Rattle.papaya_core_timeline.specs.declared.trace.Event.TheVariants.{Gave, Other}
use Rattle.papaya_core_timeline.specs.Advances.{copy_event, goes_on, shown_event}
use Rattle.papaya_core_timeline.specs.Callers.{scanning, with_work}
use Rattle.papaya_core_timeline.specs.Core.{CoreState}
use Rattle.papaya_call.specs.declared.chain.ask.ScanAsk.{ScanAsk}
use Rattle.papaya_call.specs.declared.chain.ask.ScanAsk.TheVariants.{Copy, Show, Given, AddToShard}
use Rattle.papaya_call.specs.Scanner.{after, ask_of, kind_of_ask, reply_of}
use Rattle.papaya_call_law.specs.ScanOutcomes.{IsScanCause}
use Rattle.papaya_core_store.specs.declared.scans.Scanning.{Scanning}
use Rattle.papaya_core_store.specs.Scans.{PerformsScan}

-- why the list of a scan could not grow, if it could not; the scanner is given no answer then
abbrev pub list_refusal : ScanAsk → Answer → Option Refused
list_refusal (Given n) (answers.Call (Was_refused refused)) = Some refused
list_refusal ask answer = None

-- the refusal, if there is one, and otherwise the reply of the scanner
abbrev pub reply_or : Option Refused → Option Reply → Option Reply
reply_or None reply = reply
reply_or (Some refused) reply = Some (Reply_refused refused)

-- the event of an ask and its answer
abbrev pub scan_event : Option StepKind → ScanAsk → Call_answer → Event
scan_event kind (Copy ask) answer = copy_event kind ask answer
scan_event kind (Show n) answer = shown_event (Some n) answer
scan_event kind (Given n) Ok = Gave n
scan_event kind (Given n) _ = Other
scan_event kind (AddToShard by) answer = Other

abbrev pub event_of_scan : Option StepKind → ScanAsk → Answer → Event
event_of_scan kind ask (answers.Call answer) = scan_event kind ask answer
event_of_scan kind ask _ = Other

-- Exactly one ask of the caller's scanner is answered. A reply is the one with which the scanner
-- has ended, or the refusal to let its list grow. No other caller's call changes. The call is
-- refused if its copy of all was refused, or its list could not grow.
pub record Scans {K V S A : Type 0} (eq : K → K → Bool) (says : Says K V A) (hash : S → K → ℕ)
    (refuse : Bool) (s : CoreState K V S A) (caller : ℕ) (s' : CoreState K V S A) (event : Event)
    (reply : Option Reply) : Type 0 where
  pub before : Scanning A
  pub was : scanning s.callers caller ≡ Some before
  pub ask : ScanAsk
  pub asked : ask_of before.scanner ≡ Some ask
  pub answer : Answer
  pub later : Scanning A
  pub performs : PerformsScan eq says hash refuse ask s.store before answer s'.store later
  pub event_is : event ≡ event_of_scan (kind_of_ask before.scanner) ask answer
  pub reply_is : reply ≡ reply_or (list_refusal ask answer) (reply_of (after before.scanner answer))
  pub callers : s'.callers ≡ with_work s.callers caller
      (goes_on reply (works.Scan (record later { scanner = after before.scanner answer })))
  pub mode : s'.mode ≡ s.mode
  pub initial : s'.initial ≡ s.initial
  pub cause : (refused : Refused) → reply ≡ Some (Reply_refused refused)
      → (list_refusal ask answer ≡ Some refused) ⊎ IsScanCause before.scanner answer refused
