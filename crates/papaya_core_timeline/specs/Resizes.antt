-- One step of a call that resizes the map.
use Rattle.std.specs.Prelude.{◌≡◌, ℕ, Bool, Option, Some}
use Rattle.papaya_words.specs.declared.refused.Refused.{Refused}
use Rattle.papaya_call.specs.declared.call.Reply.{Reply}
use Rattle.papaya_call.specs.declared.call.Reply.TheVariants.{Refused as Reply_refused}
use Rattle.papaya_call.specs.declared.copy_ask.CopyAsk.{CopyAsk}
use Rattle.papaya_call.specs.declared.chain.ask.Ask.TheVariants as asks
use Rattle.papaya_call.specs.declared.chain.ask.Answer.{Answer}
use Rattle.papaya_call.specs.declared.chain.resizer.Resizer.{Resizer}
use Rattle.papaya_call.specs.Resizer.{after, ask_of, kind_of_ask, reply_of}
use Rattle.papaya_call_law.specs.Resizers.{IsResizeCause}
use Rattle.papaya_core_store.specs.CopyAsks.{PerformsCopy}
use Rattle.papaya_core_timeline.specs.declared.seat.Work.TheVariants.{Resize}
use Rattle.papaya_core_timeline.specs.declared.trace.Event.{Event}
use Rattle.papaya_core_timeline.specs.Advances.{event_of, goes_on}
use Rattle.papaya_core_timeline.specs.Callers.{resizing, with_work}
use Rattle.papaya_core_timeline.specs.Core.{CoreState}

-- Exactly one ask of the caller's resizer is answered, as the asks of a copy are. A reply is the
-- one with which the resizer has ended. No other caller's call changes. The call is refused if a
-- table was refused, if the next table would be longer than a table may be, or if it reserves room
-- that no table may have.
pub record Resizes {K V S A : Type 0} (eq : K → K → Bool) (hash : S → K → ℕ) (refuse : Bool)
    (s : CoreState K V S A) (caller : ℕ) (s' : CoreState K V S A) (event : Event)
    (reply : Option Reply) : Type 0 where
  pub before : Resizer
  pub was : resizing s.callers caller ≡ Some before
  pub ask : CopyAsk
  pub asked : ask_of before ≡ Some ask
  pub answer : Answer
  pub performs : PerformsCopy eq hash refuse ask s.store answer s'.store
  pub event_is : event ≡ event_of (kind_of_ask before) (asks.Copy ask) answer
  pub reply_is : reply ≡ reply_of (after before answer)
  pub callers : s'.callers ≡ with_work s.callers caller
      (goes_on reply (Resize (after before answer)))
  pub mode : s'.mode ≡ s.mode
  pub initial : s'.initial ≡ s.initial
  pub cause : (refused : Refused) → reply ≡ Some (Reply_refused refused)
      → IsResizeCause before answer refused
