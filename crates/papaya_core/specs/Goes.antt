-- One step of the work that a caller has under way.
use Rattle.std.specs.Prelude.{◌≡◌, ℕ, ℤ, Bool, IsSome, Option, None, Some}
use Rattle.papaya_words.specs.Counter.{added}
use Rattle.papaya_call.specs.declared.ask.Ask.TheVariants.{AddToShard}
use Rattle.papaya_call.specs.declared.call.Reply.{Reply}
use Rattle.papaya_call.specs.declared.copy_ask.CopyAsk.{CopyAsk}
use Rattle.papaya_call.specs.Answers.{Says}
use Rattle.papaya_call.specs.declared.chain.ask.Ask.TheVariants as asks
use Rattle.papaya_call.specs.declared.chain.ask.Answer.{Answer}
use Rattle.papaya_call.specs.declared.chain.resizer.Resizer.{Resizer}
use Rattle.papaya_call.specs.ChainMachine.{IsValid, after, ask_of, kind_of_ask}
use Rattle.papaya_call.specs.Resizer as resizer
use Rattle.papaya_core_store.specs.declared.pairs.Running.{Running}
use Rattle.papaya_core_store.specs.Asks.{PerformsAsk}
use Rattle.papaya_core_store.specs.CopyAsks.{PerformsCopy}
use Rattle.papaya_core_store.specs.Store.{StoreState}
use Rattle.papaya_core_timeline.specs.declared.seat.Work.{Work}
use Rattle.papaya_core_timeline.specs.declared.seat.Work.TheVariants as works
use Rattle.papaya_core_timeline.specs.declared.trace.Event.{Event}
use Rattle.papaya_core_timeline.specs.Advances.{event_of, goes_on, reply_in}
use Rattle.papaya_core_timeline.specs.Callers.{as_work}
use Rattle.papaya_core_timeline.specs.ScanGoes.{event_of_scan, reply_or, list_refusal}
use Rattle.papaya_call.specs.declared.chain.ask.ScanAsk.{ScanAsk}
use Rattle.papaya_call.specs.declared.chain.ask.ScanAsk.TheVariants as scan_asks
use Rattle.papaya_call.specs.Scanner as scanner
use Rattle.papaya_core_store.specs.declared.scans.Scanning.{Scanning}
use Rattle.papaya_core_store.specs.Scans.{PerformsScan}

-- One ask of a call that resizes the map was answered, and the call goes on unless it has ended.
module _ {K V S A : Type 0} (eq : K → K → Bool) (hash : S → K → ℕ) (refuse : Bool)
    (store store' : StoreState K V S) (event : Event) (reply : Option Reply)
    (work : Option (Work K V A)) where
  pub record ResizerGoes (before : Resizer) : Type 0 where
    pub ask : CopyAsk
    pub asked : resizer.ask_of before ≡ Some ask
    pub answer : Answer
    pub performs : PerformsCopy eq hash refuse ask store answer store'
    pub event_is : event ≡ event_of (resizer.kind_of_ask before) (asks.Copy ask) answer
    pub reply_is : reply ≡ resizer.reply_of (resizer.after before answer)
    pub work_is : work ≡ goes_on reply (works.Resize (resizer.after before answer))

module _ {K V S A : Type 0} (eq : K → K → Bool) (says : Says K V A) (hash : S → K → ℕ)
    (refuse : Bool) (store : StoreState K V S) (caller : ℕ) (store' : StoreState K V S)
    (event : Event) (reply : Option Reply) (work : Option (Work K V A)) where
  -- one ask of a call on one key was answered, and the call goes on unless it has replied
  pub record CallGoes (before : Running K V A) : Type 0 where
    pub answer : Answer
    pub later : Running K V A
    pub performs : PerformsAsk eq says hash refuse (ask_of before.machine) store before answer
        store' later
    pub machine : later.machine ≡ before.machine
    pub event_is : event ≡ event_of (kind_of_ask before.machine) (ask_of before.machine) answer
    pub reply_is : reply ≡ reply_in (ask_of (after before.machine answer))
    pub work_is : work ≡ as_work
        (goes_on reply (record later { machine = after before.machine answer }))
    pub shard : (by : ℤ) → ask_of before.machine ≡ asks.Call (AddToShard by)
        → store'.count ≡ added store.count caller by

  -- one ask of a call that scans a table was answered, and it goes on unless it has replied
  pub record ScanGoes (before : Scanning A) : Type 0 where
    pub ask : ScanAsk
    pub asked : scanner.ask_of before.scanner ≡ Some ask
    pub answer : Answer
    pub later : Scanning A
    pub performs : PerformsScan eq says hash refuse ask store before answer store' later
    pub event_is : event ≡ event_of_scan (scanner.kind_of_ask before.scanner) ask answer
    pub reply_is : reply ≡ reply_or (list_refusal ask answer)
        (scanner.reply_of (scanner.after before.scanner answer))
    pub work_is : work ≡ goes_on reply
        (works.Scan (record later { scanner = scanner.after before.scanner answer }))
    pub shard : (by : ℤ) → ask ≡ scan_asks.AddToShard by → store'.count ≡ added store.count caller by

  abbrev pub WorkGoes : Work K V A → Type 0
  WorkGoes (works.Call before) = CallGoes before
  WorkGoes (works.Resize before) = ResizerGoes eq hash refuse store store' event reply work
      before
  WorkGoes (works.Scan before) = ScanGoes before

-- the work is within its tables, and has not ended
abbrev pub IsValidWork : {K V A : Type 0} → Work K V A → Type 0
IsValidWork (works.Call r) = IsValid r.machine
IsValidWork (works.Resize z) = resizer.IsValidResizer z × (resizer.reply_of z ≡ None)
IsValidWork (works.Scan v) = scanner.IsValidScanner v.scanner
    × IsSome (scanner.ask_of v.scanner)
