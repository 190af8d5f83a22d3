-- The facts that hold when a scan has ended; until then it has an ask.
use Rattle.std.proofs.Common.{◌≡◌, Option, None, Some, IsSome, List, refl}
use Rattle.papaya_call.specs.declared.call.Reply.TheVariants.{Done as Reply_done}
use Rattle.papaya_call.specs.declared.chain.resizer.ResizerState.TheVariants as stages
use Rattle.papaya_words_law.specs.Code.{Coding}
use Rattle.papaya_words_law.specs.Exchange.{Setting, State as Words, Exchange}
use Rattle.papaya_call.specs.declared.chain.scanner.ScannerState.{ScannerState}
use Rattle.papaya_call.specs.declared.chain.scanner.ScannerState.TheVariants.{Copying, AtRoot, Sizing, Looking, Giving, Showing, Burying, Uncounting, Done, Refused}
use Rattle.papaya_call.specs.declared.chain.scanner.Scan.{Scan}
use Rattle.papaya_call.specs.Scanner.{asks_in, reply_in}
use Rattle.papaya_call_law.specs.ScanAnswers.{LoadedPairs}
use Rattle.papaya_call_law.specs.Scans.{HasScanned, ReliesState}

module _ {K P : Type 0} (g : Setting K P) (c : Coding K P) (s : Words P) (m : K → Option P) (since : List (Exchange P)) (scan : Scan)
    (loaded : LoadedPairs P) where
  -- it has an ask, unless it has replied
  pub scan_asks : (state : ScannerState) → ReliesState g c s m since scan loaded state → reply_in state ≡ None → IsSome (asks_in state)
  scan_asks (Copying stages.AtRoot) r going = refl
  scan_asks (Copying (stages.Looking root len room)) r going = refl
  scan_asks (Copying (stages.Copying from copying)) r going = refl
  scan_asks (Copying (stages.Making room)) r going = absurd r.1
  scan_asks (Copying (stages.Opening table)) r going = absurd r.1
  scan_asks (Copying (stages.Sizing root)) r going = absurd r.1
  scan_asks (Copying (stages.Counting root len)) r going = absurd r.1
  scan_asks (Copying (stages.Linking link)) r going = absurd r.1
  scan_asks (Copying stages.Done) r going = absurd r.1
  scan_asks (Copying (stages.Refused refused)) r going = absurd r.1
  scan_asks AtRoot r going = refl
  scan_asks (Sizing table) r going = refl
  scan_asks (Looking spot) r going = refl
  scan_asks (Giving spot word) r going = refl
  scan_asks (Showing spot word) r going = refl
  scan_asks (Burying spot word) r going = refl
  scan_asks (Uncounting spot) r going = refl
  scan_asks Done r going = absurd cc
  scan_asks (Refused refused) r going = absurd cc

  -- if it is done, each slot was scanned
  pub scan_over : (state : ScannerState) → ReliesState g c s m since scan loaded state → reply_in state ≡ Some Reply_done → HasScanned g c s m since scan loaded
  scan_over Done r over = r
  scan_over (Copying stage) r over = absurd cc
  scan_over AtRoot r over = absurd cc
  scan_over (Sizing table) r over = absurd cc
  scan_over (Looking spot) r over = absurd cc
  scan_over (Giving spot word) r over = absurd cc
  scan_over (Showing spot word) r over = absurd cc
  scan_over (Burying spot word) r over = absurd cc
  scan_over (Uncounting spot) r over = absurd cc
  scan_over (Refused refused) r over = absurd cc
