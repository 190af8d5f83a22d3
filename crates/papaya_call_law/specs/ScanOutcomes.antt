-- What an answer did to the map, and why it ended a scan with a refusal.
use Rattle.std.specs.Prelude.{◌≡◌, ◌⊎◌, ℕ, Bool, true, false, Option, List, [], ◌∷◌}
use Rattle.papaya_words.specs.declared.refused.Refused.{Refused as Cause}
use Rattle.papaya_call.specs.declared.chain.ask.Answer.{Answer}
use Rattle.papaya_call.specs.declared.chain.resizer.ResizerState.{ResizerState as Stage}
use Rattle.papaya_call.specs.declared.chain.resizer.ResizerState.TheVariants as stages
use Rattle.papaya_words_law.specs.Exchange.{Setting, State as Words, Exchange, Bury}
use Rattle.papaya_words_law.specs.Meaning.{map_after}
use Rattle.papaya_call_law.specs.Resizers.{WasNotMade, WouldBeTooLong}
use Rattle.papaya_call.specs.declared.chain.scanner.ScannerState.{ScannerState}
use Rattle.papaya_call.specs.declared.chain.scanner.ScannerState.TheVariants.{Copying, AtRoot, Sizing, Looking, Giving, Showing, Burying, Uncounting, Done, Refused}
use Rattle.papaya_call.specs.declared.chain.scanner.Scan.TheVariants.{Walk}
use Rattle.papaya_call.specs.declared.chain.scanner.Scanner.{Scanner}
use Rattle.papaya_call.specs.Scanner.{after, resizer_of}

-- the scan has just removed a pair, and takes 1 from the count next
abbrev pub owes_in : ScannerState → Bool
owes_in (Uncounting spot) = true
owes_in _ = false

-- the exchange leaves the map as it is
abbrev pub LeavesMap : {K P : Type 0} → Setting K P → Exchange P → Type 0
LeavesMap {K = K} {P = P} g e = (m : K → Option P) (k : K) → map_after g m e k ≡ m k

-- What an answer did: nothing, an exchange that leaves the map as it is, or the removal of one
-- pair, but not by an iteration. Only after a removal is 1 owed to the count.
abbrev pub HasDone : {K P : Type 0} → Setting K P → Scanner → Answer → List (Exchange P) → Type 0
HasDone {P = P} g scanner answer es =
    ((es ≡ []) × (owes_in (after scanner answer).state ≡ false))
    ⊎ ((e : Exchange P) × (es ≡ e ∷ []) × LeavesMap g e
    × (owes_in (after scanner answer).state ≡ false))
    ⊎ ((t : ℕ) × (x : ℕ) × (p : P) × (es ≡ Bury t x p ∷ []) × (scanner.scan ≡ Walk → ⊥)
    × (owes_in (after scanner answer).state ≡ true))

-- why an answer ends a scanner with a refusal: a table for its copy of all was refused, or would be
-- longer than a table may be
pub record IsScanCause (scanner : Scanner) (answer : Answer) (refused : Cause) : Type 0 where
  pub stage : Stage
  pub copying : scanner.state ≡ Copying stage
  pub why : WasNotMade (resizer_of scanner stage) answer refused
      ⊎ WouldBeTooLong (resizer_of scanner stage) answer refused

-- the scanner scans the root of these words, or is about to, and copies nothing
abbrev pub IsAtRoot : {P : Type 0} → Words P → ScannerState → Type 0
IsAtRoot s (Copying stages.AtRoot) = Unit {0}
IsAtRoot s (Copying (stages.Looking root len room)) = s.root ≡ root
IsAtRoot s (Copying _) = ⊥
IsAtRoot s AtRoot = Unit {0}
IsAtRoot s (Sizing table) = s.root ≡ table
IsAtRoot s (Looking spot) = s.root ≡ spot.table
IsAtRoot s (Giving spot word) = s.root ≡ spot.table
IsAtRoot s (Showing spot word) = s.root ≡ spot.table
IsAtRoot s (Burying spot word) = s.root ≡ spot.table
IsAtRoot s (Uncounting spot) = s.root ≡ spot.table
IsAtRoot s Done = Unit {0}
IsAtRoot s (Refused refused) = ⊥
