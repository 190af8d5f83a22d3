-- A call that scans a table, with no other caller beside it: how far it is from its end, and what
-- it has read.
use Rattle.std.specs.Prelude.{◌≡◌, ℕ, ◌+◌, ◌-◌, ◌*◌, ◌^◌, ◌≤◌, ◌==◌, if◌then◌else◌}
use Rattle.papaya_words.specs.declared.resize_mode.ResizeMode.{ResizeMode}
use Rattle.papaya_call.specs.declared.ask.At.{At}
use Rattle.papaya_call.specs.declared.ask.At.TheVariants as words_at
use Rattle.papaya_call.specs.declared.chain.ask.Answer.{Answer}
use Rattle.papaya_call.specs.declared.chain.resizer.Resize.TheVariants.{CopyAll}
use Rattle.papaya_call_alone.specs.Budget.{Budget, SpendsCopy}
use Rattle.papaya_call_alone.specs.Resizers.{IsRoot, IsStageRead, left_of_stage}
use Rattle.papaya_call.specs.declared.chain.ask.ScanAsk.{ScanAsk}
use Rattle.papaya_call.specs.declared.chain.ask.ScanAsk.TheVariants.{Copy}
use Rattle.papaya_call.specs.declared.chain.scanner.Spot.{Spot}
use Rattle.papaya_call.specs.declared.chain.scanner.ScannerState.{ScannerState}
use Rattle.papaya_call.specs.declared.chain.scanner.ScannerState.TheVariants.{Copying, AtRoot, Sizing, Looking, Giving, Showing, Burying, Uncounting}
use Rattle.papaya_call.specs.declared.chain.scanner.Scanner.{Scanner}

-- an answer to an ask of its copy spends what an answer to a copy's ask does, and any other answer
-- spends nothing
abbrev pub SpendsScan : ScanAsk → Answer → Budget → Budget → Type 0
SpendsScan (Copy ask) answer before later = SpendsCopy ask answer before later
SpendsScan ask answer before later = later ≡ before

-- what is left in this slot, which is `here`, and in those after it
abbrev pub left_of_slot : Spot → (here : ℕ) → ℕ
left_of_slot spot here = (spot.len - spot.slot - 1) * 4 + here

module _ (words : At → ℕ) where
  -- what is left in a table; a table with a next one may send the scan to copy all, which leaves a
  -- root without a next one
  abbrev pub left_in_table : (table left : ℕ) → ℕ
  left_in_table table left = if words (words_at.Next table) == 0 then left else left + 2 ^ 131

  abbrev pub left_of_spot : Spot → (here : ℕ) → ℕ
  left_of_spot spot here = left_in_table spot.table (left_of_slot spot here)

  abbrev pub left_of_scan : ScannerState → ℕ
  left_of_scan (Copying stage) = left_of_stage (words words_at.Root) stage + 2 ^ 130
  left_of_scan AtRoot = 2 ^ 132
  left_of_scan (Sizing table) = left_in_table table (2 ^ 40)
  left_of_scan (Looking spot) = left_of_spot spot 4
  left_of_scan (Giving spot word) = left_of_spot spot 3
  left_of_scan (Showing spot word) = left_of_spot spot 3
  left_of_scan (Burying spot word) = left_of_spot spot 2
  left_of_scan (Uncounting spot) = left_of_spot spot 1
  left_of_scan _ = 0

  -- the table that is scanned is the root, and no longer than a table may be
  pub record IsSpotRead (spot : Spot) : Type 0 where
    pub root : IsRoot words spot.table
    pub most : spot.len ≤ 2 ^ 32

  -- the same, and the slot has this word
  abbrev pub IsWordRead : Spot → (word : ℕ) → Type 0
  IsWordRead spot word = IsSpotRead spot
      × (words (words_at.Slot spot.table spot.slot) ≡ word)

-- The measure of a scanner, by its budget and its state: it falls with each answer.
abbrev pub scanner_measure : Budget → (At → ℕ) → Scanner → ℕ
scanner_measure budget words scanner = (budget.tables * 2 ^ 128 + budget.exchanges) * 2 ^ 192
    + left_of_scan words scanner.state

module _ (mode : ResizeMode) (words : At → ℕ) where
  abbrev pub IsScanRead : ScannerState → Type 0
  IsScanRead (Copying stage) = IsStageRead mode words CopyAll stage
  IsScanRead (Sizing table) = IsRoot words table
  IsScanRead (Looking spot) = IsSpotRead words spot
  IsScanRead (Giving spot word) = IsSpotRead words spot
  IsScanRead (Showing spot word) = IsWordRead words spot word
  IsScanRead (Burying spot word) = IsWordRead words spot word
  IsScanRead (Uncounting spot) = IsSpotRead words spot
  IsScanRead _ = Unit {0}

-- the words that it has read are unchanged
abbrev pub IsScannerRead : (At → ℕ) → Scanner → Type 0
IsScannerRead words scanner = IsScanRead scanner.mode words scanner.state
