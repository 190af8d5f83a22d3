-- A call that scans a table: its asks, and the state after each answer.
use Rattle.std.specs.Prelude.{ℕ, ◌+◌, ◌<◌, ◌==◌, nat_lt, Bool, true, false, if◌then◌else◌, Option, None, Some, negsuc}
use Rattle.std.specs.Int.{IsPowerOfTwo}
use Rattle.papaya_words.specs.Mode.{IsChunked}
use Rattle.papaya_words.specs.Word.{kind_of, pair_of}
use Rattle.papaya_words.specs.declared.resize_mode.ResizeMode.{ResizeMode}
use Rattle.papaya_words.specs.declared.resize_mode.ResizeMode.TheVariants.{Incremental, Blocking}
use Rattle.papaya_words.specs.declared.word.Kind.{Kind}
use Rattle.papaya_words.specs.declared.word.Kind.TheVariants as kinds
use Rattle.papaya_call.specs.declared.ask.Answer.{Answer as Call_answer}
use Rattle.papaya_call.specs.declared.ask.Answer.TheVariants.{Word, Exchanged, Found, Yes, Size, Ok}
use Rattle.papaya_call.specs.declared.ask.At.TheVariants.{Root, Slot}
use Rattle.papaya_call.specs.declared.ask.StepKind.{StepKind}
use Rattle.papaya_call.specs.declared.ask.StepKind.TheVariants.{Bury}
use Rattle.papaya_call.specs.declared.call.Reply.{Reply}
use Rattle.papaya_call.specs.declared.call.Reply.TheVariants as replies
use Rattle.papaya_call.specs.declared.copy_ask.CopyAsk.{CopyAsk}
use Rattle.papaya_call.specs.declared.copy_ask.CopyAsk.TheVariants.{Load, Exchange, SizeOf}
use Rattle.papaya_call.specs.Remove.{grave_word}
use Rattle.papaya_call.specs.declared.chain.ask.Answer.{Answer}
use Rattle.papaya_call.specs.declared.chain.ask.Answer.TheVariants as answers
use Rattle.papaya_call.specs.declared.chain.resizer.Resize.TheVariants.{CopyAll}
use Rattle.papaya_call.specs.declared.chain.resizer.Resizer.{Resizer}
use Rattle.papaya_call.specs.declared.chain.resizer.ResizerState.{ResizerState as Stage}
use Rattle.papaya_call.specs.declared.chain.resizer.ResizerState.TheVariants as stages
use Rattle.papaya_call.specs.Resizer as resizers
use Rattle.papaya_call.specs.declared.chain.ask.ScanAsk.{ScanAsk}
use Rattle.papaya_call.specs.declared.chain.ask.ScanAsk.TheVariants.{Copy, Show, Given, AddToShard}
use Rattle.papaya_call.specs.declared.chain.scanner.Spot.{Spot}
use Rattle.papaya_call.specs.declared.chain.scanner.ScannerState.{ScannerState}
use Rattle.papaya_call.specs.declared.chain.scanner.ScannerState.TheVariants.{Copying, AtRoot, Sizing, Looking, Giving, Showing, Burying, Uncounting, Done, Refused}
use Rattle.papaya_call.specs.declared.chain.scanner.Scan.{Scan}
use Rattle.papaya_call.specs.declared.chain.scanner.Scan.TheVariants.{Clear, Retain, Walk}
use Rattle.papaya_call.specs.declared.chain.scanner.Scanner.{Scanner}

-- the state of a scanner that begins: without blocking, it copies all first
abbrev pub begun_in : ResizeMode → ScannerState
begun_in (Incremental chunk) = Copying stages.AtRoot
begun_in Blocking = AtRoot

abbrev pub begun : Scan → ResizeMode → (initial number : ℕ) → Scanner
begun scan mode initial number = record {
  mode = mode;
  initial = initial;
  scan = scan;
  number = number;
  state = begun_in mode;
}

-- the resizer that copies all for the scanner, in this stage
abbrev pub resizer_of : Scanner → Stage → Resizer
resizer_of scanner stage = record {
  mode = scanner.mode;
  initial = scanner.initial;
  resize = CopyAll;
  number = scanner.number;
  state = stage;
}

-- the ask of the copy of all, as an ask of the scanner
abbrev pub copy_asks : Option CopyAsk → Option ScanAsk
copy_asks None = None
copy_asks (Some ask) = Some (Copy ask)

-- the exchange that removes the pair of `word`
abbrev pub buries : Spot → (word : ℕ) → CopyAsk
buries spot word = Exchange (Slot spot.table spot.slot) word (grave_word word)

-- its ask, None once it has ended
abbrev pub asks_in : ScannerState → Option ScanAsk
asks_in (Copying stage) = copy_asks (resizers.asks_in stage)
asks_in AtRoot = Some (Copy (Load Root))
asks_in (Sizing table) = Some (Copy (SizeOf table))
asks_in (Looking spot) = Some (Copy (Load (Slot spot.table spot.slot)))
asks_in (Giving spot word) = Some (Given (pair_of word))
asks_in (Showing spot word) = Some (Show (pair_of word))
asks_in (Burying spot word) = Some (Copy (buries spot word))
asks_in (Uncounting spot) = Some (AddToShard (negsuc 0))
asks_in _ = None

abbrev pub ask_of : Scanner → Option ScanAsk
ask_of scanner = asks_in scanner.state

-- its reply, None until it has ended
abbrev pub reply_in : ScannerState → Option Reply
reply_in Done = Some replies.Done
reply_in (Refused refused) = Some (replies.Refused refused)
reply_in _ = None

abbrev pub reply_of : Scanner → Option Reply
reply_of scanner = reply_in scanner.state

-- the kind of the exchange that it asks for, if it asks for one
abbrev pub kind_in : ScannerState → Option StepKind
kind_in (Copying stage) = resizers.kind_in stage
kind_in (Burying spot word) = Some Bury
kind_in _ = None

abbrev pub kind_of_ask : Scanner → Option StepKind
kind_of_ask scanner = kind_in scanner.state

-- the table after which a table is being made, 0 if none is
abbrev pub follows_in : ScannerState → ℕ
follows_in (Copying stage) = resizers.follows_in stage
follows_in _ = 0

abbrev pub follows_of : Scanner → ℕ
follows_of scanner = follows_in scanner.state

-- the state after the root was loaded, which is 0 if there is none
abbrev pub at_root : (root : ℕ) → ScannerState
at_root root = if root == 0 then Done else Sizing root

-- the state at a slot: its word is loaded, or the scan is done if the table has no such slot
abbrev pub looks : Spot → ScannerState
looks spot = if nat_lt spot.slot spot.len then Looking spot else Done

-- the first slot of a table; `next` is the state at the slot after another
abbrev pub first_in : (table len : ℕ) → Spot
first_in table len = record { table = table; len = len; slot = 0 }

abbrev pub next : Spot → ScannerState
next spot = looks (record spot { slot = spot.slot + 1 })

-- the state after a word of this kind was found in the slot; a word that a copier has marked sends
-- a clear or a retain to the next root
abbrev pub meets : Scan → Spot → (word : ℕ) → Kind → ScannerState
meets Clear spot word kinds.Live = Burying spot word
meets Retain spot word kinds.Live = Showing spot word
meets Walk spot word kinds.Live = Giving spot word
meets Walk spot word kinds.Marked = Giving spot word
meets Walk spot word kinds.Copied = Giving spot word
meets _ spot word kinds.Marked = Copying stages.AtRoot
meets _ spot word kinds.Copied = Copying stages.AtRoot
meets _ spot word _ = next spot

-- the state after the closure returned whether the pair stays
abbrev pub shown : Spot → (word : ℕ) → Bool → ScannerState
shown spot word true = next spot
shown spot word false = Burying spot word

-- the state after an answer, while nothing is copied; an answer that was not asked for changes
-- nothing
abbrev pub told : Scan → ScannerState → Call_answer → ScannerState
told scan AtRoot (Word root) = at_root root
told scan (Sizing table) (Size slots limit) = looks (first_in table slots)
told scan (Looking spot) (Word word) = meets scan spot word (kind_of word)
told scan (Giving spot word) Ok = next spot
told scan (Showing spot word) (Yes stays) = shown spot word stays
told scan (Burying spot word) Exchanged = Uncounting spot
told scan (Burying spot word) (Found other) = meets scan spot other (kind_of other)
told scan (Uncounting spot) Ok = next spot
told scan state answer = state

abbrev pub scanned : Scan → ScannerState → Answer → ScannerState
scanned scan state (answers.Call answer) = told scan state answer
scanned scan state _ = state

-- the root at which the copy of all is done, if an answer ends it in this stage
abbrev pub found_by : Stage → ℕ
found_by (stages.Looking root len room) = root
found_by _ = 0

-- the state after the copy of all went from one stage to another
abbrev pub copied : Stage → Stage → ScannerState
copied from stages.Done = at_root (found_by from)
copied from (stages.Refused refused) = Refused refused
copied from stage = Copying stage

abbrev pub after_in : Scan → ResizeMode → (initial number : ℕ) → Answer → ScannerState → ScannerState
after_in scan mode initial number answer (Copying stage) =
    copied stage (resizers.after_in CopyAll mode initial number answer stage)
after_in scan mode initial number answer state = scanned scan state answer

-- the scanner after an answer
abbrev pub after : Scanner → Answer → Scanner
after scanner answer = record scanner {
  state = after_in scanner.scan scanner.mode scanner.initial scanner.number answer
      scanner.state;
}

-- the slot is one of its table
abbrev pub IsValidSpot : Spot → Type 0
IsValidSpot spot = spot.slot < spot.len

-- the scanner is within its tables
abbrev pub IsValidIn : ScannerState → Type 0
IsValidIn (Copying stage) = resizers.IsValidIn stage
IsValidIn (Looking spot) = IsValidSpot spot
IsValidIn (Giving spot word) = IsValidSpot spot
IsValidIn (Showing spot word) = IsValidSpot spot
IsValidIn (Burying spot word) = IsValidSpot spot
IsValidIn (Uncounting spot) = IsValidSpot spot
IsValidIn _ = Unit {0}

pub record IsValidScanner (scanner : Scanner) : Type 0 where
  pub chunked : IsChunked scanner.mode
  pub initial : IsPowerOfTwo scanner.initial
  pub state : IsValidIn scanner.state
