-- How a call begins.
use Rattle.std.specs.Prelude.{◌≡◌, ℕ, ◌<◌, ◌^◌, true, false, [], Option, Some, None}
use Rattle.std.specs.Int.{IsPowerOfTwo}
use Rattle.papaya_words.specs.declared.resize_mode.ResizeMode.{ResizeMode}
use Rattle.papaya_call.specs.declared.call.Call.{Call}
use Rattle.papaya_call.specs.declared.call.Call.TheVariants.{Get, Insert, TryInsert, RemoveIf, Compute, Reserve, CopyAll, Clear, Retain, Walk}
use Rattle.papaya_call.specs.declared.call.Task.{Task}
use Rattle.papaya_call.specs.declared.call.Task.TheVariants as tasks
use Rattle.papaya_call.specs.declared.chain.resizer.Resize.{Resize}
use Rattle.papaya_call.specs.declared.chain.resizer.Resize.TheVariants as resizes
use Rattle.papaya_call.specs.ChainMachine.{started}
use Rattle.papaya_call.specs.Resizer as resizer
use Rattle.papaya_core_store.specs.declared.store.Mode.{Mode}
use Rattle.papaya_core_store.specs.declared.pairs.Part.{Part}
use Rattle.papaya_core_store.specs.declared.pairs.Part.TheVariants.{Own}
use Rattle.papaya_core_store.specs.declared.pairs.Running.{Running}
use Rattle.papaya_core_timeline.specs.declared.seat.Work.{Work}
use Rattle.papaya_core_timeline.specs.declared.seat.Work.TheVariants as works
use Rattle.papaya_core_timeline.specs.Callers.{with_seat, with_work}
use Rattle.papaya_core_timeline.specs.Core.{CoreState}
use Rattle.papaya_core_timeline.specs.Maps.{key_of}
use Rattle.papaya_call.specs.declared.chain.scanner.Scan.{Scan}
use Rattle.papaya_call.specs.declared.chain.scanner.Scan.TheVariants as scans
use Rattle.papaya_call.specs.Scanner as scanner
use Rattle.papaya_core_store.specs.declared.scans.Scanning.{Scanning}

-- the value that was passed to a call; `answers_of_call` are the answers of its closure, and
-- `task_of_call` is the task of its machine
abbrev pub value_of_call : {K V A : Type 0} → Call K V A → Option V
value_of_call (Insert k v) = Some v
value_of_call (TryInsert k v) = Some v
value_of_call _ = None

abbrev pub answers_of_call : {K V A : Type 0} → Call K V A → Option A
answers_of_call (RemoveIf k a) = Some a
answers_of_call (Compute k a) = Some a
answers_of_call (Retain a) = Some a
answers_of_call _ = None

abbrev pub task_of_call : {K V A : Type 0} → Call K V A → Option Task
task_of_call (Get k) = Some tasks.Get
task_of_call (Insert k v) = Some (tasks.Insert true)
task_of_call (TryInsert k v) = Some (tasks.Insert false)
task_of_call (RemoveIf k a) = Some tasks.RemoveIf
task_of_call (Compute k a) = Some tasks.Compute
task_of_call _ = None

-- a call that scans a table as it begins, with no pair returned yet
abbrev pub scanner_begun : {A : Type 0} → ResizeMode → (initial number : ℕ) → Scan → Option A
    → Scanning A
scanner_begun mode initial number scan answers = record {
  scanner = scanner.begun scan mode initial number;
  answers = answers;
  given = [];
}

-- a value that was passed in, as the call's own
abbrev pub handed : {V : Type 0} → Option V → Option (Part V)
handed None = None
handed (Some v) = Some (Own v)

-- `number` picks the chunk at which a call begins to copy
module _ {K V A : Type 0} (hash : K → ℕ) (mode : Mode) (initial number : ℕ) where
  -- a call on this key as it begins
  abbrev pub begun : Task → K → Option V → Option A → Running K V A
  begun task key value answers =
      record {
        machine = started task (hash key) mode.resize initial number mode.limit;
        key = Own key;
        value = handed value;
        answers = answers;
      }

  -- a call that resizes the map as it begins
  abbrev pub resizer_begun : Resize → Work K V A
  resizer_begun resize = works.Resize (resizer.begun resize mode.resize initial number)

  -- a call as it begins
  abbrev pub begun_work : Call K V A → Work K V A
  begun_work (Get k) = works.Call (begun tasks.Get k None None)
  begun_work (Insert k v) = works.Call (begun (tasks.Insert true) k (Some v) None)
  begun_work (TryInsert k v) = works.Call (begun (tasks.Insert false) k (Some v) None)
  begun_work (RemoveIf k a) = works.Call (begun tasks.RemoveIf k None (Some a))
  begun_work (Compute k a) = works.Call (begun tasks.Compute k None (Some a))
  begun_work (Reserve more) = resizer_begun (resizes.Reserve more)
  begun_work CopyAll = resizer_begun resizes.CopyAll
  begun_work Clear = works.Scan (scanner_begun mode.resize initial number scans.Clear None)
  begun_work (Retain a) =
      works.Scan (scanner_begun mode.resize initial number scans.Retain (Some a))
  begun_work Walk = works.Scan (scanner_begun mode.resize initial number scans.Walk None)

-- a caller begins `call`, which changes no word, no pair of the arena and no other caller's call
pub record Begins {K V S A : Type 0} (hash : K → ℕ) (s : CoreState K V S A) (caller : ℕ)
    (call : Call K V A) (s' : CoreState K V S A) : Type 0 where
  pub number : ℕ
  pub store : s'.store ≡ s.store
  pub callers : s'.callers ≡ with_work (with_seat s.callers caller) caller
      (Some (begun_work hash s.mode s.initial number call))
  pub mode : s'.mode ≡ s.mode
  pub initial : s'.initial ≡ s.initial
  -- the hash of its key, if it has one, has 64 bits
  pub fits : (k : K) → key_of call ≡ Some k → hash k < 2 ^ 64
  -- `initial`, by which tables are sized, is a power of two
  pub power : IsPowerOfTwo s.initial
