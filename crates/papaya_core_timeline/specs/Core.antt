-- The state of a core, and an invariant of it.
use Rattle.std.specs.Prelude.{◌≡◌, ℕ, List, None, Option, Some, length}
use Rattle.papaya_words.specs.Table.{TableWords}
use Rattle.papaya_words.specs.declared.resize_mode.ResizeMode.{ResizeMode}
use Rattle.papaya_call.specs.Search.{IsSize}
use Rattle.papaya_call.specs.declared.ask.Ask.TheVariants.{Done as Ask_done}
use Rattle.papaya_call.specs.declared.call.Reply.{Reply}
use Rattle.papaya_words.specs.Mode.{IsChunked}
use Rattle.papaya_call.specs.Made.{IsLimit}
use Rattle.papaya_call.specs.declared.chain.ask.Ask.TheVariants.{Call}
use Rattle.papaya_call.specs.declared.chain.machine.Machine.{Machine}
use Rattle.papaya_call.specs.ChainMachine.{IsValid, ask_of}
use Rattle.papaya_core_store.specs.declared.store.Mode.{Mode}
use Rattle.papaya_core_store.specs.declared.pairs.Running.{Running}
use Rattle.papaya_core_timeline.specs.declared.seat.Seat.{Seat}
use Rattle.papaya_core_timeline.specs.Callers.{resizing, running, scanning, working}
use Rattle.papaya_core_timeline.specs.declared.seat.Work.{Work}
use Rattle.papaya_call.specs.declared.chain.resizer.Resizer.{Resizer}
use Rattle.papaya_call.specs.Resizer.{IsValidResizer, reply_of}
use Rattle.papaya_core_store.specs.Tables.{table_of}
use Rattle.papaya_core_store.specs.Store.{StoreState}
use Rattle.papaya_call.specs.Scanner as scanner
use Rattle.papaya_core_store.specs.declared.scans.Scanning.{Scanning}

-- the state of a core: its store, its callers with what each has under way, how it resizes and its
-- pair limit, and the length of a table for its initial capacity
pub record CoreState (K V S A : Type 0) : Type 0 where
  pub store : StoreState K V S
  pub callers : List (Seat K V A)
  pub mode : Mode
  pub initial : ℕ

-- the mode of a core that resizes in this way and has no pair limit
abbrev pub unlimited : ResizeMode → Mode
unlimited mode = record { resize = mode; limit = None }

-- what a caller has under way
abbrev pub work_of : {K V S A : Type 0} → CoreState K V S A → ℕ → Option (Work K V A)
work_of s caller = working s.callers caller

-- the call on one key that a caller has under way
abbrev pub call_of : {K V S A : Type 0} → CoreState K V S A → ℕ → Option (Running K V A)
call_of s caller = running s.callers caller

-- the machine has not replied
abbrev pub IsGoing : Machine → Type 0
IsGoing m = (reply : Reply) → ask_of m ≡ Call (Ask_done reply) → ⊥

-- each table has a size that tables may have, each machine, resizer and scanner is within its
-- tables, and no call under way has replied
pub record IsCore {K V S A : Type 0} (store : StoreState K V S) (callers : List (Seat K V A))
    (mode : Mode) : Type 0 where
  pub chunked : IsChunked mode.resize
  pub limit : IsLimit mode.limit
  pub sizes : (n : ℕ) (t : TableWords) → table_of store.words.tables n ≡ Some t
      → IsSize (length t.slots) t.limit
  pub valid : (caller : ℕ) (r : Running K V A) → running callers caller ≡ Some r
      → IsValid r.machine
  pub going : (caller : ℕ) (r : Running K V A) → running callers caller ≡ Some r → IsGoing r.machine
  pub resizers : (caller : ℕ) (resizer : Resizer) → resizing callers caller ≡ Some resizer
      → IsValidResizer resizer × (reply_of resizer ≡ None)
  pub scanners : (caller : ℕ) (v : Scanning A) → scanning callers caller ≡ Some v
      → scanner.IsValidScanner v.scanner × (scanner.reply_of v.scanner ≡ None)
