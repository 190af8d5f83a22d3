-- The copy of the root by a loop over the slots of a chunk: the state to which each of its turns
-- would bring the machine of a copy, which is never run.
use Rattle.std.specs.Prelude.{◌≡◌, ℕ, Bool, false, List, [], ◌∷◌, Option, Some, None, length}
use Rattle.papaya_words.specs.Table.{TableWords}
use Rattle.papaya_words.specs.declared.resize_mode.ResizeMode.{ResizeMode}
use Rattle.papaya_call.specs.Search.{IsSize}
use Rattle.papaya_call.specs.declared.copy_ask.CopyAsk.{CopyAsk}
use Rattle.papaya_call.specs.declared.copy.copying.Aim.{Aim}
use Rattle.papaya_call.specs.declared.copy.copying.Copied.{Copied}
use Rattle.papaya_call.specs.declared.copy.copying.Copied.TheVariants.{On}
use Rattle.papaya_call.specs.declared.copy.copying.Copying.TheVariants.{Stepping}
use Rattle.papaya_call.specs.declared.copy.settle.Settle.{Settle}
use Rattle.papaya_call.specs.declared.copy.settle.Settled.{Settled}
use Rattle.papaya_call.specs.declared.copy.settle.Settled.TheVariants as settled_to
use Rattle.papaya_call.specs.declared.copy.settle.SlotToCopy.{SlotToCopy}
use Rattle.papaya_call.specs.declared.copy.step.Chunk.{Chunk}
use Rattle.papaya_call.specs.declared.copy.step.Step.{Step}
use Rattle.papaya_call.specs.Copying.{copying_ask, leads}
use Rattle.papaya_call.specs.Step as steps
use Rattle.papaya_call.specs.Step.{slot_of}
use Rattle.papaya_call.specs.declared.chain.ask.Answer.{Answer}
use Rattle.papaya_call.specs.declared.chain.ask.Ask.{Ask}
use Rattle.papaya_call.specs.declared.chain.ask.Ask.TheVariants as asks
use Rattle.papaya_call.specs.declared.chain.machine.Machine.{Machine}
use Rattle.papaya_call.specs.declared.chain.resizer.Resizer.{Resizer}
use Rattle.papaya_call.specs.ChainMachine.{after, ask_of, copying_after}
use Rattle.papaya_call.specs.Resizer as resizers
use Rattle.papaya_core_store.specs.CopyAsks.{PerformsCopy}
use Rattle.papaya_core_store.specs.Store.{StoreState}
use Rattle.papaya_core_store.specs.Tables.{table_of}

-- each table has a size that tables may have
abbrev pub IsSized : {K V S : Type 0} → StoreState K V S → Type 0
IsSized store = (n : ℕ) (t : TableWords) → table_of store.words.tables n ≡ Some t
    → IsSize (length t.slots) t.limit

-- what a call that is set aside asks for its copy
abbrev pub copy_in : Ask → Option CopyAsk
copy_in (asks.Call ask) = None
copy_in (asks.Copy ask) = Some ask

abbrev pub copy_of : Machine → Option CopyAsk
copy_of m = copy_in (ask_of m)

-- what a copy of the root asks while it goes on; `led_on` is the copy after an answer
abbrev pub asked_in : Copied → Option CopyAsk
asked_in (On copying) = Some (copying_ask copying)
asked_in _ = None

abbrev pub led_on : ResizeMode → (initial number : ℕ) → Copied → Answer → Copied
led_on mode initial number (On copying) answer = copying_after copying mode initial number answer
led_on mode initial number copied answer = copied

-- None says that a slot is settled, and otherwise its copy is in the state `settle`
abbrev pub settled_as : Option Settle → Settled
settled_as None = settled_to.Settled
settled_as (Some settle) = settled_to.On settle

module _ {K V S : Type 0} (eq : K → K → Bool) (hash : S → K → ℕ) where
  -- A machine becomes m' when these answers are given to its asks, each by the store. `asks m` is
  -- what it asks, and `leads_on m answer` the machine after an answer.
  abbrev pub Copies : {M : Type 0} → (M → Option CopyAsk) → (M → Answer → M) → List Answer
      → StoreState K V S → M → StoreState K V S → M → Type 0
  Copies asks leads_on [] s m s' m' = (s' ≡ s) × (m' ≡ m)
  Copies asks leads_on (answer ∷ rest) s m s' m' = (ask : CopyAsk) × (asks m ≡ Some ask)
      × (middle : StoreState K V S) × PerformsCopy eq hash false ask s answer middle
      × Copies asks leads_on rest middle (leads_on m answer) s' m'

  -- the same for a call that is set aside; `CopiesResizer` is the same for a call that resizes
  abbrev pub CopiesCall : StoreState K V S → Machine → StoreState K V S → Machine → Type 0
  CopiesCall s m s' m' = (answers : List Answer) × Copies copy_of after answers s m s' m'

  abbrev pub CopiesResizer : StoreState K V S → Resizer → StoreState K V S → Resizer → Type 0
  CopiesResizer s z s' z' = (answers : List Answer)
      × Copies resizers.ask_of resizers.after answers s z s' z'

  module _ (mode : ResizeMode) where
    -- the same for a copy of the root
    abbrev pub Comes : StoreState K V S → Copied → StoreState K V S → Copied → Type 0
    Comes s from s' to = (initial number : ℕ) → (answers : List Answer)
        × Copies asked_in (led_on mode initial number) answers s from s' to

    -- the same for the copy of a chunk, whatever its aim is
    abbrev pub Steps : StoreState K V S → Step → StoreState K V S → Step → Type 0
    Steps s from s' to = (aim : Aim) → Comes s (On (Stepping aim from)) s' (On (Stepping aim to))

    -- the same for the copy of a slot, whatever its aim and its chunk are
    abbrev pub Settles : SlotToCopy → StoreState K V S → Settled → StoreState K V S → Settled → Type 0
    Settles slot s from s' to = (aim : Aim) (chunk : Chunk) → slot_of chunk ≡ slot
        → Comes s (leads aim mode (steps.settled_to chunk from)) s'
        (leads aim mode (steps.settled_to chunk to))
