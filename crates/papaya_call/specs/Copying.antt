-- The copy of the root on behalf of a call: its asks, and the state after each answer.
use Rattle.std.specs.Prelude.{ℕ, ◌==◌, ◌||◌, Bool, if◌then◌else◌, Option}
use Rattle.papaya_words.specs.declared.refused.Refused.{Refused}
use Rattle.papaya_words.specs.declared.resize_mode.ResizeMode.{ResizeMode}
use Rattle.papaya_words.specs.declared.resize_mode.ResizeMode.TheVariants.{Incremental, Blocking}
use Rattle.papaya_call.specs.declared.ask.StepKind.{StepKind}
use Rattle.papaya_call.specs.declared.copy_ask.CopyAsk.{CopyAsk}
use Rattle.papaya_call.specs.declared.copy.copying.Aim.{Aim}
use Rattle.papaya_call.specs.declared.copy.copying.Aim.TheVariants as aims
use Rattle.papaya_call.specs.declared.copy.copying.Copied.{Copied}
use Rattle.papaya_call.specs.declared.copy.copying.Copied.TheVariants.{On, Search, Root, Chunk, Refused as Was_refused}
use Rattle.papaya_call.specs.declared.copy.copying.Copying.{Copying}
use Rattle.papaya_call.specs.declared.copy.copying.Copying.TheVariants.{Stepping, Lone}
use Rattle.papaya_call.specs.declared.copy.settle.Settle.TheVariants.{Looking}
use Rattle.papaya_call.specs.declared.copy.settle.Settled.{Settled}
use Rattle.papaya_call.specs.declared.copy.settle.Settled.TheVariants.{On as Settle_on, Settled as Was_settled, Unfit, Refused as Settle_refused}
use Rattle.papaya_call.specs.declared.copy.settle.SlotToCopy.{SlotToCopy}
use Rattle.papaya_call.specs.declared.copy.step.Chunk.{Chunk as Chunk_of}
use Rattle.papaya_call.specs.declared.copy.step.Stepped.{Stepped}
use Rattle.papaya_call.specs.declared.copy.step.Stepped.TheVariants.{On as Step_on, Root as Step_root, Last, Further, Over, Refused as Step_refused}
use Rattle.papaya_call.specs.declared.copy.step.Step.TheVariants.{AtRoot, Aiming, Settling}
use Rattle.papaya_call.specs.Settle as settles
use Rattle.papaya_call.specs.Settle.{IsValidSettle, settle_ask, settle_follows, settle_kind}
use Rattle.papaya_call.specs.Step as steps
use Rattle.papaya_call.specs.Step.{IsValidStep, step_ask, step_follows, step_kind}

-- the copy is within its chunk
abbrev pub IsValidCopying : Copying → Type 0
IsValidCopying (Stepping aim step) = IsValidStep step
IsValidCopying (Lone slot settle) = IsValidSettle settle

abbrev pub IsValidCopied : Copied → Type 0
IsValidCopied (On copying) = IsValidCopying copying
IsValidCopied _ = Unit {0}

-- its ask
abbrev pub copying_ask : Copying → CopyAsk
copying_ask (Stepping aim step) = step_ask step
copying_ask (Lone slot settle) = settle_ask settle slot

-- the kind of the exchange that it asks for, if it asks for one
abbrev pub copying_kind : Copying → Option StepKind
copying_kind (Stepping aim step) = step_kind step
copying_kind (Lone slot settle) = settle_kind settle

-- the table after which a table is being made, 0 if none is
abbrev pub copying_follows : Copying → ℕ
copying_follows (Stepping aim step) = step_follows step
copying_follows (Lone slot settle) = settle_follows settle

-- the state once what was to be copied is copied
abbrev pub over : Aim → Copied
over (aims.Search table) = Search table
over (aims.Settle slot) = On (Lone slot Looking)
over aims.Chunk = Chunk
over (aims.All met) = On (Stepping (aims.All met) AtRoot)

-- the state if a chunk was copied and `chunk` was not yet: only a copy of all goes on with that one
abbrev pub further : Aim → Chunk_of → Copied
further (aims.All met) chunk = On (Stepping (aims.All met) (Settling chunk Looking))
further aim chunk = over aim

-- the state if the root has no next table
abbrev pub last : Aim → ℕ → Copied
last (aims.All met) table = Root table
last aim table = over aim

-- the state if all of this root is to be copied; with blocking, a copy that began at another root
-- is over
abbrev pub all_of : (met : ℕ) → ResizeMode → (root : ℕ) → Copied
all_of met (Incremental chunk) root = On (Stepping (aims.All met) (Aiming root root))
all_of met Blocking root = if met == 0 || met == root
    then On (Stepping (aims.All root) (Aiming root root)) else Root root

-- the state after the root was loaded, which is 0 if there is none
abbrev pub at_root : Aim → ResizeMode → ℕ → Copied
at_root (aims.All met) mode root = if root == 0 then Root 0 else all_of met mode root
at_root aim mode root = if root == 0 then over aim else On (Stepping aim (Aiming root root))

-- the state after a step of the copy of a chunk
abbrev pub leads : Aim → ResizeMode → Stepped → Copied
leads aim mode (Step_on step) = On (Stepping aim step)
leads aim mode (Step_root root) = at_root aim mode root
leads aim mode (Last table) = last aim table
leads aim mode (Further chunk) = further aim chunk
leads aim mode Over = over aim
leads aim mode (Step_refused refused) = Was_refused refused

-- the state after a step of the copy of the one slot
abbrev pub lone : SlotToCopy → Settled → Copied
lone slot (Settle_on settle) = On (Lone slot settle)
lone slot Was_settled = Search slot.to
lone slot (Unfit table) = Search slot.to
lone slot (Settle_refused refused) = Was_refused refused

-- the state after an answer; an answer that was not asked for changes nothing
abbrev pub at_hash : Copying → ℕ → Copying
at_hash (Stepping aim step) hash = Stepping aim (steps.at_hash step hash)
at_hash (Lone slot settle) hash = Lone slot (settles.at_hash settle hash)

abbrev pub at_size : Copying → ResizeMode → (number slots limit : ℕ) → Copying
at_size (Stepping aim step) mode number slots limit =
    Stepping aim (steps.at_size step mode number slots limit)
at_size (Lone slot settle) mode number slots limit =
    Lone slot (settles.at_size settle slots limit)

abbrev pub at_word : Copying → ResizeMode → ℕ → Copied
at_word (Stepping aim step) mode word = leads aim mode (steps.at_word step mode word)
at_word (Lone slot settle) mode word = lone slot (settles.at_word settle slot mode word)

abbrev pub at_yes : Copying → ResizeMode → Bool → Copied
at_yes (Stepping aim step) mode same = leads aim mode (steps.at_yes step mode same)
at_yes (Lone slot settle) mode same = lone slot (settles.at_yes settle mode same)

abbrev pub at_exchanged : Copying → ResizeMode → Copied
at_exchanged (Stepping aim step) mode = leads aim mode (steps.at_exchanged step mode)
at_exchanged (Lone slot settle) mode = lone slot (settles.at_exchanged settle slot mode)

abbrev pub at_ok : Copying → ResizeMode → Copied
at_ok (Stepping aim step) mode = leads aim mode (steps.at_ok step mode)
at_ok (Lone slot settle) mode = lone slot (settles.at_ok settle mode)

abbrev pub at_found : Copying → ResizeMode → ℕ → Copied
at_found (Stepping aim step) mode word = leads aim mode (steps.at_found step mode word)
at_found (Lone slot settle) mode word = lone slot (settles.at_found settle slot mode word)

abbrev pub at_count : Copying → ResizeMode → (count initial : ℕ) → Copied
at_count (Stepping aim step) mode count initial =
    leads aim mode (steps.at_count step mode count initial)
at_count (Lone slot settle) mode count initial =
    lone slot (settles.at_count settle mode count initial)

abbrev pub at_made : Copying → ℕ → Copying
at_made (Stepping aim step) number = Stepping aim (steps.at_made step number)
at_made (Lone slot settle) number = Lone slot (settles.at_made settle number)

abbrev pub at_refused : Copying → ResizeMode → Refused → Copied
at_refused (Stepping aim step) mode refused = leads aim mode (steps.at_refused step mode refused)
at_refused (Lone slot settle) mode refused = lone slot (settles.at_refused settle mode refused)
