-- A call that is to make a pair of what its closure returned was to make one before, or its closure
-- returns now.
use Rattle.std.proofs.Common.{rules, ◌≡◌, ◌⊎◌, inl, inr, ℕ, Option, Some, refl}
use Rattle.papaya_call.specs.declared.ask.Ask.TheVariants.{ShowNone, ShowPair}
use Rattle.papaya_call.specs.declared.ask.Answer.{Answer as Call_answer}
use Rattle.papaya_call.specs.declared.ask.Answer.TheVariants.{Word as Word_read, Op}
use Rattle.papaya_call.specs.declared.ask.OpKind.{OpKind}
use Rattle.papaya_call.specs.declared.ask.OpKind.TheVariants as op_kinds
use Rattle.papaya_call.specs.declared.call.Task.{Task}
use Rattle.papaya_call.specs.declared.call.Task.TheVariants as tasks
use Rattle.papaya_call.specs.declared.search.ProbeStep.{ProbeStep}
use Rattle.papaya_words.specs.declared.resize_mode.ResizeMode.{ResizeMode}
use Rattle.papaya_call.specs.declared.compute.Choice.{Choice}
use Rattle.papaya_call.specs.declared.compute.Choice.TheVariants.{Replace as To_replace}
use Rattle.papaya_call.specs.declared.compute.Purpose.{Purpose}
use Rattle.papaya_call.specs.declared.compute.Remembered.{Remembered}
use Rattle.papaya_call.specs.declared.made.Of.{Of}
use Rattle.papaya_call.specs.declared.remove.Removal.{Removal}
use Rattle.papaya_call.specs.declared.machine.Machine.{Machine as Call_machine}
use Rattle.papaya_call.specs.declared.machine.State.{State as Stage}
use Rattle.papaya_call.specs.declared.machine.State.TheVariants.{AtRoot, Making, Opening, Searching}
use Rattle.papaya_call.specs.declared.machine.State.TheVariants.{Writing, Offering, Showing}
use Rattle.papaya_call.specs.declared.machine.State.TheVariants.{Pairing, Putting, Burying}
use Rattle.papaya_call.specs.declared.machine.State.TheVariants.{Counting, Noting, Uncounting}
use Rattle.papaya_call.specs.declared.machine.State.TheVariants.{Leaving, Growing, Ended}
use Rattle.papaya_call.specs.Machine as calls
use Rattle.papaya_call.specs.Machine.{at_root, beaten, decided_held, goes_as, left}
use Rattle.papaya_core_timeline.specs.Ends.{IsToPair}

-- a stage in which a pair is made comes from a remembered result
abbrev IsRecalled : Option Choice → Stage → Type 0
IsRecalled choice stage = (purpose : Purpose) → stage ≡ Pairing purpose → (old : ℕ) × (new : Of) × (choice ≡ Some (To_replace old new))

-- the stage after a search
goes_pairs : (task : Task) (mode : ResizeMode) (held : Remembered) (s : ProbeStep) → IsRecalled held.choice (goes_as task mode held s)
goes_pairs task mode held s purpose e = search rules

-- the same for the words of tables
root_pairs : (task : Task) (choice : Option Choice) (fill : Option ℕ) (word : ℕ) → IsRecalled choice (at_root task fill word)
root_pairs task choice fill word purpose e = search rules

left_pairs : (task : Task) (choice : Option Choice) (fill : Option ℕ) (t word : ℕ) → IsRecalled choice (left task fill t word)
left_pairs task choice fill t word purpose e = search rules

-- and for a lost deletion
beaten_pairs : (m : Call_machine) (removal : Removal) (word : ℕ) → IsRecalled m.remembered.choice (beaten m removal word)
beaten_pairs m removal word purpose e = search rules

-- it was so before, or the closure returns a value
abbrev pub WasPairs : Call_machine → Call_answer → Type 0
WasPairs m told = IsToPair m ⊎ ((told ≡ Op op_kinds.Insert)
    × ((calls.ask_of m ≡ ShowNone) ⊎ ((n : ℕ) × (calls.ask_of m ≡ ShowPair n) × (m.task ≡ tasks.Compute))))

-- the machine in a stage
abbrev at_stage : Call_machine → Stage → Call_machine
at_stage m stage = record m { state = stage }

-- it was so before
recalled : (m : Call_machine) (stage next : Stage) (told : Call_answer) → IsRecalled m.remembered.choice next → (purpose : Purpose)
    → next ≡ Pairing purpose → WasPairs (at_stage m stage) told
recalled m stage next told pairs purpose e = inl (inr (pairs purpose e))

-- by the stage
stage_pairs : (m : Call_machine) (stage : Stage) (told : Call_answer) (purpose : Purpose)
    → (calls.after (at_stage m stage) told).state ≡ Pairing purpose → WasPairs (at_stage m stage) told
stage_pairs m (Pairing other) told purpose e = inl (inl (other, refl))
stage_pairs m AtRoot (Word_read word) purpose e = recalled m AtRoot _ (Word_read word) (root_pairs m.task m.remembered.choice m.remembered.fill word) purpose e
stage_pairs m AtRoot told purpose e = search rules
stage_pairs m Making told purpose e = search rules
stage_pairs m (Opening t) told purpose e = search rules
stage_pairs m (Searching way) told purpose e = search (rules, goes_pairs)
stage_pairs m (Writing write) told purpose e = search (rules, goes_pairs)
stage_pairs m (Offering gap) told purpose e = search rules
stage_pairs m (Showing removal) told purpose e = search rules
stage_pairs m (Putting put) told purpose e = search (rules, goes_pairs)
stage_pairs m (Burying removal) told purpose e = search (rules, beaten_pairs)
stage_pairs m (Counting claimed) told purpose e = search rules
stage_pairs m (Noting claimed) told purpose e = search rules
stage_pairs m (Uncounting n) told purpose e = search rules
stage_pairs m (Leaving t) told purpose e = search (rules, left_pairs)
stage_pairs m (Growing need) told purpose e = search rules
stage_pairs m (Ended reply) told purpose e = search rules

-- the result of a closure adds no replacement to the remembered choice
decided_choice : (task : Task) (held : Remembered) (removal : Removal) (kind : OpKind) (old : ℕ) (new : Of)
    → (decided_held task held removal kind).choice ≡ Some (To_replace old new) → held.choice ≡ Some (To_replace old new)
decided_choice tasks.Compute held removal op_kinds.Insert old new e = e
decided_choice tasks.Compute held removal op_kinds.Remove old new e = absurd cc
decided_choice tasks.Compute held removal (op_kinds.Abort t) old new e = e
decided_choice tasks.Get held removal kind old new e = e
decided_choice (tasks.Insert replace) held removal kind old new e = e
decided_choice tasks.RemoveIf held removal kind old new e = e

-- the same for the remembered choice
choice_pairs : (m : Call_machine) (stage : Stage) (told : Call_answer) (old : ℕ) (new : Of)
    → (calls.after (at_stage m stage) told).remembered.choice ≡ Some (To_replace old new) → WasPairs (at_stage m stage) told
choice_pairs m (Pairing other) told old new e = inl (inl (other, refl))
choice_pairs m (Showing removal) (Op kind) old new e = inl (inr (old, new, decided_choice m.task m.remembered removal kind old new e))
choice_pairs m stage (Word_read word) old new e = inl (inr (old, new, e))
choice_pairs m stage told old new e = inl (inr (old, new, e))

-- for the machine
pub pairs_before : (m : Call_machine) (told : Call_answer) → IsToPair (calls.after m told) → WasPairs m told
pairs_before m told (inl (purpose, e)) = stage_pairs m m.state told purpose e
pairs_before m told (inr (old, new, e)) = choice_pairs m m.state told old new e
