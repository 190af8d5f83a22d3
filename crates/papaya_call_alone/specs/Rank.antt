-- How far a call is from its end. If a table is made or a word exchanged, the budget falls.
-- Otherwise a call goes on from phase to phase, within a phase from table to table, and within a
-- table step by step.
use Rattle.std.specs.Prelude.{ℕ, ◌+◌, ◌*◌, ◌-◌, ◌^◌, ◌==◌, ◌||◌, if◌then◌else◌}
use Rattle.papaya_call.specs.declared.search.Search.{Search}
use Rattle.papaya_call.specs.declared.search.Search.TheVariants.{Sizing, Looking, Reading, Comparing}
use Rattle.papaya_call.specs.declared.compute.Gap.{Gap}
use Rattle.papaya_call.specs.declared.compute.Gap.TheVariants.{NoRoot, At as At_place, After}
use Rattle.papaya_call.specs.declared.compute.Purpose.{Purpose}
use Rattle.papaya_call.specs.declared.compute.Purpose.TheVariants.{Fill, Replace, Again}
use Rattle.papaya_call.specs.declared.machine.Machine.{Machine as Call_machine}
use Rattle.papaya_call.specs.declared.machine.State.{State}
use Rattle.papaya_call.specs.declared.machine.State.TheVariants.{AtRoot, Making, Opening, Searching}
use Rattle.papaya_call.specs.declared.machine.State.TheVariants.{Writing, Offering, Showing}
use Rattle.papaya_call.specs.declared.machine.State.TheVariants.{Pairing, Putting, Burying}
use Rattle.papaya_call.specs.declared.machine.State.TheVariants.{Counting, Noting, Uncounting}
use Rattle.papaya_call.specs.declared.machine.State.TheVariants.{Leaving, Growing, Ended}
use Rattle.papaya_call.specs.declared.made.Made.{Made}
use Rattle.papaya_call.specs.Machine.{needed}
use Rattle.papaya_call.specs.declared.chain.machine.Machine.{Machine}
use Rattle.papaya_call.specs.declared.chain.machine.Phase.{Phase}
use Rattle.papaya_call.specs.declared.chain.machine.Phase.TheVariants.{Calling, Linking, Copying as Copying_root}
use Rattle.papaya_call.specs.declared.copy.copying.Aim.{Aim}
use Rattle.papaya_call.specs.declared.copy.copying.Aim.TheVariants as aims
use Rattle.papaya_call.specs.declared.copy.copying.Copying.{Copying}
use Rattle.papaya_call.specs.declared.copy.copying.Copying.TheVariants as copyings
use Rattle.papaya_call.specs.declared.copy.step.Step.{Step}
use Rattle.papaya_call.specs.declared.copy.step.Step.TheVariants as steps
use Rattle.papaya_call_law.specs.Alone.{left_to_pair, left_to_write}
use Rattle.papaya_call_alone.specs.Budget.{Budget}
use Rattle.papaya_call_alone.specs.Measure.{further, left_of_link, left_of_settle, left_of_step}

-- the rank in this phase, if `hops` more tables may come, and `left` is left in this table
abbrev pub rank : (phase hops left : ℕ) → ℕ
rank phase hops left = (phase * 2 ^ 33 + hops) * 2 ^ 128 + left

-- the table that a search is in
abbrev pub table_of : Search → ℕ
table_of (Sizing t) = t
table_of (Looking at) = at.table
table_of (Reading at) = at.table
table_of (Comparing at word) = at.table

-- what is left to a search of a table and to what follows it
abbrev pub left_of_search : Search → ℕ
left_of_search (Sizing t) = 2 * 2 ^ 68
left_of_search (Looking at) = 2 ^ 68 + 3 * (at.limit - at.probe.len) + 19
left_of_search (Reading at) = 2 ^ 68 + 3 * (at.limit - at.probe.len) + 18
left_of_search (Comparing at word) = 2 ^ 68 + 3 * (at.limit - at.probe.len) + 17

-- how many tables may come after the one where a key is absent
abbrev pub hops_of : Gap → ℕ
hops_of NoRoot = 2 ^ 32
hops_of (At_place at) = further at.table
hops_of (After t) = further t

abbrev pub rank_to_serve : Made → Purpose → ℕ
rank_to_serve made (Fill gap) = rank 2 (hops_of gap) (2 ^ 68 + 4 + left_to_pair made 0)
rank_to_serve made (Replace write) = rank 1 0 (1 + left_to_pair made write.old)
rank_to_serve made (Again write) = rank 1 0 (1 + left_to_pair made write.old)

-- the rank of a call in a table that it has come to
abbrev pub rank_in : Made → State → ℕ
rank_in made AtRoot = rank 4 0 0
rank_in made Making = rank 1 0 2
rank_in made (Opening t) = rank 1 0 1
rank_in made (Searching search) = rank 2 (further (table_of search)) (left_of_search search)
rank_in made (Writing write) = rank 1 0 (left_to_write made write)
rank_in made (Offering gap) = rank 2 (hops_of gap) (2 ^ 68 + 10)
rank_in made (Showing removal) = rank 1 0 9
rank_in made (Pairing purpose) = rank_to_serve made purpose
rank_in made (Putting put) = rank 1 0 1
rank_in made (Burying removal) = rank 1 0 1
rank_in made (Counting claimed) = rank 0 0 2
rank_in made (Noting claimed) = rank 0 0 1
rank_in made (Uncounting n) = rank 0 0 1
rank_in made (Leaving t) = rank 2 (further t) (2 ^ 68 + 16)
rank_in made (Growing need) = rank 2 (further (needed need)) (2 ^ 68 + 3)
rank_in made (Ended reply) = 0

-- the rank of a copy that is about to load the root: a copy of all that began at another root
-- begins again, and any other copy goes on until it exchanges a word
abbrev pub rank_at_root : (root : ℕ) → Aim → ℕ
rank_at_root root (aims.All met) = if met == 0 || met == root then rank 1 0 (2 * 2 ^ 102)
    else rank 3 0 0
rank_at_root root _ = rank 1 0 (2 * 2 ^ 102)

-- the rank of a copy at this step: once it has copied a chunk it looks for the next one, and
-- exchanges no word before it is over
abbrev pub rank_of_step : (root : ℕ) → Aim → Step → ℕ
rank_of_step root aim steps.AtRoot = rank_at_root root aim
rank_of_step root aim (steps.AtChunk cursor) = if cursor.copied
    then rank 5 0 (left_of_step (steps.AtChunk cursor))
    else rank 1 0 (left_of_step (steps.AtChunk cursor))
rank_of_step root aim step = rank 1 0 (left_of_step step)

abbrev pub rank_of_copying : (root : ℕ) → Copying → ℕ
rank_of_copying root (copyings.Stepping aim step) = rank_of_step root aim step
rank_of_copying root (copyings.Lone slot settle) = rank 2 (further slot.to + 1)
    (left_of_settle settle)

-- the rank of a call, or of the copy for which it is set aside
abbrev pub rank_of_phase : (root : ℕ) → Call_machine → Phase → ℕ
rank_of_phase root call Calling = rank_in call.made call.state
rank_of_phase root call (Linking link) = rank 1 0 (left_of_link link)
rank_of_phase root call (Copying_root copying) = rank_of_copying root copying

abbrev pub rank_of : (root : ℕ) → Machine → ℕ
rank_of root m = rank_of_phase root m.call m.phase

-- The measure of a call, by its budget and its rank: it falls with each answer.
abbrev pub measure : Budget → (root : ℕ) → Machine → ℕ
measure budget root m = (budget.tables * 2 ^ 128 + budget.exchanges) * 2 ^ 192 + rank_of root m
