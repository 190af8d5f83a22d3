-- A bound on how much is left to a copy until it has made a table, exchanged a word or ended. Each
-- place costs a little, each table that may come after this one more than all places of a table,
-- each slot more than all tables, and all words of chunks that may still be loaded less than a
-- slot. Once a table was linked or aborted a copy may begin again, so as much is left then as at
-- its beginning.
use Rattle.std.specs.Prelude.{ℕ, ◌+◌, ◌*◌, ◌-◌, ◌^◌, if◌then◌else◌}
use Rattle.papaya_call.specs.declared.copy.carry.Carried.{Carried}
use Rattle.papaya_call.specs.declared.copy.carry.Carried.TheVariants as carried
use Rattle.papaya_call.specs.declared.copy.carry.Carry.{Carry}
use Rattle.papaya_call.specs.declared.copy.carry.Carry.TheVariants as carries
use Rattle.papaya_call.specs.declared.copy.copying.Copied.{Copied}
use Rattle.papaya_call.specs.declared.copy.copying.Copied.TheVariants as copied
use Rattle.papaya_call.specs.declared.copy.copying.Copying.{Copying}
use Rattle.papaya_call.specs.declared.copy.copying.Copying.TheVariants as copyings
use Rattle.papaya_call.specs.declared.copy.link.Link.{Link}
use Rattle.papaya_call.specs.declared.copy.link.Link.TheVariants as links
use Rattle.papaya_call.specs.declared.copy.link.Linked.{Linked}
use Rattle.papaya_call.specs.declared.copy.link.Linked.TheVariants as linked
use Rattle.papaya_call.specs.declared.copy.settle.Settle.{Settle}
use Rattle.papaya_call.specs.declared.copy.settle.Settle.TheVariants as settles
use Rattle.papaya_call.specs.declared.copy.settle.Settled.{Settled}
use Rattle.papaya_call.specs.declared.copy.settle.Settled.TheVariants as settled
use Rattle.papaya_call.specs.declared.copy.step.Chunk.{Chunk}
use Rattle.papaya_call.specs.declared.copy.step.Cursor.{Cursor}
use Rattle.papaya_call.specs.declared.copy.step.Step.{Step}
use Rattle.papaya_call.specs.declared.copy.step.Step.TheVariants as steps
use Rattle.papaya_call.specs.declared.copy.step.Stepped.{Stepped}
use Rattle.papaya_call.specs.declared.copy.step.Stepped.TheVariants as stepped

-- how many tables may come after table t, since their numbers rise
abbrev pub further : ℕ → ℕ
further t = 2 ^ 32 - t

-- the bound for the making of a table
abbrev pub left_of_link : Link → ℕ
left_of_link (links.Sizing behind source unfit) = 5
left_of_link (links.Measuring behind source unfit len) = 4
left_of_link (links.Counting behind unfit len source) = 3
left_of_link (links.Making behind len limit chunks) = 2
left_of_link (links.Linking behind table chunks) = 1

abbrev pub left_of_linked : Linked → ℕ
left_of_linked (linked.On link) = left_of_link link
left_of_linked (linked.Table table) = 2 * 2 ^ 102
left_of_linked (linked.Refused refused) = 0

-- the bound for a carry, in its table and in those after it
abbrev pub left_of_carry : Carry → ℕ
left_of_carry (carries.Hashing table) = further table * 2 ^ 34 + 2 ^ 34 + 2
left_of_carry (carries.Sizing hash table) = further table * 2 ^ 34 + 2 ^ 34 + 1
left_of_carry (carries.Looking hash at) = further at.table * 2 ^ 34
    + 3 * (at.limit - at.probe.len) + 9
left_of_carry (carries.Reading hash at) = further at.table * 2 ^ 34
    + 3 * (at.limit - at.probe.len) + 8
left_of_carry (carries.Comparing hash at word) = further at.table * 2 ^ 34
    + 3 * (at.limit - at.probe.len) + 7
left_of_carry (carries.Placing hash at) = 1
left_of_carry (carries.Placed hash at) = 1
left_of_carry (carries.Passing hash table) = further table * 2 ^ 34 + 6
left_of_carry (carries.Linking hash link) = left_of_link link
left_of_carry (carries.Aborting table) = 1

abbrev pub left_of_carried : Carried → ℕ
left_of_carried (carried.On carry) = left_of_carry carry
left_of_carried (carried.Unfit table) = 2 * 2 ^ 102
left_of_carried _ = 0

-- the bound for the copy of a slot, over as many tables as there may be
abbrev pub left_of_settle : Settle → ℕ
left_of_settle settles.Looking = 2 ^ 66 + 2 ^ 34 + 5
left_of_settle (settles.Carrying word carry) = left_of_carry carry + 1
left_of_settle _ = 1

abbrev pub left_of_settled : Settled → ℕ
left_of_settled (settled.On settle) = left_of_settle settle
left_of_settled (settled.Unfit table) = 2 * 2 ^ 102
left_of_settled _ = 0

-- how many words of chunks the cursor may still load after this one
abbrev pub words_left : Cursor → ℕ
words_left cursor = if cursor.wrapped then cursor.start - cursor.at
    else cursor.len - cursor.begun + cursor.start + 1

-- the bound for the slots of a chunk from this one on
abbrev pub left_of_chunk : Chunk → Settle → ℕ
left_of_chunk chunk settle = (chunk.end - chunk.at - 1) * 2 ^ 68 + left_of_settle settle + 2

-- the bound for the copy of a chunk, with as many slots as a table may have
abbrev pub left_of_step : Step → ℕ
left_of_step steps.AtRoot = 2 * 2 ^ 102
left_of_step (steps.Aiming from behind) = 2 ^ 102 + 6 + 2 * further behind
left_of_step (steps.Linking from link) = left_of_link link
left_of_step (steps.Judging from to) = 2 ^ 102 + 7 + 2 * further to
left_of_step (steps.Sizing from to) = 2 ^ 102 + 2
left_of_step (steps.AtChunk cursor) = cursor.len * 2 ^ 68 + 2 ^ 68 + words_left cursor + 3
left_of_step (steps.Settling chunk settle) = left_of_chunk chunk settle
left_of_step (steps.Advancing cursor) = 1
left_of_step (steps.Promoting from to) = 1

abbrev pub left_of_stepped : Stepped → ℕ
left_of_stepped (stepped.On step) = left_of_step step
left_of_stepped (stepped.Root root) = 2 ^ 102 + 6 + 2 * 2 ^ 32
left_of_stepped (stepped.Last table) = 2 ^ 102
left_of_stepped (stepped.Further chunk) = left_of_chunk chunk settles.Looking
left_of_stepped stepped.Over = 2 * 2 ^ 102
left_of_stepped (stepped.Refused refused) = 0

-- the bound for a copy of the root
abbrev pub left_of_copying : Copying → ℕ
left_of_copying (copyings.Stepping aim step) = left_of_step step
left_of_copying (copyings.Lone slot settle) = left_of_settle settle

abbrev pub left_of_copied : Copied → ℕ
left_of_copied (copied.On copying) = left_of_copying copying
left_of_copied _ = 0
