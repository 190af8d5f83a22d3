-- A copy fails only if making a table fails, or if the table would be too long.
use Rattle.std.proofs.Common.{◌≡◌, ℕ, ◌==◌, ◌||◌, nat_lt, not, cond, Bool, true, false, Option, None, Some, refl, ap, ◌∙◌}
use Rattle.std.proofs.lemmas.Bool.{cond_both}
use Rattle.papaya_words.specs.Word.{kind_of, may_hold}
use Rattle.papaya_words.specs.declared.refused.Refused.{Refused}
use Rattle.papaya_words.specs.declared.resize_mode.ResizeMode.{ResizeMode}
use Rattle.papaya_words.specs.declared.resize_mode.ResizeMode.TheVariants.{Incremental, Blocking}
use Rattle.papaya_words.specs.declared.word.Kind.{Kind}
use Rattle.papaya_words.specs.declared.word.Kind.TheVariants as word_kinds
use Rattle.papaya_call.specs.declared.search.Place.{Place}
use Rattle.papaya_call.specs.Search.{next_place}
use Rattle.papaya_call.specs.declared.copy.carry.Carried.{Carried}
use Rattle.papaya_call.specs.declared.copy.carry.Carried.TheVariants as carried
use Rattle.papaya_call.specs.declared.copy.carry.Carry.{Carry}
use Rattle.papaya_call.specs.declared.copy.carry.Carry.TheVariants as carries
use Rattle.papaya_call.specs.declared.copy.copying.Aim.{Aim}
use Rattle.papaya_call.specs.declared.copy.copying.Aim.TheVariants as aims
use Rattle.papaya_call.specs.declared.copy.copying.Copied.{Copied}
use Rattle.papaya_call.specs.declared.copy.copying.Copied.TheVariants as copied
use Rattle.papaya_call.specs.declared.copy.copying.Copying.{Copying}
use Rattle.papaya_call.specs.declared.copy.copying.Copying.TheVariants.{Stepping, Lone}
use Rattle.papaya_call.specs.declared.copy.link.Link.{Link}
use Rattle.papaya_call.specs.declared.copy.link.Link.TheVariants as links
use Rattle.papaya_call.specs.declared.copy.link.Linked.{Linked}
use Rattle.papaya_call.specs.declared.copy.link.Linked.TheVariants as linked
use Rattle.papaya_call.specs.declared.copy.settle.Settle.{Settle}
use Rattle.papaya_call.specs.declared.copy.settle.Settle.TheVariants as settles
use Rattle.papaya_call.specs.declared.copy.settle.Settled.{Settled}
use Rattle.papaya_call.specs.declared.copy.settle.Settled.TheVariants as settled
use Rattle.papaya_call.specs.declared.copy.settle.SlotToCopy.{SlotToCopy}
use Rattle.papaya_call.specs.declared.copy.step.Chunk.{Chunk}
use Rattle.papaya_call.specs.declared.copy.step.Cursor.{Cursor}
use Rattle.papaya_call.specs.declared.copy.step.Step.{Step}
use Rattle.papaya_call.specs.declared.copy.step.Step.TheVariants as steps
use Rattle.papaya_call.specs.declared.copy.step.Stepped.{Stepped}
use Rattle.papaya_call.specs.declared.copy.step.Stepped.TheVariants as stepped
use Rattle.papaya_call.specs.Carry as carry
use Rattle.papaya_call.specs.Copying as copying
use Rattle.papaya_call.specs.Link as link
use Rattle.papaya_call.specs.Settle as settle
use Rattle.papaya_call.specs.Step as step
use Rattle.papaya_call_law.specs.Copier.{link_in_carry, link_in_copying, link_in_settle, link_in_step}

-- the failure with which each ends
abbrev pub of_linked : Linked → Option Refused
of_linked (linked.Refused refused) = Some refused
of_linked _ = None

abbrev of_carried : Carried → Option Refused
of_carried (carried.Refused refused) = Some refused
of_carried _ = None

abbrev of_settled : Settled → Option Refused
of_settled (settled.Refused refused) = Some refused
of_settled _ = None

abbrev of_stepped : Stepped → Option Refused
of_stepped (stepped.Refused refused) = Some refused
of_stepped _ = None

abbrev pub of_copied : Copied → Option Refused
of_copied (copied.Refused refused) = Some refused
of_copied _ = None

-- the failure of the making of a table, if one is under way
abbrev pub of_link : (Link → Linked) → Option Link → Option Refused
of_link after None = None
of_link after (Some made) = of_linked (after made)

-- an outer part ends as the part within it does
carried_on_as : (hash : ℕ) (end : Linked) → of_carried (carry.carried_on hash end) ≡ of_linked end
carried_on_as hash (linked.On made) = refl
carried_on_as hash (linked.Table table) = refl
carried_on_as hash (linked.Refused refused) = refl

settled_by_as : (marked : ℕ) (mode : ResizeMode) (end : Carried) → of_settled (settle.settled_by marked mode end) ≡ of_carried end
settled_by_as marked mode (carried.On goes) = refl
settled_by_as marked (Incremental chunk) carried.Carried = refl
settled_by_as marked Blocking carried.Carried = refl
settled_by_as marked mode (carried.Unfit table) = refl
settled_by_as marked mode (carried.Refused refused) = refl

next_in_none : (chunk : Chunk) → of_stepped (step.next_in chunk) ≡ None
next_in_none chunk = cond_both (nat_lt chunk.at chunk.end) (stepped.On (steps.Settling chunk settles.Looking))
    (stepped.On (steps.Advancing chunk.cursor)) (λ y. of_stepped y ≡ None) (λ _. refl) (λ _. refl)

settled_to_as : (chunk : Chunk) (end : Settled) → of_stepped (step.settled_to chunk end) ≡ of_settled end
settled_to_as chunk (settled.On goes) = refl
settled_to_as chunk settled.Settled = next_in_none (step.next_slot chunk)
settled_to_as chunk (settled.Unfit table) = refl
settled_to_as chunk (settled.Refused refused) = refl

linked_to_as : (from : ℕ) (end : Linked) → of_stepped (step.linked_to from end) ≡ of_linked end
linked_to_as from (linked.On made) = refl
linked_to_as from (linked.Table table) = refl
linked_to_as from (linked.Refused refused) = refl

over_none : (aim : Aim) → of_copied (copying.over aim) ≡ None
over_none (aims.Search table) = refl
over_none (aims.Settle slot) = refl
over_none aims.Chunk = refl
over_none (aims.All met) = refl

last_none : (aim : Aim) (table : ℕ) → of_copied (copying.last aim table) ≡ None
last_none (aims.All met) table = refl
last_none (aims.Search n) table = refl
last_none (aims.Settle slot) table = refl
last_none aims.Chunk table = refl

all_none : (met : ℕ) (mode : ResizeMode) (root : ℕ) → of_copied (copying.all_of met mode root) ≡ None
all_none met (Incremental chunk) root = refl
all_none met Blocking root = cond_both (met == 0 || met == root) (copied.On (Stepping (aims.All root) (steps.Aiming root root))) (copied.Root root)
    (λ y. of_copied y ≡ None) (λ _. refl) (λ _. refl)

root_none : (aim : Aim) (mode : ResizeMode) (root : ℕ) → of_copied (copying.at_root aim mode root) ≡ None
root_none (aims.All met) mode root = cond_both (root == 0) (copied.Root 0) (copying.all_of met mode root) (λ y. of_copied y ≡ None) (λ _. refl)
    (λ _. all_none met mode root)
root_none (aims.Search table) mode root = cond_both (root == 0) (copying.over (aims.Search table))
    (copied.On (Stepping (aims.Search table) (steps.Aiming root root))) (λ y. of_copied y ≡ None) (λ _. refl) (λ _. refl)
root_none (aims.Settle slot) mode root = cond_both (root == 0) (copying.over (aims.Settle slot))
    (copied.On (Stepping (aims.Settle slot) (steps.Aiming root root))) (λ y. of_copied y ≡ None) (λ _. refl) (λ _. refl)
root_none aims.Chunk mode root = cond_both (root == 0) (copying.over aims.Chunk) (copied.On (Stepping aims.Chunk (steps.Aiming root root)))
    (λ y. of_copied y ≡ None) (λ _. refl) (λ _. refl)

further_none : (aim : Aim) (chunk : Chunk) → of_copied (copying.further aim chunk) ≡ None
further_none (aims.Search table) chunk = refl
further_none (aims.Settle slot) chunk = refl
further_none aims.Chunk chunk = refl
further_none (aims.All met) chunk = refl

leads_as : (aim : Aim) (mode : ResizeMode) (end : Stepped) → of_copied (copying.leads aim mode end) ≡ of_stepped end
leads_as aim mode (stepped.On goes) = refl
leads_as aim mode (stepped.Root root) = root_none aim mode root
leads_as aim mode (stepped.Last table) = last_none aim table
leads_as aim mode (stepped.Further chunk) = further_none aim chunk
leads_as aim mode stepped.Over = over_none aim
leads_as aim mode (stepped.Refused refused) = refl

lone_as : (slot : SlotToCopy) (end : Settled) → of_copied (copying.lone slot end) ≡ of_settled end
lone_as slot (settled.On goes) = refl
lone_as slot settled.Settled = refl
lone_as slot (settled.Unfit table) = refl
lone_as slot (settled.Refused refused) = refl

-- no answer with a word ends the making of a table with a failure
link_exchanged_none : (made : Link) → of_linked (link.at_exchanged made) ≡ None
link_exchanged_none (links.Linking behind table chunks) = refl
link_exchanged_none (links.Sizing behind copied unfit) = refl
link_exchanged_none (links.Measuring behind copied unfit len) = refl
link_exchanged_none (links.Counting behind unfit slots copied) = refl
link_exchanged_none (links.Making behind slots limit chunks) = refl

link_found_none : (made : Link) (word : ℕ) → of_linked (link.at_found made word) ≡ None
link_found_none (links.Linking behind table chunks) word = refl
link_found_none (links.Sizing behind copied unfit) word = refl
link_found_none (links.Measuring behind copied unfit len) word = refl
link_found_none (links.Counting behind unfit slots copied) word = refl
link_found_none (links.Making behind slots limit chunks) word = refl

-- nor a move
goes_on_none : (hash : ℕ) (at : Place) (mode : ResizeMode) → of_carried (carry.goes_on hash at mode) ≡ None
goes_on_none hash at mode = cond_both (nat_lt at.probe.len at.limit) (carried.On (carries.Looking hash (next_place at)))
    (carried.On (carry.fills hash at.table mode)) (λ y. of_carried y ≡ None) (λ _. refl) (λ _. refl)

hinted_none : (hash : ℕ) (at : Place) (mode : ResizeMode) (hint : ℕ) → of_carried (carry.hinted hash at mode hint) ≡ None
hinted_none hash at mode hint = cond_both (may_hold hint hash) (carried.On (carries.Reading hash at)) (carry.goes_on hash at mode)
    (λ y. of_carried y ≡ None) (λ _. refl) (λ _. goes_on_none hash at mode)

look_none : (kind : Kind) (hash : ℕ) (at : Place) (mode : ResizeMode) (word : ℕ) → of_carried (carry.look_at kind hash at mode word) ≡ None
look_none word_kinds.Empty hash at mode word = refl
look_none word_kinds.Closed hash at mode word = goes_on_none hash at mode
look_none word_kinds.Buried hash at mode word = refl
look_none word_kinds.Live hash at mode word = refl
look_none word_kinds.Marked hash at mode word = refl
look_none word_kinds.Copied hash at mode word = refl

carry_word_none : (goes : Carry) (mode : ResizeMode) (word : ℕ) → of_carried (carry.at_word goes mode word) ≡ None
carry_word_none (carries.Looking hash at) mode word = hinted_none hash at mode word
carry_word_none (carries.Reading hash at) mode word = look_none (kind_of word) hash at mode word
carry_word_none (carries.Passing hash table) mode word = refl
carry_word_none goes mode word = refl

carry_yes_none : (goes : Carry) (mode : ResizeMode) (same : Bool) → of_carried (carry.at_yes goes mode same) ≡ None
carry_yes_none (carries.Comparing hash at word) mode true = refl
carry_yes_none (carries.Comparing hash at word) mode false = goes_on_none hash at mode
carry_yes_none goes mode same = refl

carry_exchanged_none : (goes : Carry) → of_carried (carry.at_exchanged goes) ≡ None
carry_exchanged_none (carries.Placing hash at) = refl
carry_exchanged_none (carries.Placed hash at) = refl
carry_exchanged_none (carries.Linking hash made) = carried_on_as hash (link.at_exchanged made) ∙ link_exchanged_none made
carry_exchanged_none (carries.Aborting table) = refl
carry_exchanged_none goes = refl

carry_ok_none : (goes : Carry) → of_carried (carry.at_ok goes) ≡ None
carry_ok_none (carries.Placed hash at) = refl
carry_ok_none goes = refl

carry_found_none : (goes : Carry) (mode : ResizeMode) (word : ℕ) → of_carried (carry.at_found goes mode word) ≡ None
carry_found_none (carries.Placing hash at) mode word = look_none (kind_of word) hash at mode word
carry_found_none (carries.Linking hash made) mode word = carried_on_as hash (link.at_found made word) ∙ link_found_none made word
carry_found_none (carries.Aborting table) mode word = refl
carry_found_none goes mode word = refl

carry_count_as : (goes : Carry) (mode : ResizeMode) (count initial : ℕ)
    → of_carried (carry.at_count goes mode count initial) ≡ of_link (λ made. link.at_count made mode count initial) (link_in_carry goes)
carry_count_as (carries.Linking hash made) mode count initial = carried_on_as hash (link.at_count made mode count initial)
carry_count_as goes mode count initial = refl

carry_refused_as : (goes : Carry) (refused : Refused)
    → of_carried (carry.at_refused goes refused) ≡ of_link (λ made. link.at_refused made refused) (link_in_carry goes)
carry_refused_as (carries.Linking hash made) refused = carried_on_as hash (link.at_refused made refused)
carry_refused_as goes refused = refl

-- nor the copy of a slot
seen_none : (kind : Kind) (slot : SlotToCopy) (word : ℕ) → of_settled (settle.look_at kind slot word) ≡ None
seen_none word_kinds.Empty slot word = refl
seen_none word_kinds.Live slot word = refl
seen_none word_kinds.Marked slot word = refl
seen_none word_kinds.Copied slot word = refl
seen_none word_kinds.Buried slot word = refl
seen_none word_kinds.Closed slot word = refl

settle_word_none : (goes : Settle) (slot : SlotToCopy) (mode : ResizeMode) (word : ℕ) → of_settled (settle.at_word goes slot mode word) ≡ None
settle_word_none settles.Looking slot mode word = seen_none (kind_of word) slot word
settle_word_none (settles.Carrying marked goes) slot mode word = settled_by_as marked mode (carry.at_word goes mode word) ∙ carry_word_none goes mode word
settle_word_none goes slot mode word = refl

settle_yes_none : (goes : Settle) (mode : ResizeMode) (same : Bool) → of_settled (settle.at_yes goes mode same) ≡ None
settle_yes_none (settles.Carrying marked goes) mode same = settled_by_as marked mode (carry.at_yes goes mode same) ∙ carry_yes_none goes mode same
settle_yes_none goes mode same = refl

settle_exchanged_none : (goes : Settle) (slot : SlotToCopy) (mode : ResizeMode) → of_settled (settle.at_exchanged goes slot mode) ≡ None
settle_exchanged_none settles.Looking slot mode = refl
settle_exchanged_none settles.Closing slot mode = refl
settle_exchanged_none settles.Shutting slot mode = refl
settle_exchanged_none (settles.Marking word) slot mode = refl
settle_exchanged_none (settles.Carrying marked goes) slot mode = settled_by_as marked mode (carry.at_exchanged goes) ∙ carry_exchanged_none goes
settle_exchanged_none (settles.Finishing word) slot mode = refl

settle_ok_none : (goes : Settle) (mode : ResizeMode) → of_settled (settle.at_ok goes mode) ≡ None
settle_ok_none settles.Shutting mode = refl
settle_ok_none (settles.Carrying marked goes) mode = settled_by_as marked mode (carry.at_ok goes) ∙ carry_ok_none goes
settle_ok_none goes mode = refl

settle_found_none : (goes : Settle) (slot : SlotToCopy) (mode : ResizeMode) (word : ℕ) → of_settled (settle.at_found goes slot mode word) ≡ None
settle_found_none settles.Looking slot mode word = refl
settle_found_none settles.Closing slot mode word = seen_none (kind_of word) slot word
settle_found_none settles.Shutting slot mode word = refl
settle_found_none (settles.Marking old) slot mode word = seen_none (kind_of word) slot word
settle_found_none (settles.Carrying marked goes) slot mode word = settled_by_as marked mode (carry.at_found goes mode word) ∙ carry_found_none goes mode word
settle_found_none (settles.Finishing old) slot mode word = refl

settle_count_as : (goes : Settle) (mode : ResizeMode) (count initial : ℕ)
    → of_settled (settle.at_count goes mode count initial) ≡ of_link (λ made. link.at_count made mode count initial) (link_in_settle goes)
settle_count_as (settles.Carrying marked goes) mode count initial = settled_by_as marked mode (carry.at_count goes mode count initial)
    ∙ carry_count_as goes mode count initial
settle_count_as goes mode count initial = refl

settle_refused_as : (goes : Settle) (mode : ResizeMode) (refused : Refused)
    → of_settled (settle.at_refused goes mode refused) ≡ of_link (λ made. link.at_refused made refused) (link_in_settle goes)
settle_refused_as (settles.Carrying marked goes) mode refused = settled_by_as marked mode (carry.at_refused goes refused) ∙ carry_refused_as goes refused
settle_refused_as goes mode refused = refl

-- nor that of a chunk
aimed_none : (from behind : ℕ) (mode : ResizeMode) (next : ℕ) → of_stepped (step.aimed from behind mode next) ≡ None
aimed_none from behind (Incremental chunk) next = cond_both (next == 0) (stepped.Last from) (stepped.On (steps.Sizing from next))
    (λ y. of_stepped y ≡ None) (λ _. refl) (λ _. refl)
aimed_none from behind Blocking next = cond_both (next == 0) (stepped.On (steps.Linking from (links.Sizing behind from (not (behind == from)))))
    (stepped.On (steps.Judging from next)) (λ y. of_stepped y ≡ None) (λ _. refl) (λ _. refl)

chunk_read_none : (cursor : Cursor) (done : ℕ) → of_stepped (step.chunk_read cursor done) ≡ None
chunk_read_none cursor done =
    cond_both (not (done == 0)) (stepped.On (step.next_cursor cursor))
    (cond cursor.copied (stepped.Further (step.chunk_at cursor)) (stepped.On (steps.Settling (step.chunk_at cursor) settles.Looking)))
    (λ y. of_stepped y ≡ None) (λ _. refl)
    (λ _. cond_both cursor.copied (stepped.Further (step.chunk_at cursor)) (stepped.On (steps.Settling (step.chunk_at cursor) settles.Looking))
    (λ y. of_stepped y ≡ None) (λ _. refl) (λ _. refl))

step_word_none : (goes : Step) (mode : ResizeMode) (word : ℕ) → of_stepped (step.at_word goes mode word) ≡ None
step_word_none steps.AtRoot mode word = refl
step_word_none (steps.Aiming from behind) mode word = aimed_none from behind mode word
step_word_none (steps.AtChunk cursor) mode word = chunk_read_none cursor word
step_word_none (steps.Settling chunk goes) mode word = settled_to_as chunk (settle.at_word goes (step.slot_of chunk) mode word)
    ∙ settle_word_none goes (step.slot_of chunk) mode word
step_word_none goes mode word = refl

step_yes_none : (goes : Step) (mode : ResizeMode) (same : Bool) → of_stepped (step.at_yes goes mode same) ≡ None
step_yes_none (steps.Settling chunk goes) mode same = settled_to_as chunk (settle.at_yes goes mode same) ∙ settle_yes_none goes mode same
step_yes_none goes mode same = refl

step_exchanged_none : (goes : Step) (mode : ResizeMode) → of_stepped (step.at_exchanged goes mode) ≡ None
step_exchanged_none (steps.Linking from made) mode = linked_to_as from (link.at_exchanged made) ∙ link_exchanged_none made
step_exchanged_none (steps.Settling chunk goes) mode = settled_to_as chunk (settle.at_exchanged goes (step.slot_of chunk) mode)
    ∙ settle_exchanged_none goes (step.slot_of chunk) mode
step_exchanged_none (steps.Advancing cursor) mode = refl
step_exchanged_none goes mode = refl

step_ok_none : (goes : Step) (mode : ResizeMode) → of_stepped (step.at_ok goes mode) ≡ None
step_ok_none (steps.Settling chunk goes) mode = settled_to_as chunk (settle.at_ok goes mode) ∙ settle_ok_none goes mode
step_ok_none goes mode = refl

step_found_none : (goes : Step) (mode : ResizeMode) (word : ℕ) → of_stepped (step.at_found goes mode word) ≡ None
step_found_none (steps.Linking from made) mode word = linked_to_as from (link.at_found made word) ∙ link_found_none made word
step_found_none (steps.Settling chunk goes) mode word = settled_to_as chunk (settle.at_found goes (step.slot_of chunk) mode word)
    ∙ settle_found_none goes (step.slot_of chunk) mode word
step_found_none (steps.Advancing cursor) mode word = refl
step_found_none goes mode word = refl

step_count_as : (goes : Step) (mode : ResizeMode) (count initial : ℕ)
    → of_stepped (step.at_count goes mode count initial) ≡ of_link (λ made. link.at_count made mode count initial) (link_in_step goes)
step_count_as (steps.Linking from made) mode count initial = linked_to_as from (link.at_count made mode count initial)
step_count_as (steps.Settling chunk goes) mode count initial = settled_to_as chunk (settle.at_count goes mode count initial)
    ∙ settle_count_as goes mode count initial
step_count_as goes mode count initial = refl

step_refused_as : (goes : Step) (mode : ResizeMode) (refused : Refused)
    → of_stepped (step.at_refused goes mode refused) ≡ of_link (λ made. link.at_refused made refused) (link_in_step goes)
step_refused_as (steps.Linking from made) mode refused = linked_to_as from (link.at_refused made refused)
step_refused_as (steps.Settling chunk goes) mode refused = settled_to_as chunk (settle.at_refused goes mode refused) ∙ settle_refused_as goes mode refused
step_refused_as goes mode refused = refl

-- nor that of the root
pub copying_word_none : (goes : Copying) (mode : ResizeMode) (word : ℕ) → of_copied (copying.at_word goes mode word) ≡ None
copying_word_none (Stepping aim goes) mode word = leads_as aim mode (step.at_word goes mode word) ∙ step_word_none goes mode word
copying_word_none (Lone slot goes) mode word = lone_as slot (settle.at_word goes slot mode word) ∙ settle_word_none goes slot mode word

pub copying_yes_none : (goes : Copying) (mode : ResizeMode) (same : Bool) → of_copied (copying.at_yes goes mode same) ≡ None
copying_yes_none (Stepping aim goes) mode same = leads_as aim mode (step.at_yes goes mode same) ∙ step_yes_none goes mode same
copying_yes_none (Lone slot goes) mode same = lone_as slot (settle.at_yes goes mode same) ∙ settle_yes_none goes mode same

pub copying_exchanged_none : (goes : Copying) (mode : ResizeMode) → of_copied (copying.at_exchanged goes mode) ≡ None
copying_exchanged_none (Stepping aim goes) mode = leads_as aim mode (step.at_exchanged goes mode) ∙ step_exchanged_none goes mode
copying_exchanged_none (Lone slot goes) mode = lone_as slot (settle.at_exchanged goes slot mode) ∙ settle_exchanged_none goes slot mode

pub copying_ok_none : (goes : Copying) (mode : ResizeMode) → of_copied (copying.at_ok goes mode) ≡ None
copying_ok_none (Stepping aim goes) mode = leads_as aim mode (step.at_ok goes mode) ∙ step_ok_none goes mode
copying_ok_none (Lone slot goes) mode = lone_as slot (settle.at_ok goes mode) ∙ settle_ok_none goes mode

pub copying_found_none : (goes : Copying) (mode : ResizeMode) (word : ℕ) → of_copied (copying.at_found goes mode word) ≡ None
copying_found_none (Stepping aim goes) mode word = leads_as aim mode (step.at_found goes mode word) ∙ step_found_none goes mode word
copying_found_none (Lone slot goes) mode word = lone_as slot (settle.at_found goes slot mode word) ∙ settle_found_none goes slot mode word

-- after a count or a failure it ends as the making of its table does
pub copying_count_as : (goes : Copying) (mode : ResizeMode) (count initial : ℕ)
    → of_copied (copying.at_count goes mode count initial) ≡ of_link (λ made. link.at_count made mode count initial) (link_in_copying goes)
copying_count_as (Stepping aim goes) mode count initial = leads_as aim mode (step.at_count goes mode count initial) ∙ step_count_as goes mode count initial
copying_count_as (Lone slot goes) mode count initial = lone_as slot (settle.at_count goes mode count initial) ∙ settle_count_as goes mode count initial

pub copying_refused_as : (goes : Copying) (mode : ResizeMode) (refused : Refused)
    → of_copied (copying.at_refused goes mode refused) ≡ of_link (λ made. link.at_refused made refused) (link_in_copying goes)
copying_refused_as (Stepping aim goes) mode refused = leads_as aim mode (step.at_refused goes mode refused) ∙ step_refused_as goes mode refused
copying_refused_as (Lone slot goes) mode refused = lone_as slot (settle.at_refused goes mode refused) ∙ settle_refused_as goes mode refused

-- its ask is that of the making of its table
settle_asks : (goes : Settle) (slot : SlotToCopy) (made : Link) → link_in_settle goes ≡ Some made → settle.settle_ask goes slot ≡ link.link_ask made
settle_asks (settles.Carrying marked (carries.Linking hash other)) slot made e = let same : other ≡ made = cc e in ap link.link_ask same
settle_asks (settles.Carrying marked goes) slot made e = absurd cc
settle_asks goes slot made e = absurd cc

step_asks : (goes : Step) (made : Link) → link_in_step goes ≡ Some made → step.step_ask goes ≡ link.link_ask made
step_asks (steps.Linking from other) made e = let same : other ≡ made = cc e in ap link.link_ask same
step_asks (steps.Settling chunk goes) made e = settle_asks goes (step.slot_of chunk) made e
step_asks goes made e = absurd cc

pub copying_asks : (goes : Copying) (made : Link) → link_in_copying goes ≡ Some made → copying.copying_ask goes ≡ link.link_ask made
copying_asks (Stepping aim goes) made e = step_asks goes made e
copying_asks (Lone slot goes) made e = settle_asks goes slot made e
