-- A property of a table that is made for a copy, from one answer to the next.
use Rattle.std.proofs.Common.{sym, ◌∙◌, ◌≡◌, ℕ, ◌==◌, ◌&&◌, ◌||◌, nat_lt, not, cond, Bool, true, false, Option, None, Some, refl, ap}
use Rattle.std.proofs.lemmas.Bool.{cond_both}
use Rattle.papaya_words.specs.Word.{kind_of, may_hold}
use Rattle.papaya_words.specs.declared.refused.Refused.{Refused}
use Rattle.papaya_words.specs.declared.resize_mode.ResizeMode.{ResizeMode}
use Rattle.papaya_words.specs.declared.resize_mode.ResizeMode.TheVariants.{Incremental, Blocking}
use Rattle.papaya_words.specs.declared.word.Kind.{Kind}
use Rattle.papaya_words.specs.declared.word.Kind.TheVariants as word_kinds
use Rattle.papaya_call.specs.declared.ask.Answer.{Answer as Call_answer}
use Rattle.papaya_call.specs.declared.ask.Answer.TheVariants.{Word as Word_read, Exchanged}
use Rattle.papaya_call.specs.declared.ask.Answer.TheVariants.{Found as Found_instead, Yes, Op, Size}
use Rattle.papaya_call.specs.declared.ask.Answer.TheVariants.{Made as Made_number, Ok as Ok_done}
use Rattle.papaya_call.specs.declared.ask.Answer.TheVariants.{Refused as Was_refused}
use Rattle.papaya_call.specs.declared.call.Task.{Task}
use Rattle.papaya_call.specs.declared.call.Task.TheVariants as tasks
use Rattle.papaya_call.specs.declared.search.Place.{Place}
use Rattle.papaya_call.specs.Search.{next_place}
use Rattle.papaya_call.specs.declared.copy.carry.Carried.{Carried}
use Rattle.papaya_call.specs.declared.copy.carry.Carried.TheVariants as carried
use Rattle.papaya_call.specs.declared.copy.carry.Carry.{Carry}
use Rattle.papaya_call.specs.declared.copy.carry.Carry.TheVariants as carries
use Rattle.papaya_call.specs.declared.copy.copying.Aim.{Aim}
use Rattle.papaya_call.specs.declared.copy.copying.Aim.TheVariants as aims
use Rattle.papaya_call.specs.declared.copy.copying.Copied.{Copied}
use Rattle.papaya_call.specs.declared.copy.copying.Copied.TheVariants as copied
use Rattle.papaya_call.specs.declared.copy.copying.Copying.{Copying}
use Rattle.papaya_call.specs.declared.copy.copying.Copying.TheVariants.{Stepping, Lone}
use Rattle.papaya_call.specs.declared.copy.link.Link.{Link}
use Rattle.papaya_call.specs.declared.copy.link.Link.TheVariants as links
use Rattle.papaya_call.specs.declared.copy.link.Linked.{Linked}
use Rattle.papaya_call.specs.declared.copy.link.Linked.TheVariants as linked
use Rattle.papaya_call.specs.declared.copy.settle.Settle.{Settle}
use Rattle.papaya_call.specs.declared.copy.settle.Settle.TheVariants as settles
use Rattle.papaya_call.specs.declared.copy.settle.Settled.{Settled}
use Rattle.papaya_call.specs.declared.copy.settle.Settled.TheVariants as settled
use Rattle.papaya_call.specs.declared.copy.settle.SlotToCopy.{SlotToCopy}
use Rattle.papaya_call.specs.declared.copy.step.Chunk.{Chunk}
use Rattle.papaya_call.specs.declared.copy.step.Cursor.{Cursor}
use Rattle.papaya_call.specs.declared.copy.step.Step.{Step}
use Rattle.papaya_call.specs.declared.copy.step.Step.TheVariants as steps
use Rattle.papaya_call.specs.declared.copy.step.Stepped.{Stepped}
use Rattle.papaya_call.specs.declared.copy.step.Stepped.TheVariants as stepped
use Rattle.papaya_call.specs.Carry as carry
use Rattle.papaya_call.specs.Copying as copying
use Rattle.papaya_call.specs.Link as link
use Rattle.papaya_call.specs.Settle as settle
use Rattle.papaya_call.specs.Step as step
use Rattle.papaya_call.specs.declared.machine.State.{State as Stage}
use Rattle.papaya_call.specs.declared.machine.State.TheVariants as stages
use Rattle.papaya_call.specs.declared.need.Need.{Need}
use Rattle.papaya_call.specs.Machine.{needed}
use Rattle.papaya_call.specs.declared.chain.ask.Answer.{Answer}
use Rattle.papaya_call.specs.declared.chain.ask.Answer.TheVariants as answers
use Rattle.papaya_call.specs.declared.chain.machine.Machine.{Machine}
use Rattle.papaya_call.specs.declared.chain.machine.Phase.{Phase}
use Rattle.papaya_call.specs.declared.chain.machine.Phase.TheVariants.{Calling, Linking, Copying as Copying_root}
use Rattle.papaya_call.specs.ChainMachine as machine
use Rattle.papaya_call_law.specs.Copier.{link_in_carry, link_in_copying, link_in_settle, link_in_step}
use Rattle.papaya_call_law.specs.Goes.{link_in}

-- the same for the state after an answer
abbrev pub Linked_in : (Link → Type 0) → Linked → Type 0
Linked_in Holds (linked.On made) = Holds made
Linked_in Holds _ = Unit {0}

-- It holds as the making begins, and each answer preserves it: an answer with a size if `Told`
-- holds of the size, and an answer with a new table if `New` holds of that.
pub record IsStable (Holds : Link → Type 0) (Told New : Link → ℕ → Type 0) : Type 0 where
  pub fresh : (behind copied : ℕ) (unfit : Bool) → Holds (links.Sizing behind copied unfit)
  pub sizes : (made : Link) (slots : ℕ) → Told made slots → Holds made → Holds (link.at_size made slots)
  pub makes : (made : Link) (n : ℕ) → New made n → Holds made → Holds (link.at_made made n)
  pub counts : (made : Link) (mode : ResizeMode) (count initial : ℕ) → Holds made → Linked_in Holds (link.at_count made mode count initial)
  pub refuses : (made : Link) (refused : Refused) → Holds made → Linked_in Holds (link.at_refused made refused)
  pub exchanges : (made : Link) → Holds made → Linked_in Holds (link.at_exchanged made)
  pub finds : (made : Link) (word : ℕ) → Holds made → Linked_in Holds (link.at_found made word)

-- for a machine's making of a table, if one is made
abbrev pub In : (Link → Type 0) → Option Link → Type 0
In Holds None = Unit {0}
In Holds (Some made) = Holds made

abbrev pub Of : (Link → ℕ → Type 0) → Option Link → ℕ → Type 0
Of Told None n = Unit {0}
Of Told (Some made) n = Told made n

module _ (Holds : Link → Type 0) (Told New : Link → ℕ → Type 0) (stable : IsStable Holds Told New) where
  abbrev HoldsIn : Option Link → Type 0
  HoldsIn = In Holds

  abbrev ToldIn : Option Link → ℕ → Type 0
  ToldIn = Of Told

  abbrev NewIn : Option Link → ℕ → Type 0
  NewIn = Of New

  -- the same for the state after an answer
  abbrev Linked_holds : Linked → Type 0
  Linked_holds = Linked_in Holds

  abbrev Carried_holds : Carried → Type 0
  Carried_holds (carried.On goes) = HoldsIn (link_in_carry goes)
  Carried_holds _ = Unit {0}

  abbrev Settled_holds : Settled → Type 0
  Settled_holds (settled.On goes) = HoldsIn (link_in_settle goes)
  Settled_holds _ = Unit {0}

  abbrev Stepped_holds : Stepped → Type 0
  Stepped_holds (stepped.On goes) = HoldsIn (link_in_step goes)
  Stepped_holds _ = Unit {0}

  abbrev pub Copied_holds : Copied → Type 0
  Copied_holds (copied.On goes) = HoldsIn (link_in_copying goes)
  Copied_holds _ = Unit {0}

  -- a move
  carried_on : (hash : ℕ) (end : Linked) → Linked_holds end → Carried_holds (carry.carried_on hash end)
  carried_on hash (linked.On made) h = h
  carried_on hash (linked.Table table) h = tt
  carried_on hash (linked.Refused refused) h = tt

  fills : (hash table : ℕ) (mode : ResizeMode) → HoldsIn (link_in_carry (carry.fills hash table mode))
  fills hash table (Incremental chunk) = tt
  fills hash table Blocking = tt

  goes_on : (hash : ℕ) (at : Place) (mode : ResizeMode) → Carried_holds (carry.goes_on hash at mode)
  goes_on hash at mode = cond_both (nat_lt at.probe.len at.limit) (carried.On (carries.Looking hash (next_place at)))
      (carried.On (carry.fills hash at.table mode)) Carried_holds (λ _. tt) (λ _. fills hash at.table mode)

  hinted : (hash : ℕ) (at : Place) (mode : ResizeMode) (hint : ℕ) → Carried_holds (carry.hinted hash at mode hint)
  hinted hash at mode hint = cond_both (may_hold hint hash) (carried.On (carries.Reading hash at)) (carry.goes_on hash at mode) Carried_holds
      (λ _. tt) (λ _. goes_on hash at mode)

  looked : (kind : Kind) (hash : ℕ) (at : Place) (mode : ResizeMode) (word : ℕ) → Carried_holds (carry.look_at kind hash at mode word)
  looked word_kinds.Empty hash at mode word = tt
  looked word_kinds.Closed hash at mode word = goes_on hash at mode
  looked word_kinds.Buried hash at mode word = tt
  looked word_kinds.Live hash at mode word = tt
  looked word_kinds.Marked hash at mode word = tt
  looked word_kinds.Copied hash at mode word = tt

  passed : (hash table next : ℕ) → HoldsIn (link_in_carry (carry.passed hash table next))
  passed hash table next = cond_both (next == 0) (carries.Linking hash (links.Sizing table table true)) (carries.Sizing hash next)
      (λ goes. HoldsIn (link_in_carry goes)) (λ _. stable.fresh table table true) (λ _. tt)

  carry_hash : (goes : Carry) (hash : ℕ) → HoldsIn (link_in_carry goes) → HoldsIn (link_in_carry (carry.at_hash goes hash))
  carry_hash (carries.Hashing table) hash h = tt
  carry_hash other hash h = h

  carry_size : (goes : Carry) (slots limit : ℕ) → ToldIn (link_in_carry goes) slots → HoldsIn (link_in_carry goes)
      → HoldsIn (link_in_carry (carry.at_size goes slots limit))
  carry_size (carries.Sizing hash table) slots limit new h = tt
  carry_size (carries.Linking hash made) slots limit new h = stable.sizes made slots new h
  carry_size other slots limit new h = h

  carry_word : (goes : Carry) (mode : ResizeMode) (word : ℕ) → HoldsIn (link_in_carry goes) → Carried_holds (carry.at_word goes mode word)
  carry_word (carries.Looking hash at) mode word h = hinted hash at mode word
  carry_word (carries.Reading hash at) mode word h = looked (kind_of word) hash at mode word
  carry_word (carries.Passing hash table) mode word h = passed hash table word
  carry_word other mode word h = h

  carry_yes : (goes : Carry) (mode : ResizeMode) (same : Bool) → HoldsIn (link_in_carry goes) → Carried_holds (carry.at_yes goes mode same)
  carry_yes (carries.Comparing hash at word) mode true h = tt
  carry_yes (carries.Comparing hash at word) mode false h = goes_on hash at mode
  carry_yes other mode same h = h

  carry_exchanged : (goes : Carry) → HoldsIn (link_in_carry goes) → Carried_holds (carry.at_exchanged goes)
  carry_exchanged (carries.Placing hash at) h = tt
  carry_exchanged (carries.Placed hash at) h = tt
  carry_exchanged (carries.Linking hash made) h = carried_on hash (link.at_exchanged made) (stable.exchanges made h)
  carry_exchanged (carries.Aborting table) h = tt
  carry_exchanged other h = h

  carry_ok : (goes : Carry) → HoldsIn (link_in_carry goes) → Carried_holds (carry.at_ok goes)
  carry_ok (carries.Placed hash at) h = tt
  carry_ok other h = h

  carry_found : (goes : Carry) (mode : ResizeMode) (word : ℕ) → HoldsIn (link_in_carry goes) → Carried_holds (carry.at_found goes mode word)
  carry_found (carries.Placing hash at) mode word h = looked (kind_of word) hash at mode word
  carry_found (carries.Linking hash made) mode word h = carried_on hash (link.at_found made word) (stable.finds made word h)
  carry_found (carries.Aborting table) mode word h = tt
  carry_found other mode word h = h

  carry_count : (goes : Carry) (mode : ResizeMode) (count initial : ℕ) → HoldsIn (link_in_carry goes) → Carried_holds (carry.at_count goes mode count initial)
  carry_count (carries.Linking hash made) mode count initial h = carried_on hash (link.at_count made mode count initial)
      (stable.counts made mode count initial h)
  carry_count other mode count initial h = h

  carry_made : (goes : Carry) (n : ℕ) → NewIn (link_in_carry goes) n → HoldsIn (link_in_carry goes) → HoldsIn (link_in_carry (carry.at_made goes n))
  carry_made (carries.Linking hash made) n new h = stable.makes made n new h
  carry_made other n new h = h

  carry_refused : (goes : Carry) (refused : Refused) → HoldsIn (link_in_carry goes) → Carried_holds (carry.at_refused goes refused)
  carry_refused (carries.Linking hash made) refused h = carried_on hash (link.at_refused made refused) (stable.refuses made refused h)
  carry_refused other refused h = h

  -- the copy of a slot
  settled_by : (marked : ℕ) (mode : ResizeMode) (end : Carried) → Carried_holds end → Settled_holds (settle.settled_by marked mode end)
  settled_by marked mode (carried.On goes) h = h
  settled_by marked (Incremental chunk) carried.Carried h = tt
  settled_by marked Blocking carried.Carried h = tt
  settled_by marked mode (carried.Unfit table) h = tt
  settled_by marked mode (carried.Refused refused) h = tt

  seen : (kind : Kind) (slot : SlotToCopy) (word : ℕ) → Settled_holds (settle.look_at kind slot word)
  seen word_kinds.Empty slot word = tt
  seen word_kinds.Live slot word = tt
  seen word_kinds.Marked slot word = tt
  seen word_kinds.Copied slot word = tt
  seen word_kinds.Buried slot word = tt
  seen word_kinds.Closed slot word = tt

  settle_hash : (goes : Settle) (hash : ℕ) → HoldsIn (link_in_settle goes) → HoldsIn (link_in_settle (settle.at_hash goes hash))
  settle_hash (settles.Carrying marked goes) hash h = carry_hash goes hash h
  settle_hash other hash h = h

  settle_size : (goes : Settle) (slots limit : ℕ) → ToldIn (link_in_settle goes) slots → HoldsIn (link_in_settle goes)
      → HoldsIn (link_in_settle (settle.at_size goes slots limit))
  settle_size (settles.Carrying marked goes) slots limit new h = carry_size goes slots limit new h
  settle_size other slots limit new h = h

  settle_word : (goes : Settle) (slot : SlotToCopy) (mode : ResizeMode) (word : ℕ) → HoldsIn (link_in_settle goes)
      → Settled_holds (settle.at_word goes slot mode word)
  settle_word settles.Looking slot mode word h = seen (kind_of word) slot word
  settle_word (settles.Carrying marked goes) slot mode word h = settled_by marked mode (carry.at_word goes mode word) (carry_word goes mode word h)
  settle_word other slot mode word h = h

  settle_yes : (goes : Settle) (mode : ResizeMode) (same : Bool) → HoldsIn (link_in_settle goes) → Settled_holds (settle.at_yes goes mode same)
  settle_yes (settles.Carrying marked goes) mode same h = settled_by marked mode (carry.at_yes goes mode same) (carry_yes goes mode same h)
  settle_yes other mode same h = h

  settle_exchanged : (goes : Settle) (slot : SlotToCopy) (mode : ResizeMode) → HoldsIn (link_in_settle goes) → Settled_holds (settle.at_exchanged goes slot mode)
  settle_exchanged settles.Looking slot mode h = tt
  settle_exchanged settles.Closing slot mode h = tt
  settle_exchanged settles.Shutting slot mode h = tt
  settle_exchanged (settles.Marking word) slot mode h = tt
  settle_exchanged (settles.Carrying marked goes) slot mode h = settled_by marked mode (carry.at_exchanged goes) (carry_exchanged goes h)
  settle_exchanged (settles.Finishing word) slot mode h = tt

  settle_ok : (goes : Settle) (mode : ResizeMode) → HoldsIn (link_in_settle goes) → Settled_holds (settle.at_ok goes mode)
  settle_ok settles.Shutting mode h = tt
  settle_ok (settles.Carrying marked goes) mode h = settled_by marked mode (carry.at_ok goes) (carry_ok goes h)
  settle_ok other mode h = h

  settle_found : (goes : Settle) (slot : SlotToCopy) (mode : ResizeMode) (word : ℕ) → HoldsIn (link_in_settle goes)
      → Settled_holds (settle.at_found goes slot mode word)
  settle_found settles.Looking slot mode word h = tt
  settle_found settles.Closing slot mode word h = seen (kind_of word) slot word
  settle_found settles.Shutting slot mode word h = tt
  settle_found (settles.Marking old) slot mode word h = seen (kind_of word) slot word
  settle_found (settles.Carrying marked goes) slot mode word h = settled_by marked mode (carry.at_found goes mode word) (carry_found goes mode word h)
  settle_found (settles.Finishing old) slot mode word h = tt

  settle_count : (goes : Settle) (mode : ResizeMode) (count initial : ℕ) → HoldsIn (link_in_settle goes)
      → Settled_holds (settle.at_count goes mode count initial)
  settle_count (settles.Carrying marked goes) mode count initial h = settled_by marked mode (carry.at_count goes mode count initial)
      (carry_count goes mode count initial h)
  settle_count other mode count initial h = h

  settle_made : (goes : Settle) (n : ℕ) → NewIn (link_in_settle goes) n → HoldsIn (link_in_settle goes) → HoldsIn (link_in_settle (settle.at_made goes n))
  settle_made (settles.Carrying marked goes) n new h = carry_made goes n new h
  settle_made other n new h = h

  settle_refused : (goes : Settle) (mode : ResizeMode) (refused : Refused) → HoldsIn (link_in_settle goes) → Settled_holds (settle.at_refused goes mode refused)
  settle_refused (settles.Carrying marked goes) mode refused h = settled_by marked mode (carry.at_refused goes refused) (carry_refused goes refused h)
  settle_refused other mode refused h = h

  -- the copy of a chunk
  next_in : (chunk : Chunk) → Stepped_holds (step.next_in chunk)
  next_in chunk = cond_both (nat_lt chunk.at chunk.end) (stepped.On (steps.Settling chunk settles.Looking))
      (stepped.On (steps.Advancing chunk.cursor)) Stepped_holds (λ _. tt) (λ _. tt)

  settled_to : (chunk : Chunk) (end : Settled) → Settled_holds end → Stepped_holds (step.settled_to chunk end)
  settled_to chunk (settled.On goes) h = h
  settled_to chunk settled.Settled h = next_in (step.next_slot chunk)
  settled_to chunk (settled.Unfit table) h = tt
  settled_to chunk (settled.Refused refused) h = tt

  linked_to : (from : ℕ) (end : Linked) → Linked_holds end → Stepped_holds (step.linked_to from end)
  linked_to from (linked.On made) h = h
  linked_to from (linked.Table table) h = tt
  linked_to from (linked.Refused refused) h = tt

  aimed : (from behind : ℕ) (mode : ResizeMode) (next : ℕ) → Stepped_holds (step.aimed from behind mode next)
  aimed from behind (Incremental chunk) next = cond_both (next == 0) (stepped.Last from) (stepped.On (steps.Sizing from next)) Stepped_holds (λ _. tt) (λ _. tt)
  aimed from behind Blocking next = cond_both (next == 0) (stepped.On (steps.Linking from (links.Sizing behind from (not (behind == from)))))
      (stepped.On (steps.Judging from next)) Stepped_holds (λ _. stable.fresh behind from (not (behind == from))) (λ _. tt)

  judged : (from to word : ℕ) → HoldsIn (link_in_step (step.judged from to word))
  judged from to word = cond_both (word == 0) (steps.Sizing from to) (steps.Aiming from to) (λ goes. HoldsIn (link_in_step goes)) (λ _. tt) (λ _. tt)

  next_cursor : (cursor : Cursor) → HoldsIn (link_in_step (step.next_cursor cursor))
  next_cursor cursor =
      cond_both (step.is_further cursor) (steps.AtChunk (step.next_chunk cursor))
      (cond (not cursor.wrapped && nat_lt 0 cursor.start) (steps.AtChunk (step.first_chunk cursor)) (steps.Promoting cursor.from cursor.to))
      (λ goes. HoldsIn (link_in_step goes)) (λ _. tt)
      (λ _. cond_both (not cursor.wrapped && nat_lt 0 cursor.start) (steps.AtChunk (step.first_chunk cursor)) (steps.Promoting cursor.from cursor.to)
      (λ goes. HoldsIn (link_in_step goes)) (λ _. tt) (λ _. tt))

  chunk_read : (cursor : Cursor) (done : ℕ) → Stepped_holds (step.chunk_read cursor done)
  chunk_read cursor done =
      cond_both (not (done == 0)) (stepped.On (step.next_cursor cursor))
      (cond cursor.copied (stepped.Further (step.chunk_at cursor)) (stepped.On (steps.Settling (step.chunk_at cursor) settles.Looking)))
      Stepped_holds (λ _. next_cursor cursor)
      (λ _. cond_both cursor.copied (stepped.Further (step.chunk_at cursor)) (stepped.On (steps.Settling (step.chunk_at cursor) settles.Looking))
      Stepped_holds (λ _. tt) (λ _. tt))

  advanced : (cursor : Cursor) → Stepped_holds (step.advanced cursor)
  advanced cursor = next_cursor (record cursor { copied = true })

  step_hash : (goes : Step) (hash : ℕ) → HoldsIn (link_in_step goes) → HoldsIn (link_in_step (step.at_hash goes hash))
  step_hash (steps.Settling chunk goes) hash h = settle_hash goes hash h
  step_hash other hash h = h

  step_size : (goes : Step) (mode : ResizeMode) (number slots limit : ℕ) → ToldIn (link_in_step goes) slots → HoldsIn (link_in_step goes)
      → HoldsIn (link_in_step (step.at_size goes mode number slots limit))
  step_size (steps.Linking from made) mode number slots limit new h = stable.sizes made slots new h
  step_size (steps.Sizing from to) mode number slots limit new h = tt
  step_size (steps.Settling chunk goes) mode number slots limit new h = settle_size goes slots limit new h
  step_size other mode number slots limit new h = h

  step_word : (goes : Step) (mode : ResizeMode) (word : ℕ) → HoldsIn (link_in_step goes) → Stepped_holds (step.at_word goes mode word)
  step_word steps.AtRoot mode word h = tt
  step_word (steps.Aiming from behind) mode word h = aimed from behind mode word
  step_word (steps.Judging from to) mode word h = judged from to word
  step_word (steps.AtChunk cursor) mode word h = chunk_read cursor word
  step_word (steps.Settling chunk goes) mode word h = settled_to chunk (settle.at_word goes (step.slot_of chunk) mode word)
      (settle_word goes (step.slot_of chunk) mode word h)
  step_word other mode word h = h

  step_yes : (goes : Step) (mode : ResizeMode) (same : Bool) → HoldsIn (link_in_step goes) → Stepped_holds (step.at_yes goes mode same)
  step_yes (steps.Settling chunk goes) mode same h = settled_to chunk (settle.at_yes goes mode same) (settle_yes goes mode same h)
  step_yes other mode same h = h

  step_exchanged : (goes : Step) (mode : ResizeMode) → HoldsIn (link_in_step goes) → Stepped_holds (step.at_exchanged goes mode)
  step_exchanged (steps.Linking from made) mode h = linked_to from (link.at_exchanged made) (stable.exchanges made h)
  step_exchanged (steps.Settling chunk goes) mode h = settled_to chunk (settle.at_exchanged goes (step.slot_of chunk) mode)
      (settle_exchanged goes (step.slot_of chunk) mode h)
  step_exchanged (steps.Advancing cursor) mode h = advanced cursor
  step_exchanged (steps.Promoting from to) mode h = tt
  step_exchanged other mode h = h

  step_ok : (goes : Step) (mode : ResizeMode) → HoldsIn (link_in_step goes) → Stepped_holds (step.at_ok goes mode)
  step_ok (steps.Settling chunk goes) mode h = settled_to chunk (settle.at_ok goes mode) (settle_ok goes mode h)
  step_ok other mode h = h

  step_found : (goes : Step) (mode : ResizeMode) (word : ℕ) → HoldsIn (link_in_step goes) → Stepped_holds (step.at_found goes mode word)
  step_found (steps.Linking from made) mode word h = linked_to from (link.at_found made word) (stable.finds made word h)
  step_found (steps.Settling chunk goes) mode word h = settled_to chunk (settle.at_found goes (step.slot_of chunk) mode word)
      (settle_found goes (step.slot_of chunk) mode word h)
  step_found (steps.Advancing cursor) mode word h = advanced cursor
  step_found (steps.Promoting from to) mode word h = tt
  step_found other mode word h = h

  step_count : (goes : Step) (mode : ResizeMode) (count initial : ℕ) → HoldsIn (link_in_step goes) → Stepped_holds (step.at_count goes mode count initial)
  step_count (steps.Linking from made) mode count initial h = linked_to from (link.at_count made mode count initial) (stable.counts made mode count initial h)
  step_count (steps.Settling chunk goes) mode count initial h = settled_to chunk (settle.at_count goes mode count initial)
      (settle_count goes mode count initial h)
  step_count other mode count initial h = h

  step_made : (goes : Step) (n : ℕ) → NewIn (link_in_step goes) n → HoldsIn (link_in_step goes) → HoldsIn (link_in_step (step.at_made goes n))
  step_made (steps.Linking from made) n new h = stable.makes made n new h
  step_made (steps.Settling chunk goes) n new h = settle_made goes n new h
  step_made other n new h = h

  step_refused : (goes : Step) (mode : ResizeMode) (refused : Refused) → HoldsIn (link_in_step goes) → Stepped_holds (step.at_refused goes mode refused)
  step_refused (steps.Linking from made) mode refused h = linked_to from (link.at_refused made refused) (stable.refuses made refused h)
  step_refused (steps.Settling chunk goes) mode refused h = settled_to chunk (settle.at_refused goes mode refused) (settle_refused goes mode refused h)
  step_refused other mode refused h = h

  -- the copy of the root
  over : (aim : Aim) → Copied_holds (copying.over aim)
  over (aims.Search table) = tt
  over (aims.Settle slot) = tt
  over aims.Chunk = tt
  over (aims.All met) = tt

  further : (aim : Aim) (chunk : Chunk) → Copied_holds (copying.further aim chunk)
  further (aims.Search table) chunk = tt
  further (aims.Settle slot) chunk = tt
  further aims.Chunk chunk = tt
  further (aims.All met) chunk = tt

  last : (aim : Aim) (table : ℕ) → Copied_holds (copying.last aim table)
  last (aims.All met) table = tt
  last (aims.Search n) table = tt
  last (aims.Settle slot) table = tt
  last aims.Chunk table = tt

  all_of : (met : ℕ) (mode : ResizeMode) (root : ℕ) → Copied_holds (copying.all_of met mode root)
  all_of met (Incremental chunk) root = tt
  all_of met Blocking root = cond_both (met == 0 || met == root) (copied.On (Stepping (aims.All root) (steps.Aiming root root))) (copied.Root root)
      Copied_holds (λ _. tt) (λ _. tt)

  at_root : (aim : Aim) (mode : ResizeMode) (root : ℕ) → Copied_holds (copying.at_root aim mode root)
  at_root (aims.All met) mode root = cond_both (root == 0) (copied.Root 0) (copying.all_of met mode root) Copied_holds (λ _. tt) (λ _. all_of met mode root)
  at_root (aims.Search table) mode root = cond_both (root == 0) (copying.over (aims.Search table))
      (copied.On (Stepping (aims.Search table) (steps.Aiming root root))) Copied_holds (λ _. tt) (λ _. tt)
  at_root (aims.Settle slot) mode root = cond_both (root == 0) (copying.over (aims.Settle slot))
      (copied.On (Stepping (aims.Settle slot) (steps.Aiming root root))) Copied_holds (λ _. tt) (λ _. tt)
  at_root aims.Chunk mode root = cond_both (root == 0) (copying.over aims.Chunk) (copied.On (Stepping aims.Chunk (steps.Aiming root root)))
      Copied_holds (λ _. tt) (λ _. tt)

  leads : (aim : Aim) (mode : ResizeMode) (end : Stepped) → Stepped_holds end → Copied_holds (copying.leads aim mode end)
  leads aim mode (stepped.On goes) h = h
  leads aim mode (stepped.Root root) h = at_root aim mode root
  leads aim mode (stepped.Last table) h = last aim table
  leads aim mode (stepped.Further chunk) h = further aim chunk
  leads aim mode stepped.Over h = over aim
  leads aim mode (stepped.Refused refused) h = tt

  lone : (slot : SlotToCopy) (end : Settled) → Settled_holds end → Copied_holds (copying.lone slot end)
  lone slot (settled.On goes) h = h
  lone slot settled.Settled h = tt
  lone slot (settled.Unfit table) h = tt
  lone slot (settled.Refused refused) h = tt

  -- the state after an answer
  copying_called : (goes : Copying) (mode : ResizeMode) (number : ℕ) (answer : Call_answer)
      → ((slots limit : ℕ) → answer ≡ Size slots limit → ToldIn (link_in_copying goes) slots)
      → ((n : ℕ) → answer ≡ Made_number n → NewIn (link_in_copying goes) n) → HoldsIn (link_in_copying goes)
      → Copied_holds (machine.copying_called goes mode number answer)
  copying_called (Stepping aim goes) mode number (Word_read word) told new h = leads aim mode (step.at_word goes mode word) (step_word goes mode word h)
  copying_called (Lone slot goes) mode number (Word_read word) told new h = lone slot (settle.at_word goes slot mode word) (settle_word goes slot mode word h)
  copying_called (Stepping aim goes) mode number Exchanged told new h = leads aim mode (step.at_exchanged goes mode) (step_exchanged goes mode h)
  copying_called (Lone slot goes) mode number Exchanged told new h = lone slot (settle.at_exchanged goes slot mode) (settle_exchanged goes slot mode h)
  copying_called (Stepping aim goes) mode number (Found_instead word) told new h = leads aim mode (step.at_found goes mode word) (step_found goes mode word h)
  copying_called (Lone slot goes) mode number (Found_instead word) told new h = lone slot (settle.at_found goes slot mode word)
      (settle_found goes slot mode word h)
  copying_called (Stepping aim goes) mode number (Yes same) told new h = leads aim mode (step.at_yes goes mode same) (step_yes goes mode same h)
  copying_called (Lone slot goes) mode number (Yes same) told new h = lone slot (settle.at_yes goes mode same) (settle_yes goes mode same h)
  copying_called (Stepping aim goes) mode number (Size slots limit) told new h = step_size goes mode number slots limit (told slots limit refl) h
  copying_called (Lone slot goes) mode number (Size slots limit) told new h = settle_size goes slots limit (told slots limit refl) h
  copying_called (Stepping aim goes) mode number (Made_number n) told new h = step_made goes n (new n refl) h
  copying_called (Lone slot goes) mode number (Made_number n) told new h = settle_made goes n (new n refl) h
  copying_called (Stepping aim goes) mode number (Was_refused refused) told new h = leads aim mode (step.at_refused goes mode refused)
      (step_refused goes mode refused h)
  copying_called (Lone slot goes) mode number (Was_refused refused) told new h = lone slot (settle.at_refused goes mode refused)
      (settle_refused goes mode refused h)
  copying_called goes mode number (Op kind) told new h = h
  copying_called (Stepping aim goes) mode number Ok_done told new h = leads aim mode (step.at_ok goes mode) (step_ok goes mode h)
  copying_called (Lone slot goes) mode number Ok_done told new h = lone slot (settle.at_ok goes mode) (settle_ok goes mode h)

  pub copying_after : (goes : Copying) (mode : ResizeMode) (initial number : ℕ) (answer : Answer)
      → ((slots limit : ℕ) → answer ≡ answers.Call (Size slots limit) → ToldIn (link_in_copying goes) slots)
      → ((n : ℕ) → answer ≡ answers.Call (Made_number n) → NewIn (link_in_copying goes) n) → HoldsIn (link_in_copying goes)
      → Copied_holds (machine.copying_after goes mode initial number answer)
  copying_after goes mode initial number (answers.Call answer) told new h = copying_called goes mode number answer
      (λ slots limit e. told slots limit (ap answers.Call e)) (λ n e. new n (ap answers.Call e)) h
  copying_after (Stepping aim goes) mode initial number (answers.Hash hash) told new h = step_hash goes hash h
  copying_after (Lone slot goes) mode initial number (answers.Hash hash) told new h = settle_hash goes hash h
  copying_after (Stepping aim goes) mode initial number (answers.Count count) told new h = leads aim mode (step.at_count goes mode count initial)
      (step_count goes mode count initial h)
  copying_after (Lone slot goes) mode initial number (answers.Count count) told new h = lone slot (settle.at_count goes mode count initial)
      (settle_count goes mode count initial h)

  link_called : (made : Link) (answer : Call_answer) → ((slots limit : ℕ) → answer ≡ Size slots limit → ToldIn (Some made) slots)
      → ((n : ℕ) → answer ≡ Made_number n → NewIn (Some made) n) → HoldsIn (Some made) → Linked_holds (machine.link_called made answer)
  link_called made (Size slots limit) told new h = stable.sizes made slots (told slots limit refl) h
  link_called made (Made_number n) told new h = stable.makes made n (new n refl) h
  link_called made (Was_refused refused) told new h = stable.refuses made refused h
  link_called made Exchanged told new h = stable.exchanges made h
  link_called made (Found_instead word) told new h = stable.finds made word h
  link_called made other told new h = h

  pub link_after : (made : Link) (mode : ResizeMode) (initial : ℕ) (answer : Answer)
      → ((slots limit : ℕ) → answer ≡ answers.Call (Size slots limit) → ToldIn (Some made) slots)
      → ((n : ℕ) → answer ≡ answers.Call (Made_number n) → NewIn (Some made) n) → HoldsIn (Some made) → Linked_holds (machine.link_after made mode initial answer)
  link_after made mode initial (answers.Call answer) told new h = link_called made answer (λ slots limit e. told slots limit (ap answers.Call e))
      (λ n e. new n (ap answers.Call e)) h
  link_after made mode initial (answers.Hash hash) told new h = h
  link_after made mode initial (answers.Count count) told new h = stable.counts made mode count initial h

  -- a call that continues in another table links none yet
  going_on : (m : Machine) (helped : Bool) (aim : Aim) (next : ℕ) → HoldsIn (link_in (machine.goes_on m helped aim next).phase)
  going_on m false aim next = tt
  going_on m true (aims.Settle slot) next = tt
  going_on m true (aims.Search table) next = tt
  going_on m true aims.Chunk next = tt
  going_on m true (aims.All met) next = tt

  pub onward : (m : Machine) (next : ℕ) → HoldsIn (link_in (machine.onward m next).phase)
  onward m next = going_on m m.helped (machine.aim_for m.call.state next) next

  grows : (m : Machine) (mode : ResizeMode) (need : Need) (next : ℕ) → HoldsIn (link_in (machine.grows_as m mode need next).phase)
  grows m Blocking need next = tt
  grows m (Incremental chunk) need next = cond_both (next == 0) (record m { phase = Linking (links.Sizing (needed need) (needed need) false) })
      (machine.onward m next) (λ (y : Machine). HoldsIn (link_in y.phase)) (λ _. stable.fresh (needed need) (needed need) false) (λ _. onward m next)

  leaves : (m : Machine) (task : Task) (next : ℕ) → HoldsIn (link_in m.phase) → HoldsIn (link_in (machine.leaves m task next).phase)
  leaves m tasks.Get next h = h
  leaves m (tasks.Insert replace) next h = cond_both (next == 0) (machine.stepped m (Word_read next)) (machine.onward m next)
      (λ (y : Machine). HoldsIn (link_in y.phase)) (λ _. h) (λ _. onward m next)
  leaves m tasks.RemoveIf next h = cond_both (next == 0) (machine.stepped m (Word_read next)) (machine.onward m next)
      (λ (y : Machine). HoldsIn (link_in y.phase)) (λ _. h) (λ _. onward m next)
  leaves m tasks.Compute next h = cond_both (next == 0) (machine.stepped m (Word_read next)) (machine.onward m next)
      (λ (y : Machine). HoldsIn (link_in y.phase)) (λ _. h) (λ _. onward m next)

  told_next : (m : Machine) (stage : Stage) (next : ℕ) → HoldsIn (link_in m.phase) → HoldsIn (link_in (machine.told_next m stage next).phase)
  told_next m (stages.Leaving t) next h = leaves m m.call.task next h
  told_next m (stages.Growing need) next h = grows m m.call.mode need next
  told_next m other next h = h

  called : (m : Machine) (answer : Call_answer) → HoldsIn (link_in m.phase) → HoldsIn (link_in (machine.called m answer).phase)
  called m (Word_read word) h = told_next m m.call.state word h
  called m other h = h

  linked_on : (m : Machine) (end : Linked) → Linked_holds end → HoldsIn (link_in (machine.after_linked m end).phase)
  linked_on m (linked.On made) h = h
  linked_on m (linked.Table table) h = onward m table
  linked_on m (linked.Refused refused) h = tt

  copied_on : (m : Machine) (end : Copied) → Copied_holds end → HoldsIn (link_in (machine.after_copied m end).phase)
  copied_on m (copied.On goes) h = h
  copied_on m (copied.Search table) h = tt
  copied_on m (copied.Root root) h = tt
  copied_on m copied.Chunk h = tt
  copied_on m (copied.Refused refused) h = tt

  -- for the whole machine
  pub machine_holds : (m : Machine) (answer : Answer)
      → ((slots limit : ℕ) → answer ≡ answers.Call (Size slots limit) → ToldIn (link_in m.phase) slots)
      → ((n : ℕ) → (m.phase ≡ Calling → ⊥) → answer ≡ answers.Call (Made_number n) → NewIn (link_in m.phase) n) → HoldsIn (link_in m.phase)
      → HoldsIn (link_in (machine.after m answer).phase)
  machine_holds m answer told new h = by_phase m.phase refl told (λ n aside is. new n aside is) h
    where
      by_answer : (answer : Answer) → HoldsIn (link_in (machine.answered m answer).phase)
      by_answer (answers.Call answer) = called m answer h
      by_answer (answers.Hash hash) = h
      by_answer (answers.Count count) = h

      by_phase : (phase : Phase) → m.phase ≡ phase → ((slots limit : ℕ) → answer ≡ answers.Call (Size slots limit) → ToldIn (link_in phase) slots)
          → ((n : ℕ) → (m.phase ≡ Calling → ⊥) → answer ≡ answers.Call (Made_number n) → NewIn (link_in phase) n) → HoldsIn (link_in phase)
          → HoldsIn (link_in (machine.after_in m answer phase).phase)
      by_phase Calling e told new holds = by_answer answer
      by_phase (Linking goes) e told new holds = linked_on m (machine.link_after goes m.call.mode m.call.initial answer)
          (link_after goes m.call.mode m.call.initial answer told (λ n is. new n (λ c. let f : Linking goes ≡ Calling = sym e ∙ c in cc) is) holds)
      by_phase (Copying_root goes) e told new holds = copied_on m (machine.copying_after goes m.call.mode m.call.initial m.number answer)
          (copying_after goes m.call.mode m.call.initial m.number answer told
          (λ n is. new n (λ c. let f : Copying_root goes ≡ Calling = sym e ∙ c in cc) is) holds)
