-- Each making and each copy is within its tables after each answer within the limits, and asks only
-- for tables of sizes that tables may have.
use Rattle.std.proofs.Common.{ℕ, zero, suc, ◌+◌, ◌-◌, ◌%◌, ◌==◌, ◌<◌, ◌≤◌, ◌^◌, nat_lt, nat_le, ◌&&◌, ◌||◌, not, cond, Bool, true, false, max, arith}
use Rattle.std.proofs.Math.Nat.{mod-lt}
use Rattle.std.proofs.lemmas.Bool.{and_parts, cond_both, leb-true, ltb-true}
use Rattle.std.specs.Int.{IsPowerOfTwo}
use Rattle.papaya_words.specs.Chunks.{chunk_count, chunk_len}
use Rattle.papaya_words.specs.Probe.{limit_of, log_upto, triangular}
use Rattle.papaya_words.specs.Table.{length_after, limit_after}
use Rattle.papaya_words.specs.Word.{kind_of, may_hold}
use Rattle.papaya_words.specs.declared.refused.Refused.{Refused}
use Rattle.papaya_words.specs.declared.refused.Refused.TheVariants.{Capacity}
use Rattle.papaya_words.specs.declared.resize_mode.ResizeMode.{ResizeMode}
use Rattle.papaya_words.specs.declared.resize_mode.ResizeMode.TheVariants.{Incremental, Blocking}
use Rattle.papaya_words.specs.declared.word.Kind.{Kind}
use Rattle.papaya_words.specs.declared.word.Kind.TheVariants as word_kinds
use Rattle.papaya_words.proofs.ChunkLemmas.{chunk_some}
use Rattle.papaya_words.proofs.Lengths.{table_power}
use Rattle.papaya_call.specs.declared.ask.Answer.TheVariants.{Word as Word_read, Exchanged}
use Rattle.papaya_call.specs.declared.ask.Answer.TheVariants.{Found as Found_instead, Yes, Size}
use Rattle.papaya_call.specs.declared.ask.Answer.TheVariants.{Made as Made_number}
use Rattle.papaya_call.specs.declared.ask.Answer.TheVariants.{Refused as Was_refused, Ok as Ok_done}
use Rattle.papaya_call.specs.declared.search.Place.{Place}
use Rattle.papaya_call.specs.Search.{IsSize, IsWithin, next_place}
use Rattle.papaya_call.specs.declared.copy.carry.Carried.{Carried}
use Rattle.papaya_call.specs.declared.copy.carry.Carried.TheVariants as carried
use Rattle.papaya_call.specs.declared.copy.carry.Carry.{Carry}
use Rattle.papaya_call.specs.declared.copy.carry.Carry.TheVariants as carry_states
use Rattle.papaya_call.specs.declared.copy.copying.Aim.{Aim}
use Rattle.papaya_call.specs.declared.copy.copying.Aim.TheVariants as aims
use Rattle.papaya_call.specs.declared.copy.copying.Copied.TheVariants as copied
use Rattle.papaya_call.specs.declared.copy.copying.Copying.{Copying}
use Rattle.papaya_call.specs.declared.copy.copying.Copying.TheVariants.{Stepping, Lone}
use Rattle.papaya_call.specs.declared.copy.link.Link.{Link}
use Rattle.papaya_call.specs.declared.copy.link.Link.TheVariants as link_states
use Rattle.papaya_call.specs.declared.copy.link.Linked.{Linked}
use Rattle.papaya_call.specs.declared.copy.link.Linked.TheVariants as linked
use Rattle.papaya_call.specs.declared.copy.settle.Settle.{Settle}
use Rattle.papaya_call.specs.declared.copy.settle.Settle.TheVariants as settle_states
use Rattle.papaya_call.specs.declared.copy.settle.Settled.{Settled}
use Rattle.papaya_call.specs.declared.copy.settle.Settled.TheVariants as settled
use Rattle.papaya_call.specs.declared.copy.settle.SlotToCopy.{SlotToCopy}
use Rattle.papaya_call.specs.declared.copy.step.Chunk.{Chunk}
use Rattle.papaya_call.specs.declared.copy.step.Cursor.{Cursor}
use Rattle.papaya_call.specs.declared.copy.step.Step.{Step}
use Rattle.papaya_call.specs.declared.copy.step.Step.TheVariants as step_states
use Rattle.papaya_call.specs.declared.copy.step.Stepped.{Stepped}
use Rattle.papaya_call.specs.declared.copy.step.Stepped.TheVariants as stepped
use Rattle.papaya_call.specs.Carry as carries
use Rattle.papaya_call.specs.Carry.{IsValidCarried, IsValidCarry}
use Rattle.papaya_call.specs.Copying as copyings
use Rattle.papaya_call.specs.Copying.{IsValidCopied, IsValidCopying, copying_ask}
use Rattle.papaya_call.specs.Link as links
use Rattle.papaya_call.specs.Link.{IsFitCopyAsk, IsValidLink, IsValidLinked, link_ask}
use Rattle.papaya_call.specs.Settle as settles
use Rattle.papaya_call.specs.Settle.{IsValidSettle, IsValidSettled, settle_ask}
use Rattle.papaya_call.specs.Step as steps
use Rattle.papaya_call.specs.Step.{IsValidChunk, IsValidCursor, IsValidStep, IsValidStepped, step_ask}
use Rattle.papaya_call.proofs.Starts.{start_low, start_within}
use Rattle.papaya_call.specs.declared.chain.ask.Answer.{Answer}
use Rattle.papaya_call.specs.declared.chain.ask.Answer.TheVariants as answers
use Rattle.papaya_call.specs.ChainMachine.{IsFit, copying_after, link_after}
use Rattle.papaya_call_law.proofs.Standing.{next_within, some_slots}

-- a limit is no longer than that of the longest table
log_few : (most n : ℕ) → log_upto most n ≤ most
unfolding log_upto
log_few zero n = omega arith
log_few (suc most) n = let before = log_few most n in
    cond_both (nat_le (2 ^ suc most) n) (suc most) (log_upto most n) (λ log. log ≤ suc most) (λ _. omega arith) (λ _. omega (arith, before))

limit_few : (len before : ℕ) (unfit : Bool) → 1 ≤ len → len ≤ 2 ^ 32 → limit_after len before unfit < 2 ^ 32
limit_few len before unfit some most = let few = log_few 63 len in
    cond_both (unfit || nat_le len before) (len - 1) (limit_of len) (λ n. n < 2 ^ 32) (λ _. omega (arith, some, most)) (λ _. omega (arith, few))

-- the table after one of a power of two of slots is one of tables
counted_stands : (after before : ℕ) (unfit : Bool) (chunks asked : ℕ) → IsPowerOfTwo (max asked 8)
    → IsValidLinked (links.counted after before unfit chunks asked)
counted_stands after before unfit chunks asked power =
    cond_both (nat_le asked (2 ^ 32)) (linked.On (links.making after before unfit chunks asked)) (linked.Refused Capacity) IsValidLinked
    (λ fits. let few = leb-true asked (2 ^ 32) fits in let most : max asked 8 ≤ 2 ^ 32 = omega (arith, few) in
    record { power = power; most = most; few = limit_few (max asked 8) before unfit (omega arith) most })
    (λ _. tt)

-- the making of a table
link_size : (link : Link) (slots limit : ℕ) → IsSize slots limit → IsValidLink link → IsValidLink (links.at_size link slots)
link_size (link_states.Sizing after copied unfit) slots limit size stands =
    cond_both (copied == after) (link_states.Counting after unfit slots slots) (link_states.Measuring after copied unfit slots) IsValidLink
    (λ _. (size.power, size.most)) (λ _. (size.power, size.most))
link_size (link_states.Measuring after copied unfit len) slots limit size stands = stands
link_size link slots limit size stands = stands

link_count : (link : Link) (mode : ResizeMode) (count initial : ℕ) → IsPowerOfTwo initial → IsValidLink link
    → IsValidLinked (links.at_count link mode count initial)
link_count (link_states.Counting after unfit len copied) mode count initial power stands =
    counted_stands after len unfit (chunk_count copied (chunk_len mode)) (length_after len count initial unfit)
    (table_power len count initial unfit stands.0 power)
link_count link mode count initial power stands = stands

link_made : (link : Link) (n : ℕ) → IsValidLink link → IsValidLink (links.at_made link n)
link_made (link_states.Making after len limit chunks) n stands = tt
link_made link n stands = stands

link_refused : (link : Link) (refused : Refused) → IsValidLink link → IsValidLinked (links.at_refused link refused)
link_refused (link_states.Making after len limit chunks) refused stands = tt
link_refused link refused stands = stands

link_exchanged : (link : Link) → IsValidLink link → IsValidLinked (links.at_exchanged link)
link_exchanged (link_states.Linking after table chunks) stands = tt
link_exchanged link stands = stands

link_found : (link : Link) (word : ℕ) → IsValidLink link → IsValidLinked (links.at_found link word)
link_found (link_states.Linking after table chunks) word stands = tt
link_found link word stands = stands

pub link_stands : (link : Link) (mode : ResizeMode) (initial : ℕ) (answer : Answer) → IsPowerOfTwo initial → IsFit answer → IsValidLink link
    → IsValidLinked (link_after link mode initial answer)
link_stands link mode initial (answers.Call (Size slots limit)) power fit stands = link_size link slots limit fit stands
link_stands link mode initial (answers.Call (Made_number n)) power fit stands = link_made link n stands
link_stands link mode initial (answers.Call (Was_refused refused)) power fit stands = link_refused link refused stands
link_stands link mode initial (answers.Call Exchanged) power fit stands = link_exchanged link stands
link_stands link mode initial (answers.Call (Found_instead word)) power fit stands = link_found link word stands
link_stands link mode initial (answers.Call other) power fit stands = stands
link_stands link mode initial (answers.Hash hash) power fit stands = stands
link_stands link mode initial (answers.Count count) power fit stands = link_count link mode count initial power stands

-- the move of a pair: the place after one, and the outcome by a word
fills_stands : (hash table : ℕ) (mode : ResizeMode) → IsValidCarry (carries.fills hash table mode)
fills_stands hash table (Incremental chunk) = tt
fills_stands hash table Blocking = tt

carry_goes_on : (hash : ℕ) (at : Place) (mode : ResizeMode) → IsWithin at → IsValidCarried (carries.goes_on hash at mode)
carry_goes_on hash at mode within =
    cond_both (nat_lt at.probe.len at.limit) (carried.On (carry_states.Looking hash (next_place at))) (carried.On (carries.fills hash at.table mode))
    IsValidCarried
    (λ more. next_within at within (ltb-true at.probe.len at.limit more))
    (λ _. fills_stands hash at.table mode)

carry_hints : (hash : ℕ) (at : Place) (mode : ResizeMode) (hint : ℕ) → IsWithin at → IsValidCarried (carries.hinted hash at mode hint)
carry_hints hash at mode hint within = cond_both (may_hold hint hash) (carried.On (carry_states.Reading hash at)) (carries.goes_on hash at mode)
    IsValidCarried (λ _. within) (λ _. carry_goes_on hash at mode within)

carry_looks : (kind : Kind) (hash : ℕ) (at : Place) (mode : ResizeMode) (word : ℕ) → IsWithin at → IsValidCarried (carries.look_at kind hash at mode word)
carry_looks word_kinds.Empty hash at mode word within = within
carry_looks word_kinds.Closed hash at mode word within = carry_goes_on hash at mode within
carry_looks word_kinds.Buried hash at mode word within = within
carry_looks word_kinds.Live hash at mode word within = within
carry_looks word_kinds.Marked hash at mode word within = within
carry_looks word_kinds.Copied hash at mode word within = within

carry_links : (hash : ℕ) (end : Linked) → IsValidLinked end → IsValidCarried (carries.carried_on hash end)
carry_links hash (linked.On link) stands = stands
carry_links hash (linked.Table table) stands = tt
carry_links hash (linked.Refused refused) stands = tt

carry_hash : (carry : Carry) (hash : ℕ) → IsValidCarry carry → IsValidCarry (carries.at_hash carry hash)
carry_hash (carry_states.Hashing table) hash stands = tt
carry_hash carry hash stands = stands

carry_size : (carry : Carry) (slots limit : ℕ) → IsSize slots limit → IsValidCarry carry → IsValidCarry (carries.at_size carry slots limit)
carry_size (carry_states.Sizing hash table) slots limit size
    stands = record { size = size; len = omega arith; i = mod-lt (hash + triangular 0) (some_slots slots limit size) }
carry_size (carry_states.Linking hash link) slots limit size stands = link_size link slots limit size stands
carry_size carry slots limit size stands = stands

carry_word : (carry : Carry) (mode : ResizeMode) (word : ℕ) → IsValidCarry carry → IsValidCarried (carries.at_word carry mode word)
carry_word (carry_states.Looking hash at) mode word stands = carry_hints hash at mode word stands
carry_word (carry_states.Reading hash at) mode word stands = carry_looks (kind_of word) hash at mode word stands
carry_word (carry_states.Passing hash table) mode word stands = cond_both (word == 0)
    (carry_states.Linking hash (link_states.Sizing table table true)) (carry_states.Sizing hash word) IsValidCarry (λ _. tt) (λ _. tt)
carry_word carry mode word stands = stands

carry_yes : (carry : Carry) (mode : ResizeMode) (same : Bool) → IsValidCarry carry → IsValidCarried (carries.at_yes carry mode same)
carry_yes (carry_states.Comparing hash at word) mode true stands = tt
carry_yes (carry_states.Comparing hash at word) mode false stands = carry_goes_on hash at mode stands
carry_yes carry mode same stands = stands

carry_exchanged : (carry : Carry) → IsValidCarry carry → IsValidCarried (carries.at_exchanged carry)
carry_exchanged (carry_states.Placing hash at) stands = stands
carry_exchanged (carry_states.Linking hash link) stands = carry_links hash (links.at_exchanged link) (link_exchanged link stands)
carry_exchanged (carry_states.Aborting table) stands = tt
carry_exchanged carry stands = stands

carry_ok : (carry : Carry) → IsValidCarry carry → IsValidCarried (carries.at_ok carry)
carry_ok (carry_states.Placed hash at) stands = tt
carry_ok carry stands = stands

carry_found : (carry : Carry) (mode : ResizeMode) (word : ℕ) → IsValidCarry carry → IsValidCarried (carries.at_found carry mode word)
carry_found (carry_states.Placing hash at) mode word stands = carry_looks (kind_of word) hash at mode word stands
carry_found (carry_states.Linking hash link) mode word stands = carry_links hash (links.at_found link word) (link_found link word stands)
carry_found (carry_states.Aborting table) mode word stands = tt
carry_found carry mode word stands = stands

carry_count : (carry : Carry) (mode : ResizeMode) (count initial : ℕ) → IsPowerOfTwo initial → IsValidCarry carry
    → IsValidCarried (carries.at_count carry mode count initial)
carry_count (carry_states.Linking hash link) mode count initial power stands = carry_links hash (links.at_count link mode count initial)
    (link_count link mode count initial power stands)
carry_count carry mode count initial power stands = stands

carry_made : (carry : Carry) (n : ℕ) → IsValidCarry carry → IsValidCarry (carries.at_made carry n)
carry_made (carry_states.Linking hash link) n stands = link_made link n stands
carry_made carry n stands = stands

carry_refused : (carry : Carry) (refused : Refused) → IsValidCarry carry → IsValidCarried (carries.at_refused carry refused)
carry_refused (carry_states.Linking hash link) refused stands = carry_links hash (links.at_refused link refused) (link_refused link refused stands)
carry_refused carry refused stands = stands

-- the copy of a slot
settle_looks : (kind : Kind) (slot : SlotToCopy) (word : ℕ) → IsValidSettled (settles.look_at kind slot word)
settle_looks word_kinds.Empty slot word = tt
settle_looks word_kinds.Live slot word = tt
settle_looks word_kinds.Marked slot word = tt
settle_looks word_kinds.Copied slot word = tt
settle_looks word_kinds.Buried slot word = tt
settle_looks word_kinds.Closed slot word = tt

settle_finishes : (word : ℕ) (mode : ResizeMode) → IsValidSettled (settles.finishes word mode)
settle_finishes word (Incremental chunk) = tt
settle_finishes word Blocking = tt

settle_by : (word : ℕ) (mode : ResizeMode) (end : Carried) → IsValidCarried end → IsValidSettled (settles.settled_by word mode end)
settle_by word mode (carried.On carry) stands = stands
settle_by word mode carried.Carried stands = settle_finishes word mode
settle_by word mode (carried.Unfit table) stands = tt
settle_by word mode (carried.Refused refused) stands = tt

settle_hash : (settle : Settle) (hash : ℕ) → IsValidSettle settle → IsValidSettle (settles.at_hash settle hash)
settle_hash (settle_states.Carrying word carry) hash stands = carry_hash carry hash stands
settle_hash settle hash stands = stands

settle_size : (settle : Settle) (slots limit : ℕ) → IsSize slots limit → IsValidSettle settle → IsValidSettle (settles.at_size settle slots limit)
settle_size (settle_states.Carrying word carry) slots limit size stands = carry_size carry slots limit size stands
settle_size settle slots limit size stands = stands

settle_word : (settle : Settle) (slot : SlotToCopy) (mode : ResizeMode) (word : ℕ) → IsValidSettle settle
    → IsValidSettled (settles.at_word settle slot mode word)
settle_word settle_states.Looking slot mode word stands = settle_looks (kind_of word) slot word
settle_word (settle_states.Carrying marked carry) slot mode word stands = settle_by marked mode (carries.at_word carry mode word)
    (carry_word carry mode word stands)
settle_word settle slot mode word stands = stands

settle_yes : (settle : Settle) (mode : ResizeMode) (same : Bool) → IsValidSettle settle → IsValidSettled (settles.at_yes settle mode same)
settle_yes (settle_states.Carrying marked carry) mode same stands = settle_by marked mode (carries.at_yes carry mode same) (carry_yes carry mode same stands)
settle_yes settle mode same stands = stands

settle_exchanged : (settle : Settle) (slot : SlotToCopy) (mode : ResizeMode) → IsValidSettle settle → IsValidSettled (settles.at_exchanged settle slot mode)
settle_exchanged (settle_states.Carrying marked carry) slot mode stands = settle_by marked mode (carries.at_exchanged carry) (carry_exchanged carry stands)
settle_exchanged settle slot mode stands = tt

settle_ok : (settle : Settle) (mode : ResizeMode) → IsValidSettle settle → IsValidSettled (settles.at_ok settle mode)
settle_ok settle_states.Shutting mode stands = tt
settle_ok (settle_states.Carrying marked carry) mode stands = settle_by marked mode (carries.at_ok carry) (carry_ok carry stands)
settle_ok settle mode stands = stands

settle_found : (settle : Settle) (slot : SlotToCopy) (mode : ResizeMode) (word : ℕ) → IsValidSettle settle
    → IsValidSettled (settles.at_found settle slot mode word)
settle_found settle_states.Looking slot mode word stands = tt
settle_found settle_states.Closing slot mode word stands = settle_looks (kind_of word) slot word
settle_found settle_states.Shutting slot mode word stands = tt
settle_found (settle_states.Marking old) slot mode word stands = settle_looks (kind_of word) slot word
settle_found (settle_states.Carrying marked carry) slot mode word stands = settle_by marked mode (carries.at_found carry mode word)
    (carry_found carry mode word stands)
settle_found (settle_states.Finishing old) slot mode word stands = tt

settle_count : (settle : Settle) (mode : ResizeMode) (count initial : ℕ) → IsPowerOfTwo initial → IsValidSettle settle
    → IsValidSettled (settles.at_count settle mode count initial)
settle_count (settle_states.Carrying marked carry) mode count initial power stands = settle_by marked mode (carries.at_count carry mode count initial)
    (carry_count carry mode count initial power stands)
settle_count settle mode count initial power stands = stands

settle_made : (settle : Settle) (n : ℕ) → IsValidSettle settle → IsValidSettle (settles.at_made settle n)
settle_made (settle_states.Carrying marked carry) n stands = carry_made carry n stands
settle_made settle n stands = stands

settle_refused : (settle : Settle) (mode : ResizeMode) (refused : Refused) → IsValidSettle settle
    → IsValidSettled (settles.at_refused settle mode refused)
settle_refused (settle_states.Carrying marked carry) mode refused stands = settle_by marked mode (carries.at_refused carry refused)
    (carry_refused carry refused stands)
settle_refused settle mode refused stands = stands

-- the copy of a chunk
chunk_stands : (cursor : Cursor) → IsValidCursor cursor → IsValidChunk (steps.chunk_at cursor)
chunk_stands cursor stands = record {
  cursor = stands;
  at = cond_both (nat_lt cursor.slots (cursor.len - cursor.begun)) (cursor.begun + cursor.slots) cursor.len (λ end. cursor.begun < end)
      (λ _. let some = stands.some in omega (arith, some)) (λ _. stands.begun);
  within = cond_both (nat_lt cursor.slots (cursor.len - cursor.begun)) (cursor.begun + cursor.slots) cursor.len (λ end. end ≤ cursor.len)
      (λ fits. let few = ltb-true cursor.slots (cursor.len - cursor.begun) fits in let more = stands.begun in omega (arith, few, more)) (λ _. omega arith);
}

-- the first chunk whose word is loaded
first_stands : (from to len : ℕ) (mode : ResizeMode) (number : ℕ) → IsPowerOfTwo len → len ≤ 2 ^ 32
    → IsValidCursor (steps.first_cursor from to len mode number)
first_stands from to len mode number power most =
    let low = start_low (number % chunk_count len (chunk_len mode)) mode in
    let within = start_within len number mode power in
    record { some = chunk_some mode; start = omega (arith, low, within); at = low; begun = within; most = most }

-- and the next one
cursor_next : (cursor : Cursor) → IsValidCursor cursor → IsValidStep (steps.next_cursor cursor)
cursor_next cursor stands =
    cond_both (steps.is_further cursor) (step_states.AtChunk (steps.next_chunk cursor))
    (cond (not cursor.wrapped && nat_lt 0 cursor.start) (step_states.AtChunk (steps.first_chunk cursor))
    (step_states.Promoting cursor.from cursor.to)) IsValidStep
    (λ e.
    let lt = ltb-true cursor.slots (cursor.len - cursor.begun)
    (and_parts (nat_lt cursor.slots (cursor.len - cursor.begun)) (not (cursor.wrapped && nat_le cursor.start (cursor.at + 1))) e).0 in
    record {
      some = stands.some;
      start = stands.start;
      at = let low = stands.at in let some = stands.some in
          omega (arith, low, some);
      begun = omega (arith, lt);
      most = stands.most;
    })
    (λ _. cond_both (not cursor.wrapped && nat_lt 0 cursor.start) (step_states.AtChunk (steps.first_chunk cursor))
    (step_states.Promoting cursor.from cursor.to) IsValidStep
    (λ _. record { some = stands.some; start = stands.start; at = omega arith; begun = let more = stands.begun in omega (arith, more); most = stands.most })
    (λ _. tt))

cursor_word : (cursor : Cursor) (done : ℕ) → IsValidCursor cursor → IsValidStepped (steps.chunk_read cursor done)
cursor_word cursor done stands =
    cond_both (not (done == 0)) (stepped.On (steps.next_cursor cursor))
    (cond cursor.copied (stepped.Further (steps.chunk_at cursor)) (stepped.On (step_states.Settling (steps.chunk_at cursor) settle_states.Looking)))
    IsValidStepped
    (λ _. cursor_next cursor stands)
    (λ _. cond_both cursor.copied (stepped.Further (steps.chunk_at cursor))
    (stepped.On (step_states.Settling (steps.chunk_at cursor) settle_states.Looking)) IsValidStepped (λ _. chunk_stands cursor stands)
    (λ _. (chunk_stands cursor stands, tt)))

step_advances : (cursor : Cursor) → IsValidCursor cursor → IsValidStepped (steps.advanced cursor)
step_advances cursor stands = cursor_next (record cursor { copied = true })
    (record { some = stands.some; start = stands.start; at = stands.at; begun = stands.begun; most = stands.most })

step_next : (chunk : Chunk) → IsValidChunk chunk → IsValidStepped (steps.next_in (steps.next_slot chunk))
step_next chunk stands =
    cond_both (nat_lt (chunk.at + 1) chunk.end) (stepped.On (step_states.Settling (steps.next_slot chunk) settle_states.Looking))
    (stepped.On (step_states.Advancing chunk.cursor)) IsValidStepped
    (λ more. (record { cursor = stands.cursor; at = ltb-true (chunk.at + 1) chunk.end more; within = stands.within }, tt))
    (λ _. stands.cursor)

step_settles : (chunk : Chunk) (end : Settled) → IsValidChunk chunk → IsValidSettled end → IsValidStepped (steps.settled_to chunk end)
step_settles chunk (settled.On settle) stands settles_so = (stands, settles_so)
step_settles chunk settled.Settled stands settles_so = step_next chunk stands
step_settles chunk (settled.Unfit table) stands settles_so = tt
step_settles chunk (settled.Refused refused) stands settles_so = tt

step_aims : (from behind : ℕ) (mode : ResizeMode) (next : ℕ) → IsValidStepped (steps.aimed from behind mode next)
step_aims from behind (Incremental chunk) next = cond_both (next == 0) (stepped.Last from) (stepped.On (step_states.Sizing from next))
    IsValidStepped (λ _. tt) (λ _. tt)
step_aims from behind Blocking next = cond_both (next == 0)
    (stepped.On (step_states.Linking from (link_states.Sizing behind from (not (behind == from))))) (stepped.On (step_states.Judging from next))
    IsValidStepped (λ _. tt) (λ _. tt)

step_links : (from : ℕ) (end : Linked) → IsValidLinked end → IsValidStepped (steps.linked_to from end)
step_links from (linked.On link) stands = stands
step_links from (linked.Table table) stands = tt
step_links from (linked.Refused refused) stands = tt

step_hash : (step : Step) (hash : ℕ) → IsValidStep step → IsValidStep (steps.at_hash step hash)
step_hash (step_states.Settling chunk settle) hash stands = (stands.0, settle_hash settle hash stands.1)
step_hash step hash stands = stands

step_size : (step : Step) (mode : ResizeMode) (number slots limit : ℕ) → IsSize slots limit → IsValidStep step
    → IsValidStep (steps.at_size step mode number slots limit)
step_size (step_states.Linking from link) mode number slots limit size stands = link_size link slots limit size stands
step_size (step_states.Sizing from to) mode number slots limit size stands = first_stands from to slots mode number size.power size.most
step_size (step_states.Settling chunk settle) mode number slots limit size stands = (stands.0, settle_size settle slots limit size stands.1)
step_size step mode number slots limit size stands = stands

step_word : (step : Step) (mode : ResizeMode) (word : ℕ) → IsValidStep step → IsValidStepped (steps.at_word step mode word)
step_word step_states.AtRoot mode word stands = tt
step_word (step_states.Aiming from behind) mode word stands = step_aims from behind mode word
step_word (step_states.Judging from to) mode word stands = cond_both (word == 0) (step_states.Sizing from to) (step_states.Aiming from to)
    IsValidStep (λ _. tt) (λ _. tt)
step_word (step_states.AtChunk cursor) mode word stands = cursor_word cursor word stands
step_word (step_states.Settling chunk settle) mode word stands = step_settles chunk (settles.at_word settle (steps.slot_of chunk) mode word) stands.0
    (settle_word settle (steps.slot_of chunk) mode word stands.1)
step_word step mode word stands = stands

step_yes : (step : Step) (mode : ResizeMode) (same : Bool) → IsValidStep step → IsValidStepped (steps.at_yes step mode same)
step_yes (step_states.Settling chunk settle) mode same stands = step_settles chunk (settles.at_yes settle mode same) stands.0
    (settle_yes settle mode same stands.1)
step_yes step mode same stands = stands

step_exchanged : (step : Step) (mode : ResizeMode) → IsValidStep step → IsValidStepped (steps.at_exchanged step mode)
step_exchanged (step_states.Linking from link) mode stands = step_links from (links.at_exchanged link) (link_exchanged link stands)
step_exchanged (step_states.Settling chunk settle) mode stands = step_settles chunk (settles.at_exchanged settle (steps.slot_of chunk) mode) stands.0
    (settle_exchanged settle (steps.slot_of chunk) mode stands.1)
step_exchanged (step_states.Advancing cursor) mode stands = step_advances cursor stands
step_exchanged (step_states.Promoting from to) mode stands = tt
step_exchanged step mode stands = stands

step_ok : (step : Step) (mode : ResizeMode) → IsValidStep step → IsValidStepped (steps.at_ok step mode)
step_ok (step_states.Settling chunk settle) mode stands = step_settles chunk (settles.at_ok settle mode) stands.0 (settle_ok settle mode stands.1)
step_ok step mode stands = stands

step_found : (step : Step) (mode : ResizeMode) (word : ℕ) → IsValidStep step → IsValidStepped (steps.at_found step mode word)
step_found (step_states.Linking from link) mode word stands = step_links from (links.at_found link word) (link_found link word stands)
step_found (step_states.Settling chunk settle) mode word stands = step_settles chunk (settles.at_found settle (steps.slot_of chunk) mode word)
    stands.0 (settle_found settle (steps.slot_of chunk) mode word stands.1)
step_found (step_states.Advancing cursor) mode word stands = step_advances cursor stands
step_found (step_states.Promoting from to) mode word stands = tt
step_found step mode word stands = stands

step_count : (step : Step) (mode : ResizeMode) (count initial : ℕ) → IsPowerOfTwo initial → IsValidStep step
    → IsValidStepped (steps.at_count step mode count initial)
step_count (step_states.Linking from link) mode count initial power stands = step_links from (links.at_count link mode count initial)
    (link_count link mode count initial power stands)
step_count (step_states.Settling chunk settle) mode count initial power stands = step_settles chunk (settles.at_count settle mode count initial)
    stands.0 (settle_count settle mode count initial power stands.1)
step_count step mode count initial power stands = stands

step_made : (step : Step) (n : ℕ) → IsValidStep step → IsValidStep (steps.at_made step n)
step_made (step_states.Linking from link) n stands = link_made link n stands
step_made (step_states.Settling chunk settle) n stands = (stands.0, settle_made settle n stands.1)
step_made step n stands = stands

step_refused : (step : Step) (mode : ResizeMode) (refused : Refused) → IsValidStep step → IsValidStepped (steps.at_refused step mode refused)
step_refused (step_states.Linking from link) mode refused stands = step_links from (links.at_refused link refused) (link_refused link refused stands)
step_refused (step_states.Settling chunk settle) mode refused stands = step_settles chunk (settles.at_refused settle mode refused) stands.0
    (settle_refused settle mode refused stands.1)
step_refused step mode refused stands = stands

-- the copy of the root
over_stands : (aim : Aim) → IsValidCopied (copyings.over aim)
over_stands (aims.Search table) = tt
over_stands (aims.Settle slot) = tt
over_stands aims.Chunk = tt
over_stands (aims.All met) = tt

further_stands : (aim : Aim) (chunk : Chunk) → IsValidChunk chunk → IsValidCopied (copyings.further aim chunk)
further_stands (aims.Search table) chunk stands = tt
further_stands (aims.Settle slot) chunk stands = tt
further_stands aims.Chunk chunk stands = tt
further_stands (aims.All met) chunk stands = (stands, tt)

last_stands : (aim : Aim) (table : ℕ) → IsValidCopied (copyings.last aim table)
last_stands (aims.Search met) table = tt
last_stands (aims.Settle slot) table = tt
last_stands aims.Chunk table = tt
last_stands (aims.All met) table = tt

all_stands : (met : ℕ) (mode : ResizeMode) (root : ℕ) → IsValidCopied (copyings.all_of met mode root)
all_stands met (Incremental chunk) root = tt
all_stands met Blocking root = cond_both (met == 0 || met == root) (copied.On (Stepping (aims.All root) (step_states.Aiming root root)))
    (copied.Root root) IsValidCopied (λ _. tt) (λ _. tt)

root_stands : (aim : Aim) (mode : ResizeMode) (root : ℕ) → IsValidCopied (copyings.at_root aim mode root)
root_stands (aims.All met) mode root = cond_both (root == 0) (copied.Root 0) (copyings.all_of met mode root) IsValidCopied (λ _. tt)
    (λ _. all_stands met mode root)
root_stands aim mode root = cond_both (root == 0) (copyings.over aim) (copied.On (Stepping aim (step_states.Aiming root root))) IsValidCopied
    (λ _. over_stands aim) (λ _. tt)

leads_stands : (aim : Aim) (mode : ResizeMode) (end : Stepped) → IsValidStepped end → IsValidCopied (copyings.leads aim mode end)
leads_stands aim mode (stepped.On step) stands = stands
leads_stands aim mode (stepped.Root root) stands = root_stands aim mode root
leads_stands aim mode (stepped.Last table) stands = last_stands aim table
leads_stands aim mode (stepped.Further chunk) stands = further_stands aim chunk stands
leads_stands aim mode stepped.Over stands = over_stands aim
leads_stands aim mode (stepped.Refused refused) stands = tt

lone_stands : (slot : SlotToCopy) (end : Settled) → IsValidSettled end → IsValidCopied (copyings.lone slot end)
lone_stands slot (settled.On settle) stands = stands
lone_stands slot settled.Settled stands = tt
lone_stands slot (settled.Unfit table) stands = tt
lone_stands slot (settled.Refused refused) stands = tt

pub copying_stands : (copying : Copying) (mode : ResizeMode) (initial number : ℕ) (answer : Answer) → IsPowerOfTwo initial → IsFit answer
    → IsValidCopying copying → IsValidCopied (copying_after copying mode initial number answer)
copying_stands (Stepping aim step) mode initial number (answers.Call (Word_read word)) power fit stands = leads_stands aim mode
    (steps.at_word step mode word) (step_word step mode word stands)
copying_stands (Stepping aim step) mode initial number (answers.Call Exchanged) power fit stands = leads_stands aim mode
    (steps.at_exchanged step mode) (step_exchanged step mode stands)
copying_stands (Stepping aim step) mode initial number (answers.Call (Found_instead word)) power fit stands = leads_stands aim mode
    (steps.at_found step mode word) (step_found step mode word stands)
copying_stands (Stepping aim step) mode initial number (answers.Call (Yes same)) power fit stands = leads_stands aim mode
    (steps.at_yes step mode same) (step_yes step mode same stands)
copying_stands (Stepping aim step) mode initial number (answers.Call (Size slots limit)) power fit stands = step_size step mode number slots limit fit stands
copying_stands (Stepping aim step) mode initial number (answers.Call (Made_number n)) power fit stands = step_made step n stands
copying_stands (Stepping aim step) mode initial number (answers.Call (Was_refused refused)) power fit stands = leads_stands aim mode
    (steps.at_refused step mode refused) (step_refused step mode refused stands)
copying_stands (Stepping aim step) mode initial number (answers.Call Ok_done) power fit stands = leads_stands aim mode (steps.at_ok step mode)
    (step_ok step mode stands)
copying_stands (Stepping aim step) mode initial number (answers.Call other) power fit stands = stands
copying_stands (Stepping aim step) mode initial number (answers.Hash hash) power fit stands = step_hash step hash stands
copying_stands (Stepping aim step) mode initial number (answers.Count count) power fit stands = leads_stands aim mode
    (steps.at_count step mode count initial) (step_count step mode count initial power stands)
copying_stands (Lone slot settle) mode initial number (answers.Call (Word_read word)) power fit stands = lone_stands slot
    (settles.at_word settle slot mode word) (settle_word settle slot mode word stands)
copying_stands (Lone slot settle) mode initial number (answers.Call Exchanged) power fit stands = lone_stands slot
    (settles.at_exchanged settle slot mode) (settle_exchanged settle slot mode stands)
copying_stands (Lone slot settle) mode initial number (answers.Call (Found_instead word)) power fit stands = lone_stands slot
    (settles.at_found settle slot mode word) (settle_found settle slot mode word stands)
copying_stands (Lone slot settle) mode initial number (answers.Call (Yes same)) power fit stands = lone_stands slot (settles.at_yes settle mode same)
    (settle_yes settle mode same stands)
copying_stands (Lone slot settle) mode initial number (answers.Call (Size slots limit)) power fit stands = settle_size settle slots limit fit stands
copying_stands (Lone slot settle) mode initial number (answers.Call (Made_number n)) power fit stands = settle_made settle n stands
copying_stands (Lone slot settle) mode initial number (answers.Call (Was_refused refused)) power fit stands = lone_stands slot
    (settles.at_refused settle mode refused) (settle_refused settle mode refused stands)
copying_stands (Lone slot settle) mode initial number (answers.Call Ok_done) power fit stands = lone_stands slot (settles.at_ok settle mode)
    (settle_ok settle mode stands)
copying_stands (Lone slot settle) mode initial number (answers.Call other) power fit stands = stands
copying_stands (Lone slot settle) mode initial number (answers.Hash hash) power fit stands = settle_hash settle hash stands
copying_stands (Lone slot settle) mode initial number (answers.Count count) power fit stands = lone_stands slot
    (settles.at_count settle mode count initial) (settle_count settle mode count initial power stands)

-- a table that is requested has a size of tables
pub link_fits : (link : Link) → IsValidLink link → IsFitCopyAsk (link_ask link)
link_fits (link_states.Sizing after copied unfit) stands = tt
link_fits (link_states.Measuring after copied unfit len) stands = tt
link_fits (link_states.Counting after unfit len copied) stands = tt
link_fits (link_states.Making after len limit chunks) stands = stands
link_fits (link_states.Linking after table chunks) stands = tt

carry_fits : (carry : Carry) (marked : ℕ) → IsValidCarry carry → IsFitCopyAsk (carries.carry_ask carry marked)
carry_fits (carry_states.Linking hash link) marked stands = link_fits link stands
carry_fits carry marked stands = tt

settle_fits : (settle : Settle) (slot : SlotToCopy) → IsValidSettle settle → IsFitCopyAsk (settle_ask settle slot)
settle_fits (settle_states.Carrying word carry) slot stands = carry_fits carry word stands
settle_fits settle slot stands = tt

step_fits : (step : Step) → IsValidStep step → IsFitCopyAsk (step_ask step)
step_fits (step_states.Linking from link) stands = link_fits link stands
step_fits (step_states.Settling chunk settle) stands = settle_fits settle (steps.slot_of chunk) stands.1
step_fits step stands = tt

pub copying_fits : (copying : Copying) → IsValidCopying copying → IsFitCopyAsk (copying_ask copying)
copying_fits (Stepping aim step) stands = step_fits step stands
copying_fits (Lone slot settle) stands = settle_fits settle slot stands
