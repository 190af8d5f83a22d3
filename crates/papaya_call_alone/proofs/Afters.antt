-- The state of a machine within the copy of the root after an answer: each one continues as the
-- machine within it does.
use Rattle.std.proofs.Common.{◌≡◌, ℕ, refl}
use Rattle.papaya_words.specs.declared.resize_mode.ResizeMode.{ResizeMode}
use Rattle.papaya_call.specs.declared.ask.Answer.{Answer as Call_answer}
use Rattle.papaya_call.specs.declared.ask.Answer.TheVariants.{Word as Word_read, Exchanged}
use Rattle.papaya_call.specs.declared.ask.Answer.TheVariants.{Found as Found_instead, Yes, Op, Size}
use Rattle.papaya_call.specs.declared.ask.Answer.TheVariants.{Made as Made_number, Ok as Ok_done}
use Rattle.papaya_call.specs.declared.ask.Answer.TheVariants.{Refused as Was_refused}
use Rattle.papaya_call.specs.declared.copy.carry.Carried.{Carried}
use Rattle.papaya_call.specs.declared.copy.carry.Carried.TheVariants as carried
use Rattle.papaya_call.specs.declared.copy.carry.Carry.{Carry}
use Rattle.papaya_call.specs.declared.copy.carry.Carry.TheVariants as carries
use Rattle.papaya_call.specs.declared.copy.copying.Aim.{Aim}
use Rattle.papaya_call.specs.declared.copy.copying.Copying.TheVariants as copyings
use Rattle.papaya_call.specs.declared.copy.link.Link.{Link}
use Rattle.papaya_call.specs.declared.copy.settle.Settle.{Settle}
use Rattle.papaya_call.specs.declared.copy.settle.Settle.TheVariants as settles
use Rattle.papaya_call.specs.declared.copy.settle.Settled.{Settled}
use Rattle.papaya_call.specs.declared.copy.settle.Settled.TheVariants as settled
use Rattle.papaya_call.specs.declared.copy.settle.SlotToCopy.{SlotToCopy}
use Rattle.papaya_call.specs.declared.copy.step.Chunk.{Chunk}
use Rattle.papaya_call.specs.declared.copy.step.Step.{Step}
use Rattle.papaya_call.specs.declared.copy.step.Step.TheVariants as steps
use Rattle.papaya_call.specs.declared.copy.step.Stepped.{Stepped}
use Rattle.papaya_call.specs.declared.copy.step.Stepped.TheVariants as stepped
use Rattle.papaya_call.specs.Carry as carry_specs
use Rattle.papaya_call.specs.Carry.{carried_on}
use Rattle.papaya_call.specs.Copying.{leads, lone}
use Rattle.papaya_call.specs.Settle as settle_specs
use Rattle.papaya_call.specs.Settle.{settled_by}
use Rattle.papaya_call.specs.Step as step_specs
use Rattle.papaya_call.specs.Step.{linked_to, settled_to, slot_of}
use Rattle.papaya_call.specs.declared.chain.ask.Answer.{Answer}
use Rattle.papaya_call.specs.declared.chain.ask.Answer.TheVariants as answers
use Rattle.papaya_call.specs.ChainMachine.{copying_after, link_after}

-- the move of a pair, after an answer
abbrev pub carry_called : Carry → ResizeMode → Call_answer → Carried
carry_called carry mode (Word_read word) = carry_specs.at_word carry mode word
carry_called carry mode Exchanged = carry_specs.at_exchanged carry
carry_called carry mode (Found_instead word) = carry_specs.at_found carry mode word
carry_called carry mode (Yes same) = carry_specs.at_yes carry mode same
carry_called carry mode (Size slots limit) = carried.On (carry_specs.at_size carry slots limit)
carry_called carry mode (Made_number n) = carried.On (carry_specs.at_made carry n)
carry_called carry mode (Was_refused refused) = carry_specs.at_refused carry refused
carry_called carry mode Ok_done = carry_specs.at_ok carry
carry_called carry mode _ = carried.On carry

abbrev pub carry_after : Carry → ResizeMode → (initial : ℕ) → Answer → Carried
carry_after carry mode initial (answers.Call answer) = carry_called carry mode answer
carry_after carry mode initial (answers.Hash hash) = carried.On (carry_specs.at_hash carry hash)
carry_after carry mode initial (answers.Count count) = carry_specs.at_count carry mode count initial

-- the copy of a slot
abbrev pub settle_called : Settle → SlotToCopy → ResizeMode → Call_answer → Settled
settle_called settle slot mode (Word_read word) = settle_specs.at_word settle slot mode word
settle_called settle slot mode Exchanged = settle_specs.at_exchanged settle slot mode
settle_called settle slot mode (Found_instead word) = settle_specs.at_found settle slot mode word
settle_called settle slot mode (Yes same) = settle_specs.at_yes settle mode same
settle_called settle slot mode (Size slots limit) = settled.On (settle_specs.at_size settle slots limit)
settle_called settle slot mode (Made_number n) = settled.On (settle_specs.at_made settle n)
settle_called settle slot mode (Was_refused refused) = settle_specs.at_refused settle mode refused
settle_called settle slot mode Ok_done = settle_specs.at_ok settle mode
settle_called settle slot mode _ = settled.On settle

abbrev pub settle_after : Settle → SlotToCopy → ResizeMode → (initial : ℕ) → Answer → Settled
settle_after settle slot mode initial (answers.Call answer) = settle_called settle slot mode answer
settle_after settle slot mode initial (answers.Hash hash) = settled.On (settle_specs.at_hash settle hash)
settle_after settle slot mode initial (answers.Count count) = settle_specs.at_count settle mode count initial

-- the copy of a chunk
abbrev pub step_called : Step → ResizeMode → (number : ℕ) → Call_answer → Stepped
step_called step mode number (Word_read word) = step_specs.at_word step mode word
step_called step mode number Exchanged = step_specs.at_exchanged step mode
step_called step mode number (Found_instead word) = step_specs.at_found step mode word
step_called step mode number (Yes same) = step_specs.at_yes step mode same
step_called step mode number (Size slots limit) = stepped.On (step_specs.at_size step mode number slots limit)
step_called step mode number (Made_number n) = stepped.On (step_specs.at_made step n)
step_called step mode number (Was_refused refused) = step_specs.at_refused step mode refused
step_called step mode number Ok_done = step_specs.at_ok step mode
step_called step mode number _ = stepped.On step

abbrev pub step_after : Step → ResizeMode → (initial number : ℕ) → Answer → Stepped
step_after step mode initial number (answers.Call answer) = step_called step mode number answer
step_after step mode initial number (answers.Hash hash) = stepped.On (step_specs.at_hash step hash)
step_after step mode initial number (answers.Count count) = step_specs.at_count step mode count initial

-- an outer machine continues as the machine within it does
module _ (mode : ResizeMode) (initial : ℕ) where
  pub carry_links : (hash : ℕ) (link : Link) (answer : Answer)
      → carry_after (carries.Linking hash link) mode initial answer ≡ carried_on hash (link_after link mode initial answer)
  carry_links hash link (answers.Call (Word_read word)) = refl
  carry_links hash link (answers.Call Exchanged) = refl
  carry_links hash link (answers.Call (Found_instead word)) = refl
  carry_links hash link (answers.Call (Yes same)) = refl
  carry_links hash link (answers.Call (Op kind)) = refl
  carry_links hash link (answers.Call (Size slots limit)) = refl
  carry_links hash link (answers.Call (Made_number n)) = refl
  carry_links hash link (answers.Call Ok_done) = refl
  carry_links hash link (answers.Call (Was_refused refused)) = refl
  carry_links hash link (answers.Hash h) = refl
  carry_links hash link (answers.Count count) = refl

  pub settle_carries : (slot : SlotToCopy) (word : ℕ) (carry : Carry) (answer : Answer)
      → settle_after (settles.Carrying word carry) slot mode initial answer ≡ settled_by word mode (carry_after carry mode initial answer)
  settle_carries slot word carry (answers.Call (Word_read w)) = refl
  settle_carries slot word carry (answers.Call Exchanged) = refl
  settle_carries slot word carry (answers.Call (Found_instead w)) = refl
  settle_carries slot word carry (answers.Call (Yes same)) = refl
  settle_carries slot word carry (answers.Call (Op kind)) = refl
  settle_carries slot word carry (answers.Call (Size slots limit)) = refl
  settle_carries slot word carry (answers.Call (Made_number n)) = refl
  settle_carries slot word carry (answers.Call Ok_done) = refl
  settle_carries slot word carry (answers.Call (Was_refused refused)) = refl
  settle_carries slot word carry (answers.Hash h) = refl
  settle_carries slot word carry (answers.Count count) = refl

  module _ (number : ℕ) where
    pub step_links : (from : ℕ) (link : Link) (answer : Answer)
        → step_after (steps.Linking from link) mode initial number answer ≡ linked_to from (link_after link mode initial answer)
    step_links from link (answers.Call (Word_read w)) = refl
    step_links from link (answers.Call Exchanged) = refl
    step_links from link (answers.Call (Found_instead w)) = refl
    step_links from link (answers.Call (Yes same)) = refl
    step_links from link (answers.Call (Op kind)) = refl
    step_links from link (answers.Call (Size slots limit)) = refl
    step_links from link (answers.Call (Made_number n)) = refl
    step_links from link (answers.Call Ok_done) = refl
    step_links from link (answers.Call (Was_refused refused)) = refl
    step_links from link (answers.Hash h) = refl
    step_links from link (answers.Count count) = refl

    pub step_settles : (chunk : Chunk) (settle : Settle) (answer : Answer)
        → step_after (steps.Settling chunk settle) mode initial number answer ≡ settled_to chunk (settle_after settle (slot_of chunk) mode initial answer)
    step_settles chunk settle (answers.Call (Word_read w)) = refl
    step_settles chunk settle (answers.Call Exchanged) = refl
    step_settles chunk settle (answers.Call (Found_instead w)) = refl
    step_settles chunk settle (answers.Call (Yes same)) = refl
    step_settles chunk settle (answers.Call (Op kind)) = refl
    step_settles chunk settle (answers.Call (Size slots limit)) = refl
    step_settles chunk settle (answers.Call (Made_number n)) = refl
    step_settles chunk settle (answers.Call Ok_done) = refl
    step_settles chunk settle (answers.Call (Was_refused refused)) = refl
    step_settles chunk settle (answers.Hash h) = refl
    step_settles chunk settle (answers.Count count) = refl

    pub copying_steps : (aim : Aim) (step : Step) (answer : Answer)
        → copying_after (copyings.Stepping aim step) mode initial number answer ≡ leads aim mode (step_after step mode initial number answer)
    copying_steps aim step (answers.Call (Word_read w)) = refl
    copying_steps aim step (answers.Call Exchanged) = refl
    copying_steps aim step (answers.Call (Found_instead w)) = refl
    copying_steps aim step (answers.Call (Yes same)) = refl
    copying_steps aim step (answers.Call (Op kind)) = refl
    copying_steps aim step (answers.Call (Size slots limit)) = refl
    copying_steps aim step (answers.Call (Made_number n)) = refl
    copying_steps aim step (answers.Call Ok_done) = refl
    copying_steps aim step (answers.Call (Was_refused refused)) = refl
    copying_steps aim step (answers.Hash h) = refl
    copying_steps aim step (answers.Count count) = refl

    pub copying_settles : (slot : SlotToCopy) (settle : Settle) (answer : Answer)
        → copying_after (copyings.Lone slot settle) mode initial number answer ≡ lone slot (settle_after settle slot mode initial answer)
    copying_settles slot settle (answers.Call (Word_read w)) = refl
    copying_settles slot settle (answers.Call Exchanged) = refl
    copying_settles slot settle (answers.Call (Found_instead w)) = refl
    copying_settles slot settle (answers.Call (Yes same)) = refl
    copying_settles slot settle (answers.Call (Op kind)) = refl
    copying_settles slot settle (answers.Call (Size slots limit)) = refl
    copying_settles slot settle (answers.Call (Made_number n)) = refl
    copying_settles slot settle (answers.Call Ok_done) = refl
    copying_settles slot settle (answers.Call (Was_refused refused)) = refl
    copying_settles slot settle (answers.Hash h) = refl
    copying_settles slot settle (answers.Count count) = refl
