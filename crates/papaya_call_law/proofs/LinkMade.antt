-- The table that a machine is about to link is one that was made, and so it is after each answer.
use Rattle.std.proofs.Common.{◌≡◌, ◌⊎◌, inl, inr, ℕ, ◌^◌, ◌==◌, nat_le, Bool, Option, None, Some, refl, sym, ap, subst}
use Rattle.std.proofs.lemmas.Bool.{cond_both}
use Rattle.papaya_words.specs.Chunks.{chunk_count, chunk_len}
use Rattle.papaya_words.specs.Table.{length_after}
use Rattle.papaya_words.specs.declared.refused.Refused.{Refused}
use Rattle.papaya_words.specs.declared.refused.Refused.TheVariants.{Capacity}
use Rattle.papaya_words.specs.declared.resize_mode.ResizeMode.{ResizeMode}
use Rattle.papaya_call.specs.declared.ask.Answer.{Answer as Call_answer}
use Rattle.papaya_call.specs.declared.ask.Answer.TheVariants.{Exchanged, Found as Found_instead, Made as Made_number}
use Rattle.papaya_call.specs.declared.ask.At.TheVariants.{Next}
use Rattle.papaya_call.specs.declared.ask.StepKind.TheVariants as kinds
use Rattle.papaya_call.specs.declared.copy_ask.CopyAsk.TheVariants.{Exchange}
use Rattle.papaya_call.specs.declared.copy.carry.Carry.{Carry}
use Rattle.papaya_call.specs.declared.copy.carry.Carry.TheVariants as carries
use Rattle.papaya_call.specs.declared.copy.copying.Copying.{Copying}
use Rattle.papaya_call.specs.declared.copy.copying.Copying.TheVariants.{Stepping, Lone}
use Rattle.papaya_call.specs.declared.copy.link.Link.{Link}
use Rattle.papaya_call.specs.declared.copy.link.Link.TheVariants as links
use Rattle.papaya_call.specs.declared.copy.link.Linked.TheVariants as linked
use Rattle.papaya_call.specs.declared.copy.settle.Settle.{Settle}
use Rattle.papaya_call.specs.declared.copy.settle.Settle.TheVariants as settles
use Rattle.papaya_call.specs.declared.copy.settle.SlotToCopy.{SlotToCopy}
use Rattle.papaya_call.specs.declared.copy.step.Step.{Step}
use Rattle.papaya_call.specs.declared.copy.step.Step.TheVariants as steps
use Rattle.papaya_call.specs.Carry as carry
use Rattle.papaya_call.specs.Copying as copying
use Rattle.papaya_call.specs.Link as link
use Rattle.papaya_call.specs.Settle as settle
use Rattle.papaya_call.specs.Step as step
use Rattle.papaya_call.specs.declared.chain.ask.Ask.TheVariants as asks
use Rattle.papaya_call.specs.declared.chain.ask.Answer.{Answer}
use Rattle.papaya_call.specs.declared.chain.ask.Answer.TheVariants as answers
use Rattle.papaya_call.specs.declared.chain.machine.Machine.{Machine}
use Rattle.papaya_call.specs.declared.chain.machine.Phase.{Phase}
use Rattle.papaya_call.specs.declared.chain.machine.Phase.TheVariants.{Calling, Linking, Copying as Copying_root}
use Rattle.papaya_call.specs.ChainMachine as machine
use Rattle.papaya_call_law.specs.Copier.{link_in_carry, link_in_copying, link_in_settle, link_in_step}
use Rattle.papaya_call_law.specs.Goes.{link_in}
use Rattle.papaya_call_law.proofs.LinkStates.{In, IsStable, Linked_in, Of, machine_holds, onward}

-- `Made` states that a table was made with this many words for chunks.
module _ (Made : (table chunks : ℕ) → Type 0) where
  -- the table that is about to be linked was made
  abbrev pub IsMadeLink : Link → Type 0
  IsMadeLink (links.Linking behind table chunks) = Made table chunks
  IsMadeLink _ = Unit {0}

  abbrev pub Told : Link → ℕ → Type 0
  Told made slots = Unit {0}

  abbrev pub New : Link → ℕ → Type 0
  New (links.Making behind slots limit chunks) n = Made n chunks
  New made n = Unit {0}

  -- in other words: the table that is about to be linked was made
  pub is_made : (o : Option Link) → In IsMadeLink o → (behind table chunks : ℕ) → o ≡ Some (links.Linking behind table chunks) → Made table chunks
  is_made o h behind table chunks e = subst (In IsMadeLink) e h

  pub made_is : (o : Option Link) → ((behind table chunks : ℕ) → o ≡ Some (links.Linking behind table chunks) → Made table chunks) → In IsMadeLink o
  made_is None h = tt
  made_is (Some (links.Linking behind table chunks)) h = h behind table chunks refl
  made_is (Some other) h = tt

  -- the making of a table
  link_size : (made : Link) (slots : ℕ) → IsMadeLink made → IsMadeLink (link.at_size made slots)
  link_size (links.Sizing behind copied unfit) slots h = cond_both (copied == behind) (links.Counting behind unfit slots slots)
      (links.Measuring behind copied unfit slots) IsMadeLink (λ _. tt) (λ _. tt)
  link_size (links.Measuring behind copied unfit len) slots h = tt
  link_size other slots h = h

  link_made : (made : Link) (n : ℕ) → New made n → IsMadeLink made → IsMadeLink (link.at_made made n)
  link_made (links.Making behind slots limit chunks) n new h = new
  link_made other n new h = h

  counted : (behind before : ℕ) (unfit : Bool) (chunks asked : ℕ) → Linked_in IsMadeLink (link.counted behind before unfit chunks asked)
  counted behind before unfit chunks asked = cond_both (nat_le asked (2 ^ 32)) (linked.On (link.making behind before unfit chunks asked))
      (linked.Refused Capacity) (Linked_in IsMadeLink) (λ _. tt) (λ _. tt)

  link_count : (made : Link) (mode : ResizeMode) (count initial : ℕ) → IsMadeLink made → Linked_in IsMadeLink (link.at_count made mode count initial)
  link_count (links.Counting behind unfit slots copied) mode count initial h = counted behind slots unfit (chunk_count copied (chunk_len mode))
      (length_after slots count initial unfit)
  link_count other mode count initial h = h

  link_refused : (made : Link) (refused : Refused) → IsMadeLink made → Linked_in IsMadeLink (link.at_refused made refused)
  link_refused (links.Making behind slots limit chunks) refused h = tt
  link_refused other refused h = h

  link_exchanged : (made : Link) → IsMadeLink made → Linked_in IsMadeLink (link.at_exchanged made)
  link_exchanged (links.Linking behind table chunks) h = tt
  link_exchanged other h = h

  link_found : (made : Link) (word : ℕ) → IsMadeLink made → Linked_in IsMadeLink (link.at_found made word)
  link_found (links.Linking behind table chunks) word h = tt
  link_found other word h = h

  pub stable : IsStable IsMadeLink Told New
  stable = record {
    fresh = λ behind copied unfit. tt;
    sizes = λ made slots told h. link_size made slots h;
    makes = link_made;
    counts = link_count;
    refuses = link_refused;
    exchanges = link_exchanged;
    finds = link_found;
  }

  -- if the machine is about to link a table after an answer, that one was made before, or is the
  -- one of the answer
  pub machine_made : (m : Machine) (answer : Answer)
      → ((n behind slots limit chunks : ℕ) → (m.phase ≡ Calling → ⊥) → answer ≡ answers.Call (Made_number n)
      → link_in m.phase ≡ Some (links.Making behind slots limit chunks) → Made n chunks) → In IsMadeLink (link_in m.phase)
      → In IsMadeLink (link_in (machine.after m answer).phase)
  machine_made m answer new h = machine_holds IsMadeLink Told New stable m answer (λ slots limit is. told_in (link_in m.phase) slots)
      (λ n aside is. new_in (link_in m.phase) n (λ behind slots limit chunks e. new n behind slots limit chunks aside is e)) h
    where
      told_in : (o : Option Link) (slots : ℕ) → Of Told o slots
      told_in None slots = tt
      told_in (Some made) slots = tt

      new_in : (o : Option Link) (n : ℕ) → ((behind slots limit chunks : ℕ) → o ≡ Some (links.Making behind slots limit chunks) → Made n chunks) → Of New o n
      new_in None n made = tt
      new_in (Some (links.Making behind slots limit chunks)) n made = made behind slots limit chunks refl
      new_in (Some other) n made = tt

-- A copier that asks for an exchange of a table's next word is about to link a table.
pub link_asks : (made : Link) (behind old new : ℕ) → link.link_ask made ≡ Exchange (Next behind) old new → (chunks : ℕ)
    × (Some made ≡ Some (links.Linking behind new chunks))
link_asks (links.Linking after table chunks) behind old new e = (chunks, cc)
link_asks other behind old new e = absurd cc

carry_asks : (goes : Carry) (marked behind old new : ℕ) → carry.carry_ask goes marked ≡ Exchange (Next behind) old new → (chunks : ℕ)
    × (link_in_carry goes ≡ Some (links.Linking behind new chunks))
carry_asks (carries.Linking hash made) marked behind old new e = link_asks made behind old new e
carry_asks other marked behind old new e = absurd cc

settle_asks : (goes : Settle) (slot : SlotToCopy) (behind old new : ℕ) → settle.settle_ask goes slot ≡ Exchange (Next behind) old new → (chunks : ℕ)
    × (link_in_settle goes ≡ Some (links.Linking behind new chunks))
settle_asks (settles.Carrying marked goes) slot behind old new e = carry_asks goes marked behind old new e
settle_asks other slot behind old new e = absurd cc

step_asks : (goes : Step) (behind old new : ℕ) → step.step_ask goes ≡ Exchange (Next behind) old new → (chunks : ℕ)
    × (link_in_step goes ≡ Some (links.Linking behind new chunks))
step_asks (steps.Linking from made) behind old new e = link_asks made behind old new e
step_asks (steps.Settling chunk goes) behind old new e = settle_asks goes (step.slot_of chunk) behind old new e
step_asks other behind old new e = absurd cc

pub copying_asks : (goes : Copying) (behind old new : ℕ) → copying.copying_ask goes ≡ Exchange (Next behind) old new → (chunks : ℕ)
    × (link_in_copying goes ≡ Some (links.Linking behind new chunks))
copying_asks (Stepping aim goes) behind old new e = step_asks goes behind old new e
copying_asks (Lone slot goes) behind old new e = settle_asks goes slot behind old new e

pub machine_links : (m : Machine) (behind old new : ℕ) → machine.ask_of m ≡ asks.Copy (Exchange (Next behind) old new) → (chunks : ℕ)
    × (link_in m.phase ≡ Some (links.Linking behind new chunks))
machine_links m behind old new e = by_phase m.phase e
  where
    by_phase : (phase : Phase) → machine.asks_in m.call phase ≡ asks.Copy (Exchange (Next behind) old new) → (chunks : ℕ)
        × (link_in phase ≡ Some (links.Linking behind new chunks))
    by_phase Calling e = absurd cc
    by_phase (Linking made) e = link_asks made behind old new cc
    by_phase (Copying_root goes) e = copying_asks goes behind old new cc

-- Conversely, a machine that is about to link a table asks for just that exchange.
carry_linking : (goes : Carry) (marked behind table chunks : ℕ) → link_in_carry goes ≡ Some (links.Linking behind table chunks)
    → (carry.carry_ask goes marked ≡ Exchange (Next behind) 0 table) × (carry.carry_kind goes ≡ Some kinds.Link)
carry_linking (carries.Linking hash made) marked behind table chunks e = let is : made ≡ links.Linking behind table chunks = cc e in rw is (refl, refl)
carry_linking other marked behind table chunks e = absurd cc

settle_linking : (goes : Settle) (slot : SlotToCopy) (behind table chunks : ℕ) → link_in_settle goes ≡ Some (links.Linking behind table chunks)
    → (settle.settle_ask goes slot ≡ Exchange (Next behind) 0 table) × (settle.settle_kind goes ≡ Some kinds.Link)
settle_linking (settles.Carrying marked goes) slot behind table chunks e = carry_linking goes marked behind table chunks e
settle_linking other slot behind table chunks e = absurd cc

step_linking : (goes : Step) (behind table chunks : ℕ) → link_in_step goes ≡ Some (links.Linking behind table chunks)
    → (step.step_ask goes ≡ Exchange (Next behind) 0 table) × (step.step_kind goes ≡ Some kinds.Link)
step_linking (steps.Linking from made) behind table chunks e = let is : made ≡ links.Linking behind table chunks = cc e in rw is (refl, refl)
step_linking (steps.Settling chunk goes) behind table chunks e = settle_linking goes (step.slot_of chunk) behind table chunks e
step_linking other behind table chunks e = absurd cc

copying_linking : (goes : Copying) (behind table chunks : ℕ) → link_in_copying goes ≡ Some (links.Linking behind table chunks)
    → (copying.copying_ask goes ≡ Exchange (Next behind) 0 table) × (copying.copying_kind goes ≡ Some kinds.Link)
copying_linking (Stepping aim goes) behind table chunks e = step_linking goes behind table chunks e
copying_linking (Lone slot goes) behind table chunks e = settle_linking goes slot behind table chunks e

pub machine_linking : (m : Machine) (behind table chunks : ℕ) → link_in m.phase ≡ Some (links.Linking behind table chunks)
    → (machine.ask_of m ≡ asks.Copy (Exchange (Next behind) 0 table)) × (machine.kind_of_ask m ≡ Some kinds.Link)
machine_linking m behind table chunks e = by_phase m.phase e
  where
    by_phase : (phase : Phase) → link_in phase ≡ Some (links.Linking behind table chunks)
        → (machine.asks_in m.call phase ≡ asks.Copy (Exchange (Next behind) 0 table)) × (machine.kind_in m.call phase ≡ Some kinds.Link)
    by_phase Calling e = absurd cc
    by_phase (Linking made) e = let is : made ≡ links.Linking behind table chunks = cc e in rw is (refl, refl)
    by_phase (Copying_root goes) e = let both = copying_linking goes behind table chunks e in (ap asks.Copy both.0, both.1)

-- no table is about to be linked
abbrev pub IsUnlinked : Option Link → Type 0
IsUnlinked = In (IsMadeLink (λ n chunks. ⊥))

-- Once it has tried to link a table, it is about to link none.
module _ (m : Machine) (behind table chunks : ℕ) where
  goes_unlinked : (next : ℕ) → IsUnlinked (link_in (machine.onward m next).phase)
  goes_unlinked next = onward (IsMadeLink (λ n chunks. ⊥)) (Told (λ n chunks. ⊥)) (New (λ n chunks. ⊥)) (stable (λ n chunks. ⊥)) m next

  made_unlinks : (phase : Phase) → link_in phase ≡ Some (links.Linking behind table chunks)
      → IsUnlinked (link_in (machine.after_in m (answers.Call Exchanged) phase).phase)
  made_unlinks (Linking (links.Linking a t d)) e = goes_unlinked t
  made_unlinks (Copying_root (Stepping aim (steps.Linking from (links.Linking a t d)))) e = tt
  made_unlinks (Copying_root (Stepping aim (steps.Settling chunk (settles.Carrying marked (carries.Linking hash (links.Linking a t d)))))) e = tt
  made_unlinks (Copying_root (Lone slot (settles.Carrying marked (carries.Linking hash (links.Linking a t d))))) e = tt
  made_unlinks other e = absurd cc

  found_unlinks : (word : ℕ) (phase : Phase) → link_in phase ≡ Some (links.Linking behind table chunks)
      → IsUnlinked (link_in (machine.after_in m (answers.Call (Found_instead word)) phase).phase)
  found_unlinks word (Linking (links.Linking a t d)) e = goes_unlinked word
  found_unlinks word (Copying_root (Stepping aim (steps.Linking from (links.Linking a t d)))) e = tt
  found_unlinks word (Copying_root (Stepping aim (steps.Settling chunk (settles.Carrying marked (carries.Linking hash (links.Linking a t d)))))) e = tt
  found_unlinks word (Copying_root (Lone slot (settles.Carrying marked (carries.Linking hash (links.Linking a t d))))) e = tt
  found_unlinks word other e = absurd cc

  pub link_tried : link_in m.phase ≡ Some (links.Linking behind table chunks) → (told : Call_answer) → (told ≡ Exchanged)
      ⊎ ((word : ℕ) × (told ≡ Found_instead word)) → IsUnlinked (link_in (machine.after m (answers.Call told)).phase)
  link_tried e told (inl is) = subst (λ (a : Call_answer). IsUnlinked (link_in (machine.after m (answers.Call a)).phase)) (sym is) (made_unlinks m.phase e)
  link_tried e told (inr (word, is)) = subst (λ (a : Call_answer). IsUnlinked (link_in (machine.after m (answers.Call a)).phase)) (sym is)
      (found_unlinks word m.phase e)
