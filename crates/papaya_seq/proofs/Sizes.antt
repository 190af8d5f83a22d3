-- The machine computes the length of a next table from the length of the table that it is to
-- follow, for which it asks.
use Rattle.std.proofs.Common.{◌≡◌, ℕ, ◌==◌, ◌^◌, nat_le, Bool, Option, None, Some, length, refl, ap, subst}
use Rattle.std.proofs.lemmas.Bool.{cond_both}
use Rattle.papaya_words.specs.Chunks.{chunk_count, chunk_len}
use Rattle.papaya_words.specs.Table.{TableWords, length_after}
use Rattle.papaya_words.specs.declared.refused.Refused.{Refused}
use Rattle.papaya_words.specs.declared.refused.Refused.TheVariants.{Capacity}
use Rattle.papaya_words.specs.declared.resize_mode.ResizeMode.{ResizeMode}
use Rattle.papaya_call.specs.declared.ask.Answer.TheVariants.{Size}
use Rattle.papaya_call.specs.declared.copy.link.Link.{Link}
use Rattle.papaya_call.specs.declared.copy.link.Link.TheVariants as links
use Rattle.papaya_call.specs.declared.copy.link.Linked.TheVariants as linked
use Rattle.papaya_call.specs.Link as link
use Rattle.papaya_call.specs.Link.{link_ask}
use Rattle.papaya_call.specs.declared.chain.ask.Answer.{Answer}
use Rattle.papaya_call.specs.declared.chain.ask.Answer.TheVariants as answers
use Rattle.papaya_call.specs.declared.chain.machine.Machine.{Machine}
use Rattle.papaya_call.specs.declared.chain.ask.Ask.TheVariants as asks
use Rattle.papaya_call.specs.declared.chain.machine.Phase.{Phase}
use Rattle.papaya_call.specs.declared.chain.machine.Phase.TheVariants.{Calling, Linking, Copying as Copying_root}
use Rattle.papaya_call.specs.ChainMachine as machine
use Rattle.papaya_call.specs.ChainMachine.{ask_of, asks_in}
use Rattle.papaya_call_law.specs.Goes.{link_in}
use Rattle.papaya_call_law.proofs.CopyRefusals.{copying_asks}
use Rattle.papaya_call_law.proofs.LinkStates.{In, IsStable, Linked_in, Of, machine_holds}
use Rattle.papaya_core_store.specs.Performs.{size_of}

-- `Sized` relates the number of a table and the number of its slots.
module _ (Sized : ℕ → ℕ → Type 0) where
  -- the table that is to get a next one has the slots by which that is counted
  abbrev pub IsSizedLink : Link → Type 0
  IsSizedLink (links.Measuring behind copied unfit slots) = Sized behind slots
  IsSizedLink (links.Counting behind unfit slots copied) = Sized behind slots
  IsSizedLink _ = Unit {0}

  -- the answer is the size of the table for which the machine asks
  abbrev pub Told : Link → ℕ → Type 0
  Told made slots = (behind copied : ℕ) (unfit : Bool) → made ≡ links.Sizing behind copied unfit → Sized behind slots

  abbrev pub New : Link → ℕ → Type 0
  New made n = Unit {0}

  -- in other words
  pub is_sized : (o : Option Link) → In IsSizedLink o → (behind slots copied : ℕ) (unfit : Bool) → o ≡ Some (links.Counting behind unfit slots copied)
      → Sized behind slots
  is_sized o h behind slots copied unfit e = subst (In IsSizedLink) e h

  -- the making of a table
  link_size : (made : Link) (slots : ℕ) → Told made slots → IsSizedLink made → IsSizedLink (link.at_size made slots)
  link_size (links.Sizing behind copied unfit) slots told h =
      cond_both (copied == behind) (links.Counting behind unfit slots slots) (links.Measuring behind copied unfit slots) IsSizedLink
      (λ _. told behind copied unfit refl) (λ _. told behind copied unfit refl)
  link_size (links.Measuring behind copied unfit before) slots told h = h
  link_size other slots told h = h

  link_made : (made : Link) (n : ℕ) → IsSizedLink made → IsSizedLink (link.at_made made n)
  link_made (links.Making behind slots limit chunks) n h = tt
  link_made other n h = h

  counted : (behind before : ℕ) (unfit : Bool) (chunks asked : ℕ) → Linked_in IsSizedLink (link.counted behind before unfit chunks asked)
  counted behind before unfit chunks asked = cond_both (nat_le asked (2 ^ 32)) (linked.On (link.making behind before unfit chunks asked))
      (linked.Refused Capacity) (Linked_in IsSizedLink) (λ _. tt) (λ _. tt)

  link_count : (made : Link) (mode : ResizeMode) (count initial : ℕ) → IsSizedLink made → Linked_in IsSizedLink (link.at_count made mode count initial)
  link_count (links.Counting behind unfit slots copied) mode count initial h = counted behind slots unfit (chunk_count copied (chunk_len mode))
      (length_after slots count initial unfit)
  link_count other mode count initial h = h

  link_refused : (made : Link) (refused : Refused) → IsSizedLink made → Linked_in IsSizedLink (link.at_refused made refused)
  link_refused (links.Making behind slots limit chunks) refused h = tt
  link_refused other refused h = h

  link_exchanged : (made : Link) → IsSizedLink made → Linked_in IsSizedLink (link.at_exchanged made)
  link_exchanged (links.Linking behind table chunks) h = tt
  link_exchanged other h = h

  link_found : (made : Link) (word : ℕ) → IsSizedLink made → Linked_in IsSizedLink (link.at_found made word)
  link_found (links.Linking behind table chunks) word h = tt
  link_found other word h = h

  pub stable : IsStable IsSizedLink Told New
  stable = record {
    fresh = λ behind copied unfit. tt;
    sizes = link_size;
    makes = λ made n new h. link_made made n h;
    counts = link_count;
    refuses = link_refused;
    exchanges = link_exchanged;
    finds = link_found;
  }

  -- if the machine computes a length from the slots of a table after an answer, it did before, or
  -- the answer has their number
  pub machine_sized : (m : Machine) (answer : Answer)
      → ((slots limit : ℕ) → answer ≡ answers.Call (Size slots limit) → (behind copied : ℕ) (unfit : Bool)
      → link_in m.phase ≡ Some (links.Sizing behind copied unfit) → Sized behind slots) → In IsSizedLink (link_in m.phase)
      → In IsSizedLink (link_in (machine.after m answer).phase)
  machine_sized m answer told h = machine_holds IsSizedLink Told New stable m answer
      (λ slots limit is. told_in (link_in m.phase) slots (told slots limit is)) (λ n aside is. new_in (link_in m.phase) n) h
    where
      told_in : (o : Option Link) (slots : ℕ) →
          ((behind copied : ℕ) (unfit : Bool) → o ≡ Some (links.Sizing behind copied unfit) → Sized behind slots) → Of Told o slots
      told_in None slots told = tt
      told_in (Some made) slots told = λ behind copied unfit e. told behind copied unfit (ap (λ y. Some y) e)

      new_in : (o : Option Link) (n : ℕ) → Of New o n
      new_in None n = tt
      new_in (Some made) n = tt

-- the same for a longer list of tables
pub sized_beside : (Sized Sized' : ℕ → ℕ → Type 0) → ((n slots : ℕ) → Sized n slots → Sized' n slots) → (o : Option Link) → In (IsSizedLink Sized) o
    → In (IsSizedLink Sized') o
sized_beside Sized Sized' more None h = tt
sized_beside Sized Sized' more (Some (links.Measuring behind copied unfit slots)) h = more behind slots h
sized_beside Sized Sized' more (Some (links.Counting behind unfit slots copied)) h = more behind slots h
sized_beside Sized Sized' more (Some other) h = tt

-- the ask of a machine that makes a table for a copy
pub link_asked : (m : Machine) (made : Link) → link_in m.phase ≡ Some made → ask_of m ≡ asks.Copy (link_ask made)
link_asked m made e = by_phase m.phase e
  where
    by_phase : (phase : Phase) → link_in phase ≡ Some made → asks_in m.call phase ≡ asks.Copy (link_ask made)
    by_phase Calling e = absurd cc
    by_phase (Linking link) e = let same : link ≡ made = cc e in ap (λ y. asks.Copy (link_ask y)) same
    by_phase (Copying_root goes) e = ap asks.Copy (copying_asks goes made e)

-- a size in an answer is that of a table
pub sized_as : (o : Option TableWords) (slots limit : ℕ) → size_of o ≡ Size slots limit → (t : TableWords) × (o ≡ Some t) × (length t.slots ≡ slots)
sized_as None slots limit e = absurd cc
sized_as (Some t) slots limit e = let same : length t.slots ≡ slots = cc e in (t, refl, same)
