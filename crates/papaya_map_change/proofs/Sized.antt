-- The length by which a next table is sized is that of a table in the log, and stays so with each
-- answer.
use Rattle.std.proofs.Common.{◌≡◌, ℕ, ◌^◌, ◌==◌, nat_le, Bool, Option, None, Some, List}
use Rattle.std.proofs.lemmas.Bool.{cond_both}
use mathlib.Core.List.{IsPrefix}
use Rattle.papaya_words.specs.Chunks.{chunk_count, chunk_len}
use Rattle.papaya_words.specs.Table.{length_after}
use Rattle.papaya_words.specs.declared.refused.Refused.{Refused}
use Rattle.papaya_words.specs.declared.refused.Refused.TheVariants.{Capacity}
use Rattle.papaya_words.specs.declared.resize_mode.ResizeMode.{ResizeMode}
use Rattle.papaya_call.specs.declared.ask.Answer.TheVariants.{Size}
use Rattle.papaya_call.specs.declared.copy.link.Link.{Link}
use Rattle.papaya_call.specs.declared.copy.link.Link.TheVariants as links
use Rattle.papaya_call.specs.declared.copy.link.Linked.TheVariants as linked
use Rattle.papaya_call.specs.Link as link
use Rattle.papaya_call.specs.declared.chain.ask.Answer.{Answer}
use Rattle.papaya_call.specs.declared.chain.ask.Answer.TheVariants as answers
use Rattle.papaya_call.specs.declared.chain.machine.Machine.{Machine}
use Rattle.papaya_call.specs.ChainMachine.{after}
use Rattle.papaya_call_law.specs.Goes.{link_in}
use Rattle.papaya_call_law.proofs.LinkStates.{In, IsStable, Linked_in, Of, machine_holds}
use Rattle.papaya_map_book.specs.Logs.{Member}
use Rattle.papaya_map_book.proofs.Lengths.{member_since}
use Rattle.papaya_map_change.specs.Changing.{IsCountingOf, IsSizedBy, IsSizedLink}

-- so it is over more tables
module _ (tables tables' : List ℕ) (pre : IsPrefix tables tables') where
  link_since : (made : Link) → IsSizedLink tables made → IsSizedLink tables' made
  link_since (links.Measuring behind copied unfit len) h = member_since len tables tables' pre h
  link_since (links.Counting behind unfit len copied) h = member_since len tables tables' pre h
  link_since other h = tt

  pub sized_since : (o : Option Link) → IsSizedBy tables o → IsSizedBy tables' o
  sized_since None h = tt
  sized_since (Some made) h = link_since made h

  pub counting_since : (m : Machine) → IsCountingOf tables m → IsCountingOf tables' m
  counting_since m counts = sized_since (link_in m.phase) counts

module _ (tables : List ℕ) where
  -- the length that was received is that of one of these
  abbrev pub IsOfSize : Link → Type 0
  IsOfSize = IsSizedLink tables

  abbrev pub Told : Link → ℕ → Type 0
  Told made slots = Member slots tables

  abbrev pub New : Link → ℕ → Type 0
  New made n = Unit {0}

  -- the making of a table
  link_size : (made : Link) (slots : ℕ) → Member slots tables → IsOfSize made → IsOfSize (link.at_size made slots)
  link_size (links.Sizing behind copied unfit) slots told h = cond_both (copied == behind) (links.Counting behind unfit slots slots)
      (links.Measuring behind copied unfit slots) IsOfSize (λ _. told) (λ _. told)
  link_size (links.Measuring behind copied unfit len) slots told h = h
  link_size other slots told h = h

  link_made : (made : Link) (n : ℕ) → New made n → IsOfSize made → IsOfSize (link.at_made made n)
  link_made (links.Making behind slots limit chunks) n new h = tt
  link_made other n new h = h

  counted : (behind before : ℕ) (unfit : Bool) (chunks asked : ℕ) → Linked_in IsOfSize (link.counted behind before unfit chunks asked)
  counted behind before unfit chunks asked = cond_both (nat_le asked (2 ^ 32)) (linked.On (link.making behind before unfit chunks asked))
      (linked.Refused Capacity) (Linked_in IsOfSize) (λ _. tt) (λ _. tt)

  link_count : (made : Link) (mode : ResizeMode) (count initial : ℕ) → IsOfSize made → Linked_in IsOfSize (link.at_count made mode count initial)
  link_count (links.Counting behind unfit slots copied) mode count initial h = counted behind slots unfit (chunk_count copied (chunk_len mode))
      (length_after slots count initial unfit)
  link_count other mode count initial h = h

  link_refused : (made : Link) (refused : Refused) → IsOfSize made → Linked_in IsOfSize (link.at_refused made refused)
  link_refused (links.Making behind slots limit chunks) refused h = tt
  link_refused other refused h = h

  link_exchanged : (made : Link) → IsOfSize made → Linked_in IsOfSize (link.at_exchanged made)
  link_exchanged (links.Linking behind table chunks) h = tt
  link_exchanged other h = h

  link_found : (made : Link) (word : ℕ) → IsOfSize made → Linked_in IsOfSize (link.at_found made word)
  link_found (links.Linking behind table chunks) word h = tt
  link_found other word h = h

  pub stable : IsStable IsOfSize Told New
  stable = record {
    fresh = λ behind copied unfit. tt;
    sizes = link_size;
    makes = link_made;
    counts = link_count;
    refuses = link_refused;
    exchanges = link_exchanged;
    finds = link_found;
  }

  -- in other words
  pub sized_in : (o : Option Link) → IsSizedBy tables o → In IsOfSize o
  sized_in None h = tt
  sized_in (Some made) h = h

  pub in_sized : (o : Option Link) → In IsOfSize o → IsSizedBy tables o
  in_sized None h = tt
  in_sized (Some made) h = h

  -- if the size that was received is that of one of these, the call counts by one of these after
  -- the answer
  pub counting_after : (m : Machine) (answer : Answer) → ((slots limit : ℕ) → answer ≡ answers.Call (Size slots limit) → Member slots tables)
      → IsCountingOf tables m → IsCountingOf tables (after m answer)
  counting_after m answer told counts =
      in_sized (link_in (after m answer).phase)
      (machine_holds IsOfSize Told New stable m answer (λ slots limit is. told_in (link_in m.phase) slots (told slots limit is))
      (λ n aside is. new_in (link_in m.phase) n) (sized_in (link_in m.phase) counts))
    where
      told_in : (o : Option Link) (slots : ℕ) → Member slots tables → Of Told o slots
      told_in None slots told = tt
      told_in (Some made) slots told = told

      new_in : (o : Option Link) (n : ℕ) → Of New o n
      new_in None n = tt
      new_in (Some made) n = tt
