-- The lengths on which the making of a table relies: the length of the table which it is to follow,
-- and a length that the new table may have.
use Rattle.std.proofs.Common.{◌≡◌, inl, inr, ℕ, ◌==◌, ◌≤◌, ◌^◌, nat_le, Bool, cond, Option, None, Some, List, ◌*◌, ◌/◌, ◌||◌, max, refl, ap, ◌∙◌, subst, arith}
use Rattle.std.proofs.lemmas.Bool.{cond_both}
use Rattle.std.specs.List.{Contains}
use Rattle.papaya_words.specs.Chunks.{chunk_count, chunk_len}
use Rattle.papaya_words.specs.Table.{length_after}
use Rattle.papaya_words.specs.declared.refused.Refused.{Refused}
use Rattle.papaya_words.specs.declared.refused.Refused.TheVariants.{Capacity}
use Rattle.papaya_words.specs.declared.resize_mode.ResizeMode.{ResizeMode}
use Rattle.papaya_call.specs.declared.ask.Answer.TheVariants as told
use Rattle.papaya_call.specs.declared.copy_ask.CopyAsk.TheVariants as copies
use Rattle.papaya_call.specs.declared.copy.carry.Carry.{Carry}
use Rattle.papaya_call.specs.declared.copy.carry.Carry.TheVariants as carries
use Rattle.papaya_call.specs.declared.copy.copying.Copying.{Copying}
use Rattle.papaya_call.specs.declared.copy.copying.Copying.TheVariants.{Stepping, Lone}
use Rattle.papaya_call.specs.declared.copy.link.Link.{Link}
use Rattle.papaya_call.specs.declared.copy.link.Link.TheVariants as links
use Rattle.papaya_call.specs.declared.copy.link.Linked.TheVariants as linked
use Rattle.papaya_call.specs.declared.copy.settle.Settle.{Settle}
use Rattle.papaya_call.specs.declared.copy.settle.Settle.TheVariants as settles
use Rattle.papaya_call.specs.declared.copy.settle.SlotToCopy.{SlotToCopy}
use Rattle.papaya_call.specs.declared.copy.step.Step.{Step}
use Rattle.papaya_call.specs.declared.copy.step.Step.TheVariants as steps
use Rattle.papaya_call.specs.Carry.{carry_ask}
use Rattle.papaya_call.specs.Copying.{copying_ask}
use Rattle.papaya_call.specs.Link as link
use Rattle.papaya_call.specs.Link.{link_ask}
use Rattle.papaya_call.specs.Settle.{settle_ask}
use Rattle.papaya_call.specs.Step.{slot_of, step_ask}
use Rattle.papaya_call.specs.declared.chain.ask.Answer.{Answer}
use Rattle.papaya_call.specs.declared.chain.ask.Answer.TheVariants as answers
use Rattle.papaya_call.specs.ChainMachine.{link_after}
use Rattle.papaya_call_law.specs.Copier.{link_in_carry, link_in_copying, link_in_settle, link_in_step}
use Rattle.papaya_call_law.proofs.LinkStates.{In, Linked_in}
use Rattle.papaya_seq.proofs.LinkLeads.{IsBegun, IsLed}

-- the length after one that is no less than the initial capacity is not either
pub next_enough : (initial before count : ℕ) (unfit : Bool) → initial ≤ before → initial ≤ max (length_after before count initial unfit) 8
next_enough initial before count unfit enough =
    cond_both (unfit || nat_le (before / 2) count) (2 * before) (cond (nat_le count (before / 8)) (max initial (before / 2)) before) (λ n. initial ≤ max n 8)
    (λ _. omega (arith, enough))
    (λ _. cond_both (nat_le count (before / 8)) (max initial (before / 2)) before (λ n. initial ≤ max n 8) (λ _. omega (arith, enough))
    (λ _. omega (arith, enough)))

-- a copy that asks for a table is making it
link_makes : (made : Link) (slots limit chunks : ℕ) → link_ask made ≡ copies.MakeTable slots limit chunks → (behind : ℕ)
    × (made ≡ links.Making behind slots limit chunks)
link_makes (links.Making behind n l c) slots limit chunks e =
    let slots_are : n ≡ slots = cc e in
    let limit_is : l ≡ limit = cc e in
    let chunks_are : c ≡ chunks = cc e in
    (behind, ap (λ x. links.Making behind x l c) slots_are ∙ ap (λ x. links.Making behind slots x c) limit_is ∙ ap (links.Making behind slots limit) chunks_are)
link_makes other slots limit chunks e = absurd cc

carry_makes : (goes : Carry) (marked slots limit chunks : ℕ) → carry_ask goes marked ≡ copies.MakeTable slots limit chunks → (behind : ℕ)
    × (link_in_carry goes ≡ Some (links.Making behind slots limit chunks))
carry_makes (carries.Linking hash made) marked slots limit chunks e = let (behind, is) = link_makes made slots limit chunks e in (behind, ap (λ x. Some x) is)
carry_makes other marked slots limit chunks e = absurd cc

settle_makes : (goes : Settle) (slot : SlotToCopy) (slots limit chunks : ℕ) → settle_ask goes slot ≡ copies.MakeTable slots limit chunks → (behind : ℕ)
    × (link_in_settle goes ≡ Some (links.Making behind slots limit chunks))
settle_makes (settles.Carrying marked goes) slot slots limit chunks e = carry_makes goes marked slots limit chunks e
settle_makes other slot slots limit chunks e = absurd cc

step_makes : (goes : Step) (slots limit chunks : ℕ) → step_ask goes ≡ copies.MakeTable slots limit chunks → (behind : ℕ)
    × (link_in_step goes ≡ Some (links.Making behind slots limit chunks))
step_makes (steps.Linking from made) slots limit chunks e = let (behind, is) = link_makes made slots limit chunks e in (behind, ap (λ x. Some x) is)
step_makes (steps.Settling chunk goes) slots limit chunks e = settle_makes goes (slot_of chunk) slots limit chunks e
step_makes other slots limit chunks e = absurd cc

pub copying_makes : (goes : Copying) (slots limit chunks : ℕ) → copying_ask goes ≡ copies.MakeTable slots limit chunks → (behind : ℕ)
    × (link_in_copying goes ≡ Some (links.Making behind slots limit chunks))
copying_makes (Stepping aim goes) slots limit chunks e = step_makes goes slots limit chunks e
copying_makes (Lone slot goes) slots limit chunks e = settle_makes goes slot slots limit chunks e

-- `Good` holds of a length that may be made beside these.
module _ (Good : ℕ → Type 0) (lengths : List ℕ) where
  -- the making computes from the length of a table that is there, and makes a table of a length
  -- that is allowed
  abbrev pub IsLongLink : Link → Type 0
  IsLongLink (links.Measuring behind from unfit slots) = Contains lengths slots
  IsLongLink (links.Counting behind unfit slots copied) = Contains lengths slots
  IsLongLink (links.Making behind slots limit chunks) = Good slots
  IsLongLink _ = Unit {0}

  -- a table for which a copy asks may be made
  pub link_good : (made : Link) (slots limit chunks : ℕ) → link_ask made ≡ copies.MakeTable slots limit chunks → IsLongLink made → Good slots
  link_good made slots limit chunks e h = let (behind, is) = link_makes made slots limit chunks e in subst IsLongLink is h

  pub copy_good : (goes : Copying) (slots limit chunks : ℕ) → copying_ask goes ≡ copies.MakeTable slots limit chunks
      → In IsLongLink (link_in_copying goes) → Good slots
  copy_good goes slots limit chunks e h = let (behind, is) = copying_makes goes slots limit chunks e in subst (In IsLongLink) is h

  begun_long : (made : Link) → IsBegun made → IsLongLink made
  begun_long (links.Sizing behind copied unfit) h = tt
  begun_long (links.Measuring behind copied unfit slots) h = absurd h
  begun_long (links.Counting behind unfit slots copied) h = absurd h
  begun_long (links.Making behind slots limit chunks) h = absurd h
  begun_long (links.Linking behind table chunks) h = absurd h

  -- the making after an answer
  size_long : (made : Link) (slots : ℕ) → ((behind copied : ℕ) (unfit : Bool) → made ≡ links.Sizing behind copied unfit → Contains lengths slots)
      → IsLongLink made → IsLongLink (link.at_size made slots)
  size_long (links.Sizing behind copied unfit) slots size h =
      cond_both (copied == behind) (links.Counting behind unfit slots slots) (links.Measuring behind copied unfit slots) IsLongLink
      (λ _. size behind copied unfit refl) (λ _. size behind copied unfit refl)
  size_long (links.Measuring behind copied unfit before) slots size h = h
  size_long other slots size h = h

  made_long : (made : Link) (n : ℕ) → IsLongLink made → IsLongLink (link.at_made made n)
  made_long (links.Making behind slots limit chunks) n h = tt
  made_long other n h = h

  refused_long : (made : Link) (refused : Refused) → IsLongLink made → Linked_in IsLongLink (link.at_refused made refused)
  refused_long (links.Making behind slots limit chunks) refused h = tt
  refused_long other refused h = h

  exchanged_long : (made : Link) → IsLongLink made → Linked_in IsLongLink (link.at_exchanged made)
  exchanged_long (links.Linking behind table chunks) h = tt
  exchanged_long other h = h

  found_long : (made : Link) (word : ℕ) → IsLongLink made → Linked_in IsLongLink (link.at_found made word)
  found_long (links.Linking behind table chunks) word h = tt
  found_long other word h = h

  module _ (mode : ResizeMode) (initial : ℕ) where
    count_long : (made : Link) (count : ℕ) →
        ((behind before copied : ℕ) (unfit : Bool) → made ≡ links.Counting behind unfit before copied → Contains lengths before
        → Good (max (length_after before count initial unfit) 8)) → IsLongLink made → Linked_in IsLongLink (link.at_count made mode count initial)
    count_long (links.Counting behind unfit before copied) count counts h =
        let asked : ℕ = length_after before count initial unfit in
        cond_both (nat_le asked (2 ^ 32)) (linked.On (link.making behind before unfit (chunk_count copied (chunk_len mode)) asked))
        (linked.Refused Capacity) (Linked_in IsLongLink) (λ _. counts behind before copied unfit refl h) (λ _. tt)
    count_long other count counts h = h

    -- the size is that of a table that is there, and the length that follows by the count may be made
    abbrev pub Sizes : Answer → Link → Type 0
    Sizes answer made = (slots limit : ℕ) → answer ≡ answers.Call (told.Size slots limit) → (behind copied : ℕ) (unfit : Bool)
        → made ≡ links.Sizing behind copied unfit → Contains lengths slots

    abbrev pub Counts : Answer → Link → Type 0
    Counts answer made = (count : ℕ) → answer ≡ answers.Count count → (behind before copied : ℕ) (unfit : Bool)
        → made ≡ links.Counting behind unfit before copied → Contains lengths before → Good (max (length_after before count initial unfit) 8)

    pub after_long : (made : Link) (answer : Answer) → Sizes answer made → Counts answer made → IsLongLink made
        → Linked_in IsLongLink (link_after made mode initial answer)
    after_long made (answers.Call (told.Size slots limit)) sizes counts h = size_long made slots (sizes slots limit refl) h
    after_long made (answers.Call (told.Made n)) sizes counts h = made_long made n h
    after_long made (answers.Call (told.Refused refused)) sizes counts h = refused_long made refused h
    after_long made (answers.Call told.Exchanged) sizes counts h = exchanged_long made h
    after_long made (answers.Call (told.Found word)) sizes counts h = found_long made word h
    after_long made (answers.Call (told.Word word)) sizes counts h = h
    after_long made (answers.Call (told.Yes same)) sizes counts h = h
    after_long made (answers.Call (told.Op kind)) sizes counts h = h
    after_long made (answers.Call told.Ok) sizes counts h = h
    after_long made (answers.Hash hash) sizes counts h = h
    after_long made (answers.Count count) sizes counts h = count_long made count (counts count refl) h

    -- the same for the making after an answer
    pub led_long : (answer : Answer) (o o' : Option Link) → In (IsLed mode initial answer o) o' → ((made : Link) → o ≡ Some made → Sizes answer made)
        → ((made : Link) → o ≡ Some made → Counts answer made) → In IsLongLink o → In IsLongLink o'
    led_long answer o None led sizes counts h = tt
    led_long answer None (Some made') led sizes counts h = begun_long made' led
    led_long answer (Some made) (Some made') (inl begun) sizes counts h = begun_long made' begun
    led_long answer (Some made) (Some made') (inr e) sizes counts h = subst (Linked_in IsLongLink) e
        (after_long made answer (sizes made refl) (counts made refl) h)

-- the same beside more tables
pub long_beside : (Good Good' : ℕ → Type 0) (lengths lengths' : List ℕ) → ((n : ℕ) → Good n → Good' n)
    → ((n : ℕ) → Contains lengths n → Contains lengths' n) → (o : Option Link) → In (IsLongLink Good lengths) o → In (IsLongLink Good' lengths') o
long_beside Good Good' lengths lengths' good there None h = tt
long_beside Good Good' lengths lengths' good there (Some (links.Sizing behind copied unfit)) h = tt
long_beside Good Good' lengths lengths' good there (Some (links.Measuring behind copied unfit slots)) h = there slots h
long_beside Good Good' lengths lengths' good there (Some (links.Counting behind unfit slots copied)) h = there slots h
long_beside Good Good' lengths lengths' good there (Some (links.Making behind slots limit chunks)) h = good slots h
long_beside Good Good' lengths lengths' good there (Some (links.Linking behind table chunks)) h = tt
