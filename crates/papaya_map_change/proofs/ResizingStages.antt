-- A call that resizes: the table that it is about to open or link, and the length by which it makes one.
use Rattle.std.proofs.Common.{◌≡◌, ◌⊎◌, inl, inr, ℕ, ◌+◌, ◌==◌, nat_le, Option, None, Some, refl, sym, ap, subst}
use Rattle.std.proofs.lemmas.Bool.{cond_both}
use Rattle.papaya_words.specs.Chunks.{chunk_count, chunk_len}
use Rattle.papaya_words.specs.declared.resize_mode.ResizeMode.{ResizeMode}
use Rattle.papaya_words.specs.declared.resize_mode.ResizeMode.TheVariants.{Blocking}
use Rattle.papaya_call.specs.declared.ask.Answer.{Answer as Call_answer}
use Rattle.papaya_call.specs.declared.ask.Answer.TheVariants.{Word as Word_read, Exchanged}
use Rattle.papaya_call.specs.declared.ask.Answer.TheVariants.{Found as Found_instead, Size}
use Rattle.papaya_call.specs.declared.ask.Answer.TheVariants.{Made as Made_number}
use Rattle.papaya_call.specs.declared.ask.Answer.TheVariants.{Refused as Was_refused}
use Rattle.papaya_call.specs.declared.ask.At.TheVariants.{Next, Root}
use Rattle.papaya_call.specs.declared.ask.StepKind.TheVariants as kinds
use Rattle.papaya_call.specs.declared.call.Task.TheVariants.{Get}
use Rattle.papaya_call.specs.declared.copy_ask.CopyAsk.{CopyAsk}
use Rattle.papaya_call.specs.declared.copy_ask.CopyAsk.TheVariants.{Count, Exchange, Load, MakeTable, SizeOf}
use Rattle.papaya_call.specs.declared.copy.carry.Carry.TheVariants as carries
use Rattle.papaya_call.specs.declared.copy.copying.Copied.{Copied}
use Rattle.papaya_call.specs.declared.copy.copying.Copied.TheVariants as copied_to
use Rattle.papaya_call.specs.declared.copy.copying.Copying.TheVariants.{Stepping, Lone}
use Rattle.papaya_call.specs.declared.copy.link.Link.{Link}
use Rattle.papaya_call.specs.declared.copy.link.Link.TheVariants as links
use Rattle.papaya_call.specs.declared.copy.link.Linked.{Linked}
use Rattle.papaya_call.specs.declared.copy.link.Linked.TheVariants as linked_to
use Rattle.papaya_call.specs.declared.copy.settle.Settle.TheVariants as settles
use Rattle.papaya_call.specs.declared.copy.step.Step.TheVariants as steps
use Rattle.papaya_call.specs.Copying.{copying_ask}
use Rattle.papaya_call.specs.Link.{IsFitCopyAsk, follows, link_ask}
use Rattle.papaya_call.specs.declared.chain.machine.Phase.TheVariants as phases
use Rattle.papaya_call.specs.declared.chain.ask.Answer.{Answer}
use Rattle.papaya_call.specs.declared.chain.ask.Answer.TheVariants as answers
use Rattle.papaya_call.specs.declared.chain.resizer.Resize.{Resize}
use Rattle.papaya_call.specs.declared.chain.resizer.Resize.TheVariants.{Chunk, CopyAll, Reserve}
use Rattle.papaya_call.specs.declared.chain.resizer.TableSize.{TableSize}
use Rattle.papaya_call.specs.declared.chain.resizer.ResizerState.{ResizerState as Stage}
use Rattle.papaya_call.specs.declared.chain.resizer.ResizerState.TheVariants.{AtRoot, Making, Opening, Sizing}
use Rattle.papaya_call.specs.declared.chain.resizer.ResizerState.TheVariants.{Counting, Looking, Linking}
use Rattle.papaya_call.specs.declared.chain.resizer.ResizerState.TheVariants.{Copying, Done}
use Rattle.papaya_call.specs.declared.chain.resizer.ResizerState.TheVariants.{Refused as Ended_refused}
use Rattle.papaya_call.specs.ChainMachine as machine
use Rattle.papaya_call.specs.Resizer.{IsValidIn, after_in, asks_in, at_count, at_last, at_next}
use Rattle.papaya_call.specs.Resizer.{at_root, called, copied, copies, counted, judges, kind_in}
use Rattle.papaya_call.specs.Resizer.{linked, makes, over, told_root}
use Rattle.papaya_call.specs.TableSize.{room_of}
use Rattle.papaya_call_law.specs.Copier.{link_in_copying}
use Rattle.papaya_call_law.proofs.CopyStanding.{copying_fits, link_fits}
use Rattle.papaya_call_law.proofs.LinkMade as made
use Rattle.papaya_call_law.proofs.LinkMade.{IsMadeLink, copying_asks, link_asks, machine_linking}
use Rattle.papaya_call_law.proofs.LinkStates as states
use Rattle.papaya_call_law.proofs.LinkStates.{Copied_holds, In, IsStable, Linked_in, Of}
use Rattle.papaya_call_law.specs.Resizers.{link_of}

module _ (Opened : ℕ → Type 0) (Holds : Link → Type 0) (Told New : Link → ℕ → Type 0) (stable : IsStable Holds Told New)
    (making : (behind slots limit chunks : ℕ) → Holds (links.Making behind slots limit chunks)) where
  -- the facts about the table that is about to be opened, and about the making of a table
  abbrev pub At : Stage → Type 0
  At (Opening n) = Opened n
  At (Linking link) = Holds link
  At (Copying from goes) = In Holds (link_in_copying goes)
  At _ = Unit {0}

  makes_at : (room : Option TableSize) → At (makes room)
  makes_at None = tt
  makes_at (Some room) = tt

  root_at : (resize : Resize) (root : ℕ) → At (at_root resize root)
  root_at Chunk root = cond_both (root == 0) Done (Looking root 0 None) At (λ _. tt) (λ _. tt)
  root_at CopyAll root = cond_both (root == 0) Done (Looking root 0 None) At (λ _. tt) (λ _. tt)
  root_at (Reserve more) root = cond_both (root == 0) (makes (room_of more)) (Sizing root) At (λ _. makes_at (room_of more)) (λ _. tt)

  judges_at : (root len : ℕ) (room : Option TableSize) → At (judges root len room)
  judges_at root len None = tt
  judges_at root len (Some room) = cond_both (nat_le room.len len) Done (Looking root len (Some room)) At (λ _. tt) (λ _. tt)

  count_at : (resize : Resize) (root len count : ℕ) → At (at_count resize root len count)
  count_at Chunk root len count = tt
  count_at CopyAll root len count = tt
  count_at (Reserve more) root len count = judges_at root len (room_of (count + more))

  last_at : (mode : ResizeMode) (root len : ℕ) (room : Option TableSize) → At (at_last mode root len room)
  last_at mode root len None = tt
  last_at mode root len (Some room) = making root room.len room.limit (chunk_count len (chunk_len mode))

  next_at : (mode : ResizeMode) (root len : ℕ) (room : Option TableSize) (next : ℕ) → At (at_next mode root len room next)
  next_at mode root len room next = cond_both (next == 0) (at_last mode root len room) (copies root) At (λ _. last_at mode root len room) (λ _. tt)

  over_at : (resize : Resize) → At (over resize)
  over_at Chunk = tt
  over_at CopyAll = tt
  over_at (Reserve more) = tt

  linked_at : (root : ℕ) (end : Linked) → Linked_in Holds end → At (linked root end)
  linked_at root (linked_to.On link) h = h
  linked_at root (linked_to.Table table) h = tt
  linked_at root (linked_to.Refused refused) h = tt

  copied_at : (resize : Resize) (from : ℕ) (end : Copied) → Copied_holds Holds Told New stable end → At (copied resize from end)
  copied_at resize from (copied_to.On goes) h = h
  copied_at resize from (copied_to.Search table) h = over_at resize
  copied_at resize from (copied_to.Root root) h = over_at resize
  copied_at resize from copied_to.Chunk h = over_at resize
  copied_at resize from (copied_to.Refused refused) h = tt

  -- after an answer, if nothing is linked or copied
  told_at : (resize : Resize) (mode : ResizeMode) (stage : Stage) (answer : Call_answer) → ((n : ℕ) → answer ≡ Made_number n → Opened n) → At stage
      → At (told_root resize mode stage answer)
  told_at resize mode AtRoot (Word_read root) opened h = root_at resize root
  told_at resize mode (Making room) (Made_number n) opened h = opened n refl
  told_at resize mode (Making room) (Was_refused refused) opened h = tt
  told_at resize mode (Opening n) Exchanged opened h = tt
  told_at resize mode (Opening n) (Found_instead word) opened h = tt
  told_at resize mode (Sizing root) (Size slots limit) opened h = tt
  told_at resize mode (Looking root len room) (Word_read next) opened h = next_at mode root len room next
  told_at resize mode stage answer opened h = h

  counted_at : (resize : Resize) (stage : Stage) (count : ℕ) → At stage → At (counted resize stage count)
  counted_at resize (Counting root len) count h = count_at resize root len count
  counted_at resize stage count h = h

  called_at : (resize : Resize) (mode : ResizeMode) (stage : Stage) (answer : Answer) → ((n : ℕ) → answer ≡ answers.Call (Made_number n) → Opened n)
      → At stage → At (called resize mode stage answer)
  called_at resize mode stage (answers.Call answer) opened h = told_at resize mode stage answer (λ n e. opened n (ap answers.Call e)) h
  called_at resize mode stage (answers.Count count) opened h = counted_at resize stage count h
  called_at resize mode stage (answers.Hash hash) opened h = h

  -- after any answer
  pub stage_at : (resize : Resize) (mode : ResizeMode) (initial number : ℕ) (answer : Answer) (stage : Stage)
      → ((slots limit : ℕ) → answer ≡ answers.Call (Size slots limit) → Of Told (link_of stage) slots)
      → ((n : ℕ) → answer ≡ answers.Call (Made_number n) → Of New (link_of stage) n) → ((n : ℕ) → answer ≡ answers.Call (Made_number n) → Opened n)
      → At stage → At (after_in resize mode initial number answer stage)
  stage_at resize mode initial number answer (Linking link) told new opened h = linked_at (follows link) (machine.link_after link mode initial answer)
      (states.link_after Holds Told New stable link mode initial answer told new h)
  stage_at resize mode initial number answer (Copying from goes) told new opened h = copied_at resize from
      (machine.copying_after goes mode initial number answer) (states.copying_after Holds Told New stable goes mode initial number answer told new h)
  stage_at resize mode initial number answer AtRoot told new opened h = called_at resize mode AtRoot answer opened h
  stage_at resize mode initial number answer (Making room) told new opened h = called_at resize mode (Making room) answer opened h
  stage_at resize mode initial number answer (Opening n) told new opened h = called_at resize mode (Opening n) answer opened h
  stage_at resize mode initial number answer (Sizing root) told new opened h = called_at resize mode (Sizing root) answer opened h
  stage_at resize mode initial number answer (Counting root len) told new opened h = called_at resize mode (Counting root len) answer opened h
  stage_at resize mode initial number answer (Looking root len room) told new opened h = called_at resize mode (Looking root len room) answer opened h
  stage_at resize mode initial number answer Done told new opened h = called_at resize mode Done answer opened h
  stage_at resize mode initial number answer (Ended_refused refused) told new opened h = called_at resize mode (Ended_refused refused) answer opened h

-- `Opened` states that a first table was made, and `Made` that a table was made with this many
-- words for chunks.
module _ (Opened : ℕ → Type 0) (Made : (n chunks : ℕ) → Type 0) where
  -- the table that is about to be opened or linked was made
  abbrev pub IsMadeAt : Stage → Type 0
  IsMadeAt (Opening n) = Opened n
  IsMadeAt (Linking link) = IsMadeLink Made link
  IsMadeAt (Copying from goes) = In (IsMadeLink Made) (link_in_copying goes)
  IsMadeAt _ = Unit {0}

  pub made_after : (resize : Resize) (mode : ResizeMode) (initial number : ℕ) (answer : Answer) (stage : Stage)
      → ((n : ℕ) → answer ≡ answers.Call (Made_number n) → Opened n)
      → ((n behind slots limit chunks : ℕ) → answer ≡ answers.Call (Made_number n) → link_of stage ≡ Some (links.Making behind slots limit chunks)
      → Made n chunks) → IsMadeAt stage → IsMadeAt (after_in resize mode initial number answer stage)
  made_after resize mode initial number answer stage opened new h =
      at_is (after_in resize mode initial number answer stage)
      (stage_at Opened (IsMadeLink Made) (made.Told Made) (made.New Made) (made.stable Made) (λ behind slots limit chunks. tt) resize mode initial
      number answer stage (λ slots limit is. told_in (link_of stage) slots)
      (λ n is. new_in (link_of stage) n (λ behind slots limit chunks e. new n behind slots limit chunks is e)) opened (is_at stage h))
    where
      told_in : (o : Option Link) (slots : ℕ) → Of (made.Told Made) o slots
      told_in None slots = tt
      told_in (Some link) slots = tt

      new_in : (o : Option Link) (n : ℕ) → ((behind slots limit chunks : ℕ) → o ≡ Some (links.Making behind slots limit chunks) → Made n chunks)
          → Of (made.New Made) o n
      new_in None n h = tt
      new_in (Some (links.Making behind slots limit chunks)) n h = h behind slots limit chunks refl
      new_in (Some other) n h = tt

      is_at : (stage : Stage) → IsMadeAt stage
          → At Opened (IsMadeLink Made) (made.Told Made) (made.New Made) (made.stable Made) (λ behind slots limit chunks. tt) stage
      is_at (Opening n) h = h
      is_at (Linking link) h = h
      is_at (Copying from goes) h = h
      is_at other h = tt

      at_is : (stage : Stage) → At Opened (IsMadeLink Made) (made.Told Made) (made.New Made) (made.stable Made) (λ behind slots limit chunks. tt)
          stage → IsMadeAt stage
      at_is (Opening n) h = h
      at_is (Linking link) h = h
      at_is (Copying from goes) h = h
      at_is other h = tt

  -- in other words
  pub made_at : (stage : Stage) → ((n : ℕ) → stage ≡ Opening n → Opened n)
      → ((behind n chunks : ℕ) → link_of stage ≡ Some (links.Linking behind n chunks) → Made n chunks) → IsMadeAt stage
  made_at (Opening n) opens links_it = opens n refl
  made_at (Linking link) opens links_it = made.made_is Made (Some link) links_it
  made_at (Copying from goes) opens links_it = made.made_is Made (link_in_copying goes) links_it
  made_at other opens links_it = tt

  pub opens_made : (stage : Stage) → IsMadeAt stage → (n : ℕ) → stage ≡ Opening n → Opened n
  opens_made stage h n e = subst IsMadeAt e h

  pub links_made : (stage : Stage) → IsMadeAt stage → (behind n chunks : ℕ) → link_of stage ≡ Some (links.Linking behind n chunks) → Made n chunks
  links_made (Linking link) h behind n chunks e = made.is_made Made (Some link) h behind n chunks e
  links_made (Copying from goes) h behind n chunks e = made.is_made Made (link_in_copying goes) h behind n chunks e
  links_made other h behind n chunks e = absurd cc

-- Once it has tried to link a table, it is about to open or link none.
module _ (behind table chunks : ℕ) (resize : Resize) (mode : ResizeMode) (initial number : ℕ) where
  abbrev IsNone : Stage → Type 0
  IsNone = IsMadeAt (λ n. ⊥) (λ n chunks. ⊥)

  over_none : (resize : Resize) → IsNone (over resize)
  over_none Chunk = tt
  over_none CopyAll = tt
  over_none (Reserve more) = tt

  exchanged_none : (stage : Stage) → link_of stage ≡ Some (links.Linking behind table chunks)
      → IsNone (after_in resize mode initial number (answers.Call Exchanged) stage)
  exchanged_none (Linking (links.Linking a t d)) e = tt
  exchanged_none (Copying from (Stepping aim (steps.Linking to (links.Linking a t d)))) e = tt
  exchanged_none (Copying from (Stepping aim (steps.Settling chunk (settles.Carrying marked (carries.Linking hash (links.Linking a t d)))))) e = tt
  exchanged_none (Copying from (Lone slot (settles.Carrying marked (carries.Linking hash (links.Linking a t d))))) e = tt
  exchanged_none other e = absurd cc

  found_none : (word : ℕ) (stage : Stage) → link_of stage ≡ Some (links.Linking behind table chunks)
      → IsNone (after_in resize mode initial number (answers.Call (Found_instead word)) stage)
  found_none word (Linking (links.Linking a t d)) e = tt
  found_none word (Copying from (Stepping aim (steps.Linking to (links.Linking a t d)))) e = tt
  found_none word (Copying from (Stepping aim (steps.Settling chunk (settles.Carrying marked (carries.Linking hash (links.Linking a t d)))))) e = tt
  found_none word (Copying from (Lone slot (settles.Carrying marked (carries.Linking hash (links.Linking a t d))))) e = tt
  found_none word other e = absurd cc

  pub tried_none : (stage : Stage) → link_of stage ≡ Some (links.Linking behind table chunks) → (told : Call_answer) → (told ≡ Exchanged)
      ⊎ ((word : ℕ) × (told ≡ Found_instead word)) → IsNone (after_in resize mode initial number (answers.Call told) stage)
  tried_none stage e told (inl is) = subst (λ (a : Call_answer). IsNone (after_in resize mode initial number (answers.Call a) stage)) (sym is)
      (exchanged_none stage e)
  tried_none stage e told (inr (word, is)) = subst (λ (a : Call_answer). IsNone (after_in resize mode initial number (answers.Call a) stage)) (sym is)
      (found_none word stage e)

-- It asks to link a table if, and only if, it is about to link it.
pub stage_links : (stage : Stage) (behind old new : ℕ) → asks_in stage ≡ Some (Exchange (Next behind) old new) → (chunks : ℕ)
    × (link_of stage ≡ Some (links.Linking behind new chunks))
stage_links (Linking link) behind old new e = link_asks link behind old new cc
stage_links (Copying from goes) behind old new e = copying_asks goes behind old new cc
stage_links other behind old new e = absurd cc

pub stage_linking : (stage : Stage) (behind table chunks : ℕ) → link_of stage ≡ Some (links.Linking behind table chunks)
    → (asks_in stage ≡ Some (Exchange (Next behind) 0 table)) × (kind_in stage ≡ Some kinds.Link)
stage_linking (Linking link) behind table chunks e = let is : link ≡ links.Linking behind table chunks = cc e in rw is (refl, refl)
stage_linking (Copying from goes) behind table chunks e =
    let both = machine_linking (record (machine.started Get 0 Blocking 0 0 None) { phase = phases.Copying goes }) behind table chunks e in
    let asked : copying_ask goes ≡ Exchange (Next behind) 0 table = (let same = both.0 in cc same) in
    (ap (λ (a : CopyAsk). Some a) asked, both.1)
stage_linking other behind table chunks e = absurd cc

fits : (one ask : CopyAsk) → Some one ≡ Some ask → IsFitCopyAsk one → IsFitCopyAsk ask
fits one ask e h = let is : one ≡ ask = cc e in subst IsFitCopyAsk is h

-- a table that it asks to be made has a size of tables
pub stage_fits : (stage : Stage) → IsValidIn stage → (ask : CopyAsk) → asks_in stage ≡ Some ask → IsFitCopyAsk ask
stage_fits (Making room) stands ask e = fits (MakeTable room.len room.limit 0) ask e stands
stage_fits (Linking link) stands ask e = fits (link_ask link) ask e (link_fits link stands)
stage_fits (Copying from goes) stands ask e = fits (copying_ask goes) ask e (copying_fits goes stands)
stage_fits AtRoot stands ask e = fits (Load Root) ask e tt
stage_fits (Opening n) stands ask e = fits (Exchange Root 0 n) ask e tt
stage_fits (Sizing root) stands ask e = fits (SizeOf root) ask e tt
stage_fits (Counting root len) stands ask e = fits Count ask e tt
stage_fits (Looking root len room) stands ask e = fits (Load (Next root)) ask e tt
stage_fits Done stands ask e = absurd cc
stage_fits (Ended_refused refused) stands ask e = absurd cc
