-- The table that a resizer is about to open or to link was made, and this holds after each answer.
use Rattle.std.proofs.Common.{◌≡◌, ℕ, ◌+◌, ◌==◌, nat_le, Option, None, Some, refl, ap, subst}
use Rattle.std.proofs.lemmas.Bool.{cond_both}
use Rattle.papaya_words.specs.declared.resize_mode.ResizeMode.{ResizeMode}
use Rattle.papaya_call.specs.declared.ask.Answer.{Answer as Call_answer}
use Rattle.papaya_call.specs.declared.ask.Answer.TheVariants as told
use Rattle.papaya_call.specs.declared.copy_ask.CopyAsk.TheVariants.{MakeTable}
use Rattle.papaya_call.specs.declared.copy.copying.Copied.{Copied}
use Rattle.papaya_call.specs.declared.copy.copying.Copied.TheVariants as copied_to
use Rattle.papaya_call.specs.declared.copy.link.Link.{Link}
use Rattle.papaya_call.specs.declared.copy.link.Link.TheVariants as links
use Rattle.papaya_call.specs.declared.copy.link.Linked.{Linked}
use Rattle.papaya_call.specs.declared.copy.link.Linked.TheVariants as linked_to
use Rattle.papaya_call.specs.Link.{follows, link_ask}
use Rattle.papaya_call.specs.declared.chain.ask.Answer.{Answer}
use Rattle.papaya_call.specs.declared.chain.ask.Answer.TheVariants as answers
use Rattle.papaya_call.specs.declared.chain.resizer.Resize.{Resize}
use Rattle.papaya_call.specs.declared.chain.resizer.Resize.TheVariants as resizes
use Rattle.papaya_call.specs.declared.chain.resizer.TableSize.{TableSize}
use Rattle.papaya_call.specs.declared.chain.resizer.ResizerState.{ResizerState}
use Rattle.papaya_call.specs.declared.chain.resizer.ResizerState.TheVariants as stages
use Rattle.papaya_call.specs.ChainMachine as machine
use Rattle.papaya_call.specs.Resizer.{after_in, asks_in, at_count, at_last, at_next, at_root}
use Rattle.papaya_call.specs.Resizer.{called, copied, copies, counted, judges, linked, makes, over}
use Rattle.papaya_call.specs.Resizer.{told_root}
use Rattle.papaya_call.specs.TableSize.{room_of}
use Rattle.papaya_call_law.specs.Copier.{link_in_copying}
use Rattle.papaya_call_law.specs.Resizers.{HasLink}
use Rattle.papaya_call_law.proofs.LinkStates.{Copied_holds, In, Linked_in, Of, copying_after, link_after}
use Rattle.papaya_call_law.proofs.LinkMade.{IsMadeLink, New, Told, is_made, made_is, stable}
use Rattle.papaya_core_timeline.proofs.MadeTables.{copying_making}

-- `Made` states that a table was made, with this many words for chunks.
module _ (Made : (table chunks : ℕ) → Type 0) where
  -- the table that is about to be opened or linked was made
  abbrev pub IsMadeStage : ResizerState → Type 0
  IsMadeStage (stages.Opening table) = Made table 0
  IsMadeStage (stages.Linking link) = IsMadeLink Made link
  IsMadeStage (stages.Copying from copying) = In (IsMadeLink Made) (link_in_copying copying)
  IsMadeStage _ = Unit {0}

  -- in other words
  pub stage_is : (stage : ResizerState) → ((t : ℕ) → stage ≡ stages.Opening t → Made t 0)
      → ((behind t chunks : ℕ) → HasLink stage (links.Linking behind t chunks) → Made t chunks) → IsMadeStage stage
  stage_is (stages.Opening table) opens link = opens table refl
  stage_is (stages.Linking made) opens link = made_is Made (Some made)
      (λ behind t chunks e. link behind t chunks (let f : made ≡ links.Linking behind t chunks = cc in f))
  stage_is (stages.Copying from copying) opens link = made_is Made (link_in_copying copying) link
  stage_is stages.AtRoot opens link = tt
  stage_is (stages.Making room) opens link = tt
  stage_is (stages.Sizing root) opens link = tt
  stage_is (stages.Counting root len) opens link = tt
  stage_is (stages.Looking root len room) opens link = tt
  stage_is stages.Done opens link = tt
  stage_is (stages.Refused refused) opens link = tt

  pub stage_opens : (stage : ResizerState) → IsMadeStage stage → (t : ℕ) → stage ≡ stages.Opening t → Made t 0
  stage_opens stage h t e = subst IsMadeStage e h

  pub stage_links : (stage : ResizerState) → IsMadeStage stage → (behind t chunks : ℕ) → HasLink stage (links.Linking behind t chunks) → Made t chunks
  stage_links (stages.Linking made) h behind t chunks e = subst (IsMadeLink Made) e h
  stage_links (stages.Copying from copying) h behind t chunks e = is_made Made (link_in_copying copying) h behind t chunks e
  stage_links (stages.Opening table) h behind t chunks e = absurd e
  stage_links stages.AtRoot h behind t chunks e = absurd e
  stage_links (stages.Making room) h behind t chunks e = absurd e
  stage_links (stages.Sizing root) h behind t chunks e = absurd e
  stage_links (stages.Counting root len) h behind t chunks e = absurd e
  stage_links (stages.Looking root len room) h behind t chunks e = absurd e
  stage_links stages.Done h behind t chunks e = absurd e
  stage_links (stages.Refused refused) h behind t chunks e = absurd e

  -- the next stage while nothing is linked or copied
  makes_made : (room : Option TableSize) → IsMadeStage (makes room)
  makes_made None = tt
  makes_made (Some room) = tt

  judges_made : (root len : ℕ) (room : Option TableSize) → IsMadeStage (judges root len room)
  judges_made root len None = tt
  judges_made root len (Some room) = cond_both (nat_le room.len len) stages.Done (stages.Looking root len (Some room)) IsMadeStage (λ _. tt) (λ _. tt)

  last_made : (mode : ResizeMode) (root len : ℕ) (room : Option TableSize) → IsMadeStage (at_last mode root len room)
  last_made mode root len None = tt
  last_made mode root len (Some room) = tt

  next_made : (mode : ResizeMode) (root len : ℕ) (room : Option TableSize) (next : ℕ) → IsMadeStage (at_next mode root len room next)
  next_made mode root len room next = cond_both (next == 0) (at_last mode root len room) (copies root) IsMadeStage (λ _. last_made mode root len room) (λ _. tt)

  root_made : (resize : Resize) (root : ℕ) → IsMadeStage (at_root resize root)
  root_made (resizes.Reserve more) root = cond_both (root == 0) (makes (room_of more)) (stages.Sizing root) IsMadeStage
      (λ _. makes_made (room_of more)) (λ _. tt)
  root_made resizes.Chunk root = cond_both (root == 0) stages.Done (stages.Looking root 0 None) IsMadeStage (λ _. tt) (λ _. tt)
  root_made resizes.CopyAll root = cond_both (root == 0) stages.Done (stages.Looking root 0 None) IsMadeStage (λ _. tt) (λ _. tt)

  count_made : (resize : Resize) (root len count : ℕ) → IsMadeStage (at_count resize root len count)
  count_made (resizes.Reserve more) root len count = judges_made root len (room_of (count + more))
  count_made resizes.Chunk root len count = tt
  count_made resizes.CopyAll root len count = tt

  told_made : (resize : Resize) (mode : ResizeMode) (stage : ResizerState) (a : Call_answer)
      → ((n slots limit chunks : ℕ) → a ≡ told.Made n → asks_in stage ≡ Some (MakeTable slots limit chunks) → Made n chunks) → IsMadeStage stage
      → IsMadeStage (told_root resize mode stage a)
  told_made resize mode stages.AtRoot (told.Word root) new h = root_made resize root
  told_made resize mode (stages.Making room) (told.Made table) new h = new table room.len room.limit 0 refl refl
  told_made resize mode (stages.Making room) (told.Refused refused) new h = tt
  told_made resize mode (stages.Opening table) told.Exchanged new h = tt
  told_made resize mode (stages.Opening table) (told.Found word) new h = tt
  told_made resize mode (stages.Sizing root) (told.Size slots limit) new h = tt
  told_made resize mode (stages.Looking root len room) (told.Word next) new h = next_made mode root len room next
  told_made resize mode stage a new h = h

  counted_made : (resize : Resize) (stage : ResizerState) (count : ℕ) → IsMadeStage stage → IsMadeStage (counted resize stage count)
  counted_made resize (stages.Counting root len) count h = count_made resize root len count
  counted_made resize stage count h = h

  called_made : (resize : Resize) (mode : ResizeMode) (stage : ResizerState) (a : Answer)
      → ((n slots limit chunks : ℕ) → a ≡ answers.Call (told.Made n) → asks_in stage ≡ Some (MakeTable slots limit chunks) → Made n chunks)
      → IsMadeStage stage → IsMadeStage (called resize mode stage a)
  called_made resize mode stage (answers.Call a) new h = told_made resize mode stage a
      (λ n slots limit chunks e. new n slots limit chunks (ap answers.Call e)) h
  called_made resize mode stage (answers.Count count) new h = counted_made resize stage count h
  called_made resize mode stage (answers.Hash hash) new h = h

  -- and after it
  linked_made : (root : ℕ) (end : Linked) → Linked_in (IsMadeLink Made) end → IsMadeStage (linked root end)
  linked_made root (linked_to.On link) h = h
  linked_made root (linked_to.Table table) h = tt
  linked_made root (linked_to.Refused refused) h = tt

  over_made : (resize : Resize) → IsMadeStage (over resize)
  over_made resizes.Chunk = tt
  over_made resizes.CopyAll = tt
  over_made (resizes.Reserve more) = tt

  copied_made : (resize : Resize) (from : ℕ) (end : Copied) → Copied_holds (IsMadeLink Made) (Told Made) (New Made) (stable Made) end
      → IsMadeStage (copied resize from end)
  copied_made resize from (copied_to.On copying) h = h
  copied_made resize from (copied_to.Refused refused) h = tt
  copied_made resize from (copied_to.Search table) h = over_made resize
  copied_made resize from (copied_to.Root root) h = over_made resize
  copied_made resize from copied_to.Chunk h = over_made resize

  -- there is nothing to prove about an answer to a link
  told_of_link : (o : Option Link) (slots : ℕ) → Of (Told Made) o slots
  told_of_link None slots = tt
  told_of_link (Some link) slots = tt

  new_of_link : (o : Option Link) (n : ℕ) → ((behind slots limit chunks : ℕ) → o ≡ Some (links.Making behind slots limit chunks) → Made n chunks)
      → Of (New Made) o n
  new_of_link None n made = tt
  new_of_link (Some (links.Making behind slots limit chunks)) n made = made behind slots limit chunks refl
  new_of_link (Some other) n made = tt

  pub stage_made : (resize : Resize) (mode : ResizeMode) (initial number : ℕ) (a : Answer) (stage : ResizerState)
      → ((n slots limit chunks : ℕ) → a ≡ answers.Call (told.Made n) → asks_in stage ≡ Some (MakeTable slots limit chunks) → Made n chunks)
      → IsMadeStage stage → IsMadeStage (after_in resize mode initial number a stage)
  stage_made resize mode initial number a (stages.Linking link) new h =
      linked_made (follows link) (machine.link_after link mode initial a)
      (link_after (IsMadeLink Made) (Told Made) (New Made) (stable Made) link mode initial a (λ slots limit e. told_of_link (Some link) slots)
      (λ n e. new_of_link (Some link) n (λ behind slots limit chunks making.
      new n slots limit chunks e (let is : link ≡ links.Making behind slots limit chunks = cc making in ap (λ y. Some (link_ask y)) is))) h)
  stage_made resize mode initial number a (stages.Copying from copying) new h =
      copied_made resize from (machine.copying_after copying mode initial number a)
      (copying_after (IsMadeLink Made) (Told Made) (New Made) (stable Made) copying mode initial number a
      (λ slots limit e. told_of_link (link_in_copying copying) slots)
      (λ n e. new_of_link (link_in_copying copying) n
      (λ behind slots limit chunks making. new n slots limit chunks e (ap (λ y. Some y) (copying_making copying behind slots limit chunks making)))) h)
  stage_made resize mode initial number a stages.AtRoot new h = called_made resize mode stages.AtRoot a new h
  stage_made resize mode initial number a (stages.Making room) new h = called_made resize mode (stages.Making room) a new h
  stage_made resize mode initial number a (stages.Opening table) new h = called_made resize mode (stages.Opening table) a new h
  stage_made resize mode initial number a (stages.Sizing root) new h = called_made resize mode (stages.Sizing root) a new h
  stage_made resize mode initial number a (stages.Counting root len) new h = called_made resize mode (stages.Counting root len) a new h
  stage_made resize mode initial number a (stages.Looking root len room) new h = called_made resize mode (stages.Looking root len room) a new h
  stage_made resize mode initial number a stages.Done new h = called_made resize mode stages.Done a new h
  stage_made resize mode initial number a (stages.Refused refused) new h = called_made resize mode (stages.Refused refused) a new h
