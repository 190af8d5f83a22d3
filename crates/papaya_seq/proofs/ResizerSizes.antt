-- A resizer computes the length of a next table from the length of the table that it is to follow.
use Rattle.std.proofs.Common.{◌≡◌, ℕ, ◌+◌, ◌==◌, nat_le, Bool, Option, None, Some, ap, subst}
use Rattle.std.proofs.lemmas.Bool.{cond_both}
use Rattle.papaya_words.specs.declared.resize_mode.ResizeMode.{ResizeMode}
use Rattle.papaya_call.specs.declared.ask.Answer.{Answer as Call_answer}
use Rattle.papaya_call.specs.declared.ask.Answer.TheVariants as told
use Rattle.papaya_call.specs.declared.copy.copying.Copied.{Copied}
use Rattle.papaya_call.specs.declared.copy.copying.Copied.TheVariants as copied_to
use Rattle.papaya_call.specs.declared.copy.link.Link.{Link}
use Rattle.papaya_call.specs.declared.copy.link.Link.TheVariants as links
use Rattle.papaya_call.specs.declared.copy.link.Linked.{Linked}
use Rattle.papaya_call.specs.declared.copy.link.Linked.TheVariants as linked_to
use Rattle.papaya_call.specs.Link.{follows}
use Rattle.papaya_call.specs.declared.chain.ask.Answer.{Answer}
use Rattle.papaya_call.specs.declared.chain.ask.Answer.TheVariants as answers
use Rattle.papaya_call.specs.declared.chain.resizer.Resize.{Resize}
use Rattle.papaya_call.specs.declared.chain.resizer.Resize.TheVariants as resizes
use Rattle.papaya_call.specs.declared.chain.resizer.TableSize.{TableSize}
use Rattle.papaya_call.specs.declared.chain.resizer.ResizerState.{ResizerState}
use Rattle.papaya_call.specs.declared.chain.resizer.ResizerState.TheVariants as stages
use Rattle.papaya_call.specs.ChainMachine as machine
use Rattle.papaya_call.specs.Resizer.{after_in, at_count, at_last, at_next, at_root, called, copied, copies, counted, judges, linked, makes, over, told_root}
use Rattle.papaya_call.specs.TableSize.{room_of}
use Rattle.papaya_call_law.specs.Copier.{link_in_copying}
use Rattle.papaya_call_law.specs.Resizers.{HasLink}
use Rattle.papaya_call_law.proofs.LinkStates.{Copied_holds, In, Linked_in, Of, copying_after, link_after}
use Rattle.papaya_seq.proofs.Sizes.{IsSizedLink, New, Told, is_sized, sized_beside, stable}

-- `Sized` relates the number of a table and the number of its slots.
module _ (Sized : ℕ → ℕ → Type 0) where
  -- the table that is to get a next one has the slots by which that is counted
  abbrev pub IsSizedStage : ResizerState → Type 0
  IsSizedStage (stages.Linking link) = IsSizedLink Sized link
  IsSizedStage (stages.Copying from copying) = In (IsSizedLink Sized) (link_in_copying copying)
  IsSizedStage _ = Unit {0}

  -- in other words
  pub stage_has : (stage : ResizerState) → IsSizedStage stage → (behind slots copied : ℕ) (unfit : Bool)
      → HasLink stage (links.Counting behind unfit slots copied) → Sized behind slots
  stage_has (stages.Linking link) h behind slots copied unfit e = subst (IsSizedLink Sized) e h
  stage_has (stages.Copying from copying) h behind slots copied unfit e = is_sized Sized (link_in_copying copying) h behind slots copied unfit e
  stage_has _ h behind slots copied unfit e = absurd e

  -- the next stage while nothing is linked or copied
  makes_sized : (room : Option TableSize) → IsSizedStage (makes room)
  makes_sized None = tt
  makes_sized (Some room) = tt

  judges_sized : (root len : ℕ) (room : Option TableSize) → IsSizedStage (judges root len room)
  judges_sized root len None = tt
  judges_sized root len (Some room) = cond_both (nat_le room.len len) stages.Done (stages.Looking root len (Some room)) IsSizedStage (λ _. tt) (λ _. tt)

  last_sized : (mode : ResizeMode) (root len : ℕ) (room : Option TableSize) → IsSizedStage (at_last mode root len room)
  last_sized mode root len None = tt
  last_sized mode root len (Some room) = tt

  next_sized : (mode : ResizeMode) (root len : ℕ) (room : Option TableSize) (next : ℕ) → IsSizedStage (at_next mode root len room next)
  next_sized mode root len room next = cond_both (next == 0) (at_last mode root len room) (copies root) IsSizedStage
      (λ _. last_sized mode root len room) (λ _. tt)

  root_sized : (resize : Resize) (root : ℕ) → IsSizedStage (at_root resize root)
  root_sized (resizes.Reserve more) root = cond_both (root == 0) (makes (room_of more)) (stages.Sizing root) IsSizedStage
      (λ _. makes_sized (room_of more)) (λ _. tt)
  root_sized resizes.Chunk root = cond_both (root == 0) stages.Done (stages.Looking root 0 None) IsSizedStage (λ _. tt) (λ _. tt)
  root_sized resizes.CopyAll root = cond_both (root == 0) stages.Done (stages.Looking root 0 None) IsSizedStage (λ _. tt) (λ _. tt)

  count_sized : (resize : Resize) (root len count : ℕ) → IsSizedStage (at_count resize root len count)
  count_sized (resizes.Reserve more) root len count = judges_sized root len (room_of (count + more))
  count_sized resizes.Chunk root len count = tt
  count_sized resizes.CopyAll root len count = tt

  told_sized : (resize : Resize) (mode : ResizeMode) (stage : ResizerState) (a : Call_answer) → IsSizedStage stage → IsSizedStage (told_root resize mode stage a)
  told_sized resize mode stages.AtRoot (told.Word root) h = root_sized resize root
  told_sized resize mode (stages.Making room) (told.Made table) h = tt
  told_sized resize mode (stages.Making room) (told.Refused refused) h = tt
  told_sized resize mode (stages.Opening table) told.Exchanged h = tt
  told_sized resize mode (stages.Opening table) (told.Found word) h = tt
  told_sized resize mode (stages.Sizing root) (told.Size slots limit) h = tt
  told_sized resize mode (stages.Looking root len room) (told.Word next) h = next_sized mode root len room next
  told_sized resize mode stage a h = h

  counted_sized : (resize : Resize) (stage : ResizerState) (count : ℕ) → IsSizedStage stage → IsSizedStage (counted resize stage count)
  counted_sized resize (stages.Counting root len) count h = count_sized resize root len count
  counted_sized resize stage count h = h

  called_sized : (resize : Resize) (mode : ResizeMode) (stage : ResizerState) (a : Answer) → IsSizedStage stage → IsSizedStage (called resize mode stage a)
  called_sized resize mode stage (answers.Call a) h = told_sized resize mode stage a h
  called_sized resize mode stage (answers.Count count) h = counted_sized resize stage count h
  called_sized resize mode stage (answers.Hash hash) h = h

  -- and after it
  linked_sized : (root : ℕ) (end : Linked) → Linked_in (IsSizedLink Sized) end → IsSizedStage (linked root end)
  linked_sized root (linked_to.On link) h = h
  linked_sized root (linked_to.Table table) h = tt
  linked_sized root (linked_to.Refused refused) h = tt

  over_sized : (resize : Resize) → IsSizedStage (over resize)
  over_sized resizes.Chunk = tt
  over_sized resizes.CopyAll = tt
  over_sized (resizes.Reserve more) = tt

  copied_sized : (resize : Resize) (from : ℕ) (end : Copied) → Copied_holds (IsSizedLink Sized) (Told Sized) (New Sized) (stable Sized) end
      → IsSizedStage (copied resize from end)
  copied_sized resize from (copied_to.On copying) h = h
  copied_sized resize from (copied_to.Refused refused) h = tt
  copied_sized resize from (copied_to.Search table) h = over_sized resize
  copied_sized resize from (copied_to.Root root) h = over_sized resize
  copied_sized resize from copied_to.Chunk h = over_sized resize

  -- the size in an answer to a link
  told_in : (o : Option Link) (slots : ℕ) → ((behind copied : ℕ) (unfit : Bool) → o ≡ Some (links.Sizing behind copied unfit) → Sized behind slots)
      → Of (Told Sized) o slots
  told_in None slots told = tt
  told_in (Some made) slots told = λ behind copied unfit e. told behind copied unfit (ap (λ y. Some y) e)

  new_in : (o : Option Link) (n : ℕ) → Of (New Sized) o n
  new_in None n = tt
  new_in (Some made) n = tt

  -- if it computes a length from the slots of a table after an answer, it did before, or the answer
  -- has their number
  pub stage_sized : (resize : Resize) (mode : ResizeMode) (initial number : ℕ) (a : Answer) (stage : ResizerState)
      → ((slots limit : ℕ) → a ≡ answers.Call (told.Size slots limit) → (behind copied : ℕ) (unfit : Bool)
      → HasLink stage (links.Sizing behind copied unfit) → Sized behind slots) → IsSizedStage stage → IsSizedStage (after_in resize mode initial number a stage)
  stage_sized resize mode initial number a (stages.Linking link) size h =
      linked_sized (follows link) (machine.link_after link mode initial a)
      (link_after (IsSizedLink Sized) (Told Sized) (New Sized) (stable Sized) link mode initial a
      (λ slots limit e. told_in (Some link) slots
      (λ behind copied unfit is. size slots limit e behind copied unfit (let f : link ≡ links.Sizing behind copied unfit = cc is in f)))
      (λ n e. new_in (Some link) n) h)
  stage_sized resize mode initial number a (stages.Copying from copying) size h =
      copied_sized resize from (machine.copying_after copying mode initial number a)
      (copying_after (IsSizedLink Sized) (Told Sized) (New Sized) (stable Sized) copying mode initial number a
      (λ slots limit e. told_in (link_in_copying copying) slots (size slots limit e)) (λ n e. new_in (link_in_copying copying) n) h)
  stage_sized resize mode initial number a stages.AtRoot size h = called_sized resize mode stages.AtRoot a h
  stage_sized resize mode initial number a (stages.Making room) size h = called_sized resize mode (stages.Making room) a h
  stage_sized resize mode initial number a (stages.Opening table) size h = called_sized resize mode (stages.Opening table) a h
  stage_sized resize mode initial number a (stages.Sizing root) size h = called_sized resize mode (stages.Sizing root) a h
  stage_sized resize mode initial number a (stages.Counting root len) size h = called_sized resize mode (stages.Counting root len) a h
  stage_sized resize mode initial number a (stages.Looking root len room) size h = called_sized resize mode (stages.Looking root len room) a h
  stage_sized resize mode initial number a stages.Done size h = called_sized resize mode stages.Done a h
  stage_sized resize mode initial number a (stages.Refused refused) size h = called_sized resize mode (stages.Refused refused) a h

-- the same for a longer list of tables
pub stage_beside : (Sized Sized' : ℕ → ℕ → Type 0) → ((n slots : ℕ) → Sized n slots → Sized' n slots) → (stage : ResizerState) → IsSizedStage Sized stage
    → IsSizedStage Sized' stage
stage_beside Sized Sized' more (stages.Linking link) h = sized_beside Sized Sized' more (Some link) h
stage_beside Sized Sized' more (stages.Copying from copying) h = sized_beside Sized Sized' more (link_in_copying copying) h
stage_beside Sized Sized' more other h = tt
