-- A call that resizes has read the length of the root, and when it ends there is the room that was
-- requested.
use Rattle.std.proofs.Common.{◌≡◌, ℕ, ◌+◌, ◌≤◌, ◌^◌, ◌==◌, nat_le, max, Bool, true, false, cond}
use Rattle.std.proofs.Common.{arith, leb-true, Option, None, Some, List, [], ◌∷◌, refl, ap, subst}
use Rattle.std.proofs.lemmas.Bool.{cond_both}
use Rattle.papaya_words.specs.declared.resize_mode.ResizeMode.{ResizeMode}
use Rattle.papaya_call.specs.declared.ask.Answer.{Answer as Call_answer}
use Rattle.papaya_call.specs.declared.ask.Answer.TheVariants.{Word as Word_read, Exchanged}
use Rattle.papaya_call.specs.declared.ask.Answer.TheVariants.{Found as Found_instead, Size}
use Rattle.papaya_call.specs.declared.ask.Answer.TheVariants.{Made as Made_number}
use Rattle.papaya_call.specs.declared.ask.Answer.TheVariants.{Refused as Was_refused}
use Rattle.papaya_call.specs.declared.copy.copying.Copied.{Copied}
use Rattle.papaya_call.specs.declared.copy.copying.Copied.TheVariants as copied_to
use Rattle.papaya_call.specs.declared.copy.link.Linked.{Linked}
use Rattle.papaya_call.specs.declared.copy.link.Linked.TheVariants as linked_to
use Rattle.papaya_call.specs.Link.{follows}
use Rattle.papaya_call.specs.declared.chain.ask.Answer.{Answer}
use Rattle.papaya_call.specs.declared.chain.ask.Answer.TheVariants as answers
use Rattle.papaya_call.specs.declared.chain.resizer.Resize.{Resize}
use Rattle.papaya_call.specs.declared.chain.resizer.Resize.TheVariants.{Chunk, CopyAll, Reserve}
use Rattle.papaya_call.specs.declared.chain.resizer.TableSize.{TableSize}
use Rattle.papaya_call.specs.declared.chain.resizer.ResizerState.{ResizerState as Stage}
use Rattle.papaya_call.specs.declared.chain.resizer.ResizerState.TheVariants.{AtRoot, Making, Opening, Sizing}
use Rattle.papaya_call.specs.declared.chain.resizer.ResizerState.TheVariants.{Counting, Looking, Linking}
use Rattle.papaya_call.specs.declared.chain.resizer.ResizerState.TheVariants.{Copying, Done}
use Rattle.papaya_call.specs.declared.chain.resizer.ResizerState.TheVariants.{Refused as Ended_refused}
use Rattle.papaya_call.specs.ChainMachine as machine
use Rattle.papaya_call.specs.Resizer.{after_in, at_count, at_last, at_next, at_root, begun_in}
use Rattle.papaya_call.specs.Resizer.{called, copied, copies, counted, judges, linked, makes, over}
use Rattle.papaya_call.specs.Resizer.{told_root}
use Rattle.papaya_call.specs.TableSize.{entries_of, room_of, room_of_len}
use Rattle.papaya_map_book.specs.declared.rule.own.CapacityCause.{CapacityCause}
use Rattle.papaya_map_book.specs.declared.rule.own.CapacityCause.TheVariants.{Sum}
use Rattle.papaya_map_book.specs.Logs.{Member}
use Rattle.papaya_map_change.specs.Helping.{IsGivenBy}
use Rattle.papaya_map_change.specs.Resizing.{IsRoomIn, IsWantedBy}

module _ (tables : List ℕ) (given : List CapacityCause) where
  abbrev In : Resize → Stage → Type 0
  In resize stage = IsRoomIn resize tables given stage

  makes_in : (resize : Resize) (room : Option TableSize) → In resize (makes room)
  makes_in resize None = tt
  makes_in resize (Some room) = tt

  root_in : (resize : Resize) (root : ℕ) → In resize (at_root resize root)
  root_in Chunk root = cond_both (root == 0) Done (Looking root 0 None) (In Chunk) (λ _. tt) (λ _. tt)
  root_in CopyAll root = cond_both (root == 0) Done (Looking root 0 None) (In CopyAll) (λ _. tt) (λ _. tt)
  root_in (Reserve more) root = cond_both (root == 0) (makes (room_of more)) (Sizing root) (In (Reserve more))
      (λ _. makes_in (Reserve more) (room_of more)) (λ _. tt)

  -- the length of a table that has room enough
  enough : (pairs : ℕ) (room : TableSize) → room_of pairs ≡ Some room → entries_of pairs ≤ room.len
  enough pairs room is = by_length (nat_le (entries_of pairs) (2 ^ 32)) is
    where
      by_length : (fits : Bool) → cond fits (Some (room_of_len (max (entries_of pairs) 8))) None ≡ Some room → entries_of pairs ≤ room.len
      by_length true is = let same : room_of_len (max (entries_of pairs) 8) ≡ room = cc is in subst (λ (r : TableSize). entries_of pairs ≤ r.len) same (omega arith)
      by_length false is = absurd (cc is)

  judges_in : (more root len count : ℕ) → given ≡ Sum count ∷ [] → Member len tables → (room : Option TableSize) → room_of (count + more) ≡ room
      → In (Reserve more) (judges root len room)
  judges_in more root len count given_is there None is = tt
  judges_in more root len count given_is there (Some room) is = cond_both (nat_le room.len len) Done (Looking root len (Some room)) (In (Reserve more))
      (λ fits. record {
        count = count;
        counted = given_is;
        len = len;
        there = there;
        room = let least = enough (count + more) room is in
            let up = leb-true room.len len fits in omega (arith, least, up);
      })
      (λ _. tt)

  count_in : (resize : Resize) (root len count : ℕ) → given ≡ Sum count ∷ [] → Member len tables → In resize (at_count resize root len count)
  count_in Chunk root len count given_is there = tt
  count_in CopyAll root len count given_is there = tt
  count_in (Reserve more) root len count given_is there = judges_in more root len count given_is there (room_of (count + more)) refl

  last_in : (resize : Resize) (mode : ResizeMode) (root len : ℕ) (room : Option TableSize) → IsWantedBy resize room → In resize (at_last mode root len room)
  last_in Chunk mode root len None h = tt
  last_in CopyAll mode root len None h = tt
  last_in (Reserve more) mode root len None h = absurd h
  last_in resize mode root len (Some room) h = tt

  next_in : (resize : Resize) (mode : ResizeMode) (root len : ℕ) (room : Option TableSize) (next : ℕ) → IsWantedBy resize room
      → In resize (at_next mode root len room next)
  next_in resize mode root len room next h = cond_both (next == 0) (at_last mode root len room) (copies root) (In resize)
      (λ _. last_in resize mode root len room h) (λ _. tt)

  over_in : (resize : Resize) → In resize (over resize)
  over_in Chunk = tt
  over_in CopyAll = tt
  over_in (Reserve more) = tt

  linked_in : (resize : Resize) (root : ℕ) (end : Linked) → In resize (linked root end)
  linked_in resize root (linked_to.On link) = tt
  linked_in resize root (linked_to.Table table) = tt
  linked_in resize root (linked_to.Refused refused) = tt

  copied_in : (resize : Resize) (from : ℕ) (end : Copied) → In resize (copied resize from end)
  copied_in resize from (copied_to.On goes) = tt
  copied_in resize from (copied_to.Search table) = over_in resize
  copied_in resize from (copied_to.Root root) = over_in resize
  copied_in resize from copied_to.Chunk = over_in resize
  copied_in resize from (copied_to.Refused refused) = tt

  -- after an answer, if nothing is linked or copied
  told_in : (resize : Resize) (mode : ResizeMode) (stage : Stage) (answer : Call_answer)
      → ((slots limit : ℕ) → answer ≡ Size slots limit → Member slots tables) → In resize stage → In resize (told_root resize mode stage answer)
  told_in resize mode AtRoot (Word_read root) size h = root_in resize root
  told_in resize mode (Making room) (Made_number n) size h = tt
  told_in resize mode (Making room) (Was_refused refused) size h = tt
  told_in resize mode (Opening n) Exchanged size h = tt
  told_in resize mode (Opening n) (Found_instead word) size h = tt
  told_in resize mode (Sizing root) (Size slots limit) size h = size slots limit refl
  told_in resize mode (Looking root len room) (Word_read next) size h = next_in resize mode root len room next h
  told_in resize mode stage answer size h = h

  counted_in : (resize : Resize) (stage : Stage) (count : ℕ) → given ≡ Sum count ∷ [] → In resize stage → In resize (counted resize stage count)
  counted_in resize (Counting root len) count given_is h = count_in resize root len count given_is h
  counted_in resize stage count given_is h = h

  called_in : (resize : Resize) (mode : ResizeMode) (stage : Stage) (answer : Answer) → IsGivenBy answer given
      → ((slots limit : ℕ) → answer ≡ answers.Call (Size slots limit) → Member slots tables) → In resize stage → In resize (called resize mode stage answer)
  called_in resize mode stage (answers.Call answer) by size h = told_in resize mode stage answer (λ slots limit e. size slots limit (ap answers.Call e)) h
  called_in resize mode stage (answers.Count count) by size h = counted_in resize stage count by h
  called_in resize mode stage (answers.Hash hash) by size h = h

  -- after any answer to a call that has not ended
  room_in : (resize : Resize) (mode : ResizeMode) (initial number : ℕ) (answer : Answer) (stage : Stage) → IsGivenBy answer given
      → ((slots limit : ℕ) → answer ≡ answers.Call (Size slots limit) → Member slots tables) → In resize stage
      → In resize (after_in resize mode initial number answer stage)
  room_in resize mode initial number answer (Linking link) by size h = linked_in resize (follows link) (machine.link_after link mode initial answer)
  room_in resize mode initial number answer (Copying from goes) by size h = copied_in resize from (machine.copying_after goes mode initial number answer)
  room_in resize mode initial number answer AtRoot by size h = called_in resize mode AtRoot answer by size h
  room_in resize mode initial number answer (Making room) by size h = called_in resize mode (Making room) answer by size h
  room_in resize mode initial number answer (Opening n) by size h = called_in resize mode (Opening n) answer by size h
  room_in resize mode initial number answer (Sizing root) by size h = called_in resize mode (Sizing root) answer by size h
  room_in resize mode initial number answer (Counting root len) by size h = called_in resize mode (Counting root len) answer by size h
  room_in resize mode initial number answer (Looking root len room) by size h = called_in resize mode (Looking root len room) answer by size h
  room_in resize mode initial number answer Done by size h = called_in resize mode Done answer by size h
  room_in resize mode initial number answer (Ended_refused refused) by size h = called_in resize mode (Ended_refused refused) answer by size h

-- the facts of a call that has not ended hold over more tables and more failures too
room_since : (resize : Resize) (tables tables' : List ℕ) (given given' : List CapacityCause) → ((len : ℕ) → Member len tables → Member len tables')
    → (stage : Stage) → (stage ≡ Done → ⊥) → IsRoomIn resize tables given stage → IsRoomIn resize tables' given' stage
room_since resize tables tables' given given' more (Counting root len) on h = more len h
room_since resize tables tables' given given' more (Looking root len room) on h = h
room_since resize tables tables' given given' more Done on h = absurd (on refl)
room_since resize tables tables' given given' more other on h = tt

pub room_after : (resize : Resize) (mode : ResizeMode) (initial number : ℕ) (answer : Answer) (tables tables' : List ℕ)
    (given given' : List CapacityCause) → ((len : ℕ) → Member len tables → Member len tables') → (stage : Stage) → (stage ≡ Done → ⊥)
    → IsGivenBy answer given' → ((slots limit : ℕ) → answer ≡ answers.Call (Size slots limit) → Member slots tables')
    → IsRoomIn resize tables given stage → IsRoomIn resize tables' given' (after_in resize mode initial number answer stage)
room_after resize mode initial number answer tables tables' given given' more stage on by size h = room_in tables' given' resize mode initial number
    answer stage by size (room_since resize tables tables' given given' more stage on h)

-- a call that begins has found nothing
pub room_begins : (resize : Resize) (tables : List ℕ) (given : List CapacityCause) → IsRoomIn resize tables given (begun_in resize)
room_begins Chunk tables given = tt
room_begins CopyAll tables given = tt
room_begins (Reserve more) tables given = tt
