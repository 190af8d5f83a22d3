-- When a call that resizes the map has ended, its purpose is fulfilled.
use Rattle.std.proofs.Common.{◌≡◌, inl, inr, ⊎_elim, ℕ, ◌+◌, ◌<◌, ◌≤◌, ◌^◌, ◌==◌, nat_le, max, Bool}
use Rattle.std.proofs.Common.{true, false, cond, Option, None, Some, List, [], ◌∷◌, refl, sym, ap}
use Rattle.std.proofs.Common.{◌∙◌, subst, arith, eqb-true, leb-true}
use Rattle.std.proofs.lemmas.Bool.{cond_both}
use Rattle.papaya_words.specs.declared.refused.Refused.{Refused}
use Rattle.papaya_words.specs.declared.resize_mode.ResizeMode.{ResizeMode}
use Rattle.papaya_call.specs.declared.ask.Answer.TheVariants.{Word as Word_read, Exchanged}
use Rattle.papaya_call.specs.declared.ask.Answer.TheVariants.{Found as Found_instead, Size}
use Rattle.papaya_call.specs.declared.ask.Answer.TheVariants.{Made as Made_number}
use Rattle.papaya_call.specs.declared.ask.Answer.TheVariants.{Refused as Was_refused}
use Rattle.papaya_call.specs.declared.ask.At.{At}
use Rattle.papaya_call.specs.declared.ask.At.TheVariants as words_at
use Rattle.papaya_call.specs.declared.call.Reply.TheVariants.{Done as Reply_done}
use Rattle.papaya_call.specs.declared.copy_ask.CopyAsk.TheVariants.{Load, SizeOf, Count, MakeTable}
use Rattle.papaya_call.specs.declared.copy.copying.Copied.{Copied}
use Rattle.papaya_call.specs.declared.copy.copying.Copied.TheVariants as copied_to
use Rattle.papaya_call.specs.declared.copy.link.Linked.{Linked}
use Rattle.papaya_call.specs.declared.copy.link.Linked.TheVariants as linked_to
use Rattle.papaya_call.specs.Link.{follows}
use Rattle.papaya_call.specs.declared.chain.ask.Answer.{Answer}
use Rattle.papaya_call.specs.declared.chain.ask.Answer.TheVariants as answers
use Rattle.papaya_call.specs.declared.chain.resizer.Resize.{Resize}
use Rattle.papaya_call.specs.declared.chain.resizer.Resize.TheVariants.{Chunk, CopyAll, Reserve}
use Rattle.papaya_call.specs.declared.chain.resizer.TableSize.{TableSize}
use Rattle.papaya_call.specs.declared.chain.resizer.ResizerState.{ResizerState as Stage}
use Rattle.papaya_call.specs.declared.chain.resizer.ResizerState.TheVariants.{AtRoot, Making, Opening, Sizing}
use Rattle.papaya_call.specs.declared.chain.resizer.ResizerState.TheVariants.{Counting, Looking, Linking}
use Rattle.papaya_call.specs.declared.chain.resizer.ResizerState.TheVariants.{Copying, Done}
use Rattle.papaya_call.specs.declared.chain.resizer.ResizerState.TheVariants.{Refused as Ended_refused}
use Rattle.papaya_call.specs.ChainMachine.{copying_after, link_after}
use Rattle.papaya_call.specs.Resizer.{after_in, at_last, at_next, copied, copies, judges, linked, makes, reply_in}
use Rattle.papaya_call.specs.TableSize.{entries_of, room_of, room_of_len}
use Rattle.papaya_words_law.specs.Code.{Coding}
use Rattle.papaya_words_law.specs.Exchange.{Setting, State, Exchange, Open, run}
use Rattle.papaya_call_law.specs.TrueAnswers.{word_of}
use Rattle.papaya_call_law.proofs.ReliesLearn.{by_test}
use Rattle.papaya_call_law.specs.Resizers.{IsTrueOfStage, ReliesStage}
use Rattle.papaya_call_law.specs.ChainAnswers.{LoadedPairs, Quiet}
use Rattle.papaya_call_law.proofs.ResizerRelies.{told_of_ask}
use Rattle.papaya_call_alone.specs.Resizers.{HasResized, HasRoom, IsStageRead, IsWhole}

-- it replies that it is done
abbrev IsDone : Stage → Type 0
IsDone stage = reply_in stage ≡ Some Reply_done

-- it does not when it makes a table, or copies more than a chunk
makes_open : (room : Option TableSize) → IsDone (makes room) → ⊥
makes_open None done = absurd cc
makes_open (Some room) done = absurd cc

linked_open : (root : ℕ) (end : Linked) → IsDone (linked root end) → ⊥
linked_open root (linked_to.On link) done = absurd cc
linked_open root (linked_to.Table table) done = absurd cc
linked_open root (linked_to.Refused refused) done = absurd cc

copied_open : (resize : Resize) → (resize ≡ Chunk → ⊥) → (from : ℕ) (end : Copied) → IsDone (copied resize from end) → ⊥
copied_open Chunk other from end done = other refl
copied_open CopyAll other from (copied_to.On copying) done = absurd cc
copied_open CopyAll other from (copied_to.Search table) done = absurd cc
copied_open CopyAll other from (copied_to.Root table) done = absurd cc
copied_open CopyAll other from copied_to.Chunk done = absurd cc
copied_open CopyAll other from (copied_to.Refused refused) done = absurd cc
copied_open (Reserve more) other from (copied_to.On copying) done = absurd cc
copied_open (Reserve more) other from (copied_to.Search table) done = absurd cc
copied_open (Reserve more) other from (copied_to.Root table) done = absurd cc
copied_open (Reserve more) other from copied_to.Chunk done = absurd cc
copied_open (Reserve more) other from (copied_to.Refused refused) done = absurd cc

-- the size of a room is as many entries as are requested, or more
room_long : (pairs : ℕ) (room : TableSize) → room_of pairs ≡ Some room → entries_of pairs ≤ room.len
room_long pairs room is = by_length (nat_le (entries_of pairs) (2 ^ 32)) is
  where
    by_length : (fits : Bool) → cond fits (Some (room_of_len (max (entries_of pairs) 8))) None ≡ Some room → entries_of pairs ≤ room.len
    by_length true e =
        let same : room_of_len (max (entries_of pairs) 8) ≡ room = cc e in
        subst (λ (r : TableSize). entries_of pairs ≤ r.len) same (omega arith)
    by_length false e = absurd cc

module _ {K P : Type 0} (g : Setting K P) (c : Coding K P) (s : State P) (loaded : LoadedPairs P) (mode : ResizeMode) (initial number : ℕ)
    (answer : Answer) (es : List (Exchange P)) (loaded' : LoadedPairs P) where
  abbrev words : At → ℕ
  words = word_of g c s

  abbrev later : At → ℕ
  later = word_of g c (run es s)

  -- it is done, by the kind of answer
  by_answer : (resize : Resize) (stage : Stage) (answer' : Answer) → answer ≡ answer' → IsDone (after_in resize mode initial number answer stage)
      → IsDone (after_in resize mode initial number answer' stage)
  by_answer resize stage answer' is done = subst (λ a. IsDone (after_in resize mode initial number a stage)) is done

  -- if nothing was exchanged the words are the same
  same_word : es ≡ [] → (at : At) → later at ≡ words at
  same_word none at = ap (λ l. word_of g c (run l s) at) none

  -- the first table is made or opened: more is to come
  made_open : (resize : Resize) (room : TableSize) → IsTrueOfStage g c s (Making room) loaded answer es loaded'
      → IsDone (after_in resize mode initial number answer (Making room)) → ⊥
  made_open resize room told done =
      let h = told_of_ask g c s loaded (Making room) (MakeTable room.len room.limit 0) refl answer es loaded' told in
      ⊎_elim
      (λ (u : (refused : Refused) × (answer ≡ answers.Call (Was_refused refused))).
      let to = by_answer resize (Making room) (answers.Call (Was_refused u.0)) u.1 done in absurd (cc to))
      (λ (n : (n : ℕ) × (0 < n) × (answer ≡ answers.Call (Made_number n))).
      let to = by_answer resize (Making room) (answers.Call (Made_number n.0)) n.2 done in absurd (cc to))
      h.0

  opened_open : (resize : Resize) (table : ℕ) → IsTrueOfStage g c s (Opening table) loaded answer es loaded'
      → IsDone (after_in resize mode initial number answer (Opening table)) → ⊥
  opened_open resize table told done =
      by_test (s.root == 0)
      ((answer ≡ answers.Call Exchanged) × (es ≡ Open table ∷ []) × (loaded' ≡ loaded))
      ((answer ≡ answers.Call (Found_instead s.root)) × Quiet g c loaded es loaded')
      ⊥ told
      (λ none (a, e, h). let to = by_answer resize (Opening table) (answers.Call Exchanged) a done in absurd (cc to))
      (λ some (a, h). let to = by_answer resize (Opening table) (answers.Call (Found_instead s.root)) a done in absurd (cc to))

  sized_open : (resize : Resize) (root : ℕ) → IsTrueOfStage g c s (Sizing root) loaded answer es loaded'
      → IsDone (after_in resize mode initial number answer (Sizing root)) → ⊥
  sized_open resize root told done =
      let h = told_of_ask g c s loaded (Sizing root) (SizeOf root) refl answer es loaded' told in
      let to = by_answer resize (Sizing root) (answers.Call (Size (g.size root) h.0.0)) h.0.2 done in absurd (cc to)

  -- all is copied: there is no root, or it has no next table
  all_ends : (stage : Stage) → IsStageRead mode words CopyAll stage → IsTrueOfStage g c s stage loaded answer es loaded'
      → IsDone (after_in CopyAll mode initial number answer stage) → IsWhole later
  all_ends AtRoot read told done =
      let h = told_of_ask g c s loaded AtRoot (Load words_at.Root) refl answer es loaded' told in
      cond_both (s.root == 0) Done (Looking s.root 0 None) (λ y. IsDone y → IsWhole later)
      (λ none d. inl (same_word h.1 words_at.Root ∙ eqb-true s.root 0 none))
      (λ some d. absurd cc)
      (by_answer CopyAll AtRoot (answers.Call (Word_read s.root)) h.0 done)
  all_ends (Making room) read told done = absurd (made_open CopyAll room told done)
  all_ends (Opening table) read told done = absurd (opened_open CopyAll table told done)
  all_ends (Sizing root) read told done = absurd read.1
  all_ends (Counting root len) read told done = absurd read.1
  all_ends (Looking root len room) read told done =
      let h = told_of_ask g c s loaded (Looking root len room) (Load (words_at.Next root)) refl answer es loaded' told in
      cond_both (s.next root == 0) (at_last mode root len room) (copies root) (λ y. IsDone y → IsWhole later)
      (λ none d. inr (ap (λ t. later (words_at.Next t)) (same_word h.1 words_at.Root ∙ read.0.0) ∙ same_word h.1 (words_at.Next root)
      ∙ eqb-true (s.next root) 0 none))
      (λ some d. absurd cc)
      (by_answer CopyAll (Looking root len room) (answers.Call (Word_read (s.next root))) h.0 done)
  all_ends (Linking link) read told done = absurd (linked_open (follows link) (link_after link mode initial answer) done)
  all_ends (Copying from copying) read told done = absurd (copied_open CopyAll (λ e. cc e) from (copying_after copying mode initial number answer) done)
  all_ends Done read told done = let asked = told.1 in absurd cc
  all_ends (Ended_refused refused) read told done = let asked = told.1 in absurd cc

  -- there is room
  module _ (more : ℕ) where
    room_ends : (root len count : ℕ) → answer ≡ answers.Count count → es ≡ [] → words words_at.Root ≡ root → 0 < root → len ≡ g.size root
        → (room : Option TableSize) → room_of (count + more) ≡ room → IsDone (judges root len room) → HasRoom later g.size answer more
    room_ends root len count told none is some size None found done = absurd cc
    room_ends root len count told none is some size (Some room) found done =
        cond_both (nat_le room.len len) Done (Looking root len (Some room)) (λ y. IsDone y → HasRoom later g.size answer more)
        (λ fits d.
        let at : later words_at.Root ≡ root = same_word none words_at.Root ∙ is in
        let long = room_long (count + more) room found in
        let le : room.len ≤ len = leb-true room.len len fits in
        (count, told, subst (λ t. 0 < t) (sym at) some, subst (λ t. entries_of (count + more) ≤ g.size t) (sym at) (omega (arith, long, le, size))))
        (λ few d. absurd cc) done

    next_open : (root len : ℕ) (room : TableSize) (next : ℕ) → IsDone (at_next mode root len (Some room) next) → ⊥
    next_open root len room next = cond_both (next == 0) (at_last mode root len (Some room)) (copies root) (λ y. IsDone y → ⊥) (λ _ d. absurd cc)
        (λ _ d. absurd cc)

    reserve_ends : (stage : Stage) → ReliesStage g c s loaded stage → IsStageRead mode words (Reserve more) stage
        → IsTrueOfStage g c s stage loaded answer es loaded' → IsDone (after_in (Reserve more) mode initial number answer stage) → HasRoom later g.size answer more
    reserve_ends AtRoot r read told done =
        let h = told_of_ask g c s loaded AtRoot (Load words_at.Root) refl answer es loaded' told in
        absurd
        (cond_both (s.root == 0) (makes (room_of more)) (Sizing s.root) (λ y. IsDone y → ⊥) (λ none d. makes_open (room_of more) d) (λ some d. absurd cc)
        (by_answer (Reserve more) AtRoot (answers.Call (Word_read s.root)) h.0 done))
    reserve_ends (Making room) r read told done = absurd (made_open (Reserve more) room told done)
    reserve_ends (Opening table) r read told done = absurd (opened_open (Reserve more) table told done)
    reserve_ends (Sizing root) r read told done = absurd (sized_open (Reserve more) root told done)
    reserve_ends (Counting root len) r read told done =
        let h = told_of_ask g c s loaded (Counting root len) Count refl answer es loaded' told in
        room_ends root len h.0.0 h.0.1 h.1.0 read.0.0 read.0.1 r.2 (room_of (h.0.0 + more)) refl
        (by_answer (Reserve more) (Counting root len) (answers.Count h.0.0) h.0.1 done)
    reserve_ends (Looking root len None) r read told done = absurd read.1
    reserve_ends (Looking root len (Some room)) r read told done =
        let h = told_of_ask g c s loaded (Looking root len (Some room)) (Load (words_at.Next root)) refl answer es loaded' told in
        absurd (next_open root len room (s.next root)
        (by_answer (Reserve more) (Looking root len (Some room)) (answers.Call (Word_read (s.next root))) h.0 done))
    reserve_ends (Linking link) r read told done = absurd (linked_open (follows link) (link_after link mode initial answer) done)
    reserve_ends (Copying from copying) r read told done = absurd
        (copied_open (Reserve more) (λ e. cc e) from (copying_after copying mode initial number answer) done)
    reserve_ends Done r read told done = let asked = told.1 in absurd cc
    reserve_ends (Ended_refused refused) r read told done = let asked = told.1 in absurd cc

  -- the request is fulfilled
  pub stage_ends : (resize : Resize) (stage : Stage) → ReliesStage g c s loaded stage → IsStageRead mode words resize stage
      → IsTrueOfStage g c s stage loaded answer es loaded' → IsDone (after_in resize mode initial number answer stage) → HasResized later g.size answer resize
  stage_ends Chunk stage r read told done = tt
  stage_ends CopyAll stage r read told done = all_ends stage read told done
  stage_ends (Reserve more) stage r read told done = reserve_ends more stage r read told done
