-- The causes with which a call that resizes the map fails.
use Rattle.std.proofs.Common.{◌≡◌, inl, inr, ⊎_elim, ℕ, ◌+◌, ◌==◌, ◌<◌, ◌^◌, Bool, true, false}
use Rattle.std.proofs.Common.{nat_le, cond, eqb-true, leb-false, max, Option, None, Some, List, []}
use Rattle.std.proofs.Common.{◌∷◌, refl, sym, ap, ◌∙◌, subst, arith}
use Rattle.std.proofs.lemmas.Bool.{cond_both}
use Rattle.papaya_words.specs.declared.refused.Refused.{Refused}
use Rattle.papaya_words.specs.declared.resize_mode.ResizeMode.{ResizeMode}
use Rattle.papaya_words.specs.declared.refused.Refused.TheVariants.{Capacity}
use Rattle.papaya_call.specs.declared.ask.Answer.TheVariants.{Word as Word_read, Exchanged}
use Rattle.papaya_call.specs.declared.ask.Answer.TheVariants.{Found as Found_instead, Size}
use Rattle.papaya_call.specs.declared.ask.Answer.TheVariants.{Made as Made_number}
use Rattle.papaya_call.specs.declared.ask.Answer.TheVariants.{Refused as Was_refused}
use Rattle.papaya_call.specs.declared.ask.At.TheVariants.{Root, Next}
use Rattle.papaya_call.specs.declared.call.Reply.TheVariants.{Refused as Reply_refused}
use Rattle.papaya_call.specs.declared.copy_ask.CopyAsk.TheVariants.{Load, SizeOf, Count, MakeTable}
use Rattle.papaya_call.specs.declared.copy.copying.Copied.{Copied}
use Rattle.papaya_call.specs.declared.copy.copying.Copied.TheVariants as copied_to
use Rattle.papaya_call.specs.declared.copy.copying.Copying.{Copying as Root_copying}
use Rattle.papaya_call.specs.declared.copy.link.Link.{Link}
use Rattle.papaya_call.specs.declared.copy.link.Linked.{Linked}
use Rattle.papaya_call.specs.declared.copy.link.Linked.TheVariants as linked_to
use Rattle.papaya_call.specs.Link.{follows, link_ask}
use Rattle.papaya_call.specs.declared.chain.ask.Answer.{Answer}
use Rattle.papaya_call.specs.declared.chain.ask.Answer.TheVariants as answers
use Rattle.papaya_call.specs.declared.chain.resizer.Resize.{Resize}
use Rattle.papaya_call.specs.declared.chain.resizer.Resize.TheVariants.{Chunk, CopyAll, Reserve}
use Rattle.papaya_call.specs.declared.chain.resizer.Resizer.{Resizer}
use Rattle.papaya_call.specs.declared.chain.resizer.TableSize.{TableSize}
use Rattle.papaya_call.specs.declared.chain.resizer.ResizerState.{ResizerState as Stage}
use Rattle.papaya_call.specs.declared.chain.resizer.ResizerState.TheVariants.{AtRoot, Making, Opening, Sizing}
use Rattle.papaya_call.specs.declared.chain.resizer.ResizerState.TheVariants.{Counting, Looking, Linking}
use Rattle.papaya_call.specs.declared.chain.resizer.ResizerState.TheVariants.{Copying, Done}
use Rattle.papaya_call.specs.declared.chain.resizer.ResizerState.TheVariants.{Refused as Ended_refused}
use Rattle.papaya_call.specs.ChainMachine.{copying_after, link_after}
use Rattle.papaya_call.specs.Resizer.{after_in, asks_in, at_count, at_last, at_next, at_root, copied, copies, judges, linked, makes, over, reply_in}
use Rattle.papaya_call.specs.TableSize.{entries_of, room_of, room_of_len}
use Rattle.papaya_words_law.specs.Code.{Coding}
use Rattle.papaya_words_law.specs.Exchange.{Setting, State, Exchange, Open}
use Rattle.papaya_call_law.proofs.ReliesLearn.{by_test}
use Rattle.papaya_call_law.specs.Copier.{link_in_copying}
use Rattle.papaya_call_law.specs.Resizers.{HasLink, IsTrueOfCount, IsResizeCause, IsTrueOfStage}
use Rattle.papaya_call_law.specs.ChainAnswers.{IsTrueOfCopy, LoadedPairs, Quiet}
use Rattle.papaya_call_law.proofs.CopyRefusals.{copying_asks, of_copied, of_link, of_linked}
use Rattle.papaya_call_law.proofs.LinkRefusals.{HasCountedTooMany, HasNotMade, copying_ends, link_why}

-- there is no room for `pairs` pairs if its table would be longer than a table may be
no_room_long : (pairs : ℕ) → room_of pairs ≡ None → 2 ^ 32 < entries_of pairs
no_room_long pairs none = by_length (nat_le (entries_of pairs) (2 ^ 32)) refl none
  where
    by_length : (fits : Bool) → nat_le (entries_of pairs) (2 ^ 32) ≡ fits → cond fits (Some (room_of_len (max (entries_of pairs) 8))) None ≡ None
        → 2 ^ 32 < entries_of pairs
    by_length true is e = absurd cc
    by_length false is e = leb-false (entries_of pairs) (2 ^ 32) is

-- a reply other than a failure
abbrev HasNone : Stage → Type 0
HasNone stage = (refused : Refused) → reply_in stage ≡ Some (Reply_refused refused) → ⊥

over_none : (resize : Resize) → HasNone (over resize)
over_none Chunk refused e = absurd cc
over_none CopyAll refused e = absurd cc
over_none (Reserve more) refused e = absurd cc

last_none : (mode : ResizeMode) (root len : ℕ) (room : Option TableSize) → HasNone (at_last mode root len room)
last_none mode root len None refused e = absurd cc
last_none mode root len (Some room) refused e = absurd cc

next_none : (mode : ResizeMode) (root len : ℕ) (room : Option TableSize) (next : ℕ) → HasNone (at_next mode root len room next)
next_none mode root len room next = cond_both (next == 0) (at_last mode root len room) (copies root) HasNone (λ _. last_none mode root len room)
    (λ _ refused e. absurd cc)

-- it fails when the making of its table does
linked_ends : (root : ℕ) (end : Linked) (refused : Refused) → reply_in (linked root end) ≡ Some (Reply_refused refused) → of_linked end ≡ Some refused
linked_ends root (linked_to.On link) refused e = absurd cc
linked_ends root (linked_to.Table table) refused e = absurd cc
linked_ends root (linked_to.Refused other) refused e = let same : other ≡ refused = cc e in ap Some same

copied_ends : (resize : Resize) (from : ℕ) (end : Copied) (refused : Refused) → reply_in (copied resize from end) ≡ Some (Reply_refused refused)
    → of_copied end ≡ Some refused
copied_ends resize from (copied_to.On copying) refused e = absurd cc
copied_ends resize from (copied_to.Search table) refused e = absurd (over_none resize refused e)
copied_ends resize from (copied_to.Root root) refused e = absurd (over_none resize refused e)
copied_ends resize from copied_to.Chunk refused e = absurd (over_none resize refused e)
copied_ends resize from (copied_to.Refused other) refused e = let same : other ≡ refused = cc e in ap Some same

module _ (resizer : Resizer) (answer : Answer) (refused : Refused) where
  -- the making of a table fails by an answer, or by a count
  made_why : (made : Link) → HasLink resizer.state made → asks_in resizer.state ≡ Some (link_ask made)
      → of_linked (link_after made resizer.mode resizer.initial answer) ≡ Some refused → IsResizeCause resizer answer refused
  made_why made stands says e =
      ⊎_elim
      (λ (a : HasNotMade made answer refused). inl (record { slots = a.slots; limit = a.limit; chunks = a.chunks; asks = says ∙ ap Some a.asks; is = a.is }))
      (λ (b : HasCountedTooMany made resizer.initial answer refused).
      inr (inl (record {
        capacity = b.capacity;
        behind = b.behind;
        unfit = b.unfit;
        slots = b.slots;
        copied = b.copied;
        link = subst (HasLink resizer.state) b.link stands;
        asks = says ∙ ap (λ l. Some (link_ask l)) b.link;
        count = b.count;
        is = b.is;
        long = b.long;
      })))
      (link_why made resizer.mode resizer.initial answer refused e)

  held_why : (from : ℕ) (copying : Root_copying) → resizer.state ≡ Copying from copying → (held : Option Link) → link_in_copying copying ≡ held
      → of_link (λ made. link_after made resizer.mode resizer.initial answer) held ≡ Some refused → IsResizeCause resizer answer refused
  held_why from copying stage None holds e = absurd cc
  held_why from copying stage (Some made) holds e = made_why made (subst (λ y. HasLink y made) (sym stage) holds)
      (ap asks_in stage ∙ ap Some (copying_asks copying made holds)) e

  -- no table has the requested room
  room_why : (more count : ℕ) → resizer.resize ≡ Reserve more → IsTrueOfCount answer count → room_of (count + more) ≡ None → Capacity ≡ refused
      → IsResizeCause resizer answer refused
  room_why more count wants counts none is = inr
      (inr (record { capacity = sym is; more = more; resize = wants; count = count; counts = counts; long = no_room_long (count + more) none }))

  -- so at the root
  makes_why : (more : ℕ) → resizer.resize ≡ Reserve more → answer ≡ answers.Call (Word_read 0) → (room : Option TableSize) → room_of more ≡ room
      → reply_in (makes room) ≡ Some (Reply_refused refused) → IsResizeCause resizer answer refused
  makes_why more wants told None none e = let is : Capacity ≡ refused = cc e in
      let all : 0 + more ≡ more = omega arith in
      room_why more 0 wants (inl (told, refl)) (ap room_of all ∙ none) is
  makes_why more wants told (Some room) some e = absurd cc

  root_why : (root : ℕ) → answer ≡ answers.Call (Word_read root) → (resize : Resize) → resizer.resize ≡ resize
      → reply_in (at_root resize root) ≡ Some (Reply_refused refused) → IsResizeCause resizer answer refused
  root_why root told Chunk wants = cond_both (root == 0) Done (Looking root 0 None)
      (λ y. reply_in y ≡ Some (Reply_refused refused) → IsResizeCause resizer answer refused) (λ _ e. absurd cc) (λ _ e. absurd cc)
  root_why root told CopyAll wants = cond_both (root == 0) Done (Looking root 0 None)
      (λ y. reply_in y ≡ Some (Reply_refused refused) → IsResizeCause resizer answer refused) (λ _ e. absurd cc) (λ _ e. absurd cc)
  root_why root told (Reserve more) wants =
      cond_both (root == 0) (makes (room_of more)) (Sizing root) (λ y. reply_in y ≡ Some (Reply_refused refused) → IsResizeCause resizer answer refused)
      (λ none e. makes_why more wants (told ∙ ap (λ r. answers.Call (Word_read r)) (eqb-true root 0 none)) (room_of more) refl e)
      (λ _ e. absurd cc)

  -- and at the count
  judges_why : (root len more count : ℕ) → resizer.resize ≡ Reserve more → answer ≡ answers.Count count → (room : Option TableSize)
      → room_of (count + more) ≡ room → reply_in (judges root len room) ≡ Some (Reply_refused refused) → IsResizeCause resizer answer refused
  judges_why root len more count wants told None none e = let is : Capacity ≡ refused = cc e in room_why more count wants (inr told) none is
  judges_why root len more count wants told (Some room) some e = cond_both (nat_le room.len len) Done (Looking root len (Some room))
      (λ y. reply_in y ≡ Some (Reply_refused refused) → IsResizeCause resizer answer refused) (λ _ e. absurd cc) (λ _ e. absurd cc) e

  count_why : (root len count : ℕ) → answer ≡ answers.Count count → (resize : Resize) → resizer.resize ≡ resize
      → reply_in (at_count resize root len count) ≡ Some (Reply_refused refused) → IsResizeCause resizer answer refused
  count_why root len count told Chunk wants e = absurd cc
  count_why root len count told CopyAll wants e = absurd cc
  count_why root len count told (Reserve more) wants e = judges_why root len more count wants told (room_of (count + more)) refl e

module _ {K P : Type 0} (g : Setting K P) (c : Coding K P) (s : State P) (resizer : Resizer) (loaded : LoadedPairs P) (answer : Answer)
    (es : List (Exchange P)) (loaded' : LoadedPairs P) where
  -- the next stage, after this answer
  abbrev Goes : Answer → Stage → Stage
  Goes = after_in resizer.resize resizer.mode resizer.initial resizer.number

  module _ (refused : Refused) where
    -- the cause with which it then fails
    abbrev Why : Stage → Type 0
    Why stage = resizer.state ≡ stage → reply_in (Goes answer stage) ≡ Some (Reply_refused refused) → IsResizeCause resizer answer refused

    by_answer : (stage : Stage) (answer' : Answer) → answer ≡ answer' → reply_in (Goes answer stage) ≡ Some (Reply_refused refused)
        → reply_in (Goes answer' stage) ≡ Some (Reply_refused refused)
    by_answer stage answer' is e = ap (λ a. reply_in (Goes a stage)) (sym is) ∙ e

    -- in each stage
    stage_why : (stage : Stage) → IsTrueOfStage g c s stage loaded answer es loaded' → Why stage
    stage_why AtRoot (ask, asks, told) at e =
        let same : ask ≡ Load Root = cc asks in
        let h = subst (λ a. IsTrueOfCopy g c s None 0 loaded a answer es loaded') same told in
        root_why resizer answer refused s.root h.0 resizer.resize refl (by_answer AtRoot (answers.Call (Word_read s.root)) h.0 e)
    stage_why (Making room) (ask, asks, told) at e =
        let same : ask ≡ MakeTable room.len room.limit 0 = cc asks in
        let h = subst (λ a. IsTrueOfCopy g c s None 0 loaded a answer es loaded') same told in
        ⊎_elim
        (λ (u : (other : Refused) × (answer ≡ answers.Call (Was_refused other))).
        let to = by_answer (Making room) (answers.Call (Was_refused u.0)) u.1 e in
        let is : u.0 ≡ refused = cc to in
        inl (record { slots = room.len; limit = room.limit; chunks = 0; asks = ap asks_in at; is = u.1 ∙ ap (λ r. answers.Call (Was_refused r)) is }))
        (λ (n : (n : ℕ) × (0 < n) × (answer ≡ answers.Call (Made_number n))).
        let to = by_answer (Making room) (answers.Call (Made_number n.0)) n.2 e in absurd (cc to))
        h.0
    stage_why (Opening table) told at e =
        by_test (s.root == 0)
        ((answer ≡ answers.Call Exchanged) × (es ≡ Open table ∷ []) × (loaded' ≡ loaded))
        ((answer ≡ answers.Call (Found_instead s.root)) × Quiet g c loaded es loaded')
        (IsResizeCause resizer answer refused) told
        (λ none (a, e', h). let to = by_answer (Opening table) (answers.Call Exchanged) a e in absurd (cc to))
        (λ some (a, h). let to = by_answer (Opening table) (answers.Call (Found_instead s.root)) a e in absurd (cc to))
    stage_why (Sizing root) (ask, asks, told) at e =
        let same : ask ≡ SizeOf root = cc asks in
        let h = subst (λ a. IsTrueOfCopy g c s None 0 loaded a answer es loaded') same told in
        let to = by_answer (Sizing root) (answers.Call (Size (g.size root) h.0.0)) h.0.2 e in absurd (cc to)
    stage_why (Counting root len) (ask, asks, told) at e =
        let same : ask ≡ Count = cc asks in
        let h = subst (λ a. IsTrueOfCopy g c s None 0 loaded a answer es loaded') same told in
        count_why resizer answer refused root len h.0.0 h.0.1 resizer.resize refl (by_answer (Counting root len) (answers.Count h.0.0) h.0.1 e)
    stage_why (Looking root len room) (ask, asks, told) at e =
        let same : ask ≡ Load (Next root) = cc asks in
        let h = subst (λ a. IsTrueOfCopy g c s None 0 loaded a answer es loaded') same told in
        absurd (next_none resizer.mode root len room (s.next root) refused (by_answer (Looking root len room) (answers.Call (Word_read (s.next root))) h.0 e))
    stage_why (Linking link) told at e = made_why resizer answer refused link (subst (λ y. HasLink y link) (sym at) refl) (ap asks_in at)
        (linked_ends (follows link) (link_after link resizer.mode resizer.initial answer) refused e)
    stage_why (Copying from copying) told at e =
        held_why resizer answer refused from copying at (link_in_copying copying) refl
        (copying_ends copying resizer.mode resizer.initial resizer.number answer refused
        (copied_ends resizer.resize from (copying_after copying resizer.mode resizer.initial resizer.number answer) refused e))
    stage_why Done told at e = let no = told.1 in absurd cc
    stage_why (Ended_refused other) told at e = let no = told.1 in absurd cc

  -- for the whole resizer
  pub resizer_why : IsTrueOfStage g c s resizer.state loaded answer es loaded' → (refused : Refused)
      → reply_in (Goes answer resizer.state) ≡ Some (Reply_refused refused) → IsResizeCause resizer answer refused
  resizer_why told refused e = stage_why refused resizer.state told refl e
