-- A call that resizes the map, with no other caller beside it, comes to an end.
use Rattle.std.proofs.Common.{◌≡◌, ◌⊎◌, inl, inr, ⊎_elim, ℕ, ◌+◌, ◌*◌, ◌^◌, ◌<◌, ◌≤◌, ◌==◌, ◌||◌}
use Rattle.std.proofs.Common.{nat_le, Bool, true, false, cond, Option, None, Some, List, [], ◌∷◌}
use Rattle.std.proofs.Common.{refl, sym, ap, ◌∙◌, subst, arith, eq-eqb, eqb-true}
use Rattle.std.proofs.lemmas.Bool.{cond_both, eqb-false}
use Rattle.papaya_words.specs.declared.refused.Refused.{Refused}
use Rattle.papaya_words.specs.declared.resize_mode.ResizeMode.{ResizeMode}
use Rattle.papaya_words.specs.declared.resize_mode.ResizeMode.TheVariants.{Incremental, Blocking}
use Rattle.papaya_call.specs.declared.ask.Answer.TheVariants.{Word as Word_read, Exchanged}
use Rattle.papaya_call.specs.declared.ask.Answer.TheVariants.{Found as Found_instead, Size}
use Rattle.papaya_call.specs.declared.ask.Answer.TheVariants.{Made as Made_number}
use Rattle.papaya_call.specs.declared.ask.Answer.TheVariants.{Refused as Was_refused}
use Rattle.papaya_call.specs.declared.ask.At.{At}
use Rattle.papaya_call.specs.declared.ask.At.TheVariants as words_at
use Rattle.papaya_call.specs.declared.ask.StepKind.{StepKind}
use Rattle.papaya_call.specs.declared.copy_ask.CopyAsk.{CopyAsk}
use Rattle.papaya_call.specs.declared.copy_ask.CopyAsk.TheVariants.{Load, Exchange as Ask_exchange}
use Rattle.papaya_call.specs.declared.copy_ask.CopyAsk.TheVariants.{SizeOf, HashOf, SamePair, Count}
use Rattle.papaya_call.specs.declared.copy_ask.CopyAsk.TheVariants.{MakeTable, LoadHint, WriteHint}
use Rattle.papaya_call.specs.declared.copy.copying.Copied.{Copied}
use Rattle.papaya_call.specs.declared.copy.copying.Copied.TheVariants as copied_to
use Rattle.papaya_call.specs.declared.copy.copying.Copying.{Copying as Root_copying}
use Rattle.papaya_call.specs.declared.copy.copying.Copying.TheVariants as copyings
use Rattle.papaya_call.specs.declared.copy.link.Link.{Link}
use Rattle.papaya_call.specs.declared.copy.link.Linked.{Linked}
use Rattle.papaya_call.specs.declared.copy.link.Linked.TheVariants as linked_to
use Rattle.papaya_call.specs.declared.copy.step.Step.TheVariants as steps
use Rattle.papaya_call.specs.Copying.{copying_ask}
use Rattle.papaya_call.specs.Link.{follows, link_ask, link_kind}
use Rattle.papaya_call.specs.declared.chain.ask.Answer.{Answer}
use Rattle.papaya_call.specs.declared.chain.ask.Answer.TheVariants as answers
use Rattle.papaya_call.specs.declared.chain.resizer.Resize.{Resize}
use Rattle.papaya_call.specs.declared.chain.resizer.Resize.TheVariants.{Chunk, CopyAll, Reserve}
use Rattle.papaya_call.specs.declared.chain.resizer.TableSize.{TableSize}
use Rattle.papaya_call.specs.declared.chain.resizer.ResizerState.{ResizerState as Stage}
use Rattle.papaya_call.specs.declared.chain.resizer.ResizerState.TheVariants.{AtRoot, Making, Opening, Sizing}
use Rattle.papaya_call.specs.declared.chain.resizer.ResizerState.TheVariants.{Counting, Looking, Linking}
use Rattle.papaya_call.specs.declared.chain.resizer.ResizerState.TheVariants.{Copying, Done}
use Rattle.papaya_call.specs.declared.chain.resizer.ResizerState.TheVariants.{Refused as Ended_refused}
use Rattle.papaya_call.specs.ChainMachine.{copying_after, link_after}
use Rattle.papaya_call.specs.Resizer.{IsValidIn, after_in, asks_in, at_count, at_last, at_next}
use Rattle.papaya_call.specs.Resizer.{at_root, begun_in, copied, copies, judges, linked, makes}
use Rattle.papaya_call.specs.Resizer.{over}
use Rattle.papaya_call.specs.TableSize.{room_of}
use Rattle.papaya_words_law.specs.Code.{Coding, IsHashed}
use Rattle.papaya_words_law.specs.Exchange.{Setting, State, Exchange, Open, run}
use Rattle.papaya_words_law.specs.Invariant.{IsKeeping}
use Rattle.papaya_words_law.proofs.Later.{later_run}
use Rattle.papaya_call_law.specs.Copier.{HasWords, IsAimed, IsCopyAsked, ReliesCopying, ReliesLinked, last_after, told_last}
use Rattle.papaya_call_law.specs.Relies.{IsCutAs, IsModeOf}
use Rattle.papaya_call_law.specs.TrueAnswers.{word_of}
use Rattle.papaya_call_law.proofs.CopierCopies.{link_there}
use Rattle.papaya_call_law.proofs.CopierExchange.{link_may}
use Rattle.papaya_call_law.proofs.ReliesLearn.{by_test, more_than_none}
use Rattle.papaya_call_law.specs.Resizers.{IsTrueOfStage, ReliesStage, link_of}
use Rattle.papaya_call_law.specs.ChainAnswers.{IsTrueOfCopy, LoadedPairs, Quiet, told_of}
use Rattle.papaya_call_law.proofs.Making.{link_learns}
use Rattle.papaya_call_law.proofs.ResizerRelies.{stage_learns, told_of_ask}
use Rattle.papaya_call_alone.specs.Budget.{Budget, IsSpent, SpendsCopy}
use Rattle.papaya_call_alone.specs.Current.{IsCopiedRead, IsIncremental, IsLinkedRead}
use Rattle.papaya_call_alone.specs.Measure.{left_of_copied, left_of_copying, left_of_link, left_of_linked}
use Rattle.papaya_call_alone.specs.Prompt.{IsBounded, IsCopyPrompt}
use Rattle.papaya_call_alone.specs.Resizers.{IsBegunFrom, IsFrom, IsRoot, IsStageRead, left_of_from, left_of_stage}
use Rattle.papaya_call_alone.proofs.AsideRanks.{link_most}
use Rattle.papaya_call_alone.proofs.CopyEnds.{copying_ends}
use Rattle.papaya_call_alone.proofs.CopyLaw.{prompt}
use Rattle.papaya_call_alone.proofs.CopyLeads.{IsLined, LeadsAll, copy_leads, or_false, or_other}
use Rattle.papaya_call_alone.proofs.CopyPrompts.{told_prompt, words_bare}
use Rattle.papaya_call_alone.proofs.LinkEnds.{link_ends, link_puts}
use Rattle.papaya_call_alone.proofs.Measures.{copying_small}
use Rattle.papaya_call_alone.proofs.Telling.{IsSpending, spent_by, stays_at}

-- an upper bound of the steps of a copy of all that began at this root
cond_less : (same : Bool) (a b : ℕ) → a < b → cond same a (a + 2 ^ 121) < cond same b (b + 2 ^ 121)
cond_less true a b less = less
cond_less false a b less = omega (arith, less)

from_less : (from root a b : ℕ) → a < b → left_of_from from root a < left_of_from from root b
from_less from root a b less = cond_less (from == 0 || root == from) a b less

from_most : (from root left : ℕ) → left ≤ left_of_from from root left
from_most from root left = cond_both (from == 0 || root == from) left (left + 2 ^ 121) (λ y. left ≤ y) (λ _. omega arith) (λ _. omega arith)

from_small : (from root left : ℕ) → left < 2 ^ 104 → left_of_from from root left < 2 ^ 192
from_small from root left small = cond_both (from == 0 || root == from) left (left + 2 ^ 121) (λ y. y < 2 ^ 192) (λ _. omega (arith, small))
    (λ _. omega (arith, small))

from_same : (from root left : ℕ) → root ≡ from → left_of_from from root left ≡ left
from_same from root left same = cond_both (from == 0 || root == from) left (left + 2 ^ 121) (λ y. y ≡ left) (λ _. refl)
    (λ e. absurd (or_false (from == 0) (root == from) e (eq-eqb root from same)))

from_other : (from root left : ℕ) → (from ≡ 0 → ⊥) → (root ≡ from → ⊥) → left_of_from from root left ≡ left + 2 ^ 121
from_other from root left some other =
    cond_both (from == 0 || root == from) left (left + 2 ^ 121) (λ y. y ≡ left + 2 ^ 121)
    (λ e. absurd (other (eqb-true root from (or_other (from == 0) (root == from) e (λ none. some (eqb-true from 0 none))))))
    (λ _. refl)

-- a resizer within its tables has little left
pub stage_small : (root : ℕ) (stage : Stage) → IsValidIn stage → left_of_stage root stage < 2 ^ 192
stage_small root AtRoot h = omega arith
stage_small root (Making room) h = omega arith
stage_small root (Opening table) h = omega arith
stage_small root (Sizing table) h = omega arith
stage_small root (Counting table len) h = omega arith
stage_small root (Looking table len room) h = omega arith
stage_small root (Linking link) h = let l = link_most link in omega (arith, l)
stage_small root (Copying from copying) h = from_small from root (left_of_copying copying) (copying_small copying h)
stage_small root Done h = omega arith
stage_small root (Ended_refused refused) h = omega arith

module _ (root : ℕ) where
  -- less is left after the root was read
  makes_less : (room : Option TableSize) → left_of_stage root (makes room) < 2 ^ 120 + 6
  makes_less None = omega arith
  makes_less (Some room) = omega arith

  root_less : (at : ℕ) (resize : Resize) → left_of_stage root (at_root resize at) < 2 ^ 120 + 6
  root_less at Chunk = cond_both (at == 0) Done (Looking at 0 None) (λ y. left_of_stage root y < 2 ^ 120 + 6) (λ _. omega arith) (λ _. omega arith)
  root_less at CopyAll = cond_both (at == 0) Done (Looking at 0 None) (λ y. left_of_stage root y < 2 ^ 120 + 6) (λ _. omega arith) (λ _. omega arith)
  root_less at (Reserve more) = cond_both (at == 0) (makes (room_of more)) (Sizing at) (λ y. left_of_stage root y < 2 ^ 120 + 6)
      (λ _. makes_less (room_of more)) (λ _. omega arith)

  -- and after a count
  judges_less : (at len : ℕ) (room : Option TableSize) → left_of_stage root (judges at len room) < 2 ^ 120 + 4
  judges_less at len None = omega arith
  judges_less at len (Some room) = cond_both (nat_le room.len len) Done (Looking at len (Some room)) (λ y. left_of_stage root y < 2 ^ 120 + 4)
      (λ _. omega arith) (λ _. omega arith)

  count_less : (at len count : ℕ) (resize : Resize) → left_of_stage root (at_count resize at len count) < 2 ^ 120 + 4
  count_less at len count Chunk = omega arith
  count_less at len count CopyAll = omega arith
  count_less at len count (Reserve more) = judges_less at len (room_of (count + more))

  -- and after the next table was read
  last_less : (mode : ResizeMode) (at len : ℕ) (room : Option TableSize) → left_of_stage root (at_last mode at len room) < 2 ^ 120 + 3
  last_less mode at len None = omega arith
  last_less mode at len (Some room) = omega arith

  next_less : (mode : ResizeMode) (at len : ℕ) → root ≡ at → (room : Option TableSize) (next : ℕ) → left_of_stage root (at_next mode at len room next) < 2 ^ 120 + 3
  next_less mode at len same room next =
      cond_both (next == 0) (at_last mode at len room) (copies at) (λ y. left_of_stage root y < 2 ^ 120 + 3)
      (λ _. last_less mode at len room)
      (λ _. let s = from_same at root (2 * 2 ^ 102) same in omega (arith, s))

  -- and after the making of a table
  linked_less : (at left : ℕ) → left ≤ 5 → (end : Linked) → left_of_linked end < left → left_of_stage root (linked at end) < left
  linked_less at left few (linked_to.On link) less = less
  linked_less at left few (linked_to.Table table) less = absurd (omega (arith, few, less))
  linked_less at left few (linked_to.Refused refused) less = less

  -- a copy may be over if it was one of a chunk, or if the root is another one
  abbrev MayBeOver : Resize → (from : ℕ) → Type 0
  MayBeOver resize from = (resize ≡ Chunk) ⊎ ((from ≡ 0 → ⊥) × (root ≡ from → ⊥))

  over_less : (from left : ℕ) → 0 < left → (resize : Resize) → MayBeOver resize from → left_of_stage root (over resize) < left_of_from from root left
  over_less from left some Chunk may = let l = from_most from root left in omega (arith, some, l)
  over_less from left some CopyAll (inl is) = absurd cc
  over_less from left some CopyAll (inr other) = let l = from_other from root left other.0 other.1 in omega (arith, l)
  over_less from left some (Reserve more) (inl is) = absurd cc
  over_less from left some (Reserve more) (inr other) = let l = from_other from root left other.0 other.1 in omega (arith, l)

  abbrev MayEnd : Resize → (from : ℕ) → Copied → Type 0
  MayEnd resize from (copied_to.On copying) = Unit {0}
  MayEnd resize from (copied_to.Refused refused) = Unit {0}
  MayEnd resize from _ = MayBeOver resize from

  -- and after the copy
  copied_less : (resize : Resize) (from left : ℕ) (end : Copied) → left_of_copied end < left → MayEnd resize from end
      → left_of_stage root (copied resize from end) < left_of_from from root left
  copied_less resize from left (copied_to.On copying) less may = from_less from root (left_of_copying copying) left less
  copied_less resize from left (copied_to.Search table) less may = over_less from left less resize may
  copied_less resize from left (copied_to.Root table) less may = over_less from left less resize may
  copied_less resize from left copied_to.Chunk less may = over_less from left less resize may
  copied_less resize from left (copied_to.Refused refused) less may = let l = from_most from root left in omega (arith, less, l)

  -- a copy of a chunk may end
  chunk_ends : (resize : Resize) (from : ℕ) (end : Copied) → resize ≡ Chunk → MayEnd resize from end
  chunk_ends resize from (copied_to.On copying) is = tt
  chunk_ends resize from (copied_to.Search table) is = inl is
  chunk_ends resize from (copied_to.Root table) is = inl is
  chunk_ends resize from copied_to.Chunk is = inl is
  chunk_ends resize from (copied_to.Refused refused) is = tt

  -- and one of all, if its root is no longer the root
  all_ends : (words : At → ℕ) (mode : ResizeMode) (resize : Resize) (from : ℕ) (some : 0 < from) → words words_at.Root ≡ root
      → 0 < words (words_at.Next from) → (end : Copied) → LeadsAll words mode from some end → MayEnd resize from end
  all_ends words mode resize from some is next (copied_to.On copying) leads = tt
  all_ends words mode resize from some is next (copied_to.Search table) leads = inr
      (λ none. omega (arith, some, none), λ same. let none = leads (is ∙ same) in omega (arith, next, none))
  all_ends words mode resize from some is next (copied_to.Root table) leads = inr
      (λ none. omega (arith, some, none), λ same. let none = leads (is ∙ same) in omega (arith, next, none))
  all_ends words mode resize from some is next copied_to.Chunk leads = inr
      (λ none. omega (arith, some, none), λ same. let none = leads (is ∙ same) in omega (arith, next, none))
  all_ends words mode resize from some is next (copied_to.Refused refused) leads = tt

module _ (mode : ResizeMode) (words : At → ℕ) where
  -- one that begins has read nothing
  pub begun_read : (resize : Resize) → IsStageRead mode words resize (begun_in resize)
  begun_read Chunk = ((tt, tt), inl (refl, refl))
  begun_read CopyAll = tt
  begun_read (Reserve more) = tt

  -- the words that were read are unchanged after the root was read
  makes_read : (room : Option TableSize) → words words_at.Root ≡ 0 → (more : ℕ) → IsStageRead mode words (Reserve more) (makes room)
  makes_read None none more = tt
  makes_read (Some room) none more = none

  root_read : (root : ℕ) → words words_at.Root ≡ root → (resize : Resize) → IsStageRead mode words resize (at_root resize root)
  root_read root is Chunk = cond_both (root == 0) Done (Looking root 0 None) (IsStageRead mode words Chunk) (λ _. tt)
      (λ some. ((is, more_than_none root some), tt))
  root_read root is CopyAll = cond_both (root == 0) Done (Looking root 0 None) (IsStageRead mode words CopyAll) (λ _. tt)
      (λ some. ((is, more_than_none root some), tt))
  root_read root is (Reserve more) =
      cond_both (root == 0) (makes (room_of more)) (Sizing root) (IsStageRead mode words (Reserve more))
      (λ none. makes_read (room_of more) (is ∙ eqb-true root 0 none) more)
      (λ some. ((is, more_than_none root some), tt))

  -- and after a count
  judges_read : (root len : ℕ) → IsRoot words root → (room : Option TableSize) (more : ℕ) → IsStageRead mode words (Reserve more) (judges root len room)
  judges_read root len is None more = tt
  judges_read root len is (Some room) more = cond_both (nat_le room.len len) Done (Looking root len (Some room))
      (IsStageRead mode words (Reserve more)) (λ _. tt) (λ _. (is, tt))

  count_read : (root len count : ℕ) → IsRoot words root → (resize : Resize) → IsStageRead mode words resize (at_count resize root len count)
  count_read root len count is Chunk = tt
  count_read root len count is CopyAll = tt
  count_read root len count is (Reserve more) = judges_read root len is (room_of (count + more)) more

  -- and after the next table was read
  copies_read : (root : ℕ) → 0 < root → 0 < words (words_at.Next root) → (resize : Resize) → IsStageRead mode words resize (copies root)
  copies_read root some more resize = ((tt, tt), inr (record { some = some; aim = refl; next = more }))

  last_read : (root len : ℕ) → IsRoot words root → words (words_at.Next root) ≡ 0 → (resize : Resize) (room : Option TableSize)
      → IsStageRead mode words resize (at_last mode root len room)
  last_read root len is none resize None = tt
  last_read root len is none resize (Some room) = (is, none)

  next_read : (root len next : ℕ) → IsRoot words root → words (words_at.Next root) ≡ next → (resize : Resize) (room : Option TableSize)
      → IsStageRead mode words resize (at_next mode root len room next)
  next_read root len next is stands resize room =
      cond_both (next == 0) (at_last mode root len room) (copies root) (IsStageRead mode words resize)
      (λ none. last_read root len is (stands ∙ eqb-true next 0 none) resize room)
      (λ some. copies_read root is.1 (subst (λ n. 0 < n) (sym stands) (more_than_none next some)) resize)

  -- and after a copy
  over_read : (resize : Resize) → IsStageRead mode words resize (over resize)
  over_read Chunk = tt
  over_read CopyAll = tt
  over_read (Reserve more) = tt

  copied_read : (resize : Resize) (from : ℕ) (end : Copied) → IsCopiedRead mode words end
      → ((copying : Root_copying) → end ≡ copied_to.On copying → IsBegunFrom words resize from copying) → IsStageRead mode words resize (copied resize from end)
  copied_read resize from (copied_to.On copying) read begun = (read, begun copying refl)
  copied_read resize from (copied_to.Search table) read begun = over_read resize
  copied_read resize from (copied_to.Root table) read begun = over_read resize
  copied_read resize from copied_to.Chunk read begun = over_read resize
  copied_read resize from (copied_to.Refused refused) read begun = tt

  -- a copy of all continues as one
  still_all : (from : ℕ) (some : 0 < from) → 0 < words (words_at.Next from) → (resize : Resize) (end : Copied) → LeadsAll words mode from some end
      → (copying : Root_copying) → end ≡ copied_to.On copying → IsBegunFrom words resize from copying
  still_all from some more resize end leads copying is =
      let aim = subst (LeadsAll words mode from some) is leads in
      inr (record { some = some; aim = aim; next = more })

module _ {K P : Type 0} (g : Setting K P) (c : Coding K P) (s : State P) (kind : Option StepKind) (behind : ℕ) (loaded : LoadedPairs P) where
  -- nothing was exchanged if nothing was spent
  told_none : (ask : CopyAsk) (answer : Answer) (es : List (Exchange P)) (loaded' : LoadedPairs P)
      → IsTrueOfCopy g c s kind behind loaded ask answer es loaded' → (IsSpending answer → ⊥) → es ≡ []
  told_none (Load at) answer es loaded' told spends = told.1
  told_none (Ask_exchange at old new) answer es loaded' told spends =
      by_test (word_of g c s at == old)
      ((answer ≡ answers.Call Exchanged) × ((e : Exchange P) × IsCopyAsked c kind at new s loaded.kept e × (es ≡ e ∷ [])
      × (loaded' ≡ told_of (last_after e loaded.call.last) loaded)))
      ((answer ≡ answers.Call (Found_instead (word_of g c s at))) × (es ≡ []) × (loaded' ≡ told_of (told_last s at loaded.call.last) loaded))
      (es ≡ []) told
      (λ e h. absurd (spends (subst IsSpending (sym h.0) tt)))
      (λ e h. h.1)
  told_none (LoadHint t x) answer es loaded' told spends = told.1.0
  told_none (WriteHint t x hint) answer es loaded' told spends = told.1.0
  told_none (SizeOf t) answer es loaded' told spends = told.1.0
  told_none (HashOf n) answer es loaded' told spends = told.1
  told_none (SamePair i n) answer es loaded' told spends = told.1.0
  told_none Count answer es loaded' told spends = told.1.0
  told_none (MakeTable slots limit chunks) answer es loaded' told spends = told.1.0

module _ {K P : Type 0} (g : Setting K P) (c : Coding K P) (hashed : IsHashed g c) (s : State P) (m : K → Option P) (keeps : IsKeeping g s m)
    (bounded : IsBounded g s) (resize : Resize) (mode : ResizeMode) (initial number : ℕ) (loaded : LoadedPairs P) (moded : IsModeOf mode g.blocking)
    (cut : IsCutAs mode g.chunk_of) where
  -- the words
  abbrev words : At → ℕ
  words = word_of g c s

  abbrev words_after : List (Exchange P) → At → ℕ
  words_after es = word_of g c (run es s)

  -- the next state of the resizer, after this answer
  abbrev goes : Answer → Stage → Stage
  goes = after_in resize mode initial number

  -- without blocking, the table behind a copy's target is the root
  aimed_lined : (from behind : ℕ) → IsAimed g c s from behind → (how : ResizeMode) → IsModeOf how g.blocking → IsIncremental how → behind ≡ from
  aimed_lined from behind r (Incremental chunk) is inc = ⊎_elim (λ (e : behind ≡ from). e) (λ h. let b = h.0 in absurd (cc (b, is))) r.given_up
  aimed_lined from behind r Blocking is inc = absurd inc

  lined : (last kept : Option P) (copying : Root_copying) → ReliesCopying g c s last kept copying → IsLined mode copying
  lined last kept (copyings.Stepping aim steps.AtRoot) r = tt
  lined last kept (copyings.Stepping aim (steps.Aiming from behind)) r = aimed_lined from behind r.1 mode moded
  lined last kept (copyings.Stepping aim (steps.Linking from link)) r = tt
  lined last kept (copyings.Stepping aim (steps.Judging from to)) r = tt
  lined last kept (copyings.Stepping aim (steps.Sizing from to)) r = tt
  lined last kept (copyings.Stepping aim (steps.AtChunk cursor)) r = tt
  lined last kept (copyings.Stepping aim (steps.Settling chunk settle)) r = tt
  lined last kept (copyings.Stepping aim (steps.Advancing cursor)) r = tt
  lined last kept (copyings.Stepping aim (steps.Promoting from to)) r = tt
  lined last kept (copyings.Lone slot settle) r = tt

  -- the words determine the answer to the making of a table
  link_prompt : (link : Link) → ReliesStage g c s loaded (Linking link) → HasWords g (Some link)
      → (answer : Answer) (es : List (Exchange P)) (loaded' : LoadedPairs P)
      → IsTrueOfCopy g c s (link_kind link) (follows link) loaded (link_ask link) answer es loaded' → IsCopyPrompt words (link_ask link) answer (words_after es)
  link_prompt link r made answer es loaded' h =
      told_prompt g c hashed s m keeps bounded loaded (link_kind link) (follows link) (link_ask link)
      (link_there g c hashed s m keeps loaded.call.last loaded.kept link r)
      (link_may g c hashed s m keeps loaded.call.last loaded.kept link r made) answer es loaded' h

  module _ (before later : Budget) where
    -- the budget is spent, or less is left
    abbrev HasNeared : Stage → Answer → List (Exchange P) → Type 0
    HasNeared stage answer es = IsSpent before later ⊎ ((later ≡ before) × (left_of_stage (run es s).root (goes answer stage) < left_of_stage s.root stage))

    -- if nothing was exchanged
    quiet_near : (stage : Stage) (answer answer' : Answer) (es : List (Exchange P)) → answer ≡ answer' → es ≡ [] → later ≡ before
        → left_of_stage s.root (goes answer' stage) < left_of_stage s.root stage → HasNeared stage answer es
    quiet_near stage answer answer' es a none same less =
        inr (
          same,
          subst (λ l. left_of_stage (run l s).root (goes answer stage) < left_of_stage s.root stage) (sym none)
              (subst (λ y. left_of_stage s.root (goes y stage) < left_of_stage s.root stage) (sym a) less),
        )

    -- whether it spends, by the ask and the answer
    spends_as : (ask ask' : CopyAsk) (answer answer' : Answer) → ask ≡ ask' → answer ≡ answer' → SpendsCopy ask answer before later
        → SpendsCopy ask' answer' before later
    spends_as ask ask' answer answer' q a spends = subst (λ y. SpendsCopy ask' y before later) a (subst (λ y. SpendsCopy y answer before later) q spends)

    pub stage_nears : (stage : Stage) → ReliesStage g c s loaded stage → HasWords g (link_of stage) → IsStageRead mode words resize stage
        → (answer : Answer) (es : List (Exchange P)) (loaded' : LoadedPairs P) → IsTrueOfStage g c s stage loaded answer es loaded' → (ask : CopyAsk)
        → asks_in stage ≡ Some ask → SpendsCopy ask answer before later
        → HasNeared stage answer es
    stage_nears AtRoot r made read answer es loaded' told ask asks spends =
        let h = told_of_ask g c s loaded AtRoot (Load words_at.Root) refl answer es loaded' told in
        let is : ask ≡ Load words_at.Root = cc asks in
        quiet_near AtRoot answer (answers.Call (Word_read s.root)) es h.0 h.1
        (spends_as ask (Load words_at.Root) answer (answers.Call (Word_read s.root)) is h.0 spends) (root_less s.root s.root resize)
    stage_nears (Making room) r made read answer es loaded' told ask asks spends =
        let q : CopyAsk = MakeTable room.len room.limit 0 in
        let h = told_of_ask g c s loaded (Making room) q refl answer es loaded' told in
        let is : ask ≡ q = cc asks in
        ⊎_elim
        (λ (u : (refused : Refused) × (answer ≡ answers.Call (Was_refused refused))).
        quiet_near (Making room) answer (answers.Call (Was_refused u.0)) es u.1 h.1.0
        (spends_as ask q answer (answers.Call (Was_refused u.0)) is u.1 spends) (omega arith))
        (λ (n : (n : ℕ) × (0 < n) × (answer ≡ answers.Call (Made_number n))). inl (inl (spends_as ask q answer (answers.Call (Made_number n.0)) is n.2 spends)))
        h.0
    stage_nears (Opening table) r made read answer es loaded' told ask asks spends =
        let q : CopyAsk = Ask_exchange words_at.Root 0 table in
        let is : ask ≡ q = cc asks in
        by_test (s.root == 0)
        ((answer ≡ answers.Call Exchanged) × (es ≡ Open table ∷ []) × (loaded' ≡ loaded))
        ((answer ≡ answers.Call (Found_instead s.root)) × Quiet g c loaded es loaded')
        (HasNeared (Opening table) answer es) told
        (λ none (a, e, h). inl (inr (spends_as ask q answer (answers.Call Exchanged) is a spends)))
        (λ some (a, h). absurd (eqb-false s.root 0 some read))
    stage_nears (Sizing root) r made read answer es loaded' told ask asks spends =
        let h = told_of_ask g c s loaded (Sizing root) (SizeOf root) refl answer es loaded' told in
        let is : ask ≡ SizeOf root = cc asks in
        let a : Answer = answers.Call (Size (g.size root) h.0.0) in
        quiet_near (Sizing root) answer a es h.0.2 h.1.0 (spends_as ask (SizeOf root) answer a is h.0.2 spends) (omega arith)
    stage_nears (Counting root len) r made read answer es loaded' told ask asks spends =
        let h = told_of_ask g c s loaded (Counting root len) Count refl answer es loaded' told in
        let is : ask ≡ Count = cc asks in
        quiet_near (Counting root len) answer (answers.Count h.0.0) es h.0.1 h.1.0 (spends_as ask Count answer (answers.Count h.0.0) is h.0.1 spends)
        (count_less s.root root len h.0.0 resize)
    stage_nears (Looking root len room) r made read answer es loaded' told ask asks spends =
        let q : CopyAsk = Load (words_at.Next root) in
        let h = told_of_ask g c s loaded (Looking root len room) q refl answer es loaded' told in
        let is : ask ≡ q = cc asks in
        let a : Answer = answers.Call (Word_read (s.next root)) in
        quiet_near (Looking root len room) answer a es h.0 h.1 (spends_as ask q answer a is h.0 spends)
        (next_less s.root mode root len read.0.0 room (s.next root))
    stage_nears (Linking link) r made read answer es loaded' told ask asks spends =
        let h = told_of_ask g c s loaded (Linking link) (link_ask link) refl answer es loaded' told in
        let is : ask ≡ link_ask link = cc asks in
        let answers_so = link_prompt link r made answer es loaded' h in
        let nears = (link_ends mode words (words_after es) initial link answer read.1 answers_so).0 in
        ⊎_elim (λ (spent : IsSpent before later). inl spent)
        (λ (quiet : (later ≡ before) × (IsSpending answer → ⊥)).
        let less : left_of_linked (link_after link mode initial answer) < left_of_link link =
        ⊎_elim (λ (x : IsSpending answer). absurd (quiet.1 x)) (λ (l : left_of_linked (link_after link mode initial answer) < left_of_link link). l) nears in
        quiet_near (Linking link) answer answer es refl
        (told_none g c s (link_kind link) (follows link) loaded (link_ask link) answer es loaded' h quiet.1) quiet.0
        (linked_less s.root (follows link) (left_of_link link) (link_most link) (link_after link mode initial answer) less))
        (spent_by words (words_after es) before later (link_ask link) answer answers_so (spends_as ask (link_ask link) answer answer is refl spends))
    stage_nears (Copying from copying) (own, r) made read answer es loaded' told ask asks spends =
        let h = told_of_ask g c s loaded (Copying from copying) (copying_ask copying) refl answer es loaded' told in
        let is : ask ≡ copying_ask copying = cc asks in
        let answers_so = prompt g c hashed s m keeps bounded mode initial number loaded copying r made read.0 answer es loaded' h in
        let bare = words_bare g c (run es s) in
        let end : Copied = copying_after copying mode initial number answer in
        let nears = (copying_ends mode initial number words (words_after es) bare copying answer read.0 answers_so).0 in
        ⊎_elim (λ (spent : IsSpent before later). inl spent)
        (λ (quiet : (later ≡ before) × (IsSpending answer → ⊥)).
        let none = told_none g c s _ _ loaded (copying_ask copying) answer es loaded' h quiet.1 in
        let less : left_of_copied end < left_of_copying copying =
        ⊎_elim (λ (x : IsSpending answer). absurd (quiet.1 x)) (λ (l : left_of_copied end < left_of_copying copying). l) nears in
        let ends : MayEnd s.root resize from end =
        ⊎_elim (λ (chunk : (resize ≡ Chunk) × (from ≡ 0)). chunk_ends s.root resize from end chunk.0)
        (λ (all : IsFrom words from copying).
        all_ends s.root (words_after es) mode resize from all.some (ap (λ l. (run l s).root) none)
        (subst (λ l. 0 < (run l s).next from) (sym none) all.next) end
        (copy_leads mode initial number words (words_after es) bare from all.some copying answer all.aim
        (lined loaded.call.last loaded.kept copying r) read.0 answers_so))
        read.1
        in
        quiet_near (Copying from copying) answer answer es refl none quiet.0 (copied_less s.root resize from (left_of_copying copying) end less ends))
        (spent_by words (words_after es) before later (copying_ask copying) answer answers_so
        (spends_as ask (copying_ask copying) answer answer is refl spends))
    stage_nears Done r made read answer es loaded' told ask asks spends = absurd cc
    stage_nears (Ended_refused refused) r made read answer es loaded' told ask asks spends = absurd cc

  -- the words that were read are unchanged
  abbrev IsStill : Stage → Answer → List (Exchange P) → Type 0
  IsStill stage answer es = IsStageRead mode (words_after es) resize (goes answer stage)

  quiet_read : (stage : Stage) (answer answer' : Answer) (es : List (Exchange P)) → answer ≡ answer' → es ≡ []
      → IsStageRead mode words resize (goes answer' stage) → IsStill stage answer es
  quiet_read stage answer answer' es a none read = subst (IsStill stage answer) (sym none) (subst (λ y. IsStill stage y []) (sym a) read)

  linked_read : (es : List (Exchange P)) (loaded' : LoadedPairs P) (root : ℕ) → (run es s).root ≡ root → 0 < root → (end : Linked)
      → IsLinkedRead (words_after es) end → ReliesLinked g c (run es s) loaded'.call.last loaded'.kept root end
      → IsStageRead mode (words_after es) resize (linked root end)
  linked_read es loaded' root is some (linked_to.On link) read relies = ((is ∙ sym relies.0, subst (λ t. 0 < t) (sym relies.0) some), read)
  linked_read es loaded' root is some (linked_to.Table table) read relies = copies_read mode (words_after es) root some
      (subst (λ t. 0 < t) (sym relies.0) relies.1) resize
  linked_read es loaded' root is some (linked_to.Refused refused) read relies = tt

  pub stage_current : (stage : Stage) → ReliesStage g c s loaded stage → HasWords g (link_of stage) → IsStageRead mode words resize stage
      → (answer : Answer) (es : List (Exchange P)) (loaded' : LoadedPairs P) → IsTrueOfStage g c s stage loaded answer es loaded' → IsStill stage answer es
  stage_current AtRoot r made read answer es loaded' told =
      let h = told_of_ask g c s loaded AtRoot (Load words_at.Root) refl answer es loaded' told in
      quiet_read AtRoot answer (answers.Call (Word_read s.root)) es h.0 h.1 (root_read mode words s.root refl resize)
  stage_current (Making room) r made read answer es loaded' told =
      let h = told_of_ask g c s loaded (Making room) (MakeTable room.len room.limit 0) refl answer es loaded' told in
      ⊎_elim
      (λ (u : (refused : Refused) × (answer ≡ answers.Call (Was_refused refused))).
      quiet_read (Making room) answer (answers.Call (Was_refused u.0)) es u.1 h.1.0 tt)
      (λ (n : (n : ℕ) × (0 < n) × (answer ≡ answers.Call (Made_number n))). quiet_read (Making room) answer (answers.Call (Made_number n.0)) es n.2 h.1.0 read)
      h.0
  stage_current (Opening table) r made read answer es loaded' told =
      by_test (s.root == 0)
      ((answer ≡ answers.Call Exchanged) × (es ≡ Open table ∷ []) × (loaded' ≡ loaded))
      ((answer ≡ answers.Call (Found_instead s.root)) × Quiet g c loaded es loaded')
      (IsStill (Opening table) answer es) told
      (λ none (a, e, h). subst (λ y. IsStill (Opening table) y es) (sym a) tt)
      (λ some (a, h). subst (λ y. IsStill (Opening table) y es) (sym a) tt)
  stage_current (Sizing root) r made read answer es loaded' told =
      let h = told_of_ask g c s loaded (Sizing root) (SizeOf root) refl answer es loaded' told in
      quiet_read (Sizing root) answer (answers.Call (Size (g.size root) h.0.0)) es h.0.2 h.1.0 read
  stage_current (Counting root len) r made read answer es loaded' told =
      let h = told_of_ask g c s loaded (Counting root len) Count refl answer es loaded' told in
      quiet_read (Counting root len) answer (answers.Count h.0.0) es h.0.1 h.1.0 (count_read mode words root len h.0.0 read.0 resize)
  stage_current (Looking root len room) r made read answer es loaded' told =
      let h = told_of_ask g c s loaded (Looking root len room) (Load (words_at.Next root)) refl answer es loaded' told in
      quiet_read (Looking root len room) answer (answers.Call (Word_read (s.next root))) es h.0 h.1
      (next_read mode words root len (s.next root) read.0 refl resize room)
  stage_current (Linking link) r made read answer es loaded' told =
      let h = told_of_ask g c s loaded (Linking link) (link_ask link) refl answer es loaded' told in
      let answers_so = link_prompt link r made answer es loaded' h in
      let out = link_learns g c s m keeps mode cut initial loaded link r answer (λ _. made) es loaded' h in
      linked_read es loaded' (follows link) (stays_at words (words_after es) answer (link_ask link) answers_so words_at.Root
      (link_puts link words_at.Root tt) ∙ read.0.0) read.0.1 (link_after link mode initial answer)
      (link_ends mode words (words_after es) initial link answer read.1 answers_so).1 out.1
  stage_current (Copying from copying) (own, r) made read answer es loaded' told =
      let h = told_of_ask g c s loaded (Copying from copying) (copying_ask copying) refl answer es loaded' told in
      let answers_so = prompt g c hashed s m keeps bounded mode initial number loaded copying r made read.0 answer es loaded' h in
      let bare = words_bare g c (run es s) in
      let end : Copied = copying_after copying mode initial number answer in
      let may = (stage_learns g c hashed s m keeps resize mode initial number loaded moded cut (Copying from copying) (own, r) answer (λ _. made) es
      loaded' told).0 in
      copied_read mode (words_after es) resize from end (copying_ends mode initial number words (words_after es) bare copying answer read.0 answers_so).1
      (⊎_elim (λ (chunk : (resize ≡ Chunk) × (from ≡ 0)). λ (goes_on : Root_copying) (is : end ≡ copied_to.On goes_on). inl chunk)
      (λ (all : IsFrom words from copying).
      let same = (later_run g hashed.lawful es s may).next from all.next in
      still_all mode (words_after es) from all.some (subst (λ n. 0 < n) (sym same) all.next) resize end
      (copy_leads mode initial number words (words_after es) bare from all.some copying answer all.aim (lined loaded.call.last loaded.kept copying r)
      read.0 answers_so))
      read.1)
  stage_current Done r made read answer es loaded' told = let asked = told.1 in absurd cc
  stage_current (Ended_refused refused) r made read answer es loaded' told = let asked = told.1 in absurd cc
