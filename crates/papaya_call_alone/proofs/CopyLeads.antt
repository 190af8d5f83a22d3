-- The states of a copy of all: it continues to copy all, until its root is no longer the root, or
-- has no next table.
use Rattle.std.proofs.Common.{◌≡◌, cond, ℕ, ◌<◌, ◌==◌, ◌||◌, nat_lt, not, Bool, true, false, refl, sym, ap, ◌∙◌, subst, arith, eq-eqb, eqb-true}
use Rattle.std.proofs.lemmas.Bool.{cond_both}
use Rattle.papaya_words.specs.declared.resize_mode.ResizeMode.{ResizeMode}
use Rattle.papaya_words.specs.declared.resize_mode.ResizeMode.TheVariants.{Incremental, Blocking}
use Rattle.papaya_call.specs.declared.ask.At.{At}
use Rattle.papaya_call.specs.declared.ask.At.TheVariants as words_at
use Rattle.papaya_call.specs.declared.ask.Answer.TheVariants.{Exchanged}
use Rattle.papaya_call.specs.declared.copy.copying.Aim.TheVariants as aims
use Rattle.papaya_call.specs.declared.copy.copying.Copied.{Copied}
use Rattle.papaya_call.specs.declared.copy.copying.Copied.TheVariants as copied
use Rattle.papaya_call.specs.declared.copy.copying.Copying.{Copying}
use Rattle.papaya_call.specs.declared.copy.copying.Copying.TheVariants as copyings
use Rattle.papaya_call.specs.declared.copy.link.Link.TheVariants as links
use Rattle.papaya_call.specs.declared.copy.link.Linked.{Linked}
use Rattle.papaya_call.specs.declared.copy.link.Linked.TheVariants as linked
use Rattle.papaya_call.specs.declared.copy.settle.Settle.TheVariants as settles
use Rattle.papaya_call.specs.declared.copy.settle.Settled.{Settled}
use Rattle.papaya_call.specs.declared.copy.settle.Settled.TheVariants as settled
use Rattle.papaya_call.specs.declared.copy.step.Chunk.{Chunk}
use Rattle.papaya_call.specs.declared.copy.step.Cursor.{Cursor}
use Rattle.papaya_call.specs.declared.copy.step.Step.{Step}
use Rattle.papaya_call.specs.declared.copy.step.Step.TheVariants as steps
use Rattle.papaya_call.specs.declared.copy.step.Stepped.{Stepped}
use Rattle.papaya_call.specs.declared.copy.step.Stepped.TheVariants as stepped
use Rattle.papaya_call.specs.Copying.{all_of, copying_ask, leads}
use Rattle.papaya_call.specs.Step.{aimed, chunk_at, chunk_read, linked_to, next_cursor, next_slot, settled_to, slot_of, step_ask}
use Rattle.papaya_call.specs.declared.chain.ask.Answer.{Answer}
use Rattle.papaya_call.specs.declared.chain.ask.Answer.TheVariants as answers
use Rattle.papaya_call.specs.ChainMachine.{copying_after, link_after}
use Rattle.papaya_call_law.specs.Alone.{IsBare, IsPut}
use Rattle.papaya_call_law.specs.Copier.{aim_of}
use Rattle.papaya_call_law.proofs.AloneSteps.{exchange_done}
use Rattle.papaya_call_alone.specs.Current.{IsCopyingRead, IsIncremental, IsStepRead, IsSteppedRead}
use Rattle.papaya_call_alone.specs.Prompt.{IsCopyPrompt}
use Rattle.papaya_call_alone.proofs.Afters.{copying_steps, settle_after, step_after, step_links, step_settles}
use Rattle.papaya_call_alone.proofs.StepEnds.{step_ends}

-- without blocking, the table behind a copy's target is the root
abbrev pub IsLinedStep : ResizeMode → Step → Type 0
IsLinedStep mode (steps.Aiming from behind) = IsIncremental mode → behind ≡ from
IsLinedStep mode _ = Unit {0}

abbrev pub IsLined : ResizeMode → Copying → Type 0
IsLined mode (copyings.Stepping aim step) = IsLinedStep mode step
IsLined mode (copyings.Lone slot settle) = Unit {0}

-- the sides of a disjunction that is false, and of one that is true
pub or_false : (a b : Bool) → (a || b) ≡ false → b ≡ true → ⊥
or_false true b e is = absurd cc
or_false false b e is = cc (e, is)

pub or_other : (a b : Bool) → (a || b) ≡ true → (a ≡ true → ⊥) → b ≡ true
or_other true b e differs = absurd (differs refl)
or_other false b e differs = e

module _ (words : At → ℕ) where
  -- a step that finds no next table found the root without one
  abbrev pub IsLast : Stepped → Type 0
  IsLast (stepped.Last table) = words (words_at.Next (words words_at.Root)) ≡ 0
  IsLast _ = Unit {0}

  linked_last : (from : ℕ) (end : Linked) → IsLast (linked_to from end)
  linked_last from (linked.On link) = tt
  linked_last from (linked.Table table) = tt
  linked_last from (linked.Refused refused) = tt

  settled_last : (chunk : Chunk) (end : Settled) → IsLast (settled_to chunk end)
  settled_last chunk (settled.On settle) = tt
  settled_last chunk settled.Settled = cond_both (nat_lt (next_slot chunk).at chunk.end)
      (stepped.On (steps.Settling (next_slot chunk) settles.Looking)) (stepped.On (steps.Advancing chunk.cursor)) IsLast (λ _. tt) (λ _. tt)
  settled_last chunk (settled.Unfit table) = tt
  settled_last chunk (settled.Refused refused) = tt

  aimed_last : (mode : ResizeMode) (from behind next : ℕ) → (IsIncremental mode → behind ≡ from) → words words_at.Root ≡ from
      → words (words_at.Next behind) ≡ next → IsLast (aimed from behind mode next)
  aimed_last (Incremental chunk) from behind next lined root is =
      cond_both (next == 0) (stepped.Last from) (stepped.On (steps.Sizing from next)) IsLast
      (λ none. ap (λ t. words (words_at.Next t)) (root ∙ sym (lined tt)) ∙ is ∙ eqb-true next 0 none)
      (λ _. tt)
  aimed_last Blocking from behind next lined root is =
      cond_both (next == 0) (stepped.On (steps.Linking from (links.Sizing behind from (not (behind == from))))) (stepped.On (steps.Judging from next))
      IsLast (λ _. tt) (λ _. tt)

  chunk_read_last : (cursor : Cursor) (done : ℕ) → IsLast (chunk_read cursor done)
  chunk_read_last cursor done =
      cond_both (not (done == 0)) (stepped.On (next_cursor cursor))
      (cond cursor.copied (stepped.Further (chunk_at cursor)) (stepped.On (steps.Settling (chunk_at cursor) settles.Looking))) IsLast (λ _. tt)
      (λ _. cond_both cursor.copied (stepped.Further (chunk_at cursor)) (stepped.On (steps.Settling (chunk_at cursor) settles.Looking)) IsLast
      (λ _. tt) (λ _. tt))

  module _ (mode : ResizeMode) (from : ℕ) (some : 0 < from) where
    -- it still copies all, or its root is no longer the root, or has no next table
    abbrev pub LeadsAll : Copied → Type 0
    LeadsAll (copied.On copying) = aim_of copying ≡ aims.All from
    LeadsAll (copied.Refused refused) = Unit {0}
    LeadsAll _ = words words_at.Root ≡ from → words (words_at.Next from) ≡ 0

    all_of_leads : (how : ResizeMode) (root : ℕ) → words words_at.Root ≡ root → LeadsAll (all_of from how root)
    all_of_leads (Incremental chunk) root is = refl
    all_of_leads Blocking root is =
        cond_both (from == 0 || from == root) (copied.On (copyings.Stepping (aims.All root) (steps.Aiming root root))) (copied.Root root) LeadsAll
        (λ e. ap aims.All (sym (eqb-true from root
        (or_other (from == 0) (from == root) e (λ none. let zero : from ≡ 0 = eqb-true from 0 none in omega (arith, zero, some))))))
        (λ e same. absurd (or_false (from == 0) (from == root) e (eq-eqb from root (sym same ∙ is))))

    all_leads : (end : Stepped) → IsSteppedRead mode words end → IsLast end → LeadsAll (leads (aims.All from) mode end)
    all_leads (stepped.On step) there last = refl
    all_leads (stepped.Root root) there last =
        cond_both (root == 0) (copied.Root 0) (all_of from mode root) LeadsAll
        (λ none same. absurd (let zero : root ≡ 0 = eqb-true root 0 none in omega (arith, zero, some, same, there)))
        (λ _. all_of_leads mode root there)
    all_leads (stepped.Last table) there last = λ same. ap (λ t. words (words_at.Next t)) (sym same) ∙ last
    all_leads (stepped.Further chunk) there last = refl
    all_leads stepped.Over there last = refl
    all_leads (stepped.Refused refused) there last = tt

module _ (mode : ResizeMode) (initial number : ℕ) (words words' : At → ℕ) (bare : IsBare words') where
  -- after this answer
  abbrev StepLast : Step → Answer → Type 0
  StepLast step answer = IsLast words' (step_after step mode initial number answer)

  step_last : (step : Step) (answer : Answer) → IsLinedStep mode step → IsStepRead mode words step → IsCopyPrompt words (step_ask step) answer words'
      → StepLast step answer
  step_last steps.AtRoot answer lined read told = subst (StepLast steps.AtRoot) (sym told.0.0) tt
  step_last (steps.Aiming from behind) answer lined read told =
      subst (StepLast (steps.Aiming from behind)) (sym told.0.0)
      (aimed_last words' mode from behind (words (words_at.Next behind)) lined (told.1 words_at.Root ∙ read) (told.1 (words_at.Next behind)))
  step_last (steps.Linking from link) answer lined read told = subst (IsLast words') (sym (step_links mode initial number from link answer))
      (linked_last words' from (link_after link mode initial answer))
  step_last (steps.Judging from to) answer lined read told = subst (StepLast (steps.Judging from to)) (sym told.0.0) tt
  step_last (steps.Sizing from to) answer lined read told =
      let (slots, limit, size, e) = told.0 in
      subst (StepLast (steps.Sizing from to)) (sym e) tt
  step_last (steps.AtChunk cursor) answer lined read told = subst (StepLast (steps.AtChunk cursor)) (sym told.0.0)
      (chunk_read_last words' cursor (words (words_at.Done cursor.to cursor.at)))
  step_last (steps.Settling chunk settle) answer lined read told = subst (IsLast words') (sym (step_settles mode initial number chunk settle answer))
      (settled_last words' chunk (settle_after settle (slot_of chunk) mode initial answer))
  step_last (steps.Advancing cursor) answer lined read told =
      let here : At = words_at.Done cursor.to cursor.at in
      let done : (answer ≡ answers.Call Exchanged) × IsPut words here 1 words' = exchange_done _ _ (words here) 0 read.0.due told in
      subst (StepLast (steps.Advancing cursor)) (sym done.0) tt
  step_last (steps.Promoting from to) answer lined read told =
      let done : (answer ≡ answers.Call Exchanged) × IsPut words words_at.Root to words' = exchange_done _ _ (words words_at.Root) from read told in
      subst (StepLast (steps.Promoting from to)) (sym done.0) tt

  -- for a copy of all
  pub copy_leads : (from : ℕ) (some : 0 < from) (copying : Copying) (answer : Answer) → aim_of copying ≡ aims.All from → IsLined mode copying
      → IsCopyingRead mode words copying → IsCopyPrompt words (copying_ask copying) answer words'
      → LeadsAll words' mode from some (copying_after copying mode initial number answer)
  copy_leads from some (copyings.Stepping aim step) answer is lined read told =
      let end : Stepped = step_after step mode initial number answer in
      subst (LeadsAll words' mode from some) (sym (copying_steps mode initial number aim step answer))
      (subst (λ a. LeadsAll words' mode from some (leads a mode end)) (sym is)
      (all_leads words' mode from some end (step_ends mode initial number words words' bare step answer read.1 told).1
      (step_last step answer lined read.1 told)))
  copy_leads from some (copyings.Lone slot settle) answer is lined read told = absurd cc
