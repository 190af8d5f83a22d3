-- How much is left to the copy of a chunk, in a pending resize, after each answer.
use Rattle.std.proofs.Common.{◌≡◌, inl, inr, ⊎_elim, ℕ, zero, suc, ◌+◌, ◌-◌, ◌/◌, ◌<◌, ◌≤◌, ◌==◌}
use Rattle.std.proofs.Common.{◌&&◌, max, nat_lt, not, cond, Bool, true, false, Option, List, refl}
use Rattle.std.proofs.Common.{sym, ap, ◌∙◌, subst, arith, eq-eqb, eqb-true}
use Rattle.std.proofs.Math.Nat.{add-div_right}
use Rattle.std.specs.Prelude.{MatchBool}
use Rattle.std.proofs.lemmas.Bool.{cases_lt, cond_both, not-false}
use Rattle.papaya_words.specs.Chunks.{chunk_len, chunk_of}
use Rattle.papaya_words.specs.declared.resize_mode.ResizeMode.TheVariants.{Incremental}
use Rattle.papaya_words.proofs.ChunkLemmas.{chunk_counted, chunk_first, chunk_some}
use Rattle.papaya_call.specs.declared.ask.At.{At}
use Rattle.papaya_call.specs.declared.ask.At.TheVariants as words_at
use Rattle.papaya_call.specs.declared.ask.Answer.TheVariants.{Exchanged}
use Rattle.papaya_call.specs.declared.copy.copying.Aim.TheVariants as aims
use Rattle.papaya_call.specs.declared.copy.copying.Copied.TheVariants as copied_to
use Rattle.papaya_call.specs.declared.copy.copying.Copying.TheVariants as copyings
use Rattle.papaya_call.specs.declared.copy.settle.Settle.TheVariants as settles
use Rattle.papaya_call.specs.declared.copy.settle.Settled.{Settled}
use Rattle.papaya_call.specs.declared.copy.settle.Settled.TheVariants as settled
use Rattle.papaya_call.specs.declared.copy.step.Chunk.{Chunk as Slots}
use Rattle.papaya_call.specs.declared.copy.step.Cursor.{Cursor}
use Rattle.papaya_call.specs.declared.copy.step.Step.{Step}
use Rattle.papaya_call.specs.declared.copy.step.Step.TheVariants as steps
use Rattle.papaya_call.specs.declared.copy.step.Stepped.{Stepped}
use Rattle.papaya_call.specs.declared.copy.step.Stepped.TheVariants as stepped
use Rattle.papaya_call.specs.Copying.{copying_ask, leads}
use Rattle.papaya_call.specs.Settle.{settle_ask}
use Rattle.papaya_call.specs.Step.{aimed, chunk_at, chunk_read, first_chunk, is_further, next_chunk, next_cursor, next_slot, settled_to, slot_of, step_ask}
use Rattle.papaya_call.specs.declared.chain.ask.Answer.{Answer}
use Rattle.papaya_call.specs.declared.chain.ask.Answer.TheVariants as answers
use Rattle.papaya_call.specs.declared.chain.resizer.Resize.TheVariants.{Chunk}
use Rattle.papaya_call.specs.declared.chain.resizer.ResizerState.{ResizerState as Stage}
use Rattle.papaya_call.specs.declared.chain.resizer.ResizerState.TheVariants.{Copying, Done, Refused}
use Rattle.papaya_call.specs.Resizer.{after_in, copied}
use Rattle.papaya_words_law.specs.Code.{Coding, IsHashed}
use Rattle.papaya_words_law.specs.Exchange.{Setting, State, Exchange, run}
use Rattle.papaya_words_law.specs.Invariant.{IsKeeping}
use Rattle.papaya_words_law.proofs.Later.{later_run}
use Rattle.papaya_words_law.proofs.OneMap.{keeping_sound}
use Rattle.papaya_call_law.specs.Alone.{IsPut}
use Rattle.papaya_call_law.specs.Copier.{HasWords, IsCursor, ReliesStep}
use Rattle.papaya_call_law.specs.Relies.{IsCutAs, IsModeOf}
use Rattle.papaya_call_law.specs.TrueAnswers.{word_of}
use Rattle.papaya_call_law.proofs.AloneSteps.{exchange_done}
use Rattle.papaya_call_law.specs.Resizers.{IsTrueOfStage, ReliesStage, link_of}
use Rattle.papaya_call_law.specs.ChainAnswers.{LoadedPairs}
use Rattle.papaya_call_law.proofs.ResizerRelies.{stage_learns, told_of_ask}
use Rattle.papaya_call_alone.specs.Chunks.{AllFallShort, AllLeaveRoot, IsDue, IsFewer, WillCopyIn, WillCopyStep, chunks_of, due_of}
use Rattle.papaya_call_alone.specs.Current.{IsStepRead}
use Rattle.papaya_call_alone.specs.Prompt.{IsBounded, IsCopyPrompt}
use Rattle.papaya_call_alone.specs.Resizers.{IsStageRead}
use Rattle.papaya_call_alone.proofs.Afters.{copying_steps, settle_after, step_after, step_settles}
use Rattle.papaya_call_alone.proofs.CopyLaw.{prompt}
use Rattle.papaya_call_alone.proofs.SettleEnds.{settle_puts}
use Rattle.papaya_call_alone.proofs.Telling.{stays_at}

-- without blocking, the table behind a copy's target is the root
behind_root : {K P : Type 0} (g : Setting K P) (c : Coding K P) (s : State P) (last kept : Option P) (slots t behind : ℕ)
    → IsModeOf (Incremental slots) g.blocking → ReliesStep g c s last kept (steps.Aiming t behind) → behind ≡ t
behind_root g c s last kept slots t behind moded r = ⊎_elim (λ (e : behind ≡ t). e) (λ h. let b = h.0 in absurd (cc (b, moded))) r.given_up

-- one chunk more is due, or not
due_step : (before later : Bool) (a b : ℕ) → (later ≡ true → before ≡ true) → b ≤ a → cond later (b + 1) b ≤ cond before (a + 1) a
due_step true true a b still le = omega (arith, le)
due_step true false a b still le = omega (arith, le)
due_step false true a b still le = let no = still refl in absurd (cc no)
due_step false false a b still le = le

due_lower : (before later : Bool) (a b : ℕ) → (later ≡ true → before ≡ true) → b < a → cond later (b + 1) b < cond before (a + 1) a
due_lower true true a b still lt = omega (arith, lt)
due_lower true false a b still lt = omega (arith, lt)
due_lower false true a b still lt = let no = still refl in absurd (cc no)
due_lower false false a b still lt = lt

due_turned : (before later : Bool) (a b : ℕ) → before ≡ true → later ≡ false → b ≤ a → cond later (b + 1) b < cond before (a + 1) a
due_turned true true a b e f le = absurd (cc f)
due_turned true false a b e f le = omega (arith, le)
due_turned false later a b e f le = absurd (cc e)

-- no more chunks are due than there are
pub due_most : (words : At → ℕ) (to chunks : ℕ) → due_of words to chunks ≤ chunks
due_most words to zero = omega arith
due_most words to (suc n) = let h = due_most words to n in
    cond_both (words (words_at.Done to n) == 0) (due_of words to n + 1) (due_of words to n) (λ y. y ≤ suc n) (λ _. omega (arith, h)) (λ _. omega (arith, h))

-- if a chunk's word is 0, some are due
due_some : (words : At → ℕ) (to at : ℕ) → words (words_at.Done to at) ≡ 0 → (chunks : ℕ) → at < chunks → 0 < due_of words to chunks
due_some words to at none zero lt = absurd (omega (arith, lt))
due_some words to at none (suc n) lt =
    ⊎_elim
    (λ (less : at < n). let h = due_some words to at none n less in
    cond_both (words (words_at.Done to n) == 0) (due_of words to n + 1) (due_of words to n) (λ y. 0 < y) (λ _. omega (arith, h)) (λ _. h))
    (λ (more : n ≤ at). let is : at ≡ n = omega (arith, lt, more) in
    cond_both (words (words_at.Done to n) == 0) (due_of words to n + 1) (due_of words to n) (λ y. 0 < y) (λ _. omega arith)
    (λ e. absurd (let z : (words (words_at.Done to n) == 0) ≡ true = eq-eqb (words (words_at.Done to n)) 0
    (subst (λ i. words (words_at.Done to i) ≡ 0) is none) in cc (z, e))))
    (cases_lt at n)

module _ (words words' : At → ℕ) (to : ℕ) (still : (chunk : ℕ) → words' (words_at.Done to chunk) ≡ 0 → words (words_at.Done to chunk) ≡ 0) where
  -- a word that is 0 was 0
  zero_before : (n : ℕ) → (words' (words_at.Done to n) == 0) ≡ true → (words (words_at.Done to n) == 0) ≡ true
  zero_before n e = eq-eqb (words (words_at.Done to n)) 0 (still n (eqb-true (words' (words_at.Done to n)) 0 e))

  -- so no more are due
  pub due_falls : (chunks : ℕ) → due_of words' to chunks ≤ due_of words to chunks
  due_falls zero = omega arith
  due_falls (suc n) = due_step (words (words_at.Done to n) == 0) (words' (words_at.Done to n) == 0) (due_of words to n) (due_of words' to n)
      (zero_before n) (due_falls n)

  -- and fewer, if a word is no longer 0
  pub due_less : (at : ℕ) → words (words_at.Done to at) ≡ 0 → words' (words_at.Done to at) ≡ 1 → (chunks : ℕ) → at < chunks
      → due_of words' to chunks < due_of words to chunks
  due_less at none one zero lt = absurd (omega (arith, lt))
  due_less at none one (suc n) lt =
      ⊎_elim
      (λ (less : at < n). due_lower (words (words_at.Done to n) == 0) (words' (words_at.Done to n) == 0) (due_of words to n) (due_of words' to n)
      (zero_before n) (due_less at none one n less))
      (λ (more : n ≤ at). let is : at ≡ n = omega (arith, lt, more) in
      due_turned (words (words_at.Done to n) == 0) (words' (words_at.Done to n) == 0) (due_of words to n) (due_of words' to n)
      (eq-eqb (words (words_at.Done to n)) 0 (subst (λ i. words (words_at.Done to i) ≡ 0) is none))
      (ap (λ w. w == 0) (subst (λ i. words' (words_at.Done to i) ≡ 1) is one)) (due_falls n))
      (cases_lt at n)

module _ {K P : Type 0} (g : Setting K P) (c : Coding K P) (s : State P) (last kept : Option P) (words' : At → ℕ)
    (slots initial number began from to due : ℕ) (moded : IsModeOf (Incremental slots) g.blocking) (cut : IsCutAs (Incremental slots) g.chunk_of) where
  -- the words, and how many chunks the table has
  abbrev words : At → ℕ
  words = word_of g c s

  abbrev chunks : ℕ
  chunks = chunks_of (g.size from) slots

  -- the state after a step, during a pending resize
  abbrev WillBe : Stepped → Type 0
  WillBe end = WillCopyIn words' from to chunks due (copied Chunk began (leads aims.Chunk (Incremental slots) end))

  module _ (d : IsDue words from to chunks due) (rises : from < to) (next : words' (words_at.Next from) ≡ to)
      (still : (chunk : ℕ) → words' (words_at.Done to chunk) ≡ 0 → words (words_at.Done to chunk) ≡ 0) where
    -- the resize is still pending while the root is in its place
    still_due : words' words_at.Root ≡ words words_at.Root → IsDue words' from to chunks due
    still_due root = record {
      pending = record { root = root ∙ d.pending.root; next = next; some = d.pending.some; more = d.pending.more };
      within = let w = d.within in let f = due_falls words words' to still chunks in omega (arith, w, f);
    }

    still_fewer : (copied_one : Bool) → MatchBool copied_one (due_of words to chunks < due) (Unit {0})
        → MatchBool copied_one (due_of words' to chunks < due) (Unit {0})
    still_fewer true less = let f = due_falls words words' to still chunks in omega (arith, less, f)
    still_fewer false h = tt

    -- the chunk that a cursor is at is one of the table's
    at_counted : (cursor : Cursor) → IsCursor g c s cursor → words words_at.Root ≡ cursor.from → cursor.at < chunks
    at_counted cursor r root =
        let is : g.chunk_of cursor.begun ≡ cursor.at = r.cut cursor.begun ∙ ap (chunk_of cursor.slots) r.begun ∙ chunk_first cursor.slots r.some cursor.at in
        let size : cursor.len ≡ g.size from = r.len ∙ ap g.size (sym root ∙ d.pending.root) in
        let within = r.within in
        let lt : cursor.begun < g.size from = omega (arith, within, size) in
        subst (λ y. y < chunks) (sym (cut cursor.begun) ∙ is)
        (chunk_counted (chunk_len (Incremental slots)) (chunk_some (Incremental slots)) (g.size from) cursor.begun lt)

    -- there is a root
    root_leads : (root : ℕ) → words words_at.Root ≡ root → words' words_at.Root ≡ root → WillBe (stepped.Root root)
    root_leads root is stays =
        cond_both (root == 0) copied_to.Chunk (copied_to.On (copyings.Stepping aims.Chunk (steps.Aiming root root)))
        (λ y. WillCopyIn words' from to chunks due (copied Chunk began y))
        (λ none. let z = eqb-true root 0 none in let f = d.pending.root in let l = d.pending.some in absurd (omega (arith, z, f, l, is)))
        (λ some. (still_due (stays ∙ sym is), tt))

    -- it has a next table
    aimed_leads : (t behind word : ℕ) → words' words_at.Root ≡ words words_at.Root → word ≡ to → WillBe (aimed t behind (Incremental slots) word)
    aimed_leads t behind word root is =
        cond_both (word == 0) (stepped.Last t) (stepped.On (steps.Sizing t word)) WillBe
        (λ none. let z = eqb-true word 0 none in let l = d.pending.more in absurd (omega (arith, z, l, is)))
        (λ some. (still_due root, is))

    -- the next word is loaded, or all were
    next_leads : (cursor : Cursor) → cursor.to ≡ to → MatchBool cursor.copied (due_of words' to chunks < due) (Unit {0})
        → words' words_at.Root ≡ words words_at.Root → WillBe (stepped.On (next_cursor cursor))
    next_leads cursor goes fewer root =
        cond_both (is_further cursor) (steps.AtChunk (next_chunk cursor))
        (cond (not cursor.wrapped && nat_lt 0 cursor.start) (steps.AtChunk (first_chunk cursor)) (steps.Promoting cursor.from cursor.to))
        (λ y. WillBe (stepped.On y))
        (λ _. (still_due root, (goes, fewer)))
        (λ _.
        cond_both (not cursor.wrapped && nat_lt 0 cursor.start) (steps.AtChunk (first_chunk cursor)) (steps.Promoting cursor.from cursor.to)
        (λ y. WillBe (stepped.On y))
        (λ _. (still_due root, (goes, fewer)))
        (λ _. (still_due root, goes)))

    -- a chunk was copied, and this one was not
    fewer_left : (cursor : Cursor) → cursor.at < chunks → words' (words_at.Done to cursor.at) ≡ 0 → words' words_at.Root ≡ words words_at.Root
        → (copied_one : Bool) → copied_one ≡ true → MatchBool copied_one (due_of words' to chunks < due) (Unit {0}) → IsFewer words' from to chunks due
    fewer_left cursor lt none root true e fewer =
        record { pending = (still_due root).pending; fewer = fewer; some = due_some words' to cursor.at none chunks lt }
    fewer_left cursor lt none root false e fewer = absurd (cc e)

    -- the word of a chunk was loaded
    chunk_read_leads : (cursor : Cursor) (done : ℕ) → cursor.to ≡ to → cursor.at < chunks → words' (words_at.Done to cursor.at) ≡ done
        → MatchBool cursor.copied (due_of words' to chunks < due) (Unit {0}) → words' words_at.Root ≡ words words_at.Root → WillBe (chunk_read cursor done)
    chunk_read_leads cursor done goes lt is fewer root =
        cond_both (not (done == 0)) (stepped.On (next_cursor cursor))
        (cond cursor.copied (stepped.Further (chunk_at cursor)) (stepped.On (steps.Settling (chunk_at cursor) settles.Looking))) WillBe
        (λ _. next_leads cursor goes fewer root)
        (λ e.
        cond_both cursor.copied (stepped.Further (chunk_at cursor)) (stepped.On (steps.Settling (chunk_at cursor) settles.Looking)) WillBe
        (λ f. inr (fewer_left cursor lt (is ∙ eqb-true done 0 (not-false (done == 0) e)) root cursor.copied f fewer))
        (λ _. (still_due root, goes)))

    -- the copy of a slot continues in the chunk
    settled_leads : (chunk : Slots) → chunk.cursor.to ≡ to → words' words_at.Root ≡ words words_at.Root → (end : Settled) → WillBe (settled_to chunk end)
    settled_leads chunk goes root (settled.On settle) = (still_due root, goes)
    settled_leads chunk goes root settled.Settled =
        cond_both (nat_lt (next_slot chunk).at chunk.end) (stepped.On (steps.Settling (next_slot chunk) settles.Looking))
        (stepped.On (steps.Advancing chunk.cursor)) WillBe
        (λ _. (still_due root, goes))
        (λ _. (still_due root, goes))
    settled_leads chunk goes root (settled.Unfit table) = (still_due root, tt)
    settled_leads chunk goes root (settled.Refused refused) = tt

    abbrev Leads : Step → Answer → Type 0
    Leads step answer = WillBe (step_after step (Incremental slots) initial number answer)

    -- in each step
    step_leads : (step : Step) (answer : Answer) → ReliesStep g c s last kept step → IsStepRead (Incremental slots) words step
        → WillCopyStep words to chunks due step → IsCopyPrompt words (step_ask step) answer words' → Leads step answer
    step_leads steps.AtRoot answer r read goes told = subst (Leads steps.AtRoot) (sym told.0.0) (root_leads (words words_at.Root) refl (told.1 words_at.Root))
    step_leads (steps.Aiming t behind) answer r read goes told =
        let there : behind ≡ from = behind_root g c s last kept slots t behind moded r ∙ sym read ∙ d.pending.root in
        subst (Leads (steps.Aiming t behind)) (sym told.0.0)
        (aimed_leads t behind (words (words_at.Next behind)) (told.1 words_at.Root) (ap (λ u. words (words_at.Next u)) there ∙ d.pending.next))
    step_leads (steps.Sizing t n) answer r read goes told =
        let (len, limit, size, e) = told.0 in
        subst (Leads (steps.Sizing t n)) (sym e) (still_due (told.1 words_at.Root), (goes, tt))
    step_leads (steps.AtChunk cursor) answer r read goes told =
        let lt = at_counted cursor r read.root in
        subst (Leads (steps.AtChunk cursor)) (sym told.0.0)
        (chunk_read_leads cursor (words (words_at.Done cursor.to cursor.at)) goes.0 lt
        (told.1 (words_at.Done to cursor.at) ∙ ap (λ u. words (words_at.Done u cursor.at)) (sym goes.0)) (still_fewer cursor.copied goes.1)
        (told.1 words_at.Root))
    step_leads (steps.Settling chunk settle) answer r read goes told =
        subst WillBe (sym (step_settles (Incremental slots) initial number chunk settle answer))
        (settled_leads chunk goes (stays_at words words' answer (settle_ask settle (slot_of chunk)) told words_at.Root
        (settle_puts settle (slot_of chunk) words_at.Root tt)) (settle_after settle (slot_of chunk) (Incremental slots) initial answer))
    step_leads (steps.Advancing cursor) answer r read goes told =
        let here : At = words_at.Done cursor.to cursor.at in
        let done : (answer ≡ answers.Call Exchanged) × IsPut words here 1 words' = exchange_done _ _ (words here) 0 read.0.due told in
        let root = done.1.others words_at.Root (λ e. cc) in
        let lt = at_counted cursor r.chunk_read read.0.root in
        let none : words (words_at.Done to cursor.at) ≡ 0 = ap (λ u. words (words_at.Done u cursor.at)) (sym goes) ∙ read.0.due in
        let one : words' (words_at.Done to cursor.at) ≡ 1 = ap (λ u. words' (words_at.Done u cursor.at)) (sym goes) ∙ done.1.here in
        let less = due_less words words' to still cursor.at none one chunks lt in
        let within = d.within in
        subst (Leads (steps.Advancing cursor)) (sym done.0) (next_leads (record cursor { copied = true }) goes (omega (arith, less, within)) root)
    step_leads (steps.Promoting t n) answer r read goes told =
        let done : (answer ≡ answers.Call Exchanged) × IsPut words words_at.Root n words' = exchange_done _ _ (words words_at.Root) t read told in
        let here = done.1.here in
        subst (Leads (steps.Promoting t n)) (sym done.0) (inl (λ same. omega (arith, here, same, goes, rises)))
    step_leads _ answer r read goes told = absurd goes

module _ {K P : Type 0} (g : Setting K P) (c : Coding K P) (hashed : IsHashed g c) (s : State P) (m : K → Option P) (keeps : IsKeeping g s m)
    (bounded : IsBounded g s) (slots initial number : ℕ) (loaded : LoadedPairs P) (moded : IsModeOf (Incremental slots) g.blocking)
    (cut : IsCutAs (Incremental slots) g.chunk_of) (from to due : ℕ) where
  -- after each answer
  pub stage_copies : (stage : Stage) → ReliesStage g c s loaded stage → HasWords g (link_of stage)
      → IsStageRead (Incremental slots) (word_of g c s) Chunk stage → WillCopyIn (word_of g c s) from to (chunks_of (g.size from) slots) due stage
      → (answer : Answer) (es : List (Exchange P)) (loaded' : LoadedPairs P) → IsTrueOfStage g c s stage loaded answer es loaded'
      → WillCopyIn (word_of g c (run es s)) from to (chunks_of (g.size from) slots) due (after_in Chunk (Incremental slots) initial number answer stage)
  stage_copies (Copying began (copyings.Stepping aims.Chunk step)) (own, r) made read (d, goes) answer es loaded' told =
      let copying = copyings.Stepping aims.Chunk step in
      let h = told_of_ask g c s loaded (Copying began copying) (copying_ask copying) refl answer es loaded' told in
      let answers_so = prompt g c hashed s m keeps bounded (Incremental slots) initial number loaded copying r made read.0 answer es loaded' h in
      let may = (stage_learns g c hashed s m keeps Chunk (Incremental slots) initial number loaded moded cut (Copying began copying) (own, r) answer
      (λ _. made) es loaded' told).0 in
      let later = later_run g hashed.lawful es s may in
      let is : s.next from ≡ to = d.pending.next in
      let some : 0 < to = d.pending.more in
      let rises : from < to = ⊎_elim (λ (e : s.next from ≡ 0). absurd (omega (arith, e, is, some))) (λ h. let l = h.1 in omega (arith, l, is))
      ((keeping_sound g s m keeps).rises from) in
      subst (λ y. WillCopyIn (word_of g c (run es s)) from to (chunks_of (g.size from) slots) due (copied Chunk began y))
      (sym (copying_steps (Incremental slots) initial number aims.Chunk step answer))
      (step_leads g c s loaded.call.last loaded.kept (word_of g c (run es s)) slots initial number began from to due moded cut d rises
      (later.next from (omega (arith, is, some)) ∙ is) (λ chunk. undone (s.done to chunk) ((run es s).done to chunk) (later.done to chunk)) step
      answer r.1 read.0.1 goes answers_so)
    where
      undone : (before after : Bool) → (before ≡ true → after ≡ true) → ◌≡◌ {A = ℕ} (cond after 1 0) 0 → ◌≡◌ {A = ℕ} (cond before 1 0) 0
      undone true true keeps e = e
      undone true false keeps e = let no = keeps refl in absurd (cc no)
      undone false after keeps e = refl
  stage_copies Done r made read goes answer es loaded' told = let asked = told.1 in absurd cc
  stage_copies (Refused refused) r made read goes answer es loaded' told = let asked = told.1 in absurd cc
  stage_copies _ r made read goes answer es loaded' told = absurd goes

-- a table's chunks are its slots by those of a chunk, rounded up
pub chunks_rounded : (len slots : ℕ) → 0 < len → 0 < slots → chunks_of len slots ≡ (len + (slots - 1)) / slots
chunks_rounded len slots full some =
    let most : max slots 1 ≡ slots = omega (arith, some) in
    let same : len - 1 + slots ≡ len + (slots - 1) = omega (arith, full, some) in
    ap (λ n. (len - 1) / n + 1) most ∙ sym (add-div_right (len - 1) some) ∙ ap (λ n. n / slots) same

-- after `copies` copies at least that many chunks fewer are left
left_falls : (left : ℕ → ℕ) (copies : ℕ) → AllFallShort left copies → left copies + copies ≤ left 0
left_falls left zero all = omega arith
left_falls left (suc n) all =
    let before = left_falls left n (λ i less. all i (omega (arith, less))) in
    let one = (all n (omega arith)).0 in
    let same : left (n + 1) ≡ left (suc n) = ap left (omega arith) in
    omega (arith, before, one, same)

-- so there are fewer copies than chunks were left
pub copies_fewer : (left : ℕ → ℕ) (copies : ℕ) → 0 < left 0 → AllFallShort left copies → copies < left 0
copies_fewer left zero some all = some
copies_fewer left (suc n) some all =
    let low = left_falls left (suc n) all in
    let last = (all n (omega arith)).1 in
    let same : left (n + 1) ≡ left (suc n) = ap left (omega arith) in
    omega (arith, low, last, same)

-- also if the words determine which chunks are left
pub copies_leave : (words : ℕ → At → ℕ) (from to chunks copies : ℕ) → 0 < chunks → AllLeaveRoot words from to chunks copies → copies < chunks
copies_leave words from to chunks zero some all = some
copies_leave words from to chunks (suc n) some all =
    let short : AllFallShort (λ i. due_of (words i) to chunks) (suc n) = (λ i less.
    let h = all i less in
    ⊎_elim (λ (other : words (i + 1) words_at.Root ≡ from → ⊥). absurd (other h.0))
    (λ (fewer : IsFewer (words (i + 1)) from to chunks (due_of (words i) to chunks)). (fewer.fewer, fewer.some)) h.1) in
    let first = (short 0 (omega arith)).0 in
    let less = copies_fewer (λ i. due_of (words i) to chunks) (suc n) (omega (arith, first)) short in
    let most = due_most (words 0) to chunks in
    omega (arith, less, most)
