-- How much is left to the copy of a chunk after each answer.
use Rattle.std.proofs.Common.{◌≡◌, ◌⊎◌, inl, inr, ℕ, ◌+◌, ◌*◌, ◌-◌, ◌^◌, ◌%◌, ◌<◌, ◌≤◌, ◌==◌, ◌&&◌}
use Rattle.std.proofs.Common.{nat_lt, nat_le, not, cond, Bool, ltb-true, leb-false, true, false}
use Rattle.std.proofs.Common.{sym, ap, ◌∙◌, subst, arith, eqb-true}
use Rattle.std.proofs.lemmas.Bool.{and_parts, cond_both, not-false, not-true}
use Rattle.papaya_words.specs.Chunks.{chunk_count, chunk_len}
use Rattle.papaya_words.specs.declared.resize_mode.ResizeMode.{ResizeMode}
use Rattle.papaya_words.specs.declared.resize_mode.ResizeMode.TheVariants.{Incremental, Blocking}
use Rattle.papaya_words.proofs.ChunkLemmas.{chunk_some}
use Rattle.papaya_call.specs.Search.{IsSize}
use Rattle.papaya_call.specs.declared.ask.At.{At}
use Rattle.papaya_call.specs.declared.ask.At.TheVariants as words_at
use Rattle.papaya_call.specs.declared.ask.Answer.TheVariants.{Exchanged}
use Rattle.papaya_call.specs.declared.copy.link.Link.TheVariants as links
use Rattle.papaya_call.specs.declared.copy.link.Linked.{Linked}
use Rattle.papaya_call.specs.declared.copy.link.Linked.TheVariants as linked
use Rattle.papaya_call.specs.declared.copy.settle.Settle.TheVariants as settles
use Rattle.papaya_call.specs.declared.copy.settle.Settled.{Settled}
use Rattle.papaya_call.specs.declared.copy.settle.Settled.TheVariants as settled
use Rattle.papaya_call.specs.declared.copy.step.Chunk.{Chunk}
use Rattle.papaya_call.specs.declared.copy.step.Cursor.{Cursor}
use Rattle.papaya_call.specs.declared.copy.step.Step.{Step}
use Rattle.papaya_call.specs.declared.copy.step.Step.TheVariants as steps
use Rattle.papaya_call.specs.declared.copy.step.Stepped.{Stepped}
use Rattle.papaya_call.specs.declared.copy.step.Stepped.TheVariants as stepped
use Rattle.papaya_call.specs.Link.{link_ask}
use Rattle.papaya_call.specs.Settle.{settle_ask}
use Rattle.papaya_call.specs.Step.{aimed, chunk_at, chunk_read, end_of, first_chunk, first_cursor}
use Rattle.papaya_call.specs.Step.{is_further, judged, linked_to, next_chunk, next_cursor}
use Rattle.papaya_call.specs.Step.{next_slot, settled_to, slot_of, step_ask}
use Rattle.papaya_call.proofs.Starts.{start_low, start_within}
use Rattle.papaya_call.specs.declared.chain.ask.Answer.{Answer}
use Rattle.papaya_call.specs.declared.chain.ask.Answer.TheVariants as answers
use Rattle.papaya_call.specs.ChainMachine.{link_after}
use Rattle.papaya_call_law.specs.Alone.{IsBare, IsPut, IsSame}
use Rattle.papaya_call_law.proofs.AloneSteps.{exchange_done}
use Rattle.papaya_call_law.proofs.CopierCursors.{round_first}
use Rattle.papaya_call_alone.specs.Prompt.{IsCopyPrompt, IsNumber}
use Rattle.papaya_call_alone.specs.Measure.{further, left_of_chunk, left_of_link, left_of_linked}
use Rattle.papaya_call_alone.specs.Measure.{left_of_settle, left_of_settled, left_of_step}
use Rattle.papaya_call_alone.specs.Measure.{left_of_stepped, words_left}
use Rattle.papaya_call_alone.specs.Current.{IsAlive, IsCursorRead, IsDueRead, IsLinkedRead, IsSettledRead, IsStepRead, IsSteppedRead}
use Rattle.papaya_call_alone.proofs.Afters.{settle_after, step_after, step_links, step_settles}
use Rattle.papaya_call_alone.proofs.LinkEnds.{link_ends, link_puts}
use Rattle.papaya_call_alone.proofs.CarryEnds.{still_alive}
use Rattle.papaya_call_alone.proofs.SettleEnds.{settle_ends, settle_puts}
use Rattle.papaya_call_alone.proofs.Telling.{Nears, nearer, stays_at}

-- a chunk ends within its table
end_most : (cursor : Cursor) → end_of cursor ≤ cursor.len
end_most cursor =
    cond_both (nat_lt cursor.slots (cursor.len - cursor.begun)) (cursor.begun + cursor.slots) cursor.len (λ y. y ≤ cursor.len)
    (λ less. let l : cursor.slots < cursor.len - cursor.begun = ltb-true cursor.slots (cursor.len - cursor.begun) less in omega (arith, l))
    (λ more. omega arith)

-- fewer words are left when the cursor continues
next_fewer : (wrapped : Bool) (start at len begun slots : ℕ) → 0 < slots → (nat_lt slots (len - begun) && not (wrapped && nat_le start (at + 1))) ≡ true
    → cond wrapped (start - (at + 1)) (len - (begun + slots) + start + 1) < cond wrapped (start - at) (len - begun + start + 1)
next_fewer true start at len begun slots some e =
    let back : at + 1 < start = leb-false start (at + 1)
    (not-true (nat_le start (at + 1)) (and_parts (nat_lt slots (len - begun)) (not (nat_le start (at + 1))) e).1) in
    omega (arith, back)
next_fewer false start at len begun slots some e =
    let less : slots < len - begun = ltb-true slots (len - begun) (and_parts (nat_lt slots (len - begun)) true e).0 in
    omega (arith, less, some)

first_fewer : (cursor : Cursor) → cursor.wrapped ≡ false → words_left (first_chunk cursor) < words_left cursor
first_fewer cursor is = subst (λ w. cursor.start - 0 < cond w (cursor.start - cursor.at) (cursor.len - cursor.begun + cursor.start + 1)) (sym is) (omega arith)

module _ (mode : ResizeMode) (words : At → ℕ) where
  -- no more is left than this, and the words that were read are unchanged
  abbrev Within : ℕ → Stepped → Type 0
  Within most end = (left_of_stepped end ≤ most) × IsSteppedRead mode words end

  -- the chunk continues after the making of a table
  linked_within : (from : ℕ) (l : Linked) → words words_at.Root ≡ from → IsLinkedRead words l → Within (left_of_linked l) (linked_to from l)
  linked_within from (linked.On link) root read = (omega arith, (root, read))
  linked_within from (linked.Table table) root read = (omega arith, root)
  linked_within from (linked.Refused refused) root read = (omega arith, tt)

  -- the table behind is further on
  aimed_within : (how : ResizeMode) (from behind next : ℕ) → words words_at.Root ≡ from → words (words_at.Next behind) ≡ next
      → IsNumber words (words_at.Next behind)
      → (left_of_stepped (aimed from behind how next) ≤ 2 ^ 102 + 5 + 2 * further behind) × IsSteppedRead how words (aimed from behind how next)
  aimed_within (Incremental chunk) from behind next root is number =
      cond_both (next == 0) (stepped.Last from) (stepped.On (steps.Sizing from next))
      (λ y. (left_of_stepped y ≤ 2 ^ 102 + 5 + 2 * further behind) × IsSteppedRead (Incremental chunk) words y)
      (λ none. (omega arith, tt))
      (λ some. (omega arith, (root, tt)))
  aimed_within Blocking from behind next root is number =
      cond_both (next == 0) (stepped.On (steps.Linking from (links.Sizing behind from (not (behind == from))))) (stepped.On (steps.Judging from next))
      (λ y. (left_of_stepped y ≤ 2 ^ 102 + 5 + 2 * further behind) × IsSteppedRead Blocking words y)
      (λ none. (omega arith, (root, is ∙ eqb-true next 0 none)))
      (λ some. (lower number some, root))
    where
      lower : IsNumber words (words_at.Next behind) → (next == 0) ≡ false → 2 ^ 102 + 7 + 2 * further next ≤ 2 ^ 102 + 5 + 2 * further behind
      lower (inl none) some = absurd (let z : next ≡ 0 = sym is ∙ none in let y : (next == 0) ≡ true = ap (λ n. n == 0) z in cc (y, some))
      lower (inr more) some = let a = more.0 in let b = more.1 in omega (arith, a, b, is)

  -- a table that wasn't given up is alive
  judged_alive : (how : ResizeMode) (to word : ℕ) → words (words_at.Aborted to) ≡ word → word ≡ 0 → IsAlive how words to
  judged_alive (Incremental chunk) to word is none = tt
  judged_alive Blocking to word is none = is ∙ none

  -- the table was given up, or not
  judged_within : (from to word : ℕ) → words words_at.Root ≡ from → words (words_at.Aborted to) ≡ word
      → Within (2 ^ 102 + 6 + 2 * further to) (stepped.On (judged from to word))
  judged_within from to word root is =
      cond_both (word == 0) (steps.Sizing from to) (steps.Aiming from to) (λ y. Within (2 ^ 102 + 6 + 2 * further to) (stepped.On y))
      (λ none. (omega arith, (root, judged_alive mode to word is (eqb-true word 0 none))))
      (λ some. (omega arith, root))

  module _ (cursor : Cursor) (read : IsCursorRead mode words cursor) where
    -- less is left, and the words that were read are unchanged
    abbrev Goes : Step → Type 0
    Goes step = (left_of_step step < left_of_step (steps.AtChunk cursor)) × IsStepRead mode words step

    -- the next word is loaded, or all were
    next_goes : Goes (next_cursor cursor)
    next_goes =
        cond_both (is_further cursor) (steps.AtChunk (next_chunk cursor))
        (cond (not cursor.wrapped && nat_lt 0 cursor.start) (steps.AtChunk (first_chunk cursor)) (steps.Promoting cursor.from cursor.to)) Goes
        (λ e. let l = next_fewer cursor.wrapped cursor.start cursor.at cursor.len cursor.begun cursor.slots read.some e in
        (omega (arith, l), record { some = read.some; root = read.root; alive = read.alive }))
        (λ e.
        cond_both (not cursor.wrapped && nat_lt 0 cursor.start) (steps.AtChunk (first_chunk cursor)) (steps.Promoting cursor.from cursor.to) Goes
        (λ f. let l = first_fewer cursor (round_first cursor.wrapped (nat_lt 0 cursor.start) f) in
        (omega (arith, l), record { some = read.some; root = read.root; alive = read.alive }))
        (λ f. (omega arith, read.root)))

    -- the word of a chunk was loaded
    pub chunk_read_within : (done : ℕ) → words (words_at.Done cursor.to cursor.at) ≡ done
        → (left_of_stepped (chunk_read cursor done) < left_of_step (steps.AtChunk cursor)) × IsSteppedRead mode words (chunk_read cursor done)
    chunk_read_within done is =
        cond_both (not (done == 0)) (stepped.On (next_cursor cursor))
        (cond cursor.copied (stepped.Further (chunk_at cursor)) (stepped.On (steps.Settling (chunk_at cursor) settles.Looking))) Goes_on
        (λ _. next_goes)
        (λ e.
        cond_both cursor.copied (stepped.Further (chunk_at cursor)) (stepped.On (steps.Settling (chunk_at cursor) settles.Looking)) Goes_on
        (λ _. (chunk_less, (due e, read.alive)))
        (λ _. (chunk_less, (due e, read.alive))))
      where
        Goes_on : Stepped → Type 0
        Goes_on y = (left_of_stepped y < left_of_step (steps.AtChunk cursor)) × IsSteppedRead mode words y

        due : not (done == 0) ≡ false → IsDueRead mode words cursor
        due e = record { some = read.some; root = read.root; due = is ∙ eqb-true done 0 (not-false (done == 0) e) }

        chunk_less : left_of_chunk (chunk_at cursor) settles.Looking < left_of_step (steps.AtChunk cursor)
        chunk_less = let l = end_most cursor in omega (arith, l)

  -- the words are loaded from a chunk of the table on
  first_within : (from to len limit number : ℕ) → IsSize len limit → words words_at.Root ≡ from → IsAlive mode words to
      → Within (2 ^ 102 + 1) (stepped.On (steps.AtChunk (first_cursor from to len mode number)))
  first_within from to len limit number size root alive =
      let within = start_within len number mode size.power in
      let low = start_low (number % chunk_count len (chunk_len mode)) mode in
      let most = size.most in
      (omega (arith, within, low, most), record { some = chunk_some mode; root = root; alive = alive })

  -- the chunk continues after the copy of a slot
  settled_within : (chunk : Chunk) (end : Settled) → IsDueRead mode words chunk.cursor → IsSettledRead mode words (slot_of chunk) end
      → Within ((chunk.end - chunk.at - 1) * 2 ^ 68 + left_of_settled end + 2) (settled_to chunk end)
  settled_within chunk (settled.On settle) due read = (omega arith, (due, read))
  settled_within chunk settled.Settled due read =
      cond_both (nat_lt (chunk.at + 1) chunk.end) (stepped.On (steps.Settling (next_slot chunk) settles.Looking))
      (stepped.On (steps.Advancing chunk.cursor)) (Within ((chunk.end - chunk.at - 1) * 2 ^ 68 + 0 + 2))
      (λ more. let l : chunk.at + 1 < chunk.end = ltb-true (chunk.at + 1) chunk.end more in (omega (arith, l), (due, read)))
      (λ over. (omega arith, (due, read)))
  settled_within chunk (settled.Unfit table) due read = (omega arith, due.root)
  settled_within chunk (settled.Refused refused) due read = (omega arith, tt)

module _ (mode : ResizeMode) (initial number : ℕ) (words words' : At → ℕ) (bare : IsBare words') where
  -- after this answer
  abbrev pub StepEnds : Step → Answer → Type 0
  StepEnds step answer = Nears answer (left_of_stepped (step_after step mode initial number answer)) (left_of_step step)
      × IsSteppedRead mode words' (step_after step mode initial number answer)

  -- a number stays one
  same_number : (t : ℕ) → words' (words_at.Next t) ≡ words (words_at.Next t) → IsNumber words (words_at.Next t) → IsNumber words' (words_at.Next t)
  same_number t same number = subst (λ n. (n ≡ 0) ⊎ ((t < n) × (n ≤ 2 ^ 32))) (sym same) number

  -- a table that was not given up still is not
  alive_after : (from to : ℕ) → IsAlive mode words to → words' (words_at.Aborted to) ≡ words (words_at.Aborted to) → IsAlive mode words' to
  alive_after from to alive same = still_alive mode words words' (record { from = from; index = 0; to = to }) 0 mode alive same

  -- the words that a cursor has read are unchanged
  pub same_cursor : (cursor : Cursor) → IsCursorRead mode words cursor → IsSame words words' → IsCursorRead mode words' cursor
  same_cursor cursor read same = record {
    some = read.some;
    root = same words_at.Root
        ∙ read.root;
    alive = alive_after cursor.from cursor.to read.alive (same (words_at.Aborted cursor.to));
  }

  -- in each state
  pub step_ends : (step : Step) (answer : Answer) → IsStepRead mode words step → IsCopyPrompt words (step_ask step) answer words' → StepEnds step answer
  step_ends steps.AtRoot answer read told = subst (StepEnds steps.AtRoot) (sym told.0.0) (inr (omega arith), told.1 words_at.Root)
  step_ends (steps.Aiming from behind) answer read told =
      let f = aimed_within mode words' mode from behind (words (words_at.Next behind)) (told.1 words_at.Root ∙ read) (told.1 (words_at.Next behind))
      (same_number behind (told.1 (words_at.Next behind)) told.0.1) in
      let l = f.0 in
      subst (StepEnds (steps.Aiming from behind)) (sym told.0.0) (inr (omega (arith, l)), f.1)
  step_ends (steps.Linking from link) answer read told =
      let e = link_ends mode words words' initial link answer read.1 told in
      let end : Linked = link_after link mode initial answer in
      let f = linked_within mode words' from end
      (stays_at words words' answer (link_ask link) told words_at.Root (link_puts link words_at.Root tt) ∙ read.0) e.1 in
      subst (λ y. Nears answer (left_of_stepped y) (left_of_link link) × IsSteppedRead mode words' y) (sym (step_links mode initial number from link answer))
      (nearer answer (left_of_linked end) (left_of_link link) _ _ e.0 (λ less. let l = f.0 in omega (arith, l, less)), f.1)
  step_ends (steps.Judging from to) answer read told =
      let f = judged_within mode words' from to (words (words_at.Aborted to)) (told.1 words_at.Root ∙ read) (told.1 (words_at.Aborted to)) in
      let l = f.0 in
      subst (StepEnds (steps.Judging from to)) (sym told.0.0) (inr (omega (arith, l)), f.1)
  step_ends (steps.Sizing from to) answer read told =
      let (slots, limit, size, e) = told.0 in
      let f = first_within mode words' from to slots limit number size (told.1 words_at.Root ∙ read.0)
      (alive_after from to read.1 (told.1 (words_at.Aborted to))) in
      let l = f.0 in
      subst (StepEnds (steps.Sizing from to)) (sym e) (inr (omega (arith, l)), f.1)
  step_ends (steps.AtChunk cursor) answer read told =
      let here : At = words_at.Done cursor.to cursor.at in
      let f = chunk_read_within mode words' cursor (same_cursor cursor read told.1) (words here) (told.1 here) in
      let l = f.0 in
      subst (StepEnds (steps.AtChunk cursor)) (sym told.0.0) (inr (omega (arith, l)), f.1)
  step_ends (steps.Settling chunk settle) answer read told =
      let e = settle_ends mode initial words words' bare (slot_of chunk) settle answer read.1 told in
      let end : Settled = settle_after settle (slot_of chunk) mode initial answer in
      let ask = settle_ask settle (slot_of chunk) in
      let here : At = words_at.Done chunk.cursor.to chunk.cursor.at in
      let due : IsDueRead mode words' chunk.cursor = record {
        some = read.0.some;
        root = stays_at words words' answer ask told words_at.Root (settle_puts settle (slot_of chunk) words_at.Root tt) ∙ read.0.root;
        due = stays_at words words' answer ask told here (settle_puts settle (slot_of chunk) here tt) ∙ read.0.due;
      } in
      let f = settled_within mode words' chunk end due e.1 in
      subst (λ y. Nears answer (left_of_stepped y) ((chunk.end - chunk.at - 1) * 2 ^ 68 + left_of_settle settle + 2) × IsSteppedRead mode words' y)
      (sym (step_settles mode initial number chunk settle answer))
      (nearer answer (left_of_settled end) (left_of_settle settle) _ _ e.0 (λ less. let l = f.0 in omega (arith, l, less)), f.1)
  step_ends (steps.Advancing cursor) answer read told =
      let here : At = words_at.Done cursor.to cursor.at in
      let done : (answer ≡ answers.Call Exchanged) × IsPut words here 1 words' = exchange_done _ _ (words here) 0 read.0.due told in
      let still : IsCursorRead mode words' (record cursor { copied = true }) =
      record {
        some = read.0.some;
        root = done.1.others words_at.Root (λ e. cc)
            ∙ read.0.root;
        alive = alive_after cursor.from cursor.to read.1 (done.1.others (words_at.Aborted cursor.to) (λ e. cc));
      } in
      subst (StepEnds (steps.Advancing cursor)) (sym done.0) (inl tt, (next_goes mode words' (record cursor { copied = true }) still).1)
  step_ends (steps.Promoting from to) answer read told =
      let done : (answer ≡ answers.Call Exchanged) × IsPut words words_at.Root to words' = exchange_done _ _ (words words_at.Root) from read told in
      subst (StepEnds (steps.Promoting from to)) (sym done.0) (inl tt, tt)
