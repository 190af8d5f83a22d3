-- How much is left to a call that copies after each answer, with no other caller beside it.
use Rattle.std.proofs.Common.{◌≡◌, ◌⊎◌, inl, inr, ⊎_elim, ℕ, ◌+◌, ◌*◌, ◌^◌, ◌<◌, ◌≤◌, ◌==◌, ◌||◌}
use Rattle.std.proofs.Common.{not, Bool, true, false, cond, Some, refl, sym, ap, ◌∙◌, subst, arith}
use Rattle.std.proofs.Common.{eqb-true}
use Rattle.std.proofs.lemmas.Bool.{cases_Bool, cond_both}
use Rattle.papaya_words.specs.declared.resize_mode.ResizeMode.{ResizeMode}
use Rattle.papaya_words.specs.declared.resize_mode.ResizeMode.TheVariants.{Blocking}
use Rattle.papaya_call.specs.declared.ask.At.{At}
use Rattle.papaya_call.specs.declared.ask.At.TheVariants as words_at
use Rattle.papaya_call.specs.declared.ask.Answer.TheVariants.{Exchanged, Word as Word_read}
use Rattle.papaya_call.specs.declared.copy_ask.CopyAsk.TheVariants.{Exchange as Ask_exchange, Load}
use Rattle.papaya_call.specs.declared.machine.State.TheVariants.{AtRoot as At_root}
use Rattle.papaya_call.specs.declared.copy.copying.Aim.{Aim}
use Rattle.papaya_call.specs.declared.copy.copying.Aim.TheVariants as aims
use Rattle.papaya_call.specs.declared.copy.copying.Copied.{Copied}
use Rattle.papaya_call.specs.declared.copy.copying.Copied.TheVariants as copied
use Rattle.papaya_call.specs.declared.copy.copying.Copying.{Copying}
use Rattle.papaya_call.specs.declared.copy.copying.Copying.TheVariants as copyings
use Rattle.papaya_call.specs.declared.copy.settle.Settle.{Settle}
use Rattle.papaya_call.specs.declared.copy.settle.Settle.TheVariants as settles
use Rattle.papaya_call.specs.declared.copy.settle.Settled.{Settled}
use Rattle.papaya_call.specs.declared.copy.settle.Settled.TheVariants as settled
use Rattle.papaya_call.specs.declared.copy.settle.SlotToCopy.{SlotToCopy}
use Rattle.papaya_call.specs.declared.copy.step.Chunk.{Chunk}
use Rattle.papaya_call.specs.declared.copy.step.Cursor.{Cursor}
use Rattle.papaya_call.specs.declared.copy.step.Step.{Step}
use Rattle.papaya_call.specs.declared.copy.step.Step.TheVariants as steps
use Rattle.papaya_call.specs.declared.copy.step.Stepped.{Stepped}
use Rattle.papaya_call.specs.declared.copy.step.Stepped.TheVariants as stepped
use Rattle.papaya_call.specs.Settle.{settle_ask}
use Rattle.papaya_call.specs.Step.{chunk_at, chunk_read, next_cursor, step_ask}
use Rattle.papaya_call.specs.Copying.{all_of, copying_ask, further as further_of, leads, lone, over}
use Rattle.papaya_call.specs.declared.made.Number.TheVariants.{Wanted}
use Rattle.papaya_call.specs.declared.chain.ask.Answer.{Answer}
use Rattle.papaya_call.specs.declared.chain.ask.Answer.TheVariants as answers
use Rattle.papaya_call.specs.declared.chain.machine.Machine.{Machine}
use Rattle.papaya_call.specs.ChainMachine.{after_copied, copying_after}
use Rattle.papaya_call_law.specs.ChainRelies.{left_by}
use Rattle.papaya_call_law.specs.Alone.{IsBare, IsPut, IsSame}
use Rattle.papaya_call_law.specs.Copier.{aim_of}
use Rattle.papaya_call_law.proofs.AloneCurrent.{machine_stable}
use Rattle.papaya_call_law.proofs.AloneSteps.{exchange_done}
use Rattle.papaya_call_alone.specs.Ahead.{IsAsideAhead, IsCallRead}
use Rattle.papaya_call_alone.specs.Budget.{Budget, IsSpent, SpendsCopy}
use Rattle.papaya_call_alone.specs.Current.{IsCopiedRead, IsCopyingRead, IsIncremental, IsSettleRead, IsSteppedRead}
use Rattle.papaya_call_alone.specs.Measure.{further, left_of_chunk, left_of_copied, left_of_settle, left_of_step, left_of_stepped}
use Rattle.papaya_call_alone.specs.Prompt.{IsCopyPrompt}
use Rattle.papaya_call_alone.specs.Rank.{rank, rank_at_root, rank_of, rank_of_copying, rank_of_step}
use Rattle.papaya_call_alone.proofs.Afters.{copying_settles, copying_steps, settle_after, step_after}
use Rattle.papaya_call_alone.proofs.AsideRanks.{Continues, HasNext, IsBegun, IsMidway, Lowers, begun_rank, next_ranks, step_goes, step_puts}
use Rattle.papaya_call_alone.proofs.CopyEnds.{any_alive, copying_ends, same_aim}
use Rattle.papaya_call_alone.proofs.Onwards.{AimsAt, aim_read, anew_current, anew_rank, enters_current}
use Rattle.papaya_call_alone.proofs.SettleEnds.{settle_puts}
use Rattle.papaya_call_alone.proofs.StepEnds.{chunk_read_within, same_cursor}
use Rattle.papaya_call_alone.proofs.Telling.{copy_spends, stays_at}

-- it copies for one table
pub aims_one : (aim : Aim) (n n' : ℕ) → AimsAt aim n → AimsAt aim n' → n ≡ n'
aims_one (aims.Search t) n n' a b = sym a ∙ b
aims_one (aims.Settle slot) n n' a b = sym a ∙ b
aims_one aims.Chunk n n' a b = absurd a
aims_one (aims.All met) n n' a b = absurd a

-- the facts about a call that copies: it copies a chunk for a table, or it copies all
abbrev pub IsFor : Machine → Aim → Type 0
IsFor m aim = (IsIncremental m.call.mode × ((n : ℕ) × AimsAt aim n × ((t : ℕ) × (left_by m.call.state ≡ Some t) × (t < n))))
    ⊎ ((m.call.mode ≡ Blocking) × ((met : ℕ) × (aim ≡ aims.All met)))

-- the facts about the words in each state of a copy
abbrev pub IsKnown : ResizeMode → (At → ℕ) → Copying → Type 0
IsKnown how words (copyings.Stepping aim steps.AtRoot) = 0 < words words_at.Root
IsKnown how words (copyings.Stepping aim (steps.Promoting from to)) = (n : ℕ) → AimsAt aim n → to ≤ n
IsKnown how words (copyings.Stepping aim step) = HasNext how words step
IsKnown how words (copyings.Lone slot settle) = Unit {0}

module _ (words words' : At → ℕ) (bare : IsBare words) (bare' : IsBare words') (before later : Budget) (m : Machine) where
  -- how the map grows
  abbrev mode : ResizeMode
  mode = m.call.mode

  -- a call was set aside in a table that is no earlier than the root
  abbrev pub IsBehind : (At → ℕ) → Type 0
  IsBehind now = (t : ℕ) → IsIncremental mode → left_by m.call.state ≡ Some t → now words_at.Root ≤ t

  -- a chunk continues, and less is left
  led_lowers : (aim : Aim) (step : Step) → IsBehind words' → (end : Stepped) → Continues end → IsSpent before later
      ⊎ ((later ≡ before) × (left_of_copied (leads aim mode end) < left_of_step step)) → IsCopiedRead mode words' (leads aim mode end)
      → Lowers words words' before later m (rank 1 0 (left_of_step step)) (after_copied m (leads aim mode end))
  led_lowers aim step left (stepped.On step') goes nears read = (
    ⊎_elim (λ (h : IsSpent before later). inl h)
        (λ (h : (later ≡ before) × (left_of_step step' < left_of_step step)).
        let l = h.1 in
        inr (h.0, subst (λ r. r < rank 1 0 (left_of_step step)) (sym (begun_rank (words' words_at.Root) aim step' goes)) (omega (arith, l))))
        nears,
    (read, left),
  )
  led_lowers aim step left (stepped.Refused refused) goes nears read =
      (⊎_elim (λ (h : IsSpent before later). inl h) (λ (h : (later ≡ before) × (0 < left_of_step step)). inr (h.0, omega arith)) nears, (tt, tt))
  led_lowers aim step left (stepped.Root root) goes nears read = absurd goes
  led_lowers aim step left (stepped.Last table) goes nears read = absurd goes
  led_lowers aim step left (stepped.Further chunk) goes nears read = absurd goes
  led_lowers aim step left stepped.Over goes nears read = absurd goes

  -- a chunk that is not over yet
  midway_lowers : (aim : Aim) (step : Step) (answer : Answer) → IsMidway step → IsBegun step → HasNext mode words step → IsBehind words
      → IsCopyingRead mode words (copyings.Stepping aim step) → IsCopyPrompt words (step_ask step) answer words' → SpendsCopy (step_ask step) answer before later
      → Lowers words words' before later m (rank_of_step (words words_at.Root) aim step)
      (after_copied m (copying_after (copyings.Stepping aim step) mode m.call.initial m.number answer))
  midway_lowers aim step answer midway begun next left read told spends =
      let initial : ℕ = m.call.initial in
      let end : Stepped = step_after step mode initial m.number answer in
      let led = copying_steps mode initial m.number aim step answer in
      let e = copying_ends mode initial m.number words words' bare' (copyings.Stepping aim step) answer read told in
      let f = copy_spends words words' before later (step_ask step) answer told spends _ _ e.0 in
      let same : words' words_at.Root ≡ words words_at.Root = stays_at words words' answer (step_ask step) told words_at.Root (step_puts step midway) in
      subst (λ r. Lowers words words' before later m r (after_copied m (copying_after (copyings.Stepping aim step) mode initial m.number answer)))
      (sym (begun_rank (words words_at.Root) aim step begun))
      (subst (λ y. Lowers words words' before later m (rank 1 0 (left_of_step step)) (after_copied m y)) (sym led)
      (led_lowers aim step (λ t how h. let l = left t how h in omega (arith, l, same)) end
      (step_goes mode initial m.number words words' step answer midway next told)
      (subst (λ y. IsSpent before later ⊎ ((later ≡ before) × (left_of_copied y < left_of_step step))) led f) (subst (IsCopiedRead mode words') led e.1)))

  -- the copy of a slot of its own
  loned_lowers : IsIncremental mode → (slot : SlotToCopy) (settle : Settle) → words' words_at.Root ≤ slot.to → (end : Settled) → IsSpent before later
      ⊎ ((later ≡ before) × (left_of_copied (lone slot end) < left_of_settle settle)) → IsCopiedRead mode words' (lone slot end)
      → Lowers words words' before later m (rank 2 (further slot.to + 1) (left_of_settle settle)) (after_copied m (lone slot end))
  loned_lowers inc slot settle least (settled.On settle') nears
      read = (
        ⊎_elim (λ (h : IsSpent before later). inl h)
            (λ (h : (later ≡ before) × (left_of_settle settle' < left_of_settle settle)). let l = h.1 in inr (h.0, omega (arith, l))) nears,
        (read, least),
      )
  loned_lowers inc slot settle least settled.Settled nears
      read = (
        ⊎_elim (λ (h : IsSpent before later). inl h) (λ (h : (later ≡ before) × (0 < left_of_settle settle)). inr (h.0, omega arith)) nears,
        enters_current words' m inc slot.to least,
      )
  loned_lowers inc slot settle least (settled.Unfit table) nears
      read = (
        ⊎_elim (λ (h : IsSpent before later). inl h) (λ (h : (later ≡ before) × (0 < left_of_settle settle)). inr (h.0, omega arith)) nears,
        enters_current words' m inc slot.to least,
      )
  loned_lowers inc slot settle least (settled.Refused refused) nears
      read = (⊎_elim (λ (h : IsSpent before later). inl h) (λ (h : (later ≡ before) × (0 < left_of_settle settle)). inr (h.0, omega arith)) nears, (tt, tt))

  -- a slot of its own is copied
  lone_lowers : IsIncremental mode → (slot : SlotToCopy) (settle : Settle) (answer : Answer) → words words_at.Root ≤ slot.to
      → IsSettleRead mode words slot settle → IsCopyPrompt words (settle_ask settle slot) answer words' → SpendsCopy (settle_ask settle slot) answer before later
      → Lowers words words' before later m (rank 2 (further slot.to + 1) (left_of_settle settle))
      (after_copied m (copying_after (copyings.Lone slot settle) mode m.call.initial m.number answer))
  lone_lowers inc slot settle answer least read told spends =
      let initial : ℕ = m.call.initial in
      let end : Settled = settle_after settle slot mode initial answer in
      let led = copying_settles mode initial m.number slot settle answer in
      let e = copying_ends mode initial m.number words words' bare' (copyings.Lone slot settle) answer read told in
      let f = copy_spends words words' before later (settle_ask settle slot) answer told spends _ _ e.0 in
      let same : words' words_at.Root ≡ words words_at.Root = stays_at words words' answer (settle_ask settle slot) told words_at.Root
      (settle_puts settle slot words_at.Root tt) in
      subst (λ y. Lowers words words' before later m (rank 2 (further slot.to + 1) (left_of_settle settle)) (after_copied m y)) (sym led)
      (loned_lowers inc slot settle (omega (arith, same, least)) end
      (subst (λ y. IsSpent before later ⊎ ((later ≡ before) × (left_of_copied y < left_of_settle settle))) led f) (subst (IsCopiedRead mode words') led e.1))

  -- a chunk is over, without blocking: the call continues in the next table, or copies its slot
  -- first
  over_current : IsIncremental mode → (aim : Aim) (n : ℕ) → AimsAt aim n → words' words_at.Root ≤ n → IsCallRead words' (after_copied m (over aim))
  over_current inc (aims.Search t) n is least = enters_current words' m inc t (omega (arith, is, least))
  over_current inc (aims.Settle slot) n is least = (any_alive mode words' mode slot.to inc, omega (arith, is, least))
  over_current inc aims.Chunk n is least = absurd is
  over_current inc (aims.All met) n is least = absurd is

  -- either way the words that were read are unchanged when a chunk is over
  overs_current : (aim : Aim) → IsFor m aim → ((n : ℕ) → AimsAt aim n → words' words_at.Root ≤ n) → IsCallRead words' (after_copied m (over aim))
  overs_current aim (inl (inc, (n, is, t))) least = over_current inc aim n is (least n is)
  overs_current aim (inr (blocks, (met, is))) least = subst (λ a. IsCallRead words' (after_copied m (over a))) (sym is)
      ((tt, tt), λ t how e. absurd (subst IsIncremental blocks how))

  -- the table for which it copies is behind the root
  aim_least : (aim : Aim) → IsFor m aim → IsBehind words → words' words_at.Root ≡ words words_at.Root → (n : ℕ) → AimsAt aim n → words' words_at.Root ≤ n
  aim_least aim (inl (inc, (n', is', (t, e, up)))) left same n is = let l = left t inc e in let q : n ≡ n' = aims_one aim n n' is is' in
      omega (arith, l, same, up, q)
  aim_least aim (inr (blocks, (met, e))) left same n is = absurd (subst (λ a. AimsAt a n) e is)

  -- the chunk was copied, and its word was set to state that
  advancing_lowers : (aim : Aim) (cursor : Cursor) (answer : Answer) → IsBehind words
      → IsCopyingRead mode words (copyings.Stepping aim (steps.Advancing cursor)) → IsCopyPrompt words (step_ask (steps.Advancing cursor)) answer words'
      → SpendsCopy (step_ask (steps.Advancing cursor)) answer before later
      → Lowers words words' before later m (rank 1 0 1)
      (after_copied m (copying_after (copyings.Stepping aim (steps.Advancing cursor)) mode m.call.initial m.number answer))
  advancing_lowers aim cursor answer left read told spends =
      let here : At = words_at.Done cursor.to cursor.at in
      let done : (answer ≡ answers.Call Exchanged) × IsPut words here 1 words' = exchange_done _ _ (words here) 0 read.1.0.due told in
      let same : words' words_at.Root ≡ words words_at.Root = done.1.others words_at.Root (λ e. cc) in
      let e = copying_ends mode m.call.initial m.number words words' bare' (copyings.Stepping aim (steps.Advancing cursor)) answer read told in (
        inl (inr (subst (λ a. SpendsCopy (Ask_exchange here 0 1) a before later) done.0 spends)),
        subst (λ a. IsCopiedRead mode words' (copying_after (copyings.Stepping aim (steps.Advancing cursor)) mode m.call.initial m.number a)
            → IsCallRead words' (after_copied m (copying_after (copyings.Stepping aim (steps.Advancing cursor)) mode m.call.initial m.number a))) (sym done.0)
            (λ there. (there, λ t how e. let l = left t how e in omega (arith, l, same))) e.1,
      )

  -- a chunk was copied before: no word is exchanged, so this is over at the next chunk that is not copied
  further_lowers : (aim : Aim) (chunk : Chunk) (left : ℕ) → IsFor m aim → IsBehind words' → ((n : ℕ) → AimsAt aim n → words' words_at.Root ≤ n)
      → IsSteppedRead mode words' (stepped.Further chunk) → left_of_chunk chunk settles.Looking < left
      → (rank_of (words' words_at.Root) (after_copied m (further_of aim chunk)) < rank 5 0 left) × IsCallRead words' (after_copied m (further_of aim chunk))
  further_lowers (aims.Search t) chunk left which behind least read less = (omega arith, overs_current (aims.Search t) which least)
  further_lowers (aims.Settle slot) chunk left which behind least read less = (omega arith, overs_current (aims.Settle slot) which least)
  further_lowers aims.Chunk chunk left (inl which) behind least read less = absurd which.1.1
  further_lowers aims.Chunk chunk left (inr which) behind least read less = let e = which.1.1 in absurd (cc e)
  further_lowers (aims.All met) chunk left which behind least read less = (omega (arith, less), ((tt, read), behind))

  round_lowers : (aim : Aim) (cursor : Cursor) (answer : Answer) → cursor.copied ≡ true → IsFor m aim → IsBehind words
      → IsCopyingRead mode words (copyings.Stepping aim (steps.AtChunk cursor)) → IsCopyPrompt words (step_ask (steps.AtChunk cursor)) answer words'
      → SpendsCopy (step_ask (steps.AtChunk cursor)) answer before later
      → Lowers words words' before later m (rank 5 0 (left_of_step (steps.AtChunk cursor)))
      (after_copied m (copying_after (copyings.Stepping aim (steps.AtChunk cursor)) mode m.call.initial m.number answer))
  round_lowers aim cursor answer copied which left read told spends =
      subst (λ a. SpendsCopy (step_ask (steps.AtChunk cursor)) a before later
      → Lowers words words' before later m most
      (after_copied m (copying_after (copyings.Stepping aim (steps.AtChunk cursor)) mode m.call.initial m.number a))) (sym told.0.0)
      (λ kept. (inr (kept, led.0), led.1)) spends
    where
      most : ℕ
      most = rank 5 0 (left_of_step (steps.AtChunk cursor))

      same : words' words_at.Root ≡ words words_at.Root
      same = told.1 words_at.Root

      behind : IsBehind words'
      behind t how e = let l = left t how e in omega (arith, l, same)

      done : ℕ
      done = words (words_at.Done cursor.to cursor.at)

      Fits : Stepped → Type 0
      Fits end = (left_of_stepped end < left_of_step (steps.AtChunk cursor)) × IsSteppedRead mode words' end

      Led : Stepped → Type 0
      Led end = (rank_of (words' words_at.Root) (after_copied m (leads aim mode end)) < most) × IsCallRead words' (after_copied m (leads aim mode end))

      led : Led (chunk_read cursor done)
      led =
          cond_both (not (done == 0)) (stepped.On (next_cursor cursor))
          (cond cursor.copied (stepped.Further (chunk_at cursor)) (stepped.On (steps.Settling (chunk_at cursor) settles.Looking))) (λ y. Fits y → Led y)
          (λ e h. (next_ranks (words' words_at.Root) aim cursor h.0, ((same_aim mode m.call.initial m.number words words' bare' aim read.0, h.1), behind)))
          (λ e.
          cond_both cursor.copied (stepped.Further (chunk_at cursor)) (stepped.On (steps.Settling (chunk_at cursor) settles.Looking)) (λ y. Fits y → Led y)
          (λ _ h. further_lowers aim (chunk_at cursor) (left_of_step (steps.AtChunk cursor)) which behind (aim_least aim which left same) h.1 h.0)
          (λ first h. absurd (cc (first, copied))))
          (chunk_read_within mode words' cursor (same_cursor mode m.call.initial m.number words words' bare' cursor read.1 told.1) done
          (told.1 (words_at.Done cursor.to cursor.at)))

  -- the word of a chunk is loaded
  at_chunk_lowers : (aim : Aim) (cursor : Cursor) (answer : Answer) → IsFor m aim → HasNext mode words (steps.AtChunk cursor) → IsBehind words
      → IsCopyingRead mode words (copyings.Stepping aim (steps.AtChunk cursor)) → IsCopyPrompt words (step_ask (steps.AtChunk cursor)) answer words'
      → SpendsCopy (step_ask (steps.AtChunk cursor)) answer before later
      → Lowers words words' before later m (rank_of_step (words words_at.Root) aim (steps.AtChunk cursor))
      (after_copied m (copying_after (copyings.Stepping aim (steps.AtChunk cursor)) mode m.call.initial m.number answer))
  at_chunk_lowers aim cursor answer which next left read told spends =
      ⊎_elim
      (λ (e : cursor.copied ≡ true). subst (λ b.
      Lowers words words' before later m (cond b (rank 5 0 (left_of_step (steps.AtChunk cursor))) (rank 1 0 (left_of_step (steps.AtChunk cursor))))
      (after_copied m (copying_after (copyings.Stepping aim (steps.AtChunk cursor)) mode m.call.initial m.number answer))) (sym e)
      (round_lowers aim cursor answer e which left read told spends))
      (λ (e : cursor.copied ≡ false). midway_lowers aim (steps.AtChunk cursor) answer e e next left read told spends)
      (cases_Bool cursor.copied)

  -- all was copied, and the other table becomes the root
  promoting_lowers : (aim : Aim) (from to : ℕ) (answer : Answer) → IsFor m aim → ((n : ℕ) → AimsAt aim n → to ≤ n)
      → IsCopyingRead mode words (copyings.Stepping aim (steps.Promoting from to))
      → IsCopyPrompt words (step_ask (steps.Promoting from to)) answer words' → SpendsCopy (step_ask (steps.Promoting from to)) answer before later
      → Lowers words words' before later m (rank 1 0 1)
      (after_copied m (copying_after (copyings.Stepping aim (steps.Promoting from to)) mode m.call.initial m.number answer))
  promoting_lowers aim from to answer which least read told spends =
      let done : (answer ≡ answers.Call Exchanged) × IsPut words words_at.Root to words' = exchange_done _ _ (words words_at.Root) from read.1 told in
      let root : words' words_at.Root ≡ to = done.1.here in (
        inl (inr (subst (λ a. SpendsCopy (Ask_exchange words_at.Root from to) a before later) done.0 spends)),
        subst (λ a. IsCallRead words' (after_copied m
            (copying_after (copyings.Stepping aim (steps.Promoting from to)) mode m.call.initial m.number a))) (sym done.0)
            (overs_current aim which (λ n is. let l = least n is in omega (arith, l, root))),
      )

  -- a chunk begins at the root, for one table
  one_lowers : IsIncremental mode → (aim : Aim) (root : ℕ) → 0 < root → words' words_at.Root ≡ root → IsBehind words' → later ≡ before
      → (end : Copied) → end ≡ cond (root == 0) (over aim) (copied.On (copyings.Stepping aim (steps.Aiming root root)))
      → Lowers words words' before later m (rank 1 0 (2 * 2 ^ 102)) (after_copied m end)
  one_lowers inc aim root some is left kept end e =
      subst (λ y. Lowers words words' before later m (rank 1 0 (2 * 2 ^ 102)) (after_copied m y)) (sym e)
      (cond_both (root == 0) (over aim) (copied.On (copyings.Stepping aim (steps.Aiming root root)))
      (λ y. Lowers words words' before later m (rank 1 0 (2 * 2 ^ 102)) (after_copied m y))
      (λ none. let z : root ≡ 0 = eqb-true root 0 none in absurd (omega (arith, z, some)))
      (λ _. (inr (kept, omega arith), ((aim_read words' m inc aim, is), left))))

  -- and for all of the root, if it is the root that was met
  met_lowers : mode ≡ Blocking → (met root : ℕ) → words' words_at.Root ≡ root → IsSame words words' → words words_at.Root ≡ root → later ≡ before → (b : Bool)
      → Lowers words words' before later m (cond b (rank 1 0 (2 * 2 ^ 102)) (rank 3 0 0))
      (after_copied m (cond b (copied.On (copyings.Stepping (aims.All root) (steps.Aiming root root))) (copied.Root root)))
  met_lowers blocks met root is same was kept true = (inr (kept, omega arith), ((tt, is), λ t how e. absurd (subst IsIncremental blocks how)))
  met_lowers blocks met root is same was kept false =
      subst (λ r. Lowers words words' before later m (rank 3 0 0) (after_copied m (copied.Root r))) is (
        inr (kept, anew_rank words' m),
        anew_current words' m (machine_stable words words' (record m.call { state = At_root; made = record m.call.made { number = Wanted } }) bare
            (Word_read (words' words_at.Root)) tt tt (ap Word_read (same words_at.Root), same)).read,
      )

  -- a chunk begins at the root
  at_root_lowers : (aim : Aim) (answer : Answer) → IsFor m aim → 0 < words words_at.Root → IsBehind words
      → IsCopyPrompt words (Load words_at.Root) answer words' → SpendsCopy (Load words_at.Root) answer before later
      → Lowers words words' before later m (rank_at_root (words words_at.Root) aim)
      (after_copied m (copying_after (copyings.Stepping aim steps.AtRoot) mode m.call.initial m.number answer))
  at_root_lowers aim answer which some left told spends =
      subst (λ a. SpendsCopy (Load words_at.Root) a before later
      → Lowers words words' before later m (rank_at_root (words words_at.Root) aim)
      (after_copied m (copying_after (copyings.Stepping aim steps.AtRoot) mode m.call.initial m.number a))) (sym told.0.0)
      (λ kept. ⊎_elim
      (λ (h : IsIncremental mode × ((n : ℕ) × AimsAt aim n × ((t : ℕ) × (left_by m.call.state ≡ Some t) × (t < n)))). by_aim aim h.0 h.1.0 h.1.1 kept)
      (λ (h : (mode ≡ Blocking) × ((met : ℕ) × (aim ≡ aims.All met))). by_all aim h.1.0 h.1.1 h.0 kept)
      which)
      spends
    where
      later_left : IsBehind words'
      later_left t how e = let l = left t how e in let s = told.1 words_at.Root in omega (arith, l, s)

      by_aim : (aim : Aim) → IsIncremental mode → (n : ℕ) → AimsAt aim n → later ≡ before
          → Lowers words words' before later m (rank_at_root (words words_at.Root) aim)
          (after_copied m (copying_after (copyings.Stepping aim steps.AtRoot) mode m.call.initial m.number (answers.Call (Word_read (words words_at.Root)))))
      by_aim (aims.Search t) inc n is kept = one_lowers inc (aims.Search t) (words words_at.Root) some (told.1 words_at.Root) later_left kept _ refl
      by_aim (aims.Settle slot) inc n is kept = one_lowers inc (aims.Settle slot) (words words_at.Root) some (told.1 words_at.Root) later_left kept _ refl
      by_aim aims.Chunk inc n is kept = absurd is
      by_aim (aims.All met) inc n is kept = absurd is

      by_all : (aim : Aim) (met : ℕ) → aim ≡ aims.All met → mode ≡ Blocking → later ≡ before
          → Lowers words words' before later m (rank_at_root (words words_at.Root) aim)
          (after_copied m (copying_after (copyings.Stepping aim steps.AtRoot) mode m.call.initial m.number (answers.Call (Word_read (words words_at.Root)))))
      by_all aim met is blocks kept =
          subst (λ a. Lowers words words' before later m (rank_at_root (words words_at.Root) a)
          (after_copied m (copying_after (copyings.Stepping a steps.AtRoot) mode m.call.initial m.number
          (answers.Call (Word_read (words words_at.Root)))))) (sym is)
          (subst (λ how. Lowers words words' before later m (rank_at_root (words words_at.Root) (aims.All met))
          (after_copied m (copying_after (copyings.Stepping (aims.All met) steps.AtRoot) how m.call.initial m.number
          (answers.Call (Word_read (words words_at.Root)))))) (sym blocks)
          (cond_both (words words_at.Root == 0) (copied.Root 0) (all_of met Blocking (words words_at.Root))
          (λ y. Lowers words words' before later m (rank_at_root (words words_at.Root) (aims.All met)) (after_copied m y))
          (λ none. let z : words words_at.Root ≡ 0 = eqb-true (words words_at.Root) 0 none in absurd (omega (arith, z, some)))
          (λ _. met_lowers blocks met (words words_at.Root) (told.1 words_at.Root) told.1 refl kept (met == 0 || met == words words_at.Root))))

  -- in each state
  pub copying_lowers : (copying : Copying) (answer : Answer) → IsFor m (aim_of copying) → IsAsideAhead mode words m.call.state copying
      → IsCopyingRead mode words copying → IsKnown mode words copying → IsCopyPrompt words (copying_ask copying) answer words'
      → SpendsCopy (copying_ask copying) answer before later
      → Lowers words words' before later m (rank_of_copying (words words_at.Root) copying)
      (after_copied m (copying_after copying mode m.call.initial m.number answer))
  copying_lowers (copyings.Stepping aim steps.AtRoot) answer which left read known told spends = at_root_lowers aim answer which known left told spends
  copying_lowers (copyings.Stepping aim (steps.Aiming from behind)) answer which left read known told spends = midway_lowers aim
      (steps.Aiming from behind) answer tt tt known left read told spends
  copying_lowers (copyings.Stepping aim (steps.Linking from link)) answer which left read known told spends = midway_lowers aim
      (steps.Linking from link) answer tt tt known left read told spends
  copying_lowers (copyings.Stepping aim (steps.Judging from to)) answer which left read known told spends = midway_lowers aim (steps.Judging from to)
      answer tt tt known left read told spends
  copying_lowers (copyings.Stepping aim (steps.Sizing from to)) answer which left read known told spends = midway_lowers aim (steps.Sizing from to)
      answer tt tt known left read told spends
  copying_lowers (copyings.Stepping aim (steps.AtChunk cursor)) answer which left read known told spends = at_chunk_lowers aim cursor answer which
      known left read told spends
  copying_lowers (copyings.Stepping aim (steps.Settling chunk settle)) answer which left read known told spends = midway_lowers aim
      (steps.Settling chunk settle) answer tt tt known left read told spends
  copying_lowers (copyings.Stepping aim (steps.Advancing cursor)) answer which left read known told spends = advancing_lowers aim cursor answer left
      read told spends
  copying_lowers (copyings.Stepping aim (steps.Promoting from to)) answer which left read known told spends = promoting_lowers aim from to answer
      which known read told spends
  copying_lowers (copyings.Lone slot settle) answer (inl which) left read known told spends = lone_lowers which.0 slot settle answer left read told spends
  copying_lowers (copyings.Lone slot settle) answer (inr which) left read known told spends = absurd (not_all which.1.0 which.1.1)
    where
      not_all : (met : ℕ) → aims.Settle slot ≡ aims.All met → ⊥
      not_all met e = cc e
