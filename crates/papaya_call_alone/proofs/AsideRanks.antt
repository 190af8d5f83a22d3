-- How much is left to a call that is set aside after each answer, with no other caller beside it.
use Rattle.std.proofs.Common.{◌≡◌, ◌⊎◌, inl, inr, ⊎_elim, ℕ, ◌+◌, ◌*◌, ◌^◌, ◌<◌, ◌≤◌, ◌==◌, ◌&&◌}
use Rattle.std.proofs.Common.{nat_lt, not, cond, false, Some, refl, sym, ap, subst, arith, eqb-true}
use Rattle.std.proofs.lemmas.Bool.{cond_both}
use Rattle.papaya_words.specs.declared.resize_mode.ResizeMode.{ResizeMode}
use Rattle.papaya_words.specs.declared.resize_mode.ResizeMode.TheVariants.{Incremental, Blocking}
use Rattle.papaya_call.specs.declared.ask.At.{At}
use Rattle.papaya_call.specs.declared.ask.At.TheVariants as words_at
use Rattle.papaya_call.specs.declared.copy.copying.Aim.{Aim}
use Rattle.papaya_call.specs.declared.copy.link.Link.{Link}
use Rattle.papaya_call.specs.declared.copy.link.Link.TheVariants as links
use Rattle.papaya_call.specs.declared.copy.link.Linked.{Linked}
use Rattle.papaya_call.specs.declared.copy.link.Linked.TheVariants as linked
use Rattle.papaya_call.specs.declared.copy.settle.Settle.TheVariants as settles
use Rattle.papaya_call.specs.declared.copy.settle.Settled.{Settled}
use Rattle.papaya_call.specs.declared.copy.settle.Settled.TheVariants as settled
use Rattle.papaya_call.specs.declared.copy.step.Chunk.{Chunk}
use Rattle.papaya_call.specs.declared.copy.step.Cursor.{Cursor}
use Rattle.papaya_call.specs.declared.copy.step.Step.{Step}
use Rattle.papaya_call.specs.declared.copy.step.Step.TheVariants as steps
use Rattle.papaya_call.specs.declared.copy.step.Stepped.{Stepped}
use Rattle.papaya_call.specs.declared.copy.step.Stepped.TheVariants as stepped
use Rattle.papaya_call.specs.Link.{follows, link_ask}
use Rattle.papaya_call.specs.Step.{aimed, chunk_at, chunk_read, first_chunk, is_further, linked_to}
use Rattle.papaya_call.specs.Step.{next_chunk, next_cursor, next_slot, settled_to, slot_of}
use Rattle.papaya_call.specs.Step.{step_ask}
use Rattle.papaya_call.specs.declared.chain.ask.Answer.{Answer}
use Rattle.papaya_call.specs.declared.chain.machine.Machine.{Machine}
use Rattle.papaya_call.specs.ChainMachine.{after_linked, link_after}
use Rattle.papaya_call_law.specs.ChainRelies.{left_by}
use Rattle.papaya_call_alone.specs.Ahead.{IsCallRead}
use Rattle.papaya_call_alone.specs.Budget.{Budget, IsSpent, SpendsCopy}
use Rattle.papaya_call_alone.specs.Current.{IsIncremental, IsLinkedRead, IsLinkRead}
use Rattle.papaya_call_alone.specs.Measure.{left_of_link, left_of_linked, left_of_step}
use Rattle.papaya_call_alone.specs.Prompt.{IsCopyPrompt}
use Rattle.papaya_call_alone.specs.Rank.{rank, rank_of, rank_of_step}
use Rattle.papaya_call_alone.proofs.Afters.{settle_after, step_after, step_links, step_settles}
use Rattle.papaya_call_alone.proofs.LinkEnds.{link_ends, link_puts}
use Rattle.papaya_call_alone.proofs.SettleEnds.{settle_puts}
use Rattle.papaya_call_alone.proofs.Onwards.{onward_current}
use Rattle.papaya_call_alone.proofs.Telling.{IsPutAt, copy_spends, stays_at}

-- little is left to the making of a table
pub link_most : (link : Link) → left_of_link link ≤ 5
link_most (links.Sizing behind source unfit) = omega arith
link_most (links.Measuring behind source unfit len) = omega arith
link_most (links.Counting behind unfit len source) = omega arith
link_most (links.Making behind len limit chunks) = omega arith
link_most (links.Linking behind table chunks) = omega arith

module _ (words words' : At → ℕ) (before later : Budget) (m : Machine) where
  -- the budget is spent, or less is left; and the words that were read are unchanged
  abbrev pub Lowers : ℕ → Machine → Type 0
  Lowers most m' = (IsSpent before later ⊎ ((later ≡ before) × (rank_of (words' words_at.Root) m' < most))) × IsCallRead words' m'

  module _ (inc : IsIncremental m.call.mode) (link : Link) (left : (t : ℕ) → left_by m.call.state ≡ Some t → words' words_at.Root ≤ t)
      (behind : left_by m.call.state ≡ Some (follows link)) where
    -- the state after the making of a table
    linked_lowers : (end : Linked) → IsSpent before later ⊎ ((later ≡ before) × (left_of_linked end < left_of_link link)) → IsLinkedRead words' end
        → ((table : ℕ) → end ≡ linked.Table table → follows link < table) → Lowers (rank 1 0 (left_of_link link)) (after_linked m end)
    linked_lowers (linked.On link') nears read
        up = (
          ⊎_elim (λ (h : IsSpent before later). inl h)
              (λ (h : (later ≡ before) × (left_of_link link' < left_of_link link)). let l = h.1 in inr (h.0, omega (arith, l))) nears,
          (inc, read, left),
        )
    linked_lowers (linked.Table table) nears read up =
        let a : words' words_at.Root ≤ follows link = left (follows link) behind in
        let b : follows link < table = up table refl in (
          ⊎_elim (λ (h : IsSpent before later). inl h)
              (λ (h : (later ≡ before) × (2 * 2 ^ 102 < left_of_link link)). let l = h.1 in let most = link_most link in absurd (omega (arith, l, most)))
              nears,
          onward_current words' m inc table (omega (arith, a, b)) left,
        )
    linked_lowers (linked.Refused refused) nears read
        up = (⊎_elim (λ (h : IsSpent before later). inl h) (λ (h : (later ≡ before) × (0 < left_of_link link)). inr (h.0, omega arith)) nears, (tt, tt))

-- the making of the next table
pub linking_lowers : (words words' : At → ℕ) (before later : Budget) (m : Machine) → IsIncremental m.call.mode → (link : Link) → IsLinkRead words link
    → ((t : ℕ) → left_by m.call.state ≡ Some t → words words_at.Root ≤ t) → left_by m.call.state ≡ Some (follows link) → (answer : Answer)
    → IsCopyPrompt words (link_ask link) answer words' → SpendsCopy (link_ask link) answer before later
    → ((table : ℕ) → link_after link m.call.mode m.call.initial answer ≡ linked.Table table → follows link < table)
    → Lowers words words' before later m (rank 1 0 (left_of_link link)) (after_linked m (link_after link m.call.mode m.call.initial answer))
linking_lowers words words' before later m inc link read left behind answer prompt spends up =
    let e = link_ends m.call.mode words words' m.call.initial link answer read prompt in
    let same : words' words_at.Root ≡ words words_at.Root = stays_at words words' answer (link_ask link) prompt words_at.Root
    (link_puts link words_at.Root tt) in
    linked_lowers words words' before later m inc link (λ t h. let l = left t h in omega (arith, l, same)) behind
    (link_after link m.call.mode m.call.initial answer)
    (copy_spends words words' before later (link_ask link) answer prompt spends _ _ e.0) e.1 up

-- a chunk that has begun, and one that is not over yet
abbrev pub IsBegun : Step → Type 0
IsBegun steps.AtRoot = ⊥
IsBegun (steps.AtChunk cursor) = cursor.copied ≡ false
IsBegun _ = Unit {0}

abbrev pub IsMidway : Step → Type 0
IsMidway steps.AtRoot = ⊥
IsMidway (steps.AtChunk cursor) = cursor.copied ≡ false
IsMidway (steps.Advancing cursor) = ⊥
IsMidway (steps.Promoting from to) = ⊥
IsMidway _ = Unit {0}

abbrev pub Continues : Stepped → Type 0
Continues (stepped.On step) = IsBegun step
Continues (stepped.Refused refused) = Unit {0}
Continues _ = ⊥

-- a chunk that has begun ranks by what is left to it
pub begun_rank : (root : ℕ) (aim : Aim) (step : Step) → IsBegun step → rank_of_step root aim step ≡ rank 1 0 (left_of_step step)
begun_rank root aim steps.AtRoot h = absurd h
begun_rank root aim (steps.Aiming from behind) h = refl
begun_rank root aim (steps.Linking from link) h = refl
begun_rank root aim (steps.Judging from to) h = refl
begun_rank root aim (steps.Sizing from to) h = refl
begun_rank root aim (steps.AtChunk cursor) h = ap
    (λ b. cond b (rank 5 0 (left_of_step (steps.AtChunk cursor))) (rank 1 0 (left_of_step (steps.AtChunk cursor)))) h
begun_rank root aim (steps.Settling chunk settle) h = refl
begun_rank root aim (steps.Advancing cursor) h = refl
begun_rank root aim (steps.Promoting from to) h = refl

-- while it is not over it exchanges no root
pub step_puts : (step : Step) → IsMidway step → IsPutAt (step_ask step) words_at.Root → ⊥
step_puts steps.AtRoot h e = h
step_puts (steps.Aiming from behind) h e = e
step_puts (steps.Linking from link) h e = link_puts link words_at.Root tt e
step_puts (steps.Judging from to) h e = e
step_puts (steps.Sizing from to) h e = e
step_puts (steps.AtChunk cursor) h e = e
step_puts (steps.Settling chunk settle) h e = settle_puts settle (slot_of chunk) words_at.Root tt e
step_puts (steps.Advancing cursor) h e = h
step_puts (steps.Promoting from to) h e = h

-- the table behind has a next one, if none is made
abbrev pub HasNext : ResizeMode → (At → ℕ) → Step → Type 0
HasNext (Incremental chunk) words (steps.Aiming from behind) = 0 < words (words_at.Next behind)
HasNext _ words _ = Unit {0}

-- after each answer the making of a table continues, until it is over
linked_goes : (from : ℕ) (end : Linked) → Continues (linked_to from end)
linked_goes from (linked.On link) = tt
linked_goes from (linked.Table table) = tt
linked_goes from (linked.Refused refused) = tt

settled_goes : (chunk : Chunk) (end : Settled) → Continues (settled_to chunk end)
settled_goes chunk (settled.On settle) = tt
settled_goes chunk settled.Settled = cond_both (nat_lt (chunk.at + 1) chunk.end) (stepped.On (steps.Settling (next_slot chunk) settles.Looking))
    (stepped.On (steps.Advancing chunk.cursor)) Continues (λ _. tt) (λ _. tt)
settled_goes chunk (settled.Unfit table) = tt
settled_goes chunk (settled.Refused refused) = tt

next_goes : (cursor : Cursor) → cursor.copied ≡ false → IsBegun (next_cursor cursor)
next_goes cursor first =
    cond_both (is_further cursor) (steps.AtChunk (next_chunk cursor))
    (cond (not cursor.wrapped && nat_lt 0 cursor.start) (steps.AtChunk (first_chunk cursor)) (steps.Promoting cursor.from cursor.to)) IsBegun (λ _. first)
    (λ _. cond_both (not cursor.wrapped && nat_lt 0 cursor.start) (steps.AtChunk (first_chunk cursor)) (steps.Promoting cursor.from cursor.to) IsBegun
    (λ _. first) (λ _. tt))

chunk_read_goes : (cursor : Cursor) (done : ℕ) → cursor.copied ≡ false → Continues (chunk_read cursor done)
chunk_read_goes cursor done first =
    cond_both (not (done == 0)) (stepped.On (next_cursor cursor))
    (cond cursor.copied (stepped.Further (chunk_at cursor)) (stepped.On (steps.Settling (chunk_at cursor) settles.Looking))) Continues
    (λ _. next_goes cursor first)
    (λ _. cond_both cursor.copied (stepped.Further (chunk_at cursor)) (stepped.On (steps.Settling (chunk_at cursor) settles.Looking)) Continues
    (λ copied. absurd (cc (copied, first))) (λ _. tt))

-- after a chunk that was copied the next word has a lower rank
pub next_ranks : (root : ℕ) (aim : Aim) (cursor : Cursor) → left_of_step (next_cursor cursor) < left_of_step (steps.AtChunk cursor)
    → rank_of_step root aim (next_cursor cursor) < rank 5 0 (left_of_step (steps.AtChunk cursor))
next_ranks root aim cursor =
    cond_both (is_further cursor) (steps.AtChunk (next_chunk cursor))
    (cond (not cursor.wrapped && nat_lt 0 cursor.start) (steps.AtChunk (first_chunk cursor)) (steps.Promoting cursor.from cursor.to)) Falls
    (λ _. cursor_falls (next_chunk cursor))
    (λ _. cond_both (not cursor.wrapped && nat_lt 0 cursor.start) (steps.AtChunk (first_chunk cursor)) (steps.Promoting cursor.from cursor.to) Falls
    (λ _. cursor_falls (first_chunk cursor)) (λ _ less. omega arith))
  where
    Falls : Step → Type 0
    Falls step = left_of_step step < left_of_step (steps.AtChunk cursor) → rank_of_step root aim step < rank 5 0 (left_of_step (steps.AtChunk cursor))

    cursor_falls : (next : Cursor) → Falls (steps.AtChunk next)
    cursor_falls next less =
        cond_both next.copied (rank 5 0 (left_of_step (steps.AtChunk next))) (rank 1 0 (left_of_step (steps.AtChunk next)))
        (λ r. r < rank 5 0 (left_of_step (steps.AtChunk cursor)))
        (λ _. omega (arith, less)) (λ _. omega (arith, less))

aimed_goes : (mode : ResizeMode) (words : At → ℕ) (from behind : ℕ) → HasNext mode words (steps.Aiming from behind)
    → Continues (aimed from behind mode (words (words_at.Next behind)))
aimed_goes (Incremental chunk) words from behind some =
    cond_both (words (words_at.Next behind) == 0) (stepped.Last from) (stepped.On (steps.Sizing from (words (words_at.Next behind)))) Continues
    (λ e. let none : words (words_at.Next behind) ≡ 0 = eqb-true (words (words_at.Next behind)) 0 e in absurd (omega (arith, none, some)))
    (λ _. tt)
aimed_goes Blocking words from behind some =
    cond_both (words (words_at.Next behind) == 0) (stepped.On (steps.Linking from (links.Sizing behind from (not (behind == from)))))
    (stepped.On (steps.Judging from (words (words_at.Next behind)))) Continues (λ _. tt) (λ _. tt)

-- so a chunk continues until it is over
pub step_goes : (mode : ResizeMode) (initial number : ℕ) (words words' : At → ℕ) (step : Step) (answer : Answer) → IsMidway step
    → HasNext mode words step → IsCopyPrompt words (step_ask step) answer words' → Continues (step_after step mode initial number answer)
step_goes mode initial number words words' steps.AtRoot answer h next told = absurd h
step_goes mode initial number words words' (steps.Aiming from behind) answer h next
    told = subst (λ a. Continues (step_after (steps.Aiming from behind) mode initial number a)) (sym told.0.0) (aimed_goes mode words from behind next)
step_goes mode initial number words words' (steps.Linking from link) answer h next told = subst Continues
    (sym (step_links mode initial number from link answer)) (linked_goes from (link_after link mode initial answer))
step_goes mode initial number words words' (steps.Judging from to) answer h next told =
    subst (λ a. Continues (step_after (steps.Judging from to) mode initial number a)) (sym told.0.0)
    (cond_both (words (words_at.Aborted to) == 0) (steps.Sizing from to) (steps.Aiming from to) IsBegun (λ _. tt) (λ _. tt))
step_goes mode initial number words words' (steps.Sizing from to) answer h next told =
    let (slots, limit, size, e) = told.0 in
    subst (λ a. Continues (step_after (steps.Sizing from to) mode initial number a)) (sym e) refl
step_goes mode initial number words words' (steps.AtChunk cursor) answer h next
    told = subst (λ a. Continues (step_after (steps.AtChunk cursor) mode initial number a)) (sym told.0.0)
    (chunk_read_goes cursor (words (words_at.Done cursor.to cursor.at)) h)
step_goes mode initial number words words' (steps.Settling chunk settle) answer h next told = subst Continues
    (sym (step_settles mode initial number chunk settle answer)) (settled_goes chunk (settle_after settle (slot_of chunk) mode initial answer))
step_goes mode initial number words words' (steps.Advancing cursor) answer h next told = absurd h
step_goes mode initial number words words' (steps.Promoting from to) answer h next told = absurd h
