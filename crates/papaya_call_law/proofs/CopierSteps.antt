-- The facts that the copy of a chunk relies on after each answer.
use Rattle.std.proofs.Common.{◌≡◌, cond, inl, inr, ⊎_elim, ℕ, ◌+◌, ◌<◌, ◌≤◌, ◌==◌, nat_lt, not}
use Rattle.std.proofs.Common.{ltb-true, ltb-false, true, Option, Some, refl, sym, ap, ◌∙◌, subst}
use Rattle.std.proofs.Common.{arith, eq-eqb, eqb-true}
use Rattle.std.proofs.lemmas.Bool.{cases_lt, cond_both}
use Rattle.papaya_words.specs.declared.refused.Refused.{Refused}
use Rattle.papaya_words.specs.declared.resize_mode.ResizeMode.{ResizeMode}
use Rattle.papaya_words.specs.declared.resize_mode.ResizeMode.TheVariants.{Incremental, Blocking}
use Rattle.papaya_call.specs.declared.ask.At.{At}
use Rattle.papaya_call.specs.declared.ask.At.TheVariants.{Root, Next, Aborted, Done}
use Rattle.papaya_call.specs.declared.ask.StepKind.TheVariants as kinds
use Rattle.papaya_call.specs.declared.copy_ask.CopyAsk.TheVariants.{Exchange as Ask_exchange, HashOf, Load, LoadHint, SamePair, SizeOf, WriteHint}
use Rattle.papaya_call.specs.declared.copy.link.Link.TheVariants as links
use Rattle.papaya_call.specs.declared.copy.link.Linked.{Linked}
use Rattle.papaya_call.specs.declared.copy.link.Linked.TheVariants as linked
use Rattle.papaya_call.specs.declared.copy.settle.Settle.TheVariants as settles
use Rattle.papaya_call.specs.declared.copy.settle.Settled.{Settled}
use Rattle.papaya_call.specs.declared.copy.settle.Settled.TheVariants as settled
use Rattle.papaya_call.specs.declared.copy.step.Chunk.{Chunk}
use Rattle.papaya_call.specs.declared.copy.step.Cursor.{Cursor}
use Rattle.papaya_call.specs.declared.copy.step.Step.{Step}
use Rattle.papaya_call.specs.declared.copy.step.Step.TheVariants as steps
use Rattle.papaya_call.specs.declared.copy.step.Stepped.TheVariants as stepped
use Rattle.papaya_call.specs.Link.{follows, at_count as link_at_count}
use Rattle.papaya_call.specs.Link.{at_exchanged as link_at_exchanged, at_found as link_at_found}
use Rattle.papaya_call.specs.Link.{at_refused as link_at_refused}
use Rattle.papaya_call.specs.Settle.{at_count as settle_at_count}
use Rattle.papaya_call.specs.Settle.{at_exchanged as settle_at_exchanged}
use Rattle.papaya_call.specs.Settle.{at_found as settle_at_found, at_ok as settle_at_ok}
use Rattle.papaya_call.specs.Settle.{at_refused as settle_at_refused, at_word as settle_at_word}
use Rattle.papaya_call.specs.Settle.{at_yes as settle_at_yes}
use Rattle.papaya_call.specs.Step.{advanced, aimed, at_count, at_exchanged, at_found, at_hash}
use Rattle.papaya_call.specs.Step.{at_made, at_ok, at_refused, at_size, at_word, at_yes, chunk_at}
use Rattle.papaya_call.specs.Step.{chunk_read, first_cursor, linked_to, next_cursor, next_slot}
use Rattle.papaya_call.specs.Step.{settled_to, slot_of, step_ask, step_follows, step_kind}
use Rattle.papaya_words_law.specs.Allows.{Allows}
use Rattle.papaya_words_law.specs.Class.{IsOn}
use Rattle.papaya_words_law.specs.Code.{Coding, IsHashed}
use Rattle.papaya_words_law.specs.Copying.{IsSettled, IsTarget}
use Rattle.papaya_words_law.specs.Exchange.{Setting, State, Exchange, Advance, after}
use Rattle.papaya_words_law.specs.Hints.{IsHint}
use Rattle.papaya_words_law.specs.Invariant.{IsKeeping}
use Rattle.papaya_words_law.specs.Meaning.{map_after}
use Rattle.papaya_words_law.proofs.Copies.{first_target, next_target}
use Rattle.papaya_words_law.proofs.CopierFacts.{target_on}
use Rattle.papaya_words_law.proofs.OneMap.{keeping_sound}
use Rattle.papaya_call_law.specs.Copier.{IsAimed, IsChunk, IsCopyAsked, IsCursor, ReliesLinked, ReliesSettled, ReliesStep, ReliesStepped, last_after, told_last}
use Rattle.papaya_call_law.specs.Relies.{IsCutAs, IsModeOf}
use Rattle.papaya_call_law.specs.TrueAnswers.{word_of}
use Rattle.papaya_call_law.proofs.CopierCarries.{above, links_next, no_hash, no_hint, no_load, no_note, no_same}
use Rattle.papaya_call_law.proofs.CopierExchange.{IsKnown, aborted_some, chunk_known, done_here}
use Rattle.papaya_call_law.proofs.CopierLinks.{link_counted, link_exchanged, link_found, link_made, link_refused, link_sized, made_follows, sized_follows}
use Rattle.papaya_call_law.proofs.CopierGuarantee.{root_on}
use Rattle.papaya_call_law.proofs.CopierCursors.{chunk_begins, first_relies, next_relies}
use Rattle.papaya_call_law.proofs.CopierSettles.{keeps', later, link_last, settle_compared}
use Rattle.papaya_call_law.proofs.CopierSettles.{settle_counted, settle_found, settle_hashed}
use Rattle.papaya_call_law.proofs.CopierSettles.{settle_hinted, settle_loaded, settle_made}
use Rattle.papaya_call_law.proofs.CopierSettles.{settle_noted, settle_refused, settle_sized}
use Rattle.papaya_call_law.proofs.CopierSettles.{still_on, zero_next}
use Rattle.papaya_call_law.proofs.CopierSettlesMade.{settle_exchanged}
use Rattle.papaya_call_law.proofs.CopierStable.{step_stable}

module _ {K P : Type 0} (g : Setting K P) (c : Coding K P) (hashed : IsHashed g c) (s : State P) (m : K → Option P) (keeps : IsKeeping g s m) where
  -- the table behind is, or was, a target of copies
  aimed_target : (from behind next : ℕ) → IsAimed g c s from behind → s.next behind ≡ next → 0 < next → IsTarget g s from next
  aimed_target from behind next r is some =
      let more : 0 < s.next behind = subst (λ y. 0 < y) (sym is) some in
      subst (IsTarget g s from) is
      (⊎_elim
      (λ (e : behind ≡ from). subst (λ y. 0 < s.next y → IsTarget g s from (s.next y)) (sym e) (λ h. first_target g s from h) more)
      (λ h. next_target g s h.0 from behind h.1 h.2 more)
      r.given_up)

  -- and it is on the chain
  pub aimed_on : (from behind : ℕ) → IsAimed g c s from behind → IsOn s.first s.next behind
  aimed_on from behind r =
      let on : IsOn s.first s.next from = root_on g c s m keeps from r.was in
      ⊎_elim (λ (e : behind ≡ from). subst (IsOn s.first s.next) (sym e) on) (λ h. target_on g s (keeping_sound g s m keeps).rises from behind on h.1)
      r.given_up

  -- the slot that is copied now
  pub known_slot : (chunk : Chunk) → IsChunk g c s chunk → IsKnown g c hashed s m keeps (slot_of chunk)
  known_slot chunk r = chunk_known g c hashed s m keeps (slot_of chunk) r.cursor.source
      (let a = r.at in let b = r.within in let d = r.cursor.len in omega (arith, a, b, d))

  module _ (last kept : Option P) where
    -- the copy continues after the making of a table
    linked_on : (from behind : ℕ) → g.blocking ≡ true → IsAimed g c s from behind → (l : Linked) → ReliesLinked g c s last kept behind l
        → ReliesStepped g c s last kept (linked_to from l)
    linked_on from behind blocks r (linked.On link) h = (blocks, subst (λ y. IsAimed g c s from y) (sym h.0) r, h.1)
    linked_on from behind blocks r (linked.Table table) h = (blocks, record { was = r.was; target = aimed_target from behind table r h.0 h.1 })
    linked_on from behind blocks r (linked.Refused refused) h = tt

    -- the copy continues after the copy of a slot
    settled_on : (chunk : Chunk) → IsChunk g c s chunk → (end : Settled) → ReliesSettled g c s last kept (slot_of chunk) end
        → ReliesStepped g c s last kept (settled_to chunk end)
    settled_on chunk r (settled.On settle) h = (r, h)
    settled_on chunk r settled.Settled h =
        let more : (x : ℕ) → x < chunk.at + 1 → g.chunk_of x ≡ chunk.cursor.at → IsSettled g s chunk.cursor.to (s.slot chunk.cursor.from x) = λ x lt in-chunk.
        ⊎_elim
        (λ (less : x < chunk.at). r.settled x less in-chunk)
        (λ (le : chunk.at ≤ x). let is : chunk.at ≡ x = omega (arith, lt, le) in subst (λ y. IsSettled g s chunk.cursor.to (s.slot chunk.cursor.from y)) is h)
        (cases_lt x chunk.at)
        in
        cond_both (nat_lt (chunk.at + 1) chunk.end) (stepped.On (steps.Settling (next_slot chunk) settles.Looking))
        (stepped.On (steps.Advancing chunk.cursor)) (ReliesStepped g c s last kept)
        (λ e. (record { cursor = r.cursor; at = ltb-true (chunk.at + 1) chunk.end e; within = r.within; whole = r.whole; settled = more }, tt))
        (λ e.
        let le : chunk.end ≤ chunk.at + 1 = ltb-false (chunk.at + 1) chunk.end e in
        record {
          chunk_read = r.cursor;
          settled = λ x lt in-chunk.
              more x (let w = r.whole x (subst (λ y. x < y) (sym r.cursor.len) lt) in-chunk in omega (arith, w, le)) in-chunk;
        })
    settled_on chunk r (settled.Unfit table)
        h = record { was = r.cursor.source.was; given_up = inr (h.1, subst (IsTarget g s chunk.cursor.from) (sym h.0) r.cursor.source.target, h.2) }
    settled_on chunk r (settled.Refused refused) h = tt

    -- the word of a chunk was loaded
    cursors_on : (cursor : Cursor) → IsCursor g c s cursor → (word : ℕ) → word ≡ cond (s.done cursor.to cursor.at) 1 0
        → ReliesStepped g c s last kept (chunk_read cursor word)
    cursors_on cursor r word is =
        cond_both (not (word == 0)) (stepped.On (next_cursor cursor))
        (cond cursor.copied (stepped.Further (chunk_at cursor)) (stepped.On (steps.Settling (chunk_at cursor) settles.Looking)))
        (ReliesStepped g c s last kept)
        (λ some. next_relies g c s last kept cursor r
        (aborted_some (s.done cursor.to cursor.at) word is (λ z. let y : (word == 0) ≡ true = eq-eqb word 0 z in absurd (let f = ap not y in cc (f, some)))))
        (λ none.
        cond_both cursor.copied (stepped.Further (chunk_at cursor)) (stepped.On (steps.Settling (chunk_at cursor) settles.Looking))
        (ReliesStepped g c s last kept)
        (λ e. chunk_begins g c s cursor r)
        (λ e. (chunk_begins g c s cursor r, tt)))

    -- the chunk is copied, and its word states so
    advances_on : (cursor : Cursor) → IsCursor g c s cursor → s.done cursor.to cursor.at ≡ true → ReliesStepped g c s last kept (advanced cursor)
    advances_on cursor r done = next_relies g c s last kept (record cursor { copied = true })
        (record { source = r.source; len = r.len; some = r.some; cut = r.cut; begun = r.begun; within = r.within; done = r.done }) done

    -- the table behind has this number
    aims_at : (how : ResizeMode) → IsModeOf how g.blocking → (from behind next : ℕ) → IsAimed g c s from behind → s.next behind ≡ next
        → ReliesStepped g c s last kept (aimed from behind how next)
    aims_at (Incremental chunk) inc from behind next r is =
        cond_both (next == 0) (stepped.Last from) (stepped.On (steps.Sizing from next)) (ReliesStepped g c s last kept)
        (λ e.
        let none : s.next behind ≡ 0 = is ∙ eqb-true next 0 e in
        let same : behind ≡ from = ⊎_elim (λ a. a) (λ h. let b = h.0 in absurd (cc (b, inc))) r.given_up in
        (r.was, subst (λ y. s.next y ≡ 0) same none))
        (λ e. record { was = r.was; target = aimed_target from behind next r is (above next e) })
    aims_at Blocking blocks from behind next r is =
        cond_both (next == 0) (stepped.On (steps.Linking from (links.Sizing behind from (not (behind == from)))))
        (stepped.On (steps.Judging from next)) (ReliesStepped g c s last kept)
        (λ e. (
          blocks,
          r,
          record {
            on = aimed_on from behind r;
            rises = tt;
            from = from;
            linking = ⊎_elim
                (λ (same : behind ≡ from). inl (sym same, λ b. subst (λ y. s.was_root y ≡ true) (sym same) r.was))
                (λ h. inr (h.0, r.was, h.1, h.2))
                r.given_up;
            measures = refl;
          },
        ))
        (λ e. (blocks, record { was = r.was; target = aimed_target from behind next r is (above next e) }))

  module _ (mode : ResizeMode) (moded : IsModeOf mode g.blocking) (last kept : Option P) where
    pub step_loaded : (step : Step) → ReliesStep g c s last kept step → (at : At) → step_ask step ≡ Load at
        → ReliesStepped g c s (told_last s at last) kept (at_word step mode (word_of g c s at))
    step_loaded steps.AtRoot r at e =
        let is : Root ≡ at = cc e in
        subst (λ a. ReliesStepped g c s (told_last s a last) kept (at_word steps.AtRoot mode (word_of g c s a))) is refl
    step_loaded (steps.Aiming from behind) r at e =
        let is : Next behind ≡ at = cc e in
        subst (λ a. ReliesStepped g c s (told_last s a last) kept (at_word (steps.Aiming from behind) mode (word_of g c s a))) is
        (aims_at last kept mode moded from behind (s.next behind) r refl)
    step_loaded (steps.Linking from link) r at e = absurd (no_load link at e)
    step_loaded (steps.Judging from to) r at e =
        let is : Aborted to ≡ at = cc e in
        let w : ℕ = word_of g c s (Aborted to) in
        subst (λ a. ReliesStepped g c s (told_last s a last) kept (at_word (steps.Judging from to) mode (word_of g c s a))) is
        (cond_both (w == 0) (steps.Sizing from to) (steps.Aiming from to) (ReliesStep g c s last kept)
        (λ none. r.1)
        (λ some. record { was = r.1.was; given_up = inr (r.0, r.1.target, aborted_some (s.aborted to) w refl (λ z. let y = eq-eqb w 0 z in cc (y, some))) }))
    step_loaded (steps.Sizing from to) r at e = absurd cc
    step_loaded (steps.AtChunk cursor) r at e =
        let is : Done cursor.to cursor.at ≡ at = cc e in
        subst (λ a. ReliesStepped g c s (told_last s a last) kept (at_word (steps.AtChunk cursor) mode (word_of g c s a))) is
        (cursors_on last kept cursor r (word_of g c s (Done cursor.to cursor.at)) refl)
    step_loaded (steps.Settling chunk settle) r at e =
        settled_on (told_last s at last) kept chunk r.0 (settle_at_word settle (slot_of chunk) mode (word_of g c s at))
        (settle_loaded g c hashed s m keeps mode moded (slot_of chunk) (known_slot chunk r.0) last kept settle r.1 at e)
    step_loaded (steps.Advancing cursor) r at e = absurd cc
    step_loaded (steps.Promoting from to) r at e = absurd cc

    pub step_hinted : (step : Step) → ReliesStep g c s last kept step → (t x : ℕ) → step_ask step ≡ LoadHint t x → (n : ℕ) → IsHint g c s t x n
        → ReliesStepped g c s last kept (at_word step mode n)
    step_hinted steps.AtRoot r t x e n is = absurd cc
    step_hinted (steps.Aiming from behind) r t x e n is = absurd cc
    step_hinted (steps.Linking from link) r t x e n is = absurd (no_hint link t x e)
    step_hinted (steps.Judging from to) r t x e n is = absurd cc
    step_hinted (steps.Sizing from to) r t x e n is = absurd cc
    step_hinted (steps.AtChunk cursor) r t x e n is = absurd cc
    step_hinted (steps.Settling chunk settle) r t x e n is =
        settled_on last kept chunk r.0 (settle_at_word settle (slot_of chunk) mode n)
        (settle_hinted g c hashed s m keeps mode moded (slot_of chunk) (known_slot chunk r.0) last kept settle r.1 t x e n is)
    step_hinted (steps.Advancing cursor) r t x e n is = absurd cc
    step_hinted (steps.Promoting from to) r t x e n is = absurd cc

    pub step_noted : (step : Step) → ReliesStep g c s last kept step → (t x n : ℕ) → step_ask step ≡ WriteHint t x n → IsHint g c s t x n
        × ReliesStepped g c s last kept (at_ok step mode)
    step_noted steps.AtRoot r t x n e = absurd cc
    step_noted (steps.Aiming from behind) r t x n e = absurd cc
    step_noted (steps.Linking from link) r t x n e = absurd (no_note link t x n e)
    step_noted (steps.Judging from to) r t x n e = absurd cc
    step_noted (steps.Sizing from to) r t x n e = absurd cc
    step_noted (steps.AtChunk cursor) r t x n e = absurd cc
    step_noted (steps.Settling chunk settle) r t x n e =
        let noted = settle_noted g c hashed s m keeps mode moded (slot_of chunk) (known_slot chunk r.0) last kept settle r.1 t x n e in
        (noted.0, settled_on last kept chunk r.0 (settle_at_ok settle mode) noted.1)
    step_noted (steps.Advancing cursor) r t x n e = absurd cc
    step_noted (steps.Promoting from to) r t x n e = absurd cc

    pub step_hashed : (step : Step) → ReliesStep g c s last kept step → (n : ℕ) → step_ask step ≡ HashOf n → (q : P) → last ≡ Some q
        → ReliesStep g c s last last (at_hash step (c.hash (g.key q)))
    step_hashed steps.AtRoot r n e q told = absurd cc
    step_hashed (steps.Aiming from behind) r n e q told = absurd cc
    step_hashed (steps.Linking from link) r n e q told = absurd (no_hash link n e)
    step_hashed (steps.Judging from to) r n e q told = absurd cc
    step_hashed (steps.Sizing from to) r n e q told = absurd cc
    step_hashed (steps.AtChunk cursor) r n e q told = absurd cc
    step_hashed (steps.Settling chunk settle) r n e q
        told = (r.0, settle_hashed g c hashed s m keeps mode moded (slot_of chunk) (known_slot chunk r.0) last kept settle r.1 n e q told)
    step_hashed (steps.Advancing cursor) r n e q told = absurd cc
    step_hashed (steps.Promoting from to) r n e q told = absurd cc

    pub step_sized : IsCutAs mode g.chunk_of → (number : ℕ) → (step : Step) → ReliesStep g c s last kept step → (t limit : ℕ)
        → step_ask step ≡ SizeOf t → limit + 1 ≡ g.places t → ReliesStep g c s last kept (at_size step mode number (g.size t) limit)
    step_sized cut number steps.AtRoot r t limit e most = absurd cc
    step_sized cut number (steps.Aiming from behind) r t limit e most = absurd cc
    step_sized cut number (steps.Linking from link) r t limit e
        most = (r.0, subst (λ y. IsAimed g c s from y) (sym (sized_follows g c s last kept link (g.size t))) r.1, link_sized g c s last kept link r.2 t e)
    step_sized cut number (steps.Judging from to) r t limit e most = absurd cc
    step_sized cut number (steps.Sizing from to) r t limit e most =
        let is : from ≡ t = cc e in
        subst (λ y. IsCursor g c s (first_cursor from to (g.size y) mode number)) is (first_relies g c s last kept hashed.lawful mode cut number from to r)
    step_sized cut number (steps.AtChunk cursor) r t limit e most = absurd cc
    step_sized cut number (steps.Settling chunk settle) r t limit e
        most = (r.0, settle_sized g c hashed s m keeps mode moded (slot_of chunk) (known_slot chunk r.0) last kept settle r.1 t limit e most)
    step_sized cut number (steps.Advancing cursor) r t limit e most = absurd cc
    step_sized cut number (steps.Promoting from to) r t limit e most = absurd cc

    pub step_compared : (step : Step) → ReliesStep g c s last kept step → (i n : ℕ) → step_ask step ≡ SamePair i n → (o q : P) → kept ≡ Some o
        → last ≡ Some q → ReliesStepped g c s last kept (at_yes step mode (g.same (g.key o) (g.key q)))
    step_compared steps.AtRoot r i n e o q k told = absurd cc
    step_compared (steps.Aiming from behind) r i n e o q k told = absurd cc
    step_compared (steps.Linking from link) r i n e o q k told = absurd (no_same link i n e)
    step_compared (steps.Judging from to) r i n e o q k told = absurd cc
    step_compared (steps.Sizing from to) r i n e o q k told = absurd cc
    step_compared (steps.AtChunk cursor) r i n e o q k told = absurd cc
    step_compared (steps.Settling chunk settle) r i n e o q k told =
        settled_on last kept chunk r.0 (settle_at_yes settle mode (g.same (g.key o) (g.key q)))
        (settle_compared g c hashed s m keeps mode moded (slot_of chunk) (known_slot chunk r.0) last kept settle r.1 i n e o q k told)
    step_compared (steps.Advancing cursor) r i n e o q k told = absurd cc
    step_compared (steps.Promoting from to) r i n e o q k told = absurd cc

    pub step_found : (step : Step) → ReliesStep g c s last kept step → (at : At) (old new : ℕ) → step_ask step ≡ Ask_exchange at old new
        → (word_of g c s at ≡ old → ⊥) → ReliesStepped g c s (told_last s at last) kept (at_found step mode (word_of g c s at))
    step_found steps.AtRoot r at old new e other = absurd cc
    step_found (steps.Aiming from behind) r at old new e other = absurd cc
    step_found (steps.Linking from link) r at old new e other =
        let next : (t : ℕ) × (at ≡ Next t) = links_next link at old new e in
        let same : told_last s at last ≡ last = ap (λ a. told_last s a last) next.1 in
        subst (λ l. ReliesStepped g c s l kept (at_found (steps.Linking from link) mode (word_of g c s at))) (sym same)
        (linked_on last kept from (follows link) r.0 r.1 (link_at_found link (word_of g c s at)) (link_found g c s last kept link r.2 at old new e other))
    step_found (steps.Judging from to) r at old new e other = absurd cc
    step_found (steps.Sizing from to) r at old new e other = absurd cc
    step_found (steps.AtChunk cursor) r at old new e other = absurd cc
    step_found (steps.Settling chunk settle) r at old new e other =
        settled_on (told_last s at last) kept chunk r.0 (settle_at_found settle (slot_of chunk) mode (word_of g c s at))
        (settle_found g c hashed s m keeps mode moded (slot_of chunk) (known_slot chunk r.0) last kept settle r.1 at old new e other)
    step_found (steps.Advancing cursor) r at old new e other =
        let is : Done cursor.to cursor.at ≡ at = cc e in
        let none : 0 ≡ old = cc e in
        let done : s.done cursor.to cursor.at ≡ true = aborted_some (s.done cursor.to cursor.at) (word_of g c s (Done cursor.to cursor.at)) refl
        (λ z. other (ap (word_of g c s) (sym is) ∙ z ∙ none)) in
        subst (λ a. ReliesStepped g c s (told_last s a last) kept (at_found (steps.Advancing cursor) mode (word_of g c s a))) is
        (advances_on last kept cursor r.chunk_read done)
    step_found (steps.Promoting from to) r at old new e other = tt

    pub step_counted : IsCutAs mode g.chunk_of → (step : Step) → ReliesStep g c s last kept step → (count initial : ℕ)
        → ReliesStepped g c s last kept (at_count step mode count initial)
    step_counted cut steps.AtRoot r count initial = r
    step_counted cut (steps.Aiming from behind) r count initial = r
    step_counted cut (steps.Linking from link) r count initial = linked_on last kept from (follows link) r.0 r.1
        (link_at_count link mode count initial) (link_counted g c s last kept mode cut link r.2 count initial)
    step_counted cut (steps.Judging from to) r count initial = r
    step_counted cut (steps.Sizing from to) r count initial = r
    step_counted cut (steps.AtChunk cursor) r count initial = r
    step_counted cut (steps.Settling chunk settle) r count initial =
        settled_on last kept chunk r.0 (settle_at_count settle mode count initial)
        (settle_counted g c hashed s m keeps mode moded (slot_of chunk) (known_slot chunk r.0) last kept cut settle r.1 count initial)
    step_counted cut (steps.Advancing cursor) r count initial = r
    step_counted cut (steps.Promoting from to) r count initial = r

    pub step_made : (step : Step) → ReliesStep g c s last kept step → (n : ℕ) → step_follows step < n → ReliesStep g c s last kept (at_made step n)
    step_made steps.AtRoot r n more = r
    step_made (steps.Aiming from behind) r n more = r
    step_made (steps.Linking from link) r n more =
        (r.0, subst (λ y. IsAimed g c s from y) (sym (made_follows g c s last kept link n)) r.1, link_made g c s last kept link r.2 n more)
    step_made (steps.Judging from to) r n more = r
    step_made (steps.Sizing from to) r n more = r
    step_made (steps.AtChunk cursor) r n more = r
    step_made (steps.Settling chunk settle) r n
        more = (r.0, settle_made g c hashed s m keeps mode moded (slot_of chunk) (known_slot chunk r.0) last kept settle r.1 n more)
    step_made (steps.Advancing cursor) r n more = r
    step_made (steps.Promoting from to) r n more = r

    pub step_refused : (step : Step) → ReliesStep g c s last kept step → (refused : Refused) → ReliesStepped g c s last kept (at_refused step mode refused)
    step_refused steps.AtRoot r refused = r
    step_refused (steps.Aiming from behind) r refused = r
    step_refused (steps.Linking from link) r refused = linked_on last kept from (follows link) r.0 r.1 (link_at_refused link refused)
        (link_refused g c s last kept link r.2 refused)
    step_refused (steps.Judging from to) r refused = r
    step_refused (steps.Sizing from to) r refused = r
    step_refused (steps.AtChunk cursor) r refused = r
    step_refused (steps.Settling chunk settle) r refused =
        settled_on last kept chunk r.0 (settle_at_refused settle mode refused)
        (settle_refused g c hashed s m keeps mode moded (slot_of chunk) (known_slot chunk r.0) last kept settle r.1 refused)
    step_refused (steps.Advancing cursor) r refused = r
    step_refused (steps.Promoting from to) r refused = r

module _ {K P : Type 0} (g : Setting K P) (c : Coding K P) (hashed : IsHashed g c) (s : State P) (m : K → Option P) (keeps : IsKeeping g s m)
    (mode : ResizeMode) (moded : IsModeOf mode g.blocking) (e : Exchange P) (may : Allows g s e) (last kept : Option P) where
  -- the exchange was made, and the facts that were relied on stay true
  pub step_exchanged : (step : Step) → ReliesStep g c s last kept step → (at : At) (old new : ℕ) → step_ask step ≡ Ask_exchange at old new
      → word_of g c s at ≡ old → IsCopyAsked c (step_kind step) at new s kept e
      → ReliesStepped g c (after s e) (last_after e last) kept (at_exchanged step mode)
  step_exchanged steps.AtRoot r at old new q stands asked = absurd cc
  step_exchanged (steps.Aiming from behind) r at old new q stands asked = absurd cc
  step_exchanged (steps.Linking from link) r at old new q stands asked =
      let still = step_stable g c hashed s (after s e) (zero_next g c hashed s m keeps mode moded e may) (later g c hashed s m keeps mode moded e may)
      (still_on g c hashed s m keeps mode moded e may) last kept (steps.Linking from link) r in
      subst (λ l. ReliesStepped g c (after s e) l kept (at_exchanged (steps.Linking from link) mode)) (sym (link_last c s last kept link at old new q e asked))
      (linked_on g c hashed (after s e) (map_after g m e) (keeps' g c hashed s m keeps mode moded e may) last kept from (follows link) still.0 still.1
      (link_at_exchanged link) (link_exchanged g c s last kept link r.2 at old new q e asked))
  step_exchanged (steps.Judging from to) r at old new q stands asked = absurd cc
  step_exchanged (steps.Sizing from to) r at old new q stands asked = absurd cc
  step_exchanged (steps.AtChunk cursor) r at old new q stands asked = absurd cc
  step_exchanged (steps.Settling chunk settle) r at old new q stands asked =
      let still = step_stable g c hashed s (after s e) (zero_next g c hashed s m keeps mode moded e may) (later g c hashed s m keeps mode moded e may)
      (still_on g c hashed s m keeps mode moded e may) last kept (steps.Settling chunk settle) r in
      settled_on g c hashed (after s e) (map_after g m e) (keeps' g c hashed s m keeps mode moded e may) (last_after e last) kept chunk still.0
      (settle_at_exchanged settle (slot_of chunk) mode)
      (settle_exchanged g c hashed s m keeps mode moded e may (slot_of chunk) (known_slot g c hashed s m keeps chunk r.0) last kept settle r.1 at old
      new q stands asked)
  step_exchanged (steps.Advancing cursor) r at old new q stands asked =
      let still = step_stable g c hashed s (after s e) (zero_next g c hashed s m keeps mode moded e may) (later g c hashed s m keeps mode moded e may)
      (still_on g c hashed s m keeps mode moded e may) last kept (steps.Advancing cursor) r in
      let is : Done cursor.to cursor.at ≡ at = cc q in
      let by : e ≡ Advance cursor.to cursor.at = subst (λ a. IsCopyAsked c (Some kinds.Advance) a new s kept e) (sym is) asked in
      let done : (after s e).done cursor.to cursor.at ≡ true = subst (λ y. (after s y).done cursor.to cursor.at ≡ true) (sym by)
      (done_here s.done cursor.to cursor.at) in
      advances_on g c hashed (after s e) (map_after g m e) (keeps' g c hashed s m keeps mode moded e may) (last_after e last) kept cursor still.chunk_read done
  step_exchanged (steps.Promoting from to) r at old new q stands asked = tt
