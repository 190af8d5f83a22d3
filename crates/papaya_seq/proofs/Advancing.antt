-- A chunk that was copied, and the chunks after it that are copied already: the state to which a
-- loop over them brings the machine of a copy.
use Rattle.std.proofs.Common.{◌≡◌, ℕ, ◌+◌, ◌-◌, ◌<◌, ◌==◌, nat_lt, nat_le, Bool, true, false, cond, not, ◌&&◌, if◌then◌else◌}
use Rattle.std.proofs.Common.{◌∷◌, [], refl, sym, ap, ltb-true, arith}
use Rattle.std.specs.Prelude.{MatchBool}
use Rattle.std.proofs.lemmas.Bool.{and_parts, cond_both, leb-false, ne_eqb, not-true}
use Rattle.papaya_words.specs.declared.resize_mode.ResizeMode.{ResizeMode}
use Rattle.papaya_call.specs.declared.ask.Answer.{Answer as Call_answer}
use Rattle.papaya_call.specs.declared.ask.Answer.TheVariants.{Exchanged, Found as Found_instead, Word as Word_read}
use Rattle.papaya_call.specs.declared.ask.At.TheVariants.{Done}
use Rattle.papaya_call.specs.declared.copy_ask.CopyAsk.TheVariants.{Exchange, Load}
use Rattle.papaya_call.specs.Copying.{leads}
use Rattle.papaya_call.specs.Step.{IsValidCursor, chunk_at, chunk_read, first_chunk, is_further, next_chunk, next_cursor}
use Rattle.papaya_call.specs.declared.copy.copying.Copied.TheVariants as copied_to
use Rattle.papaya_call.specs.declared.copy.copying.Copying.TheVariants.{Stepping}
use Rattle.papaya_call.specs.declared.copy.settle.Settle.TheVariants as settles
use Rattle.papaya_call.specs.declared.copy.step.Cursor.{Cursor}
use Rattle.papaya_call.specs.declared.copy.step.Step.{Step}
use Rattle.papaya_call.specs.declared.copy.step.Step.TheVariants.{Advancing, AtChunk, Promoting, Settling}
use Rattle.papaya_call.specs.declared.copy.step.Stepped.TheVariants as stepped
use Rattle.papaya_call.specs.declared.chain.ask.Answer.TheVariants.{Call}
use Rattle.papaya_call.specs.ChainMachine.{copying_after}
use Rattle.papaya_core_store.specs.Performs.{Exchanges}
use Rattle.papaya_core_store.specs.Store.{StoreState}
use Rattle.papaya_core_store.specs.Tables.{put, word_at}
use Rattle.papaya_call_alone.specs.Measure.{words_left}
use Rattle.papaya_seq.specs.Copies.{Steps}

module _ {K V S : Type 0} (eq : K → K → Bool) (hash : S → K → ℕ) (mode : ResizeMode) where
  -- the word of the chunk says that it is copied, whoever wrote it
  pub advance_led : (s s' : StoreState K V S) (told : Call_answer) (cursor : Cursor)
      → Exchanges (word_at s.words (Done cursor.to cursor.at)) 0 (put s.words (Done cursor.to cursor.at) 1) told s s'
      → Steps eq hash mode s (Advancing cursor) s' (next_cursor (record cursor { copied = true }))
  advance_led s s' told cursor exchanges aim initial number =
      let led = go (word_at s.words (Done cursor.to cursor.at) == 0) exchanges in
      (Call told ∷ [], (Exchange (Done cursor.to cursor.at) 0 1, refl, s', (told, refl, exchanges), (refl, led)))
    where
      Leads : Type 0
      Leads = copied_to.On (Stepping aim (next_cursor (record cursor { copied = true })))
          ≡ copying_after (Stepping aim (Advancing cursor)) mode initial number (Call told)

      go : (made : Bool) → MatchBool made ((told ≡ Exchanged) × (s' ≡ record s { words = put s.words (Done cursor.to cursor.at) 1 }))
          ((told ≡ Found_instead (word_at s.words (Done cursor.to cursor.at))) × (s' ≡ s)) → Leads
      go true (is, stays) = sym (ap (λ x. copying_after (Stepping aim (Advancing cursor)) mode initial number (Call x)) is)
      go false (is, stays) = sym (ap (λ x. copying_after (Stepping aim (Advancing cursor)) mode initial number (Call x)) is)

  -- the word of the next one was loaded
  pub chunk_led : (s : StoreState K V S) (cursor : Cursor) (step : Step) → chunk_read cursor (word_at s.words (Done cursor.to cursor.at)) ≡ stepped.On step
      → Steps eq hash mode s (AtChunk cursor) s step
  chunk_led s cursor step is aim initial number = (
    Call (Word_read (word_at s.words (Done cursor.to cursor.at))) ∷ [],
    (Load (Done cursor.to cursor.at), refl, s, (refl, refl), (refl, sym (ap (leads aim mode) is))),
  )

-- a chunk that is copied is passed by
pub chunk_passed : (cursor : Cursor) (word : ℕ) → (word ≡ 0 → ⊥) → chunk_read cursor word ≡ stepped.On (next_cursor cursor)
chunk_passed cursor word some = ap
    (λ (b : Bool). if not b then stepped.On (next_cursor cursor)
    else if cursor.copied then stepped.Further (chunk_at cursor) else stepped.On (Settling (chunk_at cursor) settles.Looking)) (ne_eqb word 0 some)

-- the number of words of chunks that are left to load
abbrev chunks_left : Step → ℕ
chunks_left (AtChunk cursor) = words_left cursor + 1
chunks_left _ = 0

next_fewer : (wrapped : Bool) (start at len begun slots : ℕ) → 0 < slots → (nat_lt slots (len - begun) && not (wrapped && nat_le start (at + 1))) ≡ true
    → cond wrapped (start - (at + 1)) (len - (begun + slots) + start + 1) < cond wrapped (start - at) (len - begun + start + 1)
next_fewer true start at len begun slots some e =
    let back : at + 1 < start = leb-false start (at + 1)
    (not-true (nat_le start (at + 1)) (and_parts (nat_lt slots (len - begun)) (not (nat_le start (at + 1))) e).1) in
    omega (arith, back)
next_fewer false start at len begun slots some e =
    let less : slots < len - begun = ltb-true slots (len - begun) (and_parts (nat_lt slots (len - begun)) true e).0 in
    omega (arith, less, some)

first_fewer : (wrapped : Bool) (start at rest : ℕ) → (not wrapped && nat_lt 0 start) ≡ true → start - 0 < cond wrapped (start - at) (rest + start + 1)
first_fewer true start at rest e = absurd (cc e)
first_fewer false start at rest e = omega arith

module _ (cursor : Cursor) (valid : IsValidCursor cursor) where
  -- one is left less
  abbrev Less : Step → Type 0
  Less step = chunks_left step < words_left cursor + 1

  pub next_less : Less (next_cursor cursor)
  next_less =
      cond_both (is_further cursor) (AtChunk (next_chunk cursor))
      (cond (not cursor.wrapped && nat_lt 0 cursor.start) (AtChunk (first_chunk cursor)) (Promoting cursor.from cursor.to)) Less
      (λ e.
      let l : words_left (next_chunk cursor) < words_left cursor = next_fewer cursor.wrapped cursor.start cursor.at cursor.len cursor.begun cursor.slots
      valid.some e in
      omega (arith, l))
      (λ _.
      cond_both (not cursor.wrapped && nat_lt 0 cursor.start) (AtChunk (first_chunk cursor)) (Promoting cursor.from cursor.to) Less
      (λ e.
      let l : words_left (first_chunk cursor) < words_left cursor = first_fewer cursor.wrapped cursor.start cursor.at (cursor.len - cursor.begun) e in
      omega (arith, l)) (λ _. omega arith))
