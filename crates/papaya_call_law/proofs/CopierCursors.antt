-- The facts that a copier relies on while it loads the words of a table's chunks one after another.
use Rattle.std.proofs.Common.{◌≡◌, ◌⊎◌, inl, inr, ⊎_elim, ℕ, ◌+◌, ◌-◌, ◌*◌, ◌%◌, ◌<◌, ◌≤◌, ◌&&◌}
use Rattle.std.proofs.Common.{nat_lt, nat_le, not, ltb-true, ltb-false, leb-true, Bool, true, false}
use Rattle.std.proofs.Common.{cond, Option, refl, sym, ap, ◌∙◌, subst, arith}
use Rattle.std.specs.Prelude.{MatchBool}
use Rattle.std.proofs.Math.Nat.{mod-lt}
use Rattle.std.proofs.lemmas.Bool.{and_parts, cases_lt, cases_order, cond_both}
use Rattle.papaya_words.specs.Chunks.{chunk_count, chunk_len}
use Rattle.papaya_words.specs.declared.resize_mode.ResizeMode.{ResizeMode}
use Rattle.papaya_words.proofs.ChunkLemmas.{chunk_before, chunk_from, chunk_next, chunk_some, chunk_starts, chunk_to}
use Rattle.papaya_call.specs.declared.copy.step.Cursor.{Cursor}
use Rattle.papaya_call.specs.declared.copy.step.Step.TheVariants as steps
use Rattle.papaya_call.specs.Step.{chunk_at, first_chunk, first_cursor, is_further, next_chunk, next_cursor}
use Rattle.papaya_words_law.specs.Code.{Coding}
use Rattle.papaya_words_law.specs.Exchange.{Setting, State}
use Rattle.papaya_words_law.specs.Meaning.{IsLawful}
use Rattle.papaya_call_law.specs.Copier.{IsAllDone, IsChunk, IsCursor, IsPassedBy, IsSource, ReliesStep}
use Rattle.papaya_call_law.specs.Relies.{IsCutAs}

-- if no chunk is left, this one is the last, or the cursor is back at its first
not_further : (a wrapped b : Bool) → (a && not (wrapped && b)) ≡ false → (a ≡ false) ⊎ ((wrapped ≡ true) × (b ≡ true))
not_further false wrapped b e = inl refl
not_further true true true e = inr (refl, refl)
not_further true true false e = absurd (cc e)
not_further true false b e = absurd (cc e)

-- a cursor that is over came round, or began at the first chunk
not_round : (wrapped b : Bool) → (not wrapped && b) ≡ false → (wrapped ≡ true) ⊎ ((wrapped ≡ false) × (b ≡ false))
not_round true b e = inl refl
not_round false b e = inr (refl, e)

-- a cursor that comes round did not before
pub round_first : (wrapped b : Bool) → (not wrapped && b) ≡ true → wrapped ≡ false
round_first true b e = absurd (cc e)
round_first false b e = refl

-- this chunk's word is passed by next
passed_next : (wrapped : Bool) (start at chunk : ℕ) → MatchBool wrapped ((start ≤ chunk) ⊎ (chunk < at + 1)) ((start ≤ chunk) × (chunk < at + 1))
    → (MatchBool wrapped ((start ≤ chunk) ⊎ (chunk < at)) ((start ≤ chunk) × (chunk < at))) ⊎ (chunk ≡ at)
passed_next true start at chunk (inl h) = inl (inl h)
passed_next true start at chunk (inr h) = ⊎_elim (λ (lt : chunk < at). inl (inr lt)) (λ (le : at ≤ chunk). inr (omega (arith, h, le))) (cases_lt chunk at)
passed_next false start at chunk (low, h) = ⊎_elim (λ (lt : chunk < at). inl (low, lt)) (λ (le : at ≤ chunk). inr (omega (arith, h, le))) (cases_lt chunk at)

-- one that was passed by, whether the cursor came round or not
passed_straight : (cursor : Cursor) (chunk : ℕ) → cursor.wrapped ≡ false → cursor.start ≤ chunk → chunk < cursor.at → IsPassedBy cursor chunk
passed_straight cursor chunk is low lt =
    subst (λ w. MatchBool w ((cursor.start ≤ chunk) ⊎ (chunk < cursor.at)) ((cursor.start ≤ chunk) × (chunk < cursor.at))) (sym is) (low, lt)

passed_round : (cursor : Cursor) (chunk : ℕ) → cursor.wrapped ≡ true → (cursor.start ≤ chunk) ⊎ (chunk < cursor.at) → IsPassedBy cursor chunk
passed_round cursor chunk is h = subst (λ w.
    MatchBool w ((cursor.start ≤ chunk) ⊎ (chunk < cursor.at)) ((cursor.start ≤ chunk) × (chunk < cursor.at))) (sym is) h

module _ {K P : Type 0} (g : Setting K P) (c : Coding K P) (s : State P) where
  -- the chunk that the cursor is at
  pub chunk_begins : (cursor : Cursor) → IsCursor g c s cursor → IsChunk g c s (chunk_at cursor)
  chunk_begins cursor r = record {
    cursor = r;
    at = cond_both (nat_lt cursor.slots (cursor.len - cursor.begun)) (cursor.begun + cursor.slots) cursor.len (λ y. cursor.begun < y)
        (λ e. let some = r.some in omega (arith, some)) (λ e. r.within);
    within = cond_both (nat_lt cursor.slots (cursor.len - cursor.begun)) (cursor.begun + cursor.slots) cursor.len (λ y. y ≤ cursor.len)
        (λ e. let lt : cursor.slots < cursor.len - cursor.begun = ltb-true cursor.slots (cursor.len - cursor.begun) e in omega (arith, lt))
        (λ e. omega arith);
    whole = λ x lt is. cond_both (nat_lt cursor.slots (cursor.len - cursor.begun)) (cursor.begun + cursor.slots) cursor.len (λ y. x < y)
        (λ e. let up : x < cursor.at * cursor.slots + cursor.slots = chunk_to cursor.slots r.some x cursor.at (sym (r.cut x) ∙ is) in
        let b = r.begun in omega (arith, up, b))
        (λ e. lt);
    settled = λ x lt is. absurd (let low : cursor.at * cursor.slots ≤ x = chunk_from cursor.slots x cursor.at (sym (r.cut x) ∙ is) in
        let b = r.begun in omega (arith, lt, low, b));
  }

  -- if no chunk comes after this one
  last_chunk : (cursor : Cursor) → IsCursor g c s cursor → nat_lt cursor.slots (cursor.len - cursor.begun) ≡ false → (x : ℕ) → x < g.size cursor.from
      → g.chunk_of x ≤ cursor.at
  last_chunk cursor r e x lt =
      let le : cursor.len - cursor.begun ≤ cursor.slots = ltb-false cursor.slots (cursor.len - cursor.begun) e in
      let b = r.begun in
      let n = r.len in
      let up : x < cursor.at * cursor.slots + cursor.slots = omega (arith, lt, le, b, n) in
      subst (λ y. y ≤ cursor.at) (sym (r.cut x)) (chunk_before cursor.slots r.some x cursor.at up)

  module _ (last kept : Option P) where
    -- a cursor begins at a chunk that the table has
    pub first_relies : IsLawful g → (mode : ResizeMode) → IsCutAs mode g.chunk_of → (number from to : ℕ) → IsSource g c s from to
        → ReliesStep g c s last kept (steps.AtChunk (first_cursor from to (g.size from) mode number))
    first_relies law mode cut number from to source =
        let slots : ℕ = chunk_len mode in
        let count : ℕ = chunk_count (g.size from) slots in
        record {
          source = source;
          len = refl;
          some = chunk_some mode;
          cut = cut;
          begun = refl;
          within = chunk_starts slots (chunk_some mode) (g.size from) (number % count) (law.some_slot from) (mod-lt number (omega arith));
          done = λ x lt passed. absurd (let a = passed.0 in let b = passed.1 in omega (arith, a, b));
        }

    module _ (cursor : Cursor) (r : IsCursor g c s cursor) (this : s.done cursor.to cursor.at ≡ true) where
      -- this chunk is copied too
      done_at : (x : ℕ) → g.chunk_of x ≡ cursor.at → s.done cursor.to (g.chunk_of x) ≡ true
      done_at x is = subst (λ y. s.done cursor.to y ≡ true) (sym is) this

      -- up to this one, of those that are up to it
      done_below : (x : ℕ) → x < g.size cursor.from → (g.chunk_of x < cursor.at → IsPassedBy cursor (g.chunk_of x)) → g.chunk_of x ≤ cursor.at
          → s.done cursor.to (g.chunk_of x) ≡ true
      done_below x lt passed le = ⊎_elim (λ (less : g.chunk_of x < cursor.at). r.done x lt (passed less))
          (λ (more : cursor.at ≤ g.chunk_of x). done_at x (omega (arith, le, more))) (cases_lt (g.chunk_of x) cursor.at)

      -- the next chunk
      relies_next : is_further cursor ≡ true → IsCursor g c s (next_chunk cursor)
      relies_next e =
          let lt : cursor.slots < cursor.len - cursor.begun = ltb-true cursor.slots (cursor.len - cursor.begun)
          (and_parts (nat_lt cursor.slots (cursor.len - cursor.begun)) (not (cursor.wrapped && nat_le cursor.start (cursor.at + 1))) e).0 in
          record {
            source = r.source;
            len = r.len;
            some = r.some;
            cut = r.cut;
            begun = ap (λ y. y + cursor.slots) r.begun ∙ sym (chunk_next cursor.slots cursor.at);
            within = omega (arith, lt);
            done = λ x less passed. ⊎_elim (r.done x less) (done_at x) (passed_next cursor.wrapped cursor.start cursor.at (g.chunk_of x) passed);
          }

      -- the first chunk, behind the last one
      relies_first : is_further cursor ≡ false → cursor.wrapped ≡ false → IsCursor g c s (first_chunk cursor)
      relies_first e straight = record {
        source = r.source;
        len = r.len;
        some = r.some;
        cut = r.cut;
        begun = let none : 0 ≡ 0 * cursor.slots = omega arith in none;
        within = let w = r.within in omega (arith, w);
        done = λ x less passed. ⊎_elim
            (λ (low : cursor.start ≤ g.chunk_of x). done_below x less (λ lt. passed_straight cursor (g.chunk_of x) straight low lt)
            (last_chunk cursor r (none_after e) x less))
            (λ (none : g.chunk_of x < 0). absurd (omega (arith, none)))
            passed;
      }
        where
          none_after : is_further cursor ≡ false → nat_lt cursor.slots (cursor.len - cursor.begun) ≡ false
          none_after e = ⊎_elim (λ f. f) (λ h. absurd (let a = h.0 in cc (a, straight)))
              (not_further (nat_lt cursor.slots (cursor.len - cursor.begun)) cursor.wrapped (nat_le cursor.start (cursor.at + 1)) e)

      -- no chunk is left
      relies_over : is_further cursor ≡ false → (not cursor.wrapped && nat_lt 0 cursor.start) ≡ false → IsAllDone g c s cursor.from cursor.to
      relies_over e f x lt = ⊎_elim
          (λ (round : cursor.wrapped ≡ true). ⊎_elim
          (λ h. done_below x lt (λ less. passed_round cursor (g.chunk_of x) round (inr less)) (last_chunk cursor r h x lt))
          (λ h.
          let back : cursor.start ≤ cursor.at + 1 = leb-true cursor.start (cursor.at + 1) h.1 in
          ⊎_elim
          (λ (is : g.chunk_of x ≡ cursor.at). done_at x is)
          (⊎_elim
          (λ (less : g.chunk_of x < cursor.at). r.done x lt (passed_round cursor (g.chunk_of x) round (inr less)))
          (λ (more : cursor.at < g.chunk_of x). r.done x lt (passed_round cursor (g.chunk_of x) round (inl (omega (arith, back, more))))))
          (cases_order (g.chunk_of x) cursor.at))
          (not_further (nat_lt cursor.slots (cursor.len - cursor.begun)) cursor.wrapped (nat_le cursor.start (cursor.at + 1)) e))
          (λ h.
          let low : cursor.start ≤ 0 = ltb-false 0 cursor.start h.1 in
          let none : nat_lt cursor.slots (cursor.len - cursor.begun) ≡ false =
          ⊎_elim (λ n. n) (λ w. absurd (let a = w.0 in let b = h.0 in cc (a, b)))
          (not_further (nat_lt cursor.slots (cursor.len - cursor.begun)) cursor.wrapped (nat_le cursor.start (cursor.at + 1)) e) in
          done_below x lt (λ less. passed_straight cursor (g.chunk_of x) h.0 (omega (arith, low)) less) (last_chunk cursor r none x lt))
          (not_round cursor.wrapped (nat_lt 0 cursor.start) f)

      -- the cursor continues, or all chunks are copied
      pub next_relies : ReliesStep g c s last kept (next_cursor cursor)
      next_relies =
          cond_both (is_further cursor) (steps.AtChunk (next_chunk cursor))
          (cond (not cursor.wrapped && nat_lt 0 cursor.start) (steps.AtChunk (first_chunk cursor)) (steps.Promoting cursor.from cursor.to))
          (ReliesStep g c s last kept)
          relies_next
          (λ e.
          cond_both (not cursor.wrapped && nat_lt 0 cursor.start) (steps.AtChunk (first_chunk cursor)) (steps.Promoting cursor.from cursor.to)
          (ReliesStep g c s last kept)
          (λ f. relies_first e (round_first cursor.wrapped (nat_lt 0 cursor.start) f))
          (λ f. (r.source, relies_over e f)))
