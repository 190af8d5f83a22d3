-- An exchange that a copier asks for is allowed if its old word is there; and the facts that it may
-- rely on after each answer.
use Rattle.std.proofs.Common.{◌≡◌, inl, ⊎_elim, ℕ, suc, ◌<◌, ◌≤◌, true, false, Option, ap, ◌∙◌, sym, subst, arith}
use Rattle.std.proofs.lemmas.Bool.{cases_lt}
use Rattle.papaya_words.proofs.ChunkLemmas.{chunk_first}
use Rattle.papaya_words.specs.Chunks.{chunk_of}
use Rattle.papaya_words_law.specs.Allows.{Allows}
use Rattle.papaya_words_law.specs.Class.{IsOn}
use Rattle.papaya_words_law.specs.Code.{Coding}
use Rattle.papaya_words_law.specs.Copying.{IsPutting, IsSettled}
use Rattle.papaya_words_law.specs.Exchange.{Empty, Live, Marked, Setting, State, Link, Mark, Close, Place as Place_pair, Finish, Advance, Promote, Abort}
use Rattle.papaya_words_law.specs.Invariant.{IsKeeping}
use Rattle.papaya_words_law.specs.Meaning.{IsLawful}
use Rattle.papaya_words_law.specs.View.{look, view, own, foreign, HasWord}
use Rattle.papaya_call_law.specs.Copier.{HasCarried, HasCompared, IsAllDone, IsCursor, IsFor, IsSettledChunk, IsSource, ReliesCarry, ReliesLink}
use Rattle.papaya_call.specs.declared.copy.carry.Carry.TheVariants as carries
use Rattle.papaya_call.specs.declared.copy.step.Cursor.{Cursor}
use Rattle.papaya_call.specs.declared.copy.link.Link.TheVariants as links
use Rattle.papaya_call.specs.declared.search.Place.{Place}
use Rattle.papaya_call.specs.declared.copy.settle.SlotToCopy.{SlotToCopy}
use Rattle.papaya_words_law.proofs.CopierFacts.{compared_foreign, compared_own, target_further}
use Rattle.papaya_words_law.proofs.Copies.{may_abort, may_place, put_next, target_takes}
use Rattle.papaya_words_law.proofs.OneMap.{covered, keeping_sound}

module _ {K P : Type 0} (g : Setting K P) (c : Coding K P) (s : State P) (m : K → Option P) (keeps : IsKeeping g s m) where
  -- a table that was the root is on the chain
  pub root_on : (t : ℕ) → s.was_root t ≡ true → IsOn s.first s.next t
  root_on t was = ((keeping_sound g s m keeps).was t was).0

  -- a table with a target has a next one
  further : (from n : ℕ) → IsSource g c s from n → 0 < s.next from
  further from n r = target_further g s (keeping_sound g s m keeps).rises from n r.target

  pub closes : (from n x : ℕ) → IsSource g c s from n → s.slot from x ≡ Empty → Allows g s (Close from x)
  closes from n x r e = record { empty = e; was = r.was; further = further from n r }

  pub marks : (from n x : ℕ) (p : P) → IsSource g c s from n → s.slot from x ≡ Live p → Allows g s (Mark from x p)
  marks from n x p r e = record { live = e; was = r.was; further = further from n r }

  pub links_on : (behind table chunks : ℕ) → ReliesLink g c s (links.Linking behind table chunks) → chunks ≤ g.chunks table → s.next behind ≡ 0
      → Allows g s (Link behind table)
  links_on behind table chunks r words e = record {
    last = e;
    on = r.on;
    rises = r.rises;
    from = r.from;
    linking = r.linking;
    covers = λ x lt. let within : g.chunk_of x < chunks = r.measures x lt in omega (arith, within, words);
  }

  -- the chunk whose word is loaded has a slot
  pub cursor_slot : (cursor : Cursor) → IsCursor g c s cursor → (cursor.begun < g.size cursor.from) × (g.chunk_of cursor.begun ≡ cursor.at)
  cursor_slot cursor r = (
    subst (λ y. cursor.begun < y) r.len r.within,
    r.cut cursor.begun ∙ (ap (chunk_of cursor.slots) r.begun ∙ chunk_first cursor.slots r.some cursor.at),
  )

  -- so its table has a word for it
  pub cursor_word : (cursor : Cursor) → IsCursor g c s cursor → cursor.at < g.chunks cursor.to
  cursor_word cursor r = let slot = cursor_slot cursor r in
      subst (λ y. y < g.chunks cursor.to) slot.1 (covered g s m keeps cursor.from cursor.to r.source.was r.source.target cursor.begun slot.0)

  pub advances : (cursor : Cursor) → IsSettledChunk g c s cursor → s.done cursor.to cursor.at ≡ false → Allows g s (Advance cursor.to cursor.at)
  advances cursor r e =
      let slot = cursor_slot cursor r.chunk_read in
      record { done = e; from = cursor.from; target = r.chunk_read.source.target; slot = cursor.begun; within = slot.0; in_chunk = slot.1; settled = r.settled }

  pub promotes : (from to : ℕ) → IsSource g c s from to → IsAllDone g c s from to → s.root ≡ from → Allows g s (Promote from to)
  promotes from to r whole e = record { root = e; made = (root_on from r.was).0; target = r.target; whole = whole }

  -- the word that is there is the marked one of the pair that was moved
  pub finishes : (slot : SlotToCopy) (word : ℕ) (q : P) → HasCarried g c s slot word → g.blocking ≡ false → s.slot slot.from slot.index ≡ Marked q
      → Allows g s (Finish slot.from slot.index q)
  finishes slot word q r inc e =
      let is : q ≡ r.pair = ⊎_elim (λ h. cc (h, e)) (λ h. absurd (cc (h, e))) r.stood in
      subst (λ p. Allows g s (Finish slot.from slot.index p)) (sym is)
      (record { marked = e ∙ ap Marked is; mode = inc; to = r.table; taker = r.taker; has = r.has })

  module _ (last kept : Option P) (slot : SlotToCopy) (p : P) where
    pub places : (hash : ℕ) (at : Place) → ReliesCarry g c s last kept slot p (carries.Placing hash at) → s.slot at.table at.probe.i ≡ Empty
        → Allows g s (Place_pair at.table at.probe.i p)
    places hash at r e =
        let f = r.1 in
        subst (λ x. Allows g s (Place_pair at.table x p)) (sym f.slot)
        (may_place g s slot.from slot.index p at.table at.probe.len r.2 f.within (subst (λ x. s.slot at.table x ≡ Empty) f.slot e))

    pub aborts : (table : ℕ) → ReliesCarry g c s last kept slot p (carries.Aborting table) → g.blocking ≡ true → s.aborted table ≡ false
        → Allows g s (Abort table)
    aborts table r blocks e = may_abort g s slot.from slot.index p table r.2 blocks e

  -- a move begins where the mark is
  pub begins : (from n x : ℕ) (p : P) → IsSource g c s from n → s.slot from x ≡ Marked p → IsPutting g s from x p n 0
  begins from n x p r e = record { stood = inl e; taker = target_takes g s (g.key p) from n r.target; before = λ i lt. absurd (omega arith) }

  -- and continues behind a full table
  pub passes : (from x : ℕ) (p : P) (n : ℕ) → IsPutting g s from x p n (g.places n) → g.blocking ≡ false → 0 < s.next n → IsPutting g s from x p (s.next n) 0
  passes from x p n r inc some = put_next g s from x p n r inc some

  -- a place that holds another key's word or Closed is passed
  pub passes_place : (from x : ℕ) (p : P) (n j : ℕ) → IsPutting g s from x p n j → foreign (look g s (g.key p) n j) ≡ true → IsPutting g s from x p n (suc j)
  passes_place from x p n j r e = record {
    stood = r.stood;
    taker = r.taker;
    before = λ i lt. ⊎_elim
        (λ (d : i < j). r.before i d)
        (λ (d : j ≤ i). let is : j ≡ i = omega arith in subst (λ y. foreign (look g s (g.key p) n y) ≡ true) is e)
        (cases_lt i j);
  }

  module _ (law : IsLawful g) (last kept : Option P) (p : P) (hash : ℕ) (at : Place) (word : ℕ) (f : IsFor g c s p hash at)
      (h : HasCompared g c s last kept at word) where
    -- the pair that was compared has another key
    pub compared_no : g.same (g.key p) (g.key h.pair) ≡ false → foreign (look g s (g.key p) at.table at.probe.len) ≡ true
    compared_no other = subst (λ x. foreign (view g (g.key p) (s.slot at.table x)) ≡ true) f.slot
        (compared_foreign g law (g.key p) h.was (s.slot at.table at.probe.i) h.pair h.became h.names other)

    -- or the key of the one that is moved
    pub compared_yes : g.same (g.key p) (g.key h.pair) ≡ true → HasWord g.places (look g s (g.key p)) at.table
    compared_yes same = (
      at.probe.len,
      f.within,
      subst (λ x. own (view g (g.key p) (s.slot at.table x)) ≡ true) f.slot
          (compared_own g law (g.key p) h.was (s.slot at.table at.probe.i) h.pair h.became h.names same),
    )

  -- with blocking a slot whose pair was moved to the target is migrated
  pub settled_blocking : (slot : SlotToCopy) (word : ℕ) (r : HasCarried g c s slot word) → r.table ≡ slot.to → g.blocking ≡ true
      → IsSettled g s slot.to (s.slot slot.from slot.index)
  settled_blocking slot word r is blocks =
      ⊎_elim
      (λ e. subst (IsSettled g s slot.to) (sym e) (blocks, subst (HasWord g.places (look g s (g.key r.pair))) is r.has))
      (λ e. subst (IsSettled g s slot.to) (sym e) tt)
      r.stood

  -- without it, once the word isn't the marked one
  pub settled_incremental : (slot : SlotToCopy) (word : ℕ) (r : HasCarried g c s slot word) → (s.slot slot.from slot.index ≡ Marked r.pair → ⊥)
      → IsSettled g s slot.to (s.slot slot.from slot.index)
  settled_incremental slot word r other = ⊎_elim (λ e. absurd (other e)) (λ e. subst (IsSettled g s slot.to) (sym e) tt) r.stood
