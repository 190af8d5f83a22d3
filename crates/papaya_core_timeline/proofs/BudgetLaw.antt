-- After an exchange of the law fewer changes of its word remain, unless one pair replaces another.
use Rattle.std.proofs.Common.{◌≡◌, ⊎_elim, ℕ, ◌^◌, ◌==◌, ◌&&◌, ◌<◌, ◌≤◌, Bool, true, cond, Option, Some, refl, sym, ◌∙◌, ap, subst, arith, eq-eqb}
use Rattle.papaya_call.specs.declared.ask.At.{At}
use Rattle.papaya_call.specs.declared.ask.At.TheVariants.{Root, Next, Aborted, Done, Slot, Made}
use Rattle.papaya_call.specs.declared.ask.StepKind.{StepKind}
use Rattle.papaya_call.specs.declared.ask.StepKind.TheVariants as kinds
use Rattle.papaya_words_law.specs.Allows.{Allows}
use Rattle.papaya_words_law.specs.Class.{IsOn}
use Rattle.papaya_words_law.specs.Code.{Coding, code, kind}
use Rattle.papaya_words_law.specs.Exchange.{Setting, Word, Empty, Closed, Live, Marked, Copied, Buried, State, Exchange, Promote, after, slot_put}
use Rattle.papaya_words_law.specs.Invariant.{IsSound}
use Rattle.papaya_words_law.proofs.Chain.{walk_between}
use Rattle.papaya_words_law.proofs.Codes.{code_kind}
use Rattle.papaya_call_law.specs.Copier.{IsCopyAsked}
use Rattle.papaya_call_law.specs.TrueAnswers.{IsAsked, LoadedPairs, word_of}
use Rattle.papaya_core_timeline.specs.Ends.{changes_of, changes_of_word, links_of}
use Rattle.papaya_core_timeline.proofs.BudgetTables.{IsChunkOf, changes_at}
use Rattle.papaya_core_timeline.proofs.CallersLemmas.{differs}

-- fewer changes remain; for a pair that replaces another, or a number that is taken, as many remain
abbrev pub IsFewer : Option StepKind → (later before : ℕ) → Type 0
IsFewer (Some kinds.Replace) later before = later ≡ before
IsFewer (Some kinds.Take) later before = later ≡ before
IsFewer _ later before = later < before

-- the word of a table that was given up, or not
abbrev one_if : Bool → ℕ
one_if b = cond b 1 0

module _ {K P : Type 0} (g : Setting K P) (c : Coding K P) (s : State P) (tables : ℕ) where
  -- the changes of a slot, before an exchange and after it
  slot_before : (t x : ℕ) (w : Word P) → s.slot t x ≡ w → changes_of_word (word_of g c s (Slot t x)) ≡ changes_of (kind w)
  slot_before t x w is = ap (λ v. changes_of_word (code g c v)) is ∙ ap changes_of (code_kind g c w)

  slot_after : (t x new : ℕ) (w : Word P) → new ≡ word_of g c (slot_put s t x w) (Slot t x) → changes_of_word new ≡ changes_of (kind w)
  slot_after t x new w is =
      ap changes_of_word is
      ∙ ap (λ b. changes_of_word (code g c (cond b w (s.slot t x)))) (ap (λ b. b && (x == x)) (eq-eqb t t refl) ∙ eq-eqb x x refl)
      ∙ ap changes_of (code_kind g c w)

  -- they are fewer if the word's kind has fewer
  slot_fewer : (t x new : ℕ) (v w : Word P) → s.slot t x ≡ v → new ≡ word_of g c (slot_put s t x w) (Slot t x)
      → changes_of (kind w) < changes_of (kind v) → changes_of_word new < changes_of_word (word_of g c s (Slot t x))
  slot_fewer t x new v w was is less = let before = slot_before t x v was in let later = slot_after t x new w is in omega (arith, before, later, less)

  -- an exchange of a call; a table that it opens was made
  pub call_fewer : (kind : Option StepKind) (at : At) (new : ℕ) (loaded : LoadedPairs P) (k : K) (e : Exchange P)
      → IsAsked g c k kind at new s loaded e → Allows g s e → new ≡ word_of g c (after s e) at → (at ≡ Root → new ≤ tables)
      → IsFewer kind (changes_at tables at new) (changes_at tables at (word_of g c s at))
  call_fewer (Some kinds.Open) Root new loaded k e is may written made =
      let opens = subst (Allows g s) is may in
      let none = opens.0 in
      let some = opens.1 in
      let low = made refl in
      omega (arith, none, some, low)
  call_fewer (Some kinds.Take) Made new loaded k e is may written made = refl
  call_fewer (Some kinds.Claim) (Slot t x) new loaded k e (q, own, key, is) may written made =
      slot_fewer t x new Empty (Live q) (subst (Allows g s) is may).empty (subst (λ y. new ≡ word_of g c (after s y) (Slot t x)) is written) (omega arith)
  call_fewer (Some kinds.Replace) (Slot t x) new loaded k e (p, q, live, own, key, is) may written made =
      slot_after t x new (Live q) (subst (λ y. new ≡ word_of g c (after s y) (Slot t x)) is written) ∙ sym (slot_before t x (Live p) live)
  call_fewer (Some kinds.Bury) (Slot t x) new loaded k e (p, live, is) may written made =
      slot_fewer t x new (Live p) (Buried p) live (subst (λ y. new ≡ word_of g c (after s y) (Slot t x)) is written) (omega arith)
  call_fewer _ _ new loaded k e is may written made = absurd is

  -- a call exchanges no word of a chunk
  pub call_chunk : (kind : Option StepKind) (at : At) (new : ℕ) (loaded : LoadedPairs P) (k : K) (e : Exchange P)
      → IsAsked g c k kind at new s loaded e → IsChunkOf at
  call_chunk (Some kinds.Open) Root new loaded k e is = tt
  call_chunk (Some kinds.Take) Made new loaded k e is = tt
  call_chunk (Some kinds.Claim) (Slot t x) new loaded k e is = tt
  call_chunk (Some kinds.Replace) (Slot t x) new loaded k e is = tt
  call_chunk (Some kinds.Bury) (Slot t x) new loaded k e is = tt
  call_chunk _ _ new loaded k e is = absurd is

  module _ (sound : IsSound g s) (sizes : (t : ℕ) → g.size t ≤ 2 ^ 32) (cut : (x : ℕ) → g.chunk_of x ≤ x)
      (low : (t : ℕ) → IsOn s.first s.next t → t ≤ tables) where
    -- a new root has a greater number than the old one
    promoted : (n : ℕ) → Allows g s (Promote s.root n) → (s.root < n) × (n ≤ tables)
    promoted n may =
        let made = may.made in
        let on : IsOn s.first s.next s.root = ⊎_elim (λ (none : (s.root ≡ 0) × (s.first ≡ 0)). absurd (let z = none.0 in omega (arith, z, made)))
        (λ h. h) sound.root in
        let next = walk_between s.next sound.rises (λ l. s.aborted l ≡ true) s.first s.root may.target.links n on may.target.is may.target.made
        may.target.over in
        (next.1, low n next.0)

    -- an exchange of a copier
    pub copy_fewer : (kind : Option StepKind) (at : At) (new : ℕ) (kept : Option P) (e : Exchange P) → IsCopyAsked c kind at new s kept e
        → Allows g s e → new ≡ word_of g c (after s e) at → changes_at tables at new < changes_at tables at (word_of g c s at)
    copy_fewer (Some kinds.Link) (Next t) new kept e is may written =
        let links = subst (Allows g s) is may in
        let none : links_of (s.next t) ≡ 1 = ap links_of links.last in
        let more = links.rises in
        let some : links_of new ≡ 0 = ap (λ b. cond b 1 0) (differs new 0 (λ z. let e : new ≡ 0 = z in absurd (omega (arith, more, e)))) in
        omega (arith, none, some)
    copy_fewer (Some kinds.Mark) (Slot t x) new kept e (p, live, is) may written =
        slot_fewer t x new (Live p) (Marked p) live (subst (λ y. new ≡ word_of g c (after s y) (Slot t x)) is written) (omega arith)
    copy_fewer (Some kinds.Close) (Slot t x) new kept e is may written =
        slot_fewer t x new Empty Closed (subst (Allows g s) is may).empty (subst (λ y. new ≡ word_of g c (after s y) (Slot t x)) is written) (omega arith)
    copy_fewer (Some kinds.Place) (Slot t x) new kept e (p, own, number, is) may written =
        slot_fewer t x new Empty (Live p) (subst (Allows g s) is may).empty (subst (λ y. new ≡ word_of g c (after s y) (Slot t x)) is written) (omega arith)
    copy_fewer (Some kinds.Finish) (Slot t x) new kept e (p, marked, is) may written =
        slot_fewer t x new (Marked p) (Copied p) marked (subst (λ y. new ≡ word_of g c (after s y) (Slot t x)) is written) (omega arith)
    copy_fewer (Some kinds.Advance) (Done n chunk) new kept e is may written =
        let before : word_of g c s (Done n chunk) ≡ 0 = ap (λ b. one_if b) (subst (Allows g s) is may).done in
        let one : new ≡ 1 = subst (λ y. new ≡ word_of g c (after s y) (Done n chunk)) is written
        ∙ ap (λ b. one_if (cond b true (s.done n chunk))) (ap (λ b. b && (chunk == chunk)) (eq-eqb n n refl) ∙ eq-eqb chunk chunk refl) in
        omega (arith, before, one)
    copy_fewer (Some kinds.Promote) Root new kept e is may written =
        let later = promoted new (subst (Allows g s) is may) in
        let more = later.0 in
        let most = later.1 in
        omega (arith, more, most)
    copy_fewer (Some kinds.Abort) (Aborted n) new kept e is may written =
        let before : word_of g c s (Aborted n) ≡ 0 = ap (λ b. one_if b) (subst (Allows g s) is may).before in
        let one : new ≡ 1 = subst (λ y. new ≡ word_of g c (after s y) (Aborted n)) is written
        ∙ ap (λ b. one_if (cond b true (s.aborted n))) (eq-eqb n n refl) in
        omega (arith, before, one)
    copy_fewer _ _ new kept e is may written = absurd is

    -- and the word of a chunk is one of those that a table may have
    pub copy_chunk : (kind : Option StepKind) (at : At) (new : ℕ) (kept : Option P) (e : Exchange P) → IsCopyAsked c kind at new s kept e
        → Allows g s e → IsChunkOf at
    copy_chunk (Some kinds.Link) (Next t) new kept e is may = tt
    copy_chunk (Some kinds.Mark) (Slot t x) new kept e is may = tt
    copy_chunk (Some kinds.Close) (Slot t x) new kept e is may = tt
    copy_chunk (Some kinds.Place) (Slot t x) new kept e is may = tt
    copy_chunk (Some kinds.Finish) (Slot t x) new kept e is may = tt
    copy_chunk (Some kinds.Advance) (Done n chunk) new kept e is may =
        let goes = subst (Allows g s) is may in
        let within = goes.within in
        let most = sizes goes.from in
        let low_chunk = cut goes.slot in
        let same = goes.in_chunk in
        omega (arith, within, most, low_chunk, same)
    copy_chunk (Some kinds.Promote) Root new kept e is may = tt
    copy_chunk (Some kinds.Abort) (Aborted n) new kept e is may = tt
    copy_chunk _ _ new kept e is may = absurd is
