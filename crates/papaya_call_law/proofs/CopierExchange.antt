-- The exchange for which a copier asks: it may be made if its old word is there, and it writes only
-- its own word.
use Rattle.std.proofs.Common.{◌≡◌, ◌⊎◌, inl, inr, ⊎_elim, ℕ, ◌<◌, ◌==◌, ◌&&◌, eqb-true, eq-eqb}
use Rattle.std.proofs.Common.{Bool, true, false, cond, Option, Some, refl, sym, ap, ◌∙◌, subst}
use Rattle.std.proofs.Common.{arith}
use Rattle.std.proofs.lemmas.Bool.{and_parts, cases_Bool, cond-true, cond-false}
use Rattle.papaya_words.specs.Word.{kind_of, pair_of, live_word, marked_word, copied_word}
use Rattle.papaya_words.specs.declared.word.Kind.TheVariants as word_kinds
use Rattle.papaya_call.specs.declared.ask.At.{At}
use Rattle.papaya_call.specs.declared.ask.At.TheVariants.{Root, Next, Aborted, Done, Slot as Slot_word, Made as Made_word}
use Rattle.papaya_call.specs.declared.ask.StepKind.{StepKind}
use Rattle.papaya_call.specs.declared.ask.StepKind.TheVariants as kinds
use Rattle.papaya_call.specs.declared.copy.carry.Carry.{Carry}
use Rattle.papaya_call.specs.declared.copy.carry.Carry.TheVariants as carries
use Rattle.papaya_call.specs.declared.copy_ask.CopyAsk.TheVariants.{Exchange as Ask_exchange}
use Rattle.papaya_call.specs.declared.copy.copying.Copying.{Copying}
use Rattle.papaya_call.specs.declared.copy.copying.Copying.TheVariants as copyings
use Rattle.papaya_call.specs.declared.copy.link.Link.{Link}
use Rattle.papaya_call.specs.declared.copy.link.Link.TheVariants as links
use Rattle.papaya_call.specs.declared.copy.settle.Settle.{Settle}
use Rattle.papaya_call.specs.declared.copy.settle.Settle.TheVariants as settles
use Rattle.papaya_call.specs.declared.copy.settle.SlotToCopy.{SlotToCopy}
use Rattle.papaya_call.specs.declared.copy.step.Step.{Step}
use Rattle.papaya_call.specs.declared.copy.step.Step.TheVariants as steps
use Rattle.papaya_call.specs.Carry.{carry_ask, carry_kind}
use Rattle.papaya_call.specs.Copying.{copying_ask, copying_kind}
use Rattle.papaya_call.specs.Link.{link_ask, link_kind}
use Rattle.papaya_call.specs.Settle.{copied_as, marked_as, settle_ask, settle_kind}
use Rattle.papaya_call.specs.Step.{slot_of, step_ask, step_kind}
use Rattle.papaya_words_law.specs.Allows.{Allows}
use Rattle.papaya_words_law.specs.Class.{IsOn}
use Rattle.papaya_words_law.specs.Code.{Coding, IsHashed, IsOfKind, code}
use Rattle.papaya_words_law.specs.Copying.{IsTarget}
use Rattle.papaya_words_law.specs.Exchange.{Word, Empty, Closed, Live, Marked, Copied, Setting, State}
use Rattle.papaya_words_law.specs.Exchange.{Exchange, Link as Link_to, Mark, Close, Place, Finish}
use Rattle.papaya_words_law.specs.Exchange.{Advance, Promote, Abort, after, at_put, done_put, slot_put}
use Rattle.papaya_words_law.specs.Invariant.{IsKeeping}
use Rattle.papaya_words_law.proofs.Codes.{code_empty, code_kind, code_pair}
use Rattle.papaya_words_law.proofs.CodeViews.{word_of_kind}
use Rattle.papaya_words_law.proofs.CopierFacts.{target_further}
use Rattle.papaya_words_law.proofs.OneMap.{keeping_sound}
use Rattle.papaya_words_law.proofs.Slots.{put_there, put_elsewhere}
use Rattle.papaya_call_law.specs.Copier.{HasWords, IsCopyAsked, IsMoving, IsSource, ReliesCarry}
use Rattle.papaya_call_law.specs.Copier.{ReliesCopying, ReliesLink, ReliesSettle, ReliesStep}
use Rattle.papaya_call_law.specs.Copier.{link_in_carry, link_in_copying, link_in_settle}
use Rattle.papaya_call_law.specs.Copier.{link_in_step}
use Rattle.papaya_call_law.specs.TrueAnswers.{IsWritten, word_of}
use Rattle.papaya_call_law.proofs.CopierGuarantee.{advances, aborts, finishes, links_on, places, promotes, root_on}

-- a value that was put at an argument is there
pub put_here : {Y : Type 0} → (f : ℕ → Y) (a : ℕ) (y : Y) → at_put f a y a ≡ y
put_here f a y = cond-true (a == a) y (f a) (eq-eqb a a refl)

-- and at each other one the previous value
put_other : {Y : Type 0} → (f : ℕ → Y) (a : ℕ) (y : Y) (b : ℕ) → (b ≡ a → ⊥) → at_put f a y b ≡ f b
put_other f a y b different = ⊎_elim (λ e. absurd (different (eqb-true b a e))) (λ e. cond-false (b == a) y (f b) e) (cases_Bool (b == a))

-- a chunk that was marked as done is done
pub done_here : (f : ℕ → ℕ → Bool) (n d : ℕ) → done_put f n d n d ≡ true
done_here f n d = cond-true ((n == n) && (d == d)) true (f n d) (ap (λ b. b && (d == d)) (eq-eqb n n refl) ∙ eq-eqb d d refl)

-- and no other is marked by it
done_other : (f : ℕ → ℕ → Bool) (n d u b : ℕ) → ((u ≡ n) × (b ≡ d) → ⊥) → done_put f n d u b ≡ f u b
done_other f n d u b different = ⊎_elim
    (λ (e : ((u == n) && (b == d)) ≡ true). let parts = and_parts (u == n) (b == d) e in absurd (different (eqb-true u n parts.0, eqb-true b d parts.1)))
    (λ (e : ((u == n) && (b == d)) ≡ false). cond-false ((u == n) && (b == d)) true (f u b) e)
    (cases_Bool ((u == n) && (b == d)))

-- a table whose word is 0 was not given up, and a chunk whose word is 0 is not done
pub aborted_none : (b : Bool) (w : ℕ) → w ≡ cond b 1 0 → w ≡ 0 → b ≡ false
aborted_none true w e none = absurd (omega (arith, e, none))
aborted_none false w e none = refl

-- a table whose word is not 0 was given up, and a chunk whose word is not 0 is done
pub aborted_some : (b : Bool) (w : ℕ) → w ≡ cond b 1 0 → (w ≡ 0 → ⊥) → b ≡ true
aborted_some true w e some = refl
aborted_some false w e some = absurd (some e)

module _ {K P : Type 0} (g : Setting K P) (c : Coding K P) (s : State P) where
  -- a word that is put into a slot is the only one that changes
  slot_written : (t x : ℕ) (w : Word P) → IsWritten g c s (Slot_word t x) (code g c w) (slot_put s t x w)
  slot_written t x w = record { here = ap (code g c) (put_there s t x w t x (refl, refl)).0; others = others }
    where
      others : (other : At) → (other ≡ Slot_word t x → ⊥) → word_of g c (slot_put s t x w) other ≡ word_of g c s other
      others Root different = refl
      others (Next u) different = refl
      others (Aborted u) different = refl
      others (Done u b) different = refl
      others Made_word different = refl
      others (Slot_word u y) different = ap (code g c)
          (put_elsewhere s t x w u y (λ e. different (ap (λ a. Slot_word a y) (sym e.0) ∙ ap (Slot_word t) (sym e.1))))

  next_written : (t n : ℕ) → IsWritten g c s (Next t) n (after s (Link_to t n))
  next_written t n = record { here = put_here s.next t n; others = others }
    where
      others : (other : At) → (other ≡ Next t → ⊥) → word_of g c (after s (Link_to t n)) other ≡ word_of g c s other
      others Root different = refl
      others (Next u) different = put_other s.next t n u (λ e. different (ap Next e))
      others (Aborted u) different = refl
      others (Done u b) different = refl
      others Made_word different = refl
      others (Slot_word u y) different = refl

  done_written : (n d : ℕ) → IsWritten g c s (Done n d) 1 (after s (Advance n d))
  done_written n d = record { here = ap (λ b. cond b 1 0) (done_here s.done n d); others = others }
    where
      others : (other : At) → (other ≡ Done n d → ⊥) → word_of g c (after s (Advance n d)) other ≡ word_of g c s other
      others Root different = refl
      others (Next u) different = refl
      others (Aborted u) different = refl
      others Made_word different = refl
      others (Done u b) different = ap (λ b. cond b 1 0) (done_other s.done n d u b (λ e. different (ap (λ y. Done y b) e.0 ∙ ap (Done n) e.1)))
      others (Slot_word u y) different = refl

  root_written : (t n : ℕ) → IsWritten g c s Root n (after s (Promote t n))
  root_written t n = record { here = refl; others = others }
    where
      others : (other : At) → (other ≡ Root → ⊥) → word_of g c (after s (Promote t n)) other ≡ word_of g c s other
      others Root different = absurd (different refl)
      others (Next u) different = refl
      others (Aborted u) different = refl
      others (Done u b) different = refl
      others Made_word different = refl
      others (Slot_word u y) different = refl

  aborted_written : (n : ℕ) → IsWritten g c s (Aborted n) 1 (after s (Abort n))
  aborted_written n = record { here = ap (λ b. cond b 1 0) (put_here s.aborted n true); others = others }
    where
      others : (other : At) → (other ≡ Aborted n → ⊥) → word_of g c (after s (Abort n)) other ≡ word_of g c s other
      others Root different = refl
      others (Next u) different = refl
      others (Aborted u) different = ap (λ b. cond b 1 0) (put_other s.aborted n true u (λ e. different (ap Aborted e)))
      others (Done u b) different = refl
      others Made_word different = refl
      others (Slot_word u y) different = refl

module _ {K P : Type 0} (g : Setting K P) (c : Coding K P) (hashed : IsHashed g c) where
  -- the number of the pair that is moved
  pub carried_number : (p : P) (word : ℕ) → word ≡ code g c (Marked p) → pair_of word ≡ c.number p
  carried_number p word e = ap pair_of e ∙ code_pair g c hashed.coding (Marked p) p refl

  -- the words of a pair, made of another one's number
  live_of : (p : P) (word : ℕ) → word ≡ code g c (Marked p) → code g c (Live p) ≡ live_word (pair_of word)
  live_of p word e = ap live_word (sym (carried_number p word e))

  pub marked_of : (p : P) (word : ℕ) → code g c (Live p) ≡ word → code g c (Marked p) ≡ marked_as word
  marked_of p word e = ap marked_word (sym (code_pair g c hashed.coding (Live p) p refl) ∙ ap pair_of e)

  copied_of : (p : P) (word : ℕ) → word ≡ code g c (Marked p) → code g c (Copied p) ≡ copied_as word
  copied_of p word e = ap copied_word (sym (carried_number p word e))

  -- the new word of a copy names it
  live_pair : (p : P) (word : ℕ) → word ≡ code g c (Marked p) → c.number p ≡ pair_of (live_word (pair_of word))
  live_pair p word e = sym (code_pair g c hashed.coding (Live p) p refl) ∙ ap pair_of (live_of p word e)

  module _ (s : State P) (m : K → Option P) (keeps : IsKeeping g s m) where
    -- the facts about a slot that a copier relies on
    pub record IsKnown (slot : SlotToCopy) : Type 0 where
      pub on : IsOn s.first s.next slot.from
      pub within : slot.index < g.size slot.from
      pub target : IsTarget g s slot.from slot.to
      pub shut : (s.was_root slot.from ≡ true) ⊎ ((p : P) × ((s.slot slot.from slot.index ≡ Marked p) ⊎ (s.slot slot.from slot.index ≡ Copied p)))

    -- the slot of one that is moving
    pub moving_known : (slot : SlotToCopy) → IsMoving g c s slot → IsKnown slot
    moving_known slot r = record { on = r.on; within = r.within; target = r.target; shut = inr (r.pair, r.stood) }

    -- and of a chunk
    pub chunk_known : (slot : SlotToCopy) → IsSource g c s slot.from slot.to → slot.index < g.size slot.from → IsKnown slot
    chunk_known slot r lt = record { on = root_on g c s m keeps slot.from r.was; within = lt; target = r.target; shut = inl r.was }

    -- the exchange of this kind at this place may be made, and writes just the new word
    module _ (last kept : Option P) where
      abbrev pub MayDo : Option StepKind → At → (old new : ℕ) → Type 0
      MayDo kind at old new = word_of g c s at ≡ old → (e : Exchange P) × IsCopyAsked c kind at new s kept e × Allows g s e × IsWritten g c s at new (after s e)

      -- an ask has one kind, place and words
      same_ask : (kind : Option StepKind) (at at' : At) (old old' new new' : ℕ) → Ask_exchange at old new ≡ Ask_exchange at' old' new'
          → MayDo kind at old new → MayDo kind at' old' new'
      same_ask kind at at' old old' new new' e h =
          let a : at ≡ at' = cc e in
          let b : old ≡ old' = cc e in
          let d : new ≡ new' = cc e in
          subst (λ y. MayDo kind y old' new') a (subst (λ y. MayDo kind at y new') b (subst (λ y. MayDo kind at old y) d h))

      -- a table is linked
      pub link_may : (link : Link) → ReliesLink g c s link → HasWords g (Some link) → (at : At) (old new : ℕ)
          → link_ask link ≡ Ask_exchange at old new → MayDo (link_kind link) at old new
      link_may (links.Sizing behind copied unfit) r words at old new e = absurd cc
      link_may (links.Measuring behind copied unfit len) r words at old new e = absurd cc
      link_may (links.Counting behind unfit len copied) r words at old new e = absurd cc
      link_may (links.Making behind len limit chunks) r words at old new e = absurd cc
      link_may (links.Linking behind table chunks) r words at old new e = same_ask (Some kinds.Link) (Next behind) at 0 old table new e
          (λ none. (Link_to behind table, refl, links_on g c s m keeps behind table chunks r words none, next_written g c s behind table))

      -- a pair is put into a table, or the table is given up
      carry_may : (slot : SlotToCopy) (word : ℕ) (p : P) → word ≡ code g c (Marked p) → (carry : Carry) → ReliesCarry g c s last kept slot p carry
          → HasWords g (link_in_carry carry) → (at : At) (old new : ℕ) → carry_ask carry word ≡ Ask_exchange at old new → MayDo (carry_kind carry) at old new
      carry_may slot word p is (carries.Hashing table) r words at old new e = absurd cc
      carry_may slot word p is (carries.Sizing hash table) r words at old new e = absurd cc
      carry_may slot word p is (carries.Looking hash place) r words at old new e = absurd cc
      carry_may slot word p is (carries.Reading hash place) r words at old new e = absurd cc
      carry_may slot word p is (carries.Comparing hash place found) r words at old new e = absurd cc
      carry_may slot word p is (carries.Placing hash place) r words at old new e =
          let t : ℕ = place.table in
          let x : ℕ = place.probe.i in
          same_ask (Some kinds.Place) (Slot_word t x) at 0 old (live_word (pair_of word)) new e (λ none. (
            Place t x p,
            (p, r.0, live_pair p word is, refl),
            places g c s m keeps last kept slot p hash place r (code_empty g c (s.slot t x) none),
            subst (λ y. IsWritten g c s (Slot_word t x) y (slot_put s t x (Live p))) (live_of p word is) (slot_written g c s t x (Live p)),
          ))
      carry_may slot word p is (carries.Placed hash place) r words at old new e = absurd cc
      carry_may slot word p is (carries.Passing hash table) r words at old new e = absurd cc
      carry_may slot word p is (carries.Linking hash link) r words at old new e = link_may link r.4 words at old new e
      carry_may slot word p is (carries.Aborting table) r words at old new e = same_ask (Some kinds.Abort) (Aborted table) at 0 old 1 new e
          (λ none. (
            Abort table,
            refl,
            aborts g c s m keeps last kept slot p table r r.0
                (aborted_none (s.aborted table) (word_of g c s (Aborted table)) refl none),
            aborted_written g c s table,
          ))

      -- the table of such a slot was the root, if the slot is neither Marked nor Copied
      shut_was : (slot : SlotToCopy) → IsKnown slot → ((p : P) → (s.slot slot.from slot.index ≡ Marked p) ⊎ (s.slot slot.from slot.index ≡ Copied p) → ⊥)
          → s.was_root slot.from ≡ true
      shut_was slot known other = ⊎_elim (λ w. w) (λ h. absurd (other h.0 h.1)) known.shut

      -- sealing, marking or finishing it is allowed
      settle_may : (slot : SlotToCopy) → IsKnown slot → (settle : Settle) → ReliesSettle g c s last kept slot settle → HasWords g (link_in_settle settle)
          → (at : At) (old new : ℕ) → settle_ask settle slot ≡ Ask_exchange at old new → MayDo (settle_kind settle) at old new
      settle_may slot known settles.Looking r words at old new e = absurd cc
      settle_may slot known settles.Closing r words at old new e =
          let t : ℕ = slot.from in
          let x : ℕ = slot.index in
          same_ask (Some kinds.Close) (Slot_word t x) at 0 old 5 new e (λ none.
          let empty : s.slot t x ≡ Empty = code_empty g c (s.slot t x) none in (
            Close t x,
            refl,
            record {
              empty = empty;
              was = shut_was slot known (λ p h. ⊎_elim (λ a. cc (a, empty)) (λ b. cc (b, empty)) h);
              further = target_further g
                  s (keeping_sound g s m keeps).rises t slot.to known.target;
            },
            slot_written g c s t x Closed,
          ))
      settle_may slot known settles.Shutting r words at old new e = absurd cc
      settle_may slot known (settles.Marking word) r words at old new e =
          let t : ℕ = slot.from in
          let x : ℕ = slot.index in
          same_ask (Some kinds.Mark) (Slot_word t x) at word old (marked_as word) new e (λ stands.
          let live : IsOfKind word_kinds.Live (s.slot t x) = subst (λ y. IsOfKind y (s.slot t x)) (ap kind_of stands ∙ r) (word_of_kind g c (s.slot t x)) in
          let p : P = live.0 in
          let there : s.slot t x ≡ Live p = live.1 in (
            Mark t x p,
            (p, there, refl),
            record {
              live = there;
              was = shut_was slot known (λ q h. ⊎_elim (λ a. cc (a, there)) (λ b. cc (b, there)) h);
              further = target_further g s
                  (keeping_sound g s m keeps).rises t slot.to known.target;
            },
            subst (λ y. IsWritten g c s (Slot_word t x) y (slot_put s t x (Marked p))) (marked_of p word (ap (code g c) (sym there) ∙ stands))
                (slot_written g c s t x (Marked p)),
          ))
      settle_may slot known (settles.Carrying word carry) r words at old new e = carry_may slot word r.pair r.marked carry r.relies words at old new e
      settle_may slot known (settles.Finishing word) (mode, r) words at old new e =
          let t : ℕ = slot.from in
          let x : ℕ = slot.index in
          let p : P = r.pair in
          same_ask (Some kinds.Finish) (Slot_word t x) at word old (copied_as word) new e (λ stands.
          let of_kind : IsOfKind (kind_of (code g c (Marked p))) (s.slot t x) = subst (λ y. IsOfKind (kind_of y) (s.slot t x)) (stands ∙ r.marked)
          (word_of_kind g c (s.slot t x)) in
          let marked : IsOfKind word_kinds.Marked (s.slot t x) = subst (λ y. IsOfKind y (s.slot t x)) (code_kind g c (Marked p)) of_kind in
          let there : s.slot t x ≡ Marked p = ⊎_elim (λ a. a) (λ b. let q = marked.1 in absurd (cc (b, q))) r.stood in (
            Finish t x p,
            (p, there, refl),
            finishes g c s m keeps slot word p r mode there,
            subst (λ y. IsWritten g c s (Slot_word t x) y (slot_put s t x (Copied p))) (copied_of p word r.marked) (slot_written g c s t x (Copied p)),
          ))

      -- slots are counted as copied, or the table of the copies becomes the root
      step_may : (step : Step) → ReliesStep g c s last kept step → HasWords g (link_in_step step) → (at : At) (old new : ℕ)
          → step_ask step ≡ Ask_exchange at old new → MayDo (step_kind step) at old new
      step_may steps.AtRoot r words at old new e = absurd cc
      step_may (steps.Aiming from behind) r words at old new e = absurd cc
      step_may (steps.Linking from link) r words at old new e = link_may link r.2 words at old new e
      step_may (steps.Judging from to) r words at old new e = absurd cc
      step_may (steps.Sizing from to) r words at old new e = absurd cc
      step_may (steps.AtChunk cursor) r words at old new e = absurd cc
      step_may (steps.Settling chunk settle) r words at old new e =
          settle_may (slot_of chunk) (chunk_known (slot_of chunk) r.0.cursor.source
          (let a = r.0.at in let b = r.0.within in let d = r.0.cursor.len in omega (arith, a, b, d))) settle r.1 words at old new e
      step_may (steps.Advancing cursor) r words at old new e =
          same_ask (Some kinds.Advance) (Done cursor.to cursor.at) at 0 old 1 new e (λ none. (
            Advance cursor.to cursor.at,
            refl,
            advances g c s m keeps cursor r (aborted_none (s.done cursor.to cursor.at) (word_of g c s (Done cursor.to cursor.at)) refl none),
            done_written g c s cursor.to cursor.at,
          ))
      step_may (steps.Promoting from to) r words at old new e =
          same_ask (Some kinds.Promote) Root at from old to new e (λ stands. (
            Promote s.root to,
            refl,
            subst (λ y. Allows g s (Promote y to)) (sym stands) (promotes g c s m keeps from to r.0 r.1 stands),
            root_written g c s s.root to,
          ))

      -- for each purpose of a copy
      pub copying_may : (copying : Copying) → ReliesCopying g c s last kept copying → HasWords g (link_in_copying copying) → (at : At) (old new : ℕ)
          → copying_ask copying ≡ Ask_exchange at old new → MayDo (copying_kind copying) at old new
      copying_may (copyings.Stepping aim step) r words at old new e = step_may step r.1 words at old new e
      copying_may (copyings.Lone slot settle) r words at old new e = settle_may slot (moving_known slot r.0) settle r.1 words at old new e

-- an ask determines one exchange
pub one_asked : {K P : Type 0} → (c : Coding K P) (kind : Option StepKind) (at : At) (new : ℕ) (s : State P) (kept : Option P) (e e' : Exchange P)
    → IsCopyAsked c kind at new s kept e → IsCopyAsked c kind at new s kept e' → e ≡ e'
one_asked c (Some kinds.Link) (Next t) new s kept e e' a b = a ∙ sym b
one_asked c (Some kinds.Mark) (Slot_word t x) new s kept e e' a b = let same : a.0 ≡ b.0 = let h = a.1 in let i = b.1 in cc (h, i) in
    a.2 ∙ ap (Mark t x) same ∙ sym b.2
one_asked c (Some kinds.Close) (Slot_word t x) new s kept e e' a b = a ∙ sym b
one_asked c (Some kinds.Place) (Slot_word t x) new s kept e e' a b = let same : a.0 ≡ b.0 = let h = a.1 in let i = b.1 in cc (h, i) in
    a.3 ∙ ap (Place t x) same ∙ sym b.3
one_asked c (Some kinds.Finish) (Slot_word t x) new s kept e e' a b = let same : a.0 ≡ b.0 = let h = a.1 in let i = b.1 in cc (h, i) in
    a.2 ∙ ap (Finish t x) same ∙ sym b.2
one_asked c (Some kinds.Advance) (Done n chunk) new s kept e e' a b = a ∙ sym b
one_asked c (Some kinds.Promote) Root new s kept e e' a b = a ∙ sym b
one_asked c (Some kinds.Abort) (Aborted n) new s kept e e' a b = a ∙ sym b
one_asked c _ _ new s kept e e' a b = absurd a

-- so the exchange that is asked for is allowed
pub asked_allowed : {K P : Type 0} → (g : Setting K P) (c : Coding K P) (hashed : IsHashed g c) (s : State P) (m : K → Option P)
    (keeps : IsKeeping g s m) (last kept : Option P) (copying : Copying) → ReliesCopying g c s last kept copying
    → HasWords g (link_in_copying copying) → (at : At) (old new : ℕ) → copying_ask copying ≡ Ask_exchange at old new → word_of g c s at ≡ old
    → (e : Exchange P) → IsCopyAsked c (copying_kind copying) at new s kept e → Allows g s e
asked_allowed g c hashed s m keeps last kept copying r words at old new q stands e asked =
    let h = copying_may g c hashed s m keeps last kept copying r words at old new q stands in
    subst (Allows g s) (one_asked c (copying_kind copying) at new s kept h.0 e h.1 asked) h.2
