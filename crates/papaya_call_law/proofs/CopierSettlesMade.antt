-- The facts that the copy of a slot relies on after an exchange that succeeded.
use Rattle.std.proofs.Common.{◌≡◌, ℕ, Option, Some, refl, sym, ap, ◌∙◌, subst}
use Rattle.papaya_words.specs.declared.resize_mode.ResizeMode.{ResizeMode}
use Rattle.papaya_call.specs.declared.ask.At.{At}
use Rattle.papaya_call.specs.declared.ask.At.TheVariants.{Slot as Slot_word}
use Rattle.papaya_call.specs.declared.ask.StepKind.TheVariants as kinds
use Rattle.papaya_call.specs.declared.copy_ask.CopyAsk.TheVariants.{Exchange as Ask_exchange}
use Rattle.papaya_call.specs.declared.copy.settle.Settle.{Settle}
use Rattle.papaya_call.specs.declared.copy.settle.Settle.TheVariants as settles
use Rattle.papaya_call.specs.declared.copy.settle.SlotToCopy.{SlotToCopy}
use Rattle.papaya_call.specs.Carry.{at_exchanged as carry_at_exchanged}
use Rattle.papaya_call.specs.Settle.{at_exchanged, marked_as, settle_ask, settle_kind}
use Rattle.papaya_words_law.specs.Allows.{Allows}
use Rattle.papaya_words_law.specs.Code.{Coding, IsHashed, code}
use Rattle.papaya_words_law.specs.Copying.{IsSettled}
use Rattle.papaya_words_law.specs.Exchange.{Closed, Marked, Copied, Setting, State, Exchange, Close, after}
use Rattle.papaya_words_law.specs.Invariant.{IsKeeping}
use Rattle.papaya_words_law.specs.Meaning.{map_after}
use Rattle.papaya_words_law.proofs.Later.{lasts}
use Rattle.papaya_words_law.proofs.Slots.{put_there}
use Rattle.papaya_call_law.specs.Copier.{IsCopyAsked, ReliesSettle, ReliesSettled, last_after}
use Rattle.papaya_call_law.specs.Relies.{IsModeOf}
use Rattle.papaya_call_law.specs.TrueAnswers.{word_of}
use Rattle.papaya_call_law.proofs.CopierExchange.{IsKnown, marked_of}
use Rattle.papaya_call_law.proofs.CopierSettles.{by_carried, carry_exchanged, keeps', later, to_carry, zero_next}

module _ {K P : Type 0} (g : Setting K P) (c : Coding K P) (hashed : IsHashed g c) (s : State P) (m : K → Option P) (keeps : IsKeeping g s m)
    (mode : ResizeMode) (moded : IsModeOf mode g.blocking) (e : Exchange P) (may : Allows g s e) (slot : SlotToCopy)
    (known : IsKnown g c hashed s m keeps slot) (last kept : Option P) where
  pub settle_exchanged : (settle : Settle) → ReliesSettle g c s last kept slot settle → (at : At) (old new : ℕ)
      → settle_ask settle slot ≡ Ask_exchange at old new → word_of g c s at ≡ old → IsCopyAsked c (settle_kind settle) at new s kept e
      → ReliesSettled g c (after s e) (last_after e last) kept slot (at_exchanged settle slot mode)
  settle_exchanged settles.Looking r at old new q stands asked = absurd cc
  settle_exchanged settles.Closing r at old new q stands asked =
      let t : ℕ = slot.from in
      let x : ℕ = slot.index in
      let is : Slot_word t x ≡ at = cc q in
      let by : e ≡ Close t x = subst (λ a. IsCopyAsked c (Some kinds.Close) a new s kept e) (sym is) asked in
      let there : (after s e).slot t x ≡ Closed = subst (λ y. (after s y).slot t x ≡ Closed) (sym by) (put_there s t x Closed t x (refl, refl)).0 in
      there
  settle_exchanged settles.Shutting r at old new q stands asked = absurd cc
  settle_exchanged (settles.Marking word) r at old new q stands asked =
      let t : ℕ = slot.from in
      let x : ℕ = slot.index in
      let is : Slot_word t x ≡ at = cc q in
      let same : word ≡ old = cc q in
      let by : IsCopyAsked c (Some kinds.Mark) (Slot_word t x) new s kept e = subst (λ a. IsCopyAsked c (Some kinds.Mark) a new s kept e) (sym is) asked in
      let p : P = by.0 in
      let there : (after s e).slot t x ≡ Marked p = subst (λ y. (after s y).slot t x ≡ Marked p) (sym by.2) (put_there s t x (Marked p) t x (refl, refl)).0 in
      let was : code g c (s.slot t x) ≡ word = ap (word_of g c s) is ∙ stands ∙ sym same in
      to_carry g c hashed (after s e) (map_after g m e) (keeps' g c hashed s m keeps mode moded e may) mode moded slot
      ((lasts g hashed.lawful s (after s e) (zero_next g c hashed s m keeps mode moded e may) (later g c hashed s m keeps mode moded e may)).target
      slot.from slot.to known.target)
      (last_after e last) kept p there (ap (λ y. last_after y last) by.2) (marked_as word) (sym (marked_of g c hashed p word (ap (code g c) (sym by.1) ∙ was)))
  settle_exchanged (settles.Carrying word carry) r at old new q stands asked =
      by_carried g c hashed (after s e) (map_after g m e) (keeps' g c hashed s m keeps mode moded e may) mode moded mode moded (last_after e last)
      kept slot word (carry_at_exchanged carry)
      (carry_exchanged g c hashed s m keeps mode moded e may last kept slot word r.pair r.marked known.on carry r.here r.relies at old new q asked)
  settle_exchanged (settles.Finishing word) r at old new q stands asked =
      let t : ℕ = slot.from in
      let x : ℕ = slot.index in
      let is : Slot_word t x ≡ at = cc q in
      let by : IsCopyAsked c (Some kinds.Finish) (Slot_word t x) new s kept e = subst (λ a. IsCopyAsked c (Some kinds.Finish) a new s kept e) (sym is) asked in
      let there : (after s e).slot t x ≡ Copied by.0 = subst (λ y. (after s y).slot t x ≡ Copied by.0) (sym by.2)
      (put_there s t x (Copied by.0) t x (refl, refl)).0 in
      subst (IsSettled g (after s e) slot.to) (sym there) tt
