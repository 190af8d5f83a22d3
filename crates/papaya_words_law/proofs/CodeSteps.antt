-- Each exchange of a slot is a legal step of the numbers of its words.
use Rattle.std.proofs.Common.{◌≡◌, ℕ, Some, refl, sym, ◌∙◌, subst}
use Rattle.papaya_words.specs.Word.{IsSlotStep, MayBecome, NamesSamePair, kind_of}
use Rattle.papaya_words_law.specs.Exchange.{Word, Empty, Closed, Live, Marked, Copied, Buried, Setting}
use Rattle.papaya_words_law.specs.Exchange.{State, Exchange, Open, Claim, Replace, Bury, Link, Mark}
use Rattle.papaya_words_law.specs.Exchange.{Close, Place, Finish, Advance, Promote, Abort, Take, after}
use Rattle.papaya_words_law.specs.Exchange.{slot_put}
use Rattle.papaya_words_law.specs.Allows.{Allows}
use Rattle.papaya_words_law.specs.Invariant.{named}
use Rattle.papaya_words_law.specs.Code.{Coding, IsLawfulCoding, code, kind, ChangesSlot}
use Rattle.papaya_words_law.proofs.Codes.{code_kind, code_pair}
use Rattle.papaya_words_law.proofs.Slots.{put_there, put_elsewhere}

module _ {K P : Type 0} (g : Setting K P) (c : Coding K P) where
  -- the step between the numbers of two words, from the condition on the words' kinds
  step_of_words : (v w : Word P) → MayBecome (kind v) (kind w) (code g c v) (code g c w) → IsSlotStep (code g c v) (code g c w)
  step_of_words v w h =
      let first : MayBecome (kind_of (code g c v)) (kind w) (code g c v) (code g c w) = subst (λ a. MayBecome a (kind w) (code g c v) (code g c w))
      (sym (code_kind g c v)) h in
      subst (λ b. MayBecome (kind_of (code g c v)) b (code g c v) (code g c w)) (sym (code_kind g c w)) first

  -- at the slot that an exchange changes
  step_there : (s : State P) (t x : ℕ) (v w : Word P) (u y : ℕ) → s.slot t x ≡ v → (t ≡ u) × (x ≡ y)
      → MayBecome (kind v) (kind w) (code g c v) (code g c w) → IsSlotStep (code g c (s.slot u y)) (code g c ((slot_put s t x w).slot u y))
  step_there s t x v w u y old e h =
      let r = put_there s t x w u y e in
      let first : IsSlotStep (code g c (s.slot u y)) (code g c w) = subst (λ a. IsSlotStep (code g c a) (code g c w)) (sym (r.1 ∙ old)) (step_of_words v w h) in
      subst (λ b. IsSlotStep (code g c (s.slot u y)) (code g c b)) (sym r.0) first

  module _ (law : IsLawfulCoding g c) where
    -- two words that name one pair
    same_pair : (v w : Word P) (p : P) → named v ≡ Some p → named w ≡ Some p → NamesSamePair (code g c v) (code g c w)
    same_pair v w p a b = code_pair g c law v p a ∙ sym (code_pair g c law w p b)

    -- the step of an allowed exchange
    pub code_step : (s : State P) (e : Exchange P) → Allows g s e → (t x : ℕ) → ChangesSlot e t x
        → IsSlotStep (code g c (s.slot t x)) (code g c ((after s e).slot t x))
    code_step s (Open u) may t x is = absurd is
    code_step s (Claim u y p) may t x is = step_there s u y Empty (Live p) t x may.empty is refl
    code_step s (Replace u y p q) may t x is = step_there s u y (Live p) (Live q) t x may.live is tt
    code_step s (Bury u y p) may t x is = step_there s u y (Live p) (Buried p) t x may.live is (same_pair (Live p) (Buried p) p refl refl)
    code_step s (Link u n) may t x is = absurd is
    code_step s (Mark u y p) may t x is = step_there s u y (Live p) (Marked p) t x may.live is (same_pair (Live p) (Marked p) p refl refl)
    code_step s (Close u y) may t x is = step_there s u y Empty Closed t x may.empty is (refl, refl)
    code_step s (Place u y p) may t x is = step_there s u y Empty (Live p) t x may.empty is refl
    code_step s (Finish u y p) may t x is = step_there s u y (Marked p) (Copied p) t x may.marked is (same_pair (Marked p) (Copied p) p refl refl)
    code_step s (Advance n c) may t x is = absurd is
    code_step s (Promote u n) may t x is = absurd is
    code_step s (Abort n) may t x is = absurd is
    code_step s (Take n) may t x is = absurd is

-- a slot that the exchange doesn't change keeps its word
pub code_stays : {P : Type 0} → (s : State P) (e : Exchange P) (t x : ℕ) → (ChangesSlot e t x → ⊥) → (after s e).slot t x ≡ s.slot t x
code_stays s (Open u) t x other = refl
code_stays s (Claim u y p) t x other = put_elsewhere s u y (Live p) t x other
code_stays s (Replace u y p q) t x other = put_elsewhere s u y (Live q) t x other
code_stays s (Bury u y p) t x other = put_elsewhere s u y (Buried p) t x other
code_stays s (Link u n) t x other = refl
code_stays s (Mark u y p) t x other = put_elsewhere s u y (Marked p) t x other
code_stays s (Close u y) t x other = put_elsewhere s u y Closed t x other
code_stays s (Place u y p) t x other = put_elsewhere s u y (Live p) t x other
code_stays s (Finish u y p) t x other = put_elsewhere s u y (Copied p) t x other
code_stays s (Advance n c) t x other = refl
code_stays s (Promote u n) t x other = refl
code_stays s (Abort n) t x other = refl
code_stays s (Take n) t x other = refl
