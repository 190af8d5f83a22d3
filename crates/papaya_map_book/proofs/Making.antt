-- A table that is made of words of the row, and opened.
use Rattle.std.proofs.Common.{◌≡◌, ◌⊎◌, inl, inr, ℕ, zero, suc, ◌+◌, ◌<◌, ◌≤◌, Bool, Option}
use Rattle.std.proofs.Common.{Some, List, [], ◌∷◌, ◌++◌, length, slice_get, refl, sym, ap, ◌∙◌}
use Rattle.std.proofs.Common.{subst, arith}
use mathlib.Core.List.{IsPrefix}
use Rattle.boxcar.specs.Table.{Where}
use Rattle.logbook.specs.Pages.{Book, Named}
use Rattle.papaya_call.specs.declared.ask.At.{At}
use Rattle.papaya_call.specs.declared.ask.At.TheVariants.{Root, Next, Aborted, Done, Slot, Made}
use Rattle.papaya_call.specs.declared.ask.StepKind.TheVariants as kinds
use Rattle.papaya_words_law.specs.Code.{Coding}
use Rattle.papaya_words_law.specs.Exchange.{Setting, State, Open, after}
use Rattle.papaya_call_law.specs.TrueAnswers.{word_of}
use Rattle.papaya_map_book.specs.Sheets.{AllOf, Sheet, word_named}
use Rattle.papaya_map_book.specs.declared.rule.entry.Begun.{Begun}
use Rattle.papaya_map_book.specs.declared.rule.entry.Event.{Event}
use Rattle.papaya_map_book.specs.declared.rule.entry.Step.TheVariants as steps
use Rattle.papaya_map_book.specs.Logs.{Stored, coding_of, number_of, owner, setting_of, state_of}
use Rattle.papaya_map_book.specs.Makers.{AreDealt, AreFrom, CanBring, IsMade, key_of, table_of}
use Rattle.papaya_map_book.proofs.Comes.{get_within}
use Rattle.papaya_map_book.proofs.Logs.{get_left, get_right, owner_later}

-- an opening changes the root alone
others_stay : {K P : Type 0} (g : Setting K P) (c : Coding K P) (s : State P) (t : ℕ) (at : At) → (at ≡ Root → ⊥)
    → word_of g c (after s (Open t)) at ≡ word_of g c s at
others_stay g c s t Root n = absurd (n refl)
others_stay g c s t (Next u) n = refl
others_stay g c s t (Aborted u) n = refl
others_stay g c s t (Done u d) n = refl
others_stay g c s t (Slot u x) n = refl
others_stay g c s t Made n = refl

-- if there is no root, a table may be opened
pub can_open : {K V S : Type 0} (eq : K → K → Bool) (hash : S → K → ℕ) (b : Begun K V S) (made : Option (Stored K V)) (w : Where Sheet)
    (v : List (Event K V S)) → CanBring eq hash b Root (Some kinds.Open) 0 (number_of w) made w v
can_open eq hash b made w v log pre l is = (
  record {
    step = steps.Open w;
    meant = record { asked = inl refl; with_it = refl };
    allowed = (is, omega arith);
    written = record {
      here = refl;
      others = λ at n.
          others_stay (setting_of eq (hash b.hasher) b.mode b.limit log) (coding_of (hash b.hasher)) (state_of log) (number_of w) at n;
    };
  },
  l.unopened is (number_of w),
)

-- one more word
pub from_more : (ks : List ℕ) (first k : ℕ) → AreFrom ks first → k ≡ first + length ks → AreFrom (ks ++ k ∷ []) first
from_more [] first k f e = (omega arith, tt)
from_more (j ∷ ks) first k f e = (f.0, from_more ks (first + 1) k f.1 (omega arith))

-- words after words
pub from_append : (ks js : List ℕ) (first : ℕ) → AreFrom ks first → AreFrom js (first + length ks) → AreFrom (ks ++ js) first
from_append [] js first f g = let e : first + 0 ≡ first = omega arith in subst (AreFrom js) e g
from_append (k ∷ ks) js first f g = let e : first + length (k ∷ ks) ≡ first + 1 + length ks = omega arith in
    (f.0, from_append ks js (first + 1) f.1 (subst (AreFrom js) e g))

-- each of them
from_at : (ks : List ℕ) (first x k : ℕ) → AreFrom ks first → slice_get ks x ≡ Some k → k ≡ first + x
from_at [] first x k f e = absurd (cc e)
from_at (j ∷ ks) first zero k f e = let i : j ≡ k = cc e in let h = f.0 in omega arith
from_at (j ∷ ks) first (suc x) k f e = let r = from_at ks (first + 1) x k f.1 e in omega arith

module _ {K V S : Type 0} where
  -- they stay dealt
  pub dealt_later : (v log : List (Event K V S)) → IsPrefix v log → (first count seal : ℕ) → AreDealt first count seal v → AreDealt first count seal log
  dealt_later v log pre first count seal d =
      subst (AreDealt first count seal) pre.1
      (record { past = d.past; within = d.within; sealed = d.sealed; owned = λ i l. owner_later v pre.0 (first + i) seal (d.owned i l) })

  module _ (sheet : Sheet) (log : List (Event K V S)) (some : 0 < length sheet.slots)
      (from : AreFrom (sheet.next ∷ (sheet.done ++ sheet.slots)) sheet.next)
      (dealt : AreDealt sheet.next (length (sheet.next ∷ (sheet.done ++ sheet.slots))) sheet.seal log) where
    abbrev row : List ℕ
    row = sheet.done ++ sheet.slots

    done_in : (c k : ℕ) → slice_get sheet.done c ≡ Some k → slice_get row c ≡ Some k
    done_in c k e = get_left sheet.done sheet.slots c k e

    slot_in : (x k : ℕ) → slice_get sheet.slots x ≡ Some k → slice_get row (length sheet.done + x) ≡ Some k
    slot_in x k e = get_right sheet.done sheet.slots x ∙ e

    row_at : (i k : ℕ) → slice_get row i ≡ Some k → (k ≡ sheet.next + (i + 1)) × (i + 1 < length (sheet.next ∷ row))
    row_at i k e = let at = from_at row (sheet.next + 1) i k from.1 e in let l = get_within row i k e in (omega arith, omega arith)

    one_index : (i j k : ℕ) → slice_get row i ≡ Some k → slice_get row j ≡ Some k → i ≡ j
    one_index i j k e f = let a = (row_at i k e).0 in let b = (row_at j k f).0 in omega arith

    -- a word of the row is for the table
    in_row : (i k : ℕ) → k ≡ sheet.next + i → i < length (sheet.next ∷ row) → (3 ≤ k) × (k < sheet.seal) × (owner k log ≡ Some sheet.seal)
    in_row i k is l = let p = dealt.past in let w = dealt.within in let s = dealt.sealed in
        (omega arith, omega arith, ap (λ (n : ℕ). owner n log) is ∙ dealt.owned i l)

    of_next : (k : ℕ) → sheet.next ≡ k → (3 ≤ k) × (k < sheet.seal) × (owner k log ≡ Some sheet.seal)
    of_next k e = in_row 0 k (omega arith) (omega arith)

    of_row : (i k : ℕ) → slice_get row i ≡ Some k → (3 ≤ k) × (k < sheet.seal) × (owner k log ≡ Some sheet.seal)
    of_row i k e = let r = row_at i k e in in_row (i + 1) k r.0 r.1

    each : (at : At) (k : ℕ) → key_of sheet at ≡ Some k → (3 ≤ k) × ((k ≡ sheet.seal) ⊎ (owner k log ≡ Some sheet.seal))
    each Root k e = absurd (cc e)
    each Made k e = absurd (cc e)
    each (Next t) k e = let r = of_next k (cc e) in (r.0, inr r.2)
    each (Aborted t) k e = let i : sheet.seal ≡ k = cc e in let s = dealt.sealed in (omega arith, inl (sym i))
    each (Done t c) k e = let r = of_row c k (done_in c k e) in (r.0, inr r.2)
    each (Slot t x) k e = let r = of_row (length sheet.done + x) k (slot_in x k e) in (r.0, inr r.2)

    -- a word of the row is not one of those before it
    not_next : (i k : ℕ) → sheet.next ≡ k → slice_get row i ≡ Some k → ⊥
    not_next i k is e = let a = (row_at i k e).0 in omega arith

    not_seal : (i k : ℕ) → sheet.seal ≡ k → slice_get row i ≡ Some k → ⊥
    not_seal i k is e = let a = (of_row i k e).1 in omega arith

    not_both : (c x k : ℕ) → slice_get sheet.done c ≡ Some k → slice_get sheet.slots x ≡ Some k → ⊥
    not_both c x k e f =
        let i : c ≡ length sheet.done + x = one_index c (length sheet.done + x) k (done_in c k e) (slot_in x k f) in
        let l = get_within sheet.done c k e in omega arith

    -- two words of a table with the same key are one, by the order in which the words were made
    other : (at at' : At) (k : ℕ) → table_of at ≡ table_of at' → key_of sheet at ≡ Some k → key_of sheet at' ≡ Some k → at ≡ at'
    other Root at' k t e f = absurd (cc e)
    other Made at' k t e f = absurd (cc e)
    other (Next t) Root k u e f = absurd (cc f)
    other (Next t) Made k u e f = absurd (cc f)
    other (Next t) (Next t') k u e f = ap Next u
    other (Next t) (Aborted t') k u e f = let j : sheet.seal ≡ k = cc f in let m = (of_next k (cc e)).1 in absurd (omega arith)
    other (Next t) (Done t' c) k u e f = absurd (not_next c k (cc e) (done_in c k f))
    other (Next t) (Slot t' x) k u e f = absurd (not_next (length sheet.done + x) k (cc e) (slot_in x k f))
    other (Aborted t) Root k u e f = absurd (cc f)
    other (Aborted t) Made k u e f = absurd (cc f)
    other (Aborted t) (Next t') k u e f = let i : sheet.seal ≡ k = cc e in let m = (of_next k (cc f)).1 in absurd (omega arith)
    other (Aborted t) (Aborted t') k u e f = ap Aborted u
    other (Aborted t) (Done t' c) k u e f = absurd (not_seal c k (cc e) (done_in c k f))
    other (Aborted t) (Slot t' x) k u e f = absurd (not_seal (length sheet.done + x) k (cc e) (slot_in x k f))
    other (Done t c) Root k u e f = absurd (cc f)
    other (Done t c) Made k u e f = absurd (cc f)
    other (Done t c) (Next t') k u e f = absurd (not_next c k (cc f) (done_in c k e))
    other (Done t c) (Aborted t') k u e f = absurd (not_seal c k (cc f) (done_in c k e))
    other (Done t c) (Done t' d) k u e f = let i : c ≡ d = one_index c d k (done_in c k e) (done_in d k f) in λ z. Done (u z) (i z)
    other (Done t c) (Slot t' x) k u e f = absurd (not_both c x k e f)
    other (Slot t x) Root k u e f = absurd (cc f)
    other (Slot t x) Made k u e f = absurd (cc f)
    other (Slot t x) (Next t') k u e f = absurd (not_next (length sheet.done + x) k (cc f) (slot_in x k e))
    other (Slot t x) (Aborted t') k u e f = absurd (not_seal (length sheet.done + x) k (cc f) (slot_in x k e))
    other (Slot t x) (Done t' c) k u e f = absurd (not_both c x k f e)
    other (Slot t x) (Slot t' y) k u e f =
        let j : length sheet.done + x ≡ length sheet.done + y = one_index (length sheet.done + x) (length sheet.done + y) k (slot_in x k e) (slot_in y k f) in
        let i : x ≡ y = omega arith in
        λ z. Slot (u z) (i z)

    pub table_made : IsMade sheet log
    table_made = record {
      some_slot = some;
      past = λ at k e. (each at k e).0;
      sealed = dealt.sealed;
      owned = λ at k e. (each at k e).1;
      apart = other;
    }

-- the words of a row, by their keys
pub all_more : (b : Book) (ws : List Named) (x : Named) → AllOf b ws → x ≡ word_named b x.key → AllOf b (ws ++ x ∷ [])
all_more b [] x a e = (e, tt)
all_more b (w ∷ ws) x a e = (a.0, all_more b ws x a.1 e)
