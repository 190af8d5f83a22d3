-- The words of a table, by their keys.
use Rattle.std.proofs.Common.{◌≡◌, ℕ, zero, suc, ◌+◌, ◌*◌, ◌/◌, ◌%◌, ◌<◌, Some, List, [], ◌∷◌, length, map, slice_get, slice_index_or, refl, sym, ap, ◌∙◌, subst, arith}
use Rattle.std.proofs.lemmas.List.{length-map}
use Rattle.std.proofs.lemmas.Nat.{div-add-mod'}
use Rattle.logbook.specs.Pages.{Book, Named}
use Rattle.papaya_map_book.specs.Makers.{AreFrom}
use Rattle.papaya_map_book.specs.Sheets.{Sheet, AllOf, AreBeside, HoldHints, word_named}

pub slot_word : (b : Book) (ws : List Named) (i : ℕ) (x : Named) → AllOf b ws → i < length (map (λ (w : Named). w.key) ws) → x ≡ slice_index_or ws i x
    → (k : ℕ) × (slice_get (map (λ (w : Named). w.key) ws) i ≡ Some k) × (x ≡ word_named b k)
slot_word b [] i x a l e = absurd (omega arith)
slot_word b (w ∷ ws) zero x a l e = (w.key, refl, e ∙ a.0)
slot_word b (w ∷ ws) (suc i) x a l e = slot_word b ws i x a.1 (omega arith) e

-- the word of a slot of a table, as the observed sheet of the table names it
pub seen_word : (view seen : Sheet) (ws : List Named) (i : ℕ) (x : Named) → view ≡ seen → view.slots ≡ map (λ (w : Named). w.key) ws
    → AllOf view.book ws → i < length seen.slots → x ≡ slice_index_or ws i x → (k : ℕ) × (slice_get seen.slots i ≡ Some k) × (x ≡ word_named seen.book k)
seen_word view seen ws i x same slots all within is =
    let inside : i < length (map (λ (w : Named). w.key) ws) = subst (λ (l : List ℕ). i < length l) slots
    (subst (λ (s : Sheet). i < length s.slots) (sym same) within) in
    let at = slot_word view.book ws i x all inside is in
    subst (λ (s : Sheet). (k : ℕ) × (slice_get s.slots i ≡ Some k) × (x ≡ word_named s.book k)) same
    (at.0, ap (λ (l : List ℕ). slice_get l i) slots ∙ at.1, at.2)

-- an element of consecutive keys
from_get : (ks : List ℕ) (first x : ℕ) → AreFrom ks first → x < length ks → slice_get ks x ≡ Some (first + x)
from_get [] first x f l = absurd (omega arith)
from_get (k ∷ ks) first zero f l = let is : k ≡ first + 0 = let a = f.0 in omega arith in ap (λ (n : ℕ). Some n) is
from_get (k ∷ ks) first (suc x) f l = let is : first + 1 + x ≡ first + suc x = omega arith in
    from_get ks (first + 1) x f.1 (omega arith) ∙ ap (λ (n : ℕ). Some n) is

-- numbers of hints that are beside each eighth word of a table have the hints of its slots
pub hold_hints : (b : Book) (ws hints : List Named) (first : ℕ) → AllOf b ws → AreFrom (map (λ (w : Named). w.key) ws) first → AreBeside ws hints
    → HoldHints b (map (λ (w : Named). w.key) ws) hints
hold_hints b ws hints first all from beside = λ x d l.
    let key = λ (w : Named). w.key in let j = x / 8 in let i = x % 8 in
    let split : j * 8 + i ≡ x = div-add-mod' x 8 in
    let long : length (map key ws) ≡ length ws = length-map ws key in
    let at = beside j d (omega (arith, split, long, l)) in let w = slice_index_or hints j d in
    let inside : 8 * j < length (map key ws) = omega (arith, split, l) in
    let word = slot_word b ws (8 * j) w all inside at.1 in
    let is : w ≡ word_named b word.0 = word.2 in
    let same : Some word.0 ≡ Some (first + 8 * j) = sym word.1 ∙ from_get (map key ws) first (8 * j) from inside in
    let named : word.0 ≡ first + 8 * j = cc same in
    let key_is : w.key ≡ first + 8 * j = ap key is ∙ named in
    let sum : first + x ≡ w.key + i = omega (arith, split, key_is) in
    (at.0, (is ∙ ap (word_named b) (sym (ap key is)), from_get (map key ws) first x from l ∙ ap (λ (n : ℕ). Some n) sum))
