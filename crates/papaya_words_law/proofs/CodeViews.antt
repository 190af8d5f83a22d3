-- The view of a search for a key, by the number that it loads and by comparing the key.
use Rattle.std.proofs.Common.{◌≡◌, ⊎_elim, true, false, Some, refl, sym, ap, ◌∙◌, subst}
use Rattle.std.proofs.lemmas.Bool.{cases_Bool, cond-true, cond-false}
use Rattle.papaya_words.specs.declared.word.Kind.TheVariants as kinds
use Rattle.papaya_words.specs.Word.{kind_of}
use Rattle.papaya_words_law.specs.Exchange.{Word, Empty, Closed, Live, Marked, Copied, Buried, Setting}
use Rattle.papaya_words_law.specs.View.{View, Foreign, Grave, view, beyond}
use Rattle.papaya_words_law.specs.Invariant.{named}
use Rattle.papaya_words_law.specs.Code.{Coding, IsOfKind, code, kind}
use Rattle.papaya_words_law.proofs.Codes.{code_kind}

-- a word is of its own kind
own_kind : {P : Type 0} → (w : Word P) → IsOfKind (kind w) w
own_kind Empty = refl
own_kind Closed = refl
own_kind (Live p) = (p, refl)
own_kind (Marked p) = (p, refl)
own_kind (Copied p) = (p, refl)
own_kind (Buried p) = (p, refl)

module _ {K P : Type 0} (g : Setting K P) where
  -- a search continues after a word of another key
  pub other_key : (k : K) (w : Word P) (p : P) → named w ≡ Some p → g.same k (g.key p) ≡ false → view g k w ≡ Foreign
  other_key k Empty p e n = absurd cc
  other_key k Closed p e n = refl
  other_key k (Live q) p e n = let is : q ≡ p = cc e in cond-false (g.same k (g.key q)) (View.Here q) Foreign (ap (λ r. g.same k (g.key r)) is ∙ n)
  other_key k (Marked q) p e n = let is : q ≡ p = cc e in cond-false (g.same k (g.key q)) (View.Leaving q) Foreign (ap (λ r. g.same k (g.key r)) is ∙ n)
  other_key k (Copied q) p e n = let is : q ≡ p = cc e in cond-false (g.same k (g.key q)) (View.Gone q) Foreign (ap (λ r. g.same k (g.key r)) is ∙ n)
  other_key k (Buried q) p e n = let is : q ≡ p = cc e in cond-false (g.same k (g.key q)) (Grave q) Foreign (ap (λ r. g.same k (g.key r)) is ∙ n)

  -- and after a buried one, whatever its key
  buried_beyond : (k : K) (p : P) → beyond (view g k (Buried p)) ≡ true
  buried_beyond k p =
      ⊎_elim
      (λ (y : g.same k (g.key p) ≡ true). ap beyond (cond-true (g.same k (g.key p)) (Grave p) Foreign y))
      (λ (n : g.same k (g.key p) ≡ false). ap beyond (cond-false (g.same k (g.key p)) (Grave p) Foreign n))
      (cases_Bool (g.same k (g.key p)))

  module _ (c : Coding K P) where
    -- the kind of a number determines its word
    pub word_of_kind : (w : Word P) → IsOfKind (kind_of (code g c w)) w
    word_of_kind w = subst (λ a. IsOfKind a w) (sym (code_kind g c w)) (own_kind w)

    -- so a search passes a Buried and a Closed word without comparing
    pub past_buried : (k : K) (w : Word P) → kind_of (code g c w) ≡ kinds.Buried → beyond (view g k w) ≡ true
    past_buried k w e = let r : IsOfKind kinds.Buried w = subst (λ a. IsOfKind a w) e (word_of_kind w) in
        ap (λ v. beyond (view g k v)) r.1 ∙ buried_beyond k r.0

    -- and a Closed one
    pub past_closed : (k : K) (w : Word P) → kind_of (code g c w) ≡ kinds.Closed → beyond (view g k w) ≡ true
    past_closed k w e = let r : w ≡ Closed = subst (λ a. IsOfKind a w) e (word_of_kind w) in ap (λ v. beyond (view g k v)) r
