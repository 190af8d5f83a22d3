-- The count of a map in which no call is under way.
use Rattle.std.proofs.Common.{◌≡◌, ℕ, ◌<◌, ◌^◌, Bool, ℤ, pos, ◌+ℤ◌, ◌-ℤ◌, to_z, of_z, List, [], ◌∷◌, length, FitsSigned, refl, sym, ◌∙◌, ap, subst, arith}
use Rattle.std.proofs.lemmas.Int.{fits_signed_from_abs, ints, int_wrap_fits, to_z-of_z, to_z_pos}
use Rattle.std.specs.Int.{w64, int_wrap}
use Rattle.papaya_words.specs.Counter.{count_of}
use Rattle.papaya_core_timeline.specs.Content.{content}
use Rattle.papaya_core_timeline.specs.Counted.{IsCounted}
use Rattle.papaya_core_store.specs.Store.{StoreState}

-- a list of no length
no_items : {A : Type 0} (xs : List A) → length xs ≡ 0 → xs ≡ []
no_items [] e = refl
no_items (x ∷ xs) e = absurd (omega (arith, e))

module _ {K V S : Type 0} (eq : K → K → Bool) (store : StoreState K V S) (counted : IsCounted {A = Unit {0}} eq store []) where
  -- the sum is the number of the pairs
  pub counted_sum : FitsSigned w64 store.count.sum → store.count.sum ≡ pos (length (content eq store))
  counted_sum fits =
      let same : store.count.sum +ℤ pos 0 ≡ store.count.sum = omega (arith, ints) in
      sym (int_wrap_fits w64 store.count.sum fits) ∙ ap (int_wrap w64) (sym same) ∙ counted

  -- if the count is 0, there is no pair
  pub counted_none : store.count.sum ≡ pos 0 → content eq store ≡ []
  counted_none none =
      let same : int_wrap w64 (pos 0) ≡ pos 0 = int_wrap_fits w64 (pos 0) (fits_signed_from_abs w64 (pos 0) (omega arith)) in
      let is : pos 0 ≡ pos (length (content eq store)) = sym same ∙ ap (λ z. int_wrap w64 (z +ℤ pos 0)) (sym none) ∙ counted in
      no_items (content eq store) (sym (ap count_of is))

-- a count that is taken back is 0
pub taken_back : (sum : ℤ) (n : ℕ) → FitsSigned w64 sum → sum ≡ pos n → int_wrap w64 (sum +ℤ to_z w64 (of_z w64 (pos 0 -ℤ to_z w64 n))) ≡ pos 0
taken_back sum n fits is =
    let few : n < 2 ^ 63 = (subst (FitsSigned w64) is fits).sfits in
    let shown : to_z w64 n ≡ pos n = to_z_pos w64 n few in
    let less : FitsSigned w64 (pos 0 -ℤ pos n) = fits_signed_from_abs w64 (pos 0 -ℤ pos n) (omega (arith, ints, few)) in
    let back : to_z w64 (of_z w64 (pos 0 -ℤ to_z w64 n)) ≡ pos 0 -ℤ pos n = ap (λ z. to_z w64 (of_z w64 (pos 0 -ℤ z))) shown
    ∙ to_z-of_z w64 (pos 0 -ℤ pos n) less in
    let none : pos n +ℤ (pos 0 -ℤ pos n) ≡ pos 0 = omega (arith, ints) in
    ap (λ z. int_wrap w64 (z +ℤ to_z w64 (of_z w64 (pos 0 -ℤ to_z w64 n)))) is
    ∙ ap (λ z. int_wrap w64 (pos n +ℤ z)) back
    ∙ ap (int_wrap w64) none
    ∙ int_wrap_fits w64 (pos 0) (fits_signed_from_abs w64 (pos 0) (omega arith))
