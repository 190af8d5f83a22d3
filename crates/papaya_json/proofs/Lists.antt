-- Items of two lists that belong together.
use Rattle.std.proofs.Common.{◌≡◌, ◌⊎◌, inl, inr, ⊎_elim, List, [], ◌∷◌, map, refl, subst}
use Rattle.std.specs.List.{AllZip}

-- x is in the list
abbrev pub In : {A : Type 0} → A → List A → Type 0
In x [] = ⊥
In x (y ∷ ys) = (y ≡ x) ⊎ In x ys

module _ {A B : Type 0} (R : A → B → Type 0) where
  -- an item of the first list has one of the second
  pub zip_right : (xs : List A) (ys : List B) → AllZip R xs ys → (x : A) → In x xs → (y : B) × In y ys × R x y
  zip_right [] [] all x there = absurd there
  zip_right [] (b ∷ ys) all x there = absurd all
  zip_right (a ∷ xs) [] all x there = absurd all
  zip_right (a ∷ xs) (b ∷ ys) (one, all) x there =
      ⊎_elim
      (λ is. (b, inl refl, subst (λ (z : A). R z b) is one))
      (λ later. let found = zip_right xs ys all x later in (found.0, inr found.1, found.2))
      there

  -- and the other way round
  pub zip_left : (xs : List A) (ys : List B) → AllZip R xs ys → (y : B) → In y ys → (x : A) × In x xs × R x y
  zip_left [] [] all y there = absurd there
  zip_left [] (b ∷ ys) all y there = absurd all
  zip_left (a ∷ xs) [] all y there = absurd all
  zip_left (a ∷ xs) (b ∷ ys) (one, all) y there =
      ⊎_elim
      (λ is. (a, inl refl, subst (λ (z : B). R a z) is one))
      (λ later. let found = zip_left xs ys all y later in (found.0, inr found.1, found.2))
      there

  -- a relation to the images of the items holds, through the map, of the items themselves
  pub zip_seen : {X : Type 0} (see : X → A) (xs : List X) (ys : List B) → AllZip R (map see xs) ys → AllZip (λ x. R (see x)) xs ys
  zip_seen see [] [] all = tt
  zip_seen see [] (b ∷ ys) all = absurd all
  zip_seen see (x ∷ xs) [] all = absurd all
  zip_seen see (x ∷ xs) (b ∷ ys) (one, all) = (one, zip_seen see xs ys all)
