-- The items that an iteration over a list has returned: with those that are left they are the list.
use Rattle.std.proofs.Common.{◌≡◌, List, [], ◌∷◌, ◌++◌, map, Some, None, refl, ap, ◌∙◌}
use Rattle.std.specs.Iterator.{Yields, YieldsFirstBy}
use Rattle.std.specs.Vec.Iter.{into_iter_items, into_iter_steps}
use Rattle.std.specs.declared.vec.IntoIter.{IntoIter}

module _ {A B : Type 0} (view : A → B) where
  -- the list consists of the items that were returned, and those that are left
  pub came_of : (s : List B) (xs : List A) (t : List B) → Yields (YieldsFirstBy view (λ (l : List B). l)) s xs t → s ≡ map view xs ++ t
  came_of s [] t is = is
  came_of s (x ∷ xs) t (j, first, rest) = first ∙ ap (λ (l : List B). view x ∷ l) (came_of j xs t rest)

  -- it was the whole list if nothing is left
  pub came_all : (s : List B) (xs : List A) (t u : List B) → Yields (YieldsFirstBy view (λ (l : List B). l)) s xs t
      → YieldsFirstBy view (λ (l : List B). l) t None u → s ≡ map view xs
  came_all s xs t u came none = came_of s xs t came ∙ ap (λ (l : List B). map view xs ++ l) none.0 ∙ none_left (map view xs)
    where
      none_left : (l : List B) → l ++ [] ≡ l
      none_left [] = refl
      none_left (b ∷ bs) = ap (λ (l : List B). b ∷ l) (none_left bs)

  -- the next item is one of the list
  pub comes_next : (s : List B) (xs : List A) (t : List B) (x : A) (u : List B) → Yields (YieldsFirstBy view (λ (l : List B). l)) s xs t
      → YieldsFirstBy view (λ (l : List B). l) t (Some x) u → s ≡ map view xs ++ view x ∷ u
  comes_next s xs t x u came next = came_of s xs t came ∙ ap (λ (l : List B). map view xs ++ l) next

  pub map_push : (xs : List A) (x : A) → map view (xs ++ x ∷ []) ≡ map view xs ++ view x ∷ []
  map_push [] x = refl
  map_push (y ∷ ys) x = ap (λ (l : List B). view y ∷ l) (map_push ys x)

-- the iterator of a vector returns its items, in their order
module _ {X Z : Type 0} where
  pub taken_front : (s : IntoIter X Z) (xs : List X) (t : IntoIter X Z) → Yields into_iter_steps s xs t → into_iter_items s ≡ xs ++ into_iter_items t
  taken_front s [] t is = ap into_iter_items is
  taken_front s (x ∷ xs) t (j, first, rest) = first.0 ∙ ap (λ (l : List X). x ∷ l) (taken_front j xs t rest)
