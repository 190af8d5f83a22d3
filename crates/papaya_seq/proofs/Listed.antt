-- The numbers that an iteration lists, from pair to pair.
use Rattle.std.proofs.Common.{◌≡◌, ℕ, ◌<◌, Bool, List, [], ◌∷◌, ◌++◌, length, map, None, Some, sym, ◌∙◌, ap, arith}
use Rattle.std.proofs.lemmas.List.{append-nil, append_assoc}
use Rattle.papaya_core_store.specs.Store.{StoreState, Stored}
use Rattle.papaya_core_store.proofs.Logs.{pair_number}
use Rattle.papaya_seq.specs.Walks.{IsNext, left_to}
use Rattle.papaya_seq.specs.declared.walks.Position.{Position}

module _ {K V S : Type 0} (eq : K → K → Bool) (store : StoreState K V S) (at at' : Position) where
  -- the numbers of these pairs
  abbrev numbers : List (Stored K V) → List ℕ
  numbers ps = map (λ p. p.number) ps

  -- one more pair is listed, and one fewer is left
  pub listed_more : (n : ℕ) (list all : List ℕ) → IsNext eq store at (Some n) at' → list ++ numbers (left_to eq store at) ≡ all
      → (list ++ n ∷ []) ++ numbers (left_to eq store at') ≡ all
  listed_more n list all (p, there, is) so_far =
      append_assoc list (n ∷ []) (numbers (left_to eq store at'))
      ∙ ap (λ m. list ++ m ∷ numbers (left_to eq store at')) (sym (pair_number store n p there))
      ∙ ap (λ l. list ++ numbers l) (sym is)
      ∙ so_far

  pub listed_fewer : (n : ℕ) → IsNext eq store at (Some n) at' → length (left_to eq store at') < length (left_to eq store at)
  listed_fewer n (p, there, is) = let long = ap length is in omega (arith, long)

  -- if none is left, all are listed
  pub listed_all : (list all : List ℕ) → IsNext eq store at None at' → list ++ numbers (left_to eq store at) ≡ all → list ≡ all
  listed_all list all (none, left) so_far = sym (append-nil list) ∙ ap (λ l. list ++ numbers l) (sym none) ∙ so_far
