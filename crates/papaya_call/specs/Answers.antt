-- The results of closures, as values.
use Rattle.std.specs.Prelude.{ℕ, Bool, Option, List, [], ◌∷◌}
use Rattle.papaya_call.specs.declared.answers.Operation.{Operation}
use Rattle.papaya_call.specs.declared.answers.Operation.TheVariants.{Insert, Remove, Abort}
use Rattle.papaya_call.specs.declared.ask.OpKind.{OpKind}
use Rattle.papaya_call.specs.declared.ask.OpKind.TheVariants as kinds

-- How the values of a type A stand for the results of closures. `op a shown operation left` says
-- that the answers a give `operation` for a closure that is called with `shown`, and that `left` is
-- what is left of them. `yes a k v agrees left` says the same of a closure that is called with the
-- entry of k and v and returns `agrees`.
pub record Says (K V A : Type 0) : Type 1 where
  pub op : A → Option (K × V) → Operation V ℕ → A → Type 0
  pub yes : A → K → V → Bool → A → Type 0

-- the first item of a list, or `default` if the list is empty
abbrev pub first_or : {A : Type 0} → A → List A → A
first_or default [] = default
first_or default (x ∷ rest) = x

-- the list without its first item
abbrev pub rest_of : {A : Type 0} → List A → List A
rest_of [] = []
rest_of (x ∷ rest) = rest

-- the kind of the operation that a closure returned
abbrev pub op_kind : {V : Type 0} → Operation V ℕ → OpKind
op_kind (Insert v) = kinds.Insert
op_kind Remove = kinds.Remove
op_kind (Abort t) = kinds.Abort t
