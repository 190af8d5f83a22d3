-- What the machines of all callers work on.
use Rattle.std.specs.Prelude.{◌≡◌, ℕ, List, Option, Some, None, slice_get}
use Rattle.papaya_words.specs.Counter.{Count}
use Rattle.papaya_core_store.specs.declared.pairs.Pair.{Pair}
use Rattle.papaya_core_store.specs.Pairs.{key_in, key_part, value_in, value_part}
use Rattle.papaya_core_store.specs.Tables.{Tables}

-- a store: its words, its arena of pairs, its count, and its hasher
pub record StoreState (K V S : Type 0) : Type 0 where
  pub words : Tables
  pub pairs : List (Pair K V)
  pub count : Count
  pub hasher : S

-- a stored pair: its number, its key and its value
pub record Stored (K V : Type 0) : Type 0 where
  pub number : ℕ
  pub key : K
  pub value : V

abbrev pub stored_at : {K V : Type 0} → ℕ → Option K → Option V → Option (Stored K V)
stored_at n (Some k) (Some v) = Some (record { number = n; key = k; value = v })
stored_at n _ _ = None

-- The stored pair of number n. Its key and its value are those that the pair owns, or those that
-- the pairs own which it names.
abbrev pub stored_in : {K V : Type 0} → List (Pair K V) → ℕ → Option (Pair K V)
    → Option (Stored K V)
stored_in log n None = None
stored_in log n (Some p) = stored_at n (key_in log (key_part p)) (value_in log (value_part p))

-- the stored pair of number n, if there is one
abbrev pub pair_of : {K V S : Type 0} → StoreState K V S → ℕ → Option (Stored K V)
pair_of s n = stored_in s.pairs n (slice_get s.pairs n)

-- each pair of the one arena is in the other under the same number
abbrev pub KeepsPairs : {K V S : Type 0} → StoreState K V S → StoreState K V S → Type 0
KeepsPairs {K = K} {V = V} store store' = (n : ℕ) (p : Stored K V) → pair_of store n ≡ Some p
    → pair_of store' n ≡ Some p
