-- The map that a list of exchanges leaves, and what it means for words to represent a map.
use Rattle.std.specs.Prelude.{◌≡◌, ◌⊎◌, ℕ, ◌<◌, ◌++◌, true, false, cond, Option, None, Some, List, [], ◌∷◌}
use Rattle.papaya_words_law.specs.Exchange.{Setting, Exchange, Claim, Replace, Bury, State}
use Rattle.papaya_words_law.specs.View.{Free, Here, Leaving, look, beyond, IsPassed, IsReached}

-- Equality of keys is an equivalence, equal keys have equal places, a table has at least one slot,
-- and a search looks at one or more places, all within the table.
pub record IsLawful {K P : Type 0} (g : Setting K P) : Type 0 where
  pub itself : (k : K) → g.same k k ≡ true
  pub back : (k l : K) → g.same k l ≡ true → g.same l k ≡ true
  pub through : (k l m : K) → g.same k l ≡ true → g.same l m ≡ true → g.same k m ≡ true
  pub places_same : (k l : K) → g.same k l ≡ true → (t j : ℕ) → g.place k t j ≡ g.place l t j
  pub within : (k : K) (t j : ℕ) → j < g.places t → g.place k t j < g.size t
  pub some_place : (t : ℕ) → 0 < g.places t
  pub some_slot : (t : ℕ) → 0 < g.size t

-- the map after an exchange: which pair each key has
abbrev pub map_after : {K P : Type 0} → Setting K P → (K → Option P) → Exchange P → K → Option P
map_after g m (Claim t x p) k = cond (g.same k (g.key p)) (Some p) (m k)
map_after g m (Replace t x p q) k = cond (g.same k (g.key p)) (Some q) (m k)
map_after g m (Bury t x p) k = cond (g.same k (g.key p)) None (m k)
map_after g m _ k = m k

-- the map after a list of exchanges
abbrev pub map_of : {K P : Type 0} → Setting K P → (K → Option P) → List (Exchange P) → K → Option P
map_of g m [] = m
map_of g m (e ∷ es) = map_of g (map_after g m e) es

-- the map that a list of exchanges leaves, from the empty one
abbrev pub map_left : {K P : Type 0} → Setting K P → List (Exchange P) → K → Option P
map_left g es = map_of g (λ k. None) es

-- the exchange takes out of the map what the map has: a claim requires an absent key, and a
-- replacement or a removal that p is the key's pair
abbrev pub IsLegal : {K P : Type 0} → Setting K P → (K → Option P) → Exchange P → Type 0
IsLegal g m (Claim t x p) = m (g.key p) ≡ None
IsLegal g m (Replace t x p q) = m (g.key p) ≡ Some p
IsLegal g m (Bury t x p) = m (g.key p) ≡ Some p
IsLegal g m _ = Unit {0}

-- each exchange of the list is legal for the map that the earlier ones leave
abbrev pub AllLegal : {K P : Type 0} → Setting K P → (K → Option P) → List (Exchange P) → Type 0
AllLegal g m [] = Unit {0}
AllLegal g m (e ∷ es) = IsLegal g m e × AllLegal g (map_after g m e) es

-- The words represent `value` for the key: wherever a search for the key may be, what it finds is
-- that. With blocking a search is in the root, and otherwise in any table that is reached.
pub record IsMeaning {K P : Type 0} (g : Setting K P) (s : State P) (k : K)
    (value : Option P) : Type 0 where
  pub no_root : s.root ≡ 0 → value ≡ None
  -- the key's pair, Live or Marked
  pub found : (t j : ℕ) (p : P) → IsReached g s k t → (g.blocking ≡ true → s.root ≡ t)
      → j < g.places t → (look g s k t j ≡ Here p) ⊎ (look g s k t j ≡ Leaving p) → value ≡ Some p
  -- an empty place that the search comes to
  pub empty : (t j : ℕ) → IsReached g s k t → (g.blocking ≡ true → s.root ≡ t) → j < g.places t
      → ((i : ℕ) → i < j → beyond (look g s k t i) ≡ true) → look g s k t j ≡ Free → value ≡ None
  -- no place is left, and there is no next table
  pub over : (t : ℕ) → IsReached g s k t → IsPassed g.places (look g s k) t
      → ((g.blocking ≡ true) × (s.root ≡ t)) ⊎ ((g.blocking ≡ false) × (s.next t ≡ 0))
      → value ≡ None

-- at some moment during the exchanges fs, which begin at the map m, the map had `value` for the key
pub record IsAtMoment {K P : Type 0} (g : Setting K P) (m : K → Option P) (fs : List (Exchange P))
    (k : K) (value : Option P) : Type 0 where
  pub so_far : List (Exchange P)
  pub rest : List (Exchange P)
  pub is : so_far ++ rest ≡ fs
  pub value_is : map_of g m so_far k ≡ value
