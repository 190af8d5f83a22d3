-- Tables that are made later: settings that agree on the tables of the chain, and the setting that
-- a growing list of tables or a log gives.
use Rattle.std.specs.Prelude.{◌≡◌, ◌⊎◌, ℕ, ◌<◌, ◌==◌, ◌||◌, Bool, true, false, cond, List, [], ◌∷◌, Option}
use Rattle.papaya_words_law.specs.Exchange.{Setting, State, Exchange, Open, Link}

-- g' is the same as g for modes, keys and the tables of the chain; for other tables it may be
-- anything
pub record Agrees {K P : Type 0} (On : ℕ → Type 0) (g g' : Setting K P) : Type 0 where
  pub blocking : g'.blocking ≡ g.blocking
  pub key : (p : P) → g'.key p ≡ g.key p
  pub same : (k l : K) → g'.same k l ≡ g.same k l
  pub size : (t : ℕ) → On t → g'.size t ≡ g.size t
  pub chunk_of : (x : ℕ) → g'.chunk_of x ≡ g.chunk_of x
  pub most : g'.most ≡ g.most
  pub chunks : (t : ℕ) → On t → g'.chunks t ≡ g.chunks t
  pub places : (t : ℕ) → On t → g'.places t ≡ g.places t
  pub place : (k : K) (t j : ℕ) → On t → g'.place k t j ≡ g.place k t j

-- A setting without the lengths of its tables, their numbers of places and their numbers of words
-- for chunks. A key's places depend only on the length of the table.
pub record Plan (K P : Type 0) : Type 0 where
  pub blocking : Bool
  pub chunk_of : ℕ → ℕ
  pub most : Option ℕ
  pub key : P → K
  pub same : K → K → Bool
  pub probe : K → ℕ → ℕ → ℕ  -- the slot of the j-th place of a key in a table of a length

-- the conditions of `IsLawful` on a plan
pub record IsLawfulPlan {K P : Type 0} (h : Plan K P) : Type 0 where
  pub itself : (k : K) → h.same k k ≡ true
  pub back : (k l : K) → h.same k l ≡ true → h.same l k ≡ true
  pub through : (k l m : K) → h.same k l ≡ true → h.same l m ≡ true → h.same k m ≡ true
  pub probe_same : (k l : K) → h.same k l ≡ true → (n j : ℕ) → h.probe k n j ≡ h.probe l n j
  pub within : (k : K) (n j : ℕ) → 0 < n → h.probe k n j < n

-- the setting of a plan in which table t has `size t` slots, `places t` places and `chunks t` words
-- for chunks
abbrev pub planned : {K P : Type 0} → Plan K P → (size places chunks : ℕ → ℕ) → Setting K P
planned h size places chunks = record {
  blocking = h.blocking;
  size = size;
  chunk_of = h.chunk_of;
  most = h.most;
  chunks = chunks;
  places = places;
  place =
      λ k t j. h.probe k (size t) j;
  key = h.key;
  same = h.same;
}

-- table t is the first root or the next table of some table, as each table of the chain is
abbrev pub Comes : {P : Type 0} → State P → ℕ → Type 0
Comes s t = (s.first ≡ t) ⊎ ((u : ℕ) × (s.next u ≡ t))

-- An entry of a log: an exchange and, if it opens or links a table, the table's length, and its
-- numbers of places and of words for chunks.
pub record Entry (P : Type 0) : Type 0 where
  pub by : Exchange P
  pub size : ℕ
  pub places : ℕ
  pub chunks : ℕ

-- the exchanges of a log
abbrev pub exchanges : {P : Type 0} → List (Entry P) → List (Exchange P)
exchanges [] = []
exchanges (e ∷ es) = e.by ∷ exchanges es

-- the exchange opens or links table n
abbrev pub brings : {P : Type 0} → Exchange P → ℕ → Bool
brings (Open t) n = t == n
brings (Link t u) n = u == n
brings _ n = false

-- some entry of the log opens or links table n
abbrev pub is_brought : {P : Type 0} → List (Entry P) → ℕ → Bool
is_brought [] n = false
is_brought (e ∷ es) n = brings e.by n || is_brought es n

-- the length of table n, by the first entry that opens or links it; 1 if none does
abbrev pub size_in : {P : Type 0} → List (Entry P) → ℕ → ℕ
size_in [] n = 1
size_in (e ∷ es) n = cond (brings e.by n) e.size (size_in es n)

-- the number of places of table n, likewise
abbrev pub places_in : {P : Type 0} → List (Entry P) → ℕ → ℕ
places_in [] n = 1
places_in (e ∷ es) n = cond (brings e.by n) e.places (places_in es n)

-- the number of words for chunks of table n, likewise; 0 if no entry opens or links it
abbrev pub chunks_in : {P : Type 0} → List (Entry P) → ℕ → ℕ
chunks_in [] n = 0
chunks_in (e ∷ es) n = cond (brings e.by n) e.chunks (chunks_in es n)

-- the setting that a log gives
abbrev pub setting_in : {K P : Type 0} → Plan K P → List (Entry P) → Setting K P
setting_in h es = planned h (size_in es) (places_in es) (chunks_in es)

-- each entry that opens or links a table gives it at least one slot and one place
abbrev pub AllSized : {P : Type 0} → List (Entry P) → Type 0
AllSized [] = Unit {0}
AllSized (e ∷ es) = ((n : ℕ) → brings e.by n ≡ true → (0 < e.size) × (0 < e.places)) × AllSized es
