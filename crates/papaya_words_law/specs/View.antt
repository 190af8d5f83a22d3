-- What the words tell a search for one key, and which tables the search comes to. V t j is what it
-- finds at the j-th place of table t, and n t is how many places t has.
use Rattle.std.specs.Prelude.{◌≡◌, ◌⊎◌, ℕ, ◌<◌, Bool, true, false, cond}
use Rattle.papaya_words_law.specs.Exchange.{Word, Empty, Closed, Live, Marked, Copied, Buried, Setting, State, walk}

-- What a word tells a search. Another key's word and Closed tell it the same: to go on.
pub data View (P : Type 0) : Type 0 where
  Free : View P
  Foreign : View P
  Here : (pair : P) → View P
  Leaving : (pair : P) → View P
  Gone : (pair : P) → View P
  Grave : (pair : P) → View P

-- what a word tells a search for key k
abbrev pub view : {K P : Type 0} → Setting K P → K → Word P → View P
view g k Empty = Free
view g k Closed = Foreign
view g k (Live p) = cond (g.same k (g.key p)) (Here p) Foreign
view g k (Marked p) = cond (g.same k (g.key p)) (Leaving p) Foreign
view g k (Copied p) = cond (g.same k (g.key p)) (Gone p) Foreign
view g k (Buried p) = cond (g.same k (g.key p)) (Grave p) Foreign

-- whether the word is one of the key, of any kind
abbrev pub own : {P : Type 0} → View P → Bool
own Free = false
own Foreign = false
own _ = true

-- whether the table has the key's pair by this word, or had it until the pair was copied
abbrev pub active : {P : Type 0} → View P → Bool
active (Here p) = true
active (Leaving p) = true
active (Gone p) = true
active _ = false

-- whether a search finds the pair at this word
abbrev pub held : {P : Type 0} → View P → Bool
held (Here p) = true
held (Leaving p) = true
held _ = false

-- whether a search goes on to the next place; a claim may be behind such a word
abbrev pub beyond : {P : Type 0} → View P → Bool
beyond Foreign = true
beyond (Grave p) = true
beyond _ = false

-- whether the word is another key's or Closed; a copy may be behind such a word
abbrev pub foreign : {P : Type 0} → View P → Bool
foreign Foreign = true
foreign _ = false

-- what a search for the key k finds at its j-th place in table t
abbrev pub look : {K P : Type 0} → Setting K P → State P → K → ℕ → ℕ → View P
look g s k t j = view g k (s.slot t (g.place k t j))

-- the search for the key goes on to the next table
abbrev pub IsPassed : {P : Type 0} → (ℕ → ℕ) → (ℕ → ℕ → View P) → ℕ → Type 0
IsPassed {P = P} n V t = ((j : ℕ) × (p : P) × (j < n t) × (V t j ≡ Gone p))
    ⊎ ((j : ℕ) → j < n t → beyond (V t j) ≡ true)

-- no copy of the key's pair fits into table t
abbrev pub IsFull : {P : Type 0} → (ℕ → ℕ) → (ℕ → ℕ → View P) → ℕ → Type 0
IsFull n V t = (j : ℕ) → j < n t → foreign (V t j) ≡ true

-- table t has some word of the key
abbrev pub HasWord : {P : Type 0} → (ℕ → ℕ) → (ℕ → ℕ → View P) → ℕ → Type 0
HasWord n V t = (j : ℕ) × (j < n t) × (own (V t j) ≡ true)

-- x is the slot of a place of the key, and each place before that one passes the test
pub record IsNextPlace {K P : Type 0} (g : Setting K P) (s : State P) (k : K) (test : View P → Bool)
    (t x : ℕ) : Type 0 where
  pub at : ℕ
  pub within : at < g.places t
  pub is : g.place k t at ≡ x
  pub before : (i : ℕ) → i < at → test (look g s k t i) ≡ true

-- Table t was the root. Or, without blocking, it comes some links after a table that was, and the
-- search for the key goes past each table in between.
pub record IsReached {K P : Type 0} (g : Setting K P) (s : State P) (k : K) (t : ℕ) : Type 0 where
  pub from : ℕ
  pub links : ℕ
  pub was : s.was_root from ≡ true
  pub is : walk s.next links from ≡ t
  pub made : 0 < t
  pub mode : (links ≡ 0) ⊎ (g.blocking ≡ false)
  pub passed : (i : ℕ) → i < links → IsPassed g.places (look g s k) (walk s.next i from)
