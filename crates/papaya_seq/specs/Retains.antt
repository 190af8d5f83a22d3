-- The effect of `retain`, which keeps the pairs for which its closure returns `true`.
use Rattle.std.specs.Prelude.{◌≡◌, ℕ, Bool, cond, List, [], ◌∷◌, Option, Some, None, drop, take}
use denote.Ref.{Bor}
use Rattle.std.specs.Fn.{Called, Mut}
use Rattle.papaya_words.specs.Table.{TableWords}
use Rattle.papaya_words_law.specs.Content.{AreApart, lookup}
use Rattle.papaya_core_timeline.specs.Content.{content, map_in, pairs_of_slots}
use Rattle.papaya_core_store.specs.Store.{StoreState, Stored, pair_of}
use Rattle.papaya_core_store.specs.Tables.{table_of}
use Rattle.papaya_seq.specs.Map.{Keeps, MapState, next_of, slots_of}

module _ {F K V : Type 0} (g : Mut F (Bor K × (Bor V × Unit {0})) Bool) where
  -- called with the pair p, the closure in state f returns `agrees` and is left in state f'
  pub record Answers (f : F) (p : Stored K V) (agrees : Bool) (f' : F) : Type 0 where
    pub key : Bor K
    pub value : Bor V
    pub key_is : key.now ≡ p.key
    pub value_is : value.now ≡ p.value
    pub called : Called g f (key, (value, tt)) agrees f'

  -- The closure in state f is called with each pair of `shown` once, in order, and is left in state
  -- f'. `left` has the pairs for which it returned `true`.
  abbrev pub Retains : F → (shown left : List (Stored K V)) → F → Type 0
  Retains f [] left f' = (left ≡ []) × (f' ≡ f)
  Retains f (p ∷ ps) left f' = (agrees : Bool) × (later : F) × (rest : List (Stored K V))
      × Answers f p agrees later × Retains later ps rest f' × (left ≡ cond agrees (p ∷ rest) rest)

  -- The closure was called with each pair of s once, and s' has the pairs for which it returned
  -- `true`.
  pub record IsRetained {S : Type 0} (eq : K → K → Bool) (f : F)
      (s s' : StoreState K V S) : Type 0 where
    pub shown : List (Stored K V)
    pub end : F
    pub retains : Retains f shown (content eq s') end
    -- these are the pairs of s, each once
    pub pairs : (k : K) → lookup eq (λ p. p.key) shown k ≡ map_in eq s k
    pub once : AreApart eq (λ p. p.key) shown
    -- in the order of an iteration, if no pairs are being moved
    pub order : next_of s ≡ 0 → shown ≡ content eq s

  -- the same, and f' is the state in which the last call left the closure
  abbrev pub IsRetainedTo : {S : Type 0} → (K → K → Bool) → F → StoreState K V S → StoreState K V S
      → F → Type 0
  IsRetainedTo eq f s s' f' = (retained : IsRetained eq f s s') × (f' ≡ retained.end)

-- the words of a table's slots; none if there is no table
abbrev pub slot_words : Option TableWords → List ℕ
slot_words None = []
slot_words (Some t) = t.slots

-- the words of the root's slots
abbrev pub root_words : {K V S : Type 0} → StoreState K V S → List ℕ
root_words store = slot_words (table_of store.words.tables store.words.root)

module _ {F K V S : Type 0} (g : Mut F (Bor K × (Bor V × Unit {0})) Bool) (s : MapState K V S)
    (f : F) where
  -- The slots of the root before slot i were scanned. When the scan began, the map was s and the
  -- closure was in state f.
  pub record IsRetaining (i : ℕ) (s' : MapState K V S) (f' : F) : Type 0 where
    pub last : next_of s'.store ≡ 0
    pub root : s'.store.words.root ≡ s.store.words.root
    pub long : slots_of s'.store ≡ slots_of s.store
    pub keeps : Keeps s s'
    pub pairs : (n : ℕ) → pair_of s'.store n ≡ pair_of s.store n
    pub behind : drop i (root_words s'.store) ≡ drop i (root_words s.store)
    pub retained : Retains g f (pairs_of_slots s.store (take i (root_words s.store)))
        (pairs_of_slots s.store (take i (root_words s'.store))) f'
