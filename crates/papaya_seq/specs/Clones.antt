-- Maps that are equal, and maps of clones.
use Rattle.std.specs.Prelude.{◌≡◌, ◌⊎◌, ◌+◌, ◌<◌, ◌≤◌, Bool, true, List, [], ◌∷◌, ◌++◌, None, Some, MatchOption, length, map}
use Rattle.std.specs.List.{AllZip}
use Rattle.papaya_words.specs.declared.limits.TheConstants.{DEFAULT_CHUNK, MAX_SHARDS}
use Rattle.papaya_words.specs.declared.refused.Refused.{Refused}
use Rattle.papaya_words.specs.declared.refused.Refused.TheVariants.{Memory, Capacity}
use Rattle.papaya_words.specs.declared.resize_mode.ResizeMode.TheVariants.{Incremental}
use Rattle.papaya_words_keys.specs.Sizes.{IsTooMuch}
use Rattle.papaya_core_store.specs.Store.{StoreState, Stored}
use Rattle.papaya_core_timeline.specs.Content.{content, map_in}
use Rattle.papaya_core_timeline.specs.Core.{unlimited}
use Rattle.papaya_core_timeline.specs.New.{IsNew}
use Rattle.papaya_seq.specs.Map.{MapState, core_of, entry_of, value_of}
use Rattle.papaya_seq.specs.Resizes.{IsReserveCause}
use Rattle.papaya_seq.specs.Entries.{Fills, IsCut}

-- the map has an equal value at this entry's key
abbrev pub HasEqual : {K V S : Type 0} → (K → K → Bool) → (V → V → Bool) → StoreState K V S → K × V
    → Type 0
HasEqual {V = V} eq same s e = (w : V) × (value_of (map_in eq s e.0) ≡ Some w)
    × (same e.1 w ≡ true)

module _ {K V W S Z : Type 0} (eq : K → K → Bool) where
  -- for each class both maps have a pair, and `like` holds for the two, or neither has one
  abbrev pub Agree : (Stored K V → Stored K W → Type 0) → StoreState K V S → StoreState K W Z
      → Type 0
  Agree like s s' = (k : K) → MatchOption (map_in eq s k) (map_in eq s' k ≡ None)
      (λ p. (q : Stored K W) × (map_in eq s' k ≡ Some q) × like p q)

-- two maps have the same classes, with equal values
abbrev pub AreEqual : {K V S Z : Type 0} → (K → K → Bool) → (V → V → Bool) → StoreState K V S
    → StoreState K V Z → Type 0
AreEqual eq same s s' = Agree eq (λ p q. same p.value q.value ≡ true) s s'

-- for each class the second map has a clone of the first map's pair, or neither has one
abbrev pub IsCloned : {K V S Z : Type 0} → (K → K → Bool) → (K → K → Type 0) → (V → V → Type 0)
    → StoreState K V S → StoreState K V Z → Type 0
IsCloned eq clones_key clones_value s s' = Agree eq (λ p q. clones_key p.key q.key
    × clones_value p.value q.value) s s'

module _ {K V : Type 0} (clones_key : K → K → Type 0) (clones_value : V → V → Type 0) where
  -- the second entry is a clone of the first
  abbrev pub Clones : K × V → K × V → Type 0
  Clones e c = clones_key e.0 c.0 × clones_value e.1 c.1

module _ {K V : Type 0} (eq : K → K → Bool) (clones_key : K → K → Type 0)
    (clones_value : V → V → Type 0) where
  -- clones of these entries were inserted into the map, in their order
  pub record IsCopied {S : Type 0} (to : MapState K V S) (es : List (K × V))
      (to' : MapState K V S) : Type 0 where
    pub clones : List (K × V)
    pub each : AllZip (Clones clones_key clones_value) es clones
    pub fills : Fills eq (λ c. c) to clones to'
    -- for each of them at most one pair was added to the arena
    pub logged : length to'.store.pairs ≤ length to.store.pairs + length es
    pub shards : to'.store.count.shards ≡ to.store.count.shards

  -- Clones of the first entries of a map were inserted into another one, in the order of an
  -- iteration, and the clone of the next entry was refused.
  pub record IsCopyCut {S Z : Type 0} (from : StoreState K V Z) (to : MapState K V S)
      (refused : Refused) (to' : MapState K V S) : Type 0 where
    pub done : List (K × V)
    pub next : K × V
    pub rest : List (K × V)
    pub whole : map entry_of (content eq from) ≡ done ++ next ∷ rest
    pub clones : List (K × V)
    pub each : AllZip (Clones clones_key clones_value) done clones
    pub clone : K × V
    pub cloned : Clones clones_key clones_value next clone
    pub cut : IsCut eq (λ c. c) to clones clone refused to'

-- s' has the mode of s, with its pair limit, the initial capacity of s, and as many shards
pub record HasParts {K V S : Type 0} (s s' : MapState K V S) : Type 0 where
  pub mode : s'.mode ≡ s.mode
  pub initial : s'.initial ≡ s.initial
  pub shards : s'.store.count.shards ≡ s.store.count.shards

-- the same without a pair limit, which a map that is rebuilt gets once it has its pairs
pub record HasFreeParts {K V S : Type 0} (s s' : MapState K V S) : Type 0 where
  pub mode : s'.mode ≡ unlimited s.mode.resize
  pub initial : s'.initial ≡ s.initial
  pub shards : s'.store.count.shards ≡ s.store.count.shards

module _ {K V S : Type 0} (eq : K → K → Bool) (clones_key : K → K → Type 0)
    (clones_value : V → V → Type 0) where
  -- The map s' has clones of the pairs of s, and its arena holds nothing else: it has as many pairs
  -- as the map s.
  pub record IsRebuilt (clones_hasher : S → S → Type 0) (s s' : MapState K V S) : Type 0 where
    pub cloned : IsCloned eq clones_key clones_value s.store s'.store
    pub logged : length s'.store.pairs ≡ length (content eq s.store)
    pub hasher : clones_hasher s.store.hasher s'.store.hasher

  -- Clones were inserted into a new map, which was made for as many pairs as `from` has, and one of
  -- them was refused.
  pub record IsCloneCut (from : StoreState K V S) (refused : Refused) : Type 0 where
    pub new : MapState K V S
    pub left : MapState K V S
    pub is_new : IsNew {A = Unit {0}} (Incremental DEFAULT_CHUNK) (length (content eq from)) 1
        new.store.hasher (core_of new)
    pub cut : IsCopyCut eq clones_key clones_value from new refused left

  -- Why a clone of a map is not made: with `Memory`; with `Capacity` if no table may have slots for
  -- as many pairs; or because one of the clones was refused.
  abbrev pub IsCloneRefusal : StoreState K V S → Refused → Type 0
  IsCloneRefusal from refused = (refused ≡ Memory)
      ⊎ ((refused ≡ Capacity) × IsTooMuch (length (content eq from)))
      ⊎ IsCloneCut from refused

  -- An empty map with the settings of s but no pair limit was refused room for the pairs of s, or
  -- one of their clones.
  pub record IsRebuildCut (s : MapState K V S) (refused : Refused) : Type 0 where
    pub fresh : MapState K V S
    pub empty : content eq fresh.store ≡ []
    pub parts : HasFreeParts s fresh
    pub left : MapState K V S
    pub cause : IsReserveCause eq fresh (length (content eq s.store)) refused left
        ⊎ ((roomy : MapState K V S) × (content eq roomy.store ≡ []) × HasFreeParts s roomy
        × IsCopyCut eq clones_key clones_value s.store roomy refused left)

  -- Why a map is not rebuilt: with `Memory`; with `Capacity` if s has more shards than a new map
  -- may have; or for a cause of `IsRebuildCut`.
  abbrev pub IsRebuildRefusal : MapState K V S → Refused → Type 0
  IsRebuildRefusal s refused = (refused ≡ Memory)
      ⊎ ((refused ≡ Capacity) × (MAX_SHARDS < s.store.count.shards)) ⊎ IsRebuildCut s refused
