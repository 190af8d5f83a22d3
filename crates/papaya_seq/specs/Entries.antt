-- Finite maps of keys and values, and what calls leave that insert many entries.
use Rattle.std.specs.Prelude.{◌≡◌, Bool, cond, Option, None, Some, Result, Ok, Err, List, [], ◌∷◌, ◌++◌, is_none, fold, option_map}
use Rattle.std.specs.Iterator.{Yields}
use Rattle.papaya_words.specs.Probe.{IsEntriesFor}
use Rattle.papaya_words.specs.declared.limits.TheConstants.{DEFAULT_CHUNK}
use Rattle.papaya_words.specs.declared.refused.Refused.{Refused}
use Rattle.papaya_words.specs.declared.resize_mode.ResizeMode.TheVariants.{Incremental}
use Rattle.papaya_core_store.specs.Store.{StoreState}
use Rattle.papaya_core_timeline.specs.Content.{map_in}
use Rattle.papaya_core_timeline.specs.Core.{unlimited}
use Rattle.papaya_core_timeline.specs.New.{IsNew}
use Rattle.papaya_seq.specs.Map.{Inserts, IsWriteCauseAt, Keeps, KeepsAndGrows, MapState, Unchanged, core_of, entry_of, slots_of}

-- a finite map without the numbers of its pairs
abbrev pub Entries : (K V : Type 0) → Type 0
Entries K V = K → Option (K × V)

-- the finite map of a store, without the numbers of its pairs
abbrev pub entries_in : {K V S : Type 0} → (K → K → Bool) → StoreState K V S → Entries K V
entries_in eq store k = option_map entry_of (map_in eq store k)

-- the empty finite map
abbrev pub nothing : {K V : Type 0} → Entries K V
nothing k = None

-- the result of an insertion that returns whether the key was absent, or a refusal
abbrev pub IsPut : {K V S : Type 0} → (K → K → Bool) → K → V → MapState K V S → Result Bool Refused
    → MapState K V S → Type 0
IsPut {V = V} eq k v s (Ok absent) s' = (went : Option V) × (absent ≡ is_none went)
    × Inserts eq k v s.store went s'.store × KeepsAndGrows s s'
IsPut eq k v s (Err refused) s' = IsWriteCauseAt s (map_in eq s.store k) refused s'
    × Unchanged eq s.store s'.store × KeepsAndGrows s s'

-- the entry p, with the key of the entry that is there, if one is
abbrev pub kept : {K V : Type 0} → Option (K × V) → K × V → K × V
kept None p = p
kept (Some there) p = (there.0, p.1)

module _ {K V : Type 0} (eq : K → K → Bool) where
  -- the map m with the entry p inserted: the class of p's key has p's value and keeps the key that
  -- it had, if it had one, and every other class has what it had
  abbrev pub put : Entries K V → K × V → Entries K V
  put m p k = cond (eq k p.0) (Some (kept (m p.0) p)) (m k)

  -- The map m with the entries of the items inserted one after the other. If two are of one class,
  -- the key of the earlier one stays.
  abbrev pub put_all : {A : Type 0} → (A → K × V) → Entries K V → List A → Entries K V
  put_all shows m items = fold (λ n item. put n (shows item)) m items

module _ {K V S A : Type 0} (eq : K → K → Bool) (shows : A → K × V) where
  -- s' is the map s with the entries of the items inserted
  pub record Fills (s : MapState K V S) (items : List A) (s' : MapState K V S) : Type 0 where
    pub entries : (k : K) → entries_in eq s'.store k ≡ put_all eq shows (entries_in eq s.store) items k
    pub keeps : Keeps s s'
    -- without items nothing changes at all
    pub idle : items ≡ [] → s' ≡ s

  -- The entries of the items were inserted. That of the next item, `item`, was refused, and this
  -- left the finite map as it was.
  pub record IsCut (s : MapState K V S) (items : List A) (item : A) (refused : Refused)
      (s' : MapState K V S) : Type 0 where
    pub at : MapState K V S
    pub fills : Fills s items at
    pub cause : IsWriteCauseAt at (map_in eq at.store (shows item).0) refused s'
    pub unchanged : Unchanged eq at.store s'.store
    pub keeps : KeepsAndGrows at s'

  -- A map that was made of these items: it has their entries and no others, and no table if there
  -- are no items.
  pub record HasJust (items : List A) (s : MapState K V S) : Type 0 where
    pub entries : (k : K) → entries_in eq s.store k ≡ put_all eq shows nothing items k
    pub no_table : items ≡ [] → slots_of s.store ≡ 0
    pub mode : s.mode ≡ unlimited (Incremental DEFAULT_CHUNK)
    pub initial : IsEntriesFor 0 s.initial

module _ {K V A : Type 0} (S : Type 0) (eq : K → K → Bool) (shows : A → K × V) where
  -- the entries of the items were inserted into a new map, and that of the next item was refused
  pub record IsCutNew (items : List A) (item : A) (refused : Refused) : Type 0 where
    pub new : MapState K V S
    pub left : MapState K V S
    pub is_new : IsNew {A = Unit {0}} (Incremental DEFAULT_CHUNK) 0 1 new.store.hasher (core_of new)
    pub cut : IsCut eq shows new items item refused left

  -- the same for a list of items, one of which was refused
  pub record IsCutIn (items : List A) (refused : Refused) : Type 0 where
    pub done : List A
    pub item : A
    pub rest : List A
    pub whole : items ≡ done ++ item ∷ rest
    pub cut : IsCutNew done item refused

module _ {U T A : Type 0} (becomes : U → T → Type 0) (steps : T → Option A → T → Type 0) where
  -- the iterator of `iter` has returned some items, and `so` holds for them and for the iterator
  -- that is left
  pub record Comes (iter : U) (so : List A → T → Type 0) : Type 0 where
    pub first : T
    pub made : becomes iter first
    pub items : List A
    pub left : T
    pub came : Yields steps first items left
    pub is : so items left

  -- the iterator of `iter` has returned all its items, and `so` holds for them
  abbrev pub AllCome : U → (List A → Type 0) → Type 0
  AllCome iter so = Comes iter (λ items left. (end : T) × steps left None end × so items)

  -- the iterator of `iter` has returned some items and then one more, and `so` holds for them and
  -- for that one
  abbrev pub ComesNext : U → (List A → A → Type 0) → Type 0
  ComesNext iter so = Comes iter (λ items left. (item : A) × (next : T)
      × steps left (Some item) next × so items item)

  -- the entries of all items of `iter` were inserted, or those of the items before one that was
  -- refused
  abbrev pub Extends : {K V S : Type 0} → (K → K → Bool) → (A → K × V) → U → MapState K V S
      → Result (Unit {0}) Refused → MapState K V S → Type 0
  Extends eq shows iter s (Ok done) s' = AllCome iter (λ items. Fills eq shows s items s')
  Extends eq shows iter s (Err refused) s' = ComesNext iter
      (λ items item. IsCut eq shows s items item refused s')
