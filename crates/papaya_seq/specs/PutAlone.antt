-- Entries that are inserted into a map one after the other, each by a call of the core that is made
-- alone.
use Rattle.std.specs.Prelude.{◌≡◌, ◌⊎◌, ℕ, ◌≤◌, Bool, List, [], ◌∷◌, Option, None, Result, Ok, Err, length, map}
use Rattle.std.specs.List.{AllZip}
use Rattle.papaya_words.specs.declared.limits.TheConstants.{DEFAULT_CHUNK}
use Rattle.papaya_words.specs.declared.refused.Refused.{Refused}
use Rattle.papaya_words.specs.declared.resize_mode.ResizeMode.TheVariants.{Incremental}
use Rattle.papaya_call.specs.declared.call.Call.TheVariants.{Insert, Reserve}
use Rattle.papaya_core_store.specs.Store.{StoreState}
use Rattle.papaya_core_timeline.specs.Content.{content}
use Rattle.papaya_core_timeline.specs.New.{IsNew}
use Rattle.papaya_seq.specs.Clones.{Clones}
use Rattle.papaya_seq.specs.Entries.{AllCome, ComesNext}
use Rattle.papaya_seq.specs.Lengths.{IsAskedFor}
use Rattle.papaya_seq.specs.MadeAlone.{IsDoneAlone}
use Rattle.papaya_seq.specs.Map.{MapState, core_of, entry_of}

-- no table is needed: there are no entries, and the map was built without a capacity
abbrev pub HasNoNeed : {K V S : Type 0} → MapState K V S → (entries : ℕ) → Type 0
HasNoNeed s entries = (entries ≡ 0) × (s.initial ≤ 1)

module _ {K V S : Type 0} (eq : K → K → Bool) (hash : S → K → ℕ) where
  module _ {A : Type 0} (shows : A → K × V) where
    -- The entries of the items are inserted in order, each by a call of the core that is made
    -- alone, and leave the map s', with its tables, words, arena, numbers and count.
    abbrev pub ArePutAlone : MapState K V S → List A → MapState K V S → Type 0
    ArePutAlone s [] s' = s' ≡ s
    ArePutAlone s (item ∷ items) s' = (at : MapState K V S)
        × IsDoneAlone eq hash {R = Unit {0}} s (Insert (shows item).0 (shows item).1) (Ok tt) at
        × ArePutAlone at items s'

    -- the entries of the items are inserted in this way, and the insertion of the next item's entry
    -- is refused
    pub record IsCutAlone (s : MapState K V S) (items : List A) (item : A) (refused : Refused)
        (s' : MapState K V S) : Type 0 where
      pub at : MapState K V S
      pub puts : ArePutAlone s items at
      pub refusal : IsDoneAlone eq hash {R = Unit {0}} at
          (Insert (shows item).0 (shows item).1) (Err refused) s'

    -- the entries of the items of an iterator are inserted in this way, up to one whose insertion
    -- is refused
    abbrev pub ExtendsAlone : {U T : Type 0} → (U → T → Type 0) → (T → Option A → T → Type 0) → U
        → MapState K V S → Result (Unit {0}) Refused → MapState K V S → Type 0
    ExtendsAlone becomes steps iter s (Ok done) s' = AllCome becomes steps iter
        (λ items. ArePutAlone s items s')
    ExtendsAlone becomes steps iter s (Err refused) s' = ComesNext becomes steps iter
        (λ items item. IsCutAlone s items item refused s')

    -- the entries of the items are inserted in this way, into a new map that has no table yet
    pub record IsFilledAlone (items : List A) (s : MapState K V S) : Type 0 where
      pub new : MapState K V S
      pub is_new : IsNew {A = Unit {0}} (Incremental DEFAULT_CHUNK) 0 1 new.store.hasher
          (core_of new)
      pub puts : ArePutAlone new items s

  -- Room for `entries` pairs is reserved by the core's call, made alone, or none is needed.
  abbrev pub IsMadeRoomy : MapState K V S → (entries : ℕ) → MapState K V S → Type 0
  IsMadeRoomy s entries s' = (HasNoNeed s entries × (s' ≡ s))
      ⊎ ((HasNoNeed s entries → ⊥)
      × IsDoneAlone eq hash {R = Unit {0}} s (Reserve entries) (Ok tt) s')

  module _ (clones_key : K → K → Type 0) (clones_value : V → V → Type 0) where
    -- clones of these entries are inserted in this way into the map
    pub record AreClonedAlone (s : MapState K V S) (es : List (K × V)) (s' : MapState K V S)
        : Type 0 where
      pub clones : List (K × V)
      pub each : AllZip (Clones clones_key clones_value) es clones
      pub puts : ArePutAlone (λ c. c) s clones s'

    -- clones of the map's entries are inserted in this way into a new map, which is made for as
    -- many
    pub record IsClonedAlone (s s' : MapState K V S) : Type 0 where
      pub new : MapState K V S
      pub is_new : IsNew {A = Unit {0}} (Incremental DEFAULT_CHUNK) (length (content eq s.store)) 1
          new.store.hasher (core_of new)
      pub cloned : AreClonedAlone new (map entry_of (content eq s.store)) s'

    -- They are inserted in this way into a new map that has the settings of s but no pair limit.
    -- Its first table is as long as one for the initial capacity of s, and room was reserved for
    -- them. Afterwards as many numbers are taken as there are pairs.
    pub record IsRebuiltAlone (s s' : MapState K V S) : Type 0 where
      pub asked : ℕ
      pub asks : IsAskedFor s.initial asked
      pub new : MapState K V S
      pub is_new : IsNew {A = Unit {0}} s.mode.resize asked s.store.count.shards new.store.hasher
          (core_of new)
      pub roomy : MapState K V S
      pub room : IsMadeRoomy (record new { initial = s.initial }) (length (content eq s.store))
          roomy
      pub full : MapState K V S
      pub cloned : AreClonedAlone roomy (map entry_of (content eq s.store)) full
      pub left : s'.store ≡ record full.store {
        words = record full.store.words { made = length (content eq s.store) };
      }
