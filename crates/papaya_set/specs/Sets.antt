-- A set, as the map of its keys to unit values.
use Rattle.std.specs.Prelude.{◌≡◌, Bool, true, false, List, Option, Result, Ok, Err, is_some, map, option_map}
use Rattle.std.specs.Fn.{CalledAt, Mut}
use Rattle.std.specs.List.Retain.{IsFiltered}
use Rattle.std.specs.Borrow.{Bor}
use Rattle.papaya_words.specs.declared.refused.Refused.{Refused}
use Rattle.papaya_words_law.specs.Content.{AreApart, lookup}
use Rattle.papaya_core_store.specs.Store.{StoreState, Stored}
use Rattle.papaya_core_timeline.specs.Content.{content, map_in}
use Rattle.papaya_seq.specs.Map.{HasNone, KeepsRemoving, MapState, Removes, Unchanged, next_of}
use Rattle.papaya_seq.specs.Resizes.{IsCopyCause}

-- The stored key of the class of `k`, if the set has one.
abbrev pub key_in : {K S : Type 0} → (K → K → Bool) → StoreState K (Unit {0}) S → K → Option K
key_in eq store k = option_map (λ p. p.key) (map_in eq store k)

-- The keys, in the order of iteration.
abbrev pub keys_of : {K S : Type 0} → (K → K → Bool) → StoreState K (Unit {0}) S → List K
keys_of eq store = map (λ p. p.key) (content eq store)

-- A key as an entry of the map. `entry_of_ref` takes a reference to the key.
abbrev pub entry_of_key : {K : Type 0} → K → K × Unit {0}
entry_of_key k = (k, tt)

abbrev pub entry_of_ref : {K : Type 0} → Bor K → K × Unit {0}
entry_of_ref k = (k.now, tt)

-- The result of a removal: whether a key that matches was removed, or a refusal, which has the
-- cause of a resize that could not be finished.
abbrev pub IsTaken : {K S : Type 0} → (K → K → Bool) → (K → Bool) → MapState K (Unit {0}) S
    → Result Bool Refused → MapState K (Unit {0}) S → Type 0
IsTaken {K = K} eq matches s (Ok true) s' = (p : Stored K (Unit {0}))
    × Removes eq matches s.store p s'.store × KeepsRemoving s s'
IsTaken eq matches s (Ok false) s' = HasNone eq matches s.store × Unchanged eq s.store s'.store
    × KeepsRemoving s s'
IsTaken eq matches s (Err refused) s' = IsCopyCause s refused s' × Unchanged eq s.store s'.store
    × KeepsRemoving s s'

-- Each key is in both sets or in neither, up to equality of keys.
abbrev pub HaveSameKeys : {K S Z : Type 0} → (K → K → Bool) → StoreState K (Unit {0}) S
    → StoreState K (Unit {0}) Z → Type 0
HaveSameKeys {K = K} eq s s' = (k : K) → is_some (map_in eq s k) ≡ is_some (map_in eq s' k)

-- The closure was called once with each key of the set, and the set keeps exactly those for which
-- it returned `true`.
pub record AreKept {F K S : Type 0} (g : Mut F (Bor K × Unit {0}) Bool) (eq : K → K → Bool) (f : F)
    (s s' : StoreState K (Unit {0}) S) : Type 0 where
  pub shown : List (Stored K (Unit {0}))
  pub filtered : IsFiltered (λ f p agrees f'. CalledAt g f p.key agrees f') f shown (content eq s')
  -- The closure was called with the set's keys, each once.
  pub pairs : (k : K) → lookup eq (λ p. p.key) shown k ≡ map_in eq s k
  pub once : AreApart eq (λ p. p.key) shown
  -- If no resize is under way, the calls were in the order of iteration.
  pub order : next_of s ≡ 0 → shown ≡ content eq s
