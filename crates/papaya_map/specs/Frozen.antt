-- A read-only map as contracts see it, and the results of its lookups. Each is right for the map's
-- whole history, and not only for some history between two others.
use Rattle.std.specs.Prelude.{◌≡◌, Bool, true, false, Option, None, Some, List}
use denote.Bor.{Bor}
use Rattle.papaya_map_book.specs.Logs.{Stored}
use Rattle.papaya_map_lookup.specs.History.{Change, key_of, replay}
use Rattle.papaya_map.specs.Fixed.{Fixed}

-- A read-only map. `map` has the properties that were fixed when the map was made, and `history` has
-- all changes that were ever made to it.
pub record Frozen (K V S : Type 0) : Type 0 where
  pub map : Fixed K V S
  pub history : List (Change K (Stored K V))

module _ {K V : Type 0} (eq : K → K → Bool) (history : List (Change K (Stored K V))) where
  -- The map has this entry.
  abbrev pub HasEntry : Stored K V → Type 0
  HasEntry p = replay eq history (key_of p) ≡ Some p

  -- No key that matches has an entry.
  abbrev pub HasNone : (matches : K → Bool) → Type 0
  HasNone matches = (k : K) → matches k ≡ true → replay eq history k ≡ None

  -- The answer is `None`, and no key that matches has an entry. Or it is some `a`, a key that
  -- matches has an entry `p`, and `is_of a p` holds.
  abbrev pub Finds : {A : Type 0} → (is_of : A → Stored K V → Type 0) → (matches : K → Bool)
      → Option A → Type 0
  Finds is_of matches None = HasNone matches
  Finds is_of matches (Some a) = (p : Stored K V) × (matches (key_of p) ≡ true) × HasEntry p
      × is_of a p

  -- The result of a lookup of a value: a reference to the value of the entry that was found.
  abbrev pub FindsValue : (matches : K → Bool) → Option (Bor V) → Type 0
  FindsValue = Finds (λ value p. value.now ≡ p.value.value)

  -- The result of a lookup of an entry: references to its stored key and to its value.
  abbrev pub FindsEntry : (matches : K → Bool) → Option (Bor K × Bor V) → Type 0
  FindsEntry = Finds (λ entry p. (entry.0.now ≡ key_of p) × (entry.1.now ≡ p.value.value))

  -- The result of a lookup of a stored key: a reference to the key of the entry that was found.
  abbrev pub FindsStored : (matches : K → Bool) → Option (Bor K) → Type 0
  FindsStored = Finds (λ stored p. stored.now ≡ key_of p)

  -- The answer is whether a key that matches has an entry.
  abbrev pub FindsKey : (matches : K → Bool) → Bool → Type 0
  FindsKey matches false = HasNone matches
  FindsKey matches true = (p : Stored K V) × (matches (key_of p) ≡ true) × HasEntry p
