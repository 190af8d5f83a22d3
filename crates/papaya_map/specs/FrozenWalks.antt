-- An iterator over a read-only map, as contracts see it, and what it yields.
use Rattle.std.specs.Prelude.{◌≡◌, ℕ, Bool, Option, None, Some, List, [], ◌∷◌, ◌++◌}
use denote.Bor.{Bor}
use Rattle.papaya_map_book.specs.Logs.{Stored}
use Rattle.papaya_map_change.specs.ClosureCalls.{AreOf}
use Rattle.papaya_map_lookup.specs.History.{Change, replay}
use Rattle.papaya_map_scan.specs.Walked.{IsAmong}
use Rattle.papaya_map.specs.Frozen.{HasEntry}

-- `history` is the map's whole history, `given` has the entries that were yielded, and `left` is the
-- number of slots that are left.
pub record FrozenWalk (K V : Type 0) : Type 0 where
  pub history : List (Change K (Stored K V))
  pub given : List (K × V)
  pub left : ℕ

module _ {K V : Type 0} (eq : K → K → Bool) where
  -- Each entry of the map is among these.
  abbrev pub HasAll : (history : List (Change K (Stored K V))) → List (K × V) → Type 0
  HasAll history entries = (k : K) (p : Stored K V) → replay eq history k ≡ Some p
      → IsAmong entries p

  -- The iterator has advanced. If it returned `None`, it has yielded each entry of the map. If it
  -- returned an entry, the references are to the stored key and the value of an entry of the map.
  abbrev pub Yields : (before : FrozenWalk K V) → Option (Bor K × Bor V) → (after : FrozenWalk K V)
      → Type 0
  Yields before None after = (after.history ≡ before.history) × (after.given ≡ before.given)
      × HasAll after.history after.given
  Yields before (Some entry) after = (after.history ≡ before.history)
      × (after.given ≡ before.given ++ (entry.0.now, entry.1.now) ∷ [])
      × (p : Stored K V) × HasEntry eq after.history p × AreOf entry p

  -- The same for an iterator that yields keys alone, and for one that yields values alone.
  abbrev pub YieldsKey : (before : FrozenWalk K V) → Option (Bor K) → (after : FrozenWalk K V)
      → Type 0
  YieldsKey before None after = Yields before None after
  YieldsKey before (Some key) after = (value : Bor V) × Yields before (Some (key, value)) after

  abbrev pub YieldsValue : (before : FrozenWalk K V) → Option (Bor V) → (after : FrozenWalk K V)
      → Type 0
  YieldsValue before None after = Yields before None after
  YieldsValue before (Some value) after = (key : Bor K) × Yields before (Some (key, value)) after
