-- A pair enters the map at most once.
use Rattle.std.specs.Prelude.{◌≡◌, ◌⊎◌, Some, List, [], ◌∷◌}
use Rattle.papaya_core_store.specs.Store.{Stored}
use Rattle.papaya_core_timeline.specs.Maps.{Map}
use Rattle.papaya_core_timeline.specs.Timeline.{IsUnused}

-- In this list of maps, the newest first, a pair that a map has at a key is also at that key in the
-- map before it, or its number is of no pair in any earlier map.
abbrev pub IsSteady : {K V : Type 0} → List (Map K V) → Type 0
IsSteady [] = Unit {0}
IsSteady (m ∷ []) = Unit {0}
IsSteady {K = K} {V = V} (m ∷ before ∷ maps) =
    ((j : K) (p : Stored K V) → m j ≡ Some p → (before j ≡ Some p)
    ⊎ IsUnused p.number (before ∷ maps))
    × IsSteady (before ∷ maps)

-- none of these maps has the pair p at the key j
abbrev pub HaveNot : {K V : Type 0} → K → Stored K V → List (Map K V) → Type 0
HaveNot j p [] = Unit {0}
HaveNot j p (m ∷ maps) = (m j ≡ Some p → ⊥) × HaveNot j p maps
