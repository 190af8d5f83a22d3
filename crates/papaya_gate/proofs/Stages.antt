-- The stages of a gate, taken apart.
use Rattle.std.proofs.Common.{◌≡◌, Option, None, Some, List, [], ◌∷◌, refl}
use Rattle.papaya_gate.specs.Eras.{Era, Author, names_of, IsOnly, AreAll}

abbrev pub IsOnlyOf : {E : Type 0} → Option Era → Option (Author E) → Type 0
IsOnlyOf {E} era writer = (e : Era) × (a : Author E) × (era ≡ Some e) × (writer ≡ Some a) × (e.roll ≡ a.name ∷ [])

pub only_of : {E : Type 0} (era : Option Era) (writer : Option (Author E)) → IsOnly era writer → IsOnlyOf era writer
only_of None writer h = absurd h
only_of (Some e) None h = absurd h
only_of (Some e) (Some a) h = (e, a, refl, refl, h)

abbrev pub AreAllOf : {E : Type 0} → Option Era → List (Author E) → Type 0
AreAllOf era authors = (e : Era) × (era ≡ Some e) × (e.roll ≡ names_of authors)

pub all_of : {E : Type 0} (era : Option Era) (authors : List (Author E)) → AreAll era authors → AreAllOf era authors
all_of None authors h = absurd h
all_of (Some e) authors h = (e, refl, h)
