-- Facts about the view of one word by a search.
use Rattle.std.proofs.Common.{◌≡◌, Bool, true, false, refl}
use Rattle.papaya_words_law.specs.View.{View, Free, Foreign, Here, Leaving, Gone, Grave, own, active, held, beyond, foreign}

-- the word may still change, or is Empty
abbrev pub unfinished : {P : Type 0} → View P → Bool
unfinished Free = true
unfinished Foreign = false
unfinished (Here p) = true
unfinished (Leaving p) = true
unfinished (Gone p) = false
unfinished (Grave p) = false

-- a held word is active
pub held-active : {P : Type 0} → (v : View P) → held v ≡ true → active v ≡ true
held-active Free h = h
held-active Foreign h = h
held-active (Here p) h = refl
held-active (Leaving p) h = refl
held-active (Gone p) h = refl
held-active (Grave p) h = h

-- an active word is the key's
pub active-own : {P : Type 0} → (v : View P) → active v ≡ true → own v ≡ true
active-own Free h = h
active-own Foreign h = h
active-own (Here p) h = refl
active-own (Leaving p) h = refl
active-own (Gone p) h = refl
active-own (Grave p) h = refl

-- a word that a search passes isn't active
pub beyond_not_active : {P : Type 0} → (v : View P) → beyond v ≡ true → active v ≡ true → ⊥
beyond_not_active Free h a = cc
beyond_not_active Foreign h a = cc
beyond_not_active (Here p) h a = cc
beyond_not_active (Leaving p) h a = cc
beyond_not_active (Gone p) h a = cc
beyond_not_active (Grave p) h a = cc

-- another key's word isn't the key's
pub foreign_not_own : {P : Type 0} → (v : View P) → foreign v ≡ true → own v ≡ true → ⊥
foreign_not_own Free h a = cc
foreign_not_own Foreign h a = cc
foreign_not_own (Here p) h a = cc
foreign_not_own (Leaving p) h a = cc
foreign_not_own (Gone p) h a = cc
foreign_not_own (Grave p) h a = cc

-- another key's word is passed
pub foreign-beyond : {P : Type 0} → (v : View P) → foreign v ≡ true → beyond v ≡ true
foreign-beyond Free h = h
foreign-beyond Foreign h = refl
foreign-beyond (Here p) h = h
foreign-beyond (Leaving p) h = h
foreign-beyond (Gone p) h = h
foreign-beyond (Grave p) h = refl

-- a word that a search passes no longer changes
pub beyond_not_unfinished : {P : Type 0} → (v : View P) → beyond v ≡ true → unfinished v ≡ true → ⊥
beyond_not_unfinished Free h a = cc
beyond_not_unfinished Foreign h a = cc
beyond_not_unfinished (Here p) h a = cc
beyond_not_unfinished (Leaving p) h a = cc
beyond_not_unfinished (Gone p) h a = cc
beyond_not_unfinished (Grave p) h a = cc
