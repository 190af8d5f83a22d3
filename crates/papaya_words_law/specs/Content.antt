-- The pairs of the root as a list, and the map that such a list represents.
use Rattle.std.specs.Prelude.{◌≡◌, ℕ, zero, suc, ◌++◌, Bool, cond, Option, None, Some, List, [], ◌∷◌}
use Rattle.papaya_words_law.specs.Exchange.{Word, Live, Marked, Setting, State, Exchange, Claim, Bury}

-- the pair that a search finds at a word, as a list of at most one
abbrev pub pairs_of_word : {P : Type 0} → Word P → List P
pairs_of_word (Live p) = p ∷ []
pairs_of_word (Marked p) = p ∷ []
pairs_of_word _ = []

-- the pairs in the first n slots of a table, in the order of the slots
abbrev pub pairs_in : {P : Type 0} → (ℕ → Word P) → ℕ → List P
pairs_in slot zero = []
pairs_in slot (suc n) = pairs_in slot n ++ pairs_of_word (slot n)

-- the pairs of the root
abbrev pub content : {K P : Type 0} → Setting K P → State P → List P
content g s = pairs_in (s.slot s.root) (g.size s.root)

-- the first pair of the list whose key equals k, None if there is none
abbrev pub lookup : {K P : Type 0} → (K → K → Bool) → (P → K) → List P → K → Option P
lookup same key [] k = None
lookup same key (p ∷ ps) k = cond (same k (key p)) (Some p) (lookup same key ps k)

-- no two pairs of the list have equal keys
abbrev pub AreApart : {K P : Type 0} → (K → K → Bool) → (P → K) → List P → Type 0
AreApart same key [] = Unit {0}
AreApart same key (p ∷ ps) = (lookup same key ps (key p) ≡ None) × AreApart same key ps

-- how many pairs there are after an exchange, if there were `before`: a claim adds one, and a
-- removal takes one away
abbrev pub IsCountAfter : {P : Type 0} → Exchange P → ℕ → ℕ → Type 0
IsCountAfter (Claim t x p) before now = now ≡ suc before
IsCountAfter (Bury t x p) before now = suc now ≡ before
IsCountAfter _ before now = now ≡ before
