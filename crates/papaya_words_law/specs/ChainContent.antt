-- The pairs that the tables of a chain have together, as a list. The first table of the chain that
-- has a pair of a key determines the key's pair.
use Rattle.std.specs.Prelude.{ℕ, zero, suc, ◌==◌, ◌++◌, Bool, cond, Option, None, Some, List, [], ◌∷◌}
use Rattle.papaya_words_law.specs.Exchange.{Setting, State}
use Rattle.papaya_words_law.specs.Content.{lookup, pairs_in}

-- the pair q as a list, if nothing was found
abbrev pub unless_found : {P : Type 0} → Option P → P → List P
unless_found None q = q ∷ []
unless_found (Some p) q = []

-- the pairs of qs whose keys ps does not have
abbrev pub missing_in : {K P : Type 0} → (K → K → Bool) → (P → K) → List P → List P → List P
missing_in same key ps [] = []
missing_in same key ps (q ∷ qs) =
    unless_found (lookup same key ps (key q)) q ++ missing_in same key ps qs

-- the pairs of ps, and then those of qs whose keys ps does not have
abbrev pub joined : {K P : Type 0} → (K → K → Bool) → (P → K) → List P → List P → List P
joined same key ps qs = ps ++ missing_in same key ps qs

-- the pairs of the chain from table t on, over at most n tables
abbrev pub chain_from : {K P : Type 0} → Setting K P → State P → ℕ → ℕ → List P
chain_from g s zero t = []
chain_from g s (suc n) t = cond (t == 0) []
    (joined g.same g.key (pairs_in (s.slot t) (g.size t)) (chain_from g s n (s.next t)))

-- the pairs of the chain from the root on, over at most n tables
abbrev pub chain_content : {K P : Type 0} → Setting K P → State P → ℕ → List P
chain_content g s n = chain_from g s n s.root
