-- The contracts of calls that take no pass.
use Rattle.std.specs.Prelude.{◌≡◌, Bool, ℕ, Option, List, is_some}
use mathlib.Core.List.{IsPrefix}
use base.Fml.{Fml, fex, fsep}
use base.Stored.{Gv}
use denote.Bor.{Bor}
use Rattle.logbook.specs.Kept.{Rules, fact, rules, seen_owns}
use Rattle.logbook.specs.declared.tokens.Rule.{Ghosts}
use Rattle.papaya_map_lookup.specs.Answers.{IsAnsweredBetween}
use Rattle.papaya_map_lookup.specs.History.{Change, IsLegalHistory, history_of, key_of}
use Rattle.papaya_map_book.specs.Logs.{Stored}
use Rattle.papaya_map_book.specs.declared.rule.entry.Event.{Event}
use Rattle.papaya_map.specs.Fixed.{Fixed, Pinned}

-- `tells` holds of some legal history. It need not be that of a particular map.
pub record IsOfHistory {K V : Type 0} (eq : K → K → Bool)
    (tells : List (Change K (Stored K V)) → Type 0) : Type 0 where
  pub history : List (Change K (Stored K V))
  pub legal : IsLegalHistory eq key_of history
  pub told : tells history

-- The rule of a book, made of the three parts that its impl states.
abbrev pub rule_of : {P E A : Type 0} → Ghosts P E A → Rules E
rule_of g = rules g.holds g.shows g.keeps

-- The history `h` is legal, begins with what had been observed when the map was pinned, and
-- satisfies `tells`.
abbrev pub IsSince : {K V S : Type 0} → Pinned K V S → (eq : K → K → Bool)
    → (tells : List (Change K (Stored K V)) → Type 0) → List (Change K (Stored K V)) → Type 0
IsSince map eq tells h = IsLegalHistory eq key_of h × IsPrefix map.seen h × tells h

-- `tells` holds of some legal history that begins with what had been observed when the map was
-- pinned, such as the history observed by the pass that is made for that call alone.
abbrev pub IsOfHistorySince : {K V S : Type 0} → Pinned K V S → (eq : K → K → Bool)
    → (tells : List (Change K (Stored K V)) → Type 0) → Type 0
IsOfHistorySince {K} {V} map eq tells = (h : List (Change K (Stored K V))) × IsSince map eq tells h

-- `tells` holds of a history of this very map since it was pinned: the map's book, with this rule,
-- has reached a log whose history is legal, begins with what had been observed at the pin, and
-- satisfies `tells`.
abbrev pub of_its_history : {K V S : Type 0} → (Event K V S → Gv) → Rules (Event K V S)
    → Pinned K V S → (eq : K → K → Bool) → (tells : List (Change K (Stored K V)) → Type 0) → Fml
of_its_history {K} {V} {S} code rule map eq tells = fex (List ℕ × List (Event K V S)) (λ s. fsep
    (seen_owns code rule map.map.book s.0 s.1) (fact (IsSince map eq tells (history_of s.1))))

-- A map that is not pinned, as if it had been pinned when it was made.
abbrev pub unpinned : {K V S : Type 0} → Fixed K V S → Pinned K V S
unpinned map = record { map = map; seen = map.seen }

-- In some history between the two, the result is whether a key that matches had an entry.
abbrev pub IsContained : {K V : Type 0} → (K → K → Bool) → (K → Bool)
    → (old new : List (Change K (Stored K V))) → Bool → Type 0
IsContained {V = V} eq matches old new has = (found : Option (Bor V)) × (has ≡ is_some found)
    × IsAnsweredBetween eq matches old new found
