-- The exchanges that a caller's own steps have made.
use Rattle.std.specs.Prelude.{Bool, true, false, List, [], ◌∷◌}
use Rattle.papaya_map_book.specs.declared.rule.entry.Event.{Event}
use Rattle.papaya_map_book.specs.declared.rule.entry.Step.{Step}
use Rattle.papaya_map_book.specs.Logs.{steps_of}

-- The last item of a list, as a list; empty if there is none.
abbrev pub last_in : {X : Type 0} → List X → List X
last_in [] = []
last_in (x ∷ []) = x ∷ []
last_in (x ∷ (y ∷ ys)) = last_in (y ∷ ys)

-- The last item of a list, as a list, if the flag is `true`; else the empty list.
abbrev pub last_if : {X : Type 0} → Bool → List X → List X
last_if true xs = last_in xs
last_if false xs = []

-- The last exchange of a log.
abbrev pub last_step : {K V S : Type 0} → List (Event K V S) → List (Step K V)
last_step log = last_in (steps_of log)
