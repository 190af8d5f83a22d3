-- The steps that a pass made, as entries of the log: they determine the changes that the pass made.
use Rattle.std.proofs.Common.{◌≡◌, List, [], ◌∷◌, ◌++◌, map, refl, ap}
use Rattle.papaya_map_book.specs.declared.rule.entry.Event.{Event}
use Rattle.papaya_map_book.specs.declared.rule.entry.Event.TheVariants.{Stepped}
use Rattle.papaya_map_book.specs.declared.rule.entry.Step.{Step}
use Rattle.papaya_map_book.specs.Logs.{exchange_of}
use Rattle.papaya_map_lookup.specs.History.{change_of, changes_by, history_of, key_of}

module _ (K V S : Type 0) where
  abbrev pub entry_of : Step K V → Event K V S
  entry_of step = Stepped step

  pub history_by : (steps : List (Step K V)) → history_of (map entry_of steps) ≡ changes_by steps
  history_by [] = refl
  history_by (step ∷ steps) = ap (λ later. change_of key_of (exchange_of step) ++ later) (history_by steps)
