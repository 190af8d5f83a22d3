-- Which exchanges change the map: those that put a pair in, or take one out.
use Rattle.std.specs.Prelude.{Bool, true, false, Option, Some}
use Rattle.papaya_call.specs.declared.ask.At.{At}
use Rattle.papaya_call.specs.declared.ask.At.TheVariants.{Slot}
use Rattle.papaya_call.specs.declared.ask.StepKind.{StepKind}
use Rattle.papaya_call.specs.declared.ask.StepKind.TheVariants as kinds
use Rattle.papaya_map_book.specs.declared.rule.entry.Step.{Step}
use Rattle.papaya_map_book.specs.declared.rule.entry.Step.TheVariants as steps
use Rattle.papaya_map_book.specs.declared.rule.entry.Event.{Event}
use Rattle.papaya_map_book.specs.declared.rule.entry.Event.TheVariants.{Stepped}

module _ {K V : Type 0} where
  -- Whether the exchange changes the map.
  abbrev pub changes_map : Step K V → Bool
  changes_map (steps.Claim t x p) = true
  changes_map (steps.Replace t x p q) = true
  changes_map (steps.Bury t x p) = true
  changes_map _ = false

-- Whether the entry is an exchange that changes the map.
abbrev pub is_change : {K V S : Type 0} → Event K V S → Bool
is_change (Stepped e) = changes_map e
is_change _ = false

-- An exchange of this kind at this place does not change the map.
abbrev pub ChangesNothing : At → Option StepKind → Type 0
ChangesNothing (Slot t x) (Some kinds.Claim) = ⊥
ChangesNothing (Slot t x) (Some kinds.Replace) = ⊥
ChangesNothing (Slot t x) (Some kinds.Bury) = ⊥
ChangesNothing _ _ = Unit {0}
