-- A lifetime within those of a book's key, value and hasher is within those of its entries, names, rule and steps.
use base.Fml.{Lft}
use contract.BorrowLft.{◌⊑◌}
use denote.RattleType.{RattleType}
use borrow.Author.Rules.{lives}
use Rattle.papaya_map_book.specs.contracts.rule.entry.Event as event
use Rattle.papaya_map_book.specs.contracts.rule.entry.Named as naming
use Rattle.papaya_map_book.specs.contracts.rule.entry.Step as step
use Rattle.papaya_gate.specs.contracts.rule.Gated as gated
use Rattle.papaya_map_book.specs.contracts.rule.law.LogLaw as law
use Rattle.papaya_map_book.proofs.rule.entry.Event.TheLaws as event-laws
use Rattle.papaya_map_book.proofs.rule.entry.Named.TheLaws as naming-laws
use Rattle.papaya_map_book.proofs.rule.entry.Step.TheLaws as step-laws

module _ (K V : RattleType) {κ : Lft} (k : κ ⊑ K.lives) (v : κ ⊑ V.lives) where
  pub step_within : κ ⊑ (step.the_row K V).lives
  step_within = step-laws.the_within K V κ k v

  pub named_within : κ ⊑ (naming.the_row K V).lives
  named_within = naming-laws.the_within K V κ k v

  module _ (S : RattleType) (s : κ ⊑ S.lives) where
    pub event_within : κ ⊑ (event.the_row K V S).lives
    event_within = event-laws.the_within K V S κ k v s

    pub law_within : κ ⊑ (gated.the_row (law.the_row K V S)).lives
    law_within = search (lives, k, v, s) depth 400 fits 100000
