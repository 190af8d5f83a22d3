-- A root that was kept: its table is the root's as long as the number is the same.
use Rattle.std.proofs.Common.{◌≡◌, ℕ, Option, None, Some, List, sym, ◌∙◌, subst}
use mathlib.Core.List.{IsPrefix}
use denote.Bor.{Bor}
use Rattle.logbook.specs.Pages.{Book}
use Rattle.papaya_map_book.specs.Sheets.{Sheet}
use Rattle.papaya_map_book.specs.declared.rule.entry.Event.{Event}
use Rattle.papaya_map_book.specs.Calls.{IsTable, IsTableOf}
use Rattle.papaya_map_book.proofs.Loaded.{table_since}

module _ {K V S : Type 0} (name : Book) (v log : List (Event K V S)) (pre : IsPrefix v log) (number found : ℕ) (same : found ≡ number) where
  -- the table that came by this number is that of the same number found later
  pub kept_table : (table : Option (Bor Sheet)) → IsTableOf name number v table → IsTableOf name found log table
  kept_table None none = same ∙ none
  kept_table (Some r) kept = (subst (λ (n : ℕ). IsTable log n r.now) (sym same) (table_since v log number r.now pre kept.0), kept.1)
