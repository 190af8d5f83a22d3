use Rattle.std.proofs.Common.{sym, subst}
use Rattle.papaya_map_book.specs.Makers.{IsMade}
use Rattle.papaya_map_book.specs.Sheets.{Sheet}
use Rattle.papaya_map_book.proofs.window.Window.make_table.Goals as goal

pub returns-clause-made : goal.returns-clause-made
returns-clause-made g c = subst (λ (z : Sheet). IsMade z c.lay_table.new.sight.log) (sym c.in_ok-table.ensures.table) c.in-Some.ensures.made
