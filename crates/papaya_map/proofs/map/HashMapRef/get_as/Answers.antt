use Rattle.std.proofs.Common.{sym}
use Rattle.papaya_map_book.proofs.Lengths.{tables_since}
use Rattle.papaya_map_lookup.proofs.Histories.{history_since}
use Rattle.papaya_map.proofs.map.HashMapRef.get_as.Goals as goal

pub returns-clause-seen : goal.returns-clause-seen
returns-clause-seen g c = rw c.keep.ensures.history (rw (sym c.window-window.ensures.history) (history_since _ _ c.look_up-found.ensures.sees.log))

pub returns-clause-tables : goal.returns-clause-tables
returns-clause-tables g c = rw c.keep.ensures.tables (rw (sym c.window-window.ensures.tables) (tables_since _ _ c.look_up-found.ensures.sees.log))
