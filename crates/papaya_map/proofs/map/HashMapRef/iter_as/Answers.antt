use Rattle.std.proofs.Common.{sym}
use Rattle.papaya_map_book.proofs.Lengths.{tables_since}
use Rattle.papaya_map_lookup.proofs.Histories.{history_since}
use Rattle.papaya_map.proofs.map.HashMapRef.iter_as.Goals as goal

pub returns-in-Ok-clause-seen : goal.returns-in-Ok-clause-seen
returns-in-Ok-clause-seen g c = rw c.keep.ensures.history
    (rw (sym c.window-window.ensures.history) (history_since _ _ c.take_root-taken.ensures.sees.log))

pub returns-in-Err-clause-seen : goal.returns-in-Err-clause-seen
returns-in-Err-clause-seen g c = rw c.keep.ensures.history (rw (sym c.window-window.ensures.history) (history_since _ _ c.take_root-taken.ensures.sees.log))

pub returns-in-Ok-clause-tables : goal.returns-in-Ok-clause-tables
returns-in-Ok-clause-tables g c = rw c.keep.ensures.tables
    (rw (sym c.window-window.ensures.tables) (tables_since _ _ c.take_root-taken.ensures.sees.log))

pub returns-in-Err-clause-tables : goal.returns-in-Err-clause-tables
returns-in-Err-clause-tables g c = rw c.keep.ensures.tables (rw (sym c.window-window.ensures.tables) (tables_since _ _ c.take_root-taken.ensures.sees.log))
