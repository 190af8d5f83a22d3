use Rattle.std.proofs.Common.{subst, sym}
use mathlib.Core.List.{IsPrefix}
use Rattle.papaya_map_book.specs.Limits.{tables_of}
use Rattle.papaya_map_book.proofs.Lengths.{tables_since}
use Rattle.papaya_map_lookup.specs.Drivers.{past}
use Rattle.papaya_map_lookup.proofs.Histories.{history_since}
use Rattle.papaya_map.specs.Known.{Known}
use Rattle.papaya_map.proofs.session.Session.reserve.Goals as goal

pub returns-clause-seen : goal.returns-clause-seen
returns-clause-seen g c = rw c.keep.ensures.history
    (subst (λ (z : Known g.row.K.Denot g.row.V.Denot g.row.S.Denot). IsPrefix z.history (past c.resize-reserved.new.window)) c.self.view_is
    (rw (sym c.window-window.ensures.history) (history_since _ _ c.resize-reserved.ensures.sees.log)))

pub returns-clause-tables : goal.returns-clause-tables
returns-clause-tables g c = rw c.keep.ensures.tables
    (subst (λ (z : Known g.row.K.Denot g.row.V.Denot g.row.S.Denot). IsPrefix z.tables (tables_of c.resize-reserved.new.window.sight.log)) c.self.view_is
    (rw (sym c.window-window.ensures.tables) (tables_since _ _ c.resize-reserved.ensures.sees.log)))
