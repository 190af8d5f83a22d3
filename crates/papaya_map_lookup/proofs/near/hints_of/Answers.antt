use Rattle.std.proofs.Common.{sym, subst}
use Rattle.papaya_map_book.specs.Sheets.{HoldHints, Sheet}
use Rattle.papaya_map_lookup.proofs.near.hints_of.Goals as goal

pub returns : goal.returns
returns g c =
    let hints = c.as_slice.result.now in
    subst (λ (s : Sheet). HoldHints s.book s.slots hints) c.table.view_is
    (subst (HoldHints c.table.inside.aborted.book _) (sym c.as_slice.ensures.value) c.table.invariant.5)
