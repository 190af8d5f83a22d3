use Rattle.std.proofs.Common.{MatchOption, Option, subst}
use denote.Bor.{Bor}
use Rattle.papaya_map_book.specs.Sheets.{Sheet}
use Rattle.papaya_map_book.specs.Windows.{IsTable}
use Rattle.papaya_map_scan.proofs.TableScans.{table_on}
use Rattle.papaya_map_scan.proofs.printing.add_all.Goals as goal

pub next-requires : goal.next-requires
next-requires g c =
    let here = subst (λ (o : Option (Bor Sheet)). MatchOption o (Unit {0}) (λ r. IsTable c.loop.window c.loop.number r.now)) c.in-Some.is c.loop.invariant in
    record { table = table_on c.loop.window c.add_table.new.window c.loop.number c.in-Some.table.now c.add_table.ensures here }
