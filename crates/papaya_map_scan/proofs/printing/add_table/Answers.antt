use Rattle.papaya_map_scan.proofs.TableScans.{table_on}
use Rattle.papaya_map_scan.proofs.printing.add_table.Goals as goal

pub slot-word-requires-clause-table : goal.slot-word-requires-clause-table
slot-word-requires-clause-table g c = table_on c.args.window.now c.loop-place.window c.args.number c.args.table.now c.loop-place.invariant c.requires
