use Rattle.papaya_map_change.proofs.Copiers.{reached_low, reached_word}
use Rattle.papaya_map_change.proofs.copier.Copier.load.Goals as goal

pub slot-word-requires-clause-place : goal.slot-word-requires-clause-place
slot-word-requires-clause-place g c = reached_low c.args.window.now.sight.log c.table-table-in-Slot.new.self.sight.log
    c.table-table-in-Slot.ensures.sees.log c.args.at c.in-Slot.number c.in-Slot.place c.in-Slot.is c.requires.reach c.table-table-in-Slot.result.now
    c.table-table-in-Slot.ensures.table

pub done-requires-clause-chunk : goal.done-requires-clause-chunk
done-requires-clause-chunk g c = reached_word c.args.window.now.sight.log c.table-table-in-Done.new.self.sight.log
    c.table-table-in-Done.ensures.sees.log c.args.at c.in-Done.number c.in-Done.chunk c.in-Done.is c.requires.reach c.table-table-in-Done.result.now
    c.table-table-in-Done.ensures.table
