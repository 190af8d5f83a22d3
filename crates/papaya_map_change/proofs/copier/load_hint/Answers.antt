use Rattle.std.proofs.Common.{refl}
use Rattle.papaya_call.specs.declared.ask.At.TheVariants.{Slot}
use Rattle.papaya_map_change.proofs.Copiers.{reached_low}
use Rattle.papaya_map_change.proofs.copier.load_hint.Goals as goal

pub hint-requires-clause-place : goal.hint-requires-clause-place
hint-requires-clause-place g c = reached_low c.args.window.now.sight.log c.table-table.new.self.sight.log c.table-table.ensures.sees.log
    (Slot c.args.number c.args.place) c.args.number c.args.place refl c.requires.reach c.table-table.result.now c.table-table.ensures.table
