use Rattle.std.proofs.Common.{refl}
use Rattle.papaya_map_book.proofs.Tables.{seen_word}
use Rattle.papaya_map_book.proofs.table.Table.slot.Goals as goal

pub returns : goal.returns
returns g c =
    let word = seen_word _ c.args.self.now c.self.inside.slots.items c.args.place c.index.result.now c.self.view_is refl c.self.invariant.3 c.requires
    c.index.ensures in
    (word.0, word.1, word.2)
