use Rattle.std.proofs.Common.{refl, ◌∙◌}
use Rattle.papaya_map_lookup.proofs.Slots.{seen_words}
use Rattle.papaya_map_lookup.proofs.near.slots_of.Goals as goal

pub returns : goal.returns
returns g c = c.as_slice.ensures.value ∙ seen_words _ c.args.table.now c.table.inside.slots.items c.table.view_is refl c.table.invariant.3
