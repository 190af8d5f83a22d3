use Rattle.std.proofs.Common.{◌≡◌}
use Rattle.papaya_map_book.specs.declared.rule.entry.Named.TheVariants.{Pair}
use Rattle.papaya_map_book.proofs.book.gains.named_pair.Goals as goal

pub pair_known-known-requires : goal.pair_known-known-requires
pair_known-known-requires g c =
    let r = c.requires in
    let answer : c.into_gain.result.answer ≡ Pair r.0 = cc (c.into_gain.ensures.2, r.1) in (r.0, answer)
