use Rattle.std.proofs.Common.{◌∙◌}
use Rattle.papaya_map_book.proofs.book.gains.pair_in.Goals as goal

pub named_pair-requires : goal.named_pair-requires
named_pair-requires g c = c.requires (λ e. c.in_default.not-Empty (c.kind.ensures ∙ e)) (λ e. c.in_default.not-Closed (c.kind.ensures ∙ e))
