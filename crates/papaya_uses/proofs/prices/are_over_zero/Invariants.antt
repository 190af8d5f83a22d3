use Rattle.std.proofs.Common.{◌≡◌}
use Rattle.papaya_uses.proofs.PriceLemmas.{AllOver}
use Rattle.papaya_uses.proofs.prices.are_over_zero.Given as goal

-- the iterator is of this map, and each price that it yielded is over 0
abbrev pub invariant-loop-price : goal.invariant-loop-price
invariant-loop-price g l = (l.entries.history ≡ l.fn.prices.history) × AllOver l.entries.given
