use Rattle.std.proofs.Common.{rules}
use Rattle.std.proofs.lemmas.List.Sorted.{IsNonDecreasingBy-from_sort_by_key}
use Rattle.papaya_run_lines.proofs.walk.Walk.new.Goals as goal

pub returns : goal.returns
returns c = (
  c.sort_unstable_by_key.ensures.permutation,
  IsNonDecreasingBy-from_sort_by_key (λ pair. pair.0) c.sort_unstable_by_key.new.self.items
      c.sort_unstable_by_key.ensures.sorted (λ a r q k. search rules),
)
