use Rattle.std.proofs.Common.{ap, ◌∙◌}
use Rattle.papaya_words.specs.Counter.{sum_of}
use Rattle.papaya_words.proofs.Sums.{sum_of-zeros}
use Rattle.papaya_words.proofs.counter.Counter.new.Goals as goal

pub returns-in-Ok-clause-sum : goal.returns-in-Ok-clause-sum
returns-in-Ok-clause-sum c = ap sum_of (c.in-Ok.ensures.items_if_clones_equal (λ y e. e)) ∙ sum_of-zeros c.next_power_of_two.result
