use Rattle.std.proofs.Common.{◌≡◌, take}
use Rattle.papaya_words.specs.Counter.{sum_of}
use Rattle.papaya_words.proofs.counter.Counter.sum.Given as goal

abbrev pub invariant-loop-shard : goal.invariant-loop-shard
invariant-loop-shard l = l.sum ≡ sum_of (take l.shard-index l.shard-items)
