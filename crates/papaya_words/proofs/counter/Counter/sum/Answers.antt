use Rattle.std.proofs.Common.{◌∙◌, ap, rules, pos, ◌+ℤ◌, slice_index_or, FitsSigned}
use Rattle.std.proofs.lemmas.Int.{wrapping_add_onto}
use Rattle.std.specs.Int.{w64, int_wrap}
use Rattle.papaya_words.proofs.Sums.{sum_of_more}
use Rattle.papaya_words.proofs.counter.Counter.sum.Goals as goal

pub loop-shard-preserved : goal.loop-shard-preserved
loop-shard-preserved c =
    let shards = c.deref-shard-items.result.now in
    let i = c.loop-shard.shard-index in
    let fits : FitsSigned w64 (slice_index_or c.deref-shard-items.result.now c.loop-shard.shard-index (pos 0)) = search rules in
    wrapping_add_onto w64 c.loop-shard.sum-bits (slice_index_or shards i (pos 0)) c.loop-shard.auto.sum.fits fits
    ∙ ap (λ z. int_wrap w64 (z +ℤ slice_index_or shards i (pos 0))) c.loop-shard.invariant
    ∙ sum_of_more shards i c.loop-shard-test.true
