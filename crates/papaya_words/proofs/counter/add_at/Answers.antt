use Rattle.std.proofs.Common.{◌≡◌, ◌∙◌, ap, rules, pos, ◌+ℤ◌, slice_set, slice_index_or, FitsSigned}
use Rattle.std.proofs.lemmas.Int.{wrapping_add_is}
use Rattle.std.proofs.lemmas.List.{get_or_read}
use Rattle.std.specs.Int.{w64, int_wrap}
use Rattle.papaya_words.proofs.counter.add_at.Goals as goal

pub returns : goal.returns
returns c =
    let shards = c.args.shards.now.items in
    let old = c.index.result.now in
    let by = c.args.by in
    let here : old ≡ slice_index_or shards c.args.place (pos 0) = get_or_read shards c.args.place old c.requires c.index.ensures (pos 0) in
    let fits : FitsSigned w64 c.index.result.now = search rules in
    ap (λ z. slice_set shards c.args.place z) (wrapping_add_is w64 old by fits c.ranges.by ∙ ap (λ z. int_wrap w64 (z +ℤ by)) here)
