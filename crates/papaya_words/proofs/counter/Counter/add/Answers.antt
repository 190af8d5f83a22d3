use Rattle.std.proofs.Common.{ap, ◌∙◌, ◌<◌, length, pos, subst, sym, ◌+ℤ◌, slice_set, slice_index_or}
use Rattle.std.proofs.lemmas.Int.{to_z-of_z}
use Rattle.std.specs.Int.{w64, int_wrap}
use Rattle.papaya_words.specs.Counter.{added_at}
use Rattle.papaya_words.proofs.Sums.{added}
use Rattle.papaya_words.proofs.counter.Counter.add.Goals as goal

pub returns : goal.returns
returns c =
    let shards = c.self.inside.shards.items in
    let place = c.args.place in
    let by = c.args.by in
    let within : c.args.place < length c.self.inside.shards.items = subst (λ v. c.args.place < v.shards) (sym c.self.view_is) c.requires in
    let written = c.add_at.ensures ∙ ap (λ z. slice_set shards place (int_wrap w64 (slice_index_or shards place (pos 0) +ℤ z)))
    (to_z-of_z w64 by c.ranges.by) in
    added by shards c.add_at.new.shards.items place within written ∙ ap (λ v. added_at v place by) c.self.view_is
