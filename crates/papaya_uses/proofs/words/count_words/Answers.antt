use Rattle.std.proofs.Common.{◌≡◌, ◌+◌, ◌-◌, ◌^◌, ◌<◌, ◌≤◌, length, get_or, take, ap, ◌∙◌, arith, rules}
use Rattle.std.proofs.lemmas.List.{length-take, take_all}
use Rattle.std.proofs.lemmas.List.Sums.{count_by-le-length}
use Rattle.std.specs.List.{count_by}
use Rattle.papaya_uses.specs.Words.{count_in}
use Rattle.papaya_uses.proofs.WordLemmas.{one_on}
use Rattle.papaya_uses.proofs.words.count_words.Goals as goal

pub loop-word-preserved : goal.loop-word-preserved
loop-word-preserved g c =
    let i = c.loop-word.word-index in
    let words = c.args.words.now in
    let word = c.word-item.result in
    let inside : i < length words = search rules in
    let is : get_or words i word ≡ word = search rules in
    let fits : i + 1 ≤ 2 ^ 64 - 1 = search rules in
    let counted = c.loop-word.invariant word in
    let most = count_by-le-length (g.W.PartialEq.eq word) (take i words) in
    let seen = length-take i words in
    let small : count_in g.W.PartialEq.eq c.loop-word.counts.store word + 1 ≤ 2 ^ 64 - 1 = omega (arith, counted, most, seen, fits, inside) in
    one_on g.W.PartialEq.eq g.met.W.Eq.laws words i word inside is c.loop-word.counts _ c.loop-word.invariant _ _ (λ shown n is. is) small
    c.update_or_insert.result c.in_ok-update_or_insert.field-0 c.in_ok-update_or_insert.was c.update_or_insert.follows.holds-at-none.0

pub returns : goal.returns
returns g c w =
    let all : length c.args.words.now ≤ c.loop-word.word-index = search rules in
    c.loop-word.invariant w ∙ ap (count_by (g.W.PartialEq.eq w)) (take_all c.loop-word.word-index c.args.words.now all)
