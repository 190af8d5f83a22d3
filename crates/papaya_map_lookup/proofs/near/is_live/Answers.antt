use Rattle.std.proofs.Common.{◌≡◌, ◌%◌, ap, arith}
use Rattle.std.proofs.lemmas.Bool.{eqb-true}
use Rattle.papaya_words.specs.Word.{kind_of_code}
use Rattle.papaya_map_lookup.proofs.near.is_live.Goals as goal

pub returns : goal.returns
returns c = λ live.
    let low = c.requires in let one = eqb-true (c.args.word % 256) 1 live in
    let is : c.args.word % 1024 ≡ 1 = omega (arith, low, one) in ap kind_of_code is
