use Rattle.std.proofs.Common.{List, [], map, ◌∙◌, subst}
use Rattle.std.proofs.IntoIterSteps.{All-taken}
use Rattle.std.proofs.lemmas.Result.{IfOk-weaker}
use Rattle.papaya_map.specs.Collected.{AreStored}
use Rattle.papaya_set.specs.Sets.{entry_of_key}
use Rattle.papaya_set.proofs.filling.HashSet+K+BuildHasherDefault+FoldHasher.from_array.Goals as goal

pub returns-in-Ok-clause-stored : goal.returns-in-Ok-clause-stored
returns-in-Ok-clause-stored g c =
    IfOk-weaker c.from_iter.result _ _
    (λ set came. subst (λ (ks : List g.row.K.Denot). AreStored g.K.PartialEq.eq (map entry_of_key ks) [] set.seen)
    (All-taken came.first came.items (came.is.0, (came.left, came.came, came.is.1)) ∙ (came.made.0 ∙ c.in-Ok.ensures.items)) came.is.2)
    c.from_iter.ensures.stored
