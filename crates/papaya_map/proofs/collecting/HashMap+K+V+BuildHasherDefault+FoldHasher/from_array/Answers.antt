use Rattle.std.proofs.Common.{List, [], ◌∙◌, subst}
use Rattle.std.proofs.IntoIterSteps.{All-taken}
use Rattle.std.proofs.lemmas.Result.{IfOk-weaker}
use Rattle.papaya_map.specs.Collected.{AreStored}
use Rattle.papaya_map.proofs.collecting.HashMap+K+V+BuildHasherDefault+FoldHasher.from_array.Goals as goal

pub returns-in-Ok-clause-stored : goal.returns-in-Ok-clause-stored
returns-in-Ok-clause-stored g c =
    IfOk-weaker c.from_iter.result _ _
    (λ map came. subst (λ (ps : List (g.row.K.Denot × g.row.V.Denot)). AreStored g.K.PartialEq.eq ps [] map.seen)
    (All-taken came.first came.items (came.is.0, (came.left, came.came, came.is.1)) ∙ (came.made.0 ∙ c.in-Ok.ensures.items)) came.is.2)
    c.from_iter.ensures.stored
