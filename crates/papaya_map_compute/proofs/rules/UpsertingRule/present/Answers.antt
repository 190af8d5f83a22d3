use Rattle.std.proofs.Common.{refl}
use Rattle.std.proofs.lemmas.Fn.{says_at}
use Rattle.papaya_map_compute.proofs.rules.UpsertingRule.present.Goals as goal

pub returns-clause-decides : goal.returns-clause-decides
returns-clause-decides g c = (refl, refl, (c.update.result, says_at g.F.Fn c.update.ensures refl, refl))
