use Rattle.std.proofs.Common.{inr}
use Rattle.std.proofs.lemmas.Result.{IfErr-weaker, IfOk-weaker}
use Rattle.papaya_json.proofs.shared.shared_map_to_value.Goals as goal

pub returns-clause-ok : goal.returns-clause-ok
returns-clause-ok g c = IfOk-weaker c.object_of.result _ _ (λ v is. (c.object_of.new.pairs.given, is)) c.object_of.ensures.ok

pub returns-clause-err : goal.returns-clause-err
returns-clause-err g c = IfErr-weaker c.object_of.result _ _ (λ e why. inr (c.object_of.new.pairs.given, why)) c.object_of.ensures.err
