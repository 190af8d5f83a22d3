use Rattle.std.proofs.Common.{inr, map}
use Rattle.std.proofs.lemmas.Result.{IfErr-weaker, IfOk-weaker}
use Rattle.papaya_json.proofs.shared.shared_set_to_value.Goals as goal

pub returns-clause-ok : goal.returns-clause-ok
returns-clause-ok g c = IfOk-weaker c.array_of.result _ _ (λ v is. (map (λ e. e.0) c.array_of.new.pairs.given, is)) c.array_of.ensures.ok

pub returns-clause-err : goal.returns-clause-err
returns-clause-err g c = IfErr-weaker c.array_of.result _ _ (λ e why. inr (map (λ e. e.0) c.array_of.new.pairs.given, why)) c.array_of.ensures.err
