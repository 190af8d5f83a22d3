use Rattle.std.proofs.Common.{inl, inr, refl}
use Rattle.std.proofs.lemmas.Result.{IfErr-weaker, IfOk-weaker}
use Rattle.papaya_json.proofs.from_value.map_from_value.Goals as goal

pub returns-in_default-clause-err : goal.returns-in_default-clause-err
returns-in_default-clause-err g c = inl (refl, λ object is. c.in_default.not-Object object is)

pub returns-clause-ok : goal.returns-clause-ok
returns-clause-ok g c = IfOk-weaker c.map_of.result _ _ (λ map read. (c.in-Object.members, c.in-Object.is, read)) c.map_of.ensures.ok

pub returns-clause-err : goal.returns-clause-err
returns-clause-err g c = IfErr-weaker c.map_of.result _ _ (λ e why. inr (c.in-Object.members, c.in-Object.is, why)) c.map_of.ensures.err
