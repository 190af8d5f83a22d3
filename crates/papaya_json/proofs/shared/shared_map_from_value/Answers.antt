use Rattle.std.proofs.Common.{inl, inr, refl}
use Rattle.std.proofs.lemmas.Result.{IfErr-weaker, IfOk-weaker}
use Rattle.papaya_json.proofs.shared.shared_map_from_value.Goals as goal

pub returns-in_default-clause-err : goal.returns-in_default-clause-err
returns-in_default-clause-err g c = inl (refl, λ object is. c.in_default.not-Object object is)

pub returns-clause-stored : goal.returns-clause-stored
returns-clause-stored g c = IfOk-weaker c.shared_map_of.result _ _ (λ map read. (c.in-Object.members, c.in-Object.is, read)) c.shared_map_of.ensures.stored

pub returns-clause-err : goal.returns-clause-err
returns-clause-err g c = IfErr-weaker c.shared_map_of.result _ _ (λ e why. inr (c.in-Object.members, c.in-Object.is, why)) c.shared_map_of.ensures.err
