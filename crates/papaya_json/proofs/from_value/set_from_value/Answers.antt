use Rattle.std.proofs.Common.{inl, inr, refl}
use Rattle.std.proofs.lemmas.Result.{IfErr-weaker, IfOk-weaker}
use Rattle.papaya_json.proofs.from_value.set_from_value.Goals as goal

pub returns-in_default-clause-err : goal.returns-in_default-clause-err
returns-in_default-clause-err g c = inl (refl, λ array is. c.in_default.not-Array array is)

pub returns-clause-ok : goal.returns-clause-ok
returns-clause-ok g c = IfOk-weaker c.set_of.result _ _ (λ set read. (c.in-Array.items, c.in-Array.is, read)) c.set_of.ensures.ok

pub returns-clause-err : goal.returns-clause-err
returns-clause-err g c = IfErr-weaker c.set_of.result _ _ (λ e why. inr (c.in-Array.items, c.in-Array.is, why)) c.set_of.ensures.err
