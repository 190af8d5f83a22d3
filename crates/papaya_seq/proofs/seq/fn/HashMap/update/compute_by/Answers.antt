use Rattle.std.proofs.Common.{refl}
use Rattle.papaya_seq.proofs.seq.fn.HashMap.update.compute_by.Goals as goal

pub returns-in-Some : goal.returns-in-Some
returns-in-Some g c = rw c.in-Some.is (c.f.result, record { shown = c.in-Some.value; shows = refl; says = record { met = c.f.ensures } }, refl)
