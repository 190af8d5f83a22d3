use Rattle.papaya_seq.proofs.Rebuilt.{clones_equal}
use Rattle.papaya_seq.proofs.laws.clones_are_equal.Goals as goal

pub returns : goal.returns
returns g c = λ s s' same cloned. clones_equal g.K.PartialEq.eq g.K.Clone.is_clone g.V.Clone.is_clone g.V.PartialEq.eq same s s' cloned
