use Rattle.papaya_call_law.proofs.relies.counts.Goals as goal
use Rattle.papaya_call_law.proofs.ReliesCount.{machine_owes}

pub returns : goal.returns
returns g c = λ h d k s m loaded answer es loaded' told. machine_owes h d k s m loaded es loaded' answer told
