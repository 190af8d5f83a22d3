use Rattle.papaya_call_law.proofs.relies.learns.Goals as goal
use Rattle.papaya_call_law.proofs.ReliesLearn.{machine_learns}

pub returns : goal.returns
returns g c = λ h d hashed begun since may k m loaded r answer es loaded' told. machine_learns h d hashed begun since may k m loaded r answer es loaded' told
