use Rattle.papaya_call_law.proofs.relies.guarantees_hint.Goals as goal
use Rattle.papaya_call_law.proofs.ReliesHints.{machine_may_hint}

pub returns : goal.returns
returns g c = λ h d begun since k m loaded r t x n e. machine_may_hint h d begun since k m loaded r t x n e
