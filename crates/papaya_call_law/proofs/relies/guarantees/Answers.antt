use Rattle.papaya_call_law.proofs.relies.guarantees.Goals as goal
use Rattle.papaya_call_law.proofs.ReliesExchange.{machine_may}

pub returns : goal.returns
returns g c = λ h d hashed begun since may k m loaded r at old new e. machine_may h d hashed begun since may k m loaded r at old new e
