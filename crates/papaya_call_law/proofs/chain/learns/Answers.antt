use Rattle.papaya_call_law.proofs.Learns.{all_learns}
use Rattle.papaya_call_law.proofs.chain.learns.Goals as goal

pub returns : goal.returns
returns g c = λ h d hashed begun since may k m loaded r answer words es loaded' told.
    all_learns h d hashed begun since may k m loaded r answer words es loaded' told
