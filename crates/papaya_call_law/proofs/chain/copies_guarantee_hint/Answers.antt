use Rattle.papaya_call_law.proofs.Names.{copies_guarantee_hint}
use Rattle.papaya_call_law.proofs.chain.copies_guarantee_hint.Goals as goal

pub returns : goal.returns
returns g c = λ h d hashed begun since may k m loaded r t x n e. copies_guarantee_hint h d hashed begun since may k m loaded r t x n e
