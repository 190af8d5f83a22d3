use Rattle.papaya_call_law.proofs.Names.{copies_may}
use Rattle.papaya_call_law.proofs.chain.copies_guarantee.Goals as goal

pub returns : goal.returns
returns g c = λ h d hashed begun since may k m loaded r words at old new e stands. copies_may h d hashed begun since may k m loaded r words at old new e stands
