use Rattle.papaya_call_law.proofs.CopierCopies.{copying_there}
use Rattle.papaya_call_law.proofs.copies.copiers_name.Goals as goal

pub returns : goal.returns
returns g c = λ h d hashed s m keeps last kept copying r. copying_there h d hashed s m keeps last kept copying r
