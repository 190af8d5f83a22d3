use Rattle.papaya_call_law.proofs.CopierCopies.{copying_noted}
use Rattle.papaya_call_law.proofs.copies.copiers_guarantee_hint.Goals as goal

pub returns : goal.returns
returns g c = λ h d hashed s m keeps mode moded last kept copying r t x n e. (copying_noted h d hashed s m keeps mode moded last kept copying r t x n e).0
