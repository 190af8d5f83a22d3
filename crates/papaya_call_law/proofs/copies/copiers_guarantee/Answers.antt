use Rattle.papaya_call_law.proofs.CopierExchange.{copying_may, one_asked}
use Rattle.papaya_call_law.proofs.copies.copiers_guarantee.Goals as goal

pub returns-clause-guarantee : goal.returns-clause-guarantee
returns-clause-guarantee g c = λ h d hashed s m keeps last kept copying r words at old new e stands.
    copying_may h d hashed s m keeps last kept copying r words at old new e stands

pub returns-clause-one : goal.returns-clause-one
returns-clause-one g c = one_asked
