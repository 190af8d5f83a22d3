use Rattle.papaya_call_law.proofs.CopierCopies.{copying_compared, copying_counted}
use Rattle.papaya_call_law.proofs.CopierCopies.{copying_exchanged, copying_found, copying_hashed}
use Rattle.papaya_call_law.proofs.CopierCopies.{copying_hinted, copying_loaded, copying_made}
use Rattle.papaya_call_law.proofs.CopierCopies.{copying_noted, copying_refused, copying_sized}
use Rattle.papaya_call_law.proofs.CopierExchange.{asked_allowed}
use Rattle.papaya_call_law.proofs.copies.copiers_learn.Goals as goal

pub returns-clause-begins : goal.returns-clause-begins
returns-clause-begins g c = λ h d s last kept aim r. (r, tt)

pub returns-clause-load : goal.returns-clause-load
returns-clause-load g c = λ h d hashed s m keeps mode moded last kept copying r at e. copying_loaded h d hashed s m keeps mode moded last kept copying r at e

pub returns-clause-hint : goal.returns-clause-hint
returns-clause-hint g c = λ h d hashed s m keeps mode moded last kept copying r t x e n is.
    copying_hinted h d hashed s m keeps mode moded last kept copying r t x e n is

pub returns-clause-noted : goal.returns-clause-noted
returns-clause-noted g c = λ h d hashed s m keeps mode moded last kept copying r t x n e.
    (copying_noted h d hashed s m keeps mode moded last kept copying r t x n e).1

pub returns-clause-exchanged : goal.returns-clause-exchanged
returns-clause-exchanged g c = λ h d hashed s m keeps mode moded last kept copying r words at old new e stands x asked.
    copying_exchanged h d hashed s m keeps mode moded last kept x
    (asked_allowed h d hashed s m keeps last kept copying r words at old new e stands x asked) copying r at old new e stands asked

pub returns-clause-found : goal.returns-clause-found
returns-clause-found g c = λ h d hashed s m keeps mode moded last kept copying r at old new e other.
    copying_found h d hashed s m keeps mode moded last kept copying r at old new e other

pub returns-clause-size : goal.returns-clause-size
returns-clause-size g c = λ h d hashed s m keeps mode moded cut last kept copying r number t limit e most.
    copying_sized h d hashed s m keeps mode moded last kept cut number copying r t limit e most

pub returns-clause-hash : goal.returns-clause-hash
returns-clause-hash g c = λ h d hashed s m keeps mode moded last kept copying r n e q told.
    copying_hashed h d hashed s m keeps mode moded last kept copying r n e q told

pub returns-clause-same : goal.returns-clause-same
returns-clause-same g c = λ h d hashed s m keeps mode moded last kept copying r i n e o q k told.
    copying_compared h d hashed s m keeps mode moded last kept copying r i n e o q k told

pub returns-clause-count : goal.returns-clause-count
returns-clause-count g c = λ h d hashed s m keeps mode moded cut last kept copying r count initial.
    copying_counted h d hashed s m keeps mode moded last kept cut copying r count initial

pub returns-clause-made : goal.returns-clause-made
returns-clause-made g c = λ h d hashed s m keeps mode moded last kept copying r n more. copying_made h d hashed s m keeps mode moded last kept copying r n more

pub returns-clause-refused : goal.returns-clause-refused
returns-clause-refused g c = λ h d hashed s m keeps mode moded last kept copying r refused.
    copying_refused h d hashed s m keeps mode moded last kept copying r refused
