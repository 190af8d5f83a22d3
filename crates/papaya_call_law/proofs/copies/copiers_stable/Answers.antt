use Rattle.papaya_words_law.specs.Exchange.{run}
use Rattle.papaya_words_law.proofs.Chain.{next_zero}
use Rattle.papaya_words_law.proofs.Grows.{on_run}
use Rattle.papaya_words_law.proofs.Later.{later_run}
use Rattle.papaya_words_law.proofs.OneMap.{keeping_sound}
use Rattle.papaya_call_law.proofs.CopierStable.{copying_stable}
use Rattle.papaya_call_law.proofs.CopierTables.{copying_carries}
use Rattle.papaya_call_law.proofs.copies.copiers_stable.Goals as goal

pub returns-clause-exchanges : goal.returns-clause-exchanges
returns-clause-exchanges g c = λ h d hashed s m keeps es may last kept copying r.
    copying_stable h d hashed s (run es s) (next_zero s.next (keeping_sound h s m keeps).rises) (later_run h hashed.lawful es s may)
    (on_run h hashed.lawful es s m keeps may) last kept copying r

pub returns-clause-tables : goal.returns-clause-tables
returns-clause-tables g c = λ h h' d s m keeps agrees last kept copying r. copying_carries h h' d s (keeping_sound h s m keeps) agrees last kept copying r
