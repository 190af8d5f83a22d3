use Rattle.papaya_words_law.proofs.exchanges.slow_readers.Goals as goal
use Rattle.papaya_words_law.proofs.OneMap.{blocking_state}
use Rattle.papaya_words_law.proofs.Readers.{slow_found, slow_empty, slow_over}

pub returns-clause-found : goal.returns-clause-found
returns-clause-found g c = λ h law blocks s m keeps t root some fs may k j p lt e.
    slow_found h law blocks s m (blocking_state h s m keeps blocks) t root some fs may k j p lt e

pub returns-clause-empty : goal.returns-clause-empty
returns-clause-empty g c = λ h law blocks s m keeps t root some fs may k j lt before free.
    slow_empty h law blocks s m (blocking_state h s m keeps blocks) t root some fs may k j lt before free

pub returns-clause-over : goal.returns-clause-over
returns-clause-over g c = λ h law blocks s m keeps t root some fs may k pass.
    slow_over h law blocks s m (blocking_state h s m keeps blocks) t root some fs may k pass
