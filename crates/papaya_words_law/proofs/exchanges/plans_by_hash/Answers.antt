use Rattle.papaya_words_law.proofs.exchanges.plans_by_hash.Goals as goal
use Rattle.papaya_words_law.proofs.Hashing.{hashed_lawful}
use Rattle.papaya_words_law.proofs.Logs.{planned_lawful}

pub returns-clause-plan : goal.returns-clause-plan
returns-clause-plan g c = λ blocking chunk_of most key same hash itself back through respects.
    hashed_lawful blocking chunk_of most key same hash itself back through respects

pub returns-clause-setting : goal.returns-clause-setting
returns-clause-setting g c = λ h law size places chunks slots some. planned_lawful h law size places chunks slots some
