use Rattle.papaya_words_law.proofs.exchanges.examples.Goals as goal
use Rattle.papaya_words_law.proofs.Example.{by_two_lawful, of_one_lawful, one_walk, one_abort}

pub returns-clause-incremental : goal.returns-clause-incremental
returns-clause-incremental g = (by_two_lawful, one_walk)

pub returns-clause-blocking : goal.returns-clause-blocking
returns-clause-blocking g = (of_one_lawful, one_abort)
