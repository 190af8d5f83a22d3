use Rattle.papaya_words_law.proofs.exchanges.each_step.Goals as goal
use Rattle.papaya_words_law.proofs.OneMap.{start_keeps, step_keeps, means}

pub returns-clause-first : goal.returns-clause-first
returns-clause-first g c = λ h law. start_keeps h law

pub returns-clause-step : goal.returns-clause-step
returns-clause-step g c = λ h law s m keeps e may. step_keeps h law s m keeps e may

pub returns-clause-means : goal.returns-clause-means
returns-clause-means g c = λ h law s m keeps k. means h law s m keeps k
