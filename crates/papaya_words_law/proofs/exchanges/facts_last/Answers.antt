use Rattle.papaya_words_law.proofs.exchanges.facts_last.Goals as goal
use Rattle.papaya_words_law.proofs.Later.{later_run, later_through, lasts}
use Rattle.papaya_words_law.proofs.OneMap.{root_reached}

pub returns-clause-later : goal.returns-clause-later
returns-clause-later g c = λ h law fs s may. later_run h law fs s may

pub returns-clause-through : goal.returns-clause-through
returns-clause-through g c = λ h law s s' s'' a b. later_through h law s s' s'' a b

pub returns-clause-facts : goal.returns-clause-facts
returns-clause-facts g c = λ h law s s' none l. lasts h law s s' none l

pub returns-clause-root : goal.returns-clause-root
returns-clause-root g c = λ h law s m keeps k some. root_reached h s m keeps k some
