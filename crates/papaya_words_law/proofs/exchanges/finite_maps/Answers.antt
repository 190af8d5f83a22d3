use Rattle.papaya_words_law.proofs.exchanges.finite_maps.Goals as goal
use Rattle.papaya_words_law.proofs.FiniteMaps.{length_after, list_after, one_length}
use Rattle.papaya_words_law.proofs.OneMap.{step_keeps}

pub returns-clause-list : goal.returns-clause-list
returns-clause-list g c = λ h law s m keeps e may a apart before. list_after h law m a apart before s e may (step_keeps h law s m keeps e may).0

pub returns-clause-length : goal.returns-clause-length
returns-clause-length g c = λ h law a b x y all. one_length h law a b x y all

pub returns-clause-count : goal.returns-clause-count
returns-clause-count g c = λ h law m e legal a b x y before now. length_after h law m a b x y before e legal now
