use Rattle.papaya_words_law.proofs.exchanges.claim_or_copy.Goals as goal
use Rattle.papaya_words_law.proofs.OneMap.{never_both}

pub returns : goal.returns
returns g c = λ h law s m keeps t x p claim copy. never_both h law s m keeps t x p claim copy
