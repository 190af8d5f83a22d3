use Rattle.papaya_words_law.proofs.CopierFacts.{last_root, moved}
use Rattle.papaya_words_law.proofs.exchanges.after_copies.Goals as goal

pub returns-clause-last_root : goal.returns-clause-last_root
returns-clause-last_root g c = λ h s m keeps t was none. last_root h s m keeps t was none

pub returns-clause-moved : goal.returns-clause-moved
returns-clause-moved g c = λ h s inc k t j n p lt e settled. moved h s inc k t j n p lt e settled
