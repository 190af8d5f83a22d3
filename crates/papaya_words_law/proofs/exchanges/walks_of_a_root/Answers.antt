use Rattle.papaya_words_law.proofs.exchanges.walks_of_a_root.Goals as goal
use Rattle.papaya_words_law.proofs.OneMap.{incremental_state}
use Rattle.papaya_words_law.proofs.Walks.{root_holds, still_there, copied_since, buried_since}

pub returns-clause-holds : goal.returns-clause-holds
returns-clause-holds g c = λ h law s m keeps last k p e. root_holds h law s m keeps last k p e

pub returns-clause-stays : goal.returns-clause-stays
returns-clause-stays g c = λ h law m k t j fs s may e. still_there h law m k t j fs s may e

pub returns-clause-gone : goal.returns-clause-gone
returns-clause-gone g c = λ h law inc s m keeps k t j p fs may r lt old now.
    copied_since h law inc s m (incremental_state h s m keeps inc) k t j p fs may r lt old now

pub returns-clause-buried : goal.returns-clause-buried
returns-clause-buried g c = λ h law m k t j p fs s may old now. buried_since h law m k t j p fs s may old now
