use Rattle.papaya_words_law.proofs.exchanges.goes_on.Goals as goal
use Rattle.papaya_words_law.proofs.Onward.{shut_further, leaving_further, gone_further, next_reached, none_further}

pub returns-clause-shut : goal.returns-clause-shut
returns-clause-shut g c = λ h s m keeps t x e. shut_further h s m keeps t x e

pub returns-clause-leaving : goal.returns-clause-leaving
returns-clause-leaving g c = λ h s m keeps k t j p e. leaving_further h s m keeps k t j p e

pub returns-clause-gone : goal.returns-clause-gone
returns-clause-gone g c = λ h s m keeps k t j p e. gone_further h s m keeps k t j p e

pub returns-clause-next : goal.returns-clause-next
returns-clause-next g c = λ h s inc k t r pass some. next_reached h s inc k t r pass some

pub returns-clause-none : goal.returns-clause-none
returns-clause-none g c = λ h s m keeps law inc k t r past last. none_further h s m keeps law inc k t r past last
