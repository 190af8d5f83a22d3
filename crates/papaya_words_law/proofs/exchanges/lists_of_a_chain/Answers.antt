use Rattle.papaya_words_law.proofs.exchanges.lists_of_a_chain.Goals as goal
use Rattle.papaya_words_law.proofs.ChainTables.{chain_alone, chain_ends, chain_enough, content_alike, content_few, content_later}

pub returns-clause-ends : goal.returns-clause-ends
returns-clause-ends g c = λ h law s m keeps n low all. chain_ends h law s m keeps n low all

pub returns-clause-enough : goal.returns-clause-enough
returns-clause-enough g c = λ h law s n more ends ends'. chain_enough h law s n more s.root ends ends'

pub returns-clause-alone : goal.returns-clause-alone
returns-clause-alone g c = λ h law s m keeps last n ends. chain_alone h law s m keeps last n ends

pub returns-clause-few : goal.returns-clause-few
returns-clause-few g c = λ h law s m keeps b sized n. content_few h law s m keeps b sized n

pub returns-clause-alike : goal.returns-clause-alike
returns-clause-alike g c = λ h law s m keeps list none end more n. content_alike h law s m keeps list none end more n

pub returns-clause-later : goal.returns-clause-later
returns-clause-later g c = λ h h' law law' s m keeps agrees n. content_later h law s m keeps h' law' agrees n
