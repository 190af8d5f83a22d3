use Rattle.papaya_words_law.proofs.exchanges.content_of_a_table.Goals as goal
use Rattle.papaya_words_law.proofs.Content.{apart_in, content_is, no_content}
use Rattle.papaya_words_law.proofs.Counts.{count_after}
use Rattle.papaya_words_law.proofs.OneMap.{means}

pub returns-clause-holds : goal.returns-clause-holds
returns-clause-holds g c = λ h law s m keeps last k. content_is h law s m keeps last k

pub returns-clause-apart : goal.returns-clause-apart
returns-clause-apart g c = λ h law s m keeps t n. apart_in h law s m keeps t n

pub returns-clause-nothing : goal.returns-clause-nothing
returns-clause-nothing g c = λ h law s m keeps none. (no_content h law s m keeps none, λ k. (means h law s m keeps k).no_root none)

pub returns-clause-count : goal.returns-clause-count
returns-clause-count g c = λ h law s m keeps alone e may. count_after h law s m keeps alone e may
