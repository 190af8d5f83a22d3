use Rattle.papaya_words_law.proofs.exchanges.words_in_a_search.Goals as goal
use Rattle.papaya_words_law.proofs.CodeViews.{other_key, past_closed, past_buried, word_of_kind}

pub returns-clause-kind : goal.returns-clause-kind
returns-clause-kind g c = λ h d w. word_of_kind h d w

pub returns-clause-past_buried : goal.returns-clause-past_buried
returns-clause-past_buried g c = λ h d k w e. past_buried h d k w e

pub returns-clause-past_closed : goal.returns-clause-past_closed
returns-clause-past_closed g c = λ h d k w e. past_closed h d k w e

pub returns-clause-other_key : goal.returns-clause-other_key
returns-clause-other_key g c = λ h k w p e differ. other_key h k w p e differ
