use Rattle.papaya_words_law.proofs.exchanges.one_map.Goals as goal
use Rattle.papaya_words_law.proofs.OneMap.{means_map, legal_changes}
use Rattle.papaya_words_law.proofs.Unique.{one_value}

pub returns-clause-meaning : goal.returns-clause-meaning
returns-clause-meaning g c = λ s law es may k. means_map s law es may k

pub returns-clause-only : goal.returns-clause-only
returns-clause-only g c = λ s law es may k v m. one_value s law es may k v m

pub returns-clause-legal : goal.returns-clause-legal
returns-clause-legal g c = λ s law es may. legal_changes s law es may
