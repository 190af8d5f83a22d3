use Rattle.std.proofs.Common.{None, refl, ap, ◌++◌}
use Rattle.papaya_words_law.specs.Exchange.{start}
use Rattle.papaya_words_law.proofs.OneMap.{legal_changes as all_legal}
use Rattle.papaya_map_lookup.proofs.Histories.{changes_begin, legal_changes, replay_left}
use Rattle.papaya_map_lookup.proofs.history.exchanges_have_a_history.Goals as goal

pub returns-clause-replay : goal.returns-clause-replay
returns-clause-replay g c = λ s es k. ap (λ m. m k) (replay_left s es)

pub returns-clause-legal : goal.returns-clause-legal
returns-clause-legal g c = λ s law es may. legal_changes s law start (λ k. None) es may (all_legal s law es may)

pub returns-clause-grows : goal.returns-clause-grows
returns-clause-grows g c = λ s es fs. changes_begin s.key es fs (es ++ fs) refl
