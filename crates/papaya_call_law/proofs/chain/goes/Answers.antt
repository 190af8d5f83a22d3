use Rattle.papaya_words_law.specs.Exchange.{run, start}
use Rattle.std.proofs.Common.{◌++◌}
use Rattle.papaya_call_law.proofs.Goes.{machine_goes}
use Rattle.papaya_call_law.proofs.Order.{in_order}
use Rattle.papaya_call_law.proofs.Replies.{chain_changes, chain_owes, chain_said, chain_shows, chain_task}
use Rattle.papaya_call_law.proofs.chain.goes.Goals as goal

pub returns-clause-leaves : goal.returns-clause-leaves
returns-clause-leaves g c = λ h d begun since k m loaded r answer es loaded' told.
    machine_goes m answer (in_order h d begun since k m loaded (run (begun ++ since) start) answer es loaded' r told)

pub returns-clause-changes : goal.returns-clause-changes
returns-clause-changes g c = λ h d hashed begun since k m loaded r answer es loaded' told.
    chain_changes h d k (run (begun ++ since) start) m loaded answer es loaded'
    (in_order h d begun since k m loaded (run (begun ++ since) start) answer es loaded' r told) told hashed r.call.hash

pub returns-clause-counts : goal.returns-clause-counts
returns-clause-counts g c = λ h d begun since k m loaded r answer es loaded' told.
    chain_owes h d k (run (begun ++ since) start) m loaded answer es loaded'
    (in_order h d begun since k m loaded (run (begun ++ since) start) answer es loaded' r told) told

pub returns-clause-task : goal.returns-clause-task
returns-clause-task g c = λ h d begun since k m loaded r answer es loaded' told.
    chain_task m answer (in_order h d begun since k m loaded (run (begun ++ since) start) answer es loaded' r told)

pub returns-clause-words : goal.returns-clause-words
returns-clause-words g c = λ h d begun since k m loaded r answer es loaded' told.
    chain_shows m answer (in_order h d begun since k m loaded (run (begun ++ since) start) answer es loaded' r told)

pub returns-clause-says : goal.returns-clause-says
returns-clause-says g c = λ h d begun since k m loaded r answer es loaded' told valid shows said stands.
    chain_said m answer (in_order h d begun since k m loaded (run (begun ++ since) start) answer es loaded' r told) valid shows said stands
