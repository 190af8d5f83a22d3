use Rattle.papaya_words_law.specs.Exchange.{run, start}
use Rattle.std.proofs.Common.{◌++◌}
use Rattle.papaya_call_law.proofs.Once.{chain_offered, chain_once}
use Rattle.papaya_call_law.proofs.Order.{in_order}
use Rattle.papaya_call_law.proofs.chain.once.Goals as goal

pub returns-clause-stable : goal.returns-clause-stable
returns-clause-stable g c = λ h d begun since k m loaded r answer es loaded' told shown.
    chain_once m answer (in_order h d begun since k m loaded (run (begun ++ since) start) answer es loaded' r told) shown

pub returns-clause-shown : goal.returns-clause-shown
returns-clause-shown g c = λ m kind asks. chain_offered m kind asks
