use Rattle.papaya_words_law.specs.Exchange.{run, start}
use Rattle.std.proofs.Common.{◌++◌}
use Rattle.papaya_call_law.proofs.Order.{in_order}
use Rattle.papaya_call_law.proofs.Refusals.{chain_refused}
use Rattle.papaya_call_law.proofs.chain.refusals.Goals as goal

pub returns : goal.returns
returns g c = λ h d begun since k m loaded r answer es loaded' told refused open_still ends.
    chain_refused h d k (run (begun ++ since) start) m answer refused loaded es loaded' told
    (in_order h d begun since k m loaded (run (begun ++ since) start) answer es loaded' r told) open_still ends
