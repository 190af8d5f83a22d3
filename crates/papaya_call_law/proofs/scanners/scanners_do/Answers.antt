use Rattle.std.proofs.Common.{refl}
use Rattle.papaya_call_law.proofs.ScanOutcomes.{state_done, state_why}
use Rattle.papaya_call_law.proofs.scanners.scanners_do.Goals as goal

pub returns-clause-changes : goal.returns-clause-changes
returns-clause-changes g c = λ h d s m since scanner loaded r answer es loaded' told.
    state_done h d s m since scanner loaded answer es loaded' scanner.state r.state told

pub returns-clause-refusals : goal.returns-clause-refusals
returns-clause-refusals g c = λ h d s m since scanner loaded r answer es loaded' told refused ends.
    state_why h d s m since scanner loaded answer es loaded' refused scanner.state told refl ends
