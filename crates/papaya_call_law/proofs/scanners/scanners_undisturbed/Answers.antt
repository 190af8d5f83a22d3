use Rattle.papaya_call_law.proofs.ScanUndisturbed.{begun_at, root_unrefused, state_stands}
use Rattle.papaya_call_law.proofs.scanners.scanners_undisturbed.Goals as goal

pub returns-clause-begins : goal.returns-clause-begins
returns-clause-begins g c = λ s scan mode initial number. begun_at s mode

pub returns-clause-stable : goal.returns-clause-stable
returns-clause-stable g c = λ h d s m since scanner loaded r calm at answer es loaded' told.
    state_stands h d s m since scanner loaded answer es loaded' calm scanner.state r.state at told

pub returns-clause-unrefused : goal.returns-clause-unrefused
returns-clause-unrefused g c = λ s scanner refused at e. root_unrefused s scanner.state refused at e
