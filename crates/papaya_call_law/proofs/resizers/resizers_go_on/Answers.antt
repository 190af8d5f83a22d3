use Rattle.papaya_call_law.proofs.ResizerRefusals.{resizer_why}
use Rattle.papaya_call_law.proofs.ResizerRelies.{stage_learns, stage_may, stage_may_hint, stage_there}
use Rattle.papaya_call_law.proofs.resizers.resizers_go_on.Goals as goal

pub returns-clause-names : goal.returns-clause-names
returns-clause-names g c = λ h d hashed s m keeps resizer loaded r ask e. stage_there h d hashed s m keeps loaded resizer.state r.stage ask e

pub returns-clause-guarantee : goal.returns-clause-guarantee
returns-clause-guarantee g c = λ h d hashed s m keeps resizer loaded r words at old new e stands.
    stage_may h d hashed s m keeps loaded resizer.state r.stage words at old new e stands

pub returns-clause-guarantees_hint : goal.returns-clause-guarantees_hint
returns-clause-guarantees_hint g c = λ h d hashed s m keeps resizer loaded r t x n e.
    stage_may_hint h d hashed s m keeps loaded resizer.mode r.mode resizer.state r.stage t x n e

pub returns-clause-learns : goal.returns-clause-learns
returns-clause-learns g c = λ h d hashed s m keeps resizer loaded r answer words es loaded' told.
    let out = stage_learns h d hashed s m keeps resizer.resize resizer.mode resizer.initial resizer.number loaded r.mode r.cut resizer.state r.stage
    answer words es loaded' told in
    (out.0, record { mode = r.mode; cut = r.cut; stage = out.1 })

pub returns-clause-refusals : goal.returns-clause-refusals
returns-clause-refusals g c = λ h d s resizer loaded r answer es loaded' told refused ends. resizer_why h d s resizer loaded answer es loaded' told refused ends
