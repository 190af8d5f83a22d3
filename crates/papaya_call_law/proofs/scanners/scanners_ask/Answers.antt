use Rattle.papaya_call_law.proofs.ScanAsks.{state_may, state_may_hint, state_named}
use Rattle.papaya_call_law.proofs.scanners.scanners_ask.Goals as goal

pub returns-clause-names : goal.returns-clause-names
returns-clause-names g c = λ h d hashed s m keeps since may scanner loaded r ask e.
    state_named h d hashed s m keeps since may scanner.scan loaded scanner.state r.state ask e

pub returns-clause-guarantee : goal.returns-clause-guarantee
returns-clause-guarantee g c = λ h d hashed s m keeps since may scanner loaded r words at old new e stands.
    state_may h d hashed s m keeps since may scanner.scan loaded scanner.state r.state words at old new e stands

pub returns-clause-guarantees_hint : goal.returns-clause-guarantees_hint
returns-clause-guarantees_hint g c = λ h d hashed s m keeps since may scanner loaded r t x n e.
    state_may_hint h d hashed s m keeps since may scanner.scan loaded scanner.mode r.mode scanner.state r.state t x n e
