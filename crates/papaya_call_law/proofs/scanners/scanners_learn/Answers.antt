use Rattle.papaya_call_law.proofs.ScanLearns.{state_gives, state_learns}
use Rattle.papaya_call_law.proofs.scanners.scanners_learn.Goals as goal

pub returns : goal.returns
returns g c = λ h d hashed s m keeps since may scanner loaded r answer words es loaded' told.
    let out = state_learns h d hashed s m keeps since may scanner.scan scanner.mode r.mode r.cut scanner.initial scanner.number loaded answer es
    loaded' r.gives scanner.state r.state words told in (
      out.0,
      record {
        mode = r.mode;
        cut = r.cut;
        gives = state_gives h d hashed s m keeps since may scanner.scan scanner.mode r.mode r.cut
            scanner.initial scanner.number loaded answer es loaded' r.gives scanner.state r.state told;
        state = out.1;
      },
    )
