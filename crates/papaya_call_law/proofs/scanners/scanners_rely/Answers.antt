use Rattle.std.proofs.Common.{sym, subst, ◌∙◌}
use Rattle.papaya_call_law.specs.Relies.{IsModeOf}
use Rattle.papaya_call_law.proofs.ScanStable.{state_stable}
use Rattle.papaya_call_law.proofs.ScanTables.{gives_carries, state_carries}
use Rattle.papaya_call_law.proofs.scanners.scanners_rely.Goals as goal

pub returns-clause-exchanges : goal.returns-clause-exchanges
returns-clause-exchanges g c = λ h d hashed s m keeps since es may scanner loaded r.
    record { mode = r.mode; cut = r.cut; gives = r.gives; state = state_stable h d s m since es hashed keeps may scanner.scan loaded scanner.state r.state }

pub returns-clause-tables : goal.returns-clause-tables
returns-clause-tables g c = λ h h' d hashed s m keeps since may agrees scanner loaded r. record {
  mode = subst (IsModeOf scanner.mode) (sym agrees.blocking) r.mode;
  cut = λ x. agrees.chunk_of x ∙ r.cut x;
  gives = gives_carries h h' d hashed s m keeps since may agrees scanner.scan loaded r.gives;
  state = state_carries h h' d hashed s m keeps since may agrees scanner.scan loaded scanner.state r.state;
}
