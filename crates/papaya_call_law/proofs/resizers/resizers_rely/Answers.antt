use Rattle.std.proofs.Common.{sym, subst, ◌∙◌}
use Rattle.papaya_call_law.specs.Relies.{IsModeOf}
use Rattle.papaya_call_law.proofs.ResizerRelies.{stage_begins, stage_carries, stage_stable}
use Rattle.papaya_call_law.proofs.resizers.resizers_rely.Goals as goal

pub returns-clause-begins : goal.returns-clause-begins
returns-clause-begins g c = λ h d s loaded resize mode initial number moded cut. record { mode = moded; cut = cut; stage = stage_begins h d s loaded resize }

pub returns-clause-exchanges : goal.returns-clause-exchanges
returns-clause-exchanges g c = λ h d hashed s m keeps es may resizer loaded r.
    record { mode = r.mode; cut = r.cut; stage = stage_stable h d hashed s m keeps es may loaded resizer.state r.stage }

pub returns-clause-tables : goal.returns-clause-tables
returns-clause-tables g c = λ h h' d s m keeps agrees resizer loaded r.
    record {
      mode = subst (IsModeOf resizer.mode) (sym agrees.blocking) r.mode;
      cut = λ x. agrees.chunk_of x
          ∙ r.cut x;
      stage = stage_carries h d h' s m keeps agrees loaded resizer.state r.stage;
    }
