use Rattle.papaya_call.specs.Resizer.{after_in}
use Rattle.papaya_call_alone.specs.Resizers.{left_of_stage}
use Rattle.papaya_call_alone.proofs.Measures.{measure_less}
use Rattle.papaya_call_alone.proofs.ResizerEnds.{stage_ends}
use Rattle.papaya_call_alone.proofs.ResizerLaw.{begun_read, stage_current, stage_nears, stage_small}
use Rattle.papaya_call_alone.proofs.alone.alone_resizers.Goals as goal
use Rattle.papaya_words_law.specs.Exchange.{run}

pub returns-clause-begins : goal.returns-clause-begins
returns-clause-begins g c = λ words resize mode initial number. begun_read mode words resize

pub returns-clause-nearer : goal.returns-clause-nearer
returns-clause-nearer g c = λ h d hashed s m keeps bounded resizer loaded r made read answer es loaded' told ask asks before later spends few valid.
    measure_less before later (left_of_stage s.root resizer.state)
    (left_of_stage (run es s).root (after_in resizer.resize resizer.mode resizer.initial resizer.number answer resizer.state)) few
    (stage_small (run es s).root (after_in resizer.resize resizer.mode resizer.initial resizer.number answer resizer.state) valid.state)
    (stage_nears h d hashed s m keeps bounded resizer.resize resizer.mode resizer.initial resizer.number loaded r.mode r.cut before later
    resizer.state r.stage made read answer es loaded' told ask asks spends)

pub returns-clause-current : goal.returns-clause-current
returns-clause-current g c = λ h d hashed s m keeps bounded resizer loaded r made read answer es loaded' told.
    stage_current h d hashed s m keeps bounded resizer.resize resizer.mode resizer.initial resizer.number loaded r.mode r.cut resizer.state r.stage
    made read answer es loaded' told

pub returns-clause-ends : goal.returns-clause-ends
returns-clause-ends g c = λ h d hashed s m keeps bounded resizer loaded r read answer es loaded' told done.
    stage_ends h d s loaded resizer.mode resizer.initial resizer.number answer es loaded' resizer.resize resizer.state r.stage read told done
