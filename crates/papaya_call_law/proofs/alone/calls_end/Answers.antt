use Rattle.papaya_call_law.proofs.alone.calls_end.Goals as goal
use Rattle.papaya_call_law.proofs.AloneCurrent.{machine_stable}
use Rattle.papaya_call_law.proofs.AloneSteps.{machine_nears}

pub returns-clause-nearer : goal.returns-clause-nearer
returns-clause-nearer c = λ words words' m answer current last told. machine_nears words words' m answer current.number current.read last told

pub returns-clause-current : goal.returns-clause-current
returns-clause-current c = λ words words' m answer current told. machine_stable words words' m current.bare answer current.number current.read told
