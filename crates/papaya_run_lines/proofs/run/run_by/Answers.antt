use Rattle.papaya_run_lines.proofs.run.run_by.Goals as goal

pub returns-in-Core : goal.returns-in-Core
returns-in-Core g c = rw c.in-Core.is c.run_core.ensures

pub returns-in-Seq : goal.returns-in-Seq
returns-in-Seq g c = rw c.in-Seq.is c.run_seq.ensures

pub returns-in-Shared : goal.returns-in-Shared
returns-in-Shared g c = rw c.in-Shared.is c.run_shared.ensures
