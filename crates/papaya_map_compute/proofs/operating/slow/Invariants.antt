use Rattle.papaya_map_compute.specs.Operating.{CallsClosure}
use Rattle.papaya_map_compute.proofs.Running.{IsRunning}
use Rattle.papaya_map_compute.proofs.operating.slow.Given as goal

-- The machine runs, and the operator may be called again.
abbrev pub invariant-loop : goal.invariant-loop
invariant-loop g l = IsRunning (CallsClosure g.A.Operator.operates) l.means.initial l.fn.window l.fn.op l.fn.start l.window l.computing l.op
    × g.A.Operator.callable l.op
