use denote.Param.Always.{always_mut}
use Rattle.papaya_map_change.specs.ClosureCalls.{Operates}
use Rattle.papaya_map_compute.proofs.Running.{IsRunning}
use Rattle.papaya_map.proofs.keeping.compute_slow.Given as goal

-- The machine runs, and the closure may be called again.
abbrev pub invariant-loop : goal.invariant-loop
invariant-loop g l = IsRunning (Operates g.F.FnMut) l.means.initial l.fn.window l.fn.f l.fn.start l.window l.computing l.f × always_mut g.F.FnMut l.f
