use Rattle.std.proofs.Common.{◌-◌, ◌≤◌}
use Rattle.papaya_seq.specs.Retains.{IsRetaining}
use Rattle.papaya_seq.proofs.seq.HashMap.retain_by.Given as goal

-- the slots before this one were scanned
abbrev pub invariant-loop-slot : goal.invariant-loop-slot
invariant-loop-slot g l = goal.F-IsAlwaysCallable g l.agrees × (l.slot ≤ l.slots) × IsRetaining g.F.FnMut l.initial.self l.initial.agrees l.slot l.self l.agrees

abbrev pub decreases-loop-slot : goal.decreases-loop-slot
decreases-loop-slot g l = l.slots - l.slot
