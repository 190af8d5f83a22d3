use Rattle.papaya_seq.proofs.WalkSteps.{IsPassing}
use Rattle.papaya_seq.proofs.seq.HashMap.is_copy.Given as goal

-- none of the tables before this one has a pair of the key
abbrev pub invariant-loop-passed : goal.invariant-loop-passed
invariant-loop-passed g l = IsPassing l.self.store g.K.PartialEq.eq l.pair l.fn.at l.table l.passed

abbrev pub decreases-loop-passed : goal.decreases-loop-passed
decreases-loop-passed g l = l.passed
