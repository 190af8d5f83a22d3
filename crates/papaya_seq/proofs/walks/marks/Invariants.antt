use Rattle.std.proofs.Common.{◌+◌, ◌-◌}
use Rattle.papaya_seq.proofs.WalkSteps.{IsSearched}
use Rattle.papaya_seq.proofs.walks.marks.Given as goal

-- no place before this one has such a word
abbrev pub invariant-loop-probe : goal.invariant-loop-probe
invariant-loop-probe g l = IsSearched l.store l.hash l.table l.pair l.len l.probe

-- the places that are left
abbrev pub decreases-loop-probe : goal.decreases-loop-probe
decreases-loop-probe g l = l.limit + 1 - l.probe.len
