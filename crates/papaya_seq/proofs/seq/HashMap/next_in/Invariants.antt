use Rattle.std.proofs.Common.{◌≡◌, ◌-◌, length}
use Rattle.papaya_seq.specs.Walks.{left_to}
use Rattle.papaya_seq.proofs.seq.HashMap.next_in.Given as goal

-- the slots so far had no pair to return
abbrev pub invariant-loop-at : goal.invariant-loop-at
invariant-loop-at g l =
    (l.at.table ≡ l.fn.at.table)
    × (l.at.passed ≡ l.fn.at.passed)
    × (left_to g.K.PartialEq.eq l.self.store l.fn.at ≡ left_to g.K.PartialEq.eq l.self.store l.at)

abbrev pub decreases-loop-at : goal.decreases-loop-at
decreases-loop-at g l = length l.table.slots - l.at.slot
