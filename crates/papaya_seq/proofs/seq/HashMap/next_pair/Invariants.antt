use Rattle.std.proofs.Common.{◌≡◌, ◌-◌, ◌+◌, length}
use Rattle.papaya_seq.specs.Walks.{IsPosition, left_to}
use Rattle.papaya_seq.proofs.seq.HashMap.next_pair.Given as goal

-- the tables so far had no pair to return
abbrev pub invariant-loop-self : goal.invariant-loop-self
invariant-loop-self g l =
    IsPosition l.self l.at
    × (left_to g.K.PartialEq.eq l.self.store l.fn.at ≡ left_to g.K.PartialEq.eq l.self.store l.at)

-- the tables with greater numbers
abbrev pub decreases-loop-self : goal.decreases-loop-self
decreases-loop-self g l = length l.self.store.words.tables + 1 - l.at.table
