use Rattle.std.proofs.Common.{◌≡◌, ◌++◌, length, map}
use Rattle.papaya_core_timeline.specs.Content.{content}
use Rattle.papaya_seq.specs.Walks.{IsPosition, left_to}
use Rattle.papaya_seq.proofs.seq.HashMap.numbers.Given as goal

-- the numbers so far, and those of the pairs that are left, are those of all
abbrev pub invariant-loop-pair : goal.invariant-loop-pair
invariant-loop-pair g l =
    IsPosition l.self l.at
    × (l.list.items ++ map (λ p. p.number) (left_to g.K.PartialEq.eq l.self.store l.at) ≡ map (λ p. p.number) (content g.K.PartialEq.eq l.self.store))

-- the pairs that are left
abbrev pub decreases-loop-pair : goal.decreases-loop-pair
decreases-loop-pair g l = length (left_to g.K.PartialEq.eq l.self.store l.at)
