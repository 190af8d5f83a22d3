use Rattle.std.proofs.Common.{◌≡◌}
use Rattle.papaya_words_keys.specs.Hashes.{hash_of}
use Rattle.papaya_seq.proofs.ResizerRun.{IsResizingTo}
use Rattle.papaya_seq.proofs.ResizerSteps.{resizer_left}
use Rattle.papaya_seq.proofs.seq.HashMap.resize_by.Given as goal

-- the call continues as its machine says
abbrev pub invariant-loop-ask : goal.invariant-loop-ask
invariant-loop-ask g l =
    IsResizingTo g.K.PartialEq.eq (hash_of g.K.Hash.hash_input g.S.BuildHasher.build_hasher g.S.Hasher.Hasher.write g.S.Hasher.Hasher.finish)
    l.fn.self l.fn.resize l.self-inside.store l.resizer
    × (l.self-inside.mode ≡ l.fn.self.mode) × (l.self-inside.initial ≡ l.fn.self.initial)

-- the answers that are left to it
abbrev pub decreases-loop-ask : goal.decreases-loop-ask
decreases-loop-ask g l = resizer_left l.self-inside.store l.resizer
