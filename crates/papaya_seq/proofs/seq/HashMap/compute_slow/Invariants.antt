use Rattle.std.proofs.Common.{◌≡◌}
use Rattle.papaya_words_keys.specs.Hashes.{hash_of}
use Rattle.papaya_seq.proofs.ComputeRun.{IsComputing}
use Rattle.papaya_seq.proofs.Ending.{left_of}
use Rattle.papaya_seq.proofs.seq.HashMap.compute_slow.Given as goal

-- the compute continues as its machine says, in a map that keeps its mode and its initial capacity
abbrev pub invariant-loop-self : goal.invariant-loop-self
invariant-loop-self g l =
    IsComputing g.K.PartialEq.eq (hash_of g.K.Hash.hash_input g.S.BuildHasher.build_hasher g.S.Hasher.Hasher.write g.S.Hasher.Hasher.finish) l.fn.self
    l.fn.key (λ f shown operation. goal.F-post g f shown operation) l.fn.f l.self-inside.store l.running l.closure l.shown l.aborted
    × (l.self-inside.mode ≡ l.fn.self.mode) × (l.self-inside.initial ≡ l.fn.self.initial)

-- the answers that are left to it
abbrev pub decreases-loop-self : goal.decreases-loop-self
decreases-loop-self g l = left_of l.self-inside.store l.running.machine
