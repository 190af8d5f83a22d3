use Rattle.std.proofs.Common.{◌≡◌}
use Rattle.papaya_words_keys.specs.Hashes.{hash_of}
use Rattle.papaya_seq.proofs.Ending.{left_of}
use Rattle.papaya_seq.proofs.InsertingRun.{IsInserting}
use Rattle.papaya_seq.proofs.seq.HashMap.insert_slow.Given as goal

-- the insertion continues as its machine says
abbrev pub invariant-loop-reply : goal.invariant-loop-reply
invariant-loop-reply g l =
    IsInserting g.K.PartialEq.eq (hash_of g.K.Hash.hash_input g.S.BuildHasher.build_hasher g.S.Hasher.Hasher.write g.S.Hasher.Hasher.finish) l.fn.self
    l.fn.replace l.fn.key l.fn.value l.self-inside.store l.running
    × (l.self-inside.mode ≡ l.fn.self.mode) × (l.self-inside.initial ≡ l.fn.self.initial)

-- the answers that are left to it
abbrev pub decreases-loop-reply : goal.decreases-loop-reply
decreases-loop-reply g l = left_of l.self-inside.store l.running.machine
