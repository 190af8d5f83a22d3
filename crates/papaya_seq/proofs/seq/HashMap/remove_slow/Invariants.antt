use Rattle.std.proofs.Common.{◌≡◌}
use Rattle.papaya_call.specs.ChainMachine.{IsValid}
use Rattle.papaya_words_keys.specs.Hashes.{hash_of}
use Rattle.papaya_seq.proofs.Ending.{left_of}
use Rattle.papaya_seq.proofs.RemovalWays.{IsUnderWay}
use Rattle.papaya_seq.proofs.seq.HashMap.remove_slow.Given as goal

-- the removal is under way, in a map that keeps its mode and its initial capacity
abbrev pub invariant-loop-ask : goal.invariant-loop-ask
invariant-loop-ask g l =
    IsValid l.machine
    × (l.self-inside.mode ≡ l.fn.self.mode)
    × (l.self-inside.initial ≡ l.fn.self.initial)
    × IsUnderWay g.F.FnMut g.K.PartialEq.eq (hash_of g.K.Hash.hash_input g.S.BuildHasher.build_hasher g.S.Hasher.Hasher.write
    g.S.Hasher.Hasher.finish) (g.Q.Equivalent.matches l.key) l.hash l.fn.self l.fn.agrees l.self-inside.store l.agrees l.machine

-- the answers that are left to it
abbrev pub decreases-loop-ask : goal.decreases-loop-ask
decreases-loop-ask g l = left_of l.self-inside.store l.machine
