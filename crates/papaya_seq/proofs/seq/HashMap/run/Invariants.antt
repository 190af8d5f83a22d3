use Rattle.std.proofs.Common.{◌≡◌, ◌≤◌, length, vec_len, vec_capacity}
use Rattle.papaya_words_keys.specs.Hashes.{hash_of}
use Rattle.papaya_seq.specs.Calls.{AreCalled}
use Rattle.papaya_seq.proofs.seq.HashMap.run.Given as goal

-- the calls so far were made, each with its outcome, and there is room for all outcomes
abbrev pub invariant-loop-call : goal.invariant-loop-call
invariant-loop-call g l =
    AreCalled g.K.PartialEq.eq (hash_of g.K.Hash.hash_input g.S.BuildHasher.build_hasher g.S.Hasher.Hasher.write g.S.Hasher.Hasher.finish) (record { op = g.A.Answers.op_gives; yes = g.A.Answers.yes_gives }) l.fn.self l.yielded l.outcomes.items l.self
    × (length l.outcomes.items ≡ length l.yielded)
    × (vec_len l.fn.calls ≤ vec_capacity l.outcomes)
