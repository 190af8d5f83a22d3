use Rattle.std.proofs.Common.{reverse, length}
use Rattle.papaya_core_timeline.specs.Counted.{IsCounted}
use Rattle.papaya_words_keys.specs.Hashes.{hash_of}
use Rattle.papaya_core_timeline.specs.Runs.{TurnsRun}
use Rattle.papaya_core.proofs.schedule.Core.run.Given as goal

-- the turns so far were made, and the core is counted
abbrev pub invariant-loop-turn : goal.invariant-loop-turn
invariant-loop-turn g l = TurnsRun g.K.PartialEq.eq (record { op = g.A.Answers.op_gives; yes = g.A.Answers.yes_gives })
    (hash_of g.K.Hash.hash_input g.S.BuildHasher.build_hasher g.S.Hasher.Hasher.write g.S.Hasher.Hasher.finish) l.fn.schedule.items (length l.yielded)
    l.fn.self l.self (reverse l.entries.items) × IsCounted g.K.PartialEq.eq l.self.store l.self.callers
