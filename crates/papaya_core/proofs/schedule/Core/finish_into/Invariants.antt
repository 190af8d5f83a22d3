use Rattle.std.proofs.Common.{reverse}
use Rattle.papaya_core_timeline.specs.Counted.{IsCounted}
use Rattle.papaya_words_keys.specs.Hashes.{hash_of}
use Rattle.papaya_core_timeline.specs.Runs.{StepsRun}
use Rattle.papaya_core.proofs.schedule.Core.finish_into.Given as goal

-- `made` steps were made, and the core is still counted
abbrev pub invariant-loop-made : goal.invariant-loop-made
invariant-loop-made g l = StepsRun g.K.PartialEq.eq (record { op = g.A.Answers.op_gives; yes = g.A.Answers.yes_gives })
    (hash_of g.K.Hash.hash_input g.S.BuildHasher.build_hasher g.S.Hasher.Hasher.write g.S.Hasher.Hasher.finish) l.turn l.caller l._made l.fn.self
    (reverse l.fn.entries.items) l.self (reverse l.entries.items)
    × (IsCounted g.K.PartialEq.eq l.fn.self.store l.fn.self.callers → IsCounted g.K.PartialEq.eq l.self.store l.self.callers)
