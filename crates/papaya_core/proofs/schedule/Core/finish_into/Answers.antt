use Rattle.std.proofs.Common.{◌+◌, ◌-◌, reverse, sym, ◌∙◌, arith}
use Rattle.papaya_core_timeline.specs.Core.{work_of}
use Rattle.papaya_words_keys.specs.Hashes.{hash_of}
use Rattle.papaya_core_timeline.proofs.RunLemmas.{is_none, StepsRun-idle, StepsRun-more}
use Rattle.papaya_core.proofs.schedule.Core.finish_into.Goals as goal

pub returns-then-not-running-clause-ok : goal.returns-then-not-running-clause-ok
returns-then-not-running-clause-ok g c =
    StepsRun-idle g.K.PartialEq.eq (record { op = g.A.Answers.op_gives; yes = g.A.Answers.yes_gives })
    (hash_of g.K.Hash.hash_input g.S.BuildHasher.build_hasher g.S.Hasher.Hasher.write g.S.Hasher.Hasher.finish) c.args.turn c.args.caller
    c.loop-made._made (c.args.steps - c.loop-made._made) c.args.steps
    c.args.self.now (reverse c.args.entries.now.items) c.loop-made.self (reverse c.loop-made.entries.items) (omega arith)
    (is_none (work_of c.loop-made.self c.args.caller) (sym c.running.ensures.running ∙ c.if-not-running.true)) c.loop-made.invariant.0

pub loop-made-preserved : goal.loop-made-preserved
loop-made-preserved g c = (
  StepsRun-more g.K.PartialEq.eq (record { op = g.A.Answers.op_gives; yes = g.A.Answers.yes_gives })
      (hash_of g.K.Hash.hash_input g.S.BuildHasher.build_hasher g.S.Hasher.Hasher.write g.S.Hasher.Hasher.finish) c.args.turn c.args.caller
      c.loop-made._made (c.loop-made._made + 1)
      c.args.self.now (reverse c.args.entries.now.items) c.loop-made.self (reverse c.loop-made.entries.items) c.step_into.new.self
      (reverse c.step_into.new.entries.items) (omega arith)
      c.loop-made.invariant.0 c.in_ok-step_into.ensures.ok,
  λ counted. c.step_into.ensures.counted (c.loop-made.invariant.1 counted),
)
