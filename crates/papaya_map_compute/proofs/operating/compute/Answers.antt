use Rattle.std.proofs.Common.{refl, ◌∙◌}
use Rattle.papaya_map_lookup.proofs.Histories.{history_since}
use Rattle.papaya_map_compute.specs.ComputeAnswers.{changes}
use Rattle.papaya_map_compute.specs.Operating.{CallsClosure}
use Rattle.papaya_map_compute.proofs.Endings.{ended_since}
use Rattle.papaya_map_compute.proofs.FastPath.{on_ends, on_starts, over_ends, over_right, over_tells}
use Rattle.papaya_map_compute.proofs.operating.compute.Goals as goal

pub returns-in-Over-clause-ended : goal.returns-in-Over-clause-ended
returns-in-Over-clause-ended g c = let l = c.learn.ensures in let a = c.args in let at = c.fast-first in
    ended_since g.K.PartialEq.eq a.key _ _ _ (CallsClosure g.A.Operator.operates) a.op.now at.new.op _ (history_since a.window.now.sight.log _ l.sees.log)
    (over_right changes a.window.now c.learn.new.self at.new.window l.sees _ _ _ at.ensures.comes c.in-Over.answer c.in-Over.is)

pub slow-answer-requires : goal.slow-answer-requires
slow-answer-requires g c = let l = c.learn.ensures in let a = c.args in let at = c.fast-first in λ k. (
  (refl, tt),
  (
    at.ensures.callable,
    (
      c.requires.initial,
      (
        rw (at.ensures.comes.sees.book ∙ l.sees.book) c.requires.open,
        (
          c.learn.new.self,
          a.key,
          a.op.now,
          on_starts changes a.window.now c.learn.new.self at.new.window l.sees _ _ _ at.ensures.comes c.in-On.start c.in-On.is,
        ),
      ),
    ),
  ),
)

pub returns-in-On-clause-ended : goal.returns-in-On-clause-ended
returns-in-On-clause-ended g c = let l = c.learn.ensures in let a = c.args in let at = c.fast-first in
    ended_since g.K.PartialEq.eq a.key _ _ _ (CallsClosure g.A.Operator.operates) a.op.now c.slow-answer.new.op _ (history_since a.window.now.sight.log _ l.sees.log)
    (c.slow-answer.ensures.ended c.learn.new.self a.key a.op.now
    (on_starts changes a.window.now c.learn.new.self at.new.window l.sees _ _ _ at.ensures.comes c.in-On.start c.in-On.is))

pub returns-in-Over-clause-ends : goal.returns-in-Over-clause-ends
returns-in-Over-clause-ends g c = let l = c.learn.ensures in let at = c.fast-first in
    over_ends changes c.args.window.now c.learn.new.self at.new.window l.sees _ _ _ at.ensures.comes c.in-Over.answer c.in-Over.is

pub returns-in-Over-clause-tells : goal.returns-in-Over-clause-tells
returns-in-Over-clause-tells g c = let l = c.learn.ensures in let at = c.fast-first in
    over_tells changes c.args.window.now c.learn.new.self at.new.window l.sees _ _ _ at.ensures.comes c.in-Over.answer c.in-Over.is _ _

pub returns-in-On-clause-ends : goal.returns-in-On-clause-ends
returns-in-On-clause-ends g c = let l = c.learn.ensures in let at = c.fast-first in
    on_ends changes c.args.window.now c.learn.new.self at.new.window l.sees _ _ _ at.ensures.comes c.in-On.start c.in-On.is _ _ c.slow-answer.ensures.ends
