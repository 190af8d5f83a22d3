use Rattle.std.proofs.Common.{refl, ◌∙◌}
use Rattle.papaya_map_change.specs.ClosureCalls.{Operates}
use Rattle.papaya_map_lookup.proofs.Histories.{history_since}
use Rattle.papaya_map_compute.specs.ComputeAnswers.{changes}
use Rattle.papaya_map_compute.proofs.ComputeReplies.{computed_since}
use Rattle.papaya_map_compute.proofs.FastPath.{on_ends, on_starts, over_ends, over_right, over_tells}
use Rattle.papaya_map.proofs.keeping.compute.Goals as goal

pub returns-in-Over-clause-computed : goal.returns-in-Over-clause-computed
returns-in-Over-clause-computed g c = let l = c.learn.ensures in let a = c.args in let at = c.compute_fast in
    computed_since g.K.PartialEq.eq a.key _ _ _ (history_since a.window.now.sight.log _ l.sees.log) (Operates g.F.FnMut) a.f _
    (over_right changes a.window.now c.learn.new.self at.new.window l.sees _ _ _ at.ensures.comes c.in-Over.answer c.in-Over.is)

pub compute_slow-requires : goal.compute_slow-requires
compute_slow-requires g c = let l = c.learn.ensures in let a = c.args in let at = c.compute_fast in λ k. (
  (refl, tt),
  (
    at.ensures.callable,
    (
      rw (at.ensures.comes.sees.book ∙ l.sees.book) c.requires.open,
      (
        c.requires.initial,
        (
          c.learn.new.self,
          a.key,
          a.f,
          on_starts changes a.window.now c.learn.new.self at.new.window l.sees _ _ _ at.ensures.comes c.in-On.start c.in-On.is,
        ),
      ),
    ),
  ),
)

pub returns-clause-computed : goal.returns-clause-computed
returns-clause-computed g c = let l = c.learn.ensures in let a = c.args in let at = c.compute_fast in
    computed_since g.K.PartialEq.eq a.key _ _ _ (history_since a.window.now.sight.log _ l.sees.log) (Operates g.F.FnMut) a.f _
    (c.compute_slow.ensures.computed c.learn.new.self a.key a.f
    (on_starts changes a.window.now c.learn.new.self at.new.window l.sees _ _ _ at.ensures.comes c.in-On.start c.in-On.is))

pub returns-in-Over-clause-ends : goal.returns-in-Over-clause-ends
returns-in-Over-clause-ends g c = let l = c.learn.ensures in let at = c.compute_fast in
    over_ends changes c.args.window.now c.learn.new.self at.new.window l.sees _ _ _ at.ensures.comes c.in-Over.answer c.in-Over.is

pub returns-in-Over-clause-tells : goal.returns-in-Over-clause-tells
returns-in-Over-clause-tells g c = let l = c.learn.ensures in let at = c.compute_fast in
    over_tells changes c.args.window.now c.learn.new.self at.new.window l.sees _ _ _ at.ensures.comes c.in-Over.answer c.in-Over.is _ _

pub returns-clause-ends : goal.returns-clause-ends
returns-clause-ends g c = let l = c.learn.ensures in let at = c.compute_fast in
    on_ends changes c.args.window.now c.learn.new.self at.new.window l.sees _ _ _ at.ensures.comes c.in-On.start c.in-On.is _ _ c.compute_slow.ensures.ends
