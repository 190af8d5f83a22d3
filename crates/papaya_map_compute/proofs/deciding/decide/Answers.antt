use Rattle.std.proofs.Common.{refl, ◌∙◌}
use Rattle.papaya_map_lookup.proofs.Histories.{history_since}
use Rattle.papaya_map_compute.specs.Deciding.{puts}
use Rattle.papaya_map_compute.proofs.DoneBy.{decided_since}
use Rattle.papaya_map_compute.proofs.FastPath.{on_ends, on_starts, over_ends, over_right, over_tells}
use Rattle.papaya_map_compute.proofs.deciding.decide.Goals as goal

pub returns-in-Over-clause-decided : goal.returns-in-Over-clause-decided
returns-in-Over-clause-decided g c = let l = c.learn.ensures in let a = c.args in let at = c.decide_fast in
    decided_since g.K.PartialEq.eq a.key _ _ _ (history_since a.window.now.sight.log _ l.sees.log) g.D.Rule.decides a.rule.now at.new.rule c.in-Over.answer
    (over_right puts a.window.now c.learn.new.self at.new.window l.sees _ _ _ at.ensures.comes c.in-Over.answer c.in-Over.is)

pub returns-in-Over-clause-ends : goal.returns-in-Over-clause-ends
returns-in-Over-clause-ends g c = let l = c.learn.ensures in let at = c.decide_fast in
    over_ends puts c.args.window.now c.learn.new.self at.new.window l.sees _ _ _ at.ensures.comes c.in-Over.answer c.in-Over.is

pub returns-in-Over-clause-tells : goal.returns-in-Over-clause-tells
returns-in-Over-clause-tells g c = let l = c.learn.ensures in let at = c.decide_fast in
    over_tells puts c.args.window.now c.learn.new.self at.new.window l.sees _ _ _ at.ensures.comes c.in-Over.answer c.in-Over.is _ _

pub decide_fast-requires-clause-open : goal.decide_fast-requires-clause-open
decide_fast-requires-clause-open g c = rw c.learn.ensures.sees.book c.requires.open

pub decide_slow-requires-clause-open : goal.decide_slow-requires-clause-open
decide_slow-requires-clause-open g c = rw (c.decide_fast.ensures.comes.sees.book ∙ c.learn.ensures.sees.book) c.requires.open

pub decide_slow-requires-clause-can : goal.decide_slow-requires-clause-can
decide_slow-requires-clause-can g c = let l = c.learn.ensures in let a = c.args in let at = c.decide_fast in (
  c.learn.new.self,
  a.key,
  a.rule.now,
  on_starts puts a.window.now c.learn.new.self at.new.window l.sees _ _ _ at.ensures.comes c.in-On.start c.in-On.is,
)

pub returns-in-On-clause-ends : goal.returns-in-On-clause-ends
returns-in-On-clause-ends g c = let l = c.learn.ensures in let at = c.decide_fast in
    on_ends puts c.args.window.now c.learn.new.self at.new.window l.sees _ _ _ at.ensures.comes c.in-On.start c.in-On.is _ _ c.decide_slow.ensures.ends

pub returns-in-On-clause-decided : goal.returns-in-On-clause-decided
returns-in-On-clause-decided g c = let l = c.learn.ensures in let a = c.args in let at = c.decide_fast in
    decided_since g.K.PartialEq.eq a.key _ _ _ (history_since a.window.now.sight.log _ l.sees.log) g.D.Rule.decides a.rule.now c.decide_slow.new.rule
    c.decide_slow.result (c.decide_slow.ensures.decided c.learn.new.self a.key a.rule.now
    (on_starts puts a.window.now c.learn.new.self at.new.window l.sees _ _ _ at.ensures.comes c.in-On.start c.in-On.is))
