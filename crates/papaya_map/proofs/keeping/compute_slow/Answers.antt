use Rattle.std.proofs.Common.{◌∙◌}
use Rattle.papaya_map_change.specs.ClosureCalls.{Operates}
use Rattle.papaya_map_compute.proofs.Running.{answered_so, begins, can_reply, ends, goes_on, has_replied, heard_so, replied_by, shown_at, takes, tells}
use Rattle.papaya_map.proofs.keeping.compute_slow.Goals as goal

pub loop-init : goal.loop-init
loop-init g c = let a = c.args in let m = c.machine_of-computing in
    (begins (Operates g.F.FnMut) _ a.window.now a.f.now a.start c.requires.can _ _ m.ensures.looked m.ensures.starts, c.requires.callable)

pub machine_of-computing-requires-clause-can : goal.machine_of-computing-requires-clause-can
machine_of-computing-requires-clause-can g c = let way = c.requires.can in (way.1, way.0.sight.log, way.3.0, way.3.1)

pub turn-requires-clause-open : goal.turn-requires-clause-open
turn-requires-clause-open g c = rw c.loop.invariant.0.4.book c.requires.open

pub advance-requires-clause-can : goal.advance-requires-clause-can
advance-requires-clause-can g c =
    let a = c.args in let says = Operates g.F.FnMut in let r = c.loop.invariant.0 in let way = c.requires.can in let t = c.turn.new in
    let on = answered_so says _ a.window.now a.f.now a.start way _ _ c.loop.f r _ _ c.in-Answered.answer c.in-Answered.ensures.turned in
    takes says _ a.window.now a.f.now a.start way _ _ c.loop.f r t.window t.self c.loop.f c.in-Answered.answer on

pub loop-preserved-in-Answered : goal.loop-preserved-in-Answered
loop-preserved-in-Answered g c =
    let a = c.args in let says = Operates g.F.FnMut in let r = c.loop.invariant.0 in let way = c.requires.can in let t = c.turn.new in
    let turned = c.in-Answered.ensures.turned in
    let on = answered_so says _ a.window.now a.f.now a.start way _ _ c.loop.f r _ _ c.in-Answered.answer turned in (
      goes_on says _ a.window.now a.f.now a.start way _ _ c.loop.f r t.window t.self c.loop.f c.in-Answered.answer on turned.sees turned.machine
          turned.turns.1 _ _ c.advance.ensures.told,
      c.loop.invariant.1,
    )

pub advance-requires-in-CallsClosure-clause-can : goal.advance-requires-in-CallsClosure-clause-can
advance-requires-in-CallsClosure-clause-can g c =
    let a = c.args in let says = Operates g.F.FnMut in let r = c.loop.invariant.0 in let way = c.requires.can in let t = c.turn.new in
    let done = c.operate-operation in let heard = c.record_result-answer in
    let on = heard_so says _ a.window.now a.f.now a.start way _ _ c.loop.f r t.window t.self c.in-CallsClosure.shown c.in-CallsClosure.ensures.turned done.result
    done.new.f done.ensures.operates heard.new.self heard.result heard.ensures.hears in
    takes says _ a.window.now a.f.now a.start way _ _ c.loop.f r t.window heard.new.self done.new.f heard.result on

pub loop-preserved : goal.loop-preserved
loop-preserved g c =
    let a = c.args in let says = Operates g.F.FnMut in let r = c.loop.invariant.0 in let way = c.requires.can in let t = c.turn.new in
    let done = c.operate-operation in let heard = c.record_result-answer in let turned = c.in-CallsClosure.ensures.turned in
    let on = heard_so says _ a.window.now a.f.now a.start way _ _ c.loop.f r t.window t.self c.in-CallsClosure.shown turned done.result
    done.new.f done.ensures.operates heard.new.self heard.result heard.ensures.hears in (
      goes_on says _ a.window.now a.f.now a.start way _ _ c.loop.f r t.window heard.new.self done.new.f heard.result on turned.sees
          (heard.ensures.machine ∙ turned.machine) (shown_at _ _ _ _ _ turned heard.result (heard.ensures.hears t.window).0) _ _ c.advance-in-CallsClosure.ensures.told,
      done.ensures.callable,
    )

pub replied-requires-clause-can : goal.replied-requires-clause-can
replied-requires-clause-can g c = let a = c.args in
    can_reply (Operates g.F.FnMut) _ a.window.now a.f.now a.start c.requires.can _ _ c.loop.f c.loop.invariant.0 _ _ c.in-Replied.ensures.turned

pub replied-requires-clause-done : goal.replied-requires-clause-done
replied-requires-clause-done g c = let a = c.args in
    has_replied (Operates g.F.FnMut) _ a.window.now a.f.now a.start c.requires.can _ _ c.loop.f c.loop.invariant.0 _ _ c.in-Replied.ensures.turned

pub returns-in-Replied-clause-computed : goal.returns-in-Replied-clause-computed
returns-in-Replied-clause-computed g c = λ since key first way.
    let a = c.args in
    let u = replied_by (Operates g.F.FnMut) _ a.window.now a.f.now a.start c.requires.can _ _ c.loop.f c.loop.invariant.0 _ _ c.in-Replied.ensures.turned _
    c.replied.ensures.replied since key first way in
    record { said = u.0; left = c.loop.f; has_said = u.2; held = u.3.held; none_once = u.3.none_once; operated = u.3.operated }

pub returns-in-Replied-clause-ends : goal.returns-in-Replied-clause-ends
returns-in-Replied-clause-ends g c = let a = c.args in
    ends (Operates g.F.FnMut) _ a.window.now a.f.now a.start c.requires.can _ _ c.loop.f c.loop.invariant.0 _ _ c.in-Replied.ensures.turned _
    c.replied.ensures.replied

pub returns-in-Replied-clause-tells : goal.returns-in-Replied-clause-tells
returns-in-Replied-clause-tells g c = let a = c.args in
    rw c.again.ensures (tells (Operates g.F.FnMut) _ a.window.now a.f.now a.start c.requires.can _ _ c.loop.f c.loop.invariant.0 _ _
    c.in-Replied.ensures.turned _ c.replied.ensures.replied)
