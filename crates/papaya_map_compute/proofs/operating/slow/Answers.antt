use Rattle.std.proofs.Common.{◌∙◌}
use Rattle.papaya_map_compute.specs.Operating.{CallsClosure}
use Rattle.papaya_map_compute.proofs.Endings.{left_by}
use Rattle.papaya_map_compute.proofs.Running.{answered_so, begins, can_reply, ends, goes_on, has_replied, heard_so, replied_by, shown_at, takes, tells}
use Rattle.papaya_map_compute.proofs.operating.slow.Goals as goal

pub loop-init : goal.loop-init
loop-init g c = let a = c.args in let m = c.machine_of-computing in
    (begins (CallsClosure g.A.Operator.operates) _ a.window.now a.op.now a.start c.requires.can _ _ m.ensures.looked m.ensures.starts, c.requires.callable)

pub machine_of-computing-requires-clause-can : goal.machine_of-computing-requires-clause-can
machine_of-computing-requires-clause-can g c = let way = c.requires.can in (way.1, way.0.sight.log, way.3.0, way.3.1)

pub turn-requires-clause-open : goal.turn-requires-clause-open
turn-requires-clause-open g c = rw c.loop.invariant.0.4.book c.requires.open

pub advance-requires-clause-can : goal.advance-requires-clause-can
advance-requires-clause-can g c =
    let a = c.args in let says = CallsClosure g.A.Operator.operates in let r = c.loop.invariant.0 in let way = c.requires.can in let t = c.turn.new in
    let on = answered_so says _ a.window.now a.op.now a.start way _ _ c.loop.op r _ _ c.in-Answered.answer c.in-Answered.ensures.turned in
    takes says _ a.window.now a.op.now a.start way _ _ c.loop.op r t.window t.self c.loop.op c.in-Answered.answer on

pub loop-preserved-in-Answered : goal.loop-preserved-in-Answered
loop-preserved-in-Answered g c =
    let a = c.args in let says = CallsClosure g.A.Operator.operates in let r = c.loop.invariant.0 in let way = c.requires.can in let t = c.turn.new in
    let turned = c.in-Answered.ensures.turned in
    let on = answered_so says _ a.window.now a.op.now a.start way _ _ c.loop.op r _ _ c.in-Answered.answer turned in (
      goes_on says _ a.window.now a.op.now a.start way _ _ c.loop.op r t.window t.self c.loop.op c.in-Answered.answer on turned.sees turned.machine
          turned.turns.1 _ _ c.advance.ensures.told,
      c.loop.invariant.1,
    )

pub advance-requires-in-CallsClosure-clause-can : goal.advance-requires-in-CallsClosure-clause-can
advance-requires-in-CallsClosure-clause-can g c =
    let a = c.args in let says = CallsClosure g.A.Operator.operates in let r = c.loop.invariant.0 in let way = c.requires.can in let t = c.turn.new in
    let done = c.call_closure-operation in let heard = c.record_result-answer in
    let on = heard_so says _ a.window.now a.op.now a.start way _ _ c.loop.op r t.window t.self c.in-CallsClosure.shown c.in-CallsClosure.ensures.turned done.result
    done.new.op done.ensures.shows heard.new.self heard.result heard.ensures.hears in
    takes says _ a.window.now a.op.now a.start way _ _ c.loop.op r t.window heard.new.self done.new.op heard.result on

pub loop-preserved : goal.loop-preserved
loop-preserved g c =
    let a = c.args in let says = CallsClosure g.A.Operator.operates in let r = c.loop.invariant.0 in let way = c.requires.can in let t = c.turn.new in
    let done = c.call_closure-operation in let heard = c.record_result-answer in let turned = c.in-CallsClosure.ensures.turned in
    let on = heard_so says _ a.window.now a.op.now a.start way _ _ c.loop.op r t.window t.self c.in-CallsClosure.shown turned done.result
    done.new.op done.ensures.shows heard.new.self heard.result heard.ensures.hears in (
      goes_on says _ a.window.now a.op.now a.start way _ _ c.loop.op r t.window heard.new.self done.new.op heard.result on turned.sees
          (heard.ensures.machine ∙ turned.machine) (shown_at _ _ _ _ _ turned heard.result (heard.ensures.hears t.window).0) _ _ c.advance-in-CallsClosure.ensures.told,
      done.ensures.callable,
    )

pub left-requires : goal.left-requires
left-requires g c = let a = c.args in
    record { can = can_reply (CallsClosure g.A.Operator.operates) _ a.window.now a.op.now a.start c.requires.can _ _ c.loop.op c.loop.invariant.0 _ _ c.in-Replied.ensures.turned }

pub replied-answer-requires-clause-can : goal.replied-answer-requires-clause-can
replied-answer-requires-clause-can g c = let a = c.args in
    can_reply (CallsClosure g.A.Operator.operates) _ a.window.now a.op.now a.start c.requires.can _ _ c.loop.op c.loop.invariant.0 _ _ c.in-Replied.ensures.turned

pub replied-answer-requires-clause-done : goal.replied-answer-requires-clause-done
replied-answer-requires-clause-done g c = let a = c.args in
    has_replied (CallsClosure g.A.Operator.operates) _ a.window.now a.op.now a.start c.requires.can _ _ c.loop.op c.loop.invariant.0 _ _ c.in-Replied.ensures.turned

pub returns-in-Replied-clause-ended : goal.returns-in-Replied-clause-ended
returns-in-Replied-clause-ended g c = λ since key first way.
    let a = c.args in let says = CallsClosure g.A.Operator.operates in let h = c.replied-answer.ensures.replied in let x = c.turn.new.self in
    let u = replied_by says _ a.window.now a.op.now a.start c.requires.can _ _ c.loop.op c.loop.invariant.0 _ x c.in-Replied.ensures.turned _ h since key first way in
    record {
      heard = u.0;
      has_said = u.2;
      replied = u.3;
      is_left = λ with e.
          let ended = h.aborted with e in let b = u.1.1.aborts ended.0 ended.1 in
          left_by g.K.PartialEq.eq key _ _ says first c.loop.op u.0 x.shown x.fill b.0 b.2 b.3 _ c.left.ensures.current c.left.ensures.spare with e u.3;
    }

pub returns-in-Replied-clause-ends : goal.returns-in-Replied-clause-ends
returns-in-Replied-clause-ends g c = let a = c.args in
    ends (CallsClosure g.A.Operator.operates) _ a.window.now a.op.now a.start c.requires.can _ _ c.loop.op c.loop.invariant.0 _ _ c.in-Replied.ensures.turned _
    c.replied-answer.ensures.replied

pub returns-in-Replied-clause-tells : goal.returns-in-Replied-clause-tells
returns-in-Replied-clause-tells g c = let a = c.args in
    rw c.again.ensures (tells (CallsClosure g.A.Operator.operates) _ a.window.now a.op.now a.start c.requires.can _ _ c.loop.op c.loop.invariant.0 _ _
    c.in-Replied.ensures.turned _ c.replied-answer.ensures.replied)
