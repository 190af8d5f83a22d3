use Rattle.std.proofs.Common.{◌+◌, ◌∙◌, List, ap, drop_of_length-le, slice_index_or, subst, sym}
use Rattle.papaya_core_timeline.specs.declared.trace.Entry.{Entry}
use Rattle.papaya_run_lines.specs.LineOutput.{call_of, no_calls, own_of, reply_among, with_call}
use Rattle.papaya_run_lines.specs.declared.script.Line.{Line}
use Rattle.papaya_run_lines.specs.declared.script.LinePart.{LinePart}
use Rattle.papaya_run_lines.specs.declared.script.LinePart.TheVariants.{Update}
use Rattle.papaya_run_lines.proofs.ToldLemmas.{SoFar, all_told, is_none, is_some, line_at, none_told, one_told, passed_told, told_so}
use Rattle.papaya_run_lines.proofs.WriteLemmas.{appends_none, keeps_same}
use Rattle.papaya_run_lines.proofs.replies.print_trace.Goals as goal

pub loop-turn-init : goal.loop-turn-init
loop-turn-init g c =
    let old = g.W.Write.contents c.args.output.now in
    let trace = c.args.trace.now.entries.items in
    subst (λ (l : List Entry). SoFar c.args.core.now.store trace c.args.lines.now no_calls no_calls 0 l old old)
    (sym c.as_slice-entries.ensures.value) (none_told c.args.core.now.store trace c.args.lines.now no_calls old (appends_none old old (keeps_same old)))

pub returns-then-is_empty-clause-told : goal.returns-then-is_empty-clause-told
returns-then-is_empty-clause-told g c =
    let store = c.args.core.now.store in
    let trace = c.args.trace.now.entries.items in
    let turn = c.loop-turn.turn in
    let left = c.loop-turn.left.now in
    passed_told store trace c.args.lines.now no_calls c.loop-turn.calls.0 turn left (g.W.Write.contents c.args.output.now)
    (g.W.Write.contents c.loop-turn.output) _ c.loop-turn.invariant
    (line_at c.args.lines.now turn _ c.loop-turn-test.true)
    (sym c.split_turn.ensures.own ∙ is_none c.split_turn.result.0.now c.is_empty.result c.is_empty.ensures c.if-is_empty.true)

pub loop-turn-preserved : goal.loop-turn-preserved
loop-turn-preserved g c =
    let store = c.args.core.now.store in
    let trace = c.args.trace.now.entries.items in
    let turn = c.loop-turn.turn in
    let left = c.loop-turn.left.now in
    let first = g.W.Write.contents c.args.output.now in
    let now = g.W.Write.contents c.loop-turn.output in
    let next = g.W.Write.contents c.print_line.new.output in
    let line : Line = slice_index_or c.args.lines.now turn (record { number = 0; caller = 0; part = Update }) in
    let told = c.in_ok-print_line.ensures.told in
    let reply = c.reply_of.ensures ∙ ap reply_among c.split_turn.ensures.own in
    subst (λ (cs : List LinePart). SoFar store trace c.args.lines.now no_calls cs (turn + 1) c.split_turn.result.1.now first next) (sym c.note-call.ensures.calls)
    (subst (λ (l : List Entry). SoFar store trace c.args.lines.now no_calls (with_call c.loop-turn.calls.0 line) (turn + 1) l first next)
    (sym c.split_turn.ensures.behind)
    (one_told store trace c.args.lines.now no_calls c.loop-turn.calls.0 turn left first now next line told.0 c.loop-turn.invariant
    (line_at c.args.lines.now turn _ c.loop-turn-test.true)
    (λ empty. is_some c.split_turn.result.0.now c.is_empty.result c.is_empty.ensures c.if-is_empty.false (c.split_turn.ensures.own ∙ empty))
    (told_so store trace c.args.lines.now line turn c.note-call.result (call_of c.loop-turn.calls.0 line) c.as_slice-entries.result.now
    c.reply_of.result (reply_among (own_of turn left)) told.0
    c.note-call.ensures.call c.as_slice-entries.ensures.value reply told.1)
    told.2))

pub returns-clause-told : goal.returns-clause-told
returns-clause-told g c =
    all_told c.args.core.now.store c.args.trace.now.entries.items c.args.lines.now no_calls c.loop-turn.calls.0 c.loop-turn.turn c.loop-turn.left.now
    (g.W.Write.contents c.args.output.now) (g.W.Write.contents c.loop-turn.output)
    c.loop-turn.invariant (drop_of_length-le c.args.lines.now c.loop-turn-test.false)
