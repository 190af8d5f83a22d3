use Rattle.papaya_run_lines.specs.LineOutput.{no_calls}
use Rattle.papaya_run_lines.proofs.ToldLemmas.{SoFar}
use Rattle.papaya_run_lines.proofs.replies.print_trace.Given as goal

abbrev pub invariant-loop-turn : goal.invariant-loop-turn
invariant-loop-turn g l = SoFar l.core.store l.trace.entries.items l.lines no_calls l.calls.0 l.turn l.left (g.W.Write.contents l.fn.output)
    (g.W.Write.contents l.output)
