use Rattle.std.proofs.Common.{IfSome}
use Rattle.papaya_run_lines.proofs.ScriptLemmas.{SoFar}
use Rattle.papaya_run_lines.proofs.script.Script.read.Given as goal

abbrev pub invariant-loop-number : goal.invariant-loop-number
invariant-loop-number g l = IfSome (g.R.Read.remaining l.fn.input) (SoFar l.script l.number (g.R.Read.remaining l.input))
