use Rattle.std.proofs.Common.{IfSome}
use Rattle.std.specs.Io.Buffered.{reader_remaining}
use Rattle.std.specs.Io.KnownBytes.{Appends}
use Rattle.papaya_run_lines.proofs.RunLemmas.{SoFar}
use Rattle.papaya_run_lines.proofs.line_by_line.obey_lines.Given as goal

abbrev pub invariant-loop-number : goal.invariant-loop-number
invariant-loop-number g l = IfSome (reader_remaining g.R.Read.remaining l.fn.reader)
    (SoFar g.B.Obey.does l.fn.backend l.backend (Appends (g.W.Write.contents l.fn.output) (g.W.Write.contents l.output)) l.number
    (reader_remaining g.R.Read.remaining l.reader))
