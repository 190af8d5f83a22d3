use Rattle.std.proofs.Common.{◌≡◌, ◌++◌}
use Rattle.papaya_run_lines.specs.Seq.{pairs_of}
use Rattle.papaya_run_lines.proofs.seq.walk.Given as goal

abbrev pub invariant-loop-key : goal.invariant-loop-key
invariant-loop-key g l = l.pairs.items ++ l.key-iterator ≡ pairs_of l.fn.map
