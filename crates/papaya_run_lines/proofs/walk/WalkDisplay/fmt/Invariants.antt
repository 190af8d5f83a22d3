use Rattle.std.proofs.Common.{take}
use Rattle.std.specs.Fmt.{HasWritten, IsPlainFormatter}
use Rattle.papaya_run_lines.specs.Walk.{pairs_text}
use Rattle.papaya_run_lines.proofs.walk.WalkDisplay.fmt.Given as goal

abbrev pub invariant-loop-key : goal.invariant-loop-key
invariant-loop-key g l = IsPlainFormatter l.fn.f → HasWritten g.W.Write.write_str_gives l.fn.f (pairs_text (take l.key-index l.key-items)) l.f
