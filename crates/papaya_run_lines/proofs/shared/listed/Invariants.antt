use Rattle.papaya_run_lines.proofs.WalkLemmas.{HasGiven}
use Rattle.papaya_run_lines.proofs.shared.listed.Given as goal

abbrev pub invariant-loop-key : goal.invariant-loop-key
invariant-loop-key g l = HasGiven l.fn.pairs l.listed.items l.pairs
