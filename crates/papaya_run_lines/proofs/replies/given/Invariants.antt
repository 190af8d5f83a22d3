use Rattle.std.proofs.Common.{◌≡◌, ◌++◌, ◌≤◌, length, reverse}
use Rattle.papaya_run_lines.specs.LineOutput.{gave_to, pairs_in}
use Rattle.papaya_run_lines.proofs.replies.given.Given as goal

abbrev pub invariant-loop-left : goal.invariant-loop-left
invariant-loop-left g l = (length l.left ≤ length l.entries)
    × (pairs_in l.core.store (gave_to l.caller l.turn (reverse l.entries)) ≡ l.pairs.items ++ pairs_in l.core.store (gave_to l.caller l.turn (reverse l.left)))

abbrev pub decreases-loop-left : goal.decreases-loop-left
decreases-loop-left g l = length l.left
