use Rattle.std.proofs.Common.{◌≡◌, ◌++◌, ◌-◌, ◌≤◌, drop, length, take}
use Rattle.papaya_run_lines.specs.LineOutput.{behind, own_of}
use Rattle.papaya_run_lines.proofs.replies.split_turn.Given as goal

abbrev pub invariant-loop-count : goal.invariant-loop-count
invariant-loop-count l = (l.count ≤ length l.entries)
    × (own_of l.turn l.entries ≡ take l.count l.entries ++ own_of l.turn (drop l.count l.entries))
    × (behind l.turn l.entries ≡ behind l.turn (drop l.count l.entries))

abbrev pub decreases-loop-count : goal.decreases-loop-count
decreases-loop-count l = length l.entries - l.count
