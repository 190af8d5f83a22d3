use Rattle.std.proofs.Common.{◌≡◌, drop}
use Rattle.papaya_run_lines.specs.LineOutput.{reply_among}
use Rattle.papaya_run_lines.proofs.replies.reply_of.Given as goal

abbrev pub invariant-loop-entry : goal.invariant-loop-entry
invariant-loop-entry l = reply_among l.entries ≡ reply_among (drop l.entry-index l.entries)
