use Rattle.papaya_run_lines.proofs.TurnLemmas.{no_command, none_call}
use Rattle.papaya_run_lines.proofs.turns.call_of.Goals as goal

pub returns-in_err-key : goal.returns-in_err-key
returns-in_err-key c = none_call c.args.text.now _ c.from_residual.ensures (no_command c.args.text.now c.in_err-key.ensures)
