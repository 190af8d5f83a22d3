use Rattle.std.proofs.Common.{ap, sym}
use Rattle.papaya_run_lines.specs.Replied.{of_end}
use Rattle.papaya_run_lines.proofs.shared.Caller.clear.Goals as goal

pub returns-in-Ok-clause-done : goal.returns-in-Ok-clause-done
returns-in-Ok-clause-done g c =
    (c.clear.result, sym (ap of_end c.in-Ok.is), c.clear.ensures.cleared, c.clear.ensures.refused, c.clear.ensures.made)

pub returns-in-Err-clause-done : goal.returns-in-Err-clause-done
returns-in-Err-clause-done g c =
    (c.clear.result, sym (ap of_end c.in-Err.is), c.clear.ensures.cleared, c.clear.ensures.refused, c.clear.ensures.made)
