use Rattle.std.proofs.Common.{ap, option_map, sym}
use Rattle.papaya_run_lines.specs.Replied.{of_lookup}
use Rattle.papaya_run_lines.proofs.shared.Caller.look_up.Goals as goal

pub returns-in-Some-clause-done : goal.returns-in-Some-clause-done
returns-in-Some-clause-done g c = (
  c.get.result,
  sym (ap (λ r. of_lookup (option_map (λ v. v.now) r)) c.in-Some.is),
  c.get.ensures.answered,
  c.get.ensures.made,
)

pub returns-in-None-clause-done : goal.returns-in-None-clause-done
returns-in-None-clause-done g c = (
  c.get.result,
  sym (ap (λ r. of_lookup (option_map (λ v. v.now) r)) c.in-None.is),
  c.get.ensures.answered,
  c.get.ensures.made,
)
