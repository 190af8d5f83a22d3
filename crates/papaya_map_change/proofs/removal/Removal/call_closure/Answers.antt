use Rattle.std.proofs.Common.{Some, refl, ap}
use Rattle.papaya_map_change.proofs.removal.Removal.call_closure.Goals as goal

pub returns-clause-shows : goal.returns-clause-shows
returns-clause-shows g c = (
  c.in-Some.last,
  c.agrees-agreed.result,
  c.in-Some.is,
  (c.entry.result.0, c.entry.result.1, c.entry.ensures, c.agrees-agreed.ensures),
  ap (λ o. record c.args.self.now { shown = Some o }) c.again.ensures,
  refl,
)
