use Rattle.std.proofs.Common.{refl}
use Rattle.papaya_map_change.proofs.fast_path.bury_met.Goals as goal

pub returns-clause-tried : goal.returns-clause-tried
returns-clause-tried g c = record {
  found = c.bury_slot-found.result.0;
  before = c.bury_slot-found.result.1;
  tried = c.bury_slot-found.ensures.tried;
  went_is = refl;
  same = c.bury_slot-found.ensures.same;
}
