use Rattle.std.proofs.Common.{refl}
use Rattle.papaya_map_change.proofs.driver.Driver.size.Goals as goal

pub returns : goal.returns
returns g c = record {
  size = (
    c.in-Some.table,
    c.size-len.result.0,
    c.size-len.result.1,
    c.in-Some.is,
    refl,
    c.size-len.ensures.len,
    c.size-len.ensures.limit,
    c.size-len.ensures.size,
  );
}
