use Rattle.std.proofs.Common.{refl}
use Rattle.papaya_map.proofs.map.HashMap.numbered.Goals as goal

pub new-requires : goal.new-requires
new-requires g c = rw c.unseen-sight.ensures.log tt

pub returns-clause-new : goal.returns-clause-new
returns-clause-new g c = rw c.new.ensures.history (rw c.unseen-sight.ensures.log refl)

pub returns-clause-tables : goal.returns-clause-tables
returns-clause-tables g c = rw c.new.ensures.tables (rw c.unseen-sight.ensures.log refl)
