use Rattle.std.proofs.Common.{sym, ap}
use Rattle.papaya_map_compute.specs.Deciding.{outcome_of}
use Rattle.papaya_map_compute.proofs.deciding.outcome_by.Goals as goal

pub unreachable-requires : goal.unreachable-requires
unreachable-requires g c = c.requires c.in-Removed.field-0 c.in-Removed.field-1 c.in-Removed.is

pub returns-in-Inserted : goal.returns-in-Inserted
returns-in-Inserted g c = sym (ap (λ z. outcome_of z c.args.current c.args.spare) c.in-Inserted.is)

pub returns-in-Updated : goal.returns-in-Updated
returns-in-Updated g c = sym (ap (λ z. outcome_of z c.args.current c.args.spare) c.in-Updated.is)

pub returns-in-Aborted : goal.returns-in-Aborted
returns-in-Aborted g c = sym (ap (λ z. outcome_of z c.args.current c.args.spare) c.in-Aborted.is)
