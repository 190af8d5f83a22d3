use Rattle.std.proofs.Common.{refl, lit<, lit≤}
use Rattle.papaya_call.proofs.machine.Machine.ask.Goals as goal

-- the first table has 32 slots, a power of two
pub returns-in-Making-clause-size : goal.returns-in-Making-clause-size
returns-in-Making-clause-size c = record { power = (5, refl); most = lit≤ tt; few = lit< tt }
