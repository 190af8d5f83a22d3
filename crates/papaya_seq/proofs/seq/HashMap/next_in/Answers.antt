use Rattle.std.proofs.Common.{rules}
use Rattle.papaya_seq.proofs.WalkSteps.{stepped_here}
use Rattle.papaya_seq.proofs.seq.HashMap.next_in.Goals as goal

pub returns-then-is_some-clause-next : goal.returns-then-is_some-clause-next
returns-then-is_some-clause-next g c = stepped_here g.K.PartialEq.eq c.args.self.now.store c.args.at.now c.loop-at.at c.given-given.result
    c.loop-at.invariant.2 c.given-given.ensures (search rules)
