use Rattle.std.proofs.Common.{subst}
use Rattle.papaya_seq.specs.Lengths.{IsLongEnough}
use Rattle.papaya_seq.specs.Map.{MapState}
use Rattle.papaya_seq.proofs.CallLengths.{root_long}
use Rattle.papaya_seq.proofs.seq.HashMap.slots.Goals as goal

pub returns-clause-long : goal.returns-clause-long
returns-clause-long g c = root_long c.args.self.now.initial c.args.self.now.store.words
    (subst (λ (s : MapState _ _ _). IsLongEnough s.initial s.store.words) c.self.view_is c.self.invariant.long)
