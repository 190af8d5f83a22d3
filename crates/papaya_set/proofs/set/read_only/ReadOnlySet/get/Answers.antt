use Rattle.std.proofs.Common.{Some, subst}
use Rattle.papaya_map.specs.Frozen.{FindsStored, Frozen}
use Rattle.papaya_set.proofs.set.read_only.ReadOnlySet.get.Goals as goal

pub returns-in-Some : goal.returns-in-Some
returns-in-Some g c = let found = c.in-Some.ensures in
    subst (λ (z : Frozen _ _ _). FindsStored {V = Unit {0}} g.K.PartialEq.eq z.history (g.Q.Equivalent.matches c.args.key.now) (Some c.in-Some.stored))
    c.self.view_is (found.0, found.1, found.2, found.3.0)
