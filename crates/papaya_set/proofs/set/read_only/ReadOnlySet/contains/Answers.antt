use Rattle.std.proofs.Common.{subst}
use Rattle.papaya_map.specs.Frozen.{FindsKey, Frozen}
use Rattle.papaya_set.proofs.set.read_only.ReadOnlySet.contains.Goals as goal

pub returns : goal.returns
returns g c = subst (λ (z : Frozen _ _ _).
    FindsKey g.K.PartialEq.eq z.history (g.Q.Equivalent.matches c.args.key.now) c.contains_key.result) c.self.view_is c.contains_key.ensures
