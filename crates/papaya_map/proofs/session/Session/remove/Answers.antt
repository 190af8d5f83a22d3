use Rattle.std.proofs.Common.{subst}
use Rattle.papaya_map_change.specs.RemovalAnswers.{IsRemoved}
use Rattle.papaya_map.specs.Known.{Known}
use Rattle.papaya_map.proofs.session.Session.remove.Goals as goal

pub returns-clause-removed : goal.returns-clause-removed
returns-clause-removed g c = subst (λ (z : Known g.row.K.Denot g.row.V.Denot g.row.S.Denot).
    IsRemoved g.K.PartialEq.eq (g.Q.Equivalent.matches c.args.key.now) z.history c.remove_as.new.pass.history c.remove_as.result) c.self.view_is
    c.remove_as.ensures.removed
