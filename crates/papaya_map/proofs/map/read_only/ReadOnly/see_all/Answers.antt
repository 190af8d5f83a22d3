use Rattle.std.proofs.Common.{ap, ◌∙◌}
use Rattle.papaya_map.specs.Frozen.{Frozen}
use Rattle.papaya_map.proofs.Frozen.{same_history}
use Rattle.papaya_map.proofs.map.read_only.ReadOnly.see_all.Goals as goal

pub returns-clause-all : goal.returns-clause-all
returns-clause-all g c = same_history c.whole.new.seen.log c.self.inside.sight.log (c.whole.ensures.0 ∙ c.self.invariant.1)
    ∙ ap (λ (z : Frozen g.row.K.Denot g.row.V.Denot g.row.S.Denot). z.history) c.self.view_is
