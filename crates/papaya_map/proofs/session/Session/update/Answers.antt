use Rattle.std.proofs.Common.{Ok, ap, ◌∙◌, ◌≡◌, Err}
use Rattle.papaya_words.specs.declared.refused.Refused.TheVariants.{Capacity}
use Rattle.std.specs.Fn.{FnReturnsAt}
use Rattle.papaya_map.proofs.Ruled.{update_put, update_replaced}
use Rattle.papaya_map.proofs.session.Session.update.Goals as goal

pub returns-in-Ok-Replaced-clause-updated : goal.returns-in-Ok-Replaced-clause-updated
returns-in-Ok-Replaced-clause-updated g c = let at = c.in-Ok-Replaced in
    update_replaced g.row.K.Denot (FnReturnsAt g.F.Fn) g.K.PartialEq.eq c.args.key c.args.self.now.history c.decide.new.self.history
    (record { update = c.args.f }) c.decide.new.rule c.decide.result c.decide.ensures.decided at.value (at.is ∙ ap (λ z. Ok z) at.field-0-is)

pub unreachable-requires : goal.unreachable-requires
unreachable-requires g c = let at = c.in-Ok-Put in
    update_put g.row.K.Denot (FnReturnsAt g.F.Fn) g.K.PartialEq.eq c.args.key c.args.self.now.history c.decide.new.self.history
    (record { update = c.args.f }) c.decide.new.rule c.decide.result c.decide.ensures.decided at.field-0-0 (at.is ∙ ap (λ z. Ok z) at.field-0-is)

pub returns-clause-crowded : goal.returns-clause-crowded
returns-clause-crowded g c = λ e.
    let full : c.in-Err.refused ≡ Capacity = cc e in
    c.decide.ensures.crowded (c.in-Err.is ∙ ap (λ cause. Err cause) full)
