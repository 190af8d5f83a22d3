use Rattle.std.proofs.Common.{Some, Ok, inl, inr, refl, ap, ◌∙◌, ◌≡◌, Err}
use Rattle.papaya_words.specs.declared.refused.Refused.TheVariants.{Capacity}
use Rattle.std.specs.Fn.{FnReturnsAt}
use Rattle.papaya_map.proofs.Ruled.{upsert_left, upsert_put, upsert_replaced}
use Rattle.papaya_map.proofs.session.Session.upsert.Goals as goal

pub returns-in-Ok-Replaced-clause-upserted : goal.returns-in-Ok-Replaced-clause-upserted
returns-in-Ok-Replaced-clause-upserted g c = let at = c.in-Ok-Replaced in
    inl (upsert_replaced g.row.K.Denot (FnReturnsAt g.F.Fn) g.G.Supply.gives g.K.PartialEq.eq c.args.key c.args.self.now.history
    c.decide.new.self.history (record { update = c.args.update; supply = Some c.args.supply }) c.decide.new.rule c.args.supply refl
    c.decide.result c.decide.ensures.decided at.value (at.is ∙ ap (λ z. Ok z) at.field-0-is))

pub returns-in-Ok-Put-clause-upserted : goal.returns-in-Ok-Put-clause-upserted
returns-in-Ok-Put-clause-upserted g c = let at = c.in-Ok-Put in
    inr (upsert_put g.row.K.Denot (FnReturnsAt g.F.Fn) g.G.Supply.gives g.K.PartialEq.eq c.args.key c.args.self.now.history
    c.decide.new.self.history (record { update = c.args.update; supply = Some c.args.supply }) c.decide.new.rule c.args.supply refl
    c.decide.result c.decide.ensures.decided at.value (at.is ∙ ap (λ z. Ok z) at.field-0-is))

pub unreachable-requires : goal.unreachable-requires
unreachable-requires g c = let at = c.in-Ok-Left in
    upsert_left g.row.K.Denot (FnReturnsAt g.F.Fn) g.G.Supply.gives g.K.PartialEq.eq c.args.key c.args.self.now.history c.decide.new.self.history
    (record { update = c.args.update; supply = Some c.args.supply }) c.decide.new.rule c.args.supply refl c.decide.result
    c.decide.ensures.decided at.field-0-0 at.field-0-1 (at.is ∙ ap (λ z. Ok z) at.field-0-is)

pub returns-clause-crowded : goal.returns-clause-crowded
returns-clause-crowded g c = λ e.
    let full : c.in-Err.refused ≡ Capacity = cc e in
    c.decide.ensures.crowded (c.in-Err.is ∙ ap (λ cause. Err cause) full)
