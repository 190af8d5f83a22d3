use Rattle.std.proofs.Common.{◌≡◌, Some, Ok, refl, sym, ap, ◌∙◌, subst, Err}
use Rattle.papaya_words.specs.declared.refused.Refused.TheVariants.{Capacity}
use Rattle.papaya_map_compute.specs.declared.rules.Ready.{Ready}
use Rattle.papaya_map.specs.Storing.{IsCurrent}
use Rattle.papaya_map.proofs.Ruled.{back_is, give_back, give_current, give_put, give_replaced, spare_there}
use Rattle.papaya_map.proofs.session.Session.try_insert.Goals as goal

pub returns-in-Ok-Put-clause-tried : goal.returns-in-Ok-Put-clause-tried
returns-in-Ok-Put-clause-tried g c = let at = c.in-Ok-Put in
    give_put g.row.K.Denot {G = Ready g.row.V.Denot} (λ z v. v ≡ z.value) g.K.PartialEq.eq c.args.key c.args.self.now.history
    c.decide.new.self.history (record { supply = Some (record { value = c.args.value }) }) c.decide.new.rule (record { value = c.args.value })
    refl c.decide.result c.decide.ensures.decided at.stored (at.is ∙ ap (λ z. Ok z) at.field-0-is)

pub not_inserted-requires : goal.not_inserted-requires
not_inserted-requires g c = let at = c.in-Ok-Left-Some-default in
    spare_there c.args.value c.decide.new.rule.supply at.spare
    (give_back g.row.K.Denot {G = Ready g.row.V.Denot} (λ z v. v ≡ z.value) g.K.PartialEq.eq c.args.key c.args.self.now.history
    c.decide.new.self.history (record { supply = Some (record { value = c.args.value }) }) c.decide.new.rule (record { value = c.args.value })
    refl c.decide.result c.decide.ensures.decided at.field-0-0 at.spare (at.is ∙ ap (λ z. Ok z) at.field-0-is))

pub returns-in-Ok-Left-Some-default-clause-tried : goal.returns-in-Ok-Left-Some-default-clause-tried
returns-in-Ok-Left-Some-default-clause-tried g c =
    let at = c.in-Ok-Left-Some-default in
    let there = give_current g.row.K.Denot {G = Ready g.row.V.Denot} (λ z v. v ≡ z.value) g.K.PartialEq.eq c.args.key c.args.self.now.history
    c.decide.new.self.history (record { supply = Some (record { value = c.args.value }) }) c.decide.new.rule (record { value = c.args.value })
    refl c.decide.result c.decide.ensures.decided at.field-0-0 at.spare (at.is ∙ ap (λ z. Ok z) at.field-0-is) in
    let back = give_back g.row.K.Denot {G = Ready g.row.V.Denot} (λ z v. v ≡ z.value) g.K.PartialEq.eq c.args.key c.args.self.now.history
    c.decide.new.self.history (record { supply = Some (record { value = c.args.value }) }) c.decide.new.rule (record { value = c.args.value })
    refl c.decide.result c.decide.ensures.decided at.field-0-0 at.spare (at.is ∙ ap (λ z. Ok z) at.field-0-is) in
    let one : there.0 ≡ at.current = let e = sym there.1 ∙ at.field-0-0-is in cc e in (
      subst (IsCurrent g.K.PartialEq.eq c.args.key c.args.self.now.history c.decide.new.self.history) one there.2,
      back_is c.args.value
          c.decide.new.rule.supply at.spare back c.not_inserted.result c.not_inserted.ensures,
    )

pub unreachable-requires : goal.unreachable-requires
unreachable-requires g c = let at = c.in-Ok-Left-None-default in
    let there = give_current g.row.K.Denot {G = Ready g.row.V.Denot} (λ z v. v ≡ z.value) g.K.PartialEq.eq c.args.key c.args.self.now.history
    c.decide.new.self.history (record { supply = Some (record { value = c.args.value }) }) c.decide.new.rule (record { value = c.args.value })
    refl c.decide.result c.decide.ensures.decided at.field-0-0 at.field-0-1 (at.is ∙ ap (λ z. Ok z) at.field-0-is) in
    let e = sym there.1 ∙ at.field-0-0-is in cc e

pub unreachable-requires-in-Ok-Replaced : goal.unreachable-requires-in-Ok-Replaced
unreachable-requires-in-Ok-Replaced g c = let at = c.in-Ok-Replaced in
    give_replaced g.row.K.Denot {G = Ready g.row.V.Denot} (λ z v. v ≡ z.value) g.K.PartialEq.eq c.args.key c.args.self.now.history
    c.decide.new.self.history (record { supply = Some (record { value = c.args.value }) }) c.decide.new.rule (record { value = c.args.value })
    refl c.decide.result c.decide.ensures.decided at.field-0-0 (at.is ∙ ap (λ z. Ok z) at.field-0-is)

pub returns-clause-crowded : goal.returns-clause-crowded
returns-clause-crowded g c = λ e.
    let full : c.in-Err.refused ≡ Capacity = cc e in
    c.decide.ensures.crowded (c.in-Err.is ∙ ap (λ cause. Err cause) full)
