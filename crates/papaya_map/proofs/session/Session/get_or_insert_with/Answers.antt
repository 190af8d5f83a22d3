use Rattle.std.proofs.Common.{◌≡◌, Ok, Err, inl, inr, ap, ◌∙◌, subst}
use Rattle.std.specs.Prelude.{IfOk}
use Rattle.papaya_words.specs.declared.refused.Refused.TheVariants.{Capacity}
use Rattle.papaya_map_lookup.specs.History.{Makes}
use Rattle.papaya_map.specs.Storing.{IsTriedWith, stored}
use Rattle.papaya_map.proofs.session.Session.get_or_insert_with.Goals as goal

pub returns-in-Ok-Ok-clause-there : goal.returns-in-Ok-Ok-clause-there
returns-in-Ok-Ok-clause-there g c =
    let at = c.in-Ok-Ok in
    let is : c.try_insert_with.result ≡ Ok (Ok at.stored) = at.is ∙ ap (λ z. Ok z) at.field-0-is in
    inl (
      subst (λ r. IfOk r (IsTriedWith g.K.PartialEq.eq c.args.key c.args.self.now.history c.try_insert_with.new.self.history
          (goal.F-post g c.args.f))) is c.try_insert_with.ensures.tried,
      subst (λ r. Makes (stored r) c.args.self.now.made c.try_insert_with.new.self.made c.try_insert_with.new.self.history) is
          c.try_insert_with.ensures.made,
    )

pub returns-in-Ok-Err-clause-there : goal.returns-in-Ok-Err-clause-there
returns-in-Ok-Err-clause-there g c =
    let at = c.in-Ok-Err in
    let is : c.try_insert_with.result ≡ Ok (Err at.current) = at.is ∙ ap (λ z. Ok z) at.field-0-is in
    inr (
      subst (λ r. IfOk r (IsTriedWith g.K.PartialEq.eq c.args.key c.args.self.now.history c.try_insert_with.new.self.history
          (goal.F-post g c.args.f))) is c.try_insert_with.ensures.tried,
      subst (λ r. Makes (stored r) c.args.self.now.made c.try_insert_with.new.self.made c.try_insert_with.new.self.history) is
          c.try_insert_with.ensures.made,
    )

pub returns-in-Err-clause-there : goal.returns-in-Err-clause-there
returns-in-Err-clause-there g c = subst (λ r.
    Makes (stored r) c.args.self.now.made c.try_insert_with.new.self.made c.try_insert_with.new.self.history) c.in-Err.is
    c.try_insert_with.ensures.made

pub returns-in-Err-clause-crowded : goal.returns-in-Err-clause-crowded
returns-in-Err-clause-crowded g c = λ e.
    let full : c.in-Err.refused ≡ Capacity = cc e in
    c.try_insert_with.ensures.crowded (c.in-Err.is ∙ ap (λ cause. Err cause) full)
