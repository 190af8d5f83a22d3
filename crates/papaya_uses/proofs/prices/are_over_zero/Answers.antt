use Rattle.std.proofs.Common.{◌∙◌, sym, subst, arith}
use Rattle.papaya_uses.specs.Prices.{HasNoZero}
use Rattle.papaya_uses.proofs.PriceLemmas.{AllOver, no_zero, over_more}
use Rattle.papaya_uses.proofs.prices.are_over_zero.Goals as goal

pub loop-price-preserved : goal.loop-price-preserved
loop-price-preserved g c =
    let steps = c.in-Some.ensures.steps in let before = c.loop-price in (
      steps.0 ∙ before.invariant.0,
      subst AllOver (sym steps.1)
          (over_more before.entries.given (c.in-Some.field-0-0.now, c.in-Some.price.now) before.invariant.1 (omega (arith, c.if-price-eq0.false))),
    )

pub returns : goal.returns
returns g c =
    let steps = c.in_default.ensures.steps in let before = c.loop-price in let after = c.next.new.self in
    subst HasNoZero (steps.0 ∙ before.invariant.0) (no_zero after.history after.given (subst AllOver (sym steps.1) before.invariant.1) steps.2)
