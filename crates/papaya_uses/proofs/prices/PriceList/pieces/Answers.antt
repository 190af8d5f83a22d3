use Rattle.std.proofs.Common.{ℕ, ◌<◌, ◌/◌, ◌∙◌, ap, subst, sym}
use Rattle.std.specs.Prelude.{option_map}
use denote.Bor.{Bor}
use Rattle.papaya.specs.Threads.{Frozen, key_of}
use Rattle.papaya_uses.specs.Prices.{pieces_of}
use Rattle.papaya_uses.proofs.PriceLemmas.{found_price}
use Rattle.papaya_uses.proofs.prices.PriceList.pieces.Goals as goal

pub nonzero_div-result : goal.nonzero_div-result
nonzero_div-result c =
    let found = c.in-Some.ensures in
    subst (λ (n : ℕ). 0 < n) (sym found.3) (c.self.invariant (key_of found.0) found.0 found.2)

pub returns-in-None : goal.returns-in-None
returns-in-None c =
    let price = found_price c.self.inside.prices.history c.args.article c.get.result c.get.ensures in
    sym
    (ap (λ (z : Frozen ℕ ℕ _). pieces_of z.history c.args.article c.args.money) (sym c.self.view_is)
    ∙ ap (option_map (λ (n : ℕ). c.args.money / n)) (price ∙ ap (option_map (λ (v : Bor ℕ). v.now)) c.in-None.is))
