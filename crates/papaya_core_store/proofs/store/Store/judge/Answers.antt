use Rattle.std.proofs.Common.{inr, refl, sym}
use Rattle.papaya_core_store.proofs.store.Store.judge.Goals as goal

-- the closure was called with the pair, and its answers are those that were left
pub returns-in-Some-pair-clause-judges : goal.returns-in-Some-pair-clause-judges
returns-in-Some-pair-clause-judges g c =
    inr (
      c.in-Some.answers.now,
      record { number = c.args.n; key = c.in-Some-pair.key.now; value = c.in-Some-pair.value.now },
      c.yes.result,
      c.yes.new.self,
      sym c.in-Some.ensures.value,
      c.in-Some-pair.ensures,
      c.yes.ensures,
      refl,
      refl,
      refl,
    )
