use Rattle.std.proofs.Common.{inr, refl, sym}
use Rattle.papaya_core_store.proofs.scans.Scanning.call_closure.Goals as goal

-- the closure was called with the pair, and its answers are those that were left
pub returns-in-Some-pair : goal.returns-in-Some-pair
returns-in-Some-pair g c =
    inr (
      c.in-Some.answers.now,
      record { number = c.args.n; key = c.in-Some-pair.key.now; value = c.in-Some-pair.value.now },
      c.yes.result,
      c.yes.new.self,
      sym c.in-Some.ensures.value,
      c.in-Some-pair.ensures,
      c.yes.ensures,
      refl,
      refl,
    )
