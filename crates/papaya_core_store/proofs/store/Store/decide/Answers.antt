use Rattle.std.proofs.Common.{Some, inr, refl, sym, ap}
use Rattle.papaya_core_store.proofs.store.Store.decide.Goals as goal

-- the closure was called with the pair, and what it returned is kept
pub returns-in-Some-pair-clause-decides : goal.returns-in-Some-pair-clause-decides
returns-in-Some-pair-clause-decides g c =
    inr (
      record { number = c.args.n; key = c.in-Some-pair.pair.0.now; value = c.in-Some-pair.pair.1.now },
      c.in-Some-pair.ensures,
      (
        c.in-Some.answers.now,
        c.op-operation.result,
        c.op-operation.new.self,
        sym c.in-Some.ensures.value,
        c.op-operation.ensures,
        c.keep_value.ensures.answer,
        refl,
        ap (λ v.
            record { machine = c.args.running.now.machine; key = c.args.running.now.key; value = v; answers = Some c.op-operation.new.self })
            c.keep_value.ensures.value,
      ),
    )
