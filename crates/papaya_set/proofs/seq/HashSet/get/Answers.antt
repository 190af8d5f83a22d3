use Rattle.std.proofs.Common.{◌≡◌, subst}
use Rattle.papaya_core_store.specs.Store.{Stored}
use Rattle.papaya_seq.specs.Map.{Holds, MapState}
use Rattle.papaya_set.proofs.seq.HashSet.get.Goals as goal

pub returns-in-Some-clause-answer : goal.returns-in-Some-clause-answer
returns-in-Some-clause-answer g c =
    let e = c.in-Some.ensures.answer in
    subst (λ (s : MapState _ _ _). (p : Stored _ _) × Holds g.K.PartialEq.eq (g.Q.Equivalent.matches c.args.key.now) s.store p
    × (p.key ≡ c.in-Some.stored.now)) c.self.view_is (e.0, e.1, e.2)
