use Rattle.std.proofs.Common.{MatchBool, subst}
use Rattle.papaya_core_store.specs.Store.{Stored}
use Rattle.papaya_seq.specs.Map.{HasNone, Holds, MapState}
use Rattle.papaya_set.proofs.seq.HashSet.contains.Goals as goal

pub returns-clause-answer : goal.returns-clause-answer
returns-clause-answer g c =
    let matches = g.Q.Equivalent.matches c.args.key.now in
    subst (λ (s : MapState _ _ _). MatchBool c.contains_key.result ((p : Stored _ _) × Holds g.K.PartialEq.eq matches s.store p)
    (HasNone g.K.PartialEq.eq matches s.store)) c.self.view_is c.contains_key.ensures.answer
