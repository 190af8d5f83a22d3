use Rattle.std.proofs.Common.{Some, ◌∙◌, ap}
use Rattle.papaya_seq.specs.Map.{value_of}
use Rattle.papaya_seq.proofs.laws.changes_are_found.Goals as goal

pub returns-clause-inserted : goal.returns-clause-inserted
returns-clause-inserted g c = λ k v went s s' inserts. ap value_of (inserts.update.class k (g.met.K.Eq.laws.refl k)) ∙ ap (λ x. Some x) inserts.value

pub returns-clause-beside : goal.returns-clause-beside
returns-clause-beside g c = λ k v went s s' inserts. inserts.update.others

pub returns-clause-removed : goal.returns-clause-removed
returns-clause-removed g c = λ matches p s s' removes. removes.update.class p.key (g.met.K.Eq.laws.refl p.key)

pub returns-clause-left : goal.returns-clause-left
returns-clause-left g c = λ matches p s s' removes. removes.update.others
