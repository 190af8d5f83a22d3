use Rattle.std.proofs.Common.{rules, OnOk, subst}
use Rattle.papaya_seq.specs.Map.{MapState}
use Rattle.papaya_set.specs.Sets.{AreKept}
use Rattle.papaya_set.proofs.Kept.{callable, kept_ok}
use Rattle.papaya_set.proofs.seq.HashSet.retain.Goals as goal

pub retain-requires : goal.retain-requires
retain-requires g c = callable g.F.FnMut _ (λ w. w.0) (λ w w' key value agrees called. let met = called.met in search rules)
    (λ w key value always. search rules) _ c.requires

pub returns-clause-ok : goal.returns-clause-ok
returns-clause-ok g c =
    subst (λ (s : MapState _ _ _). OnOk c.retain.result (AreKept g.F.FnMut g.K.PartialEq.eq c.args.agrees s.store c.retain.new.self.store)) c.self.view_is
    (kept_ok g.F.FnMut _ (λ w. w.0) (λ w w' key value agrees called. let met = called.met in search rules) g.K.PartialEq.eq _ c.self.inside.map.store
    c.retain.new.self.store c.retain.result c.retain.ensures.ok)
