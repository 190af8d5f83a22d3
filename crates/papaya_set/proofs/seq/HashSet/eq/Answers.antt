use Rattle.std.proofs.Common.{◌↔◌, IsTrue, refl, subst}
use Rattle.papaya_seq.specs.Map.{MapState}
use Rattle.papaya_set.specs.Sets.{HaveSameKeys}
use Rattle.papaya_set.proofs.Same.{equal_maps, same_keys}
use Rattle.papaya_set.proofs.seq.HashSet.eq.Goals as goal

pub returns : goal.returns
returns g c =
    let here : IsTrue c.eq.result ↔ HaveSameKeys g.K.PartialEq.eq c.self.inside.map.store c.other.inside.map.store = (
      λ yes. same_keys _ (λ a b. refl) g.K.PartialEq.eq c.self.inside.map.store c.other.inside.map.store (c.eq.ensures.0 yes),
      λ same. c.eq.ensures.1 (equal_maps _ (λ a b. refl) g.K.PartialEq.eq c.self.inside.map.store c.other.inside.map.store same),
    ) in
    subst (λ (s : MapState _ _ _). IsTrue c.eq.result ↔ HaveSameKeys g.K.PartialEq.eq s.store c.args.other.now.store) c.self.view_is
    (subst (λ (z : MapState _ _ _). IsTrue c.eq.result ↔ HaveSameKeys g.K.PartialEq.eq c.self.inside.map.store z.store) c.other.view_is here)
