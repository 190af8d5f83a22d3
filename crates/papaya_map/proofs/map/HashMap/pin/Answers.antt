use Rattle.std.proofs.Common.{ap, subst, ◌∙◌}
use mathlib.Core.List.{IsPrefix}
use Rattle.papaya_map_lookup.specs.History.{history_of}
use Rattle.papaya_map_lookup.proofs.Histories.{history_legal, history_since}
use Rattle.papaya_map.specs.Fixed.{Fixed}
use Rattle.papaya_map.proofs.map.HashMap.pin.Goals as goal

pub invariant_of-result-2 : goal.invariant_of-result-2
invariant_of-result-2 g c =
    let held = c.learn.ensures.4 in (
      c.keep_root-kept.ensures ∙ ap (λ (z : Fixed g.row.K.Denot g.row.V.Denot g.row.S.Denot). z.book) c.self.view_is,
      history_legal g.K.PartialEq.eq
          g.K.Hash.hash_input g.S.BuildHasher.build_hasher g.S.Hasher.Hasher.write g.S.Hasher.Hasher.finish g.met.K.Eq.laws g.met.K.Hash.respects_eq
          held.1.begun c.learn.new.self.log held.1.lawful,
    )

pub returns-clause-seen : goal.returns-clause-seen
returns-clause-seen g c = subst (λ (z : Fixed g.row.K.Denot g.row.V.Denot g.row.S.Denot). IsPrefix z.seen (history_of c.learn.new.self.log))
    c.self.view_is (history_since c.self.inside.opened.log c.learn.new.self.log c.learn.ensures.3)
