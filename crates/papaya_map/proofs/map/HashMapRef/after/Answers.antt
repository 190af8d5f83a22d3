use Rattle.std.proofs.Common.{rules, subst, sym}
use mathlib.Core.List.{IsPrefix}
use Rattle.papaya_map_lookup.specs.History.{Past, history_of}
use Rattle.papaya_map_lookup.proofs.Histories.{history_legal, history_since}
use Rattle.papaya_map.specs.Fixed.{Pinned}
use Rattle.papaya_map.proofs.map.HashMapRef.after.Goals as goal

pub invariant_of-result-2 : goal.invariant_of-result-2
invariant_of-result-2 g c =
    let held = c.learn.ensures.4 in (
      search rules,
      history_legal g.K.PartialEq.eq
          g.K.Hash.hash_input g.S.BuildHasher.build_hasher g.S.Hasher.Hasher.write g.S.Hasher.Hasher.finish g.met.K.Eq.laws g.met.K.Hash.respects_eq
          held.1.begun c.learn.new.self.log held.1.lawful,
    )

pub returns-clause-seen : goal.returns-clause-seen
returns-clause-seen g c = subst (λ (z : Pinned g.row.K.Denot g.row.V.Denot g.row.S.Denot). IsPrefix z.seen (history_of c.learn.new.self.log))
    c.self.view_is (rw (sym c.again-seen.ensures) (history_since c.again-seen.result.log c.learn.new.self.log c.learn.ensures.2))

pub returns-clause-passed : goal.returns-clause-passed
returns-clause-passed g c = subst (λ (z : Past g.row.K.Denot g.row.V.Denot). IsPrefix z.history (history_of c.learn.new.self.log)) c.pass.view_is
    (history_since c.pass.inside.sight.log c.learn.new.self.log c.learn.ensures.3)
