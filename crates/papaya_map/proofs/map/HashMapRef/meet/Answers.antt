use Rattle.std.proofs.Common.{subst}
use mathlib.Core.List.{IsPrefix}
use Rattle.papaya_map_lookup.specs.History.{Past, history_of}
use Rattle.papaya_map_book.specs.Limits.{tables_of}
use Rattle.papaya_map_book.proofs.Lengths.{tables_since}
use Rattle.papaya_map_lookup.proofs.Histories.{history_legal, history_since}
use Rattle.papaya_map.proofs.map.HashMapRef.meet.Goals as goal

pub invariant_of-a : goal.invariant_of-a
invariant_of-a g c =
    let held = c.learn.ensures.4 in
    history_legal g.K.PartialEq.eq g.K.Hash.hash_input g.S.BuildHasher.build_hasher g.S.Hasher.Hasher.write g.S.Hasher.Hasher.finish g.met.K.Eq.laws
    g.met.K.Hash.respects_eq held.1.begun c.learn.new.self.log held.1.lawful

pub invariant_of-b : goal.invariant_of-b
invariant_of-b g c = rw c.again.ensures (invariant_of-a g c)

pub returns-clause-first : goal.returns-clause-first
returns-clause-first g c = subst (λ (z : Past g.row.K.Denot g.row.V.Denot). IsPrefix z.history (history_of c.learn.new.self.log)
    × IsPrefix z.tables (tables_of c.learn.new.self.log)) c.a.view_is
    (history_since c.a.inside.sight.log c.learn.new.self.log c.learn.ensures.2, tables_since c.a.inside.sight.log c.learn.new.self.log c.learn.ensures.2)

pub returns-clause-second : goal.returns-clause-second
returns-clause-second g c = rw c.again.ensures
    (subst (λ (z : Past g.row.K.Denot g.row.V.Denot). IsPrefix z.history (history_of c.learn.new.self.log)
    × IsPrefix z.tables (tables_of c.learn.new.self.log)) c.b.view_is
    (history_since c.b.inside.sight.log c.learn.new.self.log c.learn.ensures.3, tables_since c.b.inside.sight.log c.learn.new.self.log c.learn.ensures.3))
