use Rattle.std.proofs.Common.{subst}
use mathlib.Core.List.{IsPrefix}
use Rattle.papaya_map_lookup.specs.History.{Past, history_of}
use Rattle.papaya_map_book.specs.Limits.{tables_of}
use Rattle.papaya_map_book.proofs.Lengths.{tables_since}
use Rattle.papaya_map_lookup.proofs.Histories.{history_legal, history_since}
use Rattle.papaya_map.specs.Fixed.{Fixed}
use Rattle.papaya_map.proofs.map.HashMap.learn_opened.Goals as goal

pub invariant_of-pass : goal.invariant_of-pass
invariant_of-pass g c =
    let held = c.learn.ensures.4 in
    history_legal g.K.PartialEq.eq g.K.Hash.hash_input g.S.BuildHasher.build_hasher g.S.Hasher.Hasher.write g.S.Hasher.Hasher.finish g.met.K.Eq.laws
    g.met.K.Hash.respects_eq held.1.begun c.learn.new.self.log held.1.lawful

pub returns-clause-seen : goal.returns-clause-seen
returns-clause-seen g c = subst (λ (z : Past g.row.K.Denot g.row.V.Denot). IsPrefix z.history (history_of c.learn.new.self.log)) c.pass.view_is
    (history_since c.pass.inside.sight.log c.learn.new.self.log c.learn.ensures.2)

pub returns-clause-opened : goal.returns-clause-opened
returns-clause-opened g c = subst (λ (z : Fixed g.row.K.Denot g.row.V.Denot g.row.S.Denot). IsPrefix z.opened (tables_of c.learn.new.self.log))
    c.self.view_is (tables_since c.self.inside.opened.log c.learn.new.self.log c.learn.ensures.3)

pub returns-clause-tables : goal.returns-clause-tables
returns-clause-tables g c = subst (λ (z : Past g.row.K.Denot g.row.V.Denot). IsPrefix z.tables (tables_of c.learn.new.self.log)) c.pass.view_is
    (tables_since c.pass.inside.sight.log c.learn.new.self.log c.learn.ensures.2)
