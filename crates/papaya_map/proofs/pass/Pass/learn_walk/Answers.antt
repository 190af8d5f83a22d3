use Rattle.std.proofs.Common.{subst, sym}
use mathlib.Core.List.{IsPrefix}
use Rattle.papaya_map_lookup.specs.History.{Past, history_of}
use Rattle.papaya_map_book.specs.Limits.{tables_of}
use Rattle.papaya_map_book.proofs.Lengths.{tables_since}
use Rattle.papaya_map_lookup.proofs.Histories.{history_legal, history_since}
use Rattle.papaya_map.proofs.pass.Pass.learn_walk.Goals as goal

pub invariant_of-self : goal.invariant_of-self
invariant_of-self g c =
    let held = c.learn.ensures.4 in
    history_legal g.K.PartialEq.eq g.K.Hash.hash_input g.S.BuildHasher.build_hasher g.S.Hasher.Hasher.write g.S.Hasher.Hasher.finish g.met.K.Eq.laws
    g.met.K.Hash.respects_eq held.1.begun c.learn.new.self.log held.1.lawful

pub returns-clause-seen : goal.returns-clause-seen
returns-clause-seen g c = subst (λ (z : Past g.row.K.Denot g.row.V.Denot). IsPrefix z.history (history_of c.learn.new.self.log)) c.self.view_is
    (history_since c.self.inside.sight.log c.learn.new.self.log c.learn.ensures.2)

pub returns-clause-walked : goal.returns-clause-walked
returns-clause-walked g c = rw (sym c.seen.ensures.history) (history_since c.seen.result.log c.learn.new.self.log c.learn.ensures.3)

pub returns-clause-tables : goal.returns-clause-tables
returns-clause-tables g c = subst (λ (z : Past g.row.K.Denot g.row.V.Denot). IsPrefix z.tables (tables_of c.learn.new.self.log)) c.self.view_is
    (tables_since c.self.inside.sight.log c.learn.new.self.log c.learn.ensures.2)
