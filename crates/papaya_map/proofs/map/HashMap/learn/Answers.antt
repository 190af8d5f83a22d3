use Rattle.std.proofs.Common.{refl, subst}
use mathlib.Core.List.{IsPrefix}
use Rattle.papaya_map_lookup.specs.History.{Past, history_of}
use Rattle.papaya_map_book.specs.Limits.{tables_of}
use Rattle.papaya_map_book.specs.Parts.{begun_of}
use Rattle.papaya_map_book.proofs.Lengths.{tables_since}
use Rattle.papaya_map_lookup.proofs.Histories.{history_legal, history_since}
use Rattle.papaya_map.specs.Fixed.{Fixed, HasLearned}
use Rattle.papaya_map.proofs.map.HashMap.learn.Goals as goal

pub invariant_of-self : goal.invariant_of-self
invariant_of-self g c =
    let held = c.learn.ensures.4 in
    history_legal g.K.PartialEq.eq g.K.Hash.hash_input g.S.BuildHasher.build_hasher g.S.Hasher.Hasher.write g.S.Hasher.Hasher.finish g.met.K.Eq.laws
    g.met.K.Hash.respects_eq held.1.begun c.learn.new.self.log held.1.lawful

pub returns-clause-same : goal.returns-clause-same
returns-clause-same g c =
    let m = c.self.inside in
    let new : Fixed g.row.K.Denot g.row.V.Denot g.row.S.Denot = record {
      book = m.book.begun.book;
      begun = begun_of m.book.parts;
      initial = m.initial;
      shards = m.count;
      collector = m.collector;
      opened = tables_of c.learn.new.self.log;
      seen = history_of c.learn.new.self.log;
    } in
    subst (λ (z : Fixed g.row.K.Denot g.row.V.Denot g.row.S.Denot). HasLearned z new) c.self.view_is (record {
      book = refl;
      begun = refl;
      initial = refl;
      shards = refl;
      collector = refl;
      opened = tables_since m.opened.log c.learn.new.self.log c.learn.ensures.2;
      seen = history_since m.opened.log c.learn.new.self.log c.learn.ensures.2;
    })

pub returns-clause-passed : goal.returns-clause-passed
returns-clause-passed g c = subst (λ (z : Past g.row.K.Denot g.row.V.Denot). IsPrefix z.history (history_of c.learn.new.self.log)) c.pass.view_is
    (history_since c.pass.inside.sight.log c.learn.new.self.log c.learn.ensures.3)
