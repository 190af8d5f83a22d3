use Rattle.std.proofs.Common.{List, refl, subst, sym}
use mathlib.Core.List.{IsPrefix}
use Rattle.papaya_map_book.specs.declared.rule.entry.Event.{Event}
use Rattle.papaya_map_book.specs.Limits.{tables_of}
use Rattle.papaya_map_book.specs.Parts.{begun_of}
use Rattle.papaya_map_book.proofs.Lengths.{tables_since}
use Rattle.papaya_map_lookup.specs.History.{history_of}
use Rattle.papaya_map_lookup.proofs.Histories.{history_since}
use Rattle.papaya_map.specs.Fixed.{Fixed, HasLearned}
use Rattle.papaya_map.specs.Frozen.{Frozen}
use Rattle.papaya_map.proofs.map.read_only.ReadOnly.into_map.Goals as goal

pub returns-clause-same : goal.returns-clause-same
returns-clause-same g c =
    let m = c.self.inside in let log = c.align.new.sight.log in
    let new : Fixed g.row.K.Denot g.row.V.Denot g.row.S.Denot = record {
      book = m.book.begun.book;
      begun = begun_of m.book.parts;
      initial = m.initial;
      shards = m.count;
      collector = m.collector;
      opened = tables_of log;
      seen = history_of log;
    } in
    let since = subst (IsPrefix m.opened.log) (sym {A = List (Event g.row.K.Denot g.row.V.Denot g.row.S.Denot)} c.align.ensures.1) c.self.invariant.2 in
    subst (λ (z : Frozen g.row.K.Denot g.row.V.Denot g.row.S.Denot). HasLearned z.map new) c.self.view_is (record {
      book = refl;
      begun = refl;
      initial = refl;
      shards = refl;
      collector = refl;
      opened = tables_since m.opened.log log since;
      seen = history_since m.opened.log log since;
    })
