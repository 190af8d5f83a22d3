use Rattle.std.proofs.Common.{◌+◌, ◌%◌, [], ◌∷◌, sym, ap, ◌∙◌, subst}
use mathlib.Core.List.{IsPrefix}
use Rattle.papaya_map_book.specs.Hashes.{hash_of}
use Rattle.papaya_map_book.specs.Hinted.{AreHinted}
use Rattle.papaya_map_book.specs.Parts.{begun_of}
use Rattle.papaya_map_book.specs.Rule.{IsLawfulLog}
use Rattle.papaya_map_book.specs.declared.rule.entry.Event.TheVariants.{Begin}
use Rattle.papaya_map_book.proofs.Hinted.{hinted_grows, may_say}
use Rattle.papaya_map_book.proofs.Loaded.{slot_key, table_book, table_since}
use Rattle.papaya_map_book.proofs.Logs.{name_since, prefix_trans}
use Rattle.papaya_map_book.proofs.Tellings.{first_prefix, opened_with}
use Rattle.papaya_map_book.proofs.window.Window.write_hint.Goals as goal

pub load-found-requires : goal.load-found-requires
load-found-requires g c =
    let w = c.args.self.now.book.now in let v = c.learn.new.self.log in let b = begun_of w.parts in
    let hash = hash_of g.K.Hash.hash_input g.S.BuildHasher.build_hasher g.S.Hasher.Hasher.write g.S.Hasher.Hasher.finish in
    let held = c.learn.ensures.4 in
    let lawful : IsLawfulLog g.K.PartialEq.eq hash b v = subst (λ (z : _). IsLawfulLog g.K.PartialEq.eq hash z v)
    (opened_with g.K.PartialEq.eq hash b held.1.begun v
    (prefix_trans (Begin b ∷ []) w.begun.log v (first_prefix (Begin b) w.begun.log w.begins) c.learn.ensures.3) held.1.lawful) held.1.lawful in
    let called = name_since w.begun.log v w.begun.book c.learn.ensures.3 w.called in
    let log = c.args.self.now.sight.log in let table = c.args.table.now in
    let since : IsPrefix log v = subst (λ z. IsPrefix z.log v) c.again-seen.ensures c.learn.ensures.2 in
    let came = table_since log v c.args.number table since c.requires.table in
    let book = table_book g.K.PartialEq.eq hash b v w.begun.book lawful called c.args.number table came in
    let beside = c.hint-hints.ensures in let key = c.hint-hints.result.now.key in (
      ap (λ z. z.tracked) beside.0,
      c.learn.ensures.0 ∙ (ap (λ z. z.book) c.again-seen.ensures ∙ (c.args.self.now.same_book ∙ (sym book ∙ sym (ap (λ z. z.book) beside.0)))),
      hinted_grows g.K.PartialEq.eq hash key,
    )

pub compare_exchange-requires : goal.compare_exchange-requires
compare_exchange-requires g c =
    let w = c.args.self.now.book.now in let v = c.learn.new.self.log in let b = begun_of w.parts in
    let hash = hash_of g.K.Hash.hash_input g.S.BuildHasher.build_hasher g.S.Hasher.Hasher.write g.S.Hasher.Hasher.finish in
    let held = c.learn.ensures.4 in
    let lawful : IsLawfulLog g.K.PartialEq.eq hash b v = subst (λ (z : _). IsLawfulLog g.K.PartialEq.eq hash z v)
    (opened_with g.K.PartialEq.eq hash b held.1.begun v
    (prefix_trans (Begin b ∷ []) w.begun.log v (first_prefix (Begin b) w.begun.log w.begins) c.learn.ensures.3) held.1.lawful) held.1.lawful in
    let called = name_since w.begun.log v w.begun.book c.learn.ensures.3 w.called in
    let log = c.args.self.now.sight.log in let table = c.args.table.now in
    let since : IsPrefix log v = subst (λ z. IsPrefix z.log v) c.again-seen.ensures c.learn.ensures.2 in
    let came = table_since log v c.args.number table since c.requires.table in
    let book = table_book g.K.PartialEq.eq hash b v w.begun.book lawful called c.args.number table came in
    let beside = c.hint-hints.ensures in let key = c.hint-hints.result.now.key in
    let loaded = c.load-found.ensures in let seen = c.load-found.new.seen.log in let k = key + c.args.place % 8 in (
      ap (λ z. z.tracked) beside.0,
      loaded.0 ∙ (c.learn.ensures.0 ∙ (ap (λ z. z.book) c.again-seen.ensures ∙ (c.args.self.now.same_book ∙ (sym book ∙ sym (ap (λ z. z.book) beside.0))))),
      may_say g.K.PartialEq.eq hash b c.args.number c.args.place key c.load-found.result c.with_hint.result c.args.hint log seen c.requires.hint
          (slot_key log c.args.number c.args.place k table c.requires.table beside.1) (prefix_trans log v seen since loaded.2) loaded.3
          c.with_hint.ensures.this c.with_hint.ensures.others,
    )
