use Rattle.std.proofs.Common.{◌∙◌, subst}
use Rattle.papaya_map_book.specs.Hashes.{hash_of}
use Rattle.papaya_map_book.specs.Parts.{begun_of}
use Rattle.papaya_map_book.specs.Rule.{IsLawfulLog}
use Rattle.papaya_map_book.proofs.Hinted.{hint_later}
use Rattle.papaya_map_book.proofs.Loaded.{table_since}
use Rattle.papaya_map_change.proofs.copier.write_hint_at.Goals as goal

pub write_hint-requires-clause-table : goal.write_hint-requires-clause-table
write_hint-requires-clause-table g c = table_since c.args.window.now.sight.log c.learn.new.self.sight.log c.args.number c.args.table.now
    c.learn.ensures.sees.log c.requires.table

pub write_hint-requires-clause-hint : goal.write_hint-requires-clause-hint
write_hint-requires-clause-hint g c =
    let b = begun_of c.args.window.now.book.now.parts in let old = c.args.window.now.sight.log in let log = c.learn.new.self.sight.log in
    let hash = hash_of g.K.Hash.hash_input g.S.BuildHasher.build_hasher g.S.Hasher.Hasher.write g.S.Hasher.Hasher.finish in
    let book = c.learn.ensures.sees.book in
    let lawful = subst (λ (z : _). IsLawfulLog g.K.PartialEq.eq hash (begun_of z.now.parts) log) book c.learn.ensures.lawful in
    rw book (hint_later g.K.PartialEq.eq g.K.Hash.hash_input g.S.BuildHasher.build_hasher g.S.Hasher.Hasher.write g.S.Hasher.Hasher.finish
    g.met.K.Eq.laws g.met.K.Hash.respects_eq b log lawful c.args.number c.args.place c.args.hint old c.learn.ensures.sees.log c.requires.hint)
