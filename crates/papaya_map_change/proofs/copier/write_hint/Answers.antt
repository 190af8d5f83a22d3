use Rattle.std.proofs.Common.{refl, ◌∙◌, subst}
use Rattle.papaya_call.specs.declared.ask.At.TheVariants.{Slot}
use Rattle.papaya_map_book.specs.Hashes.{hash_of}
use Rattle.papaya_map_book.specs.Parts.{begun_of}
use Rattle.papaya_map_book.specs.Rule.{IsLawfulLog}
use Rattle.papaya_map_book.proofs.Hinted.{hint_later}
use Rattle.papaya_map_book.proofs.Loaded.{table_since}
use Rattle.papaya_map_book.proofs.Logs.{prefix_trans}
use Rattle.papaya_map_change.proofs.Copiers.{reached_low}
use Rattle.papaya_map_change.proofs.copier.write_hint.Goals as goal

pub write_hint-requires : goal.write_hint-requires
write_hint-requires g c =
    let w = c.args.window.now.book.now in let b = begun_of w.parts in let old = c.args.window.now.sight.log in
    let one = c.table-table.new.self.sight.log in let log = c.learn.new.self.sight.log in
    let hash = hash_of g.K.Hash.hash_input g.S.BuildHasher.build_hasher g.S.Hasher.Hasher.write g.S.Hasher.Hasher.finish in
    let book = c.learn.ensures.sees.book ∙ c.table-table.ensures.sees.book in
    let lawful = subst (λ (z : _). IsLawfulLog g.K.PartialEq.eq hash (begun_of z.now.parts) log) book c.learn.ensures.lawful in
    let since = prefix_trans old one log c.table-table.ensures.sees.log c.learn.ensures.sees.log in record {
      table = table_since one log c.args.number c.table-table.result.now c.learn.ensures.sees.log c.table-table.ensures.table;
      place = reached_low old one c.table-table.ensures.sees.log (Slot c.args.number c.args.place) c.args.number c.args.place refl c.requires.reach
          c.table-table.result.now c.table-table.ensures.table;
      hint = rw book (hint_later g.K.PartialEq.eq g.K.Hash.hash_input g.S.BuildHasher.build_hasher g.S.Hasher.Hasher.write g.S.Hasher.Hasher.finish
          g.met.K.Eq.laws g.met.K.Hash.respects_eq b log lawful c.args.number c.args.place c.args.hint old since c.requires.hint);
    }
