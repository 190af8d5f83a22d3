use Rattle.std.proofs.Common.{[], append-nil}
use Rattle.papaya_map_book.specs.Hashes.{hash_of}
use Rattle.papaya_map_book.specs.Parts.{begun_of}
use Rattle.papaya_map_change.proofs.HelpingExchanges.{tried_slot}
use Rattle.papaya_map_change.proofs.copier.Copier.try_slot.Goals as goal

pub returns-clause-tried : goal.returns-clause-tried
returns-clause-tried g c =
    let w = c.args.window.now in let hash = hash_of g.K.Hash.hash_input g.S.BuildHasher.build_hasher g.S.Hasher.Hasher.write g.S.Hasher.Hasher.finish
    in let one = c.copy_slot in
    tried_slot g.K.PartialEq.eq hash (begun_of w.book.now.parts) w.book.now.begun.book w.sight.log w.sight.log ([], append-nil w.sight.log)
    c.args.kind c.args.words.0 c.args.words.1 c.args.self.now.kept c.args.self.now.fresh one.result.0 one.new.self.sight.log c.args.number
    c.args.place one.result.1 one.ensures.tried
