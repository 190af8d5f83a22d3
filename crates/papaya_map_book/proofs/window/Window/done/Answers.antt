use Rattle.papaya_map_book.specs.Hashes.{hash_of}
use Rattle.papaya_map_book.specs.Parts.{begun_of}
use Rattle.papaya_map_book.proofs.Words.{done_there, word_there}
use Rattle.papaya_map_book.proofs.window.Window.done.Goals as goal

pub read-found-requires-clause-word : goal.read-found-requires-clause-word
read-found-requires-clause-word g c =
    let w = c.args.self.now.book.now in let v = c.learn.new.self.log in let held = c.learn.ensures.4 in let word = c.done.ensures in
    word_there g.K.PartialEq.eq (hash_of g.K.Hash.hash_input g.S.BuildHasher.build_hasher g.S.Hasher.Hasher.write g.S.Hasher.Hasher.finish)
    (begun_of w.parts) w.begun.log v w.begins c.learn.ensures.3 w.begun.book w.called held.1.begun held.1.lawful c.args.self.now.sight.log
    c.learn.ensures.2 c.args.number c.args.table.now c.requires.table c.done.result.now word.0 word.2

pub read-found-requires-clause-key : goal.read-found-requires-clause-key
read-found-requires-clause-key g c =
    let w = c.args.self.now.book.now in let v = c.learn.new.self.log in let held = c.learn.ensures.4 in let word = c.done.ensures in
    done_there g.K.PartialEq.eq (hash_of g.K.Hash.hash_input g.S.BuildHasher.build_hasher g.S.Hasher.Hasher.write g.S.Hasher.Hasher.finish)
    (begun_of w.parts) w.begun.log v w.begins c.learn.ensures.3 w.begun.book w.called held.1.begun held.1.lawful c.args.self.now.sight.log
    c.learn.ensures.2 c.args.number c.args.table.now c.requires.table c.done.result.now c.args.chunk word.0 word.1 word.2

pub returns-clause-word : goal.returns-clause-word
returns-clause-word g c = let r = c.read-found.ensures.read in record { lawful = r.lawful; is = r.is }
