use Rattle.papaya_map_book.specs.Hashes.{hash_of}
use Rattle.papaya_map_book.specs.Parts.{begun_of}
use Rattle.papaya_call.specs.declared.ask.At.TheVariants.{Done}
use Rattle.papaya_map_book.specs.declared.rule.entry.Named.TheVariants.{Nothing}
use Rattle.papaya_map_book.proofs.Logs.{prefix_trans}
use Rattle.papaya_map_book.proofs.Words.{done_there, tried_since, word_there}
use Rattle.papaya_map_book.proofs.window.Window.copy_done.Goals as goal

pub exchange-found-requires-clause-word : goal.exchange-found-requires-clause-word
exchange-found-requires-clause-word g c =
    let w = c.args.self.now.book.now in let v = c.learn.new.self.log in let held = c.learn.ensures.4 in let word = c.done.ensures in
    word_there g.K.PartialEq.eq (hash_of g.K.Hash.hash_input g.S.BuildHasher.build_hasher g.S.Hasher.Hasher.write g.S.Hasher.Hasher.finish)
    (begun_of w.parts) w.begun.log v w.begins c.learn.ensures.3 w.begun.book w.called held.1.begun held.1.lawful c.args.self.now.sight.log
    c.learn.ensures.2 c.args.number c.args.table.now c.requires.table c.done.result.now word.0 word.2

pub exchange-found-requires-clause-key : goal.exchange-found-requires-clause-key
exchange-found-requires-clause-key g c =
    let w = c.args.self.now.book.now in let v = c.learn.new.self.log in let held = c.learn.ensures.4 in let word = c.done.ensures in
    done_there g.K.PartialEq.eq (hash_of g.K.Hash.hash_input g.S.BuildHasher.build_hasher g.S.Hasher.Hasher.write g.S.Hasher.Hasher.finish)
    (begun_of w.parts) w.begun.log v w.begins c.learn.ensures.3 w.begun.book w.called held.1.begun held.1.lawful c.args.self.now.sight.log
    c.learn.ensures.2 c.args.number c.args.table.now c.requires.table c.done.result.now c.args.chunk word.0 word.1 word.2

pub exchange-found-requires-clause-can : goal.exchange-found-requires-clause-can
exchange-found-requires-clause-can g c =
    λ log pre. c.requires.can log (prefix_trans c.args.self.now.sight.log c.learn.new.self.log log c.learn.ensures.2 pre)

pub returns-clause-tried : goal.returns-clause-tried
returns-clause-tried g c =
    let f = c.exchange-found in (
      f.result.1.state,
      tried_since g.K.PartialEq.eq
          (hash_of g.K.Hash.hash_input g.S.BuildHasher.build_hasher g.S.Hasher.Hasher.write g.S.Hasher.Hasher.finish) (begun_of c.args.self.now.book.now.parts)
          (Done c.args.number c.args.chunk) c.args.kind c.args.words.0 c.args.words.1 c.args.kept.now Nothing c.args.self.now.sight.log c.learn.new.self.log
          f.result.0 f.new.sight.log f.result.1.state c.learn.ensures.2 f.ensures.tried,
    )
