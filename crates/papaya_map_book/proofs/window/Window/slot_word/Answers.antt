use Rattle.std.proofs.Common.{refl}
use Rattle.papaya_words_law.specs.Invariant.{named}
use Rattle.papaya_map_book.specs.Hashes.{hash_of}
use Rattle.papaya_map_book.specs.Logs.{state_of}
use Rattle.papaya_map_book.specs.Parts.{begun_of}
use Rattle.papaya_map_book.proofs.Logs.{name_since, prefix_trans}
use Rattle.papaya_map_book.proofs.Loaded.{found_placed, names_pair}
use Rattle.papaya_map_book.proofs.Settings.{is_hashed}
use Rattle.papaya_map_book.proofs.Words.{slot_there, word_there}
use Rattle.papaya_map_book.proofs.window.Window.slot_word.Goals as goal

pub read-requires-clause-word : goal.read-requires-clause-word
read-requires-clause-word g c =
    let w = c.args.self.now.book.now in let v = c.learn.new.self.log in let held = c.learn.ensures.4 in let word = c.slot.ensures in
    word_there g.K.PartialEq.eq (hash_of g.K.Hash.hash_input g.S.BuildHasher.build_hasher g.S.Hasher.Hasher.write g.S.Hasher.Hasher.finish)
    (begun_of w.parts) w.begun.log v w.begins c.learn.ensures.3 w.begun.book w.called held.1.begun held.1.lawful c.args.self.now.sight.log
    c.learn.ensures.2 c.args.number c.args.table.now c.requires.table c.slot.result.now word.0 word.2

pub read-requires-clause-key : goal.read-requires-clause-key
read-requires-clause-key g c =
    let w = c.args.self.now.book.now in let v = c.learn.new.self.log in let held = c.learn.ensures.4 in let word = c.slot.ensures in
    slot_there g.K.PartialEq.eq (hash_of g.K.Hash.hash_input g.S.BuildHasher.build_hasher g.S.Hasher.Hasher.write g.S.Hasher.Hasher.finish)
    (begun_of w.parts) w.begun.log v w.begins c.learn.ensures.3 w.begun.book w.called held.1.begun held.1.lawful c.args.self.now.sight.log
    c.learn.ensures.2 c.args.number c.args.table.now c.requires.table c.slot.result.now c.args.place word.0 word.1 word.2

pub returns-clause-slot : goal.returns-clause-slot
returns-clause-slot g c =
    let hash = hash_of g.K.Hash.hash_input g.S.BuildHasher.build_hasher g.S.Hasher.Hasher.write g.S.Hasher.Hasher.finish in
    let w = c.args.self.now.book.now in let b = begun_of w.parts in let log = c.read.new.sight.log in let found = c.read.result.0 in
    let state = c.read.result.1.state in let r = c.read.ensures.read in
    let hashed = is_hashed g.K.PartialEq.eq g.K.Hash.hash_input g.S.BuildHasher.build_hasher g.S.Hasher.Hasher.write g.S.Hasher.Hasher.finish
    g.met.K.Eq.laws g.met.K.Hash.respects_eq b log r.lawful in
    let called = name_since w.begun.log log w.begun.book (prefix_trans w.begun.log c.learn.new.self.log log c.learn.ensures.3 c.read.ensures.seen)
    w.called in record {
      read = r;
      some = names_pair g.K.PartialEq.eq hash b log hashed w.begun.book called found state c.args.number c.args.place r;
      placed = found_placed g.K.PartialEq.eq hash b log hashed w.begun.book called found state c.args.number c.args.place r
          (named ((state_of log).slot c.args.number c.args.place)) refl;
    }
