use Rattle.papaya_call.specs.declared.ask.At.TheVariants.{Slot}
use Rattle.papaya_map_book.specs.Calls.{IsRead}
use Rattle.papaya_map_book.specs.Hashes.{hash_of}
use Rattle.papaya_map_book.specs.Parts.{begun_of}
use Rattle.papaya_map_book.proofs.Loaded.{found_pair, found_placed, names_pair}
use Rattle.papaya_map_book.proofs.Logs.{name_since, prefix_trans}
use Rattle.papaya_map_book.proofs.Settings.{is_hashed}
use Rattle.papaya_map_book.proofs.Words.{slot_there, word_there}
use Rattle.papaya_map_book.proofs.window.Window.copy_slot.Goals as goal

pub exchange-found-requires-clause-word : goal.exchange-found-requires-clause-word
exchange-found-requires-clause-word g c =
    let w = c.args.self.now.book.now in let v = c.learn.new.self.log in let held = c.learn.ensures.4 in let word = c.slot.ensures in
    word_there g.K.PartialEq.eq (hash_of g.K.Hash.hash_input g.S.BuildHasher.build_hasher g.S.Hasher.Hasher.write g.S.Hasher.Hasher.finish)
    (begun_of w.parts) w.begun.log v w.begins c.learn.ensures.3 w.begun.book w.called held.1.begun held.1.lawful c.args.self.now.sight.log
    c.learn.ensures.2 c.args.number c.args.table.now c.requires.table c.slot.result.now word.0 word.2

pub exchange-found-requires-clause-key : goal.exchange-found-requires-clause-key
exchange-found-requires-clause-key g c =
    let w = c.args.self.now.book.now in let v = c.learn.new.self.log in let held = c.learn.ensures.4 in let word = c.slot.ensures in
    slot_there g.K.PartialEq.eq (hash_of g.K.Hash.hash_input g.S.BuildHasher.build_hasher g.S.Hasher.Hasher.write g.S.Hasher.Hasher.finish)
    (begun_of w.parts) w.begun.log v w.begins c.learn.ensures.3 w.begun.book w.called held.1.begun held.1.lawful c.args.self.now.sight.log
    c.learn.ensures.2 c.args.number c.args.table.now c.requires.table c.slot.result.now c.args.place word.0 word.1 word.2

pub exchange-found-requires-clause-can : goal.exchange-found-requires-clause-can
exchange-found-requires-clause-can g c =
    λ log pre. c.requires.can log (prefix_trans c.args.self.now.sight.log c.learn.new.self.log log c.learn.ensures.2 pre)

pub pair_in-requires : goal.pair_in-requires
pair_in-requires g c =
    let hash = hash_of g.K.Hash.hash_input g.S.BuildHasher.build_hasher g.S.Hasher.Hasher.write g.S.Hasher.Hasher.finish in
    let w = c.args.self.now.book.now in let b = begun_of w.parts in let t = c.exchange-found.ensures.tried in let found = c.exchange-found.result.0 in
    let state = c.exchange-found.result.1.state in
    let hashed = is_hashed g.K.PartialEq.eq g.K.Hash.hash_input g.S.BuildHasher.build_hasher g.S.Hasher.Hasher.write g.S.Hasher.Hasher.finish
    g.met.K.Eq.laws g.met.K.Hash.respects_eq b t.before t.lawful in
    let called = name_since w.begun.log t.before w.begun.book (prefix_trans w.begun.log c.learn.new.self.log t.before c.learn.ensures.3 t.since) w.called in
    let read : IsRead g.K.PartialEq.eq hash b (Slot c.args.number c.args.place) found t.before
    state = record { lawful = t.lawful; is = t.is; state_is = t.state_is } in
    names_pair g.K.PartialEq.eq hash b t.before hashed w.begun.book called found state c.args.number c.args.place read

pub returns-clause-tried : goal.returns-clause-tried
returns-clause-tried g c =
    let hash = hash_of g.K.Hash.hash_input g.S.BuildHasher.build_hasher g.S.Hasher.Hasher.write g.S.Hasher.Hasher.finish in
    let w = c.args.self.now.book.now in let b = begun_of w.parts in let t = c.exchange-found.ensures.tried in let found = c.exchange-found.result.0 in
    let state = c.exchange-found.result.1.state in
    let hashed = is_hashed g.K.PartialEq.eq g.K.Hash.hash_input g.S.BuildHasher.build_hasher g.S.Hasher.Hasher.write g.S.Hasher.Hasher.finish
    g.met.K.Eq.laws g.met.K.Hash.respects_eq b t.before t.lawful in
    let called = name_since w.begun.log t.before w.begun.book (prefix_trans w.begun.log c.learn.new.self.log t.before c.learn.ensures.3 t.since) w.called in
    let read : IsRead g.K.PartialEq.eq hash b (Slot c.args.number c.args.place) found t.before
    state = record { lawful = t.lawful; is = t.is; state_is = t.state_is } in
    let names = found_pair g.K.PartialEq.eq hash b t.before found state c.args.number c.args.place read c.pair_in.result c.pair_in.ensures in record {
      state = state;
      tried = record {
        before = t.before;
        since = prefix_trans c.args.self.now.sight.log c.learn.new.self.log t.before c.learn.ensures.2 t.since;
        lawful = t.lawful;
        now = t.now;
        is = t.is;
        state_is = t.state_is;
        after = t.after;
      };
      names = names;
      placed = found_placed g.K.PartialEq.eq hash b t.before hashed w.begun.book called found state c.args.number c.args.place read c.pair_in.result names;
    }
