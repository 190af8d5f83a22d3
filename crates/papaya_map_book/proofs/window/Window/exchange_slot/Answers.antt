use Rattle.std.proofs.Common.{None, sym, ap, subst}
use Rattle.papaya_call.specs.declared.ask.At.TheVariants.{Slot}
use Rattle.papaya_map_book.specs.Calls.{IsRead, IsSlotTried}
use Rattle.papaya_map_book.specs.Hashes.{hash_of}
use Rattle.papaya_map_book.specs.Parts.{begun_of}
use Rattle.papaya_map_book.specs.declared.rule.entry.Named.TheVariants.{Nothing}
use Rattle.papaya_map_book.proofs.Loaded.{found_pair, found_placed, names_pair}
use Rattle.papaya_map_book.proofs.Logs.{name_since, prefix_trans}
use Rattle.papaya_map_book.proofs.Settings.{is_hashed}
use Rattle.papaya_map_book.proofs.Words.{slot_there, word_there}
use Rattle.papaya_map_book.proofs.window.Window.exchange_slot.Goals as goal

pub remove-found-requires-clause-word : goal.remove-found-requires-clause-word
remove-found-requires-clause-word g c =
    let w = c.args.self.now.book.now in let v = c.learn.new.self.log in let held = c.learn.ensures.4 in let word = c.slot.ensures in
    word_there g.K.PartialEq.eq (hash_of g.K.Hash.hash_input g.S.BuildHasher.build_hasher g.S.Hasher.Hasher.write g.S.Hasher.Hasher.finish)
    (begun_of w.parts) w.begun.log v w.begins c.learn.ensures.3 w.begun.book w.called held.1.begun held.1.lawful c.args.self.now.sight.log
    c.learn.ensures.2 c.args.number c.args.table.now c.requires.table c.slot.result.now word.0 word.2

pub remove-found-requires-clause-key : goal.remove-found-requires-clause-key
remove-found-requires-clause-key g c =
    let w = c.args.self.now.book.now in let v = c.learn.new.self.log in let held = c.learn.ensures.4 in let word = c.slot.ensures in
    slot_there g.K.PartialEq.eq (hash_of g.K.Hash.hash_input g.S.BuildHasher.build_hasher g.S.Hasher.Hasher.write g.S.Hasher.Hasher.finish)
    (begun_of w.parts) w.begun.log v w.begins c.learn.ensures.3 w.begun.book w.called held.1.begun held.1.lawful c.args.self.now.sight.log
    c.learn.ensures.2 c.args.number c.args.table.now c.requires.table c.slot.result.now c.args.place word.0 word.1 word.2

pub remove-found-requires-clause-can : goal.remove-found-requires-clause-can
remove-found-requires-clause-can g c =
    λ log pre. c.requires.can log (prefix_trans c.args.self.now.sight.log c.learn.new.self.log log c.learn.ensures.2 pre)

pub pair_in-requires : goal.pair_in-requires
pair_in-requires g c =
    let hash = hash_of g.K.Hash.hash_input g.S.BuildHasher.build_hasher g.S.Hasher.Hasher.write g.S.Hasher.Hasher.finish in
    let w = c.args.self.now.book.now in let b = begun_of w.parts in let t = c.remove-found.ensures.tried in let found = c.remove-found.result.0 in
    let state = c.remove-found.result.1.state in
    let hashed = is_hashed g.K.PartialEq.eq g.K.Hash.hash_input g.S.BuildHasher.build_hasher g.S.Hasher.Hasher.write g.S.Hasher.Hasher.finish
    g.met.K.Eq.laws g.met.K.Hash.respects_eq b t.before t.lawful in
    let called = name_since w.begun.log t.before w.begun.book (prefix_trans w.begun.log c.learn.new.self.log t.before c.learn.ensures.3 t.since) w.called in
    let read : IsRead g.K.PartialEq.eq hash b (Slot c.args.number c.args.place) found t.before
    state = record { lawful = t.lawful; is = t.is; state_is = t.state_is } in
    names_pair g.K.PartialEq.eq hash b t.before hashed w.begun.book called found state c.args.number c.args.place read

pub returns-clause-tried : goal.returns-clause-tried
returns-clause-tried g c =
    let hash = hash_of g.K.Hash.hash_input g.S.BuildHasher.build_hasher g.S.Hasher.Hasher.write g.S.Hasher.Hasher.finish in
    let w = c.args.self.now.book.now in let b = begun_of w.parts in let t = c.remove-found.ensures.tried in let found = c.remove-found.result.0 in
    let state = c.remove-found.result.1.state in
    let hashed = is_hashed g.K.PartialEq.eq g.K.Hash.hash_input g.S.BuildHasher.build_hasher g.S.Hasher.Hasher.write g.S.Hasher.Hasher.finish
    g.met.K.Eq.laws g.met.K.Hash.respects_eq b t.before t.lawful in
    let called = name_since w.begun.log t.before w.begun.book (prefix_trans w.begun.log c.learn.new.self.log t.before c.learn.ensures.3 t.since) w.called in
    let read : IsRead g.K.PartialEq.eq hash b (Slot c.args.number c.args.place) found t.before
    state = record { lawful = t.lawful; is = t.is; state_is = t.state_is } in
    let names = found_pair g.K.PartialEq.eq hash b t.before found state c.args.number c.args.place read c.pair_in.result c.pair_in.ensures in
    subst (λ (log : _). IsSlotTried g.K.PartialEq.eq hash b w.begun.book c.args.number c.args.place c.args.kind c.args.words.0 c.args.words.1
    None Nothing c.args.self.now.sight.log found log c.pair_in.result) (sym (ap (λ z. z.log) c.keep.ensures.sight.0)) (record {
      state = state;
      tried = record {
        before = t.before;
        since = prefix_trans c.args.self.now.sight.log c.learn.new.self.log t.before c.learn.ensures.2 t.since;
        lawful = t.lawful;
        now = t.now;
        is = t.is;
        state_is = t.state_is;
        after = t.after;
      };
      names = names;
      placed = found_placed g.K.PartialEq.eq hash b t.before hashed w.begun.book called found state c.args.number c.args.place read c.pair_in.result names;
    })
