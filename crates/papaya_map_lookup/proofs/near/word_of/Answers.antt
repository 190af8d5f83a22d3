use Rattle.std.proofs.Common.{◌≡◌, ℕ, slice_get, [], ◌∷◌, Some, refl, sym, ap, ◌∙◌, subst}
use Rattle.papaya_words_law.specs.Invariant.{named}
use Rattle.papaya_map_book.specs.Rule.{IsLawfulLog}
use Rattle.papaya_map_book.specs.Sheets.{word_named}
use Rattle.papaya_map_book.specs.declared.rule.entry.Event.TheVariants.{Begin}
use Rattle.papaya_map_book.proofs.Tellings.{first_prefix, opened_with}
use Rattle.papaya_map_book.specs.Hashes.{hash_of}
use Rattle.papaya_map_book.specs.Logs.{state_of}
use Rattle.papaya_map_book.specs.Parts.{begun_of}
use Rattle.papaya_map_book.proofs.Logs.{name_since, prefix_trans}
use Rattle.papaya_map_book.proofs.Loaded.{found_placed, names_pair, slot_key, table_book, table_since}
use Rattle.papaya_map_book.proofs.Settings.{is_hashed}
use Rattle.papaya_map_lookup.proofs.near.word_of.Goals as goal

pub read-requires-clause-word : goal.read-requires-clause-word
read-requires-clause-word g c =
    let w = c.args.window.now.book.now in let v = c.learn.new.self.log in let b = begun_of w.parts in
    let hash = hash_of g.K.Hash.hash_input g.S.BuildHasher.build_hasher g.S.Hasher.Hasher.write g.S.Hasher.Hasher.finish in
    let r = c.requires.slot in let table = r.0 in
    let word : (k : ℕ) × (slice_get table.slots c.args.place ≡ Some k) × (c.args.slot.now ≡ word_named table.book k) = (r.2, r.3, r.4) in
    let held = c.learn.ensures.4 in let lawful : IsLawfulLog g.K.PartialEq.eq hash b v = subst (λ (z : _). IsLawfulLog g.K.PartialEq.eq hash z v)
    (opened_with g.K.PartialEq.eq hash b held.1.begun v
    (prefix_trans (Begin b ∷ []) w.begun.log v (first_prefix (Begin b) w.begun.log w.begins) c.learn.ensures.3) held.1.lawful) held.1.lawful in
    let called = name_since w.begun.log v w.begun.book c.learn.ensures.3 w.called in
    let came = table_since c.args.window.now.sight.log v c.args.number table c.learn.ensures.2 r.1 in
    let book = table_book g.K.PartialEq.eq hash b v w.begun.book lawful called c.args.number table came in
    word.2 ∙ (ap (λ z. word_named z word.0) book ∙ ap (word_named w.begun.book) (sym (ap (λ z. z.key) word.2)))

pub read-requires-clause-key : goal.read-requires-clause-key
read-requires-clause-key g c =
    let w = c.args.window.now.book.now in let v = c.learn.new.self.log in let b = begun_of w.parts in
    let hash = hash_of g.K.Hash.hash_input g.S.BuildHasher.build_hasher g.S.Hasher.Hasher.write g.S.Hasher.Hasher.finish in
    let r = c.requires.slot in let table = r.0 in
    let word : (k : ℕ) × (slice_get table.slots c.args.place ≡ Some k) × (c.args.slot.now ≡ word_named table.book k) = (r.2, r.3, r.4) in
    let held = c.learn.ensures.4 in let lawful : IsLawfulLog g.K.PartialEq.eq hash b v = subst (λ (z : _). IsLawfulLog g.K.PartialEq.eq hash z v)
    (opened_with g.K.PartialEq.eq hash b held.1.begun v
    (prefix_trans (Begin b ∷ []) w.begun.log v (first_prefix (Begin b) w.begun.log w.begins) c.learn.ensures.3) held.1.lawful) held.1.lawful in
    let called = name_since w.begun.log v w.begun.book c.learn.ensures.3 w.called in
    let came = table_since c.args.window.now.sight.log v c.args.number table c.learn.ensures.2 r.1 in
    let book = table_book g.K.PartialEq.eq hash b v w.begun.book lawful called c.args.number table came in
    slot_key v c.args.number c.args.place word.0 table came word.1 ∙ ap (λ z. Some z) (sym (ap (λ z. z.key) word.2))

pub returns-clause-slot : goal.returns-clause-slot
returns-clause-slot g c =
    let hash = hash_of g.K.Hash.hash_input g.S.BuildHasher.build_hasher g.S.Hasher.Hasher.write g.S.Hasher.Hasher.finish in
    let w = c.args.window.now.book.now in let b = begun_of w.parts in let log = c.read.new.sight.log in let found = c.read.result.0 in
    let state = c.read.result.1.state in let r = c.read.ensures.read in
    let hashed = is_hashed g.K.PartialEq.eq g.K.Hash.hash_input g.S.BuildHasher.build_hasher g.S.Hasher.Hasher.write g.S.Hasher.Hasher.finish
    g.met.K.Eq.laws g.met.K.Hash.respects_eq b log r.lawful in
    let called = name_since w.begun.log log w.begun.book (prefix_trans w.begun.log c.learn.new.self.log log c.learn.ensures.3 c.read.ensures.seen)
    w.called in record {
      read = r;
      some = names_pair g.K.PartialEq.eq hash b log hashed w.begun.book called found state c.args.number c.args.place r;
      placed = found_placed g.K.PartialEq.eq hash b log hashed w.begun.book called found state c.args.number c.args.place r
          (named ((state_of log).slot c.args.number c.args.place)) refl;
    }
