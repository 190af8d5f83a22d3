use Rattle.std.proofs.Common.{◌+◌, ◌%◌, [], ◌∷◌, sym, ap, ◌∙◌, subst, arith}
use Rattle.std.proofs.lemmas.Nat.{mod_below}
use Rattle.papaya_map_book.specs.Hashes.{hash_of}
use Rattle.papaya_map_book.specs.Hinted.{IsSlotHint, byte_of}
use Rattle.papaya_map_book.specs.Parts.{begun_of}
use Rattle.papaya_map_book.specs.Rule.{IsLawfulLog}
use Rattle.papaya_map_book.specs.declared.rule.entry.Event.TheVariants.{Begin}
use Rattle.papaya_map_book.proofs.Hinted.{hinted_grows, said_by_now}
use Rattle.papaya_map_book.proofs.Loaded.{slot_key, table_book, table_since}
use Rattle.papaya_map_book.proofs.Logs.{name_since, prefix_trans}
use Rattle.papaya_map_book.proofs.Tellings.{first_prefix, opened_with}
use Rattle.papaya_map_lookup.proofs.near.hint_of.Goals as goal

pub load-found-requires : goal.load-found-requires
load-found-requires g c =
    let r = c.requires.hints in let w = c.args.window.now.book.now in let v = c.learn.new.self.log in let b = begun_of w.parts in
    let hash = hash_of g.K.Hash.hash_input g.S.BuildHasher.build_hasher g.S.Hasher.Hasher.write g.S.Hasher.Hasher.finish in
    let held = c.learn.ensures.4 in
    let lawful : IsLawfulLog g.K.PartialEq.eq hash b v = subst (λ (z : _). IsLawfulLog g.K.PartialEq.eq hash z v)
    (opened_with g.K.PartialEq.eq hash b held.1.begun v
    (prefix_trans (Begin b ∷ []) w.begun.log v (first_prefix (Begin b) w.begun.log w.begins) c.learn.ensures.3) held.1.lawful) held.1.lawful in
    let called = name_since w.begun.log v w.begun.book c.learn.ensures.3 w.called in
    let came = table_since c.args.window.now.sight.log v c.args.number r.0 c.learn.ensures.2 r.1 in
    let book = table_book g.K.PartialEq.eq hash b v w.begun.book lawful called c.args.number r.0 came in (
      ap (λ z. z.tracked) r.2.0,
      c.learn.ensures.0 ∙ (c.args.window.now.same_book ∙ (sym book ∙ sym (ap (λ z. z.book) r.2.0))),
      hinted_grows g.K.PartialEq.eq
          hash c.args.hints.now.key,
    )

pub returns-clause-hint : goal.returns-clause-hint
returns-clause-hint g c =
    let r = c.requires.hints in let w = c.args.window.now.book.now in let v = c.learn-2.new.self.log in let b = begun_of w.parts in
    let hash = hash_of g.K.Hash.hash_input g.S.BuildHasher.build_hasher g.S.Hasher.Hasher.write g.S.Hasher.Hasher.finish in
    let held = c.learn-2.ensures.4 in
    let lawful : IsLawfulLog g.K.PartialEq.eq hash b v = subst (λ (z : _). IsLawfulLog g.K.PartialEq.eq hash z v)
    (opened_with g.K.PartialEq.eq hash b held.1.begun v
    (prefix_trans (Begin b ∷ []) w.begun.log v (first_prefix (Begin b) w.begun.log w.begins) c.learn-2.ensures.3) held.1.lawful) held.1.lawful in
    let seen = prefix_trans c.args.window.now.sight.log c.load-found.new.seen.log v
    (prefix_trans c.args.window.now.sight.log c.learn.new.self.log c.load-found.new.seen.log c.learn.ensures.2 c.load-found.ensures.2) c.learn-2.ensures.2 in
    let came = table_since c.args.window.now.sight.log v c.args.number r.0 seen r.1 in
    let key = c.args.hints.now.key in let n = c.load-found.result in let i = c.args.place % 8 in
    let said = hinted_grows g.K.PartialEq.eq hash key n c.load-found.new.seen.log v c.learn-2.ensures.2 c.load-found.ensures.3 in
    subst (λ z. IsSlotHint g.K.PartialEq.eq hash b c.args.number c.args.place z v) (sym c.hint_in.ensures)
    (said_by_now g.K.PartialEq.eq g.K.Hash.hash_input g.S.BuildHasher.build_hasher g.S.Hasher.Hasher.write g.S.Hasher.Hasher.finish g.met.K.Eq.laws
    g.met.K.Hash.respects_eq b v lawful c.args.number c.args.place (key + i) (byte_of i n)
    (slot_key v c.args.number c.args.place (key + i) r.0 came r.2.1) (said i (mod_below c.args.place 8 (omega arith))))
