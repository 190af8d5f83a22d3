use Rattle.std.proofs.Common.{◌≡◌, ◌+◌, ◌==◌, refl, sym, ap, ◌∙◌, subst, arith}
use Rattle.boxcar.specs.Table.{Shows}
use Rattle.papaya_call.specs.declared.ask.At.TheVariants.{Root}
use Rattle.papaya_map_book.specs.Calls.{IsRead, IsTable}
use Rattle.papaya_map_book.specs.Hashes.{hash_of}
use Rattle.papaya_map_book.specs.Parts.{begun_of}
use Rattle.papaya_map_book.specs.declared.rule.entry.Named.TheVariants.{Table}
use Rattle.papaya_map_book.proofs.Brings.{made_since}
use Rattle.papaya_map_book.proofs.Loaded.{root_told}
use Rattle.papaya_map_book.proofs.Logs.{name_since, prefix_trans}
use Rattle.papaya_map_book.proofs.Opened.{not_zero, opened_here, opened_lost}
use Rattle.papaya_map_book.proofs.Settings.{is_hashed}
use Rattle.papaya_map_book.proofs.window.Window.open_root.Goals as goal

pub open-found-requires-clause-made : goal.open-found-requires-clause-made
open-found-requires-clause-made g c = made_since c.args.table.now.value c.args.self.now.sight.log c.learn.new.self.log c.learn.ensures.2 c.requires.made

pub returns-then-found-eq0-clause-held : goal.returns-then-found-eq0-clause-held
returns-then-found-eq0-clause-held g c =
    let hash = hash_of g.K.Hash.hash_input g.S.BuildHasher.build_hasher g.S.Hasher.Hasher.write g.S.Hasher.Hasher.finish in
    let b = begun_of c.args.self.now.book.now.parts in let w = c.args.table.now in
    let here = opened_here g.K.PartialEq.eq hash b (w.index + 1) w c.learn.new.self.log c.open-found.result.0 c.open-found.new.sight.log
    c.open-found.result.1.state c.open-found.ensures.tried (ap (λ n. n == 0) c.if-found-eq0.true) refl in
    subst (λ (z : _). IsTable c.open-found.new.sight.log (w.index + 1) z) (sym c.value.ensures) here

pub table_known-known-requires : goal.table_known-known-requires
table_known-known-requires g c =
    let hash = hash_of g.K.Hash.hash_input g.S.BuildHasher.build_hasher g.S.Hasher.Hasher.write g.S.Hasher.Hasher.finish in
    let w = c.args.self.now.book.now in let b = begun_of w.parts in let t = c.open-found.ensures.tried in let found = c.open-found.result.0 in
    let state = c.open-found.result.1.state in
    let hashed = is_hashed g.K.PartialEq.eq g.K.Hash.hash_input g.S.BuildHasher.build_hasher g.S.Hasher.Hasher.write g.S.Hasher.Hasher.finish
    g.met.K.Eq.laws g.met.K.Hash.respects_eq b t.before t.lawful in
    let called = name_since w.begun.log t.before w.begun.book (prefix_trans w.begun.log c.learn.new.self.log t.before c.learn.ensures.3 t.since) w.called in
    let read : IsRead g.K.PartialEq.eq hash b Root found t.before state = record { lawful = t.lawful; is = t.is; state_is = t.state_is } in
    let told = root_told g.K.PartialEq.eq hash b t.before hashed w.begun.book called found state read c.if-found-eq0.false in
    (told.table, cc (c.into_gain.ensures.2, told.gained))

pub token-token-requires-clause-index : goal.token-token-requires-clause-index
token-token-requires-clause-index g c =
    let hash = hash_of g.K.Hash.hash_input g.S.BuildHasher.build_hasher g.S.Hasher.Hasher.write g.S.Hasher.Hasher.finish in
    let w = c.args.self.now.book.now in let b = begun_of w.parts in let t = c.open-found.ensures.tried in let found = c.open-found.result.0 in
    let state = c.open-found.result.1.state in
    let hashed = is_hashed g.K.PartialEq.eq g.K.Hash.hash_input g.S.BuildHasher.build_hasher g.S.Hasher.Hasher.write g.S.Hasher.Hasher.finish
    g.met.K.Eq.laws g.met.K.Hash.respects_eq b t.before t.lawful in
    let called = name_since w.begun.log t.before w.begun.book (prefix_trans w.begun.log c.learn.new.self.log t.before c.learn.ensures.3 t.since) w.called in
    let read : IsRead g.K.PartialEq.eq hash b Root found t.before state = record { lawful = t.lawful; is = t.is; state_is = t.state_is } in
    let told = root_told g.K.PartialEq.eq hash b t.before hashed w.begun.book called found state read c.if-found-eq0.false in
    let answer : c.into_gain.result.answer ≡ Table told.table = cc (c.into_gain.ensures.2, told.gained) in
    let known : c.table_known-known.result.at ≡ told.table = cc (c.table_known-known.ensures, answer) in
    let index : c.table_known-known.result.at.index ≡ told.table.index = ap (λ z. z.index) known in let number = told.number in
    omega arith

pub token-token-requires-clause-fits : goal.token-token-requires-clause-fits
token-token-requires-clause-fits g c =
    let hash = hash_of g.K.Hash.hash_input g.S.BuildHasher.build_hasher g.S.Hasher.Hasher.write g.S.Hasher.Hasher.finish in
    let w = c.args.self.now.book.now in let b = begun_of w.parts in let t = c.open-found.ensures.tried in let found = c.open-found.result.0 in
    let state = c.open-found.result.1.state in
    let hashed = is_hashed g.K.PartialEq.eq g.K.Hash.hash_input g.S.BuildHasher.build_hasher g.S.Hasher.Hasher.write g.S.Hasher.Hasher.finish
    g.met.K.Eq.laws g.met.K.Hash.respects_eq b t.before t.lawful in
    let called = name_since w.begun.log t.before w.begun.book (prefix_trans w.begun.log c.learn.new.self.log t.before c.learn.ensures.3 t.since) w.called in
    let read : IsRead g.K.PartialEq.eq hash b Root found t.before state = record { lawful = t.lawful; is = t.is; state_is = t.state_is } in
    let told = root_told g.K.PartialEq.eq hash b t.before hashed w.begun.book called found state read c.if-found-eq0.false in
    let number = told.number in let fits = told.fits in omega arith

pub value-requires-2 : goal.value-requires-2
value-requires-2 g c =
    let hash = hash_of g.K.Hash.hash_input g.S.BuildHasher.build_hasher g.S.Hasher.Hasher.write g.S.Hasher.Hasher.finish in
    let w = c.args.self.now.book.now in let b = begun_of w.parts in let t = c.open-found.ensures.tried in let found = c.open-found.result.0 in
    let state = c.open-found.result.1.state in
    let hashed = is_hashed g.K.PartialEq.eq g.K.Hash.hash_input g.S.BuildHasher.build_hasher g.S.Hasher.Hasher.write g.S.Hasher.Hasher.finish
    g.met.K.Eq.laws g.met.K.Hash.respects_eq b t.before t.lawful in
    let called = name_since w.begun.log t.before w.begun.book (prefix_trans w.begun.log c.learn.new.self.log t.before c.learn.ensures.3 t.since) w.called in
    let read : IsRead g.K.PartialEq.eq hash b Root found t.before state = record { lawful = t.lawful; is = t.is; state_is = t.state_is } in
    let told = root_told g.K.PartialEq.eq hash b t.before hashed w.begun.book called found state read c.if-found-eq0.false in
    let answer : c.into_gain.result.answer ≡ Table told.table = cc (c.into_gain.ensures.2, told.gained) in
    let known : c.table_known-known.result.at ≡ told.table = cc (c.table_known-known.ensures, answer) in
    let token : c.token-token.result ≡ told.table = c.token-token.ensures ∙ known in
    subst (λ (z : _). Shows b.tables z) (sym token) told.shown

pub returns-clause-held : goal.returns-clause-held
returns-clause-held g c =
    let hash = hash_of g.K.Hash.hash_input g.S.BuildHasher.build_hasher g.S.Hasher.Hasher.write g.S.Hasher.Hasher.finish in
    let w = c.args.self.now.book.now in let b = begun_of w.parts in let t = c.open-found.ensures.tried in let found = c.open-found.result.0 in
    let state = c.open-found.result.1.state in
    let log = c.open-found.new.sight.log in
    let hashed = is_hashed g.K.PartialEq.eq g.K.Hash.hash_input g.S.BuildHasher.build_hasher g.S.Hasher.Hasher.write g.S.Hasher.Hasher.finish
    g.met.K.Eq.laws g.met.K.Hash.respects_eq b t.before t.lawful in
    let called = name_since w.begun.log t.before w.begun.book (prefix_trans w.begun.log c.learn.new.self.log t.before c.learn.ensures.3 t.since) w.called in
    let read : IsRead g.K.PartialEq.eq hash b Root found t.before state = record { lawful = t.lawful; is = t.is; state_is = t.state_is } in
    let told = root_told g.K.PartialEq.eq hash b t.before hashed w.begun.book called found state read c.if-found-eq0.false in
    let answer : c.into_gain.result.answer ≡ Table told.table = cc (c.into_gain.ensures.2, told.gained) in
    let known : c.table_known-known.result.at ≡ told.table = cc (c.table_known-known.ensures, answer) in
    let token : c.token-token.result ≡ told.table = c.token-token.ensures ∙ known in
    let value = c.value-2.ensures ∙ ap (λ z. z.value) token in
    let no = not_zero found c.if-found-eq0.false in
    let same = opened_lost g.K.PartialEq.eq hash b (c.args.table.now.index + 1) c.args.table.now c.learn.new.self.log found log state t no in
    let came : IsTable t.before found c.value-2.result.now = (told.table, told.came, sym value) in
    rw no (subst (λ (z : _). IsTable z found c.value-2.result.now) (sym same) came)
