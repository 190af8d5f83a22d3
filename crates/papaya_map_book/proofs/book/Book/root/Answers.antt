use Rattle.std.proofs.Common.{◌≡◌, sym, ap, ◌∙◌, arith, subst}
use Rattle.papaya_map_book.specs.Hashes.{hash_of}
use Rattle.papaya_map_book.specs.Parts.{begun_of}
use Rattle.papaya_map_book.specs.declared.rule.entry.Named.TheVariants.{Table}
use Rattle.papaya_map_book.proofs.Logs.{name_since, prefix_trans}
use Rattle.papaya_map_book.proofs.Loaded.{root_told}
use Rattle.papaya_map_book.proofs.Settings.{is_hashed}
use Rattle.papaya_map_book.proofs.book.Book.root.Goals as goal

pub table_known-known-requires : goal.table_known-known-requires
table_known-known-requires g c =
    let hash = hash_of g.K.Hash.hash_input g.S.BuildHasher.build_hasher g.S.Hasher.Hasher.write g.S.Hasher.Hasher.finish in
    let w = c.args.self.now in let b = begun_of w.parts in let log = c.read-found.new.sight.log in let found = c.read-found.result.0 in
    let r = c.read-found.ensures.read in
    let hashed = is_hashed g.K.PartialEq.eq g.K.Hash.hash_input g.S.BuildHasher.build_hasher g.S.Hasher.Hasher.write g.S.Hasher.Hasher.finish
    g.met.K.Eq.laws g.met.K.Hash.respects_eq b log r.lawful in
    let called = name_since w.begun.log log w.begun.book
    (prefix_trans w.begun.log c.learn.new.self.log log c.learn.ensures.3 c.read-found.ensures.seen) w.called in
    let told = root_told g.K.PartialEq.eq hash b log hashed w.begun.book called found c.read-found.result.1.state r c.if-found-eq0.false in
    (told.table, cc (c.into_gain.ensures.2, told.gained))

pub token-token-requires-clause-index : goal.token-token-requires-clause-index
token-token-requires-clause-index g c =
    let hash = hash_of g.K.Hash.hash_input g.S.BuildHasher.build_hasher g.S.Hasher.Hasher.write g.S.Hasher.Hasher.finish in
    let w = c.args.self.now in let b = begun_of w.parts in let log = c.read-found.new.sight.log in let found = c.read-found.result.0 in
    let r = c.read-found.ensures.read in
    let hashed = is_hashed g.K.PartialEq.eq g.K.Hash.hash_input g.S.BuildHasher.build_hasher g.S.Hasher.Hasher.write g.S.Hasher.Hasher.finish
    g.met.K.Eq.laws g.met.K.Hash.respects_eq b log r.lawful in
    let called = name_since w.begun.log log w.begun.book
    (prefix_trans w.begun.log c.learn.new.self.log log c.learn.ensures.3 c.read-found.ensures.seen) w.called in
    let told = root_told g.K.PartialEq.eq hash b log hashed w.begun.book called found c.read-found.result.1.state r c.if-found-eq0.false in
    let answer : c.into_gain.result.answer ≡ Table told.table = cc (c.into_gain.ensures.2, told.gained) in
    let known : c.table_known-known.result.at ≡ told.table = cc (c.table_known-known.ensures, answer) in
    let index : c.table_known-known.result.at.index ≡ told.table.index = ap (λ z. z.index) known in let number = told.number in
    omega arith

pub token-token-requires-clause-fits : goal.token-token-requires-clause-fits
token-token-requires-clause-fits g c =
    let hash = hash_of g.K.Hash.hash_input g.S.BuildHasher.build_hasher g.S.Hasher.Hasher.write g.S.Hasher.Hasher.finish in
    let w = c.args.self.now in let b = begun_of w.parts in let log = c.read-found.new.sight.log in let found = c.read-found.result.0 in
    let r = c.read-found.ensures.read in
    let hashed = is_hashed g.K.PartialEq.eq g.K.Hash.hash_input g.S.BuildHasher.build_hasher g.S.Hasher.Hasher.write g.S.Hasher.Hasher.finish
    g.met.K.Eq.laws g.met.K.Hash.respects_eq b log r.lawful in
    let called = name_since w.begun.log log w.begun.book
    (prefix_trans w.begun.log c.learn.new.self.log log c.learn.ensures.3 c.read-found.ensures.seen) w.called in
    let told = root_told g.K.PartialEq.eq hash b log hashed w.begun.book called found c.read-found.result.1.state r c.if-found-eq0.false in
    let number = told.number in let fits = told.fits in omega arith

pub value-requires : goal.value-requires
value-requires g c =
    let hash = hash_of g.K.Hash.hash_input g.S.BuildHasher.build_hasher g.S.Hasher.Hasher.write g.S.Hasher.Hasher.finish in
    let w = c.args.self.now in let b = begun_of w.parts in let log = c.read-found.new.sight.log in let found = c.read-found.result.0 in
    let r = c.read-found.ensures.read in
    let hashed = is_hashed g.K.PartialEq.eq g.K.Hash.hash_input g.S.BuildHasher.build_hasher g.S.Hasher.Hasher.write g.S.Hasher.Hasher.finish
    g.met.K.Eq.laws g.met.K.Hash.respects_eq b log r.lawful in
    let called = name_since w.begun.log log w.begun.book
    (prefix_trans w.begun.log c.learn.new.self.log log c.learn.ensures.3 c.read-found.ensures.seen) w.called in
    let told = root_told g.K.PartialEq.eq hash b log hashed w.begun.book called found c.read-found.result.1.state r c.if-found-eq0.false in
    let answer : c.into_gain.result.answer ≡ Table told.table = cc (c.into_gain.ensures.2, told.gained) in
    let known : c.table_known-known.result.at ≡ told.table = cc (c.table_known-known.ensures, answer) in
    let token : c.token-token.result ≡ told.table = c.token-token.ensures ∙ known in
    subst (λ (z : _). Rattle.boxcar.specs.Table.Shows b.tables z) (sym token) told.shown

pub returns-clause-root : goal.returns-clause-root
returns-clause-root g c =
    let hash = hash_of g.K.Hash.hash_input g.S.BuildHasher.build_hasher g.S.Hasher.Hasher.write g.S.Hasher.Hasher.finish in
    let w = c.args.self.now in let b = begun_of w.parts in let log = c.read-found.new.sight.log in let found = c.read-found.result.0 in
    let r = c.read-found.ensures.read in
    let hashed = is_hashed g.K.PartialEq.eq g.K.Hash.hash_input g.S.BuildHasher.build_hasher g.S.Hasher.Hasher.write g.S.Hasher.Hasher.finish
    g.met.K.Eq.laws g.met.K.Hash.respects_eq b log r.lawful in
    let called = name_since w.begun.log log w.begun.book
    (prefix_trans w.begun.log c.learn.new.self.log log c.learn.ensures.3 c.read-found.ensures.seen) w.called in
    let told = root_told g.K.PartialEq.eq hash b log hashed w.begun.book called found c.read-found.result.1.state r c.if-found-eq0.false in
    let answer : c.into_gain.result.answer ≡ Table told.table = cc (c.into_gain.ensures.2, told.gained) in
    let known : c.table_known-known.result.at ≡ told.table = cc (c.table_known-known.ensures, answer) in
    let token : c.token-token.result ≡ told.table = c.token-token.ensures ∙ known in
    let value : c.value.result.now ≡ told.table.value = c.value.ensures ∙ ap (λ z. z.value) token in
    record { lawful = r.lawful; is = r.is; names = ((told.table, told.came, sym value), ap (λ (s : _). s.book) value ∙ told.book) }
