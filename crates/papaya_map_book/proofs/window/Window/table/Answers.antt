use Rattle.std.proofs.Common.{◌≡◌, None, [], ◌∷◌, sym, ap, ◌∙◌, arith, subst}
use Rattle.boxcar.specs.Table.{Shows}
use Rattle.papaya_call.specs.declared.ask.At.TheVariants.{Next}
use Rattle.papaya_map_book.specs.Fetches.{Fetched}
use Rattle.papaya_map_book.specs.Hashes.{hash_of}
use Rattle.papaya_map_book.specs.Logs.{place_of}
use Rattle.papaya_map_book.specs.Makers.{table_of}
use Rattle.papaya_map_book.specs.Parts.{begun_of}
use Rattle.papaya_map_book.specs.declared.rule.entry.Event.TheVariants.{Begin, Wish}
use Rattle.papaya_map_book.specs.declared.rule.entry.Named.TheVariants.{Nothing, Table}
use Rattle.papaya_map_book.proofs.Fetching.{fetched_lawful, fetched_told, fetches_moves}
use Rattle.papaya_map_book.proofs.Logs.{name_since, prefix_trans}
use Rattle.papaya_map_book.proofs.Settings.{is_hashed}
use Rattle.papaya_map_book.proofs.Tellings.{first_prefix}
use Rattle.papaya_map_book.proofs.window.Window.table.Goals as goal

pub load-requires : goal.load-requires
load-requires g c =
    let root = c.args.self.now.book.now.root_is in
    let hash = hash_of g.K.Hash.hash_input g.S.BuildHasher.build_hasher g.S.Hasher.Hasher.write g.S.Hasher.Hasher.finish in (
      ap (λ w. w.tracked) root,
      c.learn.ensures.0 ∙ (c.args.self.now.same_book ∙ sym (ap (λ w. w.book) root)),
      c.bare-offer.ensures.0,
      rw (ap (λ w. w.key) root, c.bare-offer.ensures.1, c.bare-offer.ensures.3)
          (fetches_moves g.K.PartialEq.eq hash c.learn.new.self.log (Wish (Next c.args.number) None None Nothing) tt),
    )

pub table_known-known-requires : goal.table_known-known-requires
table_known-known-requires g c =
    let hash = hash_of g.K.Hash.hash_input g.S.BuildHasher.build_hasher g.S.Hasher.Hasher.write g.S.Hasher.Hasher.finish in
    let w = c.args.self.now.book.now in let b = begun_of w.parts in let log = c.load.new.seen.log in let number = c.args.number in
    let learned = prefix_trans w.begun.log c.learn.new.self.log log c.learn.ensures.3 c.load.ensures.5 in
    let fetched : Fetched g.K.PartialEq.eq hash number log
    c.load.new.offer.state = subst (λ (z : _). Fetched g.K.PartialEq.eq hash (table_of (place_of z)) log c.load.new.offer.state)
    c.bare-offer.ensures.1 c.load.ensures.6.1 in
    let began = prefix_trans (Begin b ∷ []) w.begun.log log (first_prefix (Begin b) w.begun.log w.begins) learned in
    let hashed = is_hashed g.K.PartialEq.eq g.K.Hash.hash_input g.S.BuildHasher.build_hasher g.S.Hasher.Hasher.write g.S.Hasher.Hasher.finish
    g.met.K.Eq.laws g.met.K.Hash.respects_eq b log (fetched_lawful g.K.PartialEq.eq hash b log began number c.load.new.offer.state fetched) in
    let told = fetched_told g.K.PartialEq.eq hash b log began number c.load.new.offer.state fetched hashed w.begun.book
    (name_since w.begun.log log w.begun.book learned w.called) c.args.self.now.sight.log
    (prefix_trans c.args.self.now.sight.log c.learn.new.self.log log c.learn.ensures.2 c.load.ensures.5) c.requires.come in
    (told.table, cc (c.into_gain.ensures.2, told.gained))

pub token-token-requires-clause-index : goal.token-token-requires-clause-index
token-token-requires-clause-index g c =
    let hash = hash_of g.K.Hash.hash_input g.S.BuildHasher.build_hasher g.S.Hasher.Hasher.write g.S.Hasher.Hasher.finish in
    let w = c.args.self.now.book.now in let b = begun_of w.parts in let log = c.load.new.seen.log in let number = c.args.number in
    let learned = prefix_trans w.begun.log c.learn.new.self.log log c.learn.ensures.3 c.load.ensures.5 in
    let fetched : Fetched g.K.PartialEq.eq hash number log
    c.load.new.offer.state = subst (λ (z : _). Fetched g.K.PartialEq.eq hash (table_of (place_of z)) log c.load.new.offer.state)
    c.bare-offer.ensures.1 c.load.ensures.6.1 in
    let began = prefix_trans (Begin b ∷ []) w.begun.log log (first_prefix (Begin b) w.begun.log w.begins) learned in
    let hashed = is_hashed g.K.PartialEq.eq g.K.Hash.hash_input g.S.BuildHasher.build_hasher g.S.Hasher.Hasher.write g.S.Hasher.Hasher.finish
    g.met.K.Eq.laws g.met.K.Hash.respects_eq b log (fetched_lawful g.K.PartialEq.eq hash b log began number c.load.new.offer.state fetched) in
    let told = fetched_told g.K.PartialEq.eq hash b log began number c.load.new.offer.state fetched hashed w.begun.book
    (name_since w.begun.log log w.begun.book learned w.called) c.args.self.now.sight.log
    (prefix_trans c.args.self.now.sight.log c.learn.new.self.log log c.learn.ensures.2 c.load.ensures.5) c.requires.come in
    let answer : c.into_gain.result.answer ≡ Table told.table = cc (c.into_gain.ensures.2, told.gained) in
    let known : c.table_known-known.result.at ≡ told.table = cc (c.table_known-known.ensures, answer) in
    let index : c.table_known-known.result.at.index ≡ told.table.index = ap (λ z. z.index) known in let is = told.number in
    omega arith

pub overflow_sub-number : goal.overflow_sub-number
overflow_sub-number g c =
    let hash = hash_of g.K.Hash.hash_input g.S.BuildHasher.build_hasher g.S.Hasher.Hasher.write g.S.Hasher.Hasher.finish in
    let w = c.args.self.now.book.now in let b = begun_of w.parts in let log = c.load.new.seen.log in let number = c.args.number in
    let learned = prefix_trans w.begun.log c.learn.new.self.log log c.learn.ensures.3 c.load.ensures.5 in
    let fetched : Fetched g.K.PartialEq.eq hash number log
    c.load.new.offer.state = subst (λ (z : _). Fetched g.K.PartialEq.eq hash (table_of (place_of z)) log c.load.new.offer.state)
    c.bare-offer.ensures.1 c.load.ensures.6.1 in
    let began = prefix_trans (Begin b ∷ []) w.begun.log log (first_prefix (Begin b) w.begun.log w.begins) learned in
    let hashed = is_hashed g.K.PartialEq.eq g.K.Hash.hash_input g.S.BuildHasher.build_hasher g.S.Hasher.Hasher.write g.S.Hasher.Hasher.finish
    g.met.K.Eq.laws g.met.K.Hash.respects_eq b log (fetched_lawful g.K.PartialEq.eq hash b log began number c.load.new.offer.state fetched) in
    let told = fetched_told g.K.PartialEq.eq hash b log began number c.load.new.offer.state fetched hashed w.begun.book
    (name_since w.begun.log log w.begun.book learned w.called) c.args.self.now.sight.log
    (prefix_trans c.args.self.now.sight.log c.learn.new.self.log log c.learn.ensures.2 c.load.ensures.5) c.requires.come in
    let is = told.number in omega arith

pub token-token-requires-clause-fits : goal.token-token-requires-clause-fits
token-token-requires-clause-fits g c =
    let hash = hash_of g.K.Hash.hash_input g.S.BuildHasher.build_hasher g.S.Hasher.Hasher.write g.S.Hasher.Hasher.finish in
    let w = c.args.self.now.book.now in let b = begun_of w.parts in let log = c.load.new.seen.log in let number = c.args.number in
    let learned = prefix_trans w.begun.log c.learn.new.self.log log c.learn.ensures.3 c.load.ensures.5 in
    let fetched : Fetched g.K.PartialEq.eq hash number log
    c.load.new.offer.state = subst (λ (z : _). Fetched g.K.PartialEq.eq hash (table_of (place_of z)) log c.load.new.offer.state)
    c.bare-offer.ensures.1 c.load.ensures.6.1 in
    let began = prefix_trans (Begin b ∷ []) w.begun.log log (first_prefix (Begin b) w.begun.log w.begins) learned in
    let hashed = is_hashed g.K.PartialEq.eq g.K.Hash.hash_input g.S.BuildHasher.build_hasher g.S.Hasher.Hasher.write g.S.Hasher.Hasher.finish
    g.met.K.Eq.laws g.met.K.Hash.respects_eq b log (fetched_lawful g.K.PartialEq.eq hash b log began number c.load.new.offer.state fetched) in
    let told = fetched_told g.K.PartialEq.eq hash b log began number c.load.new.offer.state fetched hashed w.begun.book
    (name_since w.begun.log log w.begun.book learned w.called) c.args.self.now.sight.log
    (prefix_trans c.args.self.now.sight.log c.learn.new.self.log log c.learn.ensures.2 c.load.ensures.5) c.requires.come in
    let is = told.number in let fits = told.fits in omega arith

pub value-requires : goal.value-requires
value-requires g c =
    let hash = hash_of g.K.Hash.hash_input g.S.BuildHasher.build_hasher g.S.Hasher.Hasher.write g.S.Hasher.Hasher.finish in
    let w = c.args.self.now.book.now in let b = begun_of w.parts in let log = c.load.new.seen.log in let number = c.args.number in
    let learned = prefix_trans w.begun.log c.learn.new.self.log log c.learn.ensures.3 c.load.ensures.5 in
    let fetched : Fetched g.K.PartialEq.eq hash number log
    c.load.new.offer.state = subst (λ (z : _). Fetched g.K.PartialEq.eq hash (table_of (place_of z)) log c.load.new.offer.state)
    c.bare-offer.ensures.1 c.load.ensures.6.1 in
    let began = prefix_trans (Begin b ∷ []) w.begun.log log (first_prefix (Begin b) w.begun.log w.begins) learned in
    let hashed = is_hashed g.K.PartialEq.eq g.K.Hash.hash_input g.S.BuildHasher.build_hasher g.S.Hasher.Hasher.write g.S.Hasher.Hasher.finish
    g.met.K.Eq.laws g.met.K.Hash.respects_eq b log (fetched_lawful g.K.PartialEq.eq hash b log began number c.load.new.offer.state fetched) in
    let told = fetched_told g.K.PartialEq.eq hash b log began number c.load.new.offer.state fetched hashed w.begun.book
    (name_since w.begun.log log w.begun.book learned w.called) c.args.self.now.sight.log
    (prefix_trans c.args.self.now.sight.log c.learn.new.self.log log c.learn.ensures.2 c.load.ensures.5) c.requires.come in
    let answer : c.into_gain.result.answer ≡ Table told.table = cc (c.into_gain.ensures.2, told.gained) in
    let known : c.table_known-known.result.at ≡ told.table = cc (c.table_known-known.ensures, answer) in
    let token : c.token-token.result ≡ told.table = c.token-token.ensures ∙ known in
    subst (λ (z : _). Shows b.tables z) (sym token) told.shown

pub returns-clause-table : goal.returns-clause-table
returns-clause-table g c =
    let hash = hash_of g.K.Hash.hash_input g.S.BuildHasher.build_hasher g.S.Hasher.Hasher.write g.S.Hasher.Hasher.finish in
    let w = c.args.self.now.book.now in let b = begun_of w.parts in let log = c.load.new.seen.log in let number = c.args.number in
    let learned = prefix_trans w.begun.log c.learn.new.self.log log c.learn.ensures.3 c.load.ensures.5 in
    let fetched : Fetched g.K.PartialEq.eq hash number log
    c.load.new.offer.state = subst (λ (z : _). Fetched g.K.PartialEq.eq hash (table_of (place_of z)) log c.load.new.offer.state)
    c.bare-offer.ensures.1 c.load.ensures.6.1 in
    let began = prefix_trans (Begin b ∷ []) w.begun.log log (first_prefix (Begin b) w.begun.log w.begins) learned in
    let hashed = is_hashed g.K.PartialEq.eq g.K.Hash.hash_input g.S.BuildHasher.build_hasher g.S.Hasher.Hasher.write g.S.Hasher.Hasher.finish
    g.met.K.Eq.laws g.met.K.Hash.respects_eq b log (fetched_lawful g.K.PartialEq.eq hash b log began number c.load.new.offer.state fetched) in
    let told = fetched_told g.K.PartialEq.eq hash b log began number c.load.new.offer.state fetched hashed w.begun.book
    (name_since w.begun.log log w.begun.book learned w.called) c.args.self.now.sight.log
    (prefix_trans c.args.self.now.sight.log c.learn.new.self.log log c.learn.ensures.2 c.load.ensures.5) c.requires.come in
    let answer : c.into_gain.result.answer ≡ Table told.table = cc (c.into_gain.ensures.2, told.gained) in
    let known : c.table_known-known.result.at ≡ told.table = cc (c.table_known-known.ensures, answer) in
    let token : c.token-token.result ≡ told.table = c.token-token.ensures ∙ known in
    let value : c.value.result.now ≡ told.table.value = c.value.ensures ∙ ap (λ z. z.value) token in
    (told.table, told.came, sym value)
