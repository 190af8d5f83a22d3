use Rattle.std.proofs.Common.{◌≡◌, ◌==◌, true, [], append-nil, rules, refl, ◌∙◌}
use Rattle.std.proofs.lemmas.Bool.{eqb-true}
use Rattle.papaya_call.specs.declared.ask.Answer.TheVariants.{Word}
use Rattle.papaya_call.specs.declared.chain.ask.Answer.TheVariants.{Call}
use Rattle.papaya_map_book.specs.Hashes.{hash_of}
use Rattle.papaya_map_book.specs.Parts.{begun_of}
use Rattle.papaya_map_book.proofs.Loaded.{table_since}
use Rattle.papaya_map_change.specs.Window.Settling.{placing, reading, stop_at}
use Rattle.papaya_map_change.proofs.SettlingTurns.{finds}
use Rattle.papaya_map_change.proofs.SettlingSeen.{TurnsBy, asked, can_on, leaves_on, left_on, low, placed_on}
use Rattle.papaya_map_change.proofs.copier.Copier.put.Goals as goal

pub load_slot-word-requires-clause-place : goal.load_slot-word-requires-clause-place
load_slot-word-requires-clause-place g c =
    let w = c.args.window.now in let site = c.args.site.now in let h = c.args.self.now in let m = c.args.moving.now in
    let eq = g.K.PartialEq.eq in let hash = hash_of g.K.Hash.hash_input g.S.BuildHasher.build_hasher g.S.Hasher.Hasher.write g.S.Hasher.Hasher.finish in
    low w.sight.log w.sight.log ([], append-nil w.sight.log) m.place.table m.place.probe.i
    (asked w site.mode (stop_at w site (reading m) h) c.requires.can) m.to.now c.requires.at.table

pub returns-then-word-ne0-clause-leaves : goal.returns-then-word-ne0-clause-leaves
returns-then-word-ne0-clause-leaves g c =
    let w = c.args.window.now in let site = c.args.site.now in let h = c.args.self.now in let m = c.args.moving.now in
    let eq = g.K.PartialEq.eq in let hash = hash_of g.K.Hash.hash_input g.S.BuildHasher.build_hasher g.S.Hasher.Hasher.write g.S.Hasher.Hasher.finish in
    let one = c.load_slot-word in let w1 = one.new.window in let h1 = one.new.self in
    left_on w w1 one.ensures.sees.book site (reading m) w.sight.log h h1 (Call (Word one.result))
    one.ensures.sees.log
    (record { word = one.result; is = refl; as_loaded = one.ensures.as_loaded; rest = one.ensures.rest }) (c.requires.placed.valid, c.requires.at.within) tt

pub fill-requires-clause-placed : goal.fill-requires-clause-placed
fill-requires-clause-placed g c =
    let w = c.args.window.now in let site = c.args.site.now in let h = c.args.self.now in let m = c.args.moving.now in
    let eq = g.K.PartialEq.eq in let hash = hash_of g.K.Hash.hash_input g.S.BuildHasher.build_hasher g.S.Hasher.Hasher.write g.S.Hasher.Hasher.finish in
    let one = c.load_slot-word in let w1 = one.new.window in let h1 = one.new.self in
    placed_on w w1 one.ensures.sees site c.requires.placed

pub fill-requires-clause-at : goal.fill-requires-clause-at
fill-requires-clause-at g c =
    let w = c.args.window.now in let site = c.args.site.now in let h = c.args.self.now in let m = c.args.moving.now in
    let eq = g.K.PartialEq.eq in let hash = hash_of g.K.Hash.hash_input g.S.BuildHasher.build_hasher g.S.Hasher.Hasher.write g.S.Hasher.Hasher.finish in
    let one = c.load_slot-word in let w1 = one.new.window in let h1 = one.new.self in
    record {
      within = c.requires.at.within;
      table = table_since w.sight.log w1.sight.log m.place.table m.to.now one.ensures.sees.log c.requires.at.table;
    }

pub fill-requires-clause-can : goal.fill-requires-clause-can
fill-requires-clause-can g c =
    let w = c.args.window.now in let site = c.args.site.now in let h = c.args.self.now in let m = c.args.moving.now in
    let eq = g.K.PartialEq.eq in let hash = hash_of g.K.Hash.hash_input g.S.BuildHasher.build_hasher g.S.Hasher.Hasher.write g.S.Hasher.Hasher.finish in
    let one = c.load_slot-word in let w1 = one.new.window in let h1 = one.new.self in
    let is : (one.result == 0) ≡ true = search rules in
    let turn : TurnsBy w site.mode (stop_at w site (reading m) h)
    (stop_at w1 site (placing m) h1) = finds eq hash (begun_of w.book.now.parts)
    w.book.now.begun.book site.mode site.aim site.chunk c.requires.placed.valid w.sight.log h w1.sight.log h1 one.ensures.sees.log
    one.ensures.rest one.result m.marked m.hash m.place c.requires.at.within one.ensures.as_loaded (eqb-true one.result 0 is) in
    can_on w w1 one.ensures.sees.book site.mode (stop_at w site (reading m) h)
    (stop_at w1 site (placing m) h1) c.requires.can turn

pub returns-clause-leaves : goal.returns-clause-leaves
returns-clause-leaves g c =
    let w = c.args.window.now in let site = c.args.site.now in let h = c.args.self.now in let m = c.args.moving.now in
    let eq = g.K.PartialEq.eq in let hash = hash_of g.K.Hash.hash_input g.S.BuildHasher.build_hasher g.S.Hasher.Hasher.write g.S.Hasher.Hasher.finish in
    let one = c.load_slot-word in let w1 = one.new.window in let h1 = one.new.self in
    let is : (one.result == 0) ≡ true = search rules in
    let turn : TurnsBy w site.mode (stop_at w site (reading m) h)
    (stop_at w1 site (placing m) h1) = finds eq hash (begun_of w.book.now.parts)
    w.book.now.begun.book site.mode site.aim site.chunk c.requires.placed.valid w.sight.log h w1.sight.log h1 one.ensures.sees.log
    one.ensures.rest one.result m.marked m.hash m.place c.requires.at.within one.ensures.as_loaded (eqb-true one.result 0 is) in
    let end = c.fill in leaves_on w end.new.window (end.ensures.sees.book ∙ one.ensures.sees.book) site
    (stop_at w site (reading m) h)
    (stop_at w1 site (placing m) h1) end.new.self end.result turn end.ensures.leaves
