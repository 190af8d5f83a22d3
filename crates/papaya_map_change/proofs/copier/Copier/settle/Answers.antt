use Rattle.std.proofs.Common.{refl, sym, ◌∙◌}
use Rattle.papaya_call.specs.declared.ask.Answer.TheVariants.{Word}
use Rattle.papaya_call.specs.declared.copy.settle.Settle.TheVariants.{Closing, Looking, Marking}
use Rattle.papaya_call.specs.declared.chain.ask.Answer.TheVariants.{Call}
use Rattle.papaya_map_book.specs.Hashes.{hash_of}
use Rattle.papaya_map_book.specs.Parts.{begun_of}
use Rattle.papaya_map_book.proofs.Logs.{prefix_trans}
use Rattle.papaya_map_change.specs.Window.Settling.{stop_at, stop_seen}
use Rattle.papaya_map_change.proofs.SettlingTurns.{sees_empty, sees_live, sees_settled}
use Rattle.papaya_map_change.proofs.SettlingSeen.{TurnsBy, asked, can_on, leaves_on, left_on, low, placed_on, settled_on}
use Rattle.papaya_map_change.proofs.copier.Copier.settle.Goals as goal

pub load_slot-word-requires-clause-place : goal.load_slot-word-requires-clause-place
load_slot-word-requires-clause-place g c =
    let w = c.args.window.now in let site = c.args.site.now in let h = c.args.self.now in
    let eq = g.K.PartialEq.eq in let hash = hash_of g.K.Hash.hash_input g.S.BuildHasher.build_hasher g.S.Hasher.Hasher.write g.S.Hasher.Hasher.finish in
    let seen = c.requires.waits.0 in let pre = c.requires.waits.1 in
    low seen w.sight.log pre site.chunk.cursor.from site.chunk.at (asked w site.mode (stop_seen seen site h) c.requires.waits.2) site.table.now
    c.requires.placed.table

pub seal_empty-requires-clause-placed : goal.seal_empty-requires-clause-placed
seal_empty-requires-clause-placed g c =
    let w = c.args.window.now in let site = c.args.site.now in let h = c.args.self.now in
    let eq = g.K.PartialEq.eq in let hash = hash_of g.K.Hash.hash_input g.S.BuildHasher.build_hasher g.S.Hasher.Hasher.write g.S.Hasher.Hasher.finish in
    let one = c.load_slot-word in let w1 = one.new.window in let h1 = one.new.self in
    placed_on w w1 one.ensures.sees site c.requires.placed

pub seal_empty-requires-clause-can : goal.seal_empty-requires-clause-can
seal_empty-requires-clause-can g c =
    let w = c.args.window.now in let site = c.args.site.now in let h = c.args.self.now in
    let eq = g.K.PartialEq.eq in let hash = hash_of g.K.Hash.hash_input g.S.BuildHasher.build_hasher g.S.Hasher.Hasher.write g.S.Hasher.Hasher.finish in
    let one = c.load_slot-word in let w1 = one.new.window in let h1 = one.new.self in
    let seen = c.requires.waits.0 in let pre = c.requires.waits.1 in
    let turn : TurnsBy w site.mode (stop_seen seen site h) (stop_at w1 site Closing h1) = sees_empty eq hash (begun_of w.book.now.parts)
    w.book.now.begun.book site.mode site.aim site.chunk c.requires.placed.valid seen h w1.sight.log h1
    (prefix_trans seen w.sight.log w1.sight.log pre one.ensures.sees.log) one.ensures.rest one.result one.ensures.as_loaded
    (sym c.kind.ensures ∙ c.in-Empty.is) in
    can_on w w1 one.ensures.sees.book site.mode (stop_seen seen site h) (stop_at w1 site Closing h1) c.requires.waits.2 turn

pub returns-in-Empty-clause-leaves : goal.returns-in-Empty-clause-leaves
returns-in-Empty-clause-leaves g c =
    λ seen pre.
    let w = c.args.window.now in let site = c.args.site.now in let h = c.args.self.now in
    let eq = g.K.PartialEq.eq in let hash = hash_of g.K.Hash.hash_input g.S.BuildHasher.build_hasher g.S.Hasher.Hasher.write g.S.Hasher.Hasher.finish in
    let one = c.load_slot-word in let w1 = one.new.window in let h1 = one.new.self in
    let turn : TurnsBy w site.mode (stop_seen seen site h) (stop_at w1 site Closing h1) = sees_empty eq hash (begun_of w.book.now.parts)
    w.book.now.begun.book site.mode site.aim site.chunk c.requires.placed.valid seen h w1.sight.log h1
    (prefix_trans seen w.sight.log w1.sight.log pre one.ensures.sees.log) one.ensures.rest one.result one.ensures.as_loaded
    (sym c.kind.ensures ∙ c.in-Empty.is) in
    let end = c.seal_empty in leaves_on w end.new.window (end.ensures.sees.book ∙ one.ensures.sees.book) site (stop_seen seen site h)
    (stop_at w1 site Closing h1) end.new.self end.result turn end.ensures.leaves

pub mark-requires-clause-placed : goal.mark-requires-clause-placed
mark-requires-clause-placed g c =
    let w = c.args.window.now in let site = c.args.site.now in let h = c.args.self.now in
    let eq = g.K.PartialEq.eq in let hash = hash_of g.K.Hash.hash_input g.S.BuildHasher.build_hasher g.S.Hasher.Hasher.write g.S.Hasher.Hasher.finish in
    let one = c.load_slot-word in let w1 = one.new.window in let h1 = one.new.self in
    placed_on w w1 one.ensures.sees site c.requires.placed

pub mark-requires-clause-can : goal.mark-requires-clause-can
mark-requires-clause-can g c =
    let w = c.args.window.now in let site = c.args.site.now in let h = c.args.self.now in
    let eq = g.K.PartialEq.eq in let hash = hash_of g.K.Hash.hash_input g.S.BuildHasher.build_hasher g.S.Hasher.Hasher.write g.S.Hasher.Hasher.finish in
    let one = c.load_slot-word in let w1 = one.new.window in let h1 = one.new.self in
    let seen = c.requires.waits.0 in let pre = c.requires.waits.1 in
    let turn : TurnsBy w site.mode (stop_seen seen site h) (stop_at w1 site (Marking one.result) h1) = sees_live eq hash (begun_of w.book.now.parts)
    w.book.now.begun.book site.mode site.aim site.chunk c.requires.placed.valid seen h w1.sight.log h1
    (prefix_trans seen w.sight.log w1.sight.log pre one.ensures.sees.log) one.ensures.rest one.result one.ensures.as_loaded
    (sym c.kind.ensures ∙ c.in-Live.is) in
    can_on w w1 one.ensures.sees.book site.mode (stop_seen seen site h) (stop_at w1 site (Marking one.result) h1) c.requires.waits.2 turn

pub returns-in-Live-clause-leaves : goal.returns-in-Live-clause-leaves
returns-in-Live-clause-leaves g c =
    λ seen pre.
    let w = c.args.window.now in let site = c.args.site.now in let h = c.args.self.now in
    let eq = g.K.PartialEq.eq in let hash = hash_of g.K.Hash.hash_input g.S.BuildHasher.build_hasher g.S.Hasher.Hasher.write g.S.Hasher.Hasher.finish in
    let one = c.load_slot-word in let w1 = one.new.window in let h1 = one.new.self in
    let turn : TurnsBy w site.mode (stop_seen seen site h) (stop_at w1 site (Marking one.result) h1) = sees_live eq hash (begun_of w.book.now.parts)
    w.book.now.begun.book site.mode site.aim site.chunk c.requires.placed.valid seen h w1.sight.log h1
    (prefix_trans seen w.sight.log w1.sight.log pre one.ensures.sees.log) one.ensures.rest one.result one.ensures.as_loaded
    (sym c.kind.ensures ∙ c.in-Live.is) in
    let end = c.mark in leaves_on w end.new.window (end.ensures.sees.book ∙ one.ensures.sees.book) site (stop_seen seen site h)
    (stop_at w1 site (Marking one.result) h1) end.new.self end.result turn end.ensures.leaves

pub returns-in-Marked-clause-leaves : goal.returns-in-Marked-clause-leaves
returns-in-Marked-clause-leaves g c =
    λ seen pre.
    let w = c.args.window.now in let site = c.args.site.now in let h = c.args.self.now in
    let eq = g.K.PartialEq.eq in let hash = hash_of g.K.Hash.hash_input g.S.BuildHasher.build_hasher g.S.Hasher.Hasher.write g.S.Hasher.Hasher.finish in
    let one = c.load_slot-word in let w1 = one.new.window in let h1 = one.new.self in
    left_on w w1 one.ensures.sees.book site Looking seen h h1 (Call (Word one.result)) (prefix_trans seen w.sight.log w1.sight.log pre one.ensures.sees.log)
    (record { word = one.result; is = refl; as_loaded = one.ensures.as_loaded; rest = one.ensures.rest }) (c.requires.placed.valid, tt) tt

pub returns-in_default-clause-leaves : goal.returns-in_default-clause-leaves
returns-in_default-clause-leaves g c =
    λ seen pre.
    let w = c.args.window.now in let site = c.args.site.now in let h = c.args.self.now in
    let eq = g.K.PartialEq.eq in let hash = hash_of g.K.Hash.hash_input g.S.BuildHasher.build_hasher g.S.Hasher.Hasher.write g.S.Hasher.Hasher.finish in
    let one = c.load_slot-word in let w1 = one.new.window in let h1 = one.new.self in
    settled_on w w1 one.ensures.sees.book site (stop_seen seen site h) h1
    (sees_settled eq hash (begun_of w.book.now.parts) w.book.now.begun.book site.mode site.aim site.chunk c.requires.placed.valid seen h
    w1.sight.log h1 (prefix_trans seen w.sight.log w1.sight.log pre one.ensures.sees.log) one.ensures.rest one.result one.ensures.as_loaded
    (λ e. c.in_default.not-Empty (c.kind.ensures ∙ e)) (λ e. c.in_default.not-Live (c.kind.ensures ∙ e)) (λ e. c.in_default.not-Marked (c.kind.ensures ∙ e)))
