use Rattle.std.proofs.Common.{[], append-nil}
use Rattle.papaya_call.specs.declared.copy.settle.Settle.TheVariants.{Finishing}
use Rattle.papaya_map_book.specs.Hashes.{hash_of}
use Rattle.papaya_map_book.specs.Parts.{begun_of}
use Rattle.papaya_map_change.specs.Window.Settling.{stop_at}
use Rattle.papaya_map_change.proofs.SettlingTurns.{finished}
use Rattle.papaya_map_change.proofs.SettlingSeen.{asked, low, settled_on}
use Rattle.papaya_map_change.proofs.copier.Copier.finish.Goals as goal

pub exchange_slot-requires-clause-place : goal.exchange_slot-requires-clause-place
exchange_slot-requires-clause-place g c =
    let w = c.args.window.now in let site = c.args.site.now in let h = c.args.self.now in
    let eq = g.K.PartialEq.eq in let hash = hash_of g.K.Hash.hash_input g.S.BuildHasher.build_hasher g.S.Hasher.Hasher.write g.S.Hasher.Hasher.finish in
    low w.sight.log w.sight.log ([], append-nil w.sight.log) site.chunk.cursor.from site.chunk.at
    (asked w site.mode (stop_at w site (Finishing c.args.marked) h) c.requires.can).0 site.table.now c.requires.placed.table

pub exchange_slot-requires-clause-can : goal.exchange_slot-requires-clause-can
exchange_slot-requires-clause-can g c =
    let w = c.args.window.now in let site = c.args.site.now in let h = c.args.self.now in
    let eq = g.K.PartialEq.eq in let hash = hash_of g.K.Hash.hash_input g.S.BuildHasher.build_hasher g.S.Hasher.Hasher.write g.S.Hasher.Hasher.finish in
    rw c.with_copy-copied.ensures (asked w site.mode (stop_at w site (Finishing c.args.marked) h) c.requires.can).1

pub returns-clause-leaves : goal.returns-clause-leaves
returns-clause-leaves g c =
    let w = c.args.window.now in let site = c.args.site.now in let h = c.args.self.now in
    let eq = g.K.PartialEq.eq in let hash = hash_of g.K.Hash.hash_input g.S.BuildHasher.build_hasher g.S.Hasher.Hasher.write g.S.Hasher.Hasher.finish in
    let one = c.exchange_slot in let w1 = one.new.window in
    let tried = rw c.with_copy-copied.ensures at one.ensures.tried in
    settled_on w w1 one.ensures.sees.book site (stop_at w site (Finishing c.args.marked) h) one.new.self
    (finished eq hash (begun_of w.book.now.parts) w.book.now.begun.book site.mode site.aim site.chunk c.requires.placed.valid w.sight.log h
    w1.sight.log one.new.self one.ensures.sees.log one.ensures.rest c.args.marked one.result tried)
