use Rattle.std.proofs.Common.{refl, ◌∙◌, subst}
use Rattle.papaya_call.specs.declared.search.Place.{Place}
use Rattle.papaya_call.specs.Search.{IsWithin, first_place}
use Rattle.papaya_call.specs.declared.copy.carry.Carry.TheVariants.{Hashing, Looking as Looking_at, Sizing}
use Rattle.papaya_call.specs.declared.copy.settle.Settle.TheVariants.{Carrying}
use Rattle.papaya_map_book.specs.Hashes.{hash_of}
use Rattle.papaya_map_book.specs.Parts.{begun_of}
use Rattle.papaya_map_book.proofs.Loaded.{table_since}
use Rattle.papaya_map_book.proofs.Logs.{prefix_trans}
use Rattle.papaya_map_change.specs.Copier.{IsSizeOf}
use Rattle.papaya_map_change.specs.Window.Settling.{Leaves, stop_at}
use Rattle.papaya_map_change.proofs.SettlingTurns.{hashes, sizes_next}
use Rattle.papaya_map_change.proofs.SettlingSeen.{TurnsBy, asked, can_on, leaves_on, placed_on}
use Rattle.papaya_map_change.proofs.copier.Copier.transfer.Goals as goal

pub carry-hash-requires-clause-some : goal.carry-hash-requires-clause-some
carry-hash-requires-clause-some g c =
    let w = c.args.window.now in let site = c.args.site.now in let h = c.args.self.now in
    let eq = g.K.PartialEq.eq in let hash = hash_of g.K.Hash.hash_input g.S.BuildHasher.build_hasher g.S.Hasher.Hasher.write g.S.Hasher.Hasher.finish in
    (asked w site.mode (stop_at w site (Carrying c.args.marked (Hashing site.chunk.cursor.to)) h) c.requires.can).some

pub carry-hash-requires-clause-placed : goal.carry-hash-requires-clause-placed
carry-hash-requires-clause-placed g c =
    let w = c.args.window.now in let site = c.args.site.now in let h = c.args.self.now in
    let eq = g.K.PartialEq.eq in let hash = hash_of g.K.Hash.hash_input g.S.BuildHasher.build_hasher g.S.Hasher.Hasher.write g.S.Hasher.Hasher.finish in
    (asked w site.mode (stop_at w site (Carrying c.args.marked (Hashing site.chunk.cursor.to)) h) c.requires.can).placed

pub table-to-requires : goal.table-to-requires
table-to-requires g c =
    let w = c.args.window.now in let site = c.args.site.now in let h = c.args.self.now in
    let eq = g.K.PartialEq.eq in let hash = hash_of g.K.Hash.hash_input g.S.BuildHasher.build_hasher g.S.Hasher.Hasher.write g.S.Hasher.Hasher.finish in
    let one = c.carry-hash in let h1 = one.new.self in
    let turn : TurnsBy w site.mode (stop_at w site (Carrying c.args.marked (Hashing site.chunk.cursor.to)) h)
    (stop_at w site (Carrying c.args.marked (Sizing c.carry-hash.result site.chunk.cursor.to)) h1) = hashes eq hash (begun_of w.book.now.parts)
    w.book.now.begun.book site.mode site.aim site.chunk c.requires.placed.valid w.sight.log h h1 c.args.marked site.chunk.cursor.to one.result
    one.ensures.carries one.ensures.rest in
    let can = can_on w w refl site.mode (stop_at w site (Carrying c.args.marked (Hashing site.chunk.cursor.to)) h)
    (stop_at w site (Carrying c.args.marked (Sizing c.carry-hash.result site.chunk.cursor.to)) h1) c.requires.can turn in
    record { come = asked w site.mode (stop_at w site (Carrying c.args.marked (Sizing c.carry-hash.result site.chunk.cursor.to)) h1) can }

pub seek-requires-clause-placed : goal.seek-requires-clause-placed
seek-requires-clause-placed g c =
    let w = c.args.window.now in let site = c.args.site.now in let h = c.args.self.now in
    let eq = g.K.PartialEq.eq in let hash = hash_of g.K.Hash.hash_input g.S.BuildHasher.build_hasher g.S.Hasher.Hasher.write g.S.Hasher.Hasher.finish in
    placed_on (c.table-to.new.self) (c.size_at-len.new.window) c.size_at-len.ensures.sees site
    (placed_on w (c.table-to.new.self) c.table-to.ensures.sees site c.requires.placed)

pub seek-requires-clause-at : goal.seek-requires-clause-at
seek-requires-clause-at g c =
    let w = c.args.window.now in let site = c.args.site.now in let h = c.args.self.now in
    let eq = g.K.PartialEq.eq in let hash = hash_of g.K.Hash.hash_input g.S.BuildHasher.build_hasher g.S.Hasher.Hasher.write g.S.Hasher.Hasher.finish in
    let one = c.carry-hash in let h1 = one.new.self in
    let turn : TurnsBy w site.mode (stop_at w site (Carrying c.args.marked (Hashing site.chunk.cursor.to)) h)
    (stop_at w site (Carrying c.args.marked (Sizing c.carry-hash.result site.chunk.cursor.to)) h1) = hashes eq hash (begun_of w.book.now.parts)
    w.book.now.begun.book site.mode site.aim site.chunk c.requires.placed.valid w.sight.log h h1 c.args.marked site.chunk.cursor.to one.result
    one.ensures.carries one.ensures.rest in
    let can = can_on w w refl site.mode (stop_at w site (Carrying c.args.marked (Hashing site.chunk.cursor.to)) h)
    (stop_at w site (Carrying c.args.marked (Sizing c.carry-hash.result site.chunk.cursor.to)) h1) c.requires.can turn in
    let two = c.size_at-len in let w1 = c.table-to.new.self in let w2 = two.new.window in
    let first = first_place one.result site.chunk.cursor.to two.result.0 two.result.1 in
    let same = two.ensures.sees.book ∙ c.table-to.ensures.sees.book in
    let size_of = subst (λ (z : _). IsSizeOf eq hash (begun_of z.now.parts) z.now.begun.book site.chunk.cursor.to w2.sight.log two.result)
    c.table-to.ensures.sees.book two.ensures.size in
    let pre = prefix_trans w.sight.log w1.sight.log w2.sight.log c.table-to.ensures.sees.log two.ensures.sees.log in
    let within : IsWithin first = subst IsWithin c.first-place.ensures.value c.first-place.ensures.within in
    let on : TurnsBy w site.mode (stop_at w site (Carrying c.args.marked (Sizing c.carry-hash.result site.chunk.cursor.to)) h1)
    (stop_at w2 site (Carrying c.args.marked (Looking_at c.carry-hash.result first)) h1) = sizes_next eq hash (begun_of w.book.now.parts)
    w.book.now.begun.book site.mode site.aim site.chunk c.requires.placed.valid w.sight.log h1 w2.sight.log h1 pre c.args.marked one.result
    site.chunk.cursor.to two.result size_of refl within in
    record {
      within = c.first-place.ensures.within;
      table = rw c.first-place.ensures.value (table_since w1.sight.log w2.sight.log site.chunk.cursor.to c.table-to.result.now two.ensures.sees.log
          c.table-to.ensures.table);
    }

pub seek-requires-clause-can : goal.seek-requires-clause-can
seek-requires-clause-can g c =
    let w = c.args.window.now in let site = c.args.site.now in let h = c.args.self.now in
    let eq = g.K.PartialEq.eq in let hash = hash_of g.K.Hash.hash_input g.S.BuildHasher.build_hasher g.S.Hasher.Hasher.write g.S.Hasher.Hasher.finish in
    let one = c.carry-hash in let h1 = one.new.self in
    let turn : TurnsBy w site.mode (stop_at w site (Carrying c.args.marked (Hashing site.chunk.cursor.to)) h)
    (stop_at w site (Carrying c.args.marked (Sizing c.carry-hash.result site.chunk.cursor.to)) h1) = hashes eq hash (begun_of w.book.now.parts)
    w.book.now.begun.book site.mode site.aim site.chunk c.requires.placed.valid w.sight.log h h1 c.args.marked site.chunk.cursor.to one.result
    one.ensures.carries one.ensures.rest in
    let can = can_on w w refl site.mode (stop_at w site (Carrying c.args.marked (Hashing site.chunk.cursor.to)) h)
    (stop_at w site (Carrying c.args.marked (Sizing c.carry-hash.result site.chunk.cursor.to)) h1) c.requires.can turn in
    let two = c.size_at-len in let w1 = c.table-to.new.self in let w2 = two.new.window in
    let first = first_place one.result site.chunk.cursor.to two.result.0 two.result.1 in
    let same = two.ensures.sees.book ∙ c.table-to.ensures.sees.book in
    let size_of = subst (λ (z : _). IsSizeOf eq hash (begun_of z.now.parts) z.now.begun.book site.chunk.cursor.to w2.sight.log two.result)
    c.table-to.ensures.sees.book two.ensures.size in
    let pre = prefix_trans w.sight.log w1.sight.log w2.sight.log c.table-to.ensures.sees.log two.ensures.sees.log in
    let within : IsWithin first = subst IsWithin c.first-place.ensures.value c.first-place.ensures.within in
    let on : TurnsBy w site.mode (stop_at w site (Carrying c.args.marked (Sizing c.carry-hash.result site.chunk.cursor.to)) h1)
    (stop_at w2 site (Carrying c.args.marked (Looking_at c.carry-hash.result first)) h1) = sizes_next eq hash (begun_of w.book.now.parts)
    w.book.now.begun.book site.mode site.aim site.chunk c.requires.placed.valid w.sight.log h1 w2.sight.log h1 pre c.args.marked one.result
    site.chunk.cursor.to two.result size_of refl within in
    rw c.first-place.ensures.value (can_on w w2 same site.mode
    (stop_at w site (Carrying c.args.marked (Sizing c.carry-hash.result site.chunk.cursor.to)) h1)
    (stop_at w2 site (Carrying c.args.marked (Looking_at c.carry-hash.result first)) h1) can on)

pub returns-clause-leaves : goal.returns-clause-leaves
returns-clause-leaves g c =
    let w = c.args.window.now in let site = c.args.site.now in let h = c.args.self.now in
    let eq = g.K.PartialEq.eq in let hash = hash_of g.K.Hash.hash_input g.S.BuildHasher.build_hasher g.S.Hasher.Hasher.write g.S.Hasher.Hasher.finish in
    let one = c.carry-hash in let h1 = one.new.self in
    let turn : TurnsBy w site.mode (stop_at w site (Carrying c.args.marked (Hashing site.chunk.cursor.to)) h)
    (stop_at w site (Carrying c.args.marked (Sizing c.carry-hash.result site.chunk.cursor.to)) h1) = hashes eq hash (begun_of w.book.now.parts)
    w.book.now.begun.book site.mode site.aim site.chunk c.requires.placed.valid w.sight.log h h1 c.args.marked site.chunk.cursor.to one.result
    one.ensures.carries one.ensures.rest in
    let can = can_on w w refl site.mode (stop_at w site (Carrying c.args.marked (Hashing site.chunk.cursor.to)) h)
    (stop_at w site (Carrying c.args.marked (Sizing c.carry-hash.result site.chunk.cursor.to)) h1) c.requires.can turn in
    let two = c.size_at-len in let w1 = c.table-to.new.self in let w2 = two.new.window in
    let first = first_place one.result site.chunk.cursor.to two.result.0 two.result.1 in
    let same = two.ensures.sees.book ∙ c.table-to.ensures.sees.book in
    let size_of = subst (λ (z : _). IsSizeOf eq hash (begun_of z.now.parts) z.now.begun.book site.chunk.cursor.to w2.sight.log two.result)
    c.table-to.ensures.sees.book two.ensures.size in
    let pre = prefix_trans w.sight.log w1.sight.log w2.sight.log c.table-to.ensures.sees.log two.ensures.sees.log in
    let within : IsWithin first = subst IsWithin c.first-place.ensures.value c.first-place.ensures.within in
    let on : TurnsBy w site.mode (stop_at w site (Carrying c.args.marked (Sizing c.carry-hash.result site.chunk.cursor.to)) h1)
    (stop_at w2 site (Carrying c.args.marked (Looking_at c.carry-hash.result first)) h1) = sizes_next eq hash (begun_of w.book.now.parts)
    w.book.now.begun.book site.mode site.aim site.chunk c.requires.placed.valid w.sight.log h1 w2.sight.log h1 pre c.args.marked one.result
    site.chunk.cursor.to two.result size_of refl within in
    let end = c.seek in let w3 = end.new.window in let all = end.ensures.sees.book ∙ same in
    let left = subst (λ (z : Place). Leaves w2 site (Carrying c.args.marked (Looking_at one.result z)) h1 w3 end.new.self end.result)
    c.first-place.ensures.value end.ensures.leaves in
    leaves_on w w3 all site (stop_at w site (Carrying c.args.marked (Hashing site.chunk.cursor.to)) h)
    (stop_at w site (Carrying c.args.marked (Sizing c.carry-hash.result site.chunk.cursor.to)) h1) end.new.self end.result turn
    (leaves_on w w3 all site (stop_at w site (Carrying c.args.marked (Sizing c.carry-hash.result site.chunk.cursor.to)) h1)
    (stop_at w2 site (Carrying c.args.marked (Looking_at c.carry-hash.result first)) h1) end.new.self end.result on left)
