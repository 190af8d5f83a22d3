use Rattle.std.proofs.Common.{◌≡◌, ℕ, ◌==◌, true, false, Some, [], append-nil, rules, ◌∙◌, subst}
use Rattle.std.proofs.lemmas.Bool.{eqb-false, eqb-true}
use Rattle.papaya_call.specs.declared.ask.Answer.TheVariants.{Found}
use Rattle.papaya_call.specs.declared.ask.StepKind.TheVariants as kinds
use Rattle.papaya_call.specs.declared.copy.carry.Carry.TheVariants.{Hashing}
use Rattle.papaya_call.specs.declared.copy.settle.Settle.TheVariants.{Carrying, Marking}
use Rattle.papaya_call.specs.Settle.{marked_as}
use Rattle.papaya_call.specs.declared.chain.ask.Answer.TheVariants.{Call}
use Rattle.papaya_map_book.specs.Hashes.{hash_of}
use Rattle.papaya_map_book.specs.Parts.{begun_of}
use Rattle.papaya_map_change.specs.Window.Settling.{Leaves, stop_at}
use Rattle.papaya_map_change.proofs.SettlingTurns.{lost, marks}
use Rattle.papaya_map_change.proofs.SettlingSeen.{TurnsBy, asked, can_on, leaves_on, left_on, low, placed_on}
use Rattle.papaya_map_change.proofs.copier.Copier.mark.Goals as goal

pub exchange_slot-found-requires-clause-place : goal.exchange_slot-found-requires-clause-place
exchange_slot-found-requires-clause-place g c =
    let w = c.args.window.now in let site = c.args.site.now in let h = c.args.self.now in
    let eq = g.K.PartialEq.eq in let hash = hash_of g.K.Hash.hash_input g.S.BuildHasher.build_hasher g.S.Hasher.Hasher.write g.S.Hasher.Hasher.finish in
    low w.sight.log w.sight.log ([], append-nil w.sight.log) site.chunk.cursor.from site.chunk.at
    (asked w site.mode (stop_at w site (Marking c.args.word) h) c.requires.can).0 site.table.now c.requires.placed.table

pub exchange_slot-found-requires-clause-can : goal.exchange_slot-found-requires-clause-can
exchange_slot-found-requires-clause-can g c =
    let w = c.args.window.now in let site = c.args.site.now in let h = c.args.self.now in
    let eq = g.K.PartialEq.eq in let hash = hash_of g.K.Hash.hash_input g.S.BuildHasher.build_hasher g.S.Hasher.Hasher.write g.S.Hasher.Hasher.finish in
    rw c.with_mark-marked.ensures (asked w site.mode (stop_at w site (Marking c.args.word) h) c.requires.can).1

pub returns-then-found-word-clause-leaves : goal.returns-then-found-word-clause-leaves
returns-then-found-word-clause-leaves g c =
    let w = c.args.window.now in let site = c.args.site.now in let h = c.args.self.now in
    let eq = g.K.PartialEq.eq in let hash = hash_of g.K.Hash.hash_input g.S.BuildHasher.build_hasher g.S.Hasher.Hasher.write g.S.Hasher.Hasher.finish in
    let one = c.exchange_slot-found in let w1 = one.new.window in let h1 = one.new.self in
    let tried = rw c.with_mark-marked.ensures at one.ensures.tried in
    let is : (one.result == c.args.word) ≡ false = search rules in
    left_on w w1 one.ensures.sees.book site (Marking c.args.word) w.sight.log h h1 (Call (Found one.result)) one.ensures.sees.log
    (lost eq hash (begun_of w.book.now.parts) w.book.now.begun.book site.chunk.cursor.from site.chunk.at (Some kinds.Mark) c.args.word
    (marked_as c.args.word) w.sight.log h w1.sight.log h1 one.result tried one.ensures.rest (eqb-false one.result c.args.word is))
    (c.requires.placed.valid, tt) tt

pub transfer-requires-clause-placed : goal.transfer-requires-clause-placed
transfer-requires-clause-placed g c =
    let w = c.args.window.now in let site = c.args.site.now in let h = c.args.self.now in
    let eq = g.K.PartialEq.eq in let hash = hash_of g.K.Hash.hash_input g.S.BuildHasher.build_hasher g.S.Hasher.Hasher.write g.S.Hasher.Hasher.finish in
    let one = c.exchange_slot-found in let w1 = one.new.window in let h1 = one.new.self in
    placed_on w w1 one.ensures.sees site c.requires.placed

pub transfer-requires-clause-can : goal.transfer-requires-clause-can
transfer-requires-clause-can g c =
    let w = c.args.window.now in let site = c.args.site.now in let h = c.args.self.now in
    let eq = g.K.PartialEq.eq in let hash = hash_of g.K.Hash.hash_input g.S.BuildHasher.build_hasher g.S.Hasher.Hasher.write g.S.Hasher.Hasher.finish in
    let one = c.exchange_slot-found in let w1 = one.new.window in let h1 = one.new.self in
    let tried = rw c.with_mark-marked.ensures at one.ensures.tried in
    let is : (one.result == c.args.word) ≡ true = search rules in
    let turn : TurnsBy w site.mode (stop_at w site (Marking c.args.word) h)
    (stop_at w1 site (Carrying (marked_as c.args.word) (Hashing site.chunk.cursor.to)) h1) = marks eq hash (begun_of w.book.now.parts)
    w.book.now.begun.book site.mode site.aim site.chunk c.requires.placed.valid w.sight.log h w1.sight.log h1 one.ensures.sees.log
    one.ensures.rest c.args.word one.result tried (eqb-true one.result c.args.word is) in
    rw c.with_mark-marked.ensures (can_on w w1 one.ensures.sees.book site.mode (stop_at w site (Marking c.args.word) h)
    (stop_at w1 site (Carrying (marked_as c.args.word) (Hashing site.chunk.cursor.to)) h1) c.requires.can turn)

pub returns-clause-leaves : goal.returns-clause-leaves
returns-clause-leaves g c =
    let w = c.args.window.now in let site = c.args.site.now in let h = c.args.self.now in
    let eq = g.K.PartialEq.eq in let hash = hash_of g.K.Hash.hash_input g.S.BuildHasher.build_hasher g.S.Hasher.Hasher.write g.S.Hasher.Hasher.finish in
    let one = c.exchange_slot-found in let w1 = one.new.window in let h1 = one.new.self in
    let tried = rw c.with_mark-marked.ensures at one.ensures.tried in
    let is : (one.result == c.args.word) ≡ true = search rules in
    let turn : TurnsBy w site.mode (stop_at w site (Marking c.args.word) h)
    (stop_at w1 site (Carrying (marked_as c.args.word) (Hashing site.chunk.cursor.to)) h1) = marks eq hash (begun_of w.book.now.parts)
    w.book.now.begun.book site.mode site.aim site.chunk c.requires.placed.valid w.sight.log h w1.sight.log h1 one.ensures.sees.log
    one.ensures.rest c.args.word one.result tried (eqb-true one.result c.args.word is) in
    let end = c.transfer in
    let left = subst (λ (z : ℕ). Leaves w1 site (Carrying z (Hashing site.chunk.cursor.to)) h1 end.new.window end.new.self end.result)
    c.with_mark-marked.ensures end.ensures.leaves in
    leaves_on w end.new.window (end.ensures.sees.book ∙ one.ensures.sees.book) site (stop_at w site (Marking c.args.word) h)
    (stop_at w1 site (Carrying (marked_as c.args.word) (Hashing site.chunk.cursor.to)) h1) end.new.self end.result turn left
