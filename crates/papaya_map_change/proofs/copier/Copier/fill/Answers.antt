use Rattle.std.proofs.Common.{◌≡◌, ◌==◌, true, false, None, Some, [], append-nil, rules, refl, ◌∙◌, subst}
use Rattle.std.proofs.lemmas.Bool.{eqb-false, eqb-true}
use Rattle.papaya_words.specs.Word.{live_word, pair_of}
use Rattle.papaya_call.specs.declared.ask.Answer.TheVariants.{Found}
use Rattle.papaya_call.specs.declared.ask.StepKind.TheVariants as kinds
use Rattle.papaya_call.specs.declared.copy.carry.Carry.TheVariants.{Placed}
use Rattle.papaya_call.specs.declared.copy.settle.Settle.TheVariants.{Carrying, Finishing}
use Rattle.papaya_call.specs.declared.chain.ask.Answer.TheVariants.{Call}
use Rattle.papaya_map_book.specs.Hashes.{hash_of}
use Rattle.papaya_map_book.specs.Parts.{begun_of}
use Rattle.papaya_map_book.specs.Rule.{IsLawfulLog}
use Rattle.papaya_map_book.proofs.Loaded.{table_since}
use Rattle.papaya_map_change.specs.Window.Settling.{CanStepAt, placing, stop_at}
use Rattle.papaya_map_change.proofs.SettlingTurns.{lost, notes, notes_last, places}
use Rattle.papaya_map_change.proofs.SettlingSeen.{TurnsBy, asked, can_on, leaves_on, left_on, low, placed_on, settled_on}
use Rattle.papaya_map_change.proofs.copier.Copier.fill.Goals as goal

pub exchange_slot-found-requires-clause-place : goal.exchange_slot-found-requires-clause-place
exchange_slot-found-requires-clause-place g c =
    let w = c.args.window.now in let site = c.args.site.now in let h = c.args.self.now in let m = c.args.moving.now in
    let eq = g.K.PartialEq.eq in let hash = hash_of g.K.Hash.hash_input g.S.BuildHasher.build_hasher g.S.Hasher.Hasher.write g.S.Hasher.Hasher.finish in
    low w.sight.log w.sight.log ([], append-nil w.sight.log) m.place.table m.place.probe.i
    (asked w site.mode (stop_at w site (placing m) h) c.requires.can).0 m.to.now c.requires.at.table

pub exchange_slot-found-requires-clause-can : goal.exchange_slot-found-requires-clause-can
exchange_slot-found-requires-clause-can g c =
    let w = c.args.window.now in let site = c.args.site.now in let h = c.args.self.now in let m = c.args.moving.now in
    let eq = g.K.PartialEq.eq in let hash = hash_of g.K.Hash.hash_input g.S.BuildHasher.build_hasher g.S.Hasher.Hasher.write g.S.Hasher.Hasher.finish in
    rw c.with_life-live.ensures (asked w site.mode (stop_at w site (placing m) h) c.requires.can).1

pub returns-then-found-ne0-clause-leaves : goal.returns-then-found-ne0-clause-leaves
returns-then-found-ne0-clause-leaves g c =
    let w = c.args.window.now in let site = c.args.site.now in let h = c.args.self.now in let m = c.args.moving.now in
    let eq = g.K.PartialEq.eq in let hash = hash_of g.K.Hash.hash_input g.S.BuildHasher.build_hasher g.S.Hasher.Hasher.write g.S.Hasher.Hasher.finish in
    let one = c.exchange_slot-found in let w1 = one.new.window in let h1 = one.new.self in
    let tried = rw c.with_life-live.ensures at one.ensures.tried in
    let is : (one.result == 0) ≡ false = search rules in
    left_on w w1 one.ensures.sees.book site (placing m) w.sight.log h h1 (Call (Found one.result))
    one.ensures.sees.log
    (lost eq hash (begun_of w.book.now.parts) w.book.now.begun.book m.place.table m.place.probe.i (Some kinds.Place) 0
    (live_word (pair_of m.marked)) w.sight.log h w1.sight.log h1 one.result tried one.ensures.rest (eqb-false one.result 0 is))
    (c.requires.placed.valid, c.requires.at.within) tt

pub write_hint_at-requires-clause-table : goal.write_hint_at-requires-clause-table
write_hint_at-requires-clause-table g c =
    let w = c.args.window.now in let site = c.args.site.now in let h = c.args.self.now in let m = c.args.moving.now in
    let eq = g.K.PartialEq.eq in let hash = hash_of g.K.Hash.hash_input g.S.BuildHasher.build_hasher g.S.Hasher.Hasher.write g.S.Hasher.Hasher.finish in
    let one = c.exchange_slot-found in let w1 = one.new.window in let h1 = one.new.self in
    table_since w.sight.log w1.sight.log m.place.table m.to.now one.ensures.sees.log c.requires.at.table

pub write_hint_at-requires-clause-place : goal.write_hint_at-requires-clause-place
write_hint_at-requires-clause-place g c =
    let w = c.args.window.now in let site = c.args.site.now in let h = c.args.self.now in let m = c.args.moving.now in
    let eq = g.K.PartialEq.eq in let hash = hash_of g.K.Hash.hash_input g.S.BuildHasher.build_hasher g.S.Hasher.Hasher.write g.S.Hasher.Hasher.finish in
    let one = c.exchange_slot-found in let w1 = one.new.window in let h1 = one.new.self in
    let tried = rw c.with_life-live.ensures at one.ensures.tried in
    let is : (one.result == 0) ≡ true = search rules in
    let turn : TurnsBy w site.mode (stop_at w site (placing m) h)
    (stop_at w1 site (Carrying m.marked (Placed m.hash m.place)) h1) = places eq hash (begun_of w.book.now.parts)
    w.book.now.begun.book site.mode site.aim site.chunk c.requires.placed.valid w.sight.log h w1.sight.log h1 one.ensures.sees.log
    one.ensures.rest m.marked m.hash m.place c.requires.at.within one.result tried (eqb-true one.result 0 is) in
    let can : CanStepAt w1 site (Carrying m.marked (Placed m.hash m.place)) h1 = can_on w w1 one.ensures.sees.book site.mode
    (stop_at w site (placing m) h)
    (stop_at w1 site (Carrying m.marked (Placed m.hash m.place)) h1) c.requires.can turn in
    let table = table_since w.sight.log w1.sight.log m.place.table m.to.now one.ensures.sees.log c.requires.at.table in
    low w1.sight.log w1.sight.log ([], append-nil w1.sight.log) m.place.table m.place.probe.i
    (asked w1 site.mode (stop_at w1 site (Carrying m.marked (Placed m.hash m.place)) h1) can).0 m.to.now table

pub write_hint_at-requires-clause-hint : goal.write_hint_at-requires-clause-hint
write_hint_at-requires-clause-hint g c =
    let w = c.args.window.now in let site = c.args.site.now in let h = c.args.self.now in let m = c.args.moving.now in
    let eq = g.K.PartialEq.eq in let hash = hash_of g.K.Hash.hash_input g.S.BuildHasher.build_hasher g.S.Hasher.Hasher.write g.S.Hasher.Hasher.finish in
    let one = c.exchange_slot-found in let w1 = one.new.window in let h1 = one.new.self in
    let tried = rw c.with_life-live.ensures at one.ensures.tried in
    let is : (one.result == 0) ≡ true = search rules in
    let turn : TurnsBy w site.mode (stop_at w site (placing m) h)
    (stop_at w1 site (Carrying m.marked (Placed m.hash m.place)) h1) = places eq hash (begun_of w.book.now.parts)
    w.book.now.begun.book site.mode site.aim site.chunk c.requires.placed.valid w.sight.log h w1.sight.log h1 one.ensures.sees.log
    one.ensures.rest m.marked m.hash m.place c.requires.at.within one.result tried (eqb-true one.result 0 is) in
    let can : CanStepAt w1 site (Carrying m.marked (Placed m.hash m.place)) h1 = can_on w w1 one.ensures.sees.book site.mode
    (stop_at w site (placing m) h)
    (stop_at w1 site (Carrying m.marked (Placed m.hash m.place)) h1) c.requires.can turn in
    let table = table_since w.sight.log w1.sight.log m.place.table m.to.now one.ensures.sees.log c.requires.at.table in
    rw c.hint-byte.ensures (asked w1 site.mode (stop_at w1 site (Carrying m.marked (Placed m.hash m.place)) h1) can).1

pub finish-requires-clause-placed : goal.finish-requires-clause-placed
finish-requires-clause-placed g c =
    let w = c.args.window.now in let site = c.args.site.now in let h = c.args.self.now in let m = c.args.moving.now in
    let eq = g.K.PartialEq.eq in let hash = hash_of g.K.Hash.hash_input g.S.BuildHasher.build_hasher g.S.Hasher.Hasher.write g.S.Hasher.Hasher.finish in
    let one = c.exchange_slot-found in let w1 = one.new.window in let h1 = one.new.self in
    let tried = rw c.with_life-live.ensures at one.ensures.tried in
    let is : (one.result == 0) ≡ true = search rules in
    let turn : TurnsBy w site.mode (stop_at w site (placing m) h)
    (stop_at w1 site (Carrying m.marked (Placed m.hash m.place)) h1) = places eq hash (begun_of w.book.now.parts)
    w.book.now.begun.book site.mode site.aim site.chunk c.requires.placed.valid w.sight.log h w1.sight.log h1 one.ensures.sees.log
    one.ensures.rest m.marked m.hash m.place c.requires.at.within one.result tried (eqb-true one.result 0 is) in
    let can : CanStepAt w1 site (Carrying m.marked (Placed m.hash m.place)) h1 = can_on w w1 one.ensures.sees.book site.mode
    (stop_at w site (placing m) h)
    (stop_at w1 site (Carrying m.marked (Placed m.hash m.place)) h1) c.requires.can turn in
    let table = table_since w.sight.log w1.sight.log m.place.table m.to.now one.ensures.sees.log c.requires.at.table in
    let two = c.write_hint_at in let w2 = two.new.window in
    let lawful = subst (λ (z : _). IsLawfulLog eq hash (begun_of z.now.parts) w2.sight.log) two.ensures.sees.book two.ensures.lawful in
    placed_on w1 w2 two.ensures.sees site (placed_on w w1 one.ensures.sees site c.requires.placed)

pub finish-requires-clause-can : goal.finish-requires-clause-can
finish-requires-clause-can g c =
    let w = c.args.window.now in let site = c.args.site.now in let h = c.args.self.now in let m = c.args.moving.now in
    let eq = g.K.PartialEq.eq in let hash = hash_of g.K.Hash.hash_input g.S.BuildHasher.build_hasher g.S.Hasher.Hasher.write g.S.Hasher.Hasher.finish in
    let one = c.exchange_slot-found in let w1 = one.new.window in let h1 = one.new.self in
    let tried = rw c.with_life-live.ensures at one.ensures.tried in
    let is : (one.result == 0) ≡ true = search rules in
    let turn : TurnsBy w site.mode (stop_at w site (placing m) h)
    (stop_at w1 site (Carrying m.marked (Placed m.hash m.place)) h1) = places eq hash (begun_of w.book.now.parts)
    w.book.now.begun.book site.mode site.aim site.chunk c.requires.placed.valid w.sight.log h w1.sight.log h1 one.ensures.sees.log
    one.ensures.rest m.marked m.hash m.place c.requires.at.within one.result tried (eqb-true one.result 0 is) in
    let can : CanStepAt w1 site (Carrying m.marked (Placed m.hash m.place)) h1 = can_on w w1 one.ensures.sees.book site.mode
    (stop_at w site (placing m) h)
    (stop_at w1 site (Carrying m.marked (Placed m.hash m.place)) h1) c.requires.can turn in
    let table = table_since w.sight.log w1.sight.log m.place.table m.to.now one.ensures.sees.log c.requires.at.table in
    let two = c.write_hint_at in let w2 = two.new.window in
    let lawful = subst (λ (z : _). IsLawfulLog eq hash (begun_of z.now.parts) w2.sight.log) two.ensures.sees.book two.ensures.lawful in
    let on : TurnsBy w1 site.mode (stop_at w1 site (Carrying m.marked (Placed m.hash m.place)) h1)
    (stop_at w2 site (Finishing m.marked) h1) = notes eq hash (begun_of w1.book.now.parts) w1.book.now.begun.book site.mode site.aim site.chunk
    c.requires.placed.valid w1.sight.log h1 w2.sight.log h1 two.ensures.sees.log lawful refl m.marked m.hash m.place _
    c.in-Incremental.is in
    can_on w1 w2 two.ensures.sees.book site.mode (stop_at w1 site (Carrying m.marked (Placed m.hash m.place)) h1)
    (stop_at w2 site (Finishing m.marked) h1) can on

pub returns-in-Incremental-clause-leaves : goal.returns-in-Incremental-clause-leaves
returns-in-Incremental-clause-leaves g c =
    let w = c.args.window.now in let site = c.args.site.now in let h = c.args.self.now in let m = c.args.moving.now in
    let eq = g.K.PartialEq.eq in let hash = hash_of g.K.Hash.hash_input g.S.BuildHasher.build_hasher g.S.Hasher.Hasher.write g.S.Hasher.Hasher.finish in
    let one = c.exchange_slot-found in let w1 = one.new.window in let h1 = one.new.self in
    let tried = rw c.with_life-live.ensures at one.ensures.tried in
    let is : (one.result == 0) ≡ true = search rules in
    let turn : TurnsBy w site.mode (stop_at w site (placing m) h)
    (stop_at w1 site (Carrying m.marked (Placed m.hash m.place)) h1) = places eq hash (begun_of w.book.now.parts)
    w.book.now.begun.book site.mode site.aim site.chunk c.requires.placed.valid w.sight.log h w1.sight.log h1 one.ensures.sees.log
    one.ensures.rest m.marked m.hash m.place c.requires.at.within one.result tried (eqb-true one.result 0 is) in
    let can : CanStepAt w1 site (Carrying m.marked (Placed m.hash m.place)) h1 = can_on w w1 one.ensures.sees.book site.mode
    (stop_at w site (placing m) h)
    (stop_at w1 site (Carrying m.marked (Placed m.hash m.place)) h1) c.requires.can turn in
    let table = table_since w.sight.log w1.sight.log m.place.table m.to.now one.ensures.sees.log c.requires.at.table in
    let two = c.write_hint_at in let w2 = two.new.window in
    let lawful = subst (λ (z : _). IsLawfulLog eq hash (begun_of z.now.parts) w2.sight.log) two.ensures.sees.book two.ensures.lawful in
    let on : TurnsBy w1 site.mode (stop_at w1 site (Carrying m.marked (Placed m.hash m.place)) h1)
    (stop_at w2 site (Finishing m.marked) h1) = notes eq hash (begun_of w1.book.now.parts) w1.book.now.begun.book site.mode site.aim site.chunk
    c.requires.placed.valid w1.sight.log h1 w2.sight.log h1 two.ensures.sees.log lawful refl m.marked m.hash m.place _
    c.in-Incremental.is in
    let end = c.finish in let w3 = end.new.window in
    leaves_on w w3 (end.ensures.sees.book ∙ (two.ensures.sees.book ∙ one.ensures.sees.book)) site
    (stop_at w site (placing m) h)
    (stop_at w1 site (Carrying m.marked (Placed m.hash m.place)) h1) end.new.self end.result turn
    (leaves_on w1 w3 (end.ensures.sees.book ∙ two.ensures.sees.book) site
    (stop_at w1 site (Carrying m.marked (Placed m.hash m.place)) h1) (stop_at w2 site (Finishing m.marked) h1) end.new.self
    end.result on end.ensures.leaves)

pub returns-in-Blocking-clause-leaves : goal.returns-in-Blocking-clause-leaves
returns-in-Blocking-clause-leaves g c =
    let w = c.args.window.now in let site = c.args.site.now in let h = c.args.self.now in let m = c.args.moving.now in
    let eq = g.K.PartialEq.eq in let hash = hash_of g.K.Hash.hash_input g.S.BuildHasher.build_hasher g.S.Hasher.Hasher.write g.S.Hasher.Hasher.finish in
    let one = c.exchange_slot-found in let w1 = one.new.window in let h1 = one.new.self in
    let tried = rw c.with_life-live.ensures at one.ensures.tried in
    let is : (one.result == 0) ≡ true = search rules in
    let turn : TurnsBy w site.mode (stop_at w site (placing m) h)
    (stop_at w1 site (Carrying m.marked (Placed m.hash m.place)) h1) = places eq hash (begun_of w.book.now.parts)
    w.book.now.begun.book site.mode site.aim site.chunk c.requires.placed.valid w.sight.log h w1.sight.log h1 one.ensures.sees.log
    one.ensures.rest m.marked m.hash m.place c.requires.at.within one.result tried (eqb-true one.result 0 is) in
    let can : CanStepAt w1 site (Carrying m.marked (Placed m.hash m.place)) h1 = can_on w w1 one.ensures.sees.book site.mode
    (stop_at w site (placing m) h)
    (stop_at w1 site (Carrying m.marked (Placed m.hash m.place)) h1) c.requires.can turn in
    let table = table_since w.sight.log w1.sight.log m.place.table m.to.now one.ensures.sees.log c.requires.at.table in
    let two = c.write_hint_at in let w2 = two.new.window in
    let lawful = subst (λ (z : _). IsLawfulLog eq hash (begun_of z.now.parts) w2.sight.log) two.ensures.sees.book two.ensures.lawful in
    leaves_on w w2 (two.ensures.sees.book ∙ one.ensures.sees.book) site (stop_at w site (placing m) h)
    (stop_at w1 site (Carrying m.marked (Placed m.hash m.place)) h1) h1 None turn
    (settled_on w1 w2 two.ensures.sees.book site (stop_at w1 site (Carrying m.marked (Placed m.hash m.place)) h1) h1
    (notes_last eq hash (begun_of w1.book.now.parts) w1.book.now.begun.book site.mode site.aim site.chunk c.requires.placed.valid w1.sight.log h1
    w2.sight.log h1 two.ensures.sees.log lawful refl m.marked m.hash m.place c.in-Blocking.is))
