use Rattle.std.proofs.Common.{◌≡◌, [], append-nil, refl, sym, ap, ◌∙◌, subst}
use Rattle.papaya_call.specs.declared.ask.Answer.TheVariants.{Word}
use Rattle.papaya_call.specs.declared.search.Place.{Place}
use Rattle.papaya_call.specs.declared.search.Search.TheVariants as seeking
use Rattle.papaya_call.specs.declared.search.ProbeStep.TheVariants as seen
use Rattle.papaya_call.specs.Search.{IsProbed, IsWithin}
use Rattle.papaya_call.specs.declared.copy.carry.Carry.TheVariants.{Looking as Looking_at, Reading}
use Rattle.papaya_call.specs.declared.copy.settle.Settle.TheVariants.{Carrying}
use Rattle.papaya_call.specs.declared.chain.ask.Answer.TheVariants.{Call}
use Rattle.papaya_map_book.specs.Calls.{IsTable}
use Rattle.papaya_map_book.specs.Hashes.{hash_of}
use Rattle.papaya_map_book.specs.Parts.{begun_of}
use Rattle.papaya_map_book.proofs.Loaded.{table_since}
use Rattle.papaya_map_change.specs.Window.Settling.{looking, reading, stop_at}
use Rattle.papaya_map_change.proofs.SettlingTurns.{hints_at, leads_one, passes, reads}
use Rattle.papaya_map_change.proofs.SettlingSeen.{TurnsBy, asked, can_on, leaves_on, left_on, low, nearer, placed_on, turn_on}
use Rattle.papaya_map_change.proofs.copier.Copier.probe_place.Goals as goal

pub load_hint_at-found-requires-clause-place : goal.load_hint_at-found-requires-clause-place
load_hint_at-found-requires-clause-place g c =
    let w = c.args.window.now in let site = c.args.site.now in let h = c.args.self.now in let m = c.args.moving.now in
    let eq = g.K.PartialEq.eq in let hash = hash_of g.K.Hash.hash_input g.S.BuildHasher.build_hasher g.S.Hasher.Hasher.write g.S.Hasher.Hasher.finish in
    low w.sight.log w.sight.log ([], append-nil w.sight.log) m.place.table m.place.probe.i
    (asked w site.mode (stop_at w site (looking m) h) c.requires.can) m.to.now c.requires.at.table

pub returns-in-On-Looking-clause-looks : goal.returns-in-On-Looking-clause-looks
returns-in-On-Looking-clause-looks g c =
    let w = c.args.window.now in let site = c.args.site.now in let h = c.args.self.now in let m = c.args.moving.now in
    let eq = g.K.PartialEq.eq in let hash = hash_of g.K.Hash.hash_input g.S.BuildHasher.build_hasher g.S.Hasher.Hasher.write g.S.Hasher.Hasher.finish in
    let one = c.load_hint_at-found in let w1 = one.new.window in
    let next = c.in-On-Looking.next in
    let inner : c.in-On-Looking.field-0 ≡ seeking.Looking next = c.in-On-Looking.field-0-is in
    let led = c.in-On-Looking.is ∙ ap seen.On inner in
    let on = passes m.hash m.place site.mode one.result next (sym c.hinted.ensures.value ∙ led) in
    let within : IsWithin next = subst IsProbed led c.hinted.ensures.seen in
    let turn : TurnsBy w site.mode (stop_at w site (looking m) h)
    (stop_at w1 site (Carrying m.marked (Looking_at m.hash next)) h) = hints_at eq hash (begun_of w.book.now.parts) w.book.now.begun.book
    site.mode site.aim site.chunk c.requires.placed.valid w.sight.log h w1.sight.log h one.ensures.sees.log m.marked m.hash
    m.place one.result one.ensures.hint refl (Looking_at m.hash next) on.0 within in (
      record {
        within = within;
        table = subst (λ (z : Place). IsTable w1.sight.log z.table m.to.now) (sym on.1)
            (table_since w.sight.log w1.sight.log m.place.table m.to.now one.ensures.sees.log c.requires.at.table);
      },
      leads_one eq hash (begun_of w1.book.now.parts) w1.book.now.begun.book site.mode
          (stop_at w site (looking m) h)
          (stop_at w1 site (Carrying m.marked (Looking_at m.hash next)) h)
          (turn_on w w1 one.ensures.sees.book site.mode (stop_at w site (looking m) h)
          (stop_at w1 site (Carrying m.marked (Looking_at m.hash next)) h) turn),
      nearer m.place next on.1 on.2,
    )

pub put-left-requires-clause-placed : goal.put-left-requires-clause-placed
put-left-requires-clause-placed g c =
    let w = c.args.window.now in let site = c.args.site.now in let h = c.args.self.now in let m = c.args.moving.now in
    let eq = g.K.PartialEq.eq in let hash = hash_of g.K.Hash.hash_input g.S.BuildHasher.build_hasher g.S.Hasher.Hasher.write g.S.Hasher.Hasher.finish in
    let one = c.load_hint_at-found in let w1 = one.new.window in
    placed_on w w1 one.ensures.sees site c.requires.placed

pub put-left-requires-clause-at : goal.put-left-requires-clause-at
put-left-requires-clause-at g c =
    let w = c.args.window.now in let site = c.args.site.now in let h = c.args.self.now in let m = c.args.moving.now in
    let eq = g.K.PartialEq.eq in let hash = hash_of g.K.Hash.hash_input g.S.BuildHasher.build_hasher g.S.Hasher.Hasher.write g.S.Hasher.Hasher.finish in
    let one = c.load_hint_at-found in let w1 = one.new.window in
    record {
      within = c.requires.at.within;
      table = table_since w.sight.log w1.sight.log m.place.table m.to.now one.ensures.sees.log c.requires.at.table;
    }

pub put-left-requires-clause-can : goal.put-left-requires-clause-can
put-left-requires-clause-can g c =
    let w = c.args.window.now in let site = c.args.site.now in let h = c.args.self.now in let m = c.args.moving.now in
    let eq = g.K.PartialEq.eq in let hash = hash_of g.K.Hash.hash_input g.S.BuildHasher.build_hasher g.S.Hasher.Hasher.write g.S.Hasher.Hasher.finish in
    let one = c.load_hint_at-found in let w1 = one.new.window in
    let inner : c.in-On-Reading.field-0 ≡ seeking.Reading c.in-On-Reading.field-0-0 = c.in-On-Reading.field-0-is in
    let on = reads m.hash m.place site.mode one.result c.in-On-Reading.field-0-0
    (sym c.hinted.ensures.value ∙ (c.in-On-Reading.is ∙ ap seen.On inner)) in
    let turn : TurnsBy w site.mode (stop_at w site (looking m) h)
    (stop_at w1 site (reading m) h) = hints_at eq hash (begun_of w.book.now.parts)
    w.book.now.begun.book site.mode site.aim site.chunk c.requires.placed.valid w.sight.log h w1.sight.log h one.ensures.sees.log m.marked
    m.hash m.place one.result one.ensures.hint refl (Reading m.hash m.place) on c.requires.at.within in
    can_on w w1 one.ensures.sees.book site.mode (stop_at w site (looking m) h)
    (stop_at w1 site (reading m) h) c.requires.can turn

pub returns-in-On-Reading-clause-looks : goal.returns-in-On-Reading-clause-looks
returns-in-On-Reading-clause-looks g c =
    let w = c.args.window.now in let site = c.args.site.now in let h = c.args.self.now in let m = c.args.moving.now in
    let eq = g.K.PartialEq.eq in let hash = hash_of g.K.Hash.hash_input g.S.BuildHasher.build_hasher g.S.Hasher.Hasher.write g.S.Hasher.Hasher.finish in
    let one = c.load_hint_at-found in let w1 = one.new.window in
    let inner : c.in-On-Reading.field-0 ≡ seeking.Reading c.in-On-Reading.field-0-0 = c.in-On-Reading.field-0-is in
    let on = reads m.hash m.place site.mode one.result c.in-On-Reading.field-0-0
    (sym c.hinted.ensures.value ∙ (c.in-On-Reading.is ∙ ap seen.On inner)) in
    let turn : TurnsBy w site.mode (stop_at w site (looking m) h)
    (stop_at w1 site (reading m) h) = hints_at eq hash (begun_of w.book.now.parts)
    w.book.now.begun.book site.mode site.aim site.chunk c.requires.placed.valid w.sight.log h w1.sight.log h one.ensures.sees.log m.marked
    m.hash m.place one.result one.ensures.hint refl (Reading m.hash m.place) on c.requires.at.within in
    let end = c.put-left in leaves_on w end.new.window (end.ensures.sees.book ∙ one.ensures.sees.book) site
    (stop_at w site (looking m) h)
    (stop_at w1 site (reading m) h) end.new.self end.result turn end.ensures.leaves

pub returns-in_default-clause-looks : goal.returns-in_default-clause-looks
returns-in_default-clause-looks g c =
    let w = c.args.window.now in let site = c.args.site.now in let h = c.args.self.now in let m = c.args.moving.now in
    let eq = g.K.PartialEq.eq in let hash = hash_of g.K.Hash.hash_input g.S.BuildHasher.build_hasher g.S.Hasher.Hasher.write g.S.Hasher.Hasher.finish in
    let one = c.load_hint_at-found in let w1 = one.new.window in
    left_on w w1 one.ensures.sees.book site (looking m) w.sight.log h h (Call (Word one.result))
    one.ensures.sees.log
    (record { hint = one.result; is = refl; hinted = one.ensures.hint; rest = refl }) (c.requires.placed.valid, c.requires.at.within) tt
