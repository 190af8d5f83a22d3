use Rattle.std.proofs.Common.{[], append-nil, refl, ◌∙◌, subst}
use Rattle.papaya_map_book.specs.Hashes.{hash_of}
use Rattle.papaya_map_book.specs.Parts.{begun_of}
use Rattle.papaya_map_book.proofs.Windows.{observes_trans}
use Rattle.papaya_map_change.specs.Window.Settling.{ProbesOn, looking, stop_at}
use Rattle.papaya_map_change.specs.Settling.{Stop}
use Rattle.papaya_map_change.proofs.SettlingTurns.{can_later, leads_none, leads_then, leaves_led}
use Rattle.papaya_map_change.proofs.SettlingSeen.{can_still, leads_still, placed_on}
use Rattle.papaya_map_change.proofs.copier.Copier.seek.Goals as goal

pub loop-next-init : goal.loop-next-init
loop-next-init g c = record {
  sees = record { book = refl; log = ([], append-nil c.args.window.now.sight.log); own = refl };
  placed = c.requires.placed;
  at = c.requires.at;
  can = c.requires.can;
  leads = leads_none g.K.PartialEq.eq (hash_of g.K.Hash.hash_input g.S.BuildHasher.build_hasher g.S.Hasher.Hasher.write g.S.Hasher.Hasher.finish)
      (begun_of c.args.window.now.book.now.parts) c.args.window.now.book.now.begun.book c.args.site.now.mode
      (stop_at c.args.window.now c.args.site.now (looking c.args.first) c.args.self.now);
}

pub loop-next-preserved : goal.loop-next-preserved
loop-next-preserved g c =
    let l = c.loop-next in let w₀ = c.args.window.now in let w = l.window in let site = c.args.site.now in let probe_place = c.probe_place in let w' = probe_place.new.window in
    let eq = g.K.PartialEq.eq in let hash = hash_of g.K.Hash.hash_input g.S.BuildHasher.build_hasher g.S.Hasher.Hasher.write g.S.Hasher.Hasher.finish
    in let b = begun_of w'.book.now.parts in let name = w'.book.now.begun.book in
    let s : Stop _ _ _ _ = stop_at w₀ site (looking c.args.first) c.args.self.now in
    let t : Stop _ _ _ _ = stop_at w site (looking l.moving) l.self in
    let led = leads_still w w' probe_place.ensures.sees.book site.mode s t l.invariant.leads in
    let on = subst (λ (z : _). ProbesOn w site l.moving l.self w' probe_place.new.self z) c.in-Next.is probe_place.ensures.looks in
    let u : Stop _ _ _ _ = stop_at w' site (looking (record l.moving { place = c.in-Next.next })) probe_place.new.self in
    record {
      sees = observes_trans _ _ _ l.invariant.sees probe_place.ensures.sees;
      placed = placed_on w w' probe_place.ensures.sees site l.invariant.placed;
      at = on.0;
      can = can_later eq hash b name site.mode t u (can_still w w' probe_place.ensures.sees.book site.mode t l.invariant.can) on.1;
      leads = leads_then eq hash b name site.mode s t u led on.1;
    }

pub loop-next-smaller : goal.loop-next-smaller
loop-next-smaller g c =
    let l = c.loop-next in let w₀ = c.args.window.now in let w = l.window in let site = c.args.site.now in let probe_place = c.probe_place in let w' = probe_place.new.window in
    let eq = g.K.PartialEq.eq in let hash = hash_of g.K.Hash.hash_input g.S.BuildHasher.build_hasher g.S.Hasher.Hasher.write g.S.Hasher.Hasher.finish
    in let b = begun_of w'.book.now.parts in let name = w'.book.now.begun.book in
    let s : Stop _ _ _ _ = stop_at w₀ site (looking c.args.first) c.args.self.now in
    let t : Stop _ _ _ _ = stop_at w site (looking l.moving) l.self in
    let led = leads_still w w' probe_place.ensures.sees.book site.mode s t l.invariant.leads in
    let on = subst (λ (z : _). ProbesOn w site l.moving l.self w' probe_place.new.self z) c.in-Next.is probe_place.ensures.looks in
    let u : Stop _ _ _ _ = stop_at w' site (looking (record l.moving { place = c.in-Next.next })) probe_place.new.self in
    on.2

pub returns-in-Left-clause-leaves : goal.returns-in-Left-clause-leaves
returns-in-Left-clause-leaves g c =
    let l = c.loop-next in let w₀ = c.args.window.now in let w = l.window in let site = c.args.site.now in let probe_place = c.probe_place in let w' = probe_place.new.window in
    let eq = g.K.PartialEq.eq in let hash = hash_of g.K.Hash.hash_input g.S.BuildHasher.build_hasher g.S.Hasher.Hasher.write g.S.Hasher.Hasher.finish
    in let b = begun_of w'.book.now.parts in let name = w'.book.now.begun.book in
    let s : Stop _ _ _ _ = stop_at w₀ site (looking c.args.first) c.args.self.now in
    let t : Stop _ _ _ _ = stop_at w site (looking l.moving) l.self in
    let led = leads_still w w' probe_place.ensures.sees.book site.mode s t l.invariant.leads in
    let left = subst (λ (z : _). ProbesOn w site l.moving l.self w' probe_place.new.self z) c.in-Left.is probe_place.ensures.looks in
    leaves_led eq hash b name site.mode site.aim site.chunk s t w'.sight.log probe_place.new.self c.in-Left.left led left
