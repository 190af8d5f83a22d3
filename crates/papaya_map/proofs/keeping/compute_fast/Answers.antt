use Rattle.std.proofs.Common.{None, Some, [], ◌∷◌, append-nil, refl, sym, ap, ◌∙◌, subst}
use Rattle.papaya_call.specs.declared.machine.State.TheVariants.{Showing}
use Rattle.papaya_map_book.specs.declared.rule.entry.Named.TheVariants as names
use Rattle.papaya_map_book.specs.Rule.{IsPlaced}
use Rattle.papaya_map_book.specs.Parts.{begun_of}
use Rattle.papaya_map_lookup.specs.Drivers.{past}
use Rattle.papaya_map_lookup.specs.declared.lookup.Met.{Met}
use Rattle.papaya_map_change.specs.declared.fast_path.ProbeHit.{ProbeHit}
use Rattle.papaya_map_change.specs.Seeking.{Computes}
use Rattle.papaya_map_change.specs.ClosureCalls.{AreOf, Operates}
use Rattle.papaya_map_change.specs.declared.fast_path.ProbeHit.TheVariants.{Empty, Met as MetPair}
use Rattle.papaya_map_compute.specs.ComputeAnswers.{changes}
use Rattle.papaya_map_compute.specs.FastPath.{DoesAtOnce, IsSearchEnd}
use Rattle.papaya_map_compute.proofs.FastPath.{comes_asked_nothing, comes_once}
use Rattle.papaya_map_compute.proofs.ComputeReplies.{computed_by}
use Rattle.papaya_map_compute.proofs.Found.{pair_placed}
use Rattle.papaya_map.proofs.keeping.compute_fast.Goals as goal

pub returns-in_default-clause-comes : goal.returns-in_default-clause-comes
returns-in_default-clause-comes g c =
    comes_asked_nothing changes c.args.window.now _ _ c.search_root.new.window _ c.search_root.ensures.looked ([], ((refl, refl), c.search_root.ensures.looked.log, tt), refl)

pub returns-in_default-turn-clause-comes : goal.returns-in_default-turn-clause-comes
returns-in_default-turn-clause-comes g c =
    comes_asked_nothing changes c.args.window.now _ _ c.search_root.new.window _ c.search_root.ensures.looked ([], ((refl, refl), c.search_root.ensures.looked.log, tt), refl)

pub fill-requires : goal.fill-requires
fill-requires g c =
    let log = c.args.window.now.sight.log in let mid = c.search_root.new.window in let spot = c.in-Some.spot in
    let led = subst (λ (z : ProbeHit _). IsSearchEnd mid c.args.key c.hash-hash.result log spot.table.now z) c.in-Empty.is (c.search_root.ensures.led spot c.in-Some.is) in
    record { «open» = rw c.search_root.ensures.looked.book c.requires.open; led = (log, led) }

pub returns-in-Empty-clause-comes : goal.returns-in-Empty-clause-comes
returns-in-Empty-clause-comes g c =
    let w = c.args.window.now in let log = w.sight.log in let key = c.args.key in let mid = c.search_root.new.window in let spot = c.in-Some.spot in
    let led = subst (λ (z : ProbeHit _). IsSearchEnd mid key c.hash-hash.result log spot.table.now z) c.in-Empty.is (c.search_root.ensures.led spot c.in-Some.is) in
    let then = c.fill.new.window in let done = c.operate-operation.result in let left = c.operate-operation.new.f in let says = Operates g.F.FnMut in
    comes_once w mid then c.search_root.ensures.looked key c.hash-hash.result spot.table.now _ led says c.args.f.now left done c.operate-operation.ensures.operates _
    (computed_by g.K.PartialEq.eq key (past w) (past w) (past then) ([], append-nil (past w)) says c.args.f.now left ((None, done) ∷ [])
    (c.args.f.now, refl, c.operate-operation.ensures.operates)) _ c.fill.ensures.does

pub renew-requires-clause-open : goal.renew-requires-clause-open
renew-requires-clause-open g c = rw c.search_root.ensures.looked.book c.requires.open

pub renew-requires-clause-led : goal.renew-requires-clause-led
renew-requires-clause-led g c =
    let log = c.args.window.now.sight.log in let mid = c.search_root.new.window in let spot = c.in-Some.spot in
    let led = subst (λ (z : ProbeHit _). IsSearchEnd mid c.args.key c.hash-hash.result log spot.table.now z) c.in-Met.is (c.search_root.ensures.led spot c.in-Some.is) in
    rw c.in-Met.live-is (log, led)

pub renew-requires-clause-shown : goal.renew-requires-clause-shown
renew-requires-clause-shown g c = (c.entry-old.ensures.key ∙ ap (λ p. p.key.value) c.pair.ensures, c.entry-old.ensures.value ∙ ap (λ p. p.value) c.pair.ensures)

pub returns-in-Met-clause-comes : goal.returns-in-Met-clause-comes
returns-in-Met-clause-comes g c =
    let w = c.args.window.now in let log = w.sight.log in let key = c.args.key in let mid = c.search_root.new.window in let spot = c.in-Some.spot in
    let led = subst (λ (z : ProbeHit _). IsSearchEnd mid key c.hash-hash.result log spot.table.now z) c.in-Met.is (c.search_root.ensures.led spot c.in-Some.is) in
    let then = c.renew.new.window in let done = c.f-again.result in let left = c.f-again.new.self in let held = Some c.in-Met.live.stored in
    let are : AreOf c.entry-old.result c.in-Met.live.stored = (
      c.entry-old.ensures.key ∙ (ap (λ p. p.key.value) c.pair.ensures ∙ ap (λ (z : Met _ _). z.stored.value.key.value) c.in-Met.live-is),
      c.entry-old.ensures.value ∙ (ap (λ p. p.value) c.pair.ensures ∙ ap (λ (z : Met _ _). z.stored.value.value) c.in-Met.live-is),
    ) in
    let says = Operates g.F.FnMut in let said : says c.args.f.now held done left = (Some c.entry-old.result, are, c.f-again.ensures) in
    comes_once w mid then c.search_root.ensures.looked key c.hash-hash.result spot.table.now _ led says c.args.f.now left done said _
    (computed_by g.K.PartialEq.eq key (past w) (past w) (past then) ([], append-nil (past w)) says c.args.f.now left ((held, done) ∷ [])
    (c.args.f.now, refl, said)) _
    (subst (λ (z : Met _ _). DoesAtOnce mid then key spot.table.now (MetPair z) done c.renew.result) c.in-Met.live-is c.renew.ensures.does)

pub entry-old-requires : goal.entry-old-requires
entry-old-requires g c =
    let w = c.args.window.now in let log = w.sight.log in let key = c.args.key in let mid = c.search_root.new.window in let spot = c.in-Some.spot in
    let led = subst (λ (z : ProbeHit _). IsSearchEnd mid key c.hash-hash.result log spot.table.now z) c.in-Met.is (c.search_root.ensures.led spot c.in-Some.is) in
    let met = c.in-Met.live in let p = met.stored in
    let there = pair_placed g.K.PartialEq.eq g.K.Hash.hash_input g.S.BuildHasher.build_hasher g.S.Hasher.Hasher.write g.S.Hasher.Hasher.finish
    g.met.K.Eq.laws g.met.K.Hash.respects_eq (begun_of mid.book.now.parts) mid.book.now.begun.book key log mid.sight.log spot.table.now met.place
    met.word p (led.found Computes (Showing (record { place = met.place; word = met.word })) refl) in
    let placed = subst (λ (k : _). IsPlaced (begun_of k.now.parts) (Some k.now.begun.book) (names.Pair p)) c.search_root.ensures.looked.book there in
    let there = subst (λ (z : Met _ _). IsPlaced (begun_of w.book.now.parts) (Some w.book.now.begun.book) (names.Pair z.stored)) (sym c.in-Met.live-is) placed in
    rw c.pair.ensures (record { key = there.1; value = there.2 })
