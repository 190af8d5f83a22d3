use Rattle.std.proofs.Common.{[], refl, subst}
use Rattle.papaya_map_change.specs.declared.fast_path.ProbeHit.{ProbeHit}
use Rattle.papaya_map_compute.specs.Deciding.{puts}
use Rattle.papaya_map_compute.specs.FastPath.{IsSearchEnd}
use Rattle.papaya_map_compute.proofs.FastPath.{comes_asked_nothing}
use Rattle.papaya_map_compute.proofs.deciding.decide_fast.Goals as goal

pub returns-in_default-clause-comes : goal.returns-in_default-clause-comes
returns-in_default-clause-comes g c =
    comes_asked_nothing puts c.args.window.now _ _ c.search_root.new.window _ c.search_root.ensures.looked ([], ((refl, refl), c.search_root.ensures.looked.log, tt), refl)

pub returns-in_default-turn-clause-comes : goal.returns-in_default-turn-clause-comes
returns-in_default-turn-clause-comes g c =
    comes_asked_nothing puts c.args.window.now _ _ c.search_root.new.window _ c.search_root.ensures.looked ([], ((refl, refl), c.search_root.ensures.looked.log, tt), refl)

pub decide_absent-requires-clause-open : goal.decide_absent-requires-clause-open
decide_absent-requires-clause-open g c = rw c.search_root.ensures.looked.book c.requires.open

pub decide_absent-requires-clause-led : goal.decide_absent-requires-clause-led
decide_absent-requires-clause-led g c =
    let log = c.args.window.now.sight.log in let mid = c.search_root.new.window in let spot = c.in-Some.spot in
    (log, subst (λ (z : ProbeHit _). IsSearchEnd mid c.args.key c.hash-hash.result log spot.table.now z) c.in-Empty.is (c.search_root.ensures.led spot c.in-Some.is))

pub returns-in-Empty-clause-comes : goal.returns-in-Empty-clause-comes
returns-in-Empty-clause-comes g c =
    let log = c.args.window.now.sight.log in let mid = c.search_root.new.window in let spot = c.in-Some.spot in
    c.decide_absent.ensures.comes c.args.window.now
    (subst (λ (z : ProbeHit _). IsSearchEnd mid c.args.key c.hash-hash.result log spot.table.now z) c.in-Empty.is (c.search_root.ensures.led spot c.in-Some.is))
    c.search_root.ensures.looked

pub decide_present-requires-clause-open : goal.decide_present-requires-clause-open
decide_present-requires-clause-open g c = rw c.search_root.ensures.looked.book c.requires.open

pub decide_present-requires-clause-led : goal.decide_present-requires-clause-led
decide_present-requires-clause-led g c =
    let log = c.args.window.now.sight.log in let mid = c.search_root.new.window in let spot = c.in-Some.spot in
    let led = subst (λ (z : ProbeHit _). IsSearchEnd mid c.args.key c.hash-hash.result log spot.table.now z) c.in-Met.is (c.search_root.ensures.led spot c.in-Some.is) in
    rw c.in-Met.live-is (log, led)

pub returns-in-Met-clause-comes : goal.returns-in-Met-clause-comes
returns-in-Met-clause-comes g c =
    let log = c.args.window.now.sight.log in let mid = c.search_root.new.window in let spot = c.in-Some.spot in
    let led = subst (λ (z : ProbeHit _). IsSearchEnd mid c.args.key c.hash-hash.result log spot.table.now z) c.in-Met.is (c.search_root.ensures.led spot c.in-Some.is) in
    c.decide_present.ensures.comes c.args.window.now (rw c.in-Met.live-is led) c.search_root.ensures.looked
