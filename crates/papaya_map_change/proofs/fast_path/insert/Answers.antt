use Rattle.std.proofs.Common.{◌≡◌, Result, Ok, Err, IfOk, Some, refl, subst}
use Rattle.papaya_call.specs.declared.machine.State.TheVariants.{Growing, Writing}
use Rattle.papaya_call.specs.declared.need.Need.TheVariants.{Room}
use Rattle.papaya_map_book.proofs.Logs.{prefix_trans}
use Rattle.papaya_map_lookup.specs.declared.lookup.Met.{Met}
use Rattle.papaya_map_change.specs.declared.fast_path.ProbeHit.{ProbeHit}
use Rattle.papaya_map_change.specs.declared.fast_path.ProbeHit.TheVariants.{Met as MetPair}
use Rattle.papaya_map_change.specs.Seeking.{Inserts, next_state, met_by}
use Rattle.papaya_map_change.specs.Window.Seeking.{HasWritten, IsInsertingAt}
use Rattle.papaya_map_change.proofs.InsertingReplies.{put_since}
use Rattle.papaya_map_change.proofs.fast_path.insert.Goals as goal

if_ok : {A E : Type 0} (P Q : A → Type 0) (r : Result A E) → IfOk r P → ((a : A) → P a → Q a) → IfOk r Q
if_ok P Q (Ok a) p f = f a p
if_ok P Q (Err e) p f = tt

pub returns-then-is_some-clause-put : goal.returns-then-is_some-clause-put
returns-then-is_some-clause-put g c =
    let log = c.learn.new.self.sight.log in
    if_ok _ _ c.insert_slow.result c.insert_slow.ensures.put
    (λ a h. put_since g.K.PartialEq.eq c.args.key c.args.value c.args.window.now.sight.log log c.insert_slow.new.window.sight.log a
    c.learn.ensures.sees.log h)

pub returns-in_default-clause-put : goal.returns-in_default-clause-put
returns-in_default-clause-put g c =
    let log = c.learn.new.self.sight.log in let then' = c.find_place.new.window.sight.log in
    if_ok _ _ c.insert_slow-in_default.result c.insert_slow-in_default.ensures.put
    (λ a h. put_since g.K.PartialEq.eq c.args.key c.args.value c.args.window.now.sight.log then' c.insert_slow-in_default.new.window.sight.log a
    (prefix_trans c.args.window.now.sight.log log then' c.learn.ensures.sees.log c.find_place.ensures.sees.log) h)

pub returns-in_default-turn-clause-put : goal.returns-in_default-turn-clause-put
returns-in_default-turn-clause-put g c =
    let log = c.learn.new.self.sight.log in let then' = c.find_place.new.window.sight.log in
    if_ok _ _ c.insert_slow-in_default-turn.result c.insert_slow-in_default-turn.ensures.put
    (λ a h. put_since g.K.PartialEq.eq c.args.key c.args.value c.args.window.now.sight.log then' c.insert_slow-in_default-turn.new.window.sight.log
    a (prefix_trans c.args.window.now.sight.log log then' c.learn.ensures.sees.log c.find_place.ensures.sees.log) h)

pub claim_at-requires-clause-stands : goal.claim_at-requires-clause-stands
claim_at-requires-clause-stands g c =
    let log = c.learn.new.self.sight.log in
    let to = Writing (record { place = c.in-Empty.at; old = 0 }) in
    let there = subst (λ (z : ProbeHit (Met _ _)). next_state z ≡ Some to
    → IsInsertingAt c.find_place.new.window c.args.key log to (met_by z) c.in-Some.spot.table.now) c.in-Empty.is
    (c.find_place.ensures.found c.in-Some.spot c.in-Some.is Inserts to) refl in
    (to, refl, (log, there))

pub returns-in-Empty-clause-put : goal.returns-in-Empty-clause-put
returns-in-Empty-clause-put g c =
    let log = c.learn.new.self.sight.log in
    let to = Writing (record { place = c.in-Empty.at; old = 0 }) in
    let there = subst (λ (z : ProbeHit (Met _ _)). next_state z ≡ Some to
    → IsInsertingAt c.find_place.new.window c.args.key log to (met_by z) c.in-Some.spot.table.now) c.in-Empty.is
    (c.find_place.ensures.found c.in-Some.spot c.in-Some.is Inserts to) refl in
    if_ok _ _ c.claim_at.result c.claim_at.ensures.put
    (λ a h. put_since g.K.PartialEq.eq c.args.key c.args.value c.args.window.now.sight.log log c.claim_at.new.window.sight.log a
    c.learn.ensures.sees.log (h log to refl there))

pub replace_at-requires-clause-stands : goal.replace_at-requires-clause-stands
replace_at-requires-clause-stands g c =
    let log = c.learn.new.self.sight.log in
    let to = Writing (record { place = c.in-Met.live.place; old = c.in-Met.live.word }) in
    let there = subst (λ (z : ProbeHit (Met _ _)). next_state z ≡ Some to
    → IsInsertingAt c.find_place.new.window c.args.key log to (met_by z) c.in-Some.spot.table.now) c.in-Met.is
    (c.find_place.ensures.found c.in-Some.spot c.in-Some.is Inserts to) refl in
    rw c.in-Met.live-is (to, refl, (log, there))

pub returns-in-Met-clause-put : goal.returns-in-Met-clause-put
returns-in-Met-clause-put g c =
    let log = c.learn.new.self.sight.log in
    let to = Writing (record { place = c.in-Met.live.place; old = c.in-Met.live.word }) in
    let there = subst (λ (z : ProbeHit (Met _ _)). next_state z ≡ Some to
    → IsInsertingAt c.find_place.new.window c.args.key log to (met_by z) c.in-Some.spot.table.now) c.in-Met.is
    (c.find_place.ensures.found c.in-Some.spot c.in-Some.is Inserts to) refl in
    if_ok _ _ c.replace_at.result c.replace_at.ensures.put
    (λ a h. put_since g.K.PartialEq.eq c.args.key c.args.value c.args.window.now.sight.log log c.replace_at.new.window.sight.log a
    c.learn.ensures.sees.log (subst (λ (z : Met _ _).
    HasWritten c.find_place.new.window c.replace_at.new.window c.args.key c.args.value c.in-Some.spot.table.now (MetPair z) a) c.in-Met.live-is h log
    to refl there))

pub insert_onward-requires-clause-stands : goal.insert_onward-requires-clause-stands
insert_onward-requires-clause-stands g c =
    let log = c.learn.new.self.sight.log in
    let to = Growing (Room c.in-Over.number) in
    let there = subst (λ (z : ProbeHit (Met _ _)). next_state z ≡ Some to
    → IsInsertingAt c.find_place.new.window c.args.key log to (met_by z) c.in-Some.spot.table.now) c.in-Over.is
    (c.find_place.ensures.found c.in-Some.spot c.in-Some.is Inserts to) refl in
    (to, refl, (log, there))

pub returns-in-Over-clause-put : goal.returns-in-Over-clause-put
returns-in-Over-clause-put g c =
    let log = c.learn.new.self.sight.log in
    let to = Growing (Room c.in-Over.number) in
    let there = subst (λ (z : ProbeHit (Met _ _)). next_state z ≡ Some to
    → IsInsertingAt c.find_place.new.window c.args.key log to (met_by z) c.in-Some.spot.table.now) c.in-Over.is
    (c.find_place.ensures.found c.in-Some.spot c.in-Some.is Inserts to) refl in
    if_ok _ _ c.insert_onward.result c.insert_onward.ensures.put
    (λ a h. put_since g.K.PartialEq.eq c.args.key c.args.value c.args.window.now.sight.log log c.insert_onward.new.window.sight.log a
    c.learn.ensures.sees.log (h log to refl there))
