use Rattle.std.proofs.Common.{◌≡◌, Result, Ok, Err, IfOk, Some, sym, ap, ◌∙◌, subst, rules}
use Rattle.papaya_call.specs.declared.machine.State.{State}
use Rattle.papaya_call.specs.declared.machine.State.TheVariants.{Writing}
use Rattle.papaya_map_book.specs.Hashes.{hash_of}
use Rattle.papaya_map_book.specs.Parts.{begun_of}
use Rattle.papaya_map_book.proofs.Logs.{prefix_trans}
use Rattle.papaya_map_lookup.specs.Drivers.{past}
use Rattle.papaya_map_lookup.specs.History.{key_of}
use Rattle.papaya_map_lookup.proofs.KeptKeys.{key_at_stays}
use Rattle.papaya_map_change.specs.Changes.{IsPut}
use Rattle.papaya_map_change.specs.Seeking.{IsInsertingAt}
use Rattle.papaya_map_change.specs.Window.Seeking.{IsStateAfter}
use Rattle.papaya_map_change.specs.declared.fast_path.ProbeHit.TheVariants.{Met as MetPair}
use Rattle.papaya_map_lookup.specs.declared.lookup.Met.{Met}
use Rattle.papaya_map_change.specs.Tries.{pair_in}
use Rattle.papaya_map_change.specs.Writing.{HasKeyAt}
use Rattle.papaya_map_change.proofs.InsertingReplies.{put_since}
use Rattle.papaya_map_change.proofs.Replacing.{live_full, met_key_there, met_same}
use Rattle.papaya_map_change.proofs.Trading.{traded_some}
use Rattle.papaya_map_change.proofs.fast_path.replace_at.Goals as goal

if_ok : {A E : Type 0} (P Q : A → Type 0) (r : Result A E) → IfOk r P → ((a : A) → P a → Q a) → IfOk r Q
if_ok P Q (Ok a) p f = f a p
if_ok P Q (Err e) p f = tt

pub replace-requires-clause-stands : goal.replace-requires-clause-stands
replace-requires-clause-stands g c = (c.args.key, c.requires.stands)

pub insert_met-requires-clause-met : goal.insert_met-requires-clause-met
insert_met-requires-clause-met g c =
    let w = c.args.window.now.book.now in let b = begun_of w.parts in let log = c.args.window.now.sight.log in let key = c.args.key in
    let met = c.live.inside.met in let p = met.stored in
    let hash = (hash_of g.K.Hash.hash_input g.S.BuildHasher.build_hasher g.S.Hasher.Hasher.write g.S.Hasher.Hasher.finish) in
    let full = live_full met.word c.live.invariant.0 in
    let st = subst (λ (z : Met _ _). IsStateAfter c.args.window.now key c.args.table.now (MetPair z)) (sym c.live.view_is) c.requires.stands in let led : Some (Writing (record { place = met.place; old = met.word })) ≡ Some st.0 = st.1 in
    let to : Writing (record { place = met.place; old = met.word }) ≡ st.0 = cc led in
    let r = subst (λ (z : State). IsInsertingAt g.K.PartialEq.eq hash b w.begun.book key st.2.0 log z (Some p) c.args.table.now) (sym to) st.2.1 in
    let there = met_key_there g.K.PartialEq.eq g.K.Hash.hash_input g.S.BuildHasher.build_hasher g.S.Hasher.Hasher.write g.S.Hasher.Hasher.finish
    g.met.K.Eq.laws g.met.K.Hash.respects_eq b w.begun.book key st.2.0 log met.place met.word full p c.args.table.now r in
    let mid = c.replace.new.window.sight.log in
    let l = c.replace.ensures.tried.logged c.in-Lost.pair (ap pair_in c.in-Lost.is) in
    let key_is : key_of c.in-Lost.pair ≡ key_of p = l.key_is ∙ sym (ap (λ (z : Met _ _). key_of z.stored) c.live.view_is) in
    subst (HasKeyAt mid met.place.table met.place.probe.i) (sym key_is)
    (key_at_stays g.K.PartialEq.eq g.K.Hash.hash_input g.S.BuildHasher.build_hasher g.S.Hasher.Hasher.write g.S.Hasher.Hasher.finish g.met.K.Eq.laws
    g.met.K.Hash.respects_eq b log mid (rw (sym c.replace.ensures.tried.sees.book) c.replace.ensures.tried.lawful) c.replace.ensures.tried.sees.log met.place.table
    met.place.probe.i (key_of p) there)

pub insert_met-requires-clause-same : goal.insert_met-requires-clause-same
insert_met-requires-clause-same g c =
    let w = c.args.window.now.book.now in let b = begun_of w.parts in let log = c.args.window.now.sight.log in let key = c.args.key in
    let met = c.live.inside.met in let p = met.stored in
    let hash = (hash_of g.K.Hash.hash_input g.S.BuildHasher.build_hasher g.S.Hasher.Hasher.write g.S.Hasher.Hasher.finish) in
    let full = live_full met.word c.live.invariant.0 in
    let st = subst (λ (z : Met _ _). IsStateAfter c.args.window.now key c.args.table.now (MetPair z)) (sym c.live.view_is) c.requires.stands in let led : Some (Writing (record { place = met.place; old = met.word })) ≡ Some st.0 = st.1 in
    let to : Writing (record { place = met.place; old = met.word }) ≡ st.0 = cc led in
    let r = subst (λ (z : State). IsInsertingAt g.K.PartialEq.eq hash b w.begun.book key st.2.0 log z (Some p) c.args.table.now) (sym to) st.2.1 in
    let l = c.replace.ensures.tried.logged c.in-Lost.pair (ap pair_in c.in-Lost.is) in
    let key_is : key_of c.in-Lost.pair ≡ key_of p = l.key_is ∙ sym (ap (λ (z : Met _ _). key_of z.stored) c.live.view_is) in
    ap (g.K.PartialEq.eq key) key_is ∙ met_same g.K.PartialEq.eq g.K.Hash.hash_input g.S.BuildHasher.build_hasher g.S.Hasher.Hasher.write
    g.S.Hasher.Hasher.finish g.met.K.Eq.laws g.met.K.Hash.respects_eq b w.begun.book key st.2.0 log met.place met.word full p c.args.table.now r

pub returns-in-Put-clause-put : goal.returns-in-Put-clause-put
returns-in-Put-clause-put g c = λ begun state led r.
    let is = c.in-Put.is in let q = c.in-Put.field-0 in
    let l = c.replace.ensures.tried.logged q (ap pair_in is) in
    let t = c.replace.ensures.put q is c.args.key begun state led r in
    traded_some g.K.PartialEq.eq g.met.K.Eq.laws c.args.key c.args.value _ _ q l.value_is c.args.live.stored c.value.result
    (search rules) t.0 t.1 t.2

pub returns-in-Lost-clause-put : goal.returns-in-Lost-clause-put
returns-in-Lost-clause-put g c =
    let l = c.replace.ensures.tried.logged c.in-Lost.pair (ap pair_in c.in-Lost.is) in
    let log = c.args.window.now.sight.log in let mid = c.replace.new.window.sight.log in
    if_ok _ _ c.insert_met.result c.insert_met.ensures.put (λ a h begun state led r.
    put_since g.K.PartialEq.eq c.args.key c.args.value begun mid c.insert_met.new.window.sight.log a
    (prefix_trans begun log mid r.4.seen c.replace.ensures.tried.sees.log)
    (subst (λ z. IsPut g.K.PartialEq.eq c.args.key z (past c.replace.new.window) (past c.insert_met.new.window) a) l.value_is h))

pub returns-clause-put : goal.returns-clause-put
returns-clause-put g c =
    let back = c.replace.ensures.back c.in-Back.value c.in-Back.is in
    let log = c.args.window.now.sight.log in let mid = c.replace.new.window.sight.log in
    if_ok _ _ c.insert_slow.result c.insert_slow.ensures.put (λ a h begun state led r.
    put_since g.K.PartialEq.eq c.args.key c.args.value begun mid c.insert_slow.new.window.sight.log a
    (prefix_trans begun log mid r.4.seen c.replace.ensures.tried.sees.log)
    (subst (λ z. IsPut g.K.PartialEq.eq c.args.key z (past c.replace.new.window) (past c.insert_slow.new.window) a) back h))
