use Rattle.std.proofs.Common.{Result, Ok, Err, IfOk, sym, ap, ◌∙◌, subst}
use Rattle.papaya_map_book.specs.Hashes.{hash_of}
use Rattle.papaya_map_book.proofs.Logs.{prefix_trans}
use Rattle.papaya_map_lookup.specs.Drivers.{past}
use Rattle.papaya_map_change.specs.Changes.{IsPut}
use Rattle.papaya_map_change.specs.Tries.{pair_in}
use Rattle.papaya_map_change.proofs.InsertingReplies.{put_since}
use Rattle.papaya_map_change.proofs.Trading.{traded_none}
use Rattle.papaya_map_change.proofs.fast_path.claim_at.Goals as goal

if_ok : {A E : Type 0} (P Q : A → Type 0) (r : Result A E) → IfOk r P → ((a : A) → P a → Q a) → IfOk r Q
if_ok P Q (Ok a) p f = f a p
if_ok P Q (Err e) p f = tt

pub insert_stored-requires-clause-hashed : goal.insert_stored-requires-clause-hashed
insert_stored-requires-clause-hashed g c =
    let l = c.claim.ensures.tried.logged c.in-Lost.pair (ap pair_in c.in-Lost.is) in
    let hash = (hash_of g.K.Hash.hash_input g.S.BuildHasher.build_hasher g.S.Hasher.Hasher.write g.S.Hasher.Hasher.finish) in
    rw c.claim.ensures.tried.sees.book (c.requires.hashed ∙ ap (hash c.args.window.now.book.now.parts.hasher) (sym l.key_is))

pub returns-in-Put-clause-put : goal.returns-in-Put-clause-put
returns-in-Put-clause-put g c = λ begun state led r.
    let is = c.in-Put.is in let q = c.in-Put.field-0 in
    let l = c.claim.ensures.tried.logged q (ap pair_in is) in
    let t = c.claim.ensures.put q is begun state led r in
    traded_none g.K.PartialEq.eq g.met.K.Eq.laws c.args.key c.args.value _ _ q l.value_is l.key_is t.0 t.1 t.2

pub returns-in-Lost-clause-put : goal.returns-in-Lost-clause-put
returns-in-Lost-clause-put g c =
    let l = c.claim.ensures.tried.logged c.in-Lost.pair (ap pair_in c.in-Lost.is) in
    let log = c.args.window.now.sight.log in let mid = c.claim.new.window.sight.log in
    if_ok _ _ c.insert_stored.result c.insert_stored.ensures.put (λ a h begun state led r.
    put_since g.K.PartialEq.eq c.args.key c.args.value begun mid c.insert_stored.new.window.sight.log a
    (prefix_trans begun log mid r.4.seen c.claim.ensures.tried.sees.log)
    (subst (λ (z : _ × _). IsPut g.K.PartialEq.eq z.0 z.1 (past c.claim.new.window) (past c.insert_stored.new.window) a) (λ i. (l.key_is i, l.value_is i)) h))

pub returns-clause-put : goal.returns-clause-put
returns-clause-put g c =
    let back = c.claim.ensures.back (c.in-Back.key, c.in-Back.value) c.in-Back.is in
    let log = c.args.window.now.sight.log in let mid = c.claim.new.window.sight.log in
    if_ok _ _ c.insert_slow.result c.insert_slow.ensures.put (λ a h begun state led r.
    put_since g.K.PartialEq.eq c.args.key c.args.value begun mid c.insert_slow.new.window.sight.log a
    (prefix_trans begun log mid r.4.seen c.claim.ensures.tried.sees.log)
    (subst (λ (z : _ × _). IsPut g.K.PartialEq.eq z.0 z.1 (past c.claim.new.window) (past c.insert_slow.new.window) a) back h))
