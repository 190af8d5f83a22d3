use Rattle.std.proofs.Common.{◌≡◌, Option, None, Some, Ok, Err, [], ◌∷◌, inl, refl, sym, ap, ◌∙◌, subst}
use Rattle.std.specs.Prelude.{IfSome}
use Rattle.papaya_words.specs.declared.refused.Refused.TheVariants.{Memory}
use Rattle.papaya_call.specs.declared.answers.Operation.TheVariants as operation
use Rattle.papaya_call.specs.declared.machine.State.TheVariants.{Writing}
use Rattle.papaya_map_book.specs.Books.{IsStoredAs}
use Rattle.papaya_map_book.specs.Logs.{Stored}
use Rattle.papaya_map_lookup.specs.Drivers.{past}
use Rattle.papaya_map_change.specs.Seeking.{Inserts}
use Rattle.papaya_map_change.specs.Tries.{is_put, pair_in}
use Rattle.papaya_map_compute.specs.Deciding.{puts}
use Rattle.papaya_map_compute.specs.declared.deciding.Decided.TheVariants.{Put}
use Rattle.papaya_map_compute.proofs.AtOnce.{comes_idle, comes_lost, comes_over, none_since, put_there, starts_filled, unseen}
use Rattle.papaya_map_compute.proofs.DoneBy.{decided_once, left_once}
use Rattle.papaya_map_compute.proofs.FastPath.{comes_since}
use Rattle.papaya_map_compute.proofs.deciding.decide_absent.Goals as goal

pub claim-requires-clause-stands : goal.claim-requires-clause-stands
claim-requires-clause-stands g c =
    let write = Writing (record { place = c.args.at; old = 0 }) in let led = c.requires.led in (write, refl, (led.0, led.1.found Inserts write refl))

pub claim-requires-clause-hashed : goal.claim-requires-clause-hashed
claim-requires-clause-hashed g c = c.requires.led.1.hashed

pub claim-requires-clause-limit : goal.claim-requires-clause-limit
claim-requires-clause-limit g c = c.requires.led.1.limit

pub value_of-requires : goal.value_of-requires
value_of-requires g c = (c.claim.ensures.tried.logged c.in-Put.pair (ap pair_in c.in-Put.is)).placed

pub returns-in_default-clause-comes : goal.returns-in_default-clause-comes
returns-in_default-clause-comes g c = λ since led looked.
    let w = c.args.window.now in let write = Writing (record { place = c.args.at; old = 0 }) in let decides = g.D.Rule.decides in
    let said : decides c.args.rule.now None None c.absent.new.self = subst (λ (o : Option _). decides c.args.rule.now None o c.absent.new.self)
    c.in_default.is c.absent.ensures.decides in
    let was = none_since g.K.PartialEq.eq g.K.Hash.hash_input g.S.BuildHasher.build_hasher g.S.Hasher.Hasher.write g.S.Hasher.Hasher.finish
    g.met.K.Eq.laws g.met.K.Hash.respects_eq w w (unseen w) c.args.key c.args.table.now since.sight.log c.args.at led.found in
    comes_since puts since _ _ _ _ w w _ looked (λ a h. h) (λ y h. h)
    (comes_idle puts _ _ w (led.found Inserts write refl).4.lawful _ refl
    (left_once g.K.PartialEq.eq c.args.key (past since) (past w) decides c.args.rule.now c.absent.new.self None was said None refl))

pub returns-in-Put-clause-comes : goal.returns-in-Put-clause-comes
returns-in-Put-clause-comes g c = λ since led looked.
    let w = c.args.window.now in let then = c.claim.new.window in let tried = c.claim.ensures.tried in let q = c.in-Put.pair in
    let l = tried.logged q (ap pair_in c.in-Put.is) in let decides = g.D.Rule.decides in let first = c.args.rule.now in let left = c.absent.new.self in
    let said : decides first None (Some q.value.value) left = subst (λ (o : Option _). decides first None o left)
    (c.in-Some.is ∙ ap (λ v. Some v) (sym l.value_is)) c.absent.ensures.decides in
    let was = none_since g.K.PartialEq.eq g.K.Hash.hash_input g.S.BuildHasher.build_hasher g.S.Hasher.Hasher.write g.S.Hasher.Hasher.finish
    g.met.K.Eq.laws g.met.K.Hash.respects_eq w then tried.sees c.args.key c.args.table.now since.sight.log c.args.at led.found in
    let change = put_there g.K.PartialEq.eq g.K.Hash.hash_input g.S.BuildHasher.build_hasher g.S.Hasher.Hasher.write g.S.Hasher.Hasher.finish
    g.met.K.Eq.laws g.met.K.Hash.respects_eq w then tried.sees c.args.key c.args.table.now since.sight.log c.args.at led.found q (c.claim.ensures.put q c.in-Put.is) in
    comes_since puts since _ _ _ _ w then _ looked (λ a h. h) (λ y h. h)
    (comes_over puts _ _ w then _ _ _ tried _ (ap is_put c.in-Put.is) _ refl (λ cause e. absurd (cc e))
    (decided_once g.K.PartialEq.eq c.args.key (past since) (past then) decides first left None was (operation.Insert q.value.value) said
    (Ok (Put c.value_of.result)) (q, change, l.key_is, inl refl, c.value_of.ensures)))

pub returns-in-Lost-clause-comes : goal.returns-in-Lost-clause-comes
returns-in-Lost-clause-comes g c = λ since led looked.
    let w = c.args.window.now in let then = c.claim.new.window in let tried = c.claim.ensures.tried in let q = c.in-Lost.pair in
    let decides = g.D.Rule.decides in let first = c.args.rule.now in let left = c.absent.new.self in let v = c.in-Some.value in
    let said : decides first None (Some v) left = subst (λ (o : Option _). decides first None o left) c.in-Some.is c.absent.ensures.decides in
    let starts = starts_filled g.K.PartialEq.eq g.K.Hash.hash_input g.S.BuildHasher.build_hasher g.S.Hasher.Hasher.write g.S.Hasher.Hasher.finish
    g.met.K.Eq.laws g.met.K.Hash.respects_eq w then tried.sees c.args.key c.args.table.now since.sight.log c.args.at led.found c.args.hash v q led.hashed tried.lawful
    (tried.logged q (ap pair_in c.in-Lost.is)) (operation.Insert v) refl in
    comes_since puts since _ _ _ _ w then _ looked (λ a h. h) (λ y h. h)
    (comes_lost puts _ _ w then _ _ _ tried (ap is_put c.in-Lost.is) _ ((None, operation.Insert v) ∷ [], starts, (first, refl, (None, tt, said))))

pub returns-in-Some-store_by_waiting-clause-comes : goal.returns-in-Some-store_by_waiting-clause-comes
returns-in-Some-store_by_waiting-clause-comes g c = λ since led looked.
    let w = c.args.window.now in let then = c.claim.new.window in let tried = c.claim.ensures.tried in let q = c.in-Some-store_by_waiting.pair in
    let decides = g.D.Rule.decides in let first = c.args.rule.now in let left = c.absent.new.self in let v = c.in-Some.value in
    let said : decides first None (Some v) left = subst (λ (o : Option _). decides first None o left) c.in-Some.is c.absent.ensures.decides in
    let back = c.claim.ensures.back (c.in-Back.key, c.in-Back.value) c.in-Back.is in
    let l = subst (λ (z : Option (Stored _ _)). IfSome z (IsStoredAs then.book.now c.in-Back.key c.in-Back.value)) c.in-Some-store_by_waiting.is c.store_by_waiting.ensures in
    let starts = starts_filled g.K.PartialEq.eq g.K.Hash.hash_input g.S.BuildHasher.build_hasher g.S.Hasher.Hasher.write g.S.Hasher.Hasher.finish
    g.met.K.Eq.laws g.met.K.Hash.respects_eq w then tried.sees c.args.key c.args.table.now since.sight.log c.args.at led.found c.args.hash v q led.hashed tried.lawful
    (record { placed = l.placed; key_is = l.key_is ∙ ap (λ z. z.0) back; value_is = l.value_is ∙ ap (λ z. z.1) back; number = l.number })
    (operation.Insert v) refl in
    comes_since puts since _ _ _ _ w then _ looked (λ a h. h) (λ y h. h)
    (comes_lost puts _ _ w then _ _ _ tried (ap is_put c.in-Back.is) _ ((None, operation.Insert v) ∷ [], starts, (first, refl, (None, tt, said))))

pub returns-in-None-clause-comes : goal.returns-in-None-clause-comes
returns-in-None-clause-comes g c = λ since led looked.
    let w = c.args.window.now in let then = c.claim.new.window in let tried = c.claim.ensures.tried in
    let decides = g.D.Rule.decides in let first = c.args.rule.now in let left = c.absent.new.self in let v = c.in-Some.value in
    let said : decides first None (Some v) left = subst (λ (o : Option _). decides first None o left) c.in-Some.is c.absent.ensures.decides in
    let was = none_since g.K.PartialEq.eq g.K.Hash.hash_input g.S.BuildHasher.build_hasher g.S.Hasher.Hasher.write g.S.Hasher.Hasher.finish
    g.met.K.Eq.laws g.met.K.Hash.respects_eq w then tried.sees c.args.key c.args.table.now since.sight.log c.args.at led.found in
    comes_since puts since _ _ _ _ w then _ looked (λ a h. h) (λ y h. h)
    (comes_over puts _ _ w then _ _ _ tried _ (ap is_put c.in-Back.is) _ refl (λ cause e. let is : Memory ≡ cause = cc e in sym is)
    (decided_once g.K.PartialEq.eq c.args.key (past since) (past then) decides first left None was (operation.Insert v) said (Err Memory) (inl (inl refl))))
