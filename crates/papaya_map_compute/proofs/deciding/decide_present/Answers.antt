use Rattle.std.proofs.Common.{◌≡◌, Option, None, Some, Ok, Err, [], ◌∷◌, inl, refl, sym, ap, ◌∙◌, subst}
use denote.Bor.{Bor}
use Rattle.std.specs.Prelude.{IfSome}
use Rattle.papaya_words.specs.declared.refused.Refused.TheVariants.{Memory}
use Rattle.papaya_call.specs.declared.answers.Operation.TheVariants as operation
use Rattle.papaya_call.specs.declared.machine.State.TheVariants.{Writing}
use Rattle.papaya_map_book.specs.Books.{IsIn, IsStoredAs}
use Rattle.papaya_map_book.specs.declared.rule.entry.Named.TheVariants as names
use Rattle.papaya_map_book.specs.Logs.{Stored}
use Rattle.papaya_map_lookup.specs.Drivers.{past}
use Rattle.papaya_map_lookup.specs.History.{key_of}
use Rattle.papaya_map_lookup.specs.declared.lookup.Met.{Met}
use Rattle.papaya_map_change.specs.Seeking.{Inserts}
use Rattle.papaya_map_change.specs.Tries.{is_put, pair_in}
use Rattle.papaya_map_compute.specs.Deciding.{AsksRule, puts}
use Rattle.papaya_map_compute.specs.FastPath.{IsOnItsWay}
use Rattle.papaya_map_compute.specs.Operating.{CallsClosure}
use Rattle.papaya_map_compute.specs.declared.deciding.Decided.TheVariants.{Replaced}
use Rattle.papaya_map_compute.specs.declared.fast_path.Start.TheVariants as start
use Rattle.papaya_map_compute.proofs.AtOnce.{comes_idle, comes_lost, comes_over, met_placed, pair_since, put_over, starts_replaced, unseen}
use Rattle.papaya_map_compute.proofs.DoneBy.{decided_once, left_once}
use Rattle.papaya_map_compute.proofs.FastPath.{comes_since}
use Rattle.papaya_map_compute.proofs.deciding.decide_present.Goals as goal

pub value-old-requires : goal.value-old-requires
value-old-requires g c =
    let w = c.args.window.now in let led = c.requires.led in
    rw c.pair.ensures (met_placed g.K.PartialEq.eq g.K.Hash.hash_input g.S.BuildHasher.build_hasher g.S.Hasher.Hasher.write g.S.Hasher.Hasher.finish
    g.met.K.Eq.laws g.met.K.Hash.respects_eq w w (unseen w) c.args.key c.args.table.now led.0 c.args.live led.1.found).2

pub replace-requires-clause-stands : goal.replace-requires-clause-stands
replace-requires-clause-stands g c =
    let met = c.args.live in let write = Writing (record { place = met.place; old = met.word }) in let led = c.requires.led in
    (c.args.key, (write, refl, (led.0, led.1.found Inserts write refl)))

pub replace-requires-clause-limit : goal.replace-requires-clause-limit
replace-requires-clause-limit g c = c.requires.led.1.limit

pub value_of-requires : goal.value_of-requires
value_of-requires g c =
    let tried = c.replace.ensures.tried in rw (sym tried.sees.book) (tried.logged c.in-Put.pair (ap pair_in c.in-Put.is)).placed

pub store_by_waiting-requires : goal.store_by_waiting-requires
store_by_waiting-requires g c =
    let led = c.requires.led in let w = c.args.window.now in
    let at_hand = met_placed g.K.PartialEq.eq g.K.Hash.hash_input g.S.BuildHasher.build_hasher g.S.Hasher.Hasher.write g.S.Hasher.Hasher.finish
    g.met.K.Eq.laws g.met.K.Hash.respects_eq w w (unseen w) c.args.key c.args.table.now led.0 c.args.live led.1.found in
    let same = c.again.ensures ∙ ap (λ (z : Met _ _). z.stored) c.met.ensures in
    let of = subst (λ (z : Stored _ _). IsIn w.book.now (names.Pair z)) (sym same) at_hand in (of.0, of.1)

pub returns-in_default-clause-comes : goal.returns-in_default-clause-comes
returns-in_default-clause-comes g c = λ since led looked.
    let w = c.args.window.now in let met = c.args.live in let p = met.stored in let write = Writing (record { place = met.place; old = met.word }) in
    let decides = g.D.Rule.decides in let value_is = c.value-old.ensures ∙ ap (λ v. v.value) c.pair.ensures in
    let said : decides c.args.rule.now (Some p.value.value) None c.present.new.self = subst (λ (o : Option _). decides c.args.rule.now (Some p.value.value) o
    c.present.new.self) c.in_default.is (subst (λ u. decides c.args.rule.now (Some u) c.present.result c.present.new.self) value_is c.present.ensures.decides) in
    let was = pair_since g.K.PartialEq.eq g.K.Hash.hash_input g.S.BuildHasher.build_hasher g.S.Hasher.Hasher.write g.S.Hasher.Hasher.finish
    g.met.K.Eq.laws g.met.K.Hash.respects_eq w w (unseen w) c.args.key c.args.table.now since.sight.log met led.found in
    comes_since puts since _ _ _ _ w w _ looked (λ a h. h) (λ y h. h)
    (comes_idle puts _ _ w (led.found Inserts write refl).4.lawful _ refl
    (left_once g.K.PartialEq.eq c.args.key (past since) (past w) decides c.args.rule.now c.present.new.self (Some p) was said (Some c.value-old.result)
    (ap (λ v. Some v) value_is)))

pub returns-in-Put-clause-comes : goal.returns-in-Put-clause-comes
returns-in-Put-clause-comes g c = λ since led looked.
    let w = c.args.window.now in let then = c.replace.new.window in let tried = c.replace.ensures.tried in let q = c.in-Put.pair in
    let l = tried.logged q (ap pair_in c.in-Put.is) in let met = c.args.live in let p = met.stored in
    let decides = g.D.Rule.decides in let first = c.args.rule.now in let left = c.present.new.self in
    let value_is = c.value-old.ensures ∙ ap (λ v. v.value) c.pair.ensures in
    let said : decides first (Some p.value.value) (Some q.value.value) left = subst (λ (o : Option _). decides first (Some p.value.value) o left)
    (c.in-Some.is ∙ ap (λ v. Some v) (sym l.value_is)) (subst (λ v. decides first (Some v) c.present.result left) value_is c.present.ensures.decides) in
    let was = pair_since g.K.PartialEq.eq g.K.Hash.hash_input g.S.BuildHasher.build_hasher g.S.Hasher.Hasher.write g.S.Hasher.Hasher.finish
    g.met.K.Eq.laws g.met.K.Hash.respects_eq w then tried.sees c.args.key c.args.table.now since.sight.log met led.found in
    let put = put_over g.K.PartialEq.eq g.K.Hash.hash_input g.S.BuildHasher.build_hasher g.S.Hasher.Hasher.write g.S.Hasher.Hasher.finish
    g.met.K.Eq.laws g.met.K.Hash.respects_eq w then tried.sees c.args.key c.args.table.now since.sight.log met led.found q (c.replace.ensures.put q c.in-Put.is c.args.key) in
    comes_since puts since _ _ _ _ w then _ looked (λ a h. h) (λ y h. h)
    (comes_over puts _ _ w then _ _ _ tried _ (ap is_put c.in-Put.is) _ refl (λ cause e. absurd (cc e))
    (decided_once g.K.PartialEq.eq c.args.key (past since) (past then) decides first left (Some p) was (operation.Insert q.value.value) said
    (Ok (Replaced c.value_of.result))
    (put.0, q, put.2, put.2.kept put.0 q refl refl, (p, put.1, inl refl), c.value_of.ensures)))

pub returns-in-Lost-clause-comes : goal.returns-in-Lost-clause-comes
returns-in-Lost-clause-comes g c = λ since led looked.
    let w = c.args.window.now in let then = c.replace.new.window in let tried = c.replace.ensures.tried in let q = c.in-Lost.pair in
    let met = c.args.live in let p = met.stored in let v = c.in-Some.value in
    let decides = g.D.Rule.decides in let first = c.args.rule.now in let left = c.present.new.self in
    let value_is = c.value-old.ensures ∙ ap (λ v. v.value) c.pair.ensures in
    let said : decides first (Some c.value-old.result.now) (Some v) left = subst (λ (o : Option _). decides first (Some c.value-old.result.now) o left)
    c.in-Some.is c.present.ensures.decides in
    let key_there : Bor _ = record { ref_ptr = (0, 0); now = key_of p } in
    let starts = starts_replaced g.K.PartialEq.eq g.K.Hash.hash_input g.S.BuildHasher.build_hasher g.S.Hasher.Hasher.write g.S.Hasher.Hasher.finish
    g.met.K.Eq.laws g.met.K.Hash.respects_eq w then tried.sees c.args.key c.args.table.now since.sight.log met led.found c.args.hash v q led.hashed tried.lawful
    (tried.logged q (ap pair_in c.in-Lost.is)) (operation.Insert v) refl in
    comes_since puts since _ _ _ _ w then _ looked (λ a h. h) (λ y h. h)
    (comes_lost puts _ _ w then _ _ _ tried (ap is_put c.in-Lost.is) _
    (subst (λ (z : Met _ _). IsOnItsWay since then c.args.key (CallsClosure (AsksRule decides)) first left (start.Replaced c.args.key c.args.hash z q))
    (sym c.into_met.ensures)
    ((Some p, operation.Insert v) ∷ [], starts, (first, refl, (Some (key_there, c.value-old.result), (refl, value_is), said)))))

pub returns-in-Some-store_by_waiting-clause-comes : goal.returns-in-Some-store_by_waiting-clause-comes
returns-in-Some-store_by_waiting-clause-comes g c = λ since led looked.
    let w = c.args.window.now in let then = c.replace.new.window in let tried = c.replace.ensures.tried in let q = c.in-Some-store_by_waiting.pair in
    let met = c.args.live in let p = met.stored in let v = c.in-Some.value in
    let decides = g.D.Rule.decides in let first = c.args.rule.now in let left = c.present.new.self in
    let value_is = c.value-old.ensures ∙ ap (λ v. v.value) c.pair.ensures in
    let said : decides first (Some c.value-old.result.now) (Some v) left = subst (λ (o : Option _). decides first (Some c.value-old.result.now) o left)
    c.in-Some.is c.present.ensures.decides in
    let key_there : Bor _ = record { ref_ptr = (0, 0); now = key_of p } in
    let back = c.replace.ensures.back c.in-Back.value c.in-Back.is in
    let of : key_of c.again.result ≡ key_of p = ap key_of (c.again.ensures ∙ ap (λ (z : Met _ _). z.stored) c.met.ensures) in
    let l = subst (λ (z : Option (Stored _ _)). IfSome z (IsStoredAs w.book.now (key_of c.again.result) c.in-Back.value)) c.in-Some-store_by_waiting.is
    c.store_by_waiting.ensures in
    let starts = starts_replaced g.K.PartialEq.eq g.K.Hash.hash_input g.S.BuildHasher.build_hasher g.S.Hasher.Hasher.write g.S.Hasher.Hasher.finish
    g.met.K.Eq.laws g.met.K.Hash.respects_eq w then tried.sees c.args.key c.args.table.now since.sight.log met led.found c.args.hash v q led.hashed tried.lawful
    (record { placed = rw tried.sees.book l.placed; key_is = l.key_is ∙ of; value_is = l.value_is ∙ back; number = l.number })
    (operation.Insert v) refl in
    comes_since puts since _ _ _ _ w then _ looked (λ a h. h) (λ y h. h)
    (comes_lost puts _ _ w then _ _ _ tried (ap is_put c.in-Back.is) _
    (subst (λ (z : Met _ _). IsOnItsWay since then c.args.key (CallsClosure (AsksRule decides)) first left (start.Replaced c.args.key c.args.hash z q))
    (sym c.into_met-in-Some-store_by_waiting.ensures)
    ((Some p, operation.Insert v) ∷ [], starts, (first, refl, (Some (key_there, c.value-old.result), (refl, value_is), said)))))

pub returns-clause-comes : goal.returns-clause-comes
returns-clause-comes g c = λ since led looked.
    let w = c.args.window.now in let then = c.replace.new.window in let tried = c.replace.ensures.tried in
    let met = c.args.live in let p = met.stored in let v = c.in-Some.value in
    let decides = g.D.Rule.decides in let first = c.args.rule.now in let left = c.present.new.self in
    let value_is = c.value-old.ensures ∙ ap (λ v. v.value) c.pair.ensures in
    let said : decides first (Some p.value.value) (Some v) left = subst (λ (o : Option _). decides first (Some p.value.value) o left) c.in-Some.is
    (subst (λ u. decides first (Some u) c.present.result left) value_is c.present.ensures.decides) in
    let was = pair_since g.K.PartialEq.eq g.K.Hash.hash_input g.S.BuildHasher.build_hasher g.S.Hasher.Hasher.write g.S.Hasher.Hasher.finish
    g.met.K.Eq.laws g.met.K.Hash.respects_eq w then tried.sees c.args.key c.args.table.now since.sight.log met led.found in
    comes_since puts since _ _ _ _ w then _ looked (λ a h. h) (λ y h. h)
    (comes_over puts _ _ w then _ _ _ tried _ (ap is_put c.in-Back.is) _ refl (λ cause e. let is : Memory ≡ cause = cc e in sym is)
    (decided_once g.K.PartialEq.eq c.args.key (past since) (past then) decides first left (Some p) was (operation.Insert v) said (Err Memory) (inl (inl refl))))
