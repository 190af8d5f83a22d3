use Rattle.std.proofs.Common.{◌≡◌, ◌<◌, ◌≤◌, List, length, Some, slice_get, get_or, is_some, ltb-true, ltb-false, refl, sym, ap, subst, ◌∙◌, arith}
use Rattle.std.proofs.lemmas.Option.{slice_get_read}
use Rattle.papaya_core_timeline.specs.declared.seat.Seat.{Seat}
use Rattle.papaya_core_timeline.specs.Callers.{working, IsSeatAt}
use Rattle.papaya_core_timeline.proofs.CallersLemmas.{working-at, working-none}
use Rattle.papaya_core.proofs.callers.Callers.is_running.Goals as goal

pub returns-in-Some : goal.returns-in-Some
returns-in-Some g c =
    let seats = c.self.inside.seats.items in
    let at : IsSeatAt seats c.args.caller c.place_of.result = subst (λ (xs : List (Seat _ _ _)). IsSeatAt xs c.args.caller c.place_of.result)
    c.deref-2.ensures.value c.place_of.ensures in
    let found = c.in-Some.ensures.lookup in
    let within : c.place_of.result < length seats = subst (λ (xs : List (Seat _ _ _)). c.place_of.result < length xs) c.deref.ensures.value
    (ltb-true _ _ (sym found.0)) in
    let there : slice_get seats c.place_of.result ≡ Some c.in-Some.seat.now = slice_get_read seats (length seats) c.place_of.result c.in-Some.seat.now
    refl within (subst (λ (xs : List (Seat _ _ _)). c.in-Some.seat.now ≡ get_or xs c.place_of.result c.in-Some.seat.now) c.deref.ensures.value found.1) in
    c.is_some.ensures ∙ ap is_some (sym (working-at seats c.args.caller c.place_of.result c.in-Some.seat.now at there))
    ∙ ap (λ (xs : List (Seat _ _ _)). is_some (working xs c.args.caller)) c.self.view_is

pub returns-in-None : goal.returns-in-None
returns-in-None g c =
    let seats = c.self.inside.seats.items in
    let at : IsSeatAt seats c.args.caller c.place_of.result = subst (λ (xs : List (Seat _ _ _)). IsSeatAt xs c.args.caller c.place_of.result)
    c.deref-2.ensures.value c.place_of.ensures in
    let none = c.in-None.ensures.lookup in
    let past : length seats ≤ c.place_of.result = subst (λ (xs : List (Seat _ _ _)). length xs ≤ c.place_of.result) c.deref.ensures.value
    (ltb-false _ _ (sym none.0)) in
    let e : c.place_of.result ≡ length seats = let w = at.within in omega arith in
    ap is_some (sym (working-none seats c.args.caller (subst (IsSeatAt seats c.args.caller) e at)))
    ∙ ap (λ (xs : List (Seat _ _ _)). is_some (working xs c.args.caller)) c.self.view_is
