use Rattle.std.proofs.Common.{◌≡◌, List, None, is_some, true, sym, ap, subst, ◌∙◌}
use Rattle.papaya_core_timeline.specs.declared.seat.Seat.{Seat}
use Rattle.papaya_core_timeline.specs.Callers.{working, with_work, IsSeated, IsSeatAt}
use Rattle.papaya_core_timeline.proofs.CallersLemmas.{item_there, not_none, working-at, working-within, with_work-at, with_work-seated}
use Rattle.papaya_core.proofs.callers.Callers.take.Goals as goal

pub take_work-requires : goal.take_work-requires
take_work-requires g c =
    let seats = c.self.inside.seats.items in
    let at : IsSeatAt seats c.args.caller c.place_of-place.result =
    subst (λ (xs : List (Seat _ _ _)). IsSeatAt xs c.args.caller c.place_of-place.result) c.deref.ensures.value c.place_of-place.ensures in
    working-within seats c.args.caller c.place_of-place.result at
    (subst (λ (xs : List (Seat _ _ _)). is_some (working xs c.args.caller) ≡ true) (sym c.self.view_is) c.requires)

pub unreachable-requires : goal.unreachable-requires
unreachable-requires g c =
    let seats = c.self.inside.seats.items in
    let at : IsSeatAt seats c.args.caller c.place_of-place.result =
    subst (λ (xs : List (Seat _ _ _)). IsSeatAt xs c.args.caller c.place_of-place.result) c.deref.ensures.value c.place_of-place.ensures in
    let within = working-within seats c.args.caller c.place_of-place.result at
    (subst (λ (xs : List (Seat _ _ _)). is_some (working xs c.args.caller) ≡ true) (sym c.self.view_is) c.requires) in
    let (seat, there) = item_there seats c.place_of-place.result within in
    not_none (working seats c.args.caller) (subst (λ (xs : List (Seat _ _ _)). is_some (working xs c.args.caller) ≡ true) (sym c.self.view_is) c.requires)
    (working-at seats c.args.caller c.place_of-place.result seat at there ∙ sym (c.take_work.ensures.seat seat there).0 ∙ c.in-None.is)

pub returns-clause-call : goal.returns-clause-call
returns-clause-call g c =
    let seats = c.self.inside.seats.items in
    let at : IsSeatAt seats c.args.caller c.place_of-place.result =
    subst (λ (xs : List (Seat _ _ _)). IsSeatAt xs c.args.caller c.place_of-place.result) c.deref.ensures.value c.place_of-place.ensures in
    let within = working-within seats c.args.caller c.place_of-place.result at
    (subst (λ (xs : List (Seat _ _ _)). is_some (working xs c.args.caller) ≡ true) (sym c.self.view_is) c.requires) in
    let (seat, there) = item_there seats c.place_of-place.result within in
    ap (λ (xs : List (Seat _ _ _)). working xs c.args.caller) (sym c.self.view_is)
    ∙ working-at seats c.args.caller c.place_of-place.result seat at there ∙ sym (c.take_work.ensures.seat seat there).0 ∙ c.in-Some.is

pub returns-clause-taken : goal.returns-clause-taken
returns-clause-taken g c =
    let seats = c.self.inside.seats.items in
    let at : IsSeatAt seats c.args.caller c.place_of-place.result =
    subst (λ (xs : List (Seat _ _ _)). IsSeatAt xs c.args.caller c.place_of-place.result) c.deref.ensures.value c.place_of-place.ensures in
    let within = working-within seats c.args.caller c.place_of-place.result at
    (subst (λ (xs : List (Seat _ _ _)). is_some (working xs c.args.caller) ≡ true) (sym c.self.view_is) c.requires) in
    let (seat, there) = item_there seats c.place_of-place.result within in
    (c.take_work.ensures.seat seat there).1 ∙ sym (with_work-at seats c.args.caller c.place_of-place.result seat None at there)
    ∙ ap (λ (xs : List (Seat _ _ _)). with_work xs c.args.caller None) c.self.view_is

pub returns-clause-seat : goal.returns-clause-seat
returns-clause-seat g c =
    let seats = c.self.inside.seats.items in
    let at : IsSeatAt seats c.args.caller c.place_of-place.result =
    subst (λ (xs : List (Seat _ _ _)). IsSeatAt xs c.args.caller c.place_of-place.result) c.deref.ensures.value c.place_of-place.ensures in
    let within = working-within seats c.args.caller c.place_of-place.result at
    (subst (λ (xs : List (Seat _ _ _)). is_some (working xs c.args.caller) ≡ true) (sym c.self.view_is) c.requires) in
    let (seat, there) = item_there seats c.place_of-place.result within in
    subst (λ (xs : List (Seat _ _ _)). IsSeated xs c.args.caller)
    (with_work-at seats c.args.caller c.place_of-place.result seat None at there ∙ sym (c.take_work.ensures.seat seat there).1)
    (with_work-seated seats c.args.caller c.place_of-place.result None at within)
