use Rattle.std.proofs.Common.{List, sym, ap, subst, ◌∙◌}
use Rattle.papaya_core_timeline.specs.declared.seat.Seat.{Seat}
use Rattle.papaya_core_timeline.specs.Callers.{with_work, IsSeated, IsSeatAt}
use Rattle.papaya_core_timeline.proofs.CallersLemmas.{item_there, seated-within, with_work-at}
use Rattle.papaya_core.proofs.callers.Callers.put.Goals as goal

pub put_work-requires : goal.put_work-requires
put_work-requires g c =
    let seats = c.self.inside.seats.items in
    let at : IsSeatAt seats c.args.caller c.place_of-place.result =
    subst (λ (xs : List (Seat _ _ _)). IsSeatAt xs c.args.caller c.place_of-place.result) c.deref.ensures.value c.place_of-place.ensures in
    seated-within seats c.args.caller c.place_of-place.result at (subst (λ (xs : List (Seat _ _ _)). IsSeated xs c.args.caller) (sym c.self.view_is) c.requires)

pub returns : goal.returns
returns g c =
    let seats = c.self.inside.seats.items in
    let at : IsSeatAt seats c.args.caller c.place_of-place.result =
    subst (λ (xs : List (Seat _ _ _)). IsSeatAt xs c.args.caller c.place_of-place.result) c.deref.ensures.value c.place_of-place.ensures in
    let within = seated-within seats c.args.caller c.place_of-place.result at
    (subst (λ (xs : List (Seat _ _ _)). IsSeated xs c.args.caller) (sym c.self.view_is) c.requires) in
    let (seat, there) = item_there seats c.place_of-place.result within in
    c.put_work.ensures seat there ∙ sym (with_work-at seats c.args.caller c.place_of-place.result seat c.args.work at there)
    ∙ ap (λ (xs : List (Seat _ _ _)). with_work xs c.args.caller c.args.work) c.self.view_is
