use Rattle.std.proofs.Common.{◌≡◌, ◌<◌, List, length, sym, ap, subst, ◌∙◌, arith}
use Rattle.papaya_core_timeline.specs.declared.seat.Seat.{Seat}
use Rattle.papaya_core_timeline.specs.Callers.{with_seat, IsSeated, IsSeatAt}
use Rattle.papaya_core_timeline.proofs.CallersLemmas.{seat-seated, with_seat-end, with_seat-there, end-seated}
use Rattle.papaya_core.proofs.callers.Callers.seat.Goals as goal

pub returns-then-place_of-len-clause-ok : goal.returns-then-place_of-len-clause-ok
returns-then-place_of-len-clause-ok g c =
    let seats = c.self.inside.seats.items in
    let at : IsSeatAt seats c.args.caller c.place_of.result = subst (λ (xs : List (Seat _ _ _)). IsSeatAt xs c.args.caller c.place_of.result)
    c.deref.ensures.value c.place_of.ensures in
    let within : c.place_of.result < length seats =
    omega (arith, c.if-place_of-len.true, c.len.ensures, c.deref.ensures.len, ap length c.deref.ensures.value) in (
      sym (with_seat-there c.args.self.now c.args.caller c.place_of.result
          (subst (λ (xs : List (Seat _ _ _)). IsSeatAt xs c.args.caller c.place_of.result) c.self.view_is at)
          (subst (λ (xs : List (Seat _ _ _)). c.place_of.result < length xs) c.self.view_is within)),
      subst (λ (xs : List (Seat _ _ _)). IsSeated xs c.args.caller) c.self.view_is (seat-seated seats c.args.caller c.place_of.result at within),
    )

pub returns-clause-ok : goal.returns-clause-ok
returns-clause-ok g c =
    let seats = c.self.inside.seats.items in
    let past : c.place_of.result ≡ length seats = let w = c.place_of.ensures.within in
    omega (arith, w, c.if-place_of-len.false, c.len.ensures, c.deref.ensures.len, ap length c.deref.ensures.value) in
    let at : IsSeatAt seats c.args.caller (length seats) = subst (IsSeatAt seats c.args.caller) past
    (subst (λ (xs : List (Seat _ _ _)). IsSeatAt xs c.args.caller c.place_of.result) c.deref.ensures.value c.place_of.ensures) in (
      c.in_ok-add_seat.ensures.ok ∙ sym (with_seat-end seats c.args.caller at) ∙ ap (λ (xs : List (Seat _ _ _)). with_seat xs c.args.caller) c.self.view_is,
      subst (λ (xs : List (Seat _ _ _)). IsSeated xs c.args.caller) (sym c.in_ok-add_seat.ensures.ok) (end-seated seats c.args.caller),
    )
