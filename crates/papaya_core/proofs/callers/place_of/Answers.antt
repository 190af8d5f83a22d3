use Rattle.std.proofs.Common.{◌≡◌, ◌<◌, ◌≤◌, length, slice_get, refl, sym, ap, ◌∙◌, ⊎_elim, arith}
use Rattle.std.proofs.lemmas.Option.{slice_get_read, slice_get_within}
use Rattle.std.proofs.lemmas.Bool.{cases_lt}
use Rattle.papaya_core_timeline.proofs.CallersLemmas.{same_item}
use Rattle.papaya_core.proofs.callers.place_of.Goals as goal

pub loop-place-init : goal.loop-place-init
loop-place-init g c = λ i seat lt. absurd (omega arith)

pub returns-then-seat-caller : goal.returns-then-seat-caller
returns-then-seat-caller g c =
    let at = slice_get_read c.args.seats.now (length c.args.seats.now) c.loop-place.place c.index-seats-place.result refl c.loop-place-test.true
    c.index-seats-place.is in
    record {
      within = omega arith;
      before = c.loop-place.invariant;
      here = λ seat e. ap (λ x. x.caller) (same_item seat c.index-seats-place.result (sym e ∙ at)) ∙ c.if-seat-caller.true;
    }

pub loop-place-preserved : goal.loop-place-preserved
loop-place-preserved g c = λ i seat lt e.
    let at = slice_get_read c.args.seats.now (length c.args.seats.now) c.loop-place.place c.index-seats-place.result refl c.loop-place-test.true
    c.index-seats-place.is in
    ⊎_elim
    (λ (below : i < c.loop-place.place). c.loop-place.invariant i seat below e)
    (λ (above : c.loop-place.place ≤ i).
    let same : i ≡ c.loop-place.place = omega arith in
    λ is. c.if-seat-caller.false (ap (λ x. x.caller)
    (same_item c.index-seats-place.result seat (sym at ∙ (ap (slice_get c.args.seats.now) (sym same) ∙ e))) ∙ is))
    (cases_lt i c.loop-place.place)

pub returns : goal.returns
returns g c = record {
  within = omega arith;
  before = λ i seat lt e. c.loop-place.invariant i seat (omega arith) e;
  here = λ seat e. absurd (let lt = slice_get_within c.args.seats.now (length c.args.seats.now) seat e in omega arith);
}
