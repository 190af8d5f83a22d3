use Rattle.std.proofs.Common.{◌≡◌, ◌≢◌, ⊎_elim, ℕ, ◌+◌, ◌*◌, ◌<◌, ◌≤◌, false, List, length, map, slice_index_or, slice_set, sym, ap, ◌∙◌, subst, arith, rules}
use Rattle.std.proofs.lemmas.Bool.{cases_eq}
use Rattle.std.proofs.lemmas.List.{get_or-set_other, get_or-set_same, length-map, length-set}
use Rattle.logbook.specs.Pages.{Named}
use Rattle.papaya_map_book.proofs.Hinted.{none_hinted}
use Rattle.papaya_map_book.proofs.Tables.{slot_word}
use Rattle.papaya_map_book.proofs.book.Book.place_hints.Goals as goal

pub stand_beside-requires-clause-nought : goal.stand_beside-requires-clause-nought
stand_beside-requires-clause-nought g c = none_hinted _ _ _ _

pub stand_beside-requires-clause-tracked : goal.stand_beside-requires-clause-tracked
stand_beside-requires-clause-tracked g c =
    let slots = c.args.slots.now in let key = λ (w : Named). w.key in let at = 8 * c.loop-group.group in
    let here : at < length slots = search rules in
    let inside : at < length (map key slots) = subst (λ (n : ℕ). at < n) (sym (length-map slots key)) here in
    let is = (slot_word c.args.sight.now.book slots at c.index-slots-group.result c.requires.words inside c.index-slots-group.is).2 in
    (ap (λ (w : Named). w.tracked) is, sym (ap (λ (w : Named). w.book) is))

pub loop-group-preserved : goal.loop-group-preserved
loop-group-preserved g c =
    let i = c.loop-group.invariant in let at = c.loop-group.group in let items = c.loop-group.hints.items in
    let slots = c.args.slots.now in let hint = c.stand_beside.new.self in
    let next = slice_set items at hint in
    let IsBeside : ℕ → Named → Type 0 = λ j w. w ≡ slice_index_or slots (8 * j) w in
    let here : at < length items = search rules in
    let is : IsBeside at hint = subst (IsBeside at) (sym c.stand_beside.ensures) c.index-slots-group.is in
    record {
      count = length-set items at hint ∙ i.count;
      beside = λ j d lt. ⊎_elim
          (λ (e : j ≡ at). subst (λ (k : ℕ). IsBeside k (slice_index_or next k d)) (sym e) (subst (IsBeside at) (sym (get_or-set_same items at hint d here)) is))
          (λ apart. subst (IsBeside j) (sym (get_or-set_other items at j hint d apart)) (i.beside j d (omega (arith, lt, apart))))
          (cases_eq j at);
      fresh = λ j d past within.
          let apart : j ≢ at = λ e. omega (arith, past, e) in
          subst (λ (w : Named). w.tracked ≡ false) (sym (get_or-set_other items at j hint d apart))
          (i.fresh j d (omega (arith, past)) (subst (λ (n : ℕ). j < n) (length-set items at hint) within));
    }
