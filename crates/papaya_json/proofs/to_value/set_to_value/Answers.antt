use Rattle.std.proofs.Common.{inl, inr, ⊎_elim, map, sym, ◌∙◌, subst}
use Rattle.std.proofs.lemmas.Result.{IfErr-weaker, IfOk-weaker}
use Rattle.std.specs.Fn.{FnReturnsAt}
use Rattle.std.specs.List.{Any}
use Rattle.papaya_json.specs.Arrays.{HasNoItem, IsArray}
use Rattle.papaya_json.proofs.Building.{any_middle}
use Rattle.papaya_seq.proofs.Walked.{came_all, comes_next}
use Rattle.papaya_json.proofs.to_value.set_to_value.Goals as goal

pub returns-clause-ok : goal.returns-clause-ok
returns-clause-ok g c =
    IfOk-weaker c.array_from.result _ _
    (λ v came. subst (λ keys. IsArray (FnReturnsAt g.T.Fn c.args.key) keys v)
    (sym (came_all (λ k. k.now) came.first came.items came.left came.is.0 came.came came.is.1) ∙ came.made) came.is.2)
    c.array_from.ensures.ok

pub returns-clause-err : goal.returns-clause-err
returns-clause-err g c =
    let none = HasNoItem (FnReturnsAt g.T.Fn c.args.key) in
    IfErr-weaker c.array_from.result _ _
    (λ e why. ⊎_elim (λ memory. inl memory)
    (λ item.
    let came = item.1 in
    inr (
      item.0,
      subst (Any none) (sym (comes_next (λ k. k.now) came.first came.items came.left came.is.0 came.is.1 came.came came.is.2) ∙ came.made)
          (any_middle none (map (λ k. k.now) came.items) came.is.0.now came.is.1 came.is.3),
    )) why)
    c.array_from.ensures.err
