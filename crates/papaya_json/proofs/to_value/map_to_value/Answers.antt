use Rattle.std.proofs.Common.{inl, inr, ⊎_elim, map, sym, ◌∙◌, subst}
use Rattle.std.proofs.lemmas.Result.{IfErr-weaker, IfOk-weaker}
use Rattle.std.specs.Fn.{FnReturnsAt}
use Rattle.std.specs.List.{Any}
use Rattle.std.specs.Map.Iter.{deref_pair}
use Rattle.papaya_json.specs.Objects.{HasClash, HasNoMember, IsObject}
use Rattle.papaya_json.proofs.Building.{any_middle}
use Rattle.papaya_seq.proofs.Walked.{came_all, comes_next}
use Rattle.papaya_json.proofs.to_value.map_to_value.Goals as goal

pub returns-clause-ok : goal.returns-clause-ok
returns-clause-ok g c =
    IfOk-weaker c.object_from.result _ _
    (λ v came. subst (λ pairs. IsObject (FnReturnsAt g.T.Fn c.args.key) (FnReturnsAt g.W.Fn c.args.value) pairs v)
    (sym (came_all deref_pair came.first came.items came.left came.is.0 came.came came.is.1) ∙ came.made) came.is.2)
    c.object_from.ensures.ok

pub returns-clause-err : goal.returns-clause-err
returns-clause-err g c =
    let text_of = FnReturnsAt g.T.Fn c.args.key in
    let data_of = FnReturnsAt g.W.Fn c.args.value in
    IfErr-weaker c.object_from.result _ _
    (λ e why. ⊎_elim (λ memory. inl memory) (λ other. inr (⊎_elim
    (λ clash.
    let came = clash.1 in
    inl (
      clash.0,
      subst (HasClash text_of data_of)
          (sym (came_all deref_pair came.first came.items came.left came.is.0 came.came came.is.1) ∙ came.made) came.is.2,
    ))
    (λ item.
    let came = item.1 in
    inr (
      item.0,
      subst (Any (HasNoMember text_of data_of))
          (sym (comes_next deref_pair came.first came.items came.left came.is.0 came.is.1 came.came came.is.2) ∙ came.made)
          (any_middle (HasNoMember text_of data_of) (map deref_pair came.items) (deref_pair came.is.0) came.is.1 came.is.3),
    ))
    other)) why)
    c.object_from.ensures.err
