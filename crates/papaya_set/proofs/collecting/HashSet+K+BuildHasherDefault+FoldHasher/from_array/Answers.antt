use Rattle.std.proofs.Common.{List, ◌++◌, inl, inr, ⊎_elim, sym, ap, ◌∙◌, subst}
use Rattle.std.proofs.IntoIterSteps.{All-taken}
use Rattle.std.proofs.lemmas.Result.{IfErr-weaker, IfOk-weaker}
use Rattle.papaya_seq.specs.Entries.{HasJust}
use Rattle.papaya_seq.proofs.Walked.{taken_front}
use Rattle.papaya_set.specs.Sets.{entry_of_key}
use Rattle.papaya_set.proofs.collecting.HashSet+K+BuildHasherDefault+FoldHasher.from_array.Goals as goal

pub returns-in-Ok-clause-ok : goal.returns-in-Ok-clause-ok
returns-in-Ok-clause-ok g c =
    IfOk-weaker c.from_iter.result _ _
    (λ set came. subst (λ (ps : List g.row.K.Denot). HasJust g.K.PartialEq.eq entry_of_key ps set)
    (All-taken came.first came.items (came.is.0, (came.left, came.came, came.is.1)) ∙ (came.made.0 ∙ c.in-Ok.ensures.items)) came.is.2)
    c.from_iter.ensures.ok

pub returns-in-Ok-clause-err : goal.returns-in-Ok-clause-err
returns-in-Ok-clause-err g c =
    IfErr-weaker c.from_iter.result _ _
    (λ e why. ⊎_elim (λ memory. inl memory) (λ came. inr (record {
      done = came.items;
      item = came.is.0;
      rest = _;
      whole = sym (came.made.0 ∙ c.in-Ok.ensures.items) ∙ (taken_front came.first came.items came.left came.came ∙ ap (λ ps. came.items ++ ps) came.is.2.0);
      cut = came.is.3;
    })) why)
    c.from_iter.ensures.err
