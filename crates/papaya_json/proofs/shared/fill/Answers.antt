use Rattle.std.proofs.Common.{◌++◌, ◌∷◌, [], Some, string_bytes, inl, inr, refl, sym, ◌∙◌, subst, map}
use Rattle.std.proofs.lemmas.Slice.Zip.{all_zipped_more}
use Rattle.std.specs.Fn.{FnReturnsAt}
use Rattle.std.specs.List.{Any}
use Rattle.std.specs.Map.Iter.{deref_pair}
use Rattle.papaya_map.proofs.Collected.{prefix_itself, stored_more}
use Rattle.papaya_map.specs.Collected.{AreStored}
use Rattle.papaya_json.specs.Objects.{HasNoPair, IsPair}
use Rattle.papaya_json.specs.Shared.{IsEachStored}
use Rattle.papaya_json.proofs.Building.{any_middle, map_push}
use Rattle.papaya_seq.proofs.Walked.{came_all, comes_next}
use Rattle.papaya_json.proofs.shared.fill.Goals as goal

pub loop-name-init : goal.loop-name-init
loop-name-init g c = (c.requires.book, ([], tt, prefix_itself c.args.pass.now.history))

pub loop-name-preserved : goal.loop-name-preserved
loop-name-preserved g c =
    let l = c.loop-name in let read = l.invariant.1 in
    let reads = IsPair (FnReturnsAt g.T.Fn c.args.key) (FnReturnsAt g.W.Fn c.args.value) in
    let key : FnReturnsAt g.T.Fn c.args.key (string_bytes c.in-Some.name.now)
    (Some c.in-Some-key.k) = record { shown = c.as_str.result; shows = c.as_str.ensures.value; says = record { met = c.in-Some-key.ensures } } in
    let value : FnReturnsAt g.W.Fn c.args.value c.in-Some.member.now
    (Some c.in-Some-value.v) = record { shown = c.in-Some.member; shows = refl; says = record { met = c.in-Some-value.ensures } } in (
      c.insert_as.ensures.book ∙ l.invariant.0,
      subst (IsEachStored reads (λ pairs. AreStored g.K.PartialEq.eq pairs c.args.pass.now.history c.insert_as.new.pass.history))
          (sym (map_push deref_pair l.yielded (c.in-Some.name, c.in-Some.member))) (
            read.0 ++ (c.in-Some-key.k, c.in-Some-value.v) ∷ [],
            all_zipped_more reads (map deref_pair l.yielded) read.0 (c.in-Some.name.now, c.in-Some.member.now)
                (c.in-Some-key.k, c.in-Some-value.v) read.1 (key, value),
            stored_more g.K.PartialEq.eq read.0 c.args.pass.now.history l.pass.history c.insert_as.new.pass.history
                (c.in-Some-key.k, c.in-Some-value.v) c.in-Ok.field-0 read.2 c.in-Ok.ensures.put,
          ),
    )

pub returns-in_default-clause-err : goal.returns-in_default-clause-err
returns-in_default-clause-err g c =
    let l = c.loop-name in
    let none = HasNoPair (FnReturnsAt g.T.Fn c.args.key) (FnReturnsAt g.W.Fn c.args.value) in
    let whole = sym (comes_next deref_pair c.into_iter-name-iterator.result l.yielded l.name-iterator (c.in-Some.name, c.in-Some.member)
    c.next.new.self l.yielded_by c.in-Some.ensures.steps) ∙ c.into_iter-name-iterator.ensures.into_iter_gives.0 in
    inr (
      refl,
      subst (Any none) whole (any_middle none (map deref_pair l.yielded) (c.in-Some.name.now, c.in-Some.member.now) c.next.new.self
          (inl (record { shown = c.as_str.result; shows = c.as_str.ensures.value; says = record { met = c.in_default.ensures } }))),
    )

pub returns-in_default-value-clause-err : goal.returns-in_default-value-clause-err
returns-in_default-value-clause-err g c =
    let l = c.loop-name in
    let none = HasNoPair (FnReturnsAt g.T.Fn c.args.key) (FnReturnsAt g.W.Fn c.args.value) in
    let whole = sym (comes_next deref_pair c.into_iter-name-iterator.result l.yielded l.name-iterator (c.in-Some.name, c.in-Some.member)
    c.next.new.self l.yielded_by c.in-Some.ensures.steps) ∙ c.into_iter-name-iterator.ensures.into_iter_gives.0 in
    inr (
      refl,
      subst (Any none) whole (any_middle none (map deref_pair l.yielded) (c.in-Some.name.now, c.in-Some.member.now) c.next.new.self
          (inr (record { shown = c.in-Some.member; shows = refl; says = record { met = c.in_default-value.ensures } }))),
    )

pub returns-clause-stored : goal.returns-clause-stored
returns-clause-stored g c =
    let l = c.loop-name in
    subst (IsEachStored (IsPair (FnReturnsAt g.T.Fn c.args.key) (FnReturnsAt g.W.Fn c.args.value))
    (λ pairs. AreStored g.K.PartialEq.eq pairs c.args.pass.now.history l.pass.history))
    (sym (came_all deref_pair c.into_iter-name-iterator.result l.yielded l.name-iterator c.next.new.self l.yielded_by c.in-None.ensures.steps)
    ∙ c.into_iter-name-iterator.ensures.into_iter_gives.0)
    l.invariant.1
