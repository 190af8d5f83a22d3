use Rattle.std.proofs.Common.{◌<◌, ◌++◌, ◌∷◌, [], not, inl, inr, refl, sym, ◌∙◌, ap, subst, map, length, false, Some}
use Rattle.std.specs.Fn.{FnReturnsAt}
use Rattle.std.specs.Map.Iter.{deref_pair}
use Rattle.serde_json.specs.Data.{object}
use Rattle.serde_json.specs.Events.{members_len}
use Rattle.serde_json.proofs.Views.{members_len-members_view, view-Object}
use Rattle.papaya_json.proofs.Building.{IsBuilt, as_the_next, built_none, built_on, map_push, more_than_one}
use Rattle.papaya_json.proofs.to_value.object_from.Goals as goal

pub loop-k-init : goal.loop-k-init
loop-k-init g c = subst (λ es. IsBuilt (FnReturnsAt g.T.Fn c.args.key) (FnReturnsAt g.W.Fn c.args.value) [] es false)
    (sym c.new-members.ensures.empty) (built_none _ _)

pub loop-k-preserved-then-clash : goal.loop-k-preserved-then-clash
loop-k-preserved-then-clash g c =
    let l = c.loop-k in
    let text : FnReturnsAt g.T.Fn c.args.key c.in-Some.k.now
    (Some c.in-Some-key.name) = record { shown = c.in-Some.k; shows = refl; says = record { met = c.in-Some-key.ensures } } in
    let shown : FnReturnsAt g.W.Fn c.args.value c.in-Some.v.now
    (Some c.in-Some-value.member) = record { shown = c.in-Some.v; shows = refl; says = record { met = c.in-Some-value.ensures } } in
    built_on (FnReturnsAt g.T.Fn c.args.key) (FnReturnsAt g.W.Fn c.args.value) (map deref_pair l.yielded) l.members.entries l.clash l.invariant
    (c.in-Some.k.now, c.in-Some.v.now) c.in-Some-key.name c.in-Some-value.member text shown c.in-Ok.new l.clash
    (more_than_one l.clash (not c.in-Ok.new) c.if-clash.true) c.put.new.members.entries c.in-Ok.ensures.entries c.in-Ok.ensures.new
    (map deref_pair (l.yielded ++ (c.in-Some.k, c.in-Some.v) ∷ [])) (map_push deref_pair l.yielded (c.in-Some.k, c.in-Some.v))

pub loop-k-preserved : goal.loop-k-preserved
loop-k-preserved g c =
    let l = c.loop-k in
    let text : FnReturnsAt g.T.Fn c.args.key c.in-Some.k.now
    (Some c.in-Some-key.name) = record { shown = c.in-Some.k; shows = refl; says = record { met = c.in-Some-key.ensures } } in
    let shown : FnReturnsAt g.W.Fn c.args.value c.in-Some.v.now
    (Some c.in-Some-value.member) = record { shown = c.in-Some.v; shows = refl; says = record { met = c.in-Some-value.ensures } } in
    built_on (FnReturnsAt g.T.Fn c.args.key) (FnReturnsAt g.W.Fn c.args.value) (map deref_pair l.yielded) l.members.entries l.clash l.invariant
    (c.in-Some.k.now, c.in-Some.v.now) c.in-Some-key.name c.in-Some-value.member text shown c.in-Ok.new (not c.in-Ok.new)
    (as_the_next l.clash (not c.in-Ok.new) c.if-clash.false) c.put.new.members.entries c.in-Ok.ensures.entries c.in-Ok.ensures.new
    (map deref_pair (l.yielded ++ (c.in-Some.k, c.in-Some.v) ∷ [])) (map_push deref_pair l.yielded (c.in-Some.k, c.in-Some.v))

pub returns-in_default-clause-err : goal.returns-in_default-clause-err
returns-in_default-clause-err g c = inr (inr (
  refl,
  record {
    first = c.into_iter-k-iterator.result;
    made = c.into_iter-k-iterator.ensures.into_iter_gives;
    items = c.loop-k.yielded;
    left = c.loop-k.k-iterator;
    came = c.loop-k.yielded_by;
    is = (
      (c.in-Some.k, c.in-Some.v),
      c.next.new.self,
      c.in-Some.ensures.steps,
      inl
          (record { shown = c.in-Some.k; shows = refl; says = record { met = c.in_default.ensures } }),
    );
  },
))

pub returns-in_default-value-clause-err : goal.returns-in_default-value-clause-err
returns-in_default-value-clause-err g c = inr (inr (
  refl,
  record {
    first = c.into_iter-k-iterator.result;
    made = c.into_iter-k-iterator.ensures.into_iter_gives;
    items = c.loop-k.yielded;
    left = c.loop-k.k-iterator;
    came = c.loop-k.yielded_by;
    is = (
      (c.in-Some.k, c.in-Some.v),
      c.next.new.self,
      c.in-Some.ensures.steps,
      inr
          (record { shown = c.in-Some.v; shows = refl; says = record { met = c.in_default-value.ensures } }),
    );
  },
))

pub returns-then-clash-2-clause-err : goal.returns-then-clash-2-clause-err
returns-then-clash-2-clause-err g c =
    let built = c.loop-k.invariant in
    inr (inl (
      refl,
      record {
        first = c.into_iter-k-iterator.result;
        made = c.into_iter-k-iterator.ensures.into_iter_gives;
        items = c.loop-k.yielded;
        left = c.loop-k.k-iterator;
        came = c.loop-k.yielded_by;
        is = (
          c.next.new.self,
          c.in-None.ensures.steps,
          record {
            members = built.members;
            each = built.each;
            fewer = subst (λ n. n < length (map deref_pair c.loop-k.yielded))
                (sym (members_len-members_view c.loop-k.members.entries) ∙ ap members_len built.view_is) (built.fewer c.if-clash-2.true);
          },
        );
      },
    ))

pub returns-clause-ok : goal.returns-clause-ok
returns-clause-ok g c =
    let built = c.loop-k.invariant in
    record {
      first = c.into_iter-k-iterator.result;
      made = c.into_iter-k-iterator.ensures.into_iter_gives;
      items = c.loop-k.yielded;
      left = c.loop-k.k-iterator;
      came = c.loop-k.yielded_by;
      is = (
        c.next.new.self,
        c.in-None.ensures.steps,
        record {
          members = built.members;
          each = built.each;
          value = view-Object c.loop-k.members ∙ ap object built.view_is;
          apart = ap members_len (sym built.view_is) ∙ members_len-members_view c.loop-k.members.entries ∙ built.apart c.if-clash-2.false;
        },
      );
    }
