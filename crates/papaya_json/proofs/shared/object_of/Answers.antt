use Rattle.std.proofs.Common.{◌<◌, ◌++◌, ◌∷◌, [], List, not, inl, inr, refl, sym, ◌∙◌, ap, subst, length, false, Some}
use Rattle.std.specs.Fn.{FnReturnsAt}
use Rattle.serde_json.specs.Data.{object}
use Rattle.serde_json.specs.Events.{members_len}
use Rattle.serde_json.proofs.Views.{members_len-members_view, view-Object}
use Rattle.papaya_map.proofs.Yielded.{all_yielded, all_yielded, are_yielded, none_yielded, one_yielded}
use Rattle.std.specs.List.{Any}
use Rattle.serde_json.specs.declared.value.Value.{Object}
use Rattle.papaya_json.specs.Objects.{HasClash, HasNoMember, IsObject}
use Rattle.papaya_json.proofs.Building.{IsBuilt, any_middle, as_the_next, built_none, built_on, more_than_one}
use Rattle.papaya_json.proofs.shared.object_of.Goals as goal

pub loop-k-init : goal.loop-k-init
loop-k-init g c = (
  none_yielded g.K.PartialEq.eq c.args.pairs.now c.requires.new,
  subst (λ items. IsBuilt (FnReturnsAt g.T.Fn c.args.key) (FnReturnsAt g.W.Fn c.args.value) items c.new-members.result.entries false) (sym c.requires.new)
      (subst (λ es. IsBuilt (FnReturnsAt g.T.Fn c.args.key) (FnReturnsAt g.W.Fn c.args.value) [] es false) (sym c.new-members.ensures.empty) (built_none _ _)),
)

pub loop-k-preserved-then-clash : goal.loop-k-preserved-then-clash
loop-k-preserved-then-clash g c =
    let l = c.loop-k in let steps = c.in-Some.ensures.steps in
    let text : FnReturnsAt g.T.Fn c.args.key c.in-Some.k.now
    (Some c.in-Some-key.name) = record { shown = c.in-Some.k; shows = refl; says = record { met = c.in-Some-key.ensures } } in
    let shown : FnReturnsAt g.W.Fn c.args.value c.in-Some.v.now
    (Some c.in-Some-value.member) = record { shown = c.in-Some.v; shows = refl; says = record { met = c.in-Some-value.ensures } } in (
      one_yielded g.K.PartialEq.eq c.args.pairs.now l.pairs c.next.new.self l.invariant.0 (c.in-Some.k, c.in-Some.v) steps,
      built_on (FnReturnsAt g.T.Fn c.args.key) (FnReturnsAt g.W.Fn c.args.value) l.pairs.given l.members.entries l.clash l.invariant.1
          (c.in-Some.k.now, c.in-Some.v.now) c.in-Some-key.name c.in-Some-value.member text shown c.in-Ok.new l.clash
          (more_than_one l.clash (not c.in-Ok.new) c.if-clash.true) c.put.new.members.entries c.in-Ok.ensures.entries c.in-Ok.ensures.new
          c.next.new.self.given steps.3,
    )

pub loop-k-preserved : goal.loop-k-preserved
loop-k-preserved g c =
    let l = c.loop-k in let steps = c.in-Some.ensures.steps in
    let text : FnReturnsAt g.T.Fn c.args.key c.in-Some.k.now
    (Some c.in-Some-key.name) = record { shown = c.in-Some.k; shows = refl; says = record { met = c.in-Some-key.ensures } } in
    let shown : FnReturnsAt g.W.Fn c.args.value c.in-Some.v.now
    (Some c.in-Some-value.member) = record { shown = c.in-Some.v; shows = refl; says = record { met = c.in-Some-value.ensures } } in (
      one_yielded g.K.PartialEq.eq c.args.pairs.now l.pairs c.next.new.self l.invariant.0 (c.in-Some.k, c.in-Some.v) steps,
      built_on (FnReturnsAt g.T.Fn c.args.key) (FnReturnsAt g.W.Fn c.args.value) l.pairs.given l.members.entries l.clash l.invariant.1
          (c.in-Some.k.now, c.in-Some.v.now) c.in-Some-key.name c.in-Some-value.member text shown c.in-Ok.new (not c.in-Ok.new)
          (as_the_next l.clash (not c.in-Ok.new) c.if-clash.false) c.put.new.members.entries c.in-Ok.ensures.entries c.in-Ok.ensures.new
          c.next.new.self.given steps.3,
    )

-- the entry that came last has no member
pub returns-in_default-key-clause-err : goal.returns-in_default-key-clause-err
returns-in_default-key-clause-err g c =
    let none = HasNoMember (FnReturnsAt g.T.Fn c.args.key) (FnReturnsAt g.W.Fn c.args.value) in
    inr (inr (
      refl,
      subst (Any none) (sym c.in-Some.ensures.steps.3)
          (any_middle none c.loop-k.pairs.given (c.in-Some.k.now, c.in-Some.v.now) []
          (inl (record { shown = c.in-Some.k; shows = refl; says = record { met = c.in_default-key.ensures } }))),
    ))

pub returns-in_default-value-clause-err : goal.returns-in_default-value-clause-err
returns-in_default-value-clause-err g c =
    let none = HasNoMember (FnReturnsAt g.T.Fn c.args.key) (FnReturnsAt g.W.Fn c.args.value) in
    inr (inr (
      refl,
      subst (Any none) (sym c.in-Some.ensures.steps.3)
          (any_middle none c.loop-k.pairs.given (c.in-Some.k.now, c.in-Some.v.now) []
          (inr (record { shown = c.in-Some.v; shows = refl; says = record { met = c.in_default-value.ensures } }))),
    ))

pub returns-then-clash-2-clause-err : goal.returns-then-clash-2-clause-err
returns-then-clash-2-clause-err g c =
    let built = c.loop-k.invariant.1 in
    inr (inl (
      refl,
      subst (HasClash (FnReturnsAt g.T.Fn c.args.key) (FnReturnsAt g.W.Fn c.args.value)) (sym c.in_default.ensures.steps.1) (record {
        members = built.members;
        each = built.each;
        fewer = subst (λ n. n < length c.loop-k.pairs.given)
            (sym (members_len-members_view c.loop-k.members.entries) ∙ ap members_len built.view_is) (built.fewer c.if-clash-2.true);
      }),
    ))

pub returns-clause-ok : goal.returns-clause-ok
returns-clause-ok g c =
    let built = c.loop-k.invariant.1 in
    subst (λ items. IsObject (FnReturnsAt g.T.Fn c.args.key) (FnReturnsAt g.W.Fn c.args.value) items (Object c.loop-k.members)) (sym c.in_default.ensures.steps.1)
    (record {
      members = built.members;
      each = built.each;
      value = view-Object c.loop-k.members ∙ ap object built.view_is;
      apart = ap members_len (sym built.view_is) ∙ members_len-members_view c.loop-k.members.entries ∙ built.apart c.if-clash-2.false;
    })

pub returns-clause-yielded : goal.returns-clause-yielded
returns-clause-yielded g c = are_yielded g.K.PartialEq.eq c.args.pairs.now c.loop-k.pairs c.next.new.self c.loop-k.invariant.0 c.in_default.ensures.steps

pub returns-in_default-key-clause-had : goal.returns-in_default-key-clause-had
returns-in_default-key-clause-had g c =
    (one_yielded g.K.PartialEq.eq c.args.pairs.now c.loop-k.pairs c.next.new.self c.loop-k.invariant.0 (c.in-Some.k, c.in-Some.v) c.in-Some.ensures.steps).had

pub returns-in_default-value-clause-had : goal.returns-in_default-value-clause-had
returns-in_default-value-clause-had g c =
    (one_yielded g.K.PartialEq.eq c.args.pairs.now c.loop-k.pairs c.next.new.self c.loop-k.invariant.0 (c.in-Some.k, c.in-Some.v) c.in-Some.ensures.steps).had

pub returns-in-Err-clause-had : goal.returns-in-Err-clause-had
returns-in-Err-clause-had g c =
    (one_yielded g.K.PartialEq.eq c.args.pairs.now c.loop-k.pairs c.next.new.self c.loop-k.invariant.0 (c.in-Some.k, c.in-Some.v) c.in-Some.ensures.steps).had

pub returns-then-clash-2-clause-had : goal.returns-then-clash-2-clause-had
returns-then-clash-2-clause-had g c =
    (all_yielded g.K.PartialEq.eq c.args.pairs.now c.loop-k.pairs c.next.new.self c.loop-k.invariant.0 c.in_default.ensures.steps).had

pub returns-clause-had : goal.returns-clause-had
returns-clause-had g c =
    (all_yielded g.K.PartialEq.eq c.args.pairs.now c.loop-k.pairs c.next.new.self c.loop-k.invariant.0 c.in_default.ensures.steps).had
