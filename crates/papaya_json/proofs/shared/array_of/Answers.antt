use Rattle.std.proofs.Common.{◌++◌, ◌∷◌, [], inr, refl, sym, ap, ◌∙◌, subst, map, Some, List}
use Rattle.std.proofs.lemmas.Slice.Zip.{all_zipped_more}
use Rattle.std.specs.Fn.{FnReturnsAt}
use Rattle.std.specs.List.{AllZip, Any}
use Rattle.serde_json.specs.declared.value.Value.{Array, Value}
use Rattle.papaya_map.proofs.Yielded.{all_yielded, are_yielded, none_yielded}
use Rattle.papaya_json.specs.Arrays.{HasNoItem, IsArray}
use Rattle.papaya_json.proofs.Building.{any_middle, map_push, still_yielded}
use Rattle.papaya_json.proofs.shared.array_of.Goals as goal

pub loop-k-init : goal.loop-k-init
loop-k-init g c = (
  none_yielded g.K.PartialEq.eq c.args.pairs.now c.requires.new,
  subst (λ es. AllZip (λ k (item : Value). FnReturnsAt g.T.Fn c.args.key k (Some item)) (map (λ e. e.0) es) c.new-items.result.items) (sym c.requires.new)
      (subst (λ items. AllZip (λ k (item : Value). FnReturnsAt g.T.Fn c.args.key k (Some item)) [] items) (sym c.new-items.ensures.items) tt),
)

pub loop-k-preserved : goal.loop-k-preserved
loop-k-preserved g c =
    let l = c.loop-k in let steps = c.in-Some.ensures.steps in
    let says : g.row.K.Denot → Value → Type 0 = λ k item. FnReturnsAt g.T.Fn c.args.key k (Some item) in
    let answered : FnReturnsAt g.T.Fn c.args.key c.in-Some.k.now
    (Some c.in-Some-key.item) = record { shown = c.in-Some.k; shows = refl; says = record { met = c.in-Some-key.ensures } } in
    let key_of : g.row.K.Denot × Unit {0} → g.row.K.Denot = λ e. e.0 in
    let keys : List g.row.K.Denot = map key_of l.pairs.given in
    let more : AllZip says (keys ++ c.in-Some.k.now ∷ []) (l.items.items ++ c.in-Some-key.item ∷ []) = all_zipped_more says keys l.items.items
    c.in-Some.k.now c.in-Some-key.item l.invariant.1 answered in (
      still_yielded g.K.PartialEq.eq c.args.pairs.now l.pairs c.next.new.self l.invariant.0 c.next.result c.next.ensures.steps,
      subst (λ (ks : List g.row.K.Denot). AllZip says ks c.push.new.items.items)
          (sym (ap (map key_of) steps.3 ∙ map_push key_of l.pairs.given _))
          (subst (AllZip says (keys ++ c.in-Some.k.now ∷ [])) (sym c.in-Ok.ensures.ok) more),
    )

pub returns-clause-yielded : goal.returns-clause-yielded
returns-clause-yielded g c = are_yielded g.K.PartialEq.eq c.args.pairs.now c.loop-k.pairs c.next.new.self c.loop-k.invariant.0 c.in_default.ensures.steps

pub returns-in_default-key-clause-had : goal.returns-in_default-key-clause-had
returns-in_default-key-clause-had g c =
    (still_yielded g.K.PartialEq.eq c.args.pairs.now c.loop-k.pairs c.next.new.self c.loop-k.invariant.0 c.next.result c.next.ensures.steps).had

pub returns-in-Err-clause-had : goal.returns-in-Err-clause-had
returns-in-Err-clause-had g c =
    (still_yielded g.K.PartialEq.eq c.args.pairs.now c.loop-k.pairs c.next.new.self c.loop-k.invariant.0 c.next.result c.next.ensures.steps).had

pub returns-clause-had : goal.returns-clause-had
returns-clause-had g c =
    (all_yielded g.K.PartialEq.eq c.args.pairs.now c.loop-k.pairs c.next.new.self c.loop-k.invariant.0 c.in_default.ensures.steps).had

-- the key that came last has no item
pub returns-in_default-key-clause-err : goal.returns-in_default-key-clause-err
returns-in_default-key-clause-err g c =
    let none : g.row.K.Denot → Type 0 = HasNoItem (FnReturnsAt g.T.Fn c.args.key) in
    let key_of : g.row.K.Denot × Unit {0} → g.row.K.Denot = λ e. e.0 in
    inr (
      refl,
      subst (Any none) (sym (ap (map key_of) c.in-Some.ensures.steps.3 ∙ map_push key_of c.loop-k.pairs.given _))
          (any_middle none (map key_of c.loop-k.pairs.given) c.in-Some.k.now []
          (record { shown = c.in-Some.k; shows = refl; says = record { met = c.in_default-key.ensures } })),
    )

pub returns-clause-ok : goal.returns-clause-ok
returns-clause-ok g c =
    let key_of : g.row.K.Denot × Unit {0} → g.row.K.Denot = λ e. e.0 in
    subst (λ (ks : List g.row.K.Denot). IsArray (FnReturnsAt g.T.Fn c.args.key) ks (Array c.loop-k.items))
    (sym (ap (map key_of) c.in_default.ensures.steps.1)) (c.loop-k.items, refl, c.loop-k.invariant.1)
