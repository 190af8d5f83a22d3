use Rattle.std.proofs.Common.{◌++◌, ◌∷◌, [], inr, refl, sym, subst, map, Some}
use Rattle.std.proofs.lemmas.Slice.Zip.{all_zipped_more}
use Rattle.std.specs.Fn.{FnReturnsAt}
use Rattle.std.specs.List.{AllZip}
use Rattle.serde_json.specs.declared.value.Value.{Value}
use Rattle.papaya_json.proofs.Building.{map_push}
use Rattle.papaya_json.proofs.to_value.array_from.Goals as goal

pub loop-k-preserved : goal.loop-k-preserved
loop-k-preserved g c =
    let l = c.loop-k in
    let answered : FnReturnsAt g.T.Fn c.args.key c.in-Some.k.now
    (Some c.in-Some-key.item) = record { shown = c.in-Some.k; shows = refl; says = record { met = c.in-Some-key.ensures } } in
    let more : AllZip (λ k (item : Value). FnReturnsAt g.T.Fn c.args.key k (Some item)) (map (λ k. k.now) l.yielded ++ c.in-Some.k.now ∷ [])
    (l.items.items ++ c.in-Some-key.item ∷ []) = all_zipped_more (λ k (item : Value). FnReturnsAt g.T.Fn c.args.key k (Some item))
    (map (λ k. k.now) l.yielded) l.items.items c.in-Some.k.now c.in-Some-key.item l.invariant answered in
    subst (λ ks. AllZip (λ k (item : Value). FnReturnsAt g.T.Fn c.args.key k (Some item)) ks c.push.new.items.items)
    (sym (map_push (λ k. k.now) l.yielded c.in-Some.k))
    (subst (AllZip (λ k (item : Value). FnReturnsAt g.T.Fn c.args.key k (Some item)) (map (λ k. k.now) l.yielded ++ c.in-Some.k.now ∷ []))
    (sym c.in-Ok.ensures.ok) more)

pub returns-in_default-clause-err : goal.returns-in_default-clause-err
returns-in_default-clause-err g c = inr (
  refl,
  record {
    first = c.into_iter-k-iterator.result;
    made = c.into_iter-k-iterator.ensures.into_iter_gives;
    items = c.loop-k.yielded;
    left = c.loop-k.k-iterator;
    came = c.loop-k.yielded_by;
    is = (c.in-Some.k, c.next.new.self, c.in-Some.ensures.steps, record { shown = c.in-Some.k; shows = refl; says = record { met = c.in_default.ensures } });
  },
)

pub returns-clause-ok : goal.returns-clause-ok
returns-clause-ok g c = record {
  first = c.into_iter-k-iterator.result;
  made = c.into_iter-k-iterator.ensures.into_iter_gives;
  items = c.loop-k.yielded;
  left = c.loop-k.k-iterator;
  came = c.loop-k.yielded_by;
  is = (c.next.new.self, c.in-None.ensures.steps, (c.loop-k.items, refl, c.loop-k.invariant));
}
