use Rattle.std.proofs.Common.{◌≡◌, ◌<◌, ◌+◌, ◌++◌, ◌∷◌, [], inl, inr, refl, sym, ◌∙◌, ap, subst, length, get_or, take, drop, None, Some, rules}
use Rattle.std.proofs.lemmas.List.{drop_more, take-append-drop, take_all, take_more}
use Rattle.std.specs.Fn.{FnReturnsAt}
use Rattle.papaya_set.specs.Sets.{entry_of_key}
use Rattle.papaya_json.specs.Arrays.{IsKey}
use Rattle.papaya_json.specs.Reads.{IsRead}
use Rattle.papaya_json.proofs.Filling.{IsFilled, filled_cut, filled_more, filled_none, filled_read}
use Rattle.papaya_json.proofs.from_value.set_of.Goals as goal

pub loop-item-init : goal.loop-item-init
loop-item-init g c = filled_none g.K.PartialEq.eq (IsKey (FnReturnsAt g.T.Fn c.args.key)) entry_of_key c.args.hasher c.in_ok-set.set
    c.in_ok-set.ensures.ok c.in_ok-set.ensures.empty

pub loop-item-preserved : goal.loop-item-preserved
loop-item-preserved g c =
    let i = c.loop-item.item-index in
    let items = c.args.items.now.items in
    let item = c.item-item.result in
    let inside : i < length items = search rules in
    let is : get_or items i item ≡ item = search rules in
    let key : FnReturnsAt g.T.Fn c.args.key item (Some c.in-Some.k) = record { shown = _; shows = refl; says = record { met = c.in-Some.ensures } } in
    subst (λ es. IsFilled g.K.PartialEq.eq (IsKey (FnReturnsAt g.T.Fn c.args.key)) entry_of_key c.args.hasher es c.insert.new.self)
    (sym (take_more items i item inside ∙ ap (λ x. take i items ++ x ∷ []) is))
    (filled_more g.K.PartialEq.eq (IsKey (FnReturnsAt g.T.Fn c.args.key)) entry_of_key c.args.hasher (take i items) c.loop-item.set
    c.loop-item.invariant item c.in-Some.k key _ c.insert.new.self c.in-Ok.ensures.puts)

pub returns-clause-ok : goal.returns-clause-ok
returns-clause-ok g c =
    let items = c.args.items.now.items in
    subst (λ es. IsRead g.K.PartialEq.eq (IsKey (FnReturnsAt g.T.Fn c.args.key)) entry_of_key es c.loop-item.set)
    (take_all c.loop-item.item-index items (search rules))
    (filled_read g.K.PartialEq.eq (IsKey (FnReturnsAt g.T.Fn c.args.key)) entry_of_key c.args.hasher (take c.loop-item.item-index items)
    c.loop-item.set c.loop-item.invariant)

pub returns-in_default-clause-err : goal.returns-in_default-clause-err
returns-in_default-clause-err g c =
    let i = c.loop-item.item-index in
    let items = c.args.items.now.items in
    let item = c.item-item.result in
    let inside : i < length items = search rules in
    let is : get_or items i item ≡ item = search rules in
    let none : FnReturnsAt g.T.Fn c.args.key item None = record { shown = _; shows = refl; says = record { met = c.in_default.ensures } } in
    inr (record {
      before = take i items;
      item = item;
      after = drop (i + 1) items;
      whole = sym (take-append-drop i items) ∙ ap (λ rest. take i items ++ rest) (drop_more items i item inside ∙ ap (λ x. x ∷ drop (i + 1) items) is);
      done = c.loop-item.invariant.done;
      each = c.loop-item.invariant.each;
      stop = inl (refl, none);
    })

pub returns-in-Err-clause-err : goal.returns-in-Err-clause-err
returns-in-Err-clause-err g c =
    let i = c.loop-item.item-index in
    let items = c.args.items.now.items in
    let item = c.item-item.result in
    let inside : i < length items = search rules in
    let is : get_or items i item ≡ item = search rules in
    let key : FnReturnsAt g.T.Fn c.args.key item (Some c.in-Some.k) = record { shown = _; shows = refl; says = record { met = c.in-Some.ensures } } in
    inr (record {
      before = take i items;
      item = item;
      after = drop (i + 1) items;
      whole = sym (take-append-drop i items) ∙ ap (λ rest. take i items ++ rest) (drop_more items i item inside ∙ ap (λ x. x ∷ drop (i + 1) items) is);
      done = c.loop-item.invariant.done;
      each = c.loop-item.invariant.each;
      stop = inr (
        c.in-Some.k,
        key,
        filled_cut g.K.PartialEq.eq (IsKey (FnReturnsAt g.T.Fn c.args.key)) entry_of_key c.args.hasher (take i items) c.loop-item.set
            c.loop-item.invariant c.in-Some.k c.in-Err.refused c.insert.new.self c.in-Err.ensures.puts,
      );
    })
