use Rattle.std.proofs.Common.{◌≡◌, ◌<◌, ◌+◌, ◌++◌, ◌∷◌, [], inr, refl, sym, ◌∙◌, ap, subst, length, map, get_or, take, drop, None, Some, rules}
use Rattle.std.proofs.lemmas.List.{drop_more, take-append-drop, take_all, take_more}
use Rattle.std.proofs.lemmas.Slice.Zip.{all_zipped_more}
use Rattle.std.specs.Fn.{FnReturnsAt}
use Rattle.std.specs.List.{Any}
use Rattle.papaya_map.proofs.Collected.{prefix_itself, stored_next}
use Rattle.papaya_map.specs.Collected.{AreStored}
use Rattle.papaya_set.specs.Sets.{entry_of_key}
use Rattle.papaya_json.specs.Arrays.{HasNoKey, IsKey}
use Rattle.papaya_json.specs.Shared.{IsEachStored}
use Rattle.papaya_json.proofs.Building.{any_middle}
use Rattle.papaya_json.proofs.shared.fill_set.Goals as goal

pub loop-item-init : goal.loop-item-init
loop-item-init g c = (c.requires.book, ([], tt, prefix_itself c.args.pass.now.history))

pub loop-item-preserved : goal.loop-item-preserved
loop-item-preserved g c =
    let i = c.loop-item.item-index in let l = c.loop-item in let read = l.invariant.1 in
    let items = c.args.items.now.items in
    let item = c.item-item.result in
    let reads = IsKey (FnReturnsAt g.T.Fn c.args.key) in
    let inside : i < length items = search rules in
    let is : get_or items i item ≡ item = search rules in
    let key : FnReturnsAt g.T.Fn c.args.key item (Some c.in-Some.k) = record { shown = _; shows = refl; says = record { met = c.in-Some.ensures } } in (
      c.insert_as.ensures.book ∙ l.invariant.0,
      subst (IsEachStored reads (λ keys. AreStored g.K.PartialEq.eq (map entry_of_key keys) c.args.pass.now.history c.insert_as.new.pass.history))
          (sym (take_more items i item inside ∙ ap (λ x. take i items ++ x ∷ []) is)) (
            read.0 ++ c.in-Some.k ∷ [],
            all_zipped_more reads (take i items) read.0 item c.in-Some.k read.1 key,
            stored_next g.K.PartialEq.eq entry_of_key read.0 c.args.pass.now.history l.pass.history c.insert_as.new.pass.history c.in-Some.k
                c.in-Ok.field-0 read.2 c.in-Ok.ensures.put,
          ),
    )

pub returns-in_default-clause-err : goal.returns-in_default-clause-err
returns-in_default-clause-err g c =
    let i = c.loop-item.item-index in
    let items = c.args.items.now.items in
    let item = c.item-item.result in
    let inside : i < length items = search rules in
    let is : get_or items i item ≡ item = search rules in
    let none : FnReturnsAt g.T.Fn c.args.key item None = record { shown = _; shows = refl; says = record { met = c.in_default.ensures } } in
    let whole : items ≡ take i items ++ item ∷ drop (i + 1) items = sym (take-append-drop i items)
    ∙ ap (λ rest. take i items ++ rest) (drop_more items i item inside ∙ ap (λ x. x ∷ drop (i + 1) items) is) in
    inr (
      refl,
      subst (Any (HasNoKey (FnReturnsAt g.T.Fn c.args.key))) (sym whole)
          (any_middle (HasNoKey (FnReturnsAt g.T.Fn c.args.key)) (take i items) item (drop (i + 1) items) none),
    )

pub returns-clause-stored : goal.returns-clause-stored
returns-clause-stored g c = subst (IsEachStored (IsKey (FnReturnsAt g.T.Fn c.args.key))
    (λ keys. AreStored g.K.PartialEq.eq (map entry_of_key keys) c.args.pass.now.history c.loop-item.pass.history))
    (take_all c.loop-item.item-index c.args.items.now.items (search rules)) c.loop-item.invariant.1
