use Rattle.std.proofs.Common.{◌≡◌, Ok, Err, Some, ap, ◌∙◌, rules}
use Rattle.papaya_words.specs.declared.refused.Refused.TheVariants.{Capacity}
use Rattle.papaya_map_change.proofs.RemovingReplies.{none_stays, refused_removed, value_removed}
use Rattle.papaya_map.proofs.map.HashMapRef.remove_as.Goals as goal

pub unreachable-requires : goal.unreachable-requires
unreachable-requires g c =
    let is : c.remove_if_as-removed.result ≡ Ok (Err c.in-Ok-Err.field-0-0) = search rules in
    none_stays g.K.PartialEq.eq (g.Q.Equivalent.matches c.args.key.now) c.args.pass.now.history c.remove_if_as-removed.new.pass.history _ _
    c.remove_if_as-removed.result c.in-Ok-Err.field-0-0 c.remove_if_as-removed.ensures.removed (λ f p agrees h judged. judged.3.met) is

pub returns-in-Ok-Ok-Some-clause-removed : goal.returns-in-Ok-Ok-Some-clause-removed
returns-in-Ok-Ok-Some-clause-removed g c =
    let is : c.remove_if_as-removed.result ≡ Ok (Ok (Some (c.in-Ok-Ok-Some.field-0-0-0-0, c.in-Ok-Ok-Some.value))) = search rules in
    value_removed g.K.PartialEq.eq (g.Q.Equivalent.matches c.args.key.now) c.args.pass.now.history c.remove_if_as-removed.new.pass.history _ _
    c.remove_if_as-removed.result (c.in-Ok-Ok-Some.field-0-0-0-0, c.in-Ok-Ok-Some.value) c.remove_if_as-removed.ensures.removed is

pub returns-in-Err-clause-removed : goal.returns-in-Err-clause-removed
returns-in-Err-clause-removed g c =
    let is : c.remove_if_as-removed.result ≡ Err c.in-Err.refused = search rules in
    refused_removed g.K.PartialEq.eq (g.Q.Equivalent.matches c.args.key.now) c.args.pass.now.history c.remove_if_as-removed.new.pass.history _ _
    c.remove_if_as-removed.result c.remove_if_as-removed.ensures.removed c.in-Err.refused is

pub returns-in-Err-clause-crowded : goal.returns-in-Err-clause-crowded
returns-in-Err-clause-crowded g c = λ e.
    let is : c.remove_if_as-removed.result ≡ Err c.in-Err.refused = search rules in
    let full : c.in-Err.refused ≡ Capacity = cc e in
    c.remove_if_as-removed.ensures.crowded (is ∙ ap (λ cause. Err cause) full)
