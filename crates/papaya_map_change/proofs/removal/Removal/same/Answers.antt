use Rattle.std.proofs.Common.{◌≡◌, sym, ap, ◌∙◌}
use Rattle.papaya_call.specs.declared.ask.Answer.TheVariants.{Yes}
use Rattle.papaya_map_lookup.specs.History.{key_of}
use Rattle.papaya_map_change.proofs.removal.Removal.same.Goals as goal

pub returns : goal.returns
returns g c = record {
  same = λ p e.
      let is : c.in-Some.last ≡ p = let one = sym c.in-Some.is ∙ e in cc one in
      let found = c.key.ensures ∙ (ap (λ z. z.key.value) c.pair.ensures ∙ ap key_of is) in
      ap Yes (c.equivalent.ensures ∙ ap (g.Q.Equivalent.matches c.args.key.now) found);
}
