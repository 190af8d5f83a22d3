use Rattle.std.proofs.Common.{◌≡◌, inl, Some, ◌∷◌, refl, sym, ◌∙◌, rules, subst}
use Rattle.papaya_words.specs.declared.refused.Refused.TheVariants.{Memory}
use Rattle.papaya_call.specs.declared.ask.Answer.TheVariants.{Made, Refused}
use Rattle.papaya_map_book.specs.declared.book.pairs.KeyPart.TheVariants as keys
use Rattle.papaya_map_book.specs.declared.book.pairs.ValuePart.TheVariants as values
use Rattle.papaya_map_book.specs.Hashes.{hash_of}
use Rattle.papaya_map_book.specs.Parts.{begun_of}
use Rattle.papaya_map_book.specs.Rule.{IsPlaced}
use Rattle.papaya_map_book.specs.declared.rule.entry.Named.TheVariants as names
use Rattle.papaya_map_lookup.specs.History.{key_of}
use Rattle.papaya_map_change.specs.Writing.{HasKey, HasValue, IsWritingOn}
use Rattle.papaya_map_change.proofs.Written.{pair_made, pair_unmade}
use Rattle.papaya_map_change.proofs.writer.Writer.store_pair.Goals as goal

pub returns-in-Ok-clause-stores : goal.returns-in-Ok-clause-stores
returns-in-Ok-clause-stores g c = record {
  machine = search rules;
  put = search rules;
  left = search rules;
  number = search rules;
  placed = search rules;
  value = search rules;
  pairs = λ key made begun r.
      let w = c.args.window.now.book.now in let b = begun_of w.parts in let log = c.args.window.now.sight.log in let x = c.args.self.now in
      let q = c.in-Ok.pair in
      let placed = c.in-Ok.ensures.ok.placed in
      let has_part : x.key ≡ Some c.in-Some-take.key = search rules in
      let key_is : key_of q ≡ key = c.in-Ok.ensures.ok.key_is ∙ (subst (HasKey b w.begun.book key) has_part r.keyed).0 in
      let going = pair_made g.K.PartialEq.eq g.K.Hash.hash_input g.S.BuildHasher.build_hasher g.S.Hasher.Hasher.write g.S.Hasher.Hasher.finish g.met.K.Eq.laws
      g.met.K.Hash.respects_eq b w.begun.book key made begun log x r (Some (keys.Of c.again.result)) (Some (values.Of q))
      (subst (λ z. (key_of z ≡ key) × IsPlaced b (Some w.begun.book) (names.Pair z)) (sym c.again.ensures) (key_is, placed)) placed q c.in-Ok.ensures.ok.number
      placed key_is c.requires.waits.asks in
      subst (λ z. IsWritingOn g.K.PartialEq.eq
      (hash_of g.K.Hash.hash_input g.S.BuildHasher.build_hasher g.S.Hasher.Hasher.write g.S.Hasher.Hasher.finish) b w.begun.book key (z ∷ made) begun
      log c.hold.new.self (Made z.index)) (sym c.hold.ensures.pair) (rw c.hold.ensures.value going);
  unlogged = tt;
  unsaid = tt;
  writes = tt;
}

pub returns-in-Err-clause-stores : goal.returns-in-Err-clause-stores
returns-in-Err-clause-stores g c = record {
  machine = search rules;
  put = search rules;
  left = search rules;
  number = search rules;
  placed = search rules;
  value = search rules;
  pairs = tt;
  unlogged = search rules;
  unsaid = search rules;
  writes = λ key made begun r.
      let w = c.args.window.now.book.now in let b = begun_of w.parts in let log = c.args.window.now.sight.log in let x = c.args.self.now in
      let has_value : x.value ≡ Some c.in-Err.value = search rules in
      let valued = subst (HasValue b w.begun.book) has_value r.valued in
      let has_key : x.key ≡ Some c.in-Err.key = search rules in
      let back_keyed = subst (HasKey b w.begun.book key) has_key r.keyed in
      pair_unmade g.K.PartialEq.eq g.K.Hash.hash_input g.S.BuildHasher.build_hasher g.S.Hasher.Hasher.write g.S.Hasher.Hasher.finish g.met.K.Eq.laws
      g.met.K.Hash.respects_eq b w.begun.book key made begun log x r (Some c.in-Err.key) (Some c.in-Err.value) back_keyed valued (Refused Memory)
      c.requires.waits.asks (inl (Memory, refl)) tt;
}
