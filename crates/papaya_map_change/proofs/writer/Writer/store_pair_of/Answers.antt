use Rattle.std.proofs.Common.{◌≡◌, inl, Some, ◌∷◌, refl, sym, ap, ◌∙◌, rules, subst}
use Rattle.papaya_words.specs.declared.refused.Refused.TheVariants.{Memory}
use Rattle.papaya_call.specs.declared.ask.Answer.TheVariants.{Made, Refused}
use Rattle.papaya_map_book.specs.declared.book.pairs.ValuePart.TheVariants as values
use Rattle.papaya_map_book.specs.Hashes.{hash_of}
use Rattle.papaya_map_book.specs.Parts.{begun_of}
use Rattle.papaya_map_lookup.specs.History.{key_of}
use Rattle.papaya_map_change.specs.Writing.{HasValue, IsWritingOn}
use Rattle.papaya_map_change.proofs.Written.{of_made, of_unmade}
use Rattle.papaya_map_change.proofs.writer.Writer.store_pair_of.Goals as goal

pub returns-in-Ok-clause-stores : goal.returns-in-Ok-clause-stores
returns-in-Ok-clause-stores g c = record {
  machine = search rules;
  put = search rules;
  left = search rules;
  number = search rules;
  placed = search rules;
  value = search rules;
  pairs = λ key made begun r.
      let w = c.args.window.now.book.now in let b = begun_of w.parts in let log = c.args.window.now.sight.log in let x = c.args.self.now in
      let q = c.in-Ok.pair in
      let placed = c.in-Ok.ensures.ok.placed in
      let met : key_of q ≡ key_of c.in-Some-last.last = search rules in
      let going = of_made g.K.PartialEq.eq g.K.Hash.hash_input g.S.BuildHasher.build_hasher g.S.Hasher.Hasher.write g.S.Hasher.Hasher.finish g.met.K.Eq.laws
      g.met.K.Hash.respects_eq b w.begun.book key made begun log x r x.key (Some (values.Of q)) r.keyed placed q c.in-Ok.ensures.ok.number placed
      c.requires.waits.0 (λ p e. let one : c.in-Some-last.last ≡ p = cc (c.in-Some-last.is, e) in met ∙ ap key_of one) c.requires.waits.1.asks in
      subst (λ z. IsWritingOn g.K.PartialEq.eq
      (hash_of g.K.Hash.hash_input g.S.BuildHasher.build_hasher g.S.Hasher.Hasher.write g.S.Hasher.Hasher.finish) b w.begun.book key (z ∷ made) begun
      log c.hold.new.self (Made z.index)) (sym c.hold.ensures.pair) (rw c.hold.ensures.value going);
  unlogged = tt;
  unsaid = tt;
  writes = tt;
}

pub returns-clause-stores : goal.returns-clause-stores
returns-clause-stores g c = record {
  machine = search rules;
  put = search rules;
  left = search rules;
  number = search rules;
  placed = search rules;
  value = search rules;
  pairs = tt;
  unlogged = search rules;
  unsaid = search rules;
  writes = λ key made begun r.
      let w = c.args.window.now.book.now in let b = begun_of w.parts in let log = c.args.window.now.sight.log in let x = c.args.self.now in
      let has_value : x.value ≡ Some c.in-Err.value = search rules in
      let valued = subst (HasValue b w.begun.book) has_value r.valued in
      of_unmade g.K.PartialEq.eq g.K.Hash.hash_input g.S.BuildHasher.build_hasher g.S.Hasher.Hasher.write g.S.Hasher.Hasher.finish g.met.K.Eq.laws
      g.met.K.Hash.respects_eq b w.begun.book key made begun log x r x.key (Some c.in-Err.value) r.keyed valued c.requires.waits.0 (Refused Memory)
      c.requires.waits.1.asks (inl (Memory, refl)) tt;
}
