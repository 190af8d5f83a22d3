use Rattle.std.proofs.Common.{◌≡◌, Some, ap, ◌∙◌, rules, subst, refl, [], append-nil}
use Rattle.papaya_map_lookup.specs.History.{key_of}
use Rattle.papaya_map_book.specs.declared.book.pairs.KeyPart.TheVariants as keys
use Rattle.papaya_map_book.specs.Parts.{begun_of}
use Rattle.papaya_map_change.specs.Writing.{HasKey}
use Rattle.papaya_map_change.proofs.Written.{key_compared}
use Rattle.papaya_map_change.proofs.writer.Writer.same.Goals as goal

pub returns-in-Some-Own : goal.returns-in-Some-Own
returns-in-Some-Own g c = record {
  steps = record {
    sees = record { book = refl; log = ([], append-nil _) };
    own = refl;
    machine = refl;
    value = refl;
    put = refl;
    unsaid = λ cause e. absurd (cc e);
    writes = λ key made begun r.
        let has : c.args.self.now.key ≡ Some (keys.Own c.in-Some-Own.key) = search rules in
        let own = (subst (HasKey (begun_of c.args.window.now.book.now.parts) c.args.window.now.book.now.begun.book key) has r.keyed).0 in
        let found = c.key-found.ensures ∙ ap (λ z. z.key.value) c.pair.ensures in
        key_compared g.K.PartialEq.eq g.K.Hash.hash_input g.S.BuildHasher.build_hasher g.S.Hasher.Hasher.write g.S.Hasher.Hasher.finish g.met.K.Eq.laws
        g.met.K.Hash.respects_eq (begun_of c.args.window.now.book.now.parts) c.args.window.now.book.now.begun.book key made begun
        c.args.window.now.sight.log c.args.self.now r c.requires.waits.0 c.eq-same.result
        (λ p e. let is : c.in-Some.last ≡ p = cc (c.in-Some.is, e) in c.eq-same.ensures ∙ (λ i. g.K.PartialEq.eq (own i) ((found ∙ ap key_of is) i)))
        c.requires.waits.1.asks;
  };
}

pub returns-in-Some-Of : goal.returns-in-Some-Of
returns-in-Some-Of g c = record {
  steps = record {
    sees = record { book = refl; log = ([], append-nil _) };
    own = refl;
    machine = refl;
    value = refl;
    put = refl;
    unsaid = λ cause e. absurd (cc e);
    writes = λ key made begun r.
        let has : c.args.self.now.key ≡ Some (keys.Of c.in-Some-Of.pair) = search rules in
        let own = c.key.ensures ∙ (ap (λ z. z.key.value) c.pair-in-Some-Of.ensures
        ∙ (subst (HasKey (begun_of c.args.window.now.book.now.parts) c.args.window.now.book.now.begun.book key) has r.keyed).0) in
        let found = c.key-found.ensures ∙ ap (λ z. z.key.value) c.pair.ensures in
        key_compared g.K.PartialEq.eq g.K.Hash.hash_input g.S.BuildHasher.build_hasher g.S.Hasher.Hasher.write g.S.Hasher.Hasher.finish g.met.K.Eq.laws
        g.met.K.Hash.respects_eq (begun_of c.args.window.now.book.now.parts) c.args.window.now.book.now.begun.book key made begun
        c.args.window.now.sight.log c.args.self.now r c.requires.waits.0 c.eq-same-in-Some-Of.result
        (λ p e. let is : c.in-Some.last ≡ p = cc (c.in-Some.is, e) in c.eq-same-in-Some-Of.ensures ∙ (λ i. g.K.PartialEq.eq (own i) ((found ∙ ap key_of is) i)))
        c.requires.waits.1.asks;
  };
}
