use Rattle.std.proofs.Common.{⊎_elim, arith}
use Rattle.papaya_call.specs.declared.ask.Answer.TheVariants.{Made}
use Rattle.papaya_map_book.specs.Parts.{begun_of}
use Rattle.papaya_map_change.proofs.Written.{key_made, value_made}
use Rattle.papaya_map_change.proofs.writer.Writer.make_part.Goals as goal

pub returns : goal.returns
returns g c = record {
  unsaid = λ cause e. absurd (cc e);
  makes = λ w key made begun r.
      ⊎_elim
      (λ asks. key_made g.K.PartialEq.eq g.K.Hash.hash_input g.S.BuildHasher.build_hasher g.S.Hasher.Hasher.write g.S.Hasher.Hasher.finish
      g.met.K.Eq.laws g.met.K.Hash.respects_eq (begun_of w.book.now.parts) w.book.now.begun.book key made begun w.sight.log c.args.self.now r
      (Made 0) asks (omega arith))
      (λ asks. value_made g.K.PartialEq.eq g.K.Hash.hash_input g.S.BuildHasher.build_hasher g.S.Hasher.Hasher.write g.S.Hasher.Hasher.finish
      g.met.K.Eq.laws g.met.K.Hash.respects_eq (begun_of w.book.now.parts) w.book.now.begun.book key made begun w.sight.log c.args.self.now r
      (Made 0) asks (omega arith))
      c.requires.asks;
}
