use Rattle.std.proofs.Common.{rules}
use Rattle.papaya_map_book.specs.Parts.{begun_of}
use Rattle.papaya_map_change.proofs.WritingSteps.{taking, took_on, took_tells}
use Rattle.papaya_map_change.proofs.writer.Writer.take.Goals as goal

pub take-requires : goal.take-requires
take-requires g c = record {
  can = taking g.K.PartialEq.eq g.K.Hash.hash_input g.S.BuildHasher.build_hasher g.S.Hasher.Hasher.write
      g.S.Hasher.Hasher.finish g.met.K.Eq.laws g.met.K.Hash.respects_eq (begun_of c.args.window.now.book.now.parts)
      c.args.window.now.book.now.begun.book c.requires.waits.can.0 c.requires.waits.can.1 c.requires.waits.can.2 c.args.window.now.sight.log c.args.self.now
      c.requires.waits.can.3 c.requires.valid c.args.words.0 c.args.words.1 c.requires.waits.asks;
}

pub returns-clause-steps : goal.returns-clause-steps
returns-clause-steps g c = record {
  sees = search rules;
  own = search rules;
  machine = search rules;
  value = search rules;
  put = search rules;
  unsaid = search rules;
  writes = λ key made begun r.
      let t = c.take.ensures.takes in
      took_on g.K.PartialEq.eq g.K.Hash.hash_input g.S.BuildHasher.build_hasher g.S.Hasher.Hasher.write g.S.Hasher.Hasher.finish g.met.K.Eq.laws
      g.met.K.Hash.respects_eq (begun_of c.args.window.now.book.now.parts) c.args.window.now.book.now.begun.book key made begun
      c.args.window.now.sight.log c.args.self.now r c.requires.valid c.args.words.0 c.args.words.1 c.requires.waits.asks c.take.new.window.sight.log t.0
      t.1.0 t.1.1 c.take.result t.2;
}

pub returns-clause-tells : goal.returns-clause-tells
returns-clause-tells g c =
    let t = c.take.ensures.takes in
    took_tells g.K.PartialEq.eq g.K.Hash.hash_input g.S.BuildHasher.build_hasher g.S.Hasher.Hasher.write g.S.Hasher.Hasher.finish g.met.K.Eq.laws
    g.met.K.Hash.respects_eq (begun_of c.args.window.now.book.now.parts) c.args.window.now.book.now.begun.book c.requires.waits.can.0 c.requires.waits.can.1
    c.requires.waits.can.2 c.args.window.now.sight.log c.args.self.now c.requires.waits.can.3 c.requires.valid c.args.words.0 c.args.words.1 c.requires.waits.asks
    c.take.new.window.sight.log t.0 t.1.0 t.1.1 c.take.result t.2
