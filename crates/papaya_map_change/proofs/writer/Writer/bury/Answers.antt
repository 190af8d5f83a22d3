use Rattle.std.proofs.Common.{None}
use Rattle.papaya_map_book.specs.Parts.{begun_of}
use Rattle.papaya_map_change.proofs.WritingSteps.{bury_can, slot_held, tried_on}
use Rattle.papaya_map_change.proofs.writer.Writer.bury.Goals as goal

pub bury-requires : goal.bury-requires
bury-requires g c = record {
  held = slot_held g.K.PartialEq.eq g.K.Hash.hash_input g.S.BuildHasher.build_hasher g.S.Hasher.Hasher.write g.S.Hasher.Hasher.finish g.met.K.Eq.laws
      g.met.K.Hash.respects_eq (begun_of c.args.window.now.book.now.parts) c.args.window.now.book.now.begun.book c.requires.waits.can.0 c.requires.waits.can.1
      c.requires.waits.can.2 c.args.window.now.sight.log c.args.self.now c.requires.waits.can.3 c.args.number c.args.place c.args.words.0 c.args.words.1 c.requires.waits.asks;
  «open» = c.requires.open;
  can = bury_can g.K.PartialEq.eq g.K.Hash.hash_input g.S.BuildHasher.build_hasher g.S.Hasher.Hasher.write g.S.Hasher.Hasher.finish g.met.K.Eq.laws
      g.met.K.Hash.respects_eq (begun_of c.args.window.now.book.now.parts) c.args.window.now.book.now.begun.book c.requires.waits.can.0 c.requires.waits.can.1
      c.requires.waits.can.2 c.args.window.now.sight.log c.args.self.now c.requires.waits.can.3 c.args.number c.args.place c.args.words.0 c.args.words.1
      c.requires.waits.asks c.requires.kind;
}

pub returns-clause-writes : goal.returns-clause-writes
returns-clause-writes g c = λ key made begun r.
    let b = c.bury.ensures.buries in
    tried_on g.K.PartialEq.eq g.K.Hash.hash_input g.S.BuildHasher.build_hasher g.S.Hasher.Hasher.write g.S.Hasher.Hasher.finish g.met.K.Eq.laws
    g.met.K.Hash.respects_eq (begun_of c.args.window.now.book.now.parts) c.args.window.now.book.now.begun.book key made begun
    c.args.window.now.sight.log c.args.self.now r c.args.number c.args.place c.args.words.0 c.args.words.1 c.requires.waits.asks None
    (λ q none. absurd (cc none)) (λ claim q none. absurd (cc none)) c.bury.new.window.sight.log b.0 b.1 b.2 c.bury.new.self c.bury.result b.3
