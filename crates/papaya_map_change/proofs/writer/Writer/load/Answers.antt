use Rattle.std.proofs.Common.{rules}
use Rattle.papaya_map_book.specs.Parts.{begun_of}
use Rattle.papaya_map_change.proofs.WritingSteps.{load_held, loaded_on}
use Rattle.papaya_map_change.proofs.writer.Writer.load.Goals as goal

pub load-requires : goal.load-requires
load-requires g c = record {
  held = load_held g.K.PartialEq.eq g.K.Hash.hash_input g.S.BuildHasher.build_hasher g.S.Hasher.Hasher.write
      g.S.Hasher.Hasher.finish g.met.K.Eq.laws g.met.K.Hash.respects_eq (begun_of c.args.window.now.book.now.parts)
      c.args.window.now.book.now.begun.book c.requires.waits.can.0 c.requires.waits.can.1 c.requires.waits.can.2 c.args.window.now.sight.log c.args.self.now
      c.requires.waits.can.3 c.requires.valid c.args.at c.requires.waits.asks;
}

pub returns-clause-steps : goal.returns-clause-steps
returns-clause-steps g c = record {
  sees = search rules;
  own = search rules;
  machine = search rules;
  value = search rules;
  put = search rules;
  unsaid = search rules;
  writes = λ key made begun r.
      loaded_on g.K.PartialEq.eq g.K.Hash.hash_input g.S.BuildHasher.build_hasher g.S.Hasher.Hasher.write g.S.Hasher.Hasher.finish g.met.K.Eq.laws
      g.met.K.Hash.respects_eq (begun_of c.args.window.now.book.now.parts) c.args.window.now.book.now.begun.book key made begun
      c.args.window.now.sight.log c.args.self.now r c.load.new.window.sight.log c.load.ensures.sees.log c.args.at c.load.result c.load.new.self
      c.load.ensures.rest c.requires.waits.asks c.load.ensures.as_loaded;
}
