use Rattle.std.proofs.Common.{inl, rules}
use Rattle.papaya_map_book.specs.Parts.{begun_of}
use Rattle.papaya_map_change.proofs.WritingSteps.{hint_held, hinted_on}
use Rattle.papaya_map_change.proofs.writer.Writer.hint.Goals as goal

pub hint-requires : goal.hint-requires
hint-requires g c = hint_held g.K.PartialEq.eq g.K.Hash.hash_input g.S.BuildHasher.build_hasher g.S.Hasher.Hasher.write g.S.Hasher.Hasher.finish
    g.met.K.Eq.laws g.met.K.Hash.respects_eq (begun_of c.args.window.now.book.now.parts) c.args.window.now.book.now.begun.book c.requires.waits.can.0
    c.requires.waits.can.1 c.requires.waits.can.2 c.args.window.now.sight.log c.args.self.now c.requires.waits.can.3 c.args.number c.args.place (inl c.requires.waits.asks)

pub returns : goal.returns
returns g c = record {
  steps = record {
    sees = search rules;
    own = search rules;
    machine = search rules;
    value = search rules;
    put = search rules;
    unsaid = search rules;
    writes = λ key made begun r.
        hinted_on g.K.PartialEq.eq g.K.Hash.hash_input g.S.BuildHasher.build_hasher g.S.Hasher.Hasher.write g.S.Hasher.Hasher.finish g.met.K.Eq.laws
        g.met.K.Hash.respects_eq (begun_of c.args.window.now.book.now.parts) c.args.window.now.book.now.begun.book key made begun
        c.args.window.now.sight.log c.args.self.now r c.hint.new.window.sight.log c.hint.ensures.sees.log c.args.number c.args.place c.hint.result
        c.requires.waits.asks c.hint.ensures.hint;
  };
}
