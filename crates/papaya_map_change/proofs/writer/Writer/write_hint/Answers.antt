use Rattle.std.proofs.Common.{inr, [], append-nil, refl}
use Rattle.papaya_map_book.specs.Parts.{begun_of}
use Rattle.papaya_map_change.proofs.WritingSteps.{hint_can, hint_held, noted_on}
use Rattle.papaya_map_change.proofs.writer.Writer.write_hint.Goals as goal

pub write_hint-requires-clause-held : goal.write_hint-requires-clause-held
write_hint-requires-clause-held g c = hint_held g.K.PartialEq.eq g.K.Hash.hash_input g.S.BuildHasher.build_hasher g.S.Hasher.Hasher.write
    g.S.Hasher.Hasher.finish g.met.K.Eq.laws g.met.K.Hash.respects_eq (begun_of c.args.window.now.book.now.parts)
    c.args.window.now.book.now.begun.book c.requires.waits.can.0 c.requires.waits.can.1 c.requires.waits.can.2 c.args.window.now.sight.log c.args.self.now
    c.requires.waits.can.3 c.args.number c.args.place (inr (c.args.hint, c.requires.waits.asks))

pub write_hint-requires-clause-hint : goal.write_hint-requires-clause-hint
write_hint-requires-clause-hint g c = hint_can g.K.PartialEq.eq g.K.Hash.hash_input g.S.BuildHasher.build_hasher g.S.Hasher.Hasher.write
    g.S.Hasher.Hasher.finish g.met.K.Eq.laws g.met.K.Hash.respects_eq (begun_of c.args.window.now.book.now.parts)
    c.args.window.now.book.now.begun.book c.requires.waits.can.0 c.requires.waits.can.1 c.requires.waits.can.2 c.args.window.now.sight.log c.args.self.now
    c.requires.waits.can.3 c.args.number c.args.place c.args.hint c.requires.waits.asks

pub returns : goal.returns
returns g c = record {
  steps = record {
    sees = record { book = refl; log = ([], append-nil _) };
    own = refl;
    machine = refl;
    value = refl;
    put = refl;
    unsaid = λ cause e. absurd (cc e);
    writes = λ key made begun r.
        noted_on g.K.PartialEq.eq g.K.Hash.hash_input g.S.BuildHasher.build_hasher g.S.Hasher.Hasher.write g.S.Hasher.Hasher.finish g.met.K.Eq.laws
        g.met.K.Hash.respects_eq (begun_of c.args.window.now.book.now.parts) c.args.window.now.book.now.begun.book key made begun
        c.args.window.now.sight.log c.args.self.now r c.args.number c.args.place c.args.hint c.requires.waits.asks;
  };
}
