use Rattle.std.proofs.Common.{sym, ◌∙◌, subst, refl, [], append-nil}
use Rattle.papaya_call.specs.declared.ask.Answer.{Answer}
use Rattle.papaya_map_book.specs.Hashes.{hash_of}
use Rattle.papaya_map_book.specs.Parts.{begun_of}
use Rattle.papaya_map_change.specs.Writing.{IsWritingOn}
use Rattle.papaya_map_change.proofs.WritingSteps.{size_held, sized_on}
use Rattle.papaya_map_change.proofs.writer.Writer.size.Goals as goal

pub size-requires : goal.size-requires
size-requires g c = record {
  held = size_held g.K.PartialEq.eq g.K.Hash.hash_input g.S.BuildHasher.build_hasher g.S.Hasher.Hasher.write
      g.S.Hasher.Hasher.finish g.met.K.Eq.laws g.met.K.Hash.respects_eq (begun_of c.args.window.now.book.now.parts)
      c.args.window.now.book.now.begun.book c.requires.waits.1.can.0 c.requires.waits.1.can.1 c.requires.waits.1.can.2 c.args.window.now.sight.log c.args.self.now
      c.requires.waits.1.can.3 c.requires.waits.0 c.requires.waits.1.asks;
}

pub returns : goal.returns
returns g c =
    let s = c.size.ensures.size in record {
      steps = record {
        sees = record { book = refl; log = ([], append-nil _) };
        own = refl;
        machine = refl;
        value = refl;
        put = refl;
        unsaid = λ cause e. let f = sym s.4 ∙ e in absurd (cc f);
        writes = λ key made begun r.
            subst (λ (z : Answer). IsWritingOn g.K.PartialEq.eq
            (hash_of g.K.Hash.hash_input g.S.BuildHasher.build_hasher g.S.Hasher.Hasher.write g.S.Hasher.Hasher.finish)
            (begun_of c.args.window.now.book.now.parts) c.args.window.now.book.now.begun.book key made begun c.args.window.now.sight.log
            c.args.self.now z) (sym s.4)
            (sized_on g.K.PartialEq.eq g.K.Hash.hash_input g.S.BuildHasher.build_hasher g.S.Hasher.Hasher.write g.S.Hasher.Hasher.finish g.met.K.Eq.laws
            g.met.K.Hash.respects_eq (begun_of c.args.window.now.book.now.parts) c.args.window.now.book.now.begun.book key made begun
            c.args.window.now.sight.log c.args.self.now r c.requires.waits.0 s.0 s.3 s.1 s.2 s.5 s.6 s.7 c.requires.waits.1.asks);
      };
    }
