use Rattle.std.proofs.Common.{ℕ, Option, refl, sym, subst}
use Rattle.papaya_call.specs.declared.ask.StepKind.{StepKind}
use Rattle.papaya_call.specs.Resizer.{after, follows_of, kind_of_ask}
use Rattle.papaya_map_book.specs.Hashes.{hash_of}
use Rattle.papaya_map_book.specs.Parts.{begun_of}
use Rattle.papaya_map_change.specs.Copier.{AnswersTo, CanAnswerTo}
use Rattle.papaya_map_change.specs.Resizing.{IsResizing}
use Rattle.papaya_map_change.proofs.ResizingAnswers.{resized}
use Rattle.papaya_map_change.proofs.ResizingRelies.{can_answer}
use Rattle.papaya_map_change.proofs.ResizingStages.{stage_fits}
use Rattle.papaya_map_change.proofs.resizing.Resizing.copy.Goals as goal

pub answer-requires : goal.answer-requires
answer-requires g c = let hash = hash_of g.K.Hash.hash_input g.S.BuildHasher.build_hasher g.S.Hasher.Hasher.write g.S.Hasher.Hasher.finish in record {
  can = subst (λ (n : ℕ). CanAnswerTo g.K.PartialEq.eq hash (begun_of c.args.window.now.book.now.parts) c.args.window.now.book.now.begun.book
      c.args.ask c.kind.result n c.args.window.now.sight.log c.args.self.now.copier) (sym c.follows.ensures)
      (subst (λ (o : Option StepKind). CanAnswerTo g.K.PartialEq.eq hash (begun_of c.args.window.now.book.now.parts)
      c.args.window.now.book.now.begun.book c.args.ask o (follows_of c.args.self.now.machine) c.args.window.now.sight.log c.args.self.now.copier)
      (sym c.kind.ensures)
      (can_answer g.K.PartialEq.eq g.K.Hash.hash_input g.S.BuildHasher.build_hasher g.S.Hasher.Hasher.write g.S.Hasher.Hasher.finish g.met.K.Eq.laws
      g.met.K.Hash.respects_eq (begun_of c.args.window.now.book.now.parts) c.args.window.now.book.now.begun.book c.args.window.now.sight.log
      c.args.self.now.machine c.args.self.now.copier c.requires.can c.requires.closed c.args.ask c.requires.asks
      (stage_fits c.args.self.now.machine.state c.requires.valid.state c.args.ask c.requires.asks)));
}

pub returns : goal.returns
returns g c = let hash = hash_of g.K.Hash.hash_input g.S.BuildHasher.build_hasher g.S.Hasher.Hasher.write g.S.Hasher.Hasher.finish in
    let log = c.answer.new.window.sight.log in let h = c.answer.new.self in
    let told = subst (λ (n : ℕ). AnswersTo g.K.PartialEq.eq hash (begun_of c.args.window.now.book.now.parts) c.args.window.now.book.now.begun.book
    c.args.ask (kind_of_ask c.args.self.now.machine) n c.args.window.now.sight.log c.args.self.now.copier log h c.answer.result) c.follows.ensures
    (subst (λ (o : Option StepKind). AnswersTo g.K.PartialEq.eq hash (begun_of c.args.window.now.book.now.parts) c.args.window.now.book.now.begun.book
    c.args.ask o c.follows.result c.args.window.now.sight.log c.args.self.now.copier log h c.answer.result) c.kind.ensures c.answer.ensures.answers)
    in record {
      sees = c.answer.ensures.sees;
      fit = c.answer.ensures.fit;
      machine = refl;
      goes_on = subst (λ (z : _). IsResizing g.K.PartialEq.eq hash (begun_of z.now.parts) z.now.begun.book log
          (after c.args.self.now.machine c.answer.result) h) (sym c.answer.ensures.sees.book)
          (resized g.K.PartialEq.eq g.K.Hash.hash_input g.S.BuildHasher.build_hasher g.S.Hasher.Hasher.write g.S.Hasher.Hasher.finish g.met.K.Eq.laws
          g.met.K.Hash.respects_eq (begun_of c.args.window.now.book.now.parts) c.args.window.now.book.now.begun.book c.args.window.now.sight.log
          c.args.self.now.machine c.args.self.now.copier c.requires.can c.requires.closed log c.answer.ensures.sees.log h c.args.ask c.requires.asks
          c.answer.result told);
    }
