use Rattle.std.proofs.Common.{ℕ, Option, sym, subst}
use Rattle.papaya_call.specs.declared.ask.StepKind.{StepKind}
use Rattle.papaya_call.specs.ChainMachine.{follows_of, kind_of_ask}
use Rattle.papaya_map_book.specs.Hashes.{hash_of}
use Rattle.papaya_map_book.specs.Parts.{begun_of}
use Rattle.papaya_map_change.specs.declared.driver.Driver.{Driver}
use Rattle.papaya_map_change.specs.Copier.{AnswersTo, CanAnswerTo}
use Rattle.papaya_map_change.specs.Helping.{HasCopied}
use Rattle.papaya_map_change.proofs.HelpingCopies.{can_answer, copied}
use Rattle.papaya_map_change.proofs.driver.Driver.copy.Goals as goal

pub answer-requires : goal.answer-requires
answer-requires g c = let hash = hash_of g.K.Hash.hash_input g.S.BuildHasher.build_hasher g.S.Hasher.Hasher.write g.S.Hasher.Hasher.finish in record {
  can = subst (λ (n : ℕ). CanAnswerTo g.K.PartialEq.eq hash (begun_of c.args.window.now.book.now.parts) c.args.window.now.book.now.begun.book
      c.args.ask c.kind.result n c.args.window.now.sight.log c.args.self.now.copier) (sym c.follows.ensures)
      (subst (λ (o : Option StepKind). CanAnswerTo g.K.PartialEq.eq hash (begun_of c.args.window.now.book.now.parts)
      c.args.window.now.book.now.begun.book c.args.ask o (follows_of c.args.self.now.machine) c.args.window.now.sight.log
      c.args.self.now.copier) (sym c.kind.ensures)
      (can_answer g.K.PartialEq.eq g.K.Hash.hash_input g.S.BuildHasher.build_hasher g.S.Hasher.Hasher.write g.S.Hasher.Hasher.finish g.met.K.Eq.laws
      g.met.K.Hash.respects_eq (begun_of c.args.window.now.book.now.parts) c.args.window.now.book.now.begun.book c.requires.can.0 c.requires.can.1
      c.requires.can.2 c.requires.can.3 c.requires.can.4 c.requires.can.5 c.args.window.now.sight.log c.args.self.now c.requires.can.6 c.args.ask
      c.requires.asks c.requires.fit));
}

pub returns-clause-copies : goal.returns-clause-copies
returns-clause-copies g c = λ matches fed form k begun made r.
    let hash = hash_of g.K.Hash.hash_input g.S.BuildHasher.build_hasher g.S.Hasher.Hasher.write g.S.Hasher.Hasher.finish in
    let log = c.answer.new.window.sight.log in let h = c.answer.new.self in
    let told = subst (λ (n : ℕ). AnswersTo g.K.PartialEq.eq hash (begun_of c.args.window.now.book.now.parts) c.args.window.now.book.now.begun.book
    c.args.ask (kind_of_ask c.args.self.now.machine) n c.args.window.now.sight.log c.args.self.now.copier log h c.answer.result) c.follows.ensures
    (subst (λ (o : Option StepKind). AnswersTo g.K.PartialEq.eq hash (begun_of c.args.window.now.book.now.parts) c.args.window.now.book.now.begun.book
    c.args.ask o c.follows.result c.args.window.now.sight.log c.args.self.now.copier log h c.answer.result) c.kind.ensures
    c.answer.ensures.answers) in
    copied g.K.PartialEq.eq g.K.Hash.hash_input g.S.BuildHasher.build_hasher g.S.Hasher.Hasher.write g.S.Hasher.Hasher.finish g.met.K.Eq.laws
    g.met.K.Hash.respects_eq (begun_of c.args.window.now.book.now.parts) c.args.window.now.book.now.begun.book matches fed form k begun made
    c.args.window.now.sight.log c.args.self.now r c.requires.valid log c.answer.ensures.sees.log h c.args.ask c.requires.asks
    c.answer.result told
