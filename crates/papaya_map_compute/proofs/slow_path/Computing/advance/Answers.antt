use Rattle.std.proofs.Common.{Some, sym, ap, ◌∙◌, subst}
use Rattle.papaya_call.specs.declared.chain.machine.Machine.{Machine}
use Rattle.papaya_map_book.specs.Hashes.{hash_of}
use Rattle.papaya_map_book.specs.Limits.{tables_of}
use Rattle.papaya_map_book.specs.Parts.{begun_of}
use Rattle.papaya_map_change.specs.declared.driver.Driver.{Driver}
use Rattle.papaya_map_change.specs.Changing.{IsDriven}
use Rattle.papaya_map_change.specs.Helping.{HasHelped}
use Rattle.papaya_map_change.proofs.Changing.{form}
use Rattle.papaya_map_change.proofs.Written.{own_query}
use Rattle.papaya_map_compute.specs.Computing.{IsComputing}
use Rattle.papaya_map_compute.proofs.ComputeHelped.{computing_helped}
use Rattle.papaya_map_compute.proofs.slow_path.Computing.advance.Goals as goal

pub answer-requires-clause-fit : goal.answer-requires-clause-fit
answer-requires-clause-fit g c = c.requires.can.3.1

pub help-requires-clause-can : goal.help-requires-clause-can
help-requires-clause-can g c =
    let key = c.requires.can.0 in let begun = c.requires.can.1 in let r = c.requires.can.3.0 in
    let w = c.args.window.now.book.now in let b = begun_of w.parts in
    let on = subst (λ (z : Driver _ _ _ _). IsDriven g.K.PartialEq.eq
    (hash_of g.K.Hash.hash_input g.S.BuildHasher.build_hasher g.S.Hasher.Hasher.write g.S.Hasher.Hasher.finish) b w.begun.book
    (g.K.PartialEq.eq key) ((hash_of g.K.Hash.hash_input g.S.BuildHasher.build_hasher g.S.Hasher.Hasher.write g.S.Hasher.Hasher.finish) b.hasher
    key) (Some key) begun c.args.window.now.sight.log r.made z) (sym c.answer.ensures.after) r.writing.calling in
    let query = own_query g.K.PartialEq.eq g.K.Hash.hash_input g.S.BuildHasher.build_hasher g.S.Hasher.Hasher.write g.S.Hasher.Hasher.finish
    g.met.K.Eq.laws g.met.K.Hash.respects_eq b w.begun.book key in (
      g.K.PartialEq.eq key,
      (hash_of g.K.Hash.hash_input g.S.BuildHasher.build_hasher g.S.Hasher.Hasher.write g.S.Hasher.Hasher.finish) b.hasher key,
      form g.K.PartialEq.eq g.K.Hash.hash_input g.S.BuildHasher.build_hasher g.S.Hasher.Hasher.write g.S.Hasher.Hasher.finish g.met.K.Eq.laws
          g.met.K.Hash.respects_eq b (g.K.PartialEq.eq key) (g.K.Hash.hash_input key) query (Some key) w.begun.book begun,
      Some key,
      begun,
      r.made,
      on,
    )

pub returns : goal.returns
returns g c = record {
  told = record {
    helps = record {
      sees = c.help.ensures.helps.sees;
      own = c.help.ensures.helps.own;
      valid = c.help.ensures.helps.valid;
      calling = c.help.ensures.helps.calling;
      helped = subst (λ (z : Machine).
          HasHelped z c.help.new.self.machine (tables_of c.help.new.window.sight.log) c.help.new.self.copier.given.done)
          (ap (λ (d : Driver _ _ _ _). d.machine) c.answer.ensures.after) c.help.ensures.helps.helped;
    };
    still = λ calling. (c.help.ensures.still (ap (λ (d : Driver _ _ _ _). d.machine.phase) c.answer.ensures.after ∙ calling)).1;
    takes = λ key begun heard r.
        let w = c.args.window.now.book.now in let b = begun_of w.parts in let then = c.help.new.self in let log = c.help.new.window.sight.log in
        let x = record c.args.self.now { writer = record c.args.self.now.writer { call = c.answer.new.self } } in
        let on = subst (λ (z : Driver _ _ _ _). IsComputing g.K.PartialEq.eq
        (hash_of g.K.Hash.hash_input g.S.BuildHasher.build_hasher g.S.Hasher.Hasher.write g.S.Hasher.Hasher.finish) b w.begun.book key begun
        c.args.window.now.sight.log (record c.args.self.now { writer = record c.args.self.now.writer { call = z } }) heard) (sym c.answer.ensures.after) r.0 in
        let query = own_query g.K.PartialEq.eq g.K.Hash.hash_input g.S.BuildHasher.build_hasher g.S.Hasher.Hasher.write g.S.Hasher.Hasher.finish
        g.met.K.Eq.laws g.met.K.Hash.respects_eq b w.begun.book key in
        let driven = c.help.ensures.goes_on (g.K.PartialEq.eq key)
        ((hash_of g.K.Hash.hash_input g.S.BuildHasher.build_hasher g.S.Hasher.Hasher.write g.S.Hasher.Hasher.finish) b.hasher key)
        (form g.K.PartialEq.eq g.K.Hash.hash_input g.S.BuildHasher.build_hasher g.S.Hasher.Hasher.write g.S.Hasher.Hasher.finish g.met.K.Eq.laws
        g.met.K.Hash.respects_eq b (g.K.PartialEq.eq key) (g.K.Hash.hash_input key) query (Some key) w.begun.book begun) (Some key) begun on.made
        on.writing.calling in
        computing_helped g.K.PartialEq.eq g.K.Hash.hash_input g.S.BuildHasher.build_hasher g.S.Hasher.Hasher.write g.S.Hasher.Hasher.finish
        g.met.K.Eq.laws g.met.K.Hash.respects_eq b w.begun.book key begun c.args.window.now.sight.log log c.help.ensures.helps.sees.log x heard on then driven
        c.help.ensures.rest.1 c.help.ensures.helps.calling (λ e. let same = c.help.ensures.still e in (same.0, ap (λ (z : _). z.sight.log) same.1))
        c.help.ensures.helps.helped;
  };
}
