use Rattle.std.proofs.Common.{◌≡◌, inl, inr, [], append-nil, refl, sym, ap, ◌∙◌, subst}
use Rattle.papaya_call.specs.declared.chain.ask.Ask.TheVariants.{Copy}
use Rattle.papaya_call.specs.ChainMachine.{IsValid, ask_of}
use Rattle.papaya_map_book.specs.Hashes.{hash_of}
use Rattle.papaya_map_book.specs.Limits.{tables_of}
use Rattle.papaya_map_book.specs.Parts.{begun_of}
use Rattle.papaya_map_book.specs.Rule.{IsLawfulLog}
use Rattle.papaya_map_book.proofs.Windows.{observed, observes_trans}
use Rattle.papaya_map_change.specs.declared.driver.Driver.{Driver}
use Rattle.papaya_map_change.specs.Changing.{CanGoOn, Continues}
use Rattle.papaya_map_change.specs.Going.{ContinuesTo}
use Rattle.papaya_map_change.proofs.HelpingArrives.{HasReached, helped}
use Rattle.papaya_map_change.proofs.HelpingGoes.{calls, come_now, goes_further, goes_now, lawful_now, reached_now}
use Rattle.papaya_map_change.proofs.Numbered.{aside_numbered, goes_numbered, stands_numbered}
use Rattle.papaya_map_change.proofs.driver.Driver.help_set_aside.Goals as goal

pub loop-init : goal.loop-init
loop-init g c =
    let w = c.args.window.now in let d = c.args.self.now in
    let hash = hash_of g.K.Hash.hash_input g.S.BuildHasher.build_hasher g.S.Hasher.Hasher.write g.S.Hasher.Hasher.finish in record {
      sees = record { book = refl; log = ([], append-nil w.sight.log); own = refl };
      valid = stands_numbered d.machine c.next_start-self.result c.requires.valid;
      goes_on = goes_numbered g.K.PartialEq.eq hash (begun_of w.book.now.parts) w.book.now.begun.book w.sight.log d c.next_start-self.result;
      reached = inr (inl (aside_numbered g.K.PartialEq.eq hash (begun_of w.book.now.parts) w.book.now.begun.book w.sight.log d c.next_start-self.result
          c.requires.can c.requires.aside));
      rest = (refl, refl);
    }

pub copy_on-answer-requires-clause-can : goal.copy_on-answer-requires-clause-can
copy_on-answer-requires-clause-can g c =
    subst (λ (z : _). CanGoOn g.K.PartialEq.eq
    (hash_of g.K.Hash.hash_input g.S.BuildHasher.build_hasher g.S.Hasher.Hasher.write g.S.Hasher.Hasher.finish) (begun_of z.now.parts)
    z.now.begun.book c.loop.window.sight.log c.loop.self) (sym c.loop.invariant.sees.book)
    (goes_now g.K.PartialEq.eq g.K.Hash.hash_input g.S.BuildHasher.build_hasher g.S.Hasher.Hasher.write g.S.Hasher.Hasher.finish g.met.K.Eq.laws
    g.met.K.Hash.respects_eq (begun_of c.args.window.now.book.now.parts) c.args.window.now.book.now.begun.book c.args.window.now.sight.log
    c.loop.window.sight.log c.args.self.now c.loop.self c.loop.invariant.goes_on c.requires.can)

pub arrive-requires-clause-lawful : goal.arrive-requires-clause-lawful
arrive-requires-clause-lawful g c =
    let by = subst (λ (z : _). ContinuesTo g.K.PartialEq.eq
    (hash_of g.K.Hash.hash_input g.S.BuildHasher.build_hasher g.S.Hasher.Hasher.write g.S.Hasher.Hasher.finish) (begun_of z.now.parts)
    z.now.begun.book c.loop.window.sight.log c.loop.self c.copy_on-answer.new.window.sight.log c.copy_on-answer.new.self c.copy_on-answer.result)
    c.loop.invariant.sees.book c.copy_on-answer.ensures.goes in
    let goes : Continues g.K.PartialEq.eq (hash_of g.K.Hash.hash_input g.S.BuildHasher.build_hasher g.S.Hasher.Hasher.write g.S.Hasher.Hasher.finish)
    (begun_of c.args.window.now.book.now.parts) c.args.window.now.book.now.begun.book c.args.window.now.sight.log c.args.self.now by.seen
    by.mid = λ matches fed form k begun made r. by.goes_on matches fed form k begun made (c.loop.invariant.goes_on matches fed form k begun made r) in
    subst (λ (z : _). IsLawfulLog g.K.PartialEq.eq
    (hash_of g.K.Hash.hash_input g.S.BuildHasher.build_hasher g.S.Hasher.Hasher.write g.S.Hasher.Hasher.finish) (begun_of z.now.parts)
    c.copy_on-answer.new.window.sight.log) (sym (c.copy_on-answer.ensures.sees.book ∙ c.loop.invariant.sees.book))
    (lawful_now g.K.PartialEq.eq g.K.Hash.hash_input g.S.BuildHasher.build_hasher g.S.Hasher.Hasher.write g.S.Hasher.Hasher.finish g.met.K.Eq.laws
    g.met.K.Hash.respects_eq (begun_of c.args.window.now.book.now.parts) c.args.window.now.book.now.begun.book c.args.window.now.sight.log by.seen
    c.args.self.now by.mid goes c.requires.can c.copy_on-answer.new.window.sight.log c.copy_on-answer.new.self c.copy_on-answer.result by.copies
    by.machine c.answer.new.self c.answer.ensures.after)

pub arrive-requires-clause-come : goal.arrive-requires-clause-come
arrive-requires-clause-come g c =
    let by = subst (λ (z : _). ContinuesTo g.K.PartialEq.eq
    (hash_of g.K.Hash.hash_input g.S.BuildHasher.build_hasher g.S.Hasher.Hasher.write g.S.Hasher.Hasher.finish) (begun_of z.now.parts)
    z.now.begun.book c.loop.window.sight.log c.loop.self c.copy_on-answer.new.window.sight.log c.copy_on-answer.new.self c.copy_on-answer.result)
    c.loop.invariant.sees.book c.copy_on-answer.ensures.goes in
    let goes : Continues g.K.PartialEq.eq (hash_of g.K.Hash.hash_input g.S.BuildHasher.build_hasher g.S.Hasher.Hasher.write g.S.Hasher.Hasher.finish)
    (begun_of c.args.window.now.book.now.parts) c.args.window.now.book.now.begun.book c.args.window.now.sight.log c.args.self.now by.seen
    by.mid = λ matches fed form k begun made r. by.goes_on matches fed form k begun made (c.loop.invariant.goes_on matches fed form k begun made r) in
    come_now g.K.PartialEq.eq g.K.Hash.hash_input g.S.BuildHasher.build_hasher g.S.Hasher.Hasher.write g.S.Hasher.Hasher.finish g.met.K.Eq.laws
    g.met.K.Hash.respects_eq (begun_of c.args.window.now.book.now.parts) c.args.window.now.book.now.begun.book c.args.window.now.sight.log by.seen
    c.args.self.now by.mid goes c.requires.can c.copy_on-answer.new.window.sight.log c.copy_on-answer.new.self c.copy_on-answer.result by.copies
    by.machine c.answer.new.self c.answer.ensures.after

pub loop-preserved : goal.loop-preserved
loop-preserved g c =
    let by = subst (λ (z : _). ContinuesTo g.K.PartialEq.eq
    (hash_of g.K.Hash.hash_input g.S.BuildHasher.build_hasher g.S.Hasher.Hasher.write g.S.Hasher.Hasher.finish) (begun_of z.now.parts)
    z.now.begun.book c.loop.window.sight.log c.loop.self c.copy_on-answer.new.window.sight.log c.copy_on-answer.new.self c.copy_on-answer.result)
    c.loop.invariant.sees.book c.copy_on-answer.ensures.goes in
    let goes : Continues g.K.PartialEq.eq (hash_of g.K.Hash.hash_input g.S.BuildHasher.build_hasher g.S.Hasher.Hasher.write g.S.Hasher.Hasher.finish)
    (begun_of c.args.window.now.book.now.parts) c.args.window.now.book.now.begun.book c.args.window.now.sight.log c.args.self.now by.seen
    by.mid = λ matches fed form k begun made r. by.goes_on matches fed form k begun made (c.loop.invariant.goes_on matches fed form k begun made r) in
    let asked : ask_of c.loop.self.machine ≡ Copy c.in-Copy.ask = sym c.ask.ensures.value ∙ c.in-Copy.is in
    let book = c.arrive.ensures.sees.book ∙ (c.copy_on-answer.ensures.sees.book ∙ c.loop.invariant.sees.book) in
    let lawful = subst (λ (z : _). IsLawfulLog g.K.PartialEq.eq
    (hash_of g.K.Hash.hash_input g.S.BuildHasher.build_hasher g.S.Hasher.Hasher.write g.S.Hasher.Hasher.finish) (begun_of z.now.parts)
    c.arrive.new.window.sight.log) book c.arrive.ensures.lawful in
    let is = c.arrive.ensures.rest in let rest = c.copy_on-answer.ensures.rest in record {
      sees = observes_trans _ _ _ (observes_trans _ _ _ c.loop.invariant.sees c.copy_on-answer.ensures.sees) c.arrive.ensures.sees;
      valid = subst IsValid (sym (ap (λ (z : Driver _ _ _ _). z.machine) is)) c.answer.ensures.valid;
      goes_on = goes_further g.K.PartialEq.eq g.K.Hash.hash_input g.S.BuildHasher.build_hasher g.S.Hasher.Hasher.write g.S.Hasher.Hasher.finish
          g.met.K.Eq.laws g.met.K.Hash.respects_eq (begun_of c.args.window.now.book.now.parts) c.args.window.now.book.now.begun.book
          c.args.window.now.sight.log by.seen c.args.self.now by.mid goes c.requires.can c.copy_on-answer.new.window.sight.log c.copy_on-answer.new.self
          c.copy_on-answer.result by.copies by.machine c.answer.new.self c.answer.ensures.after c.arrive.new.self is c.arrive.new.window.sight.log
          by.since c.arrive.ensures.sees.log lawful (ap (λ (z : Driver _ _ _ _). z.table) rest ∙ sym by.table) c.arrive.ensures.held c.arrive.ensures.still;
      reached = reached_now g.K.PartialEq.eq g.K.Hash.hash_input g.S.BuildHasher.build_hasher g.S.Hasher.Hasher.write g.S.Hasher.Hasher.finish
          g.met.K.Eq.laws g.met.K.Hash.respects_eq (begun_of c.args.window.now.book.now.parts) c.args.window.now.book.now.begun.book
          c.args.window.now.sight.log by.seen c.args.self.now by.mid goes c.requires.can c.copy_on-answer.new.window.sight.log c.copy_on-answer.new.self
          c.copy_on-answer.result by.copies by.machine c.answer.new.self c.answer.ensures.after c.arrive.new.self is c.loop.self.machine
          (tables_of c.loop.window.sight.log) c.loop.self.copier.given.done c.loop.invariant.reached c.in-Copy.ask asked by.call c.arrive.new.window.sight.log
          c.arrive.ensures.sees.log;
      rest = (
        ap (λ (z : Driver _ _ _ _). z.taken) is ∙ (ap (λ (z : Driver _ _ _ _). z.taken) rest ∙ c.loop.invariant.rest.0),
        ap (λ (z : Driver _ _ _ _). z.put) is ∙ (ap (λ (z : Driver _ _ _ _). z.put) rest ∙ c.loop.invariant.rest.1),
      );
    }

pub returns-in_default-clause-helps : goal.returns-in_default-clause-helps
returns-in_default-clause-helps g c = record {
  sees = observed c.loop.invariant.sees;
  own = c.loop.invariant.sees.own;
  valid = c.loop.invariant.valid;
  calling = calls c.loop.self.machine (λ ask asked. c.in_default.not-Copy ask (c.ask.ensures.value ∙ asked));
  helped = helped c.args.self.now.machine c.loop.self.machine (tables_of c.loop.window.sight.log) c.loop.self.copier.given.done
      c.loop.invariant.reached (calls c.loop.self.machine (λ ask asked. c.in_default.not-Copy ask (c.ask.ensures.value ∙ asked)));
}
