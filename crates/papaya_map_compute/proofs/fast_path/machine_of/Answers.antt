use Rattle.std.proofs.Common.{None, Some, List, [], append-nil, refl, sym, subst}
use Rattle.papaya_call.specs.declared.answers.Operation.TheVariants as operation
use Rattle.papaya_map_book.specs.Hashes.{hash_of}
use Rattle.papaya_map_book.specs.Parts.{begun_of}
use Rattle.papaya_map_book.proofs.Logs.{prefix_trans}
use Rattle.papaya_map_lookup.specs.Drivers.{past}
use Rattle.papaya_map_lookup.specs.History.{history_of}
use Rattle.papaya_map_change.specs.ClosureCalls.{AllArguments, WasHeld}
use Rattle.papaya_map_compute.specs.Computes.{IsBegun}
use Rattle.papaya_map_compute.specs.Computing.{IsComputing}
use Rattle.papaya_map_compute.specs.FastPath.{CanStart}
use Rattle.papaya_map_compute.specs.Resuming.{IsResumed}
use Rattle.papaya_map_compute.specs.declared.fast_path.Start.{Start}
use Rattle.papaya_map_compute.proofs.fast_path.machine_of.Goals as goal

pub returns-in-Filled-clause-starts : goal.returns-in-Filled-clause-starts
returns-in-Filled-clause-starts g c = record {
  ahead = c.filled.ensures.ahead;
  goes = λ key begun heard held.
      let hash = hash_of g.K.Hash.hash_input g.S.BuildHasher.build_hasher g.S.Hasher.Hasher.write g.S.Hasher.Hasher.finish in
      let w = c.args.window.now in let x = c.filled.result in let q = c.in-Filled.pair in
      let s = subst (λ (z : Start _ _). CanStart w key z heard) c.in-Filled.is held.0 in
      let was = subst (λ (h : List _). AllArguments (WasHeld g.K.PartialEq.eq (g.K.PartialEq.eq key) (history_of begun) (past w)) h) s.2 held.2 in
      let resumes = subst (λ k. IsResumed w k None (operation.Insert q.value.value) x) s.1 c.filled.ensures.resumes in (
        begun,
        ([], append-nil begun),
        subst (λ (h : List _). IsComputing g.K.PartialEq.eq hash (begun_of w.book.now.parts) w.book.now.begun.book key begun w.sight.log x h) (sym s.2)
            (resumes begun held.1 was.0),
      );
}

pub returns-in-Filled-clause-looked : goal.returns-in-Filled-clause-looked
returns-in-Filled-clause-looked g c = record { book = refl; log = ([], append-nil c.args.window.now.sight.log); own = refl }

pub returns-in-Replaced-clause-starts : goal.returns-in-Replaced-clause-starts
returns-in-Replaced-clause-starts g c = record {
  ahead = c.replaced.ensures.ahead;
  goes = λ key begun heard held.
      let hash = hash_of g.K.Hash.hash_input g.S.BuildHasher.build_hasher g.S.Hasher.Hasher.write g.S.Hasher.Hasher.finish in
      let w = c.args.window.now in let x = c.replaced.result in let q = c.in-Replaced.pair in let p = c.in-Replaced.met.stored in
      let s = subst (λ (z : Start _ _). CanStart w key z heard) c.in-Replaced.is held.0 in
      let was = subst (λ (h : List _). AllArguments (WasHeld g.K.PartialEq.eq (g.K.PartialEq.eq key) (history_of begun) (past w)) h) s.3 held.2 in
      let resumes = subst (λ k. IsResumed w k (Some p) (operation.Insert q.value.value) x) s.0 c.replaced.ensures.resumes in (
        begun,
        ([], append-nil begun),
        subst (λ (h : List _). IsComputing g.K.PartialEq.eq hash (begun_of w.book.now.parts) w.book.now.begun.book key begun w.sight.log x h) (sym s.3)
            (resumes begun held.1 was.0),
      );
}

pub returns-in-Replaced-clause-looked : goal.returns-in-Replaced-clause-looked
returns-in-Replaced-clause-looked g c = record { book = refl; log = ([], append-nil c.args.window.now.sight.log); own = refl }

pub returns-in-Removing-clause-starts : goal.returns-in-Removing-clause-starts
returns-in-Removing-clause-starts g c = record {
  ahead = c.removing.ensures.ahead;
  goes = λ key begun heard held.
      let hash = hash_of g.K.Hash.hash_input g.S.BuildHasher.build_hasher g.S.Hasher.Hasher.write g.S.Hasher.Hasher.finish in
      let w = c.args.window.now in let x = c.removing.result in let p = c.in-Removing.shown in
      let s = subst (λ (z : Start _ _). CanStart w key z heard) c.in-Removing.is held.0 in
      let was = subst (λ (h : List _). AllArguments (WasHeld g.K.PartialEq.eq (g.K.PartialEq.eq key) (history_of begun) (past w)) h) s.2 held.2 in
      let resumes = subst (λ k. IsResumed w k (Some p) operation.Remove x) s.0 c.removing.ensures.resumes in (
        begun,
        ([], append-nil begun),
        subst (λ (h : List _). IsComputing g.K.PartialEq.eq hash (begun_of w.book.now.parts) w.book.now.begun.book key begun w.sight.log x h) (sym s.2)
            (resumes begun held.1 was.0),
      );
}

pub returns-in-Removing-clause-looked : goal.returns-in-Removing-clause-looked
returns-in-Removing-clause-looked g c = record { book = refl; log = ([], append-nil c.args.window.now.sight.log); own = refl }

pub returns-in-Beginning-clause-looked : goal.returns-in-Beginning-clause-looked
returns-in-Beginning-clause-looked g c = c.learn.ensures.sees

pub returns-in-Beginning-clause-starts : goal.returns-in-Beginning-clause-starts
returns-in-Beginning-clause-starts g c = record {
  ahead = c.new.ensures.ahead;
  goes = λ key begun heard held.
      let hash = hash_of g.K.Hash.hash_input g.S.BuildHasher.build_hasher g.S.Hasher.Hasher.write g.S.Hasher.Hasher.finish in
      let w = c.args.window.now in let then = c.learn.new.self in let x = c.new.result in
      let s = subst (λ (z : Start _ _). CanStart w key z heard) c.in-Beginning.is held.0 in
      let begins = subst (λ k. IsBegun then k x) s.0 c.new.ensures.begins in (
        then.sight.log,
        prefix_trans begun w.sight.log then.sight.log held.1 c.learn.ensures.sees.log,
        subst (λ (h : List _). IsComputing g.K.PartialEq.eq hash (begun_of then.book.now.parts) then.book.now.begun.book key then.sight.log then.sight.log x h)
            (sym s.1) begins,
      );
}
