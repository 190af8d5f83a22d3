use Rattle.std.proofs.Common.{◌≡◌, ◌∷◌, Some, refl, sym, subst}
use Rattle.papaya_call.specs.declared.ask.Answer.{Answer}
use Rattle.papaya_map_book.specs.Hashes.{hash_of}
use Rattle.papaya_map_book.specs.Parts.{begun_of}
use Rattle.papaya_map_compute.specs.declared.slow_path.Computing.{Computing}
use Rattle.papaya_map_compute.specs.Computing.{IsComputingOn}
use Rattle.papaya_map_compute.proofs.ComputeShows.{show_idle, shown_held, shown_to, shows_on}
use Rattle.papaya_map_compute.proofs.slow_path.Computing.record_result.Goals as goal

pub returns-clause-hears : goal.returns-clause-hears
returns-clause-hears g c = λ w. (
  show_idle c.args.self.now.writer.call.machine c.args.shown c.requires.shows.0 c.keep.result w,
  λ key begun heard r.
      let h = shown_held g.K.PartialEq.eq g.K.Hash.hash_input g.S.BuildHasher.build_hasher g.S.Hasher.Hasher.write g.S.Hasher.Hasher.finish
      g.met.K.Eq.laws g.met.K.Hash.respects_eq (begun_of w.book.now.parts) w.book.now.begun.book key begun w.sight.log c.args.self.now heard r
      c.args.shown c.requires.shows in
      let on = shows_on g.K.PartialEq.eq g.K.Hash.hash_input g.S.BuildHasher.build_hasher g.S.Hasher.Hasher.write g.S.Hasher.Hasher.finish
      g.met.K.Eq.laws g.met.K.Hash.respects_eq (begun_of w.book.now.parts) w.book.now.begun.book key begun w.sight.log c.args.self.now heard r
      c.requires.valid c.args.shown c.args.operation c.requires.shows.0 h.0 h.1 in
      let same : c.keep.new.self ≡ shown_to key r.made heard c.args.self.now c.args.shown
      c.args.operation = rw (c.keep.ensures.1, c.chosen_after.ensures, c.take.ensures.value) refl in
      subst (λ (z : Computing _ _ _ _ _ × Answer).
      IsComputingOn g.K.PartialEq.eq (hash_of g.K.Hash.hash_input g.S.BuildHasher.build_hasher g.S.Hasher.Hasher.write g.S.Hasher.Hasher.finish)
      (begun_of w.book.now.parts) w.book.now.begun.book key begun w.sight.log z.0 ((c.args.shown, c.args.operation) ∷ heard) (Some z.1))
      (λ i. (sym same i, sym c.keep.ensures.0 i)) on,
)
