use Rattle.std.proofs.Common.{rules}
use Rattle.papaya_call.specs.declared.ask.Ask.TheVariants.{Exchange}
use Rattle.papaya_call.specs.declared.ask.At.TheVariants.{Slot}
use Rattle.papaya_map_book.specs.Parts.{begun_of}
use Rattle.papaya_map_compute.proofs.ComputeGoes.{goes_untold}
use Rattle.papaya_map_compute.proofs.ComputePuts.{puts}
use Rattle.papaya_map_compute.proofs.slow_path.Computing.exchange.Goals.{in_default-via-in-Some+in_default, in_default-via-in_default}
use Rattle.papaya_map_compute.proofs.slow_path.Computing.exchange.Goals as goal

pub returns-in-Some-Bury-clause-computes : goal.returns-in-Some-Bury-clause-computes
returns-in-Some-Bury-clause-computes g c = λ key begun heard r.
    let e = c.bury.ensures.tries in
    goes_untold g.K.PartialEq.eq g.K.Hash.hash_input g.S.BuildHasher.build_hasher g.S.Hasher.Hasher.write g.S.Hasher.Hasher.finish g.met.K.Eq.laws
    g.met.K.Hash.respects_eq (begun_of c.args.window.now.book.now.parts) c.args.window.now.book.now.begun.book key begun c.args.window.now.sight.log
    c.args.self.now heard r c.requires.valid (Exchange (Slot c.args.number c.args.place) c.args.words.0 c.args.words.1) c.requires.asks tt
    c.bury.result (λ number. number) c.bury.new.window.sight.log e.sees.log c.bury.new.self e.machine e.value e.unsaid
    (c.bury.ensures.writes key r.made begun r.writing)

pub put-requires-clause-kind : goal.put-requires-clause-kind
put-requires-clause-kind g c = puts g.K.PartialEq.eq g.K.Hash.hash_input g.S.BuildHasher.build_hasher g.S.Hasher.Hasher.write g.S.Hasher.Hasher.finish
    g.met.K.Eq.laws g.met.K.Hash.respects_eq (begun_of c.args.window.now.book.now.parts) c.args.window.now.book.now.begun.book c.requires.can.0
    c.requires.can.1 c.args.window.now.sight.log c.args.self.now c.requires.can.2 c.requires.can.3 c.requires.valid c.args.number c.args.place
    c.args.words.0 c.args.words.1 c.requires.asks (elim c.in_default.branch [
      | in_default-via-in-Some+in_default w ↦ search rules
      | in_default-via-in_default w ↦ search rules
    ])
