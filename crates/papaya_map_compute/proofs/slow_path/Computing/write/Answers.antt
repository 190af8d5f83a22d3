use Rattle.std.proofs.Common.{rules, ◌≡◌, ⊎_elim, [], append-nil, refl, subst}
use Rattle.papaya_call.specs.declared.ask.Ask.TheVariants.{Exchange}
use Rattle.papaya_call.specs.declared.ask.At.TheVariants.{Root}
use Rattle.papaya_call_law.specs.Relies.{IsNumberAsk}
use Rattle.papaya_map_book.specs.Parts.{begun_of}
use Rattle.papaya_map_compute.proofs.ComputeGoes.{goes_on, goes_untold, writers_silent}
use Rattle.papaya_map_compute.proofs.slow_path.Computing.write.Goals as goal

pub returns-in-Load-clause-computes : goal.returns-in-Load-clause-computes
returns-in-Load-clause-computes g c = λ key begun heard r.
    let e = c.load.ensures.steps in
    goes_on g.K.PartialEq.eq g.K.Hash.hash_input g.S.BuildHasher.build_hasher g.S.Hasher.Hasher.write g.S.Hasher.Hasher.finish g.met.K.Eq.laws
    g.met.K.Hash.respects_eq (begun_of c.args.window.now.book.now.parts) c.args.window.now.book.now.begun.book key begun c.args.window.now.sight.log
    c.args.self.now heard r c.requires.valid c.args.ask c.requires.asks.0 (writers_silent c.args.ask c.requires.asks.1) c.load.result
    c.load.new.window.sight.log e.sees.log c.load.new.self e.machine e.value e.unsaid c.load.ensures.tells (e.writes key r.made begun r.writing)

pub returns-in-LoadHint-clause-computes : goal.returns-in-LoadHint-clause-computes
returns-in-LoadHint-clause-computes g c = λ key begun heard r.
    let e = c.hint.ensures.steps in
    goes_untold g.K.PartialEq.eq g.K.Hash.hash_input g.S.BuildHasher.build_hasher g.S.Hasher.Hasher.write g.S.Hasher.Hasher.finish g.met.K.Eq.laws
    g.met.K.Hash.respects_eq (begun_of c.args.window.now.book.now.parts) c.args.window.now.book.now.begun.book key begun c.args.window.now.sight.log
    c.args.self.now heard r c.requires.valid c.args.ask c.requires.asks.0 (writers_silent c.args.ask c.requires.asks.1) c.hint.result
    (λ number. subst IsNumberAsk c.in-LoadHint.is number) c.hint.new.window.sight.log e.sees.log c.args.self.now.writer refl refl e.unsaid
    (e.writes key r.made begun r.writing)

pub returns-in-SizeOf-clause-computes : goal.returns-in-SizeOf-clause-computes
returns-in-SizeOf-clause-computes g c = λ key begun heard r.
    let e = c.size.ensures.steps in
    goes_untold g.K.PartialEq.eq g.K.Hash.hash_input g.S.BuildHasher.build_hasher g.S.Hasher.Hasher.write g.S.Hasher.Hasher.finish g.met.K.Eq.laws
    g.met.K.Hash.respects_eq (begun_of c.args.window.now.book.now.parts) c.args.window.now.book.now.begun.book key begun c.args.window.now.sight.log
    c.args.self.now heard r c.requires.valid c.args.ask c.requires.asks.0 (writers_silent c.args.ask c.requires.asks.1) c.size.result
    (λ number. subst IsNumberAsk c.in-SizeOf.is number) c.args.window.now.sight.log ([], append-nil c.args.window.now.sight.log)
    c.args.self.now.writer refl refl e.unsaid (e.writes key r.made begun r.writing)

pub returns-in-SameKey-clause-computes : goal.returns-in-SameKey-clause-computes
returns-in-SameKey-clause-computes g c = λ key begun heard r.
    let e = c.same.ensures.steps in
    goes_untold g.K.PartialEq.eq g.K.Hash.hash_input g.S.BuildHasher.build_hasher g.S.Hasher.Hasher.write g.S.Hasher.Hasher.finish g.met.K.Eq.laws
    g.met.K.Hash.respects_eq (begun_of c.args.window.now.book.now.parts) c.args.window.now.book.now.begun.book key begun c.args.window.now.sight.log
    c.args.self.now heard r c.requires.valid c.args.ask c.requires.asks.0 (writers_silent c.args.ask c.requires.asks.1) c.same.result
    (λ number. subst IsNumberAsk c.in-SameKey.is number) c.args.window.now.sight.log ([], append-nil c.args.window.now.sight.log)
    c.args.self.now.writer refl refl e.unsaid (e.writes key r.made begun r.writing)

pub returns-in-MakeKey-clause-computes : goal.returns-in-MakeKey-clause-computes
returns-in-MakeKey-clause-computes g c = λ key begun heard r.
    let e = c.make_part.ensures in
    goes_untold g.K.PartialEq.eq g.K.Hash.hash_input g.S.BuildHasher.build_hasher g.S.Hasher.Hasher.write g.S.Hasher.Hasher.finish g.met.K.Eq.laws
    g.met.K.Hash.respects_eq (begun_of c.args.window.now.book.now.parts) c.args.window.now.book.now.begun.book key begun c.args.window.now.sight.log
    c.args.self.now heard r c.requires.valid c.args.ask c.requires.asks.0 (writers_silent c.args.ask c.requires.asks.1) c.make_part.result
    (λ number. ⊎_elim (λ is. subst IsNumberAsk is number) (λ is. subst IsNumberAsk is number) c.in-MakeKey.is) c.args.window.now.sight.log
    ([], append-nil c.args.window.now.sight.log) c.args.self.now.writer refl refl e.unsaid (e.makes c.args.window.now key r.made begun r.writing)

pub returns-in-MakeTable-clause-computes : goal.returns-in-MakeTable-clause-computes
returns-in-MakeTable-clause-computes g c = λ key begun heard r.
    let e = c.make_table.ensures.steps in
    goes_untold g.K.PartialEq.eq g.K.Hash.hash_input g.S.BuildHasher.build_hasher g.S.Hasher.Hasher.write g.S.Hasher.Hasher.finish g.met.K.Eq.laws
    g.met.K.Hash.respects_eq (begun_of c.args.window.now.book.now.parts) c.args.window.now.book.now.begun.book key begun c.args.window.now.sight.log
    c.args.self.now heard r c.requires.valid c.args.ask c.requires.asks.0 (writers_silent c.args.ask c.requires.asks.1) c.make_table.result
    (λ number. subst IsNumberAsk c.in-MakeTable.is number) c.make_table.new.window.sight.log e.sees.log c.make_table.new.self e.machine e.value
    e.unsaid (e.writes key r.made begun r.writing)

pub returns-in-Exchange-Root-default-default-clause-computes : goal.returns-in-Exchange-Root-default-default-clause-computes
returns-in-Exchange-Root-default-default-clause-computes g c = λ key begun heard r.
    let e = c.open.ensures.steps in
    let root : c.args.ask ≡ Exchange Root c.in-Exchange-Root-default-default.field-1 c.in-Exchange-Root-default-default.field-2 = search rules in
    goes_untold g.K.PartialEq.eq g.K.Hash.hash_input g.S.BuildHasher.build_hasher g.S.Hasher.Hasher.write g.S.Hasher.Hasher.finish g.met.K.Eq.laws
    g.met.K.Hash.respects_eq (begun_of c.args.window.now.book.now.parts) c.args.window.now.book.now.begun.book key begun c.args.window.now.sight.log
    c.args.self.now heard r c.requires.valid c.args.ask c.requires.asks.0 (writers_silent c.args.ask c.requires.asks.1) c.open.result
    (λ number. subst IsNumberAsk root number) c.open.new.window.sight.log e.sees.log c.open.new.self e.machine e.value e.unsaid
    (e.writes key r.made begun r.writing)

pub returns-in-Exchange-Made-default-default-clause-computes : goal.returns-in-Exchange-Made-default-default-clause-computes
returns-in-Exchange-Made-default-default-clause-computes g c = λ key begun heard r.
    let e = c.take.ensures.steps in
    goes_on g.K.PartialEq.eq g.K.Hash.hash_input g.S.BuildHasher.build_hasher g.S.Hasher.Hasher.write g.S.Hasher.Hasher.finish g.met.K.Eq.laws
    g.met.K.Hash.respects_eq (begun_of c.args.window.now.book.now.parts) c.args.window.now.book.now.begun.book key begun c.args.window.now.sight.log
    c.args.self.now heard r c.requires.valid c.args.ask c.requires.asks.0 (writers_silent c.args.ask c.requires.asks.1) c.take.result
    c.take.new.window.sight.log e.sees.log c.args.self.now.writer refl refl e.unsaid c.take.ensures.tells (e.writes key r.made begun r.writing)
