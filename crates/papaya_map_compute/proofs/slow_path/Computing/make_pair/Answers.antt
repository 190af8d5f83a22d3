use Rattle.std.proofs.Common.{Some, sym, subst}
use Rattle.papaya_call.specs.declared.ask.Ask.TheVariants.{MakePair}
use Rattle.papaya_call.specs.declared.ask.Answer.TheVariants.{Made}
use Rattle.papaya_map_book.specs.Hashes.{hash_of}
use Rattle.papaya_map_book.specs.Parts.{begun_of}
use Rattle.papaya_map_compute.specs.Computing.{IsComputingOn}
use Rattle.papaya_map_compute.proofs.ComputePairs.{filled, own_key, unmade}
use Rattle.papaya_map_compute.proofs.slow_path.Computing.make_pair.Goals as goal

pub store_pair-requires-clause-waits : goal.store_pair-requires-clause-waits
store_pair-requires-clause-waits g c = let r = c.requires.can.3 in record { can = (c.requires.can.0, r.made, c.requires.can.1, r.writing); asks = c.requires.asks }

pub returns-in-Err-clause-computes : goal.returns-in-Err-clause-computes
returns-in-Err-clause-computes g c = λ key begun heard r.
    let e = c.store_pair.ensures.stores in
    unmade g.K.PartialEq.eq (hash_of g.K.Hash.hash_input g.S.BuildHasher.build_hasher g.S.Hasher.Hasher.write g.S.Hasher.Hasher.finish)
    (begun_of c.args.window.now.book.now.parts) c.args.window.now.book.now.begun.book key begun c.args.window.now.sight.log c.args.self.now heard r
    c.requires.valid MakePair c.requires.asks tt c.store_pair.new.self c.in-Err.answer e.machine c.in-Err.ensures.stores.unlogged c.in-Err.ensures.stores.unsaid
    e.left (c.in-Err.ensures.stores.writes key r.made begun r.writing)

pub returns-in-Ok-clause-computes : goal.returns-in-Ok-clause-computes
returns-in-Ok-clause-computes g c = λ key begun heard r.
    let e = c.store_pair.ensures.stores in let q = c.in-Ok.pair in let on = c.in-Ok.ensures.stores.pairs key r.made begun r.writing in
    subst (λ n. IsComputingOn g.K.PartialEq.eq
    (hash_of g.K.Hash.hash_input g.S.BuildHasher.build_hasher g.S.Hasher.Hasher.write g.S.Hasher.Hasher.finish)
    (begun_of c.args.window.now.book.now.parts) c.args.window.now.book.now.begun.book key begun c.args.window.now.sight.log
    (record c.args.self.now { writer = c.store_pair.new.self; fill = Some q }) heard (Some (Made n))) (sym c.index-number.ensures)
    (filled g.K.PartialEq.eq (hash_of g.K.Hash.hash_input g.S.BuildHasher.build_hasher g.S.Hasher.Hasher.write g.S.Hasher.Hasher.finish)
    (begun_of c.args.window.now.book.now.parts) c.args.window.now.book.now.begun.book key begun c.args.window.now.sight.log c.args.self.now heard r
    c.requires.valid c.store_pair.new.self e.machine q c.in-Ok.ensures.stores.value e.left on c.requires.asks
    (own_key g.K.PartialEq.eq (hash_of g.K.Hash.hash_input g.S.BuildHasher.build_hasher g.S.Hasher.Hasher.write g.S.Hasher.Hasher.finish)
    (begun_of c.args.window.now.book.now.parts) c.args.window.now.book.now.begun.book key begun c.args.window.now.sight.log c.args.self.now heard r
    c.requires.valid q c.in-Ok.ensures.key))
