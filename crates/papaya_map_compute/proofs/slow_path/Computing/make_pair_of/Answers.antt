use Rattle.std.proofs.Common.{Some, sym, subst}
use Rattle.papaya_call.specs.declared.ask.Ask.TheVariants.{MakePairOf}
use Rattle.papaya_call.specs.declared.ask.Answer.TheVariants.{Made}
use Rattle.papaya_map_book.specs.Hashes.{hash_of}
use Rattle.papaya_map_book.specs.Logs.{pair_named}
use Rattle.papaya_map_book.specs.Parts.{begun_of}
use Rattle.papaya_map_book.specs.Rule.{IsPlaced}
use Rattle.papaya_map_compute.specs.Computing.{IsComputingOn}
use Rattle.papaya_map_compute.proofs.ComputePairs.{one_number, replaced, some_last, some_shown, unmade}
use Rattle.papaya_map_compute.proofs.slow_path.Computing.make_pair_of.Goals.{in_default-via-in-Some+in_default, in_default-via-in_default}
use Rattle.papaya_map_compute.proofs.slow_path.Computing.make_pair_of.Goals as goal

pub unreachable-requires : goal.unreachable-requires
unreachable-requires g c = elim c.in_default.branch [
  | in_default-via-in-Some+in_default w ↦ some_last g.K.PartialEq.eq
      (hash_of g.K.Hash.hash_input g.S.BuildHasher.build_hasher g.S.Hasher.Hasher.write g.S.Hasher.Hasher.finish)
      (begun_of c.args.window.now.book.now.parts) c.args.window.now.book.now.begun.book c.requires.can.0 c.requires.can.1 c.args.window.now.sight.log
      c.args.self.now c.requires.can.2 c.requires.can.3 c.requires.valid c.requires.asks.0 c.requires.asks.1 w.in_default.is-1
  | in_default-via-in_default w ↦ some_shown g.K.PartialEq.eq
      (hash_of g.K.Hash.hash_input g.S.BuildHasher.build_hasher g.S.Hasher.Hasher.write g.S.Hasher.Hasher.finish)
      (begun_of c.args.window.now.book.now.parts) c.args.window.now.book.now.begun.book c.requires.can.0 c.requires.can.1 c.args.window.now.sight.log
      c.args.self.now c.requires.can.2 c.requires.can.3 c.requires.valid c.requires.asks.0 c.requires.asks.1 w.in_default.is-0
]

pub agrees-requires : goal.agrees-requires
agrees-requires g c =
    let at = c.in-Some-Some in let r = c.requires.can.3 in (
      (subst (λ (o : _). IsPlaced (begun_of c.args.window.now.book.now.parts) (Some c.args.window.now.book.now.begun.book) (pair_named o)) at.is-0
          r.shown_placed).0,
      (subst (λ (o : _). IsPlaced (begun_of c.args.window.now.book.now.parts) (Some c.args.window.now.book.now.begun.book) (pair_named o)) at.is-1
          r.writing.calling.last_placed).0,
      one_number g.K.PartialEq.eq g.K.Hash.hash_input g.S.BuildHasher.build_hasher g.S.Hasher.Hasher.write g.S.Hasher.Hasher.finish g.met.K.Eq.laws
          g.met.K.Hash.respects_eq (begun_of c.args.window.now.book.now.parts) c.args.window.now.book.now.begun.book c.requires.can.0 c.requires.can.1
          c.args.window.now.sight.log c.args.self.now c.requires.can.2 r c.requires.valid c.requires.asks.0 c.requires.asks.1 at.shown at.last at.is-0 at.is-1,
    )

pub store_pair_of-requires-clause-waits : goal.store_pair_of-requires-clause-waits
store_pair_of-requires-clause-waits g c = let r = c.requires.can.3 in (c.requires.asks.0, record { can = (c.requires.can.0, r.made, c.requires.can.1, r.writing); asks = c.requires.asks.1 })

pub returns-in-Err-clause-computes : goal.returns-in-Err-clause-computes
returns-in-Err-clause-computes g c = λ key begun heard r.
    let e = c.store_pair_of.ensures.stores in
    unmade g.K.PartialEq.eq (hash_of g.K.Hash.hash_input g.S.BuildHasher.build_hasher g.S.Hasher.Hasher.write g.S.Hasher.Hasher.finish)
    (begun_of c.args.window.now.book.now.parts) c.args.window.now.book.now.begun.book key begun c.args.window.now.sight.log c.args.self.now heard r
    c.requires.valid (MakePairOf c.requires.asks.0) c.requires.asks.1 tt c.store_pair_of.new.self c.in-Err.answer e.machine
    c.in-Err.ensures.stores.unlogged c.in-Err.ensures.stores.unsaid e.left (c.in-Err.ensures.stores.writes key r.made begun r.writing)

pub returns-in-Ok-clause-computes : goal.returns-in-Ok-clause-computes
returns-in-Ok-clause-computes g c = λ key begun heard r.
    let e = c.store_pair_of.ensures.stores in let q = c.in-Ok.pair in let on = c.in-Ok.ensures.stores.pairs key r.made begun r.writing in let at = c.in-Some-Some in
    rw c.again-chosen.ensures (subst (λ n. IsComputingOn g.K.PartialEq.eq
    (hash_of g.K.Hash.hash_input g.S.BuildHasher.build_hasher g.S.Hasher.Hasher.write g.S.Hasher.Hasher.finish)
    (begun_of c.args.window.now.book.now.parts) c.args.window.now.book.now.begun.book key begun c.args.window.now.sight.log
    (record c.args.self.now { writer = c.store_pair_of.new.self; chosen = Some at.shown; made = Some q }) heard (Some (Made n))) (sym c.index-number.ensures)
    (replaced g.K.PartialEq.eq (hash_of g.K.Hash.hash_input g.S.BuildHasher.build_hasher g.S.Hasher.Hasher.write g.S.Hasher.Hasher.finish)
    (begun_of c.args.window.now.book.now.parts) c.args.window.now.book.now.begun.book key begun c.args.window.now.sight.log c.args.self.now heard r
    c.requires.valid c.requires.asks.0 c.requires.asks.1 c.store_pair_of.new.self e.machine q c.in-Ok.ensures.stores.value e.left on at.shown at.last
    at.is-0 at.is-1 c.agrees.ensures (c.in-Ok.ensures.key at.last at.is-1)))
