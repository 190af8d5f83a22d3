use Rattle.std.proofs.Common.{Some, sym, subst}
use Rattle.papaya_call.specs.declared.call.Reply.TheVariants.{Replaced}
use Rattle.papaya_map_book.specs.Logs.{pair_named}
use Rattle.papaya_map_book.specs.Parts.{begun_of}
use Rattle.papaya_map_book.specs.Rule.{IsPlaced}
use Rattle.papaya_map_change.proofs.Doing.{replied}
use Rattle.papaya_map_compute.proofs.ComputeReplies.{made_number, made_placed, updated, updated_chosen, updated_made, updated_number, updated_put, updated_taken}
use Rattle.papaya_map_compute.proofs.slow_path.Computing.updated.Goals.{in_default-via-in-Some+in_default}
use Rattle.papaya_map_compute.proofs.slow_path.Computing.updated.Goals.{in_default-via-in_default}
use Rattle.papaya_map_compute.proofs.slow_path.Computing.updated.Goals.{in_default-2-via-in-Some+in_default}
use Rattle.papaya_map_compute.proofs.slow_path.Computing.updated.Goals.{in_default-2-via-in_default}
use Rattle.papaya_map_compute.proofs.slow_path.Computing.updated.Goals as goal

pub unreachable-requires : goal.unreachable-requires
unreachable-requires g c = elim c.in_default.branch [
  | in_default-via-in-Some+in_default w ↦ updated_taken g.K.PartialEq.eq g.K.Hash.hash_input g.S.BuildHasher.build_hasher g.S.Hasher.Hasher.write
      g.S.Hasher.Hasher.finish g.met.K.Eq.laws g.met.K.Hash.respects_eq (begun_of c.args.window.now.book.now.parts)
      c.args.window.now.book.now.begun.book c.requires.can.0 c.requires.can.1 c.args.window.now.sight.log c.args.self.now c.requires.can.2
      c.requires.can.3 c.requires.done.0 c.requires.done.1 c.requires.done.2 w.in_default.is-1
  | in_default-via-in_default w ↦ updated_chosen g.K.PartialEq.eq g.K.Hash.hash_input g.S.BuildHasher.build_hasher g.S.Hasher.Hasher.write
      g.S.Hasher.Hasher.finish g.met.K.Eq.laws g.met.K.Hash.respects_eq (begun_of c.args.window.now.book.now.parts)
      c.args.window.now.book.now.begun.book c.requires.can.0 c.requires.can.1 c.args.window.now.sight.log c.args.self.now c.requires.can.2
      c.requires.can.3 c.requires.done.0 c.requires.done.1 c.requires.done.2 w.in_default.is-0
]

pub unreachable-requires-in_default-2 : goal.unreachable-requires-in_default-2
unreachable-requires-in_default-2 g c = elim c.in_default-2.branch [
  | in_default-2-via-in-Some+in_default w ↦ updated_put g.K.PartialEq.eq g.K.Hash.hash_input g.S.BuildHasher.build_hasher g.S.Hasher.Hasher.write
      g.S.Hasher.Hasher.finish g.met.K.Eq.laws g.met.K.Hash.respects_eq (begun_of c.args.window.now.book.now.parts)
      c.args.window.now.book.now.begun.book c.requires.can.0 c.requires.can.1 c.args.window.now.sight.log c.args.self.now c.requires.can.2
      c.requires.can.3 c.requires.done.0 c.requires.done.1 c.requires.done.2 w.in_default-2.is-1
  | in_default-2-via-in_default w ↦ updated_made g.K.PartialEq.eq g.K.Hash.hash_input g.S.BuildHasher.build_hasher g.S.Hasher.Hasher.write
      g.S.Hasher.Hasher.finish g.met.K.Eq.laws g.met.K.Hash.respects_eq (begun_of c.args.window.now.book.now.parts)
      c.args.window.now.book.now.begun.book c.requires.can.0 c.requires.can.1 c.args.window.now.sight.log c.args.self.now c.requires.can.2
      c.requires.can.3 c.requires.done.0 c.requires.done.1 c.requires.done.2 w.in_default-2.is-0
]

pub agrees-requires : goal.agrees-requires
agrees-requires g c =
    let at = c.in-Some-Some in (
      (subst (λ (o : _). IsPlaced (begun_of c.args.window.now.book.now.parts) (Some c.args.window.now.book.now.begun.book) (pair_named o)) at.is-0
          c.requires.can.3.chosen_placed).0,
      (subst (λ (o : _).
          IsPlaced (begun_of c.args.window.now.book.now.parts) (Some c.args.window.now.book.now.begun.book) (pair_named o)) at.is-1
          c.requires.can.3.writing.calling.taken_placed).0,
      updated_number g.K.PartialEq.eq g.K.Hash.hash_input g.S.BuildHasher.build_hasher
          g.S.Hasher.Hasher.write g.S.Hasher.Hasher.finish g.met.K.Eq.laws g.met.K.Hash.respects_eq (begun_of c.args.window.now.book.now.parts)
          c.args.window.now.book.now.begun.book c.requires.can.0 c.requires.can.1 c.args.window.now.sight.log c.args.self.now c.requires.can.2
          c.requires.can.3 c.requires.done.0 c.requires.done.1 c.requires.done.2 at.chosen at.taken at.is-0 at.is-1,
    )

pub agrees-requires-2 : goal.agrees-requires-2
agrees-requires-2 g c =
    let at = c.in-Some-Some-2 in (
      (made_placed g.K.PartialEq.eq g.K.Hash.hash_input g.S.BuildHasher.build_hasher g.S.Hasher.Hasher.write g.S.Hasher.Hasher.finish g.met.K.Eq.laws
          g.met.K.Hash.respects_eq (begun_of c.args.window.now.book.now.parts) c.args.window.now.book.now.begun.book c.requires.can.0 c.requires.can.1
          c.args.window.now.sight.log c.args.self.now c.requires.can.2 c.requires.can.3 c.requires.done.0 c.requires.done.1 c.requires.done.2 at.made
          at.is-0).0,
      (subst (λ (o : _). IsPlaced (begun_of c.args.window.now.book.now.parts) (Some c.args.window.now.book.now.begun.book) (pair_named o))
          at.is-1 c.requires.can.3.writing.put_placed).0,
      made_number g.K.PartialEq.eq g.K.Hash.hash_input g.S.BuildHasher.build_hasher
          g.S.Hasher.Hasher.write g.S.Hasher.Hasher.finish g.met.K.Eq.laws g.met.K.Hash.respects_eq (begun_of c.args.window.now.book.now.parts)
          c.args.window.now.book.now.begun.book c.requires.can.0 c.requires.can.1 c.args.window.now.sight.log c.args.self.now c.requires.can.2
          c.requires.can.3 c.requires.done.0 c.requires.done.1 c.requires.done.2 at.made at.put at.is-0 at.is-1,
    )

pub returns-clause-replies : goal.returns-clause-replies
returns-clause-replies g c = λ key begun heard r.
    let at = c.in-Some-Some in let new = c.in-Some-Some-2 in
    updated g.K.PartialEq.eq g.K.Hash.hash_input g.S.BuildHasher.build_hasher g.S.Hasher.Hasher.write g.S.Hasher.Hasher.finish g.met.K.Eq.laws
    g.met.K.Hash.respects_eq (begun_of c.args.window.now.book.now.parts) c.args.window.now.book.now.begun.book key begun c.args.window.now.sight.log
    c.args.self.now heard r c.requires.done.0 c.requires.done.1 c.requires.done.2 at.chosen at.taken new.made new.put at.is-0 at.is-1 new.is-0
    new.is-1 c.agrees.ensures c.agrees-2.ensures c.entry.result c.entry-2.result c.entry.ensures c.entry-2.ensures

pub returns-clause-changed : goal.returns-clause-changed
returns-clause-changed g c = sym (replied c.args.self.now.writer.call.machine (Replaced c.requires.done.0 c.requires.done.1) c.requires.done.2)
