use Rattle.std.proofs.Common.{Some, sym, subst}
use Rattle.papaya_call.specs.declared.call.Reply.TheVariants.{Inserted}
use Rattle.papaya_map_book.specs.Logs.{pair_named}
use Rattle.papaya_map_book.specs.Parts.{begun_of}
use Rattle.papaya_map_book.specs.Rule.{IsPlaced}
use Rattle.papaya_map_change.proofs.Doing.{replied}
use Rattle.papaya_map_compute.proofs.ComputeReplies.{fill_made, fill_number, fill_placed, fill_put, inserted}
use Rattle.papaya_map_compute.proofs.slow_path.Computing.inserted.Goals.{in_default-via-in-Some+in_default, in_default-via-in_default}
use Rattle.papaya_map_compute.proofs.slow_path.Computing.inserted.Goals as goal

pub agrees-requires : goal.agrees-requires
agrees-requires g c =
    let at = c.in-Some-Some in (
      (fill_placed g.K.PartialEq.eq g.K.Hash.hash_input g.S.BuildHasher.build_hasher g.S.Hasher.Hasher.write g.S.Hasher.Hasher.finish g.met.K.Eq.laws
          g.met.K.Hash.respects_eq (begun_of c.args.window.now.book.now.parts) c.args.window.now.book.now.begun.book c.requires.can.0 c.requires.can.1
          c.args.window.now.sight.log c.args.self.now c.requires.can.2 c.requires.can.3 c.requires.done.0 c.requires.done.1 at.fill at.is-0).0,
      (subst (λ (o : _). IsPlaced (begun_of c.args.window.now.book.now.parts) (Some c.args.window.now.book.now.begun.book) (pair_named o)) at.is-1
          c.requires.can.3.writing.put_placed).0,
      fill_number g.K.PartialEq.eq g.K.Hash.hash_input g.S.BuildHasher.build_hasher g.S.Hasher.Hasher.write
          g.S.Hasher.Hasher.finish g.met.K.Eq.laws g.met.K.Hash.respects_eq (begun_of c.args.window.now.book.now.parts)
          c.args.window.now.book.now.begun.book c.requires.can.0 c.requires.can.1 c.args.window.now.sight.log c.args.self.now c.requires.can.2
          c.requires.can.3 c.requires.done.0 c.requires.done.1 at.fill at.put at.is-0 at.is-1,
    )

pub unreachable-requires : goal.unreachable-requires
unreachable-requires g c = elim c.in_default.branch [
  | in_default-via-in-Some+in_default w ↦ fill_put g.K.PartialEq.eq g.K.Hash.hash_input g.S.BuildHasher.build_hasher g.S.Hasher.Hasher.write
      g.S.Hasher.Hasher.finish g.met.K.Eq.laws g.met.K.Hash.respects_eq (begun_of c.args.window.now.book.now.parts)
      c.args.window.now.book.now.begun.book c.requires.can.0 c.requires.can.1 c.args.window.now.sight.log c.args.self.now c.requires.can.2
      c.requires.can.3 c.requires.done.0 c.requires.done.1 w.in_default.is-1
  | in_default-via-in_default w ↦ fill_made g.K.PartialEq.eq g.K.Hash.hash_input g.S.BuildHasher.build_hasher g.S.Hasher.Hasher.write
      g.S.Hasher.Hasher.finish g.met.K.Eq.laws g.met.K.Hash.respects_eq (begun_of c.args.window.now.book.now.parts)
      c.args.window.now.book.now.begun.book c.requires.can.0 c.requires.can.1 c.args.window.now.sight.log c.args.self.now c.requires.can.2
      c.requires.can.3 c.requires.done.0 c.requires.done.1 w.in_default.is-0
]

pub returns-clause-replies : goal.returns-clause-replies
returns-clause-replies g c = λ key begun heard r.
    let at = c.in-Some-Some in
    inserted g.K.PartialEq.eq g.K.Hash.hash_input g.S.BuildHasher.build_hasher g.S.Hasher.Hasher.write g.S.Hasher.Hasher.finish g.met.K.Eq.laws
    g.met.K.Hash.respects_eq (begun_of c.args.window.now.book.now.parts) c.args.window.now.book.now.begun.book key begun c.args.window.now.sight.log
    c.args.self.now heard r c.requires.done.0 c.requires.done.1 at.fill at.put at.is-0 at.is-1 c.agrees.ensures _ _ c.entry.ensures

pub returns-clause-changed : goal.returns-clause-changed
returns-clause-changed g c = sym (replied c.args.self.now.writer.call.machine (Inserted c.requires.done.0) c.requires.done.1)
