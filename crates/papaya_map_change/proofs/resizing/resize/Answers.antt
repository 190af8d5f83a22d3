use Rattle.std.proofs.Common.{ap, subst, sym}
use Rattle.papaya_call.specs.declared.chain.resizer.Resizer.{Resizer}
use Rattle.papaya_map_book.specs.Hashes.{hash_of}
use Rattle.papaya_map_book.specs.Parts.{begun_of}
use Rattle.papaya_map_change.specs.Resizing.{IsResizing}
use Rattle.papaya_map_change.proofs.ResizingOpens.{begins}
use Rattle.papaya_map_change.proofs.resizing.resize.Goals as goal

pub loop-init : goal.loop-init
loop-init g c =
    let w = c.learn.new.self in let hash = hash_of g.K.Hash.hash_input g.S.BuildHasher.build_hasher g.S.Hasher.Hasher.write g.S.Hasher.Hasher.finish in
    let is = c.new-machine.ensures.value in record {
      sees = c.learn.ensures.sees;
      valid = c.new-machine.ensures.valid;
      can = subst (λ (m : Resizer). IsResizing g.K.PartialEq.eq hash (begun_of w.book.now.parts) w.book.now.begun.book w.sight.log m c.new.result) (sym is)
          (begins g.K.PartialEq.eq g.K.Hash.hash_input g.S.BuildHasher.build_hasher g.S.Hasher.Hasher.write g.S.Hasher.Hasher.finish g.met.K.Eq.laws
          g.met.K.Hash.respects_eq (begun_of w.book.now.parts) w.book.now.begun.book w.sight.log c.learn.ensures.lawful c.args.resize c.args.means.now.initial
          c.next_start-start.result c.new.result c.new.ensures.0 c.new.ensures.1);
      resize = ap (λ (m : Resizer). m.resize) is;
      initial = ap (λ (m : Resizer). m.initial) is;
    }
