use Rattle.std.proofs.Common.{ℕ, List, [], length, sym, ◌∙◌, subst}
use denote.Bor.{Bor}
use Rattle.logbook.specs.Pages.{Named as Word}
use Rattle.papaya_map_book.specs.Parts.{begun_of}
use Rattle.papaya_map_scan.specs.Walked.{IsLeft, IsRootOf}
use Rattle.papaya_map_scan.proofs.TableScans.{all_left, none_left}
use Rattle.papaya_map_scan.proofs.Walking.{passed_none, passed_rootless}
use Rattle.papaya_map_scan.proofs.walk.Iter.over.Goals.{in-Some, in-None}
use Rattle.papaya_map_scan.proofs.walk.Iter.over.Goals as goal

pub invariant_of-result : goal.invariant_of-result
invariant_of-result g c = (
  c.again.ensures ∙ c.requires.kept,
  c.requires.seen,
  subst (λ (entries : List (_ × _)). IsLeft g.K.PartialEq.eq (begun_of c.args.book.now.parts) c.args.began.log c.args.sight.log c.match-root.number.0
      c.match-root.number.1.now 0 entries) (sym c.nothing.ensures) (elim c.match-root.branch [
        | in-Some w ↦
            let b = begun_of c.args.book.now.parts in let began = c.args.began.log in let log = c.args.sight.log in
            let root = subst (λ (r : _). IsRootOf b began log r) w.in-Some.is c.requires.root in
            let passed = passed_none g.K.PartialEq.eq g.K.Hash.hash_input g.S.BuildHasher.build_hasher g.S.Hasher.Hasher.write g.S.Hasher.Hasher.finish
            g.met.K.Eq.laws g.met.K.Hash.respects_eq b began log c.requires.lawful w.in-Some.number w.in-Some.table.now root.0 root.1 in
            subst (λ (r : ℕ × Bor (List Word)). IsLeft g.K.PartialEq.eq b began log r.0 r.1.now 0 []) (sym w.number-is)
            (all_left g.K.PartialEq.eq b began log w.in-Some.number w.in-Some.table.now w.slots_of.result.now c.requires.since root.0 root.1
            w.slots_of.ensures passed)
        | in-None w ↦
            let b = begun_of c.args.book.now.parts in let began = c.args.began.log in let log = c.args.sight.log in
            let root = subst (λ (r : _). IsRootOf b began log r) w.in-None.is c.requires.root in
            let passed = passed_rootless g.K.PartialEq.eq g.K.Hash.hash_input g.S.BuildHasher.build_hasher g.S.Hasher.Hasher.write g.S.Hasher.Hasher.finish
            g.met.K.Eq.laws g.met.K.Hash.respects_eq b began log c.requires.lawful c.requires.since root 0 0 0 in
            subst (λ (r : ℕ × Bor (List Word)). IsLeft g.K.PartialEq.eq b began log r.0 r.1.now 0 []) (sym w.number-is)
            (none_left g.K.PartialEq.eq b began log c.requires.since passed)
      ]),
)
