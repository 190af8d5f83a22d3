use Rattle.papaya_map_book.specs.Parts.{begun_of}
use Rattle.papaya_map_lookup.proofs.Histories.{history_legal}
use Rattle.papaya_map.proofs.pass.Pass.keep.Goals as goal

pub invariant_of-self : goal.invariant_of-self
invariant_of-self g c = rw c.into_parts-sight.ensures.0 (history_legal g.K.PartialEq.eq g.K.Hash.hash_input g.S.BuildHasher.build_hasher g.S.Hasher.Hasher.write
    g.S.Hasher.Hasher.finish g.met.K.Eq.laws g.met.K.Hash.respects_eq (begun_of c.args.window.book.now.parts) c.args.window.sight.log c.requires)
