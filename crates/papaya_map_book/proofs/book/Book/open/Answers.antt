use Rattle.std.proofs.Common.{ℕ, ◌+◌, Some, None, sym, subst}
use Rattle.papaya_call.specs.declared.ask.At.TheVariants.{Root}
use Rattle.papaya_call.specs.declared.ask.StepKind.TheVariants.{Open}
use Rattle.papaya_map_book.specs.Hashes.{hash_of}
use Rattle.papaya_map_book.specs.Makers.{CanBring}
use Rattle.papaya_map_book.specs.Parts.{begun_of}
use Rattle.papaya_map_book.proofs.Making.{can_open}
use Rattle.papaya_map_book.proofs.book.Book.open.Goals as goal

pub bring-requires-clause-can : goal.bring-requires-clause-can
bring-requires-clause-can g c =
    let hash = hash_of g.K.Hash.hash_input g.S.BuildHasher.build_hasher g.S.Hasher.Hasher.write g.S.Hasher.Hasher.finish in
    let b = begun_of c.args.self.now.parts in let v = c.args.sight.now.log in
    subst (λ (n : ℕ). CanBring g.K.PartialEq.eq hash b Root (Some Open) 0 (n + 1) None c.args.table.now v) (sym c.index.ensures)
    (can_open g.K.PartialEq.eq hash b None c.args.table.now v)
