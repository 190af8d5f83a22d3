use Rattle.std.proofs.Common.{sym, subst}
use denote.Bor.{Bor}
use Rattle.papaya_map_book.specs.declared.book.Book.{Book}
use Rattle.papaya_map_book.specs.Hashes.{hash_of}
use Rattle.papaya_map_book.specs.Parts.{begun_of}
use Rattle.papaya_map_book.specs.Rule.{IsLawfulLog}
use Rattle.papaya_map_scan.specs.Meeting.{IsMet}
use Rattle.papaya_map_scan.proofs.Taken.{met_loaded}
use Rattle.papaya_map_scan.proofs.slot.load.Goals as goal

pub returns-clause-met : goal.returns-clause-met
returns-clause-met g c = λ began taken.
    subst (λ (z : Bor (Book _ _ _ _)). IsMet g.K.PartialEq.eq (begun_of z.now.parts) z.now.begun.book began c.slot.new.self.sight.log
    c.slot.result.0 c.slot.result.1) (sym c.slot.ensures.sees.book)
    (met_loaded g.K.PartialEq.eq g.K.Hash.hash_input g.S.BuildHasher.build_hasher g.S.Hasher.Hasher.write g.S.Hasher.Hasher.finish g.met.K.Eq.laws
    g.met.K.Hash.respects_eq (begun_of c.args.window.now.book.now.parts) c.args.window.now.book.now.begun.book began
    c.args.window.now.sight.log c.slot.new.self.sight.log c.args.number taken c.slot.ensures.sees.log c.args.place c.slot.result.0
    c.slot.result.1 c.slot.ensures.slot)

pub returns-clause-lawful : goal.returns-clause-lawful
returns-clause-lawful g c = subst (λ (z : Bor (Book _ _ _ _)).
    IsLawfulLog g.K.PartialEq.eq (hash_of g.K.Hash.hash_input g.S.BuildHasher.build_hasher g.S.Hasher.Hasher.write g.S.Hasher.Hasher.finish)
    (begun_of z.now.parts) c.slot.new.self.sight.log) (sym c.slot.ensures.sees.book) c.slot.ensures.slot.lawful
