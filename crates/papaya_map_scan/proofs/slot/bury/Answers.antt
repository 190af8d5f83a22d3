use Rattle.std.proofs.Common.{refl, sym, subst}
use denote.Bor.{Bor}
use Rattle.papaya_map_book.specs.declared.book.Book.{Book}
use Rattle.papaya_map_book.specs.Parts.{begun_of}
use Rattle.papaya_map_scan.specs.Meeting.{IsMet}
use Rattle.papaya_map_scan.proofs.Taken.{can_bury, met_found, number_in, buried_by}
use Rattle.papaya_map_scan.proofs.slot.bury.Goals as goal

pub bury_slot-requires-clause-can : goal.bury_slot-requires-clause-can
bury_slot-requires-clause-can g c =
    can_bury g.K.PartialEq.eq g.K.Hash.hash_input g.S.BuildHasher.build_hasher g.S.Hasher.Hasher.write g.S.Hasher.Hasher.finish g.met.K.Eq.laws
    g.met.K.Hash.respects_eq (begun_of c.args.window.now.book.now.parts) c.requires.taken.0 c.args.window.now.sight.log c.args.number
    c.requires.taken.1 c.args.place c.args.word c.requires.live

pub bury_slot-requires-clause-placed : goal.bury_slot-requires-clause-placed
bury_slot-requires-clause-placed g c = c.requires.stood.placed

pub bury_slot-requires-clause-number : goal.bury_slot-requires-clause-number
bury_slot-requires-clause-number g c =
    let stood = c.requires.stood in
    sym (number_in g.K.PartialEq.eq g.K.Hash.hash_input g.S.BuildHasher.build_hasher g.S.Hasher.Hasher.write g.S.Hasher.Hasher.finish g.met.K.Eq.laws
    g.met.K.Hash.respects_eq (begun_of c.args.window.now.book.now.parts) c.args.window.now.sight.log stood.lawful c.args.number c.args.place
    c.args.word stood.is c.args.shown.now stood.names)

pub returns-clause-buried : goal.returns-clause-buried
returns-clause-buried g c = λ is.
    let one = c.bury_slot in let same = one.ensures.same is in
    buried_by g.K.PartialEq.eq g.K.Hash.hash_input g.S.BuildHasher.build_hasher g.S.Hasher.Hasher.write
    g.S.Hasher.Hasher.finish g.met.K.Eq.laws g.met.K.Hash.respects_eq (begun_of c.args.window.now.book.now.parts)
    c.args.window.now.book.now.begun.book c.args.window.now.sight.log c.args.window.now.sight.log one.new.window.sight.log
    c.args.number c.args.place c.args.word _ one.result.0 _ one.result.1 c.requires.stood
    one.ensures.tried is c.args.shown.now same.0 refl same.1 same.2.1

pub returns-clause-met : goal.returns-clause-met
returns-clause-met g c = λ began taken.
    let found = c.bury_slot in
    subst (λ (z : Bor (Book _ _ _ _)). IsMet g.K.PartialEq.eq (begun_of z.now.parts) z.now.begun.book began found.new.window.sight.log
    found.result.0 found.result.1) (sym found.ensures.sees.book)
    (met_found g.K.PartialEq.eq g.K.Hash.hash_input g.S.BuildHasher.build_hasher g.S.Hasher.Hasher.write g.S.Hasher.Hasher.finish g.met.K.Eq.laws
    g.met.K.Hash.respects_eq (begun_of c.args.window.now.book.now.parts) c.args.window.now.book.now.begun.book began
    c.args.window.now.sight.log found.new.window.sight.log c.args.number taken c.args.place c.args.word _ found.result.0 found.result.1
    found.ensures.tried)
