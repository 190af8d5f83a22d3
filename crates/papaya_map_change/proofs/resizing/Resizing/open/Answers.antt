use Rattle.std.proofs.Common.{◌≡◌, None, Some, refl, sym, ◌∙◌, subst}
use Rattle.papaya_call.specs.Resizer.{after}
use Rattle.papaya_call.specs.declared.chain.ask.Answer.{Answer}
use Rattle.papaya_map_book.specs.Hashes.{hash_of}
use Rattle.papaya_map_book.specs.Parts.{begun_of}
use Rattle.papaya_map_change.specs.Resizing.{IsResizing}
use Rattle.papaya_map_change.proofs.Copiers.{ready}
use Rattle.papaya_map_change.proofs.ResizingOpens.{tried}
use Rattle.papaya_map_change.proofs.resizing.Resizing.open.Goals as goal

pub unreachable-requires : goal.unreachable-requires
unreachable-requires g c =
    let fresh = c.requires.can.opens c.requires.opens.0 c.requires.opens.1 in
    let e : None ≡ Some (fresh.table, fresh.seal) = sym c.in_default.is ∙ (c.take.ensures.value ∙ fresh.is) in cc e

pub open_root-found-requires-clause-placed : goal.open_root-found-requires-clause-placed
open_root-found-requires-clause-placed g
    c = (ready (begun_of c.args.window.now.book.now.parts) c.args.window.now.book.now.begun.book c.args.window.now.sight.log c.requires.opens.0
    c.args.self.now.copier.fresh c.in-Some.table c.in-Some.seal (sym c.take.ensures.value ∙ c.in-Some.is)
    (c.requires.can.opens c.requires.opens.0 c.requires.opens.1)).placed

pub open_root-found-requires-clause-made : goal.open_root-found-requires-clause-made
open_root-found-requires-clause-made g c =
    (ready (begun_of c.args.window.now.book.now.parts) c.args.window.now.book.now.begun.book c.args.window.now.sight.log c.requires.opens.0
    c.args.self.now.copier.fresh c.in-Some.table c.in-Some.seal (sym c.take.ensures.value ∙ c.in-Some.is)
    (c.requires.can.opens c.requires.opens.0 c.requires.opens.1)).made

pub open_root-found-requires-clause-pen : goal.open_root-found-requires-clause-pen
open_root-found-requires-clause-pen g c = let is = ready (begun_of c.args.window.now.book.now.parts) c.args.window.now.book.now.begun.book
    c.args.window.now.sight.log c.requires.opens.0 c.args.self.now.copier.fresh c.in-Some.table c.in-Some.seal
    (sym c.take.ensures.value ∙ c.in-Some.is) (c.requires.can.opens c.requires.opens.0 c.requires.opens.1) in (is.seal_book, is.seal_nib)

pub returns-clause-goes_on : goal.returns-clause-goes_on
returns-clause-goes_on g c = let hash = hash_of g.K.Hash.hash_input g.S.BuildHasher.build_hasher g.S.Hasher.Hasher.write g.S.Hasher.Hasher.finish in
    let log = c.open_root-found.new.self.sight.log in
    let copier = record c.args.self.now.copier { fresh = c.take.new.self } in
    subst (λ (z : _). IsResizing g.K.PartialEq.eq hash (begun_of z.now.parts) z.now.begun.book log (after c.args.self.now.machine c.tried.result)
    copier) (sym c.open_root-found.ensures.sees.book)
    (subst (λ (a : Answer). IsResizing g.K.PartialEq.eq hash (begun_of c.args.window.now.book.now.parts) c.args.window.now.book.now.begun.book log
    (after c.args.self.now.machine a) copier) (sym c.tried.ensures.value)
    (tried g.K.PartialEq.eq g.K.Hash.hash_input g.S.BuildHasher.build_hasher g.S.Hasher.Hasher.write g.S.Hasher.Hasher.finish g.met.K.Eq.laws
    g.met.K.Hash.respects_eq (begun_of c.args.window.now.book.now.parts) c.args.window.now.book.now.begun.book c.args.window.now.sight.log
    c.args.self.now.machine c.args.self.now.copier c.requires.can c.requires.opens.0 c.requires.opens.1 c.in-Some.table
    (ready (begun_of c.args.window.now.book.now.parts) c.args.window.now.book.now.begun.book c.args.window.now.sight.log c.requires.opens.0
    c.args.self.now.copier.fresh c.in-Some.table c.in-Some.seal (sym c.take.ensures.value ∙ c.in-Some.is)
    (c.requires.can.opens c.requires.opens.0 c.requires.opens.1)).number_is c.open_root-found.result.0 log c.open_root-found.ensures.tried.0
    c.open_root-found.ensures.tried.1 copier refl))
