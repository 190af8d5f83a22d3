use Rattle.std.proofs.Common.{◌≡◌, sym, ap, ◌∙◌, subst}
use Rattle.papaya_call.specs.declared.copy.copying.Copying.{Copying}
use Rattle.papaya_call.specs.declared.copy.settle.Settle.TheVariants.{Looking}
use Rattle.papaya_call.specs.Resizer.{IsValidIn, after}
use Rattle.papaya_call.specs.declared.chain.resizer.Resizer.{Resizer}
use Rattle.papaya_call.specs.declared.chain.resizer.ResizerState.{ResizerState}
use Rattle.papaya_call.specs.declared.chain.resizer.ResizerState.TheVariants as stages
use Rattle.papaya_map_book.specs.Hashes.{hash_of}
use Rattle.papaya_map_book.specs.Parts.{begun_of}
use Rattle.papaya_map_change.specs.Resizing.{IsResizing}
use Rattle.papaya_map_change.specs.Settling.{Stop, at_slot}
use Rattle.papaya_map_change.proofs.ResizingSettling.{can_lead, relies_by}
use Rattle.papaya_map_change.proofs.resizing.Resizing.copy_slots.Goals as goal

pub copy_slots-copying-requires-clause-valid : goal.copy_slots-copying-requires-clause-valid
copy_slots-copying-requires-clause-valid g c =
    let w = c.args.window.now in let m = c.args.self.now.machine in let eq = g.K.PartialEq.eq in
    let hash = hash_of g.K.Hash.hash_input g.S.BuildHasher.build_hasher g.S.Hasher.Hasher.write g.S.Hasher.Hasher.finish in
    let b = begun_of w.book.now.parts in let name = w.book.now.begun.book in
    let at : Copying = at_slot c.args.aim c.args.chunk Looking in
    let s : Stop _ _ _ _ = record { copying = at; log = w.sight.log; loaded = c.args.self.now.copier } in
    let stands : IsValidIn (stages.Copying c.args.from at) = subst IsValidIn c.requires.state c.requires.valid.state in
    let relies = subst (λ (z : ResizerState). IsResizing eq hash b name w.sight.log (record m { state = z }) c.args.self.now.copier) c.requires.state c.requires.can in
    stands.0

pub copy_slots-copying-requires-clause-can : goal.copy_slots-copying-requires-clause-can
copy_slots-copying-requires-clause-can g c =
    let w = c.args.window.now in let m = c.args.self.now.machine in let eq = g.K.PartialEq.eq in
    let hash = hash_of g.K.Hash.hash_input g.S.BuildHasher.build_hasher g.S.Hasher.Hasher.write g.S.Hasher.Hasher.finish in
    let b = begun_of w.book.now.parts in let name = w.book.now.begun.book in
    let at : Copying = at_slot c.args.aim c.args.chunk Looking in
    let s : Stop _ _ _ _ = record { copying = at; log = w.sight.log; loaded = c.args.self.now.copier } in
    let stands : IsValidIn (stages.Copying c.args.from at) = subst IsValidIn c.requires.state c.requires.valid.state in
    let relies = subst (λ (z : ResizerState). IsResizing eq hash b name w.sight.log (record m { state = z }) c.args.self.now.copier) c.requires.state c.requires.can in
    can_lead g.K.PartialEq.eq g.K.Hash.hash_input g.S.BuildHasher.build_hasher g.S.Hasher.Hasher.write g.S.Hasher.Hasher.finish g.met.K.Eq.laws
    g.met.K.Hash.respects_eq b name m c.args.from s stands relies

pub returns-clause-goes_on : goal.returns-clause-goes_on
returns-clause-goes_on g c =
    let w = c.args.window.now in let m = c.args.self.now.machine in let eq = g.K.PartialEq.eq in
    let hash = hash_of g.K.Hash.hash_input g.S.BuildHasher.build_hasher g.S.Hasher.Hasher.write g.S.Hasher.Hasher.finish in
    let b = begun_of w.book.now.parts in let name = w.book.now.begun.book in
    let at : Copying = at_slot c.args.aim c.args.chunk Looking in
    let s : Stop _ _ _ _ = record { copying = at; log = w.sight.log; loaded = c.args.self.now.copier } in
    let stands : IsValidIn (stages.Copying c.args.from at) = subst IsValidIn c.requires.state c.requires.valid.state in
    let relies = subst (λ (z : ResizerState). IsResizing eq hash b name w.sight.log (record m { state = z }) c.args.self.now.copier) c.requires.state c.requires.can in
    let one = c.copy_slots-copying in let w' = one.new.window in
    let s' : Stop _ _ _ _ = record { copying = one.result.0; log = w'.sight.log; loaded = one.new.self } in
    subst (λ (z : _). IsResizing eq hash (begun_of z.now.parts) z.now.begun.book w'.sight.log
    (after (record m { state = stages.Copying c.args.from one.result.0 }) one.result.1) one.new.self) (sym one.ensures.sees.book)
    (relies_by g.K.PartialEq.eq g.K.Hash.hash_input g.S.BuildHasher.build_hasher g.S.Hasher.Hasher.write g.S.Hasher.Hasher.finish g.met.K.Eq.laws
    g.met.K.Hash.respects_eq b name m c.args.from s s' one.result.1 stands relies one.ensures.ends)
