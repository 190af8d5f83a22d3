use Rattle.std.proofs.Common.{◌≡◌, refl, sym, ap, subst}
use Rattle.papaya_call.specs.declared.copy.copying.Copying.{Copying}
use Rattle.papaya_call.specs.declared.copy.copying.Copying.TheVariants.{Stepping}
use Rattle.papaya_call.specs.declared.copy.step.Step.TheVariants.{AtRoot}
use Rattle.papaya_call.specs.declared.chain.machine.Phase.{Phase}
use Rattle.papaya_call.specs.declared.chain.machine.Phase.TheVariants.{Copying as Copying_root}
use Rattle.papaya_call.specs.ChainMachine.{IsValidPhase}
use Rattle.papaya_map_book.specs.Hashes.{hash_of}
use Rattle.papaya_map_book.specs.Parts.{begun_of}
use Rattle.papaya_map_change.specs.declared.driver.Driver.{Driver}
use Rattle.papaya_map_change.specs.Changing.{CanGoOn, Continues}
use Rattle.papaya_map_change.specs.Going.{with_machine}
use Rattle.papaya_map_change.specs.Settling.{Stop}
use Rattle.papaya_map_change.proofs.HelpingSettling.{can_lead, driver_at, goes, goes_by, standing_at}
use Rattle.papaya_map_change.proofs.driver.Driver.find_tables.Goals as goal

pub find_tables-copying-requires : goal.find_tables-copying-requires
find_tables-copying-requires g c =
    let w = c.args.window.now in let c₀ = c.args.self.now in let eq = g.K.PartialEq.eq in
    let hash = hash_of g.K.Hash.hash_input g.S.BuildHasher.build_hasher g.S.Hasher.Hasher.write g.S.Hasher.Hasher.finish in
    let b = begun_of w.book.now.parts in let name = w.book.now.begun.book in
    let at : Copying = Stepping c.args.aim AtRoot in
    let s : Stop _ _ _ _ = record { copying = at; log = w.sight.log; loaded = c₀.copier } in
    let stands : IsValidPhase (Copying_root at) = subst IsValidPhase c.requires.phase c.requires.valid.phase in
    let same : driver_at c₀ s ≡ c₀ = ap (λ (p : Phase). with_machine c₀ (record c₀.machine { phase = p })) (sym c.requires.phase) in
    record {
      can = can_lead g.K.PartialEq.eq g.K.Hash.hash_input g.S.BuildHasher.build_hasher g.S.Hasher.Hasher.write g.S.Hasher.Hasher.finish g.met.K.Eq.laws
          g.met.K.Hash.respects_eq b name c₀ c.requires.valid s stands
          (subst (λ (z : Driver _ _ _ _). CanGoOn eq hash b name w.sight.log z) (sym same) c.requires.can);
    }

pub returns-clause-valid : goal.returns-clause-valid
returns-clause-valid g c =
    let two = c.find_tables-copying in
    let s' : Stop _ _ _ _ = record { copying = two.result.0; log = two.new.window.sight.log; loaded = two.new.self } in
    standing_at c.args.self.now s' c.requires.valid two.ensures.valid

pub returns-clause-goes : goal.returns-clause-goes
returns-clause-goes g c =
    let w = c.args.window.now in let c₀ = c.args.self.now in let eq = g.K.PartialEq.eq in
    let hash = hash_of g.K.Hash.hash_input g.S.BuildHasher.build_hasher g.S.Hasher.Hasher.write g.S.Hasher.Hasher.finish in
    let b = begun_of w.book.now.parts in let name = w.book.now.begun.book in
    let at : Copying = Stepping c.args.aim AtRoot in
    let s : Stop _ _ _ _ = record { copying = at; log = w.sight.log; loaded = c₀.copier } in
    let stands : IsValidPhase (Copying_root at) = subst IsValidPhase c.requires.phase c.requires.valid.phase in
    let same : driver_at c₀ s ≡ c₀ = ap (λ (p : Phase). with_machine c₀ (record c₀.machine { phase = p })) (sym c.requires.phase) in
    let two = c.find_tables-copying in let w' = two.new.window in
    let s' : Stop _ _ _ _ = record { copying = two.result.0; log = w'.sight.log; loaded = two.new.self } in
    let ends = two.ensures.ends in
    let last : Stop _ _ _ _ = record { copying = two.result.0; log = ends.log; loaded = ends.loaded } in record {
      seen = ends.log;
      mid = driver_at c₀ last;
      goes_on = subst (λ (z : Driver _ _ _ _). Continues eq hash b name w.sight.log z ends.log (driver_at c₀ last)) same
          (goes g.K.PartialEq.eq g.K.Hash.hash_input g.S.BuildHasher.build_hasher g.S.Hasher.Hasher.write g.S.Hasher.Hasher.finish g.met.K.Eq.laws
          g.met.K.Hash.respects_eq b name c₀ c.requires.valid s s' stands two.result.1 ends);
      since = ends.since;
      copies = goes_by g.K.PartialEq.eq g.K.Hash.hash_input g.S.BuildHasher.build_hasher g.S.Hasher.Hasher.write g.S.Hasher.Hasher.finish
          g.met.K.Eq.laws g.met.K.Hash.respects_eq b name c₀ c.requires.valid s s' stands two.result.1 ends two.ensures.valid;
      machine = refl;
      call = refl;
      table = refl;
    }
