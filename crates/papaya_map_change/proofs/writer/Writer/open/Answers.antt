use Rattle.std.proofs.Common.{ℕ, ◌+◌, ◌==◌, cond, None, Some, sym, ap, ◌∙◌, subst, rules}
use Rattle.papaya_call.specs.declared.ask.At.TheVariants.{Root}
use Rattle.papaya_call.specs.declared.ask.StepKind.TheVariants.{Open}
use Rattle.papaya_map_book.specs.Calls.{IsTable, IsTried}
use Rattle.papaya_map_book.specs.Hashes.{hash_of}
use Rattle.papaya_map_book.specs.Parts.{begun_of}
use Rattle.papaya_map_book.specs.declared.rule.entry.Named.TheVariants.{Table}
use Rattle.papaya_map_book.proofs.Opened.{not_zero}
use Rattle.papaya_map_change.proofs.WritingSteps.{opened_here, opened_there, opening, opening_of}
use Rattle.papaya_map_change.proofs.writer.Writer.open.Goals as goal

pub unreachable-requires : goal.unreachable-requires
unreachable-requires g c =
    let o = opening g.K.PartialEq.eq g.K.Hash.hash_input g.S.BuildHasher.build_hasher g.S.Hasher.Hasher.write g.S.Hasher.Hasher.finish g.met.K.Eq.laws
    g.met.K.Hash.respects_eq (begun_of c.args.window.now.book.now.parts) c.args.window.now.book.now.begun.book c.requires.waits.2.can.0 c.requires.waits.2.can.1
    c.requires.waits.2.can.2 c.args.window.now.sight.log c.args.self.now c.requires.waits.2.can.3 c.requires.valid c.requires.waits.0 c.requires.waits.1 c.requires.waits.2.asks in
    let none = sym o.is ∙ (sym c.take.ensures.value ∙ c.in_default.is) in cc none

pub open_root-found-requires-clause-placed : goal.open_root-found-requires-clause-placed
open_root-found-requires-clause-placed g
    c = (opening_of g.K.PartialEq.eq g.K.Hash.hash_input g.S.BuildHasher.build_hasher g.S.Hasher.Hasher.write g.S.Hasher.Hasher.finish g.met.K.Eq.laws
    g.met.K.Hash.respects_eq (begun_of c.args.window.now.book.now.parts) c.args.window.now.book.now.begun.book c.requires.waits.2.can.0 c.requires.waits.2.can.1
    c.requires.waits.2.can.2 c.args.window.now.sight.log c.args.self.now c.requires.waits.2.can.3 c.requires.valid c.requires.waits.0 c.requires.waits.1
    c.requires.waits.2.asks c.in-Some.table c.in-Some.seal (sym c.take.ensures.value ∙ c.in-Some.is)).2

pub open_root-found-requires-clause-made : goal.open_root-found-requires-clause-made
open_root-found-requires-clause-made g c =
    (opening_of g.K.PartialEq.eq g.K.Hash.hash_input g.S.BuildHasher.build_hasher g.S.Hasher.Hasher.write g.S.Hasher.Hasher.finish g.met.K.Eq.laws
    g.met.K.Hash.respects_eq (begun_of c.args.window.now.book.now.parts) c.args.window.now.book.now.begun.book c.requires.waits.2.can.0 c.requires.waits.2.can.1
    c.requires.waits.2.can.2 c.args.window.now.sight.log c.args.self.now c.requires.waits.2.can.3 c.requires.valid c.requires.waits.0 c.requires.waits.1
    c.requires.waits.2.asks c.in-Some.table c.in-Some.seal (sym c.take.ensures.value ∙ c.in-Some.is)).1

pub open_root-found-requires-clause-pen : goal.open_root-found-requires-clause-pen
open_root-found-requires-clause-pen g c = let o = opening_of g.K.PartialEq.eq g.K.Hash.hash_input g.S.BuildHasher.build_hasher g.S.Hasher.Hasher.write
    g.S.Hasher.Hasher.finish g.met.K.Eq.laws g.met.K.Hash.respects_eq (begun_of c.args.window.now.book.now.parts)
    c.args.window.now.book.now.begun.book c.requires.waits.2.can.0 c.requires.waits.2.can.1 c.requires.waits.2.can.2 c.args.window.now.sight.log c.args.self.now
    c.requires.waits.2.can.3 c.requires.valid c.requires.waits.0 c.requires.waits.1 c.requires.waits.2.asks c.in-Some.table c.in-Some.seal
    (sym c.take.ensures.value ∙ c.in-Some.is) in (o.3, o.4)

pub returns-then-found-eq0 : goal.returns-then-found-eq0
returns-then-found-eq0 g c = record {
  steps = record {
    sees = search rules;
    own = search rules;
    machine = search rules;
    value = search rules;
    put = search rules;
    unsaid = search rules;
    writes = λ key made begun r.
        let hash = hash_of g.K.Hash.hash_input g.S.BuildHasher.build_hasher g.S.Hasher.Hasher.write g.S.Hasher.Hasher.finish in
        let b = begun_of c.args.window.now.book.now.parts in
        let old = c.requires.waits.0 in let new = c.requires.waits.1 in let asks = c.requires.waits.2.asks in
        let number = (opening_of g.K.PartialEq.eq g.K.Hash.hash_input g.S.BuildHasher.build_hasher g.S.Hasher.Hasher.write g.S.Hasher.Hasher.finish
        g.met.K.Eq.laws g.met.K.Hash.respects_eq (begun_of c.args.window.now.book.now.parts) c.args.window.now.book.now.begun.book key made begun
        c.args.window.now.sight.log c.args.self.now r c.requires.valid old new asks c.in-Some.table c.in-Some.seal
        (sym c.take.ensures.value ∙ c.in-Some.is)).0 in
        let log = c.open_root-found.new.self.sight.log in let found = c.open_root-found.result.0 in let root = c.open_root-found.result.1 in
        let zero = ap (λ n. n == 0) c.if-found-eq0.true in
        let tried = subst (λ (n : ℕ). IsTried g.K.PartialEq.eq hash b Root (Some Open) 0 n None (Table c.in-Some.table) c.args.window.now.sight.log found
        log c.open_root-found.ensures.tried.0) number c.open_root-found.ensures.tried.1 in
        let held = subst (λ z. IsTable log (cond z (c.in-Some.table.index + 1) found) root.now) zero c.open_root-found.ensures.held in
        opened_here g.K.PartialEq.eq g.K.Hash.hash_input g.S.BuildHasher.build_hasher g.S.Hasher.Hasher.write g.S.Hasher.Hasher.finish g.met.K.Eq.laws
        g.met.K.Hash.respects_eq (begun_of c.args.window.now.book.now.parts) c.args.window.now.book.now.begun.book key made begun
        c.args.window.now.sight.log c.args.self.now r c.requires.valid old new asks log found c.in-Some.table c.open_root-found.ensures.tried.0 root
        c.take.new.self tried zero (subst (λ (n : ℕ). IsTable log n root.now) number held);
  };
}

pub returns : goal.returns
returns g c = record {
  steps = record {
    sees = search rules;
    own = search rules;
    machine = search rules;
    value = search rules;
    put = search rules;
    unsaid = search rules;
    writes = λ key made begun r.
        let hash = hash_of g.K.Hash.hash_input g.S.BuildHasher.build_hasher g.S.Hasher.Hasher.write g.S.Hasher.Hasher.finish in
        let b = begun_of c.args.window.now.book.now.parts in
        let old = c.requires.waits.0 in let new = c.requires.waits.1 in let asks = c.requires.waits.2.asks in
        let number = (opening_of g.K.PartialEq.eq g.K.Hash.hash_input g.S.BuildHasher.build_hasher g.S.Hasher.Hasher.write g.S.Hasher.Hasher.finish
        g.met.K.Eq.laws g.met.K.Hash.respects_eq (begun_of c.args.window.now.book.now.parts) c.args.window.now.book.now.begun.book key made begun
        c.args.window.now.sight.log c.args.self.now r c.requires.valid old new asks c.in-Some.table c.in-Some.seal
        (sym c.take.ensures.value ∙ c.in-Some.is)).0 in
        let log = c.open_root-found.new.self.sight.log in let found = c.open_root-found.result.0 in let root = c.open_root-found.result.1 in
        let zero = not_zero found c.if-found-eq0.false in
        let tried = subst (λ (n : ℕ). IsTried g.K.PartialEq.eq hash b Root (Some Open) 0 n None (Table c.in-Some.table) c.args.window.now.sight.log found
        log c.open_root-found.ensures.tried.0) number c.open_root-found.ensures.tried.1 in
        let held = subst (λ z. IsTable log (cond z (c.in-Some.table.index + 1) found) root.now) zero c.open_root-found.ensures.held in
        opened_there g.K.PartialEq.eq g.K.Hash.hash_input g.S.BuildHasher.build_hasher g.S.Hasher.Hasher.write g.S.Hasher.Hasher.finish g.met.K.Eq.laws
        g.met.K.Hash.respects_eq (begun_of c.args.window.now.book.now.parts) c.args.window.now.book.now.begun.book key made begun
        c.args.window.now.sight.log c.args.self.now r c.requires.valid old new asks log found c.in-Some.table c.open_root-found.ensures.tried.0 root
        c.take.new.self tried zero held;
  };
}
