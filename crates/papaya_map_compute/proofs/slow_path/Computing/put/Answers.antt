use Rattle.std.proofs.Common.{◌≡◌, None, Some, sym, ap, ◌∙◌, subst}
use Rattle.papaya_call.specs.declared.ask.Ask.TheVariants.{Exchange}
use Rattle.papaya_call.specs.declared.ask.At.TheVariants.{Slot}
use Rattle.papaya_call.specs.ChainMachine.{kind_of_ask}
use Rattle.papaya_call_law.specs.TrueAnswers.{IsOneOf}
use Rattle.papaya_map_change.specs.Writing.{MayOverwrite}
use Rattle.papaya_map_compute.specs.Computing.{pair_for}
use Rattle.papaya_map_book.specs.Parts.{begun_of}
use Rattle.papaya_map_compute.proofs.ComputeGoes.{goes_untold}
use Rattle.papaya_map_compute.proofs.ComputePuts.{at_hand}
use Rattle.papaya_map_compute.proofs.slow_path.Computing.put.Goals as goal

pub unreachable-requires : goal.unreachable-requires
unreachable-requires g c =
    let h = at_hand g.K.PartialEq.eq g.K.Hash.hash_input g.S.BuildHasher.build_hasher g.S.Hasher.Hasher.write g.S.Hasher.Hasher.finish g.met.K.Eq.laws
    g.met.K.Hash.respects_eq (begun_of c.args.window.now.book.now.parts) c.args.window.now.book.now.begun.book c.requires.can.0 c.requires.can.1
    c.args.window.now.sight.log c.args.self.now c.requires.can.2 c.requires.can.3 c.requires.valid c.args.number c.args.place c.args.words.0
    c.args.words.1 c.requires.asks c.requires.kind in
    let none : pair_for (kind_of_ask c.args.self.now.writer.call.machine) c.args.self.now.fill c.args.self.now.made
    ≡ None = rw (sym c.kind-kind.ensures) (sym c.pair_for.ensures ∙ c.in_default.is) in
    let both = sym h.1 ∙ none in cc both

pub put-requires-clause-can : goal.put-requires-clause-can
put-requires-clause-can g c =
    let h = at_hand g.K.PartialEq.eq g.K.Hash.hash_input g.S.BuildHasher.build_hasher g.S.Hasher.Hasher.write g.S.Hasher.Hasher.finish g.met.K.Eq.laws
    g.met.K.Hash.respects_eq (begun_of c.args.window.now.book.now.parts) c.args.window.now.book.now.begun.book c.requires.can.0 c.requires.can.1
    c.args.window.now.sight.log c.args.self.now c.requires.can.2 c.requires.can.3 c.requires.valid c.args.number c.args.place c.args.words.0
    c.args.words.1 c.requires.asks c.requires.kind in
    let some : pair_for (kind_of_ask c.args.self.now.writer.call.machine) c.args.self.now.fill c.args.self.now.made ≡ Some
    c.in-Some.pair = rw (sym c.kind-kind.ensures) (sym c.pair_for.ensures ∙ c.in-Some.is) in
    let one : h.0 ≡ c.in-Some.pair = cc (h.1, some) in
    let own = subst (λ (q : _). IsOneOf c.requires.can.3.made q
    × MayOverwrite c.args.window.now.sight.log c.requires.can.0 c.args.number c.args.place c.args.words.0 q) one (h.3, h.4) in
    (c.requires.can.0, c.requires.can.3.made, c.requires.can.1, c.requires.can.3.writing, own.0, own.1)

pub put-requires-clause-number : goal.put-requires-clause-number
put-requires-clause-number g c =
    let h = at_hand g.K.PartialEq.eq g.K.Hash.hash_input g.S.BuildHasher.build_hasher g.S.Hasher.Hasher.write g.S.Hasher.Hasher.finish g.met.K.Eq.laws
    g.met.K.Hash.respects_eq (begun_of c.args.window.now.book.now.parts) c.args.window.now.book.now.begun.book c.requires.can.0 c.requires.can.1
    c.args.window.now.sight.log c.args.self.now c.requires.can.2 c.requires.can.3 c.requires.valid c.args.number c.args.place c.args.words.0
    c.args.words.1 c.requires.asks c.requires.kind in
    let some : pair_for (kind_of_ask c.args.self.now.writer.call.machine) c.args.self.now.fill c.args.self.now.made ≡ Some
    c.in-Some.pair = rw (sym c.kind-kind.ensures) (sym c.pair_for.ensures ∙ c.in-Some.is) in
    let one : h.0 ≡ c.in-Some.pair = cc (h.1, some) in
    sym h.2 ∙ ap (λ (z : _). z.index) one

pub returns-clause-computes : goal.returns-clause-computes
returns-clause-computes g c = λ key begun heard r.
    let h = at_hand g.K.PartialEq.eq g.K.Hash.hash_input g.S.BuildHasher.build_hasher g.S.Hasher.Hasher.write g.S.Hasher.Hasher.finish g.met.K.Eq.laws
    g.met.K.Hash.respects_eq (begun_of c.args.window.now.book.now.parts) c.args.window.now.book.now.begun.book key begun c.args.window.now.sight.log
    c.args.self.now heard r c.requires.valid c.args.number c.args.place c.args.words.0 c.args.words.1 c.requires.asks c.requires.kind in
    let some : pair_for (kind_of_ask c.args.self.now.writer.call.machine) c.args.self.now.fill c.args.self.now.made ≡ Some
    c.in-Some.pair = rw (sym c.kind-kind.ensures) (sym c.pair_for.ensures ∙ c.in-Some.is) in
    let one : h.0 ≡ c.in-Some.pair = cc (h.1, some) in
    let own = subst (λ (q : _). IsOneOf r.made q × MayOverwrite c.args.window.now.sight.log key c.args.number c.args.place c.args.words.0 q) one (h.3, h.4) in
    let e = c.put.ensures.tries in
    goes_untold g.K.PartialEq.eq g.K.Hash.hash_input g.S.BuildHasher.build_hasher g.S.Hasher.Hasher.write g.S.Hasher.Hasher.finish g.met.K.Eq.laws
    g.met.K.Hash.respects_eq (begun_of c.args.window.now.book.now.parts) c.args.window.now.book.now.begun.book key begun c.args.window.now.sight.log
    c.args.self.now heard r c.requires.valid (Exchange (Slot c.args.number c.args.place) c.args.words.0 c.args.words.1) c.requires.asks tt
    c.put.result (λ number. number) c.put.new.window.sight.log e.sees.log c.put.new.self e.machine e.value e.unsaid
    (c.put.ensures.writes key r.made begun r.writing own.0 own.1)
