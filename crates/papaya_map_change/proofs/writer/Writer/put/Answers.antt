use Rattle.std.proofs.Common.{◌==◌, ◌≡◌, ◌<◌, MatchOption, Option, Some, length, sym, ap, ◌∙◌, subst, rules}
use denote.Bor.{Bor}
use Rattle.papaya_call.specs.declared.ask.At.TheVariants.{Slot}
use Rattle.papaya_call.specs.declared.ask.StepKind.{StepKind}
use Rattle.papaya_call_law.specs.TrueAnswers.{IsOneOf}
use Rattle.papaya_map_book.specs.Sheets.{Sheet}
use Rattle.papaya_map_book.specs.Calls.{IsSlotTried, IsTable}
use Rattle.papaya_map_book.specs.Hashes.{hash_of}
use Rattle.papaya_map_book.specs.Parts.{begun_of}
use Rattle.papaya_map_book.specs.Plays.{CanExchange}
use Rattle.papaya_map_book.specs.declared.rule.entry.Named.TheVariants.{Pair}
use Rattle.papaya_map_lookup.specs.History.{key_of}
use Rattle.papaya_map_change.proofs.WritingSteps.{claims_own, put_can, slot_held, tried_on}
use Rattle.papaya_map_change.proofs.Doing.{tried}
use Rattle.papaya_map_change.proofs.writer.Writer.put.Goals as goal

pub unreachable-requires : goal.unreachable-requires
unreachable-requires g c = subst (λ (o : Option (Bor Sheet)).
    MatchOption o ⊥ (λ z. IsTable c.args.window.now.sight.log c.args.number z.now × (c.args.place < length z.now.slots))) c.in_default.is
    (slot_held g.K.PartialEq.eq g.K.Hash.hash_input g.S.BuildHasher.build_hasher g.S.Hasher.Hasher.write g.S.Hasher.Hasher.finish g.met.K.Eq.laws
    g.met.K.Hash.respects_eq (begun_of c.args.window.now.book.now.parts) c.args.window.now.book.now.begun.book c.requires.can.0 c.requires.can.1
    c.requires.can.2 c.args.window.now.sight.log c.args.self.now c.requires.can.3 c.args.number c.args.place c.args.words.0 c.args.words.1 c.requires.asks)

pub put_slot-found-requires-clause-table : goal.put_slot-found-requires-clause-table
put_slot-found-requires-clause-table g c =
    (subst (λ (o : Option (Bor Sheet)). MatchOption o ⊥
    (λ z. IsTable c.args.window.now.sight.log c.args.number z.now × (c.args.place < length z.now.slots))) c.in-Some.is
    (slot_held g.K.PartialEq.eq g.K.Hash.hash_input g.S.BuildHasher.build_hasher g.S.Hasher.Hasher.write g.S.Hasher.Hasher.finish g.met.K.Eq.laws
    g.met.K.Hash.respects_eq (begun_of c.args.window.now.book.now.parts) c.args.window.now.book.now.begun.book c.requires.can.0 c.requires.can.1
    c.requires.can.2 c.args.window.now.sight.log c.args.self.now c.requires.can.3 c.args.number c.args.place c.args.words.0 c.args.words.1 c.requires.asks)).0

pub put_slot-found-requires-clause-place : goal.put_slot-found-requires-clause-place
put_slot-found-requires-clause-place g c =
    (subst (λ (o : Option (Bor Sheet)). MatchOption o ⊥
    (λ z. IsTable c.args.window.now.sight.log c.args.number z.now × (c.args.place < length z.now.slots))) c.in-Some.is
    (slot_held g.K.PartialEq.eq g.K.Hash.hash_input g.S.BuildHasher.build_hasher g.S.Hasher.Hasher.write g.S.Hasher.Hasher.finish g.met.K.Eq.laws
    g.met.K.Hash.respects_eq (begun_of c.args.window.now.book.now.parts) c.args.window.now.book.now.begun.book c.requires.can.0 c.requires.can.1
    c.requires.can.2 c.args.window.now.sight.log c.args.self.now c.requires.can.3 c.args.number c.args.place c.args.words.0 c.args.words.1 c.requires.asks)).1

pub put_slot-found-requires-clause-placed : goal.put_slot-found-requires-clause-placed
put_slot-found-requires-clause-placed g c = c.requires.can.3.calling.made_placed c.args.pair.now c.requires.can.4

pub put_slot-found-requires-clause-can : goal.put_slot-found-requires-clause-can
put_slot-found-requires-clause-can g c =
    let hash = hash_of g.K.Hash.hash_input g.S.BuildHasher.build_hasher g.S.Hasher.Hasher.write g.S.Hasher.Hasher.finish in
    subst (λ (k : Option StepKind). CanExchange g.K.PartialEq.eq hash (begun_of c.args.window.now.book.now.parts) (Slot c.args.number c.args.place) k
    c.args.words.0 c.args.words.1 (Some c.args.pair.now) (Pair c.args.pair.now) c.args.window.now.sight.log) (sym c.kind-kind.ensures)
    (put_can g.K.PartialEq.eq g.K.Hash.hash_input g.S.BuildHasher.build_hasher g.S.Hasher.Hasher.write g.S.Hasher.Hasher.finish g.met.K.Eq.laws
    g.met.K.Hash.respects_eq (begun_of c.args.window.now.book.now.parts) c.args.window.now.book.now.begun.book c.requires.can.0 c.requires.can.1
    c.requires.can.2 c.args.window.now.sight.log c.args.self.now c.requires.can.3 c.args.number c.args.place c.args.words.0 c.args.words.1
    c.requires.asks c.requires.kind c.args.pair.now c.requires.can.5 c.requires.number)

pub returns-clause-writes : goal.returns-clause-writes
returns-clause-writes g c = λ key made begun r one stands.
    let hash = hash_of g.K.Hash.hash_input g.S.BuildHasher.build_hasher g.S.Hasher.Hasher.write g.S.Hasher.Hasher.finish in
    let q = c.args.pair.now in let log = c.put_slot-found.new.self.sight.log in let found = c.put_slot-found.result.0 in
    let before = c.put_slot-found.result.1 in
    let tried = subst (λ (k : Option StepKind).
    IsSlotTried g.K.PartialEq.eq hash (begun_of c.args.window.now.book.now.parts) c.args.window.now.book.now.begun.book c.args.number c.args.place k
    c.args.words.0 c.args.words.1 (Some q) (Pair q) c.args.window.now.sight.log found log before) c.kind-kind.ensures c.put_slot-found.ensures.tried in
    tried_on g.K.PartialEq.eq g.K.Hash.hash_input g.S.BuildHasher.build_hasher g.S.Hasher.Hasher.write g.S.Hasher.Hasher.finish g.met.K.Eq.laws
    g.met.K.Hash.respects_eq (begun_of c.args.window.now.book.now.parts) c.args.window.now.book.now.begun.book key made begun
    c.args.window.now.sight.log c.args.self.now r c.args.number c.args.place c.args.words.0 c.args.words.1 c.requires.asks (Some q)
    (λ p e. let is : q ≡ p = cc e in subst (IsOneOf made) is one)
    (λ claim p e. let is : q ≡ p = cc e in ap key_of (sym is)
    ∙ claims_own g.K.PartialEq.eq g.K.Hash.hash_input g.S.BuildHasher.build_hasher g.S.Hasher.Hasher.write g.S.Hasher.Hasher.finish g.met.K.Eq.laws
    g.met.K.Hash.respects_eq (begun_of c.args.window.now.book.now.parts) c.args.window.now.book.now.begun.book key made begun
    c.args.window.now.sight.log c.args.self.now r c.args.number c.args.place c.args.words.0 c.args.words.1 c.requires.asks c.requires.kind q stands
    claim) log found before tried c.tried.new.self c.tried.result (rw (← c.again-put.ensures) c.tried.ensures)

pub returns-clause-tries : goal.returns-clause-tries
returns-clause-tries g c = record {
  sees = search rules;
  machine = search rules;
  value = search rules;
  put = search rules;
  unsaid = search rules;
  does = tried (c.put_slot-found.result.0 == c.args.words.0) c.tried.result _ _ c.put_slot-found.result.0 c.tried.ensures
      c.args.window.now c.put_slot-found.new.self c.put_slot-found.ensures.does;
}
