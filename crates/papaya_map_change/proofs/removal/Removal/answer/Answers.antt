use Rattle.std.proofs.Common.{◌≡◌, ℕ, Some, refl, sym, ap, ◌∙◌, rules, subst}
use Rattle.papaya_call.specs.ChainMachine.{ask_of}
use Rattle.papaya_call.specs.declared.chain.ask.Ask.TheVariants.{Call}
use Rattle.papaya_call_law.proofs.Names.{call_asks}
use Rattle.papaya_call.specs.declared.ask.Answer.{Answer}
use Rattle.papaya_call.specs.declared.ask.Answer.TheVariants.{Ok, Word}
use Rattle.papaya_call.specs.declared.ask.Ask.TheVariants.{AddToShard, Exchange, Load, LoadHint, SameKey, ShowPair, SizeOf}
use Rattle.papaya_call.specs.declared.ask.At.TheVariants.{Slot}
use Rattle.papaya_map_book.specs.Hashes.{hash_of}
use Rattle.papaya_map_book.specs.Logs.{Stored}
use Rattle.papaya_map_book.specs.Parts.{begun_of}
use Rattle.papaya_map_change.specs.declared.removal.Removal.{Removal}
use Rattle.papaya_map_change.specs.Removing.{IsRemovingOn}
use Rattle.papaya_map_change.specs.ClosureCalls.{Judges}
use Rattle.papaya_map_lookup.specs.History.{key_of}
use Rattle.papaya_map_lookup.proofs.Readings.{IsQuery}
use Rattle.papaya_map_change.proofs.Doing.{idle, left_alone}
use Rattle.papaya_map_change.proofs.Removing.{compared_last, compared_on, counted_on, bury_can}
use Rattle.papaya_map_change.proofs.Removing.{bury_held, bury_on, hint_held, hinted_on, load_held}
use Rattle.papaya_map_change.proofs.Removing.{loaded_as, shown_last, shown_on, size_held, sized_on}
use Rattle.papaya_map_change.proofs.removal.Removal.answer.Goals as goal

pub load-requires : goal.load-requires
load-requires g c =
    let lawful : IsQuery g.K.PartialEq.eq g.K.Hash.hash_input (g.Q.Equivalent.matches c.args.key.now)
    (g.Q.Hash.hash_input c.args.key.now) = record {
      feeds = g.met.Q.Equivalent.hashes_as_key c.args.key.now;
      class = λ k l.
          g.met.Q.Equivalent.matches_equal_keys c.args.key.now k l;
    } in
    let asks : ask_of c.args.self.now.call.machine ≡ Call (Load c.in-Load.at) = search rules in
    record {
      held = load_held g.K.PartialEq.eq g.K.Hash.hash_input g.S.BuildHasher.build_hasher g.S.Hasher.Hasher.write g.S.Hasher.Hasher.finish
          g.met.K.Eq.laws g.met.K.Hash.respects_eq (begun_of c.args.window.now.book.now.parts) c.args.window.now.book.now.begun.book
          (g.Q.Equivalent.matches c.args.key.now) (g.Q.Hash.hash_input c.args.key.now) lawful (Judges g.F.FnMut) c.requires.can.0 c.requires.can.1
          c.args.window.now.sight.log c.args.self.now c.args.agrees.now c.requires.can.2 c.requires.valid c.in-Load.at asks;
    }

pub hint-requires : goal.hint-requires
hint-requires g c =
    let lawful : IsQuery g.K.PartialEq.eq g.K.Hash.hash_input (g.Q.Equivalent.matches c.args.key.now)
    (g.Q.Hash.hash_input c.args.key.now) = record {
      feeds = g.met.Q.Equivalent.hashes_as_key c.args.key.now;
      class = λ k l.
          g.met.Q.Equivalent.matches_equal_keys c.args.key.now k l;
    } in
    let asks : ask_of c.args.self.now.call.machine ≡ Call (LoadHint c.in-LoadHint.number c.in-LoadHint.place) = search rules in
    hint_held g.K.PartialEq.eq g.K.Hash.hash_input g.S.BuildHasher.build_hasher g.S.Hasher.Hasher.write g.S.Hasher.Hasher.finish g.met.K.Eq.laws
    g.met.K.Hash.respects_eq (begun_of c.args.window.now.book.now.parts) c.args.window.now.book.now.begun.book
    (g.Q.Equivalent.matches c.args.key.now) (g.Q.Hash.hash_input c.args.key.now) lawful (Judges g.F.FnMut) c.requires.can.0 c.requires.can.1
    c.args.window.now.sight.log c.args.self.now c.args.agrees.now c.requires.can.2 c.requires.valid c.in-LoadHint.number c.in-LoadHint.place asks

pub size-requires : goal.size-requires
size-requires g c =
    let lawful : IsQuery g.K.PartialEq.eq g.K.Hash.hash_input (g.Q.Equivalent.matches c.args.key.now)
    (g.Q.Hash.hash_input c.args.key.now) = record {
      feeds = g.met.Q.Equivalent.hashes_as_key c.args.key.now;
      class = λ k l.
          g.met.Q.Equivalent.matches_equal_keys c.args.key.now k l;
    } in
    let some : (n : ℕ) × (ask_of c.args.self.now.call.machine ≡ Call (SizeOf n)) = search rules in
    record {
      held = size_held g.K.PartialEq.eq g.K.Hash.hash_input g.S.BuildHasher.build_hasher g.S.Hasher.Hasher.write g.S.Hasher.Hasher.finish
          g.met.K.Eq.laws g.met.K.Hash.respects_eq (begun_of c.args.window.now.book.now.parts) c.args.window.now.book.now.begun.book
          (g.Q.Equivalent.matches c.args.key.now) (g.Q.Hash.hash_input c.args.key.now) lawful (Judges g.F.FnMut) c.requires.can.0 c.requires.can.1
          c.args.window.now.sight.log c.args.self.now c.args.agrees.now c.requires.can.2 c.requires.valid some.0 some.1;
    }

pub same-requires : goal.same-requires
same-requires g c =
    let lawful : IsQuery g.K.PartialEq.eq g.K.Hash.hash_input (g.Q.Equivalent.matches c.args.key.now)
    (g.Q.Hash.hash_input c.args.key.now) = record {
      feeds = g.met.Q.Equivalent.hashes_as_key c.args.key.now;
      class = λ k l.
          g.met.Q.Equivalent.matches_equal_keys c.args.key.now k l;
    } in
    let some : (n : ℕ) × (ask_of c.args.self.now.call.machine ≡ Call (SameKey n)) = search rules in
    record {
      last = compared_last g.K.PartialEq.eq g.K.Hash.hash_input g.S.BuildHasher.build_hasher g.S.Hasher.Hasher.write g.S.Hasher.Hasher.finish
          g.met.K.Eq.laws g.met.K.Hash.respects_eq (begun_of c.args.window.now.book.now.parts) c.args.window.now.book.now.begun.book
          (g.Q.Equivalent.matches c.args.key.now) (g.Q.Hash.hash_input c.args.key.now) lawful (Judges g.F.FnMut) c.requires.can.0 c.requires.can.1
          c.args.window.now.sight.log c.args.self.now c.args.agrees.now c.requires.can.2 c.requires.valid some.0 some.1;
    }

pub call_closure-requires-clause-last : goal.call_closure-requires-clause-last
call_closure-requires-clause-last g c =
    let lawful : IsQuery g.K.PartialEq.eq g.K.Hash.hash_input (g.Q.Equivalent.matches c.args.key.now)
    (g.Q.Hash.hash_input c.args.key.now) = record {
      feeds = g.met.Q.Equivalent.hashes_as_key c.args.key.now;
      class = λ k l.
          g.met.Q.Equivalent.matches_equal_keys c.args.key.now k l;
    } in
    let some : (n : ℕ) × (ask_of c.args.self.now.call.machine ≡ Call (ShowPair n)) = search rules in
    shown_last g.K.PartialEq.eq g.K.Hash.hash_input g.S.BuildHasher.build_hasher g.S.Hasher.Hasher.write g.S.Hasher.Hasher.finish g.met.K.Eq.laws
    g.met.K.Hash.respects_eq (begun_of c.args.window.now.book.now.parts) c.args.window.now.book.now.begun.book
    (g.Q.Equivalent.matches c.args.key.now) (g.Q.Hash.hash_input c.args.key.now) lawful (Judges g.F.FnMut) c.requires.can.0 c.requires.can.1
    c.args.window.now.sight.log c.args.self.now c.args.agrees.now c.requires.can.2 c.requires.valid some.0 some.1

pub bury-requires-clause-held : goal.bury-requires-clause-held
bury-requires-clause-held g c =
    let lawful : IsQuery g.K.PartialEq.eq g.K.Hash.hash_input (g.Q.Equivalent.matches c.args.key.now)
    (g.Q.Hash.hash_input c.args.key.now) = record {
      feeds = g.met.Q.Equivalent.hashes_as_key c.args.key.now;
      class = λ k l.
          g.met.Q.Equivalent.matches_equal_keys c.args.key.now k l;
    } in
    let asks : ask_of c.args.self.now.call.machine ≡ Call
    (Exchange (Slot c.in-Exchange-Slot-default-default.number c.in-Exchange-Slot-default-default.place) c.in-Exchange-Slot-default-default.old
    c.in-Exchange-Slot-default-default.new) = search rules in
    bury_held g.K.PartialEq.eq g.K.Hash.hash_input g.S.BuildHasher.build_hasher g.S.Hasher.Hasher.write g.S.Hasher.Hasher.finish g.met.K.Eq.laws
    g.met.K.Hash.respects_eq (begun_of c.args.window.now.book.now.parts) c.args.window.now.book.now.begun.book
    (g.Q.Equivalent.matches c.args.key.now) (g.Q.Hash.hash_input c.args.key.now) lawful (Judges g.F.FnMut) c.requires.can.0 c.requires.can.1
    c.args.window.now.sight.log c.args.self.now c.args.agrees.now c.requires.can.2 c.requires.valid c.in-Exchange-Slot-default-default.number
    c.in-Exchange-Slot-default-default.place c.in-Exchange-Slot-default-default.old c.in-Exchange-Slot-default-default.new asks

pub bury-requires-clause-can : goal.bury-requires-clause-can
bury-requires-clause-can g c =
    let lawful : IsQuery g.K.PartialEq.eq g.K.Hash.hash_input (g.Q.Equivalent.matches c.args.key.now)
    (g.Q.Hash.hash_input c.args.key.now) = record {
      feeds = g.met.Q.Equivalent.hashes_as_key c.args.key.now;
      class = λ k l.
          g.met.Q.Equivalent.matches_equal_keys c.args.key.now k l;
    } in
    let asks : ask_of c.args.self.now.call.machine ≡ Call
    (Exchange (Slot c.in-Exchange-Slot-default-default.number c.in-Exchange-Slot-default-default.place) c.in-Exchange-Slot-default-default.old
    c.in-Exchange-Slot-default-default.new) = search rules in
    bury_can g.K.PartialEq.eq g.K.Hash.hash_input g.S.BuildHasher.build_hasher g.S.Hasher.Hasher.write g.S.Hasher.Hasher.finish g.met.K.Eq.laws
    g.met.K.Hash.respects_eq (begun_of c.args.window.now.book.now.parts) c.args.window.now.book.now.begun.book
    (g.Q.Equivalent.matches c.args.key.now) (g.Q.Hash.hash_input c.args.key.now) lawful (Judges g.F.FnMut) c.requires.can.0 c.requires.can.1
    c.args.window.now.sight.log c.args.self.now c.args.agrees.now c.requires.can.2 c.requires.valid c.in-Exchange-Slot-default-default.number
    c.in-Exchange-Slot-default-default.place c.in-Exchange-Slot-default-default.old c.in-Exchange-Slot-default-default.new asks

pub returns-in-Load-clause-removes : goal.returns-in-Load-clause-removes
returns-in-Load-clause-removes g c = λ first begun r.
    let lawful : IsQuery g.K.PartialEq.eq g.K.Hash.hash_input (g.Q.Equivalent.matches c.args.key.now)
    (g.Q.Hash.hash_input c.args.key.now) = record {
      feeds = g.met.Q.Equivalent.hashes_as_key c.args.key.now;
      class = λ k l.
          g.met.Q.Equivalent.matches_equal_keys c.args.key.now k l;
    } in
    let asks : ask_of c.args.self.now.call.machine ≡ Call (Load c.in-Load.at) = search rules in
    loaded_as g.K.PartialEq.eq g.K.Hash.hash_input g.S.BuildHasher.build_hasher g.S.Hasher.Hasher.write g.S.Hasher.Hasher.finish g.met.K.Eq.laws
    g.met.K.Hash.respects_eq (begun_of c.args.window.now.book.now.parts) c.args.window.now.book.now.begun.book
    (g.Q.Equivalent.matches c.args.key.now) (g.Q.Hash.hash_input c.args.key.now) lawful (Judges g.F.FnMut) first begun c.args.window.now.sight.log
    c.args.self.now c.args.agrees.now r c.requires.valid c.load.new.window.sight.log c.load.ensures.sees.log c.in-Load.at c.load.result
    c.load.new.self c.load.ensures.rest asks c.load.ensures.as_loaded

pub returns-in-LoadHint-clause-removes : goal.returns-in-LoadHint-clause-removes
returns-in-LoadHint-clause-removes g c = λ first begun r.
    let lawful : IsQuery g.K.PartialEq.eq g.K.Hash.hash_input (g.Q.Equivalent.matches c.args.key.now)
    (g.Q.Hash.hash_input c.args.key.now) = record {
      feeds = g.met.Q.Equivalent.hashes_as_key c.args.key.now;
      class = λ k l.
          g.met.Q.Equivalent.matches_equal_keys c.args.key.now k l;
    } in
    let asks : ask_of c.args.self.now.call.machine ≡ Call (LoadHint c.in-LoadHint.number c.in-LoadHint.place) = search rules in
    hinted_on g.K.PartialEq.eq g.K.Hash.hash_input g.S.BuildHasher.build_hasher g.S.Hasher.Hasher.write g.S.Hasher.Hasher.finish g.met.K.Eq.laws
    g.met.K.Hash.respects_eq (begun_of c.args.window.now.book.now.parts) c.args.window.now.book.now.begun.book
    (g.Q.Equivalent.matches c.args.key.now) (g.Q.Hash.hash_input c.args.key.now) lawful (Judges g.F.FnMut) first begun c.args.window.now.sight.log
    c.args.self.now c.args.agrees.now r c.requires.valid c.hint.new.window.sight.log c.hint.ensures.sees.log c.in-LoadHint.number
    c.in-LoadHint.place c.hint.result asks c.hint.ensures.hint

pub returns-in-SizeOf-clause-removes : goal.returns-in-SizeOf-clause-removes
returns-in-SizeOf-clause-removes g c = λ first begun r.
    let lawful : IsQuery g.K.PartialEq.eq g.K.Hash.hash_input (g.Q.Equivalent.matches c.args.key.now)
    (g.Q.Hash.hash_input c.args.key.now) = record {
      feeds = g.met.Q.Equivalent.hashes_as_key c.args.key.now;
      class = λ k l.
          g.met.Q.Equivalent.matches_equal_keys c.args.key.now k l;
    } in
    let some : (n : ℕ) × (ask_of c.args.self.now.call.machine ≡ Call (SizeOf n)) = search rules in
    let s = c.size.ensures.size in
    subst (λ (z : Answer). IsRemovingOn g.K.PartialEq.eq
    (hash_of g.K.Hash.hash_input g.S.BuildHasher.build_hasher g.S.Hasher.Hasher.write g.S.Hasher.Hasher.finish)
    (begun_of c.args.window.now.book.now.parts) c.args.window.now.book.now.begun.book (g.Q.Equivalent.matches c.args.key.now)
    (hash_of g.Q.Hash.hash_input g.S.BuildHasher.build_hasher g.S.Hasher.Hasher.write g.S.Hasher.Hasher.finish
    c.args.window.now.book.now.parts.hasher c.args.key.now) (Judges g.F.FnMut) first begun c.args.window.now.sight.log c.args.self.now
    c.args.agrees.now (Some z)) (sym s.4)
    (sized_on g.K.PartialEq.eq g.K.Hash.hash_input g.S.BuildHasher.build_hasher g.S.Hasher.Hasher.write g.S.Hasher.Hasher.finish g.met.K.Eq.laws
    g.met.K.Hash.respects_eq (begun_of c.args.window.now.book.now.parts) c.args.window.now.book.now.begun.book
    (g.Q.Equivalent.matches c.args.key.now) (g.Q.Hash.hash_input c.args.key.now) lawful (Judges g.F.FnMut) first begun c.args.window.now.sight.log
    c.args.self.now c.args.agrees.now r c.requires.valid some.0 s.0 s.3 s.1 s.2 s.5 s.6 s.7 some.1)

pub returns-in-SameKey-clause-removes : goal.returns-in-SameKey-clause-removes
returns-in-SameKey-clause-removes g c = λ first begun r.
    let lawful : IsQuery g.K.PartialEq.eq g.K.Hash.hash_input (g.Q.Equivalent.matches c.args.key.now)
    (g.Q.Hash.hash_input c.args.key.now) = record {
      feeds = g.met.Q.Equivalent.hashes_as_key c.args.key.now;
      class = λ k l.
          g.met.Q.Equivalent.matches_equal_keys c.args.key.now k l;
    } in
    let some : (n : ℕ) × (ask_of c.args.self.now.call.machine ≡ Call (SameKey n)) = search rules in
    let told = compared_last g.K.PartialEq.eq g.K.Hash.hash_input g.S.BuildHasher.build_hasher g.S.Hasher.Hasher.write g.S.Hasher.Hasher.finish
    g.met.K.Eq.laws g.met.K.Hash.respects_eq (begun_of c.args.window.now.book.now.parts) c.args.window.now.book.now.begun.book
    (g.Q.Equivalent.matches c.args.key.now) (g.Q.Hash.hash_input c.args.key.now) lawful (Judges g.F.FnMut) first begun c.args.window.now.sight.log
    c.args.self.now c.args.agrees.now r c.requires.valid some.0 some.1 in
    subst (λ (z : Answer). IsRemovingOn g.K.PartialEq.eq
    (hash_of g.K.Hash.hash_input g.S.BuildHasher.build_hasher g.S.Hasher.Hasher.write g.S.Hasher.Hasher.finish)
    (begun_of c.args.window.now.book.now.parts) c.args.window.now.book.now.begun.book (g.Q.Equivalent.matches c.args.key.now)
    (hash_of g.Q.Hash.hash_input g.S.BuildHasher.build_hasher g.S.Hasher.Hasher.write g.S.Hasher.Hasher.finish
    c.args.window.now.book.now.parts.hasher c.args.key.now) (Judges g.F.FnMut) first begun c.args.window.now.sight.log c.args.self.now
    c.args.agrees.now (Some z)) (sym (c.same.ensures.same told.0 told.1))
    (compared_on g.K.PartialEq.eq g.K.Hash.hash_input g.S.BuildHasher.build_hasher g.S.Hasher.Hasher.write g.S.Hasher.Hasher.finish g.met.K.Eq.laws
    g.met.K.Hash.respects_eq (begun_of c.args.window.now.book.now.parts) c.args.window.now.book.now.begun.book
    (g.Q.Equivalent.matches c.args.key.now) (g.Q.Hash.hash_input c.args.key.now) lawful (Judges g.F.FnMut) first begun c.args.window.now.sight.log
    c.args.self.now c.args.agrees.now r c.requires.valid some.0 (g.Q.Equivalent.matches c.args.key.now (key_of told.0))
    (λ p e. let is : told.0 ≡ p = let same = sym told.1 ∙ e in cc same in
    ap (λ (z : Stored _ _). g.Q.Equivalent.matches c.args.key.now (key_of z)) is) some.1)

pub returns-in-ShowPair-clause-removes : goal.returns-in-ShowPair-clause-removes
returns-in-ShowPair-clause-removes g c = λ first begun r.
    let lawful : IsQuery g.K.PartialEq.eq g.K.Hash.hash_input (g.Q.Equivalent.matches c.args.key.now)
    (g.Q.Hash.hash_input c.args.key.now) = record {
      feeds = g.met.Q.Equivalent.hashes_as_key c.args.key.now;
      class = λ k l.
          g.met.Q.Equivalent.matches_equal_keys c.args.key.now k l;
    } in
    let some : (n : ℕ) × (ask_of c.args.self.now.call.machine ≡ Call (ShowPair n)) = search rules in
    let s = c.call_closure.ensures.shows in
    subst (λ (z : Removal _ _ _ _ × Answer).
    IsRemovingOn g.K.PartialEq.eq (hash_of g.K.Hash.hash_input g.S.BuildHasher.build_hasher g.S.Hasher.Hasher.write g.S.Hasher.Hasher.finish)
    (begun_of c.args.window.now.book.now.parts) c.args.window.now.book.now.begun.book (g.Q.Equivalent.matches c.args.key.now)
    (hash_of g.Q.Hash.hash_input g.S.BuildHasher.build_hasher g.S.Hasher.Hasher.write g.S.Hasher.Hasher.finish
    c.args.window.now.book.now.parts.hasher c.args.key.now) (Judges g.F.FnMut) first begun c.args.window.now.sight.log z.0 c.call_closure.new.agrees
    (Some z.1)) (λ i. (sym s.4 i, sym s.5 i))
    (shown_on g.K.PartialEq.eq g.K.Hash.hash_input g.S.BuildHasher.build_hasher g.S.Hasher.Hasher.write g.S.Hasher.Hasher.finish g.met.K.Eq.laws
    g.met.K.Hash.respects_eq (begun_of c.args.window.now.book.now.parts) c.args.window.now.book.now.begun.book
    (g.Q.Equivalent.matches c.args.key.now) (g.Q.Hash.hash_input c.args.key.now) lawful (Judges g.F.FnMut) first begun c.args.window.now.sight.log
    c.args.self.now c.args.agrees.now r c.requires.valid some.0 s.0 s.1 c.call_closure.new.agrees s.2 s.3 some.1)

pub returns-in-Exchange-Slot-default-default-clause-removes : goal.returns-in-Exchange-Slot-default-default-clause-removes
returns-in-Exchange-Slot-default-default-clause-removes g c = λ first begun r.
    let lawful : IsQuery g.K.PartialEq.eq g.K.Hash.hash_input (g.Q.Equivalent.matches c.args.key.now)
    (g.Q.Hash.hash_input c.args.key.now) = record {
      feeds = g.met.Q.Equivalent.hashes_as_key c.args.key.now;
      class = λ k l.
          g.met.Q.Equivalent.matches_equal_keys c.args.key.now k l;
    } in
    let asks : ask_of c.args.self.now.call.machine ≡ Call
    (Exchange (Slot c.in-Exchange-Slot-default-default.number c.in-Exchange-Slot-default-default.place) c.in-Exchange-Slot-default-default.old
    c.in-Exchange-Slot-default-default.new) = search rules in
    let b = c.bury.ensures.buries in
    bury_on g.K.PartialEq.eq g.K.Hash.hash_input g.S.BuildHasher.build_hasher g.S.Hasher.Hasher.write g.S.Hasher.Hasher.finish g.met.K.Eq.laws
    g.met.K.Hash.respects_eq (begun_of c.args.window.now.book.now.parts) c.args.window.now.book.now.begun.book
    (g.Q.Equivalent.matches c.args.key.now) (g.Q.Hash.hash_input c.args.key.now) lawful (Judges g.F.FnMut) first begun c.args.window.now.sight.log
    c.args.self.now c.args.agrees.now r c.requires.valid c.in-Exchange-Slot-default-default.number c.in-Exchange-Slot-default-default.place
    c.in-Exchange-Slot-default-default.old c.in-Exchange-Slot-default-default.new asks c.bury.new.window.sight.log c.bury.ensures.sees.log b.0
    b.1 b.2 c.bury.new.self c.bury.result b.3

pub returns-in-AddToShard-clause-removes : goal.returns-in-AddToShard-clause-removes
returns-in-AddToShard-clause-removes g c = λ first begun r.
    let lawful : IsQuery g.K.PartialEq.eq g.K.Hash.hash_input (g.Q.Equivalent.matches c.args.key.now)
    (g.Q.Hash.hash_input c.args.key.now) = record {
      feeds = g.met.Q.Equivalent.hashes_as_key c.args.key.now;
      class = λ k l.
          g.met.Q.Equivalent.matches_equal_keys c.args.key.now k l;
    } in
    let asks : ask_of c.args.self.now.call.machine ≡ Call (AddToShard c.in-AddToShard.by) = search rules in
    counted_on g.K.PartialEq.eq g.K.Hash.hash_input g.S.BuildHasher.build_hasher g.S.Hasher.Hasher.write g.S.Hasher.Hasher.finish g.met.K.Eq.laws
    g.met.K.Hash.respects_eq (begun_of c.args.window.now.book.now.parts) c.args.window.now.book.now.begun.book
    (g.Q.Equivalent.matches c.args.key.now) (g.Q.Hash.hash_input c.args.key.now) lawful (Judges g.F.FnMut) first begun c.args.window.now.sight.log
    c.args.self.now c.args.agrees.now r c.requires.valid c.in-AddToShard.by asks

pub returns-in-Load-clause-answers : goal.returns-in-Load-clause-answers
returns-in-Load-clause-answers g c = let asks : ask_of c.args.self.now.call.machine ≡ Call (Load c.in-Load.at) = search rules in
    idle (Load c.in-Load.at) _ (sym (call_asks c.args.self.now.call.machine _ asks).1) tt (Some (Word c.load.result)) c.args.window.now
    c.load.new.window c.load.ensures.sees.own

pub returns-in-LoadHint-clause-answers : goal.returns-in-LoadHint-clause-answers
returns-in-LoadHint-clause-answers g c = let asks : ask_of c.args.self.now.call.machine ≡ Call
    (LoadHint c.in-LoadHint.number c.in-LoadHint.place) = search rules in
    idle (LoadHint c.in-LoadHint.number c.in-LoadHint.place) _ (sym (call_asks c.args.self.now.call.machine _ asks).1) tt (Some (Word c.hint.result))
    c.args.window.now c.hint.new.window c.hint.ensures.sees.own

pub returns-in-SizeOf-clause-answers : goal.returns-in-SizeOf-clause-answers
returns-in-SizeOf-clause-answers g c = let some : (n : ℕ) × (ask_of c.args.self.now.call.machine ≡ Call (SizeOf n)) = search rules in
    let asks = some.1 in idle (SizeOf some.0) _ (sym (call_asks c.args.self.now.call.machine _ asks).1) tt (Some c.size.result) c.args.window.now
    c.args.window.now refl

pub returns-in-SameKey-clause-answers : goal.returns-in-SameKey-clause-answers
returns-in-SameKey-clause-answers g c = let some : (n : ℕ) × (ask_of c.args.self.now.call.machine ≡ Call (SameKey n)) = search rules in
    let asks = some.1 in idle (SameKey some.0) _ (sym (call_asks c.args.self.now.call.machine _ asks).1) tt (Some c.same.result) c.args.window.now
    c.args.window.now refl

pub returns-in-ShowPair-clause-answers : goal.returns-in-ShowPair-clause-answers
returns-in-ShowPair-clause-answers g c = let some : (n : ℕ) × (ask_of c.args.self.now.call.machine ≡ Call (ShowPair n)) = search rules in
    let asks = some.1 in idle (ShowPair some.0) _ (sym (call_asks c.args.self.now.call.machine _ asks).1) tt (Some c.call_closure.result) c.args.window.now
    c.args.window.now refl

pub returns-in-AddToShard-clause-answers : goal.returns-in-AddToShard-clause-answers
returns-in-AddToShard-clause-answers g c = let asks : ask_of c.args.self.now.call.machine ≡ Call (AddToShard c.in-AddToShard.by) = search rules in
    left_alone (AddToShard c.in-AddToShard.by) tt _ (sym (call_asks c.args.self.now.call.machine _ asks).1) (Some Ok) c.args.window.now
