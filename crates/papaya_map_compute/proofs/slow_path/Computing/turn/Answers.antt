use Rattle.std.proofs.Common.{◌≡◌, None, Some, [], append-nil, refl, sym, ◌∙◌, rules}
use Rattle.papaya_call.specs.declared.ask.Ask.TheVariants.{AddToShard, Done, MakePairOf, WriteHint}
use Rattle.papaya_call.specs.declared.ask.Answer.TheVariants.{Ok}
use Rattle.papaya_call.specs.ChainMachine.{ask_of}
use Rattle.papaya_call.specs.declared.chain.ask.Ask.TheVariants.{Call}
use Rattle.papaya_call_law.proofs.Names.{call_asks}
use Rattle.papaya_map_book.specs.Parts.{begun_of}
use Rattle.papaya_map_change.proofs.Doing.{idle, left_alone}
use Rattle.papaya_map_compute.proofs.ComputeGoes.{goes_untold, left_to_write}
use Rattle.papaya_map_change.proofs.WritingSteps.{counted_on}
use Rattle.papaya_map_compute.proofs.slow_path.Computing.turn.Goals.{in_default-ask-via-in-Exchange+in_default, in_default-ask-via-in_default}
use Rattle.papaya_map_compute.proofs.slow_path.Computing.turn.Goals as goal

pub returns-in-AddToShard : goal.returns-in-AddToShard
returns-in-AddToShard g c =
    let asks : ask_of c.args.self.now.writer.call.machine ≡ Call (AddToShard c.in-AddToShard.by) = search rules in
    record {
      turned = record {
        sees = record { book = refl; log = ([], append-nil c.args.window.now.sight.log) };
        machine = refl;
        turns = (
          λ key begun heard r.
              let on = counted_on g.K.PartialEq.eq g.K.Hash.hash_input g.S.BuildHasher.build_hasher g.S.Hasher.Hasher.write g.S.Hasher.Hasher.finish
              g.met.K.Eq.laws g.met.K.Hash.respects_eq (begun_of c.args.window.now.book.now.parts) c.args.window.now.book.now.begun.book key r.made
              begun c.args.window.now.sight.log c.args.self.now.writer r.writing c.in-AddToShard.by asks in
              goes_untold g.K.PartialEq.eq g.K.Hash.hash_input g.S.BuildHasher.build_hasher g.S.Hasher.Hasher.write g.S.Hasher.Hasher.finish
              g.met.K.Eq.laws g.met.K.Hash.respects_eq (begun_of c.args.window.now.book.now.parts) c.args.window.now.book.now.begun.book key begun
              c.args.window.now.sight.log c.args.self.now heard r c.requires.valid (AddToShard c.in-AddToShard.by) asks tt Ok (λ number. number)
              c.args.window.now.sight.log ([], append-nil c.args.window.now.sight.log) c.args.self.now.writer refl refl (λ cause e. absurd (cc e)) on,
          left_alone (AddToShard c.in-AddToShard.by) tt _ (sym (call_asks c.args.self.now.writer.call.machine _ asks).1) (Some Ok) c.args.window.now,
        );
      };
    }

pub returns-in-WriteHint : goal.returns-in-WriteHint
returns-in-WriteHint g c =
    let asks : ask_of c.args.self.now.writer.call.machine ≡ Call
    (WriteHint c.in-WriteHint.number c.in-WriteHint.place c.in-WriteHint.hint) = search rules in let e = c.write_hint.ensures.steps in
    record {
      turned = record {
        sees = record { book = refl; log = ([], append-nil c.args.window.now.sight.log) };
        machine = refl;
        turns = (
          λ key begun heard r.
              goes_untold g.K.PartialEq.eq g.K.Hash.hash_input g.S.BuildHasher.build_hasher g.S.Hasher.Hasher.write g.S.Hasher.Hasher.finish
              g.met.K.Eq.laws g.met.K.Hash.respects_eq (begun_of c.args.window.now.book.now.parts) c.args.window.now.book.now.begun.book key begun
              c.args.window.now.sight.log c.args.self.now heard r c.requires.valid
              (WriteHint c.in-WriteHint.number c.in-WriteHint.place c.in-WriteHint.hint) asks tt c.write_hint.result (λ number. number)
              c.args.window.now.sight.log ([], append-nil c.args.window.now.sight.log) c.args.self.now.writer refl refl e.unsaid
              (e.writes key r.made begun r.writing),
          left_alone (WriteHint c.in-WriteHint.number c.in-WriteHint.place c.in-WriteHint.hint) tt _
              (sym (call_asks c.args.self.now.writer.call.machine _ asks).1) (Some c.write_hint.result) c.args.window.now,
        );
      };
    }

pub returns-in-ShowPair : goal.returns-in-ShowPair
returns-in-ShowPair g c = record {
  turned = record {
    sees = record { book = refl; log = ([], append-nil c.args.window.now.sight.log) };
    machine = refl;
    turns = ((c.to_show.ensures.asks, c.to_show.ensures.last), refl, refl);
  };
}

pub returns-in-MakePairOf : goal.returns-in-MakePairOf
returns-in-MakePairOf g c =
    let m = c.args.self.now.writer.call.machine in let w = c.args.window.now in
    let asks : ask_of m ≡ Call (MakePairOf c.in-MakePairOf.field-0) = search rules in
    record {
      turned = record {
        sees = record { book = refl; log = ([], append-nil w.sight.log) };
        machine = c.make_pair_of.ensures.machine;
        turns = (
          c.make_pair_of.ensures.computes,
          idle (MakePairOf c.in-MakePairOf.field-0) _ (sym (call_asks m _ asks).1) tt (Some c.make_pair_of.result) w w refl,
        );
      };
    }

pub returns-in-Done : goal.returns-in-Done
returns-in-Done g c =
    let m = c.args.self.now.writer.call.machine in let w = c.args.window.now in
    let asks : ask_of m ≡ Call (Done c.in-Done.field-0) = search rules in
    record {
      turned = record {
        sees = record { book = refl; log = ([], append-nil w.sight.log) };
        machine = refl;
        turns = (
          λ key begun heard r. (r, (c.in-Done.field-0, asks)),
          left_alone (Done c.in-Done.field-0) tt _ (sym (call_asks m _ asks).1) None w,
        );
      };
    }

pub write-requires-clause-asks : goal.write-requires-clause-asks
write-requires-clause-asks g c =
    let asks : ask_of c.args.self.now.writer.call.machine ≡ Call c.in-Call.ask = sym c.ask.ensures.value ∙ c.in-Call.is in (
      asks,
      elim c.in_default-ask.branch [
        | in_default-ask-via-in-Exchange+in_default w ↦
            let n = w.in_default-ask in
            left_to_write c.args.self.now.writer.call.machine c.requires.valid c.in-Call.ask asks
            (record {
              hint = n.not-WriteHint;
              none = n.not-ShowNone;
              pair = n.not-ShowPair;
              makes = n.not-MakePair;
              makes_of = n.not-MakePairOf;
              adds = n.not-AddToShard;
              done = n.not-Done;
              slot = λ t x old new e. search rules;
            })
        | in_default-ask-via-in_default w ↦
            let n = w.in_default-ask in
            left_to_write c.args.self.now.writer.call.machine c.requires.valid c.in-Call.ask asks
            (record {
              hint = n.not-WriteHint;
              none = n.not-ShowNone;
              pair = n.not-ShowPair;
              makes = n.not-MakePair;
              makes_of = n.not-MakePairOf;
              adds = n.not-AddToShard;
              done = n.not-Done;
              slot = λ t x old new e. search rules;
            })
      ],
    )
