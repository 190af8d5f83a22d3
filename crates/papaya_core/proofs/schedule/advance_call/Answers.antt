use Rattle.std.proofs.Common.{◌≡◌, ℕ, Some, refl, sym, ap, subst, ◌∙◌}
use Rattle.papaya_call.specs.Answers.{Says}
use Rattle.papaya_call.specs.ChainMachine.{IsFitAsk, after, ask_of, kind_of_ask}
use Rattle.papaya_words_keys.specs.Hashes.{hash_of}
use Rattle.papaya_core_store.specs.Asks.{PerformsAsk}
use Rattle.papaya_core_timeline.specs.declared.seat.Work.TheVariants as works
use Rattle.papaya_core_timeline.specs.Advances.{event_of, reply_in}
use Rattle.papaya_core_timeline.proofs.StoreLemmas.{performed_ask, unnumbered}
use Rattle.papaya_core.proofs.schedule.advance_call.Goals as goal
use Rattle.papaya_core.proofs.schedule.advance_call.Given.{Over}

-- the results of the closures' answers
abbrev says : (g : Over) → Says g.row.K.Denot g.row.V.Denot g.row.A.Denot
says g = record { op = g.A.Answers.op_gives; yes = g.A.Answers.yes_gives }

-- how keys are hashed
abbrev hashes : (g : Over) → g.row.S.Denot → g.row.K.Denot → ℕ
hashes g = hash_of g.K.Hash.hash_input g.S.BuildHasher.build_hasher g.S.Hasher.Hasher.write g.S.Hasher.Hasher.finish

pub answer-requires-clause-fit : goal.answer-requires-clause-fit
answer-requires-clause-fit g c =
    (performed_ask g.K.PartialEq.eq (hashes g) (says g) c.args.refuse (ask_of c.args.running.machine) c.args.store.now c.args.running
    c.perform_ask-answer.result c.perform_ask-answer.new.self c.perform_ask-answer.new.running
    (unnumbered c.args.store.now.words.tables c.requires.sizes) (subst IsFitAsk c.ask-ask.ensures.value c.ask-ask.ensures.size)
    (subst (λ y. PerformsAsk g.K.PartialEq.eq (says g) (hashes g) c.args.refuse y c.args.store.now c.args.running c.perform_ask-answer.result
    c.perform_ask-answer.new.self c.perform_ask-answer.new.running) c.ask-ask.ensures.value c.perform_ask-answer.ensures.performs)).fit

pub returns-in-Some-clause-goes : goal.returns-in-Some-clause-goes
returns-in-Some-clause-goes g c =
    let before = c.args.running in
    let a = c.perform_ask-answer.result in
    let is_after : c.answer.new.self ≡ after before.machine a = c.answer.ensures.after ∙ ap (λ m. after m a) c.perform_ask-answer.ensures.machine in
    record {
      answer = a;
      later = c.perform_ask-answer.new.running;
      performs = subst (λ y. PerformsAsk g.K.PartialEq.eq (says g) (hashes g) c.args.refuse y c.args.store.now before a c.perform_ask-answer.new.self
          c.perform_ask-answer.new.running) c.ask-ask.ensures.value c.perform_ask-answer.ensures.performs;
      machine = c.perform_ask-answer.ensures.machine;
      event_is = c.event_of-event.ensures ∙ ap (λ y. event_of y c.ask-ask.result a) c.kind-kind.ensures
          ∙ ap (λ y. event_of (kind_of_ask before.machine) y a) c.ask-ask.ensures.value;
      reply_is = sym c.in-Some.is ∙ c.reply_in.ensures ∙ ap reply_in c.ask.ensures.value ∙ ap (λ m. reply_in (ask_of m)) is_after;
      work_is = refl;
      shard = λ by asks. c.perform_ask-answer.ensures.shard by (c.ask-ask.ensures.value ∙ asks);
    }

pub returns-in-None-clause-goes : goal.returns-in-None-clause-goes
returns-in-None-clause-goes g c =
    let before = c.args.running in
    let a = c.perform_ask-answer.result in
    let is_after : c.answer.new.self ≡ after before.machine a = c.answer.ensures.after ∙ ap (λ m. after m a) c.perform_ask-answer.ensures.machine in
    record {
      answer = a;
      later = c.perform_ask-answer.new.running;
      performs = subst (λ y. PerformsAsk g.K.PartialEq.eq (says g) (hashes g) c.args.refuse y c.args.store.now before a c.perform_ask-answer.new.self
          c.perform_ask-answer.new.running) c.ask-ask.ensures.value c.perform_ask-answer.ensures.performs;
      machine = c.perform_ask-answer.ensures.machine;
      event_is = c.event_of-event.ensures ∙ ap (λ y. event_of y c.ask-ask.result a) c.kind-kind.ensures
          ∙ ap (λ y. event_of (kind_of_ask before.machine) y a) c.ask-ask.ensures.value;
      reply_is = sym c.in-None.is ∙ c.reply_in.ensures ∙ ap reply_in c.ask.ensures.value ∙ ap (λ m. reply_in (ask_of m)) is_after;
      work_is = ap (λ m. Some (works.Call (record c.perform_ask-answer.new.running { machine = m }))) is_after;
      shard = λ by asks. c.perform_ask-answer.ensures.shard by (c.ask-ask.ensures.value ∙ asks);
    }
