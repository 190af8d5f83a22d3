use Rattle.std.proofs.Common.{◌≡◌, [], ◌++◌, None, Some, refl, sym, ap, subst, ◌∙◌}
use Rattle.papaya_call.specs.Scanner.{after, ask_of, reply_of}
use Rattle.papaya_core_timeline.specs.declared.seat.Work.TheVariants as works
use Rattle.papaya_core_timeline.specs.ScanGoes.{event_of_scan, reply_or}
use Rattle.papaya_words_keys.specs.Hashes.{hash_of}
use Rattle.papaya_core_store.specs.declared.store.Mode.{Mode}
use Rattle.papaya_core_timeline.specs.Core.{IsCore}
use Rattle.papaya_core_timeline.proofs.ScanStands.{scan_core}
use Rattle.papaya_core_timeline.specs.Outcomes.{ListsGiven, all_given, given_by}
use Rattle.papaya_core.proofs.Walks.{given_is}
use Rattle.papaya_core.proofs.scans.advance_scan.Goals as goal

-- memory ran out for a pair of its list
pub returns-in-Some-list_refusal-clause-goes : goal.returns-in-Some-list_refusal-clause-goes
returns-in-Some-list_refusal-clause-goes g c = record {
  ask = c.in-Some.ask;
  asked = sym c.ask.ensures ∙ c.in-Some.is;
  answer = c.perform_scan-answer.result;
  later = c.perform_scan-answer.new.scanning;
  performs = c.perform_scan-answer.ensures.performs;
  event_is = c.event_of_scan-event.ensures ∙ ap (λ k. event_of_scan k c.in-Some.ask c.perform_scan-answer.result) c.kind-kind.ensures;
  reply_is = ap (λ o. reply_or o (reply_of (after c.args.scanning.scanner c.perform_scan-answer.result))) (sym c.in-Some-list_refusal.is ∙ c.list_refusal.ensures);
  work_is = refl;
  shard = c.perform_scan-answer.ensures.shard;
}

-- the machine has replied
pub returns-in-Some-reply-clause-goes : goal.returns-in-Some-reply-clause-goes
returns-in-Some-reply-clause-goes g c =
    let a = c.perform_scan-answer.result in
    let is_after : c.answer.new.self ≡ after c.args.scanning.scanner a = c.answer.ensures.after ∙ ap (λ m. after m a) c.perform_scan-answer.ensures.scanner in
    record {
      ask = c.in-Some.ask;
      asked = sym c.ask.ensures ∙ c.in-Some.is;
      answer = a;
      later = c.perform_scan-answer.new.scanning;
      performs = c.perform_scan-answer.ensures.performs;
      event_is = c.event_of_scan-event.ensures ∙ ap (λ k. event_of_scan k c.in-Some.ask a) c.kind-kind.ensures;
      reply_is = ap (λ y. Some y) c.outcome_of.ensures.told ∙ sym c.in-Some-reply.is ∙ c.reply.ensures ∙ ap reply_of is_after
          ∙ ap (λ o. reply_or o (reply_of (after c.args.scanning.scanner a))) (sym c.in_default.is ∙ c.list_refusal.ensures);
      work_is = refl;
      shard = c.perform_scan-answer.ensures.shard;
    }

-- and lists the pairs that it returned
pub returns-in-Some-reply-clause-walked : goal.returns-in-Some-reply-clause-walked
returns-in-Some-reply-clause-walked g c =
    let a = c.perform_scan-answer.result in
    let later = c.perform_scan-answer.new.scanning in
    let is_after : c.answer.new.self ≡ after c.args.scanning.scanner a = c.answer.ensures.after ∙ ap (λ m. after m a) c.perform_scan-answer.ensures.scanner in
    let asked : ask_of c.args.scanning.scanner ≡ Some c.in-Some.ask = sym c.ask.ensures ∙ c.in-Some.is in
    let given : later.given ≡ all_given c.args.scanning =
    given_is g.K.PartialEq.eq (record { op = g.A.Answers.op_gives; yes = g.A.Answers.yes_gives })
    (hash_of g.K.Hash.hash_input g.S.BuildHasher.build_hasher g.S.Hasher.Hasher.write g.S.Hasher.Hasher.finish) c.args.refuse c.args.store.now
    c.args.scanning a c.perform_scan-answer.new.store later c.in-Some.ask c.perform_scan-answer.ensures.performs
    (sym (sym c.in_default.is ∙ c.list_refusal.ensures))
    ∙ ap (λ o. c.args.scanning.given ++ given_by o) (sym asked) in
    subst (λ l. ListsGiven c.args.scanning.scanner.scan l c.outcome_of.result) given
    (subst (λ scan. ListsGiven scan later.given c.outcome_of.result) (ap (λ m. m.scan) is_after) c.outcome_of.ensures.listed)

-- or continues
pub returns-in-None-reply-clause-goes : goal.returns-in-None-reply-clause-goes
returns-in-None-reply-clause-goes g c =
    let a = c.perform_scan-answer.result in
    let is_after : c.answer.new.self ≡ after c.args.scanning.scanner a = c.answer.ensures.after ∙ ap (λ m. after m a) c.perform_scan-answer.ensures.scanner in
    record {
      ask = c.in-Some.ask;
      asked = sym c.ask.ensures ∙ c.in-Some.is;
      answer = a;
      later = c.perform_scan-answer.new.scanning;
      performs = c.perform_scan-answer.ensures.performs;
      event_is = c.event_of_scan-event.ensures ∙ ap (λ k. event_of_scan k c.in-Some.ask a) c.kind-kind.ensures;
      reply_is = sym c.in-None-reply.is ∙ c.reply.ensures ∙ ap reply_of is_after
          ∙ ap (λ o. reply_or o (reply_of (after c.args.scanning.scanner a))) (sym c.in_default.is ∙ c.list_refusal.ensures);
      work_is = ap (λ m. Some (works.Scan (record c.perform_scan-answer.new.scanning { scanner = m }))) is_after;
      shard = c.perform_scan-answer.ensures.shard;
    }

-- the answer fits the ask: a core with these tables and no callers is in order
pub answer-requires-clause-fit : goal.answer-requires-clause-fit
answer-requires-clause-fit g c =
    let mode : Mode = record { resize = c.args.scanning.scanner.mode; limit = None } in
    let core : IsCore {A = g.row.A.Denot} c.args.store.now [] mode = record {
      chunked = c.requires.valid.chunked;
      limit = tt;
      sizes = c.requires.sizes;
      valid = λ caller r e. let none : None ≡ Some r = e in absurd cc;
      going = λ caller r e. let none : None ≡ Some r = e in absurd cc;
      resizers = λ caller z e. let none : None ≡ Some z = e in absurd cc;
      scanners = λ caller v e. let none : None ≡ Some v = e in absurd cc;
    } in
    (scan_core g.K.PartialEq.eq (record { op = g.A.Answers.op_gives; yes = g.A.Answers.yes_gives })
    (hash_of g.K.Hash.hash_input g.S.BuildHasher.build_hasher g.S.Hasher.Hasher.write g.S.Hasher.Hasher.finish) c.args.refuse c.args.store.now [] mode core
    c.args.scanning c.requires.valid c.perform_scan-answer.result c.perform_scan-answer.new.store c.perform_scan-answer.new.scanning c.in-Some.ask
    (sym c.ask.ensures ∙ c.in-Some.is) c.perform_scan-answer.ensures.performs).1
