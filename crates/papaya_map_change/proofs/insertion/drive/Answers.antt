use Rattle.std.proofs.Common.{◌≡◌, append-nil, [], Result, Ok, Err, IfOk, Some, refl, sym, ap, ◌∙◌, subst}
use Rattle.std.specs.Prelude.{IfErr}
use Rattle.papaya_call.specs.declared.ask.Ask.TheVariants.{Done}
use Rattle.papaya_call.specs.declared.call.Reply.TheVariants.{Refused}
use Rattle.papaya_call.specs.declared.chain.ask.Answer.TheVariants as answers
use Rattle.papaya_call.specs.declared.chain.ask.Ask.TheVariants.{Call}
use Rattle.papaya_call.specs.declared.chain.machine.Machine.{Machine}
use Rattle.papaya_call.specs.ChainMachine.{after, ask_of}
use Rattle.papaya_map_book.specs.Limits.{HasNoRoom, tables_of}
use Rattle.papaya_map_change.specs.declared.driver.Driver.{Driver}
use Rattle.papaya_map_change.specs.Changing.{IsDriven}
use Rattle.papaya_map_change.specs.Inserting.{IsInserting}
use Rattle.papaya_map_change.specs.Writing.{IsWriting}
use Rattle.papaya_map_change.specs.declared.writer.Writer.{Writer}
use denote.Bor.{Bor}
use Rattle.papaya_map_book.specs.declared.book.Book.{Book as BookOf}
use Rattle.papaya_map_book.specs.Hashes.{hash_of}
use Rattle.papaya_map_book.specs.Parts.{begun_of}
use Rattle.papaya_map_book.specs.declared.window.Window.{Window}
use Rattle.papaya_map_book.specs.Windows.{Does}
use Rattle.papaya_map_change.specs.Doing.{has_changed}
use Rattle.papaya_map_change.proofs.Doing.{does_on, does_still, idles, makes}
use Rattle.papaya_map_change.proofs.Changing.{form}
use Rattle.papaya_map_change.proofs.Helped.{helped_does, helped_keeps}
use Rattle.papaya_map_change.proofs.InsertingHelped.{inserting_helped}
use Rattle.papaya_map_change.proofs.ProbingOn.{inserting_looked, looked_calling, looked_does, looked_initial}
use Rattle.papaya_map_change.proofs.StepsOfOwn.{own_settings}
use Rattle.papaya_map_change.proofs.Written.{own_query}
use Rattle.papaya_map_book.proofs.Windows.{sees_trans}
use Rattle.papaya_map_change.proofs.insertion.drive.Goals as goal

if_ok : {A E : Type 0} (P Q : A → Type 0) (r : Result A E) → IfOk r P → ((a : A) → P a → Q a) → IfOk r Q
if_ok P Q (Ok a) p f = f a p
if_ok P Q (Err e) p f = tt

pub loop-init : goal.loop-init
loop-init g c = (
  λ key value begun r. r,
  c.requires.valid,
  c.requires.calling,
  refl,
  record { book = refl; log = ([], append-nil _) },
  rw c.requires.unchanged (idles c.args.window.now c.args.window.now refl),
)

pub answer-requires-clause-can : goal.answer-requires-clause-can
answer-requires-clause-can g c =
    let begin = c.requires.can in let key = begin.0 in let value = begin.1 in let begun = begin.2 in
    let u = c.loop.invariant.0 key value begun
    (subst (λ (z : Bor (BookOf _ _ _ _)). IsInserting g.K.PartialEq.eq
    (hash_of g.K.Hash.hash_input g.S.BuildHasher.build_hasher g.S.Hasher.Hasher.write g.S.Hasher.Hasher.finish) (begun_of z.now.parts)
    z.now.begun.book key value begun c.args.window.now.sight.log c.args.begun) (sym c.loop.invariant.4.book) begin.3) in
    (key, value, begun, u)

pub answer-requires-clause-open : goal.answer-requires-clause-open
answer-requires-clause-open g c = rw c.loop.invariant.4.book c.requires.open

pub answer-requires-in-Some-answer-clause-fit : goal.answer-requires-in-Some-answer-clause-fit
answer-requires-in-Some-answer-clause-fit g c =
    let begin = c.requires.can in let key = begin.0 in let value = begin.1 in let begun = begin.2 in
    let u = c.loop.invariant.0 key value begun
    (subst (λ (z : Bor (BookOf _ _ _ _)). IsInserting g.K.PartialEq.eq
    (hash_of g.K.Hash.hash_input g.S.BuildHasher.build_hasher g.S.Hasher.Hasher.write g.S.Hasher.Hasher.finish) (begun_of z.now.parts)
    z.now.begun.book key value begun c.args.window.now.sight.log c.args.begun) (sym c.loop.invariant.4.book) begin.3) in
    (c.in-Some-answer.ensures.inserts key value begun u).1

pub help-requires-clause-can : goal.help-requires-clause-can
help-requires-clause-can g c =
    let begin = c.requires.can in let key = begin.0 in let value = begin.1 in let begun = begin.2 in
    let u = c.loop.invariant.0 key value begun
    (subst (λ (z : Bor (BookOf _ _ _ _)). IsInserting g.K.PartialEq.eq
    (hash_of g.K.Hash.hash_input g.S.BuildHasher.build_hasher g.S.Hasher.Hasher.write g.S.Hasher.Hasher.finish) (begun_of z.now.parts)
    z.now.begun.book key value begun c.args.window.now.sight.log c.args.begun) (sym c.loop.invariant.4.book) begin.3) in
    let w = c.answer.new.window.book.now in let b = begun_of w.parts in
    let it = subst (λ (z : Bor (BookOf _ _ _ _)).
    IsInserting g.K.PartialEq.eq (hash_of g.K.Hash.hash_input g.S.BuildHasher.build_hasher g.S.Hasher.Hasher.write g.S.Hasher.Hasher.finish)
    (begun_of z.now.parts) z.now.begun.book key value begun c.answer.new.window.sight.log
    (record c.answer.new.self {
      writer = record c.answer.new.self.writer {
        call = record c.answer.new.self.writer.call {
          machine = after c.answer.new.self.writer.call.machine
              (answers.Call c.in-Some-answer.answer);
        };
      };
    })) (sym c.answer.ensures.sees.book) (c.in-Some-answer.ensures.inserts key value begun u).0 in
    let on = subst (λ (z : Driver _ _ _ _). IsDriven g.K.PartialEq.eq
    (hash_of g.K.Hash.hash_input g.S.BuildHasher.build_hasher g.S.Hasher.Hasher.write g.S.Hasher.Hasher.finish) b w.begun.book
    (g.K.PartialEq.eq key) ((hash_of g.K.Hash.hash_input g.S.BuildHasher.build_hasher g.S.Hasher.Hasher.write g.S.Hasher.Hasher.finish) b.hasher
    key) (Some key) begun c.answer.new.window.sight.log it.made z) (sym c.answer-in-Some-answer.ensures.after) it.writing.calling in
    let query = own_query g.K.PartialEq.eq g.K.Hash.hash_input g.S.BuildHasher.build_hasher g.S.Hasher.Hasher.write g.S.Hasher.Hasher.finish
    g.met.K.Eq.laws g.met.K.Hash.respects_eq b w.begun.book key in (
      g.K.PartialEq.eq key,
      (hash_of g.K.Hash.hash_input g.S.BuildHasher.build_hasher g.S.Hasher.Hasher.write g.S.Hasher.Hasher.finish) b.hasher key,
      form g.K.PartialEq.eq g.K.Hash.hash_input g.S.BuildHasher.build_hasher g.S.Hasher.Hasher.write g.S.Hasher.Hasher.finish g.met.K.Eq.laws
          g.met.K.Hash.respects_eq b (g.K.PartialEq.eq key) (g.K.Hash.hash_input key) query (Some key) w.begun.book begun,
      Some key,
      begun,
      it.made,
      on,
    )

pub probe_on-requires-clause-can : goal.probe_on-requires-clause-can
probe_on-requires-clause-can g c =
    let hash = (hash_of g.K.Hash.hash_input g.S.BuildHasher.build_hasher g.S.Hasher.Hasher.write g.S.Hasher.Hasher.finish) in
    let w = c.answer.new.window.book.now in let b = begun_of w.parts in let answer = c.in-Some-answer.answer in
    let call = c.answer-in-Some-answer.new.self in let then = c.help.new.self in let log = c.help.new.window.sight.log in
    let x = record c.answer.new.self { writer = record c.answer.new.self.writer { call = call } } in
    let helped = record x { writer = record x.writer { call = then } } in
    let begin = c.requires.can in let key = begin.0 in let value = begin.1 in let begun = begin.2 in
    let u = c.loop.invariant.0 key value begun
    (subst (λ (z : Bor (BookOf _ _ _ _)). IsInserting g.K.PartialEq.eq hash (begun_of z.now.parts) z.now.begun.book key value begun
    c.args.window.now.sight.log c.args.begun) (sym c.loop.invariant.4.book) begin.3) in
    let on = subst (λ (z : Driver _ _ _ _). IsInserting g.K.PartialEq.eq hash b w.begun.book key value begun c.answer.new.window.sight.log
    (record c.answer.new.self { writer = record c.answer.new.self.writer { call = z } })) (sym c.answer-in-Some-answer.ensures.after)
    (subst (λ (z : Bor (BookOf _ _ _ _)). IsInserting g.K.PartialEq.eq hash (begun_of z.now.parts) z.now.begun.book key value begun
    c.answer.new.window.sight.log
    (record c.answer.new.self {
      writer = record c.answer.new.self.writer {
        call = record c.answer.new.self.writer.call { machine = after c.answer.new.self.writer.call.machine (answers.Call answer) };
      };
    })) (sym c.answer.ensures.sees.book) (c.in-Some-answer.ensures.inserts key value begun u).0) in
    let query = own_query g.K.PartialEq.eq g.K.Hash.hash_input g.S.BuildHasher.build_hasher g.S.Hasher.Hasher.write g.S.Hasher.Hasher.finish
    g.met.K.Eq.laws g.met.K.Hash.respects_eq b w.begun.book key in
    let driven = c.help.ensures.goes_on (g.K.PartialEq.eq key) (hash b.hasher key)
    (form g.K.PartialEq.eq g.K.Hash.hash_input g.S.BuildHasher.build_hasher g.S.Hasher.Hasher.write g.S.Hasher.Hasher.finish g.met.K.Eq.laws
    g.met.K.Hash.respects_eq b (g.K.PartialEq.eq key) (g.K.Hash.hash_input key) query (Some key) w.begun.book begun) (Some key) begun on.made
    on.writing.calling in
    let went = inserting_helped g.K.PartialEq.eq g.K.Hash.hash_input g.S.BuildHasher.build_hasher g.S.Hasher.Hasher.write
    g.S.Hasher.Hasher.finish g.met.K.Eq.laws g.met.K.Hash.respects_eq b w.begun.book key value begun c.answer.new.window.sight.log log
    c.help.ensures.helps.sees.log x on then driven c.help.ensures.rest.1 c.help.ensures.helps.calling
    (λ e. let s = c.help.ensures.still e in (s.0, ap (λ (z : Window _ _ _ _ _). z.sight.log) s.1)) c.help.ensures.helps.helped in
    let writes = subst (λ (z : Bor (BookOf _ _ _ _)). IsWriting g.K.PartialEq.eq hash (begun_of z.now.parts) z.now.begun.book key went.made begun
    log helped.writer) (sym c.help.ensures.helps.sees.book) went.writing in
    (key, went.made, begun, writes)

pub loop-preserved : goal.loop-preserved
loop-preserved g c =
    let hash = (hash_of g.K.Hash.hash_input g.S.BuildHasher.build_hasher g.S.Hasher.Hasher.write g.S.Hasher.Hasher.finish) in
    let w = c.answer.new.window.book.now in let b = begun_of w.parts in let answer = c.in-Some-answer.answer in
    let call = c.answer-in-Some-answer.new.self in let then = c.help.new.self in let log = c.help.new.window.sight.log in
    let x = record c.answer.new.self { writer = record c.answer.new.self.writer { call = call } } in
    let helped = record x { writer = record x.writer { call = then } } in
    let m = c.loop.insertion.writer.call.machine in let writer = c.probe_on.new.self in let seen = c.probe_on.new.window in
    let same : call.machine ≡ after m (answers.Call answer) = ap (λ (z : Driver _ _ _ _). z.machine) c.answer-in-Some-answer.ensures.after
    ∙ ap (λ (z : Machine). after z (answers.Call answer)) c.answer.ensures.machine in
    let does = does_on m c.loop.invariant.2 answer c.args.window.now c.loop.window c.answer.new.window c.loop.invariant.5 c.in-Some-answer.ensures.answers in
    let does_call = subst (λ (z : Machine). Does (has_changed z) c.args.window.now c.answer.new.window) (sym same) does in
    let does_help = helped_does call.machine then.machine (tables_of log) then.copier.given.done c.help.ensures.helps.calling c.help.ensures.helps.helped c.args.window.now
    c.answer.new.window c.help.new.window (λ e. (c.help.ensures.still e).1) c.help.ensures.helps.own does_call in (
      (λ key value begun r.
          let u = c.loop.invariant.0 key value begun
          (subst (λ (z : Bor (BookOf _ _ _ _)). IsInserting g.K.PartialEq.eq hash (begun_of z.now.parts) z.now.begun.book key value begun
          c.args.window.now.sight.log c.args.begun) (c.probe_on.ensures.over.sees.book ∙ (c.help.ensures.helps.sees.book ∙ c.answer.ensures.sees.book)) r) in
          let on = subst (λ (z : Driver _ _ _ _). IsInserting g.K.PartialEq.eq hash b w.begun.book key value begun c.answer.new.window.sight.log
          (record c.answer.new.self { writer = record c.answer.new.self.writer { call = z } })) (sym c.answer-in-Some-answer.ensures.after)
          (subst (λ (z : Bor (BookOf _ _ _ _)). IsInserting g.K.PartialEq.eq hash (begun_of z.now.parts) z.now.begun.book key value begun
          c.answer.new.window.sight.log
          (record c.answer.new.self {
            writer = record c.answer.new.self.writer {
              call = record c.answer.new.self.writer.call { machine = after c.answer.new.self.writer.call.machine (answers.Call answer) };
            };
          })) (sym c.answer.ensures.sees.book) (c.in-Some-answer.ensures.inserts key value begun u).0) in
          let query = own_query g.K.PartialEq.eq g.K.Hash.hash_input g.S.BuildHasher.build_hasher g.S.Hasher.Hasher.write g.S.Hasher.Hasher.finish
          g.met.K.Eq.laws g.met.K.Hash.respects_eq b w.begun.book key in
          let driven = c.help.ensures.goes_on (g.K.PartialEq.eq key) (hash b.hasher key)
          (form g.K.PartialEq.eq g.K.Hash.hash_input g.S.BuildHasher.build_hasher g.S.Hasher.Hasher.write g.S.Hasher.Hasher.finish g.met.K.Eq.laws
          g.met.K.Hash.respects_eq b (g.K.PartialEq.eq key) (g.K.Hash.hash_input key) query (Some key) w.begun.book begun) (Some key) begun on.made
          on.writing.calling in
          let went = inserting_helped g.K.PartialEq.eq g.K.Hash.hash_input g.S.BuildHasher.build_hasher g.S.Hasher.Hasher.write
          g.S.Hasher.Hasher.finish g.met.K.Eq.laws g.met.K.Hash.respects_eq b w.begun.book key value begun c.answer.new.window.sight.log log
          c.help.ensures.helps.sees.log x on then driven c.help.ensures.rest.1 c.help.ensures.helps.calling
          (λ e. let s = c.help.ensures.still e in (s.0, ap (λ (z : Window _ _ _ _ _). z.sight.log) s.1)) c.help.ensures.helps.helped in
          let writes = subst (λ (z : Bor (BookOf _ _ _ _)). IsWriting g.K.PartialEq.eq hash (begun_of z.now.parts) z.now.begun.book key went.made begun
          log helped.writer) (sym c.help.ensures.helps.sees.book) went.writing in
          let wrote = subst (λ (z : Bor (BookOf _ _ _ _)). IsWriting g.K.PartialEq.eq hash (begun_of z.now.parts) z.now.begun.book key went.made begun
          seen.sight.log writer) c.help.ensures.helps.sees.book (c.probe_on.ensures.looks key went.made begun writes) in
          let looked = inserting_looked g.K.PartialEq.eq g.K.Hash.hash_input g.S.BuildHasher.build_hasher g.S.Hasher.Hasher.write
          g.S.Hasher.Hasher.finish g.met.K.Eq.laws g.met.K.Hash.respects_eq b w.begun.book key begun value log seen.sight.log
          c.probe_on.ensures.over.sees.log helped went c.help.new.window seen writer.call c.probe_on.ensures.over.looked refl refl wrote.calling in
          let there = subst (λ (z : Writer _ _ _ _). IsInserting g.K.PartialEq.eq hash b w.begun.book key value begun seen.sight.log
          (record helped { writer = z })) (sym c.probe_on.ensures.rest) looked in
          subst (λ (z : Bor (BookOf _ _ _ _)). IsInserting g.K.PartialEq.eq hash (begun_of z.now.parts) z.now.begun.book key value begun
          seen.sight.log (record helped { writer = writer })) (sym (c.probe_on.ensures.over.sees.book ∙ c.help.ensures.helps.sees.book)) there),
      c.probe_on.ensures.over.valid,
      looked_calling c.help.new.window seen then writer.call c.probe_on.ensures.over.looked c.help.ensures.helps.calling,
      looked_initial c.help.new.window seen then writer.call c.probe_on.ensures.over.looked
          ∙ ((helped_keeps call.machine then.machine (tables_of log) then.copier.given.done c.help.ensures.helps.helped).initial
          ∙ (ap (λ (z : Machine). z.call.initial) same ∙ ((own_settings m c.loop.invariant.2 answer).0 ∙ c.loop.invariant.3))),
      sees_trans _ _ _ (sees_trans _ _ _ (sees_trans _ _ _ c.loop.invariant.4 c.answer.ensures.sees) c.help.ensures.helps.sees) c.probe_on.ensures.over.sees,
      looked_does c.help.new.window seen then writer.call c.probe_on.ensures.over.looked c.args.window.now c.probe_on.ensures.over.own does_help,
    )

pub replied-requires-clause-can : goal.replied-requires-clause-can
replied-requires-clause-can g c =
    let begin = c.requires.can in let key = begin.0 in let value = begin.1 in let begun = begin.2 in
    let u = c.loop.invariant.0 key value begun
    (subst (λ (z : Bor (BookOf _ _ _ _)). IsInserting g.K.PartialEq.eq
    (hash_of g.K.Hash.hash_input g.S.BuildHasher.build_hasher g.S.Hasher.Hasher.write g.S.Hasher.Hasher.finish) (begun_of z.now.parts)
    z.now.begun.book key value begun c.args.window.now.sight.log c.args.begun) (sym c.loop.invariant.4.book) begin.3) in
    rw c.answer.ensures.sees.book (key, value, begun, (c.in-None-answer.ensures.inserts key value begun u).0)

pub replied-requires-clause-done : goal.replied-requires-clause-done
replied-requires-clause-done g c =
    let begin = c.requires.can in let key = begin.0 in let value = begin.1 in let begun = begin.2 in
    let u = c.loop.invariant.0 key value begun
    (subst (λ (z : Bor (BookOf _ _ _ _)). IsInserting g.K.PartialEq.eq
    (hash_of g.K.Hash.hash_input g.S.BuildHasher.build_hasher g.S.Hasher.Hasher.write g.S.Hasher.Hasher.finish) (begun_of z.now.parts)
    z.now.begun.book key value begun c.args.window.now.sight.log c.args.begun) (sym c.loop.invariant.4.book) begin.3) in
    (c.in-None-answer.ensures.inserts key value begun u).1

pub returns-in-None-answer-clause-put : goal.returns-in-None-answer-clause-put
returns-in-None-answer-clause-put g c =
    if_ok _ _ c.replied.result c.replied.ensures.put (λ a h key value begun r.
    let u = c.loop.invariant.0 key value begun
    (subst (λ (z : Bor (BookOf _ _ _ _)). IsInserting g.K.PartialEq.eq
    (hash_of g.K.Hash.hash_input g.S.BuildHasher.build_hasher g.S.Hasher.Hasher.write g.S.Hasher.Hasher.finish) (begun_of z.now.parts)
    z.now.begun.book key value begun c.args.window.now.sight.log c.args.begun) (sym c.loop.invariant.4.book) r) in
    h key value begun (rw c.answer.ensures.sees.book (c.in-None-answer.ensures.inserts key value begun u).0))

pub returns-in-None-answer-clause-ends : goal.returns-in-None-answer-clause-ends
returns-in-None-answer-clause-ends g c = record {
  sees = sees_trans _ _ _ c.loop.invariant.4 c.answer.ensures.sees;
  lawful =
      let begin = c.requires.can in let key = begin.0 in let value = begin.1 in let begun = begin.2 in
      let u = c.loop.invariant.0 key value begun
      (subst (λ (z : Bor (BookOf _ _ _ _)). IsInserting g.K.PartialEq.eq
      (hash_of g.K.Hash.hash_input g.S.BuildHasher.build_hasher g.S.Hasher.Hasher.write g.S.Hasher.Hasher.finish) (begun_of z.now.parts)
      z.now.begun.book key value begun c.args.window.now.sight.log c.args.begun) (sym c.loop.invariant.4.book) begin.3) in
      rw c.answer.ensures.sees.book (c.in-None-answer.ensures.inserts key value begun u).0.writing.calling.lawful;
  made =
      let begin = c.requires.can in let key = begin.0 in let value = begin.1 in let begun = begin.2 in
      let u = c.loop.invariant.0 key value begun
      (subst (λ (z : Bor (BookOf _ _ _ _)). IsInserting g.K.PartialEq.eq
      (hash_of g.K.Hash.hash_input g.S.BuildHasher.build_hasher g.S.Hasher.Hasher.write g.S.Hasher.Hasher.finish) (begun_of z.now.parts)
      z.now.begun.book key value begun c.args.window.now.sight.log c.args.begun) (sym c.loop.invariant.4.book) begin.3) in
      let r = (c.in-None-answer.ensures.inserts key value begun u).0 in let call = c.answer.new.self.writer.call in
      let does = does_still c.loop.insertion.writer.call.machine c.args.window.now c.loop.window c.answer.new.window c.loop.invariant.5
      c.in-None-answer.ensures.answers in
      rw c.replied.ensures.changed (makes g.K.PartialEq.eq (Some key) begun call.taken call.put call.machine c.args.window.now c.answer.new.window
      r.writing.calling.changed (rw c.answer.ensures.machine does));
}

pub returns-in-None-answer-clause-tells : goal.returns-in-None-answer-clause-tells
returns-in-None-answer-clause-tells g c = record {
  crowded = λ e.
      let begin = c.requires.can in let key = begin.0 in let value = begin.1 in let begun = begin.2 in
      let u = c.loop.invariant.0 key value begun
      (subst (λ (z : Bor (BookOf _ _ _ _)). IsInserting g.K.PartialEq.eq
      (hash_of g.K.Hash.hash_input g.S.BuildHasher.build_hasher g.S.Hasher.Hasher.write g.S.Hasher.Hasher.finish) (begun_of z.now.parts)
      z.now.begun.book key value begun c.args.window.now.sight.log c.args.begun) (sym c.loop.invariant.4.book) begin.3) in
      let r = (c.in-None-answer.ensures.inserts key value begun u).0 in
      let refused = subst (λ (z : _). IfErr z (λ cause. ask_of c.answer.new.self.writer.call.machine ≡ Call (Done (Refused cause)))) e
      c.replied.ensures.refusal in
      let initial : c.answer.new.self.writer.call.machine.call.initial ≡ c.args.begun.writer.call.machine.call.initial = ap
      (λ (z : Machine). z.call.initial) c.answer.ensures.machine ∙ c.loop.invariant.3 in
      rw c.again.ensures (subst (λ n. HasNoRoom n (tables_of c.answer.new.window.sight.log) c.answer.new.self.writer.call.copier.given.done) initial (r.crowded refused));
  spent = λ e.
      let begin = c.requires.can in let key = begin.0 in let value = begin.1 in let begun = begin.2 in
      let u = c.loop.invariant.0 key value begun
      (subst (λ (z : Bor (BookOf _ _ _ _)). IsInserting g.K.PartialEq.eq
      (hash_of g.K.Hash.hash_input g.S.BuildHasher.build_hasher g.S.Hasher.Hasher.write g.S.Hasher.Hasher.finish) (begun_of z.now.parts)
      z.now.begun.book key value begun c.args.window.now.sight.log c.args.begun) (sym c.loop.invariant.4.book) begin.3) in
      let r = (c.in-None-answer.ensures.inserts key value begun u).0 in
      let refused = subst (λ (z : _). IfErr z (λ cause. ask_of c.answer.new.self.writer.call.machine ≡ Call (Done (Refused cause)))) e
      c.replied.ensures.refusal in
      rw c.answer.ensures.sees.book (r.spent refused);
}
