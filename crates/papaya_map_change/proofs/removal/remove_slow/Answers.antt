use Rattle.std.proofs.Common.{◌≡◌, None, [], refl, sym, ap, ◌∙◌, subst}
use Rattle.papaya_call.specs.declared.call.Task.TheVariants.{RemoveIf}
use Rattle.papaya_call.specs.declared.ask.Ask.TheVariants.{Done}
use Rattle.papaya_words.specs.declared.refused.Refused.TheVariants.{Capacity}
use Rattle.papaya_call.specs.declared.chain.ask.Answer.TheVariants as answers
use Rattle.papaya_call.specs.declared.chain.ask.Ask.TheVariants.{Call}
use Rattle.papaya_call.specs.declared.chain.machine.Machine.{Machine}
use Rattle.papaya_call.specs.ChainMachine.{after, started}
use Rattle.papaya_map_book.specs.Limits.{HasNoRoom, tables_of}
use Rattle.papaya_map_change.specs.declared.driver.Driver.{Driver}
use Rattle.papaya_map_change.specs.Changing.{IsDriven}
use Rattle.papaya_map_change.specs.Removing.{IsRemoving}
use denote.Bor.{Bor}
use Rattle.papaya_map_book.specs.declared.book.Book.{Book as BookOf}
use Rattle.papaya_map_change.proofs.Changing.{form}
use Rattle.papaya_map_change.proofs.Helped.{helped_does, helped_keeps}
use Rattle.papaya_map_change.proofs.StepsOfOwn.{own_settings}
use Rattle.papaya_map_change.proofs.RemovingHelped.{removing_helped}
use Rattle.papaya_map_lookup.proofs.Readings.{IsQuery}
use Rattle.papaya_map_book.specs.Hashes.{hash_of}
use Rattle.papaya_map_book.specs.Parts.{begun_of}
use Rattle.papaya_map_book.specs.Windows.{Does}
use Rattle.papaya_map_change.specs.Doing.{has_changed}
use Rattle.papaya_map_change.specs.ClosureCalls.{Judges}
use Rattle.papaya_map_change.proofs.Doing.{does_on, does_still, idles, makes, replied}
use Rattle.papaya_map_lookup.proofs.Histories.{history_since}
use Rattle.papaya_map_book.proofs.Windows.{observed, sees_trans}
use Rattle.papaya_map_change.proofs.RemovingReplies.{answered, begins, can_tell, removal_since, told_refused, told_went}
use Rattle.papaya_map_change.proofs.removal.remove_slow.Goals as goal

pub new-requires-clause-chunked : goal.new-requires-clause-chunked
new-requires-clause-chunked g c = c.learn.new.self.book.now.chunked

pub loop-init : goal.loop-init
loop-init g c =
    let w = c.learn.new.self.book.now in let log = c.learn.new.self.sight.log in
    let fed = hash_of g.Q.Hash.hash_input g.S.BuildHasher.build_hasher g.S.Hasher.Hasher.write g.S.Hasher.Hasher.finish w.parts.hasher c.args.key.now in
    let machine = c.new.ensures.machine ∙ ap (λ h. started RemoveIf h w.parts.mode c.args.means.now.initial 0 w.parts.limit) c.hash.ensures in (
      (
        log,
        c.learn.ensures.sees.log,
        begins g.K.PartialEq.eq (hash_of g.K.Hash.hash_input g.S.BuildHasher.build_hasher g.S.Hasher.Hasher.write g.S.Hasher.Hasher.finish)
            (begun_of w.parts) w.begun.book (g.Q.Equivalent.matches c.args.key.now) fed (Judges g.F.FnMut) c.args.agrees log _ c.learn.ensures.lawful
            c.args.means.now.initial machine c.new.ensures.empty.table c.new.ensures.empty.pairs refl,
      ),
      c.new.ensures.valid,
      ap (λ (m : Machine). m.phase) machine,
      ap (λ (m : Machine). m.call.initial) machine,
      observed c.learn.ensures.sees,
      c.requires.callable,
      subst (λ (m : Machine). Does (has_changed m) c.args.window.now c.learn.new.self) (sym machine)
          (idles c.args.window.now c.learn.new.self c.learn.ensures.sees.own),
    )

pub answer-requires-clause-open : goal.answer-requires-clause-open
answer-requires-clause-open g c = rw c.loop.invariant.4.book c.requires.open

pub answer-requires-in-Some-answer-clause-fit : goal.answer-requires-in-Some-answer-clause-fit
answer-requires-in-Some-answer-clause-fit g c = let u = c.loop.invariant.0 in (c.in-Some-answer.ensures.removes c.args.agrees u.0 u.2).1

pub help-requires-clause-can : goal.help-requires-clause-can
help-requires-clause-can g c =
    let u = c.loop.invariant.0 in let w = c.answer.new.window.book.now in let b = begun_of w.parts in
    let lawful : IsQuery g.K.PartialEq.eq g.K.Hash.hash_input (g.Q.Equivalent.matches c.args.key.now)
    (g.Q.Hash.hash_input c.args.key.now) = record {
      feeds = g.met.Q.Equivalent.hashes_as_key c.args.key.now;
      class = λ k l.
          g.met.Q.Equivalent.matches_equal_keys c.args.key.now k l;
    } in
    let matches = g.Q.Equivalent.matches c.args.key.now in let old = c.answer.new.window.sight.log in
    let on = subst (λ (z : Driver _ _ _ _). IsDriven g.K.PartialEq.eq
    (hash_of g.K.Hash.hash_input g.S.BuildHasher.build_hasher g.S.Hasher.Hasher.write g.S.Hasher.Hasher.finish) b w.begun.book matches
    (hash_of g.Q.Hash.hash_input g.S.BuildHasher.build_hasher g.S.Hasher.Hasher.write g.S.Hasher.Hasher.finish w.parts.hasher c.args.key.now) None
    u.0 old [] z) (sym c.answer-in-Some-answer.ensures.after)
    (subst (λ (z : Bor (BookOf _ _ _ _)). IsRemoving g.K.PartialEq.eq
    (hash_of g.K.Hash.hash_input g.S.BuildHasher.build_hasher g.S.Hasher.Hasher.write g.S.Hasher.Hasher.finish) (begun_of z.now.parts)
    z.now.begun.book matches (hash_of g.Q.Hash.hash_input g.S.BuildHasher.build_hasher g.S.Hasher.Hasher.write g.S.Hasher.Hasher.finish
    z.now.parts.hasher c.args.key.now) (Judges g.F.FnMut) c.args.agrees u.0 old
    (record c.answer.new.self {
      call = record c.answer.new.self.call {
        machine = after c.answer.new.self.call.machine
            (answers.Call c.in-Some-answer.answer);
      };
    }) c.answer.new.agrees) (sym c.answer.ensures.sees.book)
    (c.in-Some-answer.ensures.removes c.args.agrees u.0 u.2).0).calling in (
      g.Q.Equivalent.matches c.args.key.now,
      hash_of g.Q.Hash.hash_input g.S.BuildHasher.build_hasher g.S.Hasher.Hasher.write g.S.Hasher.Hasher.finish
          w.parts.hasher c.args.key.now,
      (form g.K.PartialEq.eq g.K.Hash.hash_input g.S.BuildHasher.build_hasher g.S.Hasher.Hasher.write
          g.S.Hasher.Hasher.finish g.met.K.Eq.laws g.met.K.Hash.respects_eq b (g.Q.Equivalent.matches c.args.key.now) (g.Q.Hash.hash_input c.args.key.now)
          lawful None w.begun.book u.0),
      None,
      u.0,
      [],
      on,
    )

pub loop-preserved : goal.loop-preserved
loop-preserved g c =
    let u = c.loop.invariant.0 in let w = c.answer.new.window.book.now in let b = begun_of w.parts in
    let lawful : IsQuery g.K.PartialEq.eq g.K.Hash.hash_input (g.Q.Equivalent.matches c.args.key.now)
    (g.Q.Hash.hash_input c.args.key.now) = record {
      feeds = g.met.Q.Equivalent.hashes_as_key c.args.key.now;
      class = λ k l.
          g.met.Q.Equivalent.matches_equal_keys c.args.key.now k l;
    } in
    let fed = hash_of g.Q.Hash.hash_input g.S.BuildHasher.build_hasher g.S.Hasher.Hasher.write g.S.Hasher.Hasher.finish w.parts.hasher c.args.key.now in
    let answer = c.in-Some-answer.answer in let m = c.loop.removal.call.machine in let call = c.answer-in-Some-answer.new.self in let then = c.help.new.self in
    let old = c.answer.new.window.sight.log in let log = c.help.new.window.sight.log in let matches = g.Q.Equivalent.matches c.args.key.now in
    let x = record c.answer.new.self { call = call } in
    let on = subst (λ (z : Driver _ _ _ _). IsRemoving g.K.PartialEq.eq
    (hash_of g.K.Hash.hash_input g.S.BuildHasher.build_hasher g.S.Hasher.Hasher.write g.S.Hasher.Hasher.finish) b w.begun.book matches fed
    (Judges g.F.FnMut) c.args.agrees u.0 old (record c.answer.new.self { call = z }) c.answer.new.agrees) (sym c.answer-in-Some-answer.ensures.after)
    (subst (λ (z : Bor (BookOf _ _ _ _)). IsRemoving g.K.PartialEq.eq
    (hash_of g.K.Hash.hash_input g.S.BuildHasher.build_hasher g.S.Hasher.Hasher.write g.S.Hasher.Hasher.finish) (begun_of z.now.parts)
    z.now.begun.book matches (hash_of g.Q.Hash.hash_input g.S.BuildHasher.build_hasher g.S.Hasher.Hasher.write g.S.Hasher.Hasher.finish
    z.now.parts.hasher c.args.key.now) (Judges g.F.FnMut) c.args.agrees u.0 old
    (record c.answer.new.self { call = record c.answer.new.self.call { machine = after c.answer.new.self.call.machine (answers.Call answer) } })
    c.answer.new.agrees) (sym c.answer.ensures.sees.book) (c.in-Some-answer.ensures.removes c.args.agrees u.0 u.2).0) in
    let driven = c.help.ensures.goes_on matches fed
    (form g.K.PartialEq.eq g.K.Hash.hash_input g.S.BuildHasher.build_hasher g.S.Hasher.Hasher.write g.S.Hasher.Hasher.finish g.met.K.Eq.laws
    g.met.K.Hash.respects_eq b (g.Q.Equivalent.matches c.args.key.now) (g.Q.Hash.hash_input c.args.key.now) lawful None w.begun.book u.0) None u.0
    [] on.calling in
    let went = removing_helped g.K.PartialEq.eq
    (hash_of g.K.Hash.hash_input g.S.BuildHasher.build_hasher g.S.Hasher.Hasher.write g.S.Hasher.Hasher.finish) b w.begun.book matches fed
    (Judges g.F.FnMut) c.args.agrees u.0 old log x c.answer.new.agrees on then c.help.ensures.helps.sees.log driven c.help.ensures.helps.calling
    (λ e. (c.help.ensures.still e).0) c.help.ensures.helps.helped in
    let same : call.machine ≡ after m (answers.Call answer) = ap (λ (z : Driver _ _ _ _). z.machine) c.answer-in-Some-answer.ensures.after
    ∙ ap (λ (z : Machine). after z (answers.Call answer)) c.answer.ensures.machine in
    let does = does_on m c.loop.invariant.2 answer c.args.window.now c.loop.window c.answer.new.window c.loop.invariant.6 c.in-Some-answer.ensures.answers in
    let does_call = subst (λ (z : Machine). Does (has_changed z) c.args.window.now c.answer.new.window) (sym same) does in (
      (
        u.0,
        u.1,
        subst (λ (z : Bor (BookOf _ _ _ _)).
            IsRemoving g.K.PartialEq.eq (hash_of g.K.Hash.hash_input g.S.BuildHasher.build_hasher g.S.Hasher.Hasher.write g.S.Hasher.Hasher.finish)
            (begun_of z.now.parts) z.now.begun.book matches
            (hash_of g.Q.Hash.hash_input g.S.BuildHasher.build_hasher g.S.Hasher.Hasher.write g.S.Hasher.Hasher.finish z.now.parts.hasher c.args.key.now)
            (Judges g.F.FnMut) c.args.agrees u.0 log (record x { call = then }) c.answer.new.agrees) (sym c.help.ensures.helps.sees.book) went,
      ),
      c.help.ensures.helps.valid,
      c.help.ensures.helps.calling,
      (helped_keeps call.machine then.machine (tables_of log) then.copier.given.done c.help.ensures.helps.helped).initial
          ∙ (ap (λ (z : Machine). z.call.initial) same ∙ ((own_settings m c.loop.invariant.2 answer).0 ∙ c.loop.invariant.3)),
      sees_trans _ _ _ (sees_trans _ _ _ c.loop.invariant.4 c.answer.ensures.sees) c.help.ensures.helps.sees,
      c.answer.ensures.callable,
      helped_does call.machine then.machine (tables_of log) then.copier.given.done c.help.ensures.helps.calling c.help.ensures.helps.helped c.args.window.now
          c.answer.new.window c.help.new.window (λ e. (c.help.ensures.still e).1) c.help.ensures.helps.own does_call,
    )

pub replied-requires-clause-can : goal.replied-requires-clause-can
replied-requires-clause-can g c = let u = c.loop.invariant.0 in
    let w = c.loop.window.book.now in
    let lawful : IsQuery g.K.PartialEq.eq g.K.Hash.hash_input (g.Q.Equivalent.matches c.args.key.now)
    (g.Q.Hash.hash_input c.args.key.now) = record {
      feeds = g.met.Q.Equivalent.hashes_as_key c.args.key.now;
      class = λ k l.
          g.met.Q.Equivalent.matches_equal_keys c.args.key.now k l;
    } in
    rw c.answer.ensures.sees.book (can_tell g.K.PartialEq.eq g.K.Hash.hash_input g.S.BuildHasher.build_hasher g.S.Hasher.Hasher.write
    g.S.Hasher.Hasher.finish g.met.K.Eq.laws g.met.K.Hash.respects_eq (begun_of w.parts) w.begun.book (g.Q.Equivalent.matches c.args.key.now)
    (g.Q.Hash.hash_input c.args.key.now) lawful (Judges g.F.FnMut) c.args.agrees u.0 c.answer.new.window.sight.log c.answer.new.self
    c.answer.new.agrees (c.in-None-answer.ensures.removes c.args.agrees u.0 u.2).0)

pub replied-requires-clause-done : goal.replied-requires-clause-done
replied-requires-clause-done g c = let u = c.loop.invariant.0 in (c.in-None-answer.ensures.removes c.args.agrees u.0 u.2).1

pub returns-in-None-answer-clause-removed : goal.returns-in-None-answer-clause-removed
returns-in-None-answer-clause-removed g c =
    let u = c.loop.invariant.0 in let r = (c.in-None-answer.ensures.removes c.args.agrees u.0 u.2).0 in
    let w = c.loop.window.book.now in let t = c.replied.ensures.tells in
    let lawful : IsQuery g.K.PartialEq.eq g.K.Hash.hash_input (g.Q.Equivalent.matches c.args.key.now)
    (g.Q.Hash.hash_input c.args.key.now) = record {
      feeds = g.met.Q.Equivalent.hashes_as_key c.args.key.now;
      class = λ k l.
          g.met.Q.Equivalent.matches_equal_keys c.args.key.now k l;
    } in
    removal_since g.K.PartialEq.eq (g.Q.Equivalent.matches c.args.key.now) _ _ _ (history_since c.args.window.now.sight.log u.0 u.1)
    (Judges g.F.FnMut) c.args.agrees c.replied.result
    (answered g.K.PartialEq.eq g.K.Hash.hash_input g.S.BuildHasher.build_hasher g.S.Hasher.Hasher.write g.S.Hasher.Hasher.finish g.met.K.Eq.laws
    g.met.K.Hash.respects_eq (begun_of w.parts) w.begun.book (g.Q.Equivalent.matches c.args.key.now) (g.Q.Hash.hash_input c.args.key.now) lawful
    (Judges g.F.FnMut) c.args.agrees u.0 c.answer.new.window.sight.log c.answer.new.self c.answer.new.agrees r t.0 t.1 c.replied.result t.2)

pub returns-in-None-answer-clause-crowded : goal.returns-in-None-answer-clause-crowded
returns-in-None-answer-clause-crowded g c = λ e.
    let u = c.loop.invariant.0 in let r = (c.in-None-answer.ensures.removes c.args.agrees u.0 u.2).0 in
    let t = c.replied.ensures.tells in
    let refused = t.1 ∙ ap (λ z. Call (Done z)) (told_refused c.answer.new.self t.0 c.replied.result t.2 Capacity e) in
    let initial : c.answer.new.self.call.machine.call.initial ≡ c.args.means.now.initial = ap (λ (z : Machine). z.call.initial)
    c.answer.ensures.machine ∙ c.loop.invariant.3 in
    rw c.again.ensures (subst (λ n. HasNoRoom n (tables_of c.answer.new.window.sight.log) c.answer.new.self.call.copier.given.done) initial (r.crowded refused))

pub returns-in-None-answer-clause-ends : goal.returns-in-None-answer-clause-ends
returns-in-None-answer-clause-ends g c = record {
  sees = sees_trans _ _ _ c.loop.invariant.4 c.answer.ensures.sees;
  lawful = let u = c.loop.invariant.0 in
      rw c.answer.ensures.sees.book (c.in-None-answer.ensures.removes c.args.agrees u.0 u.2).0.calling.lawful;
  made =
      let u = c.loop.invariant.0 in let r = (c.in-None-answer.ensures.removes c.args.agrees u.0 u.2).0 in let call = c.answer.new.self.call in
      let does = does_still c.loop.removal.call.machine c.args.window.now c.loop.window c.answer.new.window c.loop.invariant.6 c.in-None-answer.ensures.answers in
      let t = c.replied.ensures.tells in
      let changed = told_went c.answer.new.self t.0 c.replied.result t.2 ∙ sym (replied call.machine t.0 t.1) in
      rw changed (makes g.K.PartialEq.eq None u.0 call.taken call.put call.machine c.args.window.now c.answer.new.window r.calling.changed
      (rw c.answer.ensures.machine does));
}
