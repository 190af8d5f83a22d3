use Rattle.std.proofs.Common.{◌≡◌, ℕ, [], ◌∷◌, ◌++◌, length, reverse, IfErr, sym, ◌∙◌, ap, subst, arith}
use Rattle.std.specs.List.{enumerate_from}
use Rattle.std.specs.Vec.Iter.{into_iter_items, into_iter_len, into_iter_steps}
use Rattle.std.specs.Iterator.Adapters.{enumerate_source, enumerate_count, enumerate_steps}
use Rattle.std.proofs.lemmas.List.{length_push}
use Rattle.std.proofs.lemmas.List.FromFn.{length-enumerate_from}
use Rattle.std.proofs.lemmas.Iterator.{YieldsList}
use Rattle.std.proofs.lemmas.Iterator.Adapters.{YieldsList-from_vec}
use Rattle.std.proofs.lemmas.Iterator.Consumers.{YieldsList-from_enumerate, YieldsList-turn, YieldsList-end}
use Rattle.std.proofs.lemmas.Result.{err_from_is_err_and}
use Rattle.papaya_words.specs.declared.refused.Refused.TheVariants.{Memory}
use Rattle.papaya_words_keys.specs.Hashes.{hash_of}
use Rattle.papaya_core_timeline.specs.Kept.{IsLawfulCore}
use Rattle.papaya_core_timeline.specs.Runs.{TurnsRun, StopsEarly}
use Rattle.papaya_core_timeline.proofs.HeadlineLemmas.{lawful_logs, lawful_stops, lawful_timeline}
use Rattle.papaya_core_timeline.proofs.RunLemmas.{numbered_item, TurnsRun-more, StopsEarly-at}
use Rattle.papaya_core.proofs.schedule.Core.run.Goals as goal
use Rattle.papaya_core.proofs.schedule.Core.run.Goals.{After-into_iter-turn-iterator, After-next}
use Rattle.papaya_core.proofs.schedule.Core.run.Given.{Over}

-- the loop takes the turns of the schedule with their numbers
turns : (g : Over) (c : After-into_iter-turn-iterator g)
    → YieldsList (enumerate_steps into_iter_steps) (λ p. (p.0, p.1)) c.into_iter-turn-iterator.result (enumerate_from 0 c.args.schedule.items)
turns g c =
    let same = c.into_iter-turn-iterator.ensures.into_iter_gives in
    let source = c.enumerate-turn-items.ensures.source in
    let len : into_iter_len c.into_iter.result ≡ length c.args.schedule.items = omega (arith, c.into_iter.ensures.len, c.args.schedule.ok.0) in
    YieldsList-from_enumerate {s = c.into_iter-turn-iterator.result}
    (YieldsList-from_vec {s = enumerate_source c.into_iter-turn-iterator.result} c.args.schedule.items
    (ap (λ it. into_iter_items (enumerate_source it)) same ∙ ap into_iter_items source ∙ c.into_iter.ensures.rest)
    (ap (λ it. into_iter_len (enumerate_source it)) same ∙ ap into_iter_len source ∙ len)) (ap enumerate_count same ∙ c.enumerate-turn-items.ensures.count)

pub loop-turn-preserved : goal.loop-turn-preserved
loop-turn-preserved g c =
    let t = YieldsList-turn (turns g (goal.at.loop-turn-preserved g c).After-into_iter-turn-iterator) c.loop-turn.yielded c.loop-turn.turn-iterator
    c.loop-turn.yielded_by c.next.result c.next.new.self (c.in-Some.turn, c.in-Some.what) c.in-Some.is c.next.ensures.steps in
    let there = numbered_item c.args.schedule.items (length c.loop-turn.yielded) (c.in-Some.turn, c.in-Some.what) t.0 t.1 in (
      TurnsRun-more g.K.PartialEq.eq (record { op = g.A.Answers.op_gives; yes = g.A.Answers.yes_gives })
          (hash_of g.K.Hash.hash_input g.S.BuildHasher.build_hasher g.S.Hasher.Hasher.write g.S.Hasher.Hasher.finish) c.args.schedule.items
          (length c.loop-turn.yielded) c.in-Some.turn (length (c.loop-turn.yielded ++ (c.in-Some.turn, c.in-Some.what) ∷ [])) c.in-Some.what
          c.args.self.now c.loop-turn.self (reverse c.loop-turn.entries.items) c.turn_into.new.self (reverse c.turn_into.new.entries.items)
          there.1 there.0 (let n = length_push c.loop-turn.yielded (c.in-Some.turn, c.in-Some.what) in omega arith) c.loop-turn.invariant.0
          c.in_ok-turn_into.ensures.ok,
      c.turn_into.ensures.counted c.loop-turn.invariant.1,
    )

pub returns-in_err-turn_into-clause-err : goal.returns-in_err-turn_into-clause-err
returns-in_err-turn_into-clause-err g c =
    let t = YieldsList-turn (turns g (goal.at.returns-in_err-turn_into-clause-err g c).After-into_iter-turn-iterator) c.loop-turn.yielded
    c.loop-turn.turn-iterator c.loop-turn.yielded_by c.next.result c.next.new.self (c.in-Some.turn, c.in-Some.what) c.in-Some.is c.next.ensures.steps in
    let there = numbered_item c.args.schedule.items (length c.loop-turn.yielded) (c.in-Some.turn, c.in-Some.what) t.0 t.1 in
    let err = c.in_err-turn_into.ensures.err in
    let stops = StopsEarly-at g.K.PartialEq.eq (record { op = g.A.Answers.op_gives; yes = g.A.Answers.yes_gives })
    (hash_of g.K.Hash.hash_input g.S.BuildHasher.build_hasher g.S.Hasher.Hasher.write g.S.Hasher.Hasher.finish) c.args.schedule.items
    (length c.loop-turn.yielded) c.in-Some.turn c.in-Some.what
    c.args.self.now c.loop-turn.self (reverse c.loop-turn.entries.items) c.turn_into.new.self there.1 there.0 c.loop-turn.invariant.0 err.1 in
    let (refused, is, gives) = err_from_is_err_and c.from_residual.result c.from_residual.ensures.1 in
    subst (λ r. IfErr r (λ e. (e ≡ Memory) × StopsEarly g.K.PartialEq.eq (record { op = g.A.Answers.op_gives; yes = g.A.Answers.yes_gives })
    (hash_of g.K.Hash.hash_input g.S.BuildHasher.build_hasher g.S.Hasher.Hasher.write g.S.Hasher.Hasher.finish) c.args.schedule.items
    c.args.self.now c.turn_into.new.self)) (sym is) (gives ∙ err.0, stops)

pub returns-clause-ok : goal.returns-clause-ok
returns-clause-ok g c =
    let t = YieldsList-end (turns g (goal.at.returns-clause-ok g c).After-into_iter-turn-iterator) c.loop-turn.yielded c.loop-turn.turn-iterator
    c.loop-turn.yielded_by c.next.result c.next.new.self c.in-None.is c.next.ensures.steps in
    let all : length c.loop-turn.yielded ≡ length c.args.schedule.items = t.1 ∙ length-enumerate_from 0 c.args.schedule.items in
    subst (λ (n : ℕ). TurnsRun g.K.PartialEq.eq (record { op = g.A.Answers.op_gives; yes = g.A.Answers.yes_gives })
    (hash_of g.K.Hash.hash_input g.S.BuildHasher.build_hasher g.S.Hasher.Hasher.write g.S.Hasher.Hasher.finish) c.args.schedule.items n
    c.args.self.now c.loop-turn.self (reverse c.loop-turn.entries.items)) all c.loop-turn.invariant.0

pub returns-clause-timeline : goal.returns-clause-timeline
returns-clause-timeline g c =
    lawful_timeline g.K.PartialEq.eq g.K.Hash.hash_input g.S.BuildHasher.build_hasher g.S.Hasher.Hasher.write g.S.Hasher.Hasher.finish g.met.K.Eq.laws
    g.met.K.Hash.respects_eq
    (record { op = g.A.Answers.op_gives; yes = g.A.Answers.yes_gives }) c.args.schedule.items (length c.loop-turn.yielded) c.args.self.now
    c.loop-turn.self (reverse c.loop-turn.entries.items)
    (subst (λ s. IsLawfulCore g.K.PartialEq.eq
    (hash_of g.K.Hash.hash_input g.S.BuildHasher.build_hasher g.S.Hasher.Hasher.write g.S.Hasher.Hasher.finish s.store.hasher) s.store s.callers
    s.mode) c.self.view_is c.self.invariant.0)
    c.loop-turn.invariant.0

pub returns-clause-keeps : goal.returns-clause-keeps
returns-clause-keeps g c =
    lawful_logs g.K.PartialEq.eq g.K.Hash.hash_input g.S.BuildHasher.build_hasher g.S.Hasher.Hasher.write g.S.Hasher.Hasher.finish g.met.K.Eq.laws
    g.met.K.Hash.respects_eq
    (record { op = g.A.Answers.op_gives; yes = g.A.Answers.yes_gives }) c.args.schedule.items (length c.loop-turn.yielded) c.args.self.now
    c.loop-turn.self (reverse c.loop-turn.entries.items)
    (subst (λ s. IsLawfulCore g.K.PartialEq.eq
    (hash_of g.K.Hash.hash_input g.S.BuildHasher.build_hasher g.S.Hasher.Hasher.write g.S.Hasher.Hasher.finish s.store.hasher) s.store s.callers
    s.mode) c.self.view_is c.self.invariant.0)
    c.loop-turn.invariant.0

pub returns-in_err-turn_into-clause-keeps : goal.returns-in_err-turn_into-clause-keeps
returns-in_err-turn_into-clause-keeps g c =
    let t = YieldsList-turn (turns g (goal.at.returns-in_err-turn_into-clause-keeps g c).After-into_iter-turn-iterator) c.loop-turn.yielded
    c.loop-turn.turn-iterator c.loop-turn.yielded_by c.next.result c.next.new.self (c.in-Some.turn, c.in-Some.what) c.in-Some.is c.next.ensures.steps in
    let there = numbered_item c.args.schedule.items (length c.loop-turn.yielded) (c.in-Some.turn, c.in-Some.what) t.0 t.1 in
    let stops = StopsEarly-at g.K.PartialEq.eq (record { op = g.A.Answers.op_gives; yes = g.A.Answers.yes_gives })
    (hash_of g.K.Hash.hash_input g.S.BuildHasher.build_hasher g.S.Hasher.Hasher.write g.S.Hasher.Hasher.finish) c.args.schedule.items
    (length c.loop-turn.yielded) c.in-Some.turn c.in-Some.what
    c.args.self.now c.loop-turn.self (reverse c.loop-turn.entries.items) c.turn_into.new.self there.1 there.0 c.loop-turn.invariant.0
    c.in_err-turn_into.ensures.err.1 in
    lawful_stops g.K.PartialEq.eq g.K.Hash.hash_input g.S.BuildHasher.build_hasher g.S.Hasher.Hasher.write g.S.Hasher.Hasher.finish g.met.K.Eq.laws
    g.met.K.Hash.respects_eq
    (record { op = g.A.Answers.op_gives; yes = g.A.Answers.yes_gives }) c.args.schedule.items c.args.self.now c.turn_into.new.self
    (subst (λ s. IsLawfulCore g.K.PartialEq.eq
    (hash_of g.K.Hash.hash_input g.S.BuildHasher.build_hasher g.S.Hasher.Hasher.write g.S.Hasher.Hasher.finish s.store.hasher) s.store s.callers
    s.mode) c.self.view_is c.self.invariant.0)
    stops
