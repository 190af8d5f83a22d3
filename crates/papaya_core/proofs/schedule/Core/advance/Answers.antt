use Rattle.std.proofs.Common.{◌≡◌, List, None, refl, sym, ap, subst, ◌∙◌}
use Rattle.papaya_call.specs.Answers.{Says}
use Rattle.papaya_core_timeline.specs.declared.seat.Seat.{Seat}
use Rattle.papaya_core_timeline.specs.Callers.{scanner_in, scanning, with_work}
use Rattle.papaya_core_timeline.specs.Core.{CoreState}
use Rattle.papaya_core_timeline.specs.Kept.{IsLawfulCore}
use Rattle.papaya_words_keys.specs.Hashes.{hash_of}
use Rattle.papaya_core_timeline.proofs.CallersLemmas.{with_work-twice}
use Rattle.papaya_core_timeline.specs.Outcomes.{AnswersWalk, as_reply}
use Rattle.papaya_core.proofs.LimitMet.{spent_refuses}
use Rattle.papaya_core.proofs.LimitRefusals.{refused_spent}
use Rattle.papaya_core.proofs.Steps.{IsSound, work_sound, work_stands}
use Rattle.papaya_core.proofs.schedule.Core.advance.Goals as goal
use Rattle.papaya_core.proofs.schedule.Core.advance.Goals.{After-put}
use Rattle.papaya_core.proofs.schedule.Core.advance.Given.{Over}

-- the results of the closures' answers
abbrev says : (g : Over) → Says g.row.K.Denot g.row.V.Denot g.row.A.Denot
says g = record { op = g.A.Answers.op_gives; yes = g.A.Answers.yes_gives }

-- the work under way was valid
pub advance_work-event-requires-clause-valid : goal.advance_work-event-requires-clause-valid
advance_work-event-requires-clause-valid g c = work_stands g.K.PartialEq.eq g.K.Hash.hash_input g.S.BuildHasher.build_hasher
    g.S.Hasher.Hasher.write g.S.Hasher.Hasher.finish g.met.K.Eq.laws g.met.K.Hash.respects_eq (says g)
    (record { store = c.self.inside.store; callers = c.self.inside.callers; mode = c.self.inside.mode; initial = c.self.inside.initial })
    c.self.invariant.0 c.args.caller c.take-work.result c.take-work.ensures.call

-- the callers after it: one has the continued work under way
callers_are : (g : Over) (c : After-put g) → c.put.new.self ≡ with_work c.self.inside.callers c.args.caller c.advance_work-event.result.2
callers_are g c =
    c.put.ensures ∙ ap (λ (y : List (Seat _ _ _)). with_work y c.args.caller c.advance_work-event.result.2) c.take-work.ensures.taken
    ∙ with_work-twice c.self.inside.callers c.args.caller None c.advance_work-event.result.2

-- the step is sound
sound : (g : Over) (c : After-put g) → IsSound g.K.PartialEq.eq g.K.Hash.hash_input g.S.BuildHasher.build_hasher g.S.Hasher.Hasher.write
    g.S.Hasher.Hasher.finish g.met.K.Eq.laws g.met.K.Hash.respects_eq (says g) c.args.refuse c.args.self.now c.args.caller
    (record { store = c.advance_work-event.new.store; callers = c.put.new.self; mode = c.self.inside.mode; initial = c.self.inside.initial })
    c.advance_work-event.result.0 (as_reply c.advance_work-event.result.1)
sound g c =
    subst (λ s. IsSound g.K.PartialEq.eq g.K.Hash.hash_input g.S.BuildHasher.build_hasher g.S.Hasher.Hasher.write g.S.Hasher.Hasher.finish
    g.met.K.Eq.laws g.met.K.Hash.respects_eq (says g) c.args.refuse s c.args.caller
    (record { store = c.advance_work-event.new.store; callers = c.put.new.self; mode = c.self.inside.mode; initial = c.self.inside.initial })
    c.advance_work-event.result.0 (as_reply c.advance_work-event.result.1)) c.self.view_is
    (work_sound g.K.PartialEq.eq g.K.Hash.hash_input g.S.BuildHasher.build_hasher g.S.Hasher.Hasher.write g.S.Hasher.Hasher.finish g.met.K.Eq.laws
    g.met.K.Hash.respects_eq (says g) c.args.refuse
    (record { store = c.self.inside.store; callers = c.self.inside.callers; mode = c.self.inside.mode; initial = c.self.inside.initial })
    c.args.caller (record {
      store = c.advance_work-event.new.store;
      callers = c.put.new.self;
      mode = c.self.inside.mode;
      initial = c.self.inside.initial;
    }) c.advance_work-event.result.0 (as_reply c.advance_work-event.result.1)
    c.self.invariant.0 c.self.invariant.1 c.advance_work-event.result.2 (callers_are g c) refl refl c.take-work.result c.take-work.ensures.call
    c.advance_work-event.ensures.goes)

pub invariant_of-self : goal.invariant_of-self
invariant_of-self g c = let x = sound g (goal.at.invariant_of-self g c).After-put in (x.lawful, x.counted, c.self.invariant.2)

pub returns-clause-steps : goal.returns-clause-steps
returns-clause-steps g c = (sound g (goal.at.returns-clause-steps g c).After-put).steps

-- an entry that the iteration returns is one of the work that was under way
pub returns-clause-walked : goal.returns-clause-walked
returns-clause-walked g c =
    subst (λ (s : CoreState _ _ _ _). AnswersWalk (scanning s.callers c.args.caller) c.advance_work-event.result.1) c.self.view_is
    (subst (λ o. AnswersWalk (scanner_in o) c.advance_work-event.result.1) (sym c.take-work.ensures.call) c.advance_work-event.ensures.walked)

pub returns-clause-moves : goal.returns-clause-moves
returns-clause-moves g c = (sound g (goal.at.returns-clause-moves g c).After-put).moves

pub returns-clause-intents : goal.returns-clause-intents
returns-clause-intents g c = (sound g (goal.at.returns-clause-intents g c).After-put).intents

pub returns-clause-keeps : goal.returns-clause-keeps
returns-clause-keeps g c = (sound g (goal.at.returns-clause-keeps g c).After-put).keeps

pub returns-clause-shard : goal.returns-clause-shard
returns-clause-shard g c = (sound g (goal.at.returns-clause-shard g c).After-put).shard

pub returns-clause-counted : goal.returns-clause-counted
returns-clause-counted g c = (sound g (goal.at.returns-clause-counted g c).After-put).counted

-- the core after the step
abbrev core_after : (g : Over) → After-put g → CoreState g.row.K.Denot g.row.V.Denot g.row.S.Denot g.row.A.Denot
core_after g c = record { store = c.advance_work-event.new.store; callers = c.put.new.self; mode = c.self.inside.mode; initial = c.self.inside.initial }

-- the core before the step is lawful, as its fields are
lawful_before : (g : Over) (c : After-put g)
    → IsLawfulCore g.K.PartialEq.eq (hash_of g.K.Hash.hash_input g.S.BuildHasher.build_hasher g.S.Hasher.Hasher.write g.S.Hasher.Hasher.finish
    c.args.self.now.store.hasher) c.args.self.now.store c.args.self.now.callers c.args.self.now.mode
lawful_before g c = subst (λ (s : CoreState _ _ _ _).
    IsLawfulCore g.K.PartialEq.eq (hash_of g.K.Hash.hash_input g.S.BuildHasher.build_hasher g.S.Hasher.Hasher.write g.S.Hasher.Hasher.finish
    s.store.hasher) s.store s.callers s.mode) c.self.view_is c.self.invariant.0

pub returns-clause-limit : goal.returns-clause-limit
returns-clause-limit g c e =
    let at = (goal.at.returns-clause-limit g c).After-put in
    refused_spent g.K.PartialEq.eq (says g) (hash_of g.K.Hash.hash_input g.S.BuildHasher.build_hasher g.S.Hasher.Hasher.write
    g.S.Hasher.Hasher.finish) c.args.refuse c.args.self.now c.args.caller (core_after g at) at.advance_work-event.result.0
    (as_reply at.advance_work-event.result.1) (lawful_before g at) e (sound g at).steps

pub returns-clause-spent : goal.returns-clause-spent
returns-clause-spent g c needs spent =
    let at = (goal.at.returns-clause-spent g c).After-put in
    spent_refuses g.K.PartialEq.eq (says g) (hash_of g.K.Hash.hash_input g.S.BuildHasher.build_hasher g.S.Hasher.Hasher.write
    g.S.Hasher.Hasher.finish) c.args.refuse c.args.self.now c.args.caller (core_after g at) at.advance_work-event.result.0
    (as_reply at.advance_work-event.result.1) (lawful_before g at) (sound g at).steps needs spent
